-- The clauses of a formula under numbers that rise by one.
use Rattle.std.proofs.Common.{◌≡◌, ◌+◌, ◌<◌, ◌∷◌, ◌++◌, [], ℕ, ℤ, List, length, take, get_or, sym, ap, ◌∙◌, arith}
use Rattle.std.specs.List.{enumerate_from}
use Rattle.std.proofs.lemmas.List.{take_more, length-take-le}
use Rattle.lrat_text.specs.Standing.{Standing, with_clause}

enumerate_from-push : (n m : ℕ) (cs : List (List ℤ)) (c : List ℤ) → m ≡ n + length cs → enumerate_from n (cs ++ c ∷ []) ≡ enumerate_from n cs ++ (m, c) ∷ []
enumerate_from-push n m [] c h = let same : n ≡ m = omega arith in ap (λ (x : ℕ). (x, c) ∷ []) same
enumerate_from-push n m (d ∷ ds) c h = ap (λ t. (n, d) ∷ t) (enumerate_from-push (n + 1) m ds c (omega arith))

-- where the first i clauses are live
abbrev pub numbered : List (List ℤ) → ℕ → Standing
numbered cs i = record { live = enumerate_from 1 (take i cs); greatest = i }

pub numbered_more : (old new : Standing) (cs : List (List ℤ)) (i : ℕ) (c lits : List ℤ) → i < length cs → c ≡ get_or cs i c → lits ≡ c → old ≡ numbered cs i → new ≡ with_clause old (i + 1) lits → new ≡ numbered cs (i + 1)
numbered_more old new cs i c lits lt at same was push =
    push
    ∙ ap (λ (s : Standing). with_clause s (i + 1) lits) was
    ∙ ap (with_clause (numbered cs i) (i + 1)) (same ∙ at)
    ∙ ap (λ (live : List (ℕ × List ℤ)). let s : Standing = record { live = live; greatest = i + 1 } in s)
    (sym (enumerate_from-push 1 (i + 1) (take i cs) (get_or cs i c) (omega (arith, length-take-le i cs)))
    ∙ ap (enumerate_from 1) (sym (take_more cs i c lt)))
