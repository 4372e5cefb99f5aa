-- Reading placed words one after the other.
use Rattle.std.proofs.Common.{◌≡◌, ℕ, ◌+◌, Option, Result, Ok, Err, List, [], ◌∷◌, ◌++◌, map, ℤ, refl, sym, ap, ◌∙◌}
use Rattle.std.specs.List.{flat_map}
use Rattle.std.proofs.lemmas.List.{map-append}
use Rattle.text_words.specs.Numbers.{integer_of}
use Rattle.cnf_base.specs.declared.fault.DimacsKind.{DimacsKind}
use Rattle.cnf_base.specs.Dimacs.{words_of, placed}
use Rattle.text_words.specs.declared.fault.LineFault.{LineFault}
use Rattle.text_words.specs.declared.fault.LineFault.TheVariants as faults
use Rattle.cnf_base.specs.Reading.{◌>>=◌, Place, Progress, at_line, on_line, with_number, with_numbers, with_placed, Fails, FailsOnWord}

abbrev pub Words : Type 0
Words = List (ℕ × List ℕ)

abbrev pub numbers_of : Words → List (Option ℤ)
numbers_of ws = map (λ (w : ℕ × List ℕ). integer_of w.1) ws

pub ok-ok : {A E : Type 0} (x y : A) → ◌≡◌ {A = Result A E} (Ok x) (Ok y) → x ≡ y
ok-ok x y e = cc

pub with_placed-ok : (ws rest : Words) (p q : Progress) → with_numbers p (numbers_of ws) ≡ Ok q → with_placed p (ws ++ rest) ≡ with_placed q rest
with_placed-ok [] rest p q e = ap (λ s. with_placed s rest) (ok-ok p q e)
with_placed-ok (w ∷ ws) rest p q e =
    let step : (r : Result Progress DimacsKind) → (r >>= λ s. with_numbers s (numbers_of ws)) ≡ Ok q → (at_line w.0 r >>= λ s. with_placed s (ws ++ rest)) ≡ with_placed q rest = λ r. elim r as (λ v. (v >>= λ s. with_numbers s (numbers_of ws)) ≡ Ok q → (at_line w.0 v >>= λ s. with_placed s (ws ++ rest)) ≡ with_placed q rest) [
      | Ok s ↦ λ h. with_placed-ok ws rest s q h
      | Err k ↦ λ h. cc
    ] in
    step (with_number p (integer_of w.1)) e

pub with_placed-err : (n : ℕ) (ws : List (List ℕ)) (rest : Words) (p : Progress) (k : DimacsKind) → with_numbers p (map integer_of ws) ≡ Err k
    → with_placed p (map (λ w. (n, w)) ws ++ rest) ≡ Err (n, k)
with_placed-err n [] rest p k e = cc
with_placed-err n (w ∷ ws) rest p k e =
    let step : (r : Result Progress DimacsKind) → (r >>= λ s. with_numbers s (map integer_of ws)) ≡ Err k → (at_line n r >>= λ s. with_placed s (map (λ w. (n, w)) ws ++ rest)) ≡ Err (n, k) = λ r. elim r as (λ v. (v >>= λ s. with_numbers s (map integer_of ws)) ≡ Err k → (at_line n v >>= λ s. with_placed s (map (λ w. (n, w)) ws ++ rest)) ≡ Err (n, k)) [
      | Ok s ↦ λ h. with_placed-err n ws rest s k h
      | Err k' ↦ λ h. cc
    ] in
    step (with_number p (integer_of w)) e

numbers_of-line : (n : ℕ) (ws : List (List ℕ)) → numbers_of (map (λ w. (n, w)) ws) ≡ map integer_of ws
numbers_of-line n [] = refl
numbers_of-line n (w ∷ ws) = ap (λ os. integer_of w ∷ os) (numbers_of-line n ws)

-- a line that is read
pub with_placed-line : (n : ℕ) (ws : List (List ℕ)) (rest : Words) (p q : Progress) → with_numbers p (map integer_of ws) ≡ Ok q
    → with_placed p (map (λ w. (n, w)) ws ++ rest) ≡ with_placed q rest
with_placed-line n ws rest p q e = with_placed-ok (map (λ w. (n, w)) ws) rest p q (ap (with_numbers p) (numbers_of-line n ws) ∙ e)

-- the words of placed words
pub words-line : (n : ℕ) (ws : List (List ℕ)) → map (λ (w : ℕ × List ℕ). w.1) (map (λ w. (n, w)) ws) ≡ ws
words-line n [] = refl
words-line n (w ∷ ws) = ap (λ vs. w ∷ vs) (words-line n ws)

pub words-placed : (n : ℕ) (lines : List (List ℕ)) → map (λ (w : ℕ × List ℕ). w.1) (placed n lines) ≡ flat_map words_of lines
words-placed n [] = refl
words-placed n (line ∷ more) =
    map-append (λ (w : ℕ × List ℕ). w.1) (map (λ w. (n, w)) (words_of line)) (placed (n + 1) more)
    ∙ ap (λ vs. vs ++ map (λ (w : ℕ × List ℕ). w.1) (placed (n + 1) more)) (words-line n (words_of line))
    ∙ ap (λ vs. words_of line ++ vs) (words-placed (n + 1) more)

-- a line that stops the reading
pub stops : {A : Type 0} (fault : LineFault DimacsKind) (n : ℕ) (line : List ℕ) (more : List (List ℕ)) (p : Progress) (all : Result Progress Place) (f : Progress → Result A Place)
    → FailsOnWord fault (with_numbers p (map integer_of (words_of line))) → with_placed p (placed n (line ∷ more)) ≡ all → Fails (on_line n fault) (all >>= f)
stops (faults.Kind k) n line more p all f h e =
    ap (λ r. r >>= f) (sym e ∙ with_placed-err n (words_of line) (placed (n + 1) more) p k h)
stops faults.OutOfMemory n line more p all f h e = tt

-- a line that is read
pub goes_on : (n : ℕ) (line : List ℕ) (more lines : List (List ℕ)) (p q : Progress) (all : Result Progress Place)
    → with_numbers p (map integer_of (words_of line)) ≡ Ok q → lines ≡ line ∷ more → with_placed p (placed n lines) ≡ all → with_placed q (placed (n + 1) more) ≡ all
goes_on n line more lines p q all h is e =
    sym (with_placed-line n (words_of line) (placed (n + 1) more) p q h) ∙ sym (ap (λ ls. with_placed p (placed n ls)) is) ∙ e
