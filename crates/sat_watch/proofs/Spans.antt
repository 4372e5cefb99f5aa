-- Clauses in an arena that grows.
use Rattle.std.proofs.Common.{◌≡◌, ◌+◌, ◌-◌, ◌≤◌, ℤ, List, [], ◌∷◌, ◌++◌, length, take, drop, ap, refl, ◌∙◌, arith}
use Rattle.std.specs.List.{All}
use Rattle.std.proofs.lemmas.List.{map_push, length-append, length-drop, drop_all, drop-append-le, take-append-le, take_all}
use Rattle.std.proofs.lemmas.List.Elements.{All-head, All-tail, All-push}
use Rattle.sat_watch.specs.declared.arena.Span.{Span}
use Rattle.sat_watch.specs.Arena.{clause_in, clauses_in, IsInside}

clause_in-grown : (lits more : List ℤ) (span : Span) → IsInside (length lits) span → clause_in (lits ++ more) span ≡ clause_in lits span
clause_in-grown lits more span h =
    let inside : span.start ≤ length lits = (let from = h.0 in let to = h.1 in omega arith) in
    let room : span.end - span.start ≤ length (drop span.start lits) = (let to = h.1 in omega (arith, length-drop span.start lits)) in
    ap (take (span.end - span.start)) (drop-append-le span.start lits more inside) ∙ take-append-le (span.end - span.start) (drop span.start lits) more room

clauses_in-grown : (lits more : List ℤ) (spans : List Span) → All (IsInside (length lits)) spans → clauses_in (lits ++ more) spans ≡ clauses_in lits spans
clauses_in-grown lits more [] h = refl
clauses_in-grown lits more (s ∷ ss) h =
    ap (λ c. c ∷ clauses_in (lits ++ more) ss) (clause_in-grown lits more s (All-head (IsInside (length lits)) s ss h))
    ∙ ap (λ cs. clause_in lits s ∷ cs) (clauses_in-grown lits more ss (All-tail (IsInside (length lits)) s ss h))

-- the literals that come last
clause_in-last : (lits more : List ℤ) (span : Span) → span.start ≡ length lits → span.end ≡ length lits + length more → clause_in (lits ++ more) span ≡ more
clause_in-last lits more span start end =
    let rest : drop span.start (lits ++ more) ≡ more = drop-append-le span.start lits more (omega (arith, start)) ∙ ap (λ ls. ls ++ more) (drop_all span.start lits (omega (arith, start))) in
    ap (take (span.end - span.start)) rest ∙ take_all (span.end - span.start) more (omega (arith, start, end))

pub clauses_in-push : (lits more : List ℤ) (spans : List Span) (span : Span) → All (IsInside (length lits)) spans → span.start ≡ length lits → span.end ≡ length lits + length more → clauses_in (lits ++ more) (spans ++ span ∷ []) ≡ clauses_in lits spans ++ more ∷ []
clauses_in-push lits more spans span h start end =
    map_push (clause_in (lits ++ more)) spans span
    ∙ ap (λ cs. cs ++ clause_in (lits ++ more) span ∷ []) (clauses_in-grown lits more spans h)
    ∙ ap (λ c. clauses_in lits spans ++ c ∷ []) (clause_in-last lits more span start end)

pub inside-push : (lits more : List ℤ) (spans : List Span) (span : Span) → All (IsInside (length lits)) spans → span.start ≡ length lits → span.end ≡ length lits + length more → All (IsInside (length (lits ++ more))) (spans ++ span ∷ [])
inside-push lits more spans span h start end =
    let len = length-append lits more in
    All-push (IsInside (length (lits ++ more))) spans span
    (λ i d lt. (let old = h i d lt in let from = old.0 in let to = old.1 in (from, omega arith)))
    (omega (arith, start, end), omega (arith, start, end, len))
