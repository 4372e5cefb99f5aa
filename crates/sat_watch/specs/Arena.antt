-- Clauses whose literals stand one clause after another.
use Rattle.std.specs.Prelude.{ℕ, ◌≤◌, ℤ, List, map, slice_range}
use Rattle.sat_watch.specs.declared.arena.Span.{Span}

-- the literals from a span's start up to its end
abbrev pub clause_in : List ℤ → Span → List ℤ
clause_in lits span = slice_range lits span.start span.end

abbrev pub clauses_in : List ℤ → List Span → List (List ℤ)
clauses_in lits spans = map (clause_in lits) spans

-- the span lies within so many literals
abbrev pub IsInside : ℕ → Span → Type 0
IsInside count span = (span.start ≤ span.end) × (span.end ≤ count)
