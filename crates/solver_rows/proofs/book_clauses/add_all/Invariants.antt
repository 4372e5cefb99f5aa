use Rattle.std.proofs.Common.{◌≡◌, []}
use Rattle.solver_rows.proofs.book_clauses.add_all.Given as goal

-- the trail is still new
abbrev pub invariant-twos : goal.invariant-twos
invariant-twos g l = l.trail ≡ record { vars = l.book.vars; assignments = []; level = 0; low = 0 }

abbrev pub invariant-threes : goal.invariant-threes
invariant-threes g l = l.trail ≡ record { vars = l.book.vars; assignments = []; level = 0; low = 0 }
