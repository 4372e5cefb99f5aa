use Rattle.std.proofs.Common.{◌≡◌, []}
use Rattle.solver_rows.proofs.book_clauses.add_chain.Given as goal

-- the trail is still new
abbrev pub invariant-loop-var : goal.invariant-loop-var
invariant-loop-var g l =
    record {
      vars : l.book.vars ≡ l.vars;
      new : l.trail ≡ record { vars = l.book.vars; assignments = []; level = 0; low = 0 };
    }
