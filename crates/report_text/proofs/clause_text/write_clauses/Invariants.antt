use Rattle.std.proofs.Common.{◌≡◌, ◌++◌, map, take}
use Rattle.report_text.specs.Text.{text, clause_words}
use Rattle.report_text.proofs.clause_text.write_clauses.Given as goal

abbrev pub invariant-loop-clause : goal.invariant-loop-clause
invariant-loop-clause l = l.out ≡ l.fn.out ++ text (map clause_words (take l.clause-index l.clauses))
