use Rattle.std.proofs.Common.{◌≡◌, ◌≢◌, ◌++◌, pos, take, length}
use Rattle.std.specs.List.{flat_map, AllByRecursion}
use Rattle.cnf_base.specs.Text.{clause_text, header_text}
use Rattle.cnf_base.proofs.writing.write_dimacs.Given as goal

abbrev pub invariant-loop-clause : goal.invariant-loop-clause
invariant-loop-clause l = record {
  written : l.text.items ≡ header_text l.formula.vars (length l.formula.clauses) ++ flat_map clause_text (take l.clause-index l.clause-items);
  not_zero : AllByRecursion (AllByRecursion (λ z. z ≢ pos 0)) (take l.clause-index l.clause-items);
}
