use Rattle.std.proofs.Common.{◌≡◌, ◌+◌, length}
use Rattle.cnf_base.specs.Dimacs.{placed}
use Rattle.cnf_base.specs.Reading.{with_placed}
use Rattle.cnf_base.proofs.reading.read_body.Given as goal

abbrev pub invariant-loop-line : goal.invariant-loop-line
invariant-loop-line l = record {
  can : (goal.iterator-loop-line).can_next l.line-iterator;
  finite : (goal.iterator-loop-line).is_finite l.line-iterator;
  count : l.number + length l.line-iterator ≡ l.initial.number + length l.initial.line-iterator;
  same : with_placed l.draft (placed (l.number + 1) l.line-iterator) ≡ with_placed l.initial.draft (placed (l.initial.number + 1) l.initial.line-iterator);
}
