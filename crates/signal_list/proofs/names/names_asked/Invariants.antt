use Rattle.signal_list.proofs.Asked.{IsAskedUpTo}
use Rattle.signal_list.proofs.names.names_asked.Given as goal

abbrev pub invariant-loop-line : goal.invariant-loop-line
invariant-loop-line l = record {
  can : (goal.iterator-loop-line).can_next l.line-iterator;
  finite : (goal.iterator-loop-line).is_finite l.line-iterator;
  asked : IsAskedUpTo l.text l.line-iterator l.names;
}
