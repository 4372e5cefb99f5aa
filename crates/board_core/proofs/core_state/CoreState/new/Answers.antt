use Rattle.std.proofs.Common.{◌≡◌, None, sym, subst, replicate, rules}
use Rattle.board_core.specs.Core.{core_of, initial_core}
use Rattle.board_core.specs.Good.{IsSound}
use Rattle.board_core.proofs.KeptSplit.{initial-sound}
use Rattle.board_core.proofs.core_state.CoreState.new.Goals as goal

pub invariant_of-result : goal.invariant_of-result
invariant_of-result c =
    let history = sym c.new.ensures.items in
    let filled : c.in_ok-marks.marks.items ≡ replicate c.args.goals None = search rules in
    let marks = sym filled in
    let views = sym c.in_ok-views.ensures in
    let same : initial_core c.args.callers c.args.goals ≡ core_of c.new.result.items c.in_ok-marks.marks.items c.in_ok-views.views.items = λ i. core_of (history i) (marks i) (views i) in
    subst IsSound same (initial-sound c.args.callers c.args.goals c.requires)
