use Rattle.std.proofs.Common.{◌≡◌, drop}
use Rattle.lrat_check.specs.FirstFault.{hint_fault}
use Rattle.lrat_check.proofs.walk.walk_hints.Given as goal

-- what is left has the first fault of all
abbrev pub invariant-loop-hint : goal.invariant-loop-hint
invariant-loop-hint l = hint_fault l.store.live l.assumed (drop l.hint-index l.hints) ≡ hint_fault l.store.live l.fn.assumed l.hints
