use Rattle.std.proofs.Common.{◌≡◌, drop}
use Rattle.aig_ascii.specs.Drafts.{definers_of, pending_demands}
use Rattle.aig_ascii.specs.FirstFaults.{first_unmet}
use Rattle.aig_ascii.proofs.draft.Draft.check_uses.Given as goal

abbrev pub invariant-loop-waiting : goal.invariant-loop-waiting
invariant-loop-waiting l =
    first_unmet (pending_demands (definers_of l.self) (drop l.waiting-index l.self.pending)) ≡ first_unmet (pending_demands (definers_of l.self) l.self.pending)
