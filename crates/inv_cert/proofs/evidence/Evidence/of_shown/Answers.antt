use Rattle.std.proofs.Common.{◌^◌, ◌<◌, ℕ, length, subst, sym}
use Rattle.aig_model.specs.SignalList.{SignalList}
use Rattle.aig_model.proofs.OneGoal.{goal_of-lt}
use Rattle.inv_cert.specs.Evidences.{IsEvidence}
use Rattle.inv_cert.specs.declared.evidence.Basis.TheVariants.{Run}
use Rattle.inv_cert.proofs.evidence.Evidence.of_shown.Goals as goal

pub invariant_of-result : goal.invariant_of-result
invariant_of-result c =
    let s : SignalList = c.args.signals.now in
    subst (λ (x : SignalList). IsEvidence (record { signals = x; goal = c.args.goal; basis = Run c.args.trace })) (sym c.of.ensures) (record {
      below = subst (λ (n : ℕ). n < 2 ^ length s.lits) c.requires.shows (goal_of-lt s.lits _);
      basis = c.requires;
    })
