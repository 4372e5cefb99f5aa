-- Evidence for what a source has found is of the source's kind.
use Rattle.std.proofs.Common.{◌≡◌, ℕ, refl, subst}
use Rattle.aig_model.specs.SignalList.{SignalList}
use Rattle.aig_model.specs.declared.parts.Kind.{Kind}
use Rattle.aig_model.specs.declared.parts.Kind.TheVariants as kinds
use Rattle.aig_model.proofs.LatchClauses.{barred_is_unreachable}
use Rattle.aig_eval.proofs.Replays.{shown_is_reachable}
use Rattle.sim_walk.specs.declared.options.Options.{Options}
use Rattle.board_core.specs.declared.entry.Source.{Source}
use Rattle.board_core.specs.History.{kind_of}
use Rattle.inv_cert.specs.Evidences.{Evidence, IsEvidence, IsBasis}
use Rattle.inv_cert.specs.Evidences as evidences
use Rattle.inv_cert.specs.declared.evidence.Basis.{Basis}
use Rattle.inv_cert.specs.declared.evidence.Basis.TheVariants.{Run, Clauses}
use Rattle.goal_facts.specs.Found.{Found, IsOfKind}
use Rattle.goal_facts.proofs.Truth.{found_is_true}

kinds_agree : (s : SignalList) (goal : ℕ) (basis : Basis) (kind : Kind) → IsBasis s goal basis → IsOfKind s.circuit s.lits kind goal → evidences.kind_of basis ≡ kind
kinds_agree s goal (Run trace) kinds.Reached is so = refl
kinds_agree s goal (Run trace) kinds.Unreachable is so = absurd (so (shown_is_reachable s.circuit s.lits trace goal is))
kinds_agree s goal (Clauses cert) kinds.Reached is so = absurd (barred_is_unreachable s.circuit s.lits cert.base.clauses goal is.bars so)
kinds_agree s goal (Clauses cert) kinds.Unreachable is so = refl

-- evidence for a goal that a source has found is of the source's kind
pub evidence_kind : (s : SignalList) (o : Options) (source : Source) (e : Evidence) → IsEvidence e → e.signals ≡ s → Found s.circuit s.lits o source e.goal
    → evidences.kind_of e.basis ≡ kind_of source
evidence_kind s o source e is same found =
    kinds_agree s e.goal e.basis (kind_of source) (subst (λ (x : SignalList). IsBasis x e.goal e.basis) same is.basis) (found_is_true s.circuit s.lits o source e.goal found)
