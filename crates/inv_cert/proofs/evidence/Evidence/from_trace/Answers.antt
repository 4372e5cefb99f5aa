use Rattle.std.proofs.Common.{◌≡◌, ◌^◌, ◌<◌, ℕ, length, Ok, inl, inr, ap, subst, sym, ◌∙◌}
use Rattle.std.proofs.lemmas.Result.{err_from_is_err_and}
use Rattle.aig_model.specs.SignalList.{SignalList}
use Rattle.aig_model.specs.Replays.{Shows}
use Rattle.aig_model.specs.declared.parts.Parts.{Parts}
use Rattle.aig_model.proofs.OneGoal.{goal_of-lt}
use Rattle.aig_eval.specs.declared.fault.ReplayFault.{ReplayFault}
use Rattle.aig_eval.specs.declared.fault.ReplayFault.TheVariants.{NotReset, Constraint, OutOfMemory}
use Rattle.inv_cert.proofs.Errors.{err_again, ok_is_no_err}
use Rattle.inv_cert.specs.Evidences.{Evidence, IsEvidence}
use Rattle.inv_cert.specs.declared.evidence.Basis.TheVariants.{Run}
use Rattle.inv_cert.proofs.evidence.Evidence.from_trace.Goals as goal

-- ---- the trace is refused
pub returns-in_err-goal-clause-shown : goal.returns-in_err-goal-clause-shown
returns-in_err-goal-clause-shown c =
    let p = err_from_is_err_and c.from_residual.result c.from_residual.ensures.1 in
    let fault : ReplayFault = c.in_err-goal.field-0.0 in
    rw (p.1, p.2) (λ goal shows. elim (c.in_err-goal.ensures.shown goal shows) [
      | inl ok ↦ absurd (ok_is_no_err goal fault (sym ok))
      | inr memory ↦ inr (err_again fault OutOfMemory memory)
    ])

pub returns-in_err-goal-clause-reset : goal.returns-in_err-goal-clause-reset
returns-in_err-goal-clause-reset c =
    let p = err_from_is_err_and c.from_residual.result c.from_residual.ensures.1 in
    let fault : ReplayFault = c.in_err-goal.field-0.0 in
    rw (p.1, p.2) (λ k. (
      λ e. (c.in_err-goal.ensures.reset k).0 (err_again fault (NotReset k) e),
      λ first. err_again fault (NotReset k) ((c.in_err-goal.ensures.reset k).1 first),
    ))

pub returns-in_err-goal-clause-constraint : goal.returns-in_err-goal-clause-constraint
returns-in_err-goal-clause-constraint c =
    let p = err_from_is_err_and c.from_residual.result c.from_residual.ensures.1 in
    let fault : ReplayFault = c.in_err-goal.field-0.0 in
    rw (p.1, p.2) (λ t e. c.in_err-goal.ensures.constraint t (err_again fault (Constraint t) e))

pub returns-in_err-goal-clause-fails : goal.returns-in_err-goal-clause-fails
returns-in_err-goal-clause-fails c =
    let p = err_from_is_err_and c.from_residual.result c.from_residual.ensures.1 in
    let fault : ReplayFault = c.in_err-goal.field-0.0 in
    rw (p.1, p.2) (λ t shape reset first. elim (c.in_err-goal.ensures.fails t shape reset first) [
      | inl e ↦ inl (err_again fault (Constraint t) e)
      | inr e ↦ inr (err_again fault OutOfMemory e)
    ])

-- ---- a goal is shown
pub invariant_of-result : goal.invariant_of-result
invariant_of-result c =
    let s : SignalList = c.args.signals.now in
    let shows : Shows s.circuit s.lits c.args.trace c.in_ok-goal.goal =
    subst (λ (x : Parts). Shows x s.lits c.args.trace c.in_ok-goal.goal) (sym c.requires.circuit) c.in_ok-goal.ensures.shows
    in
    subst (λ (x : SignalList). IsEvidence (record { signals = x; goal = c.in_ok-goal.goal; basis = Run c.args.trace })) (sym c.of-signals.ensures) (record {
      below = subst (λ (n : ℕ). n < 2 ^ length s.lits) shows.shows (goal_of-lt s.lits _);
      basis = shows;
    })

pub returns-clause-shown : goal.returns-clause-shown
returns-clause-shown c goal shows = elim (c.in_ok-goal.ensures.shown goal shows) [
  | inl ok ↦
      let same : c.in_ok-goal.goal ≡ goal = cc in
      let found : SignalList → ℕ → Evidence = λ x n. record { signals = x; goal = n; basis = Run c.args.trace } in
      inl (ap (λ (x : SignalList). Ok (found x c.in_ok-goal.goal)) c.of-signals.ensures ∙ ap (λ (n : ℕ). Ok (found c.args.signals.now n)) same)
  | inr memory ↦ absurd (ok_is_no_err c.in_ok-goal.goal OutOfMemory memory)
]

pub returns-clause-reset : goal.returns-clause-reset
returns-clause-reset c k = (
  λ e. absurd (ok_is_no_err _ (NotReset k) e),
  λ first. absurd (ok_is_no_err c.in_ok-goal.goal (NotReset k) ((c.in_ok-goal.ensures.reset k).1 first)),
)

pub returns-clause-fails : goal.returns-clause-fails
returns-clause-fails c t shape reset first = elim (c.in_ok-goal.ensures.fails t shape reset first) [
  | inl e ↦ absurd (ok_is_no_err c.in_ok-goal.goal (Constraint t) e)
  | inr e ↦ absurd (ok_is_no_err c.in_ok-goal.goal OutOfMemory e)
]
