use Rattle.std.proofs.Common.{◌≡◌, ℕ, inl, inr, Ok, Err, refl, ap}
use Rattle.std.proofs.lemmas.Result.{err_from_is_err_and}
use Rattle.aig_eval.specs.declared.fault.ReplayFault.{ReplayFault}
use Rattle.aig_eval.specs.declared.fault.ReplayFault.TheVariants.{NotReset}
use Rattle.aig_eval.specs.Replay.{StartsWrong}
use Rattle.aig_eval.proofs.Lists.{first_once}
use Rattle.aig_eval.proofs.Replays.{reset_not_wrong, shown_not_failing, shown_once, stops_failing, stops_not_reset, stops_shown}
use Rattle.aig_eval.proofs.replaying.replay.Goals as goal

-- ---- a latch starts at another value than its reset
pub returns-in-Some-clause-shown : goal.returns-in-Some-clause-shown
returns-in-Some-clause-shown c =
    λ other shows. absurd (reset_not_wrong c.args.circuit.now c.args.trace.now.start c.in-Some.latch shows.reset c.in-Some.ensures.here)

pub returns-in-Some-clause-reset : goal.returns-in-Some-clause-reset
returns-in-Some-clause-reset c =
    let wrong = StartsWrong c.args.circuit.now c.args.trace.now.start in
    λ k. (
      λ e. (let same : c.in-Some.latch ≡ k = cc in (c.if-not-has_shape.ensures.0 refl, rw (← same) c.in-Some.ensures)),
      λ first. ap (λ (n : ℕ). Err (NotReset n)) (first_once wrong c.in-Some.latch k c.in-Some.ensures first.1),
    )

pub returns-in-Some-clause-fails : goal.returns-in-Some-clause-fails
returns-in-Some-clause-fails c =
    λ t shape reset first. absurd (reset_not_wrong c.args.circuit.now c.args.trace.now.start c.in-Some.latch reset c.in-Some.ensures.here)

-- ---- a constraint is false, or there is no memory
pub returns-in_err-goal-clause-shown : goal.returns-in_err-goal-clause-shown
returns-in_err-goal-clause-shown c =
    let p = err_from_is_err_and c.from_residual.result c.from_residual.ensures.1 in
    let fault : ReplayFault = c.in_err-goal.field-0.0 in
    rw (p.1, p.2) (λ other shows.
    inr (ap Err (stops_shown c.args.circuit.now c.args.signals.now.lits c.args.trace.now fault other c.is_well_formed.ensures c.in_err-goal.ensures shows)))

pub returns-in_err-goal-clause-reset : goal.returns-in_err-goal-clause-reset
returns-in_err-goal-clause-reset c =
    let p = err_from_is_err_and c.from_residual.result c.from_residual.ensures.1 in
    let fault : ReplayFault = c.in_err-goal.field-0.0 in
    rw (p.1, p.2) (λ k. (
      λ e. (let same : fault ≡ NotReset k = cc in absurd (stops_not_reset c.args.circuit.now c.args.trace.now fault k c.in_err-goal.ensures same)),
      λ first. absurd (reset_not_wrong c.args.circuit.now c.args.trace.now.start k c.in_default.ensures first.1.here),
    ))

pub returns-in_err-goal-clause-fails : goal.returns-in_err-goal-clause-fails
returns-in_err-goal-clause-fails c =
    let p = err_from_is_err_and c.from_residual.result c.from_residual.ensures.1 in
    let fault : ReplayFault = c.in_err-goal.field-0.0 in
    rw (p.1, p.2) (λ t shape reset first.
    elim (stops_failing c.args.circuit.now c.args.trace.now fault t c.in_err-goal.ensures first) [
      | inl e ↦ inl (ap Err e)
      | inr e ↦ inr (ap Err e)
    ])

-- ---- a goal is shown
pub returns-clause-shown : goal.returns-clause-shown
returns-clause-shown c =
    λ other shows.
    inl (ap Ok (shown_once c.args.circuit.now c.args.signals.now.lits c.args.trace.now c.in_ok-goal.goal other c.is_well_formed.ensures
    c.in_ok-goal.ensures shows))

pub returns-clause-reset : goal.returns-clause-reset
returns-clause-reset c =
    λ k. (
      λ e. absurd (cc),
      λ first. absurd (reset_not_wrong c.args.circuit.now c.args.trace.now.start k c.in_ok-goal.ensures.reset first.1.here),
    )

pub returns-clause-fails : goal.returns-clause-fails
returns-clause-fails c =
    λ t shape reset first.
    absurd (shown_not_failing c.args.circuit.now c.args.signals.now.lits c.args.trace.now c.in_ok-goal.goal t c.is_well_formed.ensures
    c.in_ok-goal.ensures first.here)
