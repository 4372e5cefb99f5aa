use Rattle.std.proofs.Common.{◌≡◌, ◌+◌, ◌<◌, ◌≤◌, ℕ, length, refl, subst, arith, Option}
use Rattle.std.specs.Prelude.{IfNone, MatchOption}
use Rattle.report_text.specs.declared.report.Block.{Block}
use Rattle.report_check.specs.declared.fault.CheckKind.{CheckKind}
use Rattle.report_check.specs.Order.{IsFirstKind}
use Rattle.report_check.specs.Refutes.{RefuteMeets}
use Rattle.report_check.specs.Walks.{AreWalked}
use Rattle.report_check.proofs.FirstKinds.{refute_in}
use Rattle.report_check.proofs.Items.{all_below, more_below}
use Rattle.report_check.proofs.Walking.{block_at}
use Rattle.report_check.proofs.refutes.walk.Goals as goal

pub returns-in-Some-clause-fault : goal.returns-in-Some-clause-fault
returns-in-Some-clause-fault c =
    let parts = c.args.circuit.now in
    let sig = c.args.signals.now.lits in
    let r = c.args.report.now in
    let place = c.loop-place.place in
    let inside : place < length r.refutes = omega (arith, c.loop-place-test.true, c.len-place-end.ensures) in
    let own = block_at r.refutes place inside in
    let first : IsFirstKind (RefuteMeets parts sig r place own.0) c.in-Some.kind =
    subst (λ (fault : Option CheckKind). MatchOption fault ((kind : CheckKind) → RefuteMeets parts sig r place own.0 kind) (IsFirstKind (RefuteMeets parts sig r place own.0))) c.in-Some.is (c.in_ok-kind.ensures.fault own.0 own.1) in
    (refl, refute_in parts sig r place own.0 c.in-Some.kind own.1 c.loop-place.invariant.1 first)

pub loop-place-preserved : goal.loop-place-preserved
loop-place-preserved c =
    let parts = c.args.circuit.now in
    let sig = c.args.signals.now.lits in
    let r = c.args.report.now in
    let place = c.loop-place.place in
    let inside : place < length r.refutes = omega (arith, c.loop-place-test.true, c.len-place-end.ensures) in
    let own = block_at r.refutes place inside in
    let met : (q : CheckKind) → RefuteMeets parts sig r place own.0 q =
    subst (λ (fault : Option CheckKind). MatchOption fault ((kind : CheckKind) → RefuteMeets parts sig r place own.0 kind) (IsFirstKind (RefuteMeets parts sig r place own.0))) c.in_default.is (c.in_ok-kind.ensures.fault own.0 own.1) in (
      subst (λ (fault : Option CheckKind). IfNone fault (AreWalked r (place + 1) c.refute_fault.new.walked)) c.in_default.is c.in_ok-kind.ensures.walked,
      more_below (λ (k : ℕ) (b : Block). (q : CheckKind) → RefuteMeets parts sig r k b q) r.refutes place own.0 own.1 c.loop-place.invariant.1 met,
    )

pub returns-clause-meets : goal.returns-clause-meets
returns-clause-meets c =
    let r = c.args.report.now in
    let all : length r.refutes ≤ c.loop-place.place = omega (arith, c.loop-place-test.false, c.len-place-end.ensures) in
    all_below (λ (k : ℕ) (b : Block). (q : CheckKind) → RefuteMeets c.args.circuit.now c.args.signals.now.lits r k b q) r.refutes c.loop-place.place all c.loop-place.invariant.1
