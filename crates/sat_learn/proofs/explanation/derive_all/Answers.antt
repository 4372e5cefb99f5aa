use Rattle.std.proofs.Common.{◌≡◌, true, ℤ, nat_abs, subst, inl, inr}
use Rattle.sat_learn.specs.Resolving.{is_marked}
use Rattle.sat_learn.proofs.MarkedLiterals.{has_at}
use Rattle.sat_learn.proofs.Explanations.{take_next, found_next}
use Rattle.sat_learn.proofs.explanation.derive_all.Goals as goal

pub derive-requires-clause-known : goal.derive-requires-clause-known
derive-requires-clause-known c =
    let lit = c.lit-item.result in
    let inside = has_at c.args.clause.now c.loop-lit.lit-index lit lit c.loop-lit-test.true c.lit-item.is in
    elim (c.requires.known lit inside) [
      | inl e ↦ inl (c.loop-lit.invariant.found.grows (nat_abs lit) e)
      | inr e ↦ inr e
    ]

pub returns-then-not-whole-clause-found : goal.returns-then-not-whole-clause-found
returns-then-not-whole-clause-found c =
    let lit = c.lit-item.result in
    let inside = has_at c.args.clause.now c.loop-lit.lit-index lit lit c.loop-lit-test.true c.lit-item.is in
    found_next c.args.premises.now.book.clauses c.args.premises.now.proof_ids.items c.args.premises.now.trail.assignments c.args.clause.now lit c.args.marks.now c.loop-lit.marks c.derive.new.marks c.args.derivation.now.hints.items c.loop-lit.derivation.hints.items c.derive.new.derivation.hints.items inside c.loop-lit.invariant.found c.in_ok-whole.ensures.found

pub loop-lit-preserved : goal.loop-lit-preserved
loop-lit-preserved c =
    let lit = c.lit-item.result in
    let inside = has_at c.args.clause.now c.loop-lit.lit-index lit lit c.loop-lit-test.true c.lit-item.is in
    let before = c.loop-lit.invariant in
    let whole = c.in_ok-whole.ensures in
    let M : ℤ → Type 0 = λ x. is_marked c.derive.new.marks x ≡ true in
    record {
      noted = whole.noted;
      found = found_next c.args.premises.now.book.clauses c.args.premises.now.proof_ids.items c.args.premises.now.trail.assignments c.args.clause.now lit c.args.marks.now c.loop-lit.marks c.derive.new.marks c.args.derivation.now.hints.items c.loop-lit.derivation.hints.items c.derive.new.derivation.hints.items inside before.found whole.found;
      marked = λ m k. elim (take_next c.args.clause.now c.loop-lit.lit-index lit m c.loop-lit-test.true c.lit-item.is k) [
        | inl e ↦ whole.found.grows (nat_abs m) (before.marked m e)
        | inr e ↦ subst M e (whole.marked c.if-not-whole.false)
      ];
    }
