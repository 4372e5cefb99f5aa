use Rattle.std.proofs.Common.{◌≡◌, ℕ, ◌+◌, ◌-◌, ◌<◌, true, List, length, take, sym, ◌∙◌, subst, arith}
use Rattle.std.specs.Ordering.{int_eq}
use Rattle.std.proofs.lemmas.Bool.{both_ways}
use Rattle.std.proofs.lemmas.Bool.Decides.{Decides-int_eq}
use Rattle.std.proofs.lemmas.List.{take_all}
use Rattle.cnf_base.specs.Status.{has}
use Rattle.sat_trail.specs.Trail.{Assignment, lits}
use Rattle.sat_learn.proofs.Antecedents.{lit_at}
use Rattle.sat_learn.proofs.Assignments.{assignment_at}
use Rattle.sat_learn.proofs.Implications.{before_place}
use Rattle.sat_learn.proofs.implication.place_of.Goals as goal

pub loop-place-init : goal.loop-place-init
loop-place-init c =
    let ps = c.args.trail.now.assignments in
    let P : List Assignment → Type 0 = λ qs. has (lits qs) c.args.lit ≡ true in
    record {
      within = omega (arith, c.len-place.ensures.value);
      before = subst P (sym (take_all c.len-place.result ps (omega (arith, c.len-place.ensures.value)))) c.requires;
    }

pub unreachable-requires : goal.unreachable-requires
unreachable-requires c =
    let zero : c.loop-place.place ≡ 0 = omega (arith, c.loop-place-test.false) in
    let P : ℕ → Type 0 = λ n. has (lits (take n c.args.trail.now.assignments)) c.args.lit ≡ true in
    let none = subst P zero c.loop-place.invariant.before in
    cc

pub returns-then-eq : goal.returns-then-eq
returns-then-eq c =
    let ps = c.args.trail.now.assignments in
    let lt : c.loop-place.place - 1 < length ps = omega (arith, c.loop-place.invariant.within, c.loop-place-test.true) in
    let q = assignment_at ps (c.loop-place.place - 1) lt in
    (q.0, q.1, sym (lit_at ps (c.loop-place.place - 1) q.0 c.at.result q.1 c.at.ensures) ∙ (Decides-int_eq c.at.result c.args.lit).0 (sym c.eq.ensures ∙ c.if-eq.true))

pub loop-place-preserved : goal.loop-place-preserved
loop-place-preserved c =
    let ps = c.args.trail.now.assignments in
    let lt : c.loop-place.place - 1 < length ps = omega (arith, c.loop-place.invariant.within, c.loop-place-test.true) in
    let q = assignment_at ps (c.loop-place.place - 1) lt in
    let next : c.loop-place.place ≡ c.loop-place.place - 1 + 1 = omega (arith, c.loop-place-test.true) in
    let P : ℕ → Type 0 = λ n. has (lits (take n ps)) c.args.lit ≡ true in
    record {
      within = omega (arith, c.loop-place.invariant.within);
      before = before_place ps (c.loop-place.place - 1) c.args.lit c.at.result q.0 q.1 (sym (lit_at ps (c.loop-place.place - 1) q.0 c.at.result q.1 c.at.ensures)) (λ e. both_ways (int_eq c.at.result c.args.lit) (sym c.eq.ensures ∙ c.if-eq.false) ((Decides-int_eq c.at.result c.args.lit).1 e)) (subst P next c.loop-place.invariant.before);
    }
