use Rattle.std.proofs.Common.{◌≡◌, suc, ◌<◌, true, false, ℤ, ◌∷◌, length, get_or, ap, sym, ◌∙◌, subst, arith}
use Rattle.std.proofs.lemmas.List.Sorted.{length_permutation}
use Rattle.sat_trail.specs.Trail.{Assignment}
use Rattle.sat_trail.proofs.Levels.{length-upto-le}
use Rattle.sat_learn.specs.Resolving.{is_marked, StandsAt}
use Rattle.sat_learn.proofs.Antecedents.{lit_at}
use Rattle.sat_learn.proofs.MarkedLiterals.{literal_at}
use Rattle.sat_learn.proofs.RootQueues.{queued_less, next_from}
use Rattle.sat_learn.proofs.roots.next_root.Goals as goal
use Rattle.sat_learn.proofs.roots.next_root.Goals.{else-place-before-via-then-place-before+else-marks-var, else-place-before-via-else-place-before}

pub at-requires : goal.at-requires
at-requires c =
    let few = length-upto-le 0 c.args.trail.now.assignments in
    omega (arith, c.requires.within, c.if-place-before.true)

pub bounds-marks-var : goal.bounds-marks-var
bounds-marks-var c =
    let t = c.args.trail.now in
    let few = length-upto-le 0 t.assignments in
    let lt : c.in-Some.place < length t.assignments = omega (arith, c.requires.within, c.if-place-before.true) in
    let literal = literal_at t c.in-Some.place c.at.result c.requires.trail lt c.at.ensures in
    omega (arith, literal.variable, c.var.ensures.size, c.requires.room)

pub returns-then-marks-var-clause-some : goal.returns-then-marks-var-clause-some
returns-then-marks-var-clause-some c =
    let marks = c.args.marks.now in
    let marked : is_marked marks c.at.result ≡ true = ap (λ n. get_or marks n false) (sym c.var.ensures.size) ∙ c.if-marks-var.true in
    next_from c.args.trail.now marks c.loop-place.queue c.pop.new.self c.args.before c.in-Some.place c.at.result c.requires.trail c.requires.within c.if-place-before.true c.at.ensures marked c.in-Some.ensures.taken c.in-Some.ensures.greatest c.loop-place.invariant c.requires.clear

pub loop-place-smaller : goal.loop-place-smaller
loop-place-smaller c =
    let shorter : suc (length c.pop.new.self) ≡ length c.loop-place.queue = length_permutation c.loop-place.queue (c.in-Some.place ∷ c.pop.new.self) c.in-Some.ensures.taken in
    omega (arith, shorter)

pub loop-place-preserved : goal.loop-place-preserved
loop-place-preserved c =
    let ps = c.args.trail.now.assignments in
    let marks = c.args.marks.now in
    let place = c.in-Some.place in
    let unmarked : (p : Assignment) → place < c.args.before → StandsAt ps place p → is_marked marks p.lit ≡ false = λ p lt there.
    elim c.else-place-before.branch [
      | else-place-before-via-then-place-before+else-marks-var w ↦ (let M : ℤ → Type 0 = λ l. is_marked marks l ≡ false in
          subst M (lit_at ps place p w.at.result there w.at.ensures) (ap (λ n. get_or marks n false) (sym w.var.ensures.size) ∙ w.if-marks-var.false))
      | else-place-before-via-else-place-before w ↦ absurd (omega (arith, lt, w.if-place-before.false))
    ] in
    queued_less ps marks c.loop-place.queue c.pop.new.self place c.args.before c.in-Some.ensures.taken unmarked c.loop-place.invariant
