use Rattle.std.proofs.Common.{◌≡◌, ◌+◌, ◌<◌, Bool, false, ℤ, nat_abs, List, [], ◌∷◌, ◌++◌, length, take, set, ap, sym, ◌∙◌, subst, arith}
use Rattle.std.proofs.lemmas.List.{length-set}
use Rattle.std.proofs.lemmas.List.Elements.{All-get_or}
use Rattle.sat_learn.specs.Tracking.{IsTaken}
use Rattle.sat_learn.proofs.Taken.{taken_first, taken_more, taken_less}
use Rattle.sat_learn.proofs.conclusion.take_marked.Goals as goal
use Rattle.sat_learn.proofs.conclusion.take_marked.Goals.{then-marks-index+in_ok-push-2, else-marks-index}

pub loop-lit-init : goal.loop-lit-init
loop-lit-init c =
    let old = c.args.marks.now in
    let P : List ℤ → Type 0 = λ ls. IsTaken old (set old c.var.result false) [] c.args.first ls in
    let pushed : c.push.new.self.items ≡ c.args.first ∷ [] = c.in_ok-push.ensures.items ∙ ap (λ ls. ls ++ c.args.first ∷ []) c.new-taken.ensures.items in
    let room : c.var.result < length old = omega (arith, c.var.ensures.size, c.requires.first) in
    subst P (sym pushed) (taken_first old c.var.result c.args.first c.var.ensures.size room)

pub loop-lit-preserved : goal.loop-lit-preserved
loop-lit-preserved c =
    let old = c.args.marks.now in
    let kept = c.args.kept.now in
    let i = c.loop-lit.lit-index in
    let lit = c.lit-item.result in
    let after : List Bool → List ℤ → Type 0 = λ ms ls. IsTaken old ms (take (i + 1) kept) c.args.first ls in
    let M : List ℤ → List Bool → Type 0 = λ ls ms. after ms ls in
    elim c.if-marks-index.branch [
      | then-marks-index+in_ok-push-2 w ↦ (let Q : ℤ → Type 0 = λ l. nat_abs l < length old in
          let small = subst Q (sym c.lit-item.is) (All-get_or (λ l. nat_abs l < length old) kept i lit c.loop-lit-test.true c.requires.kept) in
          let room : c.var-index.result < length c.loop-lit.marks = omega (arith, small, c.var-index.ensures.size, c.loop-lit.auto.marks, length-set old c.var.result false) in
          let taken_is : c.if-marks-index.taken.items ≡ c.loop-lit.taken.items ++ lit ∷ [] = ap (λ v. v.items) w.taken-is ∙ w.in_ok-push-2.ensures.items in
          subst (after c.if-marks-index.marks) (sym taken_is) (subst (M (c.loop-lit.taken.items ++ lit ∷ [])) (sym w.marks-is)
          (taken_more old c.loop-lit.marks kept i c.var-index.result lit c.args.first c.loop-lit.taken.items c.loop-lit-test.true c.lit-item.is c.var-index.ensures.size room w.if-marks-index.true c.loop-lit.invariant)))
      | else-marks-index w ↦ subst (after c.if-marks-index.marks) (sym (ap (λ v. v.items) w.taken-is)) (subst (M c.loop-lit.taken.items) (sym w.marks-is)
          (taken_less old c.loop-lit.marks kept i c.var-index.result lit c.args.first c.loop-lit.taken.items c.loop-lit-test.true c.lit-item.is c.var-index.ensures.size w.if-marks-index.false c.loop-lit.invariant))
    ]
