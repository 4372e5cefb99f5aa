use Rattle.std.proofs.Common.{arith, ℤ, List, take, subst, sym, ◌∙◌}
use Rattle.lrat_text.specs.declared.proof.LratStep.{LratStep}
use Rattle.lrat_check.specs.ClauseKeys.{HoldsStep, AreTaken}
use Rattle.lrat_check.proofs.TakenLemmas.{earlier_after, earlier_more, no_lemma, one_lemma}
use Rattle.lrat_check.proofs.spent.check_lemmas.Goals as goal

pub returns-then-not-branch : goal.returns-then-not-branch
returns-then-not-branch c =
    let steps : List LratStep = c.args.steps.now in
    let step : LratStep = c.index-steps-place.result in
    let earlier : List (List ℤ) = earlier_after c.args.formula.now.clauses (take c.loop-place.place steps) in
    let P : LratStep → Type 0 = HoldsStep c.in_ok-asked.asked in
    let there = subst P (sym c.index-steps-place.is) (c.in_ok-asked.ensures c.loop-place.place step (omega arith)) in
    let takes = c.in_ok-take_lemma.ensures.lemma c.in_ok-asked.asked earlier c.loop-place.invariant.taken there in
    sym c.loop-place.invariant.rest
    ∙ no_lemma c.loop-place.place c.loop-place.checker earlier steps c.loop-place.place step (omega arith) c.index-steps-place.is c.in-Ok.ensures.answer (sym takes.0 ∙ c.if-not-branch.true)

pub loop-place-preserved : goal.loop-place-preserved
loop-place-preserved c =
    let steps : List LratStep = c.args.steps.now in
    let step : LratStep = c.index-steps-place.result in
    let clauses : List (List ℤ) = c.args.formula.now.clauses in
    let earlier : List (List ℤ) = earlier_after clauses (take c.loop-place.place steps) in
    let P : LratStep → Type 0 = HoldsStep c.in_ok-asked.asked in
    let there = subst P (sym c.index-steps-place.is) (c.in_ok-asked.ensures c.loop-place.place step (omega arith)) in
    let takes = c.in_ok-take_lemma.ensures.lemma c.in_ok-asked.asked earlier c.loop-place.invariant.taken there in
    let Q : List (List ℤ) → Type 0 = AreTaken c.in_ok-asked.asked c.take_lemma.new.taken in
    record {
      rest = one_lemma c.loop-place.place c.loop-place.checker c.take_lemma.new.checker clauses steps c.loop-place.place step (omega arith) c.index-steps-place.is c.in-Ok.ensures.answer (sym takes.0 ∙ c.if-not-branch.false) (c.take_lemma.ensures.same ∙ c.in-Ok.ensures.ok)
          ∙ c.loop-place.invariant.rest;
      taken = subst Q (sym (earlier_more clauses steps c.loop-place.place step (omega arith) c.index-steps-place.is)) (takes.1 c.if-not-branch.false);
    }
