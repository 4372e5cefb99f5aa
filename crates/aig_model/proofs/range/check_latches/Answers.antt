use Rattle.std.proofs.Common.{◌≤◌, [], ◌∷◌, List, ℕ, arith}
use Rattle.std.proofs.lemmas.Result.{err_from_is_err_and}
use Rattle.aig_model.specs.declared.parts.Latch.{Latch}
use Rattle.aig_model.proofs.Rightness.{Judgement, flat_map_right, flat_map_wrong, right_append, wrong_left, wrong_right}
use Rattle.aig_model.proofs.range.check_latches.Goals as goal

abbrev lits_of : Latch → List ℕ
lits_of latch = latch.lit ∷ latch.next ∷ []

pub loop-latch-preserved : goal.loop-latch-preserved
loop-latch-preserved c =
    let IsRight : Judgement = λ _ l. l ≤ c.args.most in
    let latch = c.latch-item.result in
    flat_map_right lits_of IsRight c.args.latches.now c.loop-latch.latch-index latch (omega arith) c.latch-item.is c.loop-latch.invariant
    (right_append IsRight (latch.lit ∷ []) (latch.next ∷ []) c.in_ok-check_lit.ensures.ok c.in_ok-check_lit-2.ensures.ok)

pub returns-in_err-check_lit-clause-err : goal.returns-in_err-check_lit-clause-err
returns-in_err-check_lit-clause-err c =
    let IsRight : Judgement = λ _ l. l ≤ c.args.most in
    let latch = c.latch-item.result in
    let p = err_from_is_err_and c.from_residual.result c.from_residual.ensures.1 in
    rw (p.1, p.2)
    (flat_map_wrong lits_of IsRight c.args.latches.now c.loop-latch.latch-index latch _ (omega arith) c.latch-item.is c.loop-latch.invariant
    (wrong_left IsRight (latch.lit ∷ []) (latch.next ∷ []) _ c.in_err-check_lit.ensures.err))

pub returns-in_err-check_lit-2-clause-err : goal.returns-in_err-check_lit-2-clause-err
returns-in_err-check_lit-2-clause-err c =
    let IsRight : Judgement = λ _ l. l ≤ c.args.most in
    let latch = c.latch-item.result in
    let p = err_from_is_err_and c.from_residual-in_err-check_lit-2.result c.from_residual-in_err-check_lit-2.ensures.1 in
    rw (p.1, p.2)
    (flat_map_wrong lits_of IsRight c.args.latches.now c.loop-latch.latch-index latch _ (omega arith) c.latch-item.is c.loop-latch.invariant
    (wrong_right IsRight (latch.lit ∷ []) (latch.next ∷ []) _ c.in_ok-check_lit.ensures.ok c.in_err-check_lit-2.ensures.err))
