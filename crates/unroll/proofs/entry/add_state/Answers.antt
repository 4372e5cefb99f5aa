use Rattle.std.proofs.Common.{◌+◌, ◌<◌, ℤ, [], ◌∷◌, take, length, ap, ◌∙◌, arith, false}
use Rattle.std.proofs.lemmas.List.{get_or_default}
use Rattle.aig_model.specs.WellFormed.{latch_lits}
use Rattle.unroll.specs.Frames.{state_clauses}
use Rattle.unroll.specs.Building.{with_clauses}
use Rattle.unroll.proofs.Growth.{grows}
use Rattle.unroll.proofs.State.{state_more}
use Rattle.unroll.proofs.entry.add_state.Goals as goal

pub loop-place-preserved : goal.loop-place-preserved
loop-place-preserved c =
    let latches = c.args.latches.now in
    let given = c.args.given.now in
    let i = c.loop-place.place in
    let latch = c.index-latches-place.result in
    let bit = c.get.result in
    let inside : i < length given = omega arith in
    let value = c.get.ensures ∙ get_or_default given i false bit inside in
    let here = c.loop-place.formula in
    let added = c.in_ok-add.ensures ∙ ap (λ (l : ℤ). with_clauses here ((l ∷ []) ∷ [])) c.lit_with_value-lit.ensures in
    grows c.args.formula.now here c.add.new.formula (state_clauses (latch_lits (take i latches)) (take i given)) _
    (state_clauses (latch_lits (take (i + 1) latches)) (take (i + 1) given)) c.loop-place.invariant added
    (state_more latches given i latch bit (omega arith) c.requires.size c.index-latches-place.is value)
