use Rattle.std.proofs.Common.{◌≡◌, ◌+◌, ◌<◌, List, length, get_or, take, map, ap, sym, ◌∙◌, subst, arith}
use Rattle.std.proofs.lemmas.List.{take_all}
use Rattle.aig_model.specs.Literal.{var, value_of}
use Rattle.aig_model.specs.declared.parts.Latch.{Latch}
use Rattle.aig_eval.proofs.Sections.{room_for_latches}
use Rattle.inv_prover.proofs.Escaping.{values_of_latches}
use Rattle.inv_prover.proofs.excluded.state_of.Goals as goal

pub value-requires : goal.value-requires
value-requires c =
    let circuit = c.args.circuit.now in
    let item = c.latch-item.result in
    let same : c.as_slice-latch-items.result.now ≡ circuit.latches = c.as_slice-latch-items.ensures ∙ c.latches.ensures in
    let at : item ≡ get_or circuit.latches c.loop-latch.latch-index item = subst (λ (xs : List Latch). item ≡ get_or xs c.loop-latch.latch-index item) same c.latch-item.is in
    let inside : c.loop-latch.latch-index < length circuit.latches = subst (λ (xs : List Latch). c.loop-latch.latch-index < length xs) same c.loop-latch-test.true in
    let room = room_for_latches circuit c.is_well_formed.ensures c.loop-latch.latch-index item inside 0 0 (omega arith) in
    let here : var item.lit < circuit.top + 1 = subst (λ (l : Latch). var l.lit < circuit.top + 1) (sym at) room in
    omega (arith, here, c.requires)

pub returns : goal.returns
returns c =
    let values = c.args.values.now in
    let items = c.as_slice-latch-items.result.now in
    let read = λ (l : Latch). value_of values l.lit in
    let same : items ≡ c.args.circuit.now.latches = c.as_slice-latch-items.ensures ∙ c.latches.ensures in
    let all : take c.loop-latch.latch-index items ≡ items = take_all c.loop-latch.latch-index items (omega arith) in
    c.loop-latch.invariant ∙ ap (map read) (all ∙ same) ∙ values_of_latches values c.args.circuit.now.latches
