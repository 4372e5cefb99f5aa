use Rattle.std.proofs.Common.{◌≡◌, ◌<◌, false, length, map, get_or, arith, sym, ap, ◌∙◌}
use Rattle.std.proofs.lemmas.List.{ext_get_or, get_or-map, length-map}
use Rattle.aig_model.specs.Literal.{value_of}
use Rattle.aig_model.specs.WellFormed.{next_lits}
use Rattle.aig_model.specs.declared.parts.Latch.{Latch}
use Rattle.aig_eval.proofs.Sections.{room_for_latches, some_latch}
use Rattle.aig_eval.proofs.state.next_state.Goals as goal

pub value-requires : goal.value-requires
value-requires c =
    let inside : c.loop-place.place < length c.latches-latches.result.now = omega arith in
    let room =
    room_for_latches c.args.circuit.now c.is_well_formed.ensures c.loop-place.place c.get.result.now (rw (← c.latches-latches.ensures) inside) 1 0 (omega arith) in
    rw (c.requires, c.get.ensures, c.latches-latches.ensures) room

pub returns : goal.returns
returns c =
    let values = c.args.values.now in
    let latches = c.latches-latches.result.now in
    let nexts = next_lits latches in
    let size : length c.loop-place.state ≡ length latches = c.loop-place.invariant.0 in
    let count : length nexts ≡ length latches = length-map latches (λ (l : Latch). l.next) in
    rw (← c.latches-latches.ensures)
    (ext_get_or false c.loop-place.state (map (value_of values) nexts)
    (size ∙ sym (length-map nexts (value_of values) ∙ count))
    (λ k below.
    let inside : k < length latches = omega arith in
    let next : get_or nexts k 0 ≡ (get_or latches k some_latch).next = get_or-map (λ (l : Latch). l.next) latches k some_latch 0 inside in
    c.loop-place.invariant.1 k some_latch (omega arith) ∙ sym (get_or-map (value_of values) nexts k 0 false (omega arith) ∙ ap (value_of values) next)))
