use Rattle.std.proofs.Common.{◌≡◌, ◌∷◌, ◌++◌, [], List, get_or, take, sym, ap, ◌∙◌, arith}
use Rattle.std.proofs.lemmas.List.{get_or_read, map_more, take_all}
use Rattle.aig_model.specs.declared.parts.AndGate.{AndGate}
use Rattle.gate_order.specs.SortedGates.{gates_at, gate_at, no_gate}
use Rattle.gate_order.proofs.order.list_gates.Goals as goal

pub loop-place-preserved : goal.loop-place-preserved
loop-place-preserved c =
    let gates = c.args.gates.now in
    let places = c.args.places.now in
    let i = c.loop-place.place-index in
    let read : c.index-gates-place.result ≡ gate_at gates (get_or places i 0) =
    get_or_read gates _ c.index-gates-place.result (c.requires i 0 (omega arith)) c.index-gates-place.is no_gate
    in
    c.in_ok-push.ensures.items
    ∙ (ap (λ (l : List AndGate). l ++ c.index-gates-place.result ∷ []) c.loop-place.invariant
    ∙ (ap (λ g. gates_at gates (take i places) ++ g ∷ []) read
    ∙ sym (map_more (gate_at gates) places i 0 (omega arith))))

pub returns : goal.returns
returns c =
    c.from_vec.ensures ∙ (c.loop-place.invariant ∙ ap (gates_at c.args.gates.now) (take_all c.loop-place.place-index c.args.places.now (omega arith)))
