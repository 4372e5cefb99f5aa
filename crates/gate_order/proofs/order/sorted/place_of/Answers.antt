use Rattle.std.proofs.Common.{rules}
use Rattle.std.proofs.lemmas.List.Sorted.{answers_always}
use Rattle.aig_model.specs.Literal.{var}
use Rattle.aig_model.specs.declared.parts.AndGate.{AndGate}
use Rattle.gate_order.proofs.Gates.{found_place}
use Rattle.gate_order.proofs.order.sorted.place_of.Goals as goal

pub returns : goal.returns
returns c =
    let by_var = c.binary_search_by_key.ensures.position (λ (g : AndGate). var g.lhs) (answers_always _ _ _ (λ f a r g called. search rules)) in
    rw c.ok.ensures.value
    (found_place c.args.sorted.now c.requires (var c.args.lit) _ c.binary_search_by_key.ensures.bound (rw c.var.ensures at by_var))
