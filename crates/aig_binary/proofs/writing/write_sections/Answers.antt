use Rattle.std.proofs.Common.{◌≤◌, List, All, sym, ◌∙◌, subst, arith}
use Rattle.std.proofs.lemmas.List.Elements.{All-from_recursion}
use Rattle.text_words.proofs.Written.{each-weaker}
use Rattle.aig_model.specs.declared.parts.AndGate.{AndGate}
use Rattle.aig_binary.specs.CircuitFile.{larger_input}
use Rattle.aig_binary.proofs.InputsBelow.{IsAbove, inputs-below}
use Rattle.aig_binary.proofs.writing.write_sections.Goals as goal

pub write_gates-requires : goal.write_gates-requires
write_gates-requires c =
    let gates = c.args.circuit.now.gates in
    let below = inputs-below c.args.circuit.now c.is_well_formed.ensures c.requires in
    let each = All-from_recursion (λ (g : AndGate). larger_input g ≤ g.lhs) gates (each-weaker IsAbove (λ (g : AndGate). larger_input g ≤ g.lhs) (λ g a. omega (arith, a.left, a.right)) gates below) in
    subst (λ (gs : List AndGate). All (λ (g : AndGate). larger_input g ≤ g.lhs) gs) (sym (c.as_slice-gates.ensures ∙ c.gates.ensures)) each
