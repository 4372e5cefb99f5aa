use Rattle.std.proofs.Common.{◌≡◌, ◌∙◌, subst, ℕ, List, Option, None, Some, IfSome}
use Rattle.aig_ascii.specs.Aag.{SpellsCircuit}
use Rattle.aig_model.specs.declared.parts.Parts.{Parts}
use Rattle.engine_bench.proofs.files.read_circuit.Goals as goal

-- what is read is the text, where that is told
spelled : (text : Option (List ℕ)) (bytes read : List ℕ) (c : Parts) → read ≡ bytes → SpellsCircuit read c → IfSome text (λ t. bytes ≡ t) → IfSome text (λ t. SpellsCircuit t c)
spelled None bytes read c is spells told = told
spelled (Some t) bytes read c is spells told = subst (λ (xs : List ℕ). SpellsCircuit xs c) (is ∙ told) spells

pub returns : goal.returns
returns g c =
    spelled ((g.D.Desk.state c.args.desk.now).text c.args.name.now) c.in_ok-bytes.bytes.items c.deref.result.now c.in_ok-circuit.circuit c.deref.ensures.value
    c.in_ok-circuit.ensures.circuit c.in_ok-bytes.ensures.told
