use Rattle.std.proofs.Common.{◌≡◌, ◌||◌, ◌==◌, Bool, true, false, map, refl, sym, ◌∙◌}
use Rattle.std.specs.List.{list_any}
use Rattle.std.proofs.lemmas.Bool.{false≢true}
use Rattle.aig_model.specs.Literal.{var}
use Rattle.aig_model.specs.declared.parts.Latch.{Latch}
use Rattle.aig_model.specs.declared.parts.AndGate.{AndGate}
use Rattle.goal_circuit.proofs.DefinedTest.{any_defined}
use Rattle.goal_circuit.proofs.standing.is_defined.Goals as goal
use Rattle.goal_circuit.proofs.standing.is_defined.Goals.{then-is_input, else-is_input}

first_true : (a b c : Bool) → a ≡ true → true ≡ (a || (b || c))
first_true true b c e = refl
first_true false b c e = absurd (false≢true e)

second_true : (a b c : Bool) → b ≡ true → true ≡ (a || (b || c))
second_true true b c e = refl
second_true false true c e = refl
second_true false false c e = absurd (false≢true e)

third_only : (a b c : Bool) → a ≡ false → b ≡ false → c ≡ (a || (b || c))
third_only false false c e f = refl
third_only false true c e f = absurd (false≢true (sym f))
third_only true b c e f = absurd (false≢true (sym e))

pub returns-then-is_latch : goal.returns-then-is_latch
returns-then-is_latch c =
    let x = c.args.variable in
    let circuit = c.args.circuit.now in
    let input = list_any (λ v. v == x) (map var circuit.inputs) in
    let latch = list_any (λ v. v == x) (map (λ (l : Latch). var l.lit) circuit.latches) in
    let gate = list_any (λ v. v == x) (map (λ (g : AndGate). var g.lhs) circuit.gates) in
    elim c.if-is_input.branch [
      | then-is_input w ↦
          let e : input ≡ true = sym c.is_input.ensures ∙ w.if-is_input.true in
          c.if-is_latch.true ∙ (first_true input latch gate e ∙ sym (any_defined circuit x))
      | else-is_input w ↦
          let e : latch ≡ true = sym w.is_latch.ensures ∙ (sym w.value-is ∙ c.if-is_latch.true) in
          c.if-is_latch.true ∙ (second_true input latch gate e ∙ sym (any_defined circuit x))
    ]

pub returns-else-is_latch : goal.returns-else-is_latch
returns-else-is_latch c =
    let x = c.args.variable in
    let circuit = c.args.circuit.now in
    let input = list_any (λ v. v == x) (map var circuit.inputs) in
    let latch = list_any (λ v. v == x) (map (λ (l : Latch). var l.lit) circuit.latches) in
    let gate = list_any (λ v. v == x) (map (λ (g : AndGate). var g.lhs) circuit.gates) in
    elim c.if-is_input.branch [
      | then-is_input w ↦ absurd (false≢true (sym c.if-is_latch.false ∙ (w.value-is ∙ w.if-is_input.true)))
      | else-is_input w ↦
          let e : input ≡ false = sym c.is_input.ensures ∙ w.if-is_input.false in
          let f : latch ≡ false = sym w.is_latch.ensures ∙ (sym w.value-is ∙ c.if-is_latch.false) in
          c.is_gate.ensures ∙ (third_only input latch gate e f ∙ sym (any_defined circuit x))
    ]
