-- What a well-formed circuit says of each of its sections.
use Rattle.std.proofs.Common.{◌≡◌, ◌≢◌, ℕ, ◌+◌, ◌<◌, List, [], ◌∷◌, ◌++◌, map, ap, ◌∙◌, subst, arith, All, AllPairs, Contains}
use Rattle.std.proofs.lemmas.List.{map-append, get_or-map, length-map}
use Rattle.std.proofs.lemmas.List.Elements.{All-weaker, All-map}
use Rattle.std.specs.List.{flat_map}
use Rattle.aig_model.specs.Literal.{var}
use Rattle.aig_model.specs.WellFormed.{IsCircuit, IsInRange, IsDefining, latch_lits, left_sides, literals, defined}
use Rattle.aig_model.specs.declared.parts.Latch.{Latch}
use Rattle.aig_model.specs.declared.parts.AndGate.{AndGate}
use Rattle.aig_model.specs.declared.parts.Parts.{Parts}
use Rattle.aig_model.specs.declared.parts.Reset.TheVariants.{Free}
use Rattle.aig_eval.specs.Filling.{AreAssignable, AreSolvable, IsInside}
use Rattle.aig_model.proofs.Elements.{All-left, All-right}
use Rattle.aig_eval.proofs.Lists.{All-flat_map, AllPairs-left, AllPairs-right, apart}

-- the literals of a latch and of a gate, as `literals` lists them
abbrev pub latch_parts : Latch → List ℕ
latch_parts l = l.lit ∷ l.next ∷ []

abbrev pub gate_parts : AndGate → List ℕ
gate_parts g = g.lhs ∷ g.left ∷ g.right ∷ []

-- some latch and some gate, where a list is read with a default
abbrev pub some_latch : Latch
some_latch = record { lit = 0; next = 0; reset = Free }

abbrev pub some_gate : AndGate
some_gate = record { lhs = 0; left = 0; right = 0 }

-- ---- the variables of the literals stand in every assignment
abbrev pub HasRoom : Parts → ℕ → Type 0
HasRoom c lit = var lit < c.top + 1

room : (c : Parts) → IsCircuit c → All (HasRoom c) (literals c)
room c ok = All-weaker (IsInRange c.top) (HasRoom c) (λ lit range. omega arith) (literals c) ok.in_range

room_after_inputs : (c : Parts) → IsCircuit c
    → All (HasRoom c) (flat_map latch_parts c.latches ++ (c.outputs ++ (c.bads ++ (c.constraints ++ flat_map gate_parts c.gates))))
room_after_inputs c ok = All-right (HasRoom c) c.inputs _ (room c ok)

room_at_end : (c : Parts) → IsCircuit c → All (HasRoom c) (c.constraints ++ flat_map gate_parts c.gates)
room_at_end c ok =
    All-right (HasRoom c) c.bads _ (All-right (HasRoom c) c.outputs _ (All-right (HasRoom c) (flat_map latch_parts c.latches) _ (room_after_inputs c ok)))

pub room_for_inputs : (c : Parts) → IsCircuit c → All (HasRoom c) c.inputs
room_for_inputs c ok = All-left (HasRoom c) c.inputs _ (room c ok)

pub room_for_latches : (c : Parts) → IsCircuit c → All (λ l. All (HasRoom c) (latch_parts l)) c.latches
room_for_latches c ok = All-flat_map (HasRoom c) latch_parts c.latches (All-left (HasRoom c) (flat_map latch_parts c.latches) _ (room_after_inputs c ok))

pub room_for_constraints : (c : Parts) → IsCircuit c → All (HasRoom c) c.constraints
room_for_constraints c ok = All-left (HasRoom c) c.constraints _ (room_at_end c ok)

pub room_for_gates : (c : Parts) → IsCircuit c → All (IsInside (c.top + 1)) c.gates
room_for_gates c ok k d l =
    let parts = All-flat_map (HasRoom c) gate_parts c.gates (All-right (HasRoom c) c.constraints _ (room_at_end c ok)) k d l in
    record { lhs = parts 0 0 (omega arith); left = parts 1 0 (omega arith); right = parts 2 0 (omega arith) }

-- ---- the sections that define variables
abbrev Differ : List ℕ → Type 0
Differ xs = AllPairs (λ v w. v ≢ w) xs

pub defined_parts : (c : Parts) → defined c ≡ map var c.inputs ++ (map var (latch_lits c.latches) ++ map var (left_sides c.gates))
defined_parts c =
    map-append var c.inputs (latch_lits c.latches ++ left_sides c.gates)
    ∙ ap (λ xs. map var c.inputs ++ xs) (map-append var (latch_lits c.latches) (left_sides c.gates))

differ : (c : Parts) → IsCircuit c → Differ (map var c.inputs ++ (map var (latch_lits c.latches) ++ map var (left_sides c.gates)))
differ c ok = subst Differ (defined_parts c) ok.once

pub inputs_apart : (c : Parts) → IsCircuit c → (v : ℕ) → Contains (map var c.inputs) v
    → ¬ Contains (map var (latch_lits c.latches) ++ map var (left_sides c.gates)) v
inputs_apart c ok = apart (map var c.inputs) (map var (latch_lits c.latches) ++ map var (left_sides c.gates)) (differ c ok)

pub latches_apart : (c : Parts) → IsCircuit c → (v : ℕ) → Contains (map var (latch_lits c.latches)) v → ¬ Contains (map var (left_sides c.gates)) v
latches_apart c ok =
    apart (map var (latch_lits c.latches)) (map var (left_sides c.gates)) (AllPairs-right (λ v w. v ≢ w) (map var c.inputs) _ (differ c ok))

defining_after_inputs : (c : Parts) → IsCircuit c → All IsDefining (latch_lits c.latches ++ left_sides c.gates)
defining_after_inputs c ok = All-right IsDefining c.inputs _ ok.defining

pub assignable_inputs : (c : Parts) → IsCircuit c → AreAssignable (c.top + 1) c.inputs
assignable_inputs c ok = record {
  defining = All-left IsDefining c.inputs _ ok.defining;
  once = AllPairs-left (λ v w. v ≢ w) (map var c.inputs) _ (differ c ok);
  inside = room_for_inputs c ok;
}

pub assignable_latches : (c : Parts) → IsCircuit c → AreAssignable (c.top + 1) (latch_lits c.latches)
assignable_latches c ok = record {
  defining = All-left IsDefining (latch_lits c.latches) _ (defining_after_inputs c ok);
  once = AllPairs-left (λ v w. v ≢ w) (map var (latch_lits c.latches)) _ (AllPairs-right (λ v w. v ≢ w) (map var c.inputs) _ (differ c ok));
  inside = All-map (HasRoom c) (λ (l : Latch). l.lit) c.latches (λ k d l. room_for_latches c ok k d l 0 0 (omega arith));
}

pub solvable_gates : (c : Parts) → IsCircuit c → AreSolvable (c.top + 1) c.gates
solvable_gates c ok = record {
  defining = λ k d l.
      let read = get_or-map (λ (g : AndGate). g.lhs) c.gates k d d.lhs l in
      rw read at (All-right IsDefining (latch_lits c.latches) _ (defining_after_inputs c ok) k d.lhs (omega (arith, length-map c.gates (λ (g : AndGate). g.lhs))));
  once = AllPairs-right (λ v w. v ≢ w) (map var (latch_lits c.latches)) _ (AllPairs-right (λ v w. v ≢ w) (map var c.inputs) _ (differ c ok));
  inside = room_for_gates c ok;
  ordered = ok.ordered;
}
