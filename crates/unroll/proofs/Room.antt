-- The variables of a circuit have a place in each step of its frames.
use Rattle.std.proofs.Common.{◌≡◌, ℕ, zero, suc, ◌+◌, ◌≤◌, ◌==◌, not, [], ◌∷◌, ◌++◌, get_or, refl, arith, All}
use Rattle.std.specs.List.{list_any, range_with_len}
use Rattle.std.proofs.lemmas.List.Elements.{All-weaker, All-filter, All-from_get_or}
use Rattle.std.proofs.lemmas.Nat.{mul-le}
use Rattle.std.proofs.lemmas.List.{get_or_default}
use Rattle.std.proofs.lemmas.List.FromFn.{length-range_with_len, get_or-range_with_len}
use Rattle.aig_model.specs.Literal.{var}
use Rattle.aig_model.specs.WellFormed.{IsCircuit, IsInRange, literals, latch_literals, gate_literals, defined}
use Rattle.aig_model.specs.declared.parts.AndGate.{AndGate}
use Rattle.aig_model.specs.declared.parts.Latch.{Latch}
use Rattle.aig_model.specs.declared.parts.Parts.{Parts}
use Rattle.aig_model.proofs.Elements.{All-left, All-right, All-flat_map_item}
use Rattle.unroll.specs.Frames.{undefined_vars, vars_before}
use Rattle.unroll.specs.Building.{HasVar, HasLit, HasGate, HasLatch}

-- ---- the literals of a well-formed circuit are of its variables
abbrev pub IsOwn : Parts → ℕ → Type 0
IsOwn c lit = var lit ≤ c.top

all_own : (c : Parts) → IsCircuit c → All (IsOwn c) (literals c)
all_own c ok = All-weaker (IsInRange c.top) (IsOwn c) (λ lit range. omega arith) (literals c) ok.in_range

after_inputs : (c : Parts) → IsCircuit c → All (IsOwn c) (latch_literals c.latches ++ (c.outputs ++ (c.bads ++ (c.constraints ++ gate_literals c.gates))))
after_inputs c ok = All-right (IsOwn c) c.inputs _ (all_own c ok)

at_end : (c : Parts) → IsCircuit c → All (IsOwn c) (c.constraints ++ gate_literals c.gates)
at_end c ok = All-right (IsOwn c) c.bads _ (All-right (IsOwn c) c.outputs _ (All-right (IsOwn c) (latch_literals c.latches) _ (after_inputs c ok)))

pub inputs_own : (c : Parts) → IsCircuit c → All (IsOwn c) c.inputs
inputs_own c ok = All-left (IsOwn c) c.inputs _ (all_own c ok)

pub constraints_own : (c : Parts) → IsCircuit c → All (IsOwn c) c.constraints
constraints_own c ok = All-left (IsOwn c) c.constraints _ (at_end c ok)

pub record OwnsLatch (c : Parts) (l : Latch) : Type 0 where
  pub lit : IsOwn c l.lit
  pub next : IsOwn c l.next

pub latches_own : (c : Parts) → IsCircuit c → All (OwnsLatch c) c.latches
latches_own c ok k d h =
    let l = get_or c.latches k d in
    let parts = All-flat_map_item (λ (l : Latch). l.lit ∷ l.next ∷ []) (IsOwn c) c.latches k l h (get_or_default c.latches k d l h)
    (All-left (IsOwn c) (latch_literals c.latches) _ (after_inputs c ok)) in
    record { lit = parts 0 0 (omega arith); next = parts 1 0 (omega arith) }

pub record OwnsGate (c : Parts) (g : AndGate) : Type 0 where
  pub lhs : IsOwn c g.lhs
  pub left : IsOwn c g.left
  pub right : IsOwn c g.right

pub gates_own : (c : Parts) → IsCircuit c → All (OwnsGate c) c.gates
gates_own c ok k d h =
    let g = get_or c.gates k d in
    let parts = All-flat_map_item (λ (g : AndGate). g.lhs ∷ g.left ∷ g.right ∷ []) (IsOwn c) c.gates k g h (get_or_default c.gates k d g h)
    (All-right (IsOwn c) c.constraints _ (at_end c ok)) in
    record { lhs = parts 0 0 (omega arith); left = parts 1 0 (omega arith); right = parts 2 0 (omega arith) }

-- ---- so they have a place in each step
pub next_before : (c : Parts) (t : ℕ) → vars_before c (t + 1) ≡ vars_before c t + (c.top + 1)
next_before c t = omega arith

pub undefined_below : (c : Parts) → All (λ v. v ≤ c.top) (undefined_vars c)
undefined_below c =
    All-filter (λ v. not (list_any (λ w. w == v) (defined c))) (λ v. v ≤ c.top) (range_with_len 1 c.top)
    (All-from_get_or (λ v. v ≤ c.top) (range_with_len 1 c.top) 0
    (λ i h. omega (arith, get_or-range_with_len 1 c.top i 0 (omega (arith, length-range_with_len 1 c.top)), length-range_with_len 1 c.top)))

pub undefined_have_vars : (c : Parts) (n before : ℕ) → before + c.top + 1 ≤ n → All (HasVar n before) (undefined_vars c)
undefined_have_vars c n before room = All-weaker (λ v. v ≤ c.top) (HasVar n before) (λ v h. omega arith) (undefined_vars c) (undefined_below c)

pub constraints_have_lits : (c : Parts) (n before : ℕ) → IsCircuit c → before + c.top + 1 ≤ n → All (HasLit n before) c.constraints
constraints_have_lits c n before ok room = All-weaker (IsOwn c) (HasLit n before) (λ lit h. omega arith) c.constraints (constraints_own c ok)

pub gates_have_lits : (c : Parts) (n before : ℕ) → IsCircuit c → before + c.top + 1 ≤ n → All (HasGate n before) c.gates
gates_have_lits c n before ok room =
    All-weaker (OwnsGate c) (HasGate n before)
    (λ (g : AndGate) h. record { lhs = omega (arith, h.lhs); left = omega (arith, h.left); right = omega (arith, h.right) }) c.gates (gates_own c ok)

pub latches_have_lits : (c : Parts) (n before : ℕ) → IsCircuit c → before + c.top + 1 ≤ n → All (λ (l : Latch). HasLit n before l.lit) c.latches
latches_have_lits c n before ok room =
    All-weaker (OwnsLatch c) (λ (l : Latch). HasLit n before l.lit) (λ (l : Latch) h. omega (arith, h.lit)) c.latches (latches_own c ok)

pub latches_have_next : (c : Parts) (n earlier before : ℕ) → IsCircuit c → earlier + c.top + 1 ≤ n → before + c.top + 1 ≤ n
    → All (HasLatch n earlier before) c.latches
latches_have_next c n earlier before ok past room =
    All-weaker (OwnsLatch c) (HasLatch n earlier before)
    (λ (l : Latch) h. record { own = omega (arith, h.lit); next = omega (arith, h.next) }) c.latches (latches_own c ok)

pub first_step : (c : Parts) (t : ℕ) → ¬ (t ≡ 0) → c.top + 1 ≤ vars_before c t
first_step c zero later = absurd (later refl)
first_step c (suc t) later = omega arith

pub before_le : (c : Parts) (s t : ℕ) → s ≤ t → vars_before c s ≤ vars_before c t
before_le c s t h = mul-le s (c.top + 1) t (c.top + 1) h (omega arith)
