-- No two faults fit the same parts, and none fits a circuit.
use Rattle.std.proofs.Common.{◌≡◌, ◌≢◌, ℕ, ◌⊎◌, inl, inr, refl, ap, All, AllPairs, Result, Ok, Err, IfErr, OnOk}
use Rattle.std.proofs.lemmas.Bool.{false≢true}
use Rattle.aig_model.specs.WellFormed.{literals, definers, uses, defined, IsInRange, IsDefining, IsKnown, IsOrdered, IsCircuit}
use Rattle.aig_model.specs.Faults.{IsFirstWrong, IsNewDefiner, IsMisplaced, IsRangeFault, Says}
use Rattle.aig_model.specs.declared.parts.Parts.{Parts}
use Rattle.aig_model.specs.declared.fault.BuildFault.{BuildFault}
use Rattle.aig_model.specs.declared.fault.BuildFault.TheVariants.{Range, Defined, Undefined, Order, OutOfMemory}
use Rattle.ketch_base.specs.Exactly.{OkExactly, ErrExactly}
use Rattle.ketch_base.specs.First.{IsFirst}
use Rattle.aig_model.proofs.Rightness.{right_has_no_wrong, first_wrong_is_one, first_is_one}
use Rattle.aig_model.proofs.Building.{definers_right}
use Rattle.aig_model.proofs.GateOrder.{ordered_is_placed}

not_range : (c : Parts) (lit : ℕ) → All (IsInRange c.top) (literals c) → ¬ IsRangeFault c lit
not_range c lit all = right_has_no_wrong (λ _ l. IsInRange c.top l) (literals c) lit (λ k h. all k 0 h)

not_defined : (c : Parts) (lit : ℕ) → All IsDefining (definers c) → AllPairs (λ v w. v ≢ w) (defined c) → ¬ IsFirstWrong IsNewDefiner (definers c) lit
not_defined c lit defining once = right_has_no_wrong IsNewDefiner (definers c) lit (definers_right (definers c) defining once)

not_undefined : (c : Parts) (lit : ℕ) → All (IsKnown c) (uses c) → ¬ IsFirstWrong (λ _ l. IsKnown c l) (uses c) lit
not_undefined c lit known = right_has_no_wrong (λ _ l. IsKnown c l) (uses c) lit (λ k h. known k 0 h)

not_order : (c : Parts) (gate : ℕ) → IsOrdered c.gates → ¬ IsFirst (IsMisplaced c.gates) gate
not_order c gate ordered first = ordered_is_placed c.gates gate ordered first.here

-- of a circuit only OutOfMemory can be said
circuit_leaves_memory : (c : Parts) (fault : BuildFault) → IsCircuit c → Says c fault → fault ≡ OutOfMemory
circuit_leaves_memory c (Range lit) well says = absurd (not_range c lit well.in_range says)
circuit_leaves_memory c (Defined lit) well says = absurd (not_defined c lit well.defining well.once says.first)
circuit_leaves_memory c (Undefined lit) well says = absurd (not_undefined c lit well.known says.first)
circuit_leaves_memory c (Order gate) well says = absurd (not_order c gate well.ordered says.first)
circuit_leaves_memory c OutOfMemory well says = refl

-- two faults that fit are one, but for OutOfMemory
one_fault : (c : Parts) (a b : BuildFault) → b ≢ OutOfMemory → Says c a → Says c b → (a ≡ b) ⊎ (a ≡ OutOfMemory)
one_fault c OutOfMemory b other x y = inr refl
one_fault c (Range l) (Range m) other x y = inl (ap Range (first_wrong_is_one (λ _ l. IsInRange c.top l) (literals c) l m x y))
one_fault c (Range l) (Defined m) other x y = absurd (not_range c l y.in_range x)
one_fault c (Range l) (Undefined m) other x y = absurd (not_range c l y.in_range x)
one_fault c (Range l) (Order m) other x y = absurd (not_range c l y.in_range x)
one_fault c (Range l) OutOfMemory other x y = absurd (other refl)
one_fault c (Defined l) (Range m) other x y = absurd (not_range c m x.in_range y)
one_fault c (Defined l) (Defined m) other x y = inl (ap Defined (first_wrong_is_one IsNewDefiner (definers c) l m x.first y.first))
one_fault c (Defined l) (Undefined m) other x y = absurd (not_defined c l y.defining y.once x.first)
one_fault c (Defined l) (Order m) other x y = absurd (not_defined c l y.defining y.once x.first)
one_fault c (Defined l) OutOfMemory other x y = absurd (other refl)
one_fault c (Undefined l) (Range m) other x y = absurd (not_range c m x.in_range y)
one_fault c (Undefined l) (Defined m) other x y = absurd (not_defined c m x.defining x.once y.first)
one_fault c (Undefined l) (Undefined m) other x y = inl (ap Undefined (first_wrong_is_one (λ _ l. IsKnown c l) (uses c) l m x.first y.first))
one_fault c (Undefined l) (Order m) other x y = absurd (not_undefined c l y.known x.first)
one_fault c (Undefined l) OutOfMemory other x y = absurd (other refl)
one_fault c (Order l) (Range m) other x y = absurd (not_range c m x.in_range y)
one_fault c (Order l) (Defined m) other x y = absurd (not_defined c m x.defining x.once y.first)
one_fault c (Order l) (Undefined m) other x y = absurd (not_undefined c m x.known y.first)
one_fault c (Order l) (Order m) other x y = inl (ap Order (first_is_one (IsMisplaced c.gates) l m x.first y.first))
one_fault c (Order l) OutOfMemory other x y = absurd (other refl)

-- ---- where each answer comes
pub ok_exactly : {T : Type 0} (c : Parts) (result : Result T BuildFault) → OnOk result (IsCircuit c) → IfErr result (Says c) → OkExactly OutOfMemory result (IsCircuit c)
ok_exactly c (Ok value) ok err = record { only = λ _. ok; comes = λ _. inl refl }
ok_exactly c (Err fault) ok err = record {
  only = λ h. absurd (false≢true h);
  comes = λ well. inr (ap Err (circuit_leaves_memory c fault well err));
}

pub err_exactly : {T : Type 0} (c : Parts) (fault : BuildFault) (result : Result T BuildFault) → fault ≢ OutOfMemory → OnOk result (IsCircuit c) → IfErr result (Says c)
    → ErrExactly OutOfMemory result fault (Says c fault)
err_exactly c fault (Ok value) other ok err = record {
  only = λ e. (let none = e in cc);
  comes = λ says. absurd (other (circuit_leaves_memory c fault ok says));
}
err_exactly c fault (Err found) other ok err = record {
  only = λ e. (let same : found ≡ fault = cc in rw same at err);
  comes = λ says. elim (one_fault c found fault other err says) [ inl same ↦ inl (ap Err same) | inr memory ↦ inr (ap Err memory) ];
}
