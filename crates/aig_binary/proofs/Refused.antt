-- What is answered of a circuit that is in the order of a binary file, or isn't.
use Rattle.std.proofs.Common.{◌≡◌, ℕ, Ok, Err, ap, subst, inl}
use Rattle.ketch_base.specs.Exactly.{OkExactly, ErrExactly}
use Rattle.aig_model.specs.declared.parts.Parts.{Parts}
use Rattle.aig_binary.specs.BinaryOrder.{IsBinary, IsNotBinary}
use Rattle.aig_binary.specs.Refusals.{IsRefusal}
use Rattle.aig_binary.specs.declared.fault.WriteAigFault.{WriteAigFault}
use Rattle.aig_binary.specs.declared.fault.WriteAigFault.TheVariants.{NotBinary, OutOfMemory}
use Rattle.aig_binary.proofs.Misplaced.{not-both, one-refusal}

pub refused-ok : {T : Type 0} (c : Parts) (e : WriteAigFault) → IsRefusal c e → OkExactly {T = T} OutOfMemory (Err e) (IsBinary c)
refused-ok c (NotBinary lit) r = record { only = λ never. absurd (cc); comes = λ b. absurd (not-both c lit b r) }
refused-ok c OutOfMemory r = absurd r

pub refused-so : {T : Type 0} (c : Parts) (e : WriteAigFault) (lit : ℕ) → IsRefusal c e → ErrExactly {T = T} OutOfMemory (Err e) (NotBinary lit) (IsNotBinary c lit)
refused-so c (NotBinary l) lit r = record {
  only = λ e. let same : l ≡ lit = cc in subst (IsNotBinary c) same r;
  comes = λ n. inl (ap (λ (x : ℕ). Err (NotBinary x)) (one-refusal c l lit r n));
}
refused-so c OutOfMemory lit r = absurd r

pub written-so : {T : Type 0} (c : Parts) (x : T) (lit : ℕ) → IsBinary c → ErrExactly {T = T} OutOfMemory (Ok x) (NotBinary lit) (IsNotBinary c lit)
written-so c x lit b = record { only = λ never. absurd (cc); comes = λ n. absurd (not-both c lit b n) }
