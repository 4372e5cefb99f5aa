-- A circuit's text is read one way, in either format.
use Rattle.std.proofs.Common.{◌≡◌, ℕ, Bool, true, false, List, sym, ap, ◌∙◌, subst}
use Rattle.aig_model.specs.declared.parts.Parts.{Parts}
use Rattle.aig_model.specs.WellFormed.{IsCircuit}
use Rattle.aig_ascii.specs.Aag as aag
use Rattle.aig_ascii.specs.declared.fault.AagKind.{AagKind}
use Rattle.aig_ascii.proofs.RightParts.{text-apart}
use Rattle.aig_ascii.proofs.FirstFaults.{none-unmet}
use Rattle.aig_ascii.proofs.CircuitsAndFaults as ascii
use Rattle.aig_ascii.proofs.Texts as ascii_texts
use Rattle.aig_binary.specs.Aig as aig
use Rattle.aig_binary.specs.declared.fault.AigKind.{AigKind}
use Rattle.aig_binary.proofs.Answering as binary
use Rattle.aig_binary.proofs.RightFile.{file-circuit}
use Rattle.command_words.specs.declared.stop.CircuitKind.{CircuitKind}
use Rattle.command_words.specs.declared.stop.CircuitKind.TheVariants as kinds
use Rattle.cover_run.specs.CircuitText.{is_binary, SpellsIn, IsFirstFaultIn, SpellsCircuit, IsFirstFault}

one_in : (format : Bool) (t : List ℕ) (c d : Parts) → SpellsIn format t c → SpellsIn format t d → c ≡ d
one_in true t c d s r = s.parts ∙ sym r.parts
one_in false t c d s r = ascii.one-circuit t c d (text-apart t (none-unmet (aag.demands t) s.right)) s r

pub one-circuit : (t : List ℕ) (c d : Parts) → SpellsCircuit t c → SpellsCircuit t d → c ≡ d
one-circuit t c d s r = one_in (is_binary t) t c d s r

no_fault_in : (format : Bool) (t : List ℕ) (c : Parts) (at : ℕ) (kind : CircuitKind) → SpellsIn format t c → IsFirstFaultIn format t at kind → ⊥
no_fault_in true t c at (kinds.Ascii k) s f = absurd f
no_fault_in true t c at (kinds.Binary k) s f = binary.no-fault t c at k s f
no_fault_in false t c at (kinds.Ascii k) s f = ascii.no-fault t c at k s f
no_fault_in false t c at (kinds.Binary k) s f = absurd f

pub no-fault : (t : List ℕ) (c : Parts) (at : ℕ) (kind : CircuitKind) → SpellsCircuit t c → IsFirstFault t at kind → ⊥
no-fault t c at kind s f = no_fault_in (is_binary t) t c at kind s f

one_fault_in : (format : Bool) (t : List ℕ) (m n : ℕ) (j k : CircuitKind) → IsFirstFaultIn format t m j → IsFirstFaultIn format t n k → (m ≡ n) × (j ≡ k)
one_fault_in true t m n (kinds.Ascii j) k f g = absurd f
one_fault_in true t m n (kinds.Binary j) (kinds.Ascii k) f g = absurd g
one_fault_in true t m n (kinds.Binary j) (kinds.Binary k) f g =
    let same = binary.one-fault t m n j k f g in (same.0, ap (λ (x : AigKind). kinds.Binary x) same.1)
one_fault_in false t m n (kinds.Binary j) k f g = absurd f
one_fault_in false t m n (kinds.Ascii j) (kinds.Binary k) f g = absurd g
one_fault_in false t m n (kinds.Ascii j) (kinds.Ascii k) f g =
    let same = ascii.one-fault t m n j k f g in (same.0, ap (λ (x : AagKind). kinds.Ascii x) same.1)

pub one-fault : (t : List ℕ) (m n : ℕ) (j k : CircuitKind) → IsFirstFault t m j → IsFirstFault t n k → (m ≡ n) × (j ≡ k)
one-fault t m n j k f g = one_fault_in (is_binary t) t m n j k f g

circuit_in : (format : Bool) (t : List ℕ) (c : Parts) → SpellsIn format t c → IsCircuit c
circuit_in true t c s = subst IsCircuit (sym s.parts) (file-circuit t (none-unmet (aig.demands t) s.right))
circuit_in false t c s = ascii_texts.is-circuit t c s

pub is-circuit : (t : List ℕ) (c : Parts) → SpellsCircuit t c → IsCircuit c
is-circuit t c s = circuit_in (is_binary t) t c s
