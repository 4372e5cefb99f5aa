-- What a file spells and what its first fault is, against what is answered.
use Rattle.std.proofs.Common.{◌≡◌, ℕ, Some, None, Ok, Err, List, ◌⊎◌, refl, ap, inl, inr}
use Rattle.aig_model.specs.declared.parts.Parts.{Parts}
use Rattle.aig_ascii.specs.FirstFaults.{first_unmet, Fails}
use Rattle.aig_ascii.specs.declared.fault.Fault.{Fault}
use Rattle.aig_ascii.specs.declared.fault.Fault.TheVariants as faults
use Rattle.aig_ascii.proofs.FirstFaults.{Unmet, one-unmet, clash, all-met, none-unmet, is-first, first-is}
use Rattle.aig_binary.specs.Aig.{layout_of, parts_in, demands, SpellsCircuit, IsFirstFault, IsFault, Answers}
use Rattle.aig_binary.specs.declared.fault.AigKind.{AigKind}

pub fault-unmet : (bytes : List ℕ) (e : Fault AigKind) → Fails e (first_unmet (demands bytes)) → IsFault bytes e
fault-unmet bytes (faults.At at kind) f = is-first (demands bytes) at kind f
fault-unmet bytes faults.OutOfMemory f = tt

pub spelled : (bytes : List ℕ) (c : Parts) → first_unmet (demands bytes) ≡ None → c ≡ parts_in (layout_of bytes) → SpellsCircuit bytes c
spelled bytes c met is = record { right = all-met (demands bytes) met; parts = is }

pub no-fault : (bytes : List ℕ) (c : Parts) (at : ℕ) (kind : AigKind) → SpellsCircuit bytes c → IsFirstFault bytes at kind → ⊥
no-fault bytes c at kind s f = clash (first_unmet (demands bytes)) (at, kind) (first-is (demands bytes) at kind f) (none-unmet (demands bytes) s.right)

pub no-circuit : (bytes : List ℕ) (e : Fault AigKind) (c : Parts) → Fails e (first_unmet (demands bytes)) → SpellsCircuit bytes c → Answers (Err e) (Ok c)
no-circuit bytes (faults.At at kind) c f s = absurd (clash (first_unmet (demands bytes)) (at, kind) f (none-unmet (demands bytes) s.right))
no-circuit bytes faults.OutOfMemory c f s = inr refl

one-place : (x y : ℕ × AigKind) → x ≡ y → (x.0 ≡ y.0) × (x.1 ≡ y.1)
one-place x y e = (ap (λ (p : ℕ × AigKind). p.0) e, ap (λ (p : ℕ × AigKind). p.1) e)

pub this-fault : (bytes : List ℕ) (e : Fault AigKind) (at : ℕ) (kind : AigKind) → Fails e (first_unmet (demands bytes)) → IsFirstFault bytes at kind → Answers (Err e) (Err (faults.At at kind))
this-fault bytes (faults.At place k) at kind f g =
    let same = one-unmet (first_unmet (demands bytes)) (place, k) (at, kind) f (first-is (demands bytes) at kind g) in
    inl (ap (λ (p : ℕ × AigKind). Err (faults.At p.0 p.1)) same)
this-fault bytes faults.OutOfMemory at kind f g = inr refl

pub one-fault : (bytes : List ℕ) (m n : ℕ) (j k : AigKind) → IsFirstFault bytes m j → IsFirstFault bytes n k → (m ≡ n) × (j ≡ k)
one-fault bytes m n j k p q =
    one-place (m, j) (n, k) (one-unmet (first_unmet (demands bytes)) (m, j) (n, k) (first-is (demands bytes) m j p) (first-is (demands bytes) n k q))

pub some-reading : (bytes : List ℕ) → ((c : Parts) × SpellsCircuit bytes c) ⊎ ((at : ℕ) × (kind : AigKind) × IsFirstFault bytes at kind)
some-reading bytes =
    let step : (o : Unmet AigKind) → first_unmet (demands bytes) ≡ o → ((c : Parts) × SpellsCircuit bytes c) ⊎ ((at : ℕ) × (kind : AigKind) × IsFirstFault bytes at kind) = λ o. elim o as (λ v. first_unmet (demands bytes) ≡ v → ((c : Parts) × SpellsCircuit bytes c) ⊎ ((at : ℕ) × (kind : AigKind) × IsFirstFault bytes at kind)) [
      | None ↦ λ e. inl (parts_in (layout_of bytes), spelled bytes (parts_in (layout_of bytes)) e refl)
      | Some p ↦ λ e. inr (p.0, p.1, is-first (demands bytes) p.0 p.1 e)
    ] in
    step (first_unmet (demands bytes)) refl
