-- What a call returns that gives what a text spells, or its first fault.
use Rattle.std.proofs.Common.{◌≡◌, ℕ, Result, Ok, Err, List, refl, sym, ap, ◌∙◌, subst, inl, inr}
use Rattle.std.specs.Result.{IsErrAnd}
use Rattle.aig_model.specs.SignalList.{SignalList}
use Rattle.aig_model.specs.declared.parts.Parts.{Parts}
use Rattle.signal_list.specs.declared.fault.SigKind.{SigKind}
use Rattle.signal_list.specs.declared.fault.SigFault.{SigFault}
use Rattle.signal_list.specs.declared.fault.SigFault.TheVariants as faults
use Rattle.signal_list.specs.SignalText.{SpellsSignals, IsFirstFault, IsFault, Answers}
use Rattle.signal_list.proofs.OneReading.{one-list, one-fault, not-both}

error-of : (r : Result SignalList SigFault) (fault : SigFault) → IsErrAnd r (λ e. e ≡ fault) → Err fault ≡ r
error-of (Ok s) fault is = absurd is
error-of (Err e) fault is = ap (λ (x : SigFault). Err x) (sym is)

pub list-answered : (c : Parts) (text lits wanted : List ℕ) (s : SignalList) → s ≡ record { circuit = c; lits = lits } → SpellsSignals c text lits → SpellsSignals c text wanted
    → Answers (Ok s) (Ok (record { circuit = c; lits = wanted }))
list-answered c text lits wanted s is f g =
    let of : List ℕ → SignalList = λ ls. record { circuit = c; lits = ls } in
    inl (ap (λ (x : SignalList). Ok x) (is ∙ ap of (one-list c text lits wanted f g)))

fault-for-list : (c : Parts) (text wanted : List ℕ) (fault : SigFault) → IsFault c text fault → SpellsSignals c text wanted → Answers (Err fault) (Ok (record { circuit = c; lits = wanted }))
fault-for-list c text wanted (faults.At line kind) f s = absurd (not-both c text wanted line kind s f)
fault-for-list c text wanted faults.OutOfMemory f s = inr refl

pub no-list : (c : Parts) (text wanted : List ℕ) (r : Result SignalList SigFault) (fault : SigFault) → IsErrAnd r (λ e. e ≡ fault) → IsFault c text fault → SpellsSignals c text wanted
    → Answers r (Ok (record { circuit = c; lits = wanted }))
no-list c text wanted r fault is f s =
    subst (λ (q : Result SignalList SigFault). Answers q (Ok (record { circuit = c; lits = wanted }))) (error-of r fault is) (fault-for-list c text wanted fault f s)

fault-for-fault : (c : Parts) (text : List ℕ) (line : ℕ) (kind : SigKind) (fault : SigFault) → IsFault c text fault → IsFirstFault c text line kind → Answers (Err fault) (Err (faults.At line kind))
fault-for-fault c text line kind (faults.At n k) f g =
    let same = one-fault c text n line k kind f g in
    inl (ap (λ (m : ℕ). Err (faults.At m k)) same.0 ∙ ap (λ (l : SigKind). Err (faults.At line l)) same.1)
fault-for-fault c text line kind faults.OutOfMemory f g = inr refl

pub fault-answered : (c : Parts) (text : List ℕ) (line : ℕ) (kind : SigKind) (r : Result SignalList SigFault) (fault : SigFault) → IsErrAnd r (λ e. e ≡ fault) → IsFault c text fault
    → IsFirstFault c text line kind → Answers r (Err (faults.At line kind))
fault-answered c text line kind r fault is f g =
    subst (λ (q : Result SignalList SigFault). Answers q (Err (faults.At line kind))) (error-of r fault is) (fault-for-fault c text line kind fault f g)
