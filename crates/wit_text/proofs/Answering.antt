-- What a call returns that answers what is read of a text.
use Rattle.std.proofs.Common.{◌≡◌, ℕ, ◌⊎◌, Result, Ok, Err, IfOk, IfErr, inl, inr, List, length, sym, ap, ◌∙◌, subst, arith}
use Rattle.text_words.specs.Text.{Rest, whole}
use Rattle.wit_text.specs.declared.witness.Witness.{Witness}
use Rattle.wit_text.specs.declared.fault.WitKind.{WitKind}
use Rattle.wit_text.specs.declared.fault.WitFault.{WitFault}
use Rattle.wit_text.specs.declared.fault.WitFault.TheVariants as faults
use Rattle.wit_text.specs.Reading.{there, end, reading}
use Rattle.wit_text.specs.WitnessText.{SpellsWitness, lines_there, IsFirstFault, IsFault, Answers}
use Rattle.wit_text.proofs.OneReading.{witness-read, fault-read, Tells, reading-tells}

abbrev Read : (latches inputs : ℕ) → List ℕ → Result Witness WitFault
Read latches inputs text = reading latches inputs (length text) (lines_there text)

at-end : (text : List ℕ) → end (whole text) ≡ length text
at-end text = omega arith

-- the reading of the lines from a text's beginning is that of the text
pub whole-read : (latches inputs : ℕ) (text : List ℕ) (start : Rest) (r : Result Witness WitFault) → start ≡ whole text → Answers r (reading latches inputs (end start) (there start)) → Answers r (Read latches inputs text)
whole-read latches inputs text start r is a =
    let all : reading latches inputs (end start) (there start) ≡ Read latches inputs text =
    ap (λ (x : Rest). reading latches inputs (end x) (there x)) is ∙ ap (λ (n : ℕ). reading latches inputs n (lines_there text)) (at-end text) in
    subst (Answers r) all a

ok-tells : (latches inputs : ℕ) (text : List ℕ) (r : Result Witness WitFault) → Tells latches inputs text r → IfOk r (SpellsWitness latches inputs text)
ok-tells latches inputs text (Ok w) t = t
ok-tells latches inputs text (Err fault) t = tt

err-tells : (latches inputs : ℕ) (text : List ℕ) (r : Result Witness WitFault) → Tells latches inputs text r → IfErr r (IsFault latches inputs text)
err-tells latches inputs text (Ok w) t = tt
err-tells latches inputs text (Err (faults.At at kind)) t = t
err-tells latches inputs text (Err faults.OutOfMemory) t = tt

pub witness-spelled : (latches inputs : ℕ) (text : List ℕ) (r : Result Witness WitFault) → Answers r (Read latches inputs text) → IfOk r (SpellsWitness latches inputs text)
witness-spelled latches inputs text r (inl e) = subst (λ (x : Result Witness WitFault). IfOk x (SpellsWitness latches inputs text)) (sym e) (ok-tells latches inputs text (Read latches inputs text) (reading-tells latches inputs text))
witness-spelled latches inputs text r (inr e) = subst (λ (x : Result Witness WitFault). IfOk x (SpellsWitness latches inputs text)) (sym e) tt

pub fault-first : (latches inputs : ℕ) (text : List ℕ) (r : Result Witness WitFault) → Answers r (Read latches inputs text) → IfErr r (IsFault latches inputs text)
fault-first latches inputs text r (inl e) = subst (λ (x : Result Witness WitFault). IfErr x (IsFault latches inputs text)) (sym e) (err-tells latches inputs text (Read latches inputs text) (reading-tells latches inputs text))
fault-first latches inputs text r (inr e) = subst (λ (x : Result Witness WitFault). IfErr x (IsFault latches inputs text)) (sym e) tt

pub witness-answered : (latches inputs : ℕ) (text : List ℕ) (r : Result Witness WitFault) (w : Witness) → Answers r (Read latches inputs text) → SpellsWitness latches inputs text w → Answers r (Ok w)
witness-answered latches inputs text r w a s = subst (Answers r) (witness-read latches inputs text w s) a

pub fault-answered : (latches inputs : ℕ) (text : List ℕ) (r : Result Witness WitFault) (at : ℕ) (kind : WitKind) → Answers r (Read latches inputs text) → IsFirstFault latches inputs text at kind
    → Answers r (Err (faults.At at kind))
fault-answered latches inputs text r at kind a f = subst (Answers r) (fault-read latches inputs text at kind f) a

-- ---- the laws

some-way : (latches inputs : ℕ) (text : List ℕ) (r : Result Witness WitFault) → Tells latches inputs text r
    → ((w : Witness) × SpellsWitness latches inputs text w) ⊎ ((at : ℕ) × (kind : WitKind) × IsFirstFault latches inputs text at kind)
some-way latches inputs text (Ok w) t = inl (w, t)
some-way latches inputs text (Err (faults.At at kind)) t = inr (at, kind, t)
some-way latches inputs text (Err faults.OutOfMemory) t = absurd t

pub some-reading : (latches inputs : ℕ) (text : List ℕ) → ((w : Witness) × SpellsWitness latches inputs text w) ⊎ ((at : ℕ) × (kind : WitKind) × IsFirstFault latches inputs text at kind)
some-reading latches inputs text = some-way latches inputs text (Read latches inputs text) (reading-tells latches inputs text)

same-witness : (v w : Witness) → ◌≡◌ {A = Result Witness WitFault} (Ok v) (Ok w) → v ≡ w
same-witness v w e = ap (λ (r : Result Witness WitFault). elim r as (λ _. Witness) [ Ok x ↦ x | Err x ↦ v ]) e

pub one-witness : (latches inputs : ℕ) (text : List ℕ) (v w : Witness) → SpellsWitness latches inputs text v → SpellsWitness latches inputs text w → v ≡ w
one-witness latches inputs text v w s t = same-witness v w (sym (witness-read latches inputs text v s) ∙ witness-read latches inputs text w t)

abbrev place_of : Result Witness WitFault → ℕ × WitKind → ℕ × WitKind
place_of (Ok w) d = d
place_of (Err (faults.At at kind)) d = (at, kind)
place_of (Err faults.OutOfMemory) d = d

pub one-fault : (latches inputs : ℕ) (text : List ℕ) (m n : ℕ) (j k : WitKind) → IsFirstFault latches inputs text m j → IsFirstFault latches inputs text n k → (m ≡ n) × (j ≡ k)
one-fault latches inputs text m n j k f g =
    let same = ap (λ (r : Result Witness WitFault). place_of r (m, j)) (sym (fault-read latches inputs text m j f) ∙ fault-read latches inputs text n k g) in
    (ap (λ (x : ℕ × WitKind). x.0) same, ap (λ (x : ℕ × WitKind). x.1) same)

pub not-both : (latches inputs : ℕ) (text : List ℕ) (w : Witness) (at : ℕ) (kind : WitKind) → SpellsWitness latches inputs text w → IsFirstFault latches inputs text at kind → ⊥
not-both latches inputs text w at kind s f = let e = sym (witness-read latches inputs text w s) ∙ fault-read latches inputs text at kind f in cc
