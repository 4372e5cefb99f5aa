-- Clauses are a kept set, or there is one cause why not.
use Rattle.std.proofs.Common.{◌≡◌, ◌≢◌, ◌⊎◌, ℕ, [], refl, ap, subst, inl, inr, Ok, Err, All}
use Rattle.std.proofs.lemmas.List.Elements.{All-get_or}
use Rattle.ketch_base.specs.Exactly.{OkExactly, ErrExactly}
use Rattle.aig_eval.proofs.Lists.{first_once}
use Rattle.inv_cert.specs.Resets.{HoldsAtReset, FailsAtReset}
use Rattle.inv_cert.specs.KeptSets.{KeptClauses, FailsKept, IsKeptSet, IsCause}
use Rattle.inv_cert.specs.declared.fault.KeptFault.{KeptFault}
use Rattle.inv_cert.specs.declared.fault.KeptFault.TheVariants.{Count, Start, Kept, OutOfMemory}

fails_not_all : (s : KeptClauses) (k : ℕ) → FailsAtReset s.circuit s.clauses k → ¬ All (HoldsAtReset s.circuit) s.clauses
fails_not_all s k fails holds = fails.fails (All-get_or (HoldsAtReset s.circuit) s.clauses k [] fails.inside holds)

pub no_cause : (s : KeptClauses) (f : KeptFault) → IsKeptSet s → f ≢ OutOfMemory → ¬ IsCause s f
no_cause s Count h some cause = cause h.count
no_cause s (Start k) h some cause = fails_not_all s k cause.1.here h.starts
no_cause s (Kept k) h some cause = cause.2.here.fails (h.accepted k cause.2.here.inside)
no_cause s OutOfMemory h some cause = some refl

one_cause : (s : KeptClauses) (e f : KeptFault) → e ≢ OutOfMemory → f ≢ OutOfMemory → IsCause s e → IsCause s f → e ≡ f
one_cause s OutOfMemory f some_e some_f ce cf = absurd (some_e refl)
one_cause s e OutOfMemory some_e some_f ce cf = absurd (some_f refl)
one_cause s Count Count some_e some_f ce cf = refl
one_cause s Count (Start k) some_e some_f ce cf = absurd (ce cf.0)
one_cause s Count (Kept k) some_e some_f ce cf = absurd (ce cf.0)
one_cause s (Start j) Count some_e some_f ce cf = absurd (cf ce.0)
one_cause s (Start j) (Start k) some_e some_f ce cf = ap (λ n. Start n) (first_once (FailsAtReset s.circuit s.clauses) j k ce.1 cf.1)
one_cause s (Start j) (Kept k) some_e some_f ce cf = absurd (fails_not_all s j ce.1.here cf.1)
one_cause s (Kept j) Count some_e some_f ce cf = absurd (cf ce.0)
one_cause s (Kept j) (Start k) some_e some_f ce cf = absurd (fails_not_all s k cf.1.here ce.1)
one_cause s (Kept j) (Kept k) some_e some_f ce cf = ap (λ n. Kept n) (first_once (FailsKept s.circuit s.clauses s.kept) j k ce.2 cf.2)

-- a fault is out of memory, or not
or_memory : (e : KeptFault) → (e ≡ OutOfMemory) ⊎ (e ≢ OutOfMemory)
or_memory Count = inr (λ h. cc)
or_memory (Start k) = inr (λ h. cc)
or_memory (Kept k) = inr (λ h. cc)
or_memory OutOfMemory = inl refl

pub refused : {T : Type 0} (s : KeptClauses) (e f : KeptFault) → f ≢ OutOfMemory → IsCause s e → ErrExactly {T = T} OutOfMemory (Err e) f (IsCause s f)
refused {T} s e f some cause = record {
  only = λ same. subst (λ (x : KeptFault). IsCause s x) (let equal : e ≡ f = cc in equal) cause;
  comes = λ other. elim (or_memory e) [
    | inl memory ↦ inr (ap Err memory)
    | inr some_e ↦ inl (ap Err (one_cause s e f some_e some cause other))
  ];
}

pub not_refused : {T : Type 0} (s : KeptClauses) (x : T) (f : KeptFault) → f ≢ OutOfMemory → IsKeptSet s → ErrExactly OutOfMemory (Ok x) f (IsCause s f)
not_refused s x f some h = record {
  only = λ same. absurd (let never : ⊥ = cc in never);
  comes = λ cause. absurd (no_cause s f h some cause);
}

pub refused_is_not_ok : {T : Type 0} (s : KeptClauses) (e : KeptFault) → e ≢ OutOfMemory → IsCause s e → OkExactly {T = T} OutOfMemory (Err e) (IsKeptSet s)
refused_is_not_ok s e some cause = record {
  only = λ ok. absurd (let never : ⊥ = cc in never);
  comes = λ h. absurd (no_cause s e h some cause);
}
