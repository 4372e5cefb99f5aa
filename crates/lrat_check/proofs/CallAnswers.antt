-- What follows from a call's answer by the first fault.
use Rattle.std.proofs.Common.{◌≡◌, ℕ, Option, None, Result, Ok, Err, MatchResult, OnOk, refl}
use Rattle.std.specs.Prelude.{IsOkUnless}
use Rattle.lrat_check.specs.declared.fault.ProofKind.{ProofKind}
use Rattle.lrat_check.specs.declared.fault.ProofFault.{ProofFault}
use Rattle.lrat_check.specs.declared.fault.ProofFault.TheVariants.{At, OutOfMemory}
use Rattle.lrat_check.specs.declared.fault.SpentFault.{SpentFault}
use Rattle.lrat_check.specs.declared.fault.SpentFault.TheVariants.{Proof, Lemma, Count, OutOfMemory as NoMemory}
use Rattle.lrat_check.specs.Answers.{IsProofFault}
use Rattle.lrat_check.specs.SpentFault.{IsSpentFault}

pub OnOk-from_answer : {T : Type 0} (r : Result T ProofFault) (first : Option (ℕ × ProofKind)) (P : Type 0) → MatchResult r (λ _. first ≡ None) (IsProofFault first) → (first ≡ None → P) → OnOk r P
OnOk-from_answer (Ok x) first P h f = f h
OnOk-from_answer (Err e) first P h f = tt

pub IsOkUnless-from_answer : {T : Type 0} (r : Result T ProofFault) (first : Option (ℕ × ProofKind)) → MatchResult r (λ _. first ≡ None) (IsProofFault first) → first ≡ None → IsOkUnless r OutOfMemory
IsOkUnless-from_answer (Ok x) first h n = tt
IsOkUnless-from_answer (Err (At step kind)) first h n = cc
IsOkUnless-from_answer (Err OutOfMemory) first h n = refl

pub OnOk-from_spent_answer : {T : Type 0} (r : Result T SpentFault) (first : Option SpentFault) (P : Type 0) → MatchResult r (λ _. first ≡ None) (IsSpentFault first) → (first ≡ None → P) → OnOk r P
OnOk-from_spent_answer (Ok x) first P h f = f h
OnOk-from_spent_answer (Err e) first P h f = tt

pub IsOkUnless-from_spent_answer : {T : Type 0} (r : Result T SpentFault) (first : Option SpentFault) → MatchResult r (λ _. first ≡ None) (IsSpentFault first) → first ≡ None → IsOkUnless r NoMemory
IsOkUnless-from_spent_answer (Ok x) first h n = tt
IsOkUnless-from_spent_answer (Err (Proof step)) first h n = cc
IsOkUnless-from_spent_answer (Err (Lemma step)) first h n = cc
IsOkUnless-from_spent_answer (Err Count) first h n = cc
IsOkUnless-from_spent_answer (Err NoMemory) first h n = refl
