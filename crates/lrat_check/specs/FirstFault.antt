-- The first fault of a proof, with its step.
use Rattle.std.specs.Prelude.{ℕ, ◌+◌, Bool, true, false, cond, ltb, ℤ, pos, negsuc, neg_ℤ, List, [], ◌∷◌, ◌++◌, map, Option, Some, None, is_some}
use Rattle.cnf_base.specs.declared.clause_status.ClauseStatus.{ClauseStatus}
use Rattle.cnf_base.specs.declared.clause_status.ClauseStatus.TheVariants.{Satisfied, Falsified, Unit, Unresolved}
use Rattle.cnf_base.specs.Status.{clause_status, is_tautology}
use Rattle.cnf_base.specs.Meaning.{CnfFormula}
use Rattle.lrat_text.specs.declared.proof.LratStep.{LratStep}
use Rattle.lrat_text.specs.declared.proof.LratStep.TheVariants.{Add, Delete}
use Rattle.lrat_check.specs.declared.fault.ProofKind.{ProofKind}
use Rattle.lrat_check.specs.declared.fault.ProofKind.TheVariants.{OldId, UnknownId, NotUnit, NoConflict, NegativeHint, NoEmpty}
use Rattle.lrat_text.specs.Standing.{Standing, start, clause_at, without, after}

-- by the judgement of the clause that a hint names; what the later hints have is given for a clause that is satisfied
-- over and for one that forces a literal
abbrev pub status_fault : ℕ → ClauseStatus → Option ProofKind → (ℤ → Option ProofKind) → Option ProofKind
status_fault id Satisfied satisfied unit = satisfied
status_fault id Falsified satisfied unit = None
status_fault id (Unit l) satisfied unit = unit l
status_fault id Unresolved satisfied unit = Some (NotUnit id)

-- the same, by the clause that lives under the hint
abbrev pub named_fault : ℕ → List ℤ → Option (List ℤ) → Option ProofKind → (ℤ → Option ProofKind) → Option ProofKind
named_fault id assumed None satisfied unit = Some (UnknownId id)
named_fault id assumed (Some clause) satisfied unit = status_fault id (clause_status assumed clause) satisfied unit

-- the first fault of hints that do not end at a false clause
abbrev pub hint_fault : List (ℕ × List ℤ) → List ℤ → List ℤ → Option ProofKind
hint_fault live assumed [] = Some NoConflict
hint_fault live assumed (pos id ∷ hints) = named_fault id assumed (clause_at live id) (hint_fault live assumed hints) (λ l. hint_fault live (assumed ++ l ∷ []) hints)
hint_fault live assumed (negsuc n ∷ hints) = Some NegativeHint

abbrev pub lemma_fault : List (ℕ × List ℤ) → List ℤ → List ℤ → Option ProofKind
lemma_fault live lits hints = cond (is_tautology lits) None (hint_fault live (map neg_ℤ lits) hints)

abbrev pub add_fault : Standing → ℕ → List ℤ → List ℤ → Option ProofKind
add_fault s id lits hints = cond (ltb s.greatest id) (lemma_fault s.live lits hints) (Some OldId)

-- the first id in turn that names no live clause
abbrev pub delete_fault : List (ℕ × List ℤ) → List ℕ → Option ProofKind
delete_fault live [] = None
delete_fault live (id ∷ ids) = cond (is_some (clause_at live id)) (delete_fault (without live id) ids) (Some (UnknownId id))

abbrev pub step_fault : Standing → LratStep → Option ProofKind
step_fault s (Add id lits hints) = add_fault s id lits hints
step_fault s (Delete at ids) = delete_fault s.live ids

abbrev pub is_empty : List ℤ → Bool
is_empty [] = true
is_empty (l ∷ ls) = false

abbrev pub adds_empty : LratStep → Bool
adds_empty (Add id lits hints) = is_empty lits
adds_empty (Delete at ids) = false

-- a step's fault with its number, or else what the later steps have
abbrev pub fault_at : ℕ → Option ProofKind → Option (ℕ × ProofKind) → Option (ℕ × ProofKind)
fault_at step None later = later
fault_at step (Some kind) later = Some (step, kind)

-- the first fault of the steps from number n + 1 on; none where the empty clause is added before it
abbrev pub fault_from : ℕ → Standing → List LratStep → Option (ℕ × ProofKind)
fault_from n s [] = Some (n, NoEmpty)
fault_from n s (step ∷ steps) = fault_at (n + 1) (step_fault s step) (cond (adds_empty step) None (fault_from (n + 1) (after s step) steps))

abbrev pub first_fault : CnfFormula → List LratStep → Option (ℕ × ProofKind)
first_fault formula proof = fault_from 0 (start formula) proof
