-- A single step never lacks the empty clause.
use Rattle.std.proofs.Common.{◌≡◌, ℕ, ltb, ℤ, pos, negsuc, neg_ℤ, List, [], ◌∷◌, ◌++◌, map, Option, Some, None, is_some, inl, inr}
use Rattle.std.proofs.lemmas.Bool.{cases_Bool}
use Rattle.cnf_base.specs.declared.clause_status.ClauseStatus.{ClauseStatus}
use Rattle.cnf_base.specs.declared.clause_status.ClauseStatus.TheVariants.{Satisfied, Falsified, Unit, Unresolved}
use Rattle.cnf_base.specs.Status.{clause_status, is_tautology}
use Rattle.lrat_check.specs.declared.fault.ProofKind.{ProofKind}
use Rattle.lrat_check.specs.declared.fault.ProofKind.TheVariants.{NoEmpty}
use Rattle.lrat_text.specs.Standing.{Standing, clause_at, without}
use Rattle.lrat_check.specs.FirstFault.{status_fault, named_fault, hint_fault, add_fault, delete_fault}

status_kind : (id : ℕ) (j : ClauseStatus) (satisfied : Option ProofKind) (unit : ℤ → Option ProofKind) → (satisfied ≡ Some NoEmpty → ⊥) → ((l : ℤ) → unit l ≡ Some NoEmpty → ⊥) → status_fault id j satisfied unit ≡ Some NoEmpty → ⊥
status_kind id Satisfied satisfied unit p f h = p h
status_kind id Falsified satisfied unit p f h = cc
status_kind id (Unit l) satisfied unit p f h = f l h
status_kind id Unresolved satisfied unit p f h = cc

named_kind : (id : ℕ) (assumed : List ℤ) (o : Option (List ℤ)) (satisfied : Option ProofKind) (unit : ℤ → Option ProofKind) → (satisfied ≡ Some NoEmpty → ⊥) → ((l : ℤ) → unit l ≡ Some NoEmpty → ⊥) → named_fault id assumed o satisfied unit ≡ Some NoEmpty → ⊥
named_kind id assumed None satisfied unit p f h = cc
named_kind id assumed (Some clause) satisfied unit p f h = status_kind id (clause_status assumed clause) satisfied unit p f h

hint_kind : (live : List (ℕ × List ℤ)) (hints assumed : List ℤ) → hint_fault live assumed hints ≡ Some NoEmpty → ⊥
hint_kind live [] assumed h = cc
hint_kind live (pos id ∷ hints) assumed h =
    named_kind id assumed (clause_at live id) (hint_fault live assumed hints) (λ l. hint_fault live (assumed ++ l ∷ []) hints) (hint_kind live hints assumed) (λ l. hint_kind live hints (assumed ++ l ∷ [])) h
hint_kind live (negsuc n ∷ hints) assumed h = cc

pub add_kind : (s : Standing) (id : ℕ) (lits hints : List ℤ) → add_fault s id lits hints ≡ Some NoEmpty → ⊥
add_kind s id lits hints h =
    elim (cases_Bool (ltb s.greatest id)) [
      | inl newer ↦ elim (cases_Bool (is_tautology lits)) [
        | inl both ↦ (let k = rw (newer, both) at h in cc)
        | inr plain ↦ hint_kind s.live hints (map neg_ℤ lits) (rw (newer, plain) at h)
      ]
      | inr old ↦ (let k = rw old at h in cc)
    ]

pub delete_kind : (live : List (ℕ × List ℤ)) (ids : List ℕ) → delete_fault live ids ≡ Some NoEmpty → ⊥
delete_kind live [] h = cc
delete_kind live (id ∷ ids) h =
    elim (cases_Bool (is_some (clause_at live id))) [
      | inl there ↦ delete_kind (without live id) ids (rw there at h)
      | inr gone ↦ (let k = rw gone at h in cc)
    ]
