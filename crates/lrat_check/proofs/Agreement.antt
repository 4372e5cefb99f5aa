-- A proof is accepted exactly where it has no first fault.
use Rattle.std.proofs.Common.{◌≡◌, ◌↔◌, ℕ, ◌+◌, true, cond, ltb, ℤ, pos, negsuc, neg_ℤ, List, [], ◌∷◌, ◌++◌, map, Option, Some, None, is_some, refl, ap, ◌∙◌, inl, inr, ◌⊎◌}
use Rattle.std.proofs.lemmas.Bool.{cases_Bool, ltb-true, lt-ltb, cond-true}
use Rattle.cnf_base.specs.declared.clause_status.ClauseStatus.{ClauseStatus}
use Rattle.cnf_base.specs.declared.clause_status.ClauseStatus.TheVariants.{Satisfied, Falsified, Unit, Unresolved}
use Rattle.cnf_base.specs.Status.{IsSatisfiedIn, IsFalsifiedIn, IsUnitIn, has, clause_status, is_tautology}
use Rattle.cnf_base.specs.Meaning.{CnfFormula}
use Rattle.lrat_text.specs.declared.proof.LratStep.{LratStep}
use Rattle.lrat_text.specs.declared.proof.LratStep.TheVariants.{Add, Delete}
use Rattle.lrat_check.specs.declared.fault.ProofKind.{ProofKind}
use Rattle.lrat_check.specs.declared.fault.ProofKind.TheVariants.{UnknownId}
use Rattle.lrat_text.specs.Standing.{Standing, start, clause_at, without, after}
use Rattle.lrat_text.specs.Accepted.{Ends, MayAdd, MayDelete, MayStep, AddsEmpty, AcceptedFrom, Accepted}
use Rattle.lrat_check.specs.FirstFault.{status_fault, named_fault, hint_fault, add_fault, delete_fault, step_fault, is_empty, adds_empty, fault_at, fault_from, first_fault}
use Rattle.cnf_base.proofs.Literals.{list_any-found, list_any-at}
use Rattle.cnf_base.proofs.Status.{satisfied_says, satisfied_from, falsified_says, falsified_from, unit_says, unit_from}

-- how a hint goes on whose clause is this
abbrev GoesOn : List (ℕ × List ℤ) → List ℤ → List ℤ → List ℤ → Type 0
GoesOn live assumed hints c =
    (IsSatisfiedIn assumed c × Ends live assumed hints)
    ⊎ (IsFalsifiedIn assumed c
    ⊎ ((l : ℤ) × IsUnitIn assumed c l × Ends live (assumed ++ l ∷ []) hints))

status_ends : (live : List (ℕ × List ℤ)) (assumed hints c : List ℤ) (id : ℕ) (j : ClauseStatus) → clause_status assumed c ≡ j → ((a : List ℤ) → hint_fault live a hints ≡ None → Ends live a hints) → status_fault id j (hint_fault live assumed hints) (λ l. hint_fault live (assumed ++ l ∷ []) hints) ≡ None → GoesOn live assumed hints c
status_ends live assumed hints c id Satisfied e more h = inl (satisfied_says assumed c e, more assumed h)
status_ends live assumed hints c id Falsified e more h = inr (inl (falsified_says assumed c e))
status_ends live assumed hints c id (Unit l) e more h = inr (inr (l, unit_says assumed c l e, more (assumed ++ l ∷ []) h))
status_ends live assumed hints c id Unresolved e more h = cc

named_ends : (live : List (ℕ × List ℤ)) (assumed hints : List ℤ) (id : ℕ) (o : Option (List ℤ)) → clause_at live id ≡ o → ((a : List ℤ) → hint_fault live a hints ≡ None → Ends live a hints) → named_fault id assumed o (hint_fault live assumed hints) (λ l. hint_fault live (assumed ++ l ∷ []) hints) ≡ None → Ends live assumed (pos id ∷ hints)
named_ends live assumed hints id None e more h = cc
named_ends live assumed hints id (Some c) e more h = (c, e, status_ends live assumed hints c id (clause_status assumed c) refl more h)

ends_without_fault : (live : List (ℕ × List ℤ)) (hints assumed : List ℤ) → hint_fault live assumed hints ≡ None → Ends live assumed hints
ends_without_fault live [] assumed h = cc
ends_without_fault live (pos id ∷ hints) assumed h = named_ends live assumed hints id (clause_at live id) refl (ends_without_fault live hints) h
ends_without_fault live (negsuc n ∷ hints) assumed h = cc

no_hint_fault : (live : List (ℕ × List ℤ)) (hints assumed : List ℤ) → Ends live assumed hints → hint_fault live assumed hints ≡ None
no_hint_fault live [] assumed h = absurd h
no_hint_fault live (pos id ∷ hints) assumed h =
    rw h.1 (elim h.2 [
      | inl satisfied ↦ rw (satisfied_from assumed h.0 satisfied.0) (no_hint_fault live hints assumed satisfied.1)
      | inr rest ↦ elim rest [
        | inl falsified ↦ rw (falsified_from assumed h.0 falsified) refl
        | inr unit ↦ rw (unit_from assumed h.0 unit.0 unit.1) (no_hint_fault live hints (assumed ++ unit.0 ∷ []) unit.2)
      ]
    ])
no_hint_fault live (negsuc n ∷ hints) assumed h = absurd h

pub add_without_fault : (s : Standing) (id : ℕ) (lits hints : List ℤ) → add_fault s id lits hints ≡ None → MayAdd s id lits hints
add_without_fault s id lits hints h =
    elim (cases_Bool (ltb s.greatest id)) [
      | inl e ↦ record {
        newer = ltb-true s.greatest id e;
        follows = elim (cases_Bool (is_tautology lits)) [
          | inl both ↦ inl (list_any-found (λ l. has lits (neg_ℤ l)) lits both)
          | inr plain ↦ inr (ends_without_fault s.live hints (map neg_ℤ lits) (rw (e, plain) at h))
        ];
      }
      | inr e ↦ (let k = rw e at h in cc)
    ]

pub no_add_fault : (s : Standing) (id : ℕ) (lits hints : List ℤ) → MayAdd s id lits hints → add_fault s id lits hints ≡ None
no_add_fault s id lits hints h =
    rw (lt-ltb s.greatest id h.newer) (elim (cases_Bool (is_tautology lits)) [
      | inl both ↦ rw both refl
      | inr plain ↦ rw plain (elim h.follows [
        | inl both ↦ (let t = list_any-at (λ l. has lits (neg_ℤ l)) lits both.0 both.1 both.2 in cc)
        | inr ends ↦ no_hint_fault s.live hints (map neg_ℤ lits) ends
      ])
    ])

pub delete_without_fault : (live : List (ℕ × List ℤ)) (ids : List ℕ) → delete_fault live ids ≡ None → MayDelete live ids
delete_without_fault live [] h = tt
delete_without_fault live (id ∷ ids) h =
    elim (cases_Bool (is_some (clause_at live id))) [
      | inl e ↦ (e, delete_without_fault (without live id) ids (rw e at h))
      | inr e ↦ (let k = rw e at h in cc)
    ]

pub no_delete_fault : (live : List (ℕ × List ℤ)) (ids : List ℕ) → MayDelete live ids → delete_fault live ids ≡ None
no_delete_fault live [] h = refl
no_delete_fault live (id ∷ ids) h =
    cond-true (is_some (clause_at live id)) (delete_fault (without live id) ids) (Some (UnknownId id)) h.0 ∙ no_delete_fault (without live id) ids h.1

pub step_without_fault : (s : Standing) (step : LratStep) → step_fault s step ≡ None → MayStep s step
step_without_fault s (Add id lits hints) h = add_without_fault s id lits hints h
step_without_fault s (Delete at ids) h = delete_without_fault s.live ids h

pub no_step_fault : (s : Standing) (step : LratStep) → MayStep s step → step_fault s step ≡ None
no_step_fault s (Add id lits hints) h = no_add_fault s id lits hints h
no_step_fault s (Delete at ids) h = no_delete_fault s.live ids h

pub fault_at-none : (n : ℕ) (o : Option ProofKind) (later : Option (ℕ × ProofKind)) → fault_at n o later ≡ None → (o ≡ None) × (later ≡ None)
fault_at-none n None later h = (refl, h)
fault_at-none n (Some kind) later h = cc

adds_empty-true : (step : LratStep) → adds_empty step ≡ true → AddsEmpty step
adds_empty-true (Add id [] hints) h = refl
adds_empty-true (Add id (l ∷ ls) hints) h = cc
adds_empty-true (Delete at ids) h = cc

true_from_AddsEmpty : (step : LratStep) → AddsEmpty step → adds_empty step ≡ true
true_from_AddsEmpty (Add id lits hints) h = ap is_empty h
true_from_AddsEmpty (Delete at ids) h = absurd h

accepted_from : (n : ℕ) (s : Standing) (steps : List LratStep) → fault_from n s steps ≡ None → AcceptedFrom s steps
accepted_from n s [] h = cc
accepted_from n s (step ∷ steps) h =
    let parts = fault_at-none (n + 1) (step_fault s step) (cond (adds_empty step) None (fault_from (n + 1) (after s step) steps)) h in (
      step_without_fault s step parts.0,
      elim (cases_Bool (adds_empty step)) [
        | inl e ↦ inl (adds_empty-true step e)
        | inr e ↦ inr (accepted_from (n + 1) (after s step) steps (rw e at parts.1))
      ],
    )

faultless_from : (n : ℕ) (s : Standing) (steps : List LratStep) → AcceptedFrom s steps → fault_from n s steps ≡ None
faultless_from n s [] h = absurd h
faultless_from n s (step ∷ steps) h =
    rw (no_step_fault s step h.0) (elim (cases_Bool (adds_empty step)) [
      | inl e ↦ rw e refl
      | inr e ↦ rw e (elim h.1 [
        | inl empty ↦ (let t = true_from_AddsEmpty step empty in cc)
        | inr later ↦ faultless_from (n + 1) (after s step) steps later
      ])
    ])

pub accepted_without_fault : (formula : CnfFormula) (proof : List LratStep) → (first_fault formula proof ≡ None) ↔ Accepted formula proof
accepted_without_fault formula proof = (accepted_from 0 (start formula) proof, faultless_from 0 (start formula) proof)
