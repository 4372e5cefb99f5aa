-- What the status of a clause says.
use Rattle.std.proofs.Common.{◌≡◌, true, false, ◌||◌, ℤ, neg_ℤ, List, [], ◌∷◌, filter, refl, ap, sym, ◌∙◌, subst, inl, inr}
use Rattle.std.specs.List.{list_any, list_all}
use Rattle.std.proofs.lemmas.Bool.{or_cases, cases_Bool, or_right, or_parts, or_from, and_parts, and_from, both_ways, false_from_ne_true, not-true, not-false, not_from_false}
use Rattle.cnf_base.specs.declared.clause_status.ClauseStatus.{ClauseStatus}
use Rattle.cnf_base.specs.declared.clause_status.ClauseStatus.TheVariants.{Satisfied, Falsified, Unit, Unresolved}
use Rattle.cnf_base.specs.Status.{same_lit, has, IsFalseIn, IsOpenIn, IsSatisfiedIn, IsFalsifiedIn, IsUnitIn, IsUnresolvedIn, is_open, status_by_open, clause_status}
use Rattle.cnf_base.proofs.Literals.{same_lit-true, same_lit-itself, same_lit-apart, has-head, has-filter, list_any-found, list_any-at, list_any-none}

open_from : (assumed : List ℤ) (l : ℤ) → is_open assumed l ≡ true → IsOpenIn assumed l
open_from assumed l h = or_parts (has assumed l) (has assumed (neg_ℤ l)) (not-true (has assumed l || has assumed (neg_ℤ l)) h)

is_open_from : (assumed : List ℤ) (l : ℤ) → IsOpenIn assumed l → is_open assumed l ≡ true
is_open_from assumed l h = not_from_false (has assumed l || has assumed (neg_ℤ l)) (or_from (has assumed l) (has assumed (neg_ℤ l)) h.0 h.1)

-- a literal that is neither true nor open is false
false_from : (assumed : List ℤ) (l : ℤ) → has assumed l ≡ false → is_open assumed l ≡ false → IsFalseIn assumed l
false_from assumed l h k =
    elim (or_cases (has assumed l) (has assumed (neg_ℤ l)) (not-false (has assumed l || has assumed (neg_ℤ l)) k)) [
      | inl e ↦ absurd (both_ways (has assumed l) h e)
      | inr e ↦ (h, e)
    ]

-- a literal of the clause that is open is one of its open literals, and these are no others
open_there : (assumed c : List ℤ) (l : ℤ) → has c l ≡ true → is_open assumed l ≡ true → has (filter (is_open assumed) c) l ≡ true
open_there assumed c l h k = has-filter (is_open assumed) c l ∙ and_from (has c l) (is_open assumed l) h k

there_open : (assumed c : List ℤ) (l : ℤ) → has (filter (is_open assumed) c) l ≡ true → (has c l ≡ true) × (is_open assumed l ≡ true)
there_open assumed c l h = and_parts (has c l) (is_open assumed l) (sym (has-filter (is_open assumed) c l) ∙ h)

not_passed : (os : List ℤ) → status_by_open os ≡ Satisfied → ⊥
not_passed [] h = cc
not_passed (l ∷ ls) h = elim (cases_Bool (list_all (same_lit l) ls)) [ inl e ↦ (let k = rw e at h in cc) | inr e ↦ (let k = rw e at h in cc) ]

pub satisfied_says : (assumed c : List ℤ) → clause_status assumed c ≡ Satisfied → IsSatisfiedIn assumed c
satisfied_says assumed c h =
    elim (cases_Bool (list_any (has assumed) c)) [
      | inl e ↦ list_any-found (has assumed) c e
      | inr e ↦ absurd (not_passed (filter (is_open assumed) c) (rw e at h))
    ]

pub satisfied_from : (assumed c : List ℤ) → IsSatisfiedIn assumed c → clause_status assumed c ≡ Satisfied
satisfied_from assumed c h = rw (list_any-at (has assumed) c h.0 h.1 h.2) refl

-- where no literal is true, the status goes by the open ones
by_open : (assumed c : List ℤ) → ((l : ℤ) → has c l ≡ true → has assumed l ≡ false) → clause_status assumed c ≡ status_by_open (filter (is_open assumed) c)
by_open assumed c h =
    let none : list_any (has assumed) c ≡ false = false_from_ne_true (list_any (has assumed) c) (λ e. let found = list_any-found (has assumed) c e in both_ways (has assumed found.0) (h found.0 found.1) found.2) in
    rw none refl

none_true : (assumed c : List ℤ) (j : ClauseStatus) → clause_status assumed c ≡ j → (Satisfied ≡ j → ⊥) → (l : ℤ) → has c l ≡ true → has assumed l ≡ false
none_true assumed c j h n =
    elim (cases_Bool (list_any (has assumed) c)) [
      | inl e ↦ absurd (n (rw e at h))
      | inr e ↦ list_any-none (has assumed) c e
    ]

ended_by : (os : List ℤ) → status_by_open os ≡ Falsified → os ≡ []
ended_by [] h = refl
ended_by (l ∷ ls) h = elim (cases_Bool (list_all (same_lit l) ls)) [ inl e ↦ (let k = rw e at h in cc) | inr e ↦ (let k = rw e at h in cc) ]

empty_by : (os : List ℤ) → ((l : ℤ) → has os l ≡ true → ⊥) → os ≡ []
empty_by [] h = refl
empty_by (l ∷ ls) h = absurd (h l (has-head l ls))

pub falsified_says : (assumed c : List ℤ) → clause_status assumed c ≡ Falsified → IsFalsifiedIn assumed c
falsified_says assumed c h l k =
    let plain = none_true assumed c Falsified h (λ e. cc) in
    let none : filter (is_open assumed) c ≡ [] = ended_by (filter (is_open assumed) c) (sym (by_open assumed c plain) ∙ h) in
    let P : List ℤ → Type 0 = λ os. has os l ≡ false in
    let absent : has (filter (is_open assumed) c) l ≡ false = subst P (sym none) refl in
    false_from assumed l (plain l k) (false_from_ne_true (is_open assumed l) (λ e. both_ways (has (filter (is_open assumed) c) l) absent (open_there assumed c l k e)))

pub falsified_from : (assumed c : List ℤ) → IsFalsifiedIn assumed c → clause_status assumed c ≡ Falsified
falsified_from assumed c h =
    by_open assumed c (λ l k. (h l k).0)
    ∙ ap status_by_open (empty_by (filter (is_open assumed) c) (λ l k. let there = there_open assumed c l k in both_ways (has assumed (neg_ℤ l)) (open_from assumed l there.1).1 (h l there.0).1))

-- the first of the open literals is the forced one, and all others are the same
forced_by : (os : List ℤ) (l : ℤ) → status_by_open os ≡ Unit l → (has os l ≡ true) × ((m : ℤ) → has os m ≡ true → m ≡ l)
forced_by [] l h = cc
forced_by (o ∷ os) l h =
    elim (cases_Bool (list_all (same_lit o) os)) [
      | inl e ↦ (let k : Unit o ≡ Unit l = rw e at h in
          let same : o ≡ l = cc in
          let P : ℤ → Type 0 = λ x. has (o ∷ os) x ≡ true in (
            subst P same (has-head o os),
            λ m n. elim (or_cases (same_lit o m) (has os m) n) [
              | inl here ↦ sym (same_lit-true o m here) ∙ same
              | inr later ↦ sym (same_lit-true o m (each o os m e later)) ∙ same
            ],
          ))
      | inr e ↦ (let k = rw e at h in cc)
    ]
  where
    each : (o : ℤ) (os : List ℤ) (m : ℤ) → list_all (same_lit o) os ≡ true → has os m ≡ true → same_lit o m ≡ true
    each o [] m h k = cc
    each o (x ∷ xs) m h k =
        let parts = and_parts (same_lit o x) (list_all (same_lit o) xs) h in
        elim (or_cases (same_lit x m) (has xs m) k) [
          | inl e ↦ (let P : ℤ → Type 0 = λ y. same_lit o y ≡ true in subst P (same_lit-true x m e) parts.0)
          | inr e ↦ each o xs m parts.1 e
        ]

by_forced : (os : List ℤ) (l : ℤ) → has os l ≡ true → ((m : ℤ) → has os m ≡ true → m ≡ l) → status_by_open os ≡ Unit l
by_forced [] l h k = cc
by_forced (o ∷ os) l h k =
    let first : o ≡ l = k o (has-head o os) in
    rw (each o os (λ m n. first ∙ sym (k m (or_right (same_lit o m) (has os m) n)))) (ap Unit first)
  where
    each : (o : ℤ) (os : List ℤ) → ((m : ℤ) → has os m ≡ true → o ≡ m) → list_all (same_lit o) os ≡ true
    each o [] h = refl
    each o (x ∷ xs) h =
        let P : ℤ → Type 0 = λ y. same_lit o y ≡ true in
        and_from (same_lit o x) (list_all (same_lit o) xs) (subst P (h x (has-head x xs)) (same_lit-itself o)) (each o xs (λ m n. h m (or_right (same_lit x m) (has xs m) n)))

pub unit_says : (assumed c : List ℤ) (l : ℤ) → clause_status assumed c ≡ Unit l → IsUnitIn assumed c l
unit_says assumed c l h =
    let plain = none_true assumed c (Unit l) h (λ e. cc) in
    let forced = forced_by (filter (is_open assumed) c) l (sym (by_open assumed c plain) ∙ h) in
    let there = there_open assumed c l forced.0 in
    record {
      inside = there.0;
      open_here = open_from assumed l there.1;
      others = λ m k differs. false_from assumed m (plain m k) (false_from_ne_true (is_open assumed m) (λ e. differs (forced.1 m (open_there assumed c m k e))));
    }

pub unit_from : (assumed c : List ℤ) (l : ℤ) → IsUnitIn assumed c l → clause_status assumed c ≡ Unit l
unit_from assumed c l h =
    by_open assumed c plain
    ∙ by_forced (filter (is_open assumed) c) l (open_there assumed c l h.inside (is_open_from assumed l h.open_here)) only
  where
    plain : (m : ℤ) → has c m ≡ true → has assumed m ≡ false
    plain m k =
        elim (cases_Bool (same_lit l m)) [
          | inl e ↦ (let P : ℤ → Type 0 = λ x. has assumed x ≡ false in subst P (same_lit-true l m e) h.open_here.0)
          | inr e ↦ (h.others m k (λ same. same_lit-apart l m e (sym same))).0
        ]

    only : (m : ℤ) → has (filter (is_open assumed) c) m ≡ true → m ≡ l
    only m k =
        let there = there_open assumed c m k in
        elim (cases_Bool (same_lit l m)) [
          | inl e ↦ sym (same_lit-true l m e)
          | inr e ↦ absurd (both_ways (has assumed (neg_ℤ m)) (open_from assumed m there.1).1 (h.others m there.0 (λ same. same_lit-apart l m e (sym same))).1)
        ]

differs_from : (o : ℤ) (os : List ℤ) → list_all (same_lit o) os ≡ false → (m : ℤ) × (has os m ≡ true) × (same_lit o m ≡ false)
differs_from o [] h = cc
differs_from o (x ∷ xs) h =
    elim (cases_Bool (same_lit o x)) [
      | inl e ↦ (let later : list_all (same_lit o) xs ≡ false = rw e at h in
          let found = differs_from o xs later in
          (found.0, or_right (same_lit x found.0) (has xs found.0) found.1, found.2))
      | inr e ↦ (x, has-head x xs, e)
    ]

open_by : (os : List ℤ) → status_by_open os ≡ Unresolved → (l : ℤ) × (m : ℤ) × (has os l ≡ true) × (has os m ≡ true) × (l ≡ m → ⊥)
open_by [] h = cc
open_by (o ∷ os) h =
    elim (cases_Bool (list_all (same_lit o) os)) [
      | inl e ↦ (let k : Unit o ≡ Unresolved = rw e at h in cc)
      | inr e ↦ (let found = differs_from o os e in
          (o, found.0, has-head o os, or_right (same_lit o found.0) (has os found.0) found.1, same_lit-apart o found.0 found.2))
    ]

pub unresolved_says : (assumed c : List ℤ) → clause_status assumed c ≡ Unresolved → IsUnresolvedIn assumed c
unresolved_says assumed c h =
    let plain = none_true assumed c Unresolved h (λ e. cc) in
    let found = open_by (filter (is_open assumed) c) (sym (by_open assumed c plain) ∙ h) in
    let first = there_open assumed c found.0 found.2 in
    let second = there_open assumed c found.1 found.3 in
    record {
      none_true = plain;
      first = found.0;
      second = found.1;
      first_in = first.0;
      second_in = second.0;
      different = found.4;
      first_open = open_from assumed found.0 first.1;
      second_open = open_from assumed found.1 second.1;
    }

pub unresolved_from : (assumed c : List ℤ) → IsUnresolvedIn assumed c → clause_status assumed c ≡ Unresolved
unresolved_from assumed c h = by_status (clause_status assumed c) refl
  where
    both_forced : (l : ℤ) → IsUnitIn assumed c l → ⊥
    both_forced l unit = h.different (only h.first h.first_in h.first_open ∙ sym (only h.second h.second_in h.second_open))
      where
        only : (m : ℤ) → has c m ≡ true → IsOpenIn assumed m → m ≡ l
        only m inside free =
            elim (cases_Bool (same_lit l m)) [
              | inl e ↦ sym (same_lit-true l m e)
              | inr e ↦ absurd (both_ways (has assumed (neg_ℤ m)) free.1 (unit.others m inside (λ same. same_lit-apart l m e (sym same))).1)
            ]

    by_status : (s : ClauseStatus) → clause_status assumed c ≡ s → clause_status assumed c ≡ Unresolved
    by_status Satisfied e = let found = satisfied_says assumed c e in absurd (both_ways (has assumed found.0) (h.none_true found.0 found.1) found.2)
    by_status Falsified e = absurd (both_ways (has assumed (neg_ℤ h.first)) h.first_open.1 (falsified_says assumed c e h.first h.first_in).1)
    by_status (Unit l) e = absurd (both_forced l (unit_says assumed c l e))
    by_status Unresolved e = e
