-- A clause weighed literal by literal.
use Rattle.std.proofs.Common.{◌≡◌, ◌≢◌, ◌⊎◌, ℕ, ◌+◌, ◌<◌, true, ℤ, neg_ℤ, List, [], ◌∷◌, ◌++◌, length, take, drop, get_or, refl, ap, sym, ◌∙◌, subst, inl, inr}
use Rattle.std.proofs.lemmas.Bool.{cases_Bool, or_cases, or_left, or_right}
use Rattle.std.proofs.lemmas.List.{take_more, take-append-drop}
use Rattle.cnf_base.specs.declared.clause_status.ClauseStatus.{ClauseStatus}
use Rattle.cnf_base.specs.declared.clause_status.ClauseStatus.TheVariants.{Satisfied, Falsified, Unit, Unresolved}
use Rattle.cnf_base.specs.Status.{same_lit, has, IsFalseIn, IsOpenIn, IsSatisfiedIn, IsFalsifiedIn, IsUnitIn, with_open_literal}
use Rattle.cnf_base.proofs.Literals.{same_lit-true, same_lit-apart, has-head, has-append, or-false}
use Rattle.sat_trail.specs.declared.truth.Value.TheVariants.{True, False, Unset}
use Rattle.sat_trail.specs.Trail.{value_in}
use Rattle.sat_trail.proofs.LiteralValues.{unset_says}
use Rattle.sat_watch.specs.Scanning.{HasTwoFree, HasStatus}

-- a literal of the clause so far, or the one that comes
pub in_push : (seen : List ℤ) (lit m : ℤ) → has (seen ++ lit ∷ []) m ≡ true → (has seen m ≡ true) ⊎ (lit ≡ m)
in_push seen lit m h =
    elim (or_cases (has seen m) (has (lit ∷ []) m) (sym (has-append seen (lit ∷ []) m) ∙ h)) [
      | inl e ↦ inl e
      | inr e ↦ inr (same_lit-true lit m (sym (or-false (same_lit lit m)) ∙ e))
    ]

pub in_first : (seen more : List ℤ) (m : ℤ) → has seen m ≡ true → has (seen ++ more) m ≡ true
in_first seen more m h = has-append seen more m ∙ or_left (has seen m) (has more m) h

pub in_last : (seen : List ℤ) (lit : ℤ) → has (seen ++ lit ∷ []) lit ≡ true
in_last seen lit = has-append seen (lit ∷ []) lit ∙ or_right (has seen lit) (has (lit ∷ []) lit) (has-head lit [])

pub HasTwoFree-more : (true_lits seen more : List ℤ) → HasTwoFree true_lits seen → HasTwoFree true_lits (seen ++ more)
HasTwoFree-more true_lits seen more h =
    record {
      first = h.first;
      second = h.second;
      first_in = in_first seen more h.first h.first_in;
      second_in = in_first seen more h.second h.second_in;
      different = h.different;
      first_free = h.first_free;
      second_free = h.second_free;
    }

-- ---- one literal more

abbrev pub IsNotSatisfied : ClauseStatus → Type 0
IsNotSatisfied so_far = so_far ≢ Satisfied

false_push : (true_lits seen : List ℤ) (lit : ℤ) (so_far : ClauseStatus) → IsFalseIn true_lits lit → HasStatus true_lits seen so_far → IsNotSatisfied so_far → HasStatus true_lits (seen ++ lit ∷ []) so_far
false_push true_lits seen lit Satisfied falsified h not_passed = absurd (not_passed refl)
false_push true_lits seen lit Falsified falsified h not_passed = λ m k.
    elim (in_push seen lit m k) [
      | inl e ↦ h m e
      | inr e ↦ (let P : ℤ → Type 0 = λ x. IsFalseIn true_lits x in subst P e falsified)
    ]
false_push true_lits seen lit (Unit l) falsified h not_passed =
    record {
      inside = in_first seen (lit ∷ []) l h.inside;
      open_here = h.open_here;
      others = λ m k apart. elim (in_push seen lit m k) [
        | inl e ↦ h.others m e apart
        | inr e ↦ (let P : ℤ → Type 0 = λ x. IsFalseIn true_lits x in subst P e falsified)
      ];
    }
false_push true_lits seen lit Unresolved falsified h not_passed = HasTwoFree-more true_lits seen (lit ∷ []) h

-- the first open literal
open_first : (true_lits seen : List ℤ) (lit : ℤ) → IsOpenIn true_lits lit → IsFalsifiedIn true_lits seen → IsUnitIn true_lits (seen ++ lit ∷ []) lit
open_first true_lits seen lit free h =
    record {
      inside = in_last seen lit;
      open_here = free;
      others = λ m k apart. elim (in_push seen lit m k) [
        | inl e ↦ h m e
        | inr e ↦ absurd (apart (sym e))
      ];
    }

open_push : (true_lits seen : List ℤ) (lit : ℤ) (so_far : ClauseStatus) → IsOpenIn true_lits lit → HasStatus true_lits seen so_far → HasStatus true_lits (seen ++ lit ∷ []) (with_open_literal so_far lit)
open_push true_lits seen lit Satisfied free h = (h.0, in_first seen (lit ∷ []) h.0 h.1, h.2)
open_push true_lits seen lit Falsified free h = open_first true_lits seen lit free h
open_push true_lits seen lit (Unit l) free h =
    elim (cases_Bool (same_lit l lit)) [
      | inl e ↦ (let P : ClauseStatus → Type 0 = λ j. HasStatus true_lits (seen ++ lit ∷ []) j in
          let same : l ≡ lit = same_lit-true l lit e in
          rw e (record {
            inside = in_first seen (lit ∷ []) l h.inside;
            open_here = h.open_here;
            others = λ m k apart. elim (in_push seen lit m k) [
              | inl f ↦ h.others m f apart
              | inr f ↦ absurd (apart (sym f ∙ sym same))
            ];
          }))
      | inr e ↦ rw e (record {
        first = l;
        second = lit;
        first_in = in_first seen (lit ∷ []) l h.inside;
        second_in = in_last seen lit;
        different = same_lit-apart l lit e;
        first_free = h.open_here.1;
        second_free = free.1;
      })
    ]
open_push true_lits seen lit Unresolved free h = HasTwoFree-more true_lits seen (lit ∷ []) h

-- ---- by the literal's value

pub value_false : (true_lits : List ℤ) (lit : ℤ) → value_in true_lits lit ≡ False → IsFalseIn true_lits lit
value_false true_lits lit h =
    elim (cases_Bool (has true_lits lit)) [
      | inl e ↦ (let k : True ≡ False = rw e at h in cc)
      | inr e ↦ elim (cases_Bool (has true_lits (neg_ℤ lit))) [
        | inl f ↦ (e, f)
        | inr f ↦ (let k : Unset ≡ False = rw (e, f) at h in cc)
      ]
    ]

pub value_true : (true_lits : List ℤ) (lit : ℤ) → value_in true_lits lit ≡ True → has true_lits lit ≡ true
value_true true_lits lit h =
    elim (cases_Bool (has true_lits lit)) [
      | inl e ↦ e
      | inr e ↦ elim (cases_Bool (has true_lits (neg_ℤ lit))) [
        | inl f ↦ (let k : False ≡ True = rw (e, f) at h in cc)
        | inr f ↦ (let k : Unset ≡ True = rw (e, f) at h in cc)
      ]
    ]

-- the literals up to a place and the one there
pub more_seen : (clause : List ℤ) (i : ℕ) (lit : ℤ) → i < length clause → lit ≡ get_or clause i lit → take (i + 1) clause ≡ take i clause ++ lit ∷ []
more_seen clause i lit lt is = take_more clause i lit lt ∙ ap (λ l. take i clause ++ l ∷ []) (sym is)

pub weigh_false : (true_lits clause : List ℤ) (i : ℕ) (lit : ℤ) (so_far : ClauseStatus) → i < length clause → lit ≡ get_or clause i lit → value_in true_lits lit ≡ False → HasStatus true_lits (take i clause) so_far → IsNotSatisfied so_far → HasStatus true_lits (take (i + 1) clause) so_far
weigh_false true_lits clause i lit so_far lt is value h not_passed =
    let P : List ℤ → Type 0 = λ ls. HasStatus true_lits ls so_far in
    subst P (sym (more_seen clause i lit lt is)) (false_push true_lits (take i clause) lit so_far (value_false true_lits lit value) h not_passed)

pub weigh_open : (true_lits clause : List ℤ) (i : ℕ) (lit : ℤ) (so_far : ClauseStatus) → i < length clause → lit ≡ get_or clause i lit → value_in true_lits lit ≡ Unset → HasStatus true_lits (take i clause) so_far → HasStatus true_lits (take (i + 1) clause) (with_open_literal so_far lit)
weigh_open true_lits clause i lit so_far lt is value h =
    let P : List ℤ → Type 0 = λ ls. HasStatus true_lits ls (with_open_literal so_far lit) in
    subst P (sym (more_seen clause i lit lt is)) (open_push true_lits (take i clause) lit so_far (unset_says true_lits lit value) h)

pub weigh_true : (true_lits clause : List ℤ) (i : ℕ) (lit : ℤ) → i < length clause → lit ≡ get_or clause i lit → value_in true_lits lit ≡ True → IsSatisfiedIn true_lits clause
weigh_true true_lits clause i lit lt is value =
    let P : List ℤ → Type 0 = λ ls. has ls lit ≡ true in
    let first : has (take (i + 1) clause) lit ≡ true = subst P (sym (more_seen clause i lit lt is)) (in_last (take i clause) lit) in
    (lit, subst P (take-append-drop (i + 1) clause) (in_first (take (i + 1) clause) (drop (i + 1) clause) lit first), value_true true_lits lit value)

pub weigh_two : (true_lits clause : List ℤ) (i : ℕ) → HasTwoFree true_lits (take i clause) → HasTwoFree true_lits clause
weigh_two true_lits clause i h =
    let P : List ℤ → Type 0 = λ ls. HasTwoFree true_lits ls in
    subst P (take-append-drop i clause) (HasTwoFree-more true_lits (take i clause) (drop i clause) h)

pub with_open_literal-not_satisfied : (so_far : ClauseStatus) (l : ℤ) → IsNotSatisfied so_far → IsNotSatisfied (with_open_literal so_far l)
with_open_literal-not_satisfied Satisfied l h = h
with_open_literal-not_satisfied Falsified l h = λ e. cc
with_open_literal-not_satisfied (Unit m) l h =
    elim (cases_Bool (same_lit m l)) [
      | inl e ↦ rw e (λ k. cc)
      | inr e ↦ rw e (λ k. cc)
    ]
with_open_literal-not_satisfied Unresolved l h = λ e. cc
