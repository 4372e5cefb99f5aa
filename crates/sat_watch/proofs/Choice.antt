-- The literals of a clause that are falsified last.
use Rattle.std.proofs.Common.{◌≡◌, ◌≢◌, ℕ, zero, suc, ◌<◌, ◌≤◌, true, false, ◌||◌, eqb, leb, ℤ, neg_ℤ, nat_abs, Option, Some, None, List, [], ◌∷◌, ◌++◌, length, map, take, get_or, refl, ap, sym, ◌∙◌, subst, arith, inl, inr}
use Rattle.std.specs.List.{All, IsDistinct, list_any}
use Rattle.std.specs.Option.{option_map}
use Rattle.std.specs.Prelude.{◌↔◌}
use Rattle.std.proofs.lemmas.Bool.{cases_Bool, cases_lt, or_parts, or_from, or_right, both_ways, eq-eqb, eqb-true, le-leb, lt-leb, false_from_ne_true}
use Rattle.std.proofs.lemmas.Map.Keys.{IsDistinct-head, IsDistinct-tail}
use Rattle.std.proofs.lemmas.List.{length-take, get_or-take}
use Rattle.std.proofs.lemmas.List.Elements.{All-take}
use Rattle.cnf_base.specs.Dimacs.{IsLiteral}
use Rattle.cnf_base.specs.Status.{same_lit, has}
use Rattle.cnf_base.proofs.Literals.{same_lit-true, same_lit-apart, has-head, nat_abs-neg_ℤ}
use Rattle.sat_trail.specs.declared.truth.Value.TheVariants.{False}
use Rattle.sat_trail.specs.Trail.{Assignment, TrailState, lits, upto, assignment_of, value_in, IsTrail}
use Rattle.sat_trail.proofs.Consistency.{false_once, has-upto}
use Rattle.sat_trail.proofs.LiteralValues.{none_from, touches-is}
use Rattle.sat_watch.specs.Watching.{IsFalseBy, IsFalseFrom, Lasts, IsChosen}
use Rattle.sat_watch.proofs.Rests.{of_literal}
use Rattle.sat_watch.proofs.Status.{in_push, in_first, in_last, value_false}

-- ---- the level from which on a literal is false

-- a literal whose variable differs from those of a list isn't in the list
apart_absent : (ps : List Assignment) (m l : ℤ) → IsDistinct eqb (map nat_abs (m ∷ lits ps)) → nat_abs l ≡ nat_abs m → has (lits ps) l ≡ false
apart_absent ps m l d same =
    let free = none_from (nat_abs m) (map nat_abs (lits ps)) (IsDistinct-head eqb (nat_abs m) (map nat_abs (lits ps)) d) in
    (or_parts (has (lits ps) l) (has (lits ps) (neg_ℤ l)) (sym (touches-is (lits ps) l) ∙ ap (λ n. list_any (eqb n) (map nat_abs (lits ps))) same ∙ free)).0

-- the put that falsifies a literal, and the levels from which on it does so
pub falsified_at : (ps : List Assignment) (l : ℤ) → IsDistinct eqb (map nat_abs (lits ps)) → has (lits ps) (neg_ℤ l) ≡ true → (p : Assignment) × (assignment_of (nat_abs l) ps ≡ Some p) × ((k : ℕ) → IsFalseBy ps k l ↔ (p.level ≤ k))
falsified_at [] l d h = cc
falsified_at (p ∷ ps) l d h =
    elim (cases_Bool (same_lit p.lit (neg_ℤ l))) [
      | inl e ↦ (let var : nat_abs p.lit ≡ nat_abs l = ap nat_abs (same_lit-true p.lit (neg_ℤ l) e) ∙ nat_abs-neg_ℤ l in
          let absent = apart_absent ps p.lit (neg_ℤ l) d (nat_abs-neg_ℤ l ∙ sym var) in
          let found : assignment_of (nat_abs l) (p ∷ ps) ≡ Some p = rw (eq-eqb (nat_abs p.lit) (nat_abs l) var) refl in
          (p, found, λ k. (λ f. from_here k e absent f, λ le. rw (le-leb p.level k le, e) refl)))
      | inr e ↦ (let rest : has (lits ps) (neg_ℤ l) ≡ true = rw e at h in
          let later = falsified_at ps l (IsDistinct-tail eqb (nat_abs p.lit) (map nat_abs (lits ps)) d) rest in
          let apart : eqb (nat_abs p.lit) (nat_abs l) ≡ false = false_from_ne_true (eqb (nat_abs p.lit) (nat_abs l)) (λ f.
          both_ways (has (lits ps) (neg_ℤ l)) (apart_absent ps p.lit (neg_ℤ l) d (nat_abs-neg_ℤ l ∙ sym (eqb-true (nat_abs p.lit) (nat_abs l) f))) rest) in
          let found : assignment_of (nat_abs l) (p ∷ ps) ≡ Some later.0 = rw apart later.1 in
          (later.0, found, λ k. (λ f. (later.2 k).0 (past k e f), λ le. before k ((later.2 k).1 le))))
    ]
  where
    from_here : (k : ℕ) → same_lit p.lit (neg_ℤ l) ≡ true → has (lits ps) (neg_ℤ l) ≡ false → IsFalseBy (p ∷ ps) k l → p.level ≤ k
    from_here k e absent f =
        elim (cases_lt k p.level) [
          | inl above ↦ (let there : has (lits (upto k ps)) (neg_ℤ l) ≡ true = rw (lt-leb p.level k above) at f in
              absurd (both_ways (has (lits ps) (neg_ℤ l)) absent (has-upto k ps (neg_ℤ l) there)))
          | inr within ↦ within
        ]

    past : (k : ℕ) → same_lit p.lit (neg_ℤ l) ≡ false → IsFalseBy (p ∷ ps) k l → IsFalseBy ps k l
    past k e f =
        elim (cases_Bool (leb p.level k)) [
          | inl g ↦ (let there : (same_lit p.lit (neg_ℤ l) || has (lits (upto k ps)) (neg_ℤ l)) ≡ true = rw g at f in rw e at there)
          | inr g ↦ rw g at f
        ]

    before : (k : ℕ) → IsFalseBy ps k l → IsFalseBy (p ∷ ps) k l
    before k f =
        elim (cases_Bool (leb p.level k)) [
          | inl g ↦ rw g (or_right (same_lit p.lit (neg_ℤ l)) (has (lits (upto k ps)) (neg_ℤ l)) f)
          | inr g ↦ rw g f
        ]

pub false_from_assignment : (t : TrailState) (l : ℤ) (level : Option ℕ) → IsTrail t → value_in (lits t.assignments) l ≡ False → level ≡ option_map (λ (p : Assignment). p.level) (assignment_of (nat_abs l) t.assignments) → IsFalseFrom t.assignments l level
false_from_assignment t l level trail value is =
    let found = falsified_at t.assignments l trail.distinct (value_false (lits t.assignments) l value).1 in
    let P : Option ℕ → Type 0 = λ o. IsFalseFrom t.assignments l o in
    subst P (sym (is ∙ ap (option_map (λ (p : Assignment). p.level)) found.1)) found.2

-- a literal that isn't false isn't negated
pub free_from : (t : TrailState) (l : ℤ) → IsTrail t → (value_in (lits t.assignments) l ≡ False → ⊥) → has (lits t.assignments) (neg_ℤ l) ≡ false
free_from t l trail value =
    false_from_ne_true (has (lits t.assignments) (neg_ℤ l)) (λ there. value (rw (false_once t trail l there, there) refl))

pub never_false : (t : TrailState) (l : ℤ) → IsTrail t → (value_in (lits t.assignments) l ≡ False → ⊥) → IsFalseFrom t.assignments l None
never_false t l trail value k f = both_ways (has (lits t.assignments) (neg_ℤ l)) (free_from t l trail value) (has-upto k t.assignments (neg_ℤ l) f)

-- ---- the choice

absent_differs : (clause : List ℤ) (a l : ℤ) → has clause a ≡ true → has clause l ≡ false → a ≢ l
absent_differs clause a l there absent e =
    let P : ℤ → Type 0 = λ x. has clause x ≡ true in both_ways (has clause l) absent (subst P e there)

-- one literal more: it is falsified before the two, between them, or after them
pub IsChosen-stays : (assignments : List Assignment) (clause : List ℤ) (lit a b : ℤ) → Lasts assignments b lit → IsChosen assignments clause a b → IsChosen assignments (clause ++ lit ∷ []) a b
IsChosen-stays assignments clause lit a b lasts h =
    record {
      pair = record { first_in = in_first clause (lit ∷ []) a h.pair.first_in; second_in = in_first clause (lit ∷ []) b h.pair.second_in; differ = h.pair.differ };
      first_lasts = h.first_lasts;
      second_lasts = λ l there apart. elim (in_push clause lit l there) [
        | inl e ↦ h.second_lasts l e apart
        | inr e ↦ (let P : ℤ → Type 0 = λ x. Lasts assignments b x in subst P e lasts)
      ];
    }

pub IsChosen-second : (assignments : List Assignment) (clause : List ℤ) (lit a b : ℤ) → has clause lit ≡ false → Lasts assignments lit b → Lasts assignments a lit → IsChosen assignments clause a b → IsChosen assignments (clause ++ lit ∷ []) a lit
IsChosen-second assignments clause lit a b absent lasts after h =
    record {
      pair = record { first_in = in_first clause (lit ∷ []) a h.pair.first_in; second_in = in_last clause lit; differ = absent_differs clause a lit h.pair.first_in absent };
      first_lasts = after;
      second_lasts = λ l there apart. elim (in_push clause lit l there) [
        | inl e ↦ (λ k f. h.second_lasts l e apart k (lasts k f))
        | inr e ↦ (let P : ℤ → Type 0 = λ x. Lasts assignments lit x in subst P e (λ k f. f))
      ];
    }

pub IsChosen-first : (assignments : List Assignment) (clause : List ℤ) (lit a b : ℤ) → has clause lit ≡ false → Lasts assignments lit a → IsChosen assignments clause a b → IsChosen assignments (clause ++ lit ∷ []) lit a
IsChosen-first assignments clause lit a b absent lasts h =
    record {
      pair = record { first_in = in_last clause lit; second_in = in_first clause (lit ∷ []) a h.pair.first_in; differ = λ e. absent_differs clause a lit h.pair.first_in absent (sym e) };
      first_lasts = lasts;
      second_lasts = λ l there apart. elim (in_push clause lit l there) [
        | inl e ↦ elim (cases_Bool (same_lit a l)) [
          | inl f ↦ (let P : ℤ → Type 0 = λ x. Lasts assignments a x in subst P (same_lit-true a l f) (λ k g. g))
          | inr f ↦ (λ k g. h.second_lasts l e (λ same. same_lit-apart a l f (sym same)) k (h.first_lasts k g))
        ]
        | inr e ↦ absurd (apart (sym e))
      ];
    }

-- ---- along the clause

pub has_at : (ls : List ℤ) (j : ℕ) (d : ℤ) → j < length ls → has ls (get_or ls j d) ≡ true
has_at [] j d lt = absurd (omega arith)
has_at (x ∷ xs) zero d lt = has-head x xs
has_at (x ∷ xs) (suc j) d lt = or_right (same_lit x (get_or xs j d)) (has xs (get_or xs j d)) (has_at xs j d (omega arith))

-- a literal of a clause over distinct variables isn't among those before it
pub fresh_at : (clause : List ℤ) (i : ℕ) (lit : ℤ) → IsDistinct eqb (map nat_abs clause) → i < length clause → lit ≡ get_or clause i lit → has (take i clause) lit ≡ false
fresh_at [] i lit d lt is = absurd (omega arith)
fresh_at (m ∷ ms) zero lit d lt is = refl
fresh_at (m ∷ ms) (suc i) lit d lt is =
    let within : i < length ms = omega arith in
    let apart : same_lit m lit ≡ false = false_from_ne_true (same_lit m lit) (λ e.
    let free = none_from (nat_abs m) (map nat_abs ms) (IsDistinct-head eqb (nat_abs m) (map nat_abs ms) d) in
    let P : ℤ → Type 0 = λ x. has ms x ≡ true in
    let there : has ms m ≡ true = subst P (sym (same_lit-true m lit e)) (subst P (sym is) (has_at ms i lit within)) in
    both_ways (has ms m) (or_parts (has ms m) (has ms (neg_ℤ m)) (sym (touches-is ms m) ∙ free)).0 there) in
    or_from (same_lit m lit) (has (take i ms) lit) apart (fresh_at ms i lit (IsDistinct-tail eqb (nat_abs m) (map nat_abs ms) d) within is)

-- two places of it have different literals
pub apart_at : (clause : List ℤ) (i j : ℕ) (a b : ℤ) → IsDistinct eqb (map nat_abs clause) → i < j → j < length clause → a ≡ get_or clause i a → b ≡ get_or clause j b → a ≢ b
apart_at clause i j a b d lt within a_is b_is e =
    let room : i < length clause = omega arith in
    let P : ℤ → Type 0 = λ x. has clause x ≡ true in
    let wide : i < length (take j clause) = omega (arith, length-take j clause) in
    let Q : ℤ → Type 0 = λ x. has (take j clause) x ≡ true in
    let there : has (take j clause) a ≡ true = subst Q (get_or-take j clause i a lt ∙ sym a_is) (has_at (take j clause) i a wide) in
    absurd (both_ways (has (take j clause) b) (fresh_at clause j b d within b_is) (subst Q e there))

pub within_take : (vars : ℕ) (clause : List ℤ) (n : ℕ) (l : ℤ) → All (IsLiteral vars) clause → has (take n clause) l ≡ true → nat_abs l ≤ vars
within_take vars clause n l all there = (of_literal (IsLiteral vars) (take n clause) l (All-take (IsLiteral vars) n clause all) there).variable
