-- The queue of places of level 0 that wait to be resolved.
use Rattle.std.proofs.Common.{◌≡◌, ℕ, ◌+◌, ◌<◌, ◌≤◌, Bool, true, false, ℤ, neg_ℤ, nat_abs, List, [], ◌∷◌, ◌++◌, length, take, set, get_or, ◌⊎◌, refl, ap, sym, ◌∙◌, subst, arith, inl, inr}
use Rattle.std.specs.List.{All, Contains}
use Rattle.std.specs.List.Sorted.{IsPermutation}
use Rattle.std.proofs.lemmas.Bool.{cases_eq, cases_lt, or_cases, both_ways, false_from_ne_true}
use Rattle.std.proofs.lemmas.List.{take_more, get_or-set_same, get_or-set_other}
use Rattle.std.proofs.lemmas.List.Elements.{All-contains, Contains-append_cases, Contains-append_left, Contains-append_right, Contains-push}
use Rattle.std.proofs.lemmas.List.Sorted.{Contains-permutation}
use Rattle.cnf_base.specs.Status.{same_lit, has}
use Rattle.cnf_base.proofs.Literals.{same_lit-true, has-append, nat_abs-neg_ℤ}
use Rattle.sat_trail.specs.Trail.{Assignment, TrailState, IsTrail, lits, upto}
use Rattle.sat_learn.specs.Resolving.{is_marked, StandsAt, IsNextRoot, AreQueued, AreRootsAmong, AreRootsClear}
use Rattle.sat_learn.proofs.Assignments.{one_place}
use Rattle.sat_learn.proofs.Antecedents.{lit_at}
use Rattle.sat_learn.proofs.RootLevel.{upto_at}
use Rattle.sat_learn.proofs.Tracking.{any_var}

-- ---- a place joins

contains_first : (xs : List ℕ) (x : ℕ) → Contains (x ∷ xs) x
contains_first xs x = Contains-append_left (x ∷ []) xs x (Contains-push [] x)

pub pushed_there : (queue more : List ℕ) (i : ℕ) → IsPermutation (i ∷ queue) more → Contains more i
pushed_there queue more i pushed = Contains-permutation (i ∷ queue) more i pushed (contains_first queue i)

pub pushed_stays : (queue more : List ℕ) (i j : ℕ) → IsPermutation (i ∷ queue) more → Contains queue j → Contains more j
pushed_stays queue more i j pushed there = Contains-permutation (i ∷ queue) more j pushed (Contains-append_right (i ∷ []) queue j there)

-- the place of a false literal whose variable is marked
pub queued_more : (t : TrailState) (marks : List Bool) (queue more : List ℕ) (l : ℤ) (i : ℕ) (q : Assignment) → IsTrail t → StandsAt t.assignments i q → q.lit ≡ neg_ℤ l → IsPermutation (i ∷ queue) more → (place : ℕ) → AreQueued t.assignments marks queue place → AreQueued t.assignments (set marks (nat_abs l) true) more place
queued_more t marks queue more l i q h there is pushed place queued j p here root marked lt =
    elim (cases_eq (nat_abs p.lit) (nat_abs l)) [
      | inl e ↦ (let same : i ≡ j = one_place t.assignments i j q p h.distinct there here (ap nat_abs is ∙ nat_abs-neg_ℤ l ∙ sym e) in
          let C : ℕ → Type 0 = λ n. Contains more n in
          subst C same (pushed_there queue more i pushed))
      | inr e ↦ pushed_stays queue more i j pushed (queued j p here root (sym (get_or-set_other marks (nat_abs l) (nat_abs p.lit) true false e) ∙ marked) lt)
    ]

-- the places of all literals that were met
pub queued_among : (t : TrailState) (marks : List Bool) (queue : List ℕ) (ls : List ℤ) (place : ℕ) → AreRootsAmong t.assignments marks ls → ((l : ℤ) (i : ℕ) (p : Assignment) → has ls l ≡ true → StandsAt t.assignments i p → nat_abs p.lit ≡ nat_abs l → Contains queue i) → AreQueued t.assignments marks queue place
queued_among t marks queue ls place among each i p here root marked lt =
    let found = any_var (nat_abs p.lit) ls (among.covers (nat_abs p.lit) marked (record { assignment = p; place = i; stands = here; root = root; of_var = refl })) in
    each found.0 i p found.1 here (sym found.2)

-- the places of one literal more
pub queued_next : (t : TrailState) (queue more : List ℕ) (ls : List ℤ) (k : ℕ) (l : ℤ) (i : ℕ) (q : Assignment) → IsTrail t → k < length ls → l ≡ get_or ls k l → StandsAt t.assignments i q → q.lit ≡ neg_ℤ l → IsPermutation (i ∷ queue) more → ((x : ℤ) (j : ℕ) (p : Assignment) → has (take k ls) x ≡ true → StandsAt t.assignments j p → nat_abs p.lit ≡ nat_abs x → Contains queue j) → (x : ℤ) (j : ℕ) (p : Assignment) → has (take (k + 1) ls) x ≡ true → StandsAt t.assignments j p → nat_abs p.lit ≡ nat_abs x → Contains more j
queued_next t queue more ls k l i q h lt is there negated pushed each x j p met here of_var =
    let split : take (k + 1) ls ≡ take k ls ++ l ∷ [] = take_more ls k l lt ∙ ap (λ y. take k ls ++ y ∷ []) (sym is) in
    let H : List ℤ → Type 0 = λ ys. has ys x ≡ true in
    elim (or_cases (has (take k ls) x) (has (l ∷ []) x) (sym (has-append (take k ls) (l ∷ []) x) ∙ subst H split met)) [
      | inl e ↦ pushed_stays queue more i j pushed (each x j p e here of_var)
      | inr e ↦ elim (or_cases (same_lit l x) false e) [
        | inl f ↦ (let same : i ≡ j = one_place t.assignments i j q p h.distinct there here (ap nat_abs negated ∙ nat_abs-neg_ℤ l ∙ ap nat_abs (same_lit-true l x f) ∙ sym of_var) in
            let C : ℕ → Type 0 = λ n. Contains more n in
            subst C same (pushed_there queue more i pushed))
        | inr f ↦ cc
      ]
    ]

-- ---- a place leaves

popped_cases : (old new : List ℕ) (x i : ℕ) → IsPermutation old (x ∷ new) → Contains old i → (i ≡ x) ⊎ Contains new i
popped_cases old new x i taken there =
    elim (Contains-append_cases (x ∷ []) new i (Contains-permutation old (x ∷ new) i taken there)) [
      | inl e ↦ inl (only e)
      | inr e ↦ inr e
    ]
  where
    only : Contains (x ∷ []) i → i ≡ x
    only h = let at : h.0 ≡ 0 = omega (arith, h.1) in let C : ℕ → Type 0 = λ n. get_or (x ∷ []) n i ≡ i in sym (subst C at h.2)

-- one that isn't of a marked literal
pub queued_less : (ps : List Assignment) (marks : List Bool) (old new : List ℕ) (x before : ℕ) → IsPermutation old (x ∷ new) → ((p : Assignment) → x < before → StandsAt ps x p → is_marked marks p.lit ≡ false) → AreQueued ps marks old before → AreQueued ps marks new before
queued_less ps marks old new x before taken unmarked queued i p here root marked lt =
    elim (popped_cases old new x i taken (queued i p here root marked lt)) [
      | inl e ↦ (let S : ℕ → Type 0 = λ n. StandsAt ps n p in
          absurd (both_ways (is_marked marks p.lit) (unmarked p (omega arith) (subst S e here)) marked))
      | inr e ↦ e
    ]

-- the greatest one, of a marked literal
pub next_from : (t : TrailState) (marks : List Bool) (old new : List ℕ) (before place : ℕ) (lit : ℤ) → IsTrail t → before ≤ length (upto 0 t.assignments) → place < before → lit ≡ get_or (lits t.assignments) place lit → is_marked marks lit ≡ true → IsPermutation old (place ∷ new) → All (λ other. other ≤ place) new → AreQueued t.assignments marks old before → AreRootsClear t.assignments marks before → IsNextRoot t.assignments marks new before place
next_from t marks old new before place lit h within below lit_is marked taken greatest queued clear =
    let found = upto_at 0 0 t.assignments t.level place h.climbs (omega arith) in
    let low = found.2 in
    let M : ℤ → Type 0 = λ l. is_marked marks l ≡ true in
    record {
      below = below;
      root = record { assignment = found.0; stands = found.1; root = omega arith; marked = subst M (lit_at t.assignments place found.0 lit found.1 lit_is) marked };
      clear = λ i p here root from. false_from_ne_true (is_marked marks p.lit) (λ k.
          elim (cases_lt i before) [
            | inl lt ↦ elim (popped_cases old new place i taken (queued i p here root k lt)) [
              | inl e ↦ absurd (omega arith)
              | inr e ↦ (let le : i ≤ place = All-contains (λ other. other ≤ place) new i greatest e in absurd (omega arith))
            ]
            | inr le ↦ both_ways (is_marked marks p.lit) (clear i p here root le) k
          ]);
      queued = λ i p here root k lt. elim (popped_cases old new place i taken (queued i p here root k (omega arith))) [
        | inl e ↦ absurd (omega arith)
        | inr e ↦ e
      ];
    }

-- ---- a variable is unmarked

pub queued_unmarked : (ps : List Assignment) (marks : List Bool) (queue : List ℕ) (var place : ℕ) → var < length marks → AreQueued ps marks queue place → AreQueued ps (set marks var false) queue place
queued_unmarked ps marks queue var place room queued i p here root marked lt =
    elim (cases_eq (nat_abs p.lit) var) [
      | inl e ↦ absurd (both_ways (is_marked (set marks var false) p.lit) (ap (λ n. get_or (set marks var false) n false) e ∙ get_or-set_same marks var false false room) marked)
      | inr e ↦ queued i p here root (sym (get_or-set_other marks var (nat_abs p.lit) false false e) ∙ marked) lt
    ]
