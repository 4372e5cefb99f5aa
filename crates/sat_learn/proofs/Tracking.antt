-- How the marks stay tracked while a conflict is resolved.
use Rattle.std.proofs.Common.{◌≡◌, ℕ, ◌+◌, ◌-◌, ◌^◌, ◌<◌, ◌≤◌, Bool, true, false, ◌&&◌, eqb, ℤ, neg_ℤ, nat_abs, List, [], ◌∷◌, ◌++◌, length, map, set, get_or, ◌⊎◌, refl, ap, sym, ◌∙◌, subst, arith, inl, inr}
use Rattle.std.specs.List.{list_any, count_by}
use Rattle.std.proofs.lemmas.Bool.{cases_eq, cases_lt, eqb-true, eq-eqb, ne_eqb, or_cases, or_left, or_right, and_right, and_left, both_ways}
use Rattle.std.proofs.lemmas.Map.Steps.{length-le_from_distinct_below}
use Rattle.std.proofs.lemmas.List.Sums.{count_by-le-length}
use Rattle.std.proofs.lemmas.List.{length-map, length-set, get_or-set_same, get_or-set_other}
use Rattle.cnf_base.specs.Status.{same_lit, has}
use Rattle.cnf_base.proofs.Literals.{same_lit-true, has-head, has-append, neg_ℤ-neg_ℤ, nat_abs-neg_ℤ}
use Rattle.sat_trail.specs.Trail.{Assignment, TrailState, IsTrail, lits}
use Rattle.sat_learn.specs.Resolving.{is_marked, StandsAt, IsFalseAt}
use Rattle.sat_learn.specs.Tracking.{is_open, IsFiled, IsBetween, IsTracked}
use Rattle.sat_learn.proofs.Assignments.{one_place, one_assignment, true_literal, true_by}
use Rattle.sat_learn.proofs.Counts.{count_found, count_same, count_one_more}
use Rattle.sat_learn.proofs.MarkedLiterals.{any_push, open_parts, open_from, false_push}

-- a variable of a list's literals is that of one of them
pub any_var : (v : ℕ) (ls : List ℤ) → list_any (eqb v) (map nat_abs ls) ≡ true → (l : ℤ) × (has ls l ≡ true) × (nat_abs l ≡ v)
any_var v [] h = cc
any_var v (m ∷ ms) h =
    elim (or_cases (eqb v (nat_abs m)) (list_any (eqb v) (map nat_abs ms)) h) [
      | inl e ↦ (m, has-head m ms, sym (eqb-true v (nat_abs m) e))
      | inr e ↦ (let found = any_var v ms e in (found.0, or_right (same_lit m found.0) (has ms found.0) found.1, found.2))
    ]

-- a trail's literals are no more than its variables, and 0
few_assigned : (t : TrailState) → IsTrail t → length t.assignments ≤ t.vars + 1
few_assigned t h =
    let size : length (map nat_abs (lits t.assignments)) ≡ length t.assignments = length-map (lits t.assignments) nat_abs ∙ length-map t.assignments (λ (p : Assignment). p.lit) in
    let bound = length-le_from_distinct_below (map nat_abs (lits t.assignments)) (t.vars + 1) h.distinct (λ q k.
    let found = any_var q (lits t.assignments) k in
    let within = (true_literal t found.0 h found.1).variable in
    let same = found.2 in
    omega arith) in
    omega arith

-- so one more can be counted
pub open_few : (t : TrailState) (marks : List Bool) (number : ℕ) → IsTrail t → number ≡ count_by (is_open t.level marks) t.assignments → number < 2 ^ 32 - 1
open_few t marks number h is =
    let few = few_assigned t h in
    let vars = h.few_vars in
    let most = count_by-le-length (is_open t.level marks) t.assignments in
    omega arith

-- ---- one mark

-- a variable that isn't of the changed one keeps its mark
kept_mark : (marks : List Bool) (var : ℕ) (b : Bool) (l : ℤ) → (nat_abs l ≡ var → ⊥) → is_marked (set marks var b) l ≡ is_marked marks l
kept_mark marks var b l differs = get_or-set_other marks var (nat_abs l) b false differs

still_marked : (marks : List Bool) (var : ℕ) (l : ℤ) → var < length marks → is_marked marks l ≡ true → is_marked (set marks var true) l ≡ true
still_marked marks var l room h =
    elim (cases_eq (nat_abs l) var) [
      | inl e ↦ ap (λ n. get_or (set marks var true) n false) e ∙ get_or-set_same marks var true false room
      | inr e ↦ kept_mark marks var true l e ∙ h
    ]

-- the count goes by the changed variable's assignment alone
open_elsewhere : (t : TrailState) (marks : List Bool) (var : ℕ) (b : Bool) (i : ℕ) (p : Assignment) (level : ℕ) → IsTrail t → StandsAt t.assignments i p → nat_abs p.lit ≡ var → (j : ℕ) (q : Assignment) → StandsAt t.assignments j q → (j ≡ i → ⊥) → is_open level (set marks var b) q ≡ is_open level marks q
open_elsewhere t marks var b i p level h there of_var j q here differs =
    ap (λ m. m && eqb q.level level) (kept_mark marks var b q.lit (λ e. differs (one_place t.assignments j i q p h.distinct here there (e ∙ sym of_var))))

pub count_other_level : (t : TrailState) (marks : List Bool) (var : ℕ) (b : Bool) (i : ℕ) (p : Assignment) → IsTrail t → StandsAt t.assignments i p → nat_abs p.lit ≡ var → (p.level ≡ t.level → ⊥) → count_by (is_open t.level marks) t.assignments ≡ count_by (is_open t.level (set marks var b)) t.assignments
count_other_level t marks var b i p h there of_var differs =
    count_same (is_open t.level marks) (is_open t.level (set marks var b)) t.assignments each
  where
    not_here : (m : List Bool) (q : Assignment) → (q.level ≡ t.level → ⊥) → is_open t.level m q ≡ false
    not_here m q apart = and_right (is_marked m q.lit) (eqb q.level t.level) (ne_eqb q.level t.level apart)

    each : (j : ℕ) (q : Assignment) → StandsAt t.assignments j q → is_open t.level marks q ≡ is_open t.level (set marks var b) q
    each j q here =
        elim (cases_eq (nat_abs q.lit) var) [
          | inl e ↦ (let same : q ≡ p = one_assignment t j i q p h here there (e ∙ sym of_var) in
              let apart : q.level ≡ t.level → ⊥ = λ k. differs (ap (λ (r : Assignment). r.level) (sym same) ∙ k) in
              not_here marks q apart ∙ sym (not_here (set marks var b) q apart))
          | inr e ↦ ap (λ m. m && eqb q.level t.level) (sym (kept_mark marks var b q.lit e))
        ]

-- ---- one more literal is noted

-- where the marked variables are filed, one more is
filed_more : (t : TrailState) (marks : List Bool) (kept more root_lits roots : List ℤ) (l : ℤ) (p : Assignment) (i : ℕ) → StandsAt t.assignments i p → nat_abs p.lit ≡ nat_abs l → ((list_any (eqb (nat_abs l)) (map nat_abs roots) ≡ true) × (p.level ≡ 0)) ⊎ ((has more (neg_ℤ p.lit) ≡ true) ⊎ (p.level ≡ t.level)) → ((x : ℤ) → has kept x ≡ true → has more x ≡ true) → ((v : ℕ) → list_any (eqb v) (map nat_abs root_lits) ≡ true → list_any (eqb v) (map nat_abs roots) ≡ true) → ((v : ℕ) → get_or marks v false ≡ true → IsFiled t kept root_lits v) → (v : ℕ) → get_or (set marks (nat_abs l) true) v false ≡ true → IsFiled t more roots v
filed_more t marks kept more root_lits roots l p i there of_var here grows roots_grow filed v marked =
    elim (cases_eq v (nat_abs l)) [
      | inl e ↦ (let F : ℕ → Type 0 = λ n. ((list_any (eqb n) (map nat_abs roots) ≡ true) × (p.level ≡ 0)) ⊎ ((has more (neg_ℤ p.lit) ≡ true) ⊎ (p.level ≡ t.level)) in
          record { assignment = p; place = i; stands = there; of_var = of_var ∙ sym e; filed = subst F (sym e) here })
      | inr e ↦ (let old = filed v (sym (get_or-set_other marks (nat_abs l) v true false e) ∙ marked) in
          record {
            assignment = old.assignment;
            place = old.place;
            stands = old.stands;
            of_var = old.of_var;
            filed = elim old.filed [
              | inl root ↦ inl (roots_grow v root.0, root.1)
              | inr other ↦ elim other [
                | inl k ↦ inr (inl (grows (neg_ℤ old.assignment.lit) k))
                | inr k ↦ inr (inr k)
              ]
            ];
          })
    ]

pub track_root : (t : TrailState) (marks : List Bool) (kept root_lits : List ℤ) (number : ℕ) (l : ℤ) (level : ℕ) → IsTrail t → IsTracked t marks kept root_lits number → nat_abs l < length marks → IsFalseAt t.assignments l level → level ≡ 0 → IsTracked t (set marks (nat_abs l) true) kept (root_lits ++ l ∷ []) number
track_root t marks kept root_lits number l level trail h room at root =
    let roots = root_lits ++ l ∷ [] in
    let grows : (v : ℕ) → list_any (eqb v) (map nat_abs root_lits) ≡ true → list_any (eqb v) (map nat_abs roots) ≡ true = λ v k. any_push v root_lits l ∙ or_left (list_any (eqb v) (map nat_abs root_lits)) (eqb v (nat_abs l)) k in
    let there : list_any (eqb (nat_abs l)) (map nat_abs roots) ≡ true = any_push (nat_abs l) root_lits l ∙ or_right (list_any (eqb (nat_abs l)) (map nat_abs root_lits)) (eqb (nat_abs l) (nat_abs l)) (eq-eqb (nat_abs l) (nat_abs l) refl) in
    let of_var : nat_abs at.assignment.lit ≡ nat_abs l = ap nat_abs at.negated ∙ nat_abs-neg_ℤ l in
    let above = h.above in
    let level_is = at.at_level in
    let differs : at.assignment.level ≡ t.level → ⊥ = λ e. absurd (omega arith) in
    record {
      above = h.above;
      room = length-set marks (nat_abs l) true ∙ h.room;
      filed = filed_more t marks kept kept root_lits roots l at.assignment at.place at.stands of_var (inl (there, at.at_level ∙ root)) (λ x k. k) grows h.filed;
      between = h.between;
      roots_false = false_push (lits t.assignments) root_lits roots l refl h.roots_false (true_by t l level at);
      number = h.number ∙ count_other_level t marks (nat_abs l) true at.place at.assignment trail at.stands of_var differs;
    }

pub track_kept : (t : TrailState) (marks : List Bool) (kept root_lits : List ℤ) (number : ℕ) (l : ℤ) (level : ℕ) → IsTrail t → IsTracked t marks kept root_lits number → nat_abs l < length marks → IsFalseAt t.assignments l level → (level ≡ 0 → ⊥) → level < t.level → IsTracked t (set marks (nat_abs l) true) (kept ++ l ∷ []) root_lits number
track_kept t marks kept root_lits number l level trail h room at above below =
    let of_var : nat_abs at.assignment.lit ≡ nat_abs l = ap nat_abs at.negated ∙ nat_abs-neg_ℤ l in
    let level_is = at.at_level in
    let differs : at.assignment.level ≡ t.level → ⊥ = λ e. absurd (omega arith) in
    let grows : (x : ℤ) → has kept x ≡ true → has (kept ++ l ∷ []) x ≡ true = λ x k. has-append kept (l ∷ []) x ∙ or_left (has kept x) (has (l ∷ []) x) k in
    let there : has (kept ++ l ∷ []) l ≡ true = has-append kept (l ∷ []) l ∙ or_right (has kept l) (has (l ∷ []) l) (has-head l []) in
    let negation : l ≡ neg_ℤ at.assignment.lit = sym (ap neg_ℤ at.negated ∙ neg_ℤ-neg_ℤ l) in
    let H : ℤ → Type 0 = λ x. has (kept ++ l ∷ []) x ≡ true in
    let K : ℤ → Type 0 = λ x. IsBetween t x in
    record {
      above = h.above;
      room = length-set marks (nat_abs l) true ∙ h.room;
      filed = filed_more t marks kept (kept ++ l ∷ []) root_lits root_lits l at.assignment at.place at.stands of_var (inr (inl (subst H negation there))) grows (λ v e. e) h.filed;
      roots_false = h.roots_false;
      between = λ x k. elim (or_cases (has kept x) (has (l ∷ []) x) (sym (has-append kept (l ∷ []) x) ∙ k)) [
        | inl e ↦ h.between x e
        | inr e ↦ elim (or_cases (same_lit l x) false e) [
          | inl f ↦ subst K (same_lit-true l x f) (record { level = level; false_at = at; above_root = omega arith; below_present = below })
          | inr f ↦ cc
        ]
      ];
      number = h.number ∙ count_other_level t marks (nat_abs l) true at.place at.assignment trail at.stands of_var differs;
    }

pub track_open : (t : TrailState) (marks : List Bool) (kept root_lits : List ℤ) (number : ℕ) (l : ℤ) (level : ℕ) → IsTrail t → IsTracked t marks kept root_lits number → nat_abs l < length marks → is_marked marks l ≡ false → IsFalseAt t.assignments l level → level ≡ t.level → IsTracked t (set marks (nat_abs l) true) kept root_lits (number + 1)
track_open t marks kept root_lits number l level trail h room unmarked at present =
    let of_var : nat_abs at.assignment.lit ≡ nat_abs l = ap nat_abs at.negated ∙ nat_abs-neg_ℤ l in
    let level_is : at.assignment.level ≡ t.level = at.at_level ∙ present in
    let before : is_marked marks at.assignment.lit ≡ false = ap (λ n. get_or marks n false) of_var ∙ unmarked in
    let after : is_marked (set marks (nat_abs l) true) at.assignment.lit ≡ true = ap (λ n. get_or (set marks (nat_abs l) true) n false) of_var ∙ get_or-set_same marks (nat_abs l) true false room in
    let more = count_one_more (is_open t.level marks) (is_open t.level (set marks (nat_abs l) true)) t.assignments at.place at.assignment at.stands
    (and_left (is_marked marks at.assignment.lit) (eqb at.assignment.level t.level) before)
    (open_from t.level (set marks (nat_abs l) true) at.assignment after level_is)
    (λ j q here differs. sym (open_elsewhere t marks (nat_abs l) true at.place at.assignment t.level trail at.stands of_var j q here differs)) in
    record {
      above = h.above;
      room = length-set marks (nat_abs l) true ∙ h.room;
      filed = filed_more t marks kept kept root_lits root_lits l at.assignment at.place at.stands of_var (inr (inr level_is)) (λ x k. k) (λ v e. e) h.filed;
      roots_false = h.roots_false;
      between = h.between;
      number = ap (λ n. n + 1) h.number ∙ sym more;
    }

-- ---- the resolved literal isn't marked any more

pub track_unmark : (t : TrailState) (marks : List Bool) (kept root_lits : List ℤ) (number : ℕ) (i : ℕ) (p : Assignment) → IsTrail t → IsTracked t marks kept root_lits number → StandsAt t.assignments i p → p.level ≡ t.level → is_marked marks p.lit ≡ true → nat_abs p.lit < length marks → IsTracked t (set marks (nat_abs p.lit) false) kept root_lits (number - 1)
track_unmark t marks kept root_lits number i p trail h there level_is marked room =
    let var = nat_abs p.lit in
    let after : is_marked (set marks var false) p.lit ≡ false = get_or-set_same marks var false false room in
    let fewer = count_one_more (is_open t.level (set marks var false)) (is_open t.level marks) t.assignments i p there
    (and_left (is_marked (set marks var false) p.lit) (eqb p.level t.level) after)
    (open_from t.level marks p marked level_is)
    (λ j q here differs. open_elsewhere t marks var false i p t.level trail there refl j q here differs) in
    let number_is = h.number in
    record {
      above = h.above;
      room = length-set marks var false ∙ h.room;
      filed = λ v k. elim (cases_eq v var) [
        | inl e ↦ (let gone : get_or (set marks var false) v false ≡ false = ap (λ n. get_or (set marks var false) n false) e ∙ after in
            absurd (both_ways (get_or (set marks var false) v false) gone k))
        | inr e ↦ h.filed v (sym (get_or-set_other marks var v false false e) ∙ k)
      ];
      between = h.between;
      roots_false = h.roots_false;
      number = omega arith;
    }

-- ---- nothing is marked

pub track_none : (t : TrailState) (marks : List Bool) → 0 < t.level → length marks ≡ t.vars + 1 → ((v : ℕ) → get_or marks v false ≡ false) → IsTracked t marks [] [] 0
track_none t marks above room unmarked =
    record {
      above = above;
      room = room;
      filed = λ v k. absurd (both_ways (get_or marks v false) (unmarked v) k);
      between = λ x k. cc;
      roots_false = λ x k. cc;
      number = elim (cases_lt 0 (count_by (is_open t.level marks) t.assignments)) [
        | inl some ↦ (let found = count_found (is_open t.level marks) t.assignments some in
            absurd (both_ways (is_marked marks found.1.lit) (unmarked (nat_abs found.1.lit)) (open_parts t.level marks found.1 found.3).0))
        | inr none ↦ omega arith
      ];
    }

pub track_begun : (t : TrailState) (marks : List Bool) (kept root_lits : List ℤ) (number : ℕ) → kept ≡ [] → root_lits ≡ [] → number ≡ 0 → 0 < t.level → length marks ≡ t.vars + 1 → ((v : ℕ) → get_or marks v false ≡ false) → IsTracked t marks kept root_lits number
track_begun t marks kept root_lits number no_kept no_root no_open above room unmarked =
    let K : List ℤ → Type 0 = λ ls. IsTracked t marks ls root_lits number in
    let R : List ℤ → Type 0 = λ ls. IsTracked t marks [] ls number in
    let N : ℕ → Type 0 = λ n. IsTracked t marks [] [] n in
    subst K (sym no_kept) (subst R (sym no_root) (subst N (sym no_open) (track_none t marks above room unmarked)))
