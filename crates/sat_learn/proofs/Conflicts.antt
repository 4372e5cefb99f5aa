-- A conflict, from the clause that is false to what is marked in the end.
use Rattle.std.proofs.Common.{◌≡◌, ℕ, ◌+◌, ◌-◌, ◌<◌, ◌≤◌, Bool, true, false, eqb, ℤ, pos, neg_ℤ, nat_abs, List, [], ◌∷◌, ◌++◌, length, map, reverse, get_or, ◌⊎◌, refl, ap, sym, ◌∙◌, subst, arith, inl, inr}
use Rattle.std.specs.List.{list_any, count_by, All}
use Rattle.std.proofs.lemmas.Bool.{cases_lt, or_cases, or_right, both_ways, false_from_ne_true}
use Rattle.std.proofs.lemmas.Option.{slice_get_within}
use Rattle.cnf_base.specs.Status.{has, IsFalsifiedIn}
use Rattle.cnf_base.proofs.Literals.{neg_ℤ-neg_ℤ, nat_abs-neg_ℤ}
use Rattle.sat_trail.specs.Trail.{Assignment, TrailState, IsTrail, lits, upto}
use Rattle.sat_learn.specs.Reasons.{HasId, Follows}
use Rattle.sat_learn.specs.Resolving.{is_marked, StandsAt, Refutes, AreBelow, AreRootsClear, AreRootsAmong, DifferAtRoots, with_marks}
use Rattle.sat_learn.specs.Tracking.{is_open, IsFiled, IsBetween, IsTracked, IsFirstUip, IsMinimized}
use Rattle.sat_learn.proofs.Assignments.{assignment_there, true_there, one_assignment, same_at, upto_true, true_upto, level_to}
use Rattle.sat_learn.proofs.Refutation.{refutes_conflict}
use Rattle.sat_learn.proofs.Counts.{count_some, count_one}
use Rattle.sat_learn.proofs.MarkedLiterals.{open_from, has_at, false_in_range}
use Rattle.sat_learn.proofs.Tracking.{any_var}
use Rattle.sat_learn.proofs.ResolveStep.{any_from}

-- all literals stand below the trail's end
pub all_below : (ps : List Assignment) (marks : List Bool) (n : ℕ) → n ≡ length ps → AreBelow ps marks n
all_below ps marks n is i p there marked = let lt = slice_get_within ps i p there in omega arith

-- the assignment of a kept literal
kept_assignment : (t : TrailState) (i : ℕ) (p : Assignment) → IsTrail t → StandsAt t.assignments i p → (h : IsBetween t (neg_ℤ p.lit)) → p.level ≡ h.level
kept_assignment t i p trail there h =
    let same : p ≡ h.false_at.assignment = one_assignment t i h.false_at.place p h.false_at.assignment trail there h.false_at.stands (ap nat_abs (sym (h.false_at.negated ∙ neg_ℤ-neg_ℤ p.lit))) in
    ap (λ (q : Assignment). q.level) same ∙ h.false_at.at_level

-- ---- level 0

-- those that are marked are among the literals that were met
pub roots_among : (t : TrailState) (marks : List Bool) (kept root_lits : List ℤ) (number : ℕ) → IsTrail t → IsTracked t marks kept root_lits number → AreRootsAmong t.assignments marks root_lits
roots_among t marks kept root_lits number trail h =
    record {
      covers = λ v marked root. (let filed = h.filed v marked in
          let same : filed.assignment ≡ root.assignment = one_assignment t filed.place root.place filed.assignment root.assignment trail filed.stands root.stands (filed.of_var ∙ sym root.of_var) in
          let level_is : filed.assignment.level ≡ 0 = ap (λ (q : Assignment). q.level) same ∙ root.root in
          let above = h.above in
          elim filed.filed [
            | inl e ↦ e.0
            | inr e ↦ elim e [
              | inl k ↦ (let x = h.between (neg_ℤ filed.assignment.lit) k in
                  let levels = kept_assignment t filed.place filed.assignment trail filed.stands x in
                  let low = x.above_root in
                  absurd (omega arith))
              | inr k ↦ absurd (omega arith)
            ]
          ]);
      false_now = h.roots_false;
    }

-- ---- the present level

pub conflict_open : (t : TrailState) (marks : List Bool) (kept root_lits : List ℤ) (number : ℕ) (conflict : List ℤ) → IsTrail t → IsTracked t marks kept root_lits number → ((l : ℤ) → has conflict l ≡ true → is_marked marks l ≡ true) → IsFalsifiedIn (lits t.assignments) conflict → (IsFalsifiedIn (lits (upto (t.level - 1) t.assignments)) conflict → ⊥) → 0 < number
conflict_open t marks kept root_lits number conflict trail h marked false_now not_before =
    elim (cases_lt 0 number) [
      | inl lt ↦ lt
      | inr none ↦ absurd (not_before (λ l inside. (not_true l inside, false_before none l inside)))
    ]
  where
    not_true : (l : ℤ) → has conflict l ≡ true → has (lits (upto (t.level - 1) t.assignments)) l ≡ false
    not_true l inside =
        false_from_ne_true (has (lits (upto (t.level - 1) t.assignments)) l) (λ e.
        let found = true_upto (t.level - 1) t.assignments l e in
        let P : ℤ → Type 0 = λ x. has (lits t.assignments) x ≡ true in
        both_ways (has (lits t.assignments) l) (false_now l inside).0 (subst P found.3 (true_there t.assignments found.0 found.1 found.2)))

    false_before : number ≤ 0 → (l : ℤ) → has conflict l ≡ true → has (lits (upto (t.level - 1) t.assignments)) (neg_ℤ l) ≡ true
    false_before none l inside =
        let filed = h.filed (nat_abs l) (marked l inside) in
        let found = assignment_there t.assignments (neg_ℤ l) (false_now l inside).1 in
        let same : filed.assignment ≡ found.1 = one_assignment t filed.place found.0 filed.assignment found.1 trail filed.stands found.2 (filed.of_var ∙ sym (nat_abs-neg_ℤ l) ∙ ap nat_abs (sym found.3)) in
        let lit_is : filed.assignment.lit ≡ neg_ℤ l = ap (λ (q : Assignment). q.lit) same ∙ found.3 in
        let P : ℤ → Type 0 = λ x. has (lits (upto (t.level - 1) t.assignments)) x ≡ true in
        let above = h.above in
        let number_is = h.number in
        elim filed.filed [
          | inl e ↦ (let root = e.1 in subst P lit_is (upto_true (t.level - 1) t.assignments filed.place filed.assignment filed.stands (omega arith)))
          | inr e ↦ elim e [
            | inl k ↦ (let x = h.between (neg_ℤ filed.assignment.lit) k in
                let levels = kept_assignment t filed.place filed.assignment trail filed.stands x in
                let below = x.below_present in
                subst P lit_is (upto_true (t.level - 1) t.assignments filed.place filed.assignment filed.stands (omega arith)))
            | inr k ↦ (let here : is_marked marks filed.assignment.lit ≡ true = ap (λ n. get_or marks n false) filed.of_var ∙ marked l inside in
                let some = count_some (is_open t.level marks) t.assignments filed.place filed.assignment filed.stands (open_from t.level marks filed.assignment here k) in
                absurd (omega arith))
          ]
        ]

-- what is marked when one literal of the present level is left
pub minimized_from : (t : TrailState) (marks after : List Bool) (kept root_lits : List ℤ) (number place : ℕ) → IsTrail t → IsTracked t marks kept root_lits number → number ≡ 1 → IsFirstUip t marks place → AreRootsClear t.assignments after 0 → DifferAtRoots t.assignments marks after → length after ≡ t.vars + 1 → IsMinimized t after kept place
minimized_from t marks after kept root_lits number place trail h one first_uip clear differ room =
    record {
      above = h.above;
      room = room;
      first_uip = record {
        assignment = first_uip.assignment;
        stands = first_uip.stands;
        marked = elim (differ (nat_abs first_uip.assignment.lit)) [
          | inl same ↦ same ∙ first_uip.marked
          | inr root ↦ (let is : root.assignment ≡ first_uip.assignment = one_assignment t root.place place root.assignment first_uip.assignment trail root.stands first_uip.stands root.of_var in
              let levels : 0 ≡ t.level = sym root.root ∙ ap (λ (q : Assignment). q.level) is ∙ first_uip.at_level in
              let above = h.above in
              absurd (omega arith))
        ];
        at_level = first_uip.at_level;
      };
      marked = λ v m. elim (differ v) [
        | inl same ↦ by_file v (sym same ∙ m) (h.filed v (sym same ∙ m)) m
        | inr root ↦ absurd (not_rooted v root.place root.assignment root.stands root.root root.of_var m)
      ];
      between = h.between;
    }
  where
    not_rooted : (v i : ℕ) (p : Assignment) → StandsAt t.assignments i p → p.level ≡ 0 → nat_abs p.lit ≡ v → get_or after v false ≡ true → ⊥
    not_rooted v i p there root of_var m =
        both_ways (is_marked after p.lit) (clear i p there root (omega arith)) (ap (λ n. get_or after n false) of_var ∙ m)

    by_file : (v : ℕ) → get_or marks v false ≡ true → IsFiled t kept root_lits v → get_or after v false ≡ true → (nat_abs first_uip.assignment.lit ≡ v) ⊎ (list_any (eqb v) (map nat_abs kept) ≡ true)
    by_file v old filed m =
        let P : ℕ → Type 0 = λ n. list_any (eqb n) (map nat_abs kept) ≡ true in
        let number_is = h.number in
        elim filed.filed [
          | inl e ↦ absurd (not_rooted v filed.place filed.assignment filed.stands e.1 filed.of_var m)
          | inr e ↦ elim e [
            | inl k ↦ inr (subst P (nat_abs-neg_ℤ filed.assignment.lit ∙ filed.of_var) (any_from kept (neg_ℤ filed.assignment.lit) k))
            | inr k ↦ (let here : is_marked marks filed.assignment.lit ≡ true = ap (λ n. get_or marks n false) filed.of_var ∙ old in
                let few : count_by (is_open t.level marks) t.assignments ≤ 1 = omega arith in
                let same = count_one (is_open t.level marks) t.assignments place filed.place first_uip.assignment filed.assignment few first_uip.stands filed.stands (open_from t.level marks first_uip.assignment first_uip.marked first_uip.at_level) (open_from t.level marks filed.assignment here k) in
                let assignments_are = same_at t.assignments place filed.place first_uip.assignment filed.assignment first_uip.stands filed.stands same in
                inl (ap (λ (q : Assignment). nat_abs q.lit) assignments_are ∙ filed.of_var))
          ]
        ]

-- ---- a conflict at level 0

pub conflict_in_range : (t : TrailState) (marks : List Bool) (conflict : List ℤ) → IsTrail t → length marks ≡ t.vars + 1 → IsFalsifiedIn (lits t.assignments) conflict → All (λ l. nat_abs l < length marks) conflict
conflict_in_range t marks conflict h room false_now k d lt =
    let l = get_or conflict k d in
    false_in_range t marks l h room (false_now l (has_at conflict k l d lt refl)).1

-- the conflict's variables are marked
pub conflict_marked : (before marks : List Bool) (conflict : List ℤ) → ((v : ℕ) → get_or marks v false ≡ with_marks conflict before v) → (l : ℤ) → has conflict l ≡ true → is_marked marks l ≡ true
conflict_marked before marks conflict each l inside =
    each (nat_abs l) ∙ or_right (get_or before (nat_abs l) false) (list_any (eqb (nat_abs l)) (map nat_abs conflict)) (any_from conflict l inside)

-- and no others
pub conflict_among : (t : TrailState) (before marks : List Bool) (conflict : List ℤ) → ((v : ℕ) → get_or before v false ≡ false) → ((v : ℕ) → get_or marks v false ≡ with_marks conflict before v) → IsFalsifiedIn (lits t.assignments) conflict → AreRootsAmong t.assignments marks conflict
conflict_among t before marks conflict none each false_now =
    record {
      covers = λ v marked root. elim (or_cases (get_or before v false) (list_any (eqb v) (map nat_abs conflict)) (sym (each v) ∙ marked)) [
        | inl e ↦ absurd (both_ways (get_or before v false) (none v) e)
        | inr e ↦ e
      ];
      false_now = λ l inside. (false_now l inside).1;
    }

pub none_marked_at_root : (t : TrailState) (before marks after : List Bool) (conflict : List ℤ) → IsTrail t → t.level ≡ 0 → ((v : ℕ) → get_or before v false ≡ false) → ((v : ℕ) → get_or marks v false ≡ with_marks conflict before v) → IsFalsifiedIn (lits t.assignments) conflict → AreRootsClear t.assignments after 0 → DifferAtRoots t.assignments marks after → (v : ℕ) → get_or after v false ≡ false
none_marked_at_root t before marks after conflict h root none each false_now clear differ v =
    elim (differ v) [
      | inl same ↦ same ∙ false_from_ne_true (get_or marks v false) (λ e.
          elim (or_cases (get_or before v false) (list_any (eqb v) (map nat_abs conflict)) (sym (each v) ∙ e)) [
            | inl f ↦ both_ways (get_or before v false) (none v) f
            | inr f ↦ (let found = any_var v conflict f in
                let assignment = assignment_there t.assignments (neg_ℤ found.0) (false_now found.0 found.1).1 in
                let high = level_to 0 t.assignments t.level assignment.0 assignment.1 h.climbs assignment.2 in
                let of_var : nat_abs assignment.1.lit ≡ v = ap nat_abs assignment.3 ∙ nat_abs-neg_ℤ found.0 ∙ found.2 in
                both_ways (get_or after v false) (ap (λ n. get_or after n false) (sym of_var) ∙ clear assignment.0 assignment.1 assignment.2 (omega arith) (omega arith)) (same ∙ e))
          ])
      | inr r ↦ ap (λ n. get_or after n false) (sym r.of_var) ∙ clear r.place r.assignment r.stands r.root (omega arith)
    ]

-- ---- hints

pub conflict_refutes : (t : TrailState) (live : List (ℕ × List ℤ)) (conflict : List ℤ) (id : ℕ) (hint : ℤ) (marks : List Bool) (hints : List ℤ) → IsTrail t → IsFalsifiedIn (lits t.assignments) conflict → HasId live id conflict → hint ≡ pos id → hints ≡ [] ++ hint ∷ [] → ((l : ℤ) → has conflict l ≡ true → is_marked marks l ≡ true) → Refutes live (lits t.assignments) marks (reverse hints)
conflict_refutes t live conflict id hint marks hints h false_now has_id hint_is hints_are marked =
    let turned : reverse hints ≡ pos id ∷ [] = ap reverse hints_are ∙ ap (λ x. x ∷ []) hint_is in
    let P : List ℤ → Type 0 = λ hs. Refutes live (lits t.assignments) marks hs in
    subst P (sym turned) (refutes_conflict t live conflict id marks h false_now has_id marked)

-- where nothing is marked the hints end with nothing assumed
pub refutes_nothing : (t : TrailState) (live : List (ℕ × List ℤ)) (marks : List Bool) (hints : List ℤ) → ((v : ℕ) → get_or marks v false ≡ false) → Refutes live (lits t.assignments) marks hints → Follows live [] hints
refutes_nothing t live marks hints none refutes = record {
  ends = refutes.ends [] (λ l true_l marked. absurd (both_ways (is_marked marks l) (none (nat_abs l)) marked)) (λ l k. cc);
  live_hints = refutes.live_hints;
}
