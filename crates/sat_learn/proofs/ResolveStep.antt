-- One literal resolved with its antecedent: what is marked then, and the hints.
use Rattle.std.proofs.Common.{◌≡◌, ℕ, ◌+◌, ◌<◌, Bool, true, false, ◌||◌, eqb, ℤ, neg_ℤ, nat_abs, Option, Some, None, List, [], ◌∷◌, ◌++◌, length, map, reverse, set, get_or, ◌⊎◌, refl, ap, sym, ◌∙◌, subst, arith, inl, inr}
use Rattle.std.specs.List.{list_any, count_by, All}
use Rattle.std.specs.Option.{IsSome}
use Rattle.std.proofs.lemmas.Bool.{cases_eq, cases_lt, cases_Bool, or_cases, or_left, or_right, both_ways, eq-eqb, false_from_ne_true}
use Rattle.std.proofs.lemmas.List.{reverse-append, get_or-set_same, get_or-set_other}
use Rattle.cnf_base.specs.Status.{same_lit, has}
use Rattle.cnf_base.proofs.Literals.{same_lit-true, same_lit-apart, or-false, nat_abs-neg_ℤ}
use Rattle.sat_trail.specs.declared.clause_id.ClauseId.{ClauseId}
use Rattle.sat_trail.specs.Trail.{Assignment, TrailState, IsTrail, lits}
use Rattle.sat_learn.specs.Resolving.{is_marked, StandsAt, Refutes, Resolves, IsForcedAt, IsAntecedent, AreBelow, IsLastMarked, AreRootsClear, DifferAtRoots, with_marks}
use Rattle.sat_learn.specs.Tracking.{is_open}
use Rattle.sat_learn.proofs.Assignments.{assignment_there, true_there, one_place, one_assignment, same_at, true_before, levels_rise, decision_from, decision_rises, true_literal, one_way}
use Rattle.sat_learn.proofs.Refutation.{refutes_resolve}
use Rattle.sat_learn.proofs.Counts.{count_other}
use Rattle.sat_learn.proofs.MarkedLiterals.{open_parts, has_at, false_in_range}
use Rattle.sat_learn.proofs.Tracking.{any_var}

pub any_from : (ls : List ℤ) (m : ℤ) → has ls m ≡ true → list_any (eqb (nat_abs m)) (map nat_abs ls) ≡ true
any_from [] m h = cc
any_from (l ∷ ls) m h =
    elim (or_cases (same_lit l m) (has ls m) h) [
      | inl e ↦ or_left (eqb (nat_abs m) (nat_abs l)) (list_any (eqb (nat_abs m)) (map nat_abs ls)) (eq-eqb (nat_abs m) (nat_abs l) (ap nat_abs (sym (same_lit-true l m e))))
      | inr e ↦ or_right (eqb (nat_abs m) (nat_abs l)) (list_any (eqb (nat_abs m)) (map nat_abs ls)) (any_from ls m e)
    ]

reason_some : (r : Option ClauseId) → (r ≡ None → ⊥) → IsSome r
reason_some None h = absurd (h refl)
reason_some (Some r) h = refl

-- ---- reasons that are there

pub forced_at_root : (t : TrailState) (place : ℕ) (p : Assignment) → IsTrail t → StandsAt t.assignments place p → p.level ≡ 0 → IsForcedAt t.assignments place
forced_at_root t place p h there root =
    record {
      assignment = p;
      stands = there;
      forced = reason_some p.reason (λ none. let above = decision_from 0 t.assignments t.level place p h.climbs there none in absurd (omega arith));
    }

-- where another literal of its level is marked, the last one is no decision
pub forced_at_last : (t : TrailState) (marks : List Bool) (place : ℕ) → IsTrail t → IsLastMarked t marks place → 1 < count_by (is_open t.level marks) t.assignments → IsForcedAt t.assignments place
forced_at_last t marks place h last more =
    let other = count_other (is_open t.level marks) t.assignments place more in
    let parts = open_parts t.level marks other.1 other.3 in
    let within = last.below other.0 other.1 other.2 parts.0 in
    let before : other.0 < place = elim (cases_lt other.0 place) [
      | inl lt ↦ lt
      | inr ge ↦ absurd (other.4 (let e : other.0 ≡ place = omega arith in e))
    ] in
    record {
      assignment = last.assignment;
      stands = last.stands;
      forced = reason_some last.assignment.reason (λ none.
          let rises = decision_rises 0 t.assignments t.level other.0 place other.1 last.assignment h.climbs other.2 last.stands before none in
          let level_of_other = parts.1 in
          let level_of_last = last.at_level in
          absurd (omega arith));
    }

-- ---- the antecedent's other literals

-- they are false by earlier assignments
pub earlier : (clauses : List (List ℤ)) (proof_ids : List ℕ) (t : TrailState) (place : ℕ) (p : Assignment) (antecedent : List ℤ) (hint : ℤ) (m : ℤ) → IsTrail t → StandsAt t.assignments place p → IsAntecedent clauses proof_ids t.assignments place p antecedent hint → has antecedent m ≡ true → (m ≡ p.lit → ⊥) → (i : ℕ) × (q : Assignment) × StandsAt t.assignments i q × (q.lit ≡ neg_ℤ m) × (i < place) × (nat_abs m ≡ nat_abs p.lit → ⊥)
earlier clauses proof_ids t place p antecedent hint m h there known inside differs =
    let before = true_before t.assignments place (neg_ℤ m) (known.false_before m inside differs) in
    let lt = before.4 in (
      before.0,
      before.1,
      before.2,
      before.3,
      lt,
      λ e.
          (let same = one_place t.assignments before.0 place before.1 p h.distinct before.2 there (ap nat_abs before.3 ∙ nat_abs-neg_ℤ m ∙ e) in absurd (omega arith)),
    )

pub antecedent_false : (clauses : List (List ℤ)) (proof_ids : List ℕ) (t : TrailState) (place : ℕ) (p : Assignment) (antecedent : List ℤ) (hint : ℤ) (m : ℤ) → IsTrail t → StandsAt t.assignments place p → IsAntecedent clauses proof_ids t.assignments place p antecedent hint → has antecedent m ≡ true → (m ≡ p.lit) ⊎ (has (lits t.assignments) (neg_ℤ m) ≡ true)
antecedent_false clauses proof_ids t place p antecedent hint m h there known inside =
    elim (cases_Bool (same_lit m p.lit)) [
      | inl e ↦ inl (same_lit-true m p.lit e)
      | inr e ↦ (let before = earlier clauses proof_ids t place p antecedent hint m h there known inside (same_lit-apart m p.lit e) in
          let P : ℤ → Type 0 = λ x. has (lits t.assignments) x ≡ true in
          inr (subst P before.3 (true_there t.assignments before.0 before.1 before.2)))
    ]

pub antecedent_in_range : (clauses : List (List ℤ)) (proof_ids : List ℕ) (t : TrailState) (place : ℕ) (p : Assignment) (antecedent : List ℤ) (hint : ℤ) (marks : List Bool) → IsTrail t → length marks ≡ t.vars + 1 → StandsAt t.assignments place p → IsAntecedent clauses proof_ids t.assignments place p antecedent hint → All (λ l. nat_abs l < length marks) antecedent
antecedent_in_range clauses proof_ids t place p antecedent hint marks h room there known k d lt =
    let m = get_or antecedent k d in
    elim (antecedent_false clauses proof_ids t place p antecedent hint m h there known (has_at antecedent k m d lt refl)) [
      | inl e ↦ (let literal = true_literal t p.lit h (true_there t.assignments place p there) in
          let within = literal.variable in
          let same = ap nat_abs e in
          omega arith)
      | inr e ↦ false_in_range t marks m h room e
    ]

-- ---- what is marked after

-- what is marked then is another variable, which was marked or is one of the antecedent's
pub marked_then : (t : TrailState) (p : Assignment) (antecedent : List ℤ) (old mid : List Bool) (v : ℕ) → nat_abs p.lit < length mid → ((u : ℕ) → get_or mid u false ≡ with_marks antecedent old u) → get_or (set mid (nat_abs p.lit) false) v false ≡ true → (v ≡ nat_abs p.lit → ⊥) × ((get_or old v false ≡ true) ⊎ ((m : ℤ) × (has antecedent m ≡ true) × (nat_abs m ≡ v)))
marked_then t p antecedent old mid v room noted marked =
    let other : v ≡ nat_abs p.lit → ⊥ = λ e.
    both_ways (get_or (set mid (nat_abs p.lit) false) v false) (ap (λ n. get_or (set mid (nat_abs p.lit) false) n false) e ∙ get_or-set_same mid (nat_abs p.lit) false false room) marked in
    let before : (get_or old v false || list_any (eqb v) (map nat_abs antecedent)) ≡ true = sym (noted v) ∙ sym (get_or-set_other mid (nat_abs p.lit) v false false other) ∙ marked in (
      other,
      elim (or_cases (get_or old v false) (list_any (eqb v) (map nat_abs antecedent)) before) [
        | inl e ↦ inl e
        | inr e ↦ inr (any_var v antecedent e)
      ],
    )

-- an assignment whose variable is one of the antecedent's stands before
pub noted_before : (clauses : List (List ℤ)) (proof_ids : List ℕ) (t : TrailState) (place : ℕ) (p : Assignment) (antecedent : List ℤ) (hint : ℤ) (m : ℤ) (i : ℕ) (q : Assignment) → IsTrail t → StandsAt t.assignments place p → IsAntecedent clauses proof_ids t.assignments place p antecedent hint → has antecedent m ≡ true → StandsAt t.assignments i q → nat_abs m ≡ nat_abs q.lit → (nat_abs q.lit ≡ nat_abs p.lit → ⊥) → i < place
noted_before clauses proof_ids t place p antecedent hint m i q h there known inside here same other =
    let before = earlier clauses proof_ids t place p antecedent hint m h there known inside (λ e. other (sym same ∙ ap nat_abs e)) in
    let one = one_place t.assignments i before.0 q before.1 h.distinct here before.2 (sym same ∙ sym (nat_abs-neg_ℤ m) ∙ ap nat_abs (sym before.3)) in
    let lt = before.4 in
    omega arith

pub below_after : (clauses : List (List ℤ)) (proof_ids : List ℕ) (t : TrailState) (place : ℕ) (p : Assignment) (antecedent : List ℤ) (hint : ℤ) (old mid : List Bool) → IsTrail t → StandsAt t.assignments place p → IsAntecedent clauses proof_ids t.assignments place p antecedent hint → nat_abs p.lit < length mid → ((u : ℕ) → get_or mid u false ≡ with_marks antecedent old u) → AreBelow t.assignments old (place + 1) → AreBelow t.assignments (set mid (nat_abs p.lit) false) place
below_after clauses proof_ids t place p antecedent hint old mid h there known room noted below i q here marked =
    let then = marked_then t p antecedent old mid (nat_abs q.lit) room noted marked in
    elim then.1 [
      | inl e ↦ (let within = below i q here e in
          elim (cases_lt i place) [
            | inl lt ↦ lt
            | inr ge ↦ (let same : i ≡ place = omega arith in
                absurd (then.0 (ap (λ (r : Assignment). nat_abs r.lit) (same_at t.assignments i place q p here there same))))
          ])
      | inr e ↦ noted_before clauses proof_ids t place p antecedent hint e.0 i q h there known e.1 here e.2 then.0
    ]

pub roots_clear_after : (clauses : List (List ℤ)) (proof_ids : List ℕ) (t : TrailState) (place : ℕ) (p : Assignment) (antecedent : List ℤ) (hint : ℤ) (old mid : List Bool) → IsTrail t → StandsAt t.assignments place p → IsAntecedent clauses proof_ids t.assignments place p antecedent hint → nat_abs p.lit < length mid → ((u : ℕ) → get_or mid u false ≡ with_marks antecedent old u) → AreRootsClear t.assignments old (place + 1) → AreRootsClear t.assignments (set mid (nat_abs p.lit) false) place
roots_clear_after clauses proof_ids t place p antecedent hint old mid h there known room noted clear i q here root from =
    false_from_ne_true (is_marked (set mid (nat_abs p.lit) false) q.lit) (λ marked.
    let then = marked_then t p antecedent old mid (nat_abs q.lit) room noted marked in
    elim then.1 [
      | inl e ↦ elim (cases_lt place i) [
        | inl lt ↦ both_ways (is_marked old q.lit) (clear i q here root (omega arith)) e
        | inr le ↦ (let same : i ≡ place = omega arith in
            then.0 (ap (λ (r : Assignment). nat_abs r.lit) (same_at t.assignments i place q p here there same)))
      ]
      | inr e ↦ (let lt = noted_before clauses proof_ids t place p antecedent hint e.0 i q h there known e.1 here e.2 then.0 in absurd (omega arith))
    ])

pub roots_differ_after : (clauses : List (List ℤ)) (proof_ids : List ℕ) (t : TrailState) (place : ℕ) (p : Assignment) (antecedent : List ℤ) (hint : ℤ) (old mid : List Bool) → IsTrail t → StandsAt t.assignments place p → p.level ≡ 0 → IsAntecedent clauses proof_ids t.assignments place p antecedent hint → ((u : ℕ) → get_or mid u false ≡ with_marks antecedent old u) → DifferAtRoots t.assignments old (set mid (nat_abs p.lit) false)
roots_differ_after clauses proof_ids t place p antecedent hint old mid h there root known noted v =
    elim (cases_eq v (nat_abs p.lit)) [
      | inl e ↦ inr (record { assignment = p; place = place; stands = there; root = root; of_var = sym e })
      | inr e ↦ elim (cases_Bool (list_any (eqb v) (map nat_abs antecedent))) [
        | inl any ↦ (let found = any_var v antecedent any in
            let before = earlier clauses proof_ids t place p antecedent hint found.0 h there known found.1 (λ k. e (sym found.2 ∙ ap nat_abs k)) in
            let lt = before.4 in
            let rises = levels_rise 0 t.assignments t.level before.0 place before.1 p h.climbs before.2 there (omega arith) in
            inr (record { assignment = before.1; place = before.0; stands = before.2; root = omega arith; of_var = ap nat_abs before.3 ∙ nat_abs-neg_ℤ found.0 ∙ found.2 }))
        | inr none ↦ inl (get_or-set_other mid (nat_abs p.lit) v false false e ∙ noted v ∙ ap (λ b. get_or old v false || b) none ∙ or-false (get_or old v false))
      ]
    ]

-- ---- the hints

pub resolves_step : (clauses : List (List ℤ)) (proof_ids : List ℕ) (t : TrailState) (place : ℕ) (p : Assignment) (antecedent : List ℤ) (hint : ℤ) (old mid : List Bool) (hints more : List ℤ) → IsTrail t → StandsAt t.assignments place p → IsAntecedent clauses proof_ids t.assignments place p antecedent hint → ((u : ℕ) → get_or mid u false ≡ with_marks antecedent old u) → more ≡ hints ++ hint ∷ [] → Resolves clauses proof_ids t.assignments old hints (set mid (nat_abs p.lit) false) more
resolves_step clauses proof_ids t place p antecedent hint old mid hints more h there known noted more_is live has_id refutes =
    let turned : reverse more ≡ hint ∷ reverse hints = ap reverse more_is ∙ reverse-append hints (hint ∷ []) in
    let P : List ℤ → Type 0 = λ hs. Refutes live (lits t.assignments) (set mid (nat_abs p.lit) false) hs in
    subst P (sym turned) (refutes_resolve clauses proof_ids t.assignments place p antecedent hint live (lits t.assignments) old (set mid (nat_abs p.lit) false) (reverse hints) (one_way t h) (true_there t.assignments place p there) known has_id keeps marks refutes)
  where
    stays : (l : ℤ) → (nat_abs l ≡ nat_abs p.lit → ⊥) → is_marked (set mid (nat_abs p.lit) false) l ≡ with_marks antecedent old (nat_abs l)
    stays l other = get_or-set_other mid (nat_abs p.lit) (nat_abs l) false false other ∙ noted (nat_abs l)

    keeps : (l : ℤ) → has (lits t.assignments) l ≡ true → is_marked old l ≡ true → (l ≡ p.lit) ⊎ (is_marked (set mid (nat_abs p.lit) false) l ≡ true)
    keeps l true_l marked =
        elim (cases_eq (nat_abs l) (nat_abs p.lit)) [
          | inl e ↦ (let found = assignment_there t.assignments l true_l in
              let same = one_assignment t found.0 place found.1 p h found.2 there (ap nat_abs found.3 ∙ e) in
              inl (sym found.3 ∙ ap (λ (r : Assignment). r.lit) same))
          | inr e ↦ inr (stays l e ∙ or_left (get_or old (nat_abs l) false) (list_any (eqb (nat_abs l)) (map nat_abs antecedent)) marked)
        ]

    marks : (m : ℤ) → has antecedent m ≡ true → (m ≡ p.lit → ⊥) → (has (lits t.assignments) (neg_ℤ m) ≡ true) × (is_marked (set mid (nat_abs p.lit) false) m ≡ true)
    marks m inside differs =
        let before = earlier clauses proof_ids t place p antecedent hint m h there known inside differs in
        let Q : ℤ → Type 0 = λ x. has (lits t.assignments) x ≡ true in (
          subst Q before.3 (true_there t.assignments before.0 before.1 before.2),
          stays m before.5 ∙ or_right (get_or old (nat_abs m) false) (list_any (eqb (nat_abs m)) (map nat_abs antecedent)) (any_from antecedent m inside),
        )

pub resolves_nothing : (clauses : List (List ℤ)) (proof_ids : List ℕ) (assignments : List Assignment) (marks : List Bool) (hints : List ℤ) → Resolves clauses proof_ids assignments marks hints marks hints
resolves_nothing clauses proof_ids assignments marks hints live has_id refutes = refutes
