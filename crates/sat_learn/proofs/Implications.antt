-- How a walk down the trail finds the decisions that imply a literal.
use Rattle.std.proofs.Common.{◌≡◌, ℕ, ◌+◌, ◌<◌, Bool, true, false, ◌||◌, eqb, ℤ, neg_ℤ, nat_abs, None, List, [], ◌∷◌, ◌++◌, ◌⊎◌, length, map, reverse, take, set, get_or, ap, sym, ◌∙◌, subst, arith, inl, inr}
use Rattle.std.specs.List.{list_any}
use Rattle.std.proofs.lemmas.Bool.{cases_eq, cases_lt, cases_Bool, or_left, or_right, both_ways}
use Rattle.std.proofs.lemmas.List.{reverse-append, get_or-set_other}
use Rattle.cnf_base.specs.Status.{same_lit, has}
use Rattle.cnf_base.proofs.Literals.{same_lit-true, same_lit-apart, neg_ℤ-neg_ℤ, has-head, has-append}
use Rattle.sat_trail.specs.Trail.{Assignment, TrailState, IsTrail, lits}
use Rattle.sat_learn.specs.Reasons.{HaveIds, Follows}
use Rattle.sat_learn.specs.Resolving.{is_marked, StandsAt, Refutes, IsAntecedent, with_marks}
use Rattle.sat_learn.specs.Explaining.{denying}
use Rattle.sat_learn.specs.Implying.{IsTracedTo}
use Rattle.sat_learn.proofs.Assignments.{true_before, before_there, same_at}
use Rattle.sat_learn.proofs.Refutation.{assumed_more, refutes_false, refutes_resolve, refutes_end}
use Rattle.sat_learn.proofs.ResolveStep.{any_from, earlier, marked_then, noted_before}
use Rattle.sat_learn.proofs.Explanations.{denying_one_way, denying_before, denying_first, antecedent_before}

only_one : (l m : ℤ) → has (l ∷ []) m ≡ true → m ≡ l
only_one l m h = elim (cases_Bool (same_lit l m)) [
  | inl e ↦ sym (same_lit-true l m e)
  | inr e ↦ (let k : (false || false) ≡ true = ap (λ b. b || false) (sym e) ∙ h in cc)
]

-- the negation of the literal at the place is denied last
denying_own : (assignments : List Assignment) (top : ℕ) (l : ℤ) → has (denying assignments top l) (neg_ℤ l) ≡ true
denying_own assignments top l =
    has-append (lits (take top assignments)) (neg_ℤ l ∷ []) (neg_ℤ l) ∙ or_right (has (lits (take top assignments)) (neg_ℤ l)) (has (neg_ℤ l ∷ []) (neg_ℤ l)) (has-head (neg_ℤ l) [])

-- ---- the start

pub traced_first : (clauses : List (List ℤ)) (proof_ids : List ℕ) (t : TrailState) (top : ℕ) (p : Assignment) (antecedent : List ℤ) (hint : ℤ) (marks : List Bool) (ls hints : List ℤ) → IsTrail t → StandsAt t.assignments top p → IsAntecedent clauses proof_ids t.assignments top p antecedent hint → is_marked marks p.lit ≡ true → ((m : ℤ) → has antecedent m ≡ true → is_marked marks m ≡ true) → ls ≡ p.lit ∷ [] → hints ≡ hint ∷ [] → IsTracedTo clauses proof_ids t.assignments top p top marks ls hints
traced_first clauses proof_ids t top p antecedent hint marks ls hints h there known own marked ls_is hints_is =
    let P : List ℤ → List ℤ → Type 0 = λ x y. IsTracedTo clauses proof_ids t.assignments top p top marks x y in
    subst (λ x. P x hints) (sym ls_is) (subst (λ y. P (p.lit ∷ []) y) (sym hints_is) (record {
      implication = record { stands = there; own = has-head p.lit []; others = λ l inside. inl (only_one p.lit l inside) };
      refutes = refutes;
      taken = λ i q here from lt m. absurd (omega arith);
    }))
  where
    false_m : (m : ℤ) → ((m ≡ p.lit → ⊥) → has antecedent m ≡ true) → (has (denying t.assignments top p.lit) (neg_ℤ m) ≡ true) × (is_marked marks m ≡ true)
    false_m m inside =
        elim (cases_Bool (same_lit m p.lit)) [
          | inl e ↦ (let same = same_lit-true m p.lit e in
              let M : ℤ → Type 0 = λ x. is_marked marks x ≡ true in
              let D : ℤ → Type 0 = λ x. has (denying t.assignments top p.lit) (neg_ℤ x) ≡ true in
              (subst D (sym same) (denying_own t.assignments top p.lit), subst M (sym same) own))
          | inr e ↦ (let differs = same_lit-apart m p.lit e in
              let here = inside differs in
              (denying_before t.assignments top p.lit (neg_ℤ m) (known.false_before m here differs), marked m here))
        ]

    refutes : (live : List (ℕ × List ℤ)) → HaveIds live clauses proof_ids t.assignments → Refutes live (denying t.assignments top p.lit) marks (reverse (hint ∷ []))
    refutes live has_id =
        let named = known.has_id live has_id in
        let R : ℤ → Type 0 = λ x. Refutes live (denying t.assignments top p.lit) marks (x ∷ []) in
        subst R (sym named.1) (refutes_false live (denying t.assignments top p.lit) named.2 named.0 marks (denying_one_way t top p h there) named.3 (λ m inside. false_m m (named.5 m inside)))

-- ---- one literal more

-- it isn't marked
pub traced_unmarked : (clauses : List (List ℤ)) (proof_ids : List ℕ) (assignments : List Assignment) (top : ℕ) (p : Assignment) (place : ℕ) (q : Assignment) (marks : List Bool) (ls hints : List ℤ) → StandsAt assignments place q → is_marked marks q.lit ≡ false → IsTracedTo clauses proof_ids assignments top p (place + 1) marks ls hints → IsTracedTo clauses proof_ids assignments top p place marks ls hints
traced_unmarked clauses proof_ids assignments top p place q marks ls hints here unmarked h = record {
  implication = h.implication;
  refutes = h.refutes;
  taken = λ i r there from lt marked. elim (cases_lt place i) [
    | inl above ↦ h.taken i r there (omega arith) lt marked
    | inr le ↦ (let same : i ≡ place = omega arith in
        let one = same_at assignments i place r q there here same in
        absurd (both_ways (is_marked marks q.lit) unmarked (ap (λ (x : Assignment). is_marked marks x.lit) (sym one) ∙ marked)))
  ];
}

-- it is a decision, whose negation is taken
pub traced_taken : (clauses : List (List ℤ)) (proof_ids : List ℕ) (assignments : List Assignment) (top : ℕ) (p : Assignment) (place : ℕ) (q : Assignment) (marks : List Bool) (ls more hints : List ℤ) → StandsAt assignments place q → place < top → q.reason ≡ None → more ≡ ls ++ neg_ℤ q.lit ∷ [] → IsTracedTo clauses proof_ids assignments top p (place + 1) marks ls hints → IsTracedTo clauses proof_ids assignments top p place marks more hints
traced_taken clauses proof_ids assignments top p place q marks ls more hints here before none is h =
    let P : List ℤ → Type 0 = λ x. IsTracedTo clauses proof_ids assignments top p place marks x hints in
    subst P (sym is) (record {
      implication = record {
        stands = h.implication.stands;
        own = keeps p.lit h.implication.own;
        others = λ l inside. elim (assumed_more ls (neg_ℤ q.lit) l inside) [
          | inl e ↦ h.implication.others l e
          | inr e ↦ inr (record { place = place; decision = q; stands = here; before = before; no_reason = none; negated = e })
        ];
      };
      refutes = h.refutes;
      taken = λ i r there from lt marked. elim (cases_lt place i) [
        | inl above ↦ keeps (neg_ℤ r.lit) (h.taken i r there (omega arith) lt marked)
        | inr le ↦ (let same : i ≡ place = omega arith in
            let one = same_at assignments i place r q there here same in
            let R : Assignment → Type 0 = λ x. has (ls ++ neg_ℤ q.lit ∷ []) (neg_ℤ x.lit) ≡ true in
            subst R (sym one) (has-append ls (neg_ℤ q.lit ∷ []) (neg_ℤ q.lit) ∙ or_right (has ls (neg_ℤ q.lit)) (has (neg_ℤ q.lit ∷ []) (neg_ℤ q.lit)) (has-head (neg_ℤ q.lit) [])))
      ];
    })
  where
    keeps : (l : ℤ) → has ls l ≡ true → has (ls ++ neg_ℤ q.lit ∷ []) l ≡ true
    keeps l inside = has-append ls (neg_ℤ q.lit ∷ []) l ∙ or_left (has ls l) (has (neg_ℤ q.lit ∷ []) l) inside

-- it is resolved with its antecedent
pub traced_resolved : (clauses : List (List ℤ)) (proof_ids : List ℕ) (t : TrailState) (top : ℕ) (p : Assignment) (place : ℕ) (q : Assignment) (antecedent : List ℤ) (hint : ℤ) (old mid : List Bool) (ls hints more : List ℤ) → IsTrail t → StandsAt t.assignments place q → place < top → IsAntecedent clauses proof_ids t.assignments place q antecedent hint → nat_abs q.lit < length mid → ((u : ℕ) → get_or mid u false ≡ with_marks antecedent old u) → more ≡ hints ++ hint ∷ [] → IsTracedTo clauses proof_ids t.assignments top p (place + 1) old ls hints → IsTracedTo clauses proof_ids t.assignments top p place (set mid (nat_abs q.lit) false) ls more
traced_resolved clauses proof_ids t top p place q antecedent hint old mid ls hints more trail here before known room noted more_is h =
    record {
      implication = h.implication;
      refutes = refutes;
      taken = λ i r there from lt marked. (let then = marked_then t q antecedent old mid (nat_abs r.lit) room noted marked in
          elim then.1 [
            | inl e ↦ elim (cases_lt place i) [
              | inl above ↦ h.taken i r there (omega arith) lt e
              | inr le ↦ (let same : i ≡ place = omega arith in
                  absurd (then.0 (ap (λ (x : Assignment). nat_abs x.lit) (same_at t.assignments i place r q there here same))))
            ]
            | inr e ↦ (let below = noted_before clauses proof_ids t place q antecedent hint e.0 i r trail here known e.1 there e.2 then.0 in absurd (omega arith))
          ]);
    }
  where
    stays : (l : ℤ) → (nat_abs l ≡ nat_abs q.lit → ⊥) → is_marked (set mid (nat_abs q.lit) false) l ≡ with_marks antecedent old (nat_abs l)
    stays l other = get_or-set_other mid (nat_abs q.lit) (nat_abs l) false false other ∙ noted (nat_abs l)

    keeps : (l : ℤ) → has (denying t.assignments top p.lit) l ≡ true → is_marked old l ≡ true → (l ≡ q.lit) ⊎ (is_marked (set mid (nat_abs q.lit) false) l ≡ true)
    keeps l inside marked =
        elim (cases_eq (nat_abs l) (nat_abs q.lit)) [
          | inl e ↦ inl (denying_first t top p place q l trail h.implication.stands here before inside e)
          | inr e ↦ inr (stays l e ∙ or_left (get_or old (nat_abs l) false) (list_any (eqb (nat_abs l)) (map nat_abs antecedent)) marked)
        ]

    marks : (m : ℤ) → has antecedent m ≡ true → (m ≡ q.lit → ⊥) → (has (denying t.assignments top p.lit) (neg_ℤ m) ≡ true) × (is_marked (set mid (nat_abs q.lit) false) m ≡ true)
    marks m inside differs =
        let first = earlier clauses proof_ids t place q antecedent hint m trail here known inside differs in (
          denying_before t.assignments top p.lit (neg_ℤ m) (antecedent_before clauses proof_ids t top place q antecedent hint m trail here known before inside differs),
          stays m first.5 ∙ or_right (get_or old (nat_abs m) false) (list_any (eqb (nat_abs m)) (map nat_abs antecedent)) (any_from antecedent m inside),
        )

    refutes : (live : List (ℕ × List ℤ)) → HaveIds live clauses proof_ids t.assignments → Refutes live (denying t.assignments top p.lit) (set mid (nat_abs q.lit) false) (reverse more)
    refutes live has_id =
        let turned : reverse more ≡ hint ∷ reverse hints = ap reverse more_is ∙ reverse-append hints (hint ∷ []) in
        let P : List ℤ → Type 0 = λ hs. Refutes live (denying t.assignments top p.lit) (set mid (nat_abs q.lit) false) hs in
        subst P (sym turned) (refutes_resolve clauses proof_ids t.assignments place q antecedent hint live (denying t.assignments top p.lit) old (set mid (nat_abs q.lit) false) (reverse hints) (denying_one_way t top p trail h.implication.stands) (denying_before t.assignments top p.lit q.lit (before_there t.assignments top place q here before)) known has_id keeps marks (h.refutes live has_id))

-- ---- the end

pub traced_follows : (clauses : List (List ℤ)) (proof_ids : List ℕ) (assignments : List Assignment) (top : ℕ) (p : Assignment) (marks : List Bool) (ls hints : List ℤ) (live : List (ℕ × List ℤ)) → HaveIds live clauses proof_ids assignments → IsTracedTo clauses proof_ids assignments top p 0 marks ls hints → Follows live (map neg_ℤ ls) (reverse hints)
traced_follows clauses proof_ids assignments top p marks ls hints live has_id h =
    refutes_end live (denying assignments top p.lit) marks (reverse hints) ls each within (h.refutes live has_id)
  where
    H : ℤ → Type 0
    H x = has ls x ≡ true

    D : ℤ → Type 0
    D x = has (denying assignments top p.lit) x ≡ true

    each : (l : ℤ) → has (denying assignments top p.lit) l ≡ true → is_marked marks l ≡ true → has ls (neg_ℤ l) ≡ true
    each l inside marked =
        elim (assumed_more (lits (take top assignments)) (neg_ℤ p.lit) l inside) [
          | inl e ↦ (let found = true_before assignments top l e in
              let M : ℤ → Type 0 = λ x. is_marked marks x ≡ true in
              let N : ℤ → Type 0 = λ x. has ls (neg_ℤ x) ≡ true in
              subst N found.3 (h.taken found.0 found.1 found.2 (omega arith) found.4 (subst M (sym found.3) marked)))
          | inr e ↦ subst H (sym (ap neg_ℤ (sym e) ∙ neg_ℤ-neg_ℤ p.lit)) h.implication.own
        ]

    within : (l : ℤ) → has ls (neg_ℤ l) ≡ true → has (denying assignments top p.lit) l ≡ true
    within l inside =
        elim (h.implication.others (neg_ℤ l) inside) [
          | inl e ↦ subst D (ap neg_ℤ (sym e) ∙ neg_ℤ-neg_ℤ l) (denying_own assignments top p.lit)
          | inr e ↦ (let same : e.decision.lit ≡ l = sym (neg_ℤ-neg_ℤ e.decision.lit) ∙ ap neg_ℤ e.negated ∙ neg_ℤ-neg_ℤ l in
              subst D same (denying_before assignments top p.lit e.decision.lit (before_there assignments top e.place e.decision e.stands e.before)))
        ]

-- ---- the place of a true literal

pub before_place : (ps : List Assignment) (place : ℕ) (l lit : ℤ) (q : Assignment) → StandsAt ps place q → q.lit ≡ lit → (lit ≡ l → ⊥) → has (lits (take (place + 1) ps)) l ≡ true → has (lits (take place ps)) l ≡ true
before_place ps place l lit q here is differs h =
    let found = true_before ps (place + 1) l h in
    let within = found.4 in
    let P : ℤ → Type 0 = λ x. has (lits (take place ps)) x ≡ true in
    elim (cases_eq found.0 place) [
      | inl e ↦ absurd (differs (sym is ∙ ap (λ (x : Assignment). x.lit) (sym (same_at ps found.0 place found.1 q found.2 here e)) ∙ found.3))
      | inr e ↦ subst P found.3 (before_there ps place found.0 found.1 found.2 (omega arith))
    ]
