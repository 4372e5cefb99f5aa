-- The decisions of a search that goes by assumptions.
use Rattle.std.proofs.Common.{◌≡◌, ℕ, ◌+◌, ◌-◌, ◌<◌, ◌≤◌, ◌⊎◌, true, false, leb, ℤ, neg_ℤ, nat_abs, Option, Some, None, List, [], ◌∷◌, ◌++◌, map, refl, ap, sym, ◌∙◌, subst, arith, inl, inr}
use Rattle.std.specs.List.{Contains, AllByRecursion}
use Rattle.std.proofs.lemmas.Bool.{cases_Bool, or_cases, or_left, both_ways}
use Rattle.std.proofs.lemmas.List.{map-append}
use Rattle.std.proofs.lemmas.List.Elements.{Contains-append_cases, Contains-append_right, filter-append, recursion_from_All}
use Rattle.cnf_base.specs.Status.{same_lit, has}
use Rattle.cnf_base.specs.Meaning.{IsWithin}
use Rattle.cnf_base.proofs.Literals.{same_lit-true, has-append, neg_ℤ-neg_ℤ}
use Rattle.sat_trail.specs.declared.clause_id.ClauseId.TheVariants as ids
use Rattle.sat_trail.specs.Trail.{Assignment, TrailState, IsTrail, lits, upto}
use Rattle.sat_trail.proofs.Consistency.{true_once, has-upto}
use Rattle.sat_trail.proofs.Levels.{upto-all, upto-upto}
use Rattle.sat_watch.specs.Book.{BookState, Follow, ExtendsByUnits}
use Rattle.sat_learn.specs.Implying.{ImpliesByDecisions}
use Rattle.sat_learn.proofs.Assignments.{level_to, decision_from}
use Rattle.sat_solver.specs.Attachment.{Attaches}
use Rattle.sat_solver.proofs.Roots.{contains_cases, contains_head, place_of, contains_at, level_upto}
use Rattle.sat_incremental.specs.Assuming.{AreIn, AreAssumed}
use Rattle.sat_incremental.specs.Outcomes.{IsCore}

-- what is true up to a level stays so
upto_more : (k : ℕ) (ps more : List Assignment) (l : ℤ) → has (lits (upto k ps)) l ≡ true → has (lits (upto k (ps ++ more))) l ≡ true
upto_more k ps more l h =
    let parts : lits (upto k (ps ++ more)) ≡ lits (upto k ps) ++ lits (upto k more) = ap lits (filter-append (λ (p : Assignment). leb p.level k) ps more) ∙ map-append (λ (p : Assignment). p.lit) (upto k ps) (upto k more) in
    let P : List ℤ → Type 0 = λ ls. has ls l ≡ true in
    subst P (sym parts) (has-append (lits (upto k ps)) (lits (upto k more)) l ∙ or_left (has (lits (upto k ps)) l) (has (lits (upto k more)) l) h)

-- ---- more assignments

-- none of them is a decision
abbrev pub AreForced : List Assignment → Type 0
AreForced more = (p : Assignment) → Contains more p → p.reason ≡ None → ⊥

pub assumed_more : (assumptions : List ℤ) (ps more : List Assignment) → AreAssumed assumptions ps → AreForced more → AreAssumed assumptions (ps ++ more)
assumed_more assumptions ps more h forced p there none =
    elim (Contains-append_cases ps more p there) [
      | inl old ↦ elim (h p old none) [
        | inl e ↦ inl e
        | inr all ↦ inr (λ l inside. upto_more (p.level - 1) ps more l (all l inside))
      ]
      | inr new ↦ absurd (forced p new none)
    ]

follow_forced : (clauses : List (List ℤ)) (level : ℕ) (true_lits : List ℤ) (more : List Assignment) → Follow clauses level true_lits more → AreForced more
follow_forced clauses level true_lits [] h p (k, lt, is) none = absurd (omega arith)
follow_forced clauses level true_lits (q ∷ more) h p there none =
    elim (contains_cases q more p there) [
      | inl same ↦ (let some : q.reason ≡ None = ap (λ (r : Assignment). r.reason) same ∙ none in
          let both : Some h.0.id ≡ None = sym h.0.reason ∙ some in cc)
      | inr later ↦ follow_forced clauses level (true_lits ++ q.lit ∷ []) more h.1 p later none
    ]

pub assumed_propagated : (assumptions : List ℤ) (clauses : List (List ℤ)) (t t' : TrailState) → AreAssumed assumptions t.assignments → ExtendsByUnits clauses t t' → AreAssumed assumptions t'.assignments
assumed_propagated assumptions clauses t t' h s =
    let P : List Assignment → Type 0 = λ ps. AreAssumed assumptions ps in
    subst P (sym s.assignments) (assumed_more assumptions t.assignments s.more h (follow_forced clauses t.level (lits t.assignments) s.more s.follow))

pub assumed_attached : (assumptions lemma : List ℤ) (id : ℕ) (b b' : BookState) (t t' : TrailState) (proof_ids proof_ids' : List ℕ) → AreAssumed assumptions t.assignments → Attaches lemma id b t proof_ids b' t' proof_ids' → AreAssumed assumptions t'.assignments
assumed_attached assumptions lemma id b b' t t' proof_ids proof_ids' h (inl held) =
    let P : TrailState → Type 0 = λ x. AreAssumed assumptions x.assignments in
    let q : Assignment = record { lit = held.0; level = t.level; reason = Some (ids.Unit id) } in
    subst P (sym held.2) (assumed_more assumptions t.assignments (q ∷ []) h (λ p there none. elim (contains_cases q [] p there) [
      | inl same ↦ (let both : Some (ids.Unit id) ≡ None = ap (λ (r : Assignment). r.reason) same ∙ none in cc)
      | inr later ↦ (let lt = later.1 in absurd (omega arith))
    ]))
assumed_attached assumptions lemma id b b' t t' proof_ids proof_ids' h (inr held) =
    let P : TrailState → Type 0 = λ x. AreAssumed assumptions x.assignments in
    subst P (sym held.1) h

-- ---- a decision

-- of an assumption, or where all assumptions are true
pub assumed_decided : (assumptions : List ℤ) (t t' : TrailState) (l : ℤ) → IsTrail t → AreAssumed assumptions t.assignments → t'.assignments ≡ t.assignments ++ record { lit = l; level = t.level + 1; reason = None } ∷ [] → (has assumptions l ≡ true) ⊎ AreIn assumptions (lits t.assignments) → AreAssumed assumptions t'.assignments
assumed_decided assumptions t t' l trail h is chosen =
    let q : Assignment = record { lit = l; level = t.level + 1; reason = None } in
    let P : List Assignment → Type 0 = λ ps. AreAssumed assumptions ps in
    let A : ℕ → Type 0 = λ k. AreIn assumptions (lits (upto k (t.assignments ++ q ∷ []))) in
    let whole = upto-all t.level 0 t.assignments t.level trail.climbs (omega arith) in
    let before : t.level + 1 - 1 ≡ t.level = omega arith in
    let T : List Assignment → Type 0 = λ ps. AreIn assumptions (lits ps) in
    subst P (sym is) (λ p there none. elim (Contains-append_cases t.assignments (q ∷ []) p there) [
      | inl old ↦ elim (h p old none) [
        | inl e ↦ inl e
        | inr all ↦ inr (λ m inside. upto_more (p.level - 1) t.assignments (q ∷ []) m (all m inside))
      ]
      | inr new ↦ elim (contains_cases q [] p new) [
        | inl same ↦ (let R : Assignment → Type 0 = λ r. (has assumptions r.lit ≡ true) ⊎ AreIn assumptions (lits (upto (r.level - 1) (t.assignments ++ q ∷ []))) in
            subst R same (elim chosen [
              | inl e ↦ inl e
              | inr all ↦ inr (subst A (sym before) (λ m inside. upto_more t.level t.assignments (q ∷ []) m (subst T (sym whole) all m inside)))
            ]))
        | inr later ↦ (let lt = later.1 in absurd (omega arith))
      ]
    ])

-- ---- fewer assignments

upto_inside : (k : ℕ) (ps : List Assignment) (p : Assignment) → Contains (upto k ps) p → Contains ps p
upto_inside k [] p h = h
upto_inside k (q ∷ qs) p h =
    elim (cases_Bool (leb q.level k)) [
      | inl e ↦ (let here : Contains (q ∷ upto k qs) p = rw e at h in
          elim (contains_cases q (upto k qs) p here) [
            | inl same ↦ subst (λ (r : Assignment). Contains (q ∷ qs) r) same (contains_head q qs)
            | inr later ↦ Contains-append_right (q ∷ []) qs p (upto_inside k qs p later)
          ])
      | inr e ↦ (let here : Contains (upto k qs) p = rw e at h in Contains-append_right (q ∷ []) qs p (upto_inside k qs p here))
    ]

pub assumed_back : (assumptions : List ℤ) (level : ℕ) (ps : List Assignment) → AreAssumed assumptions ps → AreAssumed assumptions (upto level ps)
assumed_back assumptions level ps h p there none =
    let low = level_upto level ps p there in
    let P : List Assignment → Type 0 = λ qs. AreIn assumptions (lits qs) in
    elim (h p (upto_inside level ps p there) none) [
      | inl e ↦ inl e
      | inr all ↦ inr (subst P (sym (upto-upto (p.level - 1) level ps (omega arith))) all)
    ]

-- at level 0 there is no decision
pub assumed_at_root : (assumptions : List ℤ) (t : TrailState) → IsTrail t → t.level ≡ 0 → AreAssumed assumptions t.assignments
assumed_at_root assumptions t trail root p there none =
    let found = place_of t.assignments p there in
    let above = decision_from 0 t.assignments t.level found.0 p trail.climbs found.1 none in
    let within = level_to 0 t.assignments t.level found.0 p trail.climbs found.1 in
    absurd (omega arith)

-- ---- an assumption that is false

-- then each decision is an assumption
pub decision_assumed : (assumptions : List ℤ) (t : TrailState) (l : ℤ) (p : Assignment) → IsTrail t → AreAssumed assumptions t.assignments → has assumptions l ≡ true → has (lits t.assignments) (neg_ℤ l) ≡ true → Contains t.assignments p → p.reason ≡ None → has assumptions p.lit ≡ true
decision_assumed assumptions t l p trail h assumed failed there none =
    elim (h p there none) [
      | inl e ↦ e
      | inr all ↦ (let here = has-upto (p.level - 1) t.assignments l (all l assumed) in
          absurd (both_ways (has (lits t.assignments) (neg_ℤ l)) (true_once t trail l here) failed))
    ]

-- and so the negations of decisions that imply its negation are a core
pub core_of_implied : (assumptions : List ℤ) (t : TrailState) (l : ℤ) (clause : List ℤ) → IsTrail t → AreAssumed assumptions t.assignments → has assumptions l ≡ true → has (lits t.assignments) (neg_ℤ l) ≡ true → ImpliesByDecisions t.assignments (neg_ℤ l) clause → IsCore assumptions clause
core_of_implied assumptions t l clause trail h assumed failed implied m inside =
    let P : ℤ → Type 0 = λ x. has assumptions x ≡ true in
    elim (implied.3.others m inside) [
      | inl e ↦ subst P (sym (ap neg_ℤ (e ∙ implied.2) ∙ neg_ℤ-neg_ℤ l)) assumed
      | inr e ↦ (let same : e.decision.lit ≡ neg_ℤ m = sym (neg_ℤ-neg_ℤ e.decision.lit) ∙ ap neg_ℤ e.negated in
          subst P same (decision_assumed assumptions t l e.decision trail h assumed failed (contains_at t.assignments e.place e.decision e.stands) e.no_reason))
    ]

-- ---- variables

within_each : (vars : ℕ) (ls : List ℤ) (l : ℤ) → AllByRecursion (λ m. nat_abs m ≤ vars) ls → has ls l ≡ true → nat_abs l ≤ vars
within_each vars [] l h inside = cc
within_each vars (m ∷ ms) l h inside =
    elim (or_cases (same_lit m l) (has ms l) inside) [
      | inl e ↦ (let P : ℤ → Type 0 = λ x. nat_abs x ≤ vars in subst P (same_lit-true m l e) h.0)
      | inr e ↦ within_each vars ms l h.1 e
    ]

pub within_assumptions : (vars : ℕ) (assumptions : List ℤ) (l : ℤ) → IsWithin vars assumptions → has assumptions l ≡ true → nat_abs l ≤ vars
within_assumptions vars assumptions l h inside = within_each vars assumptions l (recursion_from_All (λ m. nat_abs m ≤ vars) assumptions h) inside
