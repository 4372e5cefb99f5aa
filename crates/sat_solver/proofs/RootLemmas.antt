-- A literal of level 0 that becomes a lemma.
use Rattle.std.proofs.Common.{◌≡◌, ℕ, zero, suc, ◌+◌, ◌<◌, ◌≤◌, ◌^◌, true, eqb, ℤ, pos, negsuc, neg_ℤ, nat_abs, List, [], ◌∷◌, ◌++◌, length, get_or, map, refl, ap, sym, ◌∙◌, subst, arith, inl, inr}
use Rattle.std.specs.List.{All, Contains}
use Rattle.std.proofs.lemmas.Bool.{or_cases, or_right, eq-eqb, both_ways}
use Rattle.std.proofs.lemmas.List.Elements.{All-cons, All-nil, All-contains, Contains-get_or}
use Rattle.std.proofs.lemmas.Map.Keys.{IsDistinct-head}
use Rattle.cnf_base.specs.Status.{same_lit, has}
use Rattle.cnf_base.specs.Dimacs.{IsLiteral}
use Rattle.cnf_base.specs.Meaning.{CnfFormula, IsWithin}
use Rattle.cnf_base.proofs.Literals.{same_lit-true, has-head}
use Rattle.lrat_text.specs.declared.proof.LratStep.{LratStep}
use Rattle.lrat_text.specs.declared.proof.LratStep.TheVariants.{Add}
use Rattle.lrat_text.specs.Accepted.{IsBothWays}
use Rattle.lrat_text.specs.Spent.{ContainsAll}
use Rattle.sat_trail.specs.declared.clause_id.ClauseId.{ClauseId}
use Rattle.sat_trail.specs.declared.clause_id.ClauseId.TheVariants as ids
use Rattle.sat_trail.specs.Trail.{Assignment, TrailState, with_reason, IsTrail}
use Rattle.sat_watch.specs.Book.{BookState, IsBookClause}
use Rattle.sat_learn.specs.Reasons.{Follows, HasId}
use Rattle.sat_solver.specs.Ledger.{earlier, live, IsLedger}
use Rattle.sat_solver.specs.Sound.{root, IsCovered, IsSound}
use Rattle.sat_solver.proofs.Growth.{IsCovered-more_assignments}
use Rattle.sat_solver.proofs.Backjumps.{newest_with_id}
use Rattle.sat_solver.proofs.Ledgers.{earlier-push, live-push, IsLedger-push}
use Rattle.sat_solver.proofs.Reasons.{one_assignment_of, reasons_with_reason, with_id_with_reason, units_with_reason, root_with_reason}
use Rattle.sat_solver.proofs.Roots.{root_literal}
use Rattle.sat_solver.proofs.Soundness.{sound_with_done}
use Rattle.sat_solver.proofs.States.{sound_more_live}

-- ---- a unit clause

pub only_literal : (l m : ℤ) → has (l ∷ []) m ≡ true → l ≡ m
only_literal l m h = elim (or_cases (same_lit l m) (has [] m) h) [ inl e ↦ same_lit-true l m e | inr e ↦ cc ]

pub own_negation : (l : ℤ) → neg_ℤ l ≡ l → l ≡ pos 0
own_negation (pos zero) h = refl
own_negation (pos (suc n)) h = cc
own_negation (negsuc n) h = cc

unit_plain : (vars : ℕ) (l : ℤ) → IsLiteral vars l → ¬ IsBothWays (l ∷ [])
unit_plain vars l literal both =
    let here = only_literal l both.0 both.1 in
    let there = only_literal l (neg_ℤ both.0) both.2 in
    literal.not_zero (own_negation l (ap neg_ℤ here ∙ sym there))

-- ---- the clauses so far

-- a clause of the book has two variables
book_apart : (vars : ℕ) (l : ℤ) (held : List ℤ) → IsBookClause vars held → ContainsAll (l ∷ []) held → ⊥
book_apart vars l [] h all = (let two = h.two in absurd (omega arith))
book_apart vars l (m ∷ []) h all = (let two = h.two in absurd (omega arith))
book_apart vars l (m ∷ n ∷ more) h all =
    let first = only_literal l m (all m (has-head m (n ∷ more))) in
    let second = only_literal l n (all n (or_right (same_lit m n) (has (n ∷ more) n) (has-head n more))) in
    let apart = IsDistinct-head eqb (nat_abs m) (map nat_abs (n ∷ more)) h.distinct in
    both_ways (eqb (nat_abs m) (nat_abs n)) apart.0 (eq-eqb (nat_abs m) (nat_abs n) (ap nat_abs (sym first ∙ second)))

-- a unit clause on which the literal rests would be its reason
reason_apart : (t : TrailState) (l : ℤ) (place id : ℕ) → IsTrail t → Contains t.assignments (root l (ids.Book place)) → Contains t.assignments (root l (ids.Unit id)) → ⊥
reason_apart t l place id trail h k =
    let same = one_assignment_of t (root l (ids.Book place)) (root l (ids.Unit id)) trail h k refl in
    let reasons = ap (λ (p : Assignment). p.reason) same in
    cc

-- a literal of level 0 that rests on a clause of the book contains no clause that is covered
covered_apart : (b : BookState) (t : TrailState) (l : ℤ) (place : ℕ) (clause : List ℤ) → IsTrail t → All (IsBookClause b.vars) b.clauses → Contains t.assignments (root l (ids.Book place)) → IsLiteral t.vars l → IsCovered b.clauses t.assignments clause → ContainsAll (l ∷ []) clause → ⊥
covered_apart b t l place clause trail book h literal (inl both) all =
    unit_plain t.vars l literal (both.0, all both.0 both.1, all (neg_ℤ both.0) both.2)
covered_apart b t l place clause trail book h literal (inr (inl unit)) all =
    let m = unit.0 in
    let same : l ≡ m = only_literal l m (all m (unit.2 m ∙ has-head m [])) in
    let P : ℤ → Type 0 = λ x. Contains t.assignments (root x (ids.Unit unit.1)) in
    reason_apart t l place unit.1 trail h (subst P (sym same) unit.3)
covered_apart b t l place clause trail book h literal (inr (inr held)) all =
    book_apart b.vars l held.0 (All-contains (IsBookClause b.vars) b.clauses held.0 book held.1) (λ m m_in. all m (held.2 m ∙ m_in))

-- ---- the lemma

-- what a literal needs that becomes a lemma
pub record CanBeRootLemma (formula : CnfFormula) (steps : List LratStep) (proof_ids : List ℕ) (b : BookState) (t : TrailState) (l : ℤ) (place id : ℕ) (hints : List ℤ) : Type 0 where
  pub ledger : IsLedger formula steps
  pub sound : IsSound formula.vars (live formula steps) (earlier formula steps) proof_ids b t
  pub trail : IsTrail t
  pub book : All (IsBookClause b.vars) b.clauses
  pub stands : Contains t.assignments (root l (ids.Book place))
  pub id_is : id ≡ length formula.clauses + length steps + 1
  pub small : id < 2 ^ 62
  pub follows : Follows (live formula steps) (neg_ℤ l ∷ []) hints

named_earned : (formula : CnfFormula) (steps : List LratStep) (proof_ids : List ℕ) (b : BookState) (t : TrailState) (l : ℤ) (place id : ℕ) (hints : List ℤ) → CanBeRootLemma formula steps proof_ids b t l place id hints → All (λ clause. ¬ ContainsAll (l ∷ []) clause) (earlier formula steps)
named_earned formula steps proof_ids b t l place id hints h =
    let known = earlier formula steps in
    let literal = root_literal t l (ids.Book place) h.trail h.stands in
    λ i d lt. covered_apart b t l place (get_or known i d) h.trail h.book h.stands literal (h.sound.covered (get_or known i d) (Contains-get_or known i d lt))

pub ledger_named : (formula : CnfFormula) (steps : List LratStep) (proof_ids : List ℕ) (b : BookState) (t : TrailState) (l : ℤ) (place id : ℕ) (hints : List ℤ) → CanBeRootLemma formula steps proof_ids b t l place id hints → IsLedger formula (steps ++ Add id (l ∷ []) hints ∷ [])
ledger_named formula steps proof_ids b t l place id hints h =
    let literal = root_literal t l (ids.Book place) h.trail h.stands in
    let earned = named_earned formula steps proof_ids b t l place id hints h in
    let W : ℕ → Type 0 = λ n. IsWithin n (l ∷ []) in
    IsLedger-push formula steps id (l ∷ []) hints h.ledger h.id_is h.small h.follows
    (record {
      not_empty = λ e. cc;
      plain = unit_plain t.vars l literal;
      fresh = λ i d lt same. earned i d lt (λ m m_in. same m ∙ m_in);
    })
    (subst W h.sound.trail_vars (All-cons (λ m. nat_abs m ≤ t.vars) l [] literal.variable (All-nil (λ m. nat_abs m ≤ t.vars))))
    earned

-- a literal of level 0 rests on a unit clause from then on
pub sound_rested : (vars : ℕ) (pairs : List (ℕ × List ℤ)) (done : List (List ℤ)) (proof_ids : List ℕ) (b : BookState) (t : TrailState) (l : ℤ) (reason : ClauseId) (id : ℕ) → IsSound vars pairs done proof_ids b t → IsTrail t → Contains t.assignments (root l reason) → id < 2 ^ 62 → HasId pairs id (l ∷ []) → IsSound vars pairs done proof_ids b (record t { assignments = map (with_reason (nat_abs l) (ids.Unit id)) t.assignments })
sound_rested vars pairs done proof_ids b t l reason id s trail stands small has_id =
    let assignments = map (with_reason (nat_abs l) (ids.Unit id)) t.assignments in
    record {
      book_vars = s.book_vars;
      trail_vars = s.trail_vars;
      reasons = reasons_with_reason b.clauses [] (nat_abs l) id t.assignments small s.reasons;
      has_id = with_id_with_reason pairs b.clauses proof_ids t (root l reason) id trail stands has_id s.has_id;
      one_id = s.one_id;
      small_ids = s.small_ids;
      covered = λ c there. IsCovered-more_assignments b.clauses t.assignments assignments c (units_with_reason (nat_abs l) id t.assignments) (s.covered c there);
    }

pub sound_named : (formula : CnfFormula) (steps : List LratStep) (proof_ids : List ℕ) (b : BookState) (t : TrailState) (l : ℤ) (place id : ℕ) (hints : List ℤ) → CanBeRootLemma formula steps proof_ids b t l place id hints → IsSound formula.vars (live formula (steps ++ Add id (l ∷ []) hints ∷ [])) (earlier formula (steps ++ Add id (l ∷ []) hints ∷ [])) proof_ids b (record t { assignments = map (with_reason (nat_abs l) (ids.Unit id)) t.assignments })
sound_named formula steps proof_ids b t l place id hints h =
    let step = Add id (l ∷ []) hints in
    let pairs = live formula (steps ++ step ∷ []) in
    let known = earlier formula steps in
    let new : TrailState = record t { assignments = map (with_reason (nat_abs l) (ids.Unit id)) t.assignments } in
    let P : List (ℕ × List ℤ) → Type 0 = λ ps. IsSound formula.vars ps known proof_ids b t in
    let s = subst P (sym (live-push formula steps id (l ∷ []) hints h.id_is)) (sound_more_live formula.vars (live formula steps) ((id, l ∷ []) ∷ []) known proof_ids b t h.sound) in
    let has_id = newest_with_id formula steps id (l ∷ []) hints h.id_is in
    let rested = sound_rested formula.vars pairs known proof_ids b t l (ids.Book place) id s h.trail h.stands h.small has_id in
    let Q : List (List ℤ) → Type 0 = λ cs. IsSound formula.vars pairs cs proof_ids b new in
    subst Q (sym (earlier-push formula steps id (l ∷ []) hints))
    (sound_with_done formula.vars pairs known proof_ids b new (l ∷ []) rested (inr (inl (l, id, (λ x. refl), root_with_reason t.assignments l id (ids.Book place) h.stands))))
