-- A learned clause is a lemma: its clause is no tautology, and contains no clause that is held.
use Rattle.std.proofs.Common.{◌≡◌, ◌≢◌, ℕ, ◌-◌, ◌<◌, true, false, ℤ, neg_ℤ, List, [], ◌∷◌, get_or, sym, ◌∙◌, subst, arith, inl, inr}
use Rattle.std.specs.List.{All, Contains}
use Rattle.std.proofs.lemmas.Bool.{cases_Bool, or_cases, both_ways, false_from_ne_true}
use Rattle.std.proofs.lemmas.List.Elements.{All-contains, Contains-get_or}
use Rattle.cnf_base.specs.Status.{same_lit, has, IsFalseIn, IsFalsifiedIn, IsUnitIn}
use Rattle.cnf_base.proofs.Literals.{same_lit-true, has-head}
use Rattle.lrat_text.specs.Accepted.{IsBothWays}
use Rattle.lrat_text.specs.Spent.{ContainsAll, IsLemma}
use Rattle.sat_trail.specs.declared.clause_id.ClauseId.TheVariants as ids
use Rattle.sat_trail.specs.Trail.{TrailState, lits, upto, IsTrail}
use Rattle.sat_trail.proofs.Consistency.{true_once, false_once, has-upto, has-upto_more}
use Rattle.sat_watch.specs.Book.{BookState}
use Rattle.sat_watch.specs.Ready.{IsReady}
use Rattle.sat_learn.specs.Learned.{LearnedState, IsLearned}
use Rattle.sat_solver.specs.Sound.{IsCovered, IsSound}
use Rattle.sat_solver.proofs.Roots.{root_true}

-- each literal of a learned clause is false
learned_false : (t : TrailState) (learned : LearnedState) → IsLearned t learned → (l : ℤ) → has learned.lits l ≡ true → has (lits t.assignments) (neg_ℤ l) ≡ true
learned_false t learned h l k =
    let P : List ℤ → Type 0 = λ ls. has ls l ≡ true in
    elim (or_cases (same_lit h.first l) (has h.others l) (subst P h.form k)) [
      | inl e ↦ (let Q : ℤ → Type 0 = λ x. has (lits t.assignments) (neg_ℤ x) ≡ true in
          subst Q (same_lit-true h.first l e) (has-upto t.level t.assignments (neg_ℤ h.first) h.first_false))
      | inr e ↦ has-upto learned.backjump_level t.assignments (neg_ℤ l) (h.others_false l e)
    ]

learned_plain : (t : TrailState) (learned : LearnedState) → IsTrail t → IsLearned t learned → ¬ IsBothWays learned.lits
learned_plain t learned trail h both =
    let here = learned_false t learned h both.0 both.1 in
    let there = learned_false t learned h (neg_ℤ both.0) both.2 in
    both_ways (has (lits t.assignments) (neg_ℤ (neg_ℤ both.0))) (true_once t trail (neg_ℤ both.0) here) there

-- a literal of the learned clause other than the first is false below the present level
below : (t : TrailState) (learned : LearnedState) → IsTrail t → (h : IsLearned t learned) (l : ℤ) → has learned.lits l ≡ true → l ≢ h.first → IsFalseIn (lits (upto (t.level - 1) t.assignments)) l
below t learned trail h l k other =
    let P : List ℤ → Type 0 = λ ls. has ls l ≡ true in
    let backjump_level = h.backjump_below in
    elim (or_cases (same_lit h.first l) (has h.others l) (subst P h.form k)) [
      | inl e ↦ absurd (other (sym (same_lit-true h.first l e)))
      | inr e ↦ (
        false_from_ne_true (has (lits (upto (t.level - 1) t.assignments)) l) (λ f.
            both_ways (has (lits t.assignments) l) (false_once t trail l (learned_false t learned h l k)) (has-upto (t.level - 1) t.assignments l f)),
        has-upto_more learned.backjump_level (t.level - 1) t.assignments (neg_ℤ l) (omega arith) (h.others_false l e),
      )
    ]

-- the first literal is open there
first_open : (t : TrailState) (learned : LearnedState) → IsTrail t → (h : IsLearned t learned) → has (lits (upto (t.level - 1) t.assignments)) h.first ≡ false
first_open t learned trail h =
    let whole = has-upto t.level t.assignments (neg_ℤ h.first) h.first_false in
    false_from_ne_true (has (lits (upto (t.level - 1) t.assignments)) h.first) (λ f.
    both_ways (has (lits t.assignments) h.first) (false_once t trail h.first whole) (has-upto (t.level - 1) t.assignments h.first f))

-- no clause of the book has all its literals in the learned clause
held_apart : (b : BookState) (t : TrailState) (learned : LearnedState) (held : List ℤ) → IsReady b t → IsTrail t → IsLearned t learned → Contains b.clauses held → ContainsAll learned.lits held → ⊥
held_apart b t learned held ready trail h inside all =
    let k = t.level - 1 in
    let under : k < t.level = (let backjump_level = h.backjump_below in omega arith) in
    let U = lits (upto k t.assignments) in
    elim (cases_Bool (has held h.first)) [
      | inl e ↦ All-contains (λ c. (l : ℤ) → ¬ IsUnitIn U c l) b.clauses held (ready.none_unit k under) inside h.first
          (record {
            inside = e;
            open_here = (first_open t learned trail h, h.first_free k under);
            others = λ m m_in other. below t learned trail h m (all m m_in) other;
          })
      | inr e ↦ All-contains (λ c. ¬ IsFalsifiedIn U c) b.clauses held (ready.none_false k under) inside
          (λ l l_in. below t learned trail h l (all l l_in) (λ is.
          let P : ℤ → Type 0 = λ x. has held x ≡ true in
          both_ways (has held h.first) e (subst P is l_in)))
    ]

-- no clause that is covered has all its literals in the learned clause
covered_apart : (b : BookState) (t : TrailState) (learned : LearnedState) (clause : List ℤ) → IsReady b t → IsTrail t → IsLearned t learned → IsCovered b.clauses t.assignments clause → ContainsAll learned.lits clause → ⊥
covered_apart b t learned clause ready trail h (inl both) all =
    learned_plain t learned trail h (both.0, all both.0 both.1, all (neg_ℤ both.0) both.2)
covered_apart b t learned clause ready trail h (inr (inl unit)) all =
    let l = unit.0 in
    let false_here = learned_false t learned h l (all l (unit.2 l ∙ has-head l [])) in
    both_ways (has (lits t.assignments) l) (false_once t trail l false_here) (has-upto 0 t.assignments l (root_true t.assignments l (ids.Unit unit.1) unit.3))
covered_apart b t learned clause ready trail h (inr (inr held)) all =
    held_apart b t learned held.0 ready trail h held.1 (λ l l_in. all l (held.2 l ∙ l_in))

-- ---- so it is a lemma, and earned

pub learned_earned : (vars : ℕ) (live : List (ℕ × List ℤ)) (done : List (List ℤ)) (proof_ids : List ℕ) (b : BookState) (t : TrailState) (learned : LearnedState) → IsSound vars live done proof_ids b t → IsReady b t → IsTrail t → IsLearned t learned → All (λ clause. ¬ ContainsAll learned.lits clause) done
learned_earned vars live done proof_ids b t learned sound ready trail h =
    λ i d lt. covered_apart b t learned (get_or done i d) ready trail h (sound.covered (get_or done i d) (Contains-get_or done i d lt))

pub learned_lemma : (t : TrailState) (learned : LearnedState) (done : List (List ℤ)) → IsTrail t → IsLearned t learned → All (λ clause. ¬ ContainsAll learned.lits clause) done → IsLemma done learned.lits
learned_lemma t learned done trail h earned =
    record {
      not_empty = λ e. (let k : h.first ∷ h.others ≡ [] = sym h.form ∙ e in cc);
      plain = learned_plain t learned trail h;
      fresh = λ i d lt same. earned i d lt (λ l l_in. same l ∙ l_in);
    }
