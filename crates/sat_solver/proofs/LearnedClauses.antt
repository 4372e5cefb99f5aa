-- A learned clause after going back: its first literal is free, and below the present level another one is.
use Rattle.std.proofs.Common.{◌≡◌, ◌≢◌, ℕ, suc, ◌<◌, ◌≤◌, true, false, eqb, ℤ, neg_ℤ, nat_abs, List, [], ◌∷◌, length, map, min, refl, ap, sym, ◌∙◌, subst, arith, inl, inr}
use Rattle.std.specs.List.{All}
use Rattle.std.proofs.lemmas.Bool.{cases_lt, or_parts, or_right, both_ways, false_from_ne_true}
use Rattle.std.proofs.lemmas.List.Elements.{All-head}
use Rattle.std.proofs.lemmas.Map.Keys.{IsDistinct-head}
use Rattle.cnf_base.specs.Status.{same_lit, has}
use Rattle.cnf_base.specs.Dimacs.{IsLiteral}
use Rattle.cnf_base.proofs.Literals.{has-head}
use Rattle.sat_trail.specs.declared.truth.Value.TheVariants.{Unset}
use Rattle.sat_trail.specs.Trail.{Assignment, TrailState, lits, upto, value_in, IsTrail}
use Rattle.sat_trail.proofs.Levels.{upto-upto}
use Rattle.sat_trail.proofs.Consistency.{false_once, has-upto}
use Rattle.sat_trail.proofs.LiteralValues.{touches-is, none_from}
use Rattle.sat_watch.specs.Book.{BookState, IsBookClause}
use Rattle.sat_watch.specs.Ready.{IsReady}
use Rattle.sat_watch.proofs.Readiness.{settled_back}
use Rattle.sat_learn.specs.Learned.{LearnedState, IsLearned}
use Rattle.sat_solver.specs.Attachment.{CanAttach}
use Rattle.sat_solver.proofs.Attachment.{HasTwoOpen}

-- where the trail is after going back
abbrev pub back_at : ℕ → TrailState → TrailState
back_at level t = record { vars = t.vars; assignments = upto level t.assignments; level = level; low = min t.low (length (upto level t.assignments)) }

pub ready_back : (b : BookState) (t : TrailState) (level : ℕ) → IsReady b t → IsTrail t → level < t.level → IsReady b (back_at level t)
ready_back b t level ready trail below =
    let s = settled_back b t level ready trail below in
    record { followed = s.followed; none_false = λ k lt. s.none_false k; none_unit = λ k lt. s.none_unit k }

first_apart : (t : TrailState) (learned : LearnedState) (h : IsLearned t learned) (l : ℤ) → has h.others l ≡ true → h.first ≢ l
first_apart t learned h l inside is =
    let absent = none_from (nat_abs h.first) (map nat_abs h.others) (IsDistinct-head eqb (nat_abs h.first) (map nat_abs h.others) h.distinct) in
    let free = or_parts (has h.others h.first) (has h.others (neg_ℤ h.first)) (sym (touches-is h.others h.first) ∙ absent) in
    let P : ℤ → Type 0 = λ x. has h.others x ≡ true in
    both_ways (has h.others h.first) free.0 (subst P (sym is) inside)

pub learned_open : (t : TrailState) (learned : LearnedState) (level : ℕ) → IsLearned t learned → level ≤ learned.backjump_level → (k : ℕ) → k < level → HasTwoOpen (lits (upto k (upto level t.assignments))) learned.lits
learned_open t learned level h le k lt =
    let backjump_level = h.backjump_below in
    let least = h.backjump_least k (omega arith) in
    let P : List Assignment → Type 0 = λ ps. HasTwoOpen (lits ps) learned.lits in
    let Q : List ℤ → Type 0 = λ ls. has ls h.first ≡ true in
    let R : List ℤ → Type 0 = λ ls. has ls least.0 ≡ true in
    subst P (sym (upto-upto k level t.assignments (omega arith)))
    (record {
      first = h.first;
      second = least.0;
      first_in = subst Q (sym h.form) (has-head h.first h.others);
      second_in = subst R (sym h.form) (or_right (same_lit h.first least.0) (has h.others least.0) least.1);
      apart = first_apart t learned h least.0 least.1;
      first_open = h.first_free k (omega arith);
      second_open = least.2;
    })

-- a learned clause of one literal goes back to level 0
pub learned_root : (t : TrailState) (learned : LearnedState) (level : ℕ) → IsLearned t learned → level ≤ learned.backjump_level → length learned.lits ≡ 1 → level ≡ 0
learned_root t learned level h le one = by_others h.others refl
  where
    by_others : (others : List ℤ) → h.others ≡ others → level ≡ 0
    by_others [] is = elim (cases_lt 0 learned.backjump_level) [
      | inl lt ↦ (let least = h.backjump_least 0 lt in
          let P : List ℤ → Type 0 = λ ls. has ls least.0 ≡ true in
          let k : false ≡ true = subst P is least.1 in cc)
      | inr ge ↦ omega arith
    ]
    by_others (o ∷ os) is = (let n : length (h.first ∷ h.others) ≡ 1 = sym (ap length h.form) ∙ one in
        let m : length h.others ≡ suc (length os) = ap length is in absurd (omega arith))

pub first_free_at : (t : TrailState) (learned : LearnedState) (level : ℕ) → IsTrail t → (h : IsLearned t learned) → level ≤ learned.backjump_level → value_in (lits (upto level t.assignments)) h.first ≡ Unset
first_free_at t learned level trail h le =
    let backjump_level = h.backjump_below in
    let negated = h.first_free level (omega arith) in
    let whole = has-upto t.level t.assignments (neg_ℤ h.first) h.first_false in
    let absent : has (lits (upto level t.assignments)) h.first ≡ false = false_from_ne_true (has (lits (upto level t.assignments)) h.first) (λ f.
    both_ways (has (lits t.assignments) h.first) (false_once t trail h.first whole) (has-upto level t.assignments h.first f)) in
    rw (absent, negated) refl

pub learned_fits : (b : BookState) (t : TrailState) (learned : LearnedState) (level : ℕ) → b.vars ≡ t.vars → IsTrail t → IsLearned t learned → level ≤ learned.backjump_level → CanAttach learned.lits b (back_at level t)
learned_fits b t learned level same trail h le = by_others h.others refl
  where
    by_others : (others : List ℤ) → h.others ≡ others → CanAttach learned.lits b (back_at level t)
    by_others [] is =
        (let one : learned.lits ≡ h.first ∷ [] = h.form ∙ ap (λ ls. h.first ∷ ls) is in
        let range = All-head (IsLiteral t.vars) h.first h.others h.in_range in
        inl (h.first, one, range.variable, first_free_at t learned level trail h le))
    by_others (o ∷ os) is =
        (let P : List ℤ → Type 0 = λ ls. IsBookClause b.vars ls in
        let Q : ℕ → Type 0 = λ n. All (IsLiteral n) (h.first ∷ h.others) in
        let two : length (h.first ∷ h.others) ≡ suc (suc (length os)) = ap (λ ls. length (h.first ∷ ls)) is in
        inr (subst P (sym h.form) (record { two = omega arith; in_range = subst Q (sym same) h.in_range; distinct = h.distinct })))
