-- A resolution as a whole: what is known of the literal and its antecedent, as one record.
use Rattle.std.proofs.Common.{◌≡◌, ℕ, ◌+◌, ◌<◌, Bool, true, false, ℤ, neg_ℤ, nat_abs, List, [], ◌∷◌, ◌++◌, length, set, get_or, ◌⊎◌, sym, subst, inl, inr}
use Rattle.cnf_base.specs.Status.{has}
use Rattle.sat_trail.specs.Trail.{Assignment, IsTrail, lits}
use Rattle.sat_learn.specs.declared.premises.Premises.{Premises}
use Rattle.sat_learn.specs.Premises.{IsAntecedentIn, ResolvesIn}
use Rattle.sat_learn.specs.Resolving.{is_marked, StandsAt, AreBelow, AreRootsClear, DifferAtRoots, with_marks}
use Rattle.sat_learn.proofs.ResolveStep.{antecedent_false, below_after, roots_clear_after, roots_differ_after, resolves_step}

-- what is known where the literal of a variable, which stands at a place, is resolved: its antecedent, whose literals were
-- marked beside those of before
pub record IsStep (s : Premises) (place : ℕ) (p : Assignment) (var : ℕ) (antecedent : List ℤ) (hint : ℤ) (old mid : List Bool) : Type 0 where
  pub trail : IsTrail s.trail
  pub stands : StandsAt s.trail.assignments place p
  pub of_var : var ≡ nat_abs p.lit
  pub known : IsAntecedentIn s place p antecedent hint
  pub room : nat_abs p.lit < length mid
  pub noted : (u : ℕ) → get_or mid u false ≡ with_marks antecedent old u

pub step_resolves : (s : Premises) (place : ℕ) (p : Assignment) (var : ℕ) (antecedent : List ℤ) (hint : ℤ) (old mid : List Bool) (hints more : List ℤ) → IsStep s place p var antecedent hint old mid → more ≡ hints ++ hint ∷ [] → ResolvesIn s old hints (set mid var false) more
step_resolves s place p var antecedent hint old mid hints more h pushed =
    let P : ℕ → Type 0 = λ v. ResolvesIn s old hints (set mid v false) more in
    subst P (sym h.of_var) (resolves_step s.book.clauses s.proof_ids.items s.trail place p antecedent hint old mid hints more h.trail h.stands h.known h.noted pushed)

pub step_below : (s : Premises) (place : ℕ) (p : Assignment) (var : ℕ) (antecedent : List ℤ) (hint : ℤ) (old mid : List Bool) → IsStep s place p var antecedent hint old mid → AreBelow s.trail.assignments old (place + 1) → AreBelow s.trail.assignments (set mid var false) place
step_below s place p var antecedent hint old mid h below =
    let P : ℕ → Type 0 = λ v. AreBelow s.trail.assignments (set mid v false) place in
    subst P (sym h.of_var) (below_after s.book.clauses s.proof_ids.items s.trail place p antecedent hint old mid h.trail h.stands h.known h.room h.noted below)

pub step_clears : (s : Premises) (place : ℕ) (p : Assignment) (var : ℕ) (antecedent : List ℤ) (hint : ℤ) (old mid : List Bool) → IsStep s place p var antecedent hint old mid → AreRootsClear s.trail.assignments old (place + 1) → AreRootsClear s.trail.assignments (set mid var false) place
step_clears s place p var antecedent hint old mid h clear =
    let P : ℕ → Type 0 = λ v. AreRootsClear s.trail.assignments (set mid v false) place in
    subst P (sym h.of_var) (roots_clear_after s.book.clauses s.proof_ids.items s.trail place p antecedent hint old mid h.trail h.stands h.known h.room h.noted clear)

pub step_differs : (s : Premises) (place : ℕ) (p : Assignment) (var : ℕ) (antecedent : List ℤ) (hint : ℤ) (old mid : List Bool) → IsStep s place p var antecedent hint old mid → p.level ≡ 0 → DifferAtRoots s.trail.assignments old (set mid var false)
step_differs s place p var antecedent hint old mid h root =
    let P : ℕ → Type 0 = λ v. DifferAtRoots s.trail.assignments old (set mid v false) in
    subst P (sym h.of_var) (roots_differ_after s.book.clauses s.proof_ids.items s.trail place p antecedent hint old mid h.trail h.stands root h.known h.noted)

-- an antecedent's literal is the marked one or false
pub step_false : (s : Premises) (place : ℕ) (p : Assignment) (antecedent : List ℤ) (hint : ℤ) (marks : List Bool) (m : ℤ) → IsTrail s.trail → StandsAt s.trail.assignments place p → IsAntecedentIn s place p antecedent hint → is_marked marks p.lit ≡ true → has antecedent m ≡ true → (is_marked marks m ≡ true) ⊎ (has (lits s.trail.assignments) (neg_ℤ m) ≡ true)
step_false s place p antecedent hint marks m h there known marked inside =
    let M : ℤ → Type 0 = λ x. is_marked marks x ≡ true in
    elim (antecedent_false s.book.clauses s.proof_ids.items s.trail place p antecedent hint m h there known inside) [
      | inl e ↦ inl (subst M (sym e) marked)
      | inr e ↦ inr e
    ]
