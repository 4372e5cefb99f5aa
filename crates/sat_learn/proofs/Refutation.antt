-- Hints that end under the marked literals.
use Rattle.std.proofs.Common.{◌≡◌, ℕ, zero, suc, Bool, true, false, ℤ, pos, negsuc, neg_ℤ, ◌⊎◌, Some, List, [], ◌∷◌, ◌++◌, map, get_or, refl, ap, sym, ◌∙◌, subst, arith, inl, inr}
use Rattle.std.proofs.lemmas.Bool.{cases_Bool, or_cases, or_left, or_right, false_from_ne_true}
use Rattle.cnf_base.specs.Status.{same_lit, has, IsFalseIn, IsFalsifiedIn, IsUnitIn}
use Rattle.cnf_base.proofs.Literals.{same_lit-true, has-head, has-append, nat_abs-neg_ℤ}
use Rattle.lrat_text.specs.Standing.{clause_at}
use Rattle.lrat_text.specs.Accepted.{Ends, IsBothWays}
use Rattle.sat_trail.specs.Trail.{Assignment, TrailState, IsTrail, lits}
use Rattle.sat_learn.specs.Reasons.{HasId, HaveIds, Follows}
use Rattle.sat_learn.specs.Resolving.{is_marked, EndsUnder, Refutes, IsAntecedent}
use Rattle.sat_learn.proofs.Assignments.{one_way}

pub marked-neg_ℤ : (marks : List Bool) (l : ℤ) → is_marked marks (neg_ℤ l) ≡ is_marked marks l
marked-neg_ℤ marks l = ap (λ n. get_or marks n false) (nat_abs-neg_ℤ l)

-- the false literal of a true one that is assumed
false_in : (true_lits assumed : List ℤ) (m : ℤ) → (IsBothWays true_lits → ⊥) → ((l : ℤ) → has assumed l ≡ true → has true_lits l ≡ true) → has assumed (neg_ℤ m) ≡ true → IsFalseIn assumed m
false_in true_lits assumed m one_way within there =
    (false_from_ne_true (has assumed m) (λ e. one_way (m, within m e, within (neg_ℤ m) there)), there)

-- one more literal that is true
pub assumed_more : (assumed : List ℤ) (l x : ℤ) → has (assumed ++ l ∷ []) x ≡ true → (has assumed x ≡ true) ⊎ (l ≡ x)
assumed_more assumed l x h =
    elim (or_cases (has assumed x) (has (l ∷ []) x) (sym (has-append assumed (l ∷ []) x) ∙ h)) [
      | inl e ↦ inl e
      | inr e ↦ elim (or_cases (same_lit l x) false e) [
        | inl f ↦ inr (same_lit-true l x f)
        | inr f ↦ cc
      ]
    ]

-- a clause whose literals are false by marked ones ends the hints
ends_false : (live : List (ℕ × List ℤ)) (true_lits : List ℤ) (clause : List ℤ) (id : ℕ) (marks : List Bool) → (IsBothWays true_lits → ⊥) → clause_at live id ≡ Some clause → ((m : ℤ) → has clause m ≡ true → (has true_lits (neg_ℤ m) ≡ true) × (is_marked marks m ≡ true)) → EndsUnder live true_lits marks (pos id ∷ [])
ends_false live true_lits clause id marks one_way has_id marked assumed each within = (
  clause,
  has_id,
  inr (inl (λ m inside.
      let here = marked m inside in
      false_in true_lits assumed m one_way within (each (neg_ℤ m) here.0 (marked-neg_ℤ marks m ∙ here.1)))),
)

pub refutes_false : (live : List (ℕ × List ℤ)) (true_lits : List ℤ) (clause : List ℤ) (id : ℕ) (marks : List Bool) → (IsBothWays true_lits → ⊥) → clause_at live id ≡ Some clause → ((m : ℤ) → has clause m ≡ true → (has true_lits (neg_ℤ m) ≡ true) × (is_marked marks m ≡ true)) → Refutes live true_lits marks (pos id ∷ [])
refutes_false live true_lits clause id marks one_way has_id marked = record {
  live_hints = ((id, refl, clause, has_id), tt);
  ends = ends_false live true_lits clause id marks one_way has_id marked;
}

-- the literal at a place is resolved with its antecedent, whose other literals are false and marked
ends_resolve : (clauses : List (List ℤ)) (proof_ids : List ℕ) (assignments : List Assignment) (place : ℕ) (p : Assignment) (antecedent : List ℤ) (hint : ℤ) (live : List (ℕ × List ℤ)) (true_lits : List ℤ) (old new : List Bool) (rest : List ℤ) → (IsBothWays true_lits → ⊥) → has true_lits p.lit ≡ true → IsAntecedent clauses proof_ids assignments place p antecedent hint → HaveIds live clauses proof_ids assignments → ((l : ℤ) → has true_lits l ≡ true → is_marked old l ≡ true → (l ≡ p.lit) ⊎ (is_marked new l ≡ true)) → ((m : ℤ) → has antecedent m ≡ true → (m ≡ p.lit → ⊥) → (has true_lits (neg_ℤ m) ≡ true) × (is_marked new m ≡ true)) → EndsUnder live true_lits old rest → EndsUnder live true_lits new (hint ∷ rest)
ends_resolve clauses proof_ids assignments place p antecedent hint live true_lits old new rest one_way here known has_id keeps marks refutes assumed each within =
    let names_it = known.has_id live has_id in
    let id = names_it.0 in
    let clause = names_it.2 in
    let P : ℤ → Type 0 = λ x. Ends live assumed (x ∷ rest) in
    subst P (sym names_it.1)
    (elim (cases_Bool (has assumed p.lit)) [
      | inl e ↦ (
        clause,
        names_it.3,
        inl (
          (p.lit, names_it.4, e),
          refutes assumed (λ l true_l marked. elim (keeps l true_l marked) [
            | inl same ↦ (let Q : ℤ → Type 0 = λ x. has assumed x ≡ true in subst Q (sym same) e)
            | inr more ↦ each l true_l more
          ]) within,
        ),
      )
      | inr e ↦ (
        clause,
        names_it.3,
        inr (inr (
          p.lit,
          unit e,
          refutes (assumed ++ p.lit ∷ []) (λ l true_l marked. has-append assumed (p.lit ∷ []) l ∙ (elim (keeps l true_l marked) [
            | inl same ↦ (let Q : ℤ → Type 0 = λ x. has (p.lit ∷ []) x ≡ true in or_right (has assumed l) (has (p.lit ∷ []) l) (subst Q (sym same) (has-head p.lit [])))
            | inr more ↦ or_left (has assumed l) (has (p.lit ∷ []) l) (each l true_l more)
          ])) (λ l k. elim (assumed_more assumed p.lit l k) [
            | inl f ↦ within l f
            | inr f ↦ (let Q : ℤ → Type 0 = λ x. has true_lits x ≡ true in subst Q f here)
          ]),
        )),
      )
    ])
  where
    unit : has assumed p.lit ≡ false → IsUnitIn assumed (known.has_id live has_id).2 p.lit
    unit e =
        let names_it = known.has_id live has_id in
        record {
          inside = names_it.4;
          open_here = (e, false_from_ne_true (has assumed (neg_ℤ p.lit)) (λ f. one_way (p.lit, here, within (neg_ℤ p.lit) f)));
          others = λ m k differs. (let false_m = marks m (names_it.5 m k differs) differs in
              false_in true_lits assumed m one_way within (each (neg_ℤ m) false_m.0 (marked-neg_ℤ new m ∙ false_m.1)));
        }

pub refutes_resolve : (clauses : List (List ℤ)) (proof_ids : List ℕ) (assignments : List Assignment) (place : ℕ) (p : Assignment) (antecedent : List ℤ) (hint : ℤ) (live : List (ℕ × List ℤ)) (true_lits : List ℤ) (old new : List Bool) (rest : List ℤ) → (IsBothWays true_lits → ⊥) → has true_lits p.lit ≡ true → IsAntecedent clauses proof_ids assignments place p antecedent hint → HaveIds live clauses proof_ids assignments → ((l : ℤ) → has true_lits l ≡ true → is_marked old l ≡ true → (l ≡ p.lit) ⊎ (is_marked new l ≡ true)) → ((m : ℤ) → has antecedent m ≡ true → (m ≡ p.lit → ⊥) → (has true_lits (neg_ℤ m) ≡ true) × (is_marked new m ≡ true)) → Refutes live true_lits old rest → Refutes live true_lits new (hint ∷ rest)
refutes_resolve clauses proof_ids assignments place p antecedent hint live true_lits old new rest one_way here known has_id keeps marks refutes =
    let names_it = known.has_id live has_id in
    record {
      live_hints = ((names_it.0, names_it.1, names_it.2, names_it.3), refutes.live_hints);
      ends = ends_resolve clauses proof_ids assignments place p antecedent hint live true_lits old new rest one_way here known has_id keeps marks refutes.ends;
    }

-- it begins with the clause that is false
pub refutes_conflict : (t : TrailState) (live : List (ℕ × List ℤ)) (conflict : List ℤ) (id : ℕ) (marks : List Bool) → IsTrail t → IsFalsifiedIn (lits t.assignments) conflict → HasId live id conflict → ((l : ℤ) → has conflict l ≡ true → is_marked marks l ≡ true) → Refutes live (lits t.assignments) marks (pos id ∷ [])
refutes_conflict t live conflict id marks h false_now has_id marked =
    refutes_false live (lits t.assignments) has_id.0 id marks (one_way t h) has_id.1 (λ m inside. (let here : has conflict m ≡ true = sym (has_id.2 m) ∙ inside in ((false_now m here).1, marked m here)))

same_lit-neg : (m l : ℤ) → same_lit (neg_ℤ m) l ≡ same_lit m (neg_ℤ l)
same_lit-neg (pos zero) (pos zero) = refl
same_lit-neg (pos zero) (pos (suc b)) = grind arith
same_lit-neg (pos zero) (negsuc b) = grind arith
same_lit-neg (pos (suc a)) (pos zero) = grind arith
same_lit-neg (pos (suc a)) (pos (suc b)) = refl
same_lit-neg (pos (suc a)) (negsuc b) = grind arith
same_lit-neg (negsuc a) (pos zero) = grind arith
same_lit-neg (negsuc a) (pos (suc b)) = grind arith
same_lit-neg (negsuc a) (negsuc b) = grind arith

pub has-map_neg : (ls : List ℤ) (l : ℤ) → has (map neg_ℤ ls) l ≡ has ls (neg_ℤ l)
has-map_neg [] l = refl
has-map_neg (m ∷ ms) l = let here = same_lit-neg m l in let rest = has-map_neg ms l in grind arith

-- it ends with the clause of the marked literals' negations
pub refutes_end : (live : List (ℕ × List ℤ)) (true_lits : List ℤ) (marks : List Bool) (hints ls : List ℤ) → ((l : ℤ) → has true_lits l ≡ true → is_marked marks l ≡ true → has ls (neg_ℤ l) ≡ true) → ((l : ℤ) → has ls (neg_ℤ l) ≡ true → has true_lits l ≡ true) → Refutes live true_lits marks hints → Follows live (map neg_ℤ ls) hints
refutes_end live true_lits marks hints ls each within h = record {
  ends = h.ends (map neg_ℤ ls) (λ l true_l marked. has-map_neg ls l ∙ each l true_l marked) (λ l k. within l (sym (has-map_neg ls l) ∙ k));
  live_hints = h.live_hints;
}
