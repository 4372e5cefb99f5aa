-- A literal of a level below the present one, resolved away.
use Rattle.std.proofs.Common.{◌≡◌, ℕ, ◌<◌, Bool, true, false, eqb, ℤ, neg_ℤ, nat_abs, List, [], length, map, set, get_or, refl, ap, sym, ◌∙◌, subst, arith, inl, inr}
use Rattle.std.specs.List.{list_any}
use Rattle.std.proofs.lemmas.Bool.{cases_eq, cases_Bool, or_left, both_ways}
use Rattle.std.proofs.lemmas.List.{length-set, get_or-set_same, get_or-set_other}
use Rattle.cnf_base.specs.Status.{same_lit, has}
use Rattle.cnf_base.proofs.Literals.{same_lit-true, same_lit-apart}
use Rattle.sat_trail.specs.Trail.{Assignment, TrailState, IsTrail}
use Rattle.sat_learn.specs.Resolving.{is_marked, StandsAt, IsAntecedent, with_marks}
use Rattle.sat_learn.specs.Tracking.{IsEarlier, IsTracked, IsFirstUip}
use Rattle.sat_learn.proofs.Assignments.{one_assignment, levels_rise}
use Rattle.sat_learn.proofs.Tracking.{count_other_level}
use Rattle.sat_learn.proofs.ResolveStep.{earlier}

-- its antecedent's literals are marked, or of levels below the present one
pub antecedent_earlier : (clauses : List (List ℤ)) (proof_ids : List ℕ) (t : TrailState) (marks : List Bool) (place : ℕ) (p : Assignment) (antecedent : List ℤ) (hint : ℤ) → IsTrail t → StandsAt t.assignments place p → IsAntecedent clauses proof_ids t.assignments place p antecedent hint → is_marked marks p.lit ≡ true → p.level < t.level → (m : ℤ) → has antecedent m ≡ true → IsEarlier t marks m
antecedent_earlier clauses proof_ids t marks place p antecedent hint h there known marked below m inside =
    elim (cases_Bool (same_lit m p.lit)) [
      | inl e ↦ (let M : ℤ → Type 0 = λ x. is_marked marks x ≡ true in inl (subst M (sym (same_lit-true m p.lit e)) marked))
      | inr e ↦ (let before = earlier clauses proof_ids t place p antecedent hint m h there known inside (same_lit-apart m p.lit e) in
          let lt = before.4 in
          let rises = levels_rise 0 t.assignments t.level before.0 place before.1 p h.climbs before.2 there (omega arith) in
          inr (before.1.level, record { assignment = before.1; place = before.0; stands = before.2; negated = before.3; at_level = refl }, omega arith))
    ]

pub track_unmark_earlier : (t : TrailState) (marks : List Bool) (kept root_lits : List ℤ) (number : ℕ) (i : ℕ) (p : Assignment) → IsTrail t → IsTracked t marks kept root_lits number → StandsAt t.assignments i p → p.level < t.level → nat_abs p.lit < length marks → IsTracked t (set marks (nat_abs p.lit) false) kept root_lits number
track_unmark_earlier t marks kept root_lits number i p trail h there below room =
    let var = nat_abs p.lit in
    let differs : p.level ≡ t.level → ⊥ = λ e. absurd (omega arith) in
    record {
      above = h.above;
      room = length-set marks var false ∙ h.room;
      filed = λ v k. elim (cases_eq v var) [
        | inl e ↦ (let gone : get_or (set marks var false) v false ≡ false = ap (λ n. get_or (set marks var false) n false) e ∙ get_or-set_same marks var false false room in
            absurd (both_ways (get_or (set marks var false) v false) gone k))
        | inr e ↦ h.filed v (sym (get_or-set_other marks var v false false e) ∙ k)
      ];
      between = h.between;
      roots_false = h.roots_false;
      number = h.number ∙ count_other_level t marks var false i p trail there refl differs;
    }

-- the point of the present level stays marked
pub first_uip_stays : (t : TrailState) (old mid : List Bool) (antecedent : List ℤ) (i : ℕ) (p : Assignment) (place : ℕ) → IsTrail t → StandsAt t.assignments i p → p.level < t.level → ((u : ℕ) → get_or mid u false ≡ with_marks antecedent old u) → IsFirstUip t old place → IsFirstUip t (set mid (nat_abs p.lit) false) place
first_uip_stays t old mid antecedent i p place h there below noted first_uip =
    let other : nat_abs first_uip.assignment.lit ≡ nat_abs p.lit → ⊥ = λ e.
    (let same = one_assignment t place i first_uip.assignment p h first_uip.stands there e in
    let levels : t.level ≡ p.level = sym first_uip.at_level ∙ ap (λ (q : Assignment). q.level) same in
    absurd (omega arith)) in
    record {
      assignment = first_uip.assignment;
      stands = first_uip.stands;
      marked = get_or-set_other mid (nat_abs p.lit) (nat_abs first_uip.assignment.lit) false false other ∙ noted (nat_abs first_uip.assignment.lit)
          ∙ or_left (get_or old (nat_abs first_uip.assignment.lit) false) (list_any (eqb (nat_abs first_uip.assignment.lit)) (map nat_abs antecedent)) first_uip.marked;
      at_level = first_uip.at_level;
    }

pub false_none : (true_lits ls : List ℤ) → ls ≡ [] → (x : ℤ) → has ls x ≡ true → has true_lits (neg_ℤ x) ≡ true
false_none true_lits ls is x k = let H : List ℤ → Type 0 = λ ys. has ys x ≡ true in let none : has [] x ≡ true = subst H is k in cc
