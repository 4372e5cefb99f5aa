-- The hints of one literal of level 0.
use Rattle.std.proofs.Common.{◌≡◌, ℕ, ◌+◌, ◌<◌, Bool, true, false, eqb, ℤ, neg_ℤ, nat_abs, Some, List, [], ◌∷◌, ◌++◌, ◌⊎◌, length, map, take, set, get_or, ap, sym, ◌∙◌, subst, arith, inl, inr}
use Rattle.std.specs.List.{slice_get, list_any, All}
use Rattle.std.specs.Option.{option_map}
use Rattle.std.proofs.lemmas.Bool.{cases_eq, cases_Bool, or_cases, or_left, or_right, both_ways, eq-eqb}
use Rattle.std.proofs.lemmas.List.{append_assoc, take_more, length-set, get_or-set_same, get_or-set_other}
use Rattle.std.proofs.lemmas.Option.{slice_get-map}
use Rattle.std.proofs.lemmas.List.Elements.{All-push}
use Rattle.cnf_base.specs.Status.{same_lit, has}
use Rattle.cnf_base.proofs.Literals.{same_lit-true, same_lit-apart, neg_ℤ-neg_ℤ, has-head, has-append, nat_abs-neg_ℤ}
use Rattle.lrat_text.specs.Accepted.{IsBothWays}
use Rattle.sat_trail.specs.Trail.{Assignment, TrailState, IsTrail, lits}
use Rattle.sat_learn.specs.Reasons.{HaveIds, Follows}
use Rattle.sat_learn.specs.Resolving.{is_marked, StandsAt, Refutes, IsAntecedent}
use Rattle.sat_learn.specs.Explaining.{denying, Leads, Derives, IsKnownAt, AreKnownAt, IsFound, IsNoted}
use Rattle.sat_learn.proofs.Assignments.{assignment_there, true_there, one_place, one_assignment, true_before, before_there, own_negation, true_literal, one_way}
use Rattle.sat_learn.proofs.Refutation.{assumed_more, refutes_false, refutes_resolve}
use Rattle.sat_learn.proofs.MarkedLiterals.{any_push, mark_in_range, false_in_range}
use Rattle.sat_learn.proofs.ResolveStep.{earlier}

-- ---- the literals before a place

-- they are true
pub before_true : (ps : List Assignment) (place : ℕ) (l : ℤ) → has (lits (take place ps)) l ≡ true → has (lits ps) l ≡ true
before_true ps place l h =
    let found = true_before ps place l h in
    let P : ℤ → Type 0 = λ m. has (lits ps) m ≡ true in
    subst P found.3 (true_there ps found.0 found.1 found.2)

-- none is of the variable of the one that stands there
apart_before : (t : TrailState) (place : ℕ) (p : Assignment) (m : ℤ) → IsTrail t → StandsAt t.assignments place p → has (lits (take place t.assignments)) m ≡ true → nat_abs m ≡ nat_abs p.lit → ⊥
apart_before t place p m h there before same =
    let found = true_before t.assignments place m before in
    let lt = found.4 in
    let one = one_place t.assignments found.0 place found.1 p h.distinct found.2 there (ap nat_abs found.3 ∙ same) in
    absurd (omega arith)

pub denying_one_way : (t : TrailState) (place : ℕ) (p : Assignment) → IsTrail t → StandsAt t.assignments place p → IsBothWays (denying t.assignments place p.lit) → ⊥
denying_one_way t place p h there both =
    let l = both.0 in
    let before = lits (take place t.assignments) in
    let not_zero = (true_literal t p.lit h (true_there t.assignments place p there)).not_zero in
    elim (assumed_more before (neg_ℤ p.lit) l both.1) [
      | inl e ↦ elim (assumed_more before (neg_ℤ p.lit) (neg_ℤ l) both.2) [
        | inl f ↦ one_way t h (l, before_true t.assignments place l e, before_true t.assignments place (neg_ℤ l) f)
        | inr f ↦ apart_before t place p l h there e (ap nat_abs (sym (neg_ℤ-neg_ℤ l) ∙ ap neg_ℤ (sym f) ∙ neg_ℤ-neg_ℤ p.lit))
      ]
      | inr e ↦ elim (assumed_more before (neg_ℤ p.lit) (neg_ℤ l) both.2) [
        | inl f ↦ apart_before t place p (neg_ℤ l) h there f (nat_abs-neg_ℤ l ∙ ap nat_abs (sym e) ∙ nat_abs-neg_ℤ p.lit)
        | inr f ↦ (let backjump_level : p.lit ≡ l = sym (neg_ℤ-neg_ℤ p.lit) ∙ ap neg_ℤ f ∙ neg_ℤ-neg_ℤ l in
            not_zero (own_negation p.lit (e ∙ sym backjump_level)))
      ]
    ]

pub denying_before : (assignments : List Assignment) (place : ℕ) (l m : ℤ) → has (lits (take place assignments)) m ≡ true → has (denying assignments place l) m ≡ true
denying_before assignments place l m h =
    has-append (lits (take place assignments)) (neg_ℤ l ∷ []) m ∙ or_left (has (lits (take place assignments)) m) (has (neg_ℤ l ∷ []) m) h

-- one of the variable of the literal there is its negation
denying_last : (t : TrailState) (place : ℕ) (p : Assignment) (m : ℤ) → IsTrail t → StandsAt t.assignments place p → has (denying t.assignments place p.lit) m ≡ true → nat_abs m ≡ nat_abs p.lit → m ≡ neg_ℤ p.lit
denying_last t place p m h there inside same =
    elim (assumed_more (lits (take place t.assignments)) (neg_ℤ p.lit) m inside) [
      | inl e ↦ absurd (apart_before t place p m h there e same)
      | inr e ↦ sym e
    ]

-- one of the variable of an earlier literal is that
pub denying_first : (t : TrailState) (place : ℕ) (p : Assignment) (i : ℕ) (q : Assignment) (m : ℤ) → IsTrail t → StandsAt t.assignments place p → StandsAt t.assignments i q → i < place → has (denying t.assignments place p.lit) m ≡ true → nat_abs m ≡ nat_abs q.lit → m ≡ q.lit
denying_first t place p i q m h there here lt inside same =
    elim (assumed_more (lits (take place t.assignments)) (neg_ℤ p.lit) m inside) [
      | inl e ↦ (let found = true_before t.assignments place m e in
          let one = one_assignment t found.0 i found.1 q h found.2 here (ap nat_abs found.3 ∙ same) in
          sym found.3 ∙ ap (λ (r : Assignment). r.lit) one)
      | inr e ↦ absurd (apart_before t place p q.lit h there (before_there t.assignments place i q here lt) (sym same ∙ ap nat_abs (sym e) ∙ nat_abs-neg_ℤ p.lit))
    ]

-- the antecedent's other literals are false by literals before the place too
pub antecedent_before : (clauses : List (List ℤ)) (proof_ids : List ℕ) (t : TrailState) (place : ℕ) (i : ℕ) (q : Assignment) (antecedent : List ℤ) (hint : ℤ) (m : ℤ) → IsTrail t → StandsAt t.assignments i q → IsAntecedent clauses proof_ids t.assignments i q antecedent hint → i < place → has antecedent m ≡ true → (m ≡ q.lit → ⊥) → has (lits (take place t.assignments)) (neg_ℤ m) ≡ true
antecedent_before clauses proof_ids t place i q antecedent hint m h here known lt inside differs =
    let before = earlier clauses proof_ids t i q antecedent hint m h here known inside differs in
    let near = before.4 in
    let P : ℤ → Type 0 = λ x. has (lits (take place t.assignments)) x ≡ true in
    subst P before.3 (before_there t.assignments place before.0 before.1 before.2 (omega arith))

-- ---- marks

-- a mark stays when another is set
pub mark_stays : (marks : List Bool) (var v : ℕ) → var < length marks → get_or marks v false ≡ true → get_or (set marks var true) v false ≡ true
mark_stays marks var v room h =
    elim (cases_eq v var) [
      | inl e ↦ ap (λ n. get_or (set marks var true) n false) e ∙ get_or-set_same marks var true false room
      | inr e ↦ get_or-set_other marks var v true false e ∙ h
    ]

-- the first literals of a clause, and one more
pub take_next : (ls : List ℤ) (i : ℕ) (l m : ℤ) → i < length ls → l ≡ get_or ls i l → has (take (i + 1) ls) m ≡ true → (has (take i ls) m ≡ true) ⊎ (l ≡ m)
take_next ls i l m lt is h =
    let grown : take (i + 1) ls ≡ take i ls ++ l ∷ [] = take_more ls i l lt ∙ ap (λ x. take i ls ++ x ∷ []) (sym is) in
    let H : List ℤ → Type 0 = λ xs. has xs m ≡ true in
    assumed_more (take i ls) l m (subst H grown h)

-- a literal that is marked or false
false_unless_marked : (t : TrailState) (marks : List Bool) (l : ℤ) → (is_marked marks l ≡ true) ⊎ (has (lits t.assignments) (neg_ℤ l) ≡ true) → is_marked marks l ≡ false → has (lits t.assignments) (neg_ℤ l) ≡ true
false_unless_marked t marks l known unmarked =
    elim known [
      | inl e ↦ absurd (both_ways (is_marked marks l) unmarked e)
      | inr e ↦ e
    ]

pub known_in_range : (t : TrailState) (marks : List Bool) (l : ℤ) → IsTrail t → length marks ≡ t.vars + 1 → (is_marked marks l ≡ true) ⊎ (has (lits t.assignments) (neg_ℤ l) ≡ true) → nat_abs l < length marks
known_in_range t marks l h room known =
    elim known [
      | inl e ↦ mark_in_range marks l e
      | inr e ↦ false_in_range t marks l h room e
    ]

pub known_grown : (assignments : List Assignment) (old new : List Bool) (place : ℕ) (l : ℤ) → ((v : ℕ) → get_or old v false ≡ true → get_or new v false ≡ true) → IsKnownAt assignments old place l → IsKnownAt assignments new place l
known_grown assignments old new place l grows h =
    elim h [
      | inl e ↦ inl (grows (nat_abs l) e)
      | inr e ↦ inr e
    ]

-- the one mark, where none was
pub one_marked : (marks : List Bool) (var v : ℕ) → ((u : ℕ) → get_or marks u false ≡ false) → get_or (set marks var true) v false ≡ true → v ≡ var
one_marked marks var v none h =
    elim (cases_eq v var) [
      | inl e ↦ e
      | inr e ↦ absurd (both_ways (get_or marks v false) (none v) (sym (get_or-set_other marks var v true false e) ∙ h))
    ]

pub noted_more : (marks : List Bool) (marked more : List ℤ) (l : ℤ) → IsNoted marks marked → nat_abs l < length marks → more ≡ marked ++ l ∷ [] → IsNoted (set marks (nat_abs l) true) more
noted_more marks marked more l h room is =
    let N : List ℤ → Type 0 = λ ls. IsNoted (set marks (nat_abs l) true) ls in
    let A : ℕ → Type 0 = λ n. All (λ x. nat_abs x < n) (marked ++ l ∷ []) in
    subst N (sym is) (record {
      in_range = subst A (sym (length-set marks (nat_abs l) true)) (All-push (λ x. nat_abs x < length marks) marked l h.in_range room);
      covers = λ v k. any_push v marked l ∙ (elim (cases_eq v (nat_abs l)) [
        | inl e ↦ or_right (list_any (eqb v) (map nat_abs marked)) (eqb v (nat_abs l)) (eq-eqb v (nat_abs l) e)
        | inr e ↦ or_left (list_any (eqb v) (map nat_abs marked)) (eqb v (nat_abs l)) (h.covers v (sym (get_or-set_other marks (nat_abs l) v true false e) ∙ k))
      ]);
    })

-- ---- hints

pub derives_then : (clauses : List (List ℤ)) (proof_ids : List ℕ) (assignments : List Assignment) (true_lits : List ℤ) (a b c : List Bool) (x y z : List ℤ) → Derives clauses proof_ids assignments true_lits a x b y → Derives clauses proof_ids assignments true_lits b y c z → Derives clauses proof_ids assignments true_lits a x c z
derives_then clauses proof_ids assignments true_lits a b c x y z h k live start has_id leads = k live start has_id (h live start has_id leads)

-- the hint of an earlier literal comes after those of the literals that it rests on
derives_step : (clauses : List (List ℤ)) (proof_ids : List ℕ) (t : TrailState) (place : ℕ) (p : Assignment) (i : ℕ) (q : Assignment) (antecedent : List ℤ) (hint : ℤ) (marks : List Bool) (hints more : List ℤ) → IsTrail t → StandsAt t.assignments place p → StandsAt t.assignments i q → i < place → IsAntecedent clauses proof_ids t.assignments i q antecedent hint → ((m : ℤ) → has antecedent m ≡ true → (m ≡ q.lit → ⊥) → is_marked marks m ≡ true) → more ≡ hints ++ hint ∷ [] → Derives clauses proof_ids t.assignments (denying t.assignments place p.lit) marks hints (set marks (nat_abs q.lit) true) more
derives_step clauses proof_ids t place p i q antecedent hint marks hints more h there here lt known marked is live start has_id leads rest refutes =
    let true_lits = denying t.assignments place p.lit in
    let after = set marks (nat_abs q.lit) true in
    let whole : more ++ rest ≡ hints ++ hint ∷ rest = ap (λ xs. xs ++ rest) is ∙ append_assoc hints (hint ∷ []) rest in
    let P : List ℤ → Type 0 = λ hs. Refutes live true_lits start hs in
    subst P (sym whole) (leads (hint ∷ rest)
    (refutes_resolve clauses proof_ids t.assignments i q antecedent hint live true_lits after marks rest (denying_one_way t place p h there) (denying_before t.assignments place p.lit q.lit (before_there t.assignments place i q here lt)) known has_id
    (λ l inside k. elim (cases_eq (nat_abs l) (nat_abs q.lit)) [
      | inl e ↦ inl (denying_first t place p i q l h there here lt inside e)
      | inr e ↦ inr (sym (get_or-set_other marks (nat_abs q.lit) (nat_abs l) true false e) ∙ k)
    ])
    (λ m inside differs. (denying_before t.assignments place p.lit (neg_ℤ m) (antecedent_before clauses proof_ids t place i q antecedent hint m h here known lt inside differs), marked m inside differs))
    refutes))

-- ---- what was found

pub found_nothing : (clauses : List (List ℤ)) (proof_ids : List ℕ) (assignments : List Assignment) (ls : List ℤ) (marks : List Bool) (hints : List ℤ) → IsFound clauses proof_ids assignments ls marks hints marks hints
found_nothing clauses proof_ids assignments ls marks hints = record { grows = λ v k. k; derives = λ place p there known live start has_id leads. leads }

pub found_then : (clauses : List (List ℤ)) (proof_ids : List ℕ) (assignments : List Assignment) (ls ms : List ℤ) (a b c : List Bool) (x y z : List ℤ) → IsFound clauses proof_ids assignments ls a x b y → ((place : ℕ) (p : Assignment) → StandsAt assignments place p → AreKnownAt assignments a place ls → AreKnownAt assignments b place ms) → IsFound clauses proof_ids assignments ms b y c z → IsFound clauses proof_ids assignments ls a x c z
found_then clauses proof_ids assignments ls ms a b c x y z h known k =
    record {
      grows = λ v marked. k.grows v (h.grows v marked);
      derives = λ place p there all. derives_then clauses proof_ids assignments (denying assignments place p.lit) a b c x y z (h.derives place p there all) (k.derives place p there (known place p there all));
    }

one_known : (assignments : List Assignment) (marks : List Bool) (place : ℕ) (l : ℤ) → IsKnownAt assignments marks place l → AreKnownAt assignments marks place (l ∷ [])
one_known assignments marks place l h m inside =
    elim (or_cases (same_lit l m) false inside) [
      | inl e ↦ (let K : ℤ → Type 0 = λ x. IsKnownAt assignments marks place x in subst K (same_lit-true l m e) h)
      | inr e ↦ cc
    ]

-- one more literal of a clause
pub found_next : (clauses : List (List ℤ)) (proof_ids : List ℕ) (assignments : List Assignment) (ls : List ℤ) (l : ℤ) (a b c : List Bool) (x y z : List ℤ) → has ls l ≡ true → IsFound clauses proof_ids assignments ls a x b y → IsFound clauses proof_ids assignments (l ∷ []) b y c z → IsFound clauses proof_ids assignments ls a x c z
found_next clauses proof_ids assignments ls l a b c x y z inside h k =
    found_then clauses proof_ids assignments ls (l ∷ []) a b c x y z h (λ place p there all. one_known assignments b place l (known_grown assignments a b place l h.grows (all l inside))) k

differs_from : (l m : ℤ) (p : Assignment) → p.lit ≡ neg_ℤ l → (nat_abs m ≡ nat_abs l → ⊥) → m ≡ p.lit → ⊥
differs_from l m p negated differs same = differs (ap nat_abs (same ∙ negated) ∙ nat_abs-neg_ℤ l)

-- the assignment that makes a literal false whose variable isn't marked, where its antecedent is known
pub record IsAssigned (clauses : List (List ℤ)) (proof_ids : List ℕ) (t : TrailState) (marks : List Bool) (l : ℤ) (antecedent : List ℤ) (hint : ℤ) : Type 0 where
  pub unmarked : is_marked marks l ≡ false
  pub assignment : Assignment
  pub place : ℕ
  pub stands : StandsAt t.assignments place assignment
  pub negated : assignment.lit ≡ neg_ℤ l
  pub antecedent_is : IsAntecedent clauses proof_ids t.assignments place assignment antecedent hint

pub assignment_known : (clauses : List (List ℤ)) (proof_ids : List ℕ) (t : TrailState) (marks : List Bool) (l : ℤ) (var : ℕ) (antecedent : List ℤ) (hint : ℤ) → (is_marked marks l ≡ true) ⊎ (has (lits t.assignments) (neg_ℤ l) ≡ true) → is_marked marks l ≡ false → var ≡ nat_abs l → ((place : ℕ) (p : Assignment) → StandsAt t.assignments place p → nat_abs p.lit ≡ var → IsAntecedent clauses proof_ids t.assignments place p antecedent hint) → IsAssigned clauses proof_ids t marks l antecedent hint
assignment_known clauses proof_ids t marks l var antecedent hint known unmarked var_is each =
    let at = assignment_there t.assignments (neg_ℤ l) (false_unless_marked t marks l known unmarked) in
    record {
      unmarked = unmarked;
      assignment = at.1;
      place = at.0;
      stands = at.2;
      negated = at.3;
      antecedent_is = each at.0 at.1 at.2 (ap nat_abs at.3 ∙ nat_abs-neg_ℤ l ∙ sym var_is);
    }

-- the others of its antecedent are false
pub false_below : (clauses : List (List ℤ)) (proof_ids : List ℕ) (t : TrailState) (marks : List Bool) (l m : ℤ) (antecedent : List ℤ) (hint : ℤ) → IsTrail t → IsAssigned clauses proof_ids t marks l antecedent hint → has antecedent m ≡ true → (nat_abs m ≡ nat_abs l → ⊥) → has (lits t.assignments) (neg_ℤ m) ≡ true
false_below clauses proof_ids t marks l m antecedent hint h x inside differs =
    before_true t.assignments x.place (neg_ℤ m) (x.antecedent_is.false_before m inside (differs_from l m x.assignment x.negated differs))

-- where the literal is known at a place, its assignment stands before
assignment_before : (clauses : List (List ℤ)) (proof_ids : List ℕ) (t : TrailState) (marks : List Bool) (l : ℤ) (antecedent : List ℤ) (hint : ℤ) (place : ℕ) → IsTrail t → (x : IsAssigned clauses proof_ids t marks l antecedent hint) → AreKnownAt t.assignments marks place (l ∷ []) → x.place < place
assignment_before clauses proof_ids t marks l antecedent hint place h x known =
    elim (known l (has-head l [])) [
      | inl e ↦ absurd (both_ways (is_marked marks l) x.unmarked e)
      | inr e ↦ (let found = true_before t.assignments place (neg_ℤ l) e in
          let lt = found.4 in
          let one = one_place t.assignments found.0 x.place found.1 x.assignment h.distinct found.2 x.stands (ap nat_abs (found.3 ∙ sym x.negated)) in
          omega arith)
    ]

-- one more of the literals that a false one rests on
pub found_below : (clauses : List (List ℤ)) (proof_ids : List ℕ) (t : TrailState) (l m : ℤ) (antecedent : List ℤ) (hint : ℤ) (a b c : List Bool) (x y z : List ℤ) → IsTrail t → IsAssigned clauses proof_ids t a l antecedent hint → has antecedent m ≡ true → (nat_abs m ≡ nat_abs l → ⊥) → IsFound clauses proof_ids t.assignments (l ∷ []) a x b y → IsFound clauses proof_ids t.assignments (m ∷ []) b y c z → IsFound clauses proof_ids t.assignments (l ∷ []) a x c z
found_below clauses proof_ids t l m antecedent hint a b c x y z h assignment inside differs before k =
    found_then clauses proof_ids t.assignments (l ∷ []) (m ∷ []) a b c x y z before
    (λ place p there all. one_known t.assignments b place m (inr (antecedent_before clauses proof_ids t place assignment.place assignment.assignment antecedent hint m h assignment.stands assignment.antecedent_is (assignment_before clauses proof_ids t a l antecedent hint place h assignment all) inside (differs_from l m assignment.assignment assignment.negated differs))))
    k

-- and last its own hint
pub found_last : (clauses : List (List ℤ)) (proof_ids : List ℕ) (t : TrailState) (l : ℤ) (antecedent : List ℤ) (hint : ℤ) (a b : List Bool) (x y z : List ℤ) → IsTrail t → IsAssigned clauses proof_ids t a l antecedent hint → nat_abs l < length b → ((m : ℤ) → has antecedent m ≡ true → (nat_abs m ≡ nat_abs l → ⊥) → is_marked b m ≡ true) → z ≡ y ++ hint ∷ [] → IsFound clauses proof_ids t.assignments (l ∷ []) a x b y → IsFound clauses proof_ids t.assignments (l ∷ []) a x (set b (nat_abs l) true) z
found_last clauses proof_ids t l antecedent hint a b x y z h assignment room marked is before =
    let q = assignment.assignment in
    let var_is : nat_abs q.lit ≡ nat_abs l = ap nat_abs assignment.negated ∙ nat_abs-neg_ℤ l in
    record {
      grows = λ v k. mark_stays b (nat_abs l) v room (before.grows v k);
      derives = λ place p there all. (let lt = assignment_before clauses proof_ids t a l antecedent hint place h assignment all in
          let D : ℕ → Type 0 = λ n. Derives clauses proof_ids t.assignments (denying t.assignments place p.lit) b y (set b n true) z in
          derives_then clauses proof_ids t.assignments (denying t.assignments place p.lit) a b (set b (nat_abs l) true) x y z (before.derives place p there all)
          (subst D var_is (derives_step clauses proof_ids t place p assignment.place q antecedent hint b y z h there assignment.stands lt assignment.antecedent_is (λ m inside differs. marked m inside (other m inside differs)) is)));
    }
  where
    other : (m : ℤ) → has antecedent m ≡ true → (m ≡ assignment.assignment.lit → ⊥) → nat_abs m ≡ nat_abs l → ⊥
    other m inside differs same =
        let before = earlier clauses proof_ids t assignment.place assignment.assignment antecedent hint m h assignment.stands assignment.antecedent_is inside differs in
        before.5 (same ∙ sym (ap nat_abs assignment.negated ∙ nat_abs-neg_ℤ l))

-- ---- the clause of the literal itself

pub lit_stands : (assignments : List Assignment) (place : ℕ) (p : Assignment) (l : ℤ) → StandsAt assignments place p → slice_get (lits assignments) place ≡ Some l → p.lit ≡ l
lit_stands assignments place p l there is =
    let found : slice_get (lits assignments) place ≡ Some p.lit = slice_get-map (λ (q : Assignment). q.lit) assignments place ∙ ap (option_map (λ (q : Assignment). q.lit)) there in
    let same : Some p.lit ≡ Some l = sym found ∙ is in
    cc

pub explained_ends : (clauses : List (List ℤ)) (proof_ids : List ℕ) (t : TrailState) (place : ℕ) (p : Assignment) (antecedent : List ℤ) (hint : ℤ) (start marks : List Bool) (hints more : List ℤ) (live : List (ℕ × List ℤ)) → IsTrail t → StandsAt t.assignments place p → IsAntecedent clauses proof_ids t.assignments place p antecedent hint → HaveIds live clauses proof_ids t.assignments → ((v : ℕ) → get_or start v false ≡ true → v ≡ nat_abs p.lit) → is_marked start p.lit ≡ true → IsFound clauses proof_ids t.assignments antecedent start [] marks hints → ((m : ℤ) → has antecedent m ≡ true → is_marked marks m ≡ true) → more ≡ hints ++ hint ∷ [] → Follows live (neg_ℤ p.lit ∷ []) more
explained_ends clauses proof_ids t place p antecedent hint start marks hints more live h there known has_id alone marked_here found marked is =
    let true_lits = denying t.assignments place p.lit in
    let names_it = known.has_id live has_id in
    let own = neg_ℤ p.lit ∷ [] in
    let led : Leads live true_lits start marks hints = found.derives place p there all_known live start has_id (λ rest refutes. refutes) in
    let R : ℤ → Type 0 = λ x. Refutes live true_lits marks (x ∷ []) in
    let ended : Refutes live true_lits marks (hint ∷ []) = subst R (sym names_it.1) (refutes_false live true_lits names_it.2 names_it.0 marks (denying_one_way t place p h there) names_it.3 (λ m inside. false_m m (names_it.5 m inside))) in
    let E : List ℤ → Type 0 = λ hs. Follows live own hs in
    let whole = led (hint ∷ []) ended in
    subst E (sym is) (record {
      live_hints = whole.live_hints;
      ends = whole.ends own
          (λ l inside k. (let H : ℤ → Type 0 = λ x. has own x ≡ true in subst H (sym (denying_last t place p l h there inside (alone (nat_abs l) k))) (has-head (neg_ℤ p.lit) [])))
          (λ l k. has-append (lits (take place t.assignments)) own l ∙ or_right (has (lits (take place t.assignments)) l) (has own l) k);
    })
  where
    all_known : AreKnownAt t.assignments start place antecedent
    all_known m inside =
        elim (cases_Bool (same_lit m p.lit)) [
          | inl e ↦ (let M : ℤ → Type 0 = λ x. is_marked start x ≡ true in inl (subst M (sym (same_lit-true m p.lit e)) marked_here))
          | inr e ↦ inr (known.false_before m inside (same_lit-apart m p.lit e))
        ]

    false_m : (m : ℤ) → ((m ≡ p.lit → ⊥) → has antecedent m ≡ true) → (has (denying t.assignments place p.lit) (neg_ℤ m) ≡ true) × (is_marked marks m ≡ true)
    false_m m inside =
        elim (cases_Bool (same_lit m p.lit)) [
          | inl e ↦ (let same = same_lit-true m p.lit e in
              let M : ℤ → Type 0 = λ x. is_marked marks x ≡ true in
              let D : ℤ → Type 0 = λ x. has (denying t.assignments place p.lit) (neg_ℤ x) ≡ true in (
                subst D (sym same) (has-append (lits (take place t.assignments)) (neg_ℤ p.lit ∷ []) (neg_ℤ p.lit) ∙ or_right (has (lits (take place t.assignments)) (neg_ℤ p.lit)) (has (neg_ℤ p.lit ∷ []) (neg_ℤ p.lit)) (has-head (neg_ℤ p.lit) [])),
                subst M (sym same) (found.grows (nat_abs p.lit) marked_here),
              ))
          | inr e ↦ (let differs = same_lit-apart m p.lit e in
              let here = inside differs in
              (denying_before t.assignments place p.lit (neg_ℤ m) (known.false_before m here differs), marked m here))
        ]
