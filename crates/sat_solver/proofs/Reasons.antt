-- A trail on which one literal rests on another clause.
use Rattle.std.proofs.Common.{◌≡◌, ℕ, suc, ◌<◌, ◌^◌, true, false, eqb, leb, ℤ, nat_abs, Option, Some, None, List, [], ◌∷◌, ◌++◌, length, map, take, refl, ap, sym, ◌∙◌, subst, ◌⊎◌, inl, inr}
use Rattle.std.specs.List.{Contains}
use Rattle.std.proofs.lemmas.Bool.{cases_Bool, cases_eq, eq-eqb, ne_eqb}
use Rattle.std.proofs.lemmas.List.Elements.{All-weaker}
use Rattle.sat_trail.specs.declared.clause_id.ClauseId.{ClauseId}
use Rattle.sat_trail.specs.declared.clause_id.ClauseId.TheVariants as ids
use Rattle.sat_trail.specs.Trail.{Assignment, TrailState, lits, upto, with_reason, IsTrail}
use Rattle.sat_trail.proofs.Reasons.{with_reason-lit, with_reason-level}
use Rattle.sat_watch.specs.declared.mark.Mark.{Mark}
use Rattle.sat_watch.specs.Book.{BookState, NoneFalse, NoneUnit, marks}
use Rattle.sat_watch.specs.Ready.{IsReady}
use Rattle.sat_queue.specs.Order.{is_unassigned}
use Rattle.sat_learn.specs.Reasons.{IsReason, AreReasons, HasId, HaveIds}
use Rattle.sat_learn.proofs.Assignments.{one_assignment}
use Rattle.sat_solver.specs.Decision.{before, AreAssigned, IsPassed}
use Rattle.sat_solver.specs.Sound.{root}
use Rattle.sat_solver.proofs.Roots.{KeepsUnits, contains_map, from_map, place_of}

-- ---- one assignment

-- an assignment of the variable rests on the clause, and any other stays
with_reason_cases : (v : ℕ) (id : ClauseId) (p : Assignment) → ((nat_abs p.lit ≡ v) × (with_reason v id p ≡ record { lit = p.lit; level = p.level; reason = Some id })) ⊎ (with_reason v id p ≡ p)
with_reason_cases v id p =
    elim (cases_eq (nat_abs p.lit) v) [
      | inl e ↦ inl (e, rw (eq-eqb (nat_abs p.lit) v e) refl)
      | inr e ↦ inr (rw (ne_eqb (nat_abs p.lit) v e) refl)
    ]

-- ---- all assignments

pub marks-with_reason : (v : ℕ) (id : ClauseId) (ps : List Assignment) → marks (map (with_reason v id) ps) ≡ marks ps
marks-with_reason v id [] = refl
marks-with_reason v id (p ∷ ps) =
    let q = with_reason v id p in
    let with_lit : ℤ → List Mark = λ l. record { lit = l; level = q.level } ∷ marks (map (with_reason v id) ps) in
    let with_level : ℕ → List Mark = λ n. record { lit = p.lit; level = n } ∷ marks (map (with_reason v id) ps) in
    ap with_lit (with_reason-lit v id p) ∙ ap with_level (with_reason-level v id p) ∙ ap (λ ms. record { lit = p.lit; level = p.level } ∷ ms) (marks-with_reason v id ps)

-- ---- what the literals and their levels say

lits_of_marks : (ps : List Assignment) → lits ps ≡ map (λ (m : Mark). m.lit) (marks ps)
lits_of_marks [] = refl
lits_of_marks (p ∷ ps) = ap (λ ls. p.lit ∷ ls) (lits_of_marks ps)

pub lits_same : (ps qs : List Assignment) → marks ps ≡ marks qs → lits ps ≡ lits qs
lits_same ps qs same = lits_of_marks ps ∙ ap (map (λ (m : Mark). m.lit)) same ∙ sym (lits_of_marks qs)

upto_marks : (k : ℕ) (ps qs : List Assignment) → marks ps ≡ marks qs → marks (upto k ps) ≡ marks (upto k qs)
upto_marks k [] [] same = refl
upto_marks k [] (q ∷ qs) same = cc
upto_marks k (p ∷ ps) [] same = cc
upto_marks k (p ∷ ps) (q ∷ qs) same =
    let heads : ◌≡◌ {A = Mark} (record { lit = p.lit; level = p.level }) (record { lit = q.lit; level = q.level }) = cc in
    let tails : marks ps ≡ marks qs = cc in
    let rest = upto_marks k ps qs tails in
    let level : p.level ≡ q.level = ap (λ (m : Mark). m.level) heads in
    elim (cases_Bool (leb q.level k)) [
      | inl e ↦ (let here : leb p.level k ≡ true = ap (λ n. leb n k) level ∙ e in
          rw (here, e) (ap (λ m. m ∷ marks (upto k ps)) heads ∙ ap (λ ms. record { lit = q.lit; level = q.level } ∷ ms) rest))
      | inr e ↦ (let here : leb p.level k ≡ false = ap (λ n. leb n k) level ∙ e in rw (here, e) rest)
    ]

length_marks : (ps : List Assignment) → length (marks ps) ≡ length ps
length_marks [] = refl
length_marks (p ∷ ps) = ap suc (length_marks ps)

pub length_same : (k : ℕ) (ps qs : List Assignment) → marks ps ≡ marks qs → length (upto k ps) ≡ length (upto k qs)
length_same k ps qs same = sym (length_marks (upto k ps)) ∙ ap length (upto_marks k ps qs same) ∙ length_marks (upto k qs)

pub whole_same : (ps qs : List Assignment) → marks ps ≡ marks qs → length ps ≡ length qs
whole_same ps qs same = sym (length_marks ps) ∙ ap length same ∙ length_marks qs

unassigned_same : (ps qs : List Assignment) (v : ℕ) → marks ps ≡ marks qs → is_unassigned ps v ≡ is_unassigned qs v
unassigned_same [] [] v same = refl
unassigned_same [] (q ∷ qs) v same = cc
unassigned_same (p ∷ ps) [] v same = cc
unassigned_same (p ∷ ps) (q ∷ qs) v same =
    let heads : ◌≡◌ {A = Mark} (record { lit = p.lit; level = p.level }) (record { lit = q.lit; level = q.level }) = cc in
    let tails : marks ps ≡ marks qs = cc in
    let lit : p.lit ≡ q.lit = ap (λ (m : Mark). m.lit) heads in
    elim (cases_Bool (eqb (nat_abs q.lit) v)) [
      | inl e ↦ (let here : eqb (nat_abs p.lit) v ≡ true = ap (λ l. eqb (nat_abs l) v) lit ∙ e in rw (here, e) refl)
      | inr e ↦ (let here : eqb (nat_abs p.lit) v ≡ false = ap (λ l. eqb (nat_abs l) v) lit ∙ e in rw (here, e) (unassigned_same ps qs v tails))
    ]

assigned_same : (ps qs : List Assignment) (vars : List ℕ) → marks ps ≡ marks qs → AreAssigned ps vars → AreAssigned qs vars
assigned_same ps qs vars same h =
    All-weaker (λ v. is_unassigned ps v ≡ false) (λ v. is_unassigned qs v ≡ false) (λ v k. sym (unassigned_same ps qs v same) ∙ k) vars h

pub passed_same : (queue : List ℕ) (ps qs : List Assignment) (from : Option ℕ) → marks ps ≡ marks qs → IsPassed queue ps from → IsPassed queue qs from
passed_same queue ps qs None same h = assigned_same ps qs queue same h
passed_same queue ps qs (Some v) same h = (h.0, assigned_same ps qs (before v queue) same h.1)

pub ready_same : (b : BookState) (t : TrailState) (qs : List Assignment) → marks qs ≡ marks t.assignments → IsReady b t → IsReady b (record t { assignments = qs })
ready_same b t qs same h =
    record {
      followed = record { vars = h.followed.vars; agrees = ap (take t.low) same ∙ h.followed.agrees };
      none_false = λ k lt. (let N : List ℤ → Type 0 = λ ls. NoneFalse b.clauses ls in
          subst N (sym (lits_same (upto k qs) (upto k t.assignments) (upto_marks k qs t.assignments same))) (h.none_false k lt));
      none_unit = λ k lt. (let N : List ℤ → Type 0 = λ ls. NoneUnit b.clauses ls in
          subst N (sym (lits_same (upto k qs) (upto k t.assignments) (upto_marks k qs t.assignments same))) (h.none_unit k lt));
    }

-- ---- reasons

pub reasons_with_reason : (cs : List (List ℤ)) (before : List ℤ) (v id : ℕ) (ps : List Assignment) → id < 2 ^ 62 → AreReasons cs before ps → AreReasons cs before (map (with_reason v (ids.Unit id)) ps)
reasons_with_reason cs before v id [] small h = tt
reasons_with_reason cs before v id (p ∷ ps) small h =
    let q = with_reason v (ids.Unit id) p in
    let R : Assignment → Type 0 = λ r. IsReason cs before r.lit r.reason in
    let here : R q = elim (with_reason_cases v (ids.Unit id) p) [
      | inl e ↦ subst R (sym e.1) small
      | inr e ↦ subst R (sym e) h.0
    ] in
    let P : ℤ → Type 0 = λ l. AreReasons cs (before ++ l ∷ []) (map (with_reason v (ids.Unit id)) ps) in
    (here, subst P (sym (with_reason-lit v (ids.Unit id) p)) (reasons_with_reason cs (before ++ p.lit ∷ []) v id ps small h.1))

-- two assignments of one variable are one
pub one_assignment_of : (t : TrailState) (p q : Assignment) → IsTrail t → Contains t.assignments p → Contains t.assignments q → nat_abs p.lit ≡ nat_abs q.lit → p ≡ q
one_assignment_of t p q trail p_in q_in same =
    let i = place_of t.assignments p p_in in
    let j = place_of t.assignments q q_in in
    one_assignment t i.0 j.0 p q trail i.1 j.1 same

unit_of : (m n : ℕ) → ◌≡◌ {A = Option ClauseId} (Some (ids.Unit m)) (Some (ids.Unit n)) → m ≡ n
unit_of m n e = cc

pub with_id_with_reason : (live : List (ℕ × List ℤ)) (cs : List (List ℤ)) (proof_ids : List ℕ) (t : TrailState) (p : Assignment) (id : ℕ) → IsTrail t → Contains t.assignments p → HasId live id (p.lit ∷ []) → HaveIds live cs proof_ids t.assignments → HaveIds live cs proof_ids (map (with_reason (nat_abs p.lit) (ids.Unit id)) t.assignments)
with_id_with_reason live cs proof_ids t p id trail p_in has_id h = record {
  book = h.book;
  units = λ r n there says.
      let v = nat_abs p.lit in
      let found = from_map (with_reason v (ids.Unit id)) t.assignments r there in
      let q = found.0 in
      let C : Assignment → Type 0 = λ x. HasId live n (x.lit ∷ []) in
      let L : ℤ → Type 0 = λ l. HasId live n (l ∷ []) in
      let reason_is = ap (λ (x : Assignment). x.reason) found.2 ∙ says in
      elim (with_reason_cases v (ids.Unit id) q) [
        | inl e ↦ (let same = one_assignment_of t q p trail found.1 p_in e.0 in
            let number : id ≡ n = unit_of id n (sym (ap (λ (x : Assignment). x.reason) e.1) ∙ reason_is) in
            let lit_is : p.lit ≡ r.lit = ap (λ (x : Assignment). x.lit) (sym same) ∙ sym (with_reason-lit v (ids.Unit id) q) ∙ ap (λ (x : Assignment). x.lit) found.2 in
            let N : ℕ → Type 0 = λ m. HasId live m (p.lit ∷ []) in
            subst L lit_is (subst N number has_id))
        | inr e ↦ (let same : q ≡ r = sym e ∙ found.2 in
            subst C same (h.units q n found.1 (ap (λ (x : Assignment). x.reason) same ∙ says)))
      ];
}

-- ---- units

pub units_with_reason : (v id : ℕ) (ps : List Assignment) → KeepsUnits ps (map (with_reason v (ids.Unit id)) ps)
units_with_reason v id ps l n h =
    let p = root l (ids.Unit n) in
    let there = contains_map (with_reason v (ids.Unit id)) ps p h in
    let C : Assignment → Type 0 = λ x. Contains (map (with_reason v (ids.Unit id)) ps) x in
    elim (with_reason_cases v (ids.Unit id) p) [
      | inl e ↦ (id, subst C e.1 there)
      | inr e ↦ (n, subst C e there)
    ]

-- the literal itself
pub root_with_reason : (ps : List Assignment) (l : ℤ) (id : ℕ) (reason : ClauseId) → Contains ps (root l reason) → Contains (map (with_reason (nat_abs l) (ids.Unit id)) ps) (root l (ids.Unit id))
root_with_reason ps l id reason h =
    let p = root l reason in
    let v = nat_abs l in
    let there = contains_map (with_reason v (ids.Unit id)) ps p h in
    let C : Assignment → Type 0 = λ x. Contains (map (with_reason v (ids.Unit id)) ps) x in
    subst C (rw (eq-eqb v v refl) refl) there
