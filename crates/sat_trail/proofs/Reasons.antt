-- A literal that is given another reason.
use Rattle.std.proofs.Common.{◌≡◌, ℕ, ◌<◌, false, cond, eqb, leb, ℤ, nat_abs, Option, Some, None, List, [], ◌∷◌, length, map, take, set, get_or, refl, ap, sym, ◌∙◌, subst, arith, inl, inr}
use Rattle.std.specs.List.{list_any, IsDistinct, All}
use Rattle.std.specs.Option.{IsSome}
use Rattle.std.proofs.lemmas.Bool.{cases_Bool, cases_eq, ne_eqb, eq-eqb, or_parts, eqb-false}
use Rattle.std.proofs.lemmas.List.{length-map, length-set, get_or-set_same, get_or-set_other}
use Rattle.std.proofs.lemmas.Map.Keys.{IsDistinct-head, IsDistinct-tail}
use Rattle.cnf_base.specs.Dimacs.{IsLiteral}
use Rattle.sat_trail.specs.declared.clause_id.ClauseId.{ClauseId}
use Rattle.sat_trail.specs.declared.truth.Value.{Value}
use Rattle.sat_trail.specs.declared.cause.Cause.{Cause}
use Rattle.sat_trail.specs.Trail.{Assignment, TrailState, lits, upto, assignment_of, with_reason, Joins, Climbs, IsTrail}
use Rattle.sat_trail.specs.Kept.{reason_of_cause, no_cause, assignment_with, assignment_from, state_of, AreValues, IsKept}
use Rattle.sat_trail.proofs.LiteralValues.{none_from}
use Rattle.sat_trail.proofs.Representation.{Held}

-- ---- what stays

pub with_reason-lit : (var : ℕ) (reason : ClauseId) (p : Assignment) → (with_reason var reason p).lit ≡ p.lit
with_reason-lit var reason p = elim (cases_Bool (eqb (nat_abs p.lit) var)) [ inl e ↦ rw e refl | inr e ↦ rw e refl ]

pub with_reason-level : (var : ℕ) (reason : ClauseId) (p : Assignment) → (with_reason var reason p).level ≡ p.level
with_reason-level var reason p = elim (cases_Bool (eqb (nat_abs p.lit) var)) [ inl e ↦ rw e refl | inr e ↦ rw e refl ]

pub lits-with_reason : (var : ℕ) (reason : ClauseId) (ps : List Assignment) → lits (map (with_reason var reason) ps) ≡ lits ps
lits-with_reason var reason [] = refl
lits-with_reason var reason (p ∷ ps) =
    ap (λ l. l ∷ lits (map (with_reason var reason) ps)) (with_reason-lit var reason p)
    ∙ ap (λ ls. p.lit ∷ ls) (lits-with_reason var reason ps)

pub upto-with_reason : (k var : ℕ) (reason : ClauseId) (ps : List Assignment) → upto k (map (with_reason var reason) ps) ≡ map (with_reason var reason) (upto k ps)
upto-with_reason k var reason [] = refl
upto-with_reason k var reason (p ∷ ps) =
    let q = with_reason var reason p in
    let more = map (with_reason var reason) (upto k ps) in
    ap (λ qs. cond (leb q.level k) (q ∷ qs) qs) (upto-with_reason k var reason ps)
    ∙ ap (λ n. cond (leb n k) (q ∷ more) more) (with_reason-level var reason p)
    ∙ (elim (cases_Bool (leb p.level k)) [ inl e ↦ rw e refl | inr e ↦ rw e refl ])

-- a variable without an assignment gives none another reason
pub with_reason-absent : (var : ℕ) (reason : ClauseId) (ps : List Assignment) → list_any (eqb var) (map nat_abs (lits ps)) ≡ false → map (with_reason var reason) ps ≡ ps
with_reason-absent var reason [] free = refl
with_reason-absent var reason (p ∷ ps) free =
    let parts = or_parts (eqb var (nat_abs p.lit)) (list_any (eqb var) (map nat_abs (lits ps))) free in
    let apart = ne_eqb (nat_abs p.lit) var (λ e. eqb-false var (nat_abs p.lit) parts.0 (sym e)) in
    rw apart (ap (λ qs. p ∷ qs) (with_reason-absent var reason ps parts.1))

Joins-some : (from level : ℕ) (old : Option ClauseId) (reason : ClauseId) → IsSome old → Joins from level old → Joins from level (Some reason)
Joins-some from level None reason some joins = cc
Joins-some from level (Some old) reason some joins = joins

-- the levels climb as before where the variable's literal isn't a decision
pub Climbs-with_reason : (var : ℕ) (reason : ClauseId) (from : ℕ) (ps : List Assignment) (to : ℕ) (p : Assignment) → IsDistinct eqb (map nat_abs (lits ps)) → assignment_of var ps ≡ Some p → IsSome p.reason → Climbs from ps to → Climbs from (map (with_reason var reason) ps) to
Climbs-with_reason var reason from [] to p distinct found some climbs = cc
Climbs-with_reason var reason from (q ∷ qs) to p distinct found some climbs =
    elim (cases_eq (nat_abs q.lit) var) [
      | inl e ↦ (let here : Some q ≡ Some p = rw (eq-eqb (nat_abs q.lit) var e) at found in
          let same : p ≡ q = cc in
          let S : Assignment → Type 0 = λ r. IsSome r.reason in
          let free = none_from (nat_abs q.lit) (map nat_abs (lits qs)) (IsDistinct-head eqb (nat_abs q.lit) (map nat_abs (lits qs)) distinct) in
          let F : ℕ → Type 0 = λ v. list_any (eqb v) (map nat_abs (lits qs)) ≡ false in
          let C : List Assignment → Type 0 = λ rs. Climbs q.level rs to in
          rw (eq-eqb (nat_abs q.lit) var e) (
            Joins-some from q.level q.reason reason (subst S same some) climbs.0,
            subst C (sym (with_reason-absent var reason qs (subst F e free))) climbs.1,
          ))
      | inr e ↦ (let later : assignment_of var qs ≡ Some p = rw (ne_eqb (nat_abs q.lit) var e) at found in
          rw (ne_eqb (nat_abs q.lit) var e)
          (climbs.0, Climbs-with_reason var reason q.level qs to p (IsDistinct-tail eqb (nat_abs q.lit) (map nat_abs (lits qs)) distinct) later some climbs.1))
    ]

pub IsTrail-with_reason : (t : TrailState) (var : ℕ) (reason : ClauseId) (p : Assignment) → IsTrail t → assignment_of var t.assignments ≡ Some p → IsSome p.reason → IsTrail (record { vars = t.vars; assignments = map (with_reason var reason) t.assignments; level = t.level; low = t.low })
IsTrail-with_reason t var reason p h found some =
    let P : List ℤ → Type 0 = λ ls. All (IsLiteral t.vars) ls in
    let Q : List ℤ → Type 0 = λ ls. IsDistinct eqb (map nat_abs ls) in
    let same = sym (lits-with_reason var reason t.assignments) in
    let low = h.low_reached in
    record {
      few_vars = h.few_vars;
      in_range = subst P same h.in_range;
      distinct = subst Q same h.distinct;
      climbs = Climbs-with_reason var reason 0 t.assignments t.level p h.distinct found some h.climbs;
      low_reached = omega (arith, length-map t.assignments (with_reason var reason));
    }

-- ---- what is kept

-- the cause that is written stands at the old level and gives the reason
pub record Rests (causes : List Cause) (var : ℕ) (reason : ClauseId) (cause : Cause) : Type 0 where
  pub room : var < length causes
  pub at_level : cause.level ≡ (get_or causes var no_cause).level
  pub gives : reason_of_cause cause ≡ Some reason

assignment_rests : (causes : List Cause) (var : ℕ) (reason : ClauseId) (cause : Cause) (l : ℤ) → Rests causes var reason cause → assignment_from (set causes var cause) l ≡ with_reason var reason (assignment_from causes l)
assignment_rests causes var reason cause l h =
    let made : ℕ → Option ClauseId → Assignment = λ n r. record { lit = l; level = n; reason = r } in
    let old = assignment_from causes l in
    elim (cases_eq (nat_abs l) var) [
      | inl e ↦ ap (λ n. assignment_with (get_or (set causes var cause) n no_cause) l) e
          ∙ ap (λ c. assignment_with c l) (get_or-set_same causes var cause no_cause h.room)
          ∙ ap (λ n. made n (reason_of_cause cause)) h.at_level
          ∙ ap (λ r. made (get_or causes var no_cause).level r) h.gives
          ∙ ap (λ n. made (get_or causes n no_cause).level (Some reason)) (sym e)
          ∙ ap (λ b. cond b (made old.level (Some reason)) old) (sym (eq-eqb (nat_abs l) var e))
      | inr e ↦ ap (λ c. assignment_with c l) (get_or-set_other causes var (nat_abs l) cause no_cause e)
          ∙ ap (λ b. cond b (made old.level (Some reason)) old) (sym (ne_eqb (nat_abs l) var e))
    ]

pub assignments_rest : (causes : List Cause) (var : ℕ) (reason : ClauseId) (cause : Cause) (ls : List ℤ) → Rests causes var reason cause → map (assignment_from (set causes var cause)) ls ≡ map (with_reason var reason) (map (assignment_from causes) ls)
assignments_rest causes var reason cause [] h = refl
assignments_rest causes var reason cause (l ∷ ls) h =
    ap (λ p. p ∷ map (assignment_from (set causes var cause)) ls) (assignment_rests causes var reason cause l h)
    ∙ ap (λ ps. with_reason var reason (assignment_from causes l) ∷ ps) (assignments_rest causes var reason cause ls h)

pub IsKept-rest : (vars count level low : ℕ) (causes : List Cause) (all_lits : List ℤ) (values : List Value) (ends : List ℕ) (var : ℕ) (reason : ClauseId) (cause : Cause) (p : Assignment) → Held vars count level low causes all_lits values ends → Rests causes var reason cause → assignment_of var (map (assignment_from causes) (take count all_lits)) ≡ Some p → IsSome p.reason → Held vars count level low (set causes var cause) all_lits values ends
IsKept-rest vars count level low causes all_lits values ends var reason cause p h rests found some =
    let ps = map (assignment_from causes) (take count all_lits) in
    let P : List Assignment → Type 0 = λ qs. IsKept (record { vars = vars; assignments = qs; level = level; low = low }) count all_lits values (set causes var cause) ends in
    let V : List ℤ → Type 0 = λ ls. AreValues vars ls values in
    subst P (sym (assignments_rest causes var reason cause (take count all_lits) rests)) (record {
      lits_room = h.lits_room;
      values_room = h.values_room;
      causes_room = length-set causes var cause ∙ h.causes_room;
      ends_room = h.ends_room;
      number = h.number;
      values_agree = subst V (sym (lits-with_reason var reason ps)) h.values_agree;
      ends_agree = λ k lt. h.ends_agree k lt ∙ sym (length-map (upto k ps) (with_reason var reason)) ∙ ap length (sym (upto-with_reason k var reason ps));
      trail = IsTrail-with_reason (state_of vars count level low causes all_lits) var reason p h.trail found some;
    })
