-- The trail as it is kept, after each change.
use Rattle.std.proofs.Common.{◌≡◌, ℕ, zero, suc, ◌+◌, ◌*◌, ◌-◌, ◌<◌, ◌≤◌, true, false, cond, eqb, min, ℤ, pos, negsuc, neg_ℤ, nat_abs, Option, Some, None, List, [], ◌∷◌, ◌++◌, length, map, take, drop, set, get_or, replicate, refl, ap, sym, ◌∙◌, subst, arith, inl, inr}
use Rattle.std.specs.List.{slice_range, list_any, IsDistinct, AllByRecursion, All}
use Rattle.std.specs.Cmp.{nat_eq_equiv}
use Rattle.std.proofs.lemmas.Bool.{cases_lt, or_parts, cases_eq, ne_eqb, eq-eqb, eqb-false}
use Rattle.std.proofs.lemmas.List.{drop-take, get_or_default, length-take, take-take, get_or-take, get_or-replicate, get_or_past, length-replicate, map_push, take_more_set, take-map, length-map, length-take-le, length-set, length_push, get_or-set_same, get_or-set_other, take-append-drop}
use Rattle.std.proofs.lemmas.List.Elements.{All-get_or, All-drop, All-weaker, All-push, All-take, recursion_from_All}
use Rattle.std.proofs.lemmas.Map.Keys.{IsDistinct-push, IsDistinct-from_apart, apart_from_distinct}
use Rattle.cnf_base.specs.Literal.{lit_index}
use Rattle.cnf_base.specs.Status.{same_lit}
use Rattle.cnf_base.specs.Dimacs.{IsLiteral}
use Rattle.sat_trail.specs.declared.clause_id.ClauseId.{ClauseId}
use Rattle.sat_trail.specs.declared.truth.Value.{Value}
use Rattle.sat_trail.specs.declared.truth.Value.TheVariants.{True, False, Unset}
use Rattle.sat_trail.specs.declared.cause.Cause.{Cause}
use Rattle.sat_trail.specs.Trail.{Assignment, TrailState, lits, upto, value_in, assignment_of, Joins, Climbs, IsTrail}
use Rattle.sat_trail.specs.Kept.{reason_of_cause, no_cause, assignment_with, assignment_from, state_of, kept_value, AreValues, IsKept}
use Rattle.sat_trail.proofs.Levels.{Joins-near, Climbs-rises, Climbs-push, Climbs-upto, upto-all, upto-push_above, upto-upto, upto-take, length-upto-le}
use Rattle.sat_trail.proofs.LiteralValues.{touches, unset_touches, AreValues-assignment, AreValues-cut, IsVar, room_for}

pub lits-assignments : (causes : List Cause) (ls : List ℤ) → lits (map (assignment_from causes) ls) ≡ ls
lits-assignments causes [] = refl
lits-assignments causes (l ∷ ls) = ap (λ r. l ∷ r) (lits-assignments causes ls)

-- a cause that is written for another variable changes nothing
assignments_stay : (causes : List Cause) (v : ℕ) (cause : Cause) (ls : List ℤ) → list_any (eqb v) (map nat_abs ls) ≡ false → map (assignment_from (set causes v cause)) ls ≡ map (assignment_from causes) ls
assignments_stay causes v cause [] h = refl
assignments_stay causes v cause (l ∷ ls) h =
    let parts = or_parts (eqb v (nat_abs l)) (list_any (eqb v) (map nat_abs ls)) h in
    let same : get_or (set causes v cause) (nat_abs l) no_cause ≡ get_or causes (nat_abs l) no_cause = get_or-set_other causes v (nat_abs l) cause no_cause (λ e. eqb-false v (nat_abs l) parts.0 (sym e)) in
    ap (λ c. assignment_with c l ∷ map (assignment_from (set causes v cause)) ls) same
    ∙ ap (λ r. assignment_from causes l ∷ r) (assignments_stay causes v cause ls parts.1)

pub assignments_push : (causes : List Cause) (cause : Cause) (all_lits : List ℤ) (count : ℕ) (l : ℤ) → count < length all_lits → nat_abs l < length causes → touches (take count all_lits) l ≡ false → map (assignment_from (set causes (nat_abs l) cause)) (take (count + 1) (set all_lits count l)) ≡ map (assignment_from causes) (take count all_lits) ++ assignment_with cause l ∷ []
assignments_push causes cause all_lits count l lt room free =
    let causes' = set causes (nat_abs l) cause in
    ap (map (assignment_from causes')) (take_more_set all_lits count l lt)
    ∙ map_push (assignment_from causes') (take count all_lits) l
    ∙ ap (λ r. r ++ assignment_from causes' l ∷ []) (assignments_stay causes (nat_abs l) cause (take count all_lits) free)
    ∙ ap (λ c. map (assignment_from causes) (take count all_lits) ++ assignment_with c l ∷ []) (get_or-set_same causes (nat_abs l) cause no_cause room)

-- what put a variable there, if it is among these
pub find_touched : (causes : List Cause) (ls : List ℤ) (var : ℕ) → list_any (eqb var) (map nat_abs ls) ≡ true → (l : ℤ) × (nat_abs l ≡ var) × (assignment_of var (map (assignment_from causes) ls) ≡ Some (assignment_from causes l))
find_touched causes [] var h = cc
find_touched causes (l ∷ ls) var h =
    elim (cases_eq (nat_abs l) var) [
      | inl e ↦ (l, e, rw (eq-eqb (nat_abs l) var e) refl)
      | inr e ↦ (let later : list_any (eqb var) (map nat_abs ls) ≡ true = rw (ne_eqb var (nat_abs l) (λ f. e (sym f))) at h in
          let found = find_touched causes ls var later in
          (found.0, found.1, rw (ne_eqb (nat_abs l) var e) found.2))
    ]

pub find_untouched : (causes : List Cause) (ls : List ℤ) (var : ℕ) → list_any (eqb var) (map nat_abs ls) ≡ false → assignment_of var (map (assignment_from causes) ls) ≡ None
find_untouched causes [] var h = refl
find_untouched causes (l ∷ ls) var h =
    let parts = or_parts (eqb var (nat_abs l)) (list_any (eqb var) (map nat_abs ls)) h in
    rw (ne_eqb (nat_abs l) var (λ e. eqb-false var (nat_abs l) parts.0 (sym e))) (find_untouched causes ls var parts.1)

-- the variables on the trail
kept_vars : (t : TrailState) → IsTrail t → AllByRecursion (IsVar t.vars) (map nat_abs (lits t.assignments))
kept_vars t h = each (lits t.assignments) (recursion_from_All (IsLiteral t.vars) (lits t.assignments) h.in_range)
  where
    zero_abs : (l : ℤ) → (l ≡ pos 0 → ⊥) → 0 < nat_abs l
    zero_abs (pos zero) nz = absurd (nz refl)
    zero_abs (pos (suc n)) nz = omega arith
    zero_abs (negsuc n) nz = omega arith

    each : (ls : List ℤ) → AllByRecursion (IsLiteral t.vars) ls → AllByRecursion (IsVar t.vars) (map nat_abs ls)
    each [] k = tt
    each (l ∷ ls) k = ((zero_abs l k.0.not_zero, k.0.variable), each ls k.1)

-- where a variable is free, there is room for its literal
pub free_room : (t : TrailState) (l : ℤ) → IsTrail t → nat_abs l ≤ t.vars → (nat_abs l ≡ 0 → ⊥) → value_in (lits t.assignments) l ≡ Unset → length t.assignments < t.vars
free_room t l h within nz free =
    let room : length (map nat_abs (lits t.assignments)) < t.vars =
    room_for t.vars (map nat_abs (lits t.assignments)) (nat_abs l) h.distinct (kept_vars t h) (omega arith, within) (unset_touches (lits t.assignments) l free) in
    omega (arith, length-map (lits t.assignments) nat_abs, length-map t.assignments (λ (p : Assignment). p.lit))

pub record Writes (l : ℤ) (value opposite : Value) (old new : List Value) : Type 0 where
  pub len : length new ≡ length old
  pub each : (x : ℤ) → kept_value new x ≡ cond (same_lit l x) value (cond (same_lit l (neg_ℤ x)) opposite (kept_value old x))

-- the ends of the levels below the new one, where the new one is the present level or the next
pub record Ends (count level level' : ℕ) (old new : List ℕ) : Type 0 where
  pub len : length new ≡ length old
  pub stay : (k : ℕ) → k < level → get_or new k 0 ≡ get_or old k 0
  pub next : level < level' → get_or new level 0 ≡ count

ends_agree-assignment : (ps : List Assignment) (p : Assignment) (count level level' : ℕ) (ends ends' : List ℕ) → Climbs 0 ps level → length ps ≡ count → Joins level p.level p.reason → level' ≡ p.level → Ends count level level' ends ends' → ((k : ℕ) → k < level → get_or ends k 0 ≡ length (upto k ps)) → (k : ℕ) → k < level' → get_or ends' k 0 ≡ length (upto k (ps ++ p ∷ []))
ends_agree-assignment ps p count level level' ends ends' climbs held joins same e old k lt =
    let near = Joins-near level p.level p.reason joins in
    let above : k < p.level = omega arith in
    let pushed = ap length (sym (upto-push_above k ps p above)) in
    elim (cases_lt k level) [
      | inl below ↦ e.stay k below ∙ old k below ∙ pushed
      | inr le ↦ (let at_level : k ≡ level = omega arith in
          let next : level < level' = omega arith in
          ap (λ n. get_or ends' n 0) at_level ∙ e.next next ∙ sym held ∙ ap length (sym (upto-all k 0 ps level climbs le)) ∙ pushed)
    ]

pub IsTrail-assignment : (t : TrailState) (p : Assignment) (level' : ℕ) → IsTrail t → nat_abs p.lit ≤ t.vars → (nat_abs p.lit ≡ 0 → ⊥) → value_in (lits t.assignments) p.lit ≡ Unset → Joins t.level p.level p.reason → level' ≡ p.level → IsTrail (record { vars = t.vars; assignments = t.assignments ++ p ∷ []; level = level'; low = t.low })
IsTrail-assignment t p level' h within nz free joins same =
    let lits_are : lits (t.assignments ++ p ∷ []) ≡ lits t.assignments ++ p.lit ∷ [] = map_push (λ (q : Assignment). q.lit) t.assignments p in
    let vars_are : map nat_abs (lits (t.assignments ++ p ∷ [])) ≡ map nat_abs (lits t.assignments) ++ nat_abs p.lit ∷ [] = ap (map nat_abs) lits_are ∙ map_push nat_abs (lits t.assignments) p.lit in
    let P : List ℤ → Type 0 = λ ls. All (IsLiteral t.vars) ls in
    let Q : List ℕ → Type 0 = λ ns. IsDistinct eqb ns in
    let R : ℕ → Type 0 = λ n. Climbs 0 (t.assignments ++ p ∷ []) n in
    let low = h.low_reached in
    record {
      few_vars = h.few_vars;
      in_range = subst P (sym lits_are) (All-push (IsLiteral t.vars) (lits t.assignments) p.lit h.in_range (record { not_zero = λ e. nz (ap nat_abs e); variable = within }));
      distinct = subst Q (sym vars_are) (IsDistinct-push nat_eq_equiv (map nat_abs (lits t.assignments)) (nat_abs p.lit) h.distinct (unset_touches (lits t.assignments) p.lit free));
      climbs = subst R (sym same) (Climbs-push 0 t.assignments t.level p h.climbs joins);
      low_reached = omega (arith, length_push t.assignments p);
    }

-- a trail that is kept so
abbrev pub Held : ℕ → ℕ → ℕ → ℕ → List Cause → List ℤ → List Value → List ℕ → Type 0
Held vars count level low causes all_lits values ends = IsKept (state_of vars count level low causes all_lits) count all_lits values causes ends

-- a literal can be put
pub record CanAssign (vars count : ℕ) (causes : List Cause) (all_lits : List ℤ) (l : ℤ) (v : ℕ) : Type 0 where
  pub var_is : v ≡ nat_abs l
  pub not_zero : v ≡ 0 → ⊥
  pub within : nat_abs l ≤ vars
  pub free : value_in (lits (map (assignment_from causes) (take count all_lits))) l ≡ Unset

pub held_count : (vars count level low : ℕ) (causes : List Cause) (all_lits : List ℤ) (values : List Value) (ends : List ℕ) → Held vars count level low causes all_lits values ends → length (map (assignment_from causes) (take count all_lits)) ≡ count
held_count vars count level low causes all_lits values ends h =
    let le : count ≤ length all_lits = (let room = h.lits_room in let number = h.number in omega arith) in
    length-map (take count all_lits) (assignment_from causes) ∙ length-take-le count all_lits le

pub level_le_count : (vars count level low : ℕ) (causes : List Cause) (all_lits : List ℤ) (values : List Value) (ends : List ℕ) → Held vars count level low causes all_lits values ends → level ≤ count
level_le_count vars count level low causes all_lits values ends h =
    let rises = Climbs-rises 0 (map (assignment_from causes) (take count all_lits)) level h.trail.climbs in
    let held = held_count vars count level low causes all_lits values ends h in
    omega arith

pub room_to_assignment : (vars count level low : ℕ) (causes : List Cause) (all_lits : List ℤ) (values : List Value) (ends : List ℕ) (l : ℤ) (v : ℕ) → Held vars count level low causes all_lits values ends → CanAssign vars count causes all_lits l v → count < vars
room_to_assignment vars count level low causes all_lits values ends l v h can =
    let held = held_count vars count level low causes all_lits values ends h in
    let room = free_room (state_of vars count level low causes all_lits) l h.trail can.within (λ e. can.not_zero (can.var_is ∙ e)) can.free in
    omega arith

pub assignments_assignment : (vars count level low : ℕ) (causes : List Cause) (all_lits : List ℤ) (values : List Value) (ends : List ℕ) (l : ℤ) (v : ℕ) (cause : Cause) → Held vars count level low causes all_lits values ends → CanAssign vars count causes all_lits l v → map (assignment_from (set causes v cause)) (take (count + 1) (set all_lits count l)) ≡ map (assignment_from causes) (take count all_lits) ++ assignment_with cause l ∷ []
assignments_assignment vars count level low causes all_lits values ends l v cause h can =
    let room = room_to_assignment vars count level low causes all_lits values ends l v h can in
    let count_lt : count < length all_lits = (let k = h.lits_room in omega arith) in
    let within = can.within in
    let var_lt : nat_abs l < length causes = (let k = h.causes_room in omega arith) in
    let untouched : touches (take count all_lits) l ≡ false = (let P : List ℤ → Type 0 = λ ls. touches ls l ≡ false in subst P (lits-assignments causes (take count all_lits)) (unset_touches (lits (map (assignment_from causes) (take count all_lits))) l can.free)) in
    ap (λ n. map (assignment_from (set causes n cause)) (take (count + 1) (set all_lits count l))) can.var_is ∙ assignments_push causes cause all_lits count l count_lt var_lt untouched

pub IsKept-assignment : (vars count level low level' : ℕ) (causes : List Cause) (all_lits : List ℤ) (values values' : List Value) (ends ends' : List ℕ) (l : ℤ) (v : ℕ) (cause : Cause) → Held vars count level low causes all_lits values ends → CanAssign vars count causes all_lits l v → Joins level cause.level (reason_of_cause cause) → level' ≡ cause.level → Ends count level level' ends ends' → Writes l True False values values' → Held vars (count + 1) level' low (set causes v cause) (set all_lits count l) values' ends'
IsKept-assignment vars count level low level' causes all_lits values values' ends ends' l v cause h can joins same ends_are writes =
    let ps = map (assignment_from causes) (take count all_lits) in
    let p = assignment_with cause l in
    let held = held_count vars count level low causes all_lits values ends h in
    let room = room_to_assignment vars count level low causes all_lits values ends l v h can in
    let P : List Assignment → Type 0 = λ qs. IsKept (record { vars = vars; assignments = qs; level = level'; low = low }) (count + 1) (set all_lits count l) values' (set causes v cause) ends' in
    let lits_are : lits (ps ++ p ∷ []) ≡ lits ps ++ l ∷ [] = map_push (λ (q : Assignment). q.lit) ps p in
    let Q : List ℤ → Type 0 = λ ls. AreValues vars ls values' in
    subst P (sym (assignments_assignment vars count level low causes all_lits values ends l v cause h can)) (record {
      lits_room = length-set all_lits count l ∙ h.lits_room;
      values_room = writes.len ∙ h.values_room;
      causes_room = length-set causes v cause ∙ h.causes_room;
      ends_room = ends_are.len ∙ h.ends_room;
      number = omega arith;
      values_agree = subst Q (sym lits_are) (AreValues-assignment vars (lits ps) l values values' can.free h.values_agree writes.each);
      ends_agree = ends_agree-assignment ps p count level level' ends ends' h.trail.climbs held joins same ends_are h.ends_agree;
      trail = IsTrail-assignment (state_of vars count level low causes all_lits) p level' h.trail can.within (λ e. can.not_zero (can.var_is ∙ e)) can.free joins same;
    })

pub view-assignment : (vars count level low level' : ℕ) (causes : List Cause) (all_lits : List ℤ) (values : List Value) (ends : List ℕ) (l : ℤ) (v : ℕ) (cause : Cause) (reason : Option ClauseId) → Held vars count level low causes all_lits values ends → CanAssign vars count causes all_lits l v → level' ≡ cause.level → reason_of_cause cause ≡ reason → state_of vars (count + 1) level' low (set causes v cause) (set all_lits count l) ≡ record { vars = vars; assignments = map (assignment_from causes) (take count all_lits) ++ record { lit = l; level = level'; reason = reason } ∷ []; level = level'; low = low }
view-assignment vars count level low level' causes all_lits values ends l v cause reason h can same is =
    let whole : List Assignment → TrailState = λ qs. record { vars = vars; assignments = qs; level = level'; low = low } in
    let one : ℕ → Option ClauseId → Assignment = λ n r. record { lit = l; level = n; reason = r } in
    let more : Assignment → TrailState = λ p. whole (map (assignment_from causes) (take count all_lits) ++ p ∷ []) in
    ap whole (assignments_assignment vars count level low causes all_lits values ends l v cause h can)
    ∙ ap (λ n. more (one n (reason_of_cause cause))) (sym same)
    ∙ ap (λ r. more (one level' r)) is

-- ---- a new trail

get_or-unset : (n k : ℕ) → get_or (replicate n Unset) k Unset ≡ Unset
get_or-unset n k =
    elim (cases_lt k n) [
      | inl lt ↦ get_or-replicate n k Unset Unset lt
      | inr le ↦ get_or_past (replicate n Unset) k Unset (let e = length-replicate n Unset in omega arith)
    ]

pub IsKept-new : (vars : ℕ) (causes : List Cause) (all_lits : List ℤ) (values : List Value) (ends : List ℕ) → vars ≤ 4000000 → length all_lits ≡ vars → values ≡ replicate (2 * vars + 2) Unset → length causes ≡ vars + 1 → length ends ≡ vars → IsKept (state_of vars 0 0 0 causes all_lits) 0 all_lits values causes ends
IsKept-new vars causes all_lits values ends few lits_are values_are causes_are ends_are =
    record {
      lits_room = lits_are;
      values_room = ap length values_are ∙ length-replicate (2 * vars + 2) Unset;
      causes_room = causes_are;
      ends_room = ends_are;
      number = omega arith;
      values_agree = λ l within. ap (λ vs. kept_value vs l) values_are ∙ get_or-unset (2 * vars + 2) (lit_index l);
      ends_agree = λ k lt. absurd (omega arith);
      trail = record {
        few_vars = few;
        in_range = λ k d lt. absurd (omega arith);
        distinct = IsDistinct-from_apart eqb [] (λ i j d lt lt2. absurd (omega arith));
        climbs = refl;
        low_reached = omega arith;
      };
    }

-- ---- back to a level

pub IsDistinct-take : (n : ℕ) (xs : List ℕ) → IsDistinct eqb xs → IsDistinct eqb (take n xs)
IsDistinct-take n xs h =
    IsDistinct-from_apart eqb (take n xs) (λ i j d lt below.
    let bound = length-take n xs in
    let i_lt : i < n = omega arith in
    let j_lt : j < n = omega arith in
    let j_in : j < length xs = omega arith in
    let P : ℕ → Type 0 = λ a. eqb a (get_or (take n xs) j d) ≡ false in
    let Q : ℕ → Type 0 = λ b. eqb (get_or xs i d) b ≡ false in
    subst P (sym (get_or-take n xs i d i_lt)) (subst Q (sym (get_or-take n xs j d j_lt)) (apart_from_distinct eqb xs i j d h lt j_in)))

pub IsTrail-cut : (t : TrailState) (level low : ℕ) → IsTrail t → level ≤ t.level → low ≤ length (upto level t.assignments) → IsTrail (record { vars = t.vars; assignments = upto level t.assignments; level = level; low = low })
IsTrail-cut t level low h le low_le =
    let n = length (upto level t.assignments) in
    let first : upto level t.assignments ≡ take n t.assignments = upto-take level 0 t.assignments t.level h.climbs in
    let lits_are : lits (upto level t.assignments) ≡ take n (lits t.assignments) = ap lits first ∙ sym (take-map (λ (q : Assignment). q.lit) n t.assignments) in
    let vars_are : map nat_abs (lits (upto level t.assignments)) ≡ take n (map nat_abs (lits t.assignments)) = ap (map nat_abs) lits_are ∙ sym (take-map nat_abs n (lits t.assignments)) in
    let P : List ℤ → Type 0 = λ ls. All (IsLiteral t.vars) ls in
    let Q : List ℕ → Type 0 = λ ns. IsDistinct eqb ns in
    record {
      few_vars = h.few_vars;
      in_range = subst P (sym lits_are) (All-take (IsLiteral t.vars) n (lits t.assignments) h.in_range);
      distinct = subst Q (sym vars_are) (IsDistinct-take n (map nat_abs (lits t.assignments)) h.distinct);
      climbs = Climbs-upto level 0 t.assignments t.level h.climbs (omega arith) le;
      low_reached = low_le;
    }

pub assignments_cut : (causes : List Cause) (all_lits : List ℤ) (count level end : ℕ) → Climbs 0 (map (assignment_from causes) (take count all_lits)) level → (k : ℕ) → end ≡ length (upto k (map (assignment_from causes) (take count all_lits))) → end ≤ count → map (assignment_from causes) (take end all_lits) ≡ upto k (map (assignment_from causes) (take count all_lits))
assignments_cut causes all_lits count level end climbs k is le =
    ap (map (assignment_from causes)) (sym (take-take end count all_lits le))
    ∙ sym (take-map (assignment_from causes) end (take count all_lits))
    ∙ ap (λ n. take n (map (assignment_from causes) (take count all_lits))) is
    ∙ sym (upto-take k 0 (map (assignment_from causes) (take count all_lits)) level climbs)

-- the place where a level ends
pub end_at : (vars count level low k end : ℕ) (causes : List Cause) (all_lits : List ℤ) (values : List Value) (ends : List ℕ) → Held vars count level low causes all_lits values ends → k < level → end ≡ get_or ends k end → (end ≡ length (upto k (map (assignment_from causes) (take count all_lits)))) × (end ≤ count)
end_at vars count level low k end causes all_lits values ends h lt is =
    let ps = map (assignment_from causes) (take count all_lits) in
    let held = held_count vars count level low causes all_lits values ends h in
    let few = level_le_count vars count level low causes all_lits values ends h in
    let within : k < length ends = (let room = h.ends_room in let number = h.number in omega arith) in
    let same : end ≡ length (upto k ps) = is ∙ get_or_default ends k end 0 within ∙ h.ends_agree k lt in
    let le = length-upto-le k ps in
    (same, omega arith)

pub range_is : (end count : ℕ) (all_lits : List ℤ) → end ≤ count → slice_range all_lits end count ≡ drop end (take count all_lits)
range_is end count all_lits le =
    let sum : end + (count - end) ≡ count = omega arith in
    sym (ap (λ n. drop end (take n all_lits)) (sym sum) ∙ drop-take end (count - end) all_lits)

pub removed_in_range : (vars count level low end : ℕ) (causes : List Cause) (all_lits : List ℤ) (values : List Value) (ends : List ℕ) → Held vars count level low causes all_lits values ends → All (λ l. 2 * nat_abs l + 1 < length values) (drop end (take count all_lits))
removed_in_range vars count level low end causes all_lits values ends h =
    let P : List ℤ → Type 0 = λ ls. All (IsLiteral vars) ls in
    let all = subst P (lits-assignments causes (take count all_lits)) h.trail.in_range in
    let room = h.values_room in
    All-drop (λ l. 2 * nat_abs l + 1 < length values) end (take count all_lits)
    (All-weaker (IsLiteral vars) (λ l. 2 * nat_abs l + 1 < length values) (λ l here. let le = here.variable in omega arith) (take count all_lits) all)

pub IsKept-cut : (vars count level low k end : ℕ) (causes : List Cause) (all_lits : List ℤ) (values values' : List Value) (ends : List ℕ) → Held vars count level low causes all_lits values ends → k < level → end ≡ get_or ends k end → length values' ≡ length values → ((x : ℤ) → kept_value values' x ≡ cond (touches (drop end (take count all_lits)) x) Unset (kept_value values x)) → Held vars end k (min low end) causes all_lits values' ends
IsKept-cut vars count level low k end causes all_lits values values' ends h lt is len writes =
    let ps = map (assignment_from causes) (take count all_lits) in
    let ended = end_at vars count level low k end causes all_lits values ends h lt is in
    let end_is = ended.0 in
    let end_le = ended.1 in
    let assignments_are : map (assignment_from causes) (take end all_lits) ≡ upto k ps = assignments_cut causes all_lits count level end h.trail.climbs k end_is end_le in
    let P : List Assignment → Type 0 = λ qs. IsKept (record { vars = vars; assignments = qs; level = k; low = min low end }) end all_lits values' causes ends in
    let all : take count all_lits ≡ take end (take count all_lits) ++ drop end (take count all_lits) = sym (take-append-drop end (take count all_lits)) in
    let kept : lits (upto k ps) ≡ take end (take count all_lits) = ap lits (sym assignments_are) ∙ lits-assignments causes (take end all_lits) ∙ sym (take-take end count all_lits end_le) in
    let Q : List ℤ → Type 0 = λ ls. AreValues vars ls values in
    let R : List ℤ → Type 0 = λ ls. AreValues vars ls values' in
    let S : List ℤ → Type 0 = λ ls. IsDistinct eqb (map nat_abs ls) in
    let joined : lits ps ≡ take end (take count all_lits) ++ drop end (take count all_lits) = lits-assignments causes (take count all_lits) ∙ all in
    let number = h.number in
    subst P (sym assignments_are) (record {
      lits_room = h.lits_room;
      values_room = len ∙ h.values_room;
      causes_room = h.causes_room;
      ends_room = h.ends_room;
      number = omega arith;
      values_agree = subst R (sym kept) (AreValues-cut vars (take end (take count all_lits)) (drop end (take count all_lits)) values values' (subst S joined h.trail.distinct) (subst Q joined h.values_agree) writes);
      ends_agree = λ j below. (let far : j < level = omega arith in let near : j ≤ k = omega arith in h.ends_agree j far ∙ ap length (sym (upto-upto j k ps near)));
      trail = IsTrail-cut (state_of vars count level low causes all_lits) k (min low end) h.trail (omega arith) (omega arith);
    })

pub view-cut : (vars count level low k end : ℕ) (causes : List Cause) (all_lits : List ℤ) (values : List Value) (ends : List ℕ) → Held vars count level low causes all_lits values ends → k < level → end ≡ get_or ends k end → state_of vars end k (min low end) causes all_lits ≡ record { vars = vars; assignments = upto k (map (assignment_from causes) (take count all_lits)); level = k; low = min low (length (upto k (map (assignment_from causes) (take count all_lits)))) }
view-cut vars count level low k end causes all_lits values ends h lt is =
    let ps = map (assignment_from causes) (take count all_lits) in
    let ended = end_at vars count level low k end causes all_lits values ends h lt is in
    let whole : List Assignment → ℕ → TrailState = λ qs n. record { vars = vars; assignments = qs; level = k; low = min low n } in
    ap (λ qs. whole qs end) (assignments_cut causes all_lits count level end h.trail.climbs k ended.0 ended.1) ∙ ap (whole (upto k ps)) ended.0

-- back to the present level
pub whole_upto : (t : TrailState) (level : ℕ) → IsTrail t → level ≡ t.level → t ≡ record { vars = t.vars; assignments = upto level t.assignments; level = level; low = min t.low (length (upto level t.assignments)) }
whole_upto t level h is =
    let same : upto level t.assignments ≡ t.assignments = upto-all level 0 t.assignments t.level h.climbs (omega arith) in
    let len : length (upto level t.assignments) ≡ length t.assignments = ap length same in
    let low_is : min t.low (length (upto level t.assignments)) ≡ t.low = (let le = h.low_reached in omega arith) in
    let made : List Assignment → ℕ → ℕ → TrailState = λ qs n low. record { vars = t.vars; assignments = qs; level = n; low = low } in
    sym
    (ap (λ qs. made qs level (min t.low (length (upto level t.assignments)))) same
    ∙ ap (λ n. made t.assignments n (min t.low (length (upto level t.assignments)))) is
    ∙ ap (made t.assignments t.level) low_is)

-- the variable of a literal that is kept
pub literal_in_range : (vars count level low : ℕ) (causes : List Cause) (all_lits : List ℤ) (values : List Value) (ends : List ℕ) (place : ℕ) (d : ℤ) → Held vars count level low causes all_lits values ends → place < count → nat_abs (get_or all_lits place d) < length causes
literal_in_range vars count level low causes all_lits values ends place d h lt =
    let P : List ℤ → Type 0 = λ ls. All (IsLiteral vars) ls in
    let all = subst P (lits-assignments causes (take count all_lits)) h.trail.in_range in
    let room = h.lits_room in
    let number = h.number in
    let wide : place < length (take count all_lits) = omega (arith, length-take count all_lits) in
    let here = All-get_or (IsLiteral vars) (take count all_lits) place d wide all in
    let Q : ℤ → Type 0 = λ l. nat_abs l < length causes in
    let le = here.variable in
    subst Q (get_or-take count all_lits place d lt) (let size = h.causes_room in omega arith)
