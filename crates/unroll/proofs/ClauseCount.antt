-- How many clauses the formulas have, at most.
use Rattle.std.proofs.Common.{◌≡◌, ℕ, zero, suc, ◌+◌, ◌*◌, ◌/◌, ◌^◌, ◌<◌, ◌≤◌, ◌==◌, inl, inr, Bool, true, false, not, cond, ℤ, neg_ℤ, List, [], ◌∷◌, ◌++◌, map, filter, length, get_or, refl, ap, ◌∙◌, arith, All, length-append}
use Rattle.std.specs.List.{flat_map, list_any, range_with_len, zip}
use Rattle.std.proofs.lemmas.Bool.{cases_lt}
use Rattle.std.proofs.lemmas.Nat.{pow_below}
use Rattle.std.proofs.lemmas.List.{length-map}
use Rattle.std.proofs.lemmas.List.FromFn.{length-range_with_len}
use Rattle.std.specs.List.Sorted.{IsStrictlyIncreasing}
use Rattle.aig_model.specs.WellFormed.{IsCircuit, latch_lits, next_lits, defined}
use Rattle.aig_model.specs.declared.parts.AndGate.{AndGate}
use Rattle.aig_model.specs.declared.parts.Latch.{Latch}
use Rattle.aig_model.specs.declared.parts.Parts.{Parts}
use Rattle.aig_model.specs.declared.parts.Reset.{Reset}
use Rattle.aig_model.specs.declared.parts.Reset.TheVariants.{Zero, One, Free}
use Rattle.unroll.specs.declared.start.Start.{Start}
use Rattle.unroll.specs.declared.start.Start.TheVariants as starts
use Rattle.unroll.specs.Frames.{var_after, lit_after, with_value, vars_before, undefined_vars, false_clauses, true_clauses, gate_clauses, step_clauses, reset_clauses, next_clauses, entry_clauses, frame_clauses, frames_clauses, unit_clauses}
use Rattle.unroll.specs.Queries.{goal_lits, blocking_clause, latch_lit, latch_clause}
use Rattle.unroll.specs.Laws.{FewToSearch, FewToKeep, FewToExclude}

-- ---- lists
flat_length : {X : Type 0} (f : X → List (List ℤ)) (n : ℕ) (xs : List X) → ((x : X) → length (f x) ≤ n) → length (flat_map f xs) ≤ n * length xs
flat_length f n [] each = omega arith
flat_length f n (x ∷ xs) each = omega (arith, length-append (f x) (flat_map f xs), each x, flat_length f n xs each)

longer : (b : Bool) (x : ℕ) (ys : List ℕ) (n : ℕ) → length ys ≤ n → length (cond b (x ∷ ys) ys) ≤ suc n
longer true x ys n h = omega arith
longer false x ys n h = omega arith

filter_length : (p : ℕ → Bool) (xs : List ℕ) → length (filter p xs) ≤ length xs
filter_length p [] = omega arith
filter_length p (x ∷ xs) = longer (p x) x (filter p xs) (length xs) (filter_length p xs)

zip_length : (lits : List ℕ) (given : List Bool) → length (zip lits given) ≤ length lits
zip_length [] given = omega arith
zip_length (l ∷ lits) [] = omega arith
zip_length (l ∷ lits) (b ∷ given) = omega (arith, zip_length lits given)

unit_length : (lits : List ℤ) → length (unit_clauses lits) ≡ length lits
unit_length lits = length-map lits (λ lit. lit ∷ [])

-- ---- one frame
undefined_length : (c : Parts) → length (undefined_vars c) ≤ c.top
undefined_length c =
    omega (arith, filter_length (λ v. not (list_any (λ w. w == v) (defined c))) (range_with_len 1 c.top), length-range_with_len 1 c.top)

false_length : (before : ℕ) (vars : List ℕ) → length (false_clauses before vars) ≡ length vars
false_length before vars = unit_length (map (λ v. neg_ℤ (var_after before v)) vars) ∙ length-map vars (λ v. neg_ℤ (var_after before v))

true_length : (before : ℕ) (lits : List ℕ) → length (true_clauses before lits) ≡ length lits
true_length before lits = unit_length (map (lit_after before) lits) ∙ length-map lits (lit_after before)

step_length : (c : Parts) (before : ℕ) → length (step_clauses c before) ≤ 1 + c.top + 3 * length c.gates + length c.constraints
step_length c before =
    let first = false_clauses before (0 ∷ undefined_vars c) in
    let second = flat_map (gate_clauses before) c.gates in
    let third = true_clauses before c.constraints in
    omega (
      arith,
      length-append (first ++ second) third,
      length-append first second,
      false_length before (0 ∷ undefined_vars c),
      undefined_length c,
      flat_length (gate_clauses before) 3 c.gates (λ (g : AndGate). omega arith),
      true_length before c.constraints,
    )

reset_length : (lit : ℕ) (r : Reset) → length (reset_clauses lit r) ≤ 1
reset_length lit Zero = omega arith
reset_length lit One = omega arith
reset_length lit Free = omega arith

start_length : (c : Parts) (start : Start) → length (entry_clauses c start 0) ≤ 2 * length c.latches
start_length c starts.Any = omega arith
start_length c starts.Reset =
    omega (arith, flat_length (λ (l : Latch). reset_clauses l.lit l.reset) 1 c.latches (λ (l : Latch). reset_length l.lit l.reset))
start_length c (starts.State given) =
    let pairs = zip (latch_lits c.latches) given in
    let lit_of : ℕ × Bool → ℤ = λ (p : ℕ × Bool). with_value (lit_after 0 p.0) p.1 in
    omega (
      arith,
      unit_length (map lit_of pairs),
      length-map pairs lit_of,
      zip_length (latch_lits c.latches) given,
      length-map c.latches (λ (l : Latch). l.lit),
    )

entry_length : (c : Parts) (start : Start) (t : ℕ) → length (entry_clauses c start t) ≤ 2 * length c.latches
entry_length c start zero = start_length c start
entry_length c start (suc t) = flat_length (next_clauses (vars_before c t) (vars_before c (suc t))) 2 c.latches (λ (l : Latch). omega arith)

frame_length : (c : Parts) (start : Start) (t : ℕ) → IsCircuit c → length (frame_clauses c start t) ≤ 32000000
frame_length c start t ok =
    omega (
      arith,
      length-append (step_clauses c (vars_before c t)) (entry_clauses c start t),
      step_length c (vars_before c t),
      entry_length c start t,
      ok.sized.top,
      ok.sized.gates,
      ok.sized.constraints,
      ok.sized.latches,
    )

frames_length : (c : Parts) (start : Start) (last : ℕ) → IsCircuit c → length (frames_clauses c start last) ≤ 32000000 * (last + 1)
frames_length c start last ok =
    omega (
      arith,
      flat_length (frame_clauses c start) 32000000 (range_with_len 0 (last + 1)) (λ t. frame_length c start t ok),
      length-range_with_len 0 (last + 1),
    )

-- ---- goals in rising order
at_least : (goals : List ℕ) (k : ℕ) → IsStrictlyIncreasing goals → k < length goals → k ≤ get_or goals k 0
at_least goals zero rising h = omega arith
at_least goals (suc k) rising h =
    let before = at_least goals k rising (omega arith) in
    let one : k + 1 ≡ suc k = omega arith in
    let next = rising k (omega arith) in
    omega (arith, before, ap (λ n. get_or goals n 0) one, next)

few_goals : (goals : List ℕ) (n : ℕ) → IsStrictlyIncreasing goals → All (λ goal. goal < n) goals → length goals ≤ n
few_goals [] n rising below = omega arith
few_goals (g ∷ goals) n rising below =
    let last = at_least (g ∷ goals) (length goals) rising (omega arith) in omega (arith, last, below (length goals) 0 (omega arith))

two_power : (n : ℕ) → n ≤ 10 → 2 ^ n ≤ 2 ^ 10
two_power n h =
    elim (cases_lt n 10) [
      | inl less ↦ omega (arith, pow_below n 10 less)
      | inr more ↦ (let e : n ≡ 10 = omega arith in omega (arith, ap (λ k. 2 ^ k) e))
    ]

few_steps : (c : Parts) (last : ℕ) → vars_before c (last + 1) ≤ 4000000 → last + 1 ≤ 4000000
few_steps c last h = omega arith

pub few_to_search_lem : FewToSearch
few_to_search_lem c sig start step blocked ok are few rising below =
    omega (
      arith,
      length-append (frames_clauses c start step) (map (blocking_clause (vars_before c step) sig) blocked),
      frames_length c start step ok,
      few_steps c step few,
      length-map blocked (blocking_clause (vars_before c step) sig),
      few_goals blocked (2 ^ length sig) rising below,
      two_power (length sig) are.few,
    )

-- ---- certificates
goal_length : (before : ℕ) (sig : List ℕ) (goal : ℕ) → length (goal_lits before sig goal) ≡ length sig
goal_length before [] goal = refl
goal_length before (lit ∷ sig) goal = omega (arith, goal_length before sig (goal / 2))

pub few_to_keep_lem : FewToKeep
few_to_keep_lem c clauses place ok few short =
    let clause = get_or clauses place [] in
    let after = latch_clause (next_lits c.latches) clause in
    let held = map (latch_clause (latch_lits c.latches)) clauses in
    let frames = frames_clauses c starts.Any 0 in
    omega (
      arith,
      length-append (frames ++ held) (unit_clauses (map neg_ℤ after)),
      length-append frames held,
      frames_length c starts.Any 0 ok,
      length-map clauses (latch_clause (latch_lits c.latches)),
      unit_length (map neg_ℤ after),
      length-map after neg_ℤ,
      length-map clause (latch_lit (next_lits c.latches)),
    )

pub few_to_exclude_lem : FewToExclude
few_to_exclude_lem c sig clauses goal ok are few =
    let held = map (latch_clause (latch_lits c.latches)) clauses in
    let frames = frames_clauses c starts.Any 0 in
    omega (
      arith,
      length-append (frames ++ held) (unit_clauses (goal_lits 0 sig goal)),
      length-append frames held,
      frames_length c starts.Any 0 ok,
      length-map clauses (latch_clause (latch_lits c.latches)),
      unit_length (goal_lits 0 sig goal),
      goal_length 0 sig goal,
      are.few,
    )
