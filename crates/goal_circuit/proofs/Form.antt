-- The goal circuit is well formed.
use Rattle.std.proofs.Common.{◌≡◌, ◌≢◌, ℕ, ◌+◌, ◌*◌, ◌%◌, ◌^◌, ◌<◌, ◌≤◌, inl, inr, lit<, lit≤, Bool, true, false, ◌==◌, ◌||◌, if◌then◌else◌, List, [], ◌∷◌, ◌++◌, map, filter, drop, length, get_or, refl, sym, ap, ◌∙◌, subst, arith, All, AllPairs, Contains, length-append, append_assoc, add-one}
use Rattle.std.specs.List.{list_any}
use Rattle.std.proofs.Math.Nat.{pow-succ', pow-le-pow_right}
use Rattle.std.proofs.lemmas.Bool.{false≢true}
use Rattle.std.proofs.lemmas.Bool.Decides.{eqb_tells}
use Rattle.std.proofs.lemmas.List.Folds.{Any-from_list_any}
use Rattle.std.proofs.lemmas.List.Concat.{flat_map-append}
use Rattle.std.proofs.lemmas.List.{length-map, map-append, get_or_default}
use Rattle.std.proofs.lemmas.List.Elements.{All-nil, All-cons, All-append, All-head, All-tail, All-weaker, All-map, All-filter, filter_passes, All-contains, Contains-append_left, Contains-append_right}
use Rattle.std.proofs.lemmas.List.Kept.{AllPairs-cons, AllPairs-filter}
use Rattle.aig_model.specs.Literal.{var}
use Rattle.aig_model.specs.WellFormed.{IsCircuit, IsSized, IsDefining, IsInRange, IsKnown, IsOrdered, AreNames, IsName, Exists, defined, definers, uses, literals, left_sides, latch_lits, next_lits, gate_inputs, gate_literals, latch_literals, limit}
use Rattle.aig_model.specs.SignalList.{IsSignals}
use Rattle.aig_model.specs.declared.parts.AndGate.{AndGate}
use Rattle.aig_model.specs.declared.parts.Named.{Named}
use Rattle.aig_model.specs.declared.parts.Parts.{Parts}
use Rattle.aig_model.specs.declared.parts.Place.{Place}
use Rattle.aig_model.specs.declared.parts.Place.TheVariants as places
use Rattle.aig_model.proofs.Elements.{All-left, All-right}
use Rattle.aig_model.proofs.Building.{sections}
use Rattle.aig_model.proofs.DefinedVariables.{definers_within_top_lem}
use Rattle.goal_circuit.specs.GoalCircuit.{negation, standing_literal, first_level, goal_gates, goal_bads, goal_parts, is_kept, is_kept_place, new_gates, goal_literals}
use Rattle.goal_circuit.proofs.Appended as appended
use Rattle.goal_circuit.proofs.Appended.{IsUsable, AreAppended}
use Rattle.goal_circuit.proofs.LevelGates.{levels_appended, length-new_gates, length-goal_literals}

-- ---- the literals that stand for signals
any_contains : (xs : List ℕ) (x : ℕ) → list_any (λ v. v == x) xs ≡ true → Contains xs x
any_contains xs x found =
    let some = Any-from_list_any (λ v. v == x) xs found in
    let same : some.1 ≡ x = elim (eqb_tells some.1 x) [ inl e ↦ e.1 | inr e ↦ absurd (false≢true (sym e.0 ∙ some.4)) ] in
    (some.0, some.2, subst (λ y. get_or xs some.0 y ≡ y) same some.3)

pub known_by_test : (c : Parts) (lit : ℕ) → ((var lit == 0) || list_any (λ v. v == var lit) (defined c)) ≡ true → IsKnown c lit
known_by_test c lit test =
    elim (eqb_tells (var lit) 0) [
      | inl e ↦ inl e.1
      | inr e ↦ (let found : list_any (λ v. v == var lit) (defined c) ≡ true = rw e.0 at test in inr (any_contains (defined c) (var lit) found))
    ]

standing_by_test : (c : Parts) (lit : ℕ) (test : Bool) → ((var lit == 0) || list_any (λ v. v == var lit) (defined c)) ≡ test → IsInRange c.top lit
    → IsUsable c (c.top + 1) (if test then lit else lit % 2)
standing_by_test c lit true e range = inl (known_by_test c lit e, omega arith)
standing_by_test c lit false e range = inl (inl (omega arith), omega arith)

standing_usable : (c : Parts) (lit : ℕ) → IsInRange c.top lit → IsUsable c (c.top + 1) (standing_literal c lit)
standing_usable c lit range = standing_by_test c lit ((var lit == 0) || list_any (λ v. v == var lit) (defined c)) refl range

-- a literal and its negation have one variable
same_variable : (lit : ℕ) → var lit ≡ var (negation lit)
same_variable lit = omega arith

first_usable : (c : Parts) (lit : ℕ) → IsInRange c.top lit → All (IsUsable c (c.top + 1)) (first_level (standing_literal c lit))
first_usable c lit range =
    let signal = standing_literal c lit in
    let usable = standing_usable c lit range in
    let e : var signal ≡ var (negation signal) = same_variable signal in
    All-cons (IsUsable c (c.top + 1)) (negation signal) (signal ∷ []) (appended.usable_same c (c.top + 1) signal (negation signal) e usable)
    (All-cons (IsUsable c (c.top + 1)) signal [] usable (All-nil (IsUsable c (c.top + 1))))

-- ---- the gates and the bad literals
pub goals_appended : (c : Parts) (sig : List ℕ) → All (IsInRange c.top) sig
    → AreAppended c (c.top + 1) (goal_gates c sig) × All (IsUsable c (c.top + 1 + length (goal_gates c sig))) (goal_bads c sig)
goals_appended c [] range = (tt, All-nil (IsUsable c (c.top + 1 + 0)))
goals_appended c (s ∷ sig) range =
    levels_appended c (c.top + 1) (first_level (standing_literal c s)) (map (standing_literal c) sig) (omega arith)
    (first_usable c s (All-head (IsInRange c.top) s sig range))
    (All-map (IsUsable c (c.top + 1)) (standing_literal c) sig
    (All-weaker (IsInRange c.top) (λ lit. IsUsable c (c.top + 1) (standing_literal c lit)) (standing_usable c) sig (All-tail (IsInRange c.top) s sig range)))

pub length-goal_gates : (c : Parts) (sig : List ℕ) → 0 < length sig → length (goal_gates c sig) + 4 ≡ 2 * 2 ^ length sig
length-goal_gates c [] some = absurd (omega (arith, some))
length-goal_gates c (s ∷ sig) some =
    let rest = map (standing_literal c) sig in
    let size = length-new_gates 1 (c.top + 1) (first_level (standing_literal c s)) rest refl in
    let e : 1 + length rest ≡ length (s ∷ sig) = omega (arith, length-map sig (standing_literal c)) in
    omega (arith, subst (λ n. length (new_gates (c.top + 1) (first_level (standing_literal c s)) rest) + 2 * 2 ^ 1 ≡ 2 * 2 ^ n) e size)

pub length-goal_bads : (c : Parts) (sig : List ℕ) → 0 < length sig → length (goal_bads c sig) ≡ 2 ^ length sig
length-goal_bads c [] some = absurd (omega (arith, some))
length-goal_bads c (s ∷ sig) some =
    let rest = map (standing_literal c) sig in
    let e : 1 + length rest ≡ length (s ∷ sig) = omega (arith, length-map sig (standing_literal c)) in
    subst (λ n. length (goal_bads c (s ∷ sig)) ≡ 2 ^ n) e (length-goal_literals 1 (c.top + 1) (first_level (standing_literal c s)) rest refl)

-- ---- the variables that are defined
pub definers-goal : (c : Parts) (sig : List ℕ) → definers (goal_parts c sig) ≡ definers c ++ left_sides (goal_gates c sig)
definers-goal c sig =
    let new = left_sides (goal_gates c sig) in
    let sides : left_sides (c.gates ++ goal_gates c sig) ≡ left_sides c.gates ++ new = map-append (λ (g : AndGate). g.lhs) c.gates (goal_gates c sig) in
    ap (λ xs. c.inputs ++ (latch_lits c.latches ++ xs)) sides
    ∙ (ap (λ xs. c.inputs ++ xs) (sym (append_assoc (latch_lits c.latches) (left_sides c.gates) new))
    ∙ sym (append_assoc c.inputs (latch_lits c.latches ++ left_sides c.gates) new))

pub defined-goal : (c : Parts) (sig : List ℕ) → defined (goal_parts c sig) ≡ defined c ++ map var (left_sides (goal_gates c sig))
defined-goal c sig = ap (map var) (definers-goal c sig) ∙ map-append var (definers c) (left_sides (goal_gates c sig))

pub defined_below : (c : Parts) → IsCircuit c → (x : ℕ) → Contains (defined c) x → x ≤ c.top
defined_below c ok x h =
    let P : ℕ → Type 0 = λ v. v ≤ c.top in
    let all : All P (defined c) = All-map P var (definers c) (All-weaker (IsInRange c.top) (λ lit. var lit ≤ c.top) (λ lit range. omega arith) (definers c) (sections (IsInRange c.top) c ok.in_range).0) in
    All-contains P (defined c) x all h

AllPairs-append : (xs ys : List ℕ) → AllPairs (λ v w. v ≢ w) xs → AllPairs (λ v w. v ≢ w) ys → ((x : ℕ) → Contains xs x → ¬ Contains ys x)
    → AllPairs (λ v w. v ≢ w) (xs ++ ys)
AllPairs-append [] ys first second apart = second
AllPairs-append (x ∷ xs) ys first second apart =
    AllPairs-cons (λ v w. v ≢ w) x (xs ++ ys)
    (All-append (λ w. x ≢ w) xs ys
    (λ k d inside e. first 0 (k + 1) d (omega arith) (omega arith) (rw add-one e))
    (λ k d inside e. apart x (0, omega arith, refl) (k, inside, sym (e ∙ get_or_default ys k d x inside))))
    (AllPairs-append xs ys (λ i j d before inside. rw add-one at (rw add-one at (first (i + 1) (j + 1) d (omega arith) (omega arith)))) second
    (λ y h. apart y (h.0 + 1, omega (arith, h.1), rw add-one h.2)))

-- ---- names
exists_kept : (c : Parts) (sig : List ℕ) (place : Place) → is_kept_place place ≡ true → Exists c place → Exists (goal_parts c sig) place
exists_kept c sig (places.Input k) kept exists = exists
exists_kept c sig (places.Latch k) kept exists = exists
exists_kept c sig (places.Output k) kept exists = absurd (false≢true kept)
exists_kept c sig (places.Bad k) kept exists = absurd (false≢true kept)
exists_kept c sig (places.Constraint k) kept exists = exists

names_kept : (c : Parts) (sig : List ℕ) → AreNames c → AreNames (goal_parts c sig)
names_kept c sig names = record {
  exist = λ k d inside.
      exists_kept c sig (get_or (filter is_kept c.names) k d).place
      (filter_passes is_kept c.names k d inside)
      (All-filter is_kept (λ (n : Named). Exists c n.place) c.names names.exist k d inside);
  once = AllPairs-filter (λ (m n : Named). m.place ≢ n.place) is_kept c.names names.once;
  forms = All-filter is_kept (λ (n : Named). IsName n.name) c.names names.forms;
}

-- ---- the whole
known_more : (c : Parts) (sig : List ℕ) (lit : ℕ) → IsKnown c lit → IsKnown (goal_parts c sig) lit
known_more c sig lit known =
    elim known [
      | inl z ↦ inl z
      | inr h ↦ inr (subst (λ (xs : List ℕ). Contains xs (var lit)) (sym (defined-goal c sig)) (Contains-append_left (defined c) (map var (left_sides (goal_gates c sig))) (var lit) h))
    ]

usable_known : (c : Parts) (sig : List ℕ) (lit : ℕ) → AreAppended c (c.top + 1) (goal_gates c sig) → IsUsable c (c.top + 1 + length (goal_gates c sig)) lit
    → IsKnown (goal_parts c sig) lit
usable_known c sig lit new usable =
    elim usable [
      | inl k ↦ known_more c sig lit k.0
      | inr h ↦ inr (subst (λ (xs : List ℕ). Contains xs (var lit)) (sym (defined-goal c sig))
          (Contains-append_right (defined c) (map var (left_sides (goal_gates c sig))) (var lit)
          (appended.appended_contain c (c.top + 1) (goal_gates c sig) (var lit) new (omega (arith, h.0)) h.1)))
    ]

usable_in_range : (c : Parts) (last top lit : ℕ) → c.top ≤ top → last ≤ top + 1 → IsUsable c last lit → IsInRange top lit
usable_in_range c last top lit le end usable = elim usable [ inl k ↦ omega (arith, k.1) | inr h ↦ omega (arith, h.1) ]

-- a fact of every literal of the circuit's sections that stay, and of the new ones
all_literals : (c : Parts) (sig : List ℕ) (P : ℕ → Type 0) → All P (literals c) → All P (goal_bads c sig) → All P (gate_literals (goal_gates c sig))
    → All P (literals (goal_parts c sig))
all_literals c sig P all bads new =
    let after1 = latch_literals c.latches ++ (c.outputs ++ (c.bads ++ (c.constraints ++ gate_literals c.gates))) in
    let after2 = c.outputs ++ (c.bads ++ (c.constraints ++ gate_literals c.gates)) in
    let after3 = c.bads ++ (c.constraints ++ gate_literals c.gates) in
    let after4 = c.constraints ++ gate_literals c.gates in
    let rest1 : All P after1 = All-right P c.inputs after1 all in
    let rest2 : All P after2 = All-right P (latch_literals c.latches) after2 rest1 in
    let rest4 : All P after4 = All-right P c.bads after4 (All-right P c.outputs after3 rest2) in
    let gates : All P (gate_literals (c.gates ++ goal_gates c sig)) =
    subst (All P) (sym (flat_map-append (λ (g : AndGate). g.lhs ∷ g.left ∷ g.right ∷ []) c.gates (goal_gates c sig)))
    (All-append P (gate_literals c.gates) (gate_literals (goal_gates c sig)) (All-right P c.constraints (gate_literals c.gates) rest4) new)
    in
    let tail = c.constraints ++ gate_literals (c.gates ++ goal_gates c sig) in
    All-append P c.inputs (latch_literals c.latches ++ (goal_bads c sig ++ tail)) (All-left P c.inputs after1 all)
    (All-append P (latch_literals c.latches) (goal_bads c sig ++ tail) (All-left P (latch_literals c.latches) after2 rest1)
    (All-append P (goal_bads c sig) tail bads
    (All-append P c.constraints (gate_literals (c.gates ++ goal_gates c sig)) (All-left P c.constraints (gate_literals c.gates) rest4) gates)))

all_uses : (c : Parts) (sig : List ℕ) (P : ℕ → Type 0) → All P (uses c) → All P (goal_bads c sig) → All P (gate_inputs (goal_gates c sig))
    → All P (uses (goal_parts c sig))
all_uses c sig P all bads new =
    let after1 = c.outputs ++ (c.bads ++ (c.constraints ++ gate_inputs c.gates)) in
    let after2 = c.bads ++ (c.constraints ++ gate_inputs c.gates) in
    let after3 = c.constraints ++ gate_inputs c.gates in
    let rest3 : All P after3 = All-right P c.bads after3 (All-right P c.outputs after2 (All-right P (next_lits c.latches) after1 all)) in
    let gates : All P (gate_inputs (c.gates ++ goal_gates c sig)) =
    subst (All P) (sym (flat_map-append (λ (g : AndGate). g.left ∷ g.right ∷ []) c.gates (goal_gates c sig)))
    (All-append P (gate_inputs c.gates) (gate_inputs (goal_gates c sig)) (All-right P c.constraints (gate_inputs c.gates) rest3) new)
    in
    let tail = c.constraints ++ gate_inputs (c.gates ++ goal_gates c sig) in
    All-append P (next_lits c.latches) (goal_bads c sig ++ tail) (All-left P (next_lits c.latches) after1 all)
    (All-append P (goal_bads c sig) tail bads
    (All-append P c.constraints (gate_inputs (c.gates ++ goal_gates c sig)) (All-left P c.constraints (gate_inputs c.gates) rest3) gates))

goal_is_sized : (c : Parts) (sig : List ℕ) → IsCircuit c → IsSignals c sig → c.top + length (goal_gates c sig) ≤ limit → IsSized (goal_parts c sig)
goal_is_sized c sig ok signals few =
    let power : 2 ^ length sig ≤ 2 ^ 10 = pow-le-pow_right {n = 2} (lit< tt) signals.few in
    record {
      top = few;
      inputs = ok.sized.inputs;
      latches = ok.sized.latches;
      outputs = lit≤ tt;
      bads = omega (arith, length-goal_bads c sig signals.some, power);
      constraints = ok.sized.constraints;
      gates = omega (arith, length-append c.gates (goal_gates c sig), definers_within_top_lem c ok, few);
    }

goal_ordered : (c : Parts) (sig : List ℕ) → IsCircuit c → AreAppended c (c.top + 1) (goal_gates c sig) → IsOrdered (c.gates ++ goal_gates c sig)
goal_ordered c sig ok new =
    let P : ℕ → Type 0 = λ lit. var lit < c.top + 1 in
    let below : All P (uses c) = All-weaker (IsInRange c.top) P (λ lit range. omega arith) (uses c) (sections (IsInRange c.top) c ok.in_range).1 in
    let inputs : All P (gate_inputs c.gates) =
    All-right P c.constraints (gate_inputs c.gates) (All-right P c.bads (c.constraints ++ gate_inputs c.gates)
    (All-right P c.outputs (c.bads ++ (c.constraints ++ gate_inputs c.gates)) (All-right P (next_lits c.latches) (c.outputs ++ (c.bads ++ (c.constraints ++ gate_inputs c.gates))) below)))
    in
    appended.ordered_append c (c.top + 1) c.gates (goal_gates c sig) ok.ordered inputs
    (appended.appended_ordered c (c.top + 1) (goal_gates c sig) (omega arith) new)
    (λ x h. (appended.appended_within c (c.top + 1) (goal_gates c sig) x new h).0)

pub goal_is_circuit : (c : Parts) (sig : List ℕ) → IsCircuit c → IsSignals c sig → c.top + length (goal_gates c sig) ≤ limit → IsCircuit (goal_parts c sig)
goal_is_circuit c sig ok signals few =
    let new = goals_appended c sig signals.in_range in
    let gates = goal_gates c sig in
    let top = c.top + length gates in
    let wider : All (IsInRange top) (literals c) = All-weaker (IsInRange c.top) (IsInRange top) (λ lit range. omega arith) (literals c) ok.in_range in
    let last = c.top + 1 + length gates in
    record {
      sized = goal_is_sized c sig ok signals few;
      in_range = all_literals c sig (IsInRange top) wider
          (All-weaker (IsUsable c last) (IsInRange top) (λ lit usable. usable_in_range c last top lit (omega arith) (omega arith) usable) (goal_bads c sig) new.1)
          (appended.appended_in_range c (c.top + 1) top gates (omega arith) (omega arith) new.0);
      defining = subst (All IsDefining) (sym (definers-goal c sig))
          (All-append IsDefining (definers c) (left_sides gates) ok.defining (appended.appended_defining c (c.top + 1) gates (omega arith) new.0));
      once = subst (AllPairs (λ v w. v ≢ w)) (sym (defined-goal c sig))
          (AllPairs-append (defined c) (map var (left_sides gates)) ok.once
          (subst (AllPairs (λ v w. v ≢ w)) (sym (appended.vars-appended c (c.top + 1) gates new.0)) (appended.range_apart (c.top + 1) (length gates)))
          (λ x old late. omega (arith, defined_below c ok x old, (appended.appended_within c (c.top + 1) gates x new.0 late).0)));
      known = all_uses c sig (IsKnown (goal_parts c sig))
          (All-weaker (IsKnown c) (IsKnown (goal_parts c sig)) (known_more c sig) (uses c) ok.known)
          (All-weaker (IsUsable c last) (IsKnown (goal_parts c sig)) (λ lit usable. usable_known c sig lit new.0 usable) (goal_bads c sig) new.1)
          (All-weaker (IsUsable c last) (IsKnown (goal_parts c sig)) (λ lit usable. usable_known c sig lit new.0 usable) (gate_inputs gates)
          (appended.inputs_usable c (c.top + 1) last gates (omega arith) new.0));
      ordered = goal_ordered c sig ok new.0;
      names = names_kept c sig ok.names;
    }

-- ---- the first signal, and the others
pub goal_gates-read : (c : Parts) (sig : List ℕ) (s : ℕ) → 0 < length sig → s ≡ get_or (map (standing_literal c) sig) 0 s
    → goal_gates c sig ≡ new_gates (c.top + 1) (first_level s) (drop 1 (map (standing_literal c) sig))
goal_gates-read c [] s some at = absurd (omega (arith, some))
goal_gates-read c (x ∷ sig) s some at = ap (λ y. new_gates (c.top + 1) (first_level y) (map (standing_literal c) sig)) (sym at)

pub goal_bads-read : (c : Parts) (sig : List ℕ) (s : ℕ) → 0 < length sig → s ≡ get_or (map (standing_literal c) sig) 0 s
    → goal_bads c sig ≡ goal_literals (c.top + 1) (first_level s) (drop 1 (map (standing_literal c) sig))
goal_bads-read c [] s some at = absurd (omega (arith, some))
goal_bads-read c (x ∷ sig) s some at = ap (λ y. goal_literals (c.top + 1) (first_level y) (map (standing_literal c) sig)) (sym at)

-- ---- the greatest variable
pub power_bounds : (n : ℕ) → 0 < n → n ≤ 10 → (2 ≤ 2 ^ n) × (2 ^ n ≤ 1024)
power_bounds n some few =
    let one : 1 ≤ n = omega arith in
    let low : 2 ^ 1 ≤ 2 ^ n = pow-le-pow_right {n = 2} (lit< tt) one in
    let high : 2 ^ n ≤ 2 ^ 10 = pow-le-pow_right {n = 2} (lit< tt) few in
    (low, high)

pub power_more : (n : ℕ) → 2 ^ (n + 1) ≡ 2 * 2 ^ n
power_more n = ap (λ m. 2 ^ m) (add-one n) ∙ pow-succ' 2 n
