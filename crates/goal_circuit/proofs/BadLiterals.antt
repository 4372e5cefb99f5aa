-- A signal and the literal that stands for it have one value, so bad literals show the signals' goals.
use Rattle.std.proofs.Common.{◌≡◌, ℕ, ◌+◌, ◌*◌, ◌%◌, ◌^◌, ◌<◌, inl, inr, Bool, true, false, not, ◌||◌, ◌==◌, nat_eq, if◌then◌else◌, List, [], ◌∷◌, map, length, get_or, refl, sym, ap, ◌∙◌, subst, arith, All, Contains, IsTrue}
use Rattle.std.specs.List.{list_any}
use Rattle.std.proofs.lemmas.Bool.{false≢true}
use Rattle.std.proofs.lemmas.Bool.Decides.{eqb_tells}
use Rattle.std.proofs.lemmas.List.{length-map}
use Rattle.std.proofs.lemmas.List.Folds.{list_any-from_Any}
use Rattle.std.proofs.lemmas.List.Elements.{All-head, All-tail, Contains-append_cases}
use Rattle.aig_model.specs.Literal.{var, value_of, number}
use Rattle.aig_model.specs.WellFormed.{IsInRange, defined, left_sides}
use Rattle.aig_model.specs.SignalList.{IsSignals}
use Rattle.aig_model.specs.Meaning.{Assignment, Fits, IsConjunction, goal_of}
use Rattle.aig_model.specs.declared.parts.Parts.{Parts}
use Rattle.aig_model.proofs.Elements.{All-right}
use Rattle.goal_circuit.specs.GoalCircuit.{standing_literal, first_level, goal_gates, goal_bads, goal_parts}
use Rattle.goal_circuit.proofs.Appended.{AreAppended, appended_within}
use Rattle.goal_circuit.proofs.Form.{goals_appended, defined-goal}
use Rattle.goal_circuit.proofs.Values.{value_by, IsTable, first_table, goals_table}

or-true : (b : Bool) → (b || true) ≡ true
or-true true = refl
or-true false = refl

contained_any : (xs : List ℕ) (x : ℕ) → Contains xs x → list_any (λ v. v == x) xs ≡ true
contained_any xs x h =
    let same : (x == x) ≡ true = elim (eqb_tells x x) [ inl e ↦ e.0 | inr e ↦ absurd (e.1 refl) ] in
    list_any-from_Any (λ v. v == x) xs (h.0, x, h.1, h.2, same)

-- where nothing defines the variable, and it is one of the circuit's, its value is false
undefined_value : (c : Parts) (sig : List ℕ) (a : Assignment) (lit : ℕ) → AreAppended c (c.top + 1) (goal_gates c sig) → Fits (goal_parts c sig) a
    → IsInRange c.top lit → ((var lit == 0) || list_any (λ v. v == var lit) (defined c)) ≡ false → get_or a (var lit) false ≡ false
undefined_value c sig a lit new fits range test =
    fits.undefined (var lit) (λ h. elim (Contains-append_cases (defined c) (map var (left_sides (goal_gates c sig))) (var lit) (subst (λ (xs : List ℕ). Contains xs (var lit)) (defined-goal c sig) h)) [
      | inl old ↦ false≢true (sym test ∙ (ap (λ b. (var lit == 0) || b) (contained_any (defined c) (var lit) old) ∙ or-true (var lit == 0)))
      | inr late ↦ omega (arith, (appended_within c (c.top + 1) (goal_gates c sig) (var lit) new late).0)
    ])

standing_by_test : (c : Parts) (sig : List ℕ) (a : Assignment) (lit : ℕ) (test : Bool) → AreAppended c (c.top + 1) (goal_gates c sig) → Fits (goal_parts c sig) a
    → IsInRange c.top lit → ((var lit == 0) || list_any (λ v. v == var lit) (defined c)) ≡ test → value_of a (if test then lit else lit % 2) ≡ value_of a lit
standing_by_test c sig a lit true new fits range e = refl
standing_by_test c sig a lit false new fits range e =
    value_by a (lit % 2) 0 (lit % 2) (omega arith) (omega arith)
    ∙ ap (λ b. if nat_eq (lit % 2) 1 then not b else b) (fits.constant ∙ sym (undefined_value c sig a lit new fits range e))

standing_value : (c : Parts) (sig : List ℕ) (a : Assignment) (lit : ℕ) → AreAppended c (c.top + 1) (goal_gates c sig) → Fits (goal_parts c sig) a → IsInRange c.top lit
    → value_of a (standing_literal c lit) ≡ value_of a lit
standing_value c sig a lit new fits range = standing_by_test c sig a lit ((var lit == 0) || list_any (λ v. v == var lit) (defined c)) new fits range refl

goal_of-standing : (c : Parts) (sig : List ℕ) (a : Assignment) (lits : List ℕ) → AreAppended c (c.top + 1) (goal_gates c sig) → Fits (goal_parts c sig) a
    → All (IsInRange c.top) lits → goal_of (map (standing_literal c) lits) a ≡ goal_of lits a
goal_of-standing c sig a [] new fits range = refl
goal_of-standing c sig a (lit ∷ lits) new fits range =
    ap (λ v. number v + 2 * goal_of (map (standing_literal c) lits) a) (standing_value c sig a lit new fits (All-head (IsInRange c.top) lit lits range))
    ∙ ap (λ n. number (value_of a lit) + 2 * n) (goal_of-standing c sig a lits new fits (All-tail (IsInRange c.top) lit lits range))

bads_table : (c : Parts) (sig : List ℕ) (a : Assignment) → 0 < length sig → All (IsConjunction a) (goal_gates c sig)
    → IsTable a (map (standing_literal c) sig) (goal_bads c sig)
bads_table c [] a some solved = absurd (omega (arith, some))
bads_table c (s ∷ sig) a some solved =
    let signal = standing_literal c s in
    goals_table a (c.top + 1) (signal ∷ []) (first_level signal) (map (standing_literal c) sig) (first_table a signal) solved

bad_value : (c : Parts) (sig : List ℕ) (a : Assignment) (goal : ℕ) → IsSignals c sig → Fits (goal_parts c sig) a → goal < 2 ^ length sig
    → value_of a (get_or (goal_bads c sig) goal 0) ≡ (goal == goal_of sig a)
bad_value c sig a goal signals fits below =
    let new = goals_appended c sig signals.in_range in
    let table = bads_table c sig a signals.some (All-right (IsConjunction a) c.gates (goal_gates c sig) fits.gates) in
    let inside : goal < 2 ^ length (map (standing_literal c) sig) = subst (λ n. goal < 2 ^ n) (sym (length-map sig (standing_literal c))) below in
    table.values goal inside ∙ ap (λ n. goal == n) (goal_of-standing c sig a sig new.0 fits signals.in_range)

pub bad_is_goal : (c : Parts) (sig : List ℕ) (a : Assignment) (goal : ℕ) → IsSignals c sig → Fits (goal_parts c sig) a → goal < 2 ^ length sig
    → (IsTrue (value_of a (get_or (goal_bads c sig) goal 0)) → goal_of sig a ≡ goal) × (goal_of sig a ≡ goal → IsTrue (value_of a (get_or (goal_bads c sig) goal 0)))
bad_is_goal c sig a goal signals fits below =
    let value = bad_value c sig a goal signals fits below in (
      λ shown. elim (eqb_tells goal (goal_of sig a)) [ inl e ↦ sym e.1 | inr e ↦ absurd (false≢true (sym e.0 ∙ (sym value ∙ shown))) ],
      λ same. value ∙ elim (eqb_tells goal (goal_of sig a)) [ inl e ↦ e.0 | inr e ↦ absurd (e.1 (sym same)) ],
    )
