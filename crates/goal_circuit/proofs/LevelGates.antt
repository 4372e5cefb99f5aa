-- The gates of the levels: how many they are, and that each is of literals that are there before it.
use Rattle.std.proofs.Common.{◌≡◌, ℕ, suc, ◌+◌, ◌*◌, ◌^◌, ◌<◌, List, [], ◌∷◌, ◌++◌, take, drop, length, get_or, refl, sym, ap, ◌∙◌, subst, arith, All, length-append, append_assoc}
use Rattle.std.proofs.Math.Nat.{pow-succ'}
use Rattle.std.proofs.lemmas.List.{length-map, length-take-le, drop_more}
use Rattle.std.proofs.lemmas.List.Elements.{All-head, All-tail}
use Rattle.aig_model.specs.Literal.{var}
use Rattle.aig_model.specs.WellFormed.{left_sides}
use Rattle.aig_model.specs.declared.parts.AndGate.{AndGate}
use Rattle.aig_model.specs.declared.parts.Parts.{Parts}
use Rattle.aig_model.proofs.Elements.{items_next}
use Rattle.goal_circuit.specs.GoalCircuit.{negation, conjunctions, level_gates, new_gates, goal_literals}
use Rattle.goal_circuit.proofs.Appended.{IsUsable, AreAppended, usable_later, usable_same, all_later, appended_append, sides_usable}

-- ---- how many they are
pub length-conjunctions : (first : ℕ) (lits : List ℕ) (right : ℕ) → length (conjunctions first lits right) ≡ length lits
length-conjunctions first [] right = refl
length-conjunctions first (l ∷ lits) right = omega (arith, length-conjunctions (first + 1) lits right)

pub length-level : (first : ℕ) (level : List ℕ) (signal : ℕ) → length (level_gates first level signal) ≡ 2 * length level
length-level first level signal =
    omega (
      arith,
      length-append (conjunctions first level (negation signal)) (conjunctions (first + length level) level signal),
      length-conjunctions first level (negation signal),
      length-conjunctions (first + length level) level signal,
    )

pub length-sides : (first : ℕ) (level : List ℕ) (signal : ℕ) → length (left_sides (level_gates first level signal)) ≡ 2 * length level
length-sides first level signal = length-map (level_gates first level signal) (λ (g : AndGate). g.lhs) ∙ length-level first level signal

-- from a level of 2 ^ m literals on
pub length-new_gates : (m first : ℕ) (level signals : List ℕ) → length level ≡ 2 ^ m
    → length (new_gates first level signals) + 2 * 2 ^ m ≡ 2 * 2 ^ (m + length signals)
length-new_gates m first level [] size = let e : m + 0 ≡ m = omega arith in rw e (omega arith)
length-new_gates m first level (s ∷ signals) size =
    let next = left_sides (level_gates first level s) in
    let double : length next ≡ 2 ^ suc m = length-sides first level s ∙ (ap (λ n. 2 * n) size ∙ sym (pow-succ' 2 m)) in
    let rest = length-new_gates (suc m) (first + 2 * length level) next signals double in
    let e : suc m + length signals ≡ m + length (s ∷ signals) = omega arith in
    omega (
      arith,
      size,
      length-append (level_gates first level s) (new_gates (first + 2 * length level) next signals),
      length-level first level s,
      subst (λ n. length (new_gates (first + 2 * length level) next signals) + 2 * 2 ^ suc m ≡ 2 * 2 ^ n) e rest,
      pow-succ' 2 m,
    )

pub length-goal_literals : (m first : ℕ) (level signals : List ℕ) → length level ≡ 2 ^ m
    → length (goal_literals first level signals) ≡ 2 ^ (m + length signals)
length-goal_literals m first level [] size = let e : m + 0 ≡ m = omega arith in rw e size
length-goal_literals m first level (s ∷ signals) size =
    let next = left_sides (level_gates first level s) in
    let double : length next ≡ 2 ^ suc m = length-sides first level s ∙ (ap (λ n. 2 * n) size ∙ sym (pow-succ' 2 m)) in
    let e : suc m + length signals ≡ m + length (s ∷ signals) = omega arith in
    subst (λ n. length (goal_literals (first + 2 * length level) next signals) ≡ 2 ^ n) e
    (length-goal_literals (suc m) (first + 2 * length level) next signals double)

-- ---- each is of literals that are there before it
pub conjunctions_appended : (c : Parts) (v : ℕ) (lits : List ℕ) (right : ℕ) → All (IsUsable c v) lits → IsUsable c v right → AreAppended c v (conjunctions v lits right)
conjunctions_appended c v [] right all usable = tt
conjunctions_appended c v (l ∷ lits) right all usable = (
  refl,
  All-head (IsUsable c v) l lits all,
  usable,
  conjunctions_appended c (v + 1) lits right (all_later c v (v + 1) lits (omega arith) (All-tail (IsUsable c v) l lits all)) (usable_later c v (v + 1) right (omega arith) usable),
)

pub level_appended : (c : Parts) (v : ℕ) (level : List ℕ) (signal : ℕ) → All (IsUsable c v) level → IsUsable c v signal → AreAppended c v (level_gates v level signal)
level_appended c v level signal all usable =
    let w = v + length level in
    let size : v + length level ≡ v + length (conjunctions v level (negation signal)) = ap (λ n. v + n) (sym (length-conjunctions v level (negation signal))) in
    let e : var signal ≡ var (negation signal) = omega arith in
    appended_append c v (conjunctions v level (negation signal)) (conjunctions w level signal)
    (conjunctions_appended c v level (negation signal) all (usable_same c v signal (negation signal) e usable))
    (subst (λ n. AreAppended c n (conjunctions w level signal)) size
    (conjunctions_appended c w level signal (all_later c v w level (omega arith) all) (usable_later c v w signal (omega arith) usable)))

-- of the literals of a level and of further signals: the gates, and the literals of the last level
pub levels_appended : (c : Parts) (v : ℕ) (level signals : List ℕ) → c.top < v → All (IsUsable c v) level → All (IsUsable c v) signals
    → AreAppended c v (new_gates v level signals) × All (IsUsable c (v + length (new_gates v level signals))) (goal_literals v level signals)
levels_appended c v level [] above all usable =
    let e : v ≡ v + 0 = omega arith in (tt, subst (λ w. All (IsUsable c w) level) e all)
levels_appended c v level (s ∷ signals) above all usable =
    let gates = level_gates v level s in
    let next = left_sides gates in
    let w = v + 2 * length level in
    let here : AreAppended c v gates = level_appended c v level s all (All-head (IsUsable c v) s signals usable) in
    let size : v + length gates ≡ w = ap (λ n. v + n) (length-level v level s) in
    let sides : All (IsUsable c w) next = subst (λ n. All (IsUsable c n) next) size (sides_usable c v gates above here) in
    let rest = levels_appended c w next signals (omega arith) sides (all_later c v w signals (omega arith) (All-tail (IsUsable c v) s signals usable)) in
    let more = new_gates w next signals in
    let total : w + length more ≡ v + length (gates ++ more) = omega (arith, length-append gates more, size) in (
      appended_append c v gates more here (subst (λ n. AreAppended c n more) (sym size) rest.0),
      subst (λ n. All (IsUsable c n) (goal_literals w next signals)) total rest.1,
    )

-- ---- one gate more
conjunctions-push : (first : ℕ) (lits : List ℕ) (l right : ℕ)
    → conjunctions first (lits ++ l ∷ []) right ≡ conjunctions first lits right ++ (record { lhs = 2 * (first + length lits); left = l; right = right }) ∷ []
conjunctions-push first [] l right =
    let e : first ≡ first + 0 = omega arith in
    ap (λ n. (record { lhs = 2 * n; left = l; right = right }) ∷ []) e
conjunctions-push first (x ∷ lits) l right =
    let g : AndGate = record { lhs = 2 * first; left = x; right = right } in
    let e : first + 1 + length lits ≡ first + length (x ∷ lits) = omega arith in
    ap (λ (gates : List AndGate). g ∷ gates)
    (conjunctions-push (first + 1) lits l right
    ∙ ap (λ n. conjunctions (first + 1) lits right ++ (record { lhs = 2 * n; left = l; right = right }) ∷ []) e)

pub conjunctions_more : (first : ℕ) (lits : List ℕ) (i l right : ℕ) → i < length lits → l ≡ get_or lits i l
    → conjunctions first (take (i + 1) lits) right ≡ conjunctions first (take i lits) right ++ (record { lhs = 2 * (first + i); left = l; right = right }) ∷ []
conjunctions_more first lits i l right inside at =
    let e : length (take i lits) ≡ i = length-take-le i lits (omega arith) in
    ap (λ xs. conjunctions first xs right) (items_next lits i l inside at)
    ∙ (conjunctions-push first (take i lits) l right
    ∙ ap (λ n. conjunctions first (take i lits) right ++ (record { lhs = 2 * (first + n); left = l; right = right }) ∷ []) e)

-- ---- one level more
pub new_gates-drop : (first : ℕ) (level signals : List ℕ) (i s : ℕ) → i < length signals → s ≡ get_or signals i s
    → new_gates first level (drop i signals) ≡ level_gates first level s ++ new_gates (first + 2 * length level) (left_sides (level_gates first level s)) (drop (i + 1) signals)
new_gates-drop first level signals i s inside at = ap (new_gates first level) (drop_more signals i s inside ∙ ap (λ x. x ∷ drop (i + 1) signals) (sym at))

pub goal_literals-drop : (first : ℕ) (level signals : List ℕ) (i s : ℕ) → i < length signals → s ≡ get_or signals i s
    → goal_literals first level (drop i signals) ≡ goal_literals (first + 2 * length level) (left_sides (level_gates first level s)) (drop (i + 1) signals)
goal_literals-drop first level signals i s inside at = ap (goal_literals first level) (drop_more signals i s inside ∙ ap (λ x. x ∷ drop (i + 1) signals) (sym at))

pub length-new_gates-drop : (first : ℕ) (level signals : List ℕ) (i s : ℕ) → i < length signals → s ≡ get_or signals i s
    → length (new_gates first level (drop i signals)) ≡ 2 * length level + length (new_gates (first + 2 * length level) (left_sides (level_gates first level s)) (drop (i + 1) signals))
length-new_gates-drop first level signals i s inside at =
    let next = left_sides (level_gates first level s) in
    ap length (new_gates-drop first level signals i s inside at)
    ∙ (length-append (level_gates first level s) (new_gates (first + 2 * length level) next (drop (i + 1) signals))
    ∙ ap (λ n. n + length (new_gates (first + 2 * length level) next (drop (i + 1) signals))) (length-level first level s))

-- what a loop over signals keeps: the gates and the last level are those of all signals, and the variables fit
pub record IsLevel (start whole : List AndGate) (goals : List ℕ) (first : ℕ) (level rest : List ℕ) : Type 0 where
  pub gates : start ++ new_gates first level rest ≡ whole
  pub literals : goal_literals first level rest ≡ goals
  pub room : 2 * (first + length (new_gates first level rest)) < 2 ^ 32

pub next_level : (start later whole : List AndGate) (goals : List ℕ) (first : ℕ) (level next signals : List ℕ) (i s : ℕ) → i < length signals
    → s ≡ get_or signals i s → IsLevel start whole goals first level (drop i signals) → later ≡ start ++ level_gates first level s
    → next ≡ left_sides (level_gates first level s) → IsLevel later whole goals (first + length next) next (drop (i + 1) signals)
next_level start later whole goals first level next signals i s inside at held pushed sides =
    let after = first + 2 * length level in
    let last = left_sides (level_gates first level s) in
    let rest = drop (i + 1) signals in
    let e : after ≡ first + length next = omega (arith, ap length sides, length-sides first level s) in
    let here : IsLevel (start ++ level_gates first level s) whole goals after last rest = record {
      gates = append_assoc start (level_gates first level s) (new_gates after last rest) ∙ (ap (λ gs. start ++ gs) (sym (new_gates-drop first level signals i s inside at)) ∙ held.gates);
      literals = sym (goal_literals-drop first level signals i s inside at) ∙ held.literals;
      room = omega (arith, held.room, length-new_gates-drop first level signals i s inside at);
    } in
    let moved : IsLevel later whole goals after last rest = subst (λ (gs : List AndGate). IsLevel gs whole goals after last rest) (sym pushed) here in
    let seen : IsLevel later whole goals after next rest = subst (λ (ls : List ℕ). IsLevel later whole goals after ls rest) (sym sides) moved in
    subst (λ n. IsLevel later whole goals n next rest) e seen
