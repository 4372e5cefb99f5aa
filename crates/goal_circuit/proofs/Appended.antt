-- Gates that are appended to a circuit, with the variables from one on in order, each of literals that are there before it.
use Rattle.std.proofs.Common.{◌≡◌, ◌≢◌, ℕ, ◌+◌, ◌-◌, ◌*◌, ◌<◌, ◌≤◌, ◌⊎◌, inl, inr, List, [], ◌∷◌, ◌++◌, map, length, refl, sym, ap, ◌∙◌, subst, arith, All, AllPairs, Contains}
use Rattle.std.specs.List.{range_with_len}
use Rattle.std.proofs.lemmas.List.{map-append}
use Rattle.std.proofs.lemmas.List.Elements.{All-nil, All-cons, All-head, All-tail, All-weaker, Contains-append_cases}
use Rattle.std.proofs.lemmas.List.FromFn.{length-range_with_len, get_or-range_with_len}
use Rattle.aig_model.specs.Literal.{var}
use Rattle.aig_model.specs.WellFormed.{IsDefining, IsInRange, IsOrdered, defined, left_sides, gate_inputs, gate_literals}
use Rattle.aig_model.specs.declared.parts.AndGate.{AndGate}
use Rattle.aig_model.specs.declared.parts.Parts.{Parts}

-- a variable that is known in the circuit, or that of an appended gate below v
abbrev pub IsThere : Parts → ℕ → ℕ → Type 0
IsThere c v x = (((x ≡ 0) ⊎ Contains (defined c) x) × (x ≤ c.top)) ⊎ ((c.top < x) × (x < v))

abbrev pub IsUsable : Parts → ℕ → ℕ → Type 0
IsUsable c v lit = IsThere c v (var lit)

abbrev pub AreAppended : Parts → ℕ → List AndGate → Type 0
AreAppended c v [] = Unit {0}
AreAppended c v (g ∷ gates) = (g.lhs ≡ 2 * v) × IsUsable c v g.left × IsUsable c v g.right × AreAppended c (v + 1) gates

pub usable_later : (c : Parts) (v w lit : ℕ) → v ≤ w → IsUsable c v lit → IsUsable c w lit
usable_later c v w lit le usable = elim usable [ inl k ↦ inl k | inr h ↦ inr (h.0, omega (arith, h.1)) ]

pub all_later : (c : Parts) (v w : ℕ) (lits : List ℕ) → v ≤ w → All (IsUsable c v) lits → All (IsUsable c w) lits
all_later c v w lits le all = All-weaker (IsUsable c v) (IsUsable c w) (λ lit usable. usable_later c v w lit le usable) lits all

pub usable_same : (c : Parts) (v a b : ℕ) → var a ≡ var b → IsUsable c v a → IsUsable c v b
usable_same c v a b e usable = subst (IsThere c v) e usable

pub usable_below : (c : Parts) (v lit : ℕ) → c.top < v → IsUsable c v lit → var lit < v
usable_below c v lit above usable = elim usable [ inl k ↦ omega (arith, k.1) | inr h ↦ h.1 ]

pub appended_append : (c : Parts) (v : ℕ) (xs ys : List AndGate) → AreAppended c v xs → AreAppended c (v + length xs) ys → AreAppended c v (xs ++ ys)
appended_append c v [] ys first more = let e : v + 0 ≡ v = omega arith in subst (λ w. AreAppended c w ys) e more
appended_append c v (g ∷ xs) ys first more =
    let e : v + length (g ∷ xs) ≡ v + 1 + length xs = omega arith in
    (first.0, first.1, first.2, appended_append c (v + 1) xs ys first.3 (subst (λ w. AreAppended c w ys) e more))

-- ---- the variables of their left sides are those from v on
pub vars-appended : (c : Parts) (v : ℕ) (gates : List AndGate) → AreAppended c v gates → map var (left_sides gates) ≡ range_with_len v (length gates)
vars-appended c v [] appended = refl
vars-appended c v (g ∷ gates) appended =
    let e : var g.lhs ≡ v = omega (arith, appended.0) in
    ap (λ x. x ∷ map var (left_sides gates)) e ∙ ap (λ xs. v ∷ xs) (vars-appended c (v + 1) gates appended.3)

pub range_contains : (a n x : ℕ) → a ≤ x → x < a + n → Contains (range_with_len a n) x
range_contains a n x le lt =
    (x - a, omega (arith, length-range_with_len a n), get_or-range_with_len a n (x - a) x (omega arith) ∙ omega arith)

pub range_within : (a n x : ℕ) → Contains (range_with_len a n) x → (a ≤ x) × (x < a + n)
range_within a n x h =
    let inside : h.0 < n = omega (arith, length-range_with_len a n, h.1) in
    let e : a + h.0 ≡ x = sym (get_or-range_with_len a n h.0 x inside) ∙ h.2 in
    (omega arith, omega arith)

pub appended_within : (c : Parts) (v : ℕ) (gates : List AndGate) (x : ℕ) → AreAppended c v gates → Contains (map var (left_sides gates)) x
    → (v ≤ x) × (x < v + length gates)
appended_within c v gates x appended h =
    range_within v (length gates) x (subst (λ (xs : List ℕ). Contains xs x) (vars-appended c v gates appended) h)

pub appended_contain : (c : Parts) (v : ℕ) (gates : List AndGate) (x : ℕ) → AreAppended c v gates → v ≤ x → x < v + length gates
    → Contains (map var (left_sides gates)) x
appended_contain c v gates x appended le lt =
    subst (λ (xs : List ℕ). Contains xs x) (sym (vars-appended c v gates appended)) (range_contains v (length gates) x le lt)

pub range_apart : (a n : ℕ) → AllPairs (λ v w. v ≢ w) (range_with_len a n)
range_apart a n i j d before inside e =
    let size : j < n = omega (arith, length-range_with_len a n) in
    omega (arith, get_or-range_with_len a n i d (omega arith), get_or-range_with_len a n j d size, e)

-- ---- what a circuit's form asks of them
pub sides_usable : (c : Parts) (v : ℕ) (gates : List AndGate) → c.top < v → AreAppended c v gates → All (IsUsable c (v + length gates)) (left_sides gates)
sides_usable c v [] above appended = All-nil (IsUsable c (v + 0))
sides_usable c v (g ∷ gates) above appended =
    let e : v + 1 + length gates ≡ v + length (g ∷ gates) = omega arith in
    let rest : All (IsUsable c (v + length (g ∷ gates))) (left_sides gates) =
    subst (λ w. All (IsUsable c w) (left_sides gates)) e (sides_usable c (v + 1) gates (omega arith) appended.3)
    in
    All-cons (IsUsable c (v + length (g ∷ gates))) g.lhs (left_sides gates) (inr (omega (arith, appended.0), omega (arith, appended.0))) rest

pub inputs_usable : (c : Parts) (v w : ℕ) (gates : List AndGate) → v + length gates ≤ w → AreAppended c v gates → All (IsUsable c w) (gate_inputs gates)
inputs_usable c v w [] le appended = All-nil (IsUsable c w)
inputs_usable c v w (g ∷ gates) le appended =
    All-cons (IsUsable c w) g.left (g.right ∷ gate_inputs gates) (usable_later c v w g.left (omega arith) appended.1)
    (All-cons (IsUsable c w) g.right (gate_inputs gates) (usable_later c v w g.right (omega arith) appended.2)
    (inputs_usable c (v + 1) w gates (omega arith) appended.3))

pub appended_in_range : (c : Parts) (v top : ℕ) (gates : List AndGate) → c.top < v → v + length gates ≤ top + 1 → AreAppended c v gates
    → All (IsInRange top) (gate_literals gates)
appended_in_range c v top [] above le appended = All-nil (IsInRange top)
appended_in_range c v top (g ∷ gates) above le appended =
    let left : var g.left < v = usable_below c v g.left above appended.1 in
    let right : var g.right < v = usable_below c v g.right above appended.2 in
    All-cons (IsInRange top) g.lhs (g.left ∷ g.right ∷ gate_literals gates) (omega (arith, appended.0))
    (All-cons (IsInRange top) g.left (g.right ∷ gate_literals gates) (omega arith)
    (All-cons (IsInRange top) g.right (gate_literals gates) (omega arith)
    (appended_in_range c (v + 1) top gates (omega arith) (omega arith) appended.3)))

pub appended_defining : (c : Parts) (v : ℕ) (gates : List AndGate) → c.top < v → AreAppended c v gates → All IsDefining (left_sides gates)
appended_defining c v [] above appended = All-nil IsDefining
appended_defining c v (g ∷ gates) above appended =
    All-cons IsDefining g.lhs (left_sides gates) (record { even = omega (arith, appended.0); positive = omega (arith, appended.0) })
    (appended_defining c (v + 1) gates (omega arith) appended.3)

pub appended_ordered : (c : Parts) (v : ℕ) (gates : List AndGate) → c.top < v → AreAppended c v gates → IsOrdered gates
appended_ordered c v [] above appended = tt
appended_ordered c v (g ∷ gates) above appended = (
  λ h. omega (arith, usable_below c v g.left above appended.1, (appended_within c v (g ∷ gates) (var g.left) appended h).0),
  λ h. omega (arith, usable_below c v g.right above appended.2, (appended_within c v (g ∷ gates) (var g.right) appended h).0),
  appended_ordered c (v + 1) gates (omega arith) appended.3,
)

-- gates whose inputs are below v come before them
pub ordered_append : (c : Parts) (v : ℕ) (old gates : List AndGate) → IsOrdered old → All (λ lit. var lit < v) (gate_inputs old) → IsOrdered gates
    → ((x : ℕ) → Contains (map var (left_sides gates)) x → v ≤ x) → IsOrdered (old ++ gates)
ordered_append c v [] gates ordered below more from = more
ordered_append c v (g ∷ old) gates ordered below more from =
    let P : ℕ → Type 0 = λ lit. var lit < v in
    let rest : All P (g.right ∷ gate_inputs old) = All-tail P g.left (g.right ∷ gate_inputs old) below in
    let split : map var (left_sides ((g ∷ old) ++ gates)) ≡ map var (left_sides (g ∷ old)) ++ map var (left_sides gates) =
    ap (map var) (map-append (λ (h : AndGate). h.lhs) (g ∷ old) gates) ∙ map-append var (left_sides (g ∷ old)) (left_sides gates)
    in (
      λ h. elim (Contains-append_cases (map var (left_sides (g ∷ old))) (map var (left_sides gates)) (var g.left) (subst (λ (xs : List ℕ). Contains xs (var g.left)) split h)) [
        | inl early ↦ ordered.0 early
        | inr late ↦ omega (arith, from (var g.left) late, All-head P g.left (g.right ∷ gate_inputs old) below)
      ],
      λ h. elim (Contains-append_cases (map var (left_sides (g ∷ old))) (map var (left_sides gates)) (var g.right) (subst (λ (xs : List ℕ). Contains xs (var g.right)) split h)) [
        | inl early ↦ ordered.1 early
        | inr late ↦ omega (arith, from (var g.right) late, All-head P g.right (gate_inputs old) rest)
      ],
      ordered_append c v old gates ordered.2 (All-tail P g.right (gate_inputs old) rest) more from,
    )
