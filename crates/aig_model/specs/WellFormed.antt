-- Well-formed circuits (AIGER 1.9).
use Rattle.std.specs.Prelude.{ℕ, ◌+◌, ◌*◌, ◌%◌, ◌<◌, ◌≤◌, ◌≡◌, ◌≢◌, ◌⊎◌, List, [], ◌∷◌, ◌++◌, map, length, get_or, All, AllPairs, Contains}
use Rattle.std.specs.List.{flat_map}
use Rattle.aig_model.specs.Literal.{var}
use Rattle.aig_model.specs.declared.parts.Latch.{Latch}
use Rattle.aig_model.specs.declared.parts.AndGate.{AndGate}
use Rattle.aig_model.specs.declared.parts.Place.{Place}
use Rattle.aig_model.specs.declared.parts.Place.TheVariants as places
use Rattle.aig_model.specs.declared.parts.Named.{Named}
use Rattle.aig_model.specs.declared.parts.Parts.{Parts}

-- ---- the literals of the sections, in the order of the fields
abbrev pub latch_lits : List Latch → List ℕ
latch_lits latches = map (λ (l : Latch). l.lit) latches

abbrev pub next_lits : List Latch → List ℕ
next_lits latches = map (λ (l : Latch). l.next) latches

abbrev pub left_sides : List AndGate → List ℕ
left_sides gates = map (λ (g : AndGate). g.lhs) gates

abbrev pub gate_inputs : List AndGate → List ℕ
gate_inputs gates = flat_map (λ (g : AndGate). g.left ∷ g.right ∷ []) gates

abbrev pub latch_literals : List Latch → List ℕ
latch_literals latches = flat_map (λ (l : Latch). l.lit ∷ l.next ∷ []) latches

abbrev pub gate_literals : List AndGate → List ℕ
gate_literals gates = flat_map (λ (g : AndGate). g.lhs ∷ g.left ∷ g.right ∷ []) gates

-- every literal
abbrev pub literals : Parts → List ℕ
literals c = c.inputs ++ (latch_literals c.latches ++ (c.outputs ++ (c.bads ++ (c.constraints ++ gate_literals c.gates))))

-- the literals that define a variable
abbrev pub definers : Parts → List ℕ
definers c = c.inputs ++ (latch_lits c.latches ++ left_sides c.gates)

-- the literals that use one
abbrev pub uses : Parts → List ℕ
uses c = next_lits c.latches ++ (c.outputs ++ (c.bads ++ (c.constraints ++ gate_inputs c.gates)))

abbrev pub defined : Parts → List ℕ
defined c = map var (definers c)

-- ---- what is asked of them
-- the greatest variable, and the greatest number of items in a section
abbrev pub limit : ℕ
limit = 3999999

-- no section has too many items; names are bounded by the sections
pub record IsSized (c : Parts) : Type 0 where
  pub top : c.top ≤ limit
  pub inputs : length c.inputs ≤ limit
  pub latches : length c.latches ≤ limit
  pub outputs : length c.outputs ≤ limit
  pub bads : length c.bads ≤ limit
  pub constraints : length c.constraints ≤ limit
  pub gates : length c.gates ≤ limit

-- a literal of one of the variables 0 to the greatest
abbrev pub IsInRange : ℕ → ℕ → Type 0
IsInRange top lit = lit ≤ 2 * top + 1

-- a literal that may define a variable: even, and not that of the constant
pub record IsDefining (lit : ℕ) : Type 0 where
  pub even : lit % 2 ≡ 0
  pub positive : 2 ≤ lit

-- a literal that may be used: its variable is 0 or defined
abbrev pub IsKnown : Parts → ℕ → Type 0
IsKnown c lit = (var lit ≡ 0) ⊎ Contains (defined c) (var lit)

-- no gate uses its own or a later left side
abbrev pub IsOrdered : List AndGate → Type 0
IsOrdered [] = Unit {0}
IsOrdered (g ∷ gates) =
    (¬ Contains (map var (left_sides (g ∷ gates))) (var g.left)) × (¬ Contains (map var (left_sides (g ∷ gates))) (var g.right)) × IsOrdered gates

-- ---- names
-- the section has an item at this place
abbrev pub Exists : Parts → Place → Type 0
Exists c (places.Input k) = k < length c.inputs
Exists c (places.Latch k) = k < length c.latches
Exists c (places.Output k) = k < length c.outputs
Exists c (places.Bad k) = k < length c.bads
Exists c (places.Constraint k) = k < length c.constraints

-- some byte or more, no newline (10), and no carriage return (13) at the end
pub record IsName (name : List ℕ) : Type 0 where
  pub some : 0 < length name
  pub one_line : ¬ Contains name 10
  pub end : (k : ℕ) → k + 1 ≡ length name → get_or name k 0 ≢ 13

-- each name belongs to a place that exists, no place has two, and each has a name's form
pub record AreNames (c : Parts) : Type 0 where
  pub exist : All (λ (n : Named). Exists c n.place) c.names
  pub once : AllPairs (λ (m n : Named). m.place ≢ n.place) c.names
  pub forms : All (λ (n : Named). IsName n.name) c.names

-- ---- the whole
-- a well-formed circuit
pub record IsCircuit (c : Parts) : Type 0 where
  pub sized : IsSized c
  pub in_range : All (IsInRange c.top) (literals c)
  pub defining : All IsDefining (definers c)
  pub once : AllPairs (λ v w. v ≢ w) (defined c)
  pub known : All (IsKnown c) (uses c)
  pub ordered : IsOrdered c.gates
  pub names : AreNames c
