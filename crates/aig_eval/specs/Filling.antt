-- What writing into an assignment leaves. The contracts of the steps of an evaluation cite it.
use Rattle.std.specs.Prelude.{ℕ, ◌<◌, ◌≡◌, ◌≢◌, Bool, false, ◌&&◌, List, map, length, get_or, All, AllPairs, Contains}
use Rattle.aig_model.specs.Literal.{var, value_of}
use Rattle.aig_model.specs.WellFormed.{IsDefining, IsOrdered, left_sides}
use Rattle.aig_model.specs.Meaning.{IsConjunction}
use Rattle.aig_model.specs.declared.parts.AndGate.{AndGate}

-- defining literals of different variables below n
pub record AreAssignable (n : ℕ) (lits : List ℕ) : Type 0 where
  pub defining : All IsDefining lits
  pub once : AllPairs (λ v w. v ≢ w) (map var lits)
  pub inside : All (λ lit. var lit < n) lits

-- the literals have these values now, and no other variable has changed
pub record Assigns (lits : List ℕ) (bits old new : List Bool) : Type 0 where
  pub size : length new ≡ length old
  pub reads : map (value_of new) lits ≡ bits
  pub others : (v : ℕ) → ¬ Contains (map var lits) v → get_or new v false ≡ get_or old v false

-- the gate's variables are below n
pub record IsInside (n : ℕ) (g : AndGate) : Type 0 where
  pub lhs : var g.lhs < n
  pub left : var g.left < n
  pub right : var g.right < n

-- gates of different variables below n, none of which uses its own or a later left side
pub record AreSolvable (n : ℕ) (list : List AndGate) : Type 0 where
  pub defining : All (λ (g : AndGate). IsDefining g.lhs) list
  pub once : AllPairs (λ v w. v ≢ w) (map var (left_sides list))
  pub inside : All (IsInside n) list
  pub ordered : IsOrdered list

-- the conjunction of a gate's inputs
abbrev pub conjunction : List Bool → AndGate → Bool
conjunction a g = value_of a g.left && value_of a g.right

-- each gate is solved now, and no variable but those of their left sides has changed
pub record Solves (list : List AndGate) (old new : List Bool) : Type 0 where
  pub size : length new ≡ length old
  pub gates : All (IsConjunction new) list
  pub others : (v : ℕ) → ¬ Contains (map var (left_sides list)) v → get_or new v false ≡ get_or old v false
