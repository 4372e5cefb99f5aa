-- The visits of a walk so far.
use Rattle.std.specs.Prelude.{◌≡◌, ◌⊎◌, ℕ, ◌<◌, ◌↔◌, Bool, false, List, [], ◌∷◌, ◌++◌, length, get_or, Contains, IsTrue}
use Rattle.sim_walk.specs.declared.visit.Visit.{Visit}
use Rattle.sim_walk.specs.Walk.{goals_of}

-- the visits so far, of goals below a number
pub record VisitsSoFar : Type 0 where
  pub goals : ℕ
  pub visits : List Visit

-- the goals that are visited are marked, and no others
abbrev pub IsMarked : List Bool → List Visit → Type 0
IsMarked seen vs = (goal : ℕ) → goal < length seen → IsTrue (get_or seen goal false) ↔ Contains (goals_of vs) goal

-- the visit joins the list where its goal wasn't visited before
abbrev pub JoinsFirst : List Visit → List Visit → Visit → Type 0
JoinsFirst old new v = (Contains (goals_of old) v.goal × (new ≡ old)) ⊎ ((¬ Contains (goals_of old) v.goal) × (new ≡ old ++ v ∷ []))
