-- Sets of variables, kept as one truth value a variable.
use Rattle.std.specs.Prelude.{ℕ, ◌≡◌, ◌<◌, ◌⊎◌, ◌↔◌, Bool, false, List, ◌++◌, map, length, get_or, All, Contains, IsTrue}
use Rattle.aig_model.specs.Literal.{var}
use Rattle.aig_model.specs.Faults.{AllRight, IsFirstWrong, IsNewDefiner}

-- the true values are those of the variables of these literals
abbrev pub Marks : List Bool → List ℕ → Type 0
Marks marks lits = (v : ℕ) → IsTrue (get_or marks v false) ↔ Contains (map var lits) v

-- each literal has a value of its variable
abbrev pub HaveRoom : List Bool → List ℕ → Type 0
HaveRoom marks lits = All (λ lit. var lit < length marks) lits

-- the literal's variable is 0 or marked
abbrev pub IsMarked : List Bool → ℕ → Type 0
IsMarked marks lit = (var lit ≡ 0) ⊎ IsTrue (get_or marks (var lit) false)

-- each literal defines a variable that none before it defines, and these variables were marked
abbrev pub Defines : List Bool → List Bool → List ℕ → Type 0
Defines old new lits =
    (earlier : List ℕ) → Marks old earlier → AllRight (λ before. IsNewDefiner (earlier ++ before)) lits × Marks new (earlier ++ lits)

-- the literal is the first that does not define a new variable
abbrev pub FailsToDefine : List Bool → List ℕ → ℕ → Type 0
FailsToDefine old lits lit = (earlier : List ℕ) → Marks old earlier → IsFirstWrong (λ before. IsNewDefiner (earlier ++ before)) lits lit
