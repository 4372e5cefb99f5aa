-- The order of variables in a binary file (AIGER 1.9): inputs, latches, then gates, and none left over.
use Rattle.std.specs.Prelude.{◌≡◌, ◌≢◌, ◌⊎◌, ℕ, ◌+◌, ◌*◌, List, ◌∷◌, ◌++◌, length, map}
use Rattle.std.specs.List.{range_with_len}
use Rattle.aig_model.specs.WellFormed.{definers}
use Rattle.aig_model.specs.declared.parts.Parts.{Parts}

-- the literals of n variables, from this one on
abbrev pub lits_from : ℕ → ℕ → List ℕ
lits_from v n = map (λ x. 2 * x) (range_with_len v n)

abbrev pub AreInPlace : ℕ → List ℕ → Type 0
AreInPlace v lits = lits ≡ lits_from v (length lits)

-- inputs, latches and left sides are the even literals from 2 on, one after another, and the last of them has the greatest variable
pub record IsBinary (c : Parts) : Type 0 where
  pub in_order : AreInPlace 1 (definers c)
  pub top : c.top ≡ length (definers c)

-- a literal that isn't the next one, behind those that are
pub record IsMisplaced (v : ℕ) (lits : List ℕ) (lit : ℕ) : Type 0 where
  pub before : ℕ
  pub after : List ℕ
  pub parts : lits ≡ lits_from v before ++ lit ∷ after
  pub wrong : lit ≢ 2 * (v + before)

-- only the greatest variable isn't that of the last one, which the literal 0 stands for
pub record HasRoom (c : Parts) (lit : ℕ) : Type 0 where
  pub in_order : AreInPlace 1 (definers c)
  pub top : c.top ≢ length (definers c)
  pub none : lit ≡ 0

-- why a circuit isn't in this order: the first literal that defines a variable and is out of place
abbrev pub IsNotBinary : Parts → ℕ → Type 0
IsNotBinary c lit = IsMisplaced 1 (definers c) lit ⊎ HasRoom c lit
