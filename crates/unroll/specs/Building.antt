-- How the contracts of the steps of building speak of a formula that grows.
use Rattle.std.specs.Prelude.{ℕ, zero, suc, ◌≡◌, ◌+◌, ◌<◌, Bool, ℤ, pos, negsuc, List, ◌++◌, length}
use Rattle.cnf_base.specs.Meaning.{CnfFormula}
use Rattle.aig_model.specs.Literal.{var}
use Rattle.aig_model.specs.Marks.{Marks}
use Rattle.aig_model.specs.declared.parts.AndGate.{AndGate}
use Rattle.aig_model.specs.declared.parts.Latch.{Latch}

-- a formula with more clauses after its own
abbrev pub with_clauses : CnfFormula → List (List ℤ) → CnfFormula
with_clauses f more = record { vars = f.vars; clauses = f.clauses ++ more }

-- a variable of the circuit has one in a formula of n variables, in a step that has so many before it
abbrev pub HasVar : ℕ → ℕ → ℕ → Type 0
HasVar n before v = before + v < n

abbrev pub HasLit : ℕ → ℕ → ℕ → Type 0
HasLit n before lit = HasVar n before (var lit)

pub record HasGate (n before : ℕ) (g : AndGate) : Type 0 where
  pub lhs : HasLit n before g.lhs
  pub left : HasLit n before g.left
  pub right : HasLit n before g.right

-- a latch at a step, and its next literal at an earlier one
pub record HasLatch (n earlier before : ℕ) (l : Latch) : Type 0 where
  pub own : HasLit n before l.lit
  pub next : HasLit n earlier l.next

-- to the marks of some literals' variables come those of these literals
pub record MarksMore (old new : List Bool) (lits : List ℕ) : Type 0 where
  pub size : length new ≡ length old
  pub marks : (earlier : List ℕ) → Marks old earlier → Marks new (earlier ++ lits)

-- the literal of a clause over latches names one of so many items
abbrev pub NamesItem : ℕ → ℤ → Type 0
NamesItem n (pos zero) = ⊥
NamesItem n (pos (suc k)) = k < n
NamesItem n (negsuc k) = k < n
