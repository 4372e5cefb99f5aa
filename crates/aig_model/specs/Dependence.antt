-- The latches on which literals depend.
use Rattle.std.specs.Prelude.{ℕ, ◌≡◌, List, Contains, slice_get, Some}
use Rattle.aig_model.specs.Literal.{var}
use Rattle.aig_model.specs.declared.parts.Latch.{Latch}
use Rattle.aig_model.specs.declared.parts.AndGate.{AndGate}
use Rattle.aig_model.specs.declared.parts.Parts.{Parts}

-- the literal has the variable of latch k, or that of a gate one of whose inputs meets latch k
pub data Meets (c : Parts) : ℕ → ℕ → Type 0 where
  AtLatch : {lit k : ℕ} {l : Latch} → slice_get c.latches k ≡ Some l → var lit ≡ var l.lit → Meets c lit k
  ByLeft : {lit k : ℕ} {g : AndGate} → Contains c.gates g → var lit ≡ var g.lhs → Meets c g.left k → Meets c lit k
  ByRight : {lit k : ℕ} {g : AndGate} → Contains c.gates g → var lit ≡ var g.lhs → Meets c g.right k → Meets c lit k

-- one of the literals meets latch k, or the next literal of a latch on which they depend does
pub data DependsOnLatch (c : Parts) (lits : List ℕ) : ℕ → Type 0 where
  Now : {lit k : ℕ} → Contains lits lit → Meets c lit k → DependsOnLatch c lits k
  Later : {j k : ℕ} {l : Latch} → DependsOnLatch c lits j → slice_get c.latches j ≡ Some l → Meets c l.next k → DependsOnLatch c lits k
