-- How the latches on which signals depend are found: variables are marked until no gate and no latch asks for more.
use Rattle.std.specs.Prelude.{ℕ, ◌≡◌, ◌<◌, ◌≤◌, ◌⊎◌, Bool, true, false, if◌then◌else◌, List, length, get_or, All, Contains, IsTrue}
use Rattle.std.specs.List.{sum_by}
use Rattle.std.specs.List.Sorted.{IsStrictlyIncreasing}
use Rattle.aig_model.specs.Literal.{var}
use Rattle.aig_model.specs.Dependence.{Meets, DependsOnLatch}
use Rattle.aig_model.specs.declared.parts.Latch.{Latch}
use Rattle.aig_model.specs.declared.parts.AndGate.{AndGate}
use Rattle.aig_model.specs.declared.parts.Parts.{Parts}
use Rattle.inv_prover.specs.Candidates.{most_latches}

-- the literal's variable is marked
abbrev pub Marked : List Bool → ℕ → Type 0
Marked marks lit = IsTrue (get_or marks (var lit) false)

-- how many variables are not marked
abbrev pub unmarked : List Bool → ℕ
unmarked marks = sum_by (λ b. if b then 0 else 1) marks

-- Marks are added, and it is known whether any was.
pub record MarksMore (old new : List Bool) (changed : Bool) : Type 0 where
  pub size : length new ≡ length old
  pub keeps : (lit : ℕ) → Marked old lit → Marked new lit
  pub same : changed ≡ false → new ≡ old
  pub fewer : changed ≡ true → unmarked new < unmarked old

-- the signals depend on each latch that a marked variable meets
abbrev pub MarksDependence : Parts → List ℕ → List Bool → Type 0
MarksDependence c sig marks = (lit k : ℕ) → Marked marks lit → Meets c lit k → DependsOnLatch c sig k

-- where a gate is marked, so are its inputs
abbrev pub IsGateClosed : List Bool → AndGate → Type 0
IsGateClosed marks g = Marked marks g.lhs → Marked marks g.left × Marked marks g.right

-- where a latch is marked, so is its next literal
abbrev pub IsLatchClosed : List Bool → Latch → Type 0
IsLatchClosed marks l = Marked marks l.lit → Marked marks l.next

-- latch k of these is there and marked
pub record IsMarkedLatch (latches : List Latch) (marks : List Bool) (k : ℕ) : Type 0 where
  pub inside : k < length latches
  pub marked : (d : Latch) → Marked marks ((get_or latches k d).lit)

-- the first marked ones among the first n latches, as many as there may be
pub record AreFirstMarked (latches : List Latch) (marks : List Bool) (n : ℕ) (found : List ℕ) : Type 0 where
  pub rising : IsStrictlyIncreasing found
  pub few : length found ≤ most_latches
  pub marked : All (λ k. (k < n) × IsMarkedLatch latches marks k) found
  pub whole : (k : ℕ) → k < n → IsMarkedLatch latches marks k → Contains found k ⊎ ((length found ≡ most_latches) × All (λ j. j < k) found)
