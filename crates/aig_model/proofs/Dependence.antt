-- The latches on which literals depend are a least set.
use Rattle.std.proofs.Common.{◌≡◌, ℕ, Bool, List, Contains, IsTrue, Some, slice_get}
use Rattle.aig_model.specs.Dependence.{Meets, DependsOnLatch}
use Rattle.aig_model.specs.Dependence.DependsOnLatch.{Now, Later}
use Rattle.aig_model.specs.declared.parts.Latch.{Latch}
use Rattle.aig_model.specs.declared.parts.Parts.{Parts}

pub least_dependence : (c : Parts) (lits : List ℕ) (in_set : ℕ → Bool) → ((lit k : ℕ) → Contains lits lit → Meets c lit k → IsTrue (in_set k))
    → ((j k : ℕ) (l : Latch) → IsTrue (in_set j) → slice_get c.latches j ≡ Some l → Meets c l.next k → IsTrue (in_set k)) → (k : ℕ) → DependsOnLatch c lits k
    → IsTrue (in_set k)
least_dependence c lits in_set now later k (Now {lit = lit} listed met) = now lit k listed met
least_dependence c lits in_set now later k (Later {j = j} {l = l} before at met) =
    later j k l (least_dependence c lits in_set now later j before) at met
