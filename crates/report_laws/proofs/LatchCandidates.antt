-- The clauses that the prover tries are clauses over the circuit's latches.
use Rattle.std.proofs.Common.{◌≡◌, ℕ, ◌<◌, ℤ, List, length, get_or, sym, subst, All}
use Rattle.std.proofs.lemmas.Option.{slice_get_within}
use Rattle.aig_model.specs.Dependence.{Meets, DependsOnLatch, AtLatch, ByLeft, ByRight, Now, Later}
use Rattle.aig_model.specs.LatchClauses.{IsLatchClause}
use Rattle.aig_model.specs.declared.parts.Parts.{Parts}
use Rattle.inv_prover.specs.Candidates.{AreCandidates}
use Rattle.inv_prover.proofs.ClauseLists.{latches_over}
use Rattle.inv_prover.proofs.Parts.{each}
use Rattle.goal_facts.specs.Invariants.{IsGreatestInvariant, HoldsGreatestInvariant}

-- latches on which signals depend are there
meets_inside : (c : Parts) (lit k : ℕ) → Meets c lit k → k < length c.latches
meets_inside c lit k (AtLatch {l = l} at same) = slice_get_within c.latches k l at
meets_inside c lit k (ByLeft {g = g} has same more) = meets_inside c g.left k more
meets_inside c lit k (ByRight {g = g} has same more) = meets_inside c g.right k more

depends_inside : (c : Parts) (sig : List ℕ) (k : ℕ) → DependsOnLatch c sig k → k < length c.latches
depends_inside c sig k (Now {lit = lit} has meets) = meets_inside c lit k meets
depends_inside c sig k (Later {l = l} before at meets) = meets_inside c l.next k meets

candidates_latches : (c : Parts) (sig : List ℕ) (strength : ℕ) (clauses : List (List ℤ)) → AreCandidates c sig strength clauses → All (IsLatchClause c) clauses
candidates_latches c sig strength clauses h =
    subst (All (IsLatchClause c)) (sym h.list) (latches_over c h.latches strength (λ k d l. depends_inside c sig (get_or h.latches k d) (h.dependent.dependent k d l)))

pub greatest_latches : (c : Parts) (sig : List ℕ) (strength : ℕ) (clauses : List (List ℤ)) → IsGreatestInvariant c sig strength clauses → All (IsLatchClause c) clauses
greatest_latches c sig strength clauses h = each (IsLatchClause c) clauses h.candidates h.greatest.part (candidates_latches c sig strength h.candidates h.are)

pub holding_latches : (c : Parts) (sig : List ℕ) (strength : ℕ) (clauses : List (List ℤ)) → HoldsGreatestInvariant c sig strength clauses → All (IsLatchClause c) clauses
holding_latches c sig strength clauses h = each (IsLatchClause c) clauses h.candidates h.contains.part (candidates_latches c sig strength h.candidates h.are)
