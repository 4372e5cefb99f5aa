-- What a solver answers under assumptions.
use Rattle.std.specs.Prelude.{◌≡◌, ℕ, ◌+◌, ◌≤◌, IsTrue, true, ℤ, neg_ℤ, Some, List, ◌∷◌, ◌++◌, [], length}
use Rattle.cnf_base.specs.Status.{has}
use Rattle.cnf_base.specs.Meaning.{lit_true, value_of, IsModel}
use Rattle.sat_incremental.specs.declared.outcome.Outcome.{Outcome}
use Rattle.sat_incremental.specs.declared.outcome.Outcome.TheVariants.{Model, Core, Clash, Spent}
use Rattle.sat_incremental.specs.declared.entry.Entry.{Entry}
use Rattle.sat_incremental.specs.declared.entry.Entry.TheVariants.{Lemma}
use Rattle.lrat_text.specs.Standing.{clause_at}
use Rattle.sat_incremental.specs.Entries.{Session, live, formula_of, GrowsByLemmas}

-- each literal of a clause is the negation of an assumption
abbrev pub IsCore : List ℤ → List ℤ → Type 0
IsCore assumptions clause = (l : ℤ) → IsTrue (has clause l) → IsTrue (has assumptions (neg_ℤ l))

-- a model of the formula that makes each assumption true; a lemma whose literals negate assumptions; two opposite
-- assumptions
abbrev pub IsOutcome : List ℤ → Session → Outcome → Type 0
IsOutcome assumptions s (Model bits) = IsModel (formula_of s) bits × ((a : ℤ) → IsTrue (has assumptions a) → lit_true (value_of bits) a ≡ true)
IsOutcome assumptions s (Core id) = (clause : List ℤ) × (clause_at (live s.entries) id ≡ Some clause) × IsCore assumptions clause
IsOutcome assumptions s Clash = (a : ℤ) × IsTrue (has assumptions a) × IsTrue (has assumptions (neg_ℤ a))
IsOutcome assumptions s Spent = Unit {0}
