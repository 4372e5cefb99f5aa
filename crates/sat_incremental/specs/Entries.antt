-- What a solver was given and what it learned, in the order in which it came.
use Rattle.std.specs.Prelude.{◌≡◌, ℕ, ℤ, neg_ℤ, List, [], ◌∷◌, ◌++◌, map, length}
use Rattle.std.specs.List.{enumerate_from}
use Rattle.cnf_base.specs.Meaning.{CnfFormula}
use Rattle.sat_learn.specs.Reasons.{Follows}
use Rattle.sat_incremental.specs.declared.entry.Entry.{Entry}
use Rattle.sat_incremental.specs.declared.entry.Entry.TheVariants.{Given, Lemma}

abbrev pub clause_of : Entry → List ℤ
clause_of (Given lits) = lits
clause_of (Lemma lits hints) = lits

abbrev pub clauses : List Entry → List (List ℤ)
clauses entries = map clause_of entries

-- the clauses of the formula
abbrev pub given : List Entry → List (List ℤ)
given [] = []
given (Given lits ∷ entries) = lits ∷ given entries
given (Lemma lits hints ∷ entries) = given entries

-- the ids of the entries are 1, 2, and so on
abbrev pub live : List Entry → List (ℕ × List ℤ)
live entries = enumerate_from 1 (clauses entries)

-- each lemma follows by its hints from the clauses before it
abbrev pub DerivesFrom : List (List ℤ) → List Entry → Type 0
DerivesFrom earlier [] = Unit {0}
DerivesFrom earlier (Given lits ∷ entries) = DerivesFrom (earlier ++ lits ∷ []) entries
DerivesFrom earlier (Lemma lits hints ∷ entries) = Follows (enumerate_from 1 earlier) (map neg_ℤ lits) hints × DerivesFrom (earlier ++ lits ∷ []) entries

abbrev pub IsDerivation : List Entry → Type 0
IsDerivation entries = DerivesFrom [] entries

-- none of them is a clause of the formula
abbrev pub AreLemmas : List Entry → Type 0
AreLemmas [] = Unit {0}
AreLemmas (Given lits ∷ entries) = ⊥
AreLemmas (Lemma lits hints ∷ entries) = AreLemmas entries

-- lemmas alone came, so many
abbrev pub GrowsByLemmas : List Entry → ℕ → List Entry → Type 0
GrowsByLemmas old number new = (more : List Entry) × (new ≡ old ++ more) × AreLemmas more × (length more ≡ number)

-- a solver as its callers see it: the variables are 1 to vars
pub record Session : Type 0 where
  pub vars : ℕ
  pub entries : List Entry

abbrev pub formula_of : Session → CnfFormula
formula_of s = record { vars = s.vars; clauses = given s.entries }

-- a clause of the formula came, and maybe lemmas after it
abbrev pub GrowsByClause : List Entry → List ℤ → List Entry → Type 0
GrowsByClause old clause new = (more : List Entry) × (new ≡ old ++ Given clause ∷ more) × AreLemmas more
