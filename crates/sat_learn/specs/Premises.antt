-- What is said of the premises as one value.
use Rattle.std.specs.Prelude.{ℕ, ℤ, Bool, List}
use Rattle.sat_trail.specs.Trail.{Assignment}
use Rattle.sat_learn.specs.declared.premises.Premises.{Premises}
use Rattle.sat_learn.specs.Reasons.{HaveIds}
use Rattle.sat_learn.specs.Resolving.{IsExplained, IsAntecedent, Resolves}
use Rattle.sat_learn.specs.Explaining.{IsExplanation, IsFound}
use Rattle.sat_learn.specs.Implying.{IsTracedTo}

-- each assigned literal has its reason among them
abbrev pub AreExplained : Premises → Type 0
AreExplained p = IsExplained p.book.clauses p.proof_ids.items p.trail

-- they live in the proof under their ids
abbrev pub AreLive : List (ℕ × List ℤ) → Premises → Type 0
AreLive live p = HaveIds live p.book.clauses p.proof_ids.items p.trail.assignments

-- this clause is the reason of the literal at a place
abbrev pub IsAntecedentIn : Premises → ℕ → Assignment → List ℤ → ℤ → Type 0
IsAntecedentIn p place assignment antecedent hint = IsAntecedent p.book.clauses p.proof_ids.items p.trail.assignments place assignment antecedent hint

-- what was resolved by them leads from the marks and hints of then to those of now
abbrev pub ResolvesIn : Premises → List Bool → List ℤ → List Bool → List ℤ → Type 0
ResolvesIn p old_marks old_hints marks hints = Resolves p.book.clauses p.proof_ids.items p.trail.assignments old_marks old_hints marks hints

-- what was found from them leads from the marks and hints of then to those of now
abbrev pub IsFoundIn : Premises → List ℤ → List Bool → List ℤ → List Bool → List ℤ → Type 0
IsFoundIn p ls old_marks old_hints marks hints = IsFound p.book.clauses p.proof_ids.items p.trail.assignments ls old_marks old_hints marks hints

-- the clause of the literal at a place alone follows from them by these hints
abbrev pub IsExplanationIn : Premises → ℕ → List ℤ → Type 0
IsExplanationIn p place hints = IsExplanation p.book.clauses p.proof_ids.items p.trail.assignments place hints

-- the literal at a place is explained down to another by them
abbrev pub IsTracedIn : Premises → ℕ → Assignment → ℕ → List Bool → List ℤ → List ℤ → Type 0
IsTracedIn s top p place marks ls hints = IsTracedTo s.book.clauses s.proof_ids.items s.trail.assignments top p place marks ls hints
