-- When a proof is accepted: the rule of LRAT without its RAT steps.
use Rattle.std.specs.Prelude.{◌≡◌, ℕ, ◌<◌, IsTrue, ℤ, pos, negsuc, neg_ℤ, List, [], ◌∷◌, ◌++◌, map, Some, IsSome, ◌⊎◌}
use Rattle.cnf_base.specs.Status.{has, IsSatisfiedIn, IsFalsifiedIn, IsUnitIn}
use Rattle.cnf_base.specs.Meaning.{CnfFormula}
use Rattle.lrat_text.specs.declared.proof.LratStep.{LratStep}
use Rattle.lrat_text.specs.declared.proof.LratStep.TheVariants.{Add, Delete}
use Rattle.lrat_text.specs.Standing.{Standing, start, clause_at, without, after}

-- the hints, taken in order, end at a clause that is false: a clause with a true literal is passed over, and one with
-- a single open literal and all others false adds this literal to what is assumed
abbrev pub Ends : List (ℕ × List ℤ) → List ℤ → List ℤ → Type 0
Ends live assumed [] = ⊥
Ends live assumed (pos id ∷ hints) =
    (clause : List ℤ) × (clause_at live id ≡ Some clause)
    × ((IsSatisfiedIn assumed clause × Ends live assumed hints)
    ⊎ (IsFalsifiedIn assumed clause
    ⊎ ((l : ℤ) × IsUnitIn assumed clause l × Ends live (assumed ++ l ∷ []) hints)))
Ends live assumed (negsuc n ∷ hints) = ⊥

abbrev pub IsBothWays : List ℤ → Type 0
IsBothWays lits = (l : ℤ) × IsTrue (has lits l) × IsTrue (has lits (neg_ℤ l))

-- an addition may be made: its id is new, and its clause has a literal both ways or follows by its hints
pub record MayAdd (s : Standing) (id : ℕ) (lits hints : List ℤ) : Type 0 where
  pub newer : s.greatest < id
  pub follows : IsBothWays lits ⊎ Ends s.live (map neg_ℤ lits) hints

-- a deletion may be made: each id in turn names a live clause, which is then gone
abbrev pub MayDelete : List (ℕ × List ℤ) → List ℕ → Type 0
MayDelete live [] = Unit {0}
MayDelete live (id ∷ ids) = IsSome (clause_at live id) × MayDelete (without live id) ids

abbrev pub MayStep : Standing → LratStep → Type 0
MayStep s (Add id lits hints) = MayAdd s id lits hints
MayStep s (Delete at ids) = MayDelete s.live ids

abbrev pub AddsEmpty : LratStep → Type 0
AddsEmpty (Add id lits hints) = lits ≡ []
AddsEmpty (Delete at ids) = ⊥

-- the steps may be made up to one that adds the empty clause
abbrev pub AcceptedFrom : Standing → List LratStep → Type 0
AcceptedFrom s [] = ⊥
AcceptedFrom s (step ∷ steps) = MayStep s step × (AddsEmpty step ⊎ AcceptedFrom (after s step) steps)

abbrev pub Accepted : CnfFormula → List LratStep → Type 0
Accepted formula proof = AcceptedFrom (start formula) proof
