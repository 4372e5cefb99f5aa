-- What holds of a search at each step, and how it ends.
use Rattle.std.specs.Prelude.{◌≡◌, ℕ, ◌+◌, ◌*◌, ◌-◌, ◌<◌, ◌≤◌, ◌^◌, IsTrue, ℤ, neg_ℤ, Option, None, Some, List, [], ◌∷◌, length, MatchOption}
use Rattle.cnf_base.specs.Status.{has, IsFalsifiedIn}
use Rattle.lrat_text.specs.Standing.{clause_at}
use Rattle.sat_trail.specs.declared.clause_id.ClauseId.{ClauseId}
use Rattle.sat_trail.specs.Trail.{lits}
use Rattle.sat_watch.specs.Book.{IsClauseOf, NoneFalse}
use Rattle.sat_watch.specs.Ready.{IsReady}
use Rattle.sat_solver.specs.Decision.{IsPassed}
use Rattle.sat_solver.specs.Gathered.{IsGathered}
use Rattle.sat_solver.specs.Sound.{IsSound}
use Rattle.sat_solver.specs.Steps.{AllAssigned}
use Rattle.sat_incremental.specs.declared.search.Search.{Search}
use Rattle.sat_incremental.specs.declared.step.End.{End}
use Rattle.sat_incremental.specs.declared.step.End.TheVariants as ends
use Rattle.sat_incremental.specs.Entries.{Session, given, live, IsDerivation, GrowsByLemmas}
use Rattle.sat_incremental.specs.Assuming.{AreAssumed, AreIn}

-- the book and the trail stand for the clauses `done`
pub record IsSearchOf (done : List (List ℤ)) (s : Search) : Type 0 where
  pub few : length s.entries ≤ 2 ^ 60
  pub few_vars : s.vars ≤ 4000000
  pub derivation : IsDerivation s.entries
  pub sound : IsSound s.vars (live s.entries) done s.premises.proof_ids.items s.premises.book s.premises.trail
  pub ready : IsReady s.premises.book s.premises.trail
  pub passed : IsPassed s.queue s.premises.trail.assignments s.from
  pub queue_vars : length s.queue ≡ s.vars
  pub ranks_vars : s.ranks ≡ s.vars
  pub phases_vars : s.phases ≡ s.vars
  pub analyzer_vars : s.analyzer ≡ s.vars
  pub gathered : IsGathered s.gathered
  pub gathered_vars : s.gathered.vars ≡ s.vars

-- they stand for the formula
abbrev pub IsSearch : Search → Type 0
IsSearch s = IsSearchOf (given s.entries) s

-- the empty clause has this id
pub record IsRefuted (s : Search) (id : ℕ) : Type 0 where
  pub few_vars : s.vars ≤ 4000000
  pub derivation : IsDerivation s.entries
  pub empty : clause_at (live s.entries) id ≡ Some []

-- as callers see it
abbrev pub session : Search → Session
session s = record { vars = s.vars; entries = s.entries }

-- between two questions
abbrev pub IsAtEase : Search → Type 0
IsAtEase s = MatchOption s.refuted (IsSearch s) (λ id. IsRefuted s id)

-- lemmas alone came
pub record Extends (old new : Search) : Type 0 where
  pub vars : new.vars ≡ old.vars
  pub number : ℕ
  pub grows : GrowsByLemmas old.entries number new.entries

-- lemmas of conflicts alone came
pub record Continues (old new : Search) : Type 0 where
  pub vars : new.vars ≡ old.vars
  pub refuted : new.refuted ≡ old.refuted
  pub number : ℕ
  pub grows : GrowsByLemmas old.entries number new.entries
  pub learned : new.learned ≡ old.learned + number

-- within a question: the decisions go by the assumptions, and the budget isn't overspent
pub record IsQuery (assumptions : List ℤ) (lemmas : ℕ) (s : Search) : Type 0 where
  pub search : IsSearch s
  pub assumed : AreAssumed assumptions s.premises.trail.assignments
  pub within : s.learned ≤ lemmas

-- what is left to do at most: for each lemma of the budget all variables to decide, and those that are unassigned now
abbrev pub left : ℕ → Search → ℕ
left lemmas s = (lemmas - s.learned) * (s.premises.trail.vars + 1) + (s.premises.trail.vars - length s.premises.trail.assignments)

-- all variables are assigned, no clause is false and each assumption is true; a clause is false at level 0; an assumption is
-- false; the budget is spent
abbrev pub EndIs : List ℤ → ℕ → Search → End → Type 0
EndIs assumptions lemmas s ends.Satisfied = NoneFalse s.premises.book.clauses (lits s.premises.trail.assignments) × AllAssigned s.premises.trail × AreIn assumptions (lits s.premises.trail.assignments)
EndIs assumptions lemmas s (ends.Refuted id) = (s.premises.trail.level ≡ 0) × ((clause : List ℤ) × IsClauseOf s.premises.book.clauses id clause × IsFalsifiedIn (lits s.premises.trail.assignments) clause)
EndIs assumptions lemmas s (ends.Failed l) = IsTrue (has assumptions l) × IsTrue (has (lits s.premises.trail.assignments) (neg_ℤ l))
EndIs assumptions lemmas s ends.Spent = s.learned ≡ lemmas

-- a step leaves less to do, or ends the search
abbrev pub StepIs : List ℤ → ℕ → Search → Search → Option End → Type 0
StepIs assumptions lemmas old new None = left lemmas new < left lemmas old
StepIs assumptions lemmas old new (Some end) = EndIs assumptions lemmas new end
