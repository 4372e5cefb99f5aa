-- What a step of a search asks for, and how it ends.
use Rattle.std.specs.Prelude.{◌≡◌, ℕ, ◌+◌, ◌*◌, ◌-◌, ◌<◌, ◌≤◌, ◌^◌, false, ℤ, Option, None, Some, List, length}
use Rattle.cnf_base.specs.Status.{IsFalsifiedIn}
use Rattle.cnf_base.specs.Meaning.{CnfFormula}
use Rattle.sat_trail.specs.declared.clause_id.ClauseId.{ClauseId}
use Rattle.sat_trail.specs.Trail.{TrailState, lits}
use Rattle.sat_queue.specs.Order.{is_unassigned}
use Rattle.sat_watch.specs.Book.{IsClauseOf, NoneFalse}
use Rattle.sat_watch.specs.Ready.{IsReady}
use Rattle.sat_solver.specs.declared.search.Search.{Search}
use Rattle.sat_solver.specs.declared.step.Outcome.{Outcome}
use Rattle.sat_solver.specs.declared.step.Outcome.TheVariants.{Satisfied, Refuted, Spent}
use Rattle.sat_solver.specs.Decision.{IsPassed}
use Rattle.sat_solver.specs.Ledger.{earlier}
use Rattle.sat_solver.specs.SearchInvariant.{IsSearch}

-- every clause so far is attached, propagation may begin, and the budget isn't overspent
pub record IsSearchState (formula : CnfFormula) (lemmas : ℕ) (s : Search) : Type 0 where
  pub search : IsSearch formula (earlier formula s.steps) s
  pub ready : IsReady s.premises.book s.premises.trail
  pub passed : IsPassed s.queue s.premises.trail.assignments s.from
  pub within : length s.steps ≤ lemmas
  pub few : lemmas ≤ 2 ^ 60

-- what is left to do at most: for each lemma of the budget all variables to decide, and those that are unassigned now
abbrev pub left : ℕ → Search → ℕ
left lemmas s = (lemmas - length s.steps) * (s.premises.trail.vars + 1) + (s.premises.trail.vars - length s.premises.trail.assignments)

abbrev pub AllAssigned : TrailState → Type 0
AllAssigned t = (v : ℕ) → 0 < v → v ≤ t.vars → is_unassigned t.assignments v ≡ false

-- this clause of the book is false
abbrev pub IsFalseClause : Search → ClauseId → Type 0
IsFalseClause s id = (clause : List ℤ) × IsClauseOf s.premises.book.clauses id clause × IsFalsifiedIn (lits s.premises.trail.assignments) clause

abbrev pub HasFalse : Search → Type 0
HasFalse s = (id : ClauseId) × IsFalseClause s id

-- how a search ends: all variables are assigned and no clause is false; a clause is false at level 0; the budget is spent, and one is false above it
abbrev pub OutcomeIs : CnfFormula → ℕ → Search → Outcome → Type 0
OutcomeIs formula lemmas s Satisfied = IsSearchState formula lemmas s × NoneFalse s.premises.book.clauses (lits s.premises.trail.assignments) × AllAssigned s.premises.trail
OutcomeIs formula lemmas s (Refuted id) = IsSearchState formula lemmas s × (s.premises.trail.level ≡ 0) × IsFalseClause s id
OutcomeIs formula lemmas s Spent = IsSearchState formula lemmas s × (length s.steps ≡ lemmas) × (0 < s.premises.trail.level) × HasFalse s

-- a step leaves less to do, or ends the search
abbrev pub StepIs : CnfFormula → ℕ → Search → Search → Option Outcome → Type 0
StepIs formula lemmas old new None = IsSearchState formula lemmas new × (left lemmas new < left lemmas old)
StepIs formula lemmas old new (Some outcome) = OutcomeIs formula lemmas new outcome
