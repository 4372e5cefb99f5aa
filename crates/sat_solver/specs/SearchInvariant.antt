-- What holds of a search at each step.
use Rattle.std.specs.Prelude.{◌≡◌, ◌<◌, ◌≤◌, ◌^◌, ℤ, List, length}
use Rattle.cnf_base.specs.Meaning.{CnfFormula}
use Rattle.sat_solver.specs.declared.search.Search.{Search}
use Rattle.sat_solver.specs.Ledger.{live, IsLedger}
use Rattle.sat_solver.specs.Sound.{IsSound}

-- the steps are a ledger, and the clauses `done` stand in the book and on the trail
pub record IsSearch (formula : CnfFormula) (done : List (List ℤ)) (s : Search) : Type 0 where
  pub few_clauses : length formula.clauses < 2 ^ 60
  pub few_steps : length s.steps ≤ 2 ^ 60
  pub few_conflicts : s.conflicts ≤ length s.steps
  pub ledger : IsLedger formula s.steps
  pub sound : IsSound formula.vars (live formula s.steps) done s.premises.proof_ids.items s.premises.book s.premises.trail
  pub queue_vars : length s.queue ≡ formula.vars
  pub ranks_vars : s.ranks ≡ formula.vars
  pub phases_vars : s.phases ≡ formula.vars
  pub considered_vars : s.considered ≡ formula.vars
  pub analyzer_vars : s.analyzer ≡ formula.vars
