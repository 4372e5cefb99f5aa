use Rattle.std.proofs.Common.{ℕ, Option, Some, subst}
use Rattle.sat_solver.specs.Decision.{IsPassed}
use Rattle.sat_solver.proofs.SearchPlace.{next_passed, next_unset, passed_in_range}
use Rattle.sat_solver.proofs.decision.next_variable.Goals as goal

-- the variable from which the search begins
from_passed : (c : goal.After-next_unset_from) → IsPassed c.args.queue.now c.args.trail.now.assignments (Some c.in_ok-from.field-0)
from_passed c = let P : Option ℕ → Type 0 = λ from. IsPassed c.args.queue.now c.args.trail.now.assignments from in subst P c.in_ok-from.was c.requires.passed

pub returns-clause-passed : goal.returns-clause-passed
returns-clause-passed c =
    next_passed c.args.queue.now c.args.trail.now.assignments c.in_ok-from.field-0 c.next_unset_from.result (from_passed c) c.next_unset_from.ensures

pub returns-clause-unset : goal.returns-clause-unset
returns-clause-unset c =
    next_unset c.args.queue.now c.args.trail.now.assignments c.in_ok-from.field-0 c.next_unset_from.result (from_passed c) c.next_unset_from.ensures

pub returns-clause-in_range : goal.returns-clause-in_range
returns-clause-in_range c =
    passed_in_range c.args.queue.now c.args.trail.now.assignments c.args.trail.now.vars c.next_unset_from.result c.is_well_formed.ensures c.requires.vars (returns-clause-passed c)
