use Rattle.cnf_base.proofs.Status.{satisfied_says, satisfied_from, falsified_says, falsified_from, unit_says, unit_from, unresolved_says, unresolved_from}
use Rattle.cnf_base.proofs.law.each_status_is_of_its_literals.Goals as goal

pub returns-clause-satisfied : goal.returns-clause-satisfied
returns-clause-satisfied c assumed clause = (satisfied_says assumed clause, satisfied_from assumed clause)

pub returns-clause-falsified : goal.returns-clause-falsified
returns-clause-falsified c assumed clause = (falsified_says assumed clause, falsified_from assumed clause)

pub returns-clause-unit : goal.returns-clause-unit
returns-clause-unit c assumed clause l = (unit_says assumed clause l, unit_from assumed clause l)

pub returns-clause-unresolved : goal.returns-clause-unresolved
returns-clause-unresolved c assumed clause = (unresolved_says assumed clause, unresolved_from assumed clause)
