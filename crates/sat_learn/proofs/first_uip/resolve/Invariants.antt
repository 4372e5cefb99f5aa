use Rattle.std.proofs.Common.{◌<◌}
use Rattle.std.specs.List.{All}
use Rattle.cnf_base.specs.Dimacs.{IsLiteral}
use Rattle.sat_learn.specs.Premises.{ResolvesIn}
use Rattle.sat_learn.specs.Resolving.{IsLastMarked}
use Rattle.sat_learn.specs.Tracking.{IsTracked}
use Rattle.sat_learn.proofs.first_uip.resolve.Given as goal

-- the literal at the place so far is the last marked one
abbrev pub invariant-loop-analysis : goal.invariant-loop-analysis
invariant-loop-analysis l =
    record {
      tracked : IsTracked l.premises.trail l.marks l.analysis.kept.items l.analysis.root_lits.items l.analysis.open_count;
      last : IsLastMarked l.premises.trail l.marks l.at;
      count : 0 < l.analysis.open_count;
      met : All (IsLiteral l.premises.trail.vars) l.met.items;
      resolves : ResolvesIn l.premises l.initial.marks l.initial.analysis.hints.items l.marks l.analysis.hints.items;
    }

abbrev pub decreases-loop-analysis : goal.decreases-loop-analysis
decreases-loop-analysis l = l.at
