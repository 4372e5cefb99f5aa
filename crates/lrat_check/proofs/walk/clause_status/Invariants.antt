use Rattle.std.proofs.Common.{◌≡◌, take, false}
use Rattle.std.specs.List.{list_any, filter}
use Rattle.cnf_base.specs.Status.{has, is_open, status_by_open}
use Rattle.lrat_check.proofs.walk.clause_status.Given as goal

-- no literal so far is true, and the status is that of the open ones so far
abbrev pub invariant-loop-lit : goal.invariant-loop-lit
invariant-loop-lit l =
    record {
      none_true : list_any (has l.assumed) (take l.lit-index l.clause) ≡ false;
      by_open : l.so_far ≡ status_by_open (filter (is_open l.assumed) (take l.lit-index l.clause));
    }
