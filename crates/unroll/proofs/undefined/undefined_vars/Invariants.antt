use Rattle.std.proofs.Common.{◌≡◌, ◌-◌, filter}
use Rattle.std.specs.List.{range_with_len}
use Rattle.unroll.proofs.UndefinedVars.{is_undefined}
use Rattle.unroll.proofs.undefined.undefined_vars.Given as goal

abbrev pub invariant-loop-var : goal.invariant-loop-var
invariant-loop-var l = l.vars.items ≡ filter (is_undefined l.circuit) (range_with_len 1 (l.var - 1))
