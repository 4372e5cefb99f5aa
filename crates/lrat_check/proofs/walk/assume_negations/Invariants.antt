use Rattle.std.proofs.Common.{◌≡◌, take, map, neg_ℤ, false}
use Rattle.cnf_base.specs.Status.{is_tautology}
use Rattle.lrat_check.proofs.walk.assume_negations.Given as goal

-- the literals so far are assumed negated, and none of them stands both ways among them
abbrev pub invariant-loop-lit : goal.invariant-loop-lit
invariant-loop-lit l =
    record {
      so_far : l.assumed ≡ map neg_ℤ (take l.lit-index l.lits);
      plain : is_tautology (take l.lit-index l.lits) ≡ false;
    }
