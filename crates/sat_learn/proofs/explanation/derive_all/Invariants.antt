use Rattle.std.proofs.Common.{◌≡◌, true, ℤ, take}
use Rattle.cnf_base.specs.Status.{has}
use Rattle.sat_learn.specs.Premises.{IsFoundIn}
use Rattle.sat_learn.specs.Resolving.{is_marked}
use Rattle.sat_learn.specs.Explaining.{IsNoted}
use Rattle.sat_learn.proofs.explanation.derive_all.Given as goal

-- the literals so far are marked
abbrev pub invariant-loop-lit : goal.invariant-loop-lit
invariant-loop-lit l =
    record {
      noted : IsNoted l.marks l.derivation.marked.items;
      found : IsFoundIn l.premises l.clause l.initial.marks l.initial.derivation.hints.items l.marks l.derivation.hints.items;
      marked : (m : ℤ) → has (take l.lit-index l.clause) m ≡ true → is_marked l.marks m ≡ true;
    }
