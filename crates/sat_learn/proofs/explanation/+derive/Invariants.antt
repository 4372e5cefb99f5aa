use Rattle.std.proofs.Common.{◌≡◌, true, ℤ, nat_abs, [], ◌∷◌, take}
use Rattle.cnf_base.specs.Status.{has}
use Rattle.sat_learn.specs.Premises.{IsFoundIn}
use Rattle.sat_learn.specs.Resolving.{is_marked}
use Rattle.sat_learn.specs.Explaining.{IsNoted}
use Rattle.sat_learn.proofs.explanation.+derive.Given as goal

abbrev pub decreases-derive : goal.decreases-derive
decreases-derive l = l.depth

-- the literals so far that the literal rests on are marked
abbrev pub invariant-loop-other : goal.invariant-loop-other
invariant-loop-other l =
    record {
      noted : IsNoted l.marks l.derivation.marked.items;
      found : IsFoundIn l.premises (l.lit ∷ []) l.initial.marks l.initial.derivation.hints.items l.marks l.derivation.hints.items;
      marked : (m : ℤ) → has (take l.other-index l.found.lits.now) m ≡ true → (nat_abs m ≡ nat_abs l.lit → ⊥) → is_marked l.marks m ≡ true;
    }
