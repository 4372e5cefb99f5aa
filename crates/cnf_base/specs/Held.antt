-- The literals that a clause keeps.
use Rattle.std.specs.Prelude.{ℤ, List, []}
use Rattle.cnf_base.specs.declared.held.Held.{Held}
use Rattle.cnf_base.specs.declared.held.Held.TheVariants.{None, One, Two, Three, Many}

abbrev pub lits_of : Held → List ℤ
lits_of None = []
lits_of (One lits) = lits
lits_of (Two lits) = lits
lits_of (Three lits) = lits
lits_of (Many lits) = lits.value.items
