use Rattle.std.proofs.Common.{take}
use Rattle.aig_model.specs.Faults.{AllRight}
use Rattle.aig_model.specs.Marks.{IsMarked}
use Rattle.aig_model.proofs.uses.check_lits.Given as goal

abbrev pub invariant-loop-lit : goal.invariant-loop-lit
invariant-loop-lit l = AllRight (λ _ lit. IsMarked l.defined lit) (take l.lit-index l.lits)
