use Rattle.std.proofs.Common.{sym, subst}
use Rattle.aig_model.specs.WellFormed.{IsCircuit}
use Rattle.aig_ascii.proofs.FirstFaults.{none-unmet}
use Rattle.aig_binary.specs.Aig.{demands}
use Rattle.aig_binary.specs.BinaryOrder.{IsBinary}
use Rattle.aig_binary.proofs.RightFile.{file-circuit, file-binary}
use Rattle.aig_binary.proofs.law.spelled_circuits_are_well_formed.Goals as goal

pub returns-clause-circuit : goal.returns-clause-circuit
returns-clause-circuit c bytes d s = subst IsCircuit (sym s.parts) (file-circuit bytes (none-unmet (demands bytes) s.right))

pub returns-clause-binary : goal.returns-clause-binary
returns-clause-binary c bytes d s = subst IsBinary (sym s.parts) (file-binary bytes (none-unmet (demands bytes) s.right))
