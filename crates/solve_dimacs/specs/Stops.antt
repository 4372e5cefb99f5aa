-- Which stop a fault of the files or of memory becomes.
use Rattle.std.specs.Prelude.{◌≡◌, ◌⊎◌}
use Rattle.run_io.specs.declared.read.ReadFault.{ReadFault}
use Rattle.run_io.specs.declared.read.ReadFault.TheVariants as reads
use Rattle.cnf_base.specs.declared.fault.DimacsFault.{DimacsFault}
use Rattle.cnf_base.specs.declared.fault.DimacsFault.TheVariants as faults
use Rattle.solve_dimacs.specs.declared.stop.Stop.{Stop}
use Rattle.solve_dimacs.specs.declared.stop.Stop.TheVariants.{BadFormula, OutOfMemory}

abbrev pub of_read : ReadFault → Stop
of_read reads.Failed = BadFormula
of_read reads.TooLong = BadFormula
of_read reads.OutOfMemory = OutOfMemory

abbrev pub of_formula : DimacsFault → Stop
of_formula (faults.At line kind) = BadFormula
of_formula faults.OutOfMemory = OutOfMemory

-- what keeps a formula from being answered
abbrev pub IsWithoutAnswer : Stop → Type 0
IsWithoutAnswer stop = (stop ≡ BadFormula) ⊎ (stop ≡ OutOfMemory)
