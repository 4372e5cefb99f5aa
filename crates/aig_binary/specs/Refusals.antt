-- What a refusal says of a circuit.
use Rattle.aig_model.specs.declared.parts.Parts.{Parts}
use Rattle.aig_binary.specs.BinaryOrder.{IsNotBinary}
use Rattle.aig_binary.specs.declared.fault.WriteAigFault.{WriteAigFault}
use Rattle.aig_binary.specs.declared.fault.WriteAigFault.TheVariants.{NotBinary, OutOfMemory}

-- the check of the order takes no memory
abbrev pub IsRefusal : Parts → WriteAigFault → Type 0
IsRefusal c (NotBinary lit) = IsNotBinary c lit
IsRefusal c OutOfMemory = ⊥
