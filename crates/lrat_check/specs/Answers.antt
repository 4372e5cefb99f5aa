-- Which fault a call answers: out of memory, or the first that its input has.
use Rattle.std.specs.Prelude.{◌≡◌, ℕ, Option, Some}
use Rattle.lrat_check.specs.declared.fault.ProofKind.{ProofKind}
use Rattle.lrat_check.specs.declared.fault.AddFault.{AddFault}
use Rattle.lrat_check.specs.declared.fault.AddFault.TheVariants.{Kind, OutOfMemory as NoMemoryToAdd}
use Rattle.lrat_check.specs.declared.fault.ProofFault.{ProofFault}
use Rattle.lrat_check.specs.declared.fault.ProofFault.TheVariants.{At, OutOfMemory as NoMemoryToCheck}

abbrev pub IsStepFault : Option ProofKind → AddFault → Type 0
IsStepFault first (Kind kind) = first ≡ Some kind
IsStepFault first NoMemoryToAdd = Unit {0}

-- the same of a call that takes no memory
abbrev pub IsDeleteFault : Option ProofKind → AddFault → Type 0
IsDeleteFault first (Kind kind) = first ≡ Some kind
IsDeleteFault first NoMemoryToAdd = ⊥

abbrev pub IsProofFault : Option (ℕ × ProofKind) → ProofFault → Type 0
IsProofFault first (At step kind) = first ≡ Some (step, kind)
IsProofFault first NoMemoryToCheck = Unit {0}
