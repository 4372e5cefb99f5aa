-- Which kinds of the binary format the faults of the parts are that it shares with the ASCII format.
use Rattle.aig_ascii.specs.declared.fault.SharedKind.{SharedKind}
use Rattle.aig_ascii.specs.declared.fault.SharedKind.TheVariants as shared
use Rattle.aig_binary.specs.declared.fault.AigKind.{AigKind}
use Rattle.aig_binary.specs.declared.fault.AigKind.TheVariants as kinds

abbrev pub aig_kind : SharedKind → AigKind
aig_kind shared.Header = kinds.Header
aig_kind shared.Number = kinds.Number
aig_kind shared.Range = kinds.Range
aig_kind shared.Reset = kinds.Reset
aig_kind shared.Symbol = kinds.Symbol
aig_kind shared.Truncated = kinds.Truncated
aig_kind shared.Liveness = kinds.Liveness
aig_kind shared.Limit = kinds.Limit
