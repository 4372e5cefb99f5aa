-- Which kinds of the ASCII format the faults of the parts are that it shares with the binary format.
use Rattle.aig_ascii.specs.declared.fault.SharedKind.{SharedKind}
use Rattle.aig_ascii.specs.declared.fault.SharedKind.TheVariants as shared
use Rattle.aig_ascii.specs.declared.fault.AagKind.{AagKind}
use Rattle.aig_ascii.specs.declared.fault.AagKind.TheVariants as kinds

abbrev pub aag_kind : SharedKind → AagKind
aag_kind shared.Header = kinds.Header
aag_kind shared.Number = kinds.Number
aag_kind shared.Range = kinds.Range
aag_kind shared.Reset = kinds.Reset
aag_kind shared.Symbol = kinds.Symbol
aag_kind shared.Truncated = kinds.Truncated
aag_kind shared.Liveness = kinds.Liveness
aag_kind shared.Limit = kinds.Limit
