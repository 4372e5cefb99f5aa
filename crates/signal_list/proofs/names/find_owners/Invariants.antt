use Rattle.std.proofs.Common.{take}
use Rattle.signal_list.specs.Names.{TellsOwners, KeepsNames}
use Rattle.signal_list.proofs.names.find_owners.Given as goal

abbrev pub invariant-loop-symbol : goal.invariant-loop-symbol
invariant-loop-symbol l = record {
  keeps : KeepsNames l.fn.names l.owners;
  tells : TellsOwners (take l.symbol-index l.symbols) l.owners;
}
