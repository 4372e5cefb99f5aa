use Rattle.aig_ascii.specs.NameOrder.{AreRanks}
use Rattle.aig_ascii.proofs.writing.names.ranks.Given as goal

abbrev pub invariant-loop-index : goal.invariant-loop-index
invariant-loop-index l = AreRanks l.names l.index l.ranks.items
