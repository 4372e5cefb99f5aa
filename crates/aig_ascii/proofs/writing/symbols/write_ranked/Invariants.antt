use Rattle.std.proofs.Common.{◌≡◌, ◌++◌, take}
use Rattle.std.specs.List.{flat_map}
use Rattle.aig_ascii.specs.CircuitText.{symbol_text}
use Rattle.aig_ascii.specs.NameOrder.{names_by}
use Rattle.aig_ascii.proofs.writing.symbols.write_ranked.Given as goal

abbrev pub invariant-loop-ranked : goal.invariant-loop-ranked
invariant-loop-ranked l = l.text.items ≡ l.fn.text.items ++ flat_map symbol_text (names_by l.names (take l.ranked-index l.ranks))
