use Rattle.std.proofs.Common.{◌≡◌, ◌++◌, take}
use Rattle.std.specs.List.{flat_map}
use Rattle.aig_ascii.specs.CircuitText.{lit_text}
use Rattle.aig_ascii.proofs.writing.lines.write_lits.Given as goal

abbrev pub invariant-loop-lit : goal.invariant-loop-lit
invariant-loop-lit l = l.text.items ≡ l.fn.text.items ++ flat_map lit_text (take l.lit-index l.lits)
