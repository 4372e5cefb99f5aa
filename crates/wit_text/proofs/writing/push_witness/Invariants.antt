use Rattle.std.proofs.Common.{◌≡◌, ◌++◌, ◌∷◌, map, take}
use Rattle.std.specs.Prelude.{codes, decimal}
use Rattle.std.specs.List.{flat_map}
use Rattle.wit_text.specs.WitnessText.{line_text, bits_line}
use Rattle.wit_text.proofs.writing.push_witness.Given as goal

abbrev pub invariant-loop-row : goal.invariant-loop-row
invariant-loop-row l =
    l.out.items ≡ l.fn.out.items ++ flat_map line_text (codes "1" ∷ (codes "b" ++ decimal l.property) ∷ bits_line l.trace.start ∷ map bits_line (take l.row l.trace.rows.rows))
