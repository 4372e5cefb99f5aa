use Rattle.std.proofs.Common.{◌≡◌, ◌++◌, take}
use Rattle.std.specs.List.{flat_map, AllByRecursion}
use Rattle.lrat_text.specs.Lrat.{IsLiteral}
use Rattle.lrat_text.specs.Text.{number_text}
use Rattle.lrat_text.proofs.writing.write_literals.Given as goal

abbrev pub invariant-loop-lit : goal.invariant-loop-lit
invariant-loop-lit l = record {
  written : l.text.items ≡ l.fn.text.items ++ flat_map number_text (take l.lit-index l.lit-items);
  literals : AllByRecursion IsLiteral (take l.lit-index l.lit-items);
}
