use Rattle.std.proofs.Common.{◌≡◌, take}
use Rattle.std.specs.List.{flat_map, AllByRecursion}
use Rattle.lrat_text.specs.Text.{step_text, HasLiterals}
use Rattle.lrat_text.proofs.writing.write_lrat.Given as goal

abbrev pub invariant-loop-step : goal.invariant-loop-step
invariant-loop-step l = record {
  written : l.text.items ≡ flat_map step_text (take l.step-index l.step-items);
  literals : AllByRecursion HasLiterals (take l.step-index l.step-items);
}
