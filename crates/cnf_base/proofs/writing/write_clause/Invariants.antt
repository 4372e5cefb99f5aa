use Rattle.std.proofs.Common.{◌≡◌, ◌≢◌, ◌++◌, pos, take}
use Rattle.std.specs.List.{flat_map, AllByRecursion}
use Rattle.cnf_base.specs.Text.{literal_text}
use Rattle.cnf_base.proofs.writing.write_clause.Given as goal

abbrev pub invariant-loop-lit : goal.invariant-loop-lit
invariant-loop-lit l = record {
  written : l.text.items ≡ l.fn.text.items ++ flat_map literal_text (take l.lit-index l.lit-items);
  not_zero : AllByRecursion (λ z. z ≢ pos 0) (take l.lit-index l.lit-items);
}
