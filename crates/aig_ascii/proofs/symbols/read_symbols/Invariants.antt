use Rattle.std.proofs.Common.{◌≡◌, ◌++◌, [], length}
use Rattle.text_words.specs.Text.{all_lines}
use Rattle.aig_ascii.specs.Symbols.{symbol_lines, symbol_demands, symbols_of}
use Rattle.aig_ascii.specs.FirstFaults.{first_unmet}
use Rattle.aig_ascii.proofs.symbols.read_symbols.Given as goal

abbrev pub invariant-lines : goal.invariant-lines
invariant-lines g l = record {
  sizes : l.table.sizes ≡ l.fn.sizes;
  demands : first_unmet (symbol_demands g.K.FormatKind.kind l.fn.sizes l.table.names (symbol_lines (all_lines l.cursor))) ≡ first_unmet (symbol_demands g.K.FormatKind.kind l.fn.sizes [] (symbol_lines (all_lines l.fn.cursor)));
  names : l.table.names ++ symbols_of (symbol_lines (all_lines l.cursor)) ≡ symbols_of (symbol_lines (all_lines l.fn.cursor));
}

abbrev pub decreases-lines : goal.decreases-lines
decreases-lines g l = length l.cursor.bytes
