use Rattle.std.proofs.Common.{length, ap, ◌∙◌, arith}
use Rattle.std.proofs.lemmas.Result.{err_from_is_err_and}
use Rattle.text_words.specs.Text.{Rest}
use Rattle.aig_ascii.specs.SymbolTables.{Table}
use Rattle.aig_ascii.proofs.FirstFaults.{says-err}
use Rattle.aig_ascii.proofs.SymbolLines.{symbols-fail, symbols-go, names-go, line_after-shorter}
use Rattle.aig_ascii.proofs.symbols.read_symbols.Goals as goal

pub lines-smaller : goal.lines-smaller
lines-smaller g c =
    omega (arith, ap (λ (r : Rest). length r.bytes) c.in_ok-read_symbol_line.ensures.next, line_after-shorter c.lines.cursor.at c.lines.cursor.bytes c.lines-test.ensures.some)

pub lines-preserved : goal.lines-preserved
lines-preserved g c =
    let t = c.lines.table in
    let new = c.read_symbol_line.new.table in
    let r = c.lines.cursor in
    let s = c.read_symbol_line.new.cursor in
    let kept = c.lines.invariant in
    let read = c.in_ok-read_symbol_line.ensures in
    let names = ap (λ (x : Table). x.names) read.table in
    record {
      sizes = ap (λ (x : Table). x.sizes) read.table ∙ kept.sizes;
      demands = symbols-go g.K.FormatKind.kind t new c.args.sizes r s _ kept.sizes c.lines-test.ensures.more kept.demands read.demands names read.next;
      names = names-go t new r s _ c.lines-test.ensures.more kept.names names read.next;
    }

pub returns-in_err-read_symbol_line-clause-demands : goal.returns-in_err-read_symbol_line-clause-demands
returns-in_err-read_symbol_line-clause-demands g c =
    let res = c.from_residual-in_err-read_symbol_line in
    let p = err_from_is_err_and res.result res.ensures.1 in
    let e = c.in_err-read_symbol_line.field-0.0 in
    let kept = c.lines.invariant in
    says-err res.result p.0 e _ p.1 p.2 (symbols-fail g.K.FormatKind.kind e c.lines.table c.args.sizes c.lines.cursor _ kept.sizes c.lines-test.ensures.more kept.demands c.in_err-read_symbol_line.ensures.demands)
