use Rattle.std.proofs.lemmas.Result.{err_from_is_err_and}
use Rattle.std.proofs.Common.{ap, ◌∙◌}
use Rattle.aig_ascii.specs.Aag.{parts_in}
use Rattle.aig_ascii.proofs.FirstFaults.{says-err}
use Rattle.aig_ascii.proofs.WholeText.{header-fails, body-fails, all-met, layout-read}
use Rattle.aig_ascii.proofs.reading.read_parts.Goals as goal

pub returns-in_err-sizes-clause-demands : goal.returns-in_err-sizes-clause-demands
returns-in_err-sizes-clause-demands c =
    let p = err_from_is_err_and c.from_residual.result c.from_residual.ensures.1 in
    let e = c.in_err-sizes.field-0.0 in
    says-err c.from_residual.result p.0 e _ p.1 p.2 (header-fails e c.args.bytes.now c.new-cursor.result c.new-cursor.ensures c.in_err-sizes.ensures.demands)

pub returns-in_err-parts-clause-demands : goal.returns-in_err-parts-clause-demands
returns-in_err-parts-clause-demands c =
    let p = err_from_is_err_and c.from_residual-in_err-parts.result c.from_residual-in_err-parts.ensures.1 in
    let e = c.in_err-parts.field-0.0 in
    let head = c.in_ok-sizes.ensures in
    says-err c.from_residual-in_err-parts.result p.0 e _ p.1 p.2
    (body-fails e c.args.bytes.now c.new-cursor.result c.read_header.new.cursor c.in_ok-sizes.sizes c.new-cursor.ensures head.demands head.sizes head.next c.in_err-parts.ensures.demands)

pub returns-clause-demands : goal.returns-clause-demands
returns-clause-demands c =
    let head = c.in_ok-sizes.ensures in
    all-met c.args.bytes.now c.new-cursor.result c.read_header.new.cursor c.in_ok-sizes.sizes c.new-cursor.ensures head.demands head.sizes head.next c.in_ok-parts.ensures.demands

pub returns-clause-parts : goal.returns-clause-parts
returns-clause-parts c =
    let head = c.in_ok-sizes.ensures in
    c.in_ok-parts.ensures.parts ∙ ap parts_in (layout-read c.args.bytes.now c.new-cursor.result c.read_header.new.cursor c.in_ok-sizes.sizes c.new-cursor.ensures head.sizes head.next)
