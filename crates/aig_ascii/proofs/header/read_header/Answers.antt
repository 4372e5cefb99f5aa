use Rattle.std.proofs.Common.{◌≡◌, true, false, Some, sym, ap, ◌∙◌}
use Rattle.std.proofs.lemmas.Result.{err_from_is_err_and}
use Rattle.aig_ascii.specs.Header.{magic_of, fits, sizes_in, sizes_of}
use Rattle.aig_ascii.specs.declared.fault.SharedKind.TheVariants.{Header}
use Rattle.aig_ascii.proofs.FirstFaults.{says-err}
use Rattle.aig_ascii.proofs.Heads.{magic-is, starts-with, header-numbers-fail, header-top-fails, header-end-fails, header-met}
use Rattle.aig_ascii.proofs.header.read_header.Goals as goal

pub magic-requires : goal.magic-requires
magic-requires g c = (magic_of c.args.format, magic-is c.args.format c.magic_word.result.now c.magic_word.ensures)

pub returns-in_err-sizes-clause-demands : goal.returns-in_err-sizes-clause-demands
returns-in_err-sizes-clause-demands g c =
    let p = err_from_is_err_and c.from_residual.result c.from_residual.ensures.1 in
    let e = c.in_err-sizes.field-0.0 in
    let r = c.args.cursor.now in
    let s = c.magic.new.self in
    let starts = starts-with c.args.format r c.magic_word.result.now c.magic_word.ensures c.if-not-magic.ensures.value in
    let past = c.if-not-magic.ensures.passes in
    says-err c.from_residual.result p.0 e _ p.1 p.2 (header-numbers-fail g.K.FormatKind.kind e c.args.format r s starts past c.in_err-sizes.ensures.demands)

pub returns-then-not-fits-clause-demands : goal.returns-then-not-fits-clause-demands
returns-then-not-fits-clause-demands g c =
    let r = c.args.cursor.now in
    let s = c.magic.new.self in
    let starts = starts-with c.args.format r c.magic_word.result.now c.magic_word.ensures c.if-not-magic.ensures.value in
    let past = c.if-not-magic.ensures.passes in
    let sizes = c.in_ok-sizes.ensures.sizes ∙ ap sizes_in past.others in
    let other : fits c.args.format (sizes_of r) ≡ false = ap (fits c.args.format) (sym sizes) ∙ sym c.fits.ensures ∙ c.if-not-fits.true in
    header-top-fails g.K.FormatKind.kind c.args.format r s starts past c.in_ok-sizes.ensures.demands other ∙ ap (λ n. Some (n, g.K.FormatKind.kind Header)) (sym c.at-at-2.ensures)
    ∙ ap (λ k. Some (c.at-at-2.result, k)) (sym c.of-then-not-fits.ensures)

pub returns-in_err-end_line-clause-demands : goal.returns-in_err-end_line-clause-demands
returns-in_err-end_line-clause-demands g c =
    let p = err_from_is_err_and c.from_residual-in_err-end_line.result c.from_residual-in_err-end_line.ensures.1 in
    let e = c.in_err-end_line.field-0.0 in
    let r = c.args.cursor.now in
    let s = c.magic.new.self in
    let starts = starts-with c.args.format r c.magic_word.result.now c.magic_word.ensures c.if-not-magic.ensures.value in
    let past = c.if-not-magic.ensures.passes in
    let sizes = c.in_ok-sizes.ensures.sizes ∙ ap sizes_in past.others in
    let room : fits c.args.format (sizes_of r) ≡ true = ap (fits c.args.format) (sym sizes) ∙ sym c.fits.ensures ∙ c.if-not-fits.false in
    says-err c.from_residual-in_err-end_line.result p.0 e _ p.1 p.2
    (header-end-fails g.K.FormatKind.kind e c.args.format r s c.read_sizes.new.cursor starts past c.in_ok-sizes.ensures.demands room c.in_ok-sizes.ensures.passes c.in_err-end_line.ensures.demands)

pub returns-clause-demands : goal.returns-clause-demands
returns-clause-demands g c =
    let r = c.args.cursor.now in
    let s = c.magic.new.self in
    let starts = starts-with c.args.format r c.magic_word.result.now c.magic_word.ensures c.if-not-magic.ensures.value in
    let past = c.if-not-magic.ensures.passes in
    let sizes = c.in_ok-sizes.ensures.sizes ∙ ap sizes_in past.others in
    let room : fits c.args.format (sizes_of r) ≡ true = ap (fits c.args.format) (sym sizes) ∙ sym c.fits.ensures ∙ c.if-not-fits.false in
    header-met g.K.FormatKind.kind c.args.format r s c.read_sizes.new.cursor starts past c.in_ok-sizes.ensures.demands room c.in_ok-sizes.ensures.passes c.in_ok-end_line.ensures.demands
