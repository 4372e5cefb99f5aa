use Rattle.std.proofs.Common.{◌≡◌, ℕ, take, drop, ap, ◌∙◌}
use Rattle.std.proofs.lemmas.Result.{err_from_is_err_and}
use Rattle.aig_ascii.specs.Header.{header_wants, sizes_in, size_at}
use Rattle.text_words.specs.Text.{fields}
use Rattle.aig_ascii.specs.declared.header.Sizes.{Sizes}
use Rattle.aig_ascii.proofs.FirstFaults.{says-err}
use Rattle.aig_ascii.proofs.Wants.{wants-fail-front, wants-fail, wants-met, passes-both, number-passed}
use Rattle.aig_ascii.proofs.header.read_sizes.Goals as goal

pub returns-in_err-first-clause-demands : goal.returns-in_err-first-clause-demands
returns-in_err-first-clause-demands g c =
    let p = err_from_is_err_and c.from_residual.result c.from_residual.ensures.1 in
    let e = c.in_err-first.field-0.0 in
    says-err c.from_residual.result p.0 e _ p.1 p.2 (wants-fail-front g.K.FormatKind.kind e c.args.cursor.now (take 5 (header_wants g.K.FormatKind.kind)) (drop 5 (header_wants g.K.FormatKind.kind)) c.in_err-first.ensures.demands)

pub returns-in_err-bads-clause-demands : goal.returns-in_err-bads-clause-demands
returns-in_err-bads-clause-demands g c =
    let p = err_from_is_err_and c.from_residual-in_err-bads.result c.from_residual-in_err-bads.ensures.1 in
    let e = c.in_err-bads.field-0.0 in
    says-err c.from_residual-in_err-bads.result p.0 e _ p.1 p.2
    (wants-fail g.K.FormatKind.kind e c.args.cursor.now c.read_first_sizes.new.cursor (take 5 (header_wants g.K.FormatKind.kind)) (drop 5 (header_wants g.K.FormatKind.kind)) c.in_ok-first.ensures.passes c.in_ok-first.ensures.demands c.in_err-bads.ensures.demands)

pub returns-clause-demands : goal.returns-clause-demands
returns-clause-demands g c =
    wants-met g.K.FormatKind.kind c.args.cursor.now c.read_first_sizes.new.cursor (take 5 (header_wants g.K.FormatKind.kind)) (drop 5 (header_wants g.K.FormatKind.kind)) c.in_ok-first.ensures.passes c.in_ok-first.ensures.demands c.in_ok-bads.ensures.demands

pub returns-clause-sizes : goal.returns-clause-sizes
returns-clause-sizes g c =
    let r = c.args.cursor.now in
    let s = c.read_first_sizes.new.cursor in
    let first = c.in_ok-first.first in
    let bads : c.in_ok-bads.bads ≡ size_at (fields r) 5 = c.in_ok-bads.ensures.bads ∙ number-passed 5 0 r s c.in_ok-first.ensures.passes in
    let constraints : c.in_ok-bads.constraints ≡ size_at (fields r) 6 = c.in_ok-bads.ensures.constraints ∙ number-passed 5 1 r s c.in_ok-first.ensures.passes in
    ap (λ (x : Sizes). record x { bads = c.in_ok-bads.bads; constraints = c.in_ok-bads.constraints }) c.in_ok-first.ensures.sizes
    ∙ ap (λ (n : ℕ). record (sizes_in (fields r)) { bads = n; constraints = c.in_ok-bads.constraints }) bads
    ∙ ap (λ (n : ℕ). record (sizes_in (fields r)) { constraints = n }) constraints

pub returns-clause-passes : goal.returns-clause-passes
returns-clause-passes g c =
    passes-both 4 5 c.args.cursor.now c.read_first_sizes.new.cursor c.read_last_sizes.new.cursor c.in_ok-first.ensures.passes c.in_ok-bads.ensures.passes
