use Rattle.std.proofs.Common.{[], ◌∷◌}
use Rattle.std.proofs.lemmas.Result.{err_from_is_err_and}
use Rattle.aig_ascii.specs.Fields.{optional}
use Rattle.aig_ascii.specs.Sections.{literal, is_reset}
use Rattle.aig_ascii.proofs.FirstFaults.{says-err}
use Rattle.aig_ascii.proofs.Wants.{second-fails}
use Rattle.aig_binary.specs.Kinds.{aig_kind}
use Rattle.aig_binary.proofs.lines.read_latch.Goals as goal

pub returns-in_err-reset-clause-demands : goal.returns-in_err-reset-clause-demands
returns-in_err-reset-clause-demands c =
    let p = err_from_is_err_and c.from_residual-in_err-reset.result c.from_residual-in_err-reset.ensures.1 in
    let e = c.in_err-reset.field-0.0 in
    says-err c.from_residual-in_err-reset.result p.0 e _ p.1 p.2
    (second-fails aig_kind e c.args.cursor.now c.literal.new.cursor (literal aig_kind c.args.top) (optional (is_reset aig_kind c.args.lit ∷ [])) [] c.in_ok-next.ensures.demands c.in_ok-next.ensures.passes
    c.in_err-reset.ensures.demands)
