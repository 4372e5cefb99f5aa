use Rattle.std.proofs.Common.{[], ◌∷◌}
use Rattle.std.proofs.lemmas.Result.{err_from_is_err_and}
use Rattle.aig_ascii.specs.Fields.{Want, wanted}
use Rattle.aig_ascii.specs.Header.{within_limit}
use Rattle.aig_ascii.specs.declared.fault.SharedKind.{SharedKind}
use Rattle.aig_ascii.proofs.FirstFaults.{says-err}
use Rattle.aig_ascii.proofs.Wants.{passed-none, passed-more, passed-fails}
use Rattle.aig_ascii.proofs.header.read_first_sizes.Goals as goal

abbrev size_wanted : {K : Type 0} → (SharedKind → K) → Want K
size_wanted kind = wanted (within_limit kind ∷ [])

pub returns-in_err-top-clause-demands : goal.returns-in_err-top-clause-demands
returns-in_err-top-clause-demands g c =
    let p = err_from_is_err_and c.from_residual.result c.from_residual.ensures.1 in
    let e = c.in_err-top.field-0.0 in
    says-err c.from_residual.result p.0 e _ p.1 p.2 (passed-fails e (size_wanted g.K.FormatKind.kind) ((size_wanted g.K.FormatKind.kind) ∷ (size_wanted g.K.FormatKind.kind) ∷ (size_wanted g.K.FormatKind.kind) ∷ (size_wanted g.K.FormatKind.kind) ∷ []) (passed-none g.K.FormatKind.kind c.args.cursor.now) c.in_err-top.ensures.demands)

pub returns-in_err-inputs-clause-demands : goal.returns-in_err-inputs-clause-demands
returns-in_err-inputs-clause-demands g c =
    let p = err_from_is_err_and c.from_residual-in_err-inputs.result c.from_residual-in_err-inputs.ensures.1 in
    let e = c.in_err-inputs.field-0.0 in
    let k1 = passed-more (size_wanted g.K.FormatKind.kind) (passed-none g.K.FormatKind.kind c.args.cursor.now) c.in_ok-top.ensures.demands c.in_ok-top.ensures.passes in
    says-err c.from_residual-in_err-inputs.result p.0 e _ p.1 p.2 (passed-fails e (size_wanted g.K.FormatKind.kind) ((size_wanted g.K.FormatKind.kind) ∷ (size_wanted g.K.FormatKind.kind) ∷ (size_wanted g.K.FormatKind.kind) ∷ []) k1 c.in_err-inputs.ensures.demands)

pub returns-in_err-latches-clause-demands : goal.returns-in_err-latches-clause-demands
returns-in_err-latches-clause-demands g c =
    let p = err_from_is_err_and c.from_residual-in_err-latches.result c.from_residual-in_err-latches.ensures.1 in
    let e = c.in_err-latches.field-0.0 in
    let k1 = passed-more (size_wanted g.K.FormatKind.kind) (passed-none g.K.FormatKind.kind c.args.cursor.now) c.in_ok-top.ensures.demands c.in_ok-top.ensures.passes in
    let k2 = passed-more (size_wanted g.K.FormatKind.kind) k1 c.in_ok-inputs.ensures.demands c.in_ok-inputs.ensures.passes in
    says-err c.from_residual-in_err-latches.result p.0 e _ p.1 p.2 (passed-fails e (size_wanted g.K.FormatKind.kind) ((size_wanted g.K.FormatKind.kind) ∷ (size_wanted g.K.FormatKind.kind) ∷ []) k2 c.in_err-latches.ensures.demands)

pub returns-in_err-outputs-clause-demands : goal.returns-in_err-outputs-clause-demands
returns-in_err-outputs-clause-demands g c =
    let p = err_from_is_err_and c.from_residual-in_err-outputs.result c.from_residual-in_err-outputs.ensures.1 in
    let e = c.in_err-outputs.field-0.0 in
    let k1 = passed-more (size_wanted g.K.FormatKind.kind) (passed-none g.K.FormatKind.kind c.args.cursor.now) c.in_ok-top.ensures.demands c.in_ok-top.ensures.passes in
    let k2 = passed-more (size_wanted g.K.FormatKind.kind) k1 c.in_ok-inputs.ensures.demands c.in_ok-inputs.ensures.passes in
    let k3 = passed-more (size_wanted g.K.FormatKind.kind) k2 c.in_ok-latches.ensures.demands c.in_ok-latches.ensures.passes in
    says-err c.from_residual-in_err-outputs.result p.0 e _ p.1 p.2 (passed-fails e (size_wanted g.K.FormatKind.kind) ((size_wanted g.K.FormatKind.kind) ∷ []) k3 c.in_err-outputs.ensures.demands)

pub returns-in_err-gates-clause-demands : goal.returns-in_err-gates-clause-demands
returns-in_err-gates-clause-demands g c =
    let p = err_from_is_err_and c.from_residual-in_err-gates.result c.from_residual-in_err-gates.ensures.1 in
    let e = c.in_err-gates.field-0.0 in
    let k1 = passed-more (size_wanted g.K.FormatKind.kind) (passed-none g.K.FormatKind.kind c.args.cursor.now) c.in_ok-top.ensures.demands c.in_ok-top.ensures.passes in
    let k2 = passed-more (size_wanted g.K.FormatKind.kind) k1 c.in_ok-inputs.ensures.demands c.in_ok-inputs.ensures.passes in
    let k3 = passed-more (size_wanted g.K.FormatKind.kind) k2 c.in_ok-latches.ensures.demands c.in_ok-latches.ensures.passes in
    let k4 = passed-more (size_wanted g.K.FormatKind.kind) k3 c.in_ok-outputs.ensures.demands c.in_ok-outputs.ensures.passes in
    says-err c.from_residual-in_err-gates.result p.0 e _ p.1 p.2 (passed-fails e (size_wanted g.K.FormatKind.kind) [] k4 c.in_err-gates.ensures.demands)

pub returns-clause-demands : goal.returns-clause-demands
returns-clause-demands g c =
    let k1 = passed-more (size_wanted g.K.FormatKind.kind) (passed-none g.K.FormatKind.kind c.args.cursor.now) c.in_ok-top.ensures.demands c.in_ok-top.ensures.passes in
    let k2 = passed-more (size_wanted g.K.FormatKind.kind) k1 c.in_ok-inputs.ensures.demands c.in_ok-inputs.ensures.passes in
    let k3 = passed-more (size_wanted g.K.FormatKind.kind) k2 c.in_ok-latches.ensures.demands c.in_ok-latches.ensures.passes in
    let k4 = passed-more (size_wanted g.K.FormatKind.kind) k3 c.in_ok-outputs.ensures.demands c.in_ok-outputs.ensures.passes in
    let k5 = passed-more (size_wanted g.K.FormatKind.kind) k4 c.in_ok-gates.ensures.demands c.in_ok-gates.ensures.passes in
    k5.met

pub returns-clause-passes : goal.returns-clause-passes
returns-clause-passes g c =
    let k1 = passed-more (size_wanted g.K.FormatKind.kind) (passed-none g.K.FormatKind.kind c.args.cursor.now) c.in_ok-top.ensures.demands c.in_ok-top.ensures.passes in
    let k2 = passed-more (size_wanted g.K.FormatKind.kind) k1 c.in_ok-inputs.ensures.demands c.in_ok-inputs.ensures.passes in
    let k3 = passed-more (size_wanted g.K.FormatKind.kind) k2 c.in_ok-latches.ensures.demands c.in_ok-latches.ensures.passes in
    let k4 = passed-more (size_wanted g.K.FormatKind.kind) k3 c.in_ok-outputs.ensures.demands c.in_ok-outputs.ensures.passes in
    let k5 = passed-more (size_wanted g.K.FormatKind.kind) k4 c.in_ok-gates.ensures.demands c.in_ok-gates.ensures.passes in
    k5.passes
