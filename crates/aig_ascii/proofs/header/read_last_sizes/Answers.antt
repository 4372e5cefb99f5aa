use Rattle.std.proofs.Common.{[], ◌∷◌}
use Rattle.std.proofs.lemmas.Result.{err_from_is_err_and}
use Rattle.aig_ascii.specs.Fields.{Want, optional}
use Rattle.aig_ascii.specs.Header.{within_limit, no_liveness}
use Rattle.aig_ascii.specs.declared.fault.SharedKind.{SharedKind}
use Rattle.aig_ascii.proofs.FirstFaults.{says-err}
use Rattle.aig_ascii.proofs.Wants.{passed-none, passed-more, passed-fails}
use Rattle.aig_ascii.proofs.header.read_last_sizes.Goals as goal

abbrev last_wanted : {K : Type 0} → (SharedKind → K) → Want K
last_wanted kind = optional (within_limit kind ∷ [])

abbrev none_wanted : {K : Type 0} → (SharedKind → K) → Want K
none_wanted kind = optional (within_limit kind ∷ no_liveness kind ∷ [])

pub returns-in_err-bads-clause-demands : goal.returns-in_err-bads-clause-demands
returns-in_err-bads-clause-demands g c =
    let p = err_from_is_err_and c.from_residual.result c.from_residual.ensures.1 in
    let e = c.in_err-bads.field-0.0 in
    says-err c.from_residual.result p.0 e _ p.1 p.2 (passed-fails e (last_wanted g.K.FormatKind.kind) ((last_wanted g.K.FormatKind.kind) ∷ (none_wanted g.K.FormatKind.kind) ∷ (none_wanted g.K.FormatKind.kind) ∷ []) (passed-none g.K.FormatKind.kind c.args.cursor.now) c.in_err-bads.ensures.demands)

pub returns-in_err-constraints-clause-demands : goal.returns-in_err-constraints-clause-demands
returns-in_err-constraints-clause-demands g c =
    let p = err_from_is_err_and c.from_residual-in_err-constraints.result c.from_residual-in_err-constraints.ensures.1 in
    let e = c.in_err-constraints.field-0.0 in
    let k1 = passed-more (last_wanted g.K.FormatKind.kind) (passed-none g.K.FormatKind.kind c.args.cursor.now) c.in_ok-bads.ensures.demands c.in_ok-bads.ensures.passes in
    says-err c.from_residual-in_err-constraints.result p.0 e _ p.1 p.2 (passed-fails e (last_wanted g.K.FormatKind.kind) ((none_wanted g.K.FormatKind.kind) ∷ (none_wanted g.K.FormatKind.kind) ∷ []) k1 c.in_err-constraints.ensures.demands)

pub returns-in_err-no_liveness-clause-demands : goal.returns-in_err-no_liveness-clause-demands
returns-in_err-no_liveness-clause-demands g c =
    let p = err_from_is_err_and c.from_residual-in_err-no_liveness.result c.from_residual-in_err-no_liveness.ensures.1 in
    let e = c.in_err-no_liveness.field-0.0 in
    let k1 = passed-more (last_wanted g.K.FormatKind.kind) (passed-none g.K.FormatKind.kind c.args.cursor.now) c.in_ok-bads.ensures.demands c.in_ok-bads.ensures.passes in
    let k2 = passed-more (last_wanted g.K.FormatKind.kind) k1 c.in_ok-constraints.ensures.demands c.in_ok-constraints.ensures.passes in
    says-err c.from_residual-in_err-no_liveness.result p.0 e _ p.1 p.2 (passed-fails e (none_wanted g.K.FormatKind.kind) ((none_wanted g.K.FormatKind.kind) ∷ []) k2 c.in_err-no_liveness.ensures.demands)

pub returns-in_err-no_liveness-2-clause-demands : goal.returns-in_err-no_liveness-2-clause-demands
returns-in_err-no_liveness-2-clause-demands g c =
    let p = err_from_is_err_and c.from_residual-in_err-no_liveness-2.result c.from_residual-in_err-no_liveness-2.ensures.1 in
    let e = c.in_err-no_liveness-2.field-0.0 in
    let k1 = passed-more (last_wanted g.K.FormatKind.kind) (passed-none g.K.FormatKind.kind c.args.cursor.now) c.in_ok-bads.ensures.demands c.in_ok-bads.ensures.passes in
    let k2 = passed-more (last_wanted g.K.FormatKind.kind) k1 c.in_ok-constraints.ensures.demands c.in_ok-constraints.ensures.passes in
    let k3 = passed-more (none_wanted g.K.FormatKind.kind) k2 c.in_ok-no_liveness.ensures.demands c.in_ok-no_liveness.ensures.passes in
    says-err c.from_residual-in_err-no_liveness-2.result p.0 e _ p.1 p.2 (passed-fails e (none_wanted g.K.FormatKind.kind) [] k3 c.in_err-no_liveness-2.ensures.demands)

pub returns-clause-demands : goal.returns-clause-demands
returns-clause-demands g c =
    let k1 = passed-more (last_wanted g.K.FormatKind.kind) (passed-none g.K.FormatKind.kind c.args.cursor.now) c.in_ok-bads.ensures.demands c.in_ok-bads.ensures.passes in
    let k2 = passed-more (last_wanted g.K.FormatKind.kind) k1 c.in_ok-constraints.ensures.demands c.in_ok-constraints.ensures.passes in
    let k3 = passed-more (none_wanted g.K.FormatKind.kind) k2 c.in_ok-no_liveness.ensures.demands c.in_ok-no_liveness.ensures.passes in
    let k4 = passed-more (none_wanted g.K.FormatKind.kind) k3 c.in_ok-no_liveness-2.ensures.demands c.in_ok-no_liveness-2.ensures.passes in
    k4.met

pub returns-clause-passes : goal.returns-clause-passes
returns-clause-passes g c =
    let k1 = passed-more (last_wanted g.K.FormatKind.kind) (passed-none g.K.FormatKind.kind c.args.cursor.now) c.in_ok-bads.ensures.demands c.in_ok-bads.ensures.passes in
    let k2 = passed-more (last_wanted g.K.FormatKind.kind) k1 c.in_ok-constraints.ensures.demands c.in_ok-constraints.ensures.passes in
    let k3 = passed-more (none_wanted g.K.FormatKind.kind) k2 c.in_ok-no_liveness.ensures.demands c.in_ok-no_liveness.ensures.passes in
    let k4 = passed-more (none_wanted g.K.FormatKind.kind) k3 c.in_ok-no_liveness-2.ensures.demands c.in_ok-no_liveness-2.ensures.passes in
    k4.passes
