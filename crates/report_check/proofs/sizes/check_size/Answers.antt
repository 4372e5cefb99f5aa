use Rattle.std.proofs.Common.{◌≡◌, true, false, refl}
use Rattle.report_check.proofs.FirstKinds.{differs_first, options_first, size_met}
use Rattle.report_check.proofs.sizes.check_size.Goals as goal

pub returns-then-not-is_sized : goal.returns-then-not-is_sized
returns-then-not-is_sized c = (
  refl,
  differs_first c.args.circuit.now c.args.signals.now.lits c.args.report.now
      (λ sized. let wrong : false ≡ true = c.if-not-is_sized.ensures.1 sized in cc),
)

pub returns-then-not-are_options : goal.returns-then-not-are_options
returns-then-not-are_options c = (
  refl,
  options_first c.args.circuit.now c.args.signals.now.lits c.args.report.now (c.if-not-is_sized.ensures.0 refl)
      (λ options. let wrong : false ≡ true = c.if-not-are_options.ensures.1 options in cc),
)

pub returns : goal.returns
returns c = size_met c.args.circuit.now c.args.signals.now.lits c.args.report.now (c.if-not-is_sized.ensures.0 refl) (c.if-not-are_options.ensures.0 refl)
