use Rattle.std.proofs.Common.{◌≡◌, length, refl, sym, ap, ◌∙◌, List, arith}
use Rattle.report_text.specs.declared.report.HopBound.{HopBound}
use Rattle.report_check.proofs.Walking.{has_all, hops_size}
use Rattle.report_check.proofs.refutes.are_all_told.Goals as goal

pub returns-then-not-report : goal.returns-then-not-report
returns-then-not-report c = (λ _ proofs. let no = c.if-not-report.true in absurd cc, λ _. refl)

pub returns-then-not-any_open : goal.returns-then-not-any_open
returns-then-not-any_open c = (λ _ _ left. let yes = c.requires.any_open.1 left in let no = c.if-not-any_open.true in absurd cc, λ _. refl)

pub has_all-requires : goal.has_all-requires
has_all-requires c =
    let hops = ap (λ (hs : List HopBound). length hs) c.requires.bounds.1.hops ∙ hops_size c.args.report.now in
    omega (arith, c.requires.walked.size, hops)

pub returns : goal.returns
returns c =
    let all = has_all c.args.report.now c.requires.bounds.0 c.args.bounds.now c.args.walked.now c.requires.bounds.1 c.requires.walked in (
      λ yes _ _. all.0 (c.has_all.ensures.0 yes),
      λ told. c.has_all.ensures.1 (all.1 (told c.if-not-report.false (c.requires.any_open.0 c.if-not-any_open.false))),
    )
