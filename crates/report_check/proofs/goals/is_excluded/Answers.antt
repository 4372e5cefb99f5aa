use Rattle.std.proofs.Common.{◌≡◌, length, refl, sym, subst, ◌∙◌, Some, slice_get}
use Rattle.std.proofs.lemmas.Option.{same_Some, slice_get_read}
use Rattle.lrat_text.specs.Accepted.{Accepted}
use Rattle.unroll.specs.Queries.{excludes_formula}
use Rattle.report_text.specs.declared.report.Inv.{Inv}
use Rattle.report_check.specs.declared.fault.CheckKind.TheVariants as kinds
use Rattle.report_check.proofs.goals.is_excluded.Goals as goal

pub excludes-requires-clause-latches : goal.excludes-requires-clause-latches
excludes-requires-clause-latches c =
    let invs = c.args.report.now.invs in
    let inv = c.get.result.now in
    let at : slice_get invs c.args.place ≡ Some inv = slice_get_read invs (length invs) c.args.place inv refl c.requires.place c.get.ensures in
    ((c.requires.invs c.args.place kinds.Start inv at).start refl).latches

pub returns : goal.returns
returns c =
    let invs = c.args.report.now.invs in
    let inv = c.get.result.now in
    let at : slice_get invs c.args.place ≡ Some inv = slice_get_read invs (length invs) c.args.place inv refl c.requires.place c.get.ensures in (
      λ yes. record { inv = inv; at = at; accepted = c.in_ok-excluded.ensures.0 yes },
      λ e. c.in_ok-excluded.ensures.1 (subst (λ (i : Inv). Accepted (excludes_formula c.args.circuit.now c.args.signals.now.lits i.clauses c.args.goal) c.args.proof.now)
          (same_Some e.inv inv (sym e.at ∙ at)) e.accepted),
    )
