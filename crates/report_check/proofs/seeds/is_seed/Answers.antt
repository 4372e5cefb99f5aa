use Rattle.std.proofs.Common.{Bool, List, length, Option, refl, sym, ap, subst, ◌∙◌}
use Rattle.std.specs.Prelude.{MatchOption}
use Rattle.aig_model.proofs.Paths.{length-state_after}
use Rattle.unroll.proofs.Truth.{iff_trans}
use Rattle.report_check.specs.Seeds.{LeadsTo}
use Rattle.report_check.proofs.Ways.{seed_is}
use Rattle.report_check.proofs.seeds.is_seed.Goals as goal

pub are_same-requires : goal.are_same-requires
are_same-requires c =
    let way = subst (λ (o : Option (List Bool)). MatchOption o ((state : List Bool) → ¬ LeadsTo c.args.circuit.now c.args.line.now.start c.args.line.now.rows.rows state)
    (LeadsTo c.args.circuit.now c.args.line.now.start c.args.line.now.rows.rows)) c.in-Some.is c.in_ok-state.ensures in
    ap (λ (s : List Bool). length s) (sym way.ends) ∙ (length-state_after c.args.circuit.now c.args.line.now.start way.frames c.requires.form.start_wide ∙ sym c.requires.form.state_wide)

pub returns-in-Some : goal.returns-in-Some
returns-in-Some c =
    let way = subst (λ (o : Option (List Bool)). MatchOption o ((state : List Bool) → ¬ LeadsTo c.args.circuit.now c.args.line.now.start c.args.line.now.rows.rows state)
    (LeadsTo c.args.circuit.now c.args.line.now.start c.args.line.now.rows.rows)) c.in-Some.is c.in_ok-state.ensures in
    iff_trans c.are_same.ensures (seed_is c.args.circuit.now c.args.line.now c.in-Some.state c.is_well_formed.ensures (c.if-not-is_reset.ensures.0 refl) way)

pub returns-in-None : goal.returns-in-None
returns-in-None c =
    let none = subst (λ (o : Option (List Bool)). MatchOption o ((state : List Bool) → ¬ LeadsTo c.args.circuit.now c.args.line.now.start c.args.line.now.rows.rows state)
    (LeadsTo c.args.circuit.now c.args.line.now.start c.args.line.now.rows.rows)) c.in-None.is c.in_ok-state.ensures in
    (λ never. absurd cc, λ seed. absurd (none c.args.line.now.state seed.leads))
