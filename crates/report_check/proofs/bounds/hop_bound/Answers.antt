use Rattle.std.proofs.Common.{◌≡◌, ℕ, suc, ◌+◌, true, List, refl, sym, ap, ◌∙◌, arith, Option, Some, None}
use Rattle.std.specs.Option.{is_some}
use Rattle.sim_walk.specs.declared.options.Options.{Options}
use Rattle.report_text.specs.declared.report.Block.{Block}
use Rattle.report_text.specs.declared.report.SeedLine.{SeedLine}
use Rattle.report_check.specs.Bounds.{first_step, hop_bound, hop_of, hop_step, whole_up_to}
use Rattle.report_check.specs.Known.{search_step}
use Rattle.report_check.proofs.bounds.hop_bound.Goals as goal

own_search : (batch : ℕ) (spents : List Block) → first_step (search_step (batch + 1)) spents ≡ first_step (hop_step batch) spents
own_search batch spents = let same : batch + 1 ≡ suc batch = omega arith in ap (λ (n : ℕ). first_step (search_step n) spents) same

-- where the batch has a seed
bound_is : (o : Options) (spents : List Block) (batch : ℕ) (seed : Option SeedLine) (step spent : Option ℕ) → is_some seed ≡ true → spent ≡ first_step (search_step (batch + 1)) spents
    → step ≡ whole_up_to o.hop spent → hop_of step ≡ hop_bound o spents batch seed
bound_is o spents batch None step spent some first is = absurd cc
bound_is o spents batch (Some seed) step spent some first is = ap hop_of (is ∙ ap (whole_up_to o.hop) (first ∙ own_search batch spents))

pub returns-in-None : goal.returns-in-None
returns-in-None c =
    let r = c.args.report.now in
    ap hop_of (sym c.in-None.is) ∙ bound_is r.options r.spents c.args.batch c.args.seed.now c.whole_up_to.result c.first_step-spent.result c.if-is_none.ensures
    (c.first_step-spent.ensures ∙ ap (λ (xs : List Block). first_step (search_step (c.args.batch + 1)) xs) c.as_slice.ensures) c.whole_up_to.ensures

pub returns-in-Some : goal.returns-in-Some
returns-in-Some c =
    let r = c.args.report.now in
    ap hop_of (sym c.in-Some.is) ∙ bound_is r.options r.spents c.args.batch c.args.seed.now c.whole_up_to.result c.first_step-spent.result c.if-is_none.ensures
    (c.first_step-spent.ensures ∙ ap (λ (xs : List Block). first_step (search_step (c.args.batch + 1)) xs) c.as_slice.ensures) c.whole_up_to.ensures
