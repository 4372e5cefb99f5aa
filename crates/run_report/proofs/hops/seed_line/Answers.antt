use Rattle.std.proofs.Common.{◌≡◌, ◌-◌, ◌++◌, Bool, List, length, ap, ◌∙◌, arith}
use Rattle.std.proofs.lemmas.List.{append-nil, take_all}
use Rattle.aig_model.specs.Table.{Table}
use Rattle.report_text.specs.declared.report.SeedLine.{SeedLine}
use Rattle.sim_batch.specs.Seeds.{SeedState}
use Rattle.run_report.specs.Batches.{line_of}
use Rattle.run_report.proofs.hops.seed_line.Goals as goal

line_is : (s : SeedState) (start : List Bool) (rows : Table) (state : List Bool) → start ≡ s.start → rows.width ≡ s.rows.width → rows.rows ≡ s.rows.rows → state ≡ s.state
    → ◌≡◌ {A = SeedLine} (record { start = start; rows = rows; state = state }) (line_of s)
line_is s start rows state starts width same leads = λ i. record { start = starts i; rows = record { width = width i; rows = same i }; state = leads i }

pub returns : goal.returns
returns c =
    let s = c.args.seed.now in
    let size : length c.state.result.now ≡ c.len.result = cc (c.len.ensures, c.state.ensures, c.state-2.ensures) in
    line_is s c.in_ok-way.way.start c.in_ok-way.way.rows c.in_ok-state.state c.in_ok-way.ensures.start c.in_ok-way.ensures.width
    (c.in_ok-way.ensures.rows ∙ (ap (λ (rows : List (List Bool)). s.rows.rows ++ rows) c.new-none.ensures.rows ∙ append-nil s.rows.rows))
    (c.in_ok-state.ensures ∙ (take_all (c.len.result - 0) c.state.result.now (omega (arith, size)) ∙ c.state.ensures))
