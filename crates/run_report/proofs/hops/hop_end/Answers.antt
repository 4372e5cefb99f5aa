use Rattle.std.proofs.Common.{List, sym, subst, Option, Some, None}
use Rattle.report_text.specs.declared.report.Block.{Block}
use Rattle.report_text.specs.declared.report.SeedLine.{SeedLine}
use Rattle.sim_batch.specs.Seeds.{SeedState}
use Rattle.run_report.specs.declared.ends.BatchEnd.{BatchEnd}
use Rattle.run_report.specs.Batches.{AddsHopEnd}
use Rattle.goal_facts.specs.Seeds.{IsSeedOfBatch}
use Rattle.run_report.proofs.Hopping.{no_hop, with_hop}
use Rattle.run_report.proofs.hops.hop_end.Goals as goal

pub add_hop-requires-clause-seed : goal.add_hop-requires-clause-seed
add_hop-requires-clause-seed c =
    subst (λ (s : Option SeedState). IsSeedOfBatch c.args.circuit.now c.args.signals.now.lits c.args.options.now c.args.batch s) c.in-Some.is c.requires.seed

pub returns-in-None : goal.returns-in-None
returns-in-None c =
    let end = c.in-None.is in
    let blocks : List Block → BatchEnd = λ bs. record { seed = None; hop = record { refuted = bs; spent = None } } in
    subst (λ (s : Option SeedState). AddsHopEnd c.args.circuit.now c.args.signals.now.lits c.args.options.now c.args.batch s c.args.findings.now c.args.findings.now (blocks c.new.result)) (sym end)
    (subst (λ (bs : List Block). AddsHopEnd c.args.circuit.now c.args.signals.now.lits c.args.options.now c.args.batch None c.args.findings.now c.args.findings.now (blocks bs)) (sym c.new.ensures)
    (no_hop c.args.circuit.now c.args.signals.now.lits c.args.options.now c.args.batch c.args.findings.now))

pub returns-in_ok-line-in-Some : goal.returns-in_ok-line-in-Some
returns-in_ok-line-in-Some c =
    let circuit = c.args.circuit.now in
    let sig = c.args.signals.now.lits in
    let o = c.args.options.now in
    let batch = c.args.batch in
    let seed = c.in-Some.seed in
    let old = c.args.findings.now in
    let new = c.add_hop.new.findings in
    let of : IsSeedOfBatch circuit sig o batch (Some seed) = subst (λ (s : Option SeedState). IsSeedOfBatch circuit sig o batch s) c.in-Some.is c.requires.seed in
    subst (λ (s : Option SeedState). AddsHopEnd circuit sig o batch s old new (record { seed = Some c.in_ok-line-in-Some.line; hop = c.in_ok-hop-in-Some.hop })) (sym c.in-Some.is)
    (subst (λ (l : SeedLine). AddsHopEnd circuit sig o batch (Some seed) old new (record { seed = Some l; hop = c.in_ok-hop-in-Some.hop })) (sym c.in_ok-line-in-Some.ensures)
    (with_hop circuit sig o batch seed old new c.in_ok-hop-in-Some.hop of c.in_ok-hop-in-Some.ensures))
