use Rattle.std.proofs.Common.{◌≡◌, ◌++◌, ℕ, Bool, List, length, map, All, sym, ap, subst, ◌∙◌}
use Rattle.aig_model.specs.declared.parts.Parts.{Parts}
use Rattle.sim_batch.specs.Seeds.{SeedState}
use Rattle.sweep_search.specs.Sweep.{IsFirstFrom, IsHopFrom}
use Rattle.sweep_search.specs.declared.swept.FoundGoal.{FoundGoal}
use Rattle.unroll.specs.declared.start.Start.TheVariants.{State}
use Rattle.run_report.specs.Batches.{AddsHop, hop_finding}
use Rattle.run_report.specs.Searches.{blocks_of}
use Rattle.run_report.specs.declared.ends.SearchBlocks.{SearchBlocks}
use Rattle.run_report.specs.declared.searches.Search.TheVariants as searches
use Rattle.run_report.proofs.Hopping.{IsHopped, hop_whole, seed_of_circuit, seed_size}
use Rattle.run_report.proofs.hops.add_hop.Goals as goal

-- the rows of what is found are as wide as those to the seed
found_fit : (c : Parts) (sig : List ℕ) (seed : SeedState) (found : List FoundGoal) → seed.circuit ≡ c → All (IsFirstFrom c sig (State seed.state)) found
    → All (λ (f : FoundGoal). f.trace.rows.width ≡ length seed.circuit.inputs) found
found_fit c sig seed found of firsts = λ k d l. ((firsts k d l).shows.1.width ∙ ap (λ (p : Parts). length p.inputs) (sym of))

pub hop_from-requires-clause-state : goal.hop_from-requires-clause-state
hop_from-requires-clause-state c = cc (c.state.ensures, seed_size c.args.circuit.now c.args.signals.now.lits c.args.options.now c.args.batch c.args.seed.now c.requires.seed)

pub add_found-requires : goal.add_found-requires
add_found-requires c = found_fit c.args.circuit.now c.args.signals.now.lits c.args.seed.now c.in_ok-found.field-0.found
    (seed_of_circuit c.args.circuit.now c.args.signals.now.lits c.args.options.now c.args.batch c.args.seed.now c.requires.seed)
    (subst (λ (state : List Bool). All (IsFirstFrom c.args.circuit.now c.args.signals.now.lits (State state)) c.in_ok-found.field-0.found) c.state.ensures c.in_ok-found.ensures.found.reached)

pub returns : goal.returns
returns c =
    let circuit = c.args.circuit.now in
    let sig = c.args.signals.now.lits in
    let o = c.args.options.now in
    let seed = c.args.seed.now in
    let s = c.in_ok-found.field-0 in
    let after : c.add_found.new.findings ≡ c.args.findings.now ++ map (hop_finding c.args.batch seed) s.found = cc c.in_ok-add_found.ensures in
    let blocks : c.in_ok-blocks.blocks ≡ blocks_of (searches.Hop c.args.batch) s.refuted s.spent = cc c.in_ok-blocks.ensures in
    let hopped : IsHopped circuit sig o c.args.batch seed c.in_ok-known.known c.args.findings.now c.add_found.new.findings s = record {
      inside = c.requires.batch;
      seed_of = c.requires.seed;
      known_is = record { size = c.in_ok-known.ensures.size; marked = c.in_ok-known.ensures.marks };
      room = c.requires.room;
      hop = subst (λ (state : List Bool). IsHopFrom circuit sig state c.in_ok-known.known o.hop o.lemmas o.proofs s) c.state.ensures c.in_ok-found.ensures;
      after = after;
    } in
    subst (λ (x : SearchBlocks). AddsHop circuit sig o c.args.batch seed c.args.findings.now c.add_found.new.findings x) (sym blocks)
    (hop_whole circuit sig o c.args.batch seed c.in_ok-known.known c.args.findings.now c.add_found.new.findings s hopped)
