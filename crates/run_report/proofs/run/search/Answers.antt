use Rattle.std.proofs.Common.{◌≡◌, ◌≢◌, ◌++◌, List, map, sym, subst, All, AllPairs, None}
use Rattle.run_report.specs.declared.ends.SearchBlocks.{SearchBlocks}
use Rattle.run_report.specs.declared.posts.Finding.{Finding}
use Rattle.run_report.specs.declared.searches.Search.TheVariants as searches
use Rattle.run_report.specs.Posts.{IsFinding, entries_of, posts_of}
use Rattle.run_report.specs.Ends.{IsSearchTold}
use Rattle.run_report.specs.Run.{goals_of, sweep_finding}
use Rattle.run_report.specs.Searches.{blocks_of}
use Rattle.run_report.proofs.Searching.{IsSearched, each_found, once_all, searched_told, zeros_below}
use Rattle.run_report.proofs.run.search.Goals as goal

pub marks-requires : goal.marks-requires
marks-requires c = zeros_below c.args.circuit.now c.args.signals.now.lits c.args.options.now.length c.in_ok-visits.visits c.in_ok-findings.findings c.in_ok-visits.ensures c.in_ok-findings.ensures

-- what is known after both
searched : (c : goal.After-drop-visits-inside-2) → IsSearched c.args.circuit.now c.args.signals.now.lits c.args.options.now c.in_ok-visits.visits c.in_ok-findings.findings c.in_ok-known.known c.in_ok-found.field-0
searched c = record {
  runnable = c.requires.options;
  walked = c.in_ok-visits.ensures;
  zip = c.in_ok-findings.ensures;
  marks = c.in_ok-known.ensures.marks;
  room = c.requires.room;
  swept = c.in_ok-found.ensures;
}

findings_are : (c : goal.After-drop-visits-inside-2) → c.add_found.new.findings ≡ c.in_ok-findings.findings ++ map sweep_finding c.in_ok-found.field-0.found
findings_are c = cc c.in_ok-add_found.ensures

blocks_are : (c : goal.After-drop-visits-inside-2) → c.in_ok-blocks.blocks ≡ blocks_of searches.Sweep c.in_ok-found.field-0.refuted c.in_ok-found.field-0.spent
blocks_are c = cc c.in_ok-blocks.ensures

pub returns-clause-found : goal.returns-clause-found
returns-clause-found c =
    subst (λ (fs : List Finding). All (IsFinding c.args.circuit.now c.args.signals.now.lits c.args.options.now None) fs) (sym (findings_are c))
    (each_found c.args.circuit.now c.args.signals.now.lits c.args.options.now c.in_ok-visits.visits c.in_ok-findings.findings c.in_ok-known.known c.in_ok-found.field-0 (searched c))

pub returns-clause-once : goal.returns-clause-once
returns-clause-once c =
    subst (λ (fs : List Finding). AllPairs (λ m n. m ≢ n) (goals_of fs)) (sym (findings_are c))
    (once_all c.args.circuit.now c.args.signals.now.lits c.args.options.now c.in_ok-visits.visits c.in_ok-findings.findings c.in_ok-known.known c.in_ok-found.field-0 (searched c))

pub returns-clause-told : goal.returns-clause-told
returns-clause-told c =
    subst (λ (fs : List Finding). IsSearchTold c.args.circuit.now c.args.signals.now.lits c.args.options.now (entries_of (posts_of fs)) c.in_ok-blocks.blocks) (sym (findings_are c))
    (subst (λ (x : SearchBlocks). IsSearchTold c.args.circuit.now c.args.signals.now.lits c.args.options.now (entries_of (posts_of (c.in_ok-findings.findings ++ map sweep_finding c.in_ok-found.field-0.found))) x) (sym (blocks_are c))
    (searched_told c.args.circuit.now c.args.signals.now.lits c.args.options.now c.in_ok-visits.visits c.in_ok-findings.findings c.in_ok-known.known c.in_ok-found.field-0 (searched c)))
