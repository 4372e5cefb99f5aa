use Rattle.std.proofs.Common.{◌^◌, ◌<◌, List, All, None, length, sym, subst}
use Rattle.aig_model.specs.SignalList.{IsSignals}
use Rattle.aig_model.specs.declared.parts.Parts.{Parts}
use Rattle.run_report.specs.declared.ends.Ends.{Ends}
use Rattle.run_report.specs.declared.posts.Finding.{Finding}
use Rattle.run_report.specs.Batches.{AddsBatches}
use Rattle.run_report.specs.Run.{goals_of}
use Rattle.run_report.proofs.Proven.{IsRun, IsRunWhole, found_below, proven_proves, run_below, whole_history, whole_short, whole_told}
use Rattle.run_report.proofs.run.run_jobs.Goals as goal

pub marks-requires : goal.marks-requires
marks-requires c = found_below c.args.circuit.now c.args.signals.now.lits c.args.options.now None c.in_ok-findings.field-0.findings c.in_ok-findings.ensures.found

pub run_batches-requires-clause-goals : goal.run_batches-requires-clause-goals
run_batches-requires-clause-goals c =
    let first : IsRun c.args.circuit.now c.args.signals.now.lits c.args.options.now c.in_ok-known.known c.in_ok-findings.field-0.findings c.in_ok-proved.field-0.findings c.in_ok-findings.field-0.sweep c.in_ok-proved.field-0.end = record {
      circuit = c.is_well_formed.ensures;
      signals = subst (λ (p : Parts). IsSignals p c.args.signals.now.lits) c.requires.signals c.is_well_formed-2.ensures;
      found = c.in_ok-findings.ensures.found;
      once = c.in_ok-findings.ensures.once;
      marks = c.in_ok-known.ensures.marks;
      told = c.in_ok-findings.ensures.told;
      proven = c.in_ok-proved.ensures;
    } in
    subst (λ (fs : List Finding). All (λ goal. goal < 2 ^ length c.args.signals.now.lits) (goals_of fs)) (sym c.in_ok-add_findings.ensures)
    (run_below c.args.circuit.now c.args.signals.now.lits c.args.options.now c.in_ok-known.known c.in_ok-findings.field-0.findings c.in_ok-proved.field-0.findings c.in_ok-findings.field-0.sweep c.in_ok-proved.field-0.end first)

-- what is known after all jobs
abbrev ends_of : (c : goal.After-drop-known-inside-2) → Ends
ends_of c = record { sweep = c.in_ok-findings.field-0.sweep; batches = c.in_ok-batches.batches; prover = c.in_ok-proved.field-0.end }

ran : (c : goal.After-drop-known-inside-2) → IsRunWhole c.args.circuit.now c.args.signals.now.lits c.args.options.now c.in_ok-known.known c.in_ok-findings.field-0.findings c.in_ok-proved.field-0.findings c.run_batches.new.findings (ends_of c)
ran c = record {
  few = c.requires.options.few;
  first = record {
    circuit = c.is_well_formed.ensures;
    signals = subst (λ (p : Parts). IsSignals p c.args.signals.now.lits) c.requires.signals c.is_well_formed-2.ensures;
    found = c.in_ok-findings.ensures.found;
    once = c.in_ok-findings.ensures.once;
    marks = c.in_ok-known.ensures.marks;
    told = c.in_ok-findings.ensures.told;
    proven = c.in_ok-proved.ensures;
  };
  batches = subst (λ (fs : List Finding). AddsBatches c.args.circuit.now c.args.signals.now.lits c.args.options.now fs c.run_batches.new.findings c.in_ok-batches.batches) c.in_ok-add_findings.ensures c.in_ok-batches.ensures;
}

pub returns-clause-history : goal.returns-clause-history
returns-clause-history c =
    whole_history c.args.circuit.now c.args.signals.now.lits c.args.options.now c.in_ok-known.known c.in_ok-findings.field-0.findings c.in_ok-proved.field-0.findings c.run_batches.new.findings (ends_of c) (ran c)

pub returns-clause-told : goal.returns-clause-told
returns-clause-told c =
    whole_told c.args.circuit.now c.args.signals.now.lits c.args.options.now c.in_ok-known.known c.in_ok-findings.field-0.findings c.in_ok-proved.field-0.findings c.run_batches.new.findings (ends_of c) (ran c)

pub returns-clause-short : goal.returns-clause-short
returns-clause-short c =
    whole_short c.args.circuit.now c.args.signals.now.lits c.args.options.now c.in_ok-known.known c.in_ok-findings.field-0.findings c.in_ok-proved.field-0.findings c.run_batches.new.findings (ends_of c) (ran c)

pub returns-clause-proves : goal.returns-clause-proves
returns-clause-proves c = proven_proves c.args.circuit.now c.args.signals.now.lits c.args.options.now c.in_ok-known.known c.in_ok-proved.field-0.findings c.in_ok-proved.field-0.end c.in_ok-proved.ensures
