use Rattle.board_core.specs.declared.entry.Source.TheVariants.{Walk}
use Rattle.run_report.proofs.Batching.{batch_whole, goals_below}
use Rattle.run_report.proofs.batches.run_batch.Goals as goal

pub add_visits-requires-clause-visits : goal.add_visits-requires-clause-visits
add_visits-requires-clause-visits c = record { last = c.in_ok-walked.ensures.last; ends = c.in_ok-walked.ensures.ends; are_visits = c.in_ok-walked.ensures.are_visits }

pub add_visits-requires-clause-marks : goal.add_visits-requires-clause-marks
add_visits-requires-clause-marks c = record { size = c.in_ok-known.ensures.size; marked = c.in_ok-known.ensures.marks }

pub hop_end-requires-clause-seed : goal.hop_end-requires-clause-seed
hop_end-requires-clause-seed c = record { last = c.in_ok-walked.ensures.last; ends = c.in_ok-walked.ensures.ends; is_seed = c.in_ok-walked.ensures.is_seed }

pub hop_end-requires-clause-goals : goal.hop_end-requires-clause-goals
hop_end-requires-clause-goals c =
    goals_below c.args.circuit.now c.args.signals.now.lits c.args.options.now (Walk c.args.batch) c.args.findings.now c.add_visits.new.findings c.in_ok-add_visits.ensures.adds c.requires.goals

pub returns : goal.returns
returns c =
    batch_whole c.args.circuit.now c.args.signals.now.lits c.args.options.now c.args.batch c.in_ok-walked.walked.seed c.args.findings.now c.add_visits.new.findings c.hop_end.new.findings
    c.in_ok-end.end (record { last = c.in_ok-walked.ensures.last; ends = c.in_ok-walked.ensures.ends; is_seed = c.in_ok-walked.ensures.is_seed }) c.in_ok-add_visits.ensures c.in_ok-end.ensures
