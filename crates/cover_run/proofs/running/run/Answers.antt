use Rattle.cover_run.proofs.CoverPromised as cover
use Rattle.cover_run.proofs.GoalsPromised as goals
use Rattle.cover_run.proofs.LratPromised as lrat
use Rattle.cover_run.proofs.Promised as promised
use Rattle.cover_run.proofs.ReplayPromised as replay
use Rattle.cover_run.proofs.SubjectPromised as subject
use Rattle.cover_run.proofs.running.run.Goals as goal

pub returns-clause-headline : goal.returns-clause-headline
returns-clause-headline g c = cover.headline _ _ _ _ _ c.answer.ensures.answer

pub returns-clause-completeness : goal.returns-clause-completeness
returns-clause-completeness g c = cover.completeness _ _ _ _ _ c.answer.ensures.answer

pub returns-clause-accepted : goal.returns-clause-accepted
returns-clause-accepted g c = lrat.accepted_cause _ _ _ _ _ c.answer.ensures.answer

pub returns-clause-accepted_comes : goal.returns-clause-accepted_comes
returns-clause-accepted_comes g c = lrat.accepted_comes _ _ _ _ _ c.answer.ensures.answer

pub returns-clause-usage : goal.returns-clause-usage
returns-clause-usage g c = promised.usage _ _ _ _ _ c.answer.ensures.answer

pub returns-clause-read_fault : goal.returns-clause-read_fault
returns-clause-read_fault g c = promised.read_fault _ _ _ _ _ c.answer.ensures.answer

pub returns-clause-bad_circuit : goal.returns-clause-bad_circuit
returns-clause-bad_circuit g c = promised.bad_circuit _ _ _ _ _ c.answer.ensures.answer

pub returns-clause-bad_circuit_comes : goal.returns-clause-bad_circuit_comes
returns-clause-bad_circuit_comes g c = subject.bad_circuit_comes _ _ _ _ _ c.answer.ensures.answer

pub returns-clause-bad_signals : goal.returns-clause-bad_signals
returns-clause-bad_signals g c = promised.bad_signals _ _ _ _ _ c.answer.ensures.answer

pub returns-clause-bad_signals_comes : goal.returns-clause-bad_signals_comes
returns-clause-bad_signals_comes g c = subject.bad_signals_comes _ _ _ _ _ c.answer.ensures.answer

pub returns-clause-limit : goal.returns-clause-limit
returns-clause-limit g c = promised.limit _ _ _ _ _ c.answer.ensures.answer

pub returns-clause-within_limits : goal.returns-clause-within_limits
returns-clause-within_limits g c = promised.within_limits _ _ _ _ _ c.answer.ensures.answer

pub returns-clause-long_circuit_comes : goal.returns-clause-long_circuit_comes
returns-clause-long_circuit_comes g c = subject.long_circuit_comes _ _ _ _ _ c.answer.ensures.answer

pub returns-clause-long_signals_comes : goal.returns-clause-long_signals_comes
returns-clause-long_signals_comes g c = subject.long_signals_comes _ _ _ _ _ c.answer.ensures.answer

pub returns-clause-long_formula_comes : goal.returns-clause-long_formula_comes
returns-clause-long_formula_comes g c = lrat.long_formula_comes _ _ _ _ _ c.answer.ensures.answer

pub returns-clause-long_proof_comes : goal.returns-clause-long_proof_comes
returns-clause-long_proof_comes g c = lrat.long_proof_comes _ _ _ _ _ c.answer.ensures.answer

pub returns-clause-write_fault : goal.returns-clause-write_fault
returns-clause-write_fault g c = promised.write_fault _ _ _ _ _ c.answer.ensures.answer

pub returns-clause-refused : goal.returns-clause-refused
returns-clause-refused g c = promised.refused _ _ _ _ _ c.answer.ensures.answer

pub returns-clause-bad_formula_comes : goal.returns-clause-bad_formula_comes
returns-clause-bad_formula_comes g c = lrat.bad_formula_comes _ _ _ _ _ c.answer.ensures.answer

pub returns-clause-bad_proof_comes : goal.returns-clause-bad_proof_comes
returns-clause-bad_proof_comes g c = lrat.bad_proof_comes _ _ _ _ _ c.answer.ensures.answer

pub returns-clause-bad_step_comes : goal.returns-clause-bad_step_comes
returns-clause-bad_step_comes g c = lrat.bad_step_comes _ _ _ _ _ c.answer.ensures.answer

pub returns-clause-prefix_after_fault : goal.returns-clause-prefix_after_fault
returns-clause-prefix_after_fault g c = promised.prefix_after_fault _ _ _ _ _ c.answer.ensures.answer

pub returns-clause-line : goal.returns-clause-line
returns-clause-line g c = promised.says_line _ _ _ _ _ c.answer.ensures.answer

pub returns-clause-printed : goal.returns-clause-printed
returns-clause-printed g c = promised.printed _ _ _ _ _ c.answer.ensures.answer

pub returns-clause-printed_comes : goal.returns-clause-printed_comes
returns-clause-printed_comes g c = promised.printed_comes _ _ _ _ _ c.answer.ensures.answer

pub returns-clause-too_much_comes : goal.returns-clause-too_much_comes
returns-clause-too_much_comes g c = cover.too_much_comes _ _ _ _ _ c.answer.ensures.answer

pub returns-clause-written : goal.returns-clause-written
returns-clause-written g c = promised.written _ _ _ _ _ c.answer.ensures.answer

pub returns-clause-no_fault : goal.returns-clause-no_fault
returns-clause-no_fault g c = promised.no_fault _ _ _ _ _ c.answer.ensures.answer

pub returns-clause-all_read : goal.returns-clause-all_read
returns-clause-all_read g c = promised.all_read _ _ _ _ _ c.answer.ensures.answer

pub returns-clause-exported : goal.returns-clause-exported
returns-clause-exported g c = goals.exported _ _ _ _ _ c.answer.ensures.answer

pub returns-clause-exported_comes : goal.returns-clause-exported_comes
returns-clause-exported_comes g c = goals.exported_comes _ _ _ _ _ c.answer.ensures.answer

pub returns-clause-many_goals_comes : goal.returns-clause-many_goals_comes
returns-clause-many_goals_comes g c = goals.many_goals_comes _ _ _ _ _ c.answer.ensures.answer

pub returns-clause-replayed : goal.returns-clause-replayed
returns-clause-replayed g c = replay.replayed _ _ _ _ _ c.answer.ensures.answer

pub returns-clause-replayed_comes : goal.returns-clause-replayed_comes
returns-clause-replayed_comes g c = replay.replayed_comes _ _ _ _ _ c.answer.ensures.answer

pub returns-clause-long_witness_comes : goal.returns-clause-long_witness_comes
returns-clause-long_witness_comes g c = replay.long_witness_comes _ _ _ _ _ c.answer.ensures.answer

pub returns-clause-bad_witness_comes : goal.returns-clause-bad_witness_comes
returns-clause-bad_witness_comes g c = replay.bad_witness_comes _ _ _ _ _ c.answer.ensures.answer

pub returns-clause-misfit_comes : goal.returns-clause-misfit_comes
returns-clause-misfit_comes g c = replay.misfit_comes _ _ _ _ _ c.answer.ensures.answer
