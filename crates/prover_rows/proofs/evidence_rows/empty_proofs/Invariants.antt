use Rattle.std.proofs.Common.{All}
use Rattle.lrat_text.specs.Text.{IsWritable}
use Rattle.prover_rows.proofs.evidence_rows.empty_proofs.Given as goal

abbrev pub invariant-loop : goal.invariant-loop
invariant-loop l = All IsWritable l.proofs
