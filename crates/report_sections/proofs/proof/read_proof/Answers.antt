use Rattle.report_text.specs.Form.{FitsProof}
use Rattle.report_text.specs.Text.{proof_lines}
use Rattle.report_sections.specs.Proofs.{proof_read}
use Rattle.report_sections.proofs.Combine.{gives-reads}
use Rattle.report_sections.proofs.ProofRead.{proof-reads}
use Rattle.report_sections.proofs.proof.read_proof.Goals as goal

pub returns-clause-reads : goal.returns-clause-reads
returns-clause-reads c =
    let old = c.args.lines.now in
    gives-reads FitsProof proof_lines old c.read_section.new.lines c.read_section.result (proof_read old) c.read_section.ensures (proof-reads old)
