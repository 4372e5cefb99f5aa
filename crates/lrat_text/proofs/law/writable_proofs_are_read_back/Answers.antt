use Rattle.lrat_text.specs.Text.{proof_text}
use Rattle.lrat_text.proofs.Whole.{one-proof}
use Rattle.lrat_text.proofs.WrittenBack.{proof_text-spells, spelled-writable}
use Rattle.lrat_text.proofs.law.writable_proofs_are_read_back.Goals as goal

pub returns-clause-spelled : goal.returns-clause-spelled
returns-clause-spelled c = spelled-writable

pub returns-clause-reads_back : goal.returns-clause-reads_back
returns-clause-reads_back c = proof_text-spells

pub returns-clause-alone : goal.returns-clause-alone
returns-clause-alone c p q ids lits h = one-proof (proof_text p) q p h (proof_text-spells p ids lits)
