use Rattle.wit_text.proofs.WrittenBack.{reads-back, spelled-writable}
use Rattle.wit_text.proofs.laws.written_witnesses_are_read_back.Goals as goal

pub returns-clause-reads_back : goal.returns-clause-reads_back
returns-clause-reads_back c = reads-back

pub returns-clause-spelled : goal.returns-clause-spelled
returns-clause-spelled c = spelled-writable
