use Rattle.text_words.proofs.Splitting.{length-lines}
use Rattle.text_words.proofs.lines.lines_at_most_bytes.Goals as goal

pub returns : goal.returns
returns c = length-lines c.args.text.now
