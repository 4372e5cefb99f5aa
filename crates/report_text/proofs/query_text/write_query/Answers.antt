use Rattle.report_text.proofs.Written.{query-written}
use Rattle.report_text.proofs.query_text.write_query.Goals as goal

pub returns : goal.returns
returns c =
    rw (c.in_ok-proof.ensures, c.in_ok-write_part.ensures, c.in_ok-write_name.ensures, c.in_ok-word-2.ensures, c.in_ok-word.ensures) (query-written c.args.out.now c.args.word.now c.args.block.now)
