use Rattle.report_text.proofs.Written.{open-written}
use Rattle.report_text.proofs.text.write_open.Goals as goal

pub returns : goal.returns
returns c =
    rw (c.in_ok-end_line.ensures, c.in_ok-write_bound-2.ensures, c.in_ok-next_word-3.ensures, c.in_ok-write_hops.ensures, c.in_ok-next_word-2.ensures, c.in_ok-write_bound.ensures, c.in_ok-next_word.ensures, c.in_ok-next_number.ensures, c.in_ok-word.ensures)
    (open-written c.args.out.now c.args.goal c.args.depth c.args.hops.now c.args.strength)
