use Rattle.report_text.proofs.Written.{report-written}
use Rattle.report_text.proofs.text.text_of.Goals as goal

pub returns : goal.returns
returns c =
    rw (c.into_bytes.ensures, c.in_ok-write_end.ensures, c.in_ok-write_refutes.ensures, c.in_ok-write_spents.ensures, c.in_ok-write_goals.ensures, c.in_ok-write_invs.ensures, c.in_ok-write_seeds.ensures, c.in_ok-write_history.ensures, c.in_ok-write_options.ensures, c.in_ok-write_size.ensures, c.in_ok-word.ensures, c.new-out.ensures)
    (report-written c.args.report.now)
