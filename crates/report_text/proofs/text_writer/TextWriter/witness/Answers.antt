use Rattle.std.proofs.Common.{◌++◌, List, ℕ, sym, ap, ◌∙◌}
use Rattle.report_text.specs.Text.{text, witness_lines}
use Rattle.report_text.proofs.WitnessLines.{witness-written}
use Rattle.report_text.proofs.text_writer.TextWriter.witness.Goals as goal

pub returns : goal.returns
returns c =
    let lines = text (witness_lines c.args.property c.args.trace.now) in
    c.in_ok-push_witness.ensures ∙ ap (λ (rest : List ℕ). c.self.inside.bytes.items ++ rest) (sym (witness-written c.args.property c.args.trace.now))
    ∙ ap (λ (old : List ℕ). old ++ lines) c.self.view_is
