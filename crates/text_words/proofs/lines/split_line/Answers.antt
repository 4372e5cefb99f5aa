use Rattle.std.proofs.Common.{◌∷◌, sym, ap, ◌∙◌}
use Rattle.text_words.specs.Lines.{lines}
use Rattle.text_words.specs.Text.{behind_newline}
use Rattle.text_words.proofs.Splitting.{lines-next}
use Rattle.text_words.proofs.lines.split_line.Goals as goal

pub returns : goal.returns
returns c =
    let text = c.args.text.now in
    lines-next text c.requires ∙ ap (λ l. l ∷ lines (behind_newline text)) (sym c.line_bytes.ensures) ∙ ap (λ rest. c.line_bytes.result.now ∷ lines rest) (sym c.behind_newline.ensures)
