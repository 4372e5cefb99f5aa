use Rattle.std.proofs.Common.{◌≡◌, ℕ, false, true, sym, ap, ◌∙◌}
use Rattle.text_words.specs.Text.{Rest, has_newline}
use Rattle.text_words.specs.declared.cursor.LineEnd.{LineEnd}
use Rattle.text_words.proofs.Fields.{line_end-newline}
use Rattle.text_words.proofs.cursor.Cursor.line_end.Goals as goal

pub returns-then-has_newline : goal.returns-then-has_newline
returns-then-has_newline c =
    let newline : has_newline c.args.self.now.bytes ≡ true = ap (λ (r : Rest). has_newline r.bytes) (sym c.self.view_is) ∙ sym c.has_newline.ensures ∙ c.if-has_newline.true in
    let end_at : ℕ → LineEnd = λ n. record { at = n; is_cut = false } in
    ap end_at c.at.ensures ∙ sym (line_end-newline c.args.self.now c.requires newline)
