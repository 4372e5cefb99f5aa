use Rattle.std.proofs.Common.{length, sym, ap, ◌∙◌, arith}
use Rattle.text_words.specs.Text.{next_line}
use Rattle.text_words.proofs.Fields.{rest_at, line_after-behind, length-behind_newline}
use Rattle.text_words.proofs.cursor.Cursor.next_line.Goals as goal

pub invariant_of-self : goal.invariant_of-self
invariant_of-self c =
    omega (arith, ap length c.behind_newline-self-inside.ensures, length-behind_newline c.self.inside.rest.now, c.self.invariant)

pub returns : goal.returns
returns c =
    ap (rest_at c.self.inside.size) c.behind_newline-self-inside.ensures
    ∙ sym (line_after-behind c.self.inside.size c.self.inside.rest.now c.self.invariant)
    ∙ ap next_line c.self.view_is
