use Rattle.std.proofs.Common.{◌++◌, ◌∷◌, [], List, ℕ, length, sym, ap, ◌∙◌, append_assoc}
use Rattle.std.specs.Prelude.{codes}
use Rattle.lrat_text.specs.declared.proof.LratStep.{LratStep}
use Rattle.report_text.specs.Text.{line, text, number_words, numbered_lines, section_lines, step_words}
use Rattle.report_text.proofs.ProofLines.{steps-written}
use Rattle.report_text.proofs.text_writer.TextWriter.proof.Goals as goal

pub returns : goal.returns
unfolding section_lines
returns c =
    let old = c.args.self.now in
    let proof = c.args.proof.now in
    let steps = text (numbered_lines (λ (_ : ℕ) (s : LratStep). step_words s ∷ []) 0 proof) in
    let head = line (number_words (codes "proof") (length proof ∷ [])) in
    c.in_ok-extend_from_slice.ensures.items
    ∙ (ap (λ (rest : List ℕ). c.self.inside.bytes.items ++ rest) (c.deref.ensures.value ∙ (c.in_ok-steps.ensures.text ∙ sym (steps-written 0 proof)))
    ∙ (ap (λ (front : List ℕ). front ++ steps) (c.self.view_is ∙ (c.in_ok-number_line.ensures ∙ ap (λ (n : ℕ). old ++ line (number_words (codes "proof") (n ∷ []))) c.len.ensures))
    ∙ append_assoc old head steps))
