use Rattle.std.proofs.Common.{◌≡◌, ℕ, List, [], ◌∷◌, ◌++◌, ap, ◌∙◌, append_assoc}
use Rattle.std.specs.Prelude.{codes, decimal}
use Rattle.report_text.specs.Text.{line, text, proof_lines, settled_words, block_lines}
use Rattle.report_text.proofs.Written.{appended-is}
use Rattle.report_text.proofs.text.write_unreachable.Goals as goal

line-written : (old : List ℕ) (goal number inv : ℕ)
    → ((((((old ++ codes "goal") ++ 32 ∷ decimal goal) ++ 32 ∷ codes "unreachable") ++ 32 ∷ decimal number) ++ 32 ∷ codes "inv") ++ 32 ∷ decimal inv) ++ 10 ∷ []
    ≡ old ++ line (settled_words goal (codes "unreachable") (decimal number ∷ codes "inv" ∷ decimal inv ∷ []))
line-written old goal number inv =
    appended-is old (codes "goal" ∷ (32 ∷ decimal goal) ∷ (32 ∷ codes "unreachable") ∷ (32 ∷ decimal number) ∷ (32 ∷ codes "inv") ∷ (32 ∷ decimal inv) ∷ (10 ∷ []) ∷ [])

pub returns : goal.returns
unfolding block_lines
returns c =
    let old = c.args.out.now in
    let same : c.into.result ≡ c.args.inv = c.into.ensures in
    let first = line (settled_words c.args.goal (codes "unreachable") (decimal c.args.number ∷ codes "inv" ∷ decimal c.args.inv ∷ [])) in
    let proof = text (proof_lines c.args.proof.now) in
    rw (c.in_ok-proof.ensures, c.in_ok-end_line.ensures, c.in_ok-next_number-3.ensures, c.in_ok-next_word-2.ensures, c.in_ok-next_number-2.ensures, c.in_ok-next_word.ensures, c.in_ok-next_number.ensures, c.in_ok-word.ensures, same)
    (ap (λ (t : List ℕ). t ++ proof) (line-written old c.args.goal c.args.number c.args.inv) ∙ append_assoc old first proof)
