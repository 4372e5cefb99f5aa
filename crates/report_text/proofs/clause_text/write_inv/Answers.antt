use Rattle.std.proofs.Common.{List, ◌++◌, ◌∷◌, [], length, ap, arith}
use Rattle.std.specs.Prelude.{codes}
use Rattle.report_text.specs.Text.{Line, text, number_words, inv_lines}
use Rattle.report_text.proofs.Written.{kept-more, kept-least}
use Rattle.report_text.proofs.clause_text.write_inv.Goals as goal

pub loop-place-preserved : goal.loop-place-preserved
loop-place-preserved c =
    let inv = c.args.inv.now in
    rw (c.in_ok-write_kept.ensures, c.loop-place.invariant)
    (kept-more c.args.out.now (number_words (codes "inv") (length inv.clauses ∷ [])) inv.clauses inv.kept c.loop-place.place c.get.result.now c.get-in-loop-place.result.now (omega arith) (omega arith) c.get.ensures c.get-in-loop-place.ensures)

pub returns : goal.returns
unfolding inv_lines
returns c =
    let inv = c.args.inv.now in
    rw (c.loop-place.invariant) (ap (λ (ls : List Line). c.args.out.now ++ text (number_words (codes "inv") (length inv.clauses ∷ []) ∷ ls)) (kept-least c.loop-place.place inv.clauses inv.kept (omega arith)))
