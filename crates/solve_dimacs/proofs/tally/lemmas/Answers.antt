use Rattle.std.proofs.Common.{◌≡◌, ◌+◌, List, [], ◌∷◌, refl, sym, ◌∙◌, arith, rules, cond}
use Rattle.std.specs.List.{count_by}
use Rattle.std.proofs.lemmas.List.Recursion.{is_count_by}
use Rattle.lrat_text.specs.declared.proof.LratStep.{LratStep}
use Rattle.lrat_text.specs.declared.proof.LratStep.TheVariants.{Add, Delete}
use Rattle.solve_dimacs.specs.Tally.{is_lemma}
use Rattle.sat_solver.specs.Answer.{lemma_count}
use Rattle.solve_dimacs.proofs.tally.lemmas.Goals as goal

lemma_count-cons : (step : LratStep) (steps : List LratStep) → lemma_count (step ∷ steps) ≡ cond (is_lemma step) (1 + lemma_count steps) (lemma_count steps)
lemma_count-cons (Add id [] hints) steps = refl
lemma_count-cons (Add id (l ∷ ls) hints) steps = omega arith
lemma_count-cons (Delete ids at_id) steps = refl

pub returns : goal.returns
returns c =
    let counted : c.count.result ≡ count_by is_lemma c.args.proof.now = search rules in
    counted ∙ sym (is_count_by lemma_count is_lemma refl lemma_count-cons c.args.proof.now)
