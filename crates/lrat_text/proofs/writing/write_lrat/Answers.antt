use Rattle.std.proofs.Common.{◌≡◌, ℕ, List, take, sym, ap, ◌∙◌, subst}
use Rattle.std.specs.List.{flat_map, AllByRecursion}
use Rattle.std.proofs.lemmas.List.{take_all}
use Rattle.lrat_text.specs.declared.proof.LratStep.{LratStep}
use Rattle.lrat_text.specs.Lrat.{SpellsProof}
use Rattle.lrat_text.specs.Text.{step_text, HasLiterals}
use Rattle.lrat_text.proofs.WrittenBack.{proof_text-spells}
use Rattle.lrat_text.proofs.writing.write_lrat.Goals as goal

pub returns-clause-reads_back : goal.returns-clause-reads_back
returns-clause-reads_back c ids =
    let proof = c.args.proof.now in
    let items = c.as_slice-step-items.result.now in
    let all : take c.loop-step.step-index items ≡ proof = take_all c.loop-step.step-index items c.loop-step-test.false ∙ c.as_slice-step-items.ensures in
    let written = c.loop-step.invariant.written ∙ ap (flat_map step_text) all in
    let lits = subst (λ (ss : List LratStep). AllByRecursion HasLiterals ss) all c.loop-step.invariant.literals in
    subst (λ (t : List ℕ). SpellsProof t proof) (sym written) (proof_text-spells proof ids lits)
