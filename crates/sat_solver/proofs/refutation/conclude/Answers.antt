use Rattle.std.proofs.Common.{◌<◌, ◌^◌, ℤ, List, [], ◌∷◌, ◌++◌, sym, subst, arith}
use Rattle.lrat_text.specs.declared.proof.LratStep.{LratStep}
use Rattle.lrat_text.specs.declared.proof.LratStep.TheVariants.{Add}
use Rattle.sat_solver.specs.Answer.{IsRefutation}
use Rattle.sat_solver.specs.Ledger.{live}
use Rattle.sat_solver.proofs.Ledgers.{IsRefutation-end}
use Rattle.sat_solver.proofs.refutation.conclude.Goals as goal

pub returns : goal.returns
returns c lemmas le =
    let s = c.requires.search.1 in
    let formula = c.args.formula.now in
    let steps = c.args.search.steps in
    let pairs = live formula steps in
    let id = c.next_id.result in
    let hints = c.in_ok-hints.hints in
    let ends = c.in_ok-hints.ensures.follows pairs s.sound.has_id c.requires.has_id in
    let small : id < 2 ^ 62 = omega (arith, c.next_id.ensures, s.few_clauses, s.few_steps) in
    let Q : List LratStep → Type 0 = λ proof. IsRefutation formula lemmas proof in
    let R : List ℤ → Type 0 = λ lits. IsRefutation formula lemmas (steps ++ Add id lits hints ∷ []) in
    subst Q (sym c.in_ok-push.ensures.ok) (subst R (sym c.new.ensures) (IsRefutation-end formula lemmas steps id hints s.ledger le c.next_id.ensures small ends))
