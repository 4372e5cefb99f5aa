use Rattle.std.proofs.Common.{◌<◌, ◌^◌, List, ℕ, subst}
use Rattle.std.specs.List.{All}
use Rattle.std.proofs.lemmas.List.{take_all}
use Rattle.std.proofs.lemmas.List.Elements.{All-more}
use Rattle.solver_rows.proofs.learn_steps.are_small.Goals as goal

pub loop-name-preserved : goal.loop-name-preserved
loop-name-preserved c = All-more (λ name. name < 2 ^ 62) c.args.proof_ids.now c.loop-name.name-index 0 c.loop-name-test.true c.loop-name.invariant c.if-name.false

pub returns : goal.returns
returns c _ =
    let P : List ℕ → Type 0 = λ proof_ids. All (λ name. name < 2 ^ 62) proof_ids in
    subst P (take_all c.loop-name.name-index c.args.proof_ids.now c.loop-name-test.false) c.loop-name.invariant
