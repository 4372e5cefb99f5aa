use Rattle.std.proofs.Common.{◌≡◌, ◌^◌, ◌<◌, ℕ, All, length, sym, subst, arith, replicate, false}
use Rattle.std.proofs.lemmas.Grind.{common_steps}
use Rattle.std.proofs.lemmas.List.{length-replicate}
use Rattle.unroll.specs.declared.start.Start.TheVariants.{Reset}
use Rattle.sweep_search.proofs.Searched.{found_below}
use Rattle.sweep_search.specs.declared.swept.FoundGoal.{FoundGoal}
use Rattle.engine_bench.proofs.sweeper.search_text.Goals as goal

pub settled_goals-requires-clause-found : goal.settled_goals-requires-clause-found
settled_goals-requires-clause-found c =
    let sig = c.args.signals.now.lits in
    let found = c.in_ok-swept.swept.found in
    let same : length c.in_ok-known.known ≡ 2 ^ length sig = grind (arith, common_steps, length-replicate, c.in_ok-known.ensures, c.goals.ensures) in
    subst (λ (n : ℕ). All (λ (f : FoundGoal). f.goal < n) found) (sym same) (found_below c.args.circuit.now sig Reset (replicate (2 ^ length sig) false) found c.in_ok-swept.ensures.found)
