use Rattle.std.proofs.Common.{◌≡◌, ℕ, ℤ, List, length, sym, ◌∙◌, subst, arith}
use Rattle.std.specs.List.{All}
use Rattle.std.proofs.lemmas.List.{with_items_is}
use Rattle.std.proofs.lemmas.List.Sorted.{All-permutation}
use Rattle.cnf_base.specs.Dimacs.{IsLiteral}
use Rattle.sat_solver.proofs.backjump.bump.Goals as goal

pub bring_to_front-requires-clause-in_range : goal.bring_to_front-requires-clause-in_range
bring_to_front-requires-clause-in_range c =
    let n = length c.args.queue.now in
    let met = c.in_ok-met.met in
    let sorted = c.sort_by_queue.new.lits in
    let len : length sorted ≡ met.len = omega (arith, c.sort_by_queue.auto.lits, c.deref_mut.ensures.len) in
    let P : List ℤ → Type 0 = λ ls. All (IsLiteral n) ls in
    subst P (sym (c.deref.ensures.value ∙ with_items_is met sorted len))
    (All-permutation (IsLiteral n) c.deref_mut.result.now sorted c.sort_by_queue.ensures
    (subst P (sym (c.deref_mut.ensures.value ∙ c.in_ok-met.ensures.items ∙ c.met.ensures)) c.requires.met))
