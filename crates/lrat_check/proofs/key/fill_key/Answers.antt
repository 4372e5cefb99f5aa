use Rattle.std.proofs.Common.{◌≡◌, arith, ℤ, List, subst, ◌∙◌}
use Rattle.std.specs.List.Sorted.{IsPermutation}
use Rattle.std.specs.Ordering.{int_eq}
use Rattle.std.proofs.lemmas.List.{take_all}
use Rattle.std.proofs.lemmas.List.Filters.{dedup_is}
use Rattle.lrat_check.proofs.ClauseKeys.{IsKeyOf-sorted}
use Rattle.lrat_check.proofs.key.fill_key.Goals as goal

pub returns : goal.returns
returns c =
    let lits : List ℤ = c.args.lits.now in
    let sorted : List ℤ = c.sort_unstable.new.self.items in
    let whole : c.loop-lit.key.items ≡ lits = c.loop-lit.invariant ∙ take_all c.loop-lit.lit-index lits (omega arith) in
    let P : List ℤ → Type 0 = λ xs. IsPermutation xs sorted in
    IsKeyOf-sorted lits sorted c.dedup.new.self.items (subst P whole c.sort_unstable.ensures.permutation) c.sort_unstable.ensures.sorted (dedup_is int_eq sorted c.dedup.new.self.items c.dedup.ensures.filtered)
