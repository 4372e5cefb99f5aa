use Rattle.std.proofs.Common.{rules}
use Rattle.std.specs.List.Sorted.{IsNonDecreasingBy}
use Rattle.std.proofs.lemmas.List.Sorted.{IsNonDecreasingBy-from_sort_by_key}
use Rattle.aig_ascii.specs.declared.writing.names.Ranked.{Ranked}
use Rattle.aig_ascii.proofs.NameRanks.{names_ordered, ranks_inside}
use Rattle.aig_ascii.proofs.writing.names.rank_names.Goals as goal

risen : (c : goal.After-sort_unstable_by_key) → IsNonDecreasingBy (λ (r : Ranked). r.rank) c.sort_unstable_by_key.new.self.items
risen c = IsNonDecreasingBy-from_sort_by_key (λ (r : Ranked). r.rank) _ c.sort_unstable_by_key.ensures.sorted (λ a r q k. search rules)

pub returns-clause-order : goal.returns-clause-order
returns-clause-order c = names_ordered c.args.names.now c.requires _ _ c.in_ok-ranks.ensures c.sort_unstable_by_key.ensures.permutation (risen c)

pub returns-clause-inside : goal.returns-clause-inside
returns-clause-inside c = ranks_inside c.args.names.now c.requires _ _ c.in_ok-ranks.ensures c.sort_unstable_by_key.ensures.permutation (risen c)
