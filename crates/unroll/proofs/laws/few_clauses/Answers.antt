use Rattle.unroll.proofs.ClauseCount.{few_to_search_lem, few_to_keep_lem, few_to_exclude_lem}
use Rattle.unroll.proofs.laws.few_clauses.Goals as goal

pub returns-clause-search : goal.returns-clause-search
returns-clause-search c = few_to_search_lem

pub returns-clause-kept : goal.returns-clause-kept
returns-clause-kept c = few_to_keep_lem

pub returns-clause-excludes : goal.returns-clause-excludes
returns-clause-excludes c = few_to_exclude_lem
