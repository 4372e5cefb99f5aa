use Rattle.unroll.proofs.SearchMeaning.{searched_are_new_lem, none_is_new_lem}
use Rattle.unroll.proofs.laws.searched_are_new.Goals as goal

pub returns-clause-models : goal.returns-clause-models
returns-clause-models c = searched_are_new_lem

pub returns-clause-none : goal.returns-clause-none
returns-clause-none c = none_is_new_lem
