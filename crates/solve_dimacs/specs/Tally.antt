-- How much a proof has.
use Rattle.std.specs.Prelude.{ℕ, Bool, true, false, List, [], ◌∷◌, length, sum_by}
use Rattle.lrat_text.specs.declared.proof.LratStep.{LratStep}
use Rattle.lrat_text.specs.declared.proof.LratStep.TheVariants.{Add, Delete}

-- whether a clause is added that isn't empty
abbrev pub is_lemma : LratStep → Bool
is_lemma (Add id [] hints) = false
is_lemma (Add id (l ∷ ls) hints) = true
is_lemma (Delete at ids) = false

abbrev pub hints_in : LratStep → ℕ
hints_in (Add id lits hints) = length hints
hints_in (Delete at ids) = 0

abbrev pub hint_count : List LratStep → ℕ
hint_count steps = sum_by hints_in steps
