-- What a search learns from a conflict.
use Rattle.std.specs.Prelude.{◌≡◌, ℕ, ◌<◌, neg_ℤ, List, length, map, slice_index, All}
use Rattle.cnf_base.specs.Meaning.{CnfFormula}
use Rattle.lrat_text.specs.declared.proof.LratStep.{LratStep}
use Rattle.lrat_text.specs.Spent.{ContainsAll, IsLemma}
use Rattle.sat_trail.specs.declared.clause_id.ClauseId.{ClauseId}
use Rattle.sat_trail.specs.declared.clause_id.ClauseId.TheVariants as ids
use Rattle.sat_trail.specs.Trail.{TrailState}
use Rattle.sat_learn.specs.Reasons.{Follows}
use Rattle.sat_learn.specs.Learned.{LearnedState, IsLearned}
use Rattle.sat_solver.specs.Ledger.{earlier, live}

-- a clause of the book has an id in the proof
abbrev pub HasProofId : List ℕ → ClauseId → Type 0
HasProofId proof_ids (ids.Book place) = place < length proof_ids
HasProofId proof_ids (ids.Unit id) = ⊥

abbrev pub IsProofIdOf : List ℕ → ClauseId → ℕ → Type 0
IsProofIdOf proof_ids (ids.Book place) name = name ≡ slice_index proof_ids place
IsProofIdOf proof_ids (ids.Unit id) name = ⊥

-- the learned clause is a lemma that follows from the clauses so far, and contains none of them
pub record IsLearnedFrom (formula : CnfFormula) (steps : List LratStep) (t : TrailState) (learned : LearnedState) : Type 0 where
  pub is_learned : IsLearned t learned
  pub follows : Follows (live formula steps) (map neg_ℤ learned.lits) learned.hints
  pub new_lemma : IsLemma (earlier formula steps) learned.lits
  pub earned : All (λ clause. ¬ ContainsAll learned.lits clause) (earlier formula steps)
