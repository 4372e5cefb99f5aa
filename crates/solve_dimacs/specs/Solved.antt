-- What the tool answers to a text.
use Rattle.std.specs.Prelude.{ℕ, List}
use Rattle.cnf_base.specs.Meaning.{CnfFormula}
use Rattle.cnf_base.specs.Dimacs.{SpellsFormula}
use Rattle.sat_solver.specs.Answer.{IsAnswer}
use Rattle.sat_solver.specs.declared.answer.Answer.{Answer}

-- the text spells a formula, and this is true of it
pub record IsAnswerTo (text : List ℕ) (lemmas : ℕ) (answer : Answer) : Type 0 where
  pub formula : CnfFormula
  pub spelled : SpellsFormula text formula
  pub answers : IsAnswer formula lemmas answer
