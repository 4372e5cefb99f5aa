-- The text of an answer.
use Rattle.std.specs.Prelude.{ℕ, zero, suc, ◌+◌, Bool, false, List, [], ◌++◌, length, codes, slice_index_or, if◌then◌else◌}
use Rattle.std.specs.Fmt.{decimal}
use Rattle.lrat_text.specs.Text.{proof_text}
use Rattle.sat_solver.specs.declared.answer.Answer.{Answer}
use Rattle.sat_solver.specs.declared.answer.Answer.TheVariants.{Sat, Unsat, Spent}

-- the literal that is true of the variable whose value stands at a place
abbrev pub value_line : List Bool → ℕ → List ℕ
value_line values place = (if slice_index_or values place false then codes "v " else codes "v -") ++ decimal (place + 1) ++ codes "\n"

-- the lines of so many first variables
abbrev pub values_text : List Bool → ℕ → List ℕ
values_text values zero = []
values_text values (suc places) = values_text values places ++ value_line values places

abbrev pub model_text : List Bool → List ℕ
model_text values = codes "s SATISFIABLE\n" ++ values_text values (length values) ++ codes "v 0\n"

abbrev pub answer_text : Answer → List ℕ
answer_text (Sat values) = model_text values
answer_text (Unsat proof) = proof_text proof
answer_text (Spent proof) = proof_text proof
