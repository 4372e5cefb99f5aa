-- How a proof is written.
use Rattle.std.specs.Prelude.{ℕ, ℤ, codes, List, ◌++◌}
use Rattle.std.specs.List.{flat_map, AllByRecursion}
use Rattle.std.specs.Fmt.{decimal, signed_decimal}
use Rattle.lrat_text.specs.Lrat.{IsId, IsHint, IsLiteral}
use Rattle.lrat_text.specs.declared.proof.LratStep.{LratStep}
use Rattle.lrat_text.specs.declared.proof.LratStep.TheVariants.{Add, Delete}

abbrev pub number_text : ℤ → List ℕ
number_text z = signed_decimal z ++ codes " "

abbrev pub id_text : ℕ → List ℕ
id_text n = decimal n ++ codes " "

-- one line for each step
abbrev pub step_text : LratStep → List ℕ
step_text (Add id lits hints) =
    id_text id ++ flat_map number_text lits ++ codes "0 " ++ flat_map number_text hints ++ codes "0\n"
step_text (Delete at_id ids) = id_text at_id ++ codes "d " ++ flat_map id_text ids ++ codes "0\n"

abbrev pub proof_text : List LratStep → List ℕ
proof_text proof = flat_map step_text proof

-- ---- the proofs that a text can spell

-- a step's ids are 1 to 2^63 - 1, and its hints aren't 0 and have a size below 2^63
abbrev pub HasIdsAndHints : LratStep → Type 0
HasIdsAndHints (Add id lits hints) = IsId id × AllByRecursion IsHint hints
HasIdsAndHints (Delete at_id ids) = IsId at_id × AllByRecursion IsId ids

-- a step's literals aren't 0 and have 32 bits, as those of the type `CnfLit` always do
abbrev pub HasLiterals : LratStep → Type 0
HasLiterals (Add id lits hints) = AllByRecursion IsLiteral lits
HasLiterals (Delete at_id ids) = Unit {0}

-- the ids and hints of each step are those of the format
abbrev pub IsWritable : List LratStep → Type 0
IsWritable proof = AllByRecursion HasIdsAndHints proof

-- and so are the literals
abbrev pub HasProofLiterals : List LratStep → Type 0
HasProofLiterals proof = AllByRecursion HasLiterals proof
