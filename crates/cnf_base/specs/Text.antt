-- How a formula is written.
use Rattle.std.specs.Prelude.{ℕ, ℤ, codes, List, ◌++◌, length}
use Rattle.std.specs.List.{flat_map}
use Rattle.std.specs.Fmt.{decimal, signed_decimal}
use Rattle.cnf_base.specs.Meaning.{CnfFormula}

abbrev pub header_text : ℕ → ℕ → List ℕ
header_text vars clauses = codes "p cnf " ++ decimal vars ++ codes " " ++ decimal clauses ++ codes "\n"

abbrev pub literal_text : ℤ → List ℕ
literal_text l = signed_decimal l ++ codes " "

-- a line with the literals and a 0
abbrev pub clause_text : List ℤ → List ℕ
clause_text clause = flat_map literal_text clause ++ codes "0\n"

abbrev pub formula_text : CnfFormula → List ℕ
formula_text f = header_text f.vars (length f.clauses) ++ flat_map clause_text f.clauses
