-- Literals: twice the variable, plus one where it is negated (AIGER 1.9).
use Rattle.std.specs.Prelude.{ℕ, ◌/◌, ◌%◌, Bool, nat_eq, not, if◌then◌else◌, List, get_or, false}

abbrev pub var : ℕ → ℕ
var lit = lit / 2

abbrev pub is_negated : ℕ → Bool
is_negated lit = nat_eq (lit % 2) 1

-- the value of a literal, in a list of the variables' values
abbrev pub value_of : List Bool → ℕ → Bool
value_of a lit = if is_negated lit then not (get_or a (var lit) false) else get_or a (var lit) false

-- a truth value as a digit
abbrev pub number : Bool → ℕ
number b = if b then 1 else 0
