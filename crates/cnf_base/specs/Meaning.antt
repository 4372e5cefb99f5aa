-- Formulas in conjunctive normal form, and what their truth is.
-- A literal is an integer that isn't 0: a variable, or its negation. The definitions read 0 as true.
use Rattle.std.specs.Prelude.{◌≡◌, ℕ, zero, suc, ◌≤◌, Bool, true, false, not, ◌||◌, ℤ, pos, negsuc, nat_abs, List, [], ◌∷◌, length, slice_index_or, ◌-◌, All}

-- a number of variables, and clauses over the variables 1 up to it
pub record CnfFormula : Type 0 where
  pub vars : ℕ
  pub clauses : List (List ℤ)

-- a literal's value, where variable x has the value v x
abbrev pub lit_true : (ℕ → Bool) → ℤ → Bool
lit_true v (pos zero) = true
lit_true v (pos (suc n)) = v (suc n)
lit_true v (negsuc n) = not (v (suc n))

-- a clause's value: whether one of its literals is true
abbrev pub clause_true : (ℕ → Bool) → List ℤ → Bool
clause_true v [] = false
clause_true v (l ∷ ls) = lit_true v l || clause_true v ls

-- every clause is true
abbrev pub Satisfies : (ℕ → Bool) → List (List ℤ) → Type 0
Satisfies v [] = Unit {0}
Satisfies v (c ∷ cs) = (clause_true v c ≡ true) × Satisfies v cs

-- the value of a variable, where the first one stands for variable 1
abbrev pub value_of : List Bool → ℕ → Bool
value_of bits x = slice_index_or bits (x - 1) false

-- a value for each variable, which make every clause true
pub record IsModel (formula : CnfFormula) (bits : List Bool) : Type 0 where
  pub number : length bits ≡ formula.vars
  pub satisfies : Satisfies (value_of bits) formula.clauses

-- no values of the variables make every clause true
abbrev pub HasNoModel : List (List ℤ) → Type 0
HasNoModel cs = (v : ℕ → Bool) → Satisfies v cs → ⊥

-- each literal is one of a variable up to n
abbrev pub IsWithin : ℕ → List ℤ → Type 0
IsWithin n c = All (λ l. nat_abs l ≤ n) c
