-- The literals of a clause, each once, and their marks.
use Rattle.std.specs.Prelude.{◌≡◌, ℕ, ◌+◌, ◌*◌, ◌≤◌, Bool, false, List, nat_eq, ℤ, nat_abs, length, map, slice_index_or, All}
use Rattle.std.specs.List.{IsDistinct}
use Rattle.cnf_base.specs.Dimacs.{IsLiteral}
use Rattle.cnf_base.specs.Literal.{lit_index}
use Rattle.cnf_base.specs.Status.{has}
use Rattle.sat_solver.specs.declared.gathered.Gathered.{Gathered}

-- these literals are in range and over different variables, and they alone are marked
pub record AreGathered (vars : ℕ) (marks : List Bool) (ls : List ℤ) : Type 0 where
  pub few : vars ≤ 4000000
  pub room : length marks ≡ 2 * vars + 2
  pub in_range : All (IsLiteral vars) ls
  pub distinct : IsDistinct nat_eq (map nat_abs ls)
  pub marked : (l : ℤ) → nat_abs l ≤ vars → slice_index_or marks (lit_index l) false ≡ has ls l

abbrev pub IsGathered : Gathered → Type 0
IsGathered g = AreGathered g.vars g.marks.items g.lits.items
