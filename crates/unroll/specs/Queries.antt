-- Formulas that ask: is there a new goal at a step, does a clause fail after one step, does a goal escape the clauses?
use Rattle.std.specs.Prelude.{ℕ, zero, suc, ◌+◌, ◌%◌, ◌/◌, ◌==◌, ℤ, pos, negsuc, neg_ℤ, List, [], ◌∷◌, ◌++◌, map, get_or}
use Rattle.cnf_base.specs.Meaning.{CnfFormula}
use Rattle.aig_model.specs.WellFormed.{latch_lits, next_lits}
use Rattle.aig_model.specs.declared.parts.Parts.{Parts}
use Rattle.unroll.specs.declared.start.Start.{Start}
use Rattle.unroll.specs.declared.start.Start.TheVariants.{Any}
use Rattle.unroll.specs.Frames.{lit_after, with_value, vars_before, unit_clauses, frames_clauses}

-- ---- goals
-- the literals that are true exactly where the goal is shown: each signal, negated where its bit of the goal is 0
abbrev pub goal_lits : ℕ → List ℕ → ℕ → List ℤ
goal_lits before [] goal = []
goal_lits before (lit ∷ sig) goal = with_value (lit_after before lit) (goal % 2 == 1) ∷ goal_lits before sig (goal / 2)

-- the goal is not shown
abbrev pub blocking_clause : ℕ → List ℕ → ℕ → List ℤ
blocking_clause before sig goal = map neg_ℤ (goal_lits before sig goal)

-- Runs of steps 0 to step that end in a goal that is not blocked.
abbrev pub search_formula : Parts → List ℕ → Start → ℕ → List ℕ → CnfFormula
search_formula c sig start step blocked = record {
  vars = vars_before c (step + 1);
  clauses = frames_clauses c start step ++ map (blocking_clause (vars_before c step) sig) blocked;
}

-- ---- clauses over latches
-- a literal of such a clause at step 0, with these literals of the circuit in place of the latches; 0, which is no latch's, is false
abbrev pub latch_lit : List ℕ → ℤ → ℤ
latch_lit lits (pos zero) = lit_after 0 0
latch_lit lits (pos (suc k)) = lit_after 0 (get_or lits k 0)
latch_lit lits (negsuc k) = neg_ℤ (lit_after 0 (get_or lits k 0))

abbrev pub latch_clause : List ℕ → List ℤ → List ℤ
latch_clause lits clause = map (latch_lit lits) clause

-- Steps from a state in which the clauses hold.
abbrev pub held_clauses : Parts → List (List ℤ) → List (List ℤ)
held_clauses c clauses = frames_clauses c Any 0 ++ map (latch_clause (latch_lits c.latches)) clauses

-- Such steps after which the clause at this place is false.
abbrev pub kept_formula : Parts → List (List ℤ) → ℕ → CnfFormula
kept_formula c clauses place = record {
  vars = vars_before c 1;
  clauses = held_clauses c clauses ++ unit_clauses (map neg_ℤ (latch_clause (next_lits c.latches) (get_or clauses place [])));
}

-- Such steps that show the goal.
abbrev pub excludes_formula : Parts → List ℕ → List (List ℤ) → ℕ → CnfFormula
excludes_formula c sig clauses goal = record {
  vars = vars_before c 1;
  clauses = held_clauses c clauses ++ unit_clauses (goal_lits 0 sig goal);
}
