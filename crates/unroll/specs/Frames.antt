-- The frames of a circuit: a formula whose models are the runs of so many steps. Each step has variables of its own,
-- one for each variable of the circuit.
use Rattle.std.specs.Prelude.{ℕ, zero, suc, ◌+◌, ◌*◌, ◌<◌, ◌==◌, Bool, not, if◌then◌else◌, ℤ, pos, neg_ℤ, List, [], ◌∷◌, ◌++◌, map, filter}
use Rattle.std.specs.List.{flat_map, list_any, range_with_len, zip}
use Rattle.cnf_base.specs.Meaning.{CnfFormula}
use Rattle.aig_model.specs.Literal.{var, is_negated}
use Rattle.aig_model.specs.WellFormed.{latch_lits, defined}
use Rattle.aig_model.specs.declared.parts.Latch.{Latch}
use Rattle.aig_model.specs.declared.parts.AndGate.{AndGate}
use Rattle.aig_model.specs.declared.parts.Parts.{Parts}
use Rattle.aig_model.specs.declared.parts.Reset.{Reset}
use Rattle.aig_model.specs.declared.parts.Reset.TheVariants.{Zero, One, Free}
use Rattle.unroll.specs.declared.start.Start.{Start}
use Rattle.unroll.specs.declared.start.Start.TheVariants as starts

-- ---- literals
-- the literal of a variable of the circuit, in a step that has so many variables before it
abbrev pub var_after : ℕ → ℕ → ℤ
var_after before v = pos (suc (before + v))

-- a literal of the circuit, in such a step
abbrev pub lit_after : ℕ → ℕ → ℤ
lit_after before lit = if is_negated lit then neg_ℤ (var_after before (var lit)) else var_after before (var lit)

-- the number of variables before step t
abbrev pub vars_before : Parts → ℕ → ℕ
vars_before c t = t * (c.top + 1)

-- a literal of the circuit at step t
abbrev pub lit_at : Parts → ℕ → ℕ → ℤ
lit_at c t lit = lit_after (vars_before c t) lit

-- the literal that is true exactly where this one has the value
abbrev pub with_value : ℤ → Bool → ℤ
with_value lit value = if value then lit else neg_ℤ lit

-- each literal is true
abbrev pub unit_clauses : List ℤ → List (List ℤ)
unit_clauses lits = map (λ lit. lit ∷ []) lits

-- ---- the clauses of one step
-- the variables, from 1 on, that nothing defines, in rising order
abbrev pub undefined_vars : Parts → List ℕ
undefined_vars c = filter (λ v. not (list_any (λ w. w == v) (defined c))) (range_with_len 1 c.top)

-- these variables are false
abbrev pub false_clauses : ℕ → List ℕ → List (List ℤ)
false_clauses before vars = unit_clauses (map (λ v. neg_ℤ (var_after before v)) vars)

-- a gate's left side is the conjunction of its inputs
abbrev pub gate_clauses : ℕ → AndGate → List (List ℤ)
gate_clauses before g =
    (neg_ℤ (lit_after before g.lhs) ∷ lit_after before g.left ∷ []) ∷
    (neg_ℤ (lit_after before g.lhs) ∷ lit_after before g.right ∷ []) ∷
    (lit_after before g.lhs ∷ neg_ℤ (lit_after before g.left) ∷ neg_ℤ (lit_after before g.right) ∷ []) ∷
    []

-- these literals of the circuit are true
abbrev pub true_clauses : ℕ → List ℕ → List (List ℤ)
true_clauses before lits = unit_clauses (map (lit_after before) lits)

-- what holds at each step: variable 0 and the undefined ones are false, the gates are solved, the constraints are true
abbrev pub step_clauses : Parts → ℕ → List (List ℤ)
step_clauses c before =
    false_clauses before (0 ∷ undefined_vars c) ++ flat_map (gate_clauses before) c.gates ++ true_clauses before c.constraints

-- ---- the clauses of the state
-- a latch at step 0 has its reset
abbrev pub reset_clauses : ℕ → Reset → List (List ℤ)
reset_clauses lit Zero = (neg_ℤ (lit_after 0 lit) ∷ []) ∷ []
reset_clauses lit One = (lit_after 0 lit ∷ []) ∷ []
reset_clauses lit Free = []

-- the latches at step 0 have these values
abbrev pub state_clauses : List ℕ → List Bool → List (List ℤ)
state_clauses lits given = unit_clauses (map (λ (p : ℕ × Bool). with_value (lit_after 0 p.0) p.1) (zip lits given))

-- the latches at step 0 are in a state that the start allows
abbrev pub start_clauses : Parts → Start → List (List ℤ)
start_clauses c starts.Any = []
start_clauses c starts.Reset = flat_map (λ (l : Latch). reset_clauses l.lit l.reset) c.latches
start_clauses c (starts.State given) = state_clauses (latch_lits c.latches) given

-- a latch has the value that its next literal has at the earlier step
abbrev pub next_clauses : ℕ → ℕ → Latch → List (List ℤ)
next_clauses earlier before l =
    (neg_ℤ (lit_after before l.lit) ∷ lit_after earlier l.next ∷ []) ∷
    (lit_after before l.lit ∷ neg_ℤ (lit_after earlier l.next) ∷ []) ∷
    []

-- the latches at a step: at step 0 as the start says, and later as the step before says
abbrev pub entry_clauses : Parts → Start → ℕ → List (List ℤ)
entry_clauses c start zero = start_clauses c start
entry_clauses c start (suc t) = flat_map (next_clauses (vars_before c t) (vars_before c (suc t))) c.latches

-- ---- the whole
abbrev pub frame_clauses : Parts → Start → ℕ → List (List ℤ)
frame_clauses c start t = step_clauses c (vars_before c t) ++ entry_clauses c start t

-- the steps 0 to last
abbrev pub frames_clauses : Parts → Start → ℕ → List (List ℤ)
frames_clauses c start last = flat_map (frame_clauses c start) (range_with_len 0 (last + 1))

abbrev pub frames_formula : Parts → Start → ℕ → CnfFormula
frames_formula c start last = record { vars = vars_before c (last + 1); clauses = frames_clauses c start last }

-- the frames have too many variables
abbrev pub AreTooLarge : Parts → ℕ → Type 0
AreTooLarge c last = 4000000 < vars_before c (last + 1)
