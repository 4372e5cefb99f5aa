use Rattle.std.proofs.Common.{◌≡◌, take}
use Rattle.aig_model.specs.WellFormed.{latch_lits}
use Rattle.unroll.specs.Frames.{state_clauses}
use Rattle.unroll.specs.Building.{with_clauses}
use Rattle.unroll.proofs.entry.add_state.Given as goal

abbrev pub invariant-loop-place : goal.invariant-loop-place
invariant-loop-place l =
    l.formula ≡ with_clauses l.initial.formula (state_clauses (latch_lits (take l.place l.latches)) (take l.place l.given))
