-- What a source finds is true of the circuit.
use Rattle.std.proofs.Common.{ℕ, ◌+◌, Bool, List, length, replicate, None, refl, ap, arith, subst}
use Rattle.aig_model.specs.Meaning.{At, IsReset, Reachable}
use Rattle.aig_model.specs.declared.parts.Parts.{Parts}
use Rattle.aig_model.specs.declared.trace.Trace.{Trace}
use Rattle.aig_model.proofs.LatchClauses.{barred_is_unreachable}
use Rattle.aig_model.proofs.Runs.{at_after}
use Rattle.aig_eval.proofs.Replays.{shown_is_reachable}
use Rattle.sim_walk.specs.declared.options.Options.{Options}
use Rattle.sim_walk.specs.Walk.{Lane, IsVisited}
use Rattle.sim_walk.specs.Zero.{IsZeroVisited, zero_state, zero_row}
use Rattle.sim_walk.proofs.Shown.{visit_shows}
use Rattle.sim_batch.specs.Batch.{lanes_of}
use Rattle.sim_batch.specs.Seeds.{IsSeed}
use Rattle.sim_batch.specs.Words.{lane_bit}
use Rattle.sim_batch.proofs.Shown.{is_reset, lane_at}
use Rattle.inv_prover.proofs.Shrinking.{greatest_is_invariant}
use Rattle.board_core.specs.declared.entry.Source.{Source}
use Rattle.board_core.specs.declared.entry.Source.TheVariants.{Zero, Walk, Sweep, Hop, Again, Proved}
use Rattle.board_core.specs.History.{IsInRange, kind_of}
use Rattle.goal_facts.specs.Found.{Found, IsHopReached, IsOfKind, IsWalkVisited}
use Rattle.goal_facts.specs.Invariants.{IsExcluded}

-- ---- reached from reset
at_is_reachable : (c : Parts) (sig : List ℕ) (state : List Bool) (t goal : ℕ) → IsReset c state → At c sig state t goal → Reachable c sig goal
at_is_reachable c sig state t goal reset at = record { depth = t; within = record { state = state; reset = reset; t = t; near = omega arith; at = at } }

zero_is_reachable : (c : Parts) (sig : List ℕ) (steps goal : ℕ) → IsZeroVisited c sig steps goal → Reachable c sig goal
zero_is_reachable c sig steps goal v =
    let trace : Trace = record { start = zero_state c; rows = record { width = length c.inputs; rows = replicate (v.1 + 1) (zero_row c) } } in
    shown_is_reachable c sig trace goal (visit_shows c sig steps v.0 v.1 goal trace record { start = refl; width = refl; rows = refl } v.2)

-- a lane of a batch from reset starts in a reset state
visit_is_reachable : (c : Parts) (sig : List ℕ) (seed batch steps j t goal : ℕ) → IsVisited c sig (lanes_of c seed batch None) steps j t goal → Reachable c sig goal
visit_is_reachable c sig seed batch steps j t goal v =
    let start = ap (λ (l : Lane). l.start) ((lane_at c seed batch None j v.lane v.place).1) in
    at_is_reachable c sig v.lane.start t goal (rw start (is_reset c (lane_bit seed batch j)))
    (record { frames = v.frames; size = v.lives.size; run = v.lives.run; shows = v.shows })

walk_is_reachable : (c : Parts) (sig : List ℕ) (o : Options) (b goal : ℕ) → IsWalkVisited c sig o b goal → Reachable c sig goal
walk_is_reachable c sig o b goal w =
    let v = w.visit in
    subst (Reachable c sig) w.goal_of_visit
    (visit_is_reachable c sig o.seed b (w.visited.last + 1) v.lane v.step v.goal w.visited.first.visited)

-- a seed's rows lead from a reset state to its state
hop_is_reachable : (c : Parts) (sig : List ℕ) (o : Options) (b goal : ℕ) → IsHopReached c sig o b goal → Reachable c sig goal
hop_is_reachable c sig o b goal h =
    let s = h.seed in
    let at = h.seed_of.is_seed.seed_at in
    let seed : IsSeed c s.start s.rows s.state = subst (λ (x : Parts). IsSeed x s.start s.rows s.state) at.circuit at.holds in
    at_is_reachable c sig s.start (length seed.frames + h.t) goal seed.reset
    (at_after c sig s.start seed.frames h.t goal seed.path seed.legal (subst (λ (state : List Bool). At c sig state h.t goal) seed.leads h.at))

-- ---- unreachable
excluded_is_unreachable : (c : Parts) (sig : List ℕ) (strength goal : ℕ) → IsExcluded c sig strength goal → ¬ Reachable c sig goal
excluded_is_unreachable c sig strength goal x =
    barred_is_unreachable c sig x.clauses goal
    (record { invariant = greatest_is_invariant c x.greatest.candidates x.clauses x.greatest.greatest; excludes = x.excludes })

-- ---- sources
pub found_is_true : (c : Parts) (sig : List ℕ) (o : Options) (source : Source) (goal : ℕ) → Found c sig o source goal → IsOfKind c sig (kind_of source) goal
found_is_true c sig o Zero goal f = zero_is_reachable c sig o.length goal f
found_is_true c sig o (Walk b) goal f = walk_is_reachable c sig o b goal f
found_is_true c sig o Sweep goal f = record { depth = o.depth; within = f }
found_is_true c sig o (Hop b) goal f = hop_is_reachable c sig o b goal f
found_is_true c sig o (Again r) goal f = f.1
found_is_true c sig o Proved goal f = excluded_is_unreachable c sig o.strength goal f

pub found_is_in_range : (c : Parts) (sig : List ℕ) (o : Options) (source : Source) (goal : ℕ) → Found c sig o source goal → IsInRange o source
found_is_in_range c sig o Zero goal f = tt
found_is_in_range c sig o (Walk b) goal f = f.inside
found_is_in_range c sig o Sweep goal f = tt
found_is_in_range c sig o (Hop b) goal f = f.inside
found_is_in_range c sig o (Again r) goal f = f.0
found_is_in_range c sig o Proved goal f = tt
