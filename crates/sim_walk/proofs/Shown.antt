-- The trace of the zero walk to a step shows the goal that is visited there.
use Rattle.std.proofs.Common.{◌≡◌, ℕ, ◌-◌, List, [], length, get_or, replicate, false, refl, sym, ap, ◌∙◌, arith}
use Rattle.std.proofs.lemmas.List.{get_or-map, length-map}
use Rattle.aig_model.specs.Meaning.{Agrees, IsReset, goal_of}
use Rattle.aig_model.specs.Replays.{Shows}
use Rattle.aig_model.specs.declared.parts.Parts.{Parts}
use Rattle.aig_model.specs.declared.parts.Latch.{Latch}
use Rattle.aig_model.specs.declared.parts.Reset.{Reset}
use Rattle.aig_model.specs.declared.parts.Reset.TheVariants as resets
use Rattle.aig_model.specs.declared.trace.Trace.{Trace}
use Rattle.sim_walk.proofs.ZeroPaths.{same_rows}
use Rattle.sim_walk.specs.Walk.{IsVisited}
use Rattle.sim_walk.specs.Zero.{first_value, zero_state, zero_row, zero_lanes, IsZeroTrace}
use Rattle.sim_walk.proofs.OneLane.{IsSeen, seen-from_visited}

first_agrees : (r : Reset) → Agrees r (first_value r)
first_agrees resets.Zero = refl
first_agrees resets.One = refl
first_agrees resets.Free = tt

zero_reset : (c : Parts) → IsReset c (zero_state c)
zero_reset c = record {
  size = length-map c.latches (λ (l : Latch). first_value l.reset);
  agrees = λ k l inside. rw (get_or-map (λ (x : Latch). first_value x.reset) c.latches k l false inside) (first_agrees ((get_or c.latches k l).reset));
}

seen_shows : (c : Parts) (sig : List ℕ) (steps t g : ℕ) (trace : Trace) → IsZeroTrace c t trace → IsSeen c sig steps t g → Shows c sig trace g
seen_shows c sig steps t g trace z v = record {
  reset = rw z.start (zero_reset c);
  width = z.width;
  frames = v.frames;
  rows = same_rows c (zero_row c) v.frames v.rows ∙ (ap (λ n. replicate n (zero_row c)) v.size ∙ sym z.rows);
  run = rw z.start v.run;
  shows = ap (λ n. goal_of sig (get_or v.frames n [])) (let last : length v.frames - 1 ≡ t = omega (arith, v.size) in last) ∙ v.shows;
}

pub visit_shows : (c : Parts) (sig : List ℕ) (steps j t g : ℕ) (trace : Trace) → IsZeroTrace c t trace → IsVisited c sig (zero_lanes c) steps j t g → Shows c sig trace g
visit_shows c sig steps j t g trace z v = seen_shows c sig steps t g trace z (seen-from_visited c sig steps j t g v)
