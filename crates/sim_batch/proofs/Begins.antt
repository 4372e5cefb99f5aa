-- The lanes of a batch: how they begin, what they are given, and that they can go on.
use Rattle.std.proofs.Common.{◌≡◌, ℕ, ◌+◌, ◌*◌, ◌<◌, ◌^◌, Bool, List, [], map, length, get_or, Option, None, Some, refl, sym, ap, ◌∙◌, arith, All}
use Rattle.std.specs.List.{range_with_len}
use Rattle.std.proofs.lemmas.List.FromFn.{length-map-range_with_len, get_or-map-range_with_len}
use Rattle.aig_model.specs.declared.parts.Parts.{Parts}
use Rattle.aig_model.proofs.Paths.{length-state_after}
use Rattle.sim_walk.specs.Walk.{Lane}
use Rattle.sim_walk.specs.declared.visit.Visit.{Visit}
use Rattle.sim_walk.specs.FirstVisits.{VisitsSoFar}
use Rattle.sim_batch.specs.declared.lane_walk.LaneWalk.{LaneWalk}
use Rattle.sim_batch.specs.Batch.{start_bits, lane_start, lane_with, lanes_of, BelongsTo}
use Rattle.sim_batch.specs.Seeds.{SeedState, AreSeeds}
use Rattle.sim_batch.specs.Steps.{AreGiven, AreWalks, IsLaneWalk, IsReady, first_walk}
use Rattle.sim_batch.specs.Words.{after_words, word_at, bit_of_word, batch_generator, lane_bit}
use Rattle.sim_batch.proofs.Drawn.{row_drawn}
use Rattle.sim_batch.proofs.LaneGoals.{goals_none}
use Rattle.sim_batch.proofs.Lanes.{at_first, at_wide}
use Rattle.sim_batch.proofs.Shown.{lane_at, length-reset_state}
use Rattle.sim_batch.proofs.Traced.{start_drawn, lane_placed}

pub length-lanes : (c : Parts) (seed batch : ℕ) (from : Option SeedState) → length (lanes_of c seed batch from) ≡ 64
unfolding lanes_of
length-lanes c seed batch from = length-map-range_with_len (λ j. lane_with c from (lane_bit seed batch j)) 0 64

-- ---- before the first step
begins : (c : Parts) (sig : List ℕ) (seed batch : ℕ) (from : Option SeedState) (words : List ℕ) (j : ℕ)
    → words ≡ map (word_at (batch_generator seed batch)) (range_with_len 0 (start_bits c from))
    → IsLaneWalk c sig (lane_with c from (lane_bit seed batch j)) 0 (first_walk c sig from words j)
begins c sig seed batch from words j drawn =
    let lane : Lane = lane_with c from (lane_bit seed batch j) in
    record {
      at = rw (start_drawn c (batch_generator seed batch) from words j drawn) (at_first c lane);
      goals = refl;
      has = goals_none c sig lane;
    }

pub all_begin : (c : Parts) (sig : List ℕ) (seed batch : ℕ) (from : Option SeedState) (words : List ℕ) (walks : List LaneWalk)
    → words ≡ map (word_at (batch_generator seed batch)) (range_with_len 0 (start_bits c from))
    → walks ≡ map (first_walk c sig from words) (range_with_len 0 64) → AreWalks c sig (lanes_of c seed batch from) 0 walks
all_begin c sig seed batch from words walks drawn same = λ j lane d place. (
    let at = lane_at c seed batch from j lane place in
    let item : get_or walks j d ≡ first_walk c sig from words j = ap (λ ws. get_or ws j d) same ∙ get_or-map-range_with_len (first_walk c sig from words) 0 64 j j d at.0 (omega arith) in
    rw (item, at.1) (begins c sig seed batch from words j drawn)
    )

-- ---- what they are given
pub are_given : (c : Parts) (seed batch : ℕ) (from : Option SeedState) (words : List ℕ) (t : ℕ)
    → words ≡ map (word_at (after_words (batch_generator seed batch) (start_bits c from + t * length c.inputs))) (range_with_len 0 (length c.inputs))
    → AreGiven words (lanes_of c seed batch from) t
are_given c seed batch from words t drawn = record {
  size = length-lanes c seed batch from;
  rows = λ j lane place. ap (λ (l : Lane). l.row t) ((lane_at c seed batch from j lane place).1)
      ∙ sym (ap (map (bit_of_word j)) drawn ∙ row_drawn (batch_generator seed batch) j (start_bits c from) (length c.inputs) t);
}

-- ---- each can go on
length-start : (c : Parts) (from : Option SeedState) (bits : ℕ → Bool) → AreSeeds from → BelongsTo c from → length (lane_start c from bits) ≡ length c.latches
length-start c None bits holds same = length-reset_state bits 0 c.latches
length-start c (Some s) bits holds same =
    ap length holds.leads ∙ (length-state_after s.circuit s.start holds.frames holds.reset.size ∙ ap (λ (x : Parts). length x.latches) same)

pub all_ready : (c : Parts) (sig : List ℕ) (seed batch : ℕ) (from : Option SeedState) (t : ℕ) (walks : List LaneWalk) → AreSeeds from → BelongsTo c from
    → length walks ≡ 64 → t + 1 < 2 ^ 32 → AreWalks c sig (lanes_of c seed batch from) t walks → All (IsReady c sig t) walks
all_ready c sig seed batch from t walks holds same size room are = λ j d inside. (
    let within : j < 64 = omega (arith, size, inside) in
    let bits = lane_bit seed batch j in
    let walk = are j (lane_with c from bits) d (lane_placed c seed batch from j within) in
    record {
      state = at_wide c (lane_with c from bits) t ((get_or walks j d).lived) ((get_or walks j d).state) walk.at (length-start c from bits holds same);
      goals = walk.goals;
      lived = walk.at.near;
      room = room;
    }
    )

-- ---- a lane that is made
abbrev pub so_far_of : ℕ → List Visit → VisitsSoFar
so_far_of goals visits = record { goals = goals; visits = visits }

abbrev pub walk_of : List Bool → VisitsSoFar → LaneWalk
walk_of state visits = record { state = state; lived = 0; visits = visits }

pub made_walk : (state s : List Bool) (so : VisitsSoFar) (g : ℕ) → state ≡ s → so.goals ≡ g → so.visits ≡ [] → walk_of state so ≡ walk_of s (so_far_of g [])
made_walk state s so g a b e = ap (λ x. walk_of x so) a ∙ ap (walk_of s) (ap (λ x. so_far_of x so.visits) b ∙ ap (so_far_of g) e)
