-- A lane's way is what the code makes, and it leads to a seed.
use Rattle.std.proofs.Common.{◌≡◌, ℕ, ◌+◌, ◌<◌, Bool, List, [], ◌++◌, map, length, get_or, Option, None, Some, sym, ap, ◌∙◌, subst, arith}
use Rattle.std.specs.List.{range_with_len}
use Rattle.std.proofs.lemmas.List.{get_or-map, length-map, map-append}
use Rattle.std.proofs.lemmas.List.Elements.{All-append}
use Rattle.std.proofs.lemmas.List.FromFn.{fill_by_all}
use Rattle.aig_model.specs.Meaning.{Assignment, IsLegal, Path, input_values, state_after}
use Rattle.aig_model.specs.declared.parts.Parts.{Parts}
use Rattle.aig_model.specs.declared.trace.Trace.{Trace}
use Rattle.aig_model.proofs.Paths.{path_append, state_after-append}
use Rattle.sim_walk.specs.Walk.{Lane}
use Rattle.sim_batch.specs.Batch.{BelongsTo, first_rows, first_start, lane_rows, lane_start, lane_with, lanes_of, reset_state, start_bits}
use Rattle.sim_batch.specs.Seeds.{SeedState, AreSeeds, IsSeed}
use Rattle.sim_batch.specs.Steps.{IsAt}
use Rattle.sim_batch.specs.Ways.{IsLaneAfter, IsLaneWay}
use Rattle.sim_batch.specs.Words.{batch_generator, bit_of_word, lane_bit, word_at}
use Rattle.sim_batch.proofs.Shown.{is_reset, lane_at}
use Rattle.sim_batch.proofs.Traced.{AreDrawn, lane_placed, rows_from, start_drawn}

-- ---- the way
way_of : (c : Parts) (seed batch : ℕ) (from : Option SeedState) (j count : ℕ) (way : Trace) → j < 64
    → way.start ≡ first_start from (lane_start c from (lane_bit seed batch j)) → way.rows.width ≡ length c.inputs
    → way.rows.rows ≡ first_rows from ++ lane_rows (lane_with c from (lane_bit seed batch j)) count
    → IsLaneWay c from (lanes_of c seed batch from) j count way
way_of c seed batch from j count way inside start width rows = record {
  lane = lane_with c from (lane_bit seed batch j);
  place = lane_placed c seed batch from j inside;
  start = start;
  width = width;
  rows = rows;
}

pub way_none : (c : Parts) (seed batch : ℕ) (from : Option SeedState) (words : List ℕ) (j count : ℕ) (way : Trace) → from ≡ None → j < 64
    → words ≡ map (word_at (batch_generator seed batch)) (range_with_len 0 (start_bits c from))
    → way.start ≡ reset_state (λ k. bit_of_word j (get_or words k 0)) 0 c.latches → way.rows.width ≡ length c.inputs
    → AreDrawn c seed batch from j count way.rows.rows → IsLaneWay c from (lanes_of c seed batch from) j count way
way_none c seed batch None words j count way e inside drawn start width rows =
    way_of c seed batch None j count way inside (start ∙ start_drawn c (batch_generator seed batch) None words j drawn) width (rows ∙ rows_from c seed batch None j count)
way_none c seed batch (Some from) words j count way e inside drawn start width rows = absurd cc

pub way_some : (c : Parts) (seed batch : ℕ) (from : Option SeedState) (s : SeedState) (own : List (List Bool)) (j count : ℕ) (way : Trace) → from ≡ Some s → j < 64
    → AreSeeds from → BelongsTo c from → way.start ≡ s.start → way.rows.width ≡ s.rows.width → way.rows.rows ≡ s.rows.rows ++ own
    → AreDrawn c seed batch from j count own → IsLaneWay c from (lanes_of c seed batch from) j count way
way_some c seed batch None s own j count way e inside holds same start width rows drawn = absurd cc
way_some c seed batch (Some from) s own j count way e inside holds same start width rows drawn =
    let equal : s ≡ from = cc in
    way_of c seed batch (Some from) j count way inside (start ∙ ap (λ (x : SeedState). x.start) equal)
    (width ∙ (ap (λ (x : SeedState). x.rows.width) equal ∙ (holds.width ∙ ap (λ (x : Parts). length x.inputs) same)))
    (rows ∙ (ap (λ (x : SeedState). x.rows.rows ++ own) equal ∙ ap (λ r. from.rows.rows ++ r) (drawn ∙ rows_from c seed batch (Some from) j count)))

-- ---- where it leads
own_rows : (c : Parts) (lane : Lane) (t : ℕ) (state : List Bool) → (at : IsAt c lane t t state) → map (input_values c) at.frames ≡ lane_rows lane t
own_rows c lane t state at =
    fill_by_all lane.row (map (input_values c) at.frames) t [] (length-map at.frames (input_values c) ∙ at.size)
    (λ k inside. get_or-map (input_values c) at.frames k [] [] (omega (arith, at.size, inside)) ∙ at.inputs k inside)

pub after_seed : (c : Parts) (seed batch : ℕ) (from : Option SeedState) (j t : ℕ) (way : Trace) (state : List Bool) → AreSeeds from → BelongsTo c from
    → IsLaneWay c from (lanes_of c seed batch from) j t way → IsLaneAfter c (lanes_of c seed batch from) j t state → IsSeed c way.start way.rows state
after_seed c seed batch None j t way state holds belongs of after =
    let bits = lane_bit seed batch j in
    let ours : of.lane ≡ lane_with c None bits = (lane_at c seed batch None j of.lane of.place).1 in
    let theirs : after.lane ≡ lane_with c None bits = (lane_at c seed batch None j after.lane after.place).1 in
    let same : after.lane ≡ of.lane = theirs ∙ sym ours in
    let start : way.start ≡ after.lane.start = of.start ∙ ap (λ (l : Lane). l.start) (sym same) in
    let reset : way.start ≡ reset_state bits 0 c.latches = of.start ∙ ap (λ (l : Lane). l.start) ours in
    record {
      reset = rw reset (is_reset c bits);
      width = of.width;
      frames = after.at.frames;
      inputs = own_rows c after.lane t state after.at ∙ (ap (λ (l : Lane). lane_rows l t) same ∙ sym of.rows);
      path = subst (λ (s : List Bool). Path c s after.at.frames) (sym start) after.at.path;
      legal = after.at.legal;
      leads = after.at.leads ∙ ap (λ s. state_after c s after.at.frames) (sym start);
    }
after_seed c seed batch (Some from) j t way state holds belongs of after =
    let ok : IsSeed c from.start from.rows from.state = subst (λ (x : Parts). IsSeed x from.start from.rows from.state) belongs holds in
    let bits = lane_bit seed batch j in
    let ours : of.lane ≡ lane_with c (Some from) bits = (lane_at c seed batch (Some from) j of.lane of.place).1 in
    let theirs : after.lane ≡ lane_with c (Some from) bits = (lane_at c seed batch (Some from) j after.lane after.place).1 in
    let same : after.lane ≡ of.lane = theirs ∙ sym ours in
    let begins : after.lane.start ≡ state_after c from.start ok.frames = ap (λ (l : Lane). l.start) theirs ∙ ok.leads in
    let own : Path c (state_after c from.start ok.frames) after.at.frames = subst (λ (s : List Bool). Path c s after.at.frames) begins after.at.path in
    let frames : List Assignment = ok.frames ++ after.at.frames in
    let rows : map (input_values c) frames ≡ from.rows.rows ++ lane_rows of.lane t =
    map-append (input_values c) ok.frames after.at.frames
    ∙ ap (λ r. r ++ map (input_values c) after.at.frames) ok.inputs
    ∙ ap (λ r. from.rows.rows ++ r) (own_rows c after.lane t state after.at ∙ ap (λ (l : Lane). lane_rows l t) same) in
    record {
      reset = rw of.start ok.reset;
      width = of.width;
      frames = frames;
      inputs = rows ∙ sym of.rows;
      path = subst (λ (s : List Bool). Path c s frames) (sym of.start) (path_append c from.start ok.frames after.at.frames ok.path own);
      legal = All-append (IsLegal c) ok.frames after.at.frames ok.legal after.at.legal;
      leads = after.at.leads ∙ (ap (λ s. state_after c s after.at.frames) begins
          ∙ (sym (state_after-append c from.start ok.frames after.at.frames) ∙ ap (λ s. state_after c s frames) (sym of.start)));
    }
