-- A lane's trace shows what the lane visits.
use Rattle.std.proofs.Common.{◌≡◌, ℕ, zero, suc, ◌+◌, ◌-◌, ◌<◌, Bool, false, List, [], ◌∷◌, ◌++◌, map, length, get_or, Option, None, Some, refl, sym, ap, ◌∙◌, subst, arith, length-append}
use Rattle.std.specs.Prelude.{slice_get}
use Rattle.std.specs.List.{range_with_len}
use Rattle.std.proofs.lemmas.List.{length-map, get_or-map, get_or-append-add, map-append}
use Rattle.std.proofs.lemmas.List.FromFn.{fill_by_all, length-map-range_with_len, get_or-map-range_with_len}
use Rattle.std.proofs.lemmas.Option.{slice_get_within, get_or_from_slice_get}
use Rattle.aig_model.specs.Meaning.{Assignment, Agrees, IsReset, Run, input_values, state_after, goal_of}
use Rattle.aig_model.specs.Replays.{Shows}
use Rattle.aig_model.specs.declared.parts.Parts.{Parts}
use Rattle.aig_model.specs.declared.parts.Latch.{Latch}
use Rattle.aig_model.specs.declared.parts.Reset.{Reset}
use Rattle.aig_model.specs.declared.parts.Reset.TheVariants as resets
use Rattle.aig_model.specs.declared.trace.Trace.{Trace}
use Rattle.aig_model.proofs.Runs.{run_append}
use Rattle.sim_walk.specs.Walk.{Lane, Lives, IsVisited}
use Rattle.sim_batch.specs.Batch.{free_bits, start_value, reset_state, lane_with, lane_rows, lanes_of, IsLaneTrace, BelongsTo}
use Rattle.sim_batch.specs.Seeds.{SeedState, IsSeed, AreSeeds}
use Rattle.sim_batch.specs.Words.{lane_bit}

-- ---- the start from reset
start_agrees : (r : Reset) (bit : Bool) → Agrees r (start_value r bit)
start_agrees resets.Zero bit = refl
start_agrees resets.One bit = refl
start_agrees resets.Free bit = tt

pub length-reset_state : (bits : ℕ → Bool) (n : ℕ) (ls : List Latch) → length (reset_state bits n ls) ≡ length ls
length-reset_state bits n [] = refl
length-reset_state bits n (l ∷ ls) = ap suc (length-reset_state bits (n + free_bits l.reset) ls)

reset_agrees : (bits : ℕ → Bool) (n : ℕ) (ls : List Latch) (k : ℕ) (l : Latch) → k < length ls
    → Agrees ((get_or ls k l).reset) (get_or (reset_state bits n ls) k false)
reset_agrees bits n [] k l inside = absurd (omega (arith, inside))
reset_agrees bits n (x ∷ ls) zero l inside = start_agrees x.reset (bits n)
reset_agrees bits n (x ∷ ls) (suc k) l inside = reset_agrees bits (n + free_bits x.reset) ls k l (omega (arith, inside))

pub is_reset : (c : Parts) (bits : ℕ → Bool) → IsReset c (reset_state bits 0 c.latches)
is_reset c bits = record { size = length-reset_state bits 0 c.latches; agrees = λ k l inside. reset_agrees bits 0 c.latches k l inside }

-- ---- the lanes
pub lane_at : (c : Parts) (seed batch : ℕ) (from : Option SeedState) (j : ℕ) (lane : Lane) → slice_get (lanes_of c seed batch from) j ≡ Some lane
    → (j < 64) × (lane ≡ lane_with c from (lane_bit seed batch j))
unfolding lanes_of
lane_at c seed batch from j lane place =
    let f : ℕ → Lane = λ k. lane_with c from (lane_bit seed batch k) in
    let inside : j < 64 = omega (arith, slice_get_within (map f (range_with_len 0 64)) j lane place, length-map-range_with_len f 0 64) in
    (inside, sym (get_or_from_slice_get (map f (range_with_len 0 64)) j lane lane place) ∙ get_or-map-range_with_len f 0 64 j j lane inside (omega arith))

-- ---- the trace
pub lived_rows : (c : Parts) (lane : Lane) (t : ℕ) (frames : List Assignment) → Lives c lane t frames → map (input_values c) frames ≡ lane_rows lane (t + 1)
lived_rows c lane t frames lives =
    let size : length (map (input_values c) frames) ≡ t + 1 = length-map frames (input_values c) ∙ lives.size in
    fill_by_all lane.row (map (input_values c) frames) (t + 1) [] size
    (λ k inside. get_or-map (input_values c) frames k [] [] (omega (arith, lives.size)) ∙ lives.inputs k (omega arith))

pub shows_visit : (c : Parts) (sig : List ℕ) (seed batch : ℕ) (from : Option SeedState) (steps j t goal : ℕ) (trace : Trace) → AreSeeds from → BelongsTo c from
    → IsLaneTrace c from (lanes_of c seed batch from) j t trace → IsVisited c sig (lanes_of c seed batch from) steps j t goal → Shows c sig trace goal
shows_visit c sig seed batch None steps j t goal trace holds same_circuit of visit =
    let bits = lane_bit seed batch j in
    let ours : of.lane ≡ lane_with c None bits = (lane_at c seed batch None j of.lane of.place).1 in
    let theirs : visit.lane ≡ lane_with c None bits = (lane_at c seed batch None j visit.lane visit.place).1 in
    let same : visit.lane ≡ of.lane = theirs ∙ sym ours in
    let last : length visit.frames - 1 ≡ t = omega (arith, visit.lives.size) in
    let start : trace.start ≡ reset_state bits 0 c.latches = of.start ∙ ap (λ (l : Lane). l.start) ours in
    record {
      reset = rw start (is_reset c bits);
      width = of.width;
      frames = visit.frames;
      rows = lived_rows c visit.lane t visit.frames visit.lives ∙ ap (λ (l : Lane). lane_rows l (t + 1)) same ∙ sym of.rows;
      run = subst (λ (s : List Bool). Run c s visit.frames) (ap (λ (l : Lane). l.start) same ∙ sym of.start) visit.lives.run;
      shows = ap (λ n. goal_of sig (get_or visit.frames n [])) last ∙ visit.shows;
    }
shows_visit c sig seed batch (Some from) steps j t goal trace holds same_circuit of visit =
    let ok : IsSeed c from.start from.rows from.state = subst (λ (x : Parts). IsSeed x from.start from.rows from.state) same_circuit holds in
    let bits = lane_bit seed batch j in
    let ours : of.lane ≡ lane_with c (Some from) bits = (lane_at c seed batch (Some from) j of.lane of.place).1 in
    let theirs : visit.lane ≡ lane_with c (Some from) bits = (lane_at c seed batch (Some from) j visit.lane visit.place).1 in
    let same : visit.lane ≡ of.lane = theirs ∙ sym ours in
    let begins : visit.lane.start ≡ state_after c from.start ok.frames = ap (λ (l : Lane). l.start) theirs ∙ ok.leads in
    let frames : List Assignment = ok.frames ++ visit.frames in
    let last : length frames - 1 ≡ length ok.frames + t = omega (arith, length-append ok.frames visit.frames, visit.lives.size) in
    let run : Run c from.start frames =
    run_append c from.start ok.frames visit.frames ok.path ok.legal (subst (λ (s : List Bool). Run c s visit.frames) begins visit.lives.run) in
    let rows : map (input_values c) frames ≡ from.rows.rows ++ lane_rows of.lane (t + 1) =
    map-append (input_values c) ok.frames visit.frames
    ∙ ap (λ r. r ++ map (input_values c) visit.frames) ok.inputs
    ∙ ap (λ r. from.rows.rows ++ r) (lived_rows c visit.lane t visit.frames visit.lives ∙ ap (λ (l : Lane). lane_rows l (t + 1)) same) in
    record {
      reset = rw of.start ok.reset;
      width = of.width;
      frames = frames;
      rows = rows ∙ sym of.rows;
      run = subst (λ (s : List Bool). Run c s frames) (sym of.start) run;
      shows = ap (λ n. goal_of sig (get_or frames n [])) last ∙ (ap (goal_of sig) (get_or-append-add ok.frames visit.frames t []) ∙ visit.shows);
    }
