-- A batch is over exactly where the test says so.
use Rattle.std.proofs.Common.{◌≡◌, ℕ, ◌+◌, ◌-◌, ◌^◌, ◌<◌, ◌≤◌, nat_eq, false, cond, IsTrue, List, [], length, get_or, Some, ap, ◌∙◌, arith, inl, inr, AllPairs, w64}
use Rattle.std.specs.Prelude.{slice_get}
use Rattle.std.specs.Int.{trailing_zeros}
use Rattle.std.proofs.lemmas.Bool.{cases_lt}
use Rattle.std.proofs.lemmas.Nat.Bits.{bit_at-trailing_zeros}
use Rattle.std.proofs.lemmas.Option.{slice_get-get_or}
use Rattle.aig_model.specs.declared.parts.Parts.{Parts}
use Rattle.sim_walk.specs.declared.visit.Visit.{Visit}
use Rattle.sim_walk.specs.Walk.{Lane, IsEarlier}
use Rattle.sim_batch.specs.Ends.{LivesSome}
use Rattle.sim_batch.specs.Words.{bit_of_word}
use Rattle.sim_batch.proofs.Lanes.{at_lived, lives_within}
use Rattle.sim_lanes.specs.LaneValues.{lane_values}
use Rattle.sim_lanes.specs.Lanes.{AreLanesAt, lived_of}
use Rattle.sim_lanes.specs.declared.lanes.LaneWords.{LaneWords}
use Rattle.sim_lanes.proofs.Deciding.{false_not}
use Rattle.sim_lanes.proofs.WordBits.{bit-none}

blank : Lane
blank = record { start = []; row = λ _. [] }

-- ---- some lane lives
pub live_lives : (c : Parts) (sig : List ℕ) (lanes : List Lane) (t : ℕ) (w : LaneWords) → length lanes ≡ 64 → w.live < 2 ^ 64 → 0 < w.live
    → AreLanesAt c sig lanes (t + 1) w → LivesSome c lanes t
live_lives c sig lanes t w size fits some are =
    let lowest = bit_at-trailing_zeros w64 w.live some fits in
    let j : ℕ = trailing_zeros w64 w.live in
    let inside : j < 64 = lowest.0 in
    let is : IsTrue (bit_of_word j w.live) = ap (λ x. nat_eq x 1) lowest.1 in
    let lane : Lane = get_or lanes j blank in
    let place : slice_get lanes j ≡ Some lane = slice_get-get_or lanes j blank (omega (arith, size, inside)) in
    let lived : lived_of (t + 1) w.live w.died.items j ≡ t + 1 = ap (λ b. cond b (t + 1) (get_or w.died.items j 0)) is in
    record {
      j = j;
      lane = lane;
      place = place;
      frames = _;
      lives = at_lived c lane (t + 1) (lived_of (t + 1) w.live w.died.items j) (lane_values j w.state.items) t (are j lane place).at (omega (arith, lived));
    }

pub lives_live : (c : Parts) (sig : List ℕ) (lanes : List Lane) (t : ℕ) (w : LaneWords) → length lanes ≡ 64 → w.live ≡ 0
    → AreLanesAt c sig lanes (t + 1) w → LivesSome c lanes t → ⊥
lives_live c sig lanes t w size none are some =
    let own = are some.j some.lane some.place in
    let off : bit_of_word some.j w.live ≡ false = ap (bit_of_word some.j) none ∙ bit-none some.j in
    let lived : lived_of (t + 1) w.live w.died.items some.j ≡ get_or w.died.items some.j 0 = ap (λ b. cond b (t + 1) (get_or w.died.items some.j 0)) off in
    let within = lives_within c some.lane (t + 1) (lived_of (t + 1) w.live w.died.items some.j) (lane_values some.j w.state.items) t some.frames own.at (omega arith) some.lives in
    omega (arith, within, lived, own.dead (false_not (bit_of_word some.j w.live) off))

-- ---- the last visit is the latest
pub last_latest : (vs : List Visit) (k : ℕ) (d : Visit) → AllPairs (λ (v w : Visit). IsEarlier v.step v.lane w.step w.lane) vs → k < length vs
    → (get_or vs k d).step ≤ (get_or vs (length vs - 1) d).step
last_latest vs k d ordered inside = elim (cases_lt k (length vs - 1)) [
  | inl less ↦ elim (ordered k (length vs - 1) d less (omega (arith, inside))) [ inl lt ↦ omega (arith, lt) | inr at ↦ omega (arith, at.0) ]
  | inr ge ↦ (let same : k ≡ length vs - 1 = omega (arith, inside, ge) in omega (arith, ap (λ n. (get_or vs n d).step) same))
]
