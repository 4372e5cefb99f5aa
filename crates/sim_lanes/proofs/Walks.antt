-- The lanes one by one, as a walk lane by lane keeps them.
use Rattle.std.proofs.Common.{◌≡◌, ◌≢◌, ℕ, zero, suc, ◌+◌, ◌^◌, ◌<◌, ◌≤◌, Bool, true, false, cond, IsTrue, List, [], ◌∷◌, ◌++◌, map, length, get_or, Option, refl, sym, ap, ◌∙◌, subst, arith, add-one, inl, inr, AllPairs, Contains, length-append}
use Rattle.std.specs.List.{range_with_len}
use Rattle.std.proofs.lemmas.Bool.{cases_lt}
use Rattle.std.proofs.lemmas.List.{get_or-map, length-map, map-append}
use Rattle.std.proofs.lemmas.List.Elements.{All-get_or, Contains-append_left, Contains-push, filter_passes}
use Rattle.std.proofs.lemmas.List.FromFn.{length-map-range_with_len, get_or-map-range_with_len, filter_of_map_range_with_len_more}
use Rattle.std.proofs.lemmas.List.Kept.{AllPairs-filter}
use Rattle.std.proofs.lemmas.Option.{slice_get_within}
use Rattle.aig_model.specs.declared.parts.Parts.{Parts}
use Rattle.aig_model.proofs.OneGoal.{goal_of-lt}
use Rattle.sim_walk.specs.declared.visit.Visit.{Visit}
use Rattle.sim_walk.specs.Walk.{Lane, goals_of}
use Rattle.sim_batch.specs.declared.lane_walk.LaneWalk.{LaneWalk}
use Rattle.sim_batch.specs.Batch.{lane_with, lanes_of}
use Rattle.sim_batch.specs.Best.{IsBest}
use Rattle.sim_batch.specs.Seeds.{SeedState}
use Rattle.sim_batch.specs.Steps.{AreWalks, HasGoals, IsLaneWalk, goal_count}
use Rattle.sim_batch.specs.Words.{bit_of_word, lane_bit}
use Rattle.sim_lanes.specs.Lanes.{AreLanesAt, AreMarked, AreSized, AreWalked, IsLaneAt, goals_seen, is_marked, lane_walk, lane_walks, lived_of, marked_goals, marked_visit}
use Rattle.sim_batch.proofs.Begins.{length-lanes}
use Rattle.sim_batch.proofs.Traced.{lane_placed}
use Rattle.sim_lanes.specs.declared.lanes.LaneWords.{LaneWords}
use Rattle.sim_lanes.specs.declared.walked.Walked.{Walked}

-- ---- the goals that are marked for a lane
pub marked_more : (j : ℕ) (seen : List ℕ) (n : ℕ)
    → marked_goals j seen (n + 1) ≡ marked_goals j seen n ++ cond (bit_of_word j (get_or seen n 0)) (marked_visit j n ∷ []) []
marked_more j seen n = filter_of_map_range_with_len_more (is_marked j seen) (marked_visit j) 0 n n (omega arith)

-- one goal more where its mask has the lane
one_more : (b : Bool) (xs : List Visit) (v : Visit) → length (xs ++ cond b (v ∷ []) []) ≡ length xs + cond b 1 0
one_more true xs v = length-append xs (v ∷ [])
one_more false xs v = length-append xs []

pub count_more : (j : ℕ) (seen : List ℕ) (n : ℕ)
    → length (marked_goals j seen (n + 1)) ≡ length (marked_goals j seen n) + cond (bit_of_word j (get_or seen n 0)) 1 0
count_more j seen n = ap length (marked_more j seen n) ∙ one_more (bit_of_word j (get_or seen n 0)) (marked_goals j seen n) (marked_visit j n)

goals_append : (xs ys : List Visit) → goals_of (xs ++ ys) ≡ goals_of xs ++ goals_of ys
goals_append xs ys = map-append (λ (v : Visit). v.goal) xs ys

pub marked_inside : (j : ℕ) (seen : List ℕ) (n goal : ℕ) → goal < n → IsTrue (bit_of_word j (get_or seen goal 0)) → Contains (goals_of (marked_goals j seen n)) goal
marked_inside j seen zero goal inside is = absurd (omega (arith, inside))
marked_inside j seen (suc n) goal inside is =
    let more : marked_goals j seen (suc n) ≡ marked_goals j seen n ++ cond (bit_of_word j (get_or seen n 0)) (marked_visit j n ∷ []) [] = rw add-one at (marked_more j seen n) in
    subst (λ (vs : List Visit). Contains (goals_of vs) goal) (sym more)
    (subst (λ (gs : List ℕ). Contains gs goal) (sym (goals_append (marked_goals j seen n) (cond (bit_of_word j (get_or seen n 0)) (marked_visit j n ∷ []) [])))
    (elim (cases_lt goal n) [
      | inl less ↦ Contains-append_left (goals_of (marked_goals j seen n)) (goals_of (cond (bit_of_word j (get_or seen n 0)) (marked_visit j n ∷ []) [])) goal
          (marked_inside j seen n goal less is)
      | inr ge ↦ (
          let same : goal ≡ n = omega (arith, inside, ge) in
          let bit : bit_of_word j (get_or seen n 0) ≡ true = ap (λ g. bit_of_word j (get_or seen g 0)) (sym same) ∙ is in
          subst (λ (b : Bool). Contains (goals_of (marked_goals j seen n) ++ goals_of (cond b (marked_visit j n ∷ []) [])) goal) (sym bit)
          (subst (λ (g : ℕ). Contains (goals_of (marked_goals j seen n) ++ n ∷ []) g) (sym same) (Contains-push (goals_of (marked_goals j seen n)) n))
          )
    ]))

pub marked_is : (j : ℕ) (seen : List ℕ) (n goal : ℕ) → Contains (goals_of (marked_goals j seen n)) goal → IsTrue (bit_of_word j (get_or seen goal 0))
marked_is j seen n goal inside =
    let vs : List Visit = marked_goals j seen n in
    let k : ℕ = inside.0 in
    let low : k < length vs = omega (arith, inside.1, length-map vs (λ (v : Visit). v.goal)) in
    let v : Visit = get_or vs k (marked_visit j 0) in
    let same : v.goal ≡ goal = sym (get_or-map (λ (x : Visit). x.goal) vs k (marked_visit j 0) goal low) ∙ inside.2 in
    let passes : is_marked j seen v ≡ true = All-get_or (λ x. is_marked j seen x ≡ true) vs k (marked_visit j 0) low (filter_passes (is_marked j seen) (map (marked_visit j) (range_with_len 0 n))) in
    ap (λ g. bit_of_word j (get_or seen g 0)) (sym same) ∙ passes

goals_apart : (vs : List Visit) → AllPairs (λ (v w : Visit). v.goal ≢ w.goal) vs → AllPairs (λ g h. g ≢ h) (goals_of vs)
goals_apart vs apart i j d below inside e =
    let size : length (goals_of vs) ≡ length vs = length-map vs (λ (v : Visit). v.goal) in
    let blank : Visit = marked_visit 0 0 in
    apart i j blank below (omega (arith, inside, size))
    (sym (get_or-map (λ (v : Visit). v.goal) vs i blank d (omega (arith, below, inside, size)))
    ∙ (e ∙ get_or-map (λ (v : Visit). v.goal) vs j blank d (omega (arith, inside, size))))

pub marked_apart : (j : ℕ) (seen : List ℕ) (n : ℕ) → AllPairs (λ g h. g ≢ h) (goals_of (marked_goals j seen n))
marked_apart j seen n = goals_apart (marked_goals j seen n)
    (AllPairs-filter (λ (v w : Visit). v.goal ≢ w.goal) (is_marked j seen) (map (marked_visit j) (range_with_len 0 n))
    (λ i k d below inside e. (
    let size : length (map (marked_visit j) (range_with_len 0 n)) ≡ n = length-map-range_with_len (marked_visit j) 0 n in
    let first : get_or (map (marked_visit j) (range_with_len 0 n)) i d ≡ marked_visit j i = get_or-map-range_with_len (marked_visit j) 0 n i i d (omega (arith, below, inside, size)) (omega arith) in
    let second : get_or (map (marked_visit j) (range_with_len 0 n)) k d ≡ marked_visit j k = get_or-map-range_with_len (marked_visit j) 0 n k k d (omega (arith, inside, size)) (omega arith) in
    let same : i ≡ k = sym (ap (λ (v : Visit). v.goal) first) ∙ (e ∙ ap (λ (v : Visit). v.goal) second) in
    absurd (omega (arith, below, same))
    )))

has_goals : (c : Parts) (sig : List ℕ) (lane : Lane) (n j : ℕ) (seen : List ℕ) → length seen ≡ 2 ^ length sig → AreMarked c sig lane n j seen
    → HasGoals c sig lane n (marked_goals j seen (length seen))
has_goals c sig lane n j seen size marked = record {
  distinct = marked_apart j seen (length seen);
  shown = λ goal inside. marked.shown goal (marked_is j seen (length seen) goal inside);
  whole = λ u goal inside s.
      marked_inside j seen (length seen) goal (omega (arith, size, s.shows, goal_of-lt sig (get_or s.frames u []))) (marked.whole u goal inside s);
}

-- ---- the lanes
pub length-walks : (t : ℕ) (w : LaneWords) → length (lane_walks t w) ≡ 64
length-walks t w = length-map-range_with_len (lane_walk t w) 0 64

pub walk_at : (t : ℕ) (w : LaneWords) (j : ℕ) (d : LaneWalk) → j < 64 → get_or (lane_walks t w) j d ≡ lane_walk t w j
walk_at t w j d inside = get_or-map-range_with_len (lane_walk t w) 0 64 j j d inside (omega arith)

pub walks_are : (c : Parts) (sig : List ℕ) (lanes : List Lane) (t : ℕ) (w : LaneWords) → length lanes ≡ 64 → AreSized c sig w → AreLanesAt c sig lanes t w
    → AreWalks c sig lanes t (lane_walks t w)
walks_are c sig lanes t w size sized are = λ j lane d place. (
    let inside : j < 64 = omega (arith, size, slice_get_within lanes j lane place) in
    let own = are j lane place in
    let walk : IsLaneWalk c sig lane t (lane_walk t w j) = record {
      at = own.at;
      goals = sized.seen;
      has = has_goals c sig lane _ j w.seen.items sized.seen own.marked;
    } in
    subst (λ (x : LaneWalk). IsLaneWalk c sig lane t x) (sym (walk_at t w j d inside)) walk
    )

pub counts_are : (t : ℕ) (w : LaneWords) (a n : ℕ) → map goal_count (map (lane_walk t w) (range_with_len a n)) ≡ map (goals_seen w.seen.items) (range_with_len a n)
counts_are t w a zero = refl
counts_are t w a (suc n) = ap (λ more. goals_seen w.seen.items a ∷ more) (counts_are t w (a + 1) n)

-- ---- what the end of a batch says of them
pub best_of : (t : ℕ) (w : LaneWords) (b : ℕ) (seen : List ℕ) → seen ≡ w.seen.items → IsBest (map (goals_seen seen) (range_with_len 0 64)) b
    → IsBest (map goal_count (lane_walks t w)) b
best_of t w b seen e best =
    subst (λ (counts : List ℕ). IsBest counts b) (ap (λ (s : List ℕ). map (goals_seen s) (range_with_len 0 64)) e ∙ sym (counts_are t w 0 64)) best

pub best_low : (b : ℕ) (seen : List ℕ) → IsBest (map (goals_seen seen) (range_with_len 0 64)) b → b < 64
best_low b seen best = omega (arith, best.inside, length-map-range_with_len (goals_seen seen) 0 64)

pub lived_at : (t : ℕ) (w : LaneWords) (b n : ℕ) (d : LaneWalk) → b < 64 → n ≡ lived_of t w.live w.died.items b → (get_or (lane_walks t w) b d).lived ≡ n
lived_at t w b n d low e = ap (λ (x : LaneWalk). x.lived) (walk_at t w b d low) ∙ sym e

pub walked_are : (c : Parts) (sig : List ℕ) (seed batch : ℕ) (from : Option SeedState) (len stall : ℕ) (w : Walked) → AreWalked c sig (lanes_of c seed batch from) len stall w
    → AreWalks c sig (lanes_of c seed batch from) w.steps (lane_walks w.steps w.lanes)
walked_are c sig seed batch from len stall w walked =
    walks_are c sig (lanes_of c seed batch from) w.steps w.lanes (length-lanes c seed batch from) walked.sized
    (subst (λ (n : ℕ). AreLanesAt c sig (lanes_of c seed batch from) n w.lanes) (sym walked.steps) walked.at)

pub best_made : (seen : List ℕ) (b : ℕ) → b < 64 → ((j : ℕ) → j < 64 → goals_seen seen j ≤ goals_seen seen b) → ((j : ℕ) → j < b → goals_seen seen j < goals_seen seen b)
    → IsBest (map (goals_seen seen) (range_with_len 0 64)) b
best_made seen b low most least =
    let size : length (map (goals_seen seen) (range_with_len 0 64)) ≡ 64 = length-map-range_with_len (goals_seen seen) 0 64 in
    let at : (j : ℕ) → j < 64 → get_or (map (goals_seen seen) (range_with_len 0 64)) j 0 ≡ goals_seen seen j =
    λ j inside. get_or-map-range_with_len (goals_seen seen) 0 64 j j 0 inside (omega arith) in
    record {
      inside = omega (arith, size, low);
      most = λ j inside. (let near : j < 64 = omega (arith, size, inside) in omega (arith, at j near, at b low, most j near));
      least = λ j before. omega (arith, at j (omega (arith, before, low)), at b low, least j before);
    }

pub walked_lane : (c : Parts) (sig : List ℕ) (seed batch : ℕ) (from : Option SeedState) (len stall : ℕ) (w : Walked) (j : ℕ) → AreWalked c sig (lanes_of c seed batch from) len stall w
    → j < 64 → IsLaneAt c sig (lane_with c from (lane_bit seed batch j)) w.steps j w.lanes
walked_lane c sig seed batch from len stall w j walked low =
    let lane : Lane = lane_with c from (lane_bit seed batch j) in
    subst (λ (n : ℕ). IsLaneAt c sig lane n j w.lanes) (sym walked.steps) (walked.at j lane (lane_placed c seed batch from j low))
