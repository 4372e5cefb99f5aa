-- The seed of the lane that visited the most goals.
use Rattle.std.proofs.Common.{◌≡◌, ℕ, ◌+◌, ◌-◌, ◌<◌, ◌≤◌, Bool, List, [], ◌∷◌, ◌++◌, map, take, length, get_or, Option, Some, refl, sym, ap, ◌∙◌, arith, inl, inr, Contains, length-append}
use Rattle.std.specs.Prelude.{slice_get}
use Rattle.std.proofs.lemmas.Bool.{cases_lt}
use Rattle.std.proofs.Math.Seq.{take-append_seam}
use Rattle.std.proofs.lemmas.List.{append_assoc, get_or-map, length-map}
use Rattle.std.proofs.lemmas.List.Elements.{Contains-get_or}
use Rattle.std.proofs.lemmas.List.FromFn.{map-range_with_len_more}
use Rattle.aig_model.specs.declared.parts.Parts.{Parts}
use Rattle.aig_model.specs.declared.trace.Trace.{Trace}
use Rattle.aig_model.specs.Meaning.{Assignment, goal_of}
use Rattle.sim_walk.specs.declared.visit.Visit.{Visit}
use Rattle.sim_walk.specs.Walk.{Lane, IsVisited, goals_of}
use Rattle.sim_batch.specs.declared.lane_walk.LaneWalk.{LaneWalk}
use Rattle.sim_batch.specs.Batch.{first_rows, lane_rows, lanes_of, lane_with, BelongsTo, IsLaneTrace}
use Rattle.sim_batch.specs.Best.{IsBest}
use Rattle.sim_batch.specs.SeedOf.{AreGoalsOf, IsBestLane, IsLastVisit, NoneVisits}
use Rattle.sim_batch.specs.Seeds.{SeedState, AreSeeds, ShowsSome, rows_before_last}
use Rattle.sim_batch.specs.Steps.{AreWalks, IsLaneWalk, goal_count}
use Rattle.sim_batch.specs.Words.{lane_bit}
use Rattle.sim_batch.proofs.Begins.{so_far_of, walk_of}
use Rattle.sim_batch.proofs.Lanes.{lives_within, at_lived}
use Rattle.sim_batch.proofs.Shown.{lane_at, shows_visit}
use Rattle.sim_batch.proofs.Subsets.{fewer_inside}
use Rattle.sim_batch.proofs.Traced.{lane_placed}

blank : LaneWalk
blank = walk_of [] (so_far_of 0 [])

-- ---- what a lane visits
pub visited_goal : (c : Parts) (sig : List ℕ) (lanes : List Lane) (steps : ℕ) (walks : List LaneWalk) (d : LaneWalk) (j t goal : ℕ) → AreWalks c sig lanes steps walks
    → IsVisited c sig lanes steps j t goal → (t < (get_or walks j d).lived) × Contains (goals_of ((get_or walks j d).visits.visits)) goal
visited_goal c sig lanes steps walks d j t goal are v =
    let w : LaneWalk = get_or walks j d in
    let walk : IsLaneWalk c sig v.lane steps w = are j v.lane d v.place in
    let within : t < w.lived = lives_within c v.lane steps w.lived w.state t v.frames walk.at v.near v.lives in
    (within, walk.has.whole t goal within (record { frames = v.frames; lives = v.lives; shows = v.shows }))

pub goals_visited : (c : Parts) (sig : List ℕ) (lanes : List Lane) (steps : ℕ) (walks : List LaneWalk) (d : LaneWalk) (j goal : ℕ) (lane : Lane)
    → AreWalks c sig lanes steps walks → slice_get lanes j ≡ Some lane → Contains (goals_of ((get_or walks j d).visits.visits)) goal
    → (t : ℕ) × IsVisited c sig lanes steps j t goal
goals_visited c sig lanes steps walks d j goal lane are place inside =
    let w : LaneWalk = get_or walks j d in
    let walk : IsLaneWalk c sig lane steps w = are j lane d place in
    let shown = walk.has.shown goal inside in
    (shown.0, record { near = omega (arith, walk.at.near, shown.1); lane = lane; place = place; frames = shown.2.frames; lives = shown.2.lives; shows = shown.2.shows })

-- the number of its goals
count_at : (walks : List LaneWalk) (d : LaneWalk) (j : ℕ) → j < length walks → get_or (map goal_count walks) j 0 ≡ length (goals_of ((get_or walks j d).visits.visits))
count_at walks d j inside = get_or-map goal_count walks j d 0 inside ∙ sym (length-map ((get_or walks j d).visits.visits) (λ (x : Visit). x.goal))

counted : (c : Parts) (sig : List ℕ) (seed batch : ℕ) (from : Option SeedState) (steps : ℕ) (walks : List LaneWalk) (k : ℕ) (others : List ℕ)
    → length walks ≡ 64 → AreWalks c sig (lanes_of c seed batch from) steps walks → k < 64 → AreGoalsOf c sig (lanes_of c seed batch from) steps k others
    → length others ≤ get_or (map goal_count walks) k 0
counted c sig seed batch from steps walks k others size are inside of =
    let few : length others ≤ length (goals_of ((get_or walks k blank).visits.visits)) =
    fewer_inside others (goals_of ((get_or walks k blank).visits.visits)) of.distinct
    (λ goal h. (visited_goal c sig (lanes_of c seed batch from) steps walks blank k ((of.visited goal h).0) goal are ((of.visited goal h).1)).1) in
    omega (arith, few, count_at walks blank k (omega (arith, size, inside)))

-- a lane that there isn't visits no goals
uncounted : (c : Parts) (sig : List ℕ) (seed batch : ℕ) (from : Option SeedState) (steps k : ℕ) (others : List ℕ) → 64 ≤ k
    → AreGoalsOf c sig (lanes_of c seed batch from) steps k others → length others ≤ 0
uncounted c sig seed batch from steps k others past of = elim (cases_lt 0 (length others)) [
  | inl lt ↦ (
      let visit = (of.visited (get_or others 0 0) (Contains-get_or others 0 0 lt)).1 in
      absurd (omega (arith, past, (lane_at c seed batch from k visit.lane visit.place).0))
      )
  | inr ge ↦ ge
]

pub best_is : (c : Parts) (sig : List ℕ) (seed batch : ℕ) (from : Option SeedState) (steps : ℕ) (walks : List LaneWalk) (b : ℕ) → length walks ≡ 64
    → AreWalks c sig (lanes_of c seed batch from) steps walks → IsBest (map goal_count walks) b → IsBestLane c sig (lanes_of c seed batch from) steps b
best_is c sig seed batch from steps walks b size are best =
    let lanes = lanes_of c seed batch from in
    let inside : b < 64 = omega (arith, size, best.inside, length-map walks goal_count) in
    let lane : Lane = lane_with c from (lane_bit seed batch b) in
    let place : slice_get lanes b ≡ Some lane = lane_placed c seed batch from b inside in
    let own = are b lane blank place in
    let count = count_at walks blank b (omega (arith, size, inside)) in
    record {
      goals = goals_of ((get_or walks b blank).visits.visits);
      own = record {
        distinct = own.has.distinct;
        visited = λ goal h. goals_visited c sig lanes steps walks blank b goal lane are place h;
        whole = λ t goal v. (visited_goal c sig lanes steps walks blank b t goal are v).1;
      };
      most = λ k others of. elim (cases_lt k 64) [
        | inl lt ↦ omega (arith, counted c sig seed batch from steps walks k others size are lt of, best.most k (omega (arith, lt, size, length-map walks goal_count)), count)
        | inr ge ↦ omega (arith, uncounted c sig seed batch from steps k others ge of)
      ];
      least = λ k others before of. omega (arith, counted c sig seed batch from steps walks k others size are (omega (arith, before, inside)) of, best.least k before, count);
    }

-- ---- no seed
pub none_visits : (c : Parts) (sig : List ℕ) (seed batch : ℕ) (from : Option SeedState) (steps : ℕ) (walks : List LaneWalk) (b : ℕ) (d : LaneWalk) → length walks ≡ 64
    → AreWalks c sig (lanes_of c seed batch from) steps walks → IsBest (map goal_count walks) b → (get_or walks b d).lived ≡ 0
    → NoneVisits c sig (lanes_of c seed batch from) steps
none_visits c sig seed batch from steps walks b d size are best dead = λ j t goal v. (
    let lanes = lanes_of c seed batch from in
    let within : b < 64 = omega (arith, size, best.inside, length-map walks goal_count) in
    let lane : Lane = lane_with c from (lane_bit seed batch b) in
    let place : slice_get lanes b ≡ Some lane = lane_placed c seed batch from b within in
    let own = are b lane d place in
    let goals : List ℕ = goals_of ((get_or walks b d).visits.visits) in
    let empty : length goals ≤ 0 = elim (cases_lt 0 (length goals)) [
      | inl lt ↦ (
          let shown = own.has.shown (get_or goals 0 0) (Contains-get_or goals 0 0 lt) in
          absurd (omega (arith, shown.1, dead))
          )
      | inr ge ↦ ge
    ] in
    let there = (lane_at c seed batch from j v.lane v.place).0 in
    let known = (visited_goal c sig lanes steps walks blank j t goal are v).1 in
    omega (arith, known.1, count_at walks blank j (omega (arith, size, there)), best.most j (omega (arith, size, there, length-map walks goal_count)), count_at walks d b (omega (arith, size, within)), empty)
    )

-- ---- the seed
pub last_visit : (c : Parts) (sig : List ℕ) (seed batch : ℕ) (from : Option SeedState) (steps : ℕ) (walks : List LaneWalk) (b t : ℕ) (d : LaneWalk) → b < 64
    → AreWalks c sig (lanes_of c seed batch from) steps walks → t + 1 ≡ (get_or walks b d).lived
    → IsLastVisit c sig (lanes_of c seed batch from) steps b t
last_visit c sig seed batch from steps walks b t d within are last =
    let lanes = lanes_of c seed batch from in
    let lane : Lane = lane_with c from (lane_bit seed batch b) in
    let place : slice_get lanes b ≡ Some lane = lane_placed c seed batch from b within in
    let w : LaneWalk = get_or walks b d in
    let own : IsLaneWalk c sig lane steps w = are b lane d place in
    let frames : List Assignment = take (t + 1) own.at.frames in
    record {
      goal = goal_of sig (get_or frames t []);
      visited = record {
        near = omega (arith, own.at.near, last);
        lane = lane;
        place = place;
        frames = frames;
        lives = at_lived c lane steps w.lived w.state t own.at (omega (arith, last));
        shows = refl;
      };
      last = λ s other v. omega (arith, (visited_goal c sig lanes steps walks d b s other are v).0, last);
    }

pub take_pushed : (xs : List (List Bool)) (x : List Bool) → take (length (xs ++ x ∷ []) - 1) (xs ++ x ∷ []) ≡ xs
take_pushed xs x = let count : length (xs ++ x ∷ []) - 1 ≡ length xs = omega (arith, length-append xs (x ∷ [])) in ap (λ n. take n (xs ++ x ∷ [])) count ∙ take-append_seam xs (x ∷ [])

pub before_last : (c : Parts) (from : Option SeedState) (lanes : List Lane) (b t : ℕ) (trace : Trace) → (of : IsLaneTrace c from lanes b t trace)
    → (rows_before_last trace).rows ≡ first_rows from ++ lane_rows of.lane t
before_last c from lanes b t trace of =
    let more : lane_rows of.lane (t + 1) ≡ lane_rows of.lane t ++ of.lane.row t ∷ [] = map-range_with_len_more of.lane.row 0 t t (omega arith) in
    let whole : trace.rows.rows ≡ (first_rows from ++ lane_rows of.lane t) ++ of.lane.row t ∷ [] =
    of.rows ∙ (ap (λ r. first_rows from ++ r) more ∙ sym (append_assoc (first_rows from) (lane_rows of.lane t) (of.lane.row t ∷ []))) in
    ap (λ r. take (length r - 1) r) whole ∙ take_pushed (first_rows from ++ lane_rows of.lane t) (of.lane.row t)
