-- A batch is over exactly where the test says so.
use Rattle.std.proofs.Common.{◌≡◌, ℕ, ◌+◌, ◌<◌, ◌≤◌, List, [], length, get_or, Some, sym, ◌∙◌, subst, arith, inl, inr, All, Any, Contains}
use Rattle.std.specs.Prelude.{slice_get}
use Rattle.std.proofs.lemmas.Bool.{cases_lt}
use Rattle.std.proofs.lemmas.List.{get_or-map, get_or_default, length-map}
use Rattle.std.proofs.lemmas.List.Elements.{All-get_or}
use Rattle.std.proofs.lemmas.Option.{slice_get-get_or, slice_get_within}
use Rattle.aig_model.specs.declared.parts.Parts.{Parts}
use Rattle.sim_walk.specs.declared.visit.Visit.{Visit}
use Rattle.sim_walk.specs.Walk.{Lane, IsVisited, goals_of}
use Rattle.sim_batch.specs.declared.lane_walk.LaneWalk.{LaneWalk}
use Rattle.sim_batch.specs.Ends.{LivesSome, IsNewStep, IsStalled}
use Rattle.sim_batch.specs.Steps.{AreWalks, IsLaneWalk, IsFirstBefore, VisitsBefore}
use Rattle.sim_batch.proofs.Begins.{so_far_of, walk_of}
use Rattle.sim_batch.proofs.Lanes.{lives_within, at_lived}
use Rattle.sim_batch.proofs.SoFar.{step_below, shows_visited, visited_shows}

-- ---- some lane lives
blank : Lane
blank = record { start = []; row = λ _. [] }

pub lived_lives : (c : Parts) (sig : List ℕ) (lanes : List Lane) (walks : List LaneWalk) (t : ℕ) → length lanes ≡ length walks → AreWalks c sig lanes (t + 1) walks
    → Any (λ (w : LaneWalk). t < w.lived) walks → LivesSome c lanes t
lived_lives c sig lanes walks t size are some =
    let j : ℕ = some.0 in
    let lane : Lane = get_or lanes j blank in
    let place : slice_get lanes j ≡ Some lane = slice_get-get_or lanes j blank (omega (arith, size, some.2)) in
    let walk : IsLaneWalk c sig lane (t + 1) some.1 = subst (λ (w : LaneWalk). IsLaneWalk c sig lane (t + 1) w) some.3 (are j lane some.1 place) in
    record {
      j = j;
      lane = lane;
      place = place;
      frames = _;
      lives = at_lived c lane (t + 1) some.1.lived some.1.state t walk.at some.4;
    }

pub lives_lived : (c : Parts) (sig : List ℕ) (lanes : List Lane) (walks : List LaneWalk) (t : ℕ) → length lanes ≡ length walks
    → AreWalks c sig lanes (t + 1) walks → LivesSome c lanes t → Any (λ (w : LaneWalk). t < w.lived) walks
lives_lived c sig lanes walks t size are some =
    let d : LaneWalk = walk_of [] (so_far_of 0 []) in
    let inside : some.j < length walks = omega (arith, size, slice_get_within lanes some.j some.lane some.place) in
    let w : LaneWalk = get_or walks some.j d in
    let walk : IsLaneWalk c sig some.lane (t + 1) w = are some.j some.lane d some.place in
    (some.j, w, inside, get_or_default walks some.j w d inside, lives_within c some.lane (t + 1) w.lived w.state t some.frames walk.at (omega arith) some.lives)

-- ---- no new step
-- where a visit is first, its step is new
visit_new : (c : Parts) (sig : List ℕ) (lanes : List Lane) (t j : ℕ) (v : Visit) → IsFirstBefore c sig lanes t j v → IsNewStep c sig lanes v.step
visit_new c sig lanes t j v f = record {
  j = v.lane;
  goal = v.goal;
  visited = shows_visited c sig lanes (v.step + 1) v.lane v.step v.goal (omega arith) f.visited;
  new = λ k s before visit. f.least k s (visited_shows c sig lanes v.step k s v.goal visit) (inl before);
}

pub stalled_no_visit : (c : Parts) (sig : List ℕ) (lanes : List Lane) (t stall : ℕ) (vs : List Visit) → VisitsBefore c sig lanes (t + 1) 0 vs
    → IsStalled c sig lanes stall t → All (λ (v : Visit). v.step + stall ≤ t) vs
stalled_no_visit c sig lanes t stall vs so stalled = λ k d inside. (
    let v : Visit = get_or vs k d in
    let f : IsFirstBefore c sig lanes (t + 1) 0 v = All-get_or (IsFirstBefore c sig lanes (t + 1) 0) vs k d inside so.firsts in
    let near : v.step < t + 1 = step_below v.step v.lane (t + 1) f.near in
    elim (cases_lt t (v.step + stall)) [
      | inl lt ↦ absurd (stalled.old v.step (omega (arith, near)) lt (visit_new c sig lanes (t + 1) 0 v f))
      | inr ge ↦ ge
    ]
    )

pub no_visit_stalled : (c : Parts) (sig : List ℕ) (lanes : List Lane) (t stall : ℕ) (vs : List Visit) → VisitsBefore c sig lanes (t + 1) 0 vs
    → stall ≤ t + 1 → All (λ (v : Visit). v.step + stall ≤ t) vs → IsStalled c sig lanes stall t
no_visit_stalled c sig lanes t stall vs so enough none = record {
  enough = enough;
  old = λ s near late new. (
      let known : Contains (goals_of vs) new.goal = so.whole new.j s new.goal (visited_shows c sig lanes (s + 1) new.j s new.goal new.visited) (inl (let lt : s < t + 1 = omega (arith, near) in lt)) in
      let k = known.0 in
      let blank_visit : Visit = record { goal = 0; lane = 0; step = 0 } in
      let inside : k < length vs = omega (arith, known.1, length-map vs (λ (x : Visit). x.goal)) in
      let v : Visit = get_or vs k blank_visit in
      let goal : v.goal ≡ new.goal = sym (get_or-map (λ (x : Visit). x.goal) vs k blank_visit new.goal inside) ∙ known.2 in
      let f : IsFirstBefore c sig lanes (t + 1) 0 v = All-get_or (IsFirstBefore c sig lanes (t + 1) 0) vs k blank_visit inside so.firsts in
      let early : v.step + stall ≤ t = All-get_or (λ (x : Visit). x.step + stall ≤ t) vs k blank_visit inside none in
      let before : v.step < s = omega (arith, early, late) in
      new.new v.lane v.step before (subst (λ (g : ℕ). IsVisited c sig lanes s v.lane v.step g) goal (shows_visited c sig lanes s v.lane v.step v.goal before f.visited))
      );
}
