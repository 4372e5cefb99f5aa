-- The visits of the zero walk, by its one lane.
use Rattle.std.proofs.Common.{◌≡◌, ℕ, zero, suc, ◌+◌, ◌<◌, ◌≤◌, List, [], length, get_or, refl, sym, ap, subst, ◌∙◌, arith, All, AllPairs, Contains, Some, inl, inr}
use Rattle.std.specs.Prelude.{slice_get}
use Rattle.std.proofs.lemmas.List.{get_or_default}
use Rattle.std.proofs.lemmas.List.Elements.{All-get_or, All-weaker}
use Rattle.aig_model.specs.Meaning.{Assignment, Run, input_values, goal_of}
use Rattle.aig_model.specs.declared.parts.Parts.{Parts}
use Rattle.sim_walk.specs.declared.visit.Visit.{Visit}
use Rattle.sim_walk.specs.Walk.{Lane, IsVisited, IsFirstVisit, AreVisits, goals_of}
use Rattle.sim_walk.specs.Zero.{zero_state, zero_row, zero_lane, zero_lanes}

-- the walk of so many steps visits a goal at step t: the assignments 0 to t, all inputs 0, are a run, and the last one shows it
pub record IsSeen (c : Parts) (sig : List ℕ) (steps t goal : ℕ) : Type 0 where
  pub near : t < steps
  pub frames : List Assignment
  pub size : length frames ≡ t + 1
  pub run : Run c (zero_state c) frames
  pub rows : All (λ a. input_values c a ≡ zero_row c) frames
  pub shows : goal_of sig (get_or frames t []) ≡ goal

-- a goal with the least step that visits it
pub record IsFirstSeen (c : Parts) (sig : List ℕ) (steps : ℕ) (v : Visit) : Type 0 where
  pub visited : IsSeen c sig steps v.step v.goal
  pub least : (t : ℕ) → IsSeen c sig steps t v.goal → v.step ≤ t
  pub lane : v.lane ≡ 0

pub visited-from_seen : (c : Parts) (sig : List ℕ) (steps t goal : ℕ) → IsSeen c sig steps t goal → IsVisited c sig (zero_lanes c) steps 0 t goal
visited-from_seen c sig steps t goal v = record {
  near = v.near;
  lane = zero_lane c;
  place = refl;
  frames = v.frames;
  lives = record {
    size = v.size;
    run = v.run;
    inputs = λ u l. All-get_or (λ a. input_values c a ≡ zero_row c) v.frames u [] (omega (arith, v.size)) v.rows;
  };
  shows = v.shows;
}

-- there is no other lane
pub first_lane : (c : Parts) (j : ℕ) (lane : Lane) → slice_get (zero_lanes c) j ≡ Some lane → (j ≡ 0) × (zero_lane c ≡ lane)
first_lane c zero lane e = (refl, (let same : zero_lane c ≡ lane = cc in same))
first_lane c (suc j) lane e = absurd cc

pub seen-from_visited : (c : Parts) (sig : List ℕ) (steps j t goal : ℕ) → IsVisited c sig (zero_lanes c) steps j t goal → IsSeen c sig steps t goal
seen-from_visited c sig steps j t goal v =
    let lane : zero_lane c ≡ v.lane = (first_lane c j v.lane v.place).1 in
    record {
      near = v.near;
      frames = v.frames;
      size = v.lives.size;
      run = subst (λ (l : Lane). Run c l.start v.frames) (sym lane) v.lives.run;
      rows = λ k d l. subst (λ (a : Assignment). input_values c a ≡ zero_row c) (get_or_default v.frames k [] d l)
          (v.lives.inputs k (omega (arith, v.lives.size)) ∙ ap (λ (x : Lane). x.row k) (sym lane));
      shows = v.shows;
    }

first-from_seen : (c : Parts) (sig : List ℕ) (steps : ℕ) (v : Visit) → IsFirstSeen c sig steps v → IsFirstVisit c sig (zero_lanes c) steps v
first-from_seen c sig steps v f = record {
  visited = subst (λ (j : ℕ). IsVisited c sig (zero_lanes c) steps j v.step v.goal) (sym f.lane) (visited-from_seen c sig steps v.step v.goal f.visited);
  least = λ j t seen earlier. (
      let last : v.step ≤ t = f.least t (seen-from_visited c sig steps j t v.goal seen) in
      elim earlier [ inl sooner ↦ absurd (omega (arith, last, sooner)) | inr lower ↦ absurd (omega (arith, f.lane, lower.1)) ]
      );
}

pub visits-from_seen : (c : Parts) (sig : List ℕ) (steps : ℕ) (vs : List Visit) → All (IsFirstSeen c sig steps) vs
    → ((t goal : ℕ) → IsSeen c sig steps t goal → Contains (goals_of vs) goal) → AllPairs (λ (v w : Visit). v.step < w.step) vs
    → AreVisits c sig (zero_lanes c) steps vs
visits-from_seen c sig steps vs firsts whole rising = record {
  firsts = All-weaker (IsFirstSeen c sig steps) (IsFirstVisit c sig (zero_lanes c) steps) (λ v f. first-from_seen c sig steps v f) vs firsts;
  whole = λ j t goal v. whole t goal (seen-from_visited c sig steps j t goal v);
  ordered = λ i j d l m. inl (rising i j d l m);
}
