-- What a step of one lane leaves.
use Rattle.std.proofs.Common.{◌≡◌, ℕ, ◌+◌, ◌<◌, ◌≤◌, Bool, List, None, Some, sym, subst, arith}
use Rattle.std.specs.Prelude.{slice_get}
use Rattle.aig_model.specs.WellFormed.{IsCircuit}
use Rattle.aig_model.specs.declared.parts.Parts.{Parts}
use Rattle.sim_walk.specs.declared.visit.Visit.{Visit}
use Rattle.sim_walk.specs.FirstVisits.{JoinsFirst}
use Rattle.sim_walk.specs.Walk.{Lane}
use Rattle.sim_batch.specs.Steps.{ShowsAt, IsAt, Advances, HasGoals, VisitsBefore}
use Rattle.sim_batch.proofs.Lanes.{lives_before, at_shows, at_next, at_dies, at_ends}
use Rattle.sim_batch.proofs.LaneGoals.{shows_once, goals_more}
use Rattle.sim_batch.proofs.SoFar.{visits_skip, visits_add}

-- ---- the lane
pub now_at : (c : Parts) (lane : Lane) (t lived : ℕ) (state : List Bool) → IsAt c lane t lived state → t ≤ lived → IsAt c lane t t state
now_at c lane t lived state at all = subst (λ (n : ℕ). IsAt c lane t n state) (let same : lived ≡ t = omega (arith, at.near) in same) at

pub step_ends : (c : Parts) (sig : List ℕ) (lane : Lane) (t : ℕ) (state row new : List Bool) → IsCircuit c → IsAt c lane t t state → lane.row t ≡ row
    → Advances c sig state row new None → IsAt c lane (t + 1) t new
step_ends c sig lane t state row new ok at same a =
    subst (λ (s : List Bool). IsAt c lane (t + 1) t s) (sym a.gives.1) (at_ends c lane t state row a.values ok at same a.step a.gives.0)

pub step_shows_none : (c : Parts) (sig : List ℕ) (lane : Lane) (t : ℕ) (state row new : List Bool) → IsCircuit c → IsAt c lane t t state → lane.row t ≡ row
    → Advances c sig state row new None → (goal : ℕ) → ShowsAt c sig lane t goal → ⊥
step_shows_none c sig lane t state row new ok at same a goal s = at_dies c lane t state row a.values ok at same a.step a.gives.0 s.frames s.lives

pub step_goes : (c : Parts) (sig : List ℕ) (lane : Lane) (t goal : ℕ) (state row new : List Bool) → IsAt c lane t t state → lane.row t ≡ row
    → Advances c sig state row new (Some goal) → IsAt c lane (t + 1) (t + 1) new
step_goes c sig lane t goal state row new at same a =
    subst (λ (s : List Bool). IsAt c lane (t + 1) (t + 1) s) (sym a.gives.2) (at_next c lane t state row a.values at same a.step a.gives.0)

pub step_shows : (c : Parts) (sig : List ℕ) (lane : Lane) (t goal : ℕ) (state row new : List Bool) → IsAt c lane t t state → lane.row t ≡ row
    → Advances c sig state row new (Some goal) → ShowsAt c sig lane t goal
step_shows c sig lane t goal state row new at same a =
    subst (λ (g : ℕ). ShowsAt c sig lane t g) (sym a.gives.1) (at_shows c sig lane t state row a.values at same a.step a.gives.0)

pub dead_shows_none : (c : Parts) (sig : List ℕ) (lane : Lane) (t lived : ℕ) (state : List Bool) → IsAt c lane t lived state → lived < t
    → (goal : ℕ) → ShowsAt c sig lane t goal → ⊥
dead_shows_none c sig lane t lived state at dead goal s = at.ends dead _ (lives_before c lane lived t s.frames at.near s.lives)

-- ---- the visits of the batch
one_lane : (lanes : List Lane) (j : ℕ) (a b : Lane) → slice_get lanes j ≡ Some a → slice_get lanes j ≡ Some b → a ≡ b
one_lane lanes j a b p q = cc

pub notes_none : (c : Parts) (sig : List ℕ) (lanes : List Lane) (lane : Lane) (t j : ℕ) (vs : List Visit) → slice_get lanes j ≡ Some lane
    → VisitsBefore c sig lanes t j vs → ((goal : ℕ) → ShowsAt c sig lane t goal → ⊥) → VisitsBefore c sig lanes t (j + 1) vs
notes_none c sig lanes lane t j vs place so none =
    visits_skip c sig lanes t j vs so (λ goal s. none goal (subst (λ (x : Lane). ShowsAt c sig x t goal) (one_lane lanes j s.lane lane s.place place) s.shows))

pub notes_some : (c : Parts) (sig : List ℕ) (lanes : List Lane) (lane : Lane) (vs more : List Visit) (v : Visit) → IsCircuit c → slice_get lanes v.lane ≡ Some lane
    → VisitsBefore c sig lanes v.step v.lane vs → ShowsAt c sig lane v.step v.goal → JoinsFirst vs more v → VisitsBefore c sig lanes v.step (v.lane + 1) more
notes_some c sig lanes lane vs more v ok place so shows joins =
    visits_add c sig lanes vs more v so (record { lane = lane; place = place; shows = shows })
    (λ goal s. shows_once c sig lane v.step v.goal goal ok shows
    (subst (λ (x : Lane). ShowsAt c sig x v.step goal) (one_lane lanes v.lane s.lane lane s.place place) s.shows)) joins

pub now_goals : (c : Parts) (sig : List ℕ) (lane : Lane) (t lived : ℕ) (vs more : List Visit) (v : Visit) → lived ≡ t → IsCircuit c → HasGoals c sig lane lived vs
    → ShowsAt c sig lane t v.goal → JoinsFirst vs more v → HasGoals c sig lane (lived + 1) more
now_goals c sig lane t lived vs more v same ok has shows joins =
    goals_more c sig lane lived vs more v ok has (subst (λ (n : ℕ). ShowsAt c sig lane n v.goal) (sym same) shows) joins
