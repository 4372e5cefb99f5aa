-- One step of all lanes, lane by lane.
use Rattle.std.proofs.Common.{◌≡◌, ℕ, ◌+◌, ◌<◌, ◌≤◌, List, [], length, get_or, set, Some, sym, ap, ◌∙◌, subst, arith, inl, inr}
use Rattle.std.specs.Prelude.{slice_get}
use Rattle.std.proofs.lemmas.Bool.{cases_lt}
use Rattle.std.proofs.lemmas.List.{get_or-set_same, get_or-set_other}
use Rattle.std.proofs.lemmas.Option.{slice_get-get_or, slice_get_within}
use Rattle.aig_model.specs.declared.parts.Parts.{Parts}
use Rattle.sim_walk.specs.declared.visit.Visit.{Visit}
use Rattle.sim_walk.specs.Walk.{Lane}
use Rattle.sim_batch.specs.declared.lane_walk.LaneWalk.{LaneWalk}
use Rattle.sim_batch.specs.Steps.{AreGiven, AreWalks, IsLaneWalk, Notes, VisitsBefore, WalksOn}
use Rattle.sim_batch.proofs.SoFar.{visits_step}

-- the lanes before k have taken step t, and those from k on haven't
pub record Round (c : Parts) (sig : List ℕ) (lanes : List Lane) (t k : ℕ) (walks : List LaneWalk) (visits : List Visit) : Type 0 where
  pub gone : (j : ℕ) (lane : Lane) (d : LaneWalk) → slice_get lanes j ≡ Some lane → j < k → IsLaneWalk c sig lane (t + 1) (get_or walks j d)
  pub left : (j : ℕ) (lane : Lane) (d : LaneWalk) → slice_get lanes j ≡ Some lane → k ≤ j → IsLaneWalk c sig lane t (get_or walks j d)
  pub so_far : VisitsBefore c sig lanes t k visits

pub round_first : (c : Parts) (sig : List ℕ) (lanes : List Lane) (t : ℕ) (walks : List LaneWalk) (visits : List Visit) → AreWalks c sig lanes t walks
    → VisitsBefore c sig lanes t 0 visits → Round c sig lanes t 0 walks visits
round_first c sig lanes t walks visits are so = record {
  gone = λ j lane d place inside. absurd (omega (arith, inside));
  left = λ j lane d place inside. are j lane d place;
  so_far = so;
}

blank : Lane
blank = record { start = []; row = λ _. [] }

pub round_next : (c : Parts) (sig : List ℕ) (lanes : List Lane) (words : List ℕ) (t k : ℕ) (walks : List LaneWalk) (old new : LaneWalk) (visits more : List Visit)
    → AreGiven words lanes t → k < 64 → length walks ≡ 64 → old ≡ get_or walks k old → WalksOn c sig words k t old new → Notes c sig words k t old visits more
    → Round c sig lanes t k walks visits → Round c sig lanes t (k + 1) (set walks k new) more
round_next c sig lanes words t k walks old new visits more given inside size item on notes round =
    let lane : Lane = get_or lanes k blank in
    let place : slice_get lanes k ≡ Some lane = slice_get-get_or lanes k blank (omega (arith, given.size, inside)) in
    let row = given.rows k lane place in
    let before : IsLaneWalk c sig lane t old = subst (λ (w : LaneWalk). IsLaneWalk c sig lane t w) (sym item) (round.left k lane old place (omega arith)) in
    record {
      gone = λ j other d there lt. elim (cases_lt j k) [
        | inl less ↦ (
            let apart : j ≡ k → ⊥ = λ e. omega (arith, less, e) in
            subst (λ (w : LaneWalk). IsLaneWalk c sig other (t + 1) w) (sym (get_or-set_other walks k j new d apart)) (round.gone j other d there less)
            )
        | inr ge ↦ (
            let same : k ≡ j = omega (arith, lt, ge) in
            let here : slice_get lanes k ≡ Some other = subst (λ (x : ℕ). slice_get lanes x ≡ Some other) (sym same) there in
            let now : IsLaneWalk c sig other (t + 1) new = on other (given.rows k other here) (subst (λ (w : LaneWalk). IsLaneWalk c sig other t w) (sym item) (round.left k other old here (omega arith))) in
            let found : get_or (set walks k new) j d ≡ new = ap (λ x. get_or (set walks k new) x d) (sym same) ∙ get_or-set_same walks k new d (omega (arith, size, inside)) in
            subst (λ (w : LaneWalk). IsLaneWalk c sig other (t + 1) w) (sym found) now
            )
      ];
      left = λ j other d there ge.
          (let apart : j ≡ k → ⊥ = λ e. omega (arith, ge, e) in
          subst (λ (w : LaneWalk). IsLaneWalk c sig other t w) (sym (get_or-set_other walks k j new d apart)) (round.left j other d there (omega (arith, ge))));
      so_far = notes lanes lane place row before round.so_far;
    }

pub round_last : (c : Parts) (sig : List ℕ) (lanes : List Lane) (words : List ℕ) (t k : ℕ) (walks : List LaneWalk) (visits : List Visit) → AreGiven words lanes t → k ≡ 64
    → Round c sig lanes t k walks visits → AreWalks c sig lanes (t + 1) walks × VisitsBefore c sig lanes (t + 1) 0 visits
round_last c sig lanes words t k walks visits given all round = (
  λ j lane d place. round.gone j lane d place (omega (arith, all, given.size, slice_get_within lanes j lane place)),
  visits_step c sig lanes t k visits round.so_far (λ j s goal shows. omega (arith, all, given.size, slice_get_within lanes j shows.lane shows.place)),
)
