-- One step of all lanes, lane by lane.
use Rattle.std.proofs.Common.{◌≡◌, ◌↔◌, ℕ, ◌+◌, ◌<◌, Bool, true, not, cond, ◌&&◌, IsTrue, List, get_or, Some, sym, ap, ◌∙◌, subst, arith, inl, inr}
use Rattle.std.specs.Prelude.{slice_get}
use Rattle.std.proofs.lemmas.Bool.{cases_lt}
use Rattle.std.proofs.lemmas.Option.{slice_get_within}
use Rattle.aig_model.specs.WellFormed.{IsCircuit}
use Rattle.aig_model.specs.Meaning.{Assignment, IsLegal, next_values}
use Rattle.aig_model.specs.declared.parts.Parts.{Parts}
use Rattle.sim_walk.specs.declared.visit.Visit.{Visit}
use Rattle.sim_walk.specs.Walk.{Lane}
use Rattle.sim_batch.specs.Steps.{IsAt, ShowsAt}
use Rattle.sim_batch.specs.Words.{bit_of_word}
use Rattle.sim_batch.proofs.LaneGoals.{shows_once}
use Rattle.sim_batch.proofs.Lanes.{at_dead, at_dies, at_ends, at_next, at_shows}
use Rattle.sim_batch.proofs.Stepping.{dead_shows_none}
use Rattle.sim_lanes.specs.LaneValues.{AreSteps, HandsOn, Keeps, lane_goal, lane_values}
use Rattle.sim_lanes.specs.Lanes.{AddsMarks, AddsVisits, AreMarked, IsLaneAt, LanesStepOn, ShowsGoal, lived_of}
use Rattle.sim_lanes.specs.declared.lanes.LaneWords.{LaneWords}
use Rattle.sim_lanes.proofs.Deciding.{not_true, true_or_not}

-- what the code of a step does to the words
pub record Stepped (c : Parts) (sig words values : List ℕ) (t : ℕ) (old new : LaneWords) : Type 0 where
  pub steps : AreSteps c old.state.items words values
  pub live : (j : ℕ) → j < 64 → IsTrue (bit_of_word j new.live) ↔ (IsTrue (bit_of_word j old.live) × IsLegal c (lane_values j values))
  pub state : HandsOn c.latches values new.live old.state.items new.state.items
  pub before : Keeps old.state.items new.live old.before.items new.before.items
  pub died : (j : ℕ) → j < 64 → get_or new.died.items j 0 ≡ cond (bit_of_word j old.live && not (bit_of_word j new.live)) t (get_or old.died.items j 0)
  pub marked : AddsMarks sig values new.live old.seen.items new.seen.items

-- ---- how long a lane lived
lived_live : (t live : ℕ) (died : List ℕ) (j : ℕ) → IsTrue (bit_of_word j live) → lived_of t live died j ≡ t
lived_live t live died j is = ap (λ b. cond b t (get_or died j 0)) is

lived_dead : (t live : ℕ) (died : List ℕ) (j : ℕ) → (¬ IsTrue (bit_of_word j live)) → lived_of t live died j ≡ get_or died j 0
lived_dead t live died j off = ap (λ b. cond b t (get_or died j 0)) (not_true (bit_of_word j live) off)

-- ---- its goals
marks_same : (c : Parts) (sig values : List ℕ) (lane : Lane) (n j live : ℕ) (old new : List ℕ) → j < 64 → (¬ IsTrue (bit_of_word j live))
    → AddsMarks sig values live old new → AreMarked c sig lane n j old → AreMarked c sig lane n j new
marks_same c sig values lane n j live old new low off adds marked = record {
  shown = λ goal is. marked.shown goal (elim ((adds j goal low).0 is) [ inl was ↦ was | inr h ↦ absurd (off h.0) ]);
  whole = λ u goal inside s. (adds j goal low).1 (inl (marked.whole u goal inside s));
}

marks_more : (c : Parts) (sig values : List ℕ) (lane : Lane) (t j live : ℕ) (old new : List ℕ) → IsCircuit c → j < 64 → IsTrue (bit_of_word j live)
    → ShowsAt c sig lane t (lane_goal sig values j) → AddsMarks sig values live old new → AreMarked c sig lane t j old → AreMarked c sig lane (t + 1) j new
marks_more c sig values lane t j live old new ok low lives shows adds marked = record {
  shown = λ goal is. elim ((adds j goal low).0 is) [
    | inl was ↦ (let before = marked.shown goal was in (before.0, (let more : before.0 < t + 1 = omega (arith, before.1) in more), before.2))
    | inr h ↦ (t, (let more : t < t + 1 = omega arith in more), subst (λ (g : ℕ). ShowsAt c sig lane t g) h.1 shows)
  ];
  whole = λ u goal inside s. (adds j goal low).1 (elim (cases_lt u t) [
    | inl less ↦ inl (marked.whole u goal less s)
    | inr ge ↦ (
        let here : u ≡ t = omega (arith, inside, ge) in
        inr (lives, shows_once c sig lane t (lane_goal sig values j) goal ok shows (subst (λ (k : ℕ). ShowsAt c sig lane k goal) here s))
        )
  ]);
}

-- ---- the lane
lane_made : (c : Parts) (sig : List ℕ) (lane : Lane) (t j n : ℕ) (state : List Bool) (w : LaneWords) → lived_of t w.live w.died.items j ≡ n
    → lane_values j w.state.items ≡ state → IsAt c lane t n state → ((¬ IsTrue (bit_of_word j w.live)) → get_or w.died.items j 0 < t)
    → ((m : ℕ) → n ≡ m + 1 → IsAt c lane m m (lane_values j w.before.items)) → AreMarked c sig lane n j w.seen.items → IsLaneAt c sig lane t j w
lane_made c sig lane t j n state w lived same at dead before marked = record {
  before = λ m e. before m (sym lived ∙ e);
  at = subst (λ (m : ℕ). IsAt c lane t m (lane_values j w.state.items)) (sym lived) (subst (λ (s : List Bool). IsAt c lane t n s) (sym same) at);
  dead = dead;
  marked = subst (λ (m : ℕ). AreMarked c sig lane m j w.seen.items) (sym lived) marked;
}

stays : (c : Parts) (sig words values : List ℕ) (t j : ℕ) (old new : LaneWords) → j < 64 → (¬ IsTrue (bit_of_word j new.live)) → Stepped c sig words values t old new
    → lane_values j new.state.items ≡ lane_values j old.state.items
stays c sig words values t j old new low off s =
    s.state j low ∙ ap (λ b. cond b (next_values c (lane_values j values)) (lane_values j old.state.items)) (not_true (bit_of_word j new.live) off)

kept_before : (c : Parts) (sig words values : List ℕ) (t j : ℕ) (old new : LaneWords) → j < 64 → (¬ IsTrue (bit_of_word j new.live)) → Stepped c sig words values t old new
    → lane_values j new.before.items ≡ lane_values j old.before.items
kept_before c sig words values t j old new low off s =
    s.before j low ∙ ap (λ b. cond b (lane_values j old.state.items) (lane_values j old.before.items)) (not_true (bit_of_word j new.live) off)

pub record GoesOn (c : Parts) (sig values : List ℕ) (lane : Lane) (t j : ℕ) (new : LaneWords) : Type 0 where
  pub lane_at : IsLaneAt c sig lane (t + 1) j new
  pub shows : ShowsGoal c sig lane t j new.live values

-- a lane that was dead
dead_on : (c : Parts) (sig words values : List ℕ) (lane : Lane) (t j : ℕ) (old new : LaneWords) → j < 64 → (¬ IsTrue (bit_of_word j old.live))
    → Stepped c sig words values t old new → IsLaneAt c sig lane t j old → GoesOn c sig values lane t j new
dead_on c sig words values lane t j old new low off s was =
    let d : ℕ = get_or old.died.items j 0 in
    let still : ¬ IsTrue (bit_of_word j new.live) = λ is. off ((s.live j low).0 is).0 in
    let same : get_or new.died.items j 0 ≡ d = s.died j low ∙ ap (λ b. cond (b && not (bit_of_word j new.live)) t d) (not_true (bit_of_word j old.live) off) in
    let lived : lived_of t old.live old.died.items j ≡ d = lived_dead t old.live old.died.items j off in
    let before : d < t = was.dead off in
    let at : IsAt c lane t d (lane_values j old.state.items) = subst (λ (m : ℕ). IsAt c lane t m (lane_values j old.state.items)) lived was.at in
    record {
      lane_at = lane_made c sig lane (t + 1) j d (lane_values j old.state.items) new (lived_dead (t + 1) new.live new.died.items j still ∙ same)
          (stays c sig words values t j old new low still s) (at_dead c lane t d (lane_values j old.state.items) at before)
          (λ none. omega (arith, same, before))
          (λ m e. subst (λ (x : List Bool). IsAt c lane m m x) (sym (kept_before c sig words values t j old new low still s)) (was.before m (lived ∙ e)))
          (marks_same c sig values lane d j new.live old.seen.items new.seen.items low still s.marked
          (subst (λ (m : ℕ). AreMarked c sig lane m j old.seen.items) lived was.marked));
      shows = record {
        lives = λ is. absurd (still is);
        dead = λ none goal. dead_shows_none c sig lane t d (lane_values j old.state.items) at before goal;
      };
    }

-- a lane that lives on
live_on : (c : Parts) (sig words values : List ℕ) (lane : Lane) (t j : ℕ) (old new : LaneWords) → IsCircuit c → j < 64 → lane.row t ≡ lane_values j words
    → IsTrue (bit_of_word j old.live) → IsTrue (bit_of_word j new.live) → Stepped c sig words values t old new → IsLaneAt c sig lane t j old → GoesOn c sig values lane t j new
live_on c sig words values lane t j old new ok low row lives is s was =
    let state : List Bool = lane_values j old.state.items in
    let a : Assignment = lane_values j values in
    let lived : lived_of t old.live old.died.items j ≡ t = lived_live t old.live old.died.items j lives in
    let at : IsAt c lane t t state = subst (λ (m : ℕ). IsAt c lane t m state) lived was.at in
    let legal : IsLegal c a = ((s.live j low).0 is).1 in
    let shows : ShowsAt c sig lane t (lane_goal sig values j) = at_shows c sig lane t state (lane_values j words) a at row (s.steps j low) legal in
    record {
      lane_at = lane_made c sig lane (t + 1) j (t + 1) (next_values c a) new (lived_live (t + 1) new.live new.died.items j is)
          (s.state j low ∙ ap (λ b. cond b (next_values c a) state) is)
          (at_next c lane t state (lane_values j words) a at row (s.steps j low) legal)
          (λ none. absurd (none is))
          (λ m e. (
          let here : t ≡ m = omega (arith, e) in
          let kept : lane_values j new.before.items ≡ state = s.before j low ∙ ap (λ b. cond b state (lane_values j old.before.items)) is in
          subst (λ (x : List Bool). IsAt c lane m m x) (sym kept) (subst (λ (k : ℕ). IsAt c lane k k state) here at)
          ))
          (marks_more c sig values lane t j new.live old.seen.items new.seen.items ok low is shows s.marked
          (subst (λ (m : ℕ). AreMarked c sig lane m j old.seen.items) lived was.marked));
      shows = record { lives = λ _. shows; dead = λ none. absurd (none is) };
    }

-- a lane that dies
ends_now : (c : Parts) (sig words values : List ℕ) (lane : Lane) (t j : ℕ) (old new : LaneWords) → IsCircuit c → j < 64 → lane.row t ≡ lane_values j words
    → IsTrue (bit_of_word j old.live) → (¬ IsTrue (bit_of_word j new.live)) → Stepped c sig words values t old new → IsLaneAt c sig lane t j old
    → GoesOn c sig values lane t j new
ends_now c sig words values lane t j old new ok low row lives off s was =
    let state : List Bool = lane_values j old.state.items in
    let a : Assignment = lane_values j values in
    let d : ℕ = get_or old.died.items j 0 in
    let lived : lived_of t old.live old.died.items j ≡ t = lived_live t old.live old.died.items j lives in
    let at : IsAt c lane t t state = subst (λ (m : ℕ). IsAt c lane t m state) lived was.at in
    let illegal : ¬ IsLegal c a = λ legal. off ((s.live j low).1 (lives, legal)) in
    let noted : get_or new.died.items j 0 ≡ t =
    s.died j low ∙ (ap (λ b. cond (b && not (bit_of_word j new.live)) t d) lives ∙ ap (λ b. cond (true && not b) t d) (not_true (bit_of_word j new.live) off)) in
    record {
      lane_at = lane_made c sig lane (t + 1) j t state new (lived_dead (t + 1) new.live new.died.items j off ∙ noted)
          (stays c sig words values t j old new low off s)
          (at_ends c lane t state (lane_values j words) a ok at row (s.steps j low) illegal)
          (λ none. omega (arith, noted))
          (λ m e. subst (λ (x : List Bool). IsAt c lane m m x) (sym (kept_before c sig words values t j old new low off s)) (was.before m (lived ∙ e)))
          (marks_same c sig values lane t j new.live old.seen.items new.seen.items low off s.marked
          (subst (λ (m : ℕ). AreMarked c sig lane m j old.seen.items) lived was.marked));
      shows = record {
        lives = λ is. absurd (off is);
        dead = λ none goal shown. at_dies c lane t state (lane_values j words) a ok at row (s.steps j low) illegal shown.frames shown.lives;
      };
    }

goes_on : (c : Parts) (sig words values : List ℕ) (lane : Lane) (t j : ℕ) (old new : LaneWords) → IsCircuit c → j < 64 → lane.row t ≡ lane_values j words
    → Stepped c sig words values t old new → IsLaneAt c sig lane t j old → GoesOn c sig values lane t j new
goes_on c sig words values lane t j old new ok low row s was = elim (true_or_not (bit_of_word j old.live)) [
  | inl lives ↦ elim (true_or_not (bit_of_word j new.live)) [
    | inl is ↦ live_on c sig words values lane t j old new ok low row lives is s was
    | inr off ↦ ends_now c sig words values lane t j old new ok low row lives off s was
  ]
  | inr off ↦ dead_on c sig words values lane t j old new low off s was
]

-- ---- all lanes
pub all_go_on : (c : Parts) (sig words values : List ℕ) (t : ℕ) (old new : LaneWords) (visits more : List Visit) → IsCircuit c → Stepped c sig words values t old new
    → AddsVisits c sig values new.live t visits more → LanesStepOn c sig words t old new visits more
all_go_on c sig words values t old new visits more ok s adds = λ lanes given are so. (
    let each : (j : ℕ) (lane : Lane) → slice_get lanes j ≡ Some lane → GoesOn c sig values lane t j new =
    λ j lane place. goes_on c sig words values lane t j old new ok (omega (arith, given.size, slice_get_within lanes j lane place)) (given.rows j lane place) s (are j lane place) in (
      λ j lane place. (each j lane place).lane_at,
      adds lanes given.size (λ j lane place. (each j lane place).shows) so,
    )
    )
