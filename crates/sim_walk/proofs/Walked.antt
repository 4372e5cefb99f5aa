-- What the zero walk knows after t steps.
use Rattle.std.proofs.Common.{◌≡◌, ◌≢◌, ℕ, ◌+◌, ◌<◌, ◌≤◌, ◌^◌, inl, inr, Bool, List, [], ◌∷◌, ◌++◌, length, get_or, refl, sym, ap, subst, ◌∙◌, arith, All, AllPairs, Contains}
use Rattle.std.proofs.lemmas.Bool.{cases_lt}
use Rattle.std.proofs.lemmas.List.{get_or_append_left, get_or_push, length-map, length_push, map_push}
use Rattle.std.proofs.lemmas.List.Elements.{All-push, All-nil, All-get_or, All-map, All-weaker, Contains-append_left, Contains-push}
use Rattle.std.proofs.lemmas.List.Quantifiers.{all_pairs_push}
use Rattle.aig_model.specs.WellFormed.{IsCircuit}
use Rattle.aig_model.specs.Meaning.{Assignment, IsStep, IsLegal, next_values, state_after, goal_of}
use Rattle.aig_model.specs.declared.parts.Parts.{Parts}
use Rattle.aig_model.specs.declared.parts.Latch.{Latch}
use Rattle.sim_walk.specs.declared.visit.Visit.{Visit}
use Rattle.sim_walk.specs.Walk.{goals_of}
use Rattle.sim_walk.specs.Zero.{first_value, zero_state, zero_row, AreZeroVisits}
use Rattle.sim_walk.specs.FirstVisits.{JoinsFirst}
use Rattle.sim_walk.proofs.OneLane.{IsSeen, IsFirstSeen, visits-from_seen}
use Rattle.sim_walk.proofs.Visits.{goals_distinct}
use Rattle.sim_walk.proofs.Full.{all_contained}
use Rattle.sim_walk.proofs.ZeroPaths.{IsZeroPath, zero_path_none, zero_path_push, zero_paths_agree, visit_path}
use Rattle.aig_model.proofs.OneGoal.{goal_of-lt}
use Rattle.aig_model.proofs.Paths.{state_after-push, length-state_after}

-- ---- the walk so far
pub record Walked (c : Parts) (sig : List ℕ) (steps t : ℕ) (state : List Bool) (visits : List Visit) : Type 0 where
  pub frames : List Assignment
  pub size : length frames ≡ t
  pub zeros : IsZeroPath c frames
  pub legal : All (IsLegal c) frames
  pub hands : state ≡ state_after c (zero_state c) frames
  pub firsts : All (IsFirstSeen c sig steps) visits
  pub whole : (u : ℕ) → u < t → Contains (goals_of visits) (goal_of sig (get_or frames u []))
  pub below : All (λ (v : Visit). v.step < t) visits
  pub rising : AllPairs (λ (v w : Visit). v.step < w.step) visits

pub walked_none : (c : Parts) (sig : List ℕ) (steps : ℕ) → Walked c sig steps 0 (zero_state c) []
walked_none c sig steps = record {
  frames = [];
  size = refl;
  zeros = zero_path_none c;
  legal = All-nil (IsLegal c);
  hands = refl;
  firsts = All-nil (IsFirstSeen c sig steps);
  whole = λ u h. absurd (omega arith);
  below = All-nil (λ (v : Visit). v.step < 0);
  rising = λ i j d l m. absurd (omega arith);
}

pub walked_wide : (c : Parts) (sig : List ℕ) (steps t : ℕ) (state : List Bool) (visits : List Visit) → Walked c sig steps t state visits → length state ≡ length c.latches
walked_wide c sig steps t state visits w =
    ap length w.hands ∙ length-state_after c (zero_state c) w.frames (length-map c.latches (λ (l : Latch). first_value l.reset))

-- a goal that is visited before t is among the visits
seen_before : (c : Parts) (sig : List ℕ) (steps t : ℕ) (state : List Bool) (visits : List Visit) (u g : ℕ) → IsCircuit c → Walked c sig steps t state visits
    → IsSeen c sig steps u g → u < t → Contains (goals_of visits) g
seen_before c sig steps t state visits u g ok w v l =
    let same = zero_paths_agree c w.frames v.frames ok w.zeros (visit_path c sig steps u g v) u (omega (arith, w.size)) (omega (arith, v.size)) in
    subst (λ (x : ℕ). Contains (goals_of visits) x) (ap (goal_of sig) same ∙ v.shows) (w.whole u l)

more_zeros : (c : Parts) (sig : List ℕ) (steps t : ℕ) (state : List Bool) (visits : List Visit) (a : Assignment) → (w : Walked c sig steps t state visits)
    → IsStep c state (zero_row c) a → IsZeroPath c (w.frames ++ a ∷ [])
more_zeros c sig steps t state visits a w step =
    zero_path_push c w.frames a w.zeros (subst (λ (s : List Bool). IsStep c s (zero_row c) a) w.hands step)

-- the step that is legal is visited
pub seen_now : (c : Parts) (sig : List ℕ) (steps t : ℕ) (state : List Bool) (visits : List Visit) (a : Assignment) → Walked c sig steps t state visits
    → IsStep c state (zero_row c) a → IsLegal c a → t < steps → IsSeen c sig steps t (goal_of sig a)
seen_now c sig steps t state visits a w step legal l =
    let zeros = more_zeros c sig steps t state visits a w step in
    let more : length (w.frames ++ a ∷ []) ≡ t + 1 = length_push w.frames a ∙ ap (λ n. n + 1) w.size in
    record {
      near = l;
      frames = w.frames ++ a ∷ [];
      size = more;
      run = record { some = omega (arith, more); path = zeros.path; legal = All-push (IsLegal c) w.frames a w.legal legal };
      rows = zeros.rows;
      shows = ap (goal_of sig) (get_or_push w.frames a [] t w.size);
    }

-- one step more, with visits that hold its goal
walked_more : (c : Parts) (sig : List ℕ) (steps t : ℕ) (state : List Bool) (visits more : List Visit) (a : Assignment) → Walked c sig steps t state visits
    → IsStep c state (zero_row c) a → IsLegal c a → All (IsFirstSeen c sig steps) more → All (λ (v : Visit). v.step < t + 1) more
    → AllPairs (λ (v w : Visit). v.step < w.step) more → ((g : ℕ) → Contains (goals_of visits) g → Contains (goals_of more) g)
    → Contains (goals_of more) (goal_of sig a) → Walked c sig steps (t + 1) (next_values c a) more
walked_more c sig steps t state visits more a w step legal firsts below rising keeps has = record {
  frames = w.frames ++ a ∷ [];
  size = length_push w.frames a ∙ ap (λ n. n + 1) w.size;
  zeros = more_zeros c sig steps t state visits a w step;
  legal = All-push (IsLegal c) w.frames a w.legal legal;
  hands = sym (state_after-push c (zero_state c) w.frames a);
  firsts = firsts;
  whole = λ u l. elim (cases_lt u t) [
    | inl lt ↦ subst (λ (x : Assignment). Contains (goals_of more) (goal_of sig x)) (sym (get_or_append_left w.frames (a ∷ []) [] u (omega (arith, w.size)))) (keeps (goal_of sig (get_or w.frames u [])) (w.whole u lt))
    | inr ge ↦ subst (λ (x : Assignment). Contains (goals_of more) (goal_of sig x)) (sym (get_or_push w.frames a [] u (omega (arith, w.size)))) has
  ];
  below = below;
  rising = rising;
}

walked_again : (c : Parts) (sig : List ℕ) (steps t : ℕ) (state : List Bool) (visits : List Visit) (a : Assignment) → Walked c sig steps t state visits
    → IsStep c state (zero_row c) a → IsLegal c a → Contains (goals_of visits) (goal_of sig a) → Walked c sig steps (t + 1) (next_values c a) visits
walked_again c sig steps t state visits a w step legal has =
    walked_more c sig steps t state visits visits a w step legal w.firsts
    (All-weaker (λ (v : Visit). v.step < t) (λ (v : Visit). v.step < t + 1) (λ v h. omega arith) visits w.below) w.rising (λ g h. h) has

walked_first : (c : Parts) (sig : List ℕ) (steps t : ℕ) (state : List Bool) (visits : List Visit) (v : Visit) (a : Assignment) → IsCircuit c
    → Walked c sig steps t state visits → IsStep c state (zero_row c) a → IsLegal c a → t < steps → (Contains (goals_of visits) v.goal → ⊥)
    → v.goal ≡ goal_of sig a → v.step ≡ t → v.lane ≡ 0 → Walked c sig steps (t + 1) (next_values c a) (visits ++ v ∷ [])
walked_first c sig steps t state visits v a ok w step legal l none goal at lane =
    let first : IsFirstSeen c sig steps v = record {
      visited = rw (goal, at) (seen_now c sig steps t state visits a w step legal l);
      least = λ u h. elim (cases_lt u t) [
        | inl lt ↦ absurd (none (seen_before c sig steps t state visits u v.goal ok w h lt))
        | inr ge ↦ omega (arith, at)
      ];
      lane = lane;
    } in
    let goals : goals_of (visits ++ v ∷ []) ≡ goals_of visits ++ v.goal ∷ [] = map_push (λ (x : Visit). x.goal) visits v in
    walked_more c sig steps t state visits (visits ++ v ∷ []) a w step legal
    (All-push (IsFirstSeen c sig steps) visits v w.firsts first)
    (All-push (λ (x : Visit). x.step < t + 1) visits v (All-weaker (λ (x : Visit). x.step < t) (λ (x : Visit). x.step < t + 1) (λ x h. omega arith) visits w.below) (omega (arith, at)))
    (all_pairs_push (λ (x y : Visit). x.step < y.step) visits v w.rising (λ k d m. omega (arith, at, All-get_or (λ (x : Visit). x.step < t) visits k d m w.below)))
    (λ g h. rw goals (Contains-append_left (goals_of visits) (v.goal ∷ []) g h))
    (rw (goals, ← goal) (Contains-push (goals_of visits) v.goal))

pub walked_step : (c : Parts) (sig : List ℕ) (steps t : ℕ) (state : List Bool) (visits more : List Visit) (v : Visit) (a : Assignment) → IsCircuit c
    → Walked c sig steps t state visits → IsStep c state (zero_row c) a → IsLegal c a → t < steps → JoinsFirst visits more v
    → v.goal ≡ goal_of sig a → v.step ≡ t → v.lane ≡ 0 → Walked c sig steps (t + 1) (next_values c a) more
walked_step c sig steps t state visits more v a ok w step legal l joins goal at lane =
    elim joins [
      | inl h ↦ subst (λ (x : List Visit). Walked c sig steps (t + 1) (next_values c a) x) (sym h.1)
          (walked_again c sig steps t state visits a w step legal (subst (λ (g : ℕ). Contains (goals_of visits) g) goal h.0))
      | inr h ↦ subst (λ (x : List Visit). Walked c sig steps (t + 1) (next_values c a) x) (sym h.1)
          (walked_first c sig steps t state visits v a ok w step legal l h.0 goal at lane)
    ]

-- ---- the end of the walk: no step from t on is visited
walked_all : (c : Parts) (sig : List ℕ) (steps t : ℕ) (state : List Bool) (visits : List Visit) → IsCircuit c → Walked c sig steps t state visits
    → ((u g : ℕ) → IsSeen c sig steps u g → u < t) → AreZeroVisits c sig steps visits
walked_all c sig steps t state visits ok w ends =
    visits-from_seen c sig steps visits w.firsts (λ u g v. seen_before c sig steps t state visits u g ok w v (ends u g v)) w.rising

pub walked_whole : (c : Parts) (sig : List ℕ) (steps t : ℕ) (state : List Bool) (visits : List Visit) → IsCircuit c → Walked c sig steps t state visits
    → steps ≤ t → AreZeroVisits c sig steps visits
walked_whole c sig steps t state visits ok w whole = walked_all c sig steps t state visits ok w (λ u g v. omega (arith, v.near))

-- a walk that meets an assignment that isn't legal ends there
pub walked_stopped : (c : Parts) (sig : List ℕ) (steps t : ℕ) (state : List Bool) (visits : List Visit) (a : Assignment) → IsCircuit c
    → Walked c sig steps t state visits → IsStep c state (zero_row c) a → (IsLegal c a → ⊥) → AreZeroVisits c sig steps visits
walked_stopped c sig steps t state visits a ok w step illegal =
    walked_all c sig steps t state visits ok w (λ u g v. elim (cases_lt u t) [
      | inl lt ↦ lt
      | inr ge ↦ (
          let inside : t < length v.frames = omega (arith, v.size) in
          let same = zero_paths_agree c (w.frames ++ a ∷ []) v.frames ok (more_zeros c sig steps t state visits a w step) (visit_path c sig steps u g v) t (omega (arith, length_push w.frames a, w.size)) inside in
          let here : get_or (w.frames ++ a ∷ []) t [] ≡ a = get_or_push w.frames a [] t w.size in
          absurd (illegal (subst (λ (x : Assignment). IsLegal c x) (sym same ∙ here) (All-get_or (IsLegal c) v.frames t [] inside v.run.legal)))
          )
    ])

-- a walk that has visited every goal needs no further step
seen_below : (c : Parts) (sig : List ℕ) (steps t g : ℕ) → IsSeen c sig steps t g → g < 2 ^ length sig
seen_below c sig steps t g v = subst (λ (x : ℕ). x < 2 ^ length sig) v.shows (goal_of-lt sig (get_or v.frames t []))

pub walked_full : (c : Parts) (sig : List ℕ) (steps t : ℕ) (state : List Bool) (visits : List Visit) → Walked c sig steps t state visits
    → length visits ≡ 2 ^ length sig → AreZeroVisits c sig steps visits
walked_full c sig steps t state visits w size =
    let distinct : AllPairs (λ (v x : Visit). v.goal ≢ x.goal) visits = λ i j d l m e. (
    let earlier = All-get_or (IsFirstSeen c sig steps) visits i d (omega arith) w.firsts in
    let later = All-get_or (IsFirstSeen c sig steps) visits j d m w.firsts in
    let least = later.least ((get_or visits i d).step) (subst (λ (g : ℕ). IsSeen c sig steps ((get_or visits i d).step) g) e earlier.visited) in
    omega (arith, least, w.rising i j d l m)
    ) in
    let below : All (λ (v : Visit). v.goal < 2 ^ length sig) visits =
    All-weaker (IsFirstSeen c sig steps) (λ (v : Visit). v.goal < 2 ^ length sig) (λ v h. seen_below c sig steps v.step v.goal h.visited) visits w.firsts in
    visits-from_seen c sig steps visits w.firsts
    (λ u g v. all_contained (goals_of visits) (2 ^ length sig) g (goals_distinct visits distinct)
    (All-map (λ x. x < 2 ^ length sig) (λ (v : Visit). v.goal) visits below) (omega (arith, length-map visits (λ (v : Visit). v.goal), size)) (seen_below c sig steps u g v))
    w.rising
