-- What is known between the steps of a search.
use Rattle.std.proofs.Common.{◌≡◌, ◌≢◌, ℕ, ◌+◌, ◌-◌, ◌<◌, ◌≤◌, ◌^◌, Bool, true, List, [], ◌∷◌, ◌++◌, length, get_or, eqb, eq-eqb, refl, sym, ap, subst, ◌∙◌, arith, All, AllPairs, Contains, inl, inr}
use Rattle.std.specs.Prelude.{◌↔◌}
use Rattle.std.specs.List.Sorted.{IsStrictlyIncreasing}
use Rattle.std.proofs.lemmas.Bool.{cases_lt}
use Rattle.std.proofs.lemmas.List.{length-map, get_or-map, map_push}
use Rattle.std.proofs.lemmas.List.Elements.{All-get_or, All-push, All-nil, All-map, All-weaker, All-contains, All-contains_itself, Contains-append_left, Contains-get_or}
use Rattle.std.proofs.lemmas.List.Kept.{AllPairs-from_increasing}
use Rattle.std.proofs.lemmas.List.Quantifiers.{all_pairs_push, Any-push}
use Rattle.std.proofs.lemmas.List.Folds.{list_any_at}
use Rattle.std.proofs.lemmas.Map.Steps.{le-length_from_below}
use Rattle.std.specs.List.{list_any}
use Rattle.aig_model.specs.Meaning.{At, goal_of, input_values}
use Rattle.aig_model.specs.declared.parts.Parts.{Parts}
use Rattle.aig_model.specs.declared.trace.Trace.{Trace}
use Rattle.aig_model.proofs.OneGoal.{goal_of-lt}
use Rattle.lrat_text.specs.declared.proof.LratStep.{LratStep}
use Rattle.sim_walk.proofs.Full.{distinct_below, all_contained}
use Rattle.unroll.specs.declared.start.Start.{Start}
use Rattle.unroll.specs.declared.start.Start.TheVariants as starts
use Rattle.unroll.specs.Starts.{Allows}
use Rattle.unroll.specs.Framing.{Framing, HasFrames}
use Rattle.hop_search.specs.declared.hop.Hop.{Hop}
use Rattle.hop_search.specs.Answers.{IsHop, IsNewGoal, IsNoMore}
use Rattle.hop_search.proofs.NewGoals.{new_replays_lem}
use Rattle.sweep_search.specs.Sweep.{IsMarked, IsSettled, AreAllSettled, IsWithin, EndsIn, ShowsFrom, IsFirstFrom, AreNewFrom, IsFirstReached, goals_of}
use Rattle.sweep_search.specs.Steps.{IsSearched}
use Rattle.sweep_search.specs.declared.swept.FoundGoal.{FoundGoal}
use Rattle.sweep_search.proofs.Marks.{marked_below}

pub searched_none : (c : Parts) (sig : List ℕ) (start : Start) (known : List Bool) → IsSearched c sig start known 0 []
searched_none c sig start known = record {
  news = record {
    reached = All-nil (IsFirstFrom c sig start);
    new = All-nil (λ (f : FoundGoal). ¬ IsMarked known f.goal);
    once = λ i j d l m. absurd (omega arith);
    ordered = λ i j d l m. absurd (omega arith);
  };
  near = All-nil (λ (f : FoundGoal). f.step ≤ 0);
  whole = λ d goal l w. absurd (omega arith);
  timely = λ all. inl refl;
}

-- ---- from a start
-- the goal is reached at a step from a state that the start allows
pub record IsReachedFrom (c : Parts) (sig : List ℕ) (start : Start) (goal : ℕ) : Type 0 where
  pub state : List Bool
  pub allowed : Allows c start state
  pub t : ℕ
  pub at : At c sig state t goal

pub reached_from : (c : Parts) (sig : List ℕ) (start : Start) (d goal : ℕ) → IsWithin c sig start d goal → (r : IsReachedFrom c sig start goal) × (r.t ≤ d)
reached_from c sig starts.Any d goal w = (record { state = w.0; allowed = w.1; t = w.2; at = w.4 }, w.3)
reached_from c sig starts.Reset d goal w = (record { state = w.state; allowed = w.reset; t = w.t; at = w.at }, w.near)
reached_from c sig (starts.State state) d goal w = (record { state = state; allowed = refl; t = w.0; at = w.2 }, w.1)

pub within_from : (c : Parts) (sig : List ℕ) (start : Start) (d goal : ℕ) (r : IsReachedFrom c sig start goal) → r.t ≤ d → IsWithin c sig start d goal
within_from c sig starts.Any d goal r near = (r.state, r.allowed, r.t, near, r.at)
within_from c sig starts.Reset d goal r near = record { state = r.state; reset = r.allowed; t = r.t; near = near; at = r.at }
within_from c sig (starts.State state) d goal r near = (r.t, near, subst (λ (s : List Bool). At c sig s r.t goal) r.allowed r.at)

-- what a new goal's trace shows
ends_in : (c : Parts) (sig : List ℕ) (start : Start) (step : ℕ) (blocked : List ℕ) (goal : ℕ) (trace : Trace) → IsNewGoal c sig start step blocked goal trace → EndsIn c sig trace goal
ends_in c sig start step blocked goal trace new =
    let last : length new.frames - 1 ≡ step = omega (arith, new.size) in
    record { width = new.width; frames = new.frames; rows = new.rows; run = new.run; shows = ap (λ n. goal_of sig (get_or new.frames n [])) last ∙ new.shows }

pub new_shows : (c : Parts) (sig : List ℕ) (start : Start) (step : ℕ) (blocked : List ℕ) (goal : ℕ) (trace : Trace) → IsNewGoal c sig start step blocked goal trace
    → ShowsFrom c sig start trace goal
new_shows c sig starts.Any step blocked goal trace new = (new.allowed, ends_in c sig starts.Any step blocked goal trace new)
new_shows c sig starts.Reset step blocked goal trace new = new_replays_lem c sig step blocked goal trace new
new_shows c sig (starts.State state) step blocked goal trace new = (new.allowed, ends_in c sig (starts.State state) step blocked goal trace new)

-- a goal that a trace shows is below the number of goals
pub shown_below : (c : Parts) (sig : List ℕ) (start : Start) (trace : Trace) (goal : ℕ) → ShowsFrom c sig start trace goal → goal < 2 ^ length sig
shown_below c sig starts.Any trace goal s = subst (λ (g : ℕ). g < 2 ^ length sig) s.1.shows (goal_of-lt sig (get_or s.1.frames (length s.1.frames - 1) []))
shown_below c sig starts.Reset trace goal s = subst (λ (g : ℕ). g < 2 ^ length sig) s.shows (goal_of-lt sig (get_or s.frames (length s.frames - 1) []))
shown_below c sig (starts.State state) trace goal s = subst (λ (g : ℕ). g < 2 ^ length sig) s.1.shows (goal_of-lt sig (get_or s.1.frames (length s.1.frames - 1) []))

-- ---- the frames of a search
pub hop_at : (c : Parts) (sig : List ℕ) (start : Start) (step : ℕ) (blocked : List ℕ) (lemmas : ℕ) (f : Framing) (hop : Hop) → HasFrames c start step f
    → IsHop c sig f.start f.last blocked lemmas hop → IsHop c sig start step blocked lemmas hop
hop_at c sig start step blocked lemmas f hop frames h =
    subst (λ (n : ℕ). IsHop c sig start n blocked lemmas hop) frames.last_is
    (subst (λ (s : Start). IsHop c sig s f.last blocked lemmas hop) frames.start_is h)

pub still_framed : (c : Parts) (start : Start) (step : ℕ) (old new : Framing) → HasFrames c start step old → HasFrames c old.start old.last new → HasFrames c start step new
still_framed c start step old new before after =
    subst (λ (n : ℕ). HasFrames c start n new) before.last_is (subst (λ (s : Start). HasFrames c s old.last new) before.start_is after)

-- frames are from their own start
pub own_frames : (c : Parts) (start : Start) (step : ℕ) (f : Framing) → HasFrames c start step f → HasFrames c f.start step f
own_frames c start step f h = record { framing = h.framing; circuit = h.circuit; start_is = refl; last_is = h.last_is }

-- ---- goals are below their number
pub first_below : (c : Parts) (sig : List ℕ) (start : Start) (f : FoundGoal) → IsFirstFrom c sig start f → f.goal < 2 ^ length sig
first_below c sig start f r = shown_below c sig start f.trace f.goal r.shows

pub reached_below : (c : Parts) (sig : List ℕ) (f : FoundGoal) → IsFirstReached c sig f → f.goal < 2 ^ length sig
reached_below c sig f r = first_below c sig starts.Reset f r

pub found_below : (c : Parts) (sig : List ℕ) (start : Start) (known : List Bool) (found : List FoundGoal) → AreNewFrom c sig start known found
    → All (λ (f : FoundGoal). f.goal < 2 ^ length sig) found
found_below c sig start known found news = All-weaker (IsFirstFrom c sig start) (λ (f : FoundGoal). f.goal < 2 ^ length sig) (first_below c sig start) found news.reached

pub settled_below : (c : Parts) (sig : List ℕ) (start : Start) (known : List Bool) (found : List FoundGoal) (goal : ℕ) → length known ≡ 2 ^ length sig → AreNewFrom c sig start known found
    → IsSettled known found goal → goal < 2 ^ length sig
settled_below c sig start known found goal size news s =
    elim s [
      | inl marked ↦ omega (arith, marked_below known goal marked, size)
      | inr has ↦ All-contains (λ g. g < 2 ^ length sig) (goals_of found) goal
          (All-map (λ g. g < 2 ^ length sig) (λ (f : FoundGoal). f.goal) found (found_below c sig start known found news)) has
    ]

pub blocked_below : (c : Parts) (sig : List ℕ) (start : Start) (known : List Bool) (found : List FoundGoal) (blocked : List ℕ) → length known ≡ 2 ^ length sig
    → AreNewFrom c sig start known found → ((goal : ℕ) → Contains blocked goal ↔ IsSettled known found goal) → All (λ goal. goal < 2 ^ length sig) blocked
blocked_below c sig start known found blocked size news settled =
    All-weaker (Contains blocked) (λ goal. goal < 2 ^ length sig) (λ goal has. settled_below c sig start known found goal size news ((settled goal).0 has)) blocked
    (All-contains_itself blocked)

rising_apart : (goals : List ℕ) → IsStrictlyIncreasing goals → AllPairs (λ x y. x ≢ y) goals
rising_apart goals rising = λ i j d l m e. (
    let less : get_or goals i d < get_or goals j d = AllPairs-from_increasing goals rising i j d l m in
    omega (arith, less, e)
    )

has_test : (goals : List ℕ) (q : ℕ) → Contains goals q → list_any (eqb q) goals ≡ true
has_test goals q has = list_any_at (eqb q) goals has.0 q has.1 (eq-eqb q (get_or goals has.0 q) (sym has.2))

-- there are as many goals in the list as there are at all
pub all_settled : (c : Parts) (sig : List ℕ) (start : Start) (known : List Bool) (found : List FoundGoal) (blocked : List ℕ) → length known ≡ 2 ^ length sig
    → AreNewFrom c sig start known found → ((goal : ℕ) → Contains blocked goal ↔ IsSettled known found goal) → IsStrictlyIncreasing blocked
    → length blocked ≡ 2 ^ length sig → AreAllSettled sig known found
all_settled c sig start known found blocked size news settled rising full = λ goal inside. (
    (settled goal).0 (all_contained blocked (2 ^ length sig) goal (rising_apart blocked rising) (blocked_below c sig start known found blocked size news settled) (omega (arith, full)) inside)
    )

-- there are fewer goals in the list, so one is left
pub some_left : (c : Parts) (sig : List ℕ) (start : Start) (known : List Bool) (found : List FoundGoal) (blocked : List ℕ) → length known ≡ 2 ^ length sig
    → AreNewFrom c sig start known found → ((goal : ℕ) → Contains blocked goal ↔ IsSettled known found goal) → IsStrictlyIncreasing blocked
    → length blocked ≢ 2 ^ length sig → ¬ AreAllSettled sig known found
some_left c sig start known found blocked size news settled rising other all =
    let least : 2 ^ length sig ≤ length blocked = le-length_from_below blocked (2 ^ length sig) (λ q inside. has_test blocked q ((settled q).1 (all q inside))) in
    let most : length blocked ≤ 2 ^ length sig = distinct_below blocked (2 ^ length sig) (rising_apart blocked rising) (blocked_below c sig start known found blocked size news settled) in
    other (omega (arith, least, most))

-- ---- each goal is found once
pub has_goal : (found : List FoundGoal) (k : ℕ) (d : FoundGoal) → k < length found → Contains (goals_of found) ((get_or found k d).goal)
has_goal found k d l =
    subst (Contains (goals_of found)) (get_or-map (λ (f : FoundGoal). f.goal) found k d d.goal l)
    (Contains-get_or (goals_of found) k d.goal (omega (arith, length-map found (λ (f : FoundGoal). f.goal))))

goals_apart : (found : List FoundGoal) → AllPairs (λ (f g : FoundGoal). f.goal ≢ g.goal) found → AllPairs (λ x y. x ≢ y) (goals_of found)
goals_apart found once = λ i j d l m. (
    let size = length-map found (λ (f : FoundGoal). f.goal) in
    let f : FoundGoal = record { goal = d; step = 0; trace = record { start = []; rows = record { width = 0; rows = [] } } } in
    rw (get_or-map (λ (x : FoundGoal). x.goal) found i f d (omega (arith, size)), get_or-map (λ (x : FoundGoal). x.goal) found j f d (omega (arith, size)))
    (once i j f l (omega (arith, size)))
    )

-- so there are no more than goals at all
pub few_found : (c : Parts) (sig : List ℕ) (start : Start) (known : List Bool) (found : List FoundGoal) → AreNewFrom c sig start known found → length found ≤ 2 ^ length sig
few_found c sig start known found news =
    let apart : AllPairs (λ x y. x ≢ y) (goals_of found) = goals_apart found news.once in
    omega (
      arith,
      length-map found (λ (f : FoundGoal). f.goal),
      distinct_below (goals_of found) (2 ^ length sig) apart
          (All-map (λ g. g < 2 ^ length sig) (λ (f : FoundGoal). f.goal) found (found_below c sig start known found news)),
    )

-- ---- a goal that is new at a step
first_reached : (c : Parts) (sig : List ℕ) (start : Start) (known : List Bool) (step : ℕ) (found : List FoundGoal) (blocked : List ℕ) (goal : ℕ) (trace : Trace)
    → IsSearched c sig start known step found → ((g : ℕ) → Contains blocked g ↔ IsSettled known found g) → IsNewGoal c sig start step blocked goal trace
    → IsFirstFrom c sig start (record { goal = goal; step = step; trace = trace })
first_reached c sig start known step found blocked goal trace searched settled new = record {
  shows = new_shows c sig start step blocked goal trace new;
  rows = ap length (sym new.rows) ∙ (length-map new.frames (input_values c) ∙ new.size);
  least = λ d w. elim (cases_lt d step) [ inl lt ↦ absurd (new.unsettled ((settled goal).1 (searched.whole d goal lt w))) | inr ge ↦ ge ];
}

pub searched_new : (c : Parts) (sig : List ℕ) (start : Start) (known : List Bool) (step : ℕ) (found : List FoundGoal) (blocked : List ℕ) (goal : ℕ) (trace : Trace)
    → IsSearched c sig start known step found → ((g : ℕ) → Contains blocked g ↔ IsSettled known found g) → IsNewGoal c sig start step blocked goal trace
    → IsSearched c sig start known step (found ++ record { goal = goal; step = step; trace = trace } ∷ [])
searched_new c sig start known step found blocked goal trace searched settled new =
    let f : FoundGoal = record { goal = goal; step = step; trace = trace } in
    let news = searched.news in
    let goals : goals_of (found ++ f ∷ []) ≡ goals_of found ++ goal ∷ [] = map_push (λ (x : FoundGoal). x.goal) found f in
    let unsettled : ¬ IsSettled known found goal = λ s. new.unsettled ((settled goal).1 s) in
    record {
      news = record {
        reached = All-push (IsFirstFrom c sig start) found f news.reached (first_reached c sig start known step found blocked goal trace searched settled new);
        new = All-push (λ (x : FoundGoal). ¬ IsMarked known x.goal) found f news.new (λ marked. unsettled (inl marked));
        once = all_pairs_push (λ (x y : FoundGoal). x.goal ≢ y.goal) found f news.once (λ k d l e. unsettled (inr (subst (Contains (goals_of found)) e (has_goal found k d l))));
        ordered = all_pairs_push (λ (x y : FoundGoal). x.step ≤ y.step) found f news.ordered (λ k d l. All-get_or (λ (x : FoundGoal). x.step ≤ step) found k d l searched.near);
      };
      near = All-push (λ (x : FoundGoal). x.step ≤ step) found f searched.near (omega arith);
      whole = λ d g l w. elim (searched.whole d g l w) [
        | inl marked ↦ inl marked
        | inr has ↦ inr (subst (λ (gs : List ℕ). Contains gs g) (sym goals) (Contains-append_left (goals_of found) (goal ∷ []) g has))
      ];
      timely = λ all. inr (Any-push (λ (x : FoundGoal). x.step ≡ step) found f refl);
    }

-- ---- a step at which nothing more is new
-- a goal that is reached before the next step
settled_by : (c : Parts) (sig : List ℕ) (start : Start) (known : List Bool) (step lemmas : ℕ) (found : List FoundGoal) (blocked : List ℕ) (proof : List LratStep) (goal : ℕ)
    → IsSearched c sig start known step found → ((g : ℕ) → Contains blocked g ↔ IsSettled known found g) → IsNoMore c sig start step blocked lemmas proof
    → (r : IsReachedFrom c sig start goal) → r.t ≤ step → IsSettled known found goal
settled_by c sig start known step lemmas found blocked proof goal searched settled none r near =
    elim (cases_lt r.t step) [
      | inl lt ↦ searched.whole r.t goal lt (within_from c sig start r.t goal r (omega arith))
      | inr ge ↦ (
          let now : r.t ≡ step = omega (arith, near) in
          (settled goal).0 (none.all_settled r.state goal r.allowed (subst (λ (t : ℕ). At c sig r.state t goal) now r.at))
          )
    ]

pub searched_whole : (c : Parts) (sig : List ℕ) (start : Start) (known : List Bool) (step lemmas : ℕ) (found : List FoundGoal) (blocked : List ℕ) (proof : List LratStep)
    → IsSearched c sig start known step found → ((g : ℕ) → Contains blocked g ↔ IsSettled known found g) → IsNoMore c sig start step blocked lemmas proof
    → ¬ AreAllSettled sig known found → IsSearched c sig start known (step + 1) found
searched_whole c sig start known step lemmas found blocked proof searched settled none left = record {
  news = searched.news;
  near = All-weaker (λ (f : FoundGoal). f.step ≤ step) (λ (f : FoundGoal). f.step ≤ step + 1) (λ f l. omega arith) found searched.near;
  whole = λ d g l w. (
      let r = reached_from c sig start d g w in
      settled_by c sig start known step lemmas found blocked proof g searched settled none r.0 (omega (arith, r.1))
      );
  timely = λ all. absurd (left all);
}
