-- The visits of a walk are of different goals, each of which there is.
use Rattle.std.proofs.Common.{◌≡◌, ◌≢◌, ℕ, suc, ◌<◌, ◌≤◌, ◌^◌, List, [], ◌∷◌, length, get_or, subst, arith, All, AllPairs, Some}
use Rattle.std.specs.Prelude.{slice_get}
use Rattle.std.proofs.lemmas.List.{get_or-map, length-map}
use Rattle.std.proofs.lemmas.List.Elements.{All-get_or, All-map, All-weaker}
use Rattle.std.proofs.lemmas.Option.{slice_get_within, get_or_from_slice_get}
use Rattle.aig_model.specs.declared.parts.Parts.{Parts}
use Rattle.aig_model.proofs.OneGoal.{goal_of-lt}
use Rattle.sim_walk.specs.declared.visit.Visit.{Visit}
use Rattle.sim_walk.specs.Walk.{Lane, IsVisited, IsFirstVisit, AreVisits, goals_of}
use Rattle.sim_walk.proofs.Full.{distinct_below}

pub visited_below : (c : Parts) (sig : List ℕ) (lanes : List Lane) (steps j t g : ℕ) → IsVisited c sig lanes steps j t g → g < 2 ^ length sig
visited_below c sig lanes steps j t g v = subst (λ (x : ℕ). x < 2 ^ length sig) v.shows (goal_of-lt sig (get_or v.frames t []))

abbrev pub AreDistinct : List Visit → Type 0
AreDistinct vs = AllPairs (λ (v w : Visit). v.goal ≢ w.goal) vs

pub visits_distinct : (c : Parts) (sig : List ℕ) (lanes : List Lane) (steps : ℕ) (vs : List Visit) → AreVisits c sig lanes steps vs → AreDistinct vs
visits_distinct c sig lanes steps vs walked = λ i j d l m e. (
    let earlier = All-get_or (IsFirstVisit c sig lanes steps) vs i d (omega arith) walked.firsts in
    let later = All-get_or (IsFirstVisit c sig lanes steps) vs j d m walked.firsts in
    later.least ((get_or vs i d).lane) ((get_or vs i d).step)
    (subst (λ (g : ℕ). IsVisited c sig lanes steps ((get_or vs i d).lane) ((get_or vs i d).step) g) e earlier.visited) (walked.ordered i j d l m)
    )

pub distinct_tail : (v : Visit) (vs : List Visit) → AreDistinct (v ∷ vs) → AreDistinct vs
distinct_tail v vs h = λ i j d l m. h (suc i) (suc j) d (omega arith) (omega arith)

pub goals_distinct : (vs : List Visit) → AreDistinct vs → AllPairs (λ x y. x ≢ y) (goals_of vs)
goals_distinct vs distinct = λ i j d l m. (
    let goals = length-map vs (λ (v : Visit). v.goal) in
    let v : Visit = record { goal = d; lane = 0; step = 0 } in
    rw (get_or-map (λ (x : Visit). x.goal) vs i v d (omega (arith, goals)), get_or-map (λ (x : Visit). x.goal) vs j v d (omega (arith, goals)))
    (distinct i j v l (omega (arith, goals)))
    )

-- there are no more visits than goals
pub visits_few : (c : Parts) (sig : List ℕ) (lanes : List Lane) (steps : ℕ) (vs : List Visit) → AreVisits c sig lanes steps vs → length vs ≤ 2 ^ length sig
visits_few c sig lanes steps vs walked =
    let below : All (λ (v : Visit). v.goal < 2 ^ length sig) vs =
    All-weaker (IsFirstVisit c sig lanes steps) (λ (v : Visit). v.goal < 2 ^ length sig) (λ v h. visited_below c sig lanes steps v.lane v.step v.goal h.visited) vs walked.firsts in
    omega (
      arith,
      length-map vs (λ (v : Visit). v.goal),
      distinct_below (goals_of vs) (2 ^ length sig) (goals_distinct vs (visits_distinct c sig lanes steps vs walked)) (All-map (λ x. x < 2 ^ length sig) (λ (v : Visit). v.goal) vs below),
    )

pub visit_inside : (c : Parts) (sig : List ℕ) (lanes : List Lane) (steps : ℕ) (vs : List Visit) (k : ℕ) (v : Visit) → AreVisits c sig lanes steps vs → slice_get vs k ≡ Some v
    → IsFirstVisit c sig lanes steps v
visit_inside c sig lanes steps vs k v walked e =
    subst (λ (x : Visit). IsFirstVisit c sig lanes steps x) (get_or_from_slice_get vs k v v e) (All-get_or (IsFirstVisit c sig lanes steps) vs k v (slice_get_within vs k v e) walked.firsts)
