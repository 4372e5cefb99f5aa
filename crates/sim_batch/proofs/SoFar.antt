-- The visits of a batch so far, in order of step and lane.
use Rattle.std.proofs.Common.{◌≡◌, ◌⊎◌, ℕ, ◌+◌, ◌<◌, List, [], ◌∷◌, ◌++◌, refl, sym, subst, arith, inl, inr, All, Contains}
use Rattle.std.proofs.lemmas.Bool.{cases_lt}
use Rattle.std.proofs.lemmas.List.{map_push}
use Rattle.std.proofs.lemmas.List.Elements.{All-push, All-nil, All-get_or, All-weaker, Contains-append_left, Contains-push}
use Rattle.std.proofs.lemmas.List.Quantifiers.{all_pairs_push}
use Rattle.aig_model.specs.declared.parts.Parts.{Parts}
use Rattle.sim_walk.specs.declared.visit.Visit.{Visit}
use Rattle.sim_walk.specs.FirstVisits.{JoinsFirst}
use Rattle.sim_walk.specs.Walk.{Lane, IsVisited, IsFirstVisit, AreVisits, IsEarlier, goals_of}
use Rattle.sim_batch.specs.Steps.{SomeShows, IsFirstBefore, VisitsBefore}

-- ---- the order of steps and lanes
earlier_cases : (s k t j : ℕ) → IsEarlier s k t (j + 1) → IsEarlier s k t j ⊎ ((s ≡ t) × (k ≡ j))
earlier_cases s k t j h = elim h [
  | inl lt ↦ inl (inl lt)
  | inr at ↦ elim (cases_lt k j) [
    | inl lt ↦ inl (inr (at.0, lt))
    | inr ge ↦ inr (at.0, (let same : k ≡ j = omega (arith, at.1) in same))
  ]
]

earlier_next : (s k t j : ℕ) → IsEarlier s k t j → IsEarlier s k t (j + 1)
earlier_next s k t j h = elim h [
  | inl lt ↦ inl lt
  | inr at ↦ inr (at.0, (let lt : k < j + 1 = omega (arith, at.1) in lt))
]

earlier_here : (t j : ℕ) → IsEarlier t j t (j + 1)
earlier_here t j = inr (refl, (let lt : j < j + 1 = omega arith in lt))

earlier_trans_not : (s k t j : ℕ) → IsEarlier s k t j → IsEarlier t j s k → ⊥
earlier_trans_not s k t j h g = elim h [
  | inl lt ↦ elim g [ inl gt ↦ omega (arith, lt, gt) | inr at ↦ omega (arith, lt, at.0) ]
  | inr at ↦ elim g [ inl gt ↦ omega (arith, at.0, gt) | inr there ↦ omega (arith, at.1, there.1) ]
]

-- ---- visits
pub visits_none : (c : Parts) (sig : List ℕ) (lanes : List Lane) → VisitsBefore c sig lanes 0 0 []
visits_none c sig lanes = record {
  firsts = All-nil (IsFirstBefore c sig lanes 0 0);
  whole = λ k s goal shows h. absurd (elim h [ inl lt ↦ omega (arith, lt) | inr at ↦ omega (arith, at.1) ]);
  ordered = λ i j d l m. absurd (omega (arith, l, m));
}

later_firsts : (c : Parts) (sig : List ℕ) (lanes : List Lane) (t j : ℕ) (vs : List Visit) → All (IsFirstBefore c sig lanes t j) vs → All (IsFirstBefore c sig lanes t (j + 1)) vs
later_firsts c sig lanes t j vs firsts =
    All-weaker (IsFirstBefore c sig lanes t j) (IsFirstBefore c sig lanes t (j + 1))
    (λ v f. record { visited = f.visited; near = earlier_next v.step v.lane t j f.near; least = f.least }) vs firsts

-- lane j shows nothing at step t, or what was shown before
visits_same : (c : Parts) (sig : List ℕ) (lanes : List Lane) (t j : ℕ) (vs : List Visit) → VisitsBefore c sig lanes t j vs
    → ((goal : ℕ) → SomeShows c sig lanes j t goal → Contains (goals_of vs) goal) → VisitsBefore c sig lanes t (j + 1) vs
visits_same c sig lanes t j vs so known = record {
  firsts = later_firsts c sig lanes t j vs so.firsts;
  whole = λ k s goal shows near. elim (earlier_cases s k t j near) [
    | inl before ↦ so.whole k s goal shows before
    | inr here ↦ known goal (subst (λ (x : ℕ). SomeShows c sig lanes x t goal) here.1 (subst (λ (x : ℕ). SomeShows c sig lanes k x goal) here.0 shows))
  ];
  ordered = so.ordered;
}

pub visits_skip : (c : Parts) (sig : List ℕ) (lanes : List Lane) (t j : ℕ) (vs : List Visit) → VisitsBefore c sig lanes t j vs
    → ((goal : ℕ) → SomeShows c sig lanes j t goal → ⊥) → VisitsBefore c sig lanes t (j + 1) vs
visits_skip c sig lanes t j vs so none = visits_same c sig lanes t j vs so (λ goal shows. absurd (none goal shows))

visits_first : (c : Parts) (sig : List ℕ) (lanes : List Lane) (vs : List Visit) (v : Visit) → VisitsBefore c sig lanes v.step v.lane vs
    → SomeShows c sig lanes v.lane v.step v.goal → ((goal : ℕ) → SomeShows c sig lanes v.lane v.step goal → v.goal ≡ goal)
    → (Contains (goals_of vs) v.goal → ⊥) → VisitsBefore c sig lanes v.step (v.lane + 1) (vs ++ v ∷ [])
visits_first c sig lanes vs v so shows once none =
    let t : ℕ = v.step in
    let j : ℕ = v.lane in
    let goals : goals_of (vs ++ v ∷ []) ≡ goals_of vs ++ v.goal ∷ [] = map_push (λ (x : Visit). x.goal) vs v in
    let first : IsFirstBefore c sig lanes t (j + 1) v = record {
      visited = shows;
      near = earlier_here t j;
      least = λ k s other before. none (so.whole k s v.goal other before);
    } in
    record {
      firsts = All-push (IsFirstBefore c sig lanes t (j + 1)) vs v (later_firsts c sig lanes t j vs so.firsts) first;
      whole = λ k s goal other near. elim (earlier_cases s k t j near) [
        | inl before ↦ rw goals (Contains-append_left (goals_of vs) (v.goal ∷ []) goal (so.whole k s goal other before))
        | inr here ↦ (
            let now : SomeShows c sig lanes j t goal = subst (λ (x : ℕ). SomeShows c sig lanes x t goal) here.1 (subst (λ (x : ℕ). SomeShows c sig lanes k x goal) here.0 other) in
            subst (λ (x : ℕ). Contains (goals_of (vs ++ v ∷ [])) x) (once goal now) (rw goals (Contains-push (goals_of vs) v.goal))
            )
      ];
      ordered = all_pairs_push (λ (x y : Visit). IsEarlier x.step x.lane y.step y.lane) vs v so.ordered
          (λ k d m. (All-get_or (IsFirstBefore c sig lanes t j) vs k d m so.firsts).near);
    }

pub visits_add : (c : Parts) (sig : List ℕ) (lanes : List Lane) (vs more : List Visit) (v : Visit) → VisitsBefore c sig lanes v.step v.lane vs
    → SomeShows c sig lanes v.lane v.step v.goal → ((goal : ℕ) → SomeShows c sig lanes v.lane v.step goal → v.goal ≡ goal)
    → JoinsFirst vs more v → VisitsBefore c sig lanes v.step (v.lane + 1) more
visits_add c sig lanes vs more v so shows once joins = elim joins [
  | inl h ↦ subst (λ (x : List Visit). VisitsBefore c sig lanes v.step (v.lane + 1) x) (sym h.1)
      (visits_same c sig lanes v.step v.lane vs so (λ goal other. subst (λ (x : ℕ). Contains (goals_of vs) x) (once goal other) h.0))
  | inr h ↦ subst (λ (x : List Visit). VisitsBefore c sig lanes v.step (v.lane + 1) x) (sym h.1) (visits_first c sig lanes vs v so shows once h.0)
]

-- ---- whole steps
-- all lanes of a step are those below n
pub visits_step : (c : Parts) (sig : List ℕ) (lanes : List Lane) (t n : ℕ) (vs : List Visit) → VisitsBefore c sig lanes t n vs
    → ((k s goal : ℕ) → SomeShows c sig lanes k s goal → k < n) → VisitsBefore c sig lanes (t + 1) 0 vs
visits_step c sig lanes t n vs so few = record {
  firsts = All-weaker (IsFirstBefore c sig lanes t n) (IsFirstBefore c sig lanes (t + 1) 0)
      (λ v f. record {
        visited = f.visited;
        near = elim f.near [ inl lt ↦ inl (let less : v.step < t + 1 = omega (arith, lt) in less) | inr at ↦ inl (let less : v.step < t + 1 = omega (arith, at.0) in less) ];
        least = f.least;
      }) vs so.firsts;
  whole = λ k s goal shows near. so.whole k s goal shows (elim near [
    | inl lt ↦ elim (cases_lt s t) [
      | inl less ↦ inl less
      | inr ge ↦ inr ((let same : s ≡ t = omega (arith, lt, ge) in same), few k s goal shows)
    ]
    | inr at ↦ absurd (omega (arith, at.1))
  ]);
  ordered = so.ordered;
}

-- ---- the visits of a batch of so many steps
pub visited_shows : (c : Parts) (sig : List ℕ) (lanes : List Lane) (steps j t goal : ℕ) → IsVisited c sig lanes steps j t goal → SomeShows c sig lanes j t goal
visited_shows c sig lanes steps j t goal v = record { lane = v.lane; place = v.place; shows = record { frames = v.frames; lives = v.lives; shows = v.shows } }

pub shows_visited : (c : Parts) (sig : List ℕ) (lanes : List Lane) (steps j t goal : ℕ) → t < steps → SomeShows c sig lanes j t goal → IsVisited c sig lanes steps j t goal
shows_visited c sig lanes steps j t goal near s = record { near = near; lane = s.lane; place = s.place; frames = s.shows.frames; lives = s.shows.lives; shows = s.shows.shows }

pub step_below : (s k t : ℕ) → IsEarlier s k t 0 → s < t
step_below s k t h = elim h [ inl lt ↦ lt | inr at ↦ absurd (omega (arith, at.1)) ]

pub visits_all : (c : Parts) (sig : List ℕ) (lanes : List Lane) (steps : ℕ) (vs : List Visit) → VisitsBefore c sig lanes steps 0 vs → AreVisits c sig lanes steps vs
visits_all c sig lanes steps vs so = record {
  firsts = All-weaker (IsFirstBefore c sig lanes steps 0) (IsFirstVisit c sig lanes steps)
      (λ v f. record {
        visited = shows_visited c sig lanes steps v.lane v.step v.goal (step_below v.step v.lane steps f.near) f.visited;
        least = λ j t visit. f.least j t (visited_shows c sig lanes steps j t v.goal visit);
      }) vs so.firsts;
  whole = λ j t goal v. so.whole j t goal (visited_shows c sig lanes steps j t goal v) (inl v.near);
  ordered = so.ordered;
}
