-- The goals that a lane visited so far.
use Rattle.std.proofs.Common.{◌≡◌, ◌≢◌, ℕ, ◌+◌, ◌<◌, List, [], ◌∷◌, ◌++◌, get_or, sym, ap, ◌∙◌, subst, arith, inl, inr, Contains}
use Rattle.std.proofs.lemmas.Bool.{cases_lt}
use Rattle.std.proofs.lemmas.List.{map_push}
use Rattle.std.proofs.lemmas.List.Elements.{Contains-append_left, Contains-get_or, Contains-push, Contains-push_cases}
use Rattle.std.proofs.lemmas.List.Quantifiers.{all_pairs_push}
use Rattle.aig_model.specs.WellFormed.{IsCircuit}
use Rattle.aig_model.specs.Meaning.{Assignment, goal_of}
use Rattle.aig_model.specs.declared.parts.Parts.{Parts}
use Rattle.sim_walk.specs.declared.visit.Visit.{Visit}
use Rattle.sim_walk.specs.FirstVisits.{JoinsFirst}
use Rattle.sim_walk.specs.Walk.{Lane, goals_of}
use Rattle.sim_batch.specs.Steps.{ShowsAt, HasGoals}
use Rattle.sim_batch.proofs.Lanes.{lives_once}

-- a lane shows one goal at a step
pub shows_once : (c : Parts) (sig : List ℕ) (lane : Lane) (t goal other : ℕ) → IsCircuit c → ShowsAt c sig lane t goal → ShowsAt c sig lane t other → goal ≡ other
shows_once c sig lane t goal other ok s o =
    sym s.shows ∙ (ap (λ (frames : List Assignment). goal_of sig (get_or frames t [])) (lives_once c lane t s.frames o.frames ok s.lives o.lives) ∙ o.shows)

contains_none : (x : ℕ) → Contains [] x → ⊥
contains_none x h = omega (arith, h.1)

pub goals_none : (c : Parts) (sig : List ℕ) (lane : Lane) → HasGoals c sig lane 0 []
goals_none c sig lane = record {
  distinct = λ i j d l m. absurd (omega (arith, l, m));
  shown = λ goal h. absurd (contains_none goal h);
  whole = λ u goal inside s. absurd (omega (arith, inside));
}

goals_again : (c : Parts) (sig : List ℕ) (lane : Lane) (t : ℕ) (vs : List Visit) (goal : ℕ) → IsCircuit c → HasGoals c sig lane t vs
    → ShowsAt c sig lane t goal → Contains (goals_of vs) goal → HasGoals c sig lane (t + 1) vs
goals_again c sig lane t vs goal ok has shows inside = record {
  distinct = has.distinct;
  shown = λ g h. (let old = has.shown g h in (old.0, (let more : old.0 < t + 1 = omega (arith, old.1) in more), old.2));
  whole = λ u g near s. elim (cases_lt u t) [
    | inl lt ↦ has.whole u g lt s
    | inr ge ↦ (
        let here : u ≡ t = omega arith in
        let now : ShowsAt c sig lane t g = subst (λ (k : ℕ). ShowsAt c sig lane k g) here s in
        subst (λ (x : ℕ). Contains (goals_of vs) x) (shows_once c sig lane t goal g ok shows now) inside
        )
  ];
}

goals_first : (c : Parts) (sig : List ℕ) (lane : Lane) (t : ℕ) (vs : List Visit) (v : Visit) → IsCircuit c → HasGoals c sig lane t vs
    → ShowsAt c sig lane t v.goal → (Contains (goals_of vs) v.goal → ⊥) → HasGoals c sig lane (t + 1) (vs ++ v ∷ [])
goals_first c sig lane t vs v ok has shows none =
    let goals : goals_of (vs ++ v ∷ []) ≡ goals_of vs ++ v.goal ∷ [] = map_push (λ (x : Visit). x.goal) vs v in
    record {
      distinct = rw goals (all_pairs_push (λ g h. g ≢ h) (goals_of vs) v.goal has.distinct
          (λ k d m e. none (subst (λ (x : ℕ). Contains (goals_of vs) x) e (Contains-get_or (goals_of vs) k d m))));
      shown = λ g h. elim (Contains-push_cases (goals_of vs) v.goal g (subst (λ (l : List ℕ). Contains l g) goals h)) [
        | inl in_before ↦ (let old = has.shown g in_before in (old.0, (let more : old.0 < t + 1 = omega (arith, old.1) in more), old.2))
        | inr e ↦ (t, (let more : t < t + 1 = omega arith in more), subst (λ (x : ℕ). ShowsAt c sig lane t x) e shows)
      ];
      whole = λ u g near s. elim (cases_lt u t) [
        | inl lt ↦ rw goals (Contains-append_left (goals_of vs) (v.goal ∷ []) g (has.whole u g lt s))
        | inr ge ↦ (
            let here : u ≡ t = omega arith in
            let now : ShowsAt c sig lane t g = subst (λ (k : ℕ). ShowsAt c sig lane k g) here s in
            let same : v.goal ≡ g = shows_once c sig lane t v.goal g ok shows now in
            subst (λ (x : ℕ). Contains (goals_of (vs ++ v ∷ [])) x) same (rw goals (Contains-push (goals_of vs) v.goal))
            )
      ];
    }

pub goals_more : (c : Parts) (sig : List ℕ) (lane : Lane) (t : ℕ) (vs more : List Visit) (v : Visit) → IsCircuit c → HasGoals c sig lane t vs
    → ShowsAt c sig lane t v.goal → JoinsFirst vs more v → HasGoals c sig lane (t + 1) more
goals_more c sig lane t vs more v ok has shows joins = elim joins [
  | inl h ↦ subst (λ (x : List Visit). HasGoals c sig lane (t + 1) x) (sym h.1) (goals_again c sig lane t vs v.goal ok has shows h.0)
  | inr h ↦ subst (λ (x : List Visit). HasGoals c sig lane (t + 1) x) (sym h.1) (goals_first c sig lane t vs v ok has shows h.0)
]
