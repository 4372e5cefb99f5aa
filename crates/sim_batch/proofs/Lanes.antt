-- One lane, step by step.
use Rattle.std.proofs.Common.{◌≡◌, ℕ, ◌+◌, ◌<◌, ◌≤◌, Bool, List, [], ◌∷◌, ◌++◌, map, take, length, get_or, refl, sym, ap, ◌∙◌, subst, arith, inl, inr}
use Rattle.std.proofs.lemmas.Bool.{cases_lt}
use Rattle.std.proofs.lemmas.List.{get_or_append_left, get_or_push, get_or-take, get_or-map, length-map, length-take-le, length_push}
use Rattle.std.proofs.lemmas.List.Elements.{All-push, All-nil, All-get_or, All-take}
use Rattle.std.proofs.lemmas.List.FromFn.{fill_by_all}
use Rattle.aig_model.specs.WellFormed.{IsCircuit}
use Rattle.aig_model.specs.Meaning.{Assignment, IsStep, IsLegal, Path, input_values, next_values, goal_of}
use Rattle.aig_model.specs.declared.parts.Parts.{Parts}
use Rattle.aig_model.proofs.Paths.{path_none, path_push, path_take, one_path, state_after-push, length-state_after}
use Rattle.sim_walk.specs.Walk.{Lane, Lives}
use Rattle.sim_batch.specs.Batch.{lane_rows}
use Rattle.sim_batch.specs.Steps.{ShowsAt, IsAt}
use Rattle.sim_batch.proofs.Shown.{lived_rows}

-- ---- a lane's assignments are determined
pub lives_before : (c : Parts) (lane : Lane) (u t : ℕ) (frames : List Assignment) → u ≤ t → Lives c lane t frames → Lives c lane u (take (u + 1) frames)
lives_before c lane u t frames near lives =
    let size : length (take (u + 1) frames) ≡ u + 1 = length-take-le (u + 1) frames (omega (arith, lives.size)) in
    record {
      size = size;
      run = record {
        some = omega (arith, size);
        path = path_take c (u + 1) lane.start frames lives.run.path;
        legal = All-take (IsLegal c) (u + 1) frames lives.run.legal;
      };
      inputs = λ k inside. ap (input_values c) (get_or-take (u + 1) frames k [] (omega arith)) ∙ lives.inputs k (omega arith);
    }

pub lives_once : (c : Parts) (lane : Lane) (t : ℕ) (frames others : List Assignment) → IsCircuit c → Lives c lane t frames → Lives c lane t others → frames ≡ others
lives_once c lane t frames others ok f o =
    one_path c lane.start frames others ok f.run.path o.run.path (lived_rows c lane t frames f ∙ sym (lived_rows c lane t others o))

-- ---- the first step
pub at_first : (c : Parts) (lane : Lane) → IsAt c lane 0 0 lane.start
at_first c lane = record {
  frames = [];
  size = refl;
  path = path_none c lane.start;
  inputs = λ u inside. absurd (omega (arith, inside));
  legal = All-nil (IsLegal c);
  leads = refl;
  near = omega arith;
  ends = λ inside. absurd (omega (arith, inside));
}

-- ---- a lane that lives, and one step
with_step : (c : Parts) (lane : Lane) (t : ℕ) (state row : List Bool) (a : Assignment) → (at : IsAt c lane t t state) → lane.row t ≡ row
    → IsStep c state row a → Path c lane.start (at.frames ++ a ∷ [])
with_step c lane t state row a at same step = path_push c lane.start at.frames a at.path step.fits (step.state ∙ at.leads)

step_inputs : (c : Parts) (lane : Lane) (t : ℕ) (state row : List Bool) (a : Assignment) → (at : IsAt c lane t t state) → lane.row t ≡ row
    → IsStep c state row a → (u : ℕ) → u ≤ t → input_values c (get_or (at.frames ++ a ∷ []) u []) ≡ lane.row u
step_inputs c lane t state row a at same step u inside = elim (cases_lt u t) [
  | inl lt ↦ ap (input_values c) (get_or_append_left at.frames (a ∷ []) [] u (omega (arith, at.size))) ∙ at.inputs u lt
  | inr ge ↦ (
      let here : u ≡ t = omega arith in
      ap (input_values c) (get_or_push at.frames a [] u (at.size ∙ sym here)) ∙ (step.row ∙ (sym same ∙ ap lane.row (sym here)))
      )
]

-- the rows of the lane's assignments with the step
step_size : (c : Parts) (lane : Lane) (t : ℕ) (state : List Bool) (a : Assignment) → (at : IsAt c lane t t state) → length (at.frames ++ a ∷ []) ≡ t + 1
step_size c lane t state a at = length_push at.frames a ∙ ap (λ n. n + 1) at.size

step_rows : (c : Parts) (lane : Lane) (t : ℕ) (state row : List Bool) (a : Assignment) → (at : IsAt c lane t t state) → lane.row t ≡ row
    → IsStep c state row a → map (input_values c) (at.frames ++ a ∷ []) ≡ lane_rows lane (t + 1)
step_rows c lane t state row a at same step =
    let size : length (map (input_values c) (at.frames ++ a ∷ [])) ≡ t + 1 = length-map (at.frames ++ a ∷ []) (input_values c) ∙ step_size c lane t state a at in
    fill_by_all lane.row (map (input_values c) (at.frames ++ a ∷ [])) (t + 1) [] size
    (λ k inside. get_or-map (input_values c) (at.frames ++ a ∷ []) k [] [] (omega (arith, step_size c lane t state a at)) ∙ step_inputs c lane t state row a at same step k (omega arith))

-- where the step is legal the lane lives
pub at_lives : (c : Parts) (lane : Lane) (t : ℕ) (state row : List Bool) (a : Assignment) → (at : IsAt c lane t t state) → lane.row t ≡ row
    → IsStep c state row a → IsLegal c a → Lives c lane t (at.frames ++ a ∷ [])
at_lives c lane t state row a at same step legal = record {
  size = step_size c lane t state a at;
  run = record {
    some = omega (arith, step_size c lane t state a at);
    path = with_step c lane t state row a at same step;
    legal = All-push (IsLegal c) at.frames a at.legal legal;
  };
  inputs = step_inputs c lane t state row a at same step;
}

pub at_shows : (c : Parts) (sig : List ℕ) (lane : Lane) (t : ℕ) (state row : List Bool) (a : Assignment) → IsAt c lane t t state → lane.row t ≡ row
    → IsStep c state row a → IsLegal c a → ShowsAt c sig lane t (goal_of sig a)
at_shows c sig lane t state row a at same step legal = record {
  frames = at.frames ++ a ∷ [];
  lives = at_lives c lane t state row a at same step legal;
  shows = ap (goal_of sig) (get_or_push at.frames a [] t at.size);
}

pub at_next : (c : Parts) (lane : Lane) (t : ℕ) (state row : List Bool) (a : Assignment) → IsAt c lane t t state → lane.row t ≡ row
    → IsStep c state row a → IsLegal c a → IsAt c lane (t + 1) (t + 1) (next_values c a)
at_next c lane t state row a at same step legal = record {
  frames = at.frames ++ a ∷ [];
  size = step_size c lane t state a at;
  path = with_step c lane t state row a at same step;
  inputs = λ u inside. step_inputs c lane t state row a at same step u (omega arith);
  legal = All-push (IsLegal c) at.frames a at.legal legal;
  leads = sym (state_after-push c lane.start at.frames a);
  near = omega arith;
  ends = λ inside. absurd (omega (arith, inside));
}

-- where it isn't the lane doesn't live
pub at_dies : (c : Parts) (lane : Lane) (t : ℕ) (state row : List Bool) (a : Assignment) → IsCircuit c → IsAt c lane t t state → lane.row t ≡ row
    → IsStep c state row a → (IsLegal c a → ⊥) → (others : List Assignment) → ¬ Lives c lane t others
at_dies c lane t state row a ok at same step illegal others lives =
    let frames = at.frames ++ a ∷ [] in
    let equal : frames ≡ others = one_path c lane.start frames others ok (with_step c lane t state row a at same step) lives.run.path
    (step_rows c lane t state row a at same step ∙ sym (lived_rows c lane t others lives)) in
    let here : get_or others t [] ≡ a = ap (λ xs. get_or xs t []) (sym equal) ∙ get_or_push at.frames a [] t at.size in
    illegal (subst (λ (x : Assignment). IsLegal c x) here (All-get_or (IsLegal c) others t [] (omega (arith, lives.size)) lives.run.legal))

pub at_ends : (c : Parts) (lane : Lane) (t : ℕ) (state row : List Bool) (a : Assignment) → IsCircuit c → IsAt c lane t t state → lane.row t ≡ row
    → IsStep c state row a → (IsLegal c a → ⊥) → IsAt c lane (t + 1) t state
at_ends c lane t state row a ok at same step illegal = record {
  frames = at.frames;
  size = at.size;
  path = at.path;
  inputs = at.inputs;
  legal = at.legal;
  leads = at.leads;
  near = omega arith;
  ends = λ inside. at_dies c lane t state row a ok at same step illegal;
}

-- a lane that died stays where it was
pub at_dead : (c : Parts) (lane : Lane) (t lived : ℕ) (state : List Bool) → IsAt c lane t lived state → lived < t → IsAt c lane (t + 1) lived state
at_dead c lane t lived state at dead = record {
  frames = at.frames;
  size = at.size;
  path = at.path;
  inputs = at.inputs;
  legal = at.legal;
  leads = at.leads;
  near = omega (arith, at.near);
  ends = λ inside. at.ends dead;
}

-- ---- the steps at which a lane lives
pub lives_within : (c : Parts) (lane : Lane) (t lived : ℕ) (state : List Bool) (u : ℕ) (frames : List Assignment) → IsAt c lane t lived state → u < t
    → Lives c lane u frames → u < lived
lives_within c lane t lived state u frames at inside lives = elim (cases_lt u lived) [
  | inl lt ↦ lt
  | inr ge ↦ absurd (at.ends (omega (arith, ge)) (take (lived + 1) frames) (lives_before c lane lived u frames (omega (arith, ge)) lives))
]

pub at_lived : (c : Parts) (lane : Lane) (t lived : ℕ) (state : List Bool) (u : ℕ) → (at : IsAt c lane t lived state) → u < lived
    → Lives c lane u (take (u + 1) at.frames)
at_lived c lane t lived state u at inside =
    let size : length (take (u + 1) at.frames) ≡ u + 1 = length-take-le (u + 1) at.frames (omega (arith, at.size)) in
    record {
      size = size;
      run = record {
        some = omega (arith, size);
        path = path_take c (u + 1) lane.start at.frames at.path;
        legal = All-take (IsLegal c) (u + 1) at.frames at.legal;
      };
      inputs = λ k near. ap (input_values c) (get_or-take (u + 1) at.frames k [] (omega arith)) ∙ at.inputs k (omega arith);
    }

pub at_wide : (c : Parts) (lane : Lane) (t lived : ℕ) (state : List Bool) → IsAt c lane t lived state → length lane.start ≡ length c.latches
    → length state ≡ length c.latches
at_wide c lane t lived state at size = ap length at.leads ∙ length-state_after c lane.start at.frames size
