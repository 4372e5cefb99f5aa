-- How a search ends.
use Rattle.std.proofs.Common.{◌≡◌, ℕ, suc, ◌+◌, ◌<◌, ◌≤◌, ◌^◌, Bool, List, [], length, get_or, sym, ap, subst, arith, All, inl, inr, Option, Some, None}
use Rattle.std.proofs.lemmas.List.Elements.{All-weaker}
use Rattle.aig_model.specs.declared.parts.Parts.{Parts}
use Rattle.aig_model.proofs.OneGoal.{goal_of-lt}
use Rattle.unroll.specs.declared.start.Start.{Start}
use Rattle.sweep_search.specs.Sweep.{IsSettled, AreAllSettled, IsWithin, IsSpentFrom, IsSearchFrom, IsEndFrom, AreRefutedIf, IsBefore, IsLastStep, steps_up_to}
use Rattle.sweep_search.specs.Steps.{IsSearched}
use Rattle.sweep_search.specs.declared.swept.FoundGoal.{FoundGoal}
use Rattle.sweep_search.specs.declared.swept.StepQuery.{StepQuery}
use Rattle.sweep_search.specs.declared.swept.Swept.{Swept}
use Rattle.sweep_search.proofs.Searched.{reached_from}

within_below : (c : Parts) (sig : List ℕ) (start : Start) (d goal : ℕ) → IsWithin c sig start d goal → goal < 2 ^ length sig
within_below c sig start d goal w =
    let r = (reached_from c sig start d goal w).0 in
    subst (λ (g : ℕ). g < 2 ^ length sig) r.at.shows (goal_of-lt sig (get_or r.at.frames r.t []))

upto_below : (upto : Option ℕ) (d whole : ℕ) → steps_up_to upto ≡ whole → upto ≡ Some d → d < whole
upto_below upto d whole e is = let s : steps_up_to upto ≡ suc d = ap steps_up_to is in omega arith

last_upto : (upto : Option ℕ) (depth : ℕ) → steps_up_to upto ≡ depth + 1 → upto ≡ Some depth
last_upto None depth e = absurd (omega (arith, e))
last_upto (Some t) depth e = (let same : t ≡ depth = omega (arith, e) in ap Some same)

-- the steps that are searched whole are as many as `upto` says
search_of : (c : Parts) (sig : List ℕ) (start : Start) (known : List Bool) (depth lemmas step : ℕ) (keep : Bool) (s : Swept) → steps_up_to s.upto ≡ step → IsSearched c sig start known step s.found
    → All (λ (f : FoundGoal). f.step ≤ depth) s.found → step ≤ depth + 1
    → ((d goal : ℕ) → d ≤ depth → IsBefore d s.spent → IsWithin c sig start d goal → IsSettled known s.found goal)
    → IsEndFrom c sig start known depth lemmas s.found s.upto s.spent → AreRefutedIf keep c sig start known s.found step lemmas s.refuted → IsSearchFrom c sig start known depth lemmas keep s
search_of c sig start known depth lemmas step keep s upto searched shallow inside settles end refuted = record {
  found = searched.news;
  settles = settles;
  whole = λ d goal is w. searched.whole d goal (upto_below s.upto d step upto is) w;
  near = omega arith;
  next = subst (λ (n : ℕ). All (λ (f : FoundGoal). f.step ≤ n) s.found) (sym upto) searched.near;
  shallow = shallow;
  end = end;
  refuted = subst (λ (n : ℕ). AreRefutedIf keep c sig start known s.found n lemmas s.refuted) (sym upto) refuted;
}

-- all steps were searched
pub search_to_depth : (c : Parts) (sig : List ℕ) (start : Start) (known : List Bool) (depth lemmas : ℕ) (keep : Bool) (s : Swept) → steps_up_to s.upto ≡ depth + 1 → s.spent ≡ None
    → IsSearched c sig start known (depth + 1) s.found → All (λ (f : FoundGoal). f.step ≤ depth) s.found → ¬ AreAllSettled sig known s.found
    → AreRefutedIf keep c sig start known s.found (depth + 1) lemmas s.refuted → IsSearchFrom c sig start known depth lemmas keep s
search_to_depth c sig start known depth lemmas keep s upto spent searched shallow left refuted =
    search_of c sig start known depth lemmas (depth + 1) keep s upto searched shallow (omega arith)
    (λ d goal l before w. searched.whole d goal (omega arith) w)
    (subst (IsEndFrom c sig start known depth lemmas s.found s.upto) (sym spent) (inl (last_upto s.upto depth upto, left))) refuted

-- every goal is settled
pub search_to_all : (c : Parts) (sig : List ℕ) (start : Start) (known : List Bool) (depth lemmas step : ℕ) (keep : Bool) (s : Swept) → steps_up_to s.upto ≡ step → s.spent ≡ None → step ≤ depth
    → IsSearched c sig start known step s.found → All (λ (f : FoundGoal). f.step ≤ depth) s.found → AreAllSettled sig known s.found
    → AreRefutedIf keep c sig start known s.found step lemmas s.refuted → IsSearchFrom c sig start known depth lemmas keep s
search_to_all c sig start known depth lemmas step keep s upto spent inside searched shallow all refuted =
    search_of c sig start known depth lemmas step keep s upto searched shallow (omega arith)
    (λ d goal l before w. all goal (within_below c sig start d goal w))
    (subst (IsEndFrom c sig start known depth lemmas s.found s.upto) (sym spent) (inr (all, subst (IsLastStep s.found) (sym upto) (searched.timely all)))) refuted

-- a query is spent
pub search_to_spent : (c : Parts) (sig : List ℕ) (start : Start) (known : List Bool) (depth lemmas step : ℕ) (keep : Bool) (s : Swept) (q : StepQuery) → steps_up_to s.upto ≡ step → s.spent ≡ Some q
    → step ≤ depth → IsSearched c sig start known step s.found → All (λ (f : FoundGoal). f.step ≤ depth) s.found → IsSpentFrom c sig start known s.found step lemmas q
    → AreRefutedIf keep c sig start known s.found step lemmas s.refuted → IsSearchFrom c sig start known depth lemmas keep s
search_to_spent c sig start known depth lemmas step keep s q upto spent inside searched shallow query refuted =
    search_of c sig start known depth lemmas step keep s upto searched shallow (omega arith)
    (λ d goal l before w. (
    let sooner : d < q.step = subst (IsBefore d) spent before in
    searched.whole d goal (omega (arith, sooner, query.step_is)) w
    ))
    (subst (IsEndFrom c sig start known depth lemmas s.found s.upto) (sym spent) (
      (let at : q.step ≤ depth = omega (arith, query.step_is) in at),
      subst (λ (n : ℕ). IsSpentFrom c sig start known s.found n lemmas q) (sym upto) query,
    )) refuted

pub shallow_of : (step depth : ℕ) (found : List FoundGoal) → step ≤ depth → All (λ (f : FoundGoal). f.step ≤ step) found → All (λ (f : FoundGoal). f.step ≤ depth) found
shallow_of step depth found inside near = All-weaker (λ (f : FoundGoal). f.step ≤ step) (λ (f : FoundGoal). f.step ≤ depth) (λ f l. omega arith) found near
