-- What the queries of the sweep and of the hops tell, where each goal that such a search leaves settled has an entry.
use Rattle.std.proofs.Common.{◌≡◌, ℕ, zero, suc, ◌+◌, ◌*◌, ◌<◌, ◌≤◌, Bool, true, false, List, [], ◌∷◌, map, get_or, refl, sym, ap, subst, ◌∙◌, arith, le-mul_of_pos_right, Option, Some, None, inl, inr}
use Rattle.std.specs.Prelude.{option_map, slice_get}
use Rattle.std.specs.List.{cons_option}
use Rattle.std.proofs.lemmas.List.{length-map}
use Rattle.std.proofs.lemmas.List.Elements.{Contains-get_or}
use Rattle.std.proofs.lemmas.Option.{none-some, same_Some}
use Rattle.aig_model.specs.declared.parts.Parts.{Parts}
use Rattle.lrat_text.specs.Accepted.{Accepted}
use Rattle.unroll.specs.Frames.{vars_before}
use Rattle.unroll.specs.Queries.{search_formula}
use Rattle.unroll.specs.declared.start.Start.{Start}
use Rattle.board_core.specs.declared.entry.Entry.{Entry}
use Rattle.sim_walk.specs.declared.options.Options.{Options}
use Rattle.sweep_search.specs.Sweep.{AreAllSettled, IsBefore, IsEndFrom, IsRefutedFrom, IsSearchFrom, IsSettled, IsWithin, steps_up_to}
use Rattle.sweep_search.specs.declared.swept.FoundGoal.{FoundGoal}
use Rattle.sweep_search.specs.declared.swept.StepQuery.{StepQuery}
use Rattle.sweep_search.specs.declared.swept.Swept.{Swept}
use Rattle.sweep_search.proofs.Queries.{settled_at_all}
use Rattle.run_report.specs.declared.searches.Search.{Search}
use Rattle.run_report.specs.Bounds.{first_of, first_step, whole_up_to}
use Rattle.run_report.specs.Ends.{AreRefutedStepsIf, IsRefutedStep, IsSpentStep, last_whole, optional}
use Rattle.run_report.specs.Posts.{HasEntry}
use Rattle.run_report.specs.Refutes.{steps_to}
use Rattle.run_report.specs.Searches.{block_of, blocks_of, name_of, step_in}
use Rattle.run_report.proofs.Ending.{named_step}

-- each goal that the search leaves settled has an entry
abbrev pub AreEntered : List Bool → Swept → List Entry → Type 0
AreEntered known s es = (goal : ℕ) → IsSettled known s.found goal → HasEntry es goal

-- ---- how far it goes
-- the step of its spent query
spent_step : (search : Search) (q : StepQuery) → first_step (step_in search) (optional (Some (block_of search q))) ≡ Some q.step
spent_step search q = ap (λ (t : Option ℕ). first_of (cons_option t [])) (named_step search q.step)

-- the last whole step comes before the spent one
before_spent : (greatest step d : ℕ) → whole_up_to greatest (Some step) ≡ Some d → d < step
before_spent greatest zero d e = absurd (none-some d e)
before_spent greatest (suc t) d e = let same : t ≡ d = cc in omega (arith, same)

steps_before : (greatest step : ℕ) → steps_to (whole_up_to greatest (Some step)) ≡ step
steps_before greatest zero = refl
steps_before greatest (suc t) = refl

-- so each goal that is reached up to it is settled
pub whole_settles : (c : Parts) (sig : List ℕ) (start : Start) (known : List Bool) (greatest lemmas : ℕ) (keep : Bool) (search : Search) (s : Swept) (spent : Option StepQuery) (d goal : ℕ) → s.spent ≡ spent
    → IsSearchFrom c sig start known greatest lemmas keep s → IsEndFrom c sig start known greatest lemmas s.found s.upto spent
    → whole_up_to greatest (first_step (step_in search) (optional (option_map (block_of search) spent))) ≡ Some d → IsWithin c sig start d goal → IsSettled known s.found goal
whole_settles c sig start known greatest lemmas keep search s None d goal same searched end e w =
    let last : greatest ≡ d = cc in
    searched.settles d goal (omega (arith, last)) (subst (IsBefore d) (sym same) tt) w
whole_settles c sig start known greatest lemmas keep search s (Some q) d goal same searched end e w =
    let before : d < q.step = before_spent greatest q.step d (ap (whole_up_to greatest) (sym (spent_step search q)) ∙ e) in
    searched.settles d goal (omega (arith, before, end.0)) (subst (IsBefore d) (sym same) before) w

-- and where a goal is left, so many steps were searched whole
whole_count : (c : Parts) (sig : List ℕ) (start : Start) (known : List Bool) (greatest lemmas : ℕ) (search : Search) (found : List FoundGoal) (upto : Option ℕ) (spent : Option StepQuery)
    → IsEndFrom c sig start known greatest lemmas found upto spent → ¬ AreAllSettled sig known found
    → steps_up_to upto ≡ steps_to (whole_up_to greatest (first_step (step_in search) (optional (option_map (block_of search) spent))))
whole_count c sig start known greatest lemmas search found upto None end left = elim end [
  | inl whole ↦ ap steps_up_to whole.0
  | inr all ↦ absurd (left all.0)
]
whole_count c sig start known greatest lemmas search found upto (Some q) end left =
    sym end.1.step_is ∙ sym (ap (λ (t : Option ℕ). steps_to (whole_up_to greatest t)) (spent_step search q) ∙ steps_before greatest q.step)

-- ---- its queries
pub spent_told : (c : Parts) (sig : List ℕ) (o : Options) (es : List Entry) (start : Start) (greatest : ℕ) (search : Search) (known : List Bool) (s : Swept) (spent : Option StepQuery) → AreEntered known s es
    → IsEndFrom c sig start known greatest o.lemmas s.found s.upto spent → IsSpentStep c sig o es start greatest search (option_map (block_of search) spent)
spent_told c sig o es start greatest search known s None have end = tt
spent_told c sig o es start greatest search known s (Some q) have end = (
  q.step,
  refl,
  record {
    near = end.0;
    left_out = record { rising = end.1.rising; settled = λ k d l. have (get_or q.blocked k d) ((end.1.blocked (get_or q.blocked k d)).0 (Contains-get_or q.blocked k d l)) };
    spent = record { spent = end.1.spending.spent; earned = end.1.spending.earned; written = end.1.spending.written };
  },
)

refuted_step : (c : Parts) (sig : List ℕ) (o : Options) (es : List Entry) (start : Start) (search : Search) (known : List Bool) (s : Swept) (step : ℕ) (q : StepQuery) → AreEntered known s es
    → IsRefutedFrom c sig start known s.found step o.lemmas q → IsRefutedStep c sig o es start search step (block_of search q)
refuted_step c sig o es start search known s step q have own = record {
  name = ap (name_of search) own.step_is;
  refuted = record {
    left_out = record {
      rising = own.rising;
      settled = λ k d l. have (get_or q.blocked k d) (settled_at_all known s.found step (get_or q.blocked k d) ((own.blocked (get_or q.blocked k d)).0 (Contains-get_or q.blocked k d l)));
    };
    accepted = subst (λ (n : ℕ). Accepted (search_formula c sig start n q.blocked) q.proof) own.step_is own.refutation.accepted;
    written = own.refutation.written;
  };
  short = omega (arith, own.refutation.short);
}

-- the item at a place comes from the one that was there
mapped_at : {X Y : Type 0} (f : X → Y) (xs : List X) (k : ℕ) (y : Y) → slice_get (map f xs) k ≡ Some y → (x : X) × (slice_get xs k ≡ Some x) × (f x ≡ y)
mapped_at f [] k y e = absurd (none-some y e)
mapped_at f (x ∷ xs) zero y e = (x, refl, same_Some (f x) y e)
mapped_at f (x ∷ xs) (suc k) y e = mapped_at f xs k y e

few_steps : (c : Parts) (n : ℕ) → vars_before c n ≤ 4000000 → n ≤ 4000000
few_steps c n room = let least : n ≤ n * (c.top + 1) = le-mul_of_pos_right {m = c.top + 1} n (omega arith) in omega (arith, least, room)

pub refuted_told : (keep : Bool) (c : Parts) (sig : List ℕ) (o : Options) (es : List Entry) (start : Start) (greatest : ℕ) (search : Search) (known : List Bool) (s : Swept)
    → vars_before c (greatest + 1) ≤ 4000000 → AreEntered known s es → IsSearchFrom c sig start known greatest o.lemmas keep s
    → AreRefutedStepsIf keep c sig o es start greatest search (last_whole greatest search (blocks_of search s.refuted s.spent)) (map (block_of search) s.refuted)
refuted_told false c sig o es start greatest search known s room have searched = ap (map (block_of search)) searched.refuted
refuted_told true c sig o es start greatest search known s room have searched =
    let size = length-map s.refuted (block_of search) in
    let few : greatest + 1 ≤ 4000000 = few_steps c (greatest + 1) room in
    record {
      each = λ step b e. (
          let at = mapped_at (block_of search) s.refuted step b e in
          subst (IsRefutedStep c sig o es start search step) at.2 (refuted_step c sig o es start search known s step at.0 have (searched.refuted.each step at.0 at.1))
          );
      near = omega (arith, size, searched.refuted.count, searched.near);
      few = omega (arith, size, searched.refuted.count, searched.near, few);
      whole = λ goal below left.
          size ∙ (searched.refuted.count ∙ whole_count c sig start known greatest o.lemmas search s.found s.upto s.spent searched.end (λ all. left (have goal (all goal below))));
    }
