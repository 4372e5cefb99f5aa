-- The queries of the steps that are searched whole.
use Rattle.std.proofs.Common.{◌≡◌, ℕ, ◌+◌, ◌-◌, ◌<◌, ◌≤◌, Bool, true, false, List, [], ◌∷◌, ◌++◌, length, get_or, refl, sym, ap, subst, ◌∙◌, arith, All, Contains, inl, inr}
use Rattle.std.specs.Prelude.{◌↔◌, Any}
use Rattle.std.specs.List.Sorted.{IsStrictlyIncreasing}
use Rattle.std.proofs.lemmas.Bool.{cases_lt}
use Rattle.std.proofs.lemmas.List.{append-nil, length-map, length-append, length_push, append_assoc, get_or-map, get_or_default, get_or_append_left, get_or-append_right}
use Rattle.std.proofs.lemmas.List.Elements.{All-push}
use Rattle.std.proofs.lemmas.Option.{slice_get_within}
use Rattle.aig_model.specs.declared.parts.Parts.{Parts}
use Rattle.lrat_text.specs.declared.proof.LratStep.{LratStep}
use Rattle.sat_solver.proofs.Growth.{slice_get-push_cases}
use Rattle.unroll.specs.declared.start.Start.{Start}
use Rattle.hop_search.specs.Answers.{IsNoMore}
use Rattle.sweep_search.specs.Sweep.{IsSettled, IsSettledBy, IsRefutedFrom, AreRefutedIf, goals_of}
use Rattle.sweep_search.specs.Steps.{AddsAt, with_query}
use Rattle.sweep_search.specs.declared.swept.FoundGoal.{FoundGoal}
use Rattle.sweep_search.specs.declared.swept.StepQuery.{StepQuery}
use Rattle.sweep_search.proofs.Searched.{has_goal}

-- ---- what is settled by a step
-- is settled
pub settled_at_all : (known : List Bool) (found : List FoundGoal) (step goal : ℕ) → IsSettledBy known found step goal → IsSettled known found goal
settled_at_all known found step goal (inl marked) = inl marked
settled_at_all known found step goal (inr any) = inr (subst (Contains (goals_of found)) (ap (λ (f : FoundGoal). f.goal) any.3 ∙ any.4.1) (has_goal found any.0 any.1 any.2))

-- all that is found so far is found by this step
settled_by_now : (known : List Bool) (found : List FoundGoal) (step goal : ℕ) → All (λ (f : FoundGoal). f.step ≤ step) found → IsSettled known found goal ↔ IsSettledBy known found step goal
settled_by_now known found step goal near = (
  λ settled. elim settled [
    | inl marked ↦ inl marked
    | inr has ↦ (
        let none : FoundGoal = record { goal = goal; step = 0; trace = record { start = []; rows = record { width = 0; rows = [] } } } in
        let inside : has.0 < length found = omega (arith, has.1, length-map found (λ (f : FoundGoal). f.goal)) in
        let here : FoundGoal = get_or found has.0 none in
        inr (
          has.0,
          here,
          inside,
          get_or_default found has.0 here none inside,
          (near has.0 none inside, sym (get_or-map (λ (f : FoundGoal). f.goal) found has.0 none goal inside) ∙ has.2),
        )
        )
  ],
  settled_at_all known found step goal,
)

-- what is found at a later step isn't found by this one
found_later : (step later goal : ℕ) (old more : List FoundGoal) → step < later → All (λ (f : FoundGoal). f.step ≡ later) more
    → Any (λ (f : FoundGoal). (f.step ≤ step) × (f.goal ≡ goal)) (old ++ more) → Any (λ (f : FoundGoal). (f.step ≤ step) × (f.goal ≡ goal)) old
found_later step later goal old more less here any =
    elim (cases_lt any.0 (length old)) [
      | inl before ↦ (any.0, any.1, before, sym (get_or_append_left old more any.1 any.0 before) ∙ any.3, any.4)
      | inr after ↦ (
          let inside : any.0 - length old < length more = omega (arith, any.2, after, length-append old more) in
          let same : get_or more (any.0 - length old) any.1 ≡ any.1 = sym (get_or-append_right old more (length old) any.0 any.1 refl after) ∙ any.3 in
          let at : any.1.step ≡ later = sym (ap (λ (f : FoundGoal). f.step) same) ∙ here (any.0 - length old) any.1 inside in
          absurd (omega (arith, at, any.4.0, less))
          )
    ]

found_still : (step goal : ℕ) (old more : List FoundGoal) → Any (λ (f : FoundGoal). (f.step ≤ step) × (f.goal ≡ goal)) old
    → Any (λ (f : FoundGoal). (f.step ≤ step) × (f.goal ≡ goal)) (old ++ more)
found_still step goal old more any =
    (any.0, any.1, omega (arith, any.2, length-append old more), get_or_append_left old more any.1 any.0 any.2 ∙ any.3, any.4)

settled_still : (known : List Bool) (old new : List FoundGoal) (step later goal : ℕ) → step < later → AddsAt later old new → IsSettledBy known old step goal ↔ IsSettledBy known new step goal
settled_still known old new step later goal less adds =
    subst (λ (fs : List FoundGoal). IsSettledBy known old step goal ↔ IsSettledBy known fs step goal) (sym adds.after) (
      λ settled. elim settled [ inl marked ↦ inl marked | inr any ↦ inr (found_still step goal old adds.more any) ],
      λ settled. elim settled [ inl marked ↦ inl marked | inr any ↦ inr (found_later step later goal old adds.more less adds.here any) ],
    )

-- ---- what a step adds
pub adds_none : (step : ℕ) (found : List FoundGoal) → AddsAt step found found
adds_none step found = record { more = []; after = sym (append-nil found); here = λ k d l. absurd (omega arith) }

pub adds_one : (step : ℕ) (old new : List FoundGoal) (f : FoundGoal) → f.step ≡ step → AddsAt step old new → AddsAt step old (new ++ f ∷ [])
adds_one step old new f at adds = record {
  more = adds.more ++ f ∷ [];
  after = ap (λ (fs : List FoundGoal). fs ++ f ∷ []) adds.after ∙ append_assoc old adds.more (f ∷ []);
  here = All-push (λ (g : FoundGoal). g.step ≡ step) adds.more f adds.here at;
}

-- ---- the queries
-- the query after which nothing more is new
pub refuted_now : (c : Parts) (sig : List ℕ) (start : Start) (known : List Bool) (found : List FoundGoal) (step lemmas : ℕ) (blocked : List ℕ) (proof : List LratStep)
    → All (λ (f : FoundGoal). f.step ≤ step) found → ((goal : ℕ) → Contains blocked goal ↔ IsSettled known found goal) → IsStrictlyIncreasing blocked
    → IsNoMore c sig start step blocked lemmas proof → IsRefutedFrom c sig start known found step lemmas (record { step = step; blocked = blocked; proof = proof })
refuted_now c sig start known found step lemmas blocked proof near settled rising none = record {
  step_is = refl;
  blocked = λ goal. (
      let by = settled_by_now known found step goal near in
      (λ has. by.0 ((settled goal).0 has), λ is. (settled goal).1 (by.1 is))
      );
  rising = rising;
  refutation = none.refutation;
}

refuted_still : (c : Parts) (sig : List ℕ) (start : Start) (known : List Bool) (old new : List FoundGoal) (step later lemmas : ℕ) (q : StepQuery) → step < later → AddsAt later old new
    → IsRefutedFrom c sig start known old step lemmas q → IsRefutedFrom c sig start known new step lemmas q
refuted_still c sig start known old new step later lemmas q less adds h = record {
  step_is = h.step_is;
  blocked = λ goal. (
      let still = settled_still known old new step later goal less adds in
      (λ has. still.0 ((h.blocked goal).0 has), λ is. (h.blocked goal).1 (still.1 is))
      );
  rising = h.rising;
  refutation = h.refutation;
}

pub kept_none : (keep : Bool) (c : Parts) (sig : List ℕ) (start : Start) (known : List Bool) (lemmas : ℕ) → AreRefutedIf keep c sig start known [] 0 lemmas []
kept_none false c sig start known lemmas = refl
kept_none true c sig start known lemmas = record { count = refl; each = λ step q e. absurd cc }

-- the search of the next step finds more
pub kept_still : (keep : Bool) (c : Parts) (sig : List ℕ) (start : Start) (known : List Bool) (old new : List FoundGoal) (step lemmas : ℕ) (queries : List StepQuery) → AddsAt step old new
    → AreRefutedIf keep c sig start known old step lemmas queries → AreRefutedIf keep c sig start known new step lemmas queries
kept_still false c sig start known old new step lemmas queries adds h = h
kept_still true c sig start known old new step lemmas queries adds h = record {
  count = h.count;
  each = λ k q e. refuted_still c sig start known old new k step lemmas q (omega (arith, slice_get_within queries k q e, h.count)) adds (h.each k q e);
}

-- and is searched whole
pub kept_more : (keep : Bool) (c : Parts) (sig : List ℕ) (start : Start) (known : List Bool) (found : List FoundGoal) (step lemmas : ℕ) (queries : List StepQuery) (q : StepQuery)
    → AreRefutedIf keep c sig start known found step lemmas queries → IsRefutedFrom c sig start known found step lemmas q
    → AreRefutedIf keep c sig start known found (step + 1) lemmas (with_query keep queries q)
kept_more false c sig start known found step lemmas queries q h one = h
kept_more true c sig start known found step lemmas queries q h one = record {
  count = length_push queries q ∙ ap (λ (n : ℕ). n + 1) h.count;
  each = λ k x e. elim (slice_get-push_cases queries q k x e) [
    | inl before ↦ h.each k x before.0
    | inr last ↦ subst (λ (n : ℕ). IsRefutedFrom c sig start known found n lemmas x) (sym (last.0 ∙ h.count)) (subst (IsRefutedFrom c sig start known found step lemmas) last.1 one)
  ];
}
