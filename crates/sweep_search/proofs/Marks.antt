-- The marks of the goals that are settled, and the list of them.
use Rattle.std.proofs.Common.{◌≡◌, ◌⊎◌, ℕ, ◌+◌, ◌<◌, Bool, true, false, List, [], ◌∷◌, ◌++◌, take, length, get_or, set, sym, ap, subst, ◌∙◌, arith, All, Contains, inl, inr}
use Rattle.std.specs.Prelude.{◌↔◌}
use Rattle.std.proofs.lemmas.Bool.{cases_eq, cases_lt, false≢true}
use Rattle.std.proofs.lemmas.List.{take_more, get_or_past, map_push, get_or-set_same, get_or-set_other}
use Rattle.std.proofs.lemmas.List.Elements.{All-get_or, All-push, All-weaker, Contains-append_left, Contains-push, Contains-push_cases}
use Rattle.aig_model.specs.Goals.{IsAboveLast}
use Rattle.sweep_search.specs.Sweep.{IsMarked, IsSettled, goals_of}
use Rattle.sweep_search.specs.declared.swept.FoundGoal.{FoundGoal}

-- a goal that is marked is in the list
pub marked_below : (marks : List Bool) (goal : ℕ) → IsMarked marks goal → goal < length marks
marked_below marks goal marked =
    elim (cases_lt goal (length marks)) [ inl lt ↦ lt | inr ge ↦ absurd (false≢true (sym (get_or_past marks goal false ge) ∙ marked)) ]

-- ---- the marks
pub AreMarks : List Bool → List FoundGoal → List Bool → Type 0
AreMarks known found marks = (goal : ℕ) → IsMarked marks goal ↔ IsSettled known found goal

none_contained : (goal : ℕ) → ¬ Contains [] goal
none_contained goal h = absurd (omega (arith, h))

pub marks_none : (known : List Bool) (goal : ℕ) → IsMarked known goal ↔ IsSettled known [] goal
marks_none known goal = (λ h. inl h, λ h. elim h [ inl marked ↦ marked | inr has ↦ absurd (none_contained goal has) ])

mark_one : (known marks : List Bool) (found : List FoundGoal) (f : FoundGoal) → f.goal < length marks
    → ((goal : ℕ) → IsMarked marks goal ↔ IsSettled known found goal)
    → (goal : ℕ) → IsMarked (set marks f.goal true) goal ↔ IsSettled known (found ++ f ∷ []) goal
mark_one known marks found f inside h goal =
    let goals : goals_of (found ++ f ∷ []) ≡ goals_of found ++ f.goal ∷ [] = map_push (λ (x : FoundGoal). x.goal) found f in
    let P : List ℕ → Type 0 = λ gs. IsMarked (set marks f.goal true) goal ↔ (IsMarked known goal ⊎ Contains gs goal) in
    subst P (sym goals) (elim (cases_eq f.goal goal) [
      | inl same ↦ (
          let marked : get_or (set marks f.goal true) goal false ≡ true = ap (λ k. get_or (set marks f.goal true) k false) (sym same) ∙ get_or-set_same marks f.goal true false inside in
          (λ _. inr (subst (λ (x : ℕ). Contains (goals_of found ++ f.goal ∷ []) x) same (Contains-push (goals_of found) f.goal)), λ _. marked)
          )
      | inr other ↦ (
          let same : get_or (set marks f.goal true) goal false ≡ get_or marks goal false = get_or-set_other marks f.goal goal true false (λ e. other (sym e)) in
          let before = h goal in (
            λ t. elim (before.0 (sym same ∙ t)) [ inl marked ↦ inl marked | inr has ↦ inr (Contains-append_left (goals_of found) (f.goal ∷ []) goal has) ],
            λ s. elim s [
              | inl marked ↦ same ∙ before.1 (inl marked)
              | inr has ↦ elim (Contains-push_cases (goals_of found) f.goal goal has) [ inl in_before ↦ same ∙ before.1 (inr in_before) | inr e ↦ absurd (other e) ]
            ],
          )
          )
    ])

pub mark_more : (known marks : List Bool) (found : List FoundGoal) (i : ℕ) (f : FoundGoal) → i < length found → f ≡ get_or found i f → f.goal < length marks
    → ((goal : ℕ) → IsMarked marks goal ↔ IsSettled known (take i found) goal)
    → (goal : ℕ) → IsMarked (set marks f.goal true) goal ↔ IsSettled known (take (i + 1) found) goal
mark_more known marks found i f inside here below h goal =
    let more : take (i + 1) found ≡ take i found ++ f ∷ [] = take_more found i f inside ∙ ap (λ (x : FoundGoal). take i found ++ x ∷ []) (sym here) in
    subst (λ (fs : List FoundGoal). IsMarked (set marks f.goal true) goal ↔ IsSettled known fs goal) (sym more) (mark_one known marks (take i found) f below h goal)

-- ---- the list of the marked goals, as far as they are listed
pub record AreListed (marks : List Bool) (count : ℕ) (goals : List ℕ) : Type 0 where
  pub below : All (λ g. g < count) goals
  pub marked : (goal : ℕ) → Contains goals goal → IsMarked marks goal
  pub whole : (goal : ℕ) → goal < count → IsMarked marks goal → Contains goals goal

pub listed_none : (marks : List Bool) → AreListed marks 0 []
listed_none marks = record {
  below = λ k d l. absurd (omega arith);
  marked = λ goal h. absurd (none_contained goal h);
  whole = λ goal l h. absurd (omega arith);
}

pub above_listed : (marks : List Bool) (count : ℕ) (goals : List ℕ) → AreListed marks count goals → IsAboveLast goals count
above_listed marks count goals h = λ k e. All-get_or (λ g. g < count) goals k 0 (omega arith) h.below

pub listed_more : (marks : List Bool) (count : ℕ) (goals : List ℕ) → AreListed marks count goals → IsMarked marks count → AreListed marks (count + 1) (goals ++ count ∷ [])
listed_more marks count goals h here = record {
  below = All-push (λ g. g < count + 1) goals count (All-weaker (λ g. g < count) (λ g. g < count + 1) (λ g l. omega arith) goals h.below) (omega arith);
  marked = λ goal has. elim (Contains-push_cases goals count goal has) [ inl before ↦ h.marked goal before | inr e ↦ subst (IsMarked marks) e here ];
  whole = λ goal l marked. elim (cases_lt goal count) [
    | inl lt ↦ Contains-append_left goals (count ∷ []) goal (h.whole goal lt marked)
    | inr ge ↦ (let e : count ≡ goal = omega arith in subst (λ (x : ℕ). Contains (goals ++ count ∷ []) x) e (Contains-push goals count))
  ];
}

pub listed_past : (marks : List Bool) (count : ℕ) (goals : List ℕ) → AreListed marks count goals → ¬ IsMarked marks count → AreListed marks (count + 1) goals
listed_past marks count goals h other = record {
  below = All-weaker (λ g. g < count) (λ g. g < count + 1) (λ g l. omega arith) goals h.below;
  marked = h.marked;
  whole = λ goal l marked. elim (cases_lt goal count) [
    | inl lt ↦ h.whole goal lt marked
    | inr ge ↦ (let e : goal ≡ count = omega arith in absurd (other (subst (IsMarked marks) e marked)))
  ];
}

pub listed_all : (marks : List Bool) (goals : List ℕ) → AreListed marks (length marks) goals → (goal : ℕ) → Contains goals goal ↔ IsMarked marks goal
listed_all marks goals h goal = (h.marked goal, λ marked. h.whole goal (marked_below marks goal marked) marked)
