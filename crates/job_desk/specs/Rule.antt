-- The rule of the desk: what holds of its word and of all views between any two steps.
use Rattle.std.specs.Prelude.{◌≡◌, ◌≢◌, ℕ, ◌+◌, ◌-◌, ◌<◌, ◌≤◌, List, [], ◌∷◌, ◌++◌, None, Some, length, slice_index, cond, nat_lt}
use mathlib.Core.Option.{some}
use lib.ListN.{get_elem?}
use Rattle.atomic_table.specs.Table.{Me, Step}
use Rattle.job_desk.specs.declared.view.View.{View}
use Rattle.job_desk.specs.declared.view.Terms.{Terms}
use Rattle.job_desk.specs.Lists.{total, once_below}
use Rattle.job_desk.specs.Draws.{draw, draws_of, draws_by, late_by}

-- the first caller's view when the desk is made
abbrev pub opening_view : ℕ → ℕ → View
opening_view jobs callers = record { parts = callers; caller = 0; made = 1; drawn = []; front = 0; over = None; spare = callers; jobs = jobs; callers = callers }

abbrev pub first : Terms → View
first t = opening_view t.jobs t.callers

-- a seat that was taken in has nothing
abbrev pub spent : View
spent = record { parts = 0; caller = 0; made = 0; drawn = []; front = 0; over = None; spare = 0; jobs = 0; callers = 0 }

-- what holds of each view, where n numbers were drawn and so many callers were made
pub record Fits (t : Terms) (n made : ℕ) (v : View) : Type 0 where
  pub terms : 0 < v.parts → (v.jobs ≡ t.jobs) × (v.callers ≡ t.callers)
  pub front : v.front ≤ n
  pub caller : 0 < v.parts → v.caller < made
  -- its numbers are those of callers that were made
  pub named : (k : ℕ) → made ≤ k → draws_by k v.drawn ≡ 0
  pub makes : 0 < v.made → v.made ≡ made
  -- with no number at or above `jobs` so far, its caller drew none
  pub early : 0 < v.parts → v.over ≡ None → late_by t.jobs v.caller v.drawn ≡ 0
  pub idle : v.parts ≡ 0 → v ≡ spent

-- live views have different callers, and a live caller's numbers stand in its own view
abbrev pub Apart : List View → Type 0
Apart views =
    (i j : ℕ) (v u : View) → i ≢ j → get_elem? views i ≡ some v → get_elem? views j ≡ some u → 0 < v.parts
    → (0 < u.parts → u.caller ≢ v.caller) × (draws_by v.caller u.drawn ≡ 0)

pub record Kept (t : Terms) (words : List ℕ) (views : List View) : Type 0 where
  pub wide : length words ≡ 1
  pub few : (t.callers ≤ 8) × (t.jobs < 4294967296)
  pub parts : total (λ v. v.parts) views ≡ t.callers
  pub made : total (λ v. v.made) views ≤ t.callers
  -- all views together have the numbers below the word, each once
  pub once : (x : ℕ) → total (λ v. draws_of x v.drawn) views ≡ once_below x (slice_index words 0)
  -- no caller has two numbers at or above `jobs`
  pub late : (k : ℕ) → total (λ v. late_by t.jobs k v.drawn) views ≤ 1
  -- so the word stays small
  pub spare : total (λ v. v.spare) views ≤ 8
  pub bound : t.jobs < slice_index words 0 → slice_index words 0 + total (λ v. v.spare) views ≤ t.jobs + 8
  pub apart : Apart views
  pub each : (i : ℕ) (v : View) → get_elem? views i ≡ some v → Fits t (slice_index words 0) (total (λ v. v.made) views) v

-- the view after its caller drew the number n
abbrev pub drew : View → ℕ → View
drew v n = record {
  parts = v.parts;
  caller = v.caller;
  made = v.made;
  drawn = v.drawn ++ draw v.caller n ∷ [];
  front = n + 1;
  over = cond (nat_lt n v.jobs) v.over (Some n);
  spare = cond (nat_lt n v.jobs) v.spare (v.spare - 1);
  jobs = v.jobs;
  callers = v.callers;
}

-- a number above all that the caller drew before, and small enough to count on
abbrev pub Draws : Step (Unit {0}) → Me (Unit {0}) View → ℕ → Me (Unit {0}) View → Type 0
Draws s m n w = (m.0.front ≤ n) × (w.0 ≡ drew m.0 n) × (w.1 ≡ m.1)

-- one caller more is made
abbrev pub rest_of : View → View
rest_of v = record {
  parts = v.parts - 1;
  caller = v.caller;
  made = v.made + 1;
  drawn = v.drawn;
  front = v.front;
  over = v.over;
  spare = v.spare - 1;
  jobs = v.jobs;
  callers = v.callers;
}

abbrev pub new_caller : View → View
new_caller v = record { parts = 1; caller = v.made; made = 0; drawn = []; front = 0; over = None; spare = 1; jobs = v.jobs; callers = v.callers }

-- v takes in w
abbrev pub joined : View → View → View
joined v w = record {
  parts = v.parts + w.parts;
  caller = v.caller;
  made = v.made + w.made;
  drawn = v.drawn ++ w.drawn;
  front = v.front;
  over = v.over;
  spare = v.spare + w.spare;
  jobs = v.jobs;
  callers = v.callers;
}
