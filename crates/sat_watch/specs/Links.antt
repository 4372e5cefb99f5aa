-- Watches in linked lists, one list for each literal.
use Rattle.std.specs.Prelude.{◌≡◌, ℕ, zero, suc, ◌<◌, nat_eq, ℤ, Option, None, Some, option_and_then, List, [], ◌∷◌, ◌++◌, length, map, slice_get, slice_set, slice_index_or, All, Contains}
use Rattle.std.specs.List.{IsDistinct}
use Rattle.sat_watch.specs.declared.links.Watch.{Watch}
use Rattle.cnf_base.specs.Literal.{lit_index}

abbrev pub watch_lits : List Watch → List ℤ
watch_lits watches = map (λ w. w.lit) watches

-- the watch that follows in the list
abbrev pub next_of : List Watch → ℕ → Option ℕ
next_of watches w = option_and_then (λ (x : Watch). x.next) (slice_get watches w)

-- the watches that are met from a link on, so many at most
abbrev pub chain : ℕ → List Watch → Option ℕ → List ℕ
chain zero watches link = []
chain (suc n) watches None = []
chain (suc n) watches (Some w) = w ∷ chain n watches (next_of watches w)

-- where a literal's list begins
abbrev pub head_of : List (Option ℕ) → ℤ → Option ℕ
head_of heads l = slice_index_or heads (lit_index l) None

-- the watches of a literal
abbrev pub watchers : List (Option ℕ) → List Watch → ℤ → List ℕ
watchers heads watches l = chain (length watches) watches (head_of heads l)

-- a link leads through these watches to another link
abbrev pub Leads : List Watch → Option ℕ → List ℕ → Option ℕ → Type 0
Leads watches link [] to = link ≡ to
Leads watches link (w ∷ ws) to = (link ≡ Some w) × Leads watches (next_of watches w) ws to

-- each watch stands once, in the list of its literal
pub record AreLinked (heads : List (Option ℕ)) (watches : List Watch) : Type 0 where
  pub in_range : All (λ (w : Watch). lit_index w.lit < length heads) watches
  pub leads : (l : ℤ) → Leads watches (head_of heads l) (watchers heads watches l) None
  pub has_all : (w : ℕ) (l : ℤ) → slice_get (watch_lits watches) w ≡ Some l → Contains (watchers heads watches l) w
  pub has_only : (w : ℕ) (l : ℤ) → Contains (watchers heads watches l) w → slice_get (watch_lits watches) w ≡ Some l
  pub once : (l : ℤ) → IsDistinct nat_eq (watchers heads watches l)

-- the last of a list
abbrev pub last_of : List ℕ → Option ℕ
last_of [] = None
last_of (w ∷ []) = Some w
last_of (w ∷ v ∷ vs) = last_of (v ∷ vs)

-- a watch stands in its literal's list right behind this one, or first
pub record StandsBehind (heads : List (Option ℕ)) (watches : List Watch) (previous : Option ℕ) (w : ℕ) : Type 0 where
  pub watch : Watch
  pub here : slice_get watches w ≡ Some watch
  pub before : List ℕ
  pub after : List ℕ
  pub in_list : watchers heads watches watch.lit ≡ before ++ w ∷ after
  pub behind : last_of before ≡ previous

-- the link that led to a watch leads past it: the link of the one before it, or its list's first
abbrev pub LeadsPast : List (Option ℕ) → List Watch → Watch → Option ℕ → List (Option ℕ) → List Watch → Type 0
LeadsPast heads watches x None heads' watches' = (heads' ≡ slice_set heads (lit_index x.lit) x.next) × (watches' ≡ watches)
LeadsPast heads watches x (Some p) heads' watches' = (heads' ≡ heads) × ((y : Watch) → slice_get watches p ≡ Some y → watches' ≡ slice_set watches p (record y { next = x.next }))
