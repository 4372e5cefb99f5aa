-- How posts are gathered: all seats become one, its entries are the history, and each post goes to its number.
use Rattle.std.specs.Prelude.{◌≡◌, ℕ, ◌*◌, ◌≤◌, cond, List, [], ◌∷◌, ◌++◌, length, map, slice_get, slice_set, nat_eq, nat_lt, All, Contains, Option, None, Some}
use Rattle.board_core.specs.declared.entry.Entry.{Entry}
use Rattle.board_core.specs.declared.view.GoalMark.{GoalMark}
use Rattle.board_core.specs.declared.view.View.{View as Known}
use Rattle.board_core.specs.Good.{IsEntry}
use Rattle.inv_cert.specs.Evidences.{Evidence}
use Rattle.goal_board.specs.declared.pass.Posted.{Posted}
use Rattle.goal_board.specs.declared.view.Terms.{Terms}
use Rattle.goal_board.specs.Lists.{total}
use Rattle.goal_board.specs.Passes.{PassState}
use Rattle.goal_board.specs.History.{IsHistory, IsLed, IsPostedBy, HasEntry, AreMarks}
use Rattle.goal_board.specs.Inside.{IsEvidenced}

abbrev pub entries_of : List Posted → List Entry
entries_of posts = map (λ (p : Posted). p.entry) posts

-- how often an entry has the number
abbrev pub times : ℕ → List Entry → ℕ
times n entries = total (λ (e : Entry). cond (nat_eq e.number n) 1 0) entries

-- the numbers below so many, each once
abbrev pub AreNumbered : List Entry → ℕ → Type 0
AreNumbered entries count = (n : ℕ) → times n entries ≡ cond (nat_lt n count) 1 0

-- what a caller that is alone knows when its board ends
pub record IsEnd (t : Terms) (known : Known) (marks : List (Option ℕ)) : Type 0 where
  pub history : List Entry
  pub is_history : IsHistory t history
  pub led : IsLed t.goals history
  pub numbered : AreNumbered known.entries (length history)
  pub places : (e : Entry) → Contains known.entries e → IsEntry history e.number e
  pub settled : All (HasEntry history) known.settled
  pub marks_are : AreMarks t.goals history marks

-- the number of the entry that a mark names
abbrev pub number_of : Option GoalMark → Option ℕ
number_of None = None
number_of (Some m) = Some m.number

-- the pass posted what is among these posts
abbrev pub IsAmong : List Posted → PassState → Type 0
IsAmong posts pass = (k : ℕ) (e : Entry) (v : Evidence) → slice_get pass.known.entries k ≡ Some e → slice_get pass.evidence k ≡ Some v → Contains posts (record { entry = e; evidence = v })

-- these are the posts of the passes, whose callers handed all that they know to one
pub record AreGathered (t : Terms) (goals : ℕ) (passes : List PassState) (known : Known) (posts : List Posted) : Type 0 where
  pub among : All (IsAmong posts) passes
  pub posted : All (λ (p : Posted). IsPostedBy passes p.entry) posts
  pub evidenced : All (IsEvidenced t) posts
  pub few : length posts ≤ length passes * goals
  pub handed : (e : Entry) → Contains (entries_of posts) e → Contains known.entries e
  pub times_are : (n : ℕ) → times n known.entries ≡ times n (entries_of posts)
  pub settled : All (λ (p : PassState). All (Contains known.settled) p.known.settled) passes

-- some of all passes are taken in, behind those that are left, and one of them is the caller's who has what they know
pub record AreTaken (t : Terms) (goals : ℕ) (all left : List PassState) (caller : ℕ) (known : Known) (posts : List Posted) : Type 0 where
  pub taken : List PassState
  pub split : all ≡ left ++ taken
  pub gathered : AreGathered t goals taken known posts
  pub its : PassState
  pub its_in : Contains taken its
  pub its_caller : its.caller ≡ caller

-- each post is put at its number
abbrev pub placed : List (Option Posted) → List Posted → List (Option Posted)
placed places [] = places
placed places (p ∷ posts) = placed (slice_set places p.entry.number (Some p)) posts

-- the same posts, each at its number
pub record IsInOrder (posts sorted : List Posted) : Type 0 where
  pub count : length sorted ≡ length posts
  pub placed_at : (p : Posted) → Contains posts p → slice_get sorted p.entry.number ≡ Some p
  pub numbered : (n : ℕ) (p : Posted) → slice_get sorted n ≡ Some p → Contains posts p × (p.entry.number ≡ n)
