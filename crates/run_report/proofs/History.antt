-- The first entry of a goal.
use Rattle.std.proofs.Common.{◌≡◌, ◌≢◌, ◌<◌, ℕ, zero, suc, true, false, List, [], ◌∷◌, map, length, get_or, refl, sym, ap, ◌∙◌, arith, Contains, Option, Some, None, inl, inr}
use Rattle.std.specs.Prelude.{slice_get, nat_eq, is_some, option_map}
use Rattle.std.proofs.lemmas.Bool.{cases_eq, false≢true}
use Rattle.std.proofs.lemmas.Bool.Decides.{nat_tests}
use Rattle.board_core.specs.declared.entry.Entry.{Entry}
use Rattle.board_core.specs.History.{first_entry}
use Rattle.run_report.specs.declared.posts.Post.{Post}
use Rattle.run_report.specs.Blocks.{first_post}
use Rattle.run_report.specs.Posts.{entries_of, HasEntry}

pub same_test : (m n : ℕ) → m ≡ n → nat_eq m n ≡ true
same_test m n e = grind (arith, nat_tests)

pub other_test : (m n : ℕ) → m ≢ n → nat_eq m n ≡ false
other_test m n e = grind (arith, nat_tests)

pub entry_here : (x : Entry) (es : List Entry) (g : ℕ) → x.goal ≡ g → first_entry (x ∷ es) g ≡ Some x
entry_here x es g e = rw (same_test x.goal g e) refl

pub entry_later : (x : Entry) (es : List Entry) (g : ℕ) → x.goal ≢ g → first_entry (x ∷ es) g ≡ first_entry es g
entry_later x es g e = rw (other_test x.goal g e) refl

pub post_here : (p : Post) (ps : List Post) (g : ℕ) → p.entry.goal ≡ g → first_post (p ∷ ps) g ≡ Some p
post_here p ps g e = rw (same_test p.entry.goal g e) refl

pub post_later : (p : Post) (ps : List Post) (g : ℕ) → p.entry.goal ≢ g → first_post (p ∷ ps) g ≡ first_post ps g
post_later p ps g e = rw (other_test p.entry.goal g e) refl

-- the entry of a goal's first post is its first entry
pub first_of_posts : (ps : List Post) (g : ℕ) → first_entry (entries_of ps) g ≡ option_map (λ (p : Post). p.entry) (first_post ps g)
first_of_posts [] g = refl
first_of_posts (p ∷ ps) g = elim (cases_eq p.entry.goal g) [
  | inl same ↦ entry_here p.entry (entries_of ps) g same ∙ sym (ap (option_map (λ (q : Post). q.entry)) (post_here p ps g same))
  | inr other ↦ entry_later p.entry (entries_of ps) g other ∙ (first_of_posts ps g ∙ sym (ap (option_map (λ (q : Post). q.entry)) (post_later p ps g other)))
]

-- a goal's first post is one of the posts, and of the goal
pub record IsPlaced (ps : List Post) (g : ℕ) (p : Post) : Type 0 where
  pub place : ℕ
  pub at_place : slice_get ps place ≡ Some p
  pub goal_of : p.entry.goal ≡ g

pub first_placed : (ps : List Post) (g : ℕ) (p : Post) → first_post ps g ≡ Some p → IsPlaced ps g p
first_placed [] g p e = absurd cc
first_placed (q ∷ ps) g p e = elim (cases_eq q.entry.goal g) [
  | inl same ↦ (
      let is : ◌≡◌ {A = Option Post} (Some q) (Some p) = sym (post_here q ps g same) ∙ e in
      let one : q ≡ p = cc in
      record { place = 0; at_place = is; goal_of = ap (λ (x : Post). x.entry.goal) (sym one) ∙ same }
      )
  | inr other ↦ (
      let rest = first_placed ps g p (sym (post_later q ps g other) ∙ e) in
      record { place = suc rest.place; at_place = rest.at_place; goal_of = rest.goal_of }
      )
]

-- a goal that some entry has
has_at : (es : List Entry) (g k : ℕ) → k < length (map (λ (e : Entry). e.goal) es) → get_or (map (λ (e : Entry). e.goal) es) k g ≡ g → HasEntry es g
has_at [] g k inside here = absurd (omega (arith, inside))
has_at (x ∷ es) g zero inside here = ap is_some (entry_here x es g here)
has_at (x ∷ es) g (suc k) inside here = elim (cases_eq x.goal g) [
  | inl same ↦ ap is_some (entry_here x es g same)
  | inr other ↦ ap is_some (entry_later x es g other) ∙ has_at es g k (omega (arith, inside)) here
]

pub has_entry : (es : List Entry) (g : ℕ) → Contains (map (λ (e : Entry). e.goal) es) g → HasEntry es g
has_entry es g h = has_at es g h.0 h.1 h.2

-- without a first entry there is none
pub no_entry : (es : List Entry) (g : ℕ) → first_entry es g ≡ None → ¬ HasEntry es g
no_entry es g none some = false≢true (sym (ap is_some none) ∙ some)

-- the entry at a place is that of the post there
pub record IsEntryOf (ps : List Post) (k : ℕ) (e : Entry) : Type 0 where
  pub post : Post
  pub at_place : slice_get ps k ≡ Some post
  pub is : e ≡ post.entry

pub entry_at : (ps : List Post) (k : ℕ) (e : Entry) → slice_get (entries_of ps) k ≡ Some e → IsEntryOf ps k e
entry_at [] k e h = absurd cc
entry_at (p ∷ ps) zero e h = let same : p.entry ≡ e = cc in record { post = p; at_place = refl; is = sym same }
entry_at (p ∷ ps) (suc k) e h = let rest = entry_at ps k e h in record { post = rest.post; at_place = rest.at_place; is = rest.is }
