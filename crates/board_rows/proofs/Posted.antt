-- Passes whose callers posted.
use Rattle.std.proofs.Common.{◌≡◌, ℕ, ◌<◌, List, [], ◌∷◌, ◌++◌, length, get_or, Some, All, sym, refl, ap, ◌∙◌, subst, arith, below_more}
use Rattle.std.proofs.Math.Seq.{get_or-append_seam}
use Rattle.std.proofs.lemmas.List.{get_or_append_left, length_push}
use Rattle.std.proofs.lemmas.List.Elements.{All-pop}
use Rattle.goal_board.specs.Passes.{BoardState, PassState, PassesState, IsPassOf, AreAllOf}
use Rattle.board_rows.specs.Posters.{HasPosted}

-- place by place
pub record ArePosted (board : BoardState) (before after : List PassState) : Type 0 where
  pub len : length after ≡ length before
  pub each : (k : ℕ) (d : PassState) → k < length before → HasPosted board (get_or before k d) (get_or after k d)

-- after their posts they are the board's passes still
pub all_posted : (board : BoardState) (s t : PassesState) → ArePosted board s.passes t.passes → t.room ≡ s.room → t.goals ≡ s.goals → AreAllOf board s → AreAllOf board t
all_posted board s t posted room goals all = record {
  of_board = λ k d lt. let h : k < length s.passes = omega (arith, lt, posted.len) in (posted.each k d h).of_board;
  count = posted.len ∙ all.count;
  distinct = λ i j d lt lt' e.
      let h : j < length s.passes = omega (arith, lt', posted.len) in
      let g : i < length s.passes = omega (arith, lt, lt', posted.len) in
      all.distinct i j d lt h (sym (posted.each i d g).caller ∙ e ∙ (posted.each j d h).caller);
  room = room ∙ all.room;
  goals = goals ∙ all.goals;
}

unposted : (board : BoardState) (passes : List PassState) → All (IsPassOf board) passes → ArePosted board passes passes
unposted board passes of = record { len = refl; each = λ k d lt. record { of_board = of k d lt; caller = refl } }

posted_more : (board : BoardState) (before after : List PassState) (x y : PassState) → ArePosted board before after → HasPosted board x y
    → ArePosted board (before ++ x ∷ []) (after ++ y ∷ [])
posted_more board before after x y posted more =
    let At : ℕ → Type 0 = λ k. (d : PassState) → HasPosted board (get_or (before ++ x ∷ []) k d) (get_or (after ++ y ∷ []) k d) in
    let below : (k : ℕ) → k < length before → At k = λ k lt d.
    let lt' : k < length after = omega (arith, lt, posted.len) in
    subst (λ (p : PassState). HasPosted board p (get_or (after ++ y ∷ []) k d)) (sym (get_or_append_left before (x ∷ []) d k lt))
    (subst (λ (p : PassState). HasPosted board (get_or before k d) p) (sym (get_or_append_left after (y ∷ []) d k lt')) (posted.each k d lt)) in
    let last : At (length before) = λ d.
    let there : get_or (after ++ y ∷ []) (length before) d ≡ y = subst (λ (n : ℕ). get_or (after ++ y ∷ []) n d ≡ y) posted.len (get_or-append_seam after y [] d) in
    subst (λ (p : PassState). HasPosted board p (get_or (after ++ y ∷ []) (length before) d)) (sym (get_or-append_seam before x [] d))
    (subst (λ (p : PassState). HasPosted board x p) (sym there) more) in
    record {
      len = omega (arith, posted.len, length_push before x, length_push after y);
      each = λ k d lt. below_more At (length before) below last k (omega (arith, lt, length_push before x)) d;
    }

-- so are they where the last two posted
pub two_posted : (board : BoardState) (s t : PassesState) (middle rest : List PassState) (first second first' second' : PassState)
    → s.passes ≡ middle ++ second ∷ [] → middle ≡ rest ++ first ∷ [] → t.passes ≡ (rest ++ first' ∷ []) ++ second' ∷ [] → t.room ≡ s.room → t.goals ≡ s.goals
    → HasPosted board first first' → HasPosted board second second' → AreAllOf board s → AreAllOf board t
two_posted board s t middle rest first second first' second' old popped new room goals one other all =
    let of = All-pop (IsPassOf board) s.passes middle (Some second) old all.of_board in
    let of_rest = All-pop (IsPassOf board) middle rest (Some first) popped of.0 in
    let posted = posted_more board (rest ++ first ∷ []) (rest ++ first' ∷ []) second second' (posted_more board rest rest first first' (unposted board rest of_rest.0) one) other in
    let was : s.passes ≡ (rest ++ first ∷ []) ++ second ∷ [] = old ∙ ap (λ (l : List PassState). l ++ second ∷ []) popped in
    all_posted board s t (subst (λ (l : List PassState). ArePosted board l t.passes) (sym was) (subst (ArePosted board ((rest ++ first ∷ []) ++ second ∷ [])) (sym new) posted)) room goals all
