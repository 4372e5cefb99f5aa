-- The posts of one caller are a legal history.
use Rattle.std.proofs.Common.{◌≡◌, ◌≢◌, ℕ, zero, suc, ◌+◌, ◌<◌, ◌^◌, List, [], ◌∷◌, ◌++◌, map, length, get_or, refl, sym, ap, subst, ◌∙◌, arith, All, Contains, Option, Some, inr}
use Rattle.std.specs.Prelude.{slice_get, AllPairs}
use Rattle.std.specs.List.{enumerate_from}
use Rattle.std.proofs.lemmas.List.{length-map, get_or-map}
use Rattle.std.proofs.lemmas.List.FromFn.{length-enumerate_from}
use Rattle.std.proofs.lemmas.Option.{slice_get-get_or, slice_get_within, get_or_from_slice_get}
use Rattle.aig_model.specs.declared.parts.Parts.{Parts}
use Rattle.sim_walk.specs.declared.options.Options.{Options}
use Rattle.board_core.specs.declared.entry.Entry.{Entry}
use Rattle.board_core.specs.History.{IsLegalEntry, IsLegalHistory, IsInOrder}
use Rattle.report_text.specs.declared.report.Inv.{Inv}
use Rattle.run_report.specs.declared.posts.Finding.{Finding}
use Rattle.run_report.specs.declared.posts.Post.{Post}
use Rattle.run_report.specs.Posts.{entries_of, IsPost, IsFinding, IsHistory, HasEntry, post_of, posts_of}
use Rattle.run_report.specs.Run.{goals_of}
use Rattle.run_report.proofs.History.{has_entry, entry_at}

-- the posts of findings that are numbered from n on
abbrev pub posts_from : ℕ → List Finding → List Post
posts_from n fs = map (λ p. post_of p.0 p.1) (enumerate_from n fs)

pub length-posts : (fs : List Finding) → length (posts_of fs) ≡ length fs
length-posts fs = length-map (enumerate_from 0 fs) (λ p. post_of p.0 p.1) ∙ length-enumerate_from 0 fs

pub posts-push : (n : ℕ) (fs : List Finding) (f : Finding) → posts_from n (fs ++ f ∷ []) ≡ posts_from n fs ++ post_of (n + length fs) f ∷ []
posts-push n [] f = ap (λ k. post_of k f ∷ []) (let e : n ≡ n + 0 = omega arith in e)
posts-push n (x ∷ fs) f =
    let number : n + 1 + length fs ≡ n + suc (length fs) = omega arith in
    ap (λ ps. post_of n x ∷ ps) (posts-push (n + 1) fs f ∙ ap (λ k. posts_from (n + 1) fs ++ post_of k f ∷ []) number)

-- ---- the post at a place
pub record IsPostAt (fs : List Finding) (n k : ℕ) (p : Post) : Type 0 where
  pub finding : Finding
  pub at_place : slice_get fs k ≡ Some finding
  pub is : p ≡ post_of (n + k) finding

post_from_at : (n : ℕ) (fs : List Finding) (k : ℕ) (p : Post) → slice_get (posts_from n fs) k ≡ Some p → IsPostAt fs n k p
post_from_at n [] k p h = absurd cc
post_from_at n (f ∷ fs) zero p h =
    let same : post_of n f ≡ p = cc in
    record { finding = f; at_place = refl; is = sym same ∙ ap (λ k. post_of k f) (let s : n ≡ n + 0 = omega arith in s) }
post_from_at n (f ∷ fs) (suc k) p h =
    let more = post_from_at (n + 1) fs k p h in
    record { finding = more.finding; at_place = more.at_place; is = more.is ∙ ap (λ i. post_of i more.finding) (let s : n + 1 + k ≡ n + suc k = omega arith in s) }

pub post_at : (fs : List Finding) (k : ℕ) (p : Post) → slice_get (posts_of fs) k ≡ Some p → IsPostAt fs 0 k p
post_at fs k p h = post_from_at 0 fs k p h

-- its entry
pub record IsEntryAt (fs : List Finding) (k : ℕ) (e : Entry) : Type 0 where
  pub finding : Finding
  pub at_place : slice_get fs k ≡ Some finding
  pub is : e ≡ (post_of (0 + k) finding).entry

pub entry_of_finding : (fs : List Finding) (k : ℕ) (e : Entry) → slice_get (entries_of (posts_of fs)) k ≡ Some e → IsEntryAt fs k e
entry_of_finding fs k e h =
    let entry = entry_at (posts_of fs) k e h in
    let post = post_at fs k entry.post entry.at_place in
    record { finding = post.finding; at_place = post.at_place; is = entry.is ∙ ap (λ (p : Post). p.entry) post.is }

entry_inside : (fs : List Finding) (k : ℕ) (d : Entry) → k < length (entries_of (posts_of fs)) → IsEntryAt fs k (get_or (entries_of (posts_of fs)) k d)
entry_inside fs k d l = entry_of_finding fs k (get_or (entries_of (posts_of fs)) k d) (slice_get-get_or (entries_of (posts_of fs)) k d l)

-- ---- the goals
goals-from : (n : ℕ) (fs : List Finding) → map (λ (e : Entry). e.goal) (entries_of (posts_from n fs)) ≡ goals_of fs
goals-from n [] = refl
goals-from n (f ∷ fs) = ap (λ gs. f.goal ∷ gs) (goals-from (n + 1) fs)

pub goals-of_posts : (fs : List Finding) → map (λ (e : Entry). e.goal) (entries_of (posts_of fs)) ≡ goals_of fs
goals-of_posts fs = goals-from 0 fs

pub has_entry_of : (fs : List Finding) (g : ℕ) → Contains (goals_of fs) g → HasEntry (entries_of (posts_of fs)) g
has_entry_of fs g h = has_entry (entries_of (posts_of fs)) g (subst (λ (gs : List ℕ). Contains gs g) (sym (goals-of_posts fs)) h)

length-entries : (fs : List Finding) → length (entries_of (posts_of fs)) ≡ length fs
length-entries fs = length-map (posts_of fs) (λ (p : Post). p.entry) ∙ length-posts fs

goal_read : (fs : List Finding) (k : ℕ) (d : Entry) → k < length (entries_of (posts_of fs)) → get_or (goals_of fs) k 0 ≡ (get_or (entries_of (posts_of fs)) k d).goal
goal_read fs k d l = ap (λ (gs : List ℕ). get_or gs k 0) (sym (goals-of_posts fs)) ∙ get_or-map (λ (e : Entry). e.goal) (entries_of (posts_of fs)) k d 0 l

-- ---- the history
finding_at : (c : Parts) (sig : List ℕ) (o : Options) (inv : Option Inv) (fs : List Finding) (k : ℕ) (f : Finding) → All (IsFinding c sig o inv) fs → slice_get fs k ≡ Some f
    → IsFinding c sig o inv f
finding_at c sig o inv fs k f all h = subst (IsFinding c sig o inv) (get_or_from_slice_get fs k f f h) (all k f (slice_get_within fs k f h))

pub posts_legal : (c : Parts) (sig : List ℕ) (o : Options) (inv : Option Inv) (fs : List Finding) → All (IsFinding c sig o inv) fs → AllPairs (λ m n. m ≢ n) (goals_of fs)
    → IsLegalHistory o (2 ^ length sig) (entries_of (posts_of fs))
posts_legal c sig o inv fs all once = record {
  entries = λ k e h. (
      let entry = entry_of_finding fs k e h in
      let f = finding_at c sig o inv fs k entry.finding all entry.at_place in
      subst (λ (x : Entry). IsLegalEntry o (2 ^ length sig) k x) (sym entry.is) (record {
        number = omega arith;
        caller = omega arith;
        goal = f.below;
        low = omega arith;
        source = f.range;
        kind = refl;
      })
      );
  once = λ i j d l m. inr (λ e. once i j 0 l (omega (arith, m, length-entries fs, length-map fs (λ (f : Finding). f.goal)))
      (goal_read fs i d (omega arith) ∙ (e ∙ sym (goal_read fs j d m))));
  kinds = λ i j d l m e. absurd (once i j 0 l (omega (arith, m, length-entries fs, length-map fs (λ (f : Finding). f.goal)))
      (goal_read fs i d (omega arith) ∙ (e ∙ sym (goal_read fs j d m))));
}

pub posts_ordered : (fs : List Finding) → IsInOrder (entries_of (posts_of fs))
posts_ordered fs = λ i j d l m e.
    omega (arith, ap (λ (x : Entry). x.number) (entry_inside fs i d (omega arith)).is, ap (λ (x : Entry). x.low) (entry_inside fs j d m).is)

pub posts_history : (c : Parts) (sig : List ℕ) (o : Options) (inv : Option Inv) (fs : List Finding) → All (IsFinding c sig o inv) fs → AllPairs (λ m n. m ≢ n) (goals_of fs)
    → IsHistory c sig o inv (posts_of fs)
posts_history c sig o inv fs all once = record {
  legal = posts_legal c sig o inv fs all once;
  ordered = posts_ordered fs;
  each = λ k d l. (
      let post = post_at fs k (get_or (posts_of fs) k d) (slice_get-get_or (posts_of fs) k d l) in
      let f = finding_at c sig o inv fs k post.finding all post.at_place in
      subst (IsPost c sig o inv) (sym post.is) (record { found = f.found; kind = f.kind; basis = f.basis })
      );
}
