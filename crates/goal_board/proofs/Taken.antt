-- Passes that are taken in one by one, and the history that their posts make.
use Rattle.std.proofs.Common.{◌≡◌, ◌≢◌, ℕ, zero, suc, ◌+◌, ◌*◌, ◌<◌, ◌≤◌, List, [], ◌∷◌, ◌++◌, length, map, get_or, Option, None, Some, All, sym, refl, ap, ◌∙◌, subst, inl, inr, ⊎_elim, ◌⊎◌, arith, suc-mul, append_assoc, cond, eqb}
use Rattle.std.specs.Prelude.{slice_get, Contains, AllPairs, Bool}
use Rattle.std.specs.Option.{option_map}
use Rattle.std.specs.declared.vec.Vec.{Vec}
use Rattle.std.specs.Global.{Global}
use Rattle.std.proofs.lemmas.List.{length-append, length-map, get_or-append-add}
use Rattle.std.proofs.Math.Seq.{get_or-append_seam}
use Rattle.std.proofs.lemmas.List.Elements.{All-cons, All-append, All-nil, All-map, All-contains, Contains-get_or, Contains-append_left, Contains-append_right, Contains-append_cases}
use Rattle.std.proofs.lemmas.Option.{same_Some, slice_get-map, slice_get-get_or, none-some}
use Rattle.atomic_table.specs.Seated.{TableId}
use Rattle.board_core.specs.declared.entry.Entry.{Entry}
use Rattle.board_core.specs.declared.view.View.{View as Known}
use Rattle.board_core.specs.Core.{with_all}
use Rattle.inv_cert.specs.Evidences.{Evidence}
use Rattle.goal_board.specs.declared.pass.Posted.{Posted}
use Rattle.goal_board.specs.declared.view.Terms.{Terms}
use Rattle.goal_board.specs.declared.view.View.{View}
use Rattle.goal_board.specs.Rule.{Sat, joined}
use Rattle.goal_board.specs.Passes.{BoardState, PassState, IsPassOf}
use Rattle.goal_board.specs.History.{IsHistory, IsLed, AreAtNumbers, IsPostedBy, IsEvidenceOf, AreEvidenced, HasEntry, AreMarks}
use Rattle.goal_board.specs.Inside.{IsPass, IsEvidenced, pass_state}
use Rattle.goal_board.specs.Ends.{IsEnd, IsAmong, AreGathered, AreTaken, AreNumbered, IsInOrder, entries_of, times}
use Rattle.goal_board.proofs.Sums.{total-append}
use Rattle.goal_board.proofs.Posts.{trues_le}
use Rattle.goal_board.proofs.Numbers.{entry_among, length_numbered}

-- ---- one pass
pub record OnePass (t : Terms) (goals : ℕ) (x : PassState) (posts : List Posted) (caller : ℕ) (known : Known) : Type 0 where
  pub caller_is : x.caller ≡ caller
  pub known_is : x.known ≡ known
  pub entries : x.known.entries ≡ entries_of posts
  pub evidence_is : x.evidence ≡ map (λ (p : Posted). p.evidence) posts
  pub few : length posts ≤ goals
  pub evidenced : All (IsEvidenced t) posts

pub one_pass : (board : BoardState) (x : PassState) (posts : Vec Posted Global) (posted : List Bool) (by front : ℕ) (table : TableId) (me : Sat)
    → pass_state posted posts.items table me.0 ≡ x → IsPassOf board x → IsPass posts posted by front me → OnePass board.terms board.terms.goals x posts.items me.0.caller me.0.known
one_pass board x posts posted by front table me is of i =
    let known : x.known ≡ me.0.known = sym (ap (λ (s : PassState). s.known) is) in
    record {
      caller_is = sym (ap (λ (s : PassState). s.caller) is);
      known_is = known;
      entries = ap (λ (k : Known). k.entries) known ∙ i.entries;
      evidence_is = sym (ap (λ (s : PassState). s.evidence) is);
      few = omega (arith, trues_le posted, i.counted, ap (λ (s : PassState). s.goals) is, of.goals);
      evidenced = i.evidenced board.terms (ap (λ (s : PassState). s.terms) is ∙ of.terms);
    }

pair_at : (ps : List Posted) (k : ℕ) (e : Entry) (v : Evidence) → slice_get (entries_of ps) k ≡ Some e → slice_get (map (λ (p : Posted). p.evidence) ps) k ≡ Some v
    → Contains ps (record { entry = e; evidence = v })
pair_at [] k e v a b = absurd (none-some e a)
pair_at (p ∷ ps) zero e v a b = (0, omega arith, λ i. record { entry = same_Some p.entry e a i; evidence = same_Some p.evidence v b i })
pair_at (p ∷ ps) (suc k) e v a b = let r = pair_at ps k e v a b in (suc r.0, omega (arith, r.1), r.2)

own_among : (t : Terms) (goals : ℕ) (x : PassState) (ps : List Posted) (caller : ℕ) (known : Known) → OnePass t goals x ps caller known → IsAmong ps x
own_among t goals x ps caller known o k e v a b = pair_at ps k e v (sym (ap (λ l. slice_get l k) o.entries) ∙ a) (sym (ap (λ l. slice_get l k) o.evidence_is) ∙ b)

post_of : (t : Terms) (goals : ℕ) (x : PassState) (ps : List Posted) (caller : ℕ) (known : Known) (p : Posted) → OnePass t goals x ps caller known → Contains ps p → Contains x.known.entries p.entry
post_of t goals x ps caller known p o has = subst (λ l. Contains l p.entry) (sym o.entries) (entry_among ps p has)

-- ---- what two know, as one
pub record HasBoth (a b w : Known) : Type 0 where
  pub left : (e : Entry) → Contains a.entries e → Contains w.entries e
  pub right : (e : Entry) → Contains b.entries e → Contains w.entries e
  pub times_are : (n : ℕ) → times n w.entries ≡ times n a.entries + times n b.entries
  pub settled_left : (g : ℕ) → Contains a.settled g → Contains w.settled g
  pub settled_right : (g : ℕ) → Contains b.settled g → Contains w.settled g

pub first_takes : (a b : Known) → HasBoth a b (with_all a b)
first_takes a b = record {
  left = λ e h. Contains-append_left a.entries b.entries e h;
  right = λ e h. Contains-append_right a.entries b.entries e h;
  times_are = λ n. total-append (λ (e : Entry). cond (eqb e.number n) 1 0) a.entries b.entries;
  settled_left = λ g h. Contains-append_left a.settled b.settled g h;
  settled_right = λ g h. Contains-append_right a.settled b.settled g h;
}

pub second_takes : (a b : Known) → HasBoth a b (with_all b a)
second_takes a b = record {
  left = λ e h. Contains-append_right b.entries a.entries e h;
  right = λ e h. Contains-append_left b.entries a.entries e h;
  times_are = λ n. omega (arith, total-append (λ (e : Entry). cond (eqb e.number n) 1 0) b.entries a.entries);
  settled_left = λ g h. Contains-append_right b.settled a.settled g h;
  settled_right = λ g h. Contains-append_left b.settled a.settled g h;
}

-- ---- passes one by one
entries-append : (ps qs : List Posted) → entries_of (ps ++ qs) ≡ entries_of ps ++ entries_of qs
entries-append [] qs = refl
entries-append (p ∷ ps) qs = ap (λ l. p.entry ∷ l) (entries-append ps qs)

contains_later : {A : Type 0} (x : A) (xs : List A) (a : A) → Contains xs a → Contains (x ∷ xs) a
contains_later x xs a h = (suc h.0, omega (arith, h.1), h.2)

posted_later : (x : PassState) (taken : List PassState) (e : Entry) → IsPostedBy taken e → IsPostedBy (x ∷ taken) e
posted_later x taken e b = record { pass = b.pass; one = contains_later x taken b.pass b.one; its = b.its }

own_posted : (t : Terms) (goals : ℕ) (x : PassState) (taken : List PassState) (ps : List Posted) (caller : ℕ) (known : Known) → OnePass t goals x ps caller known → All (λ (p : Posted). IsPostedBy (x ∷ taken) p.entry) ps
own_posted t goals x taken ps caller known o = λ k d lt. record { pass = x; one = (0, omega arith, refl); its = post_of t goals x ps caller known (get_or ps k d) o (Contains-get_or ps k d lt) }

pub gathered_one : (t : Terms) (goals : ℕ) (x : PassState) (ps : List Posted) (caller : ℕ) (known : Known) → OnePass t goals x ps caller known → AreGathered t goals (x ∷ []) known ps
gathered_one t goals x ps caller known o =
    let entries : known.entries ≡ entries_of ps = ap (λ (k : Known). k.entries) (sym o.known_is) ∙ o.entries in
    record {
      among = All-cons (IsAmong ps) x [] (own_among t goals x ps caller known o) (All-nil (IsAmong ps));
      posted = own_posted t goals x [] ps caller known o;
      evidenced = o.evidenced;
      few = let one : length (x ∷ []) * goals ≡ 0 * goals + goals = suc-mul 0 goals in omega (arith, o.few, one);
      handed = λ e h. subst (λ l. Contains l e) (sym entries) h;
      times_are = λ n. ap (times n) entries;
      settled = All-cons (λ (p : PassState). All (Contains known.settled) p.known.settled) x []
          (subst (λ (k : Known). All (Contains known.settled) k.settled) (sym o.known_is) (λ k d lt. Contains-get_or known.settled k d lt))
          (All-nil (λ (p : PassState). All (Contains known.settled) p.known.settled));
    }

pub gathered_more : (t : Terms) (goals : ℕ) (taken : List PassState) (old : Known) (all : List Posted) (x : PassState) (ps : List Posted) (caller : ℕ) (known w : Known)
    → AreGathered t goals taken old all → OnePass t goals x ps caller known → HasBoth old known w → AreGathered t goals (x ∷ taken) w (all ++ ps)
gathered_more t goals taken old all x ps caller known w g o both =
    let entries : known.entries ≡ entries_of ps = ap (λ (k : Known). k.entries) (sym o.known_is) ∙ o.entries in
    let split : entries_of (all ++ ps) ≡ entries_of all ++ entries_of ps = entries-append all ps in
    record {
      among = All-cons (IsAmong (all ++ ps)) x taken
          (λ k e v a b. Contains-append_right all ps (record { entry = e; evidence = v }) (own_among t goals x ps caller known o k e v a b))
          (λ i d lt k e v a b. Contains-append_left all ps (record { entry = e; evidence = v }) (g.among i d lt k e v a b));
      posted = All-append (λ (p : Posted). IsPostedBy (x ∷ taken) p.entry) all ps
          (λ k d lt. posted_later x taken ((get_or all k d).entry) (g.posted k d lt))
          (own_posted t goals x taken ps caller known o);
      evidenced = All-append (IsEvidenced t) all ps g.evidenced o.evidenced;
      few = let more : length (x ∷ taken) * goals ≡ length taken * goals + goals = suc-mul (length taken) goals in omega (arith, g.few, o.few, length-append all ps, more);
      handed = λ e h. ⊎_elim
          (λ (a : Contains (entries_of all) e). both.left e (g.handed e a))
          (λ (b : Contains (entries_of ps) e). both.right e (subst (λ l. Contains l e) (sym entries) b))
          (Contains-append_cases (entries_of all) (entries_of ps) e (subst (λ l. Contains l e) split h));
      times_are = λ n. omega (
        arith,
        both.times_are n,
        g.times_are n,
        ap (times n) entries,
        ap (times n) split,
        total-append (λ (e : Entry). cond (eqb e.number n) 1 0) (entries_of all) (entries_of ps),
      );
      settled = All-cons (λ (p : PassState). All (Contains w.settled) p.known.settled) x taken
          (subst (λ (k : Known). All (Contains w.settled) k.settled) (sym o.known_is) (λ k d lt. both.settled_right (get_or known.settled k d) (Contains-get_or known.settled k d lt)))
          (λ i d lt k e lt'. both.settled_left (get_or (get_or taken i d).known.settled k e) (g.settled i d lt k e lt'));
    }

-- ---- callers
-- what holds of all holds of one in the middle
pub all_middle : {A : Type 0} (P : A → Type 0) (all before after : List A) (x : A) → all ≡ before ++ x ∷ after → All P all → P x
all_middle P all before after x e h =
    subst P (get_or-append_seam before x after x)
    (subst (All P) e h (length before) x (omega (arith, length-append before (x ∷ after))))

-- of passes with different callers the one before others has another caller than each of these
pub other_caller : (before taken : List PassState) (x y : PassState) → AllPairs (λ (a b : PassState). a.caller ≢ b.caller) (before ++ x ∷ taken) → Contains taken y → x.caller ≢ y.caller
other_caller before taken x y distinct has =
    let far : ℕ = length before + suc has.0 in
    let here : get_or (before ++ x ∷ taken) (length before) y ≡ x = get_or-append_seam before x taken y in
    let there : get_or (before ++ x ∷ taken) far y ≡ y = get_or-append-add before (x ∷ taken) (suc has.0) y ∙ has.2 in
    λ same. distinct (length before) far y (omega arith) (omega (arith, has.1, length-append before (x ∷ taken)))
    (ap (λ (p : PassState). p.caller) here ∙ same ∙ ap (λ (p : PassState). p.caller) (sym there))

pub taken_first : (t : Terms) (goals : ℕ) (all left : List PassState) (x : PassState) (ps : List Posted) (caller : ℕ) (known : Known)
    → all ≡ left ++ x ∷ [] → OnePass t goals x ps caller known → AreTaken t goals all left caller known ps
taken_first t goals all left x ps caller known split o = record {
  taken = x ∷ [];
  split = split;
  gathered = gathered_one t goals x ps caller known o;
  its = x;
  its_in = (0, omega arith, refl);
  its_caller = o.caller_is;
}

its_after : (x : PassState) (taken : List PassState) (its : PassState) (now old other : ℕ) → (now ≡ old) ⊎ (now ≡ other) → Contains taken its → its.caller ≡ old → x.caller ≡ other
    → (y : PassState) × Contains (x ∷ taken) y × (y.caller ≡ now)
its_after x taken its now old other (inl e) has is own = (its, contains_later x taken its has, is ∙ sym e)
its_after x taken its now old other (inr e) has is own = (x, (0, omega arith, refl), own ∙ sym e)

pub taken_more : (t : Terms) (goals : ℕ) (all before left : List PassState) (old : ℕ) (known : Known) (posts : List Posted) (x : PassState) (ps : List Posted) (other : ℕ) (more : Known) (now : ℕ) (w : Known)
    → AreTaken t goals all before old known posts → before ≡ left ++ x ∷ [] → OnePass t goals x ps other more → HasBoth known more w → (now ≡ old) ⊎ (now ≡ other) → AreTaken t goals all left now w (posts ++ ps)
taken_more t goals all before left old known posts x ps other more now w a popped o both caller =
    let y = its_after x a.taken a.its now old other caller a.its_in a.its_caller o.caller_is in
    record {
      taken = x ∷ a.taken;
      split = a.split ∙ ap (λ (l : List PassState). l ++ a.taken) popped ∙ append_assoc left (x ∷ []) a.taken;
      gathered = gathered_more t goals a.taken known posts x ps other more w a.gathered o both;
      its = y.0;
      its_in = y.1;
      its_caller = y.2;
    }

-- so its caller is another than the next pass's
pub next_differs : (t : Terms) (goals : ℕ) (all before left : List PassState) (old : ℕ) (known : Known) (posts : List Posted) (x : PassState) (other : ℕ)
    → AreTaken t goals all before old known posts → before ≡ left ++ x ∷ [] → AllPairs (λ (a b : PassState). a.caller ≢ b.caller) all → x.caller ≡ other → old ≢ other
next_differs t goals all before left old known posts x other a popped distinct own =
    let split : all ≡ left ++ x ∷ a.taken = a.split ∙ ap (λ (l : List PassState). l ++ a.taken) popped ∙ append_assoc left (x ∷ []) a.taken in
    let apart = other_caller left a.taken x a.its (subst (AllPairs (λ (a b : PassState). a.caller ≢ b.caller)) split distinct) a.its_in in
    λ same. apart (own ∙ sym same ∙ sym a.its_caller)

pub next_is_of : (board : BoardState) (t : Terms) (goals : ℕ) (all before left : List PassState) (old : ℕ) (known : Known) (posts : List Posted) (x : PassState)
    → AreTaken t goals all before old known posts → before ≡ left ++ x ∷ [] → All (IsPassOf board) all → IsPassOf board x
next_is_of board t goals all before left old known posts x a popped of =
    all_middle (IsPassOf board) all left a.taken x (a.split ∙ ap (λ (l : List PassState). l ++ a.taken) popped ∙ append_assoc left (x ∷ []) a.taken) of

pub all_taken : (t : Terms) (goals : ℕ) (all left : List PassState) (caller : ℕ) (known : Known) (posts : List Posted)
    → AreTaken t goals all left caller known posts → length left ≡ 0 → AreGathered t goals all known posts
all_taken t goals all [] caller known posts a none = subst (λ (l : List PassState). AreGathered t goals l known posts) (sym a.split) a.gathered
all_taken t goals all (x ∷ left) caller known posts a none = absurd (omega (arith, none))

-- ---- two seats as one
pub record AreOne (a b : View) (m : Sat) : Type 0 where
  pub slots : m.1 ≡ []
  pub parts : m.0.parts ≡ a.parts + b.parts
  pub idle : m.0.known.unmarked ≡ None
  pub both : HasBoth a.known b.known m.0.known
  pub caller : (m.0.caller ≡ a.caller) ⊎ (m.0.caller ≡ b.caller)

pub as_one : (a b : View) (m : Sat) → a.known.unmarked ≡ None → b.known.unmarked ≡ None → (m ≡ (joined a b, [])) ⊎ (m ≡ (joined b a, [])) → AreOne a b m
as_one a b m ia ib (inl e) = record {
  slots = ap (λ (x : Sat). x.1) e;
  parts = ap (λ (x : Sat). x.0.parts) e;
  idle = ap (λ (x : Sat). x.0.known.unmarked) e ∙ ia;
  both = subst (HasBoth a.known b.known) (sym (ap (λ (x : Sat). x.0.known) e)) (first_takes a.known b.known);
  caller = inl (ap (λ (x : Sat). x.0.caller) e);
}
as_one a b m ia ib (inr e) = record {
  slots = ap (λ (x : Sat). x.1) e;
  parts = let p : m.0.parts ≡ b.parts + a.parts = ap (λ (x : Sat). x.0.parts) e in omega arith;
  idle = ap (λ (x : Sat). x.0.known.unmarked) e ∙ ib;
  both = subst (HasBoth a.known b.known) (sym (ap (λ (x : Sat). x.0.known) e)) (second_takes a.known b.known);
  caller = inr (ap (λ (x : Sat). x.0.caller) e);
}

-- ---- the history
module _ (t : Terms) (goals : ℕ) (passes : List PassState) (known : Known) (posts : List Posted) (marks : List (Option ℕ))
    (g : AreGathered t goals passes known posts) (e : IsEnd t known marks) where
  numbered_as_history : AreNumbered (entries_of posts) (length e.history)
  numbered_as_history n = sym (g.times_are n) ∙ e.numbered n

  as_many : length posts ≡ length e.history
  as_many = sym (length-map posts (λ (p : Posted). p.entry)) ∙ length_numbered (entries_of posts) (length e.history) numbered_as_history

  pub numbered_posts : AreNumbered (entries_of posts) (length posts)
  numbered_posts = subst (AreNumbered (entries_of posts)) (sym as_many) numbered_as_history

same_lists : {A : Type 0} (xs ys : List A) → length xs ≡ length ys → ((k : ℕ) (x : A) → slice_get xs k ≡ Some x → slice_get ys k ≡ Some x) → xs ≡ ys
same_lists [] [] len h = refl
same_lists [] (y ∷ ys) len h = absurd (omega arith)
same_lists (x ∷ xs) [] len h = absurd (omega arith)
same_lists (x ∷ xs) (y ∷ ys) len h =
    let one : x ≡ y = sym (same_Some y x (h 0 x refl)) in
    let rest : xs ≡ ys = same_lists xs ys (omega arith) (λ k a at. h (suc k) a at) in
    λ i. one i ∷ rest i

mapped_at : {A B : Type 0} (f : A → B) (xs : List A) (k : ℕ) (b : B) → slice_get (map f xs) k ≡ Some b → (a : A) × (slice_get xs k ≡ Some a) × (f a ≡ b)
mapped_at f [] k b e = absurd (none-some b e)
mapped_at f (x ∷ xs) zero b e = (x, refl, same_Some (f x) b e)
mapped_at f (x ∷ xs) (suc k) b e = mapped_at f xs k b e

-- what these passes posted: a history with its evidence, and the marks of the goals
pub record IsWhole (t : Terms) (passes : List PassState) (history : List Entry) (evidence : List Evidence) (marks : List (Option ℕ)) : Type 0 where
  pub is_history : IsHistory t history
  pub led : IsLed t.goals history
  pub at_numbers : All (AreAtNumbers history evidence) passes
  pub posted : All (IsPostedBy passes) history
  pub evidenced : AreEvidenced t history evidence
  pub settled : All (λ (p : PassState). All (HasEntry history) p.known.settled) passes
  pub marks_are : AreMarks t.goals history marks

module _ (t : Terms) (goals : ℕ) (passes : List PassState) (known : Known) (posts : List Posted) (marks : List (Option ℕ))
    (g : AreGathered t goals passes known posts) (e : IsEnd t known marks) (sorted : List Posted) (o : IsInOrder posts sorted) where
  -- the sorted posts' entries are the history
  history_is : entries_of sorted ≡ e.history
  history_is =
      same_lists (entries_of sorted) e.history (length-map sorted (λ (p : Posted). p.entry) ∙ o.count ∙ as_many t goals passes known posts marks g e)
      (λ k x at.
      let m = mapped_at (λ (p : Posted). p.entry) sorted k x at in
      let q = o.numbered k m.0 m.1 in
      let placed : slice_get e.history m.0.entry.number ≡ Some m.0.entry = e.places m.0.entry (g.handed m.0.entry (entry_among posts m.0 q.0)) in
      ap (λ (n : ℕ). slice_get e.history n) (sym q.1) ∙ placed ∙ ap (λ (y : Entry). Some y) m.2)

  at_numbers : All (AreAtNumbers (entries_of sorted) (map (λ (p : Posted). p.evidence) sorted)) passes
  at_numbers i d lt k x v a b =
      let p : Posted = record { entry = x; evidence = v } in
      let at : slice_get sorted x.number ≡ Some p = o.placed_at p (g.among i d lt k x v a b) in
      record {
        entry = slice_get-map (λ (q : Posted). q.entry) sorted x.number ∙ ap (option_map (λ (q : Posted). q.entry)) at;
        evidence_is = slice_get-map (λ (q : Posted). q.evidence) sorted x.number ∙ ap (option_map (λ (q : Posted). q.evidence)) at;
      }

  among_posts : (k : ℕ) (d : Posted) → k < length sorted → Contains posts (get_or sorted k d)
  among_posts k d lt = (o.numbered k (get_or sorted k d) (slice_get-get_or sorted k d lt)).0

  all_posted : All (IsPostedBy passes) (entries_of sorted)
  all_posted = All-map (IsPostedBy passes) (λ (p : Posted). p.entry) sorted (λ k d lt. All-contains (λ (p : Posted). IsPostedBy passes p.entry) posts (get_or sorted k d) g.posted (among_posts k d lt))

  all_evidenced : AreEvidenced t (entries_of sorted) (map (λ (p : Posted). p.evidence) sorted)
  all_evidenced = record {
    count = length-map sorted (λ (p : Posted). p.evidence) ∙ sym (length-map sorted (λ (p : Posted). p.entry));
    each = λ k x v a b.
        let m = mapped_at (λ (p : Posted). p.entry) sorted k x a in
        let n = mapped_at (λ (p : Posted). p.evidence) sorted k v b in
        let same : n.0 ≡ m.0 = same_Some n.0 m.0 (sym n.1 ∙ m.1) in
        let here : m.0.evidence ≡ v = ap (λ (p : Posted). p.evidence) (sym same) ∙ n.2 in
        let i : IsEvidenced t m.0 = All-contains (IsEvidenced t) posts m.0 g.evidenced ((o.numbered k m.0 m.1).0) in
        subst (λ (y : Evidence). IsEvidenceOf t x y) here
        (subst (λ (y : Entry). IsEvidenceOf t y m.0.evidence) m.2 record { checked = i.checked; signals_are = i.signals_are; goal = i.goal; kind = i.kind; shown = i.shown });
  }

  all_settled : All (λ (p : PassState). All (HasEntry (entries_of sorted)) p.known.settled) passes
  all_settled i d lt k x lt' = subst (λ (h : List Entry). HasEntry h (get_or (get_or passes i d).known.settled k x)) (sym history_is)
      (All-contains (HasEntry e.history) known.settled (get_or (get_or passes i d).known.settled k x) e.settled (g.settled i d lt k x lt'))

  all_marks : AreMarks t.goals (entries_of sorted) marks
  all_marks = subst (λ (h : List Entry). AreMarks t.goals h marks) (sym history_is) e.marks_are

  is_history : IsHistory t (entries_of sorted)
  is_history = subst (IsHistory t) (sym history_is) e.is_history

  is_led : IsLed t.goals (entries_of sorted)
  is_led = subst (IsLed t.goals) (sym history_is) e.led

  -- all that the passes posted, in order
  pub whole : IsWhole t passes (entries_of sorted) (map (λ (p : Posted). p.evidence) sorted) marks
  whole = record {
    is_history = is_history;
    led = is_led;
    at_numbers = at_numbers;
    posted = all_posted;
    evidenced = all_evidenced;
    settled = all_settled;
    marks_are = all_marks;
  }
