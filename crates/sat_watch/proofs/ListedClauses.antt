-- Clauses in the lists of watches.
use Rattle.std.proofs.Common.{◌≡◌, ◌≢◌, ◌⊎◌, ℕ, ◌+◌, ◌*◌, ◌/◌, ◌<◌, eqb, ℤ, pos, Option, Some, List, [], ◌∷◌, ◌++◌, length, map, get_or, refl, ap, sym, ◌∙◌, subst, arith, inl, inr}
use Rattle.std.specs.List.{Contains, IsDistinct, slice_get}
use Rattle.std.specs.Option.{option_map}
use Rattle.std.proofs.lemmas.List.{length-map, get_or-map}
use Rattle.std.proofs.lemmas.List.Elements.{Contains-get_or, Contains-append_left, Contains-append_right}
use Rattle.std.proofs.lemmas.Option.{slice_get-get_or, slice_get_within, get_or_from_slice_get}
use Rattle.sat_trail.specs.declared.clause_id.ClauseId.{ClauseId}
use Rattle.sat_trail.specs.declared.clause_id.ClauseId.TheVariants as ids
use Rattle.sat_watch.specs.declared.links.Watch.{Watch}
use Rattle.sat_watch.specs.Book.{BookState}
use Rattle.sat_watch.specs.Kept.{IsPair, Each, AreSized, first_lit, second_lit}
use Rattle.sat_watch.specs.Links.{watch_lits, watchers, AreLinked}
use Rattle.sat_watch.specs.Lists.{WatchState, clause_of, watching, Watches, AreLists, AreListsOf, StandsWhereWatched, WatchedStands, StandsOnce}
use Rattle.sat_watch.specs.Watching.{sibling}
use Rattle.sat_watch.proofs.Distinctness.{apart, contains_here, contains_later, distinct_right}
use Rattle.sat_watch.proofs.Pairs.{by_parity, sibling-within, length-lits}

-- the watches of a list whose clauses are these
pub record IsSplit (xs : List ℕ) (before : List ClauseId) (id : ClauseId) (after : List ClauseId) : Type 0 where
  pub front : List ℕ
  pub watch : ℕ
  pub back : List ℕ
  pub parts : xs ≡ front ++ watch ∷ back
  pub here : clause_of watch ≡ id
  pub front_is : map clause_of front ≡ before
  pub back_is : map clause_of back ≡ after

pub split : (xs : List ℕ) (before : List ClauseId) (id : ClauseId) (after : List ClauseId) → map clause_of xs ≡ before ++ id ∷ after → IsSplit xs before id after
split [] [] id after h = cc
split [] (b ∷ bs) id after h = cc
split (x ∷ xs) [] id after h = record { front = []; watch = x; back = xs; parts = refl; here = cc; front_is = refl; back_is = cc }
split (x ∷ xs) (b ∷ bs) id after h =
    let first : clause_of x ≡ b = cc in
    let later : map clause_of xs ≡ bs ++ id ∷ after = cc in
    let rest = split xs bs id after later in
    record {
      front = x ∷ rest.front;
      watch = rest.watch;
      back = rest.back;
      parts = ap (λ r. x ∷ r) rest.parts;
      here = rest.here;
      front_is = ap (λ r. clause_of x ∷ r) rest.front_is ∙ ap (λ y. y ∷ bs) first;
      back_is = rest.back_is;
    }

pub mapped_from : (xs : List ℕ) (id : ClauseId) → Contains (map clause_of xs) id → (w : ℕ) × Contains xs w × (clause_of w ≡ id)
mapped_from xs id c =
    let lt : c.0 < length xs = (let below = c.1 in omega (arith, length-map xs clause_of)) in
    (get_or xs c.0 0, Contains-get_or xs c.0 0 lt, sym (get_or-map clause_of xs c.0 0 id lt) ∙ c.2)

pub mapped_to : (xs : List ℕ) (w : ℕ) → Contains xs w → Contains (map clause_of xs) (clause_of w)
mapped_to xs w c =
    (c.0, (let lt = c.1 in omega (arith, length-map xs clause_of)), get_or-map clause_of xs c.0 w (clause_of w) c.1 ∙ ap clause_of c.2)

same_half : (w v : ℕ) → clause_of w ≡ clause_of v → w / 2 ≡ v / 2
same_half w v e = cc

-- a clause has one watch of a literal
pub same_watch : (s : WatchState) → AreLists s → (l : ℤ) (w v : ℕ) → slice_get (watch_lits s.watches) w ≡ Some l → slice_get (watch_lits s.watches) v ≡ Some l → w / 2 ≡ v / 2 → w ≡ v
same_watch s h l w v at_w at_v half =
    let P : ℕ → Type 0 = λ n. slice_get (watch_lits s.watches) n ≡ Some l in
    elim (by_parity w) [
      | inl e ↦ elim (by_parity v) [
        | inl f ↦ omega (arith, e.0, f.0, half)
        | inr f ↦ absurd (h.differ (ids.Book (w / 2)) l l (subst P e.0 at_w, subst P (f.0 ∙ ap (λ n. 2 * n + 1) (sym half)) at_v) refl)
      ]
      | inr e ↦ elim (by_parity v) [
        | inl f ↦ absurd (h.differ (ids.Book (w / 2)) l l (subst P (f.0 ∙ ap (λ n. 2 * n) (sym half)) at_v, subst P e.0 at_w) refl)
        | inr f ↦ omega (arith, e.0, f.0, half)
      ]
    ]

pub stands_where_watched : (s : WatchState) → AreLists s → StandsWhereWatched s
stands_where_watched s h id l c =
    let found = mapped_from (watchers s.heads s.watches l) id c in
    let w = found.0 in
    let ls = watch_lits s.watches in
    let at_w = h.linked.has_only w l found.1 in
    let other = get_or ls (sibling w) (pos 0) in
    let P : ℕ → Type 0 = λ n. slice_get ls n ≡ Some l in
    let O : ℕ → Type 0 = λ n. slice_get ls n ≡ Some other in
    let W : ClauseId → Type 0 = λ i. Watches s i l other ⊎ Watches s i other l in
    let below : w < length ls = slice_get_within ls w l at_w in
    let n = h.paired.0 in
    let within : sibling w < 2 * n = sibling-within w n (omega (arith, below, length-lits s.watches, h.paired.1)) in
    let at_other : slice_get ls (sibling w) ≡ Some other = slice_get-get_or ls (sibling w) (pos 0) (omega (arith, within, length-lits s.watches, h.paired.1)) in (
      other,
      subst W found.2 (elim (by_parity w) [
        | inl e ↦ inl (subst P e.0 at_w, subst O e.1 at_other)
        | inr e ↦ inr (subst O e.1 at_other, subst P e.0 at_w)
      ]),
    )

pub watched_stands : (s : WatchState) → AreLists s → WatchedStands s
watched_stands s h (ids.Book place) a b watches =
    let first : (2 * place) / 2 ≡ place = omega arith in
    let second : (2 * place + 1) / 2 ≡ place = omega arith in
    let A : ℕ → Type 0 = λ n. Contains (watching s a) (ids.Book n) in
    let B : ℕ → Type 0 = λ n. Contains (watching s b) (ids.Book n) in (
      subst A first (mapped_to (watchers s.heads s.watches a) (2 * place) (h.linked.has_all (2 * place) a watches.0)),
      subst B second (mapped_to (watchers s.heads s.watches b) (2 * place + 1) (h.linked.has_all (2 * place + 1) b watches.1)),
    )
watched_stands s h (ids.Unit number) a b watches = absurd watches

pub stands_once : (s : WatchState) → AreLists s → StandsOnce s
stands_once s h l id before after parts = (λ c. absurd (early c), λ c. absurd (late c))
  where
    all : List ℕ
    all = watchers s.heads s.watches l

    cut : IsSplit all before id after
    cut = split all before id after parts

    whole : IsDistinct eqb (cut.front ++ cut.watch ∷ cut.back)
    whole = (let D : List ℕ → Type 0 = λ ws. IsDistinct eqb ws in subst D cut.parts (h.linked.once l))

    here : Contains all cut.watch
    here = (let C : List ℕ → Type 0 = λ ws. Contains ws cut.watch in subst C (sym cut.parts) (Contains-append_right cut.front (cut.watch ∷ cut.back) cut.watch (contains_here cut.watch cut.back)))

    -- another watch of the clause in the list is the same
    same : (v : ℕ) → Contains all v → clause_of v ≡ id → v ≡ cut.watch
    same v c is = same_watch s h l v cut.watch (h.linked.has_only v l c) (h.linked.has_only cut.watch l here) (same_half v cut.watch (is ∙ sym cut.here))

    early : Contains before id → ⊥
    early c =
        let B : List ClauseId → Type 0 = λ bs. Contains bs id in
        let found = mapped_from cut.front id (subst B (sym cut.front_is) c) in
        let C : List ℕ → Type 0 = λ ws. Contains ws found.0 in
        let inside = subst C (sym cut.parts) (Contains-append_left cut.front (cut.watch ∷ cut.back) found.0 found.1) in
        let F : ℕ → Type 0 = λ v. Contains cut.front v in
        apart cut.front (cut.watch ∷ cut.back) cut.watch whole (subst F (same found.0 inside found.2) found.1) (contains_here cut.watch cut.back)

    late : Contains after id → ⊥
    late c =
        let B : List ClauseId → Type 0 = λ bs. Contains bs id in
        let found = mapped_from cut.back id (subst B (sym cut.back_is) c) in
        let C : List ℕ → Type 0 = λ ws. Contains ws found.0 in
        let inside = subst C (sym cut.parts) (Contains-append_right cut.front (cut.watch ∷ cut.back) found.0 (contains_later found.0 cut.watch cut.back found.1)) in
        let F : ℕ → Type 0 = λ v. Contains cut.back v in
        apart (cut.watch ∷ []) cut.back cut.watch (distinct_right cut.front (cut.watch ∷ cut.back) whole) (contains_here cut.watch []) (subst F (same found.0 inside found.2) found.1)

-- ---- the walk from clause to clause

pub first_mapped : (xs : List ℕ) → option_map clause_of (slice_get xs 0) ≡ slice_get (map clause_of xs) 0
first_mapped [] = refl
first_mapped (x ∷ xs) = refl

same_place : (w place : ℕ) → clause_of w ≡ ids.Book place → w / 2 ≡ place
same_place w place e = cc

-- the clause's watch of a literal in whose list it stands
pub watch_there : (s : WatchState) → AreLists s → (l : ℤ) (place : ℕ) → Contains (watching s l) (ids.Book place) → (w : ℕ) × (w / 2 ≡ place) × (slice_get (watch_lits s.watches) w ≡ Some l)
watch_there s h l place c =
    let found = mapped_from (watchers s.heads s.watches l) (ids.Book place) c in
    (found.0, same_place found.0 place found.2, h.linked.has_only found.0 l found.1)

pub record IsPlaced (s : WatchState) (l : ℤ) (w : ℕ) (after : List ClauseId) : Type 0 where
  pub front : List ℕ
  pub back : List ℕ
  pub parts : watchers s.heads s.watches l ≡ front ++ w ∷ back
  pub back_is : map clause_of back ≡ after

pub placed : (s : WatchState) → AreLists s → (l : ℤ) (place w : ℕ) (before after : List ClauseId) → w / 2 ≡ place → slice_get (watch_lits s.watches) w ≡ Some l → watching s l ≡ before ++ ids.Book place ∷ after → IsPlaced s l w after
placed s h l place w before after half at_w parts =
    let ws = watchers s.heads s.watches l in
    let cut = split ws before (ids.Book place) after parts in
    let C : List ℕ → Type 0 = λ vs. Contains vs cut.watch in
    let here : Contains ws cut.watch = subst C (sym cut.parts) (Contains-append_right cut.front (cut.watch ∷ cut.back) cut.watch (contains_here cut.watch cut.back)) in
    let same : cut.watch ≡ w = same_watch s h l cut.watch w (h.linked.has_only cut.watch l here) at_w (same_place cut.watch place cut.here ∙ sym half) in
    record { front = cut.front; back = cut.back; parts = cut.parts ∙ ap (λ v. cut.front ++ v ∷ cut.back) same; back_is = cut.back_is }

-- ---- the lists of a book

two_differ : (b : BookState) (heads : List (Option ℕ)) (watches : List Watch) → AreSized b.vars b.clauses heads watches → Each IsPair b.clauses (watch_lits watches) → (id : ClauseId) (a c : ℤ) → Watches (record { vars = b.vars; heads = heads; watches = watches }) id a c → a ≢ c
two_differ b heads watches sizes pairs (ids.Book place) a c w e =
    let ls = watch_lits watches in
    let within = slice_get_within ls (2 * place) a w.0 in
    let lt : place < length b.clauses = omega (arith, within, length-lits watches, sizes.two_each) in
    let clause = get_or b.clauses place [] in
    let pair = pairs place clause (slice_get-get_or b.clauses place [] lt) in
    pair.differ (get_or_from_slice_get ls (2 * place) a (pos 0) w.0 ∙ e ∙ sym (get_or_from_slice_get ls (2 * place + 1) c (pos 0) w.1))
two_differ b heads watches sizes pairs (ids.Unit number) a c w e = w

pub lists_kept : (b : BookState) (heads : List (Option ℕ)) (watches : List Watch) → AreSized b.vars b.clauses heads watches → AreLinked heads watches → Each IsPair b.clauses (watch_lits watches) → AreLists (record { vars = b.vars; heads = heads; watches = watches })
lists_kept b heads watches sizes linked pairs =
    record {
      heads_room = sizes.heads_room;
      linked = linked;
      differ = two_differ b heads watches sizes pairs;
      paired = (length b.clauses, sizes.two_each);
      few = sizes.few;
    }

pub lists_of : (b : BookState) (heads : List (Option ℕ)) (watches : List Watch) → AreSized b.vars b.clauses heads watches → Each IsPair b.clauses (watch_lits watches) → AreListsOf b (record { vars = b.vars; heads = heads; watches = watches })
lists_of b heads watches sizes pairs =
    let ls = watch_lits watches in
    record {
      vars = refl;
      two_each = sizes.two_each;
      pairs = λ place clause there. (let lt = slice_get_within b.clauses place clause there in
          let room : 2 * place + 1 < length ls = omega (arith, lt, length-lits watches, sizes.two_each) in
          (first_lit ls place, second_lit ls place, (slice_get-get_or ls (2 * place) (pos 0) (omega arith), slice_get-get_or ls (2 * place + 1) (pos 0) room), pairs place clause there));
    }
