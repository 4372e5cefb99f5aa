-- A walk over the watches of one literal that became false.
use Rattle.std.proofs.Common.{◌≡◌, ◌≢◌, ◌⊎◌, ℕ, ◌+◌, ◌*◌, ◌/◌, ◌<◌, ◌≤◌, true, false, ℤ, pos, neg_ℤ, Option, Some, None, List, [], ◌∷◌, ◌++◌, length, take, drop, get_or, set, refl, ap, sym, ◌∙◌, subst, arith, inl, inr}
use Rattle.std.specs.List.{slice_get, Contains}
use Rattle.std.proofs.lemmas.Bool.{cases_eq, both_ways, false_from_ne_true}
use Rattle.std.proofs.lemmas.List.{append_assoc, take-append-le, take-append-drop, take_more, length-append, length-map}
use Rattle.std.proofs.lemmas.List.Elements.{Contains-append_right}
use Rattle.std.proofs.lemmas.Option.{slice_get-get_or, slice_get_within, get_or_from_slice_get}
use Rattle.cnf_base.specs.Status.{has, IsSatisfiedIn}
use Rattle.cnf_base.proofs.Literals.{neg_ℤ-neg_ℤ}
use Rattle.sat_trail.specs.Trail.{Assignment, TrailState, lits, upto}
use Rattle.sat_trail.proofs.Consistency.{has-upto}
use Rattle.sat_watch.specs.declared.links.Watch.{Watch}
use Rattle.sat_watch.specs.Book.{ExtendsByUnits}
use Rattle.sat_watch.specs.Kept.{IsPair, IsWatched, first_lit, second_lit, Each}
use Rattle.sat_watch.specs.Links.{watch_lits, watchers, chain, StandsBehind, last_of}
use Rattle.sat_watch.specs.Watching.{sibling, IsSatisfiedAt, MovesWatch, AreWatchedBelow, AreWatchedTo}
use Rattle.sat_watch.proofs.Distinctness.{contains_here, contains_where}
use Rattle.sat_watch.proofs.Lists.{lit_within, rest_is}
use Rattle.sat_watch.proofs.Pairs.{EachAt, IsSwapped, length-lits, lit_read, at_watch, watch_written}
use Rattle.sat_watch.proofs.Rests.{has_not_left}
use Rattle.sat_watch.proofs.SeenTrail.{upto_extended}
use Rattle.sat_watch.proofs.Units.{lits-append}
use Rattle.sat_watch.proofs.Watches.{IsWatched-more, IsWatched-other, IsPair-swap, IsWatched-swap, IsWatched-moved, still_free}
use Rattle.sat_watch.proofs.Status.{in_first, in_last}

-- a clause none of whose watches is among these is watched
abbrev pub DoneBut : List ℤ → List ℤ → List ℕ → ℕ → List ℤ → ℤ → ℤ → Type 0
DoneBut true_lits looked_at rest place clause a b = (Contains rest (2 * place) → ⊥) → (Contains rest (2 * place + 1) → ⊥) → IsWatched true_lits looked_at clause a b

-- the list of a literal, the negation of the trail's literal at a place, is walked up to the rest
pub record IsWalked (clauses : List (List ℤ)) (heads : List (Option ℕ)) (watches : List Watch) (t : TrailState) (at : ℕ) (y : ℤ) (front rest : List ℕ) : Type 0 where
  pub watched : AreWatchedTo clauses heads watches t at
  pub two_each : length watches ≡ 2 * length clauses
  pub within : at < length t.assignments
  pub next_lit : take (at + 1) (lits t.assignments) ≡ take at (lits t.assignments) ++ neg_ℤ y ∷ []
  pub in_list : watchers heads watches y ≡ front ++ rest
  pub done : EachAt (DoneBut (lits t.assignments) (take (at + 1) (lits t.assignments)) rest) clauses (watch_lits watches)

-- ---- the start

lit_there : (clauses : List (List ℤ)) (watches : List Watch) (place w : ℕ) (clause : List ℤ) (l : ℤ) → length watches ≡ 2 * length clauses → slice_get clauses place ≡ Some clause → w ≤ 2 * place + 1 → get_or (watch_lits watches) w (pos 0) ≡ l → slice_get (watch_lits watches) w ≡ Some l
lit_there clauses watches place w clause l two there le is =
    let within = slice_get_within clauses place clause there in
    let lt : w < length (watch_lits watches) = omega (arith, length-lits watches) in
    slice_get-get_or (watch_lits watches) w (pos 0) lt ∙ ap Some is

pub walk_starts : (clauses : List (List ℤ)) (heads : List (Option ℕ)) (watches : List Watch) (t : TrailState) (at : ℕ) (y x : ℤ) → length watches ≡ 2 * length clauses → AreWatchedTo clauses heads watches t at → at < length t.assignments → x ≡ get_or (lits t.assignments) at x → y ≡ neg_ℤ x → IsWalked clauses heads watches t at y [] (watchers heads watches y)
walk_starts clauses heads watches t at y x two watched lt x_is y_is =
    let back : neg_ℤ y ≡ x = ap neg_ℤ y_is ∙ neg_ℤ-neg_ℤ x in
    let wide : at < length (lits t.assignments) = omega (arith, length-map t.assignments (λ (p : Assignment). p.lit)) in
    let next : take (at + 1) (lits t.assignments) ≡ take at (lits t.assignments) ++ neg_ℤ y ∷ [] = take_more (lits t.assignments) at x wide ∙ ap (λ l. take at (lits t.assignments) ++ l ∷ []) (sym x_is ∙ sym back) in
    record {
      watched = watched;
      two_each = two;
      within = lt;
      next_lit = next;
      in_list = refl;
      done = λ place clause there none_first none_second. (let a = first_lit (watch_lits watches) place in
          let b = second_lit (watch_lits watches) place in
          let a_apart : a ≢ neg_ℤ (neg_ℤ y) = λ e. none_first (watched.before.linked.has_all (2 * place) y (lit_there clauses watches place (2 * place) clause y two there (omega arith) (e ∙ neg_ℤ-neg_ℤ y))) in
          let b_apart : b ≢ neg_ℤ (neg_ℤ y) = λ e. none_second (watched.before.linked.has_all (2 * place + 1) y (lit_there clauses watches place (2 * place + 1) clause y two there (omega arith) (e ∙ neg_ℤ-neg_ℤ y))) in
          let P : List ℤ → Type 0 = λ ls. IsWatched (lits t.assignments) ls clause a b in
          subst P (sym next) (IsWatched-other (lits t.assignments) (take at (lits t.assignments)) clause (neg_ℤ y) a b a_apart b_apart (watched.here place clause there)));
    }

-- ---- the watch that comes next

pub first_of : (rest : List ℕ) (w : ℕ) → Some w ≡ slice_get rest 0 → (after : List ℕ) × (rest ≡ w ∷ after)
first_of [] w h = cc
first_of (v ∷ vs) w h = let same : w ≡ v = cc in (vs, ap (λ x. x ∷ vs) (sym same))

next_falsified : (clauses : List (List ℤ)) (heads : List (Option ℕ)) (watches : List Watch) (t : TrailState) (at : ℕ) (y : ℤ) (front rest : List ℕ) → IsWalked clauses heads watches t at y front rest → has (lits t.assignments) (neg_ℤ y) ≡ true
next_falsified clauses heads watches t at y front rest h =
    let P : List ℤ → Type 0 = λ ls. has ls (neg_ℤ y) ≡ true in
    let here : has (take (at + 1) (lits t.assignments)) (neg_ℤ y) ≡ true = subst P (sym h.next_lit) (in_last (take at (lits t.assignments)) (neg_ℤ y)) in
    subst P (take-append-drop (at + 1) (lits t.assignments)) (in_first (take (at + 1) (lits t.assignments)) (drop (at + 1) (lits t.assignments)) (neg_ℤ y) here)

pub next_lit_is : (clauses : List (List ℤ)) (heads : List (Option ℕ)) (watches : List Watch) (t : TrailState) (at : ℕ) (y : ℤ) (front : List ℕ) (w : ℕ) (after : List ℕ) → IsWalked clauses heads watches t at y front (w ∷ after) → slice_get (watch_lits watches) w ≡ Some y
next_lit_is clauses heads watches t at y front w after h =
    let P : List ℕ → Type 0 = λ ws. Contains ws w in
    h.watched.before.linked.has_only w y (subst P (sym h.in_list) (Contains-append_right front (w ∷ after) w (contains_here w after)))

pub next_is_false : (clauses : List (List ℤ)) (heads : List (Option ℕ)) (watches : List Watch) (t : TrailState) (at : ℕ) (y : ℤ) (front : List ℕ) (w : ℕ) (after : List ℕ) → IsWalked clauses heads watches t at y front (w ∷ after) → has (lits t.assignments) (neg_ℤ (get_or (watch_lits watches) w (pos 0))) ≡ true
next_is_false clauses heads watches t at y front w after h =
    let P : ℤ → Type 0 = λ l. has (lits t.assignments) (neg_ℤ l) ≡ true in
    let is = get_or_from_slice_get (watch_lits watches) w y (pos 0) (next_lit_is clauses heads watches t at y front w after h) in
    subst P (sym is) (next_falsified clauses heads watches t at y front (w ∷ after) h)

-- the watch itself
watch_there : (watches : List Watch) (w : ℕ) (y : ℤ) → slice_get (watch_lits watches) w ≡ Some y → (x : Watch) × (slice_get watches w ≡ Some x) × (x.lit ≡ y)
watch_there watches w y is =
    let d : Watch = record { lit = y; next = None; search = 0 } in
    let lt = lit_within watches w y is in
    (get_or watches w d, slice_get-get_or watches w d lt, sym (lit_read watches w d lt) ∙ get_or_from_slice_get (watch_lits watches) w y (pos 0) is)

pub next_stands : (clauses : List (List ℤ)) (heads : List (Option ℕ)) (watches : List Watch) (t : TrailState) (at : ℕ) (y : ℤ) (front : List ℕ) (previous : Option ℕ) (w : ℕ) (after : List ℕ) → IsWalked clauses heads watches t at y front (w ∷ after) → last_of front ≡ previous → StandsBehind heads watches previous w
next_stands clauses heads watches t at y front previous w after h behind =
    let here = watch_there watches w y (next_lit_is clauses heads watches t at y front w after h) in
    record {
      watch = here.0;
      here = here.1;
      before = front;
      after = after;
      in_list = ap (watchers heads watches) here.2 ∙ h.in_list;
      behind = behind;
    }

-- ---- the trail has grown

pub take_grown : (a b more : List Assignment) (n : ℕ) → b ≡ a ++ more → n ≤ length a → take n (lits b) ≡ take n (lits a)
take_grown a b more n is le =
    let within : n ≤ length (lits a) = omega (arith, length-map a (λ (p : Assignment). p.lit)) in
    ap (take n) (ap lits is ∙ lits-append a more) ∙ take-append-le n (lits a) (lits more) within

watched_grown : (a b more : List Assignment) (n : ℕ) (clause : List ℤ) (x y : ℤ) → b ≡ a ++ more → n ≤ length a → IsWatched (lits a) (take n (lits a)) clause x y → IsWatched (lits b) (take n (lits b)) clause x y
watched_grown a b more n clause x y is le h =
    let P : List ℤ → Type 0 = λ ls. IsWatched (lits b) ls clause x y in
    let Q : List ℤ → Type 0 = λ ls. IsWatched ls (take n (lits a)) clause x y in
    subst P (sym (take_grown a b more n is le)) (subst Q (sym (ap lits is ∙ lits-append a more)) (IsWatched-more (lits a) (lits more) (take n (lits a)) clause x y h))

pub below_grown : (clauses : List (List ℤ)) (heads : List (Option ℕ)) (watches : List Watch) (old new : TrailState) → ExtendsByUnits clauses old new → AreWatchedBelow clauses heads watches old → AreWatchedBelow clauses heads watches new
below_grown clauses heads watches old new s h =
    record {
      linked = h.linked;
      pairs = h.pairs;
      below = λ k lt. (let below : k < old.level = omega (arith, s.level) in
          let P : List Assignment → Type 0 = λ ps. Each (IsWatched (lits ps) (lits ps)) clauses (watch_lits watches) in
          subst P (sym (upto_extended clauses old new k s below)) (h.below k below));
    }

walk_grown : (clauses : List (List ℤ)) (heads : List (Option ℕ)) (watches : List Watch) (old new : TrailState) (at : ℕ) (y : ℤ) (front rest : List ℕ) → ExtendsByUnits clauses old new → IsWalked clauses heads watches old at y front rest → IsWalked clauses heads watches new at y front rest
walk_grown clauses heads watches old new at y front rest s h =
    let lt = h.within in
    record {
      watched = record {
        before = below_grown clauses heads watches old new s h.watched.before;
        here = λ place c there. watched_grown old.assignments new.assignments s.more at c (first_lit (watch_lits watches) place) (second_lit (watch_lits watches) place) s.assignments (omega arith) (h.watched.here place c there);
      };
      two_each = h.two_each;
      within = omega (arith, ap length s.assignments, length-append old.assignments s.more);
      next_lit = take_grown old.assignments new.assignments s.more (at + 1) s.assignments (omega arith) ∙ h.next_lit ∙ ap (λ ls. ls ++ neg_ℤ y ∷ []) (sym (take_grown old.assignments new.assignments s.more at s.assignments (omega arith)));
      in_list = h.in_list;
      done = λ place c there none_first none_second. watched_grown old.assignments new.assignments s.more (at + 1) c (first_lit (watch_lits watches) place) (second_lit (watch_lits watches) place) s.assignments (omega arith) (h.done place c there none_first none_second);
    }

-- ---- the next watch was visited

other_place : (w place : ℕ) (after : List ℕ) (v : ℕ) → place ≢ w / 2 → (v ≡ 2 * place) ⊎ (v ≡ 2 * place + 1) → (Contains after v → ⊥) → Contains (w ∷ after) v → ⊥
other_place w place after v apart is none there =
    elim (contains_where v w after there) [
      | inl same ↦ elim is [ inl e ↦ apart (omega arith) | inr e ↦ apart (omega arith) ]
      | inr later ↦ none later
    ]

-- all clauses but that of the watch are as they were
others_done : (clauses : List (List ℤ)) (heads : List (Option ℕ)) (watches : List Watch) (t : TrailState) (at : ℕ) (y : ℤ) (front : List ℕ) (w : ℕ) (after : List ℕ) → IsWalked clauses heads watches t at y front (w ∷ after) → (place : ℕ) (c : List ℤ) → place ≢ w / 2 → slice_get clauses place ≡ Some c → DoneBut (lits t.assignments) (take (at + 1) (lits t.assignments)) after place c (first_lit (watch_lits watches) place) (second_lit (watch_lits watches) place)
others_done clauses heads watches t at y front w after h place c apart there none_first none_second =
    h.done place c there (other_place w place after (2 * place) apart (inl refl) none_first) (other_place w place after (2 * place + 1) apart (inr refl) none_second)

-- the watch stays, since its clause has a true literal
stays : (clauses : List (List ℤ)) (heads : List (Option ℕ)) (watches : List Watch) (t : TrailState) (at : ℕ) (y : ℤ) (front : List ℕ) (w : ℕ) (after : List ℕ) → IsWalked clauses heads watches t at y front (w ∷ after) → IsSatisfiedAt clauses (lits t.assignments) (w / 2) → IsWalked clauses heads watches t at y (front ++ w ∷ []) after
stays clauses heads watches t at y front w after h passed =
    record {
      watched = h.watched;
      two_each = h.two_each;
      within = h.within;
      next_lit = h.next_lit;
      in_list = h.in_list ∙ sym (append_assoc front (w ∷ []) after);
      done = λ place c there. elim (cases_eq place (w / 2)) [
        | inl e ↦ (λ none_first none_second. (let P : ℕ → Type 0 = λ n. slice_get clauses n ≡ Some c in
            let is : slice_get clauses (w / 2) ≡ Some c = subst P e there in
            let is_clause = passed.1 in
            let one : passed.0 ≡ c = cc in
            let Q : List ℤ → Type 0 = λ ls. IsSatisfiedIn (lits t.assignments) ls in
            inl (subst Q one passed.2)))
        | inr e ↦ others_done clauses heads watches t at y front w after h place c e there
      ];
    }

pub walk_stays : (clauses : List (List ℤ)) (heads heads' : List (Option ℕ)) (watches watches' : List Watch) (old new : TrailState) (at : ℕ) (y : ℤ) (front : List ℕ) (w : ℕ) (after : List ℕ) → IsWalked clauses heads watches old at y front (w ∷ after) → ExtendsByUnits clauses old new → (heads' ≡ heads) × (watches' ≡ watches) × IsSatisfiedAt clauses (lits new.assignments) (w / 2) → IsWalked clauses heads' watches' new at y (front ++ w ∷ []) after
walk_stays clauses heads heads' watches watches' old new at y front w after h s same =
    let P : List (Option ℕ) → Type 0 = λ hs. IsWalked clauses hs watches' new at y (front ++ w ∷ []) after in
    let Q : List Watch → Type 0 = λ ws. IsWalked clauses heads ws new at y (front ++ w ∷ []) after in
    subst P (sym same.0) (subst Q (sym same.1) (stays clauses heads watches new at y front w after (walk_grown clauses heads watches old new at y front (w ∷ after) s h) same.2))

-- ---- the watch went to another literal

free_before : (ls : List ℤ) (n : ℕ) (lit : ℤ) → has ls (neg_ℤ lit) ≡ false → has (take n ls) (neg_ℤ lit) ≡ false
free_before ls n lit free =
    let P : List ℤ → Type 0 = λ xs. has xs (neg_ℤ lit) ≡ false in
    has_not_left (take n ls) (drop n ls) (neg_ℤ lit) (subst P (sym (take-append-drop n ls)) free)

free_upto : (k : ℕ) (ps : List Assignment) (lit : ℤ) → has (lits ps) (neg_ℤ lit) ≡ false → has (lits (upto k ps)) (neg_ℤ lit) ≡ false
free_upto k ps lit free =
    false_from_ne_true (has (lits (upto k ps)) (neg_ℤ lit)) (λ there. both_ways (has (lits ps) (neg_ℤ lit)) free (has-upto k ps (neg_ℤ lit) there))

-- a literal that isn't false in place of one of the two: the clause stays watched
pub moved_watched : (clauses : List (List ℤ)) (watched true_lits looked_at clause : List ℤ) (w : ℕ) (lit : ℤ) → w < length watched → slice_get clauses (w / 2) ≡ Some clause → has looked_at (neg_ℤ lit) ≡ false → Each (IsWatched true_lits looked_at) clauses watched → Each (IsWatched true_lits looked_at) clauses (set watched w lit)
moved_watched clauses watched true_lits looked_at clause w lit lt is free h =
    let swapped : IsSwapped (IsWatched true_lits looked_at) = λ c a b k. IsWatched-swap true_lits looked_at c a b k in
    let before = at_watch (IsWatched true_lits looked_at) watched clause w swapped (h (w / 2) clause is) in
    watch_written (λ place. IsWatched true_lits looked_at) clauses watched clause w lit lt is swapped
    (IsWatched-moved true_lits looked_at clause (get_or watched w (pos 0)) (get_or watched (sibling w) (pos 0)) lit free before)
    (λ place c apart there. h place c there)

pub moved_pairs : (clauses : List (List ℤ)) (watched clause : List ℤ) (w : ℕ) (lit : ℤ) → w < length watched → slice_get clauses (w / 2) ≡ Some clause → has clause lit ≡ true → lit ≢ get_or watched (sibling w) (pos 0) → Each IsPair clauses watched → Each IsPair clauses (set watched w lit)
moved_pairs clauses watched clause w lit lt is inside differs h =
    let before = at_watch IsPair watched clause w IsPair-swap (h (w / 2) clause is) in
    watch_written (λ place. IsPair) clauses watched clause w lit lt is IsPair-swap
    (record { first_in = inside; second_in = before.second_in; differ = differs })
    (λ place c apart there. h place c there)

-- past the literal that is walked: the new watch isn't false, and the other one isn't its negation
past_walked : (true_lits looked_at longer clause : List ℤ) (y sib lit : ℤ) → longer ≡ looked_at ++ neg_ℤ y ∷ [] → has longer (neg_ℤ lit) ≡ false → IsPair clause y sib → IsWatched true_lits looked_at clause y sib → IsWatched true_lits longer clause lit sib
past_walked true_lits looked_at longer clause y sib lit is free pair (inl p) = inl p
past_walked true_lits looked_at longer clause y sib lit is free pair (inr h) =
    let P : List ℤ → Type 0 = λ ls. has ls (neg_ℤ sib) ≡ false in
    let apart : sib ≢ neg_ℤ (neg_ℤ y) = λ e. pair.differ (sym (e ∙ neg_ℤ-neg_ℤ y)) in
    inr (free, subst P (sym is) (still_free looked_at (neg_ℤ y) sib apart h.1))

moves : (clauses : List (List ℤ)) (heads heads' : List (Option ℕ)) (watches watches' : List Watch) (t : TrailState) (at : ℕ) (y : ℤ) (front : List ℕ) (w : ℕ) (after : List ℕ) → IsWalked clauses heads watches t at y front (w ∷ after) → length watches' ≡ length watches → MovesWatch clauses (lits t.assignments) w heads watches heads' watches' → IsWalked clauses heads' watches' t at y front after
moves clauses heads heads' watches watches' t at y front w after h len m =
    let watched = watch_lits watches in
    let is = next_lit_is clauses heads watches t at y front w after h in
    let here = watch_there watches w y is in
    let lt : w < length watched = omega (arith, lit_within watches w y is, length-lits watches) in
    let own : get_or watched w (pos 0) ≡ y = get_or_from_slice_get watched w y (pos 0) is in
    let sib = get_or watched (sibling w) (pos 0) in
    let Next : List ℤ → ℤ → ℤ → Type 0 = λ c a b. IsPair c a b × IsWatched (lits t.assignments) (take at (lits t.assignments)) c a b in
    let swapped : IsSwapped Next = λ c a b k. (IsPair-swap c a b k.0, IsWatched-swap (lits t.assignments) (take at (lits t.assignments)) c a b k.1) in
    let both = at_watch Next watched m.clause w swapped (h.watched.before.pairs (w / 2) m.clause m.is_clause, h.watched.here (w / 2) m.clause m.is_clause) in
    let N : ℤ → Type 0 = λ l. Next m.clause l sib in
    let mine = subst N own both in
    let E : (List ℤ → ℤ → ℤ → Type 0) → List ℤ → Type 0 = λ R ls. Each R clauses ls in
    let D : List ℤ → Type 0 = λ ls. EachAt (DoneBut (lits t.assignments) (take (at + 1) (lits t.assignments)) after) clauses ls in
    record {
      watched = record {
        before = record {
          linked = m.linked;
          pairs = subst (E IsPair) (sym m.moved) (moved_pairs clauses watched m.clause w m.lit lt m.is_clause m.inside m.differs h.watched.before.pairs);
          below = λ k low. subst (E (IsWatched (lits (upto k t.assignments)) (lits (upto k t.assignments)))) (sym m.moved)
              (moved_watched clauses watched (lits (upto k t.assignments)) (lits (upto k t.assignments)) m.clause w m.lit lt m.is_clause (free_upto k t.assignments m.lit m.free) (h.watched.before.below k low));
        };
        here = subst (E (IsWatched (lits t.assignments) (take at (lits t.assignments)))) (sym m.moved)
            (moved_watched clauses watched (lits t.assignments) (take at (lits t.assignments)) m.clause w m.lit lt m.is_clause (free_before (lits t.assignments) at m.lit m.free) h.watched.here);
      };
      two_each = len ∙ h.two_each;
      within = h.within;
      next_lit = h.next_lit;
      in_list = ap (watchers heads' watches') (sym here.2) ∙ m.taken_out here.0 front after here.1 (ap (watchers heads watches) here.2 ∙ h.in_list);
      done = subst D (sym m.moved) (watch_written (DoneBut (lits t.assignments) (take (at + 1) (lits t.assignments)) after) clauses watched m.clause w m.lit lt m.is_clause
          (λ c a b k none_first none_second. IsWatched-swap (lits t.assignments) (take (at + 1) (lits t.assignments)) c a b (k none_first none_second))
          (λ none_first none_second. past_walked (lits t.assignments) (take at (lits t.assignments)) (take (at + 1) (lits t.assignments)) m.clause y sib m.lit h.next_lit (free_before (lits t.assignments) (at + 1) m.lit m.free) mine.0 mine.1)
          (others_done clauses heads watches t at y front w after h));
    }

pub walk_moves : (clauses : List (List ℤ)) (heads heads' : List (Option ℕ)) (watches watches' : List Watch) (old new : TrailState) (at : ℕ) (y : ℤ) (front : List ℕ) (w : ℕ) (after : List ℕ) → IsWalked clauses heads watches old at y front (w ∷ after) → ExtendsByUnits clauses old new → length watches' ≡ length watches → MovesWatch clauses (lits new.assignments) w heads watches heads' watches' → IsWalked clauses heads' watches' new at y front after
walk_moves clauses heads heads' watches watches' old new at y front w after h s len m =
    moves clauses heads heads' watches watches' new at y front w after (walk_grown clauses heads watches old new at y front (w ∷ after) s h) len m

-- ---- the end, and how far it is

nothing_left : (rest : List ℕ) → None ≡ slice_get rest 0 → rest ≡ []
nothing_left [] h = refl
nothing_left (w ∷ ws) h = cc

pub walk_ends : (clauses : List (List ℤ)) (heads : List (Option ℕ)) (watches : List Watch) (t : TrailState) (at : ℕ) (y : ℤ) (front rest : List ℕ) → IsWalked clauses heads watches t at y front rest → None ≡ slice_get rest 0 → AreWatchedTo clauses heads watches t (at + 1)
walk_ends clauses heads watches t at y front rest h none =
    let P : List ℕ → Type 0 = λ ws. EachAt (DoneBut (lits t.assignments) (take (at + 1) (lits t.assignments)) ws) clauses (watch_lits watches) in
    let done = subst P (nothing_left rest none) h.done in
    record {
      before = h.watched.before;
      here = λ place c there. done place c there (λ k. absurd (omega (arith, k.1))) (λ k. absurd (omega (arith, k.1)));
    }

pub ahead_is : (clauses : List (List ℤ)) (heads : List (Option ℕ)) (watches : List Watch) (t : TrailState) (at : ℕ) (y : ℤ) (front rest : List ℕ) (cursor : Option ℕ) → IsWalked clauses heads watches t at y front rest → cursor ≡ slice_get rest 0 → chain (length watches) watches cursor ≡ rest
ahead_is clauses heads watches t at y front rest cursor h is =
    rest_is heads watches y front rest cursor h.watched.before.linked h.in_list is

pub nearer : (clauses : List (List ℤ)) (heads heads' : List (Option ℕ)) (watches watches' : List Watch) (old new : TrailState) (at : ℕ) (y : ℤ) (front front' : List ℕ) (w : ℕ) (after : List ℕ) (cursor cursor' : Option ℕ) → IsWalked clauses heads watches old at y front (w ∷ after) → IsWalked clauses heads' watches' new at y front' after → cursor ≡ Some w → cursor' ≡ slice_get after 0 → length (chain (length watches') watches' cursor') < length (chain (length watches) watches cursor)
nearer clauses heads heads' watches watches' old new at y front front' w after cursor cursor' h h' is is' =
    let now = ap length (ahead_is clauses heads watches old at y front (w ∷ after) cursor h is) in
    let then_is = ap length (ahead_is clauses heads' watches' new at y front' after cursor' h' is') in
    omega arith
