-- A watch that moves from its list to another literal's.
use Rattle.std.proofs.Common.{◌≡◌, ◌≢◌, ℕ, ◌<◌, ℤ, Option, None, Some, List, [], ◌∷◌, ◌++◌, length, get_or, set, refl, ap, sym, ◌∙◌, subst, arith}
use Rattle.std.specs.List.{Contains, IsDistinct, All, slice_get}
use Rattle.std.specs.Option.{option_and_then}
use Rattle.std.proofs.Math.Dec.{eqb}
use Rattle.std.proofs.Math.Seq.{map-set_same}
use Rattle.std.proofs.lemmas.Option.{slice_get_within, slice_get-get_or, get_or_from_slice_get, same_Some}
use Rattle.std.proofs.lemmas.List.{append_assoc, length-map, length-set, map-set}
use Rattle.std.proofs.lemmas.List.Elements.{All-get_or, All-set, Contains-append_left, Contains-append_right, Contains-push}
use Rattle.sat_watch.specs.declared.links.Watch.{Watch}
use Rattle.sat_watch.specs.Links.{watch_lits, next_of, head_of, watchers, Leads, AreLinked, StandsBehind, LeadsPast, last_of}
use Rattle.cnf_base.specs.Literal.{lit_index}
use Rattle.sat_watch.proofs.Distinctness.{contains_here, contains_later, contains_with, contains_without, taken_out, apart, distinct_without, same_rest}
use Rattle.sat_watch.proofs.Chains.{Leads-split, Leads-join, Leads-same, last_of_none, EndsIn, last_of_some}
use Rattle.sat_watch.proofs.Slots.{head-set_same, head-set_other, with_list, with_list-same, with_list-other, each_with, slice_get-set_same, slice_get-set_other}
use Rattle.sat_watch.proofs.Lists.{AreListedBut, lit_within, watchers_are, AreLinked-listed, listed_front}

abbrev next : Watch → Option ℕ
next x = x.next

abbrev lit : Watch → ℤ
lit x = x.lit

next-set_other : (watches : List Watch) (i : ℕ) (y : Watch) (v : ℕ) → v ≢ i → next_of (set watches i y) v ≡ next_of watches v
next-set_other watches i y v ne = ap (option_and_then next) (slice_get-set_other watches i y v ne)

next-set_same : (watches : List Watch) (i : ℕ) (y : Watch) → i < length watches → next_of (set watches i y) i ≡ y.next
next-set_same watches i y lt = ap (option_and_then next) (slice_get-set_same watches i y lt)

lit-set_other : (watches : List Watch) (i : ℕ) (y : Watch) (v : ℕ) → v ≢ i → slice_get (watch_lits (set watches i y)) v ≡ slice_get (watch_lits watches) v
lit-set_other watches i y v ne =
    ap (λ ls. slice_get ls v) (map-set lit watches i y) ∙ slice_get-set_other (watch_lits watches) i y.lit v ne

-- a watch of one literal isn't one of another
stranger : (heads : List (Option ℕ)) (watches : List Watch) (a b : ℤ) (u v : ℕ) → AreLinked heads watches → b ≢ a → Contains (watchers heads watches a) u → Contains (watchers heads watches b) v → v ≢ u
stranger heads watches a b u v h ne there here e =
    ne (same_Some b a (sym (h.has_only v b here) ∙ ap (slice_get (watch_lits watches)) e ∙ h.has_only u a there))

-- ---- a watch that is taken out

pub record IsAt (heads : List (Option ℕ)) (watches : List Watch) (w : ℕ) (x : Watch) (before after : List ℕ) : Type 0 where
  pub linked : AreLinked heads watches
  pub here : slice_get watches w ≡ Some x
  pub parts : watchers heads watches x.lit ≡ before ++ w ∷ after

module _ (heads : List (Option ℕ)) (watches : List Watch) (w : ℕ) (x : Watch) (before after : List ℕ) (at : IsAt heads watches w x before after) where
  within : w < length watches
  within = slice_get_within watches w x at.here

  slot_within : lit_index x.lit < length heads
  slot_within =
      let P : Watch → Type 0 = λ y. lit_index y.lit < length heads in
      subst P (get_or_from_slice_get watches w x x at.here) (All-get_or P watches w x within at.linked.in_range)

  distinct : IsDistinct eqb (before ++ w ∷ after)
  distinct = subst (IsDistinct eqb) at.parts (at.linked.once x.lit)

  led : Leads watches (head_of heads x.lit) (before ++ w ∷ after) None
  led = let P : List ℕ → Type 0 = λ ws. Leads watches (head_of heads x.lit) ws None in subst P at.parts (at.linked.leads x.lit)

  led_on : Leads watches x.next after None
  led_on =
      let P : Option ℕ → Type 0 = λ o. Leads watches o after None in
      subst P (ap (option_and_then next) at.here) (Leads-split watches (head_of heads x.lit) before w after None led).1

  in_old : (v : ℕ) → Contains (before ++ w ∷ after) v → Contains (watchers heads watches x.lit) v
  in_old v c = let P : List ℕ → Type 0 = λ ws. Contains ws v in subst P (sym at.parts) c

  not_after : (v : ℕ) → Contains after v → v ≢ w
  not_after v c e = taken_out before after w distinct (subst (Contains (before ++ after)) e (Contains-append_right before after v c))

  pub listed_but : (heads1 : List (Option ℕ)) (new : List Watch) → All (λ (y : Watch). lit_index y.lit < length heads1) new → ((v : ℕ) → v ≢ w → slice_get (watch_lits new) v ≡ slice_get (watch_lits watches) v) → Leads new (head_of heads1 x.lit) (before ++ after) None → ((l : ℤ) → l ≢ x.lit → Leads new (head_of heads1 l) (watchers heads watches l) None) → AreListedBut w heads1 new (with_list x.lit (before ++ after) (watchers heads watches))
  listed_but heads1 new range same here others =
      let old = watchers heads watches in
      let HasAll : ℤ → List ℕ → Type 0 = λ l ws. (v : ℕ) → v ≢ w → slice_get (watch_lits new) v ≡ Some l → Contains ws v in
      let HasOnly : ℤ → List ℕ → Type 0 = λ l ws. (v : ℕ) → Contains ws v → (v ≢ w) × (slice_get (watch_lits new) v ≡ Some l) in
      let LeadsTo : ℤ → List ℕ → Type 0 = λ l ws. Leads new (head_of heads1 l) ws None in
      let Once : ℤ → List ℕ → Type 0 = λ l ws. IsDistinct eqb ws in
      record {
        in_range = range;
        leads = each_with LeadsTo x.lit (before ++ after) old here others;
        has_all = λ v l. each_with HasAll x.lit (before ++ after) old
            (λ u ne e. let P : List ℕ → Type 0 = λ ws. Contains ws u in contains_without u before after w ne (subst P at.parts (at.linked.has_all u x.lit (sym (same u ne) ∙ e))))
            (λ m ne u apart_from e. at.linked.has_all u m (sym (same u apart_from) ∙ e))
            l v;
        has_only = λ v l. each_with HasOnly x.lit (before ++ after) old
            (λ u c. let ne : u ≢ w = (λ e. taken_out before after w distinct (subst (Contains (before ++ after)) e c)) in
            (ne, same u ne ∙ at.linked.has_only u x.lit (in_old u (contains_with u before after w c))))
            (λ m ne u c. let apart_from : u ≢ w = stranger heads watches x.lit m w u at.linked ne (in_old w (Contains-append_right before (w ∷ after) w (contains_here w after))) c in
            (apart_from, same u apart_from ∙ at.linked.has_only u m c))
            l v;
        once = each_with Once x.lit (before ++ after) old (distinct_without before after w distinct) (λ l ne. at.linked.once l);
      }

  in_range_set : (heads1 : List (Option ℕ)) (new : List Watch) (v : ℕ) (y : Watch) → length heads1 ≡ length heads → All (λ (z : Watch). lit_index z.lit < length heads) new → lit_index y.lit < length heads → All (λ (z : Watch). lit_index z.lit < length heads1) (set new v y)
  in_range_set heads1 new v y len range lt =
      let P : ℕ → Type 0 = λ n. All (λ (z : Watch). lit_index z.lit < n) (set new v y) in
      subst P (sym len) (All-set (λ (z : Watch). lit_index z.lit < length heads) new v y lt range)

  -- in another list stands neither this watch nor one of its list
  others_differ : (l : ℤ) (u : ℕ) → l ≢ x.lit → Contains (before ++ w ∷ after) u → (v : ℕ) → Contains (watchers heads watches l) v → v ≢ u
  others_differ l u ne there v c = stranger heads watches x.lit l u v at.linked ne (in_old u there) c

  -- the first of its list: the head leads past it
  pub freed_first : (y : Watch) → before ≡ [] → lit_index y.lit < length heads → AreListedBut w (set heads (lit_index x.lit) x.next) (set watches w y) (with_list x.lit (before ++ after) (watchers heads watches))
  freed_first y none lt =
      let heads1 = set heads (lit_index x.lit) x.next in
      let new = set watches w y in
      let there = Contains-append_right before (w ∷ after) w (contains_here w after) in
      let P : Option ℕ → Type 0 = λ o. Leads new o after None in
      let Q : List ℕ → Type 0 = λ ws. Leads new (head_of heads1 x.lit) (ws ++ after) None in
      let Old : ℤ → Option ℕ → Type 0 = λ l o. Leads new o (watchers heads watches l) None in
      let here = subst P (sym (head-set_same heads x.lit x.next slot_within)) (Leads-same watches new x.next after None (λ v c. next-set_other watches w y v (not_after v c)) led_on) in
      listed_but heads1 new
      (in_range_set heads1 watches w y (length-set heads (lit_index x.lit) x.next) at.linked.in_range lt)
      (λ v ne. lit-set_other watches w y v ne)
      (subst Q (sym none) here)
      (λ l ne. subst (Old l) (sym (head-set_other heads x.lit l x.next ne)) (Leads-same watches new (head_of heads l) (watchers heads watches l) None (λ v c. next-set_other watches w y v (others_differ l w ne there v c)) (at.linked.leads l)))

  -- behind another one, which leads past it
  pub freed_behind : (y : Watch) (p : ℕ) (z : Watch) → EndsIn before p → slice_get watches p ≡ Some z → lit_index y.lit < length heads → AreListedBut w heads (set (set watches p (record z { next = x.next })) w y) (with_list x.lit (before ++ after) (watchers heads watches))
  freed_behind y p z ends previous lt =
      let z1 : Watch = record z { next = x.next } in
      let middle = set watches p z1 in
      let new = set middle w y in
      let init = ends.init in
      let p_in : Contains before p = subst (λ ws. Contains ws p) (sym ends.parts) (Contains-push init p) in
      let p_there = Contains-append_left before (w ∷ after) p p_in in
      let w_there = Contains-append_right before (w ∷ after) w (contains_here w after) in
      let p_differs : p ≢ w = λ e. apart before (w ∷ after) p distinct p_in (subst (Contains (w ∷ after)) (sym e) (contains_here w after)) in
      let unwritten : (v : ℕ) → v ≢ p → v ≢ w → next_of new v ≡ next_of watches v = λ v not_p not_w. next-set_other middle w y v not_w ∙ next-set_other watches p z1 v not_p in
      let lt_p = slice_get_within watches p z previous in
      let next_p : next_of new p ≡ x.next = next-set_other middle w y p p_differs ∙ next-set_same watches p z1 lt_p in
      let whole : before ++ w ∷ after ≡ init ++ p ∷ w ∷ after = ap (λ ws. ws ++ w ∷ after) ends.parts ∙ append_assoc init (p ∷ []) (w ∷ after) in
      let rest : before ++ after ≡ init ++ p ∷ after = ap (λ ws. ws ++ after) ends.parts ∙ append_assoc init (p ∷ []) after in
      let P : List ℕ → Type 0 = λ ws. Leads watches (head_of heads x.lit) ws None in
      let Q : List ℕ → Type 0 = λ ws. Leads new (head_of heads x.lit) ws None in
      let R : Option ℕ → Type 0 = λ o. Leads new o after None in
      let to_p = (Leads-split watches (head_of heads x.lit) init p (w ∷ after) None (subst P whole led)).0 in
      let once = subst (IsDistinct eqb) whole distinct in
      let before_p : (v : ℕ) → Contains init v → next_of new v ≡ next_of watches v = λ v c. unwritten v
      (λ e. apart init (p ∷ w ∷ after) v once c (subst (Contains (p ∷ w ∷ after)) (sym e) (contains_here p (w ∷ after))))
      (λ e. apart init (p ∷ w ∷ after) v once c (subst (Contains (p ∷ w ∷ after)) (sym e) (contains_later w p (w ∷ after) (contains_here w after)))) in
      let after_w : (v : ℕ) → Contains after v → next_of new v ≡ next_of watches v = λ v c. unwritten v
      (λ e. apart before (w ∷ after) p distinct p_in (contains_later p w after (subst (Contains after) e c)))
      (not_after v c) in
      let here = Leads-join new (head_of heads x.lit) init (Some p) (p ∷ after) None (Leads-same watches new (head_of heads x.lit) init (Some p) before_p to_p) (refl, subst R (sym next_p) (Leads-same watches new x.next after None after_w led_on)) in
      let same_lits : watch_lits middle ≡ watch_lits watches = map-set_same lit watches p z1 z (ap lit (sym (get_or_from_slice_get watches p z z previous))) in
      let P_lit : Watch → Type 0 = λ u. lit_index u.lit < length heads in
      let lt_z : lit_index z.lit < length heads = subst P_lit (get_or_from_slice_get watches p z z previous) (All-get_or P_lit watches p z lt_p at.linked.in_range) in
      listed_but heads new
      (in_range_set heads middle w y refl (in_range_set heads watches p z1 refl at.linked.in_range lt_z) lt)
      (λ v ne. lit-set_other middle w y v ne ∙ ap (λ ls. slice_get ls v) same_lits)
      (subst Q (sym rest) here)
      (λ l ne. Leads-same watches new (head_of heads l) (watchers heads watches l) None (λ v c. unwritten v (others_differ l p ne p_there v c) (others_differ l w ne w_there v c)) (at.linked.leads l))

before_within : (heads : List (Option ℕ)) (watches : List Watch) (w : ℕ) (x : Watch) (before after : List ℕ) (p : ℕ) → IsAt heads watches w x before after → last_of before ≡ Some p → p < length watches
before_within heads watches w x before after p at last =
    let ends = last_of_some before p last in
    let p_in = Contains-append_left before (w ∷ after) p (subst (λ ws. Contains ws p) (sym ends.parts) (Contains-push ends.init p)) in
    lit_within watches p x.lit (at.linked.has_only p x.lit (subst (λ ws. Contains ws p) (sym at.parts) p_in))

-- the one before it is a watch too
pub previous_within : (heads : List (Option ℕ)) (watches : List Watch) (previous : Option ℕ) (w p : ℕ) → AreLinked heads watches → StandsBehind heads watches previous w → previous ≡ Some p → p < length watches
previous_within heads watches previous w p h s is =
    before_within heads watches w s.watch s.before s.after p (record { linked = h; here = s.here; parts = s.in_list }) (s.behind ∙ is)

record IsFreed (w : ℕ) (x y : Watch) (heads : List (Option ℕ)) (watches : List Watch) (before after : List ℕ) (heads1 : List (Option ℕ)) (watches1 : List Watch) : Type 0 where
  listed : AreListedBut w heads1 (set watches1 w y) (with_list x.lit (before ++ after) (watchers heads watches))
  lits : watch_lits watches1 ≡ watch_lits watches
  heads_room : length heads1 ≡ length heads

-- once the link that led to a watch leads past it, it stands in no list, whatever is written over it
freed : (heads : List (Option ℕ)) (watches : List Watch) (w : ℕ) (x : Watch) (before after : List ℕ) (y : Watch) (heads1 : List (Option ℕ)) (watches1 : List Watch) (previous : Option ℕ) → IsAt heads watches w x before after → last_of before ≡ previous → lit_index y.lit < length heads → LeadsPast heads watches x previous heads1 watches1 → IsFreed w x y heads watches before after heads1 watches1
freed heads watches w x before after y heads1 watches1 None at last lt past =
    let P : List (Option ℕ) → Type 0 = λ hs. AreListedBut w hs (set watches1 w y) (with_list x.lit (before ++ after) (watchers heads watches)) in
    let Q : List Watch → Type 0 = λ ws. AreListedBut w (set heads (lit_index x.lit) x.next) (set ws w y) (with_list x.lit (before ++ after) (watchers heads watches)) in
    record {
      listed = subst P (sym past.0) (subst Q (sym past.1) (freed_first heads watches w x before after at y (last_of_none before last) lt));
      lits = ap watch_lits past.1;
      heads_room = ap length past.0 ∙ length-set heads (lit_index x.lit) x.next;
    }
freed heads watches w x before after y heads1 watches1 (Some p) at last lt past =
    let ends = last_of_some before p last in
    let lt_p = before_within heads watches w x before after p at last in
    let z = get_or watches p x in
    let there = slice_get-get_or watches p x lt_p in
    let z1 : Watch = record z { next = x.next } in
    let watches1_are : watches1 ≡ set watches p z1 = past.1 z there in
    let listed = freed_behind heads watches w x before after at y p z ends there lt in
    let P : List (Option ℕ) → Type 0 = λ hs. AreListedBut w hs (set watches1 w y) (with_list x.lit (before ++ after) (watchers heads watches)) in
    let Q : List Watch → Type 0 = λ ws. AreListedBut w heads (set ws w y) (with_list x.lit (before ++ after) (watchers heads watches)) in
    record {
      listed = subst P (sym past.0) (subst Q (sym watches1_are) listed);
      lits = ap watch_lits watches1_are ∙ map-set_same lit watches p z1 x refl;
      heads_room = ap length past.0;
    }

-- what a move leaves
pub record IsMoved (heads : List (Option ℕ)) (watches : List Watch) (w : ℕ) (to : ℤ) (heads2 : List (Option ℕ)) (watches2 : List Watch) : Type 0 where
  pub linked : AreLinked heads2 watches2
  pub lits : watch_lits watches2 ≡ set (watch_lits watches) w to
  pub front : watchers heads2 watches2 to ≡ w ∷ watchers heads watches to
  pub left : (x : Watch) (before after : List ℕ) → slice_get watches w ≡ Some x → watchers heads watches x.lit ≡ before ++ w ∷ after → watchers heads2 watches2 x.lit ≡ before ++ after
  pub others : (x : Watch) (l : ℤ) → slice_get watches w ≡ Some x → l ≢ to → l ≢ x.lit → watchers heads2 watches2 l ≡ watchers heads watches l

moved_at : (heads : List (Option ℕ)) (watches : List Watch) (w : ℕ) (x : Watch) (before after : List ℕ) (to : ℤ) (search : ℕ) (heads1 : List (Option ℕ)) (watches1 : List Watch) (previous : Option ℕ) → IsAt heads watches w x before after → last_of before ≡ previous → lit_index to < length heads → to ≢ x.lit → LeadsPast heads watches x previous heads1 watches1 → IsMoved heads watches w to (set heads1 (lit_index to) (Some w)) (set watches1 w (record { lit = to; next = head_of heads1 to; search = search }))
moved_at heads watches w x before after to search heads1 watches1 previous at last lt ne past =
    let y : Watch = record { lit = to; next = head_of heads1 to; search = search } in
    let old = watchers heads watches in
    let list = with_list x.lit (before ++ after) old in
    let all_lists = with_list to (w ∷ list to) list in
    let heads2 = set heads1 (lit_index to) (Some w) in
    let watches2 = set watches1 w y in
    let f = freed heads watches w x before after y heads1 watches1 previous at last lt past in
    let within : w < length watches1 = (let lt_w = slice_get_within watches w x at.here in let a = length-map watches1 lit in let b = length-map watches lit in let e = ap length f.lits in omega arith) in
    let room : lit_index to < length heads1 = (let e = f.heads_room in omega arith) in
    let all = listed_front w y heads1 watches2 list f.listed (slice_get-set_same watches1 w y within) refl room in
    let are = watchers_are heads2 watches2 all_lists all in
    let once = distinct heads watches w x before after at in
    let left : (b a : List ℕ) → old x.lit ≡ b ++ w ∷ a → watchers heads2 watches2 x.lit ≡ b ++ a = λ b a parts. are x.lit ∙ with_list-other to (w ∷ list to) list x.lit (λ e. ne (sym e)) ∙ with_list-same x.lit (before ++ after) old ∙ same_rest before after w b a once (sym at.parts ∙ parts) in
    let others : (l : ℤ) → l ≢ to → l ≢ x.lit → watchers heads2 watches2 l ≡ old l = λ l not_to not_from. are l ∙ with_list-other to (w ∷ list to) list l not_to ∙ with_list-other x.lit (before ++ after) old l not_from in
    let Left : Watch → Type 0 = λ z. (b a : List ℕ) → old z.lit ≡ b ++ w ∷ a → watchers heads2 watches2 z.lit ≡ b ++ a in
    let Others : Watch → Type 0 = λ z. (l : ℤ) → l ≢ to → l ≢ z.lit → watchers heads2 watches2 l ≡ old l in
    let same : (z : Watch) → slice_get watches w ≡ Some z → x ≡ z = λ z there. same_Some x z (sym at.here ∙ there) in
    record {
      linked = AreLinked-listed heads2 watches2 all_lists all;
      lits = map-set lit watches1 w y ∙ ap (λ ls. set ls w to) f.lits;
      front = are to ∙ with_list-same to (w ∷ list to) list ∙ ap (λ ws. w ∷ ws) (with_list-other x.lit (before ++ after) old to ne);
      left = λ z b a there. subst Left (same z there) left b a;
      others = λ z l there. subst Others (same z there) others l;
    }

pub moved : (heads : List (Option ℕ)) (watches : List Watch) (w : ℕ) (to : ℤ) (search : ℕ) (previous : Option ℕ) (heads1 heads2 : List (Option ℕ)) (watches1 watches2 : List Watch) → AreLinked heads watches → (s : StandsBehind heads watches previous w) → lit_index to < length heads → to ≢ s.watch.lit → LeadsPast heads watches s.watch previous heads1 watches1 → heads2 ≡ set heads1 (lit_index to) (Some w) → watches2 ≡ set watches1 w (record { lit = to; next = head_of heads1 to; search = search }) → IsMoved heads watches w to heads2 watches2
moved heads watches w to search previous heads1 heads2 watches1 watches2 h s lt ne past heads_are watches_are =
    let y : Watch = record { lit = to; next = head_of heads1 to; search = search } in
    let P : List (Option ℕ) → Type 0 = λ hs. IsMoved heads watches w to hs watches2 in
    let Q : List Watch → Type 0 = λ ws. IsMoved heads watches w to (set heads1 (lit_index to) (Some w)) ws in
    let at : IsAt heads watches w s.watch s.before s.after = record { linked = h; here = s.here; parts = s.in_list } in
    subst P (sym heads_are) (subst Q (sym watches_are) (moved_at heads watches w s.watch s.before s.after to search heads1 watches1 previous at s.behind lt ne past))
