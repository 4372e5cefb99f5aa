-- Watches in their lists.
use Rattle.std.proofs.Common.{◌≡◌, ◌≢◌, ℕ, ◌+◌, ◌<◌, ◌≤◌, eqb, ℤ, Option, None, Some, List, [], ◌∷◌, ◌++◌, length, set, take, get_or, replicate, refl, ap, sym, ◌∙◌, subst, arith, inl, inr}
use Rattle.std.specs.List.{Contains, IsDistinct, All, slice_get}
use Rattle.std.specs.Option.{option_map, option_and_then}
use Rattle.std.proofs.Math.Seq.{map-set_same}
use Rattle.std.proofs.lemmas.Bool.{cases_eq, cases_lt}
use Rattle.std.proofs.lemmas.Option.{slice_get_within, same_Some, slice_get-map}
use Rattle.std.proofs.lemmas.List.{length-map, map_push, length-append, length_push, length-set, length-take-le, take_more_set, length-replicate, get_or-replicate, get_or_past}
use Rattle.std.proofs.lemmas.List.Elements.{All-push, All-set}
use Rattle.sat_watch.specs.declared.links.Watch.{Watch}
use Rattle.sat_watch.specs.Links.{watch_lits, next_of, chain, head_of, watchers, Leads, AreLinked}
use Rattle.cnf_base.specs.Literal.{lit_index}
use Rattle.sat_watch.proofs.Distinctness.{contains_here, contains_later, contains_where, distinct_cons, few_below}
use Rattle.sat_watch.proofs.Chains.{chain-leads, Leads-rest, Leads-split, Leads-first, Leads-same}
use Rattle.sat_watch.proofs.Slots.{head-set_same, head-set_other, with_list, each_with, slice_get-left, slice_get-end}

-- each watch stands once, in the list of its literal, where these are the lists
pub record AreListed (heads : List (Option ℕ)) (watches : List Watch) (list : ℤ → List ℕ) : Type 0 where
  pub in_range : All (λ (x : Watch). lit_index x.lit < length heads) watches
  pub leads : (l : ℤ) → Leads watches (head_of heads l) (list l) None
  pub has_all : (v : ℕ) (l : ℤ) → slice_get (watch_lits watches) v ≡ Some l → Contains (list l) v
  pub has_only : (v : ℕ) (l : ℤ) → Contains (list l) v → slice_get (watch_lits watches) v ≡ Some l
  pub once : (l : ℤ) → IsDistinct eqb (list l)

pub lit_within : (watches : List Watch) (v : ℕ) (l : ℤ) → slice_get (watch_lits watches) v ≡ Some l → v < length watches
lit_within watches v l e =
    let lt = slice_get_within (watch_lits watches) v l e in
    let len = length-map watches (λ (x : Watch). x.lit) in
    omega arith

pub watchers_are : (heads : List (Option ℕ)) (watches : List Watch) (list : ℤ → List ℕ) → AreListed heads watches list → (l : ℤ) → watchers heads watches l ≡ list l
watchers_are heads watches list h l =
    chain-leads watches (length watches) (head_of heads l) (list l) (h.leads l) (few_below (list l) (length watches) (h.once l) (λ v c. lit_within watches v l (h.has_only v l c)))

pub AreLinked-listed : (heads : List (Option ℕ)) (watches : List Watch) (list : ℤ → List ℕ) → AreListed heads watches list → AreLinked heads watches
AreLinked-listed heads watches list h =
    let same = watchers_are heads watches list h in
    record {
      in_range = h.in_range;
      leads = λ l. (let P : List ℕ → Type 0 = λ ws. Leads watches (head_of heads l) ws None in subst P (sym (same l)) (h.leads l));
      has_all = λ v l e. (let P : List ℕ → Type 0 = λ ws. Contains ws v in subst P (sym (same l)) (h.has_all v l e));
      has_only = λ v l c. (let P : List ℕ → Type 0 = λ ws. Contains ws v in h.has_only v l (subst P (same l) c));
      once = λ l. subst (IsDistinct eqb) (sym (same l)) (h.once l);
    }

-- the lists aren't longer than all watches together
pub few_watchers : (heads : List (Option ℕ)) (watches : List Watch) (l : ℤ) → AreLinked heads watches → length (watchers heads watches l) ≤ length watches
few_watchers heads watches l h =
    few_below (watchers heads watches l) (length watches) (h.once l) (λ v c. lit_within watches v l (h.has_only v l c))

-- what is met from a watch of a list on is the rest of that list
pub rest_is : (heads : List (Option ℕ)) (watches : List Watch) (l : ℤ) (before rest : List ℕ) (at : Option ℕ) → AreLinked heads watches → watchers heads watches l ≡ before ++ rest → at ≡ slice_get rest 0 → chain (length watches) watches at ≡ rest
rest_is heads watches l before rest at h parts is =
    let P : List ℕ → Type 0 = λ ws. Leads watches (head_of heads l) ws None in
    let led = Leads-rest watches (head_of heads l) before rest (subst P parts (h.leads l)) in
    let few : length rest ≤ length watches = (let all = few_watchers heads watches l h in let e = ap length parts in let sum = length-append before rest in omega arith) in
    ap (chain (length watches) watches) is ∙ chain-leads watches (length watches) (slice_get rest 0) rest led few

pub next_is : (heads : List (Option ℕ)) (watches : List Watch) (l : ℤ) (before : List ℕ) (w : ℕ) (after : List ℕ) → AreLinked heads watches → watchers heads watches l ≡ before ++ w ∷ after → next_of watches w ≡ slice_get after 0
next_is heads watches l before w after h parts =
    let P : List ℕ → Type 0 = λ ws. Leads watches (head_of heads l) ws None in
    Leads-first watches (next_of watches w) after (Leads-split watches (head_of heads l) before w after None (subst P parts (h.leads l))).1

pub none_linked : (heads : List (Option ℕ)) → ((l : ℤ) → head_of heads l ≡ None) → AreLinked heads []
unfolding IsDistinct
none_linked heads none =
    record {
      in_range = λ k d lt. absurd (omega arith);
      leads = none;
      has_all = λ w l e. cc;
      has_only = λ w l c. (let lt = c.1 in absurd (omega arith));
      once = λ l. tt;
    }

pub none_linked_new : (n : ℕ) → AreLinked (replicate n None) []
none_linked_new n = none_linked (replicate n None) (λ l. elim (cases_lt (lit_index l) n) [
  | inl lt ↦ get_or-replicate n (lit_index l) None None lt
  | inr ge ↦ get_or_past (replicate n None) (lit_index l) None (let len = length-replicate {A = Option ℕ} n None in omega arith)
])

-- the same of all watches but this one, which stands in no list
pub record AreListedBut (w : ℕ) (heads : List (Option ℕ)) (watches : List Watch) (list : ℤ → List ℕ) : Type 0 where
  pub in_range : All (λ (x : Watch). lit_index x.lit < length heads) watches
  pub leads : (l : ℤ) → Leads watches (head_of heads l) (list l) None
  pub has_all : (v : ℕ) (l : ℤ) → v ≢ w → slice_get (watch_lits watches) v ≡ Some l → Contains (list l) v
  pub has_only : (v : ℕ) (l : ℤ) → Contains (list l) v → (v ≢ w) × (slice_get (watch_lits watches) v ≡ Some l)
  pub once : (l : ℤ) → IsDistinct eqb (list l)

pub lit_at : (watches : List Watch) (w : ℕ) (x : Watch) → slice_get watches w ≡ Some x → slice_get (watch_lits watches) w ≡ Some x.lit
lit_at watches w x e = slice_get-map (λ (y : Watch). y.lit) watches w ∙ ap (option_map (λ (y : Watch). y.lit)) e

-- it comes to the front of its literal's list
pub listed_front : (w : ℕ) (x : Watch) (heads : List (Option ℕ)) (watches : List Watch) (list : ℤ → List ℕ) → AreListedBut w heads watches list → slice_get watches w ≡ Some x → x.next ≡ head_of heads x.lit → lit_index x.lit < length heads → AreListed (set heads (lit_index x.lit) (Some w)) watches (with_list x.lit (w ∷ list x.lit) list)
listed_front w x heads watches list h here next lt =
    let lit = x.lit in
    let more = set heads (lit_index lit) (Some w) in
    let its = lit_at watches w x here in
    let led : next_of watches w ≡ head_of heads lit = ap (option_and_then (λ (y : Watch). y.next)) here ∙ next in
    let P : Option ℕ → Type 0 = λ o. Leads watches o (list lit) None in
    let Range : ℕ → Type 0 = λ n. All (λ (y : Watch). lit_index y.lit < n) watches in
    let LeadsTo : ℤ → List ℕ → Type 0 = λ l ws. Leads watches (head_of more l) ws None in
    let HasAll : ℤ → List ℕ → Type 0 = λ l ws. (v : ℕ) → slice_get (watch_lits watches) v ≡ Some l → Contains ws v in
    let HasOnly : ℤ → List ℕ → Type 0 = λ l ws. (v : ℕ) → Contains ws v → slice_get (watch_lits watches) v ≡ Some l in
    let Once : ℤ → List ℕ → Type 0 = λ l ws. IsDistinct eqb ws in
    let Off : ℤ → Option ℕ → Type 0 = λ l o. Leads watches o (list l) None in
    record {
      in_range = subst Range (sym (length-set heads (lit_index lit) (Some w))) h.in_range;
      leads = each_with LeadsTo lit (w ∷ list lit) list
          (head-set_same heads lit (Some w) lt, subst P (sym led) (h.leads lit))
          (λ l ne. subst (Off l) (sym (head-set_other heads lit l (Some w) ne)) (h.leads l));
      has_all = λ v l. each_with HasAll lit (w ∷ list lit) list
          (λ u e. elim (cases_eq w u) [
            | inl same ↦ subst (Contains (w ∷ list lit)) same (contains_here w (list lit))
            | inr ne ↦ contains_later u w (list lit) (h.has_all u lit (λ e2. ne (sym e2)) e)
          ])
          (λ m ne u e. h.has_all u m (λ same. ne (same_Some m lit (sym e ∙ ap (slice_get (watch_lits watches)) same ∙ its))) e)
          l v;
      has_only = λ v l. each_with HasOnly lit (w ∷ list lit) list
          (λ u c. elim (contains_where u w (list lit) c) [
            | inl same ↦ ap (slice_get (watch_lits watches)) (sym same) ∙ its
            | inr later ↦ (h.has_only u lit later).1
          ])
          (λ m ne u c. (h.has_only u m c).1)
          l v;
      once = each_with Once lit (w ∷ list lit) list
          (distinct_cons w (list lit) (λ c. (h.has_only w lit c).0 refl) (h.once lit))
          (λ l ne. h.once l);
    }

-- ---- watches that are linked one after another

listed_more : (heads : List (Option ℕ)) (watches : List Watch) (y : Watch) → AreLinked heads watches → lit_index y.lit < length heads → AreListedBut (length watches) heads (watches ++ y ∷ []) (watchers heads watches)
listed_more heads watches y h lt =
    let Range : Watch → Type 0 = λ x. lit_index x.lit < length heads in
    let lit : Watch → ℤ = λ x. x.lit in
    let next : Watch → Option ℕ = λ x. x.next in
    let len = length-map watches lit in
    let same : (v : ℕ) → v < length watches → slice_get (watch_lits (watches ++ y ∷ [])) v ≡ slice_get (watch_lits watches) v = λ v below.
    (ap (λ ls. slice_get ls v) (map_push lit watches y) ∙ slice_get-left (watch_lits watches) (y.lit ∷ []) v (omega arith)) in
    record {
      in_range = All-push Range watches y h.in_range lt;
      leads = λ l. Leads-same watches (watches ++ y ∷ []) (head_of heads l) (watchers heads watches l) None
          (λ v c. ap (option_and_then next) (slice_get-left watches (y ∷ []) v (lit_within watches v l (h.has_only v l c))))
          (h.leads l);
      has_all = λ v l ne e.
          (let below = lit_within (watches ++ y ∷ []) v l e in
          let more = length_push watches y in
          let lt_v : v < length watches = omega arith in
          h.has_all v l (sym (same v lt_v) ∙ e));
      has_only = λ v l c.
          (let lt_v = lit_within watches v l (h.has_only v l c) in
          let ne : v ≢ length watches = (λ e. omega arith) in
          (ne, same v lt_v ∙ h.has_only v l c));
      once = h.once;
    }

-- the watches before a place are linked, and all have these literals
pub record AreFirstLinked (place : ℕ) (heads : List (Option ℕ)) (watches : List Watch) (lits : List ℤ) : Type 0 where
  pub in_range : All (λ (x : Watch). lit_index x.lit < length heads) watches
  pub linked : AreLinked heads (take place watches)
  pub same_lits : watch_lits watches ≡ lits

linked_more : (place : ℕ) (heads : List (Option ℕ)) (watches : List Watch) (lits : List ℤ) (d : Watch) → AreFirstLinked place heads watches lits → place < length watches → (lit : ℤ) (search : ℕ) → lit ≡ (get_or watches place d).lit → AreFirstLinked (place + 1) (set heads (lit_index lit) (Some place)) (set watches place (record { lit = lit; next = head_of heads lit; search = search })) lits
linked_more place heads watches lits d h lt lit search is =
    let y : Watch = record { lit = lit; next = head_of heads lit; search = search } in
    let first = take place watches in
    let more = set heads (lit_index lit) (Some place) in
    let room : lit_index lit < length heads = subst (λ l. lit_index l < length heads) (sym is) (h.in_range place d lt) in
    let len : length first ≡ place = length-take-le place watches (omega arith) in
    let list = with_list lit (length first ∷ watchers heads first lit) (watchers heads first) in
    let P : ℕ → Type 0 = λ n. AreLinked (set heads (lit_index lit) (Some n)) (first ++ y ∷ []) in
    let Range : ℕ → Type 0 = λ n. All (λ (x : Watch). lit_index x.lit < n) (set watches place y) in
    let listed = listed_front (length first) y heads (first ++ y ∷ []) (watchers heads first) (listed_more heads first y h.linked room) (slice_get-end first y) refl room in
    let linked = AreLinked-listed (set heads (lit_index lit) (Some (length first))) (first ++ y ∷ []) list listed in
    record {
      in_range = subst Range (sym (length-set heads (lit_index lit) (Some place))) (All-set (λ (x : Watch). lit_index x.lit < length heads) watches place y room h.in_range);
      linked = subst (AreLinked more) (sym (take_more_set watches place y lt)) (subst P len linked);
      same_lits = map-set_same (λ (x : Watch). x.lit) watches place y d is ∙ h.same_lits;
    }

-- the next watch comes to the front of its literal's list
pub linked_next : (place : ℕ) (heads heads2 : List (Option ℕ)) (watches watches2 : List Watch) (lits : List ℤ) (d : Watch) (lit : ℤ) (search : ℕ) → AreFirstLinked place heads watches lits → place < length watches → lit ≡ (get_or watches place d).lit → heads2 ≡ set heads (lit_index lit) (Some place) → watches2 ≡ set watches place (record { lit = lit; next = head_of heads lit; search = search }) → AreFirstLinked (place + 1) heads2 watches2 lits
linked_next place heads heads2 watches watches2 lits d lit search h lt is heads_are watches_are =
    rw (heads_are, watches_are) (linked_more place heads watches lits d h lt lit search is)
