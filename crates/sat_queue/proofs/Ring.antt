-- The ring of variables, made and changed.
use Rattle.std.proofs.Common.{◌≡◌, ℕ, zero, suc, ◌+◌, ◌<◌, ◌≤◌, false, eqb, List, [], ◌∷◌, ◌++◌, length, get_or, set, reverse, refl, ap, sym, ◌∙◌, subst, arith}
use Rattle.std.specs.List.{list_any, IsDistinct, AllByRecursion, All, range_with_len, slice_get}
use Rattle.std.proofs.lemmas.Map.Keys.{IsDistinct-tail}
use Rattle.std.proofs.lemmas.Bool.{or_parts, eqb-false, ne_eqb, true_from_ne_false}
use Rattle.std.proofs.lemmas.List.{append_assoc, append-nil, reverse-append, length-append, length-set}
use Rattle.std.proofs.lemmas.List.Elements.{recursion_from_All, All-from_recursion}
use Rattle.std.proofs.lemmas.List.FromFn.{length-range_with_len, get_or-range_with_len}
use Rattle.sat_trail.proofs.LiteralValues.{IsVar, room_for, zero_apart}
use Rattle.sat_queue.specs.Order.{IsOrder, with_front, from_on, follower}
use Rattle.sat_queue.specs.Linked.{list_of, Leads, named, IsRing}
use Rattle.sat_queue.proofs.Distinctness.{absent_before, Absent, absent_cons, absent-left, absent-right, absent-reverse, distinct_first, distinct_more, distinct_without, distinct-reverse, Stands, stands, with_front-parts, follower-parts, from_on-parts, from_on-absent, reverse-parts}
use Rattle.sat_queue.proofs.LinkPaths.{last_of, head_of, head-reverse, last-reverse, Leads-split, Leads-head, Leads-last, Leads-without, Leads-with, walk-leads}

pub vars_of : (list : List ℕ) → IsOrder list → AllByRecursion (IsVar (length list)) list
vars_of list h = recursion_from_All (IsVar (length list)) list h.in_range

pub zero_absent : (list : List ℕ) → IsOrder list → Absent 0 list
zero_absent list h = zero_apart (length list) list (vars_of list h)

-- every variable stands somewhere
pub var_stands : (list : List ℕ) (v : ℕ) → IsOrder list → 0 < v → v ≤ length list → Stands v list
var_stands list v h positive within =
    stands v list (true_from_ne_false (list_any (eqb v) list) (λ e. let fewer = room_for (length list) list v h.distinct (vars_of list h) (positive, within) e in omega arith))

after_absent : (list : List ℕ) (v : ℕ) → IsOrder list → (s : Stands v list) → Absent v s.after
after_absent list v h s =
    let P : List ℕ → Type 0 = λ ls. IsDistinct eqb ls in
    absent-right v s.before s.after (distinct_without s.before s.after v (subst P s.parts h.distinct)).1

pub ring_next : (next prev list : List ℕ) (v : ℕ) → IsRing next prev list → (s : Stands v list) → get_or next v 0 ≡ head_of s.after 0
ring_next next prev list v h s =
    let P : List ℕ → Type 0 = λ ls. Leads next 0 ls 0 in
    Leads-head next v s.after 0 (Leads-split next 0 s.before v s.after 0 (subst P s.parts h.forward)).1

backward_parts : (next prev list : List ℕ) (v : ℕ) → IsRing next prev list → (s : Stands v list) → Leads prev 0 (reverse s.after ++ v ∷ reverse s.before) 0
backward_parts next prev list v h s =
    let P : List ℕ → Type 0 = λ ls. Leads prev 0 ls 0 in
    subst P (ap reverse s.parts ∙ reverse-parts v s.before s.after) h.backward

pub ring_prev : (next prev list : List ℕ) (v : ℕ) → IsRing next prev list → (s : Stands v list) → get_or prev v 0 ≡ last_of 0 s.before
ring_prev next prev list v h s =
    Leads-head prev v (reverse s.before) 0 (Leads-split prev 0 (reverse s.after) v (reverse s.before) 0 (backward_parts next prev list v h s)).1
    ∙ head-reverse s.before 0

last_le : (a : ℕ) (xs : List ℕ) (b : ℕ) → a ≤ b → AllByRecursion (IsVar b) xs → last_of a xs ≤ b
last_le a [] b le h = le
last_le a (x ∷ xs) b le h = last_le x xs b h.0.1 h.1

pub head_le : (xs : List ℕ) (b : ℕ) → AllByRecursion (IsVar b) xs → head_of xs 0 ≤ b
head_le [] b h = omega arith
head_le (x ∷ xs) b h = h.0.1

all_parts : (b : ℕ) (xs : List ℕ) (v : ℕ) (ys : List ℕ) → AllByRecursion (IsVar b) (xs ++ v ∷ ys) → AllByRecursion (IsVar b) xs × IsVar b v × AllByRecursion (IsVar b) ys × AllByRecursion (IsVar b) (xs ++ ys)
all_parts b [] v ys h = (tt, h.0, h.1, h.1)
all_parts b (x ∷ xs) v ys h =
    let rest = all_parts b xs v ys h.1 in
    ((h.0, rest.0), rest.1, rest.2, (h.0, rest.3))

-- the neighbours of a variable are variables, or 0
pub neighbours : (next prev list : List ℕ) (v : ℕ) → IsRing next prev list → Stands v list → (get_or next v 0 ≤ length list) × (get_or prev v 0 ≤ length list)
neighbours next prev list v h s =
    let P : List ℕ → Type 0 = λ ls. AllByRecursion (IsVar (length list)) ls in
    let parts = all_parts (length list) s.before v s.after (subst P s.parts (vars_of list h.order)) in
    let after = head_le s.after (length list) parts.2 in
    let before = last_le 0 s.before (length list) (omega arith) parts.0 in
    (omega (arith, ring_next next prev list v h s), omega (arith, ring_prev next prev list v h s))

-- the rest of the list, without the variable
abbrev pub others : {v : ℕ} {list : List ℕ} → Stands v list → List ℕ
others s = s.before ++ s.after

zero_apart_from : (list : List ℕ) (v : ℕ) → IsOrder list → (s : Stands v list) → Absent 0 (s.before ++ v ∷ s.after)
zero_apart_from list v h s = let P : List ℕ → Type 0 = λ ls. Absent 0 ls in subst P s.parts (zero_absent list h)

distinct_parts : (list : List ℕ) (v : ℕ) → IsOrder list → (s : Stands v list) → IsDistinct eqb (s.before ++ v ∷ s.after)
distinct_parts list v h s = let P : List ℕ → Type 0 = λ ls. IsDistinct eqb ls in subst P s.parts h.distinct

-- without a variable, the links lead through the others, both ways
pub unlinked : (next prev list : List ℕ) (v : ℕ) → IsRing next prev list → (s : Stands v list) → Leads (set next (get_or prev v 0) (get_or next v 0)) 0 (others s) 0 × Leads (set prev (get_or next v 0) (get_or prev v 0)) 0 (reverse (others s)) 0
unlinked next prev list v h s =
    let near = neighbours next prev list v h s in
    let p_is = ring_prev next prev list v h s in
    let n_is = ring_next next prev list v h s in
    let n_too : get_or next v 0 ≡ last_of 0 (reverse s.after) = n_is ∙ sym (last-reverse s.after 0) in
    let p_lt : last_of 0 s.before < length next = (let room = h.next_room in let le = near.1 in omega arith) in
    let n_lt : last_of 0 (reverse s.after) < length prev = (let room = h.prev_room in let le = near.0 in omega arith) in
    let P : List ℕ → Type 0 = λ ls. Leads next 0 ls 0 in
    let Q : ℕ → Type 0 = λ p. Leads (set next p (get_or next v 0)) 0 (others s) 0 in
    let R : ℕ → Type 0 = λ n. Leads (set prev n (get_or prev v 0)) 0 (reverse s.after ++ reverse s.before) 0 in
    let S : List ℕ → Type 0 = λ ls. Leads (set prev (get_or next v 0) (get_or prev v 0)) 0 ls 0 in
    let D : List ℕ → Type 0 = λ ls. IsDistinct eqb (0 ∷ ls) in
    let distinct = distinct_more 0 (s.before ++ v ∷ s.after) (zero_apart_from list v h.order s) (distinct_parts list v h.order s) in
    let turned = distinct_more 0 (reverse (s.before ++ v ∷ s.after)) (absent-reverse 0 (s.before ++ v ∷ s.after) (zero_apart_from list v h.order s)) (distinct-reverse (s.before ++ v ∷ s.after) (distinct_parts list v h.order s)) in (
      subst Q (sym p_is) (Leads-without next 0 s.before v s.after 0 distinct p_lt (subst P s.parts h.forward)),
      subst S (sym (reverse-append s.before s.after)) (subst R (sym n_too) (Leads-without prev 0 (reverse s.after) v (reverse s.before) 0 (subst D (reverse-parts v s.before s.after) turned) n_lt (backward_parts next prev list v h s))),
    )

-- a variable that stands nowhere comes to the front
pub linked_front : (next prev list : List ℕ) (v : ℕ) → IsDistinct eqb (0 ∷ list) → Absent v (0 ∷ list) → 0 < length next → v < length next → v < length prev → get_or next 0 0 < length prev → Leads next 0 list 0 → Leads prev 0 (reverse list) 0 → Leads (set (set next 0 v) v (get_or next 0 0)) 0 (v ∷ list) 0 × Leads (set (set prev (get_or next 0 0) v) v 0) 0 (reverse (v ∷ list)) 0
linked_front next prev list v distinct absent zero_lt next_lt prev_lt first_lt forward backward =
    let first : get_or next 0 0 ≡ last_of 0 (reverse list) = Leads-head next 0 list 0 forward ∙ sym (last-reverse list 0) in
    let last_lt : last_of 0 (reverse list) < length prev = omega arith in
    let P : List ℕ → Type 0 = λ ls. Leads prev 0 ls 0 in
    let D : List ℕ → Type 0 = λ ls. IsDistinct eqb (0 ∷ ls) in
    let A : List ℕ → Type 0 = λ ls. Absent v (0 ∷ ls) in
    let Q : ℕ → Type 0 = λ f. Leads (set (set prev f v) v 0) 0 (reverse list ++ v ∷ []) 0 in
    let R : List ℕ → Type 0 = λ ls. Leads (set (set prev (get_or next 0 0) v) v 0) 0 ls 0 in
    let apart = absent_cons v 0 (reverse list) (λ e. let z = absent-left v (0 ∷ []) list absent in eqb-false v 0 (or_parts (eqb v 0) false z).0 e) (absent-reverse v list (absent-right v (0 ∷ []) list absent)) in
    let turned = distinct_more 0 (reverse list) (absent-reverse 0 list (distinct_first 0 list distinct)) (distinct-reverse list (IsDistinct-tail eqb 0 list distinct)) in
    let nil = sym (append-nil (reverse list)) in (
      Leads-with next 0 [] v list 0 (get_or next 0 0) distinct absent zero_lt next_lt refl forward,
      subst R (sym (reverse-append (v ∷ []) list))
          (subst Q (sym first) (Leads-with prev 0 (reverse list) v [] 0 0 (subst D nil turned) (subst A nil apart) last_lt prev_lt (sym (Leads-last prev 0 (reverse list) 0 backward)) (subst P nil backward))),
    )

pub order_front : (list : List ℕ) (v : ℕ) → IsOrder list → (s : Stands v list) → IsOrder (v ∷ others s)
order_front list v h s =
    let without = distinct_without s.before s.after v (distinct_parts list v h s) in
    let same : length (v ∷ others s) ≡ length list = (let e = ap length s.parts in let a = length-append s.before (v ∷ s.after) in let b = length-append s.before s.after in omega arith) in
    let P : List ℕ → Type 0 = λ ls. AllByRecursion (IsVar (length list)) ls in
    let parts = all_parts (length list) s.before v s.after (subst P s.parts (vars_of list h)) in
    let Q : ℕ → Type 0 = λ n. All (IsVar n) (v ∷ others s) in
    record {
      distinct = distinct_more v (others s) without.1 without.0;
      in_range = subst Q (sym same) (All-from_recursion (IsVar (length list)) (v ∷ others s) (parts.1, parts.3));
    }

pub ring_front : (next prev list next1 prev1 : List ℕ) (v : ℕ) → IsRing next prev list → (s : Stands v list) → 0 < v → v ≤ length list → next1 ≡ set next (get_or prev v 0) (get_or next v 0) → prev1 ≡ set prev (get_or next v 0) (get_or prev v 0) → IsRing (set (set next1 0 v) v (get_or next1 0 0)) (set (set prev1 (get_or next1 0 0) v) v 0) (v ∷ others s)
ring_front next prev list next1 prev1 v h s positive within next_is prev_is =
    let without = distinct_without s.before s.after v (distinct_parts list v h.order s) in
    let out = unlinked next prev list v h s in
    let P : List ℕ → Type 0 = λ f. Leads f 0 (others s) 0 in
    let Q : List ℕ → Type 0 = λ f. Leads f 0 (reverse (others s)) 0 in
    let forward = subst P (sym next_is) out.0 in
    let backward = subst Q (sym prev_is) out.1 in
    let next_room : length next1 ≡ length list + 1 = ap length next_is ∙ length-set next (get_or prev v 0) (get_or next v 0) ∙ h.next_room in
    let prev_room : length prev1 ≡ length list + 1 = ap length prev_is ∙ length-set prev (get_or next v 0) (get_or prev v 0) ∙ h.prev_room in
    let A : List ℕ → Type 0 = λ ls. AllByRecursion (IsVar (length list)) ls in
    let parts = all_parts (length list) s.before v s.after (subst A s.parts (vars_of list h.order)) in
    let first_le : get_or next1 0 0 ≤ length list = (let le = head_le (others s) (length list) parts.3 in let e = Leads-head next1 0 (others s) 0 forward in omega arith) in
    let zero_free : Absent 0 (others s) = zero_apart (length list) (others s) parts.3 in
    let front = linked_front next1 prev1 (others s) v (distinct_more 0 (others s) zero_free without.0) (absent_cons v 0 (others s) (λ e. omega arith) without.1) (omega arith) (omega arith) (omega arith) (omega arith) forward backward in
    let order = order_front list v h.order s in
    let same : length (v ∷ others s) ≡ length list = (let e = ap length s.parts in let a = length-append s.before (v ∷ s.after) in let b = length-append s.before s.after in omega arith) in
    record {
      few = (let few = h.few in omega arith);
      next_room = length-set (set next1 0 v) v (get_or next1 0 0) ∙ length-set next1 0 v ∙ next_room ∙ ap (λ n. n + 1) (sym same);
      prev_room = length-set (set prev1 (get_or next1 0 0) v) v 0 ∙ length-set prev1 (get_or next1 0 0) v ∙ prev_room ∙ ap (λ n. n + 1) (sym same);
      order = order;
      forward = front.0;
      backward = front.1;
    }

-- the list that is walked is that of the ring
pub list_of-ring : (next prev list : List ℕ) → IsRing next prev list → list_of next ≡ list
list_of-ring next prev list h =
    let room = h.next_room in
    walk-leads next 0 list (length next) h.forward (each list (vars_of list h.order)) (omega arith)
  where
    each : (xs : List ℕ) → AllByRecursion (IsVar (length list)) xs → AllByRecursion (λ x. 0 < x) xs
    each [] k = tt
    each (x ∷ xs) k = (k.0.0, each xs k.1)

pub front_is : (list : List ℕ) (v : ℕ) → IsOrder list → (s : Stands v list) → with_front v list ≡ v ∷ others s
front_is list v h s = ap (with_front v) s.parts ∙ with_front-parts v s.before s.after s.first (after_absent list v h s)

named-head : (xs : List ℕ) (b : ℕ) → AllByRecursion (IsVar b) xs → named (head_of xs 0) ≡ slice_get xs 0
named-head [] b h = refl
named-head (x ∷ xs) b h = let positive = h.0.0 in rw (ne_eqb x 0 (λ e. omega arith)) refl

pub first_is : (next prev list : List ℕ) → IsRing next prev list → named (get_or next 0 0) ≡ slice_get list 0
first_is next prev list h = ap named (Leads-head next 0 list 0 h.forward) ∙ named-head list (length list) (vars_of list h.order)

pub after_is : (next prev list : List ℕ) (v : ℕ) → IsRing next prev list → Stands v list → named (get_or next v 0) ≡ follower v list
after_is next prev list v h s =
    let P : List ℕ → Type 0 = λ ls. AllByRecursion (IsVar (length list)) ls in
    let parts = all_parts (length list) s.before v s.after (subst P s.parts (vars_of list h.order)) in
    ap named (ring_next next prev list v h s)
    ∙ named-head s.after (length list) parts.2
    ∙ sym (ap (follower v) s.parts ∙ follower-parts v s.before s.after s.first)

vars_reverse : (b : ℕ) (xs : List ℕ) → AllByRecursion (IsVar b) xs → AllByRecursion (IsVar b) (reverse xs)
vars_reverse b [] h = tt
vars_reverse b (x ∷ xs) h =
    let P : List ℕ → Type 0 = λ ls. AllByRecursion (IsVar b) ls in
    subst P (sym (reverse-append (x ∷ []) xs)) (push (reverse xs) (vars_reverse b xs h.1))
  where
    push : (ys : List ℕ) → AllByRecursion (IsVar b) ys → AllByRecursion (IsVar b) (ys ++ x ∷ [])
    push [] k = (h.0, tt)
    push (y ∷ ys) k = (k.0, push ys k.1)

pub before_is : (next prev list : List ℕ) (v : ℕ) → IsRing next prev list → Stands v list → named (get_or prev v 0) ≡ follower v (reverse list)
before_is next prev list v h s =
    let P : List ℕ → Type 0 = λ ls. AllByRecursion (IsVar (length list)) ls in
    let parts = all_parts (length list) s.before v s.after (subst P s.parts (vars_of list h.order)) in
    ap named (ring_prev next prev list v h s ∙ sym (head-reverse s.before 0))
    ∙ named-head (reverse s.before) (length list) (vars_reverse (length list) s.before parts.0)
    ∙ sym (ap (λ ls. follower v (reverse ls)) s.parts ∙ ap (follower v) (reverse-parts v s.before s.after) ∙ follower-parts v (reverse s.after) (reverse s.before) (absent-reverse v s.after (after_absent list v h.order s)))

-- a step along the links
pub from_on-step : (next prev list : List ℕ) (v : ℕ) → IsRing next prev list → Stands v list → from_on v list ≡ v ∷ from_on (get_or next v 0) list
from_on-step next prev list v h s =
    ap (from_on v) s.parts
    ∙ from_on-parts v s.before s.after s.first
    ∙ ap (λ r. v ∷ r) (sym (rest s.after refl))
  where
    rest : (ys : List ℕ) → s.after ≡ ys → from_on (get_or next v 0) list ≡ ys
    rest [] is =
        ap (λ n. from_on n list) (ring_next next prev list v h s ∙ ap (λ ls. head_of ls 0) is)
        ∙ from_on-absent 0 list (zero_absent list h.order)
    rest (y ∷ ys) is =
        let whole : list ≡ (s.before ++ v ∷ []) ++ y ∷ ys = s.parts ∙ ap (λ ls. s.before ++ v ∷ ls) is ∙ sym (append_assoc s.before (v ∷ []) (y ∷ ys)) in
        let D : List ℕ → Type 0 = λ ls. IsDistinct eqb ls in
        let first = absent_before (s.before ++ v ∷ []) ys y (subst D whole h.order.distinct) in
        ap (λ n. from_on n list) (ring_next next prev list v h s ∙ ap (λ ls. head_of ls 0) is)
        ∙ ap (from_on y) whole
        ∙ from_on-parts y (s.before ++ v ∷ []) ys first

-- ---- a new ring

leads_up : (f : List ℕ) (total a k : ℕ) → ((v : ℕ) → v < total → get_or f v 0 ≡ v + 1) → get_or f total 0 ≡ 0 → a + k ≡ total → Leads f a (range_with_len (a + 1) k) 0
leads_up f total a zero each last sum = ap (λ n. get_or f n 0) (let e : a ≡ total = omega arith in e) ∙ last
leads_up f total a (suc k) each last sum = (each a (omega arith), leads_up f total (a + 1) k each last (omega arith))

range-push : (a n : ℕ) → range_with_len a (suc n) ≡ range_with_len a n ++ (a + n) ∷ []
range-push a zero = ap (λ x. x ∷ []) (omega arith)
range-push a (suc n) = ap (λ r. a ∷ r) (range-push (a + 1) n ∙ ap (λ x. range_with_len (a + 1) n ++ x ∷ []) (omega arith))

leads_down : (f : List ℕ) (total b m : ℕ) → ((v : ℕ) → v < total → get_or f (v + 1) 0 ≡ v) → m ≤ total → get_or f b 0 ≡ m → Leads f b (reverse (range_with_len 1 m)) 0
leads_down f total b zero each le is = is
leads_down f total b (suc m) each le is =
    let P : List ℕ → Type 0 = λ ls. Leads f b ls 0 in
    let turned : reverse (range_with_len 1 (suc m)) ≡ (1 + m) ∷ reverse (range_with_len 1 m) = ap reverse (range-push 1 m) ∙ reverse-append (range_with_len 1 m) ((1 + m) ∷ []) in
    let below : m < total = omega arith in
    let next : get_or f (1 + m) 0 ≡ m = ap (λ n. get_or f n 0) (let e : 1 + m ≡ m + 1 = omega arith in e) ∙ each m below in
    subst P (sym turned) (is ∙ (let e : suc m ≡ 1 + m = omega arith in e), leads_down f total (1 + m) m each (omega arith) next)

range_absent : (x a n : ℕ) → x < a → Absent x (range_with_len a n)
range_absent x a zero lt = refl
range_absent x a (suc n) lt = absent_cons x a (range_with_len (a + 1) n) (λ e. omega arith) (range_absent x (a + 1) n (omega arith))

range_distinct : (a n : ℕ) → IsDistinct eqb (range_with_len a n)
unfolding IsDistinct
range_distinct a zero = tt
range_distinct a (suc n) = distinct_more a (range_with_len (a + 1) n) (range_absent a (a + 1) n (omega arith)) (range_distinct (a + 1) n)

pub order_range : (n : ℕ) → IsOrder (range_with_len 1 n)
order_range n =
    let len = length-range_with_len 1 n in
    record {
      distinct = range_distinct 1 n;
      in_range = λ k d lt. let there : k < n = omega arith in let e = get_or-range_with_len 1 n k d there in (omega arith, omega arith);
    }

pub ring_new : (vars : ℕ) (next prev : List ℕ) → vars ≤ 4000000 → length next ≡ vars + 1 → ((v : ℕ) → v < vars → get_or next v 0 ≡ v + 1) → get_or next vars 0 ≡ 0 → length prev ≡ vars + 1 → ((v : ℕ) → v < vars → get_or prev (v + 1) 0 ≡ v) → get_or prev 0 0 ≡ vars → IsRing next prev (range_with_len 1 vars)
ring_new vars next prev few next_room up up_last prev_room down down_last =
    let len = length-range_with_len 1 vars in
    record {
      few = omega arith;
      next_room = omega arith;
      prev_room = omega arith;
      order = order_range vars;
      forward = leads_up next vars 0 vars up up_last (omega arith);
      backward = leads_down prev vars 0 vars down (omega arith) down_last;
    }

-- ---- what is kept after a change

pub record Moved (v : ℕ) (old next prev : List ℕ) : Type 0 where
  pub ring : IsRing next prev (list_of next)
  pub list : list_of next ≡ with_front v (list_of old)

pub moved : (next prev next1 prev1 : List ℕ) (v : ℕ) → IsRing next prev (list_of next) → 0 < v → v ≤ length (list_of next) → next1 ≡ set next (get_or prev v 0) (get_or next v 0) → prev1 ≡ set prev (get_or next v 0) (get_or prev v 0) → Moved v next (set (set next1 0 v) v (get_or next1 0 0)) (set (set prev1 (get_or next1 0 0) v) v 0)
moved next prev next1 prev1 v h positive within next_is prev_is =
    let s = var_stands (list_of next) v h.order positive within in
    let next2 = set (set next1 0 v) v (get_or next1 0 0) in
    let prev2 = set (set prev1 (get_or next1 0 0) v) v 0 in
    let ring = ring_front next prev (list_of next) next1 prev1 v h s positive within next_is prev_is in
    let walked : list_of next2 ≡ v ∷ others s = list_of-ring next2 prev2 (v ∷ others s) ring in
    let P : List ℕ → Type 0 = λ ls. IsRing next2 prev2 ls in
    record { ring = subst P (sym walked) ring; list = walked ∙ sym (front_is (list_of next) v h.order s) }

-- where the first link leads after one was taken out
pub first_in_range : (next prev next1 : List ℕ) (v : ℕ) → IsRing next prev (list_of next) → 0 < v → v ≤ length (list_of next) → next1 ≡ set next (get_or prev v 0) (get_or next v 0) → get_or next1 0 0 ≤ length (list_of next)
first_in_range next prev next1 v h positive within next_is =
    let list = list_of next in
    let s = var_stands list v h.order positive within in
    let P : List ℕ → Type 0 = λ f. Leads f 0 (others s) 0 in
    let A : List ℕ → Type 0 = λ ls. AllByRecursion (IsVar (length list)) ls in
    let forward = subst P (sym next_is) (unlinked next prev list v h s).0 in
    let le = head_le (others s) (length list) (all_parts (length list) s.before v s.after (subst A s.parts (vars_of list h.order))).3 in
    let e = Leads-head next1 0 (others s) 0 forward in
    omega arith

pub neighbours_in_range : (next prev : List ℕ) (v : ℕ) → IsRing next prev (list_of next) → 0 < v → v ≤ length (list_of next) → (get_or next v 0 ≤ length (list_of next)) × (get_or prev v 0 ≤ length (list_of next))
neighbours_in_range next prev v h positive within =
    neighbours next prev (list_of next) v h (var_stands (list_of next) v h.order positive within)
