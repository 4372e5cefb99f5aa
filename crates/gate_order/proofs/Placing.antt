-- Places placed one after another.
use Rattle.std.proofs.Common.{◌≡◌, ◌≢◌, ℕ, inl, inr, ◌⊎◌, ◌+◌, ◌-◌, ◌<◌, ◌≤◌, ◌&&◌, Bool, true, false, nat_eq, nat_lt, List, [], ◌∷◌, ◌++◌, length, get_or, take, sum, arith, sym, ap, ◌∙◌, subst, refl, All}
use Rattle.std.specs.List.Sorted.{IsPermutation}
use Rattle.std.proofs.lemmas.Bool.{cases_eq}
use Rattle.std.proofs.lemmas.Bool.Decides.{nat_tests}
use Rattle.std.proofs.lemmas.List.{length_push, get_or_push, get_or_append_left, take-append-le, take_at}
use Rattle.std.proofs.lemmas.List.Sorted.{length_permutation, All-permutation}
use Rattle.std.proofs.lemmas.List.Elements.{All-nil, All-tail, All-push, All-weaker}
use Rattle.aig_model.specs.Literal.{number}
use Rattle.gate_order.specs.PlaceOrder.{times, is_user, blocked, waits_of, IsNextPlace, IsPlaceOrder, Releases, Queues, IsPlacing}
use Rattle.gate_order.proofs.Times.{times-nil, times-cons, times_push, times-permutation, equal_number, All-times}

-- whether a number is 0, as a number
pub zero_number : (n : ℕ) → number (nat_eq n 0) + number (nat_lt 0 n) ≡ 1
zero_number n = elim (cases_eq n 0) [ inl e ↦ rw e | inr ne ↦ some n ne ]
  where
    some : (n : ℕ) → n ≢ 0 → number (nat_eq n 0) + number (nat_lt 0 n) ≡ 1
    some n ne =
        let no : nat_eq n 0 ≡ false = grind (arith, nat_tests) in
        let yes : nat_lt 0 n ≡ true = grind (arith, nat_tests) in
        ap (λ b. number b + number (nat_lt 0 n)) no ∙ ap (λ b. 0 + number b) yes

pub some_number : (n : ℕ) → ((n ≡ 0) × (number (nat_lt 0 n) ≡ 0)) ⊎ ((0 < n) × (number (nat_lt 0 n) ≡ 1))
some_number n = elim (equal_number n 0) [ inl e ↦ inl (e.0, omega (arith, e.1, zero_number n)) | inr ne ↦ inr (omega (arith, ne.0), omega (arith, ne.1, zero_number n)) ]

-- a place that is placed blocks no use of it any more
pub blocked_more : (placed : List ℕ) (place named : ℕ) → times place placed ≡ 0
    → blocked (placed ++ place ∷ []) named + number (nat_eq named (place + 1)) ≡ blocked placed named
blocked_more placed place named new =
    let pushed = times_push (named - 1) placed place in
    elim (equal_number named (place + 1)) [
      | inl e ↦
          let here : named - 1 ≡ place = omega (arith, e.0) in
          let one : number (nat_eq place (named - 1)) ≡ 1 = elim (equal_number place (named - 1)) [ inl s ↦ s.1 | inr ne ↦ absurd (ne.0 (sym here)) ] in
          let none : times (named - 1) placed ≡ 0 = ap (λ p. times p placed) here ∙ new in
          omega (arith, e, pushed, one, none)
      | inr ne ↦ elim (cases_eq named 0) [
        | inl unused ↦ omega (arith, ne.1, unused)
        | inr some ↦
            let other : number (nat_eq place (named - 1)) ≡ 0 = elim (equal_number place (named - 1)) [ inl s ↦ absurd (ne.0 (omega (arith, s.0, some))) | inr differ ↦ differ.1 ] in
            omega (arith, ne.1, pushed, other)
      ]
    ]

-- the next place goes to the end of an order
pub order_push : (left right placed : List ℕ) (place : ℕ) → IsPlaceOrder left right placed → IsNextPlace left right placed place → IsPlaceOrder left right (placed ++ place ∷ [])
order_push left right placed place order next k h =
    elim (cases_eq k (length placed)) [
      | inl e ↦
          let front : take k (placed ++ place ∷ []) ≡ placed = take_at placed (place ∷ []) k (sym e) in
          let here : get_or (placed ++ place ∷ []) k 0 ≡ place = get_or_push placed place 0 k (sym e) in
          subst (λ (ps : List ℕ). IsNextPlace left right ps (get_or (placed ++ place ∷ []) k 0)) (sym front)
          (subst (IsNextPlace left right placed) (sym here) next)
      | inr ne ↦
          let before : k < length placed = omega (arith, h, ne, length_push placed place) in
          let front : take k (placed ++ place ∷ []) ≡ take k placed = take-append-le k placed (place ∷ []) (omega arith) in
          let here : get_or (placed ++ place ∷ []) k 0 ≡ get_or placed k 0 = get_or_append_left placed (place ∷ []) 0 k before in
          subst (λ (ps : List ℕ). IsNextPlace left right ps (get_or (placed ++ place ∷ []) k 0)) (sym front)
          (subst (IsNextPlace left right (take k placed)) (sym here) (order k before))
    ]

-- ---- the start
pub placing_start : (left right waits queue : List ℕ) → length left ≡ length waits → length right ≡ length waits
    → ((place : ℕ) → place < length waits → get_or waits place 0 ≡ waits_of left right [] place) → Queues waits (length waits) queue → IsPlacing left right waits queue []
placing_start left right waits queue left_size right_size counts is = record {
  left_size = left_size;
  right_size = right_size;
  queue_inside = is.inside;
  placed_inside = All-nil (λ place. place < length waits);
  once = λ place h. omega (arith, is.once place h, times-nil place, zero_number (get_or waits place 0));
  counts = counts;
  order = λ k h. absurd (omega (arith, h));
}

-- what is left of a count and of the queue after both sides of a place
settled : (l r : Bool) (before between after : ℕ) → between + number l ≡ before → after + number r ≡ between
    → number (l && nat_eq between 0) + number (r && nat_eq after 0) + number (nat_lt 0 after) ≡ number (nat_lt 0 before)
settled false false before between after first second =
    let same : after ≡ before = omega (arith, first, second) in omega (arith, ap (λ n. number (nat_lt 0 n)) same)
settled true false before between after first second =
    elim (some_number before) [
      | inl none ↦ absurd (omega (arith, none.0, first))
      | inr some ↦ omega (arith, some.1, zero_number between, ap (λ n. number (nat_lt 0 n)) (let same : after ≡ between = omega (arith, second) in same))
    ]
settled false true before between after first second =
    elim (some_number before) [
      | inl none ↦ absurd (omega (arith, none.0, first, second))
      | inr some ↦ omega (arith, some.1, zero_number after)
    ]
settled true true before between after first second =
    elim (some_number before) [
      | inl none ↦ absurd (omega (arith, none.0, first))
      | inr some ↦ elim (equal_number between 0) [
        | inl e ↦ absurd (omega (arith, e.0, second))
        | inr ne ↦ omega (arith, some.1, ne.1, zero_number after)
      ]
    ]

-- ---- one place more
module _ (left right waits queue placed : List ℕ) (is : IsPlacing left right waits queue placed) (place : ℕ) (shorter : List ℕ) (rest : IsPermutation queue (place ∷ shorter)) (least : All (λ other. place ≤ other) shorter) where
  rest_times : (u : ℕ) → times u queue ≡ number (nat_eq place u) + times u shorter
  rest_times u = sym (times-permutation u queue (place ∷ shorter) rest) ∙ times-cons u place shorter

  queued_here : 0 < times place queue
  queued_here = elim (equal_number place place) [ inl e ↦ omega (arith, rest_times place, e.1) | inr ne ↦ absurd (ne.0 refl) ]

  pub place_inside : place < length waits
  place_inside = All-times (λ p. p < length waits) place queue is.queue_inside queued_here

  not_placed : times place placed ≡ 0
  not_placed = omega (arith, is.once place place_inside, queued_here)

  waits_none : get_or waits place 0 ≡ 0
  waits_none = elim (some_number (get_or waits place 0)) [ inl none ↦ none.0 | inr some ↦ absurd (omega (arith, some.1, is.once place place_inside, queued_here)) ]

  -- a user waits for the place
  blocked_here : blocked placed (place + 1) ≡ 1
  blocked_here =
      let here : place + 1 - 1 ≡ place = omega arith in
      omega (arith, ap (λ p. times p placed) here, not_placed)

  pub left_waits : (user : ℕ) → user < length left → get_or left user 0 ≡ place + 1 → 0 < get_or waits user 0
  left_waits user h used = omega (arith, is.counts user (omega (arith, h, is.left_size)), ap (blocked placed) used, blocked_here)

  next_place : IsNextPlace left right placed place
  next_place = record {
    ready = sym (is.counts place place_inside) ∙ waits_none;
    least = λ other h new ready.
        let inside : other < length waits = omega (arith, h, is.left_size) in
        let none : get_or waits other 0 ≡ 0 = is.counts other inside ∙ ready in
        let queued : 0 < times other queue = elim (some_number (get_or waits other 0)) [ inl e ↦ omega (arith, e.1, new, is.once other inside) | inr some ↦ absurd (omega (arith, some.0, none)) ] in
        elim (equal_number place other) [
          | inl e ↦ omega (arith, e.0)
          | inr ne ↦ All-times (λ o. place ≤ o) other shorter least (omega (arith, rest_times other, ne.1, queued))
        ];
  }

  order_more : IsPlaceOrder left right (placed ++ place ∷ [])
  order_more = order_push left right placed place is.order next_place

  module _ (between longer : List ℕ) (first : Releases (is_user left place) waits shorter between longer) where
    pub right_waits : (user : ℕ) → user < length right → get_or right user 0 ≡ place + 1 → 0 < get_or between user 0
    right_waits user h used =
        let inside : user < length waits = omega (arith, h, is.right_size) in
        omega (arith, first.counts user inside, is.counts user inside, ap (blocked placed) used, blocked_here, blocked_more placed place (get_or left user 0) not_placed)

    module _ (after longest : List ℕ) (second : Releases (is_user right place) between longer after longest) where
      inside_between : (u : ℕ) → u < length waits → u < length between
      inside_between u h = omega (arith, h, first.size)

      inside_after : (u : ℕ) → u < length after → u < length waits
      inside_after u h = omega (arith, h, first.size, second.size)

      once_more : (u : ℕ) → u < length waits → times u longest + times u (placed ++ place ∷ []) + number (nat_lt 0 (get_or after u 0)) ≡ 1
      once_more u h =
          omega (
            arith,
            is.once u h,
            rest_times u,
            first.queued u h,
            second.queued u (inside_between u h),
            times_push u placed place,
            settled (is_user left place u) (is_user right place u) (get_or waits u 0) (get_or between u 0) (get_or after u 0) (first.counts u h) (second.counts u (inside_between u h)),
          )

      counts_less : (u : ℕ) → u < length waits → get_or after u 0 ≡ waits_of left right (placed ++ place ∷ []) u
      counts_less u h =
          omega (
            arith,
            is.counts u h,
            first.counts u h,
            second.counts u (inside_between u h),
            blocked_more placed place (get_or left u 0) not_placed,
            blocked_more placed place (get_or right u 0) not_placed,
          )

      inside_shorter : All (λ u. u < length waits) shorter
      inside_shorter = All-tail (λ u. u < length waits) place shorter (All-permutation (λ u. u < length waits) queue (place ∷ shorter) rest is.queue_inside)

      inside_longest : All (λ u. u < length after) longest
      inside_longest =
          All-weaker (λ u. u < length between) (λ u. u < length after) (λ u h. omega (arith, h, second.size)) longest
          (second.inside (All-weaker (λ u. u < length waits) (λ u. u < length between) inside_between longer (first.inside inside_shorter)))

      pub placing_more : IsPlacing left right after longest (placed ++ place ∷ [])
      placing_more = record {
        left_size = omega (arith, is.left_size, first.size, second.size);
        right_size = omega (arith, is.right_size, first.size, second.size);
        queue_inside = inside_longest;
        placed_inside = All-weaker (λ u. u < length waits) (λ u. u < length after) (λ u h. omega (arith, h, first.size, second.size)) (placed ++ place ∷ [])
            (All-push (λ u. u < length waits) placed place is.placed_inside place_inside);
        once = λ u h. once_more u (inside_after u h);
        counts = λ u h. counts_less u (inside_after u h);
        order = order_more;
      }

      pub work_less : sum after + length longest < sum waits + length queue
      work_less = omega (arith, first.work, second.work, length_permutation queue (place ∷ shorter) rest)
