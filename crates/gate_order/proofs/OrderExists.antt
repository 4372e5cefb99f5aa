-- Gates that define variables of their own have an order, or one of them depends on itself.
use Rattle.std.proofs.Common.{◌≡◌, ◌≢◌, ℕ, zero, suc, inl, inr, ◌⊎◌, ◌+◌, ◌<◌, ◌≤◌, ◌&&◌, Bool, true, false, cond, nat_eq, nat_lt, nat_le, List, [], ◌∷◌, ◌++◌, map, length, get_or, arith, sym, ap, ◌∙◌, subst, refl, All, Contains}
use Rattle.std.specs.List.{AllByRecursion, range_with_len}
use Rattle.std.specs.List.Sorted.{IsPermutation, IsNonDecreasingBy}
use Rattle.std.proofs.lemmas.Bool.{cases_eq, cases_lt}
use Rattle.std.proofs.lemmas.Bool.Decides.{nat_tests}
use Rattle.std.proofs.lemmas.List.{length_push, length-map, get_or-map}
use Rattle.std.proofs.lemmas.List.FromFn.{get_or-map-range_with_len, length-map-range_with_len}
use Rattle.std.proofs.lemmas.List.Elements.{All-nil, All-push, All-from_get_or, All-weaker, All-from_recursion, Contains-append_cases}
use Rattle.std.proofs.lemmas.List.Sorted.{IsPermutation-refl, IsPermutation-sym, IsPermutation-trans, IsPermutation-cons, IsPermutation-middle}
use Rattle.aig_model.specs.Literal.{var}
use Rattle.aig_model.specs.WellFormed.{left_sides, IsOrdered}
use Rattle.aig_model.specs.declared.parts.AndGate.{AndGate}
use Rattle.gate_order.specs.GateOrder.{DefineApart, IsAcyclic}
use Rattle.gate_order.specs.OrderLaws.{HaveOrder, HaveCycle}
use Rattle.gate_order.specs.SortedGates.{AreSorted, no_gate, gate_at, gates_at, input, IsUseOf, AreUses}
use Rattle.gate_order.specs.PlaceOrder.{times, waits_of, IsPlaceOrder, IsPlacing}
use Rattle.gate_order.specs.declared.order.sorted.Side.{Side}
use Rattle.gate_order.specs.declared.order.sorted.Side.TheVariants.{Left, Right}
use Rattle.gate_order.proofs.Times.{times-nil, times_push, equal_number, few_below}
use Rattle.gate_order.proofs.Gates.{apart_again, sorted_from_sides}
use Rattle.gate_order.proofs.Placing.{some_number, blocked_more, order_push}
use Rattle.gate_order.proofs.PlacedGates.{gate_order, is_cycle}
use Rattle.gate_order.proofs.Depends.{order_again, is_cycle_again, depends_inside, placed_on_no_cycle, IsPlacedInOrder}

-- ---- the first number below a bound that passes a test
record First (test : ℕ → Bool) (bound : ℕ) : Type 0 where
  place : ℕ
  inside : place < bound
  here : test place ≡ true
  before : (q : ℕ) → q < place → test q ≡ false

first_of : (test : ℕ → Bool) (bound : ℕ) → First test bound ⊎ ((q : ℕ) → q < bound → test q ≡ false)
first_of test zero = inr (λ q h. absurd (omega (arith, h)))
first_of test (suc bound) =
    elim (first_of test bound) [
      | inl found ↦ inl (record { place = found.place; inside = omega (arith, found.inside); here = found.here; before = found.before })
      | inr none ↦ at_bound none (test bound) refl
    ]
  where
    at_bound : ((q : ℕ) → q < bound → test q ≡ false) → (t : Bool) → test bound ≡ t → First test (suc bound) ⊎ ((q : ℕ) → q < suc bound → test q ≡ false)
    at_bound none true e = inl (record { place = bound; inside = omega arith; here = e; before = none })
    at_bound none false e = inr (λ q h. elim (cases_eq q bound) [ inl same ↦ ap test same ∙ e | inr ne ↦ none q (omega (arith, h, ne)) ])

-- ---- gates sorted by their left sides
insert_gate : AndGate → List AndGate → List AndGate
insert_gate g [] = g ∷ []
insert_gate g (h ∷ hs) = cond (nat_le g.lhs h.lhs) (g ∷ h ∷ hs) (h ∷ insert_gate g hs)

sort_gates : List AndGate → List AndGate
sort_gates [] = []
sort_gates (g ∷ gs) = insert_gate g (sort_gates gs)

insert-same : (g : AndGate) (hs : List AndGate) → IsPermutation (g ∷ hs) (insert_gate g hs)
unfolding insert_gate
insert-same g [] = IsPermutation-refl (g ∷ [])
insert-same g (h ∷ hs) = by_test (insert-same g hs) (nat_le g.lhs h.lhs)
  where
    by_test : IsPermutation (g ∷ hs) (insert_gate g hs) → (t : Bool) → IsPermutation (g ∷ h ∷ hs) (cond t (g ∷ h ∷ hs) (h ∷ insert_gate g hs))
    by_test more true = IsPermutation-refl (g ∷ h ∷ hs)
    by_test more false =
        IsPermutation-trans (g ∷ h ∷ hs) (h ∷ g ∷ hs) (h ∷ insert_gate g hs) (IsPermutation-sym (h ∷ g ∷ hs) (g ∷ h ∷ hs) (IsPermutation-middle (h ∷ []) g hs))
        (IsPermutation-cons h (g ∷ hs) (insert_gate g hs) more)

sort-same : (gs : List AndGate) → IsPermutation gs (sort_gates gs)
unfolding sort_gates
sort-same [] = IsPermutation-refl []
sort-same (g ∷ gs) = IsPermutation-trans (g ∷ gs) (g ∷ sort_gates gs) (insert_gate g (sort_gates gs)) (IsPermutation-cons g gs (sort_gates gs) (sort-same gs)) (insert-same g (sort_gates gs))

abbrev IsRising : List AndGate → Type 0
IsRising [] = Unit {0}
IsRising (g ∷ gs) = AllByRecursion (λ (h : AndGate). g.lhs ≤ h.lhs) gs × IsRising gs

each-insert : (P : AndGate → Type 0) (g : AndGate) (hs : List AndGate) → P g → AllByRecursion P hs → AllByRecursion P (insert_gate g hs)
unfolding insert_gate
each-insert P g [] here all = (here, tt)
each-insert P g (h ∷ hs) here all = by_test (each-insert P g hs here all.1) (nat_le g.lhs h.lhs)
  where
    by_test : AllByRecursion P (insert_gate g hs) → (t : Bool) → AllByRecursion P (cond t (g ∷ h ∷ hs) (h ∷ insert_gate g hs))
    by_test more true = (here, all)
    by_test more false = (all.0, more)

each-above : (m n : ℕ) (hs : List AndGate) → m ≤ n → AllByRecursion (λ (h : AndGate). n ≤ h.lhs) hs → AllByRecursion (λ (h : AndGate). m ≤ h.lhs) hs
each-above m n [] le all = tt
each-above m n (h ∷ hs) le all = (omega (arith, le, all.0), each-above m n hs le all.1)

insert-rising : (g : AndGate) (hs : List AndGate) → IsRising hs → IsRising (insert_gate g hs)
unfolding insert_gate
insert-rising g [] rising = (tt, tt)
insert-rising g (h ∷ hs) rising = by_test (insert-rising g hs rising.1) (nat_le g.lhs h.lhs) refl
  where
    by_test : IsRising (insert_gate g hs) → (t : Bool) → nat_le g.lhs h.lhs ≡ t → IsRising (cond t (g ∷ h ∷ hs) (h ∷ insert_gate g hs))
    by_test more true e = let le : g.lhs ≤ h.lhs = grind (arith, nat_tests) in ((le, each-above g.lhs h.lhs hs le rising.0), rising)
    by_test more false e = let le : h.lhs ≤ g.lhs = grind (arith, nat_tests) in (each-insert (λ (x : AndGate). h.lhs ≤ x.lhs) g hs le rising.0, more)

sort-rising : (gs : List AndGate) → IsRising (sort_gates gs)
unfolding sort_gates
sort-rising [] = tt
sort-rising (g ∷ gs) = insert-rising g (sort_gates gs) (sort-rising gs)

rising-places : (gs : List AndGate) → IsRising gs → IsNonDecreasingBy (λ (g : AndGate). g.lhs) gs
rising-places [] rising i j d le h = absurd (omega (arith, h))
rising-places (g ∷ gs) rising zero zero d le h = omega arith
rising-places (g ∷ gs) rising zero (suc j) d le h = All-from_recursion (λ (x : AndGate). g.lhs ≤ x.lhs) gs rising.0 j d (omega arith)
rising-places (g ∷ gs) rising (suc i) zero d le h = absurd (omega (arith, le))
rising-places (g ∷ gs) rising (suc i) (suc j) d le h = rising-places gs rising.1 i j d (omega arith) (omega arith)

-- ---- uses
record Use (gates : List AndGate) (v : ℕ) : Type 0 where
  named : ℕ
  is : IsUseOf gates v named

use_of_var : (gates : List AndGate) (v : ℕ) → Use gates v
use_of_var gates v =
    elim (first_of (λ p. nat_eq (var (gate_at gates p).lhs) v) (length gates)) [
      | inl found ↦
          record {
            named = found.place + 1;
            is = record {
              none = λ e. absurd (omega arith);
              some = λ place e.
                  let same : found.place ≡ place = omega arith in
                  let here = found.here in
                  let defines : var (gate_at gates found.place).lhs ≡ v = grind (arith, nat_tests) in
                  record { inside = omega (arith, found.inside, same); defines = ap (λ p. var (gate_at gates p).lhs) (sym same) ∙ defines };
            };
          }
      | inr none ↦
          record {
            named = 0;
            is = record {
              none = λ e. All-from_get_or (λ (g : AndGate). var g.lhs ≢ v) gates no_gate (λ i h. other (var (gate_at gates i).lhs) v (none i h));
              some = λ place e. absurd (omega arith);
            };
          }
    ]
  where
    other : (m n : ℕ) → nat_eq m n ≡ false → m ≢ n
    other m n fails e = let ne : m ≢ n = grind (arith, nat_tests) in ne e

uses_on : Side → List AndGate → List AndGate → List ℕ
uses_on side gates some = map (λ (g : AndGate). (use_of_var gates (var (input side g))).named) some

uses-on : (side : Side) (gates : List AndGate) → AreUses side gates (length gates) (uses_on side gates gates)
unfolding uses_on
uses-on side gates =
    let named : AndGate → ℕ = λ g. (use_of_var gates (var (input side g))).named in
    record {
      size = length-map gates named;
      each = λ user h.
          let read : get_or (map named gates) user 0 ≡ named (gate_at gates user) = get_or-map named gates user no_gate 0 h in
          subst (IsUseOf gates (var (input side (gate_at gates user)))) (sym read) (use_of_var gates (var (input side (gate_at gates user)))).is;
    }

-- ---- places placed until none is ready
record SoFar (bound : ℕ) (left right placed : List ℕ) : Type 0 where
  inside : All (λ p. p < bound) placed
  once : (p : ℕ) → times p placed ≤ 1
  free : (p : ℕ) → 0 < times p placed → waits_of left right placed p ≡ 0
  order : IsPlaceOrder left right placed

abbrev is_ready : List ℕ → List ℕ → List ℕ → ℕ → Bool
is_ready left right placed p = nat_eq (times p placed) 0 && nat_eq (waits_of left right placed p) 0

ready-parts : (left right placed : List ℕ) (p : ℕ) → is_ready left right placed p ≡ true → (times p placed ≡ 0) × (waits_of left right placed p ≡ 0)
ready-parts left right placed p e = both (times p placed) (waits_of left right placed p) e
  where
    both : (m n : ℕ) → (nat_eq m 0 && nat_eq n 0) ≡ true → (m ≡ 0) × (n ≡ 0)
    both m n e = (grind (arith, nat_tests), grind (arith, nat_tests))

ready-from : (m n : ℕ) → m ≡ 0 → n ≡ 0 → (nat_eq m 0 && nat_eq n 0) ≡ false → ⊥
ready-from m n zero_m zero_n e = grind (arith, nat_tests)

so_far_more : (bound : ℕ) (left right placed : List ℕ) → length left ≡ bound → SoFar bound left right placed → (found : First (is_ready left right placed) bound)
    → SoFar bound left right (placed ++ found.place ∷ [])
so_far_more bound left right placed size so found =
    let p = found.place in
    let parts = ready-parts left right placed p found.here in
    record {
      inside = All-push (λ q. q < bound) placed p so.inside found.inside;
      once = λ q. elim (equal_number p q) [
        | inl e ↦ omega (arith, times_push q placed p, e.1, ap (λ n. times n placed) e.0, parts.0)
        | inr ne ↦ omega (arith, times_push q placed p, ne.1, so.once q)
      ];
      free = λ q some.
          let less_left = blocked_more placed p (get_or left q 0) parts.0 in
          let less_right = blocked_more placed p (get_or right q 0) parts.0 in
          elim (equal_number p q) [
            | inl e ↦ omega (arith, less_left, less_right, ap (waits_of left right placed) e.0, parts.1)
            | inr ne ↦ omega (arith, less_left, less_right, so.free q (omega (arith, some, times_push q placed p, ne.1)))
          ];
      order = order_push left right placed p so.order
          (record {
            ready = parts.1;
            least = λ other h new waits.
                elim (cases_lt other p) [
                  | inl before ↦ absurd (ready-from (times other placed) (waits_of left right placed other) new waits (found.before other before))
                  | inr not_before ↦ not_before
                ];
          });
    }

record Stuck (bound : ℕ) (left right : List ℕ) : Type 0 where
  placed : List ℕ
  so : SoFar bound left right placed
  none : (q : ℕ) → q < bound → is_ready left right placed q ≡ false

place_more : (fuel bound : ℕ) (left right placed : List ℕ) → length left ≡ bound → SoFar bound left right placed → bound < fuel + length placed → Stuck bound left right
place_more zero bound left right placed size so enough = absurd (omega (arith, enough, few_below bound placed so.once so.inside))
place_more (suc fuel) bound left right placed size so enough =
    elim (first_of (is_ready left right placed) bound) [
      | inl found ↦
          place_more fuel bound left right (placed ++ found.place ∷ []) size (so_far_more bound left right placed size so found)
          (omega (arith, enough, length_push placed found.place))
      | inr none ↦ record { placed = placed; so = so; none = none }
    ]

-- ---- the order of sorted gates
module _ (gates : List AndGate) (sorted : AreSorted gates) where
  abbrev left : List ℕ
  left = uses_on Left gates gates

  abbrev right : List ℕ
  right = uses_on Right gates gates

  stuck : Stuck (length gates) left right
  stuck =
      place_more (suc (length gates)) (length gates) left right [] (uses-on Left gates).size
      (record { inside = All-nil (λ p. p < length gates); once = λ p. omega (arith, times-nil p); free = λ p some. absurd (omega (arith, some, times-nil p)); order = λ k h. absurd (omega (arith, h)) })
      (omega arith)

  abbrev placed : List ℕ
  placed = stuck.placed

  abbrev waits : List ℕ
  waits = map (waits_of left right placed) (range_with_len 0 (length gates))

  waits_size : length waits ≡ length gates
  waits_size = length-map-range_with_len (waits_of left right placed) 0 (length gates)

  waits_at : (p : ℕ) → p < length gates → get_or waits p 0 ≡ waits_of left right placed p
  waits_at p h = get_or-map-range_with_len (waits_of left right placed) 0 (length gates) p p 0 h (omega arith)

  placing : IsPlacing left right waits [] placed
  placing = record {
    left_size = (uses-on Left gates).size ∙ sym waits_size;
    right_size = (uses-on Right gates).size ∙ sym waits_size;
    queue_inside = All-nil (λ p. p < length waits);
    placed_inside = All-weaker (λ p. p < length gates) (λ p. p < length waits) (λ p h. omega (arith, h, waits_size)) placed stuck.so.inside;
    once = λ p h.
        let inside : p < length gates = omega (arith, h, waits_size) in
        let at = waits_at p inside in
        elim (cases_eq (times p placed) 0) [
          | inl new ↦ elim (some_number (get_or waits p 0)) [
            | inl none ↦ absurd (ready-from (times p placed) (waits_of left right placed p) new (omega (arith, none.0, at)) (stuck.none p inside))
            | inr some ↦ omega (arith, new, some.1, times-nil p)
          ]
          | inr old ↦ elim (some_number (get_or waits p 0)) [
            | inl none ↦ omega (arith, old, stuck.so.once p, none.1, times-nil p)
            | inr some ↦ absurd (omega (arith, some.0, at, stuck.so.free p (omega (arith, old))))
          ]
        ];
    counts = λ p h. waits_at p (omega (arith, h, waits_size));
    order = stuck.so.order;
  }

  pub sorted_order_or_cycle : HaveOrder gates ⊎ HaveCycle gates
  sorted_order_or_cycle =
      elim (first_of (λ p. nat_lt 0 (get_or waits p 0)) (length gates)) [
        | inl found ↦
            let here = found.here in
            let some : 0 < get_or waits found.place 0 = positive (get_or waits found.place 0) here in
            inr (record {
              lhs = _;
              cycle = is_cycle gates sorted left right (uses-on Left gates) (uses-on Right gates) placed waits waits_size placing found.place found.inside some
                  (λ q h. none_of (get_or waits q 0) (found.before q h));
            })
        | inr none ↦
            inl (record {
              ordered = gates_at gates placed;
              order = gate_order gates sorted left right (uses-on Left gates) (uses-on Right gates) placed waits waits_size placing (λ p h. none_of (get_or waits p 0) (none p h));
            })
      ]
    where
      positive : (n : ℕ) → nat_lt 0 n ≡ true → 0 < n
      positive n e = grind (arith, nat_tests)

      none_of : (n : ℕ) → nat_lt 0 n ≡ false → n ≡ 0
      none_of n e = grind (arith, nat_tests)

pub some_order_or_cycle : (gates : List AndGate) → DefineApart gates → HaveOrder gates ⊎ HaveCycle gates
some_order_or_cycle gates define =
    let sorted = sort_gates gates in
    let same = sort-same gates in
    let are_sorted = sorted_from_sides sorted (apart_again gates sorted same define) (rising-places sorted (sort-rising gates)) in
    elim (sorted_order_or_cycle sorted are_sorted) [
      | inl found ↦ inl (record { ordered = found.ordered; order = order_again gates sorted found.ordered same found.order })
      | inr found ↦ inr (record { lhs = found.lhs; cycle = is_cycle_again gates sorted found.lhs same found.cycle })
    ]

pub order_exists : (gates : List AndGate) → DefineApart gates → IsAcyclic gates → HaveOrder gates
order_exists gates define acyclic =
    elim (some_order_or_cycle gates define) [
      | inl found ↦ found
      | inr found ↦ absurd (acyclic found.cycle.depends.on found.cycle.depends.cycle)
    ]

-- ---- gates that stand in some order already
contains-map : {A B : Type 0} (f : A → B) (xs : List A) (x : A) → Contains xs x → Contains (map f xs) (f x)
contains-map f xs x found = (found.0, omega (arith, found.1, length-map xs f), get_or-map f xs found.0 x (f x) found.1 ∙ ap f found.2)

ordered-split : (before later : List AndGate) (g : AndGate) → IsOrdered (before ++ g ∷ later)
    → (¬ Contains (map var (left_sides (g ∷ later))) (var g.left)) × (¬ Contains (map var (left_sides (g ∷ later))) (var g.right))
ordered-split [] later g ordered = (ordered.0, ordered.1)
ordered-split (b ∷ before) later g ordered = ordered-split before later g ordered.2

pub acyclic_from_ordered : (gates : List AndGate) → IsOrdered gates → IsAcyclic gates
acyclic_from_ordered gates ordered g cycle =
    let in_order : IsPlacedInOrder gates gates =
    λ before later x split h inside uses.
    let fact = ordered-split before later x (subst IsOrdered split ordered) in
    elim (Contains-append_cases before (x ∷ later) h (subst (λ (l : List AndGate). Contains l h) split inside)) [
      | inl early ↦ early
      | inr late ↦
          let found = contains-map var (left_sides (x ∷ later)) h.lhs (contains-map (λ (y : AndGate). y.lhs) (x ∷ later) h late) in
          elim uses [
            | inl e ↦ absurd (fact.0 (subst (Contains (map var (left_sides (x ∷ later)))) (sym e) found))
            | inr e ↦ absurd (fact.1 (subst (Contains (map var (left_sides (x ∷ later)))) (sym e) found))
          ]
    ]
    in
    placed_on_no_cycle gates gates in_order g (record { on = g; cycle = cycle; reached = inl refl }) (depends_inside cycle)
