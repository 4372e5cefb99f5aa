-- From places to the gates that stand there.
use Rattle.std.proofs.Common.{◌≡◌, ℕ, zero, suc, inl, inr, ◌⊎◌, ◌+◌, ◌-◌, ◌<◌, ◌≤◌, nat_lt, List, [], ◌∷◌, ◌++◌, length, get_or, take, drop, arith, sym, ap, ◌∙◌, subst, refl, All, Contains}
use Rattle.std.specs.List.{remove, range_with_len}
use Rattle.std.specs.List.Sorted.{IsPermutation}
use Rattle.std.proofs.lemmas.Bool.{cases_eq, cases_lt}
use Rattle.std.proofs.lemmas.List.{get_or_default, get_or-map, length-map, take-map, drop-map, map-append, take_at, drop_at, get_or_at, length-append, take-append-drop, same_lists}
use Rattle.std.proofs.lemmas.List.FromFn.{get_or-map-range_with_len, length-map-range_with_len}
use Rattle.std.proofs.lemmas.List.Sorted.{Contains-permutation, IsPermutation-sym, IsPermutation-map, IsPermutation-remove, length_permutation}
use Rattle.std.proofs.lemmas.List.Elements.{Contains-get_or, Contains-append_right, All-take, All-drop}
use Rattle.aig_model.specs.Literal.{var, number}
use Rattle.aig_model.specs.declared.parts.AndGate.{AndGate}
use Rattle.aig_model.proofs.Elements.{Contains-head, Contains-later, Contains-cons_cases}
use Rattle.gate_order.specs.GateOrder.{IsReady, IsGateOrder, DependsOn, DependsOnCycle, IsCycle}
use Rattle.gate_order.specs.GateOrder.DependsOn.{Directly}
use Rattle.gate_order.specs.SortedGates.{AreSorted, no_gate, gate_at, gates_at, IsUseOf, AreUses}
use Rattle.gate_order.specs.PlaceOrder.{times, blocked, waits_of, IsPlacing}
use Rattle.gate_order.specs.declared.order.sorted.Side.TheVariants.{Left, Right}
use Rattle.gate_order.proofs.Times.{times-nil, times-cons, times-append, equal_number, times-from_Contains, Contains-from_times, permutation-from_times}
use Rattle.gate_order.proofs.Queued.{times_below}
use Rattle.gate_order.proofs.Placing.{some_number}
use Rattle.gate_order.proofs.Gates.{one_place}
use Rattle.gate_order.proofs.Depends.{depends_inside, depends_trans, placed_on_no_cycle, IsPlacedInOrder}

-- ---- the numbers from a on, each once
times_range_below : (a n p : ℕ) → p < a → times p (range_with_len a n) ≡ 0
times_range_below a zero p h = times-nil p
times_range_below a (suc n) p h =
    elim (equal_number a p) [
      | inl e ↦ absurd (omega (arith, e.0, h))
      | inr ne ↦ omega (arith, times-cons p a (range_with_len (a + 1) n), ne.1, times_range_below (a + 1) n p (omega arith))
    ]

times_range : (a n p : ℕ) → a ≤ p → p < a + n → times p (range_with_len a n) ≡ 1
times_range a zero p low high = absurd (omega (arith, low, high))
times_range a (suc n) p low high =
    elim (equal_number a p) [
      | inl e ↦ omega (arith, times-cons p a (range_with_len (a + 1) n), e.1, times_range_below (a + 1) n p (omega (arith, e.0)))
      | inr ne ↦ omega (arith, times-cons p a (range_with_len (a + 1) n), ne.1, times_range (a + 1) n p (omega (arith, ne.0)) (omega (arith, high)))
    ]

times_range_above : (a n p : ℕ) → a + n ≤ p → times p (range_with_len a n) ≡ 0
times_range_above a zero p h = times-nil p
times_range_above a (suc n) p h =
    elim (equal_number a p) [
      | inl e ↦ absurd (omega (arith, e.0, h))
      | inr ne ↦ omega (arith, times-cons p a (range_with_len (a + 1) n), ne.1, times_range_above (a + 1) n p (omega (arith, h)))
    ]

-- a gate of the list, by its place
record Placed (gates : List AndGate) (g : AndGate) : Type 0 where
  place : ℕ
  inside : place < length gates
  is : gate_at gates place ≡ g

placed_at : (gates : List AndGate) (g : AndGate) → Contains gates g → Placed gates g
placed_at gates g found = record { place = found.0; inside = found.1; is = get_or_default gates found.0 no_gate g found.1 ∙ found.2 }

gates_from_range : (gates : List AndGate) → gates_at gates (range_with_len 0 (length gates)) ≡ gates
gates_from_range gates =
    let n = length gates in
    same_lists (gates_at gates (range_with_len 0 n)) gates (length-map-range_with_len (gate_at gates) 0 n)
    (λ k d h.
    let inside : k < n = omega (arith, h, length-map-range_with_len (gate_at gates) 0 n) in
    get_or-map-range_with_len (gate_at gates) 0 n k k d inside (omega arith) ∙ get_or_default gates k no_gate d inside)

-- the places before and behind a gate in a list of placed gates
record Cut (gates : List AndGate) (placed : List ℕ) (before later : List AndGate) (g : AndGate) : Type 0 where
  k : ℕ
  inside : k < length placed
  front : before ≡ gates_at gates (take k placed)
  here : g ≡ gate_at gates (get_or placed k 0)
  back : g ∷ later ≡ gates_at gates (drop k placed)

cut_at : (gates : List AndGate) (placed : List ℕ) (before later : List AndGate) (g : AndGate) → gates_at gates placed ≡ before ++ g ∷ later → Cut gates placed before later g
cut_at gates placed before later g is =
    let k = length before in
    let sizes : length placed ≡ length before + length (g ∷ later) = sym (length-map placed (gate_at gates)) ∙ (ap length is ∙ length-append before (g ∷ later)) in
    let inside : k < length placed = omega (arith, sizes) in
    record {
      k = k;
      inside = inside;
      front = sym (take_at before (g ∷ later) k refl) ∙ (ap (take k) (sym is) ∙ take-map (gate_at gates) k placed);
      here = sym (get_or_at before g later no_gate k refl) ∙ (ap (λ (l : List AndGate). get_or l k no_gate) (sym is) ∙ get_or-map (gate_at gates) placed k 0 no_gate inside);
      back = sym (drop_at before (g ∷ later) k refl) ∙ (ap (drop k) (sym is) ∙ drop-map (gate_at gates) k placed);
    }

module _ (gates : List AndGate) (sorted : AreSorted gates) where
  side_le : (p q : ℕ) → p ≤ q → q < length gates → (gate_at gates p).lhs ≤ (gate_at gates q).lhs
  side_le p q le inside =
      elim (cases_eq p q) [
        | inl e ↦ omega (arith, ap (λ n. (gate_at gates n).lhs) e)
        | inr ne ↦ omega (arith, sorted p q no_gate (omega arith) inside)
      ]

  contains_gate : (places : List ℕ) (p : ℕ) → 0 < times p places → Contains (gates_at gates places) (gate_at gates p)
  contains_gate places p some =
      let found = Contains-from_times p places some in
      (found.0, omega (arith, found.1, length-map places (gate_at gates)), get_or-map (gate_at gates) places found.0 p (gate_at gates p) found.1 ∙ ap (gate_at gates) found.2)

  times_gate : (places : List ℕ) (p : ℕ) → All (λ q. q < length gates) places → p < length gates → Contains (gates_at gates places) (gate_at gates p) → 0 < times p places
  times_gate places p all inside found =
      let k = found.0 in
      let h : k < length places = omega (arith, found.1, length-map places (gate_at gates)) in
      let same : gate_at gates (get_or places k p) ≡ gate_at gates p = sym (get_or-map (gate_at gates) places k p (gate_at gates p) h) ∙ found.2 in
      let place : get_or places k p ≡ p =
      one_place gates sorted (get_or places k p) p (all k p h) inside (ap (λ (g : AndGate). var g.lhs) same)
      in
      times-from_Contains p places (k, h, place)

  -- the use of a variable that a gate defines
  use_is : (v named p : ℕ) → IsUseOf gates v named → p < length gates → v ≡ var ((gate_at gates p).lhs) → named ≡ p + 1
  use_is v named p is inside defines =
      elim (cases_eq named 0) [
        | inl none ↦ absurd (is.none none p no_gate inside (sym defines))
        | inr some ↦
            let at = is.some (named - 1) (omega (arith, some)) in
            let place : named - 1 ≡ p = one_place gates sorted (named - 1) p at.inside inside (at.defines ∙ defines) in
            omega (arith, some, place)
      ]

  placed_use : (before : List ℕ) (named p : ℕ) → blocked before named ≡ 0 → named ≡ p + 1 → 0 < times p before
  placed_use before named p free e = let here : named - 1 ≡ p = omega (arith, e) in omega (arith, free, e, ap (λ q. times q before) here)

  free_use : (before : List ℕ) (v named : ℕ) → All (λ q. q < length gates) before → IsUseOf gates v named
      → ((h : AndGate) → Contains gates h → v ≡ var h.lhs → Contains (gates_at gates before) h) → blocked before named ≡ 0
  free_use before v named all is placed =
      elim (cases_eq named 0) [
        | inl none ↦ omega (arith, none)
        | inr some ↦
            let at = is.some (named - 1) (omega (arith, some)) in
            let found = placed (gate_at gates (named - 1)) (Contains-get_or gates (named - 1) no_gate at.inside) (sym at.defines) in
            omega (arith, times_gate before (named - 1) all at.inside found)
      ]

module _ (gates : List AndGate) (sorted : AreSorted gates) (left right : List ℕ) (lefts : AreUses Left gates (length gates) left) (rights : AreUses Right gates (length gates) right) where
  ready_gate : (before : List ℕ) (u : ℕ) → u < length gates → waits_of left right before u ≡ 0 → IsReady gates (gates_at gates before) (gate_at gates u)
  ready_gate before u inside free h in_gates uses =
      let at = placed_at gates h in_gates in
      let found : 0 < times at.place before =
      elim uses [
        | inl e ↦ placed_use gates sorted before (get_or left u 0) at.place (omega (arith, free))
            (use_is gates sorted _ (get_or left u 0) at.place (lefts.each u inside) at.inside (e ∙ ap (λ (g : AndGate). var g.lhs) (sym at.is)))
        | inr e ↦ placed_use gates sorted before (get_or right u 0) at.place (omega (arith, free))
            (use_is gates sorted _ (get_or right u 0) at.place (rights.each u inside) at.inside (e ∙ ap (λ (g : AndGate). var g.lhs) (sym at.is)))
      ]
      in
      subst (Contains (gates_at gates before)) at.is (contains_gate gates sorted before at.place found)

  ready_place : (before : List ℕ) (u : ℕ) → All (λ q. q < length gates) before → u < length gates → IsReady gates (gates_at gates before) (gate_at gates u)
      → waits_of left right before u ≡ 0
  ready_place before u all inside ready =
      omega (
        arith,
        free_use gates sorted before (var (gate_at gates u).left) (get_or left u 0) all (lefts.each u inside) (λ h in_gates e. ready h in_gates (inl e)),
        free_use gates sorted before (var (gate_at gates u).right) (get_or right u 0) all (rights.each u inside) (λ h in_gates e. ready h in_gates (inr e)),
      )

  module _ (placed waits : List ℕ) (size : length waits ≡ length gates) (is : IsPlacing left right waits [] placed) where
    inside_all : All (λ q. q < length gates) placed
    inside_all k d h = omega (arith, is.placed_inside k d h, size)

    -- a place is placed, or waits
    placed_once : (p : ℕ) → p < length gates → times p placed + number (nat_lt 0 (get_or waits p 0)) ≡ 1
    placed_once p h = omega (arith, is.once p (omega (arith, h, size)), times-nil p)

    place_in : (k : ℕ) → k < length placed → get_or placed k 0 < length gates
    place_in k h = inside_all k 0 h

    ready_here : (k : ℕ) → k < length placed → IsReady gates (gates_at gates (take k placed)) (gate_at gates (get_or placed k 0))
    ready_here k h = ready_gate (take k placed) (get_or placed k 0) (place_in k h) (is.order k h).ready

    pub placed_in_order : IsPlacedInOrder gates (gates_at gates placed)
    placed_in_order before later g split =
        let cut = cut_at gates placed before later g split in
        subst (λ (b : List AndGate). IsReady gates b g) (sym cut.front)
        (subst (IsReady gates (gates_at gates (take cut.k placed))) (sym cut.here) (ready_here cut.k cut.inside))

    -- ---- all are placed
    module _ (none : (p : ℕ) → p < length gates → get_or waits p 0 ≡ 0) where
      times_placed : (p : ℕ) → p < length gates → times p placed ≡ 1
      times_placed p h =
          elim (some_number (get_or waits p 0)) [ inl e ↦ omega (arith, e.1, placed_once p h) | inr some ↦ absurd (omega (arith, some.0, none p h)) ]

      all_placed : IsPermutation gates (gates_at gates placed)
      all_placed =
          let range = range_with_len 0 (length gates) in
          let places : IsPermutation range placed =
          permutation-from_times range placed
          (λ p. elim (cases_lt p (length gates)) [
            | inl low ↦ times_range 0 (length gates) p (omega arith) (omega arith) ∙ sym (times_placed p low)
            | inr high ↦ times_range_above 0 (length gates) p (omega arith) ∙ sym (times_below p (length gates) placed inside_all high)
          ])
          in
          subst (λ (gs : List AndGate). IsPermutation gs (gates_at gates placed)) (gates_from_range gates) (IsPermutation-map (gate_at gates) range placed places)

      least_here : (k : ℕ) → k < length placed → (h : AndGate) → Contains (gates_at gates (drop k placed)) h → IsReady gates (gates_at gates (take k placed)) h
          → (gate_at gates (get_or placed k 0)).lhs ≤ h.lhs
      least_here k inside h waiting ready =
          let whole : gates_at gates (take k placed) ++ gates_at gates (drop k placed) ≡ gates_at gates placed =
          sym (map-append (gate_at gates) (take k placed) (drop k placed)) ∙ ap (gates_at gates) (take-append-drop k placed)
          in
          let in_placed : Contains (gates_at gates placed) h =
          subst (λ (l : List AndGate). Contains l h) whole
          (Contains-append_right (gates_at gates (take k placed)) (gates_at gates (drop k placed)) h waiting)
          in
          let at = placed_at gates h (Contains-permutation (gates_at gates placed) gates h (IsPermutation-sym gates (gates_at gates placed) all_placed) in_placed) in
          let q = at.place in
          let later : 0 < times q (drop k placed) =
          times_gate gates sorted (drop k placed) q (All-drop (λ p. p < length gates) k placed inside_all) at.inside
          (subst (Contains (gates_at gates (drop k placed))) (sym at.is) waiting)
          in
          let both : times q placed ≡ times q (take k placed) + times q (drop k placed) =
          ap (times q) (sym (take-append-drop k placed)) ∙ times-append q (take k placed) (drop k placed)
          in
          let new : times q (take k placed) ≡ 0 = omega (arith, later, both, times_placed q at.inside) in
          let free : waits_of left right (take k placed) q ≡ 0 =
          ready_place (take k placed) q (All-take (λ p. p < length gates) k placed inside_all) at.inside
          (subst (IsReady gates (gates_at gates (take k placed))) (sym at.is) ready)
          in
          let le : get_or placed k 0 ≤ q = (is.order k inside).least q (omega (arith, at.inside, size, is.left_size)) new free in
          omega (arith, side_le gates sorted (get_or placed k 0) q le at.inside, ap (λ (g : AndGate). g.lhs) at.is)

      pub gate_order : IsGateOrder gates (gates_at gates placed)
      gate_order = record {
        same = all_placed;
        next = λ before later g split.
            let cut = cut_at gates placed before later g split in
            record {
              ready = placed_in_order before later g split;
              least = λ h waiting ready.
                  omega (
                    arith,
                    ap (λ (x : AndGate). x.lhs) cut.here,
                    least_here cut.k cut.inside h (subst (λ (l : List AndGate). Contains l h) cut.back waiting)
                        (subst (λ (b : List AndGate). IsReady gates b h) cut.front ready),
                  );
            };
      }

    -- ---- some wait
    -- a waiting place, with the gate's variable
    record Waiting (v : ℕ) : Type 0 where
      place : ℕ
      inside : place < length gates
      waits_some : 0 < get_or waits place 0
      defines : v ≡ var ((gate_at gates place).lhs)

    blocked_use : (v named : ℕ) → IsUseOf gates v named → 0 < blocked placed named → Waiting v
    blocked_use v named use_of some =
        let at = use_of.some (named - 1) (omega (arith, some)) in
        record {
          place = named - 1;
          inside = at.inside;
          waits_some = elim (some_number (get_or waits (named - 1) 0)) [ inl none ↦ absurd (omega (arith, none.1, some, placed_once (named - 1) at.inside)) | inr h ↦ h.0 ];
          defines = sym at.defines;
        }

    -- a waiting place uses a waiting place
    record Next (u : ℕ) : Type 0 where
      place : ℕ
      inside : place < length gates
      waits_some : 0 < get_or waits place 0
      depends : DependsOn gates (gate_at gates u) (gate_at gates place)

    next_waiting : (u : ℕ) → u < length gates → 0 < get_or waits u 0 → Next u
    next_waiting u h some =
        let counts = is.counts u (omega (arith, h, size)) in
        elim (cases_eq (blocked placed (get_or left u 0)) 0) [
          | inl none ↦
              let next = blocked_use (var (gate_at gates u).right) (get_or right u 0) (rights.each u h) (omega (arith, none, counts, some)) in
              record {
                place = next.place;
                inside = next.inside;
                waits_some = next.waits_some;
                depends = Directly (Contains-get_or gates u no_gate h) (Contains-get_or gates next.place no_gate next.inside) (inr next.defines);
              }
          | inr blocks ↦
              let next = blocked_use (var (gate_at gates u).left) (get_or left u 0) (lefts.each u h) (omega (arith, blocks)) in
              record {
                place = next.place;
                inside = next.inside;
                waits_some = next.waits_some;
                depends = Directly (Contains-get_or gates u no_gate h) (Contains-get_or gates next.place no_gate next.inside) (inl next.defines);
              }
        ]

    -- each place of the walk so far leads to this one
    abbrev Lead : List ℕ → ℕ → Type 0
    Lead seen u = (s : ℕ) → Contains seen s → DependsOn gates (gate_at gates s) (gate_at gates u)

    -- the waiting places are those of the walk, this one, and the rest
    abbrev AreCovered : List ℕ → ℕ → List ℕ → Type 0
    AreCovered seen u rest = (q : ℕ) → q < length gates → 0 < get_or waits q 0 → Contains seen q ⊎ ((u ≡ q) ⊎ Contains rest q)

    onward : (u : ℕ) (next : Next u) → DependsOnCycle gates (gate_at gates next.place) → DependsOnCycle gates (gate_at gates u)
    onward u next ends = record {
      on = ends.on;
      cycle = ends.cycle;
      reached = elim ends.reached [
        | inl e ↦ inr (subst (DependsOn gates (gate_at gates u)) e next.depends)
        | inr depends ↦ inr (depends_trans next.depends depends)
      ];
    }

    round : (seen : List ℕ) (u : ℕ) (next : Next u) → Lead seen u → Contains seen next.place → DependsOnCycle gates (gate_at gates u)
    round seen u next leads found = record {
      on = gate_at gates next.place;
      cycle = depends_trans (leads next.place found) next.depends;
      reached = inr next.depends;
    }

    itself : (u : ℕ) (next : Next u) → u ≡ next.place → DependsOnCycle gates (gate_at gates u)
    itself u next e = record {
      on = gate_at gates u;
      cycle = subst (λ (p : ℕ). DependsOn gates (gate_at gates u) (gate_at gates p)) (sym e) next.depends;
      reached = inl refl;
    }

    lead_more : (seen : List ℕ) (u : ℕ) (next : Next u) → Lead seen u → Lead (u ∷ seen) next.place
    lead_more seen u next leads s found =
        elim (Contains-cons_cases u s seen found) [
          | inl e ↦ subst (λ (p : ℕ). DependsOn gates (gate_at gates p) (gate_at gates next.place)) e next.depends
          | inr earlier ↦ depends_trans (leads s earlier) next.depends
        ]

    covered_more : (seen rest : List ℕ) (u q : ℕ) (found : Contains rest q) → AreCovered seen u rest → AreCovered (u ∷ seen) q (remove rest found.0)
    covered_more seen rest u q found covered p inside some =
        elim (covered p inside some) [
          | inl earlier ↦ inl (Contains-later u p seen earlier)
          | inr other ↦ elim other [
            | inl e ↦ inl (Contains-head u p seen e)
            | inr in_rest ↦
                let moved = IsPermutation-remove rest found.0 q found.1 (sym found.2) in
                elim (Contains-cons_cases q p (remove rest found.0) (Contains-permutation rest (q ∷ remove rest found.0) p moved in_rest)) [
                  | inl here ↦ inr (inl here)
                  | inr still ↦ inr (inr still)
                ]
          ]
        ]

    -- a walk over waiting places comes round
    walk : (n : ℕ) (seen rest : List ℕ) (u : ℕ) → length rest ≤ n → u < length gates → 0 < get_or waits u 0 → Lead seen u → AreCovered seen u rest
        → DependsOnCycle gates (gate_at gates u)
    walk zero seen rest u few inside some leads covered =
        let next = next_waiting u inside some in
        elim (covered next.place next.inside next.waits_some) [
          | inl found ↦ round seen u next leads found
          | inr other ↦ elim other [ inl e ↦ itself u next e | inr found ↦ absurd (omega (arith, few, found.1)) ]
        ]
    walk (suc n) seen rest u few inside some leads covered =
        let next = next_waiting u inside some in
        elim (covered next.place next.inside next.waits_some) [
          | inl found ↦ round seen u next leads found
          | inr other ↦ elim other [
            | inl e ↦ itself u next e
            | inr found ↦
                let moved = IsPermutation-remove rest found.0 next.place found.1 (sym found.2) in
                let fewer : length (remove rest found.0) ≤ n = omega (arith, few, length_permutation rest (next.place ∷ remove rest found.0) moved) in
                onward u next
                (walk n (u ∷ seen) (remove rest found.0) next.place fewer next.inside next.waits_some (lead_more seen u next leads)
                (covered_more seen rest u next.place found covered))
          ]
        ]

    waiting_on_cycle : (u : ℕ) → u < length gates → 0 < get_or waits u 0 → DependsOnCycle gates (gate_at gates u)
    waiting_on_cycle u inside some =
        let range = range_with_len 0 (length gates) in
        walk (length range) [] range u (omega arith) inside some
        (λ s found. absurd (omega (arith, found.1)))
        (λ q h w. inr (inr (Contains-from_times q range (omega (arith, times_range 0 (length gates) q (omega arith) (omega (arith, h)))))))

    on_cycle_waits : (h : AndGate) → DependsOnCycle gates h → (at : Placed gates h) → 0 < get_or waits at.place 0
    on_cycle_waits h depends at =
        elim (some_number (get_or waits at.place 0)) [
          | inl none ↦
              absurd (placed_on_no_cycle gates (gates_at gates placed) placed_in_order h depends
              (subst (Contains (gates_at gates placed)) at.is (contains_gate gates sorted placed at.place (omega (arith, none.1, placed_once at.place at.inside)))))
          | inr some ↦ some.0
        ]

    pub is_cycle : (p : ℕ) → p < length gates → 0 < get_or waits p 0 → ((q : ℕ) → q < p → get_or waits q 0 ≡ 0) → IsCycle gates (gate_at gates p).lhs
    is_cycle p inside some first = record {
      gate = gate_at gates p;
      depends = waiting_on_cycle p inside some;
      named = refl;
      least = λ h depends.
          let in_gates : Contains gates h = elim depends.reached [ inl e ↦ subst (Contains gates) (sym e) (depends_inside depends.cycle) | inr more ↦ depends_inside more ] in
          let at = placed_at gates h in_gates in
          let waits_some = on_cycle_waits h depends at in
          let le : p ≤ at.place = elim (cases_lt at.place p) [ inl before ↦ absurd (omega (arith, waits_some, first at.place before)) | inr not_before ↦ not_before ] in
          omega (arith, side_le gates sorted p at.place le at.inside, ap (λ (g : AndGate). g.lhs) at.is);
    }
