-- Masks of lanes.
use Rattle.std.proofs.Common.{◌≡◌, ◌↔◌, ℕ, ◌+◌, ◌<◌, ◌≤◌, Bool, true, false, cond, IsTrue, List, [], ◌∷◌, ◌++◌, map, set, take, length, get_or, sym, ap, ◌∙◌, subst, arith, inl, inr, All}
use Rattle.std.proofs.lemmas.Bool.{cases_lt}
use Rattle.std.proofs.lemmas.List.{ext_get_or, get_or-map, get_or-set_same, get_or-set_other, get_or_default, length-map, take_more}
use Rattle.std.proofs.lemmas.List.Elements.{All-push, All-nil}
use Rattle.aig_model.specs.Literal.{var, value_of}
use Rattle.aig_model.specs.WellFormed.{IsCircuit, next_lits}
use Rattle.aig_model.specs.declared.parts.Parts.{Parts}
use Rattle.aig_eval.proofs.Sections.{room_for_latches, some_latch}
use Rattle.aig_model.specs.declared.parts.Latch.{Latch}
use Rattle.aig_model.proofs.Elements.{All-left, All-right}
use Rattle.sim_batch.specs.Words.{bit_of_word}
use Rattle.sim_lanes.specs.LaneValues.{AreBoth, AreChosen, AreTrueLanes, HandsOn, HasValues, Keeps, lane_values}
use Rattle.sim_lanes.proofs.Deciding.{both_true}
use Rattle.sim_lanes.proofs.LaneSteps.{lane_at, length-lane_values}

all_more : (P : ℕ → Type 0) (xs : List ℕ) (i : ℕ) → i < length xs → All P (take (i + 1) xs) ↔ (All P (take i xs) × P (get_or xs i 0))
all_more P xs i inside =
    let e : take (i + 1) xs ≡ take i xs ++ get_or xs i 0 ∷ [] = take_more xs i 0 inside in (
      λ all. (
          let whole : All P (take i xs ++ get_or xs i 0 ∷ []) = subst (λ (l : List ℕ). All P l) e all in
          (All-left P (take i xs) (get_or xs i 0 ∷ []) whole, (All-right P (take i xs) (get_or xs i 0 ∷ []) whole) 0 0 (omega arith))
          ),
      λ h. subst (λ (l : List ℕ). All P l) (sym e) (All-push P (take i xs) (get_or xs i 0) h.0 h.1),
    )

pub true_none : (values : List ℕ) (mask : ℕ) → ((j : ℕ) → j < 64 → IsTrue (bit_of_word j mask)) → AreTrueLanes values [] mask
true_none values mask every = λ j low. (λ is. All-nil (λ lit. IsTrue (value_of (lane_values j values) lit)), λ all. every j low)

pub true_more : (values lits : List ℕ) (i mask word more : ℕ) → i < length lits → AreTrueLanes values (take i lits) mask → HasValues values (get_or lits i 0) word
    → AreBoth mask word more → AreTrueLanes values (take (i + 1) lits) more
true_more values lits i mask word more inside before is both = λ j low. (
    let P : ℕ → Type 0 = λ lit. IsTrue (value_of (lane_values j values) lit) in
    let cases = both_true (bit_of_word j mask) (bit_of_word j word) in
    let all = all_more P lits i inside in (
      λ on. (
          let parts = cases.0 (sym (both j low) ∙ on) in
          all.1 ((before j low).0 parts.0, sym (is j low) ∙ parts.1)
          ),
      λ h. (
          let parts = all.0 h in
          both j low ∙ cases.1 ((before j low).1 parts.0, is j low ∙ parts.1)
          ),
    )
    )

-- ---- states
pub handed_on : (latches : List Latch) (values old new : List ℕ) (live : ℕ) → length new ≡ length latches → length old ≡ length latches
    → ((k : ℕ) (d : Latch) (j : ℕ) → k < length latches → j < 64 → bit_of_word j (get_or new k 0)
    ≡ cond (bit_of_word j live) (value_of (lane_values j values) ((get_or latches k d).next)) (bit_of_word j (get_or old k 0)))
    → Latch → HandsOn latches values live old new
handed_on latches values old new live size was each blank = λ j low. (
    let nexts : List Bool = map (value_of (lane_values j values)) (next_lits latches) in
    let count : length nexts ≡ length latches = length-map (next_lits latches) (value_of (lane_values j values)) ∙ length-map latches (λ (l : Latch). l.next) in
    let sizes : (b : Bool) → length (cond b nexts (lane_values j old)) ≡ length latches = λ b. elim b as (λ x. length (cond x nexts (lane_values j old)) ≡ length latches) [
      | true ↦ count
      | false ↦ length-lane_values j old ∙ was
    ] in
    ext_get_or false (lane_values j new) (cond (bit_of_word j live) nexts (lane_values j old))
    (length-lane_values j new ∙ (size ∙ sym (sizes (bit_of_word j live))))
    (λ k below. (
    let inside : k < length latches = omega (arith, below, length-lane_values j new, size) in
    let next : get_or nexts k false ≡ value_of (lane_values j values) ((get_or latches k blank).next) =
    get_or-map (value_of (lane_values j values)) (next_lits latches) k 0 false (omega (arith, inside, length-map latches (λ (l : Latch). l.next)))
    ∙ ap (value_of (lane_values j values)) (get_or-map (λ (l : Latch). l.next) latches k blank 0 inside) in
    let kept : get_or (lane_values j old) k false ≡ bit_of_word j (get_or old k 0) = lane_at j old k (omega (arith, inside, was)) in
    let picks : (b : Bool) → cond b (value_of (lane_values j values) ((get_or latches k blank).next)) (bit_of_word j (get_or old k 0)) ≡ get_or (cond b nexts (lane_values j old)) k false =
    λ b. elim b as (λ x. cond x (value_of (lane_values j values) ((get_or latches k blank).next)) (bit_of_word j (get_or old k 0)) ≡ get_or (cond x nexts (lane_values j old)) k false) [
      | true ↦ sym next
      | false ↦ sym kept
    ] in
    lane_at j new k (omega (arith, inside, size)) ∙ (each k blank j inside low ∙ picks (bit_of_word j live))
    ))
    )

-- the latches before place i are handed on
pub record HandedOn (latches : List Latch) (values old now : List ℕ) (live i : ℕ) : Type 0 where
  pub gone : (k : ℕ) (d : Latch) (j : ℕ) → k < i → j < 64 → bit_of_word j (get_or now k 0)
      ≡ cond (bit_of_word j live) (value_of (lane_values j values) ((get_or latches k d).next)) (bit_of_word j (get_or old k 0))
  pub left : (k : ℕ) → i ≤ k → get_or now k 0 ≡ get_or old k 0

pub hand_next : (latches : List Latch) (values old now : List ℕ) (live i next word : ℕ) (l : Latch) → i < length latches → i < length now → l ≡ get_or latches i l
    → HasValues values l.next next → AreChosen live next (get_or now i 0) word → HandedOn latches values old now live i
    → HandedOn latches values old (set now i word) live (i + 1)
hand_next latches values old now live i next word l inside room item is chosen before = record {
  gone = λ k d j under low. elim (cases_lt k i) [
    | inl less ↦ (
        let apart : k ≡ i → ⊥ = λ e. omega (arith, less, e) in
        ap (bit_of_word j) (get_or-set_other now i k word 0 apart) ∙ before.gone k d j less low
        )
    | inr ge ↦ (
        let same : k ≡ i = omega (arith, under, ge) in
        let read : get_or (set now i word) k 0 ≡ word = ap (λ x. get_or (set now i word) x 0) same ∙ get_or-set_same now i word 0 room in
        let latch : (get_or latches k d).next ≡ l.next = ap (λ (x : Latch). x.next) (ap (λ x. get_or latches x d) same ∙ (get_or_default latches i d l inside ∙ sym item)) in
        let old_bit : bit_of_word j (get_or now i 0) ≡ bit_of_word j (get_or old k 0) = ap (bit_of_word j) (before.left i (omega arith) ∙ ap (λ x. get_or old x 0) (sym same)) in
        ap (bit_of_word j) read ∙ (chosen j low
        ∙ (ap (λ b. cond (bit_of_word j live) b (bit_of_word j (get_or now i 0))) (is j low ∙ ap (value_of (lane_values j values)) (sym latch))
        ∙ ap (λ b. cond (bit_of_word j live) (value_of (lane_values j values) ((get_or latches k d).next)) b) old_bit))
        )
  ];
  left = λ k ge. (
      let apart : k ≡ i → ⊥ = λ e. omega (arith, ge, e) in
      get_or-set_other now i k word 0 apart ∙ before.left k (omega (arith, ge))
      );
}

-- the words before place i are kept
pub record KeptWords (state old now : List ℕ) (live i : ℕ) : Type 0 where
  pub gone : (k j : ℕ) → k < i → j < 64 → bit_of_word j (get_or now k 0) ≡ cond (bit_of_word j live) (bit_of_word j (get_or state k 0)) (bit_of_word j (get_or old k 0))
  pub left : (k : ℕ) → i ≤ k → get_or now k 0 ≡ get_or old k 0

pub keep_next : (state old now : List ℕ) (live i word : ℕ) → i < length now → AreChosen live (get_or state i 0) (get_or now i 0) word → KeptWords state old now live i
    → KeptWords state old (set now i word) live (i + 1)
keep_next state old now live i word room chosen before = record {
  gone = λ k j under low. elim (cases_lt k i) [
    | inl less ↦ (
        let apart : k ≡ i → ⊥ = λ e. omega (arith, less, e) in
        ap (bit_of_word j) (get_or-set_other now i k word 0 apart) ∙ before.gone k j less low
        )
    | inr ge ↦ (
        let same : k ≡ i = omega (arith, under, ge) in
        let read : get_or (set now i word) k 0 ≡ word = ap (λ x. get_or (set now i word) x 0) same ∙ get_or-set_same now i word 0 room in
        ap (bit_of_word j) read ∙ (chosen j low
        ∙ (ap (λ x. cond (bit_of_word j live) (bit_of_word j (get_or state x 0)) (bit_of_word j (get_or now i 0))) (sym same)
        ∙ ap (λ (x : ℕ). cond (bit_of_word j live) (bit_of_word j (get_or state k 0)) (bit_of_word j x)) (before.left i (omega arith) ∙ ap (λ x. get_or old x 0) (sym same))))
        )
  ];
  left = λ k ge. (
      let apart : k ≡ i → ⊥ = λ e. omega (arith, ge, e) in
      get_or-set_other now i k word 0 apart ∙ before.left k (omega (arith, ge))
      );
}

pub kept_all : (state old now : List ℕ) (live i : ℕ) → length now ≡ length state → length old ≡ length state → length state ≤ i → KeptWords state old now live i
    → Keeps state live old now
kept_all state old now live i size was all kept = λ j low. (
    let sizes : (b : Bool) → length (cond b (lane_values j state) (lane_values j old)) ≡ length state =
    λ b. elim b as (λ x. length (cond x (lane_values j state) (lane_values j old)) ≡ length state) [
      | true ↦ length-lane_values j state
      | false ↦ length-lane_values j old ∙ was
    ] in
    ext_get_or false (lane_values j now) (cond (bit_of_word j live) (lane_values j state) (lane_values j old))
    (length-lane_values j now ∙ (size ∙ sym (sizes (bit_of_word j live))))
    (λ k below. (
    let inside : k < length state = omega (arith, below, length-lane_values j now, size) in
    let picks : (b : Bool) → cond b (bit_of_word j (get_or state k 0)) (bit_of_word j (get_or old k 0)) ≡ get_or (cond b (lane_values j state) (lane_values j old)) k false =
    λ b. elim b as (λ x. cond x (bit_of_word j (get_or state k 0)) (bit_of_word j (get_or old k 0)) ≡ get_or (cond x (lane_values j state) (lane_values j old)) k false) [
      | true ↦ sym (lane_at j state k inside)
      | false ↦ sym (lane_at j old k (omega (arith, inside, was)))
    ] in
    lane_at j now k (omega (arith, inside, size)) ∙ (kept.gone k j (omega (arith, inside, all)) low ∙ picks (bit_of_word j live))
    ))
    )

-- the lanes before place i have the step where they die
pub record DeathsNoted (dying step : ℕ) (old now : List ℕ) (i : ℕ) : Type 0 where
  pub gone : (j : ℕ) → j < i → get_or now j 0 ≡ cond (bit_of_word j dying) step (get_or old j 0)
  pub left : (j : ℕ) → i ≤ j → get_or now j 0 ≡ get_or old j 0

-- the next literals are inside
pub nexts_inside : (c : Parts) (latches : List Latch) (n : ℕ) → IsCircuit c → latches ≡ c.latches → n ≡ c.top + 1 → All (λ lit. var lit < n) (next_lits latches)
nexts_inside c latches n ok e size = λ k d inside. (
    let low : k < length c.latches = omega (arith, inside, length-map latches (λ (l : Latch). l.next), ap length e) in
    let room = room_for_latches c ok k some_latch low 1 0 (omega arith) in
    let read : get_or (next_lits latches) k d ≡ (get_or c.latches k some_latch).next =
    get_or-map (λ (l : Latch). l.next) latches k some_latch d (omega (arith, low, ap length e)) ∙ ap (λ (ls : List Latch). (get_or ls k some_latch).next) e in
    subst (λ (m : ℕ). var (get_or (next_lits latches) k d) < m) (sym size) (subst (λ (x : ℕ). var x < c.top + 1) (sym read) room)
    )
