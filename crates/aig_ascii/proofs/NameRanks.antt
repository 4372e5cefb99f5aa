-- Names sorted by their ranks.
use Rattle.std.proofs.Common.{◌≡◌, ◌≢◌, ℕ, inl, inr, ◌+◌, ◌^◌, ◌<◌, List, [], ◌∷◌, ◌++◌, map, length, get_or, arith, sym, ap, ◌∙◌, subst, refl, All, AllPairs}
use Rattle.std.specs.List.Sorted.{IsPermutation, IsNonDecreasingBy}
use Rattle.std.proofs.lemmas.Bool.{cases_eq, cases_lt}
use Rattle.std.proofs.lemmas.List.{get_or-map, get_or_default, length-map, same_lists, length_push, get_or_push, get_or_append_left}
use Rattle.std.proofs.lemmas.List.Elements.{All-from_get_or, All-weaker}
use Rattle.std.proofs.lemmas.List.Sorted.{All-permutation, IsPermutation-map}
use Rattle.aig_model.specs.declared.parts.Place.{Place}
use Rattle.aig_model.specs.declared.parts.Place.TheVariants.{Input, Latch as InLatch, Output, Bad, Constraint}
use Rattle.aig_model.specs.declared.parts.Named.{Named}
use Rattle.aig_model.specs.declared.parts.Parts.{Parts}
use Rattle.aig_model.specs.WellFormed.{IsSized, Exists, IsCircuit}
use Rattle.aig_ascii.specs.declared.writing.names.Ranked.{Ranked}
use Rattle.aig_ascii.specs.CircuitText.{section_of, position_of, Precedes, AreInOrder}
use Rattle.aig_ascii.specs.NameOrder.{rank_of, HaveOwnPlaces, name_at, no_name, no_rank, AreRanks, names_by}
use Rattle.gate_order.proofs.Times.{apart-permutation}

-- ---- ranks of places
one_place_of : (p q : Place) → section_of p ≡ section_of q → position_of p ≡ position_of q → p ≡ q
one_place_of (Input j) (Input k) same at = ap Input at
one_place_of (Input j) (InLatch k) same at = absurd (omega (arith, same))
one_place_of (Input j) (Output k) same at = absurd (omega (arith, same))
one_place_of (Input j) (Bad k) same at = absurd (omega (arith, same))
one_place_of (Input j) (Constraint k) same at = absurd (omega (arith, same))
one_place_of (InLatch j) (Input k) same at = absurd (omega (arith, same))
one_place_of (InLatch j) (InLatch k) same at = ap InLatch at
one_place_of (InLatch j) (Output k) same at = absurd (omega (arith, same))
one_place_of (InLatch j) (Bad k) same at = absurd (omega (arith, same))
one_place_of (InLatch j) (Constraint k) same at = absurd (omega (arith, same))
one_place_of (Output j) (Input k) same at = absurd (omega (arith, same))
one_place_of (Output j) (InLatch k) same at = absurd (omega (arith, same))
one_place_of (Output j) (Output k) same at = ap Output at
one_place_of (Output j) (Bad k) same at = absurd (omega (arith, same))
one_place_of (Output j) (Constraint k) same at = absurd (omega (arith, same))
one_place_of (Bad j) (Input k) same at = absurd (omega (arith, same))
one_place_of (Bad j) (InLatch k) same at = absurd (omega (arith, same))
one_place_of (Bad j) (Output k) same at = absurd (omega (arith, same))
one_place_of (Bad j) (Bad k) same at = ap Bad at
one_place_of (Bad j) (Constraint k) same at = absurd (omega (arith, same))
one_place_of (Constraint j) (Input k) same at = absurd (omega (arith, same))
one_place_of (Constraint j) (InLatch k) same at = absurd (omega (arith, same))
one_place_of (Constraint j) (Output k) same at = absurd (omega (arith, same))
one_place_of (Constraint j) (Bad k) same at = absurd (omega (arith, same))
one_place_of (Constraint j) (Constraint k) same at = ap Constraint at

rank_apart : (p q : Place) → position_of p < 2 ^ 32 → position_of q < 2 ^ 32 → rank_of p ≡ rank_of q → p ≡ q
rank_apart p q small_p small_q same = one_place_of p q (omega (arith, same, small_p, small_q)) (omega (arith, same, small_p, small_q))

precedes-from_rank : (p q : Place) → position_of p < 2 ^ 32 → position_of q < 2 ^ 32 → rank_of p < rank_of q → Precedes p q
precedes-from_rank p q small_p small_q less =
    elim (cases_lt (section_of p) (section_of q)) [
      | inl before ↦ inl before
      | inr not_before ↦
          let same : section_of p ≡ section_of q = omega (arith, not_before, less, small_p, small_q) in
          inr (same, omega (arith, same, less))
    ]

-- ---- one rank more
pub ranks_more : (names : List Named) (ranks : List Ranked) (count : ℕ) (next : Ranked) → AreRanks names count ranks
    → next ≡ record { rank = rank_of (name_at names count).place; index = count } → AreRanks names (count + 1) (ranks ++ next ∷ [])
ranks_more names ranks count next are is = record {
  size = length_push ranks next ∙ ap (λ n. n + 1) are.size;
  each = λ k h. elim (cases_eq k count) [
    | inl e ↦
        get_or_push ranks next no_rank k (are.size ∙ sym e)
        ∙ (is ∙ let here : ℕ → Ranked = λ n. record { rank = rank_of (name_at names n).place; index = n } in ap here (sym e))
    | inr ne ↦ get_or_append_left ranks (next ∷ []) no_rank k (omega (arith, are.size, h, ne)) ∙ are.each k (omega (arith, h, ne))
  ];
}

-- ---- ranks sorted
module _ (names : List Named) (own : HaveOwnPlaces names) (ranks sorted : List Ranked) (are : AreRanks names (length names) ranks) (same : IsPermutation ranks sorted) (rise : IsNonDecreasingBy (λ (r : Ranked). r.rank) sorted) where
  abbrev IsRight : Ranked → Type 0
  IsRight r = (r.index < length names) × (r.rank ≡ rank_of (name_at names r.index).place)

  all_right : All IsRight sorted
  all_right =
      let right : All IsRight ranks =
      All-from_get_or IsRight ranks no_rank
      (λ i h.
      let inside : i < length names = omega (arith, h, are.size) in
      subst IsRight (sym (are.each i inside)) (inside, refl))
      in
      All-permutation IsRight ranks sorted same right

  pub ranks_inside : All (λ (r : Ranked). r.index < length names) sorted
  ranks_inside = All-weaker IsRight (λ (r : Ranked). r.index < length names) (λ r right. right.0) sorted all_right

  names_same : IsPermutation names (names_by names sorted)
  names_same =
      let name : Ranked → Named = λ r. name_at names r.index in
      let whole : names_by names ranks ≡ names =
      same_lists (names_by names ranks) names (length-map ranks name ∙ are.size)
      (λ k d h.
      let inside : k < length ranks = omega (arith, h, length-map ranks name) in
      let in_names : k < length names = omega (arith, inside, are.size) in
      get_or-map name ranks k no_rank d inside ∙ (ap name (are.each k in_names) ∙ get_or_default names k no_name d in_names))
      in
      subst (λ (ns : List Named). IsPermutation ns (names_by names sorted)) whole (IsPermutation-map name ranks sorted same)

  ranks_differ : AllPairs (λ m n. m ≢ n) (map (λ (n : Named). rank_of n.place) (names_by names sorted))
  ranks_differ =
      let rank : Named → ℕ = λ n. rank_of n.place in
      apart-permutation (map rank names) (map rank (names_by names sorted)) (IsPermutation-map rank names (names_by names sorted) names_same)
      (λ i j d before inside e.
      let in_j : j < length names = omega (arith, inside, length-map names rank) in
      let in_i : i < length names = omega (arith, before, in_j) in
      let at_i : get_or (map rank names) i d ≡ rank (name_at names i) = get_or-map rank names i no_name d in_i in
      let at_j : get_or (map rank names) j d ≡ rank (name_at names j) = get_or-map rank names j no_name d in_j in
      own.apart i j no_name before in_j
      (rank_apart (name_at names i).place (name_at names j).place (own.small i no_name in_i) (own.small j no_name in_j) (sym at_i ∙ (e ∙ at_j))))

  pub names_ordered : AreInOrder names (names_by names sorted)
  names_ordered = record {
    same = names_same;
    rising = λ i j d before inside.
        let name : Ranked → Named = λ r. name_at names r.index in
        let rank : Named → ℕ = λ n. rank_of n.place in
        let by = names_by names sorted in
        let in_j : j < length sorted = omega (arith, inside, length-map sorted name) in
        let in_i : i < length sorted = omega (arith, before, in_j) in
        let right_i = all_right i no_rank in_i in
        let right_j = all_right j no_rank in_j in
        let at_i : get_or by i d ≡ name (get_or sorted i no_rank) = get_or-map name sorted i no_rank d in_i in
        let at_j : get_or by j d ≡ name (get_or sorted j no_rank) = get_or-map name sorted j no_rank d in_j in
        let rank_i : get_or (map rank by) i 0 ≡ (get_or sorted i no_rank).rank =
        get_or-map rank by i d 0 (omega (arith, before, inside)) ∙ (ap rank at_i ∙ sym right_i.1)
        in
        let rank_j : get_or (map rank by) j 0 ≡ (get_or sorted j no_rank).rank = get_or-map rank by j d 0 inside ∙ (ap rank at_j ∙ sym right_j.1) in
        let differ = ranks_differ i j 0 before (omega (arith, inside, length-map by rank)) in
        let le = rise i j no_rank (omega (arith, before)) in_j in
        let less : rank_of (name (get_or sorted i no_rank)).place < rank_of (name (get_or sorted j no_rank)).place =
        omega (arith, le, differ, rank_i, rank_j, right_i.1, right_j.1)
        in
        subst (λ (m : Named). Precedes m.place (get_or by j d).place) (sym at_i)
        (subst (λ (n : Named). Precedes (name (get_or sorted i no_rank)).place n.place) (sym at_j)
        (precedes-from_rank (name (get_or sorted i no_rank)).place (name (get_or sorted j no_rank)).place (own.small _ no_name right_i.0) (own.small _ no_name right_j.0) less));
  }

-- ---- the names of a circuit
pub position_inside : (c : Parts) (place : Place) → IsSized c → Exists c place → position_of place < 2 ^ 32
position_inside c (Input k) sized exists = omega (arith, sized.inputs, exists)
position_inside c (InLatch k) sized exists = omega (arith, sized.latches, exists)
position_inside c (Output k) sized exists = omega (arith, sized.outputs, exists)
position_inside c (Bad k) sized exists = omega (arith, sized.bads, exists)
position_inside c (Constraint k) sized exists = omega (arith, sized.constraints, exists)

pub own_places : (c : Parts) → IsCircuit c → HaveOwnPlaces c.names
own_places c is = record {
  small = All-weaker (λ (n : Named). Exists c n.place) (λ (n : Named). position_of n.place < 2 ^ 32) (λ n exists. position_inside c n.place is.sized exists) c.names is.names.exist;
  apart = is.names.once;
}
