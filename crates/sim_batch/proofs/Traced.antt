-- What the code of a lane's trace makes is the lane's trace.
use Rattle.std.proofs.Common.{◌≡◌, ℕ, zero, suc, ◌+◌, ◌*◌, ◌<◌, Bool, List, [], ◌∷◌, ◌++◌, map, length, get_or, Option, None, Some, refl, ap, ◌∙◌, arith}
use Rattle.std.specs.Prelude.{slice_get}
use Rattle.std.specs.List.{range_with_len}
use Rattle.std.proofs.lemmas.List.FromFn.{length-map-range_with_len, get_or-map-range_with_len}
use Rattle.std.proofs.lemmas.Option.{slice_get-get_or}
use Rattle.aig_model.specs.declared.parts.Parts.{Parts}
use Rattle.aig_model.specs.declared.trace.Trace.{Trace}
use Rattle.sim_walk.specs.Walk.{Lane}
use Rattle.sim_batch.specs.Batch.{free_count, reset_state, row_of_bits, start_bits, lane_start, lane_with, lanes_of, lane_rows, first_start, first_rows, BelongsTo, IsLaneTrace}
use Rattle.sim_batch.specs.Seeds.{SeedState, AreSeeds}
use Rattle.sim_batch.specs.Words.{after_words, word_at, bit_of_word, batch_generator, lane_bit}
use Rattle.sim_batch.proofs.Drawn.{word_later, reset_state_same}

-- ---- the words that the start takes
pub start_drawn : (c : Parts) (g : List ℕ) (from : Option SeedState) (words : List ℕ) (j : ℕ) → words ≡ map (word_at g) (range_with_len 0 (start_bits c from))
    → lane_start c from (λ k. bit_of_word j (get_or words k 0)) ≡ lane_start c from (λ k. bit_of_word j (word_at g k))
start_drawn c g None words j drawn =
    reset_state_same (λ k. bit_of_word j (get_or words k 0)) (λ k. bit_of_word j (word_at g k)) 0 c.latches
    (λ k inside. ap (bit_of_word j) (ap (λ ws. get_or ws k 0) drawn ∙ get_or-map-range_with_len (word_at g) 0 (free_count c.latches) k k 0 (omega (arith, inside)) (omega arith)))
start_drawn c g (Some from) words j drawn = refl

-- ---- the rows after them
bits_from : (s : List ℕ) (j m at n : ℕ)
    → map (λ k. bit_of_word j (word_at (after_words s m) k)) (range_with_len at n) ≡ map (λ k. bit_of_word j (word_at s k)) (range_with_len (m + at) n)
bits_from s j m at zero = refl
bits_from s j m at (suc n) =
    let next : m + (at + 1) ≡ m + at + 1 = omega arith in
    let tail = bits_from s j m (at + 1) n ∙ ap (λ x. map (λ k. bit_of_word j (word_at s k)) (range_with_len x n)) next in
    ap (λ w. bit_of_word j w ∷ map (λ k. bit_of_word j (word_at (after_words s m) k)) (range_with_len (at + 1) n)) (word_later s m at)
    ∙ ap (λ more. bit_of_word j (word_at s (m + at)) ∷ more) tail

row_from : (s : List ℕ) (j m inputs t : ℕ)
    → row_of_bits (λ k. bit_of_word j (word_at (after_words s m) k)) 0 inputs t ≡ row_of_bits (λ k. bit_of_word j (word_at s k)) m inputs t
row_from s j m inputs t =
    let none : 0 + t * inputs ≡ t * inputs = omega arith in
    ap (λ x. map (λ k. bit_of_word j (word_at (after_words s m) k)) (range_with_len x inputs)) none ∙ bits_from s j m (t * inputs) inputs

map_same : (f g : ℕ → List Bool) (xs : List ℕ) → ((t : ℕ) → f t ≡ g t) → map f xs ≡ map g xs
map_same f g [] h = refl
map_same f g (x ∷ xs) h = ap (λ y. y ∷ map f xs) (h x) ∙ ap (λ more. g x ∷ more) (map_same f g xs h)

pub rows_from : (c : Parts) (seed batch : ℕ) (from : Option SeedState) (j count : ℕ)
    → map (row_of_bits (λ k. bit_of_word j (word_at (after_words (batch_generator seed batch) (start_bits c from)) k)) 0 (length c.inputs)) (range_with_len 0 count)
    ≡ lane_rows (lane_with c from (lane_bit seed batch j)) count
rows_from c seed batch from j count =
    map_same (row_of_bits (λ k. bit_of_word j (word_at (after_words (batch_generator seed batch) (start_bits c from)) k)) 0 (length c.inputs))
    (row_of_bits (lane_bit seed batch j) (start_bits c from) (length c.inputs)) (range_with_len 0 count)
    (λ t. row_from (batch_generator seed batch) j (start_bits c from) (length c.inputs) t)

-- ---- the trace
pub lane_placed : (c : Parts) (seed batch : ℕ) (from : Option SeedState) (j : ℕ) → j < 64
    → slice_get (lanes_of c seed batch from) j ≡ Some (lane_with c from (lane_bit seed batch j))
unfolding lanes_of
lane_placed c seed batch from j inside =
    let f : ℕ → Lane = λ k. lane_with c from (lane_bit seed batch k) in
    slice_get-get_or (map f (range_with_len 0 64)) j (f j) (omega (arith, inside, length-map-range_with_len f 0 64))
    ∙ ap Some (get_or-map-range_with_len f 0 64 j j (f j) inside (omega arith))

traced : (c : Parts) (seed batch : ℕ) (from : Option SeedState) (j t : ℕ) (trace : Trace) → j < 64
    → trace.start ≡ first_start from (lane_start c from (lane_bit seed batch j)) → trace.rows.width ≡ length c.inputs
    → trace.rows.rows ≡ first_rows from ++ lane_rows (lane_with c from (lane_bit seed batch j)) (t + 1)
    → IsLaneTrace c from (lanes_of c seed batch from) j t trace
traced c seed batch from j t trace inside start width rows = record {
  lane = lane_with c from (lane_bit seed batch j);
  place = lane_placed c seed batch from j inside;
  start = start;
  width = width;
  rows = rows;
}

-- the rows as they are drawn
abbrev pub AreDrawn : Parts → ℕ → ℕ → Option SeedState → ℕ → ℕ → List (List Bool) → Type 0
AreDrawn c seed batch from j count rows =
    rows ≡ map (row_of_bits (λ k. bit_of_word j (word_at (after_words (batch_generator seed batch) (start_bits c from)) k)) 0 (length c.inputs)) (range_with_len 0 count)

pub traced_none : (c : Parts) (seed batch : ℕ) (from : Option SeedState) (words : List ℕ) (j t : ℕ) (trace : Trace) → from ≡ None → j < 64
    → words ≡ map (word_at (batch_generator seed batch)) (range_with_len 0 (start_bits c from))
    → trace.start ≡ reset_state (λ k. bit_of_word j (get_or words k 0)) 0 c.latches → trace.rows.width ≡ length c.inputs
    → AreDrawn c seed batch from j (t + 1) trace.rows.rows → IsLaneTrace c from (lanes_of c seed batch from) j t trace
traced_none c seed batch None words j t trace e inside drawn start width rows =
    traced c seed batch None j t trace inside (start ∙ start_drawn c (batch_generator seed batch) None words j drawn) width (rows ∙ rows_from c seed batch None j (t + 1))
traced_none c seed batch (Some from) words j t trace e inside drawn start width rows = absurd cc

pub traced_some : (c : Parts) (seed batch : ℕ) (from : Option SeedState) (s : SeedState) (own : List (List Bool)) (j t : ℕ) (trace : Trace) → from ≡ Some s → j < 64
    → AreSeeds from → BelongsTo c from → trace.start ≡ s.start → trace.rows.width ≡ s.rows.width → trace.rows.rows ≡ s.rows.rows ++ own
    → AreDrawn c seed batch from j (t + 1) own → IsLaneTrace c from (lanes_of c seed batch from) j t trace
traced_some c seed batch None s own j t trace e inside holds same start width rows drawn = absurd cc
traced_some c seed batch (Some from) s own j t trace e inside holds same start width rows drawn =
    let equal : s ≡ from = cc in
    traced c seed batch (Some from) j t trace inside (start ∙ ap (λ (x : SeedState). x.start) equal)
    (width ∙ (ap (λ (x : SeedState). x.rows.width) equal ∙ (holds.width ∙ ap (λ (x : Parts). length x.inputs) same)))
    (rows ∙ (ap (λ (x : SeedState). x.rows.rows ++ own) equal ∙ ap (λ r. from.rows.rows ++ r) (drawn ∙ rows_from c seed batch (Some from) j (t + 1))))
