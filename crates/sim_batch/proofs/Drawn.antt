-- The words that a generator gives, and what a lane reads in them.
use Rattle.std.proofs.Common.{◌≡◌, ℕ, zero, suc, ◌+◌, ◌*◌, ◌<◌, ◌≤◌, Bool, List, [], ◌∷◌, ◌++◌, map, take, length, get_or, refl, ap, ◌∙◌, arith}
use Rattle.std.specs.List.{range_with_len}
use Rattle.rand_xoshiro.specs.Xoshiro256.{plus_plus}
use Rattle.std.proofs.lemmas.List.{length-take-le, take_more}
use Rattle.aig_model.specs.declared.parts.Latch.{Latch}
use Rattle.aig_model.specs.declared.parts.Reset.{Reset}
use Rattle.aig_model.specs.declared.parts.Reset.TheVariants as resets
use Rattle.sim_batch.specs.Batch.{free_bits, free_count, reset_state, start_value, row_of_bits}
use Rattle.sim_batch.specs.Words.{after_words, word_at, bit_of_word}

-- ---- free latches
free_bits_le : (r : Reset) → free_bits r ≤ 1
free_bits_le resets.Zero = omega arith
free_bits_le resets.One = omega arith
free_bits_le resets.Free = omega arith

pub free_count_le : (ls : List Latch) → free_count ls ≤ length ls
free_count_le [] = omega arith
free_count_le (l ∷ ls) = omega (arith, free_bits_le l.reset, free_count_le ls)

pub free_count_push : (ls : List Latch) (l : Latch) → free_count (ls ++ l ∷ []) ≡ free_count ls + free_bits l.reset
free_count_push [] l = omega arith
free_count_push (x ∷ ls) l = omega (arith, free_count_push ls l)

pub free_count_next : (ls : List Latch) (k : ℕ) (l : Latch) → k < length ls → get_or ls k l ≡ l → free_count (take (k + 1) ls) ≡ free_count (take k ls) + free_bits l.reset
free_count_next ls k l inside item = ap free_count (take_more ls k l inside) ∙ (ap (λ x. free_count (take k ls ++ x ∷ [])) item ∙ free_count_push (take k ls) l)

pub free_count_room : (ls : List Latch) (k : ℕ) (l : Latch) → k < length ls → get_or ls k l ≡ l → free_count (take k ls) + free_bits l.reset ≤ length ls
free_count_room ls k l inside item = omega (arith, free_count_next ls k l inside item, free_count_le (take (k + 1) ls), length-take-le (k + 1) ls (omega arith))

pub reset_state_push : (bits : ℕ → Bool) (n : ℕ) (ls : List Latch) (l : Latch)
    → reset_state bits n (ls ++ l ∷ []) ≡ reset_state bits n ls ++ start_value l.reset (bits (n + free_count ls)) ∷ []
reset_state_push bits n [] l = ap (λ k. start_value l.reset (bits k) ∷ []) (let same : n ≡ n + 0 = omega arith in same)
reset_state_push bits n (x ∷ ls) l =
    let same : n + free_bits x.reset + free_count ls ≡ n + (free_bits x.reset + free_count ls) = omega arith in
    ap (λ more. start_value x.reset (bits n) ∷ more)
    (reset_state_push bits (n + free_bits x.reset) ls l ∙ ap (λ k. reset_state bits (n + free_bits x.reset) ls ++ start_value l.reset (bits k) ∷ []) same)

pub reset_state_next : (bits : ℕ → Bool) (ls : List Latch) (k : ℕ) (l : Latch) → k < length ls → get_or ls k l ≡ l
    → reset_state bits 0 (take (k + 1) ls) ≡ reset_state bits 0 (take k ls) ++ start_value l.reset (bits (free_count (take k ls))) ∷ []
reset_state_next bits ls k l inside item =
    let none : 0 + free_count (take k ls) ≡ free_count (take k ls) = omega arith in
    ap (reset_state bits 0) (take_more ls k l inside)
    ∙ (ap (λ x. reset_state bits 0 (take k ls ++ x ∷ [])) item
    ∙ (reset_state_push bits 0 (take k ls) l
    ∙ ap (λ n. reset_state bits 0 (take k ls) ++ start_value l.reset (bits n) ∷ []) none))

-- a bit that a latch doesn't take doesn't matter
start_value_same : (r : Reset) (a b : Bool) → (0 < free_bits r → a ≡ b) → start_value r a ≡ start_value r b
start_value_same resets.Zero a b h = refl
start_value_same resets.One a b h = refl
start_value_same resets.Free a b h = h (omega arith)

pub reset_state_same : (f g : ℕ → Bool) (n : ℕ) (ls : List Latch) → ((k : ℕ) → k < n + free_count ls → f k ≡ g k) → reset_state f n ls ≡ reset_state g n ls
reset_state_same f g n [] h = refl
reset_state_same f g n (l ∷ ls) h =
    let head : start_value l.reset (f n) ≡ start_value l.reset (g n) = start_value_same l.reset (f n) (g n) (λ some. h n (omega (arith, some))) in
    let tail : reset_state f (n + free_bits l.reset) ls ≡ reset_state g (n + free_bits l.reset) ls = reset_state_same f g (n + free_bits l.reset) ls (λ k inside. h k (omega (arith, inside))) in
    cc

-- ---- words
pub after_none : (s : List ℕ) → after_words s 0 ≡ s
unfolding after_words
after_none s = refl

pub after_more : (s : List ℕ) (m n : ℕ) → after_words (after_words s m) n ≡ after_words s (m + n)
unfolding after_words
after_more s m zero =
    let same : m ≡ m + 0 = omega arith in
    ap (after_words s) same
after_more s m (suc n) =
    let same : suc (m + n) ≡ m + suc n = omega arith in
    ap (λ x. (plus_plus x).1) (after_more s m n) ∙ ap (after_words s) same

pub word_later : (s : List ℕ) (m k : ℕ) → word_at (after_words s m) k ≡ word_at s (m + k)
unfolding word_at
word_later s m k = ap (λ x. (plus_plus x).0) (after_more s m k)

-- the next word, and the state after it
pub next_drawn : (s new : List ℕ) (k value : ℕ) → (value, new) ≡ plus_plus (after_words s k) → (value ≡ word_at s k) × (new ≡ after_words s (k + 1))
unfolding after_words word_at
next_drawn s new k value h = (ap (λ (p : ℕ × List ℕ). p.0) h, ap (λ (p : ℕ × List ℕ). p.1) h ∙ ap (after_words s) (let same : suc k ≡ k + 1 = omega arith in same))

-- what a lane reads in words that are drawn after others
pub bits_later : (s : List ℕ) (j from at n : ℕ)
    → map (bit_of_word j) (map (word_at (after_words s from)) (range_with_len at n)) ≡ map (λ k. bit_of_word j (word_at s k)) (range_with_len (from + at) n)
bits_later s j from at zero = refl
bits_later s j from at (suc n) =
    let head : word_at (after_words s from) at ≡ word_at s (from + at) = word_later s from at in
    let next : from + (at + 1) ≡ from + at + 1 = omega arith in
    let tail = bits_later s j from (at + 1) n ∙ ap (λ m. map (λ k. bit_of_word j (word_at s k)) (range_with_len m n)) next in
    ap (λ w. bit_of_word j w ∷ map (bit_of_word j) (map (word_at (after_words s from)) (range_with_len (at + 1) n))) head
    ∙ ap (λ more. bit_of_word j (word_at s (from + at)) ∷ more) tail

pub row_drawn : (s : List ℕ) (j skip inputs t : ℕ)
    → map (bit_of_word j) (map (word_at (after_words s (skip + t * inputs))) (range_with_len 0 inputs)) ≡ row_of_bits (λ k. bit_of_word j (word_at s k)) skip inputs t
row_drawn s j skip inputs t =
    let none : skip + t * inputs + 0 ≡ skip + t * inputs = omega arith in
    bits_later s j (skip + t * inputs) 0 inputs ∙ ap (λ m. map (λ k. bit_of_word j (word_at s k)) (range_with_len m inputs)) none
