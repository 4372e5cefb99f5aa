-- Truth values kept 64 to a word: their places, and what a change of the words or of the length leaves.
use Rattle.std.proofs.Common.{◌≡◌, ◌≢◌, ℕ, ◌+◌, ◌*◌, ◌/◌, ◌%◌, ◌<◌, ◌≤◌, Bool, true, false, nat_eq, List, [], ◌∷◌, ◌++◌, length, get_or, set, take, replicate, inl, inr, refl, sym, ap, ◌∙◌, zero-add, arith, length-append, length-set}
use Rattle.std.proofs.lemmas.List.{get_or-set_same, get_or-set_other, get_or-replicate, get_or_append_left, get_or-append_right, get_or-take}
use Rattle.std.proofs.lemmas.List.FromFn.{length-map-range_with_len, get_or-map-range_with_len, fill_by_all}
use Rattle.std.proofs.lemmas.Grind.{common_steps, elements}
use Rattle.std.proofs.lemmas.Bool.{cases_eq}
use Rattle.std.proofs.Math.Nat.{sub_self}
use Rattle.std.proofs.lemmas.Nat.Bits.{bit_at-zero}
use Rattle.std.specs.Int.{bit_at, div_ceil}
use Rattle.aig_model.specs.Literal.{number}
use Rattle.aig_model.specs.Packed.{bit_of, unpacked}

-- ---- the list that the words stand for
pub length-unpacked : (words : List ℕ) (len : ℕ) → length (unpacked words len) ≡ len
unfolding unpacked
length-unpacked words len = length-map-range_with_len (bit_of words) 0 len

pub get_or-unpacked : (words : List ℕ) (len place : ℕ) (other : Bool) → place < len → get_or (unpacked words len) place other ≡ bit_of words place
unfolding unpacked
get_or-unpacked words len place other h = get_or-map-range_with_len (bit_of words) 0 len place place other h (zero-add place)

-- a list that has these bits at its places is the list of them
pub unpacked_by_places : (words : List ℕ) (xs : List Bool) (len : ℕ) → length xs ≡ len
    → ((k : ℕ) → k < len → get_or xs k false ≡ bit_of words k) → xs ≡ unpacked words len
unfolding unpacked
unpacked_by_places words xs len size places = fill_by_all (bit_of words) xs len false size places

pub unpacked_empty : (words : List ℕ) (len : ℕ) → len ≡ 0 → unpacked words len ≡ []
unfolding unpacked
unpacked_empty words len e = rw e refl

-- ---- the number of words
pub words_of_len : (len words : ℕ) → words ≡ div_ceil len 64 → (len ≤ 64 * words) × (64 * words < len + 64)
words_of_len len words e = (omega (arith, e), omega (arith, e))

-- ---- other words, or another length
pub unpacked-set : (words others : List ℕ) (len place : ℕ) (bit : Bool) → place < len
    → ((k : ℕ) → k < len → k ≢ place → bit_of others k ≡ bit_of words k) → bit_of others place ≡ bit
    → unpacked others len ≡ set (unpacked words len) place bit
unpacked-set words others len place bit h kept here =
    sym (unpacked_by_places others (set (unpacked words len) place bit) len (grind (arith, length-unpacked, length-set {A = Bool}))
    (λ k l. elim (cases_eq k place) [
      | inl same ↦ rw same (get_or-set_same (unpacked words len) place bit false (omega (arith, length-unpacked words len)) ∙ sym here)
      | inr other ↦ get_or-set_other (unpacked words len) place k bit false other ∙ (get_or-unpacked words len k false l ∙ sym (kept k l other))
    ]))

pushed_at : (xs : List Bool) (k len : ℕ) (bit : Bool) (f : ℕ → Bool) → length xs ≡ len
    → ((k : ℕ) → k < len → get_or xs k false ≡ f k) → f len ≡ bit → k < len + 1 → get_or (xs ++ bit ∷ []) k false ≡ f k
pushed_at xs k len bit f size below here h =
    elim (cases_eq k len) [
      | inl same ↦ rw same (grind (arith, common_steps, elements))
      | inr other ↦ (let l : k < len = omega arith in grind (arith, common_steps, elements, below k l))
    ]

pub unpacked-push : (words others : List ℕ) (len : ℕ) (bit : Bool) → ((k : ℕ) → k < len → bit_of others k ≡ bit_of words k)
    → bit_of others len ≡ bit → unpacked others (len + 1) ≡ unpacked words len ++ bit ∷ []
unpacked-push words others len bit kept here =
    sym (unpacked_by_places others (unpacked words len ++ bit ∷ []) (len + 1) (grind (arith, length-unpacked, length-append {A = Bool}))
    (λ k h. pushed_at (unpacked words len) k len bit (bit_of others) (length-unpacked words len)
    (λ j l. get_or-unpacked words len j false l ∙ sym (kept j l)) here h))

pub unpacked-take : (words : List ℕ) (len to count : ℕ) → to ≤ len → to ≤ 64 * count → unpacked (take count words) to ≡ take to (unpacked words len)
unpacked-take words len to count h fits =
    sym (unpacked_by_places (take count words) (take to (unpacked words len)) to (grind (arith, length-unpacked, common_steps))
    (λ k l. get_or-take to (unpacked words len) k false l ∙ (get_or-unpacked words len k false (omega arith)
    ∙ ap (λ word. nat_eq (bit_at word (k % 64)) 1) (sym (get_or-take count words (k / 64) 0 (omega arith))))))

pub unpacked-replicate : (len count : ℕ) → len ≤ 64 * count → unpacked (replicate count 0) len ≡ replicate len false
unpacked-replicate len count fits =
    sym (unpacked_by_places (replicate count 0) (replicate len false) len (grind (arith, common_steps))
    (λ k h. get_or-replicate len k false false h
    ∙ sym (rw (get_or-replicate {A = ℕ} count (k / 64) 0 0 (omega arith), bit_at-zero (k % 64)) refl)))

-- ---- one word written
number_is_one : (bit : Bool) → nat_eq (number bit) 1 ≡ bit
number_is_one true = refl
number_is_one false = refl

pub bit_of-set_here : (words : List ℕ) (place word : ℕ) (bit : Bool) → place / 64 < length words → bit_at word (place % 64) ≡ number bit
    → bit_of (set words (place / 64) word) place ≡ bit
bit_of-set_here words place word bit h e = rw (get_or-set_same words (place / 64) word 0 h, e) (number_is_one bit)

pub bit_of-set_other : (words : List ℕ) (place word k : ℕ) → place / 64 < length words
    → ((j : ℕ) → j < 64 → j ≢ place % 64 → bit_at word j ≡ bit_at (get_or words (place / 64) 0) j)
    → k ≢ place → bit_of (set words (place / 64) word) k ≡ bit_of words k
bit_of-set_other words place word k h others ne =
    elim (cases_eq (k / 64) (place / 64)) [
      | inl same ↦ (let apart : k % 64 ≢ place % 64 = omega arith in
          ap (λ v. nat_eq v 1) (rw (same, get_or-set_same words (place / 64) word 0 h) (others (k % 64) (omega arith) apart)))
      | inr other ↦ ap (λ w. nat_eq (bit_at w (k % 64)) 1) (get_or-set_other words (place / 64) (k / 64) word 0 other)
    ]

pub unpacked-push_within : (words : List ℕ) (len word : ℕ) (bit : Bool) → len / 64 < length words → bit_at word (len % 64) ≡ number bit
    → ((j : ℕ) → j < 64 → j ≢ len % 64 → bit_at word j ≡ bit_at (get_or words (len / 64) 0) j)
    → unpacked (set words (len / 64) word) (len + 1) ≡ unpacked words len ++ bit ∷ []
unpacked-push_within words len word bit h here others =
    unpacked-push words (set words (len / 64) word) len bit
    (λ k l. (let ne : k ≢ len = omega arith in bit_of-set_other words len word k h others ne))
    (bit_of-set_here words len word bit h here)

-- ---- one word more
pub unpacked-push_word : (words others : List ℕ) (len word : ℕ) (bit : Bool) → others ≡ words ++ word ∷ [] → bit_at word 0 ≡ number bit
    → len ≡ 64 * length words → unpacked others (len + 1) ≡ unpacked words len ++ bit ∷ []
unpacked-push_word words others len word bit pushed here full =
    let quotient : len / 64 ≡ length words = omega arith in
    let rest : len % 64 ≡ 0 = omega arith in
    rw pushed
    (unpacked-push words (words ++ word ∷ []) len bit
    (λ k l. ap (λ w. nat_eq (bit_at w (k % 64)) 1) (get_or_append_left words (word ∷ []) 0 (k / 64) (omega arith)))
    (rw (rest, quotient, get_or-append_right words (word ∷ []) (length words) (length words) 0 refl (omega arith), sub_self, here) (number_is_one bit)))
