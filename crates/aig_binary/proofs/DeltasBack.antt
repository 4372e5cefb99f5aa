-- A delta that was written reads back.
use Rattle.std.proofs.Common.{◌≡◌, ℕ, zero, suc, ◌+◌, ◌*◌, ◌/◌, ◌%◌, ◌^◌, ◌<◌, ◌≤◌, Bool, true, false, cond, not, ◌&&◌, ◌||◌, nat_lt, nat_le, List, [], ◌∷◌, ◌++◌, length, refl, ap, ◌∙◌, arith}
use Rattle.std.specs.List.{list_any}
use Rattle.std.proofs.lemmas.Bool.Decides.{nat_tests}
use Rattle.text_words.specs.Text.{Rest}
use Rattle.aig_binary.specs.Deltas.{is_last, delta_bytes, behind_bytes, groups_value, delta_value, is_cut, is_short, behind_delta, groups, delta_text}

-- bytes that are a delta, whatever follows them
record IsWritten (bs : List ℕ) (n most : ℕ) : Type 0 where
  whole : (rest : List ℕ) → delta_bytes (bs ++ rest) ≡ bs
  behind : (rest : List ℕ) → behind_bytes (bs ++ rest) ≡ rest
  ends : (rest : List ℕ) → list_any is_last (bs ++ rest) ≡ true
  value : groups_value bs ≡ n
  size : length bs ≤ most

last-group : (n more : ℕ) → n < 128 → IsWritten (n ∷ []) n (suc more)
last-group n more h =
    let last : is_last n ≡ true = grind (arith, nat_tests) in
    record {
      whole = λ rest. ap (λ t. cond t (n ∷ []) (n ∷ delta_bytes rest)) last;
      behind = λ rest. ap (λ t. cond t rest (behind_bytes rest)) last;
      ends = λ rest. ap (λ t. t || list_any is_last rest) last;
      value = omega (arith, h);
      size = omega arith;
    }

one-group : (n more : ℕ) (bs : List ℕ) → IsWritten bs (n / 128) more → IsWritten ((n % 128 + 128) ∷ bs) n (suc more)
one-group n more bs w =
    let b = n % 128 + 128 in
    let other : is_last b ≡ false = grind (arith, nat_tests) in
    record {
      whole = λ rest. ap (λ t. cond t (b ∷ []) (b ∷ delta_bytes (bs ++ rest))) other ∙ ap (λ xs. b ∷ xs) (w.whole rest);
      behind = λ rest. ap (λ t. cond t (bs ++ rest) (behind_bytes (bs ++ rest))) other ∙ w.behind rest;
      ends = λ rest. ap (λ t. t || list_any is_last (bs ++ rest)) other ∙ w.ends rest;
      value = omega (arith, w.value);
      size = omega (arith, w.size);
    }

-- what so many groups can spell
abbrev bound : ℕ → ℕ
bound zero = 128
bound (suc more) = 128 * bound more

groups-written : (more n : ℕ) → n < bound more → IsWritten (groups more n) n (suc more)
groups-written zero n h = last-group n 0 h
groups-written (suc more) n h = by_test (nat_lt n 128) refl (λ k. groups-written more (n / 128) k)
  where
    by_test : (t : Bool) → nat_lt n 128 ≡ t → (n / 128 < bound more → IsWritten (groups more (n / 128)) (n / 128) (suc more))
        → IsWritten (cond t (n ∷ []) ((n % 128 + 128) ∷ groups more (n / 128))) n (suc (suc more))
    by_test true e written = last-group n (suc more) (grind (arith, nat_tests))
    by_test false e written = one-group n (suc more) (groups more (n / 128)) (written (omega (arith, h)))

delta-written : (n : ℕ) → n < 2 ^ 32 → IsWritten (delta_text n) n 5
unfolding delta_text
delta-written n h = groups-written 4 n (omega (arith, h))

-- ---- where it stands in a file

pub record StandsDelta (r : Rest) (n : ℕ) (rest : List ℕ) : Type 0 where
  pub uncut : is_cut r.bytes ≡ false
  pub short : is_short r.bytes ≡ true
  pub value : delta_value r.bytes ≡ n
  pub behind : (behind_delta r).bytes ≡ rest

pub delta-back : (r : Rest) (n : ℕ) (rest : List ℕ) → n < 2 ^ 32 → r.bytes ≡ delta_text n ++ rest → StandsDelta r n rest
delta-back r n rest few is =
    let w = delta-written n few in
    let ends : list_any is_last r.bytes ≡ true = ap (list_any is_last) is ∙ w.ends rest in
    let bytes : delta_bytes r.bytes ≡ delta_text n = ap delta_bytes is ∙ w.whole rest in
    let fits : nat_le (length (delta_bytes r.bytes)) 5 ≡ true = (let size = w.size in let same = ap length bytes in grind (arith, nat_tests)) in
    record {
      uncut = ap (λ t. not t && nat_lt (length r.bytes) 5) ends;
      short = ap (λ t. t && nat_le (length (delta_bytes r.bytes)) 5) ends ∙ fits;
      value = ap groups_value bytes ∙ w.value;
      behind = ap behind_bytes is ∙ w.behind rest;
    }
