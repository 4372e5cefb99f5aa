-- Deltas, a byte after another.
use Rattle.std.proofs.Common.{◌≡◌, ℕ, zero, suc, ◌+◌, ◌-◌, ◌*◌, ◌%◌, ◌^◌, ◌<◌, ◌≤◌, Bool, true, false, cond, not, ◌&&◌, ◌||◌, nat_lt, nat_le, List, [], ◌∷◌, length, drop, get_or, refl, sym, ap, ◌∙◌, subst, arith, lt-ltb, le-ltb, drop-cons, mul_comm, add_assoc}
use Rattle.std.proofs.Math.Nat.{mul-le-mul_right, mul-add, mul_assoc, pow-suc}
use Rattle.std.proofs.lemmas.List.{drop_all}
use Rattle.std.specs.List.{list_any}
use Rattle.std.proofs.lemmas.Bool.Decides.{nat_tests}
use Rattle.aig_binary.specs.Deltas.{is_last, delta_bytes, behind_bytes, groups_value, delta_value, is_cut, behind_delta}
use Rattle.text_words.specs.Text.{Rest}
use Rattle.aig_binary.specs.declared.delta.Delta.{Delta}
use Rattle.aig_binary.specs.Fronts.{IsDelta, IsLong}

and-false : (t : Bool) → (t && false) ≡ false
and-false true = refl
and-false false = refl

-- ---- a byte at the front

pub bytes-last : (b : ℕ) (bs : List ℕ) → b < 128 → delta_bytes (b ∷ bs) ≡ b ∷ []
bytes-last b bs h = ap (λ t. cond t (b ∷ []) (b ∷ delta_bytes bs)) (lt-ltb b 128 h)

pub bytes-more : (b : ℕ) (bs : List ℕ) → 128 ≤ b → delta_bytes (b ∷ bs) ≡ b ∷ delta_bytes bs
bytes-more b bs h = ap (λ t. cond t (b ∷ []) (b ∷ delta_bytes bs)) (le-ltb b 128 h)

any-last : (b : ℕ) (bs : List ℕ) → b < 128 → list_any is_last (b ∷ bs) ≡ true
any-last b bs h = ap (λ t. t || list_any is_last bs) (lt-ltb b 128 h)

any-more : (b : ℕ) (bs : List ℕ) → 128 ≤ b → list_any is_last (b ∷ bs) ≡ list_any is_last bs
any-more b bs h = ap (λ t. t || list_any is_last bs) (le-ltb b 128 h)

value-last : (b : ℕ) (bs : List ℕ) → b < 128 → delta_value (b ∷ bs) ≡ b
value-last b bs h = ap groups_value (bytes-last b bs h) ∙ omega arith

value-more : (b : ℕ) (bs : List ℕ) → 128 ≤ b → b < 256 → delta_value (b ∷ bs) ≡ (b - 128) + 128 * delta_value bs
value-more b bs h k = ap groups_value (bytes-more b bs h) ∙ (let e : b % 128 ≡ b - 128 = omega arith in ap (λ n. n + 128 * delta_value bs) e)

pub some-byte : (b : ℕ) (bs : List ℕ) → 1 ≤ length (delta_bytes (b ∷ bs))
some-byte b bs =
    let step : (t : Bool) → 1 ≤ length (cond t (b ∷ []) (b ∷ delta_bytes bs)) = λ t. elim t as (λ v. 1 ≤ length (cond v (b ∷ []) (b ∷ delta_bytes bs))) [
      | true ↦ omega arith
      | false ↦ omega arith
    ] in
    step (is_last b)

-- ---- the bytes so far have their top bit set

pub record SoFar (bytes : List ℕ) (k w n : ℕ) : Type 0 where
  pub few : k ≤ 5
  pub weight : w ≡ 128 ^ k
  pub small : n < w
  pub value : delta_value bytes ≡ n + w * delta_value (drop k bytes)
  pub size : length (delta_bytes bytes) ≡ k + length (delta_bytes (drop k bytes))
  pub last : list_any is_last bytes ≡ list_any is_last (drop k bytes)

pub none-so-far : (bytes : List ℕ) → SoFar bytes 0 1 0
none-so-far bytes = record { few = omega arith; weight = refl; small = omega arith; value = omega arith; size = omega arith; last = refl }

-- a power of 128 within five groups
pub power-few : (k : ℕ) → k < 5 → 128 ^ k ≤ 268435456
power-few zero h = omega arith
power-few (suc zero) h = omega arith
power-few (suc (suc zero)) h = omega arith
power-few (suc (suc (suc zero))) h = omega arith
power-few (suc (suc (suc (suc zero)))) h = omega arith
power-few (suc (suc (suc (suc (suc k))))) h = absurd (omega arith)

pub product-few : (r w : ℕ) → r < 128 → w ≤ 268435456 → r * w ≤ 34091302912
product-few r w h k = let e : r * w ≤ 127 * w = mul-le-mul_right w (let l : r ≤ 127 = omega arith in l) in omega arith

-- one byte more
module _ (bytes : List ℕ) (k w n b : ℕ) (so : SoFar bytes k w n) (inside : k < length bytes) (is : get_or bytes k 0 ≡ b) where
  at-byte : drop k bytes ≡ b ∷ drop (suc k) bytes
  at-byte = drop-cons bytes k 0 inside ∙ ap (λ x. x ∷ drop (suc k) bytes) is

  pub more-so-far : k < 5 → 128 ≤ b → b < 256 → SoFar bytes (k + 1) (w * 128) (n + (b - 128) * w)
  more-so-far few top byte =
      let r = b - 128 in
      let rest = drop (suc k) bytes in
      let same : drop (k + 1) bytes ≡ rest = ap (λ i. drop i bytes) (let e : k + 1 ≡ suc k = omega arith in e) in
      let v = delta_value rest in
      let product : r * w ≤ 127 * w = mul-le-mul_right w (let l : r ≤ 127 = omega arith in l) in
      let spread : w * (r + 128 * v) ≡ r * w + w * 128 * v = mul-add w r (128 * v) ∙ ap (λ x. x + w * (128 * v)) (mul_comm w r) ∙ ap (λ x. r * w + x) (sym (mul_assoc w 128 v)) in
      record {
        few = omega arith;
        weight = ap (λ x. x * 128) so.weight ∙ sym (pow-suc 128 k) ∙ ap (λ i. 128 ^ i) (let e : suc k ≡ k + 1 = omega arith in e);
        small = omega (arith, so.small);
        value = so.value ∙ ap (λ xs. n + w * delta_value xs) at-byte ∙ ap (λ x. n + w * x) (value-more b rest top byte)
            ∙ ap (λ x. n + x) spread ∙ sym (add_assoc n (r * w) (w * 128 * v)) ∙ ap (λ xs. n + r * w + w * 128 * delta_value xs) (sym same);
        size = so.size ∙ ap (λ xs. k + length (delta_bytes xs)) at-byte ∙ ap (λ xs. k + length xs) (bytes-more b rest top)
            ∙ (let e : k + suc (length (delta_bytes rest)) ≡ k + 1 + length (delta_bytes rest) = omega arith in e) ∙ ap (λ xs. k + 1 + length (delta_bytes xs)) (sym same);
        last = so.last ∙ ap (list_any is_last) at-byte ∙ any-more b rest top ∙ ap (list_any is_last) (sym same);
      }

  pub delta-here : k < 5 → b < 128 → (value : ℕ) → value ≡ n + b * w → IsDelta bytes (record { value = value; size = k + 1 })
  delta-here few top value e =
      let rest = drop (suc k) bytes in
      let size : length (delta_bytes bytes) ≡ k + 1 = so.size ∙ ap (λ xs. k + length (delta_bytes xs)) at-byte ∙ ap (λ xs. k + length xs) (bytes-last b rest top) in
      let any : list_any is_last bytes ≡ true = so.last ∙ ap (list_any is_last) at-byte ∙ any-last b rest top in
      let within : nat_le (length (delta_bytes bytes)) 5 ≡ true = grind (arith, nat_tests) in
      record {
        short = ap (λ t. t && nat_le (length (delta_bytes bytes)) 5) any ∙ within;
        value = e ∙ sym (so.value ∙ ap (λ xs. n + w * delta_value xs) at-byte ∙ ap (λ x. n + w * x) (value-last b rest top) ∙ ap (λ x. n + x) (mul_comm w b));
        size = sym size;
        within = omega arith;
      }

  pub sixth-byte : k ≡ 5 → IsLong bytes
  sixth-byte five =
      let more : 1 ≤ length (delta_bytes (drop k bytes)) = subst (λ xs. 1 ≤ length (delta_bytes xs)) (sym at-byte) (some-byte b (drop (suc k) bytes)) in
      let long : nat_le (length (delta_bytes bytes)) 5 ≡ false = let m : 5 < length (delta_bytes bytes) = omega (arith, so.size) in grind (arith, nat_tests) in
      let many : nat_lt (length bytes) 5 ≡ false = le-ltb (length bytes) 5 (omega arith) in
      record {
        uncut = ap (λ t. not (list_any is_last bytes) && t) many ∙ and-false (not (list_any is_last bytes));
        long = ap (λ t. list_any is_last bytes && t) long ∙ and-false (list_any is_last bytes);
      }

-- all bytes have their top bit set
pub no-last : (bytes : List ℕ) (k w n : ℕ) → SoFar bytes k w n → length bytes ≤ k → list_any is_last bytes ≡ false
no-last bytes k w n so all = so.last ∙ ap (list_any is_last) (drop_all k bytes all)

pub cut-here : (bytes : List ℕ) (k w n : ℕ) → SoFar bytes k w n → length bytes ≤ k → length bytes < 5 → is_cut bytes ≡ true
cut-here bytes k w n so all few = ap (λ t. not t && nat_lt (length bytes) 5) (no-last bytes k w n so all) ∙ lt-ltb (length bytes) 5 few

pub five-bytes : (bytes : List ℕ) (k w n : ℕ) → SoFar bytes k w n → length bytes ≤ k → 5 ≤ length bytes → IsLong bytes
five-bytes bytes k w n so all many = record {
  uncut = ap (λ t. not (list_any is_last bytes) && t) (le-ltb (length bytes) 5 many) ∙ and-false (not (list_any is_last bytes));
  long = ap (λ t. t && nat_le (length (delta_bytes bytes)) 5) (no-last bytes k w n so all);
}

-- what follows a delta
behind-bytes : (bytes : List ℕ) → drop (length (delta_bytes bytes)) bytes ≡ behind_bytes bytes
behind-bytes [] = refl
behind-bytes (b ∷ bs) =
    let step : (t : Bool) → drop (length (cond t (b ∷ []) (b ∷ delta_bytes bs))) (b ∷ bs) ≡ cond t bs (behind_bytes bs) = λ t. elim t as (λ v. drop (length (cond v (b ∷ []) (b ∷ delta_bytes bs))) (b ∷ bs) ≡ cond v bs (behind_bytes bs)) [
      | true ↦ refl
      | false ↦ behind-bytes bs
    ] in
    step (is_last b)

pub behind-front : (r : Rest) (d : Delta) (s : Rest) → IsDelta r.bytes d → s ≡ record { at = r.at + d.size; bytes = drop d.size r.bytes } → s ≡ behind_delta r
behind-front r d s is e =
    e ∙ ap (λ (n : ℕ). let x : Rest = record { at = r.at + n; bytes = drop n r.bytes } in x) is.size
    ∙ ap (λ (xs : List ℕ). let x : Rest = record { at = r.at + length (delta_bytes r.bytes); bytes = xs } in x) (behind-bytes r.bytes)
