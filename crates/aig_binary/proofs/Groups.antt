-- A number in groups, the lowest first.
use Rattle.std.proofs.Common.{◌≡◌, ℕ, zero, suc, ◌+◌, ◌*◌, ◌/◌, ◌%◌, ◌^◌, ◌<◌, ◌≤◌, cond, List, [], ◌∷◌, ◌++◌, refl, sym, ap, ◌∙◌, arith, lt-ltb, le-ltb, append_assoc}
use Rattle.std.proofs.Math.Nat.{pow-suc}
use Rattle.aig_binary.specs.Deltas.{groups, delta_text}

-- what is left of a number, that takes so many groups at most behind the next one, and what is written of it so far
pub record Left (whole text : List ℕ) (left : ℕ) : Type 0 where
  pub more : ℕ
  pub few : left < 128 ^ (more + 1)
  pub groups : text ++ groups more left ≡ whole

groups-last : (more n : ℕ) → n < 128 → groups more n ≡ n ∷ []
groups-last zero n h = refl
groups-last (suc more) n h = ap (λ t. cond t (n ∷ []) ((n % 128 + 128) ∷ groups more (n / 128))) (lt-ltb n 128 h)

groups-more : (more n : ℕ) → 128 ≤ n → groups (suc more) n ≡ (n % 128 + 128) ∷ groups more (n / 128)
groups-more more n h = ap (λ t. cond t (n ∷ []) ((n % 128 + 128) ∷ groups more (n / 128))) (le-ltb n 128 h)

fewer : (more n : ℕ) → n < 128 ^ (suc more + 1) → n / 128 < 128 ^ (more + 1)
fewer more n h =
    let e : 128 ^ (suc more + 1) ≡ 128 ^ (more + 1) * 128 = ap (λ i. 128 ^ i) (let s : suc more + 1 ≡ suc (more + 1) = omega arith in s) ∙ pow-suc 128 (more + 1) in
    omega arith

pub all-left : (text : List ℕ) (n : ℕ) → n < 2 ^ 32 → Left (text ++ delta_text n) text n
unfolding delta_text
all-left text n h = record { more = 4; few = omega arith; groups = refl }

pub one-group : (whole text : List ℕ) (n : ℕ) → Left whole text n → 128 ≤ n → (new : List ℕ) → new ≡ text ++ (n % 128 + 128) ∷ [] → Left whole new (n / 128)
one-group whole text n l top new e =
    let step : (more : ℕ) → n < 128 ^ (more + 1) → text ++ groups more n ≡ whole → Left whole new (n / 128) = λ more. elim more as (λ m. n < 128 ^ (m + 1) → text ++ groups m n ≡ whole → Left whole new (n / 128)) [
      | zero ↦ λ few is. absurd (omega arith)
      | suc m ↦ λ few is. record {
        more = m;
        few = fewer m n few;
        groups = ap (λ xs. xs ++ groups m (n / 128)) e ∙ append_assoc text ((n % 128 + 128) ∷ []) (groups m (n / 128)) ∙ ap (λ xs. text ++ xs) (sym (groups-more m n top)) ∙ is;
      }
    ] in
    step l.more l.few l.groups

pub last-group : (whole text : List ℕ) (n : ℕ) → Left whole text n → n < 128 → text ++ n ∷ [] ≡ whole
last-group whole text n l h = ap (λ xs. text ++ xs) (sym (groups-last l.more n h)) ∙ l.groups
