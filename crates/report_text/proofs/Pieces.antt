-- Lines that tell the value that they spell, whatever follows them.
use Rattle.std.proofs.Common.{◌≡◌, ℕ, ◌+◌, ◌<◌, ◌≤◌, ◌^◌, List, [], ◌∷◌, ◌++◌, map, length, refl, sym, ◌∙◌, append_assoc, arith}
use Rattle.std.specs.Prelude.{decimal}
use Rattle.std.specs.List.{AllByRecursion}
use Rattle.report_text.specs.Form.{IsCounted}
use Rattle.report_text.specs.Text.{Word, Line, number_words, numbered_lines, section_lines}
use Rattle.report_text.proofs.Lines.{IsWord, IsLine, AreLines}
use Rattle.report_text.proofs.Words.{AreNumbers, decimals-are_words, decimals-injective}

-- The lines of what has P are lines of words, and tell what they spell and where they end.
pub record IsSpelling {A : Type 0} (P : A → Type 0) (lines : A → List Line) : Type 0 where
  pub plain : (a : A) → P a → AreLines (lines a)
  pub tells : (a b : A) (x y : List Line) → P a → P b → lines a ++ x ≡ lines b ++ y → (a ≡ b) × (x ≡ y)

pub all-append : {A : Type 0} (P : A → Type 0) (xs ys : List A) → AllByRecursion P xs → AllByRecursion P ys → AllByRecursion P (xs ++ ys)
all-append P [] ys p q = q
all-append P (x ∷ xs) ys p q = (p.0, all-append P xs ys p.1 q)

-- ---- one line
pub one_line : {A : Type 0} (P : A → Type 0) (words : A → Line) → ((a : A) → P a → IsLine (words a)) → ((a b : A) → P a → P b → words a ≡ words b → a ≡ b)
    → IsSpelling P (λ a. words a ∷ [])
one_line {A} P words plain tells = record {
  plain = λ a p. (plain a p, tt);
  tells = λ a b x y p q e.
      let heads : words a ≡ words b = cc in
      let tails : x ≡ y = cc in
      (tells a b p q heads, tails);
}

pub number_words-is_line : (name : Word) (ns : List ℕ) → IsWord name → AreNumbers ns → IsLine (number_words name ns)
number_words-is_line name ns p q = (p, decimals-are_words ns q)

pub number_words-tells : (name : Word) (ms ns : List ℕ) → AreNumbers ms → AreNumbers ns → number_words name ms ≡ number_words name ns → ms ≡ ns
number_words-tells name ms ns p q e = (
    let tails : map decimal ms ≡ map decimal ns = cc in
    decimals-injective ms ns p q tails
    )

-- ---- so many items, each a line
pub lines-plain : {A : Type 0} (P : A → Type 0) (words : A → Line) → ((a : A) → P a → IsLine (words a)) → (xs : List A) → AllByRecursion P xs → AreLines (map words xs)
lines-plain P words plain [] p = tt
lines-plain P words plain (x ∷ xs) p = (plain x p.0, lines-plain P words plain xs p.1)

pub lines-tell : {A : Type 0} (P : A → Type 0) (words : A → Line) → ((a b : A) → P a → P b → words a ≡ words b → a ≡ b) → (xs ys : List A) (u v : List Line) → length xs ≡ length ys
    → AllByRecursion P xs → AllByRecursion P ys → map words xs ++ u ≡ map words ys ++ v → (xs ≡ ys) × (u ≡ v)
lines-tell P words tells [] [] u v size p q e = (refl, e)
lines-tell P words tells [] (y ∷ ys) u v size p q e = absurd (omega arith)
lines-tell P words tells (x ∷ xs) [] u v size p q e = absurd (omega arith)
lines-tell P words tells (x ∷ xs) (y ∷ ys) u v size p q e =
    let heads : words x ≡ words y = cc in
    let tails : map words xs ++ u ≡ map words ys ++ v = cc in
    let rest = lines-tell P words tells xs ys u v (omega arith) p.1 q.1 tails in
    let head : x ≡ y = tells x y p.0 q.0 heads in
    let tail : xs ≡ ys = rest.0 in
    (cc, rest.1)

-- ---- a list of items after its length
numbered-plain : {A : Type 0} (P : A → Type 0) (lines : ℕ → A → List Line) → ((n : ℕ) → n < 2 ^ 32 → IsSpelling P (lines n)) → (n : ℕ) (xs : List A)
    → n + length xs ≤ 2 ^ 32 → AllByRecursion P xs → AreLines (numbered_lines lines n xs)
numbered-plain P lines each n [] room p = tt
numbered-plain P lines each n (x ∷ xs) room p =
    all-append IsLine (lines n x) (numbered_lines lines (n + 1) xs) ((each n (omega arith)).plain x p.0) (numbered-plain P lines each (n + 1) xs (omega arith) p.1)

numbered-tells : {A : Type 0} (P : A → Type 0) (lines : ℕ → A → List Line) → ((n : ℕ) → n < 2 ^ 32 → IsSpelling P (lines n)) → (n : ℕ) (xs ys : List A) (u v : List Line)
    → n + length xs ≤ 2 ^ 32 → length xs ≡ length ys → AllByRecursion P xs → AllByRecursion P ys → numbered_lines lines n xs ++ u ≡ numbered_lines lines n ys ++ v → (xs ≡ ys) × (u ≡ v)
numbered-tells P lines each n [] [] u v room size p q e = (refl, e)
numbered-tells P lines each n [] (y ∷ ys) u v room size p q e = absurd (omega arith)
numbered-tells P lines each n (x ∷ xs) [] u v room size p q e = absurd (omega arith)
numbered-tells P lines each n (x ∷ xs) (y ∷ ys) u v room size p q e =
    let joined : lines n x ++ (numbered_lines lines (n + 1) xs ++ u) ≡ lines n y ++ (numbered_lines lines (n + 1) ys ++ v) = sym (append_assoc (lines n x) _ _) ∙ (e ∙ append_assoc (lines n y) _ _) in
    let first = (each n (omega arith)).tells x y _ _ p.0 q.0 joined in
    let rest = numbered-tells P lines each (n + 1) xs ys u v (omega arith) (omega arith) p.1 q.1 first.1 in
    let head : x ≡ y = first.0 in
    let tail : xs ≡ ys = rest.0 in
    (cc, rest.1)

pub section-is_spelling : {A : Type 0} (P : A → Type 0) (name : Word) (lines : ℕ → A → List Line) → IsWord name → ((n : ℕ) → n < 2 ^ 32 → IsSpelling P (lines n))
    → IsSpelling (IsCounted P) (section_lines name lines)
unfolding section_lines
section-is_spelling {A} P name lines word each = record {
  plain = λ xs p. (number_words-is_line name (length xs ∷ []) word (omega (arith, p.count), tt), numbered-plain P lines each 0 xs (omega (arith, p.count)) p.items);
  tells = λ xs ys u v p q e.
      let heads : number_words name (length xs ∷ []) ≡ number_words name (length ys ∷ []) = cc in
      let tails : numbered_lines lines 0 xs ++ u ≡ numbered_lines lines 0 ys ++ v = cc in
      let sizes : length xs ∷ [] ≡ length ys ∷ [] = number_words-tells name (length xs ∷ []) (length ys ∷ []) (omega (arith, p.count), tt) (omega (arith, q.count), tt) heads in
      let size : length xs ≡ length ys = cc in
      numbered-tells P lines each 0 xs ys u v (omega (arith, p.count)) size p.items q.items tails;
}
