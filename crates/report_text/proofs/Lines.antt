-- A text tells its lines, where no word holds a space or a newline.
use Rattle.std.proofs.Common.{◌≡◌, ℕ, Bool, true, false, cond, List, [], ◌∷◌, ◌++◌, refl, sym, ap, ◌∙◌, append_assoc, arith}
use Rattle.std.specs.Prelude.{nat_eq, not, ◌||◌}
use Rattle.std.specs.List.{AllByRecursion, list_all}
use Rattle.std.proofs.lemmas.Bool.{and_parts}
use Rattle.std.proofs.lemmas.List.{append_cancel_left}
use Rattle.report_text.specs.Text.{Word, Line, line, text}

-- neither a newline nor a space
pub record IsPlain (b : ℕ) : Type 0 where
  pub newline : nat_eq b 10 ≡ false
  pub space : nat_eq b 32 ≡ false

abbrev pub IsWord : Word → Type 0
IsWord w = AllByRecursion IsPlain w

-- the test of a word that is written out
abbrev pub is_plain : ℕ → Bool
is_plain b = not (nat_eq b 10 || nat_eq b 32)

plain-from_test : (b : ℕ) → is_plain b ≡ true → IsPlain b
plain-from_test b e = record { newline = grind arith; space = grind arith }

pub word-from_test : (w : Word) → list_all is_plain w ≡ true → IsWord w
word-from_test [] e = tt
word-from_test (b ∷ w) e =
    let parts = and_parts (is_plain b) (list_all is_plain w) e in
    (plain-from_test b parts.0, word-from_test w parts.1)

-- what holds of the first, and of each of the others
infixr 5 ◌&◌
pub ◌&◌ : {A B : Type 0} → A → B → A × B
a & b = (a, b)

-- one word or more
abbrev pub IsLine : Line → Type 0
IsLine [] = ⊥
IsLine (w ∷ ws) = IsWord w × AllByRecursion IsWord ws

abbrev pub AreLines : List Line → Type 0
AreLines ls = AllByRecursion IsLine ls

-- ---- the lines of a text, from its end: a byte joins the first word, a space begins a word, a newline a line
abbrev with_byte : ℕ → List Line → List Line
with_byte b [] = []
with_byte b ([] ∷ ls) = []
with_byte b ((w ∷ ws) ∷ ls) = ((b ∷ w) ∷ ws) ∷ ls

abbrev with_word : List Line → List Line
with_word [] = []
with_word (l ∷ ls) = ([] ∷ l) ∷ ls

abbrev lines_of : List ℕ → List Line
lines_of [] = []
lines_of (b ∷ bs) = cond (nat_eq b 10) (([] ∷ []) ∷ lines_of bs) (cond (nat_eq b 32) (with_word (lines_of bs)) (with_byte b (lines_of bs)))

lines_of-word : (w : Word) (bs : List ℕ) (ws : Line) (ls : List Line) → IsWord w → lines_of bs ≡ ([] ∷ ws) ∷ ls → lines_of (w ++ bs) ≡ (w ∷ ws) ∷ ls
lines_of-word [] bs ws ls p e = e
lines_of-word (b ∷ w) bs ws ls p e = rw (p.0.newline, p.0.space, lines_of-word w bs ws ls p.1 e) refl

lines_of-line : (l : Line) (bs : List ℕ) → IsLine l → lines_of (line l ++ bs) ≡ l ∷ lines_of bs
lines_of-line [] bs p = absurd p
lines_of-line (w ∷ []) bs p = rw append_assoc (lines_of-word w (10 ∷ bs) [] (lines_of bs) p.0 refl)
lines_of-line (w ∷ v ∷ ws) bs p =
    let rest : lines_of (32 ∷ (line (v ∷ ws) ++ bs)) ≡ ([] ∷ v ∷ ws) ∷ lines_of bs = ap with_word (lines_of-line (v ∷ ws) bs p.1) in
    rw append_assoc (lines_of-word w (32 ∷ (line (v ∷ ws) ++ bs)) (v ∷ ws) (lines_of bs) p.0 rest)

lines_of-text : (ls : List Line) → AreLines ls → lines_of (text ls) ≡ ls
lines_of-text [] p = refl
lines_of-text (l ∷ ls) p = lines_of-line l (text ls) p.0 ∙ ap (λ (rest : List Line). l ∷ rest) (lines_of-text ls p.1)

-- no two lines begin one text
pub first-line : (l m : Line) (x y : List ℕ) → IsLine l → IsLine m → line l ++ x ≡ line m ++ y → (l ≡ m) × (x ≡ y)
first-line l m x y p q e =
    let both : l ∷ lines_of x ≡ m ∷ lines_of y = sym (lines_of-line l x p) ∙ (ap lines_of e ∙ lines_of-line m y q) in
    let same : l ≡ m = cc in
    (same, append_cancel_left (line l) x y (e ∙ ap (λ (k : Line). line k ++ y) (sym same)))

-- no two lists of lines have one text
pub text-injective : (ls ms : List Line) → AreLines ls → AreLines ms → text ls ≡ text ms → ls ≡ ms
text-injective ls ms p q e = sym (lines_of-text ls p) ∙ (ap lines_of e ∙ lines_of-text ms q)
