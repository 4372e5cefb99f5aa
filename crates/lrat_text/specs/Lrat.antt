-- The LRAT format for proofs: which texts spell a proof, and what the first fault of any other text is.
use Rattle.std.specs.Prelude.{◌≡◌, ◌≢◌, ℕ, ◌+◌, ◌^◌, ◌<◌, ◌⊎◌, Bool, true, false, IsTrue, nat_lt, ℤ, pos, negsuc, nat_abs, ◌≤ℤ◌, ◌<ℤ◌, Some, Result, Err, codes, List, [], ◌∷◌, ◌++◌, length, map, filter}
use Rattle.std.specs.List.{AllByRecursion, AllZip}
use Rattle.text_words.specs.Lines.{lines}
use Rattle.text_words.specs.Words.{content}
use Rattle.text_words.specs.Numbers.{integer_of}
use Rattle.text_words.specs.declared.words.Separators.TheVariants.{Spaces}
use Rattle.lrat_text.specs.declared.proof.LratStep.{LratStep}
use Rattle.lrat_text.specs.declared.proof.LratStep.TheVariants.{Add, Delete}
use Rattle.lrat_text.specs.declared.fault.LratKind.{LratKind}
use Rattle.lrat_text.specs.declared.fault.LratKind.TheVariants.{Number, Form, Truncated}
use Rattle.lrat_text.specs.declared.fault.LratFault.{LratFault}
use Rattle.lrat_text.specs.declared.fault.LratFault.TheVariants as faults

-- the words of a line, between spaces; a comment has none
abbrev pub words_of : List ℕ → List (List ℕ)
words_of line = content Spaces line

-- ---- numbers

-- an optional minus sign and digits, of a size below 2^63
abbrev pub IsNumber : List ℕ → ℤ → Type 0
IsNumber word z = (integer_of word ≡ Some z) × (nat_abs z < 2 ^ 63)

abbrev pub IsId : ℕ → Type 0
IsId n = (0 < n) × (n < 2 ^ 63)

-- whether a number has 32 bits with its sign
abbrev pub fits_i32 : ℤ → Bool
fits_i32 (pos n) = nat_lt n (2 ^ 31)
fits_i32 (negsuc n) = nat_lt n (2 ^ 31)

abbrev pub IsLiteral : ℤ → Type 0
IsLiteral z = (z ≢ pos 0) × IsTrue (fits_i32 z)

abbrev pub IsHint : ℤ → Type 0
IsHint z = (z ≢ pos 0) × (nat_abs z < 2 ^ 63)

-- the words spell these numbers
abbrev pub Are : List (List ℕ) → List ℤ → Type 0
Are words zs = map integer_of words ≡ map (λ z. Some z) zs

abbrev pub numbers : List ℕ → List ℤ
numbers ns = map (λ n. pos n) ns

-- ---- a step, and how its line begins

-- the id, and literals
pub record BeginsLiterals (words : List (List ℕ)) (id : ℕ) (lits : List ℤ) : Type 0 where
  pub are : Are words (pos id ∷ lits)
  pub of_id : IsId id
  pub of_lits : AllByRecursion IsLiteral lits

-- the id, the literals, 0, and hints
pub record BeginsHints (words : List (List ℕ)) (id : ℕ) (lits hints : List ℤ) : Type 0 where
  pub are : Are words (pos id ∷ lits ++ pos 0 ∷ hints)
  pub of_id : IsId id
  pub of_lits : AllByRecursion IsLiteral lits
  pub of_hints : AllByRecursion IsHint hints

-- a number, the letter d, and ids
pub record BeginsIds (words : List (List ℕ)) (at_id : ℕ) (ids : List ℕ) : Type 0 where
  pub first : List ℕ
  pub rest : List (List ℕ)
  pub parts : words ≡ first ∷ codes "d" ∷ rest
  pub number : integer_of first ≡ Some (pos at_id)
  pub of_number : IsId at_id
  pub are : Are rest (numbers ids)
  pub of_ids : AllByRecursion IsId ids

-- the words spell the step: what it begins with, and a last 0
abbrev pub SpellsStep : List (List ℕ) → LratStep → Type 0
SpellsStep words (Add id lits hints) =
    (begun : List (List ℕ)) × (zero : List ℕ) × (words ≡ begun ++ zero ∷ []) × (integer_of zero ≡ Some (pos 0)) × BeginsHints begun id lits hints
SpellsStep words (Delete at_id ids) =
    (begun : List (List ℕ)) × (zero : List ℕ) × (words ≡ begun ++ zero ∷ []) × (integer_of zero ≡ Some (pos 0)) × BeginsIds begun at_id ids

-- ---- a proof

abbrev pub has_words : List (List ℕ) → Bool
has_words [] = false
has_words (w ∷ ws) = true

-- each line that isn't blank or a comment spells a step
abbrev pub SpellsProof : List ℕ → List LratStep → Type 0
SpellsProof text proof = AllZip SpellsStep (filter has_words (map words_of (lines text))) proof

-- ---- the faults

-- what comes after the words with which a line begins
pub data Due : Type 0 where
  id : Due
  literal : Due
  hint : Due
  deleted_id : Due
  nothing : Due

abbrev pub Comes : List (List ℕ) → Due → Type 0
Comes words id = words ≡ []
Comes words literal = (n : ℕ) × (lits : List ℤ) × BeginsLiterals words n lits
Comes words hint = (n : ℕ) × (lits : List ℤ) × (hints : List ℤ) × BeginsHints words n lits hints
Comes words deleted_id = (n : ℕ) × (ids : List ℕ) × BeginsIds words n ids
Comes words nothing = (step : LratStep) × SpellsStep words step

-- the word can't come where this is due
abbrev pub Wrong : Due → List ℕ → LratKind → Type 0
Wrong literal word Number = (z : ℤ) → integer_of word ≡ Some z → ¬ IsTrue (fits_i32 z)
Wrong due word Number = (z : ℤ) → ¬ IsNumber word z
Wrong id word Form = (z : ℤ) × IsNumber word z × (z ≤ℤ pos 0)
Wrong deleted_id word Form = (z : ℤ) × IsNumber word z × (z <ℤ pos 0)
Wrong nothing word Form = (z : ℤ) × IsNumber word z
Wrong due word kind = ⊥

-- the first word that can't come where it stands; the second word may also be the letter d
pub record HasWrongWord (words : List (List ℕ)) (kind : LratKind) : Type 0 where
  pub earlier : List (List ℕ)
  pub word : List ℕ
  pub later : List (List ℕ)
  pub parts : words ≡ earlier ++ word ∷ later
  pub due : Due
  pub comes : Comes earlier due
  pub wrong : Wrong due word kind
  pub other : length earlier ≡ 1 → word ≢ codes "d"

-- the words end before their last 0
abbrev pub IsCutOff : List (List ℕ) → Type 0
IsCutOff words = Comes words literal ⊎ (Comes words hint ⊎ Comes words deleted_id)

abbrev pub IsLineFault : List (List ℕ) → LratKind → Type 0
IsLineFault words Truncated = IsCutOff words
IsLineFault words kind = HasWrongWord words kind

abbrev pub IsRight : List ℕ → Type 0
IsRight line = (words_of line ≡ []) ⊎ ((step : LratStep) × SpellsStep (words_of line) step)

-- the first line that is neither blank nor a comment nor a step has this number, and its first fault this kind; lines count from 1
pub record IsFirstFault (text : List ℕ) (line : ℕ) (kind : LratKind) : Type 0 where
  pub before : List (List ℕ)
  pub at_fault : List ℕ
  pub after : List (List ℕ)
  pub parts : lines text ≡ before ++ at_fault ∷ after
  pub right : AllByRecursion IsRight before
  pub place : line ≡ length before + 1
  pub fault : IsLineFault (words_of at_fault) kind

-- ---- what a call answers

-- a fault is the first, unless memory ran out
abbrev pub IsFault : List ℕ → LratFault → Type 0
IsFault text (faults.At line kind) = IsFirstFault text line kind
IsFault text faults.OutOfMemory = Unit {0}

-- a call answers so, unless memory runs out
abbrev pub Answers : Result (List LratStep) LratFault → Result (List LratStep) LratFault → Type 0
Answers result wanted = (result ≡ wanted) ⊎ (result ≡ Err faults.OutOfMemory)
