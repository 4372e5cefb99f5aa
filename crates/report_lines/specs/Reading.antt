-- Reading line by line, as functions of the place in a text.
use Rattle.std.specs.Prelude.{◌≡◌, ℕ, zero, suc, ◌+◌, Option, Some, None, Result, Ok, Err, List, [], ◌∷◌, ◌++◌}
use Rattle.text_words.specs.Text.{behind_newline}
use Rattle.report_lines.specs.Words.{Word, Line, words_here, count_in}
use Rattle.report_lines.specs.declared.fault.ReportKind.{ReportKind}
use Rattle.report_lines.specs.declared.fault.ReportKind.TheVariants.{Form, Truncated}
use Rattle.report_lines.specs.declared.fault.ReportFault.{ReportFault}
use Rattle.report_lines.specs.declared.fault.ReportFault.TheVariants as faults

-- how many lines are read, and the bytes after them
pub record Place : Type 0 where
  pub line : ℕ
  pub bytes : List ℕ

-- a line is missing where the text ends, and has another form elsewhere
abbrev pub kind_at : List ℕ → ReportKind
kind_at [] = Truncated
kind_at (b ∷ bs) = Form

-- the fault of the line that begins here; lines count from 1
abbrev pub fault_at : Place → ReportFault
fault_at p = faults.At (p.line + 1) (kind_at p.bytes)

abbrev pub next_place : Place → Place
next_place p = record { line = p.line + 1; bytes = behind_newline p.bytes }

-- what is read, and the place behind it, or a fault
abbrev pub Read : Type 0 → Type 0
Read A = Result (A × Place) ReportFault

infixl 10 ◌>>=◌
abbrev pub ◌>>=◌ : {A B : Type 0} → Read A → (A × Place → Read B) → Read B
(Ok a) >>= f = f a
(Err e) >>= f = Err e

-- ---- a line

-- what the line at a place with these bytes tells
abbrev pub settled : {A : Type 0} → Place → Option A → List ℕ → Read A
settled p None bytes = Err (fault_at p)
settled p (Some a) [] = Err (fault_at p)
settled p (Some a) (b ∷ bs) = Ok (a, next_place p)

abbrev pub line_read : {A : Type 0} → (Line → Option A) → Place → Read A
line_read told p = settled p (told (words_here p.bytes)) p.bytes

-- ---- items

-- n more items, the first of them with number k, after the items xs
abbrev pub items_read : {A : Type 0} → (ℕ → Place → Read A) → ℕ → ℕ → List A → Place → Read (List A)
items_read read k zero xs p = Ok (xs, p)
items_read read k (suc n) xs p = read k p >>= λ a. items_read read (k + 1) n (xs ++ a.0 ∷ []) a.1

-- a section: how many items, and the items
abbrev pub section_read : {A : Type 0} → Word → (ℕ → Place → Read A) → Place → Read (List A)
section_read name read p = line_read (count_in name) p >>= λ n. items_read read 0 n.0 [] n.1

-- ---- what a call answers

abbrev pub Fails : {A : Type 0} → ReportFault → Read A → Type 0
Fails (faults.At line kind) read = read ≡ Err (faults.At line kind)
Fails faults.OutOfMemory read = Unit {0}

-- the answer is what reading gives, unless memory runs out
abbrev pub Gives : {A : Type 0} → Result A ReportFault → Place → Read A → Type 0
Gives (Ok a) new read = read ≡ Ok (a, new)
Gives (Err e) new read = Fails e read
