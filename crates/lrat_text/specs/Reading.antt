-- Reading word by word, with the first fault that is met.
use Rattle.std.specs.Prelude.{◌≡◌, ℕ, zero, suc, ◌+◌, ◌^◌, Bool, true, false, nat_eq, ℤ, pos, negsuc, nat_abs, Option, Some, None, Result, Ok, Err, codes, List, [], ◌∷◌, ◌++◌, if◌then◌else◌}
use Rattle.std.specs.Str.{bytes_eq}
use Rattle.text_words.specs.Lines.{lines}
use Rattle.text_words.specs.Numbers.{integer_of, if_below}
use Rattle.lrat_text.specs.Lrat.{words_of, fits_i32}
use Rattle.lrat_text.specs.declared.proof.LratStep.{LratStep}
use Rattle.lrat_text.specs.declared.proof.LratStep.TheVariants.{Add, Delete}
use Rattle.lrat_text.specs.declared.fault.LratKind.{LratKind}
use Rattle.lrat_text.specs.declared.fault.LratKind.TheVariants as kinds
use Rattle.lrat_text.specs.declared.fault.LratFault.{LratFault}
use Rattle.lrat_text.specs.declared.fault.LratFault.TheVariants as faults
use Rattle.text_words.specs.declared.fault.LineFault.{LineFault}
use Rattle.text_words.specs.declared.fault.LineFault.TheVariants as lines_of

infixl 10 ◌>>=◌
abbrev pub ◌>>=◌ : {A B E : Type 0} → Result A E → (A → Result B E) → Result B E
(Ok x) >>= f = f x
(Err e) >>= f = Err e

abbrev pub Words : Type 0
Words = List (List ℕ)

-- ---- a word

abbrev pub small_of : List ℕ → Option ℤ
small_of word = if_below (2 ^ 63) (integer_of word)

abbrev pub is_positive : ℤ → Bool
is_positive (pos zero) = false
is_positive (pos (suc n)) = true
is_positive (negsuc n) = false

abbrev pub id_of : Option ℤ → Result ℕ LratKind
id_of None = Err kinds.Number
id_of (Some z) = if is_positive z then Ok (nat_abs z) else Err kinds.Form

-- an item of a list, or None at the 0 that ends it
abbrev pub literal_of : Option ℤ → Result (Option ℤ) LratKind
literal_of None = Err kinds.Number
literal_of (Some z) = if nat_eq (nat_abs z) 0 then Ok None else (if fits_i32 z then Ok (Some z) else Err kinds.Number)

abbrev pub hint_of : Option ℤ → Result (Option ℤ) LratKind
hint_of None = Err kinds.Number
hint_of (Some z) = if nat_eq (nat_abs z) 0 then Ok None else Ok (Some z)

abbrev pub deleted_of : Option ℤ → Result (Option ℕ) LratKind
deleted_of None = Err kinds.Number
deleted_of (Some z) = if nat_eq (nat_abs z) 0 then Ok None else (if is_positive z then Ok (Some (nat_abs z)) else Err kinds.Form)

-- ---- a line

-- a list that ends at a 0, after the items xs; and the words after it
abbrev pub if_more : {X A : Type 0} → Option X → A → (X → A) → A
if_more None a f = a
if_more (Some x) a f = f x

abbrev pub list_from : {X : Type 0} → (Option ℤ → Result (Option X) LratKind) → List X → Words → Result (List X × Words) LratKind
list_from read xs [] = Err kinds.Truncated
list_from read xs (w ∷ ws) = read (small_of w) >>= λ o. if_more o (Ok (xs, ws)) (λ x. list_from read (xs ++ x ∷ []) ws)

abbrev pub past_end : Option ℤ → LratKind
past_end None = kinds.Number
past_end (Some z) = kinds.Form

-- the step, where no word is left
abbrev pub at_end : LratStep → Words → Result LratStep LratKind
at_end step [] = Ok step
at_end step (w ∷ ws) = Err (past_end (small_of w))

abbrev pub addition_of : ℕ → Words → Result LratStep LratKind
addition_of id ws = list_from literal_of [] ws >>= λ l. list_from hint_of [] l.1 >>= λ h. at_end (Add id l.0 h.0) h.1

abbrev pub deletion_of : ℕ → Words → Result LratStep LratKind
deletion_of id ws = list_from deleted_of [] ws >>= λ d. at_end (Delete id d.0) d.1

abbrev pub after_id : ℕ → Words → Result LratStep LratKind
after_id id [] = Err kinds.Truncated
after_id id (w ∷ ws) = if bytes_eq w (codes "d") then deletion_of id ws else addition_of id (w ∷ ws)

-- the step of a line with words
abbrev pub step_of : List ℕ → Words → Result LratStep LratKind
step_of w ws = id_of (small_of w) >>= λ id. after_id id ws

-- ---- a text

-- a fault's line and kind
abbrev pub Place : Type 0
Place = ℕ × LratKind

abbrev pub at_line : {A : Type 0} → ℕ → Result A LratKind → Result A Place
at_line n (Ok x) = Ok x
at_line n (Err k) = Err (n, k)

-- the steps so far, and the words of the next line, whose number is n
abbrev pub with_line : List LratStep → ℕ → Words → (List LratStep → Result (List LratStep) Place) → Result (List LratStep) Place
with_line steps n [] more = more steps
with_line steps n (w ∷ ws) more = at_line n (step_of w ws) >>= λ step. more (steps ++ step ∷ [])

-- the steps so far, and the lines after line n
abbrev pub proof_from : List LratStep → ℕ → List (List ℕ) → Result (List LratStep) Place
proof_from steps n [] = Ok steps
proof_from steps n (line ∷ more) = with_line steps (n + 1) (words_of line) (λ ss. proof_from ss (n + 1) more)

abbrev pub reading : List ℕ → Result (List LratStep) Place
reading text = proof_from [] 0 (lines text)

-- ---- what the calls return

-- the answer is what reading gives, unless memory runs out
abbrev pub Fails : {A : Type 0} → LratFault → Result A Place → Type 0
Fails (faults.At line kind) read = read ≡ Err (line, kind)
Fails faults.OutOfMemory read = Unit {0}

abbrev pub Gives : {A B : Type 0} → (A → B) → Result A LratFault → Result B Place → Type 0
Gives view (Ok x) read = read ≡ Ok (view x)
Gives view (Err e) read = Fails e read

-- the same of a line
abbrev pub FailsOnLine : {A : Type 0} → LineFault LratKind → Result A LratKind → Type 0
FailsOnLine (lines_of.Kind kind) read = read ≡ Err kind
FailsOnLine lines_of.OutOfMemory read = Unit {0}

abbrev pub GivesOnLine : {A B : Type 0} → (A → B) → Result A (LineFault LratKind) → Result B LratKind → Type 0
GivesOnLine view (Ok x) read = read ≡ Ok (view x)
GivesOnLine view (Err e) read = FailsOnLine e read

abbrev pub on_line : ℕ → LineFault LratKind → LratFault
on_line n (lines_of.Kind kind) = faults.At n kind
on_line n lines_of.OutOfMemory = faults.OutOfMemory
