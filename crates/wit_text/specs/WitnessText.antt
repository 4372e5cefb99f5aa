-- Witnesses as texts (AIGER 1.9): how one is written, which texts spell one, and what the first fault of any other text is.
use Rattle.std.specs.Prelude.{◌≡◌, ◌≢◌, ℕ, zero, suc, ◌<◌, ◌≤◌, ◌^◌, ◌⊎◌, Bool, true, false, if◌then◌else◌, Some, Result, codes, decimal, List, [], ◌∷◌, ◌++◌, length, map, filter, All}
use Rattle.std.specs.List.{AllZip, flat_map}
use Rattle.ketch_base.specs.Exactly as exactly
use Rattle.text_words.specs.Lines.{lines, is_some_line}
use Rattle.text_words.specs.Numbers.{natural_of}
use Rattle.text_words.specs.Text.{Rest, whole, all_lines, line_bytes}
use Rattle.aig_model.specs.declared.trace.Trace.{Trace}
use Rattle.wit_text.specs.declared.witness.Witness.{Witness}
use Rattle.wit_text.specs.declared.fault.WitKind.{WitKind}
use Rattle.wit_text.specs.declared.fault.WitKind.TheVariants.{Status, Property, Length, NoRows, Truncated}
use Rattle.wit_text.specs.declared.fault.WitFault.{WitFault}
use Rattle.wit_text.specs.declared.fault.WitFault.TheVariants as faults

-- ---- writing

-- 1 (49) for true, 0 (48) for false
abbrev pub digit : Bool → ℕ
digit bit = if bit then 49 else 48

abbrev pub bits_line : List Bool → List ℕ
bits_line bits = map digit bits

-- the status, the property, the start, each step's inputs, and the end
abbrev pub witness_lines : ℕ → Trace → List (List ℕ)
witness_lines property t = codes "1" ∷ (codes "b" ++ decimal property) ∷ bits_line t.start ∷ (map bits_line t.rows.rows ++ codes "." ∷ [])

-- a line, and its newline (10)
abbrev pub line_text : List ℕ → List ℕ
line_text line = line ++ 10 ∷ []

abbrev pub witness_text : ℕ → Trace → List ℕ
witness_text property t = flat_map line_text (witness_lines property t)

-- what the text of a witness tells: its property is below 2^32, it has a step, and all steps have as many inputs
pub record IsWritable (w : Witness) : Type 0 where
  pub property : w.property < 2 ^ 32
  pub some : 0 < length w.trace.rows.rows
  pub wide : All (λ row. length row ≡ w.trace.rows.width) w.trace.rows.rows

-- ---- what a line spells

-- 1 is true, 0 is false; x (120), which leaves the value open, is read as 0
abbrev pub SpellsBit : ℕ → Bool → Type 0
SpellsBit byte true = byte ≡ 49
SpellsBit byte false = (byte ≡ 48) ⊎ (byte ≡ 120)

-- so many characters, each the value at its place
pub record SpellsBits (width : ℕ) (line : List ℕ) (bits : List Bool) : Type 0 where
  pub wide : length line ≡ width
  pub each : AllZip SpellsBit line bits

-- the letter b, and one to ten digits of a number below 2^32
pub record SpellsProperty (line : List ℕ) (property : ℕ) : Type 0 where
  pub digits : List ℕ
  pub form : line ≡ codes "b" ++ digits
  pub few : length digits ≤ 10
  pub value : natural_of digits ≡ Some property
  pub small : property < 2 ^ 32

-- ---- a text

-- The text spells the witness, for so many latches and inputs. What follows the line `.` isn't looked at.
pub record SpellsWitness (latches inputs : ℕ) (text : List ℕ) (w : Witness) : Type 0 where
  pub property : List ℕ
  pub start : List ℕ
  pub steps : List (List ℕ)
  pub after : List (List ℕ)
  pub parts : lines text ≡ codes "1" ∷ property ∷ start ∷ (steps ++ codes "." ∷ after)
  pub named : SpellsProperty property w.property
  pub starts : SpellsBits latches start w.trace.start
  pub some : 0 < length steps
  pub width : w.trace.rows.width ≡ inputs
  pub each : AllZip (SpellsBits inputs) steps w.trace.rows.rows

-- ---- the faults

-- the lines that begin before the text's end, with their places
abbrev pub lines_there : List ℕ → List Rest
lines_there text = filter (λ (r : Rest). is_some_line r.bytes) (all_lines (whole text))

abbrev pub line : Rest → List ℕ
line r = line_bytes r.bytes

-- the line with this number, counted from 0, is what must stand there: the status, the property, the start, or a step
abbrev pub IsRight : (latches inputs number : ℕ) → List ℕ → Type 0
IsRight latches inputs zero l = l ≡ codes "1"
IsRight latches inputs (suc zero) l = (property : ℕ) × SpellsProperty l property
IsRight latches inputs (suc (suc zero)) l = (bits : List Bool) × SpellsBits latches l bits
IsRight latches inputs (suc (suc (suc n))) l = (bits : List Bool) × SpellsBits inputs l bits

-- these lines are, the first of them with this number
abbrev pub AreRight : (latches inputs number : ℕ) → List (List ℕ) → Type 0
AreRight latches inputs number [] = Unit {0}
AreRight latches inputs number (l ∷ ls) = IsRight latches inputs number l × AreRight latches inputs (suc number) ls

-- what is wrong with the line with this number, behind lines that are right; the line `.` may stand behind a step
abbrev pub IsLineFault : (latches inputs number : ℕ) → List ℕ → WitKind → Type 0
IsLineFault latches inputs number l Status = (number ≡ 0) × (l ≢ codes "1")
IsLineFault latches inputs number l Property = (number ≡ 1) × ((property : ℕ) → ¬ SpellsProperty l property)
IsLineFault latches inputs number l Length = (2 ≤ number) × (¬ IsRight latches inputs number l) × (2 < number → l ≢ codes ".")
IsLineFault latches inputs number l NoRows = (number ≡ 3) × (l ≡ codes ".")
IsLineFault latches inputs number l Truncated = ⊥

-- the lines before this one are right, and this one has a fault
pub record HasFaultyLine (latches inputs : ℕ) (text : List ℕ) (at : ℕ) (kind : WitKind) : Type 0 where
  pub before : List Rest
  pub at_fault : Rest
  pub after : List Rest
  pub parts : lines_there text ≡ before ++ at_fault ∷ after
  pub right : AreRight latches inputs 0 (map line before)
  pub fault : IsLineFault latches inputs (length before) (line at_fault) kind
  pub place : at ≡ at_fault.at

-- all lines are right, and so none is the line `.`: seen at the text's end
pub record IsCutOff (latches inputs : ℕ) (text : List ℕ) (at : ℕ) : Type 0 where
  pub right : AreRight latches inputs 0 (lines text)
  pub place : at ≡ length text

-- the first fault of a text has this kind, and is seen at this place
abbrev pub IsFirstFault : (latches inputs : ℕ) → List ℕ → ℕ → WitKind → Type 0
IsFirstFault latches inputs text at Truncated = IsCutOff latches inputs text at
IsFirstFault latches inputs text at kind = HasFaultyLine latches inputs text at kind

-- ---- what a call answers

-- a fault other than out of memory is the first one
abbrev pub IsFault : (latches inputs : ℕ) → List ℕ → WitFault → Type 0
IsFault latches inputs text (faults.At at kind) = IsFirstFault latches inputs text at kind
IsFault latches inputs text faults.OutOfMemory = Unit {0}

-- a call answers so, unless memory runs out
abbrev pub Answers : {A : Type 0} → Result A WitFault → Result A WitFault → Type 0
Answers result answer = exactly.Answers faults.OutOfMemory result answer
