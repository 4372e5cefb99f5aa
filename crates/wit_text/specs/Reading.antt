-- How a text is read: what of each line is read, one line after another.
use Rattle.std.specs.Prelude.{ℕ, ◌+◌, ◌^◌, Bool, true, false, ◌||◌, ◌&&◌, ◌==◌, nat_eq, nat_lt, bytes_eq, if◌then◌else◌, Option, Some, None, Result, Ok, Err, codes, List, [], ◌∷◌, ◌++◌, length, filter}
use Rattle.std.specs.Option.{ok_or}
use Rattle.text_words.specs.Lines.{is_some_line}
use Rattle.text_words.specs.Numbers.{natural_of}
use Rattle.text_words.specs.Text.{Rest, all_lines, line_bytes}
use Rattle.aig_model.specs.Table.{Table}
use Rattle.wit_text.specs.declared.witness.Witness.{Witness}
use Rattle.wit_text.specs.declared.fault.WitKind.{WitKind}
use Rattle.wit_text.specs.declared.fault.WitKind.TheVariants.{Status, Property, Length, NoRows, Truncated}
use Rattle.wit_text.specs.declared.fault.WitFault.{WitFault}
use Rattle.wit_text.specs.declared.fault.WitFault.TheVariants.{At}

-- ---- what of a line is read

abbrev pub status_of : List ℕ → Option (Unit {0})
status_of line = if bytes_eq line (codes "1") then Some tt else None

abbrev pub small_number : Option ℕ → Option ℕ
small_number None = None
small_number (Some n) = if nat_lt n (2 ^ 32) then Some n else None

abbrev pub property_of : List ℕ → Option ℕ
property_of [] = None
property_of (b ∷ digits) = if (b == 98) && nat_lt (length digits) 11 then small_number (natural_of digits) else None

abbrev pub value_of : ℕ → Option Bool
value_of b = if b == 49 then Some true else (if (b == 48) || (b == 120) then Some false else None)

abbrev pub bit_before : Option Bool → Option (List Bool) → Option (List Bool)
bit_before None bits = None
bit_before (Some b) None = None
bit_before (Some b) (Some bits) = Some (b ∷ bits)

abbrev pub values_of : List ℕ → Option (List Bool)
values_of [] = Some []
values_of (b ∷ bs) = bit_before (value_of b) (values_of bs)

abbrev pub bits_of : ℕ → List ℕ → Option (List Bool)
bits_of width line = if nat_eq (length line) width then values_of line else None

-- ---- the lines that are left

abbrev pub there : Rest → List Rest
there r = filter (λ (l : Rest). is_some_line l.bytes) (all_lines r)

-- the place of the text's end
abbrev pub end : Rest → ℕ
end r = r.at + length r.bytes

abbrev pub then_read : {A B : Type 0} → Result A WitFault → (A → Result B WitFault) → Result B WitFault
then_read (Ok a) next = next a
then_read (Err fault) next = Err fault

-- what the first of these lines spells, or its fault
abbrev pub first_line : {A : Type 0} → ℕ → WitKind → (List ℕ → Option A) → List Rest → Result A WitFault
first_line end kind read [] = Err (At end Truncated)
first_line end kind read (l ∷ ls) = ok_or (read (line_bytes l.bytes)) (At l.at kind)

abbrev pub is_empty : {A : Type 0} → List A → Bool
is_empty [] = true
is_empty (a ∷ more) = false

-- the rows up to the line `.`, after those that are read
abbrev pub rows_after : ℕ → ℕ → List (List Bool) → List Rest → Result (List (List Bool)) WitFault
rows_after end inputs rows [] = Err (At end Truncated)
rows_after end inputs rows (l ∷ ls) =
    if bytes_eq (line_bytes l.bytes) (codes ".") then (if is_empty rows then Err (At l.at NoRows) else Ok rows)
    else then_read (ok_or (bits_of inputs (line_bytes l.bytes)) (At l.at Length)) (λ row. rows_after end inputs (rows ++ row ∷ []) ls)

abbrev pub behind : List Rest → List Rest
behind [] = []
behind (l ∷ ls) = ls

abbrev pub table : ℕ → List (List Bool) → Table
table width rows = record { width = width; rows = rows }

-- the witness with these rows
abbrev pub with_rows : ℕ → List Bool → ℕ → Result (List (List Bool)) WitFault → Result Witness WitFault
with_rows property start inputs rows = then_read rows (λ rows. Ok (record { property = property; trace = record { start = start; rows = table inputs rows } }))

-- the witness that the lines spell, from the start on; from the property on; and from the status on
abbrev pub from_start : (latches inputs end property : ℕ) → List Rest → Result Witness WitFault
from_start latches inputs end property ls =
    then_read (first_line end Length (bits_of latches) ls) (λ start. with_rows property start inputs (rows_after end inputs [] (behind ls)))

abbrev pub from_property : (latches inputs end : ℕ) → List Rest → Result Witness WitFault
from_property latches inputs end ls = then_read (first_line end Property property_of ls) (λ property. from_start latches inputs end property (behind ls))

abbrev pub reading : (latches inputs end : ℕ) → List Rest → Result Witness WitFault
reading latches inputs end ls = then_read (first_line end Status status_of ls) (λ _. from_property latches inputs end (behind ls))

-- the rows of a table that is answered
abbrev pub rows_in : Result Table WitFault → Result (List (List Bool)) WitFault
rows_in (Ok t) = Ok t.rows
rows_in (Err fault) = Err fault
