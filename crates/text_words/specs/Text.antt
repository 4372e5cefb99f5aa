-- A text from a place on: the line that begins or goes on there, the fields of that line, and the lines after it.
use Rattle.std.specs.Prelude.{◌≡◌, ◌<◌, ℕ, zero, suc, ◌+◌, ◌*◌, Bool, true, false, not, ◌&&◌, ◌||◌, ◌==◌, nat_lt, IsTrue, if◌then◌else◌, List, [], ◌∷◌, ◌++◌, length, drop, unwrap_or}
use Rattle.std.specs.Char.{is_ascii_digit, digit_value}
use Rattle.std.specs.List.{list_any, list_all}
use Rattle.text_words.specs.declared.cursor.LineEnd.{LineEnd}
use Rattle.text_words.specs.Numbers.{natural_of}

-- what is left of a text, and the place of its first byte, counted from 0
pub record Rest : Type 0 where
  pub at : ℕ
  pub bytes : List ℕ

abbrev pub whole : List ℕ → Rest
whole text = record { at = 0; bytes = text }

-- ---- lines

-- whether a line ends here: no byte but carriage returns (13) stands before a newline (10) or the text's end
abbrev pub ends_line : List ℕ → Bool
ends_line [] = true
ends_line (b ∷ bs) = (b == 10) || ((b == 13) && ends_line bs)

-- the bytes up to the line's end
abbrev pub line_bytes : List ℕ → List ℕ
line_bytes [] = []
line_bytes (b ∷ bs) = if ends_line (b ∷ bs) then [] else b ∷ line_bytes bs

-- the line after this one; past the last one there are empty lines at the text's end
abbrev pub line_after : ℕ → List ℕ → Rest
line_after at [] = record { at = at; bytes = [] }
line_after at (b ∷ bs) = if b == 10 then record { at = at + 1; bytes = bs } else line_after (at + 1) bs

abbrev pub next_line : Rest → Rest
next_line r = line_after r.at r.bytes

-- this line and those after it, n in all
abbrev pub lines_of : ℕ → Rest → List Rest
lines_of zero r = []
lines_of (suc n) r = r ∷ lines_of n (next_line r)

-- what follows these n lines
abbrev pub after_lines : ℕ → Rest → Rest
after_lines zero r = r
after_lines (suc n) r = after_lines n (next_line r)

-- the lines that begin behind a newline
abbrev pub later_lines : ℕ → List ℕ → List Rest
later_lines at [] = []
later_lines at (b ∷ bs) = if b == 10 then record { at = at + 1; bytes = bs } ∷ later_lines (at + 1) bs else later_lines (at + 1) bs

-- every line from here on
abbrev pub all_lines : Rest → List Rest
all_lines r = r ∷ later_lines r.at r.bytes

abbrev pub has_newline : List ℕ → Bool
has_newline bytes = list_any (λ b. b == 10) bytes

-- where this line ends: before its end's bytes, or at the text's end where no newline comes
abbrev pub line_end : Rest → LineEnd
line_end r =
    if has_newline r.bytes then record { at = r.at + length (line_bytes r.bytes); is_cut = false } else record { at = r.at + length r.bytes; is_cut = true }

-- ---- fields

-- whether no field begins here: a space (32) stands here, or the line ends
abbrev pub is_gap : List ℕ → Bool
is_gap [] = true
is_gap (b ∷ bs) = (b == 32) || ends_line (b ∷ bs)

-- the bytes up to a space or the line's end
abbrev pub word : List ℕ → List ℕ
word [] = []
word (b ∷ bs) = if is_gap (b ∷ bs) then [] else b ∷ word bs

-- the fields of the line that begin right behind a space
abbrev pub later_fields : ℕ → List ℕ → List Rest
later_fields at [] = []
later_fields at (b ∷ bs) =
    if ends_line (b ∷ bs) then []
    else (if (b == 32) && not (is_gap bs) then record { at = at + 1; bytes = bs } ∷ later_fields (at + 1) bs else later_fields (at + 1) bs)

-- The fields of a line: one begins at its first byte, also where that is a space, and then it is empty.
abbrev pub fields : Rest → List Rest
fields r = if ends_line r.bytes then [] else r ∷ later_fields r.at r.bytes

-- the digits at the front, and what is left behind them
abbrev pub leading_digits : List ℕ → List ℕ
leading_digits [] = []
leading_digits (b ∷ bs) = if is_ascii_digit b then b ∷ leading_digits bs else []

abbrev pub behind_digits : List ℕ → List ℕ
behind_digits [] = []
behind_digits (b ∷ bs) = if is_ascii_digit b then behind_digits bs else b ∷ bs

-- the number that a field spells, or 0 where it spells none
abbrev pub number : Rest → ℕ
number field = unwrap_or (natural_of (word field.bytes)) 0

-- the number that the digits write when they follow those of n
abbrev pub digits_after : ℕ → List ℕ → ℕ
digits_after n [] = n
digits_after n (b ∷ bs) = if is_ascii_digit b then digits_after (n * 10 + digit_value b) bs else n

-- ---- what is left behind a run of bytes

abbrev pub behind_spaces : List ℕ → List ℕ
behind_spaces [] = []
behind_spaces (b ∷ bs) = if b == 32 then behind_spaces bs else b ∷ bs

abbrev pub behind_newline : List ℕ → List ℕ
behind_newline [] = []
behind_newline (b ∷ bs) = if b == 10 then bs else behind_newline bs

-- ---- going on in a line

-- from the first field that is left of a line, if there is one, to the next one or to the line's end
pub record PassesField (old new : Rest) : Type 0 where
  pub others : fields new ≡ drop 1 (fields old)
  pub end : line_end new ≡ line_end old
  pub next : next_line new ≡ next_line old

-- so many fields of a line are passed
pub record PassesFields (n : ℕ) (old new : Rest) : Type 0 where
  pub others : fields new ≡ drop n (fields old)
  pub end : line_end new ≡ line_end old
  pub next : next_line new ≡ next_line old

-- a magic word, of bytes above the space, with the space behind it
pub record IsMagic (magic word : List ℕ) : Type 0 where
  pub some : 0 < length word
  pub letters : IsTrue (list_all (λ b. nat_lt 32 b) word)
  pub form : magic ≡ word ++ 32 ∷ []
