-- The lines after the gates: symbols, and a comment. Both formats have them.
use Rattle.std.specs.Prelude.{ℕ, Bool, true, false, not, ◌&&◌, ◌||◌, ◌==◌, nat_eq, nat_lt, if◌then◌else◌, option_and_then, Option, Some, None, List, [], ◌∷◌, ◌++◌}
use Rattle.std.specs.Option.{option_to_list}
use Rattle.std.specs.List.{filter_map}
use Rattle.std.specs.Char.{is_ascii_digit}
use Rattle.text_words.specs.Numbers.{natural_of}
use Rattle.aig_model.specs.declared.parts.Place.{Place}
use Rattle.aig_model.specs.declared.parts.Place.TheVariants as places
use Rattle.aig_model.specs.declared.parts.Named.{Named}
use Rattle.text_words.specs.Text.{Rest, line_bytes, leading_digits, behind_digits}
use Rattle.aig_ascii.specs.Demands.{Demand, demand}
use Rattle.aig_ascii.specs.declared.header.Sizes.{Sizes}
use Rattle.aig_ascii.specs.declared.fault.SharedKind.{SharedKind}
use Rattle.aig_ascii.specs.declared.fault.SharedKind.TheVariants.{Symbol}

-- ---- comments

abbrev pub begins_with_digit : List ℕ → Bool
begins_with_digit [] = false
begins_with_digit (b ∷ bs) = is_ascii_digit b

-- whether a line begins the comment: the letter c (99), alone or before a byte that isn't a digit
abbrev pub begins_comment : List ℕ → Bool
begins_comment [] = false
begins_comment (b ∷ bs) = (b == 99) && not (begins_with_digit bs)

abbrev pub is_empty : List ℕ → Bool
is_empty [] = true
is_empty (b ∷ bs) = false

-- the lines up to the comment that aren't empty
abbrev pub symbol_lines : List Rest → List Rest
symbol_lines [] = []
symbol_lines (line ∷ lines) =
    if begins_comment (line_bytes line.bytes) then []
    else (if is_empty (line_bytes line.bytes) then symbol_lines lines else line ∷ symbol_lines lines)

-- ---- symbols

-- the item of a section, by the section's letter: i (105), l (108), o (111), b (98), c (99)
abbrev pub place_at : ℕ → ℕ → Option Place
place_at letter k =
    if letter == 105 then Some (places.Input k) else (if letter == 108 then Some (places.Latch k) else (if letter == 111 then Some (places.Output k)
    else (if letter == 98 then Some (places.Bad k) else (if letter == 99 then Some (places.Constraint k) else None))))

-- one space, and a name of some byte or more
abbrev pub name_behind : List ℕ → Option (List ℕ)
name_behind [] = None
name_behind (b ∷ name) = if (b == 32) && not (is_empty name) then Some name else None

abbrev pub named : Option Place → Option (List ℕ) → Option Named
named (Some place) (Some name) = Some (record { place = place; name = name })
named (Some place) None = None
named None name = None

-- a letter, digits, one space, and a name
abbrev pub symbol_of : List ℕ → Option Named
symbol_of [] = None
symbol_of (letter ∷ bs) = named (option_and_then (place_at letter) (natural_of (leading_digits bs))) (name_behind (behind_digits bs))

abbrev pub symbol_on : Rest → Option Named
symbol_on line = symbol_of (line_bytes line.bytes)

-- whether the section has such an item
abbrev pub exists_in : Sizes → Place → Bool
exists_in sizes (places.Input k) = nat_lt k sizes.inputs
exists_in sizes (places.Latch k) = nat_lt k sizes.latches
exists_in sizes (places.Output k) = nat_lt k sizes.outputs
exists_in sizes (places.Bad k) = nat_lt k sizes.bads
exists_in sizes (places.Constraint k) = nat_lt k sizes.constraints

abbrev pub same_place : Place → Place → Bool
same_place (places.Input j) (places.Input k) = nat_eq j k
same_place (places.Latch j) (places.Latch k) = nat_eq j k
same_place (places.Output j) (places.Output k) = nat_eq j k
same_place (places.Bad j) (places.Bad k) = nat_eq j k
same_place (places.Constraint j) (places.Constraint k) = nat_eq j k
same_place p q = false

-- whether one of these names is for this item
abbrev pub is_named : List Named → Place → Bool
is_named [] place = false
is_named (n ∷ ns) place = same_place n.place place || is_named ns place

-- a symbol of an item that there is and that has no name yet
abbrev pub is_right : Sizes → List Named → Option Named → Bool
is_right sizes earlier None = false
is_right sizes earlier (Some s) = exists_in sizes s.place && not (is_named earlier s.place)

-- each line is such a symbol, after those of the lines before it
abbrev pub symbol_demands : {K : Type 0} → (SharedKind → K) → Sizes → List Named → List Rest → List (Demand K)
symbol_demands kind sizes earlier [] = []
symbol_demands kind sizes earlier (line ∷ lines) =
    demand line.at (kind Symbol) (is_right sizes earlier (symbol_on line)) ∷ symbol_demands kind sizes (earlier ++ option_to_list (symbol_on line)) lines

-- the symbols on these lines, in their order
abbrev pub symbols_of : List Rest → List Named
symbols_of lines = filter_map symbol_on lines
