-- What the lines of the history tell.
use Rattle.std.specs.Prelude.{ℕ, bytes_eq, codes, Option, Some, None, List, [], ◌∷◌, if◌then◌else◌, nat_eq}
use Rattle.std.specs.Option.{option_map}
use Rattle.text_words.specs.Numbers.{decimal_number_of}
use Rattle.aig_model.specs.declared.parts.Kind.{Kind}
use Rattle.aig_model.specs.declared.parts.Kind.TheVariants as kinds
use Rattle.board_core.specs.declared.entry.Source.{Source}
use Rattle.board_core.specs.declared.entry.Source.TheVariants as sources
use Rattle.board_core.specs.declared.entry.Entry.{Entry}
use Rattle.report_lines.specs.Words.{Word, Line, word, both, mapped, whole_line, small_of}
use Rattle.report_lines.specs.Reading.{Place, Read, line_read, section_read}

-- what stands behind a front that the word begins with
abbrev pub behind_front : Word → Word → Option Word
behind_front [] w = Some w
behind_front (f ∷ fs) [] = None
behind_front (f ∷ fs) (b ∷ bs) = if nat_eq b f then behind_front fs bs else None

abbrev pub kind_of : Word → Option Kind
kind_of w = if bytes_eq w (codes "r") then Some kinds.Reached else (if bytes_eq w (codes "u") then Some kinds.Unreachable else None)

-- a number of 32 bits behind the front, or else another source
abbrev pub from_front : (ℕ → Source) → Option Word → Option Source → Option Source
from_front make None other = other
from_front make (Some rest) other = option_map make (small_of rest)

abbrev pub numbered_of : Word → Option Source
numbered_of w =
    from_front (λ b. sources.Walk b) (behind_front (codes "walk:") w)
    (from_front (λ b. sources.Hop b) (behind_front (codes "hop:") w)
    (from_front (λ r. sources.Again r) (behind_front (codes "again:") w) None))

abbrev pub source_of : Word → Option Source
source_of w =
    if bytes_eq w (codes "zero") then Some sources.Zero
    else (if bytes_eq w (codes "sweep") then Some sources.Sweep else (if bytes_eq w (codes "proved") then Some sources.Proved else numbered_of w))

-- the values of an entry's words, from the first on
abbrev pub Fields : Type 0
Fields = ℕ × (ℕ × (ℕ × (Kind × (Source × ℕ))))

abbrev pub to_entry : Fields → Entry
to_entry t = record { number = t.0; caller = t.1.0; goal = t.1.1.0; kind = t.1.1.1.0; source = t.1.1.1.1.0; low = t.1.1.1.1.1 }

abbrev pub entry_of : Line → Option Entry
entry_of ws = whole_line (mapped to_entry (both (word decimal_number_of) (both (word small_of) (both (word small_of) (both (word kind_of) (both (word source_of) (word decimal_number_of))))))) ws

abbrev pub history_read : Place → Read (List Entry)
history_read p = section_read (codes "history") (λ _. line_read entry_of) p
