-- What the lines of a report's head and its last line tell.
use Rattle.std.specs.Prelude.{ℕ, Bool, true, false, nat_eq, bytes_eq, codes, Option, Some, None, if◌then◌else◌}
use Rattle.std.specs.Option.{option_map}
use Rattle.text_words.specs.Numbers.{decimal_number_of}
use Rattle.sim_walk.specs.declared.options.Options.{Options}
use Rattle.report_lines.specs.Words.{Word, Line, ◌>>?◌, word, both, mapped, named, whole_line, small_of, count_in}
use Rattle.report_sections.specs.declared.head.Size.{Size}
use Rattle.report_sections.specs.declared.head.Counts.{Counts}

abbrev pub if_one : ℕ → Option ℕ
if_one n = if nat_eq n 1 then Some n else None

-- the version, which is 1
abbrev pub title_of : Line → Option ℕ
title_of ws = count_in (codes "ketch") ws >>? if_one

abbrev pub Three : Type 0
Three = ℕ × ℕ × ℕ

abbrev pub to_three : ℕ × (ℕ × ℕ) → Three
to_three t = (t.0, t.1.0, t.1.1)

-- the numbers of a line with this name and three numbers
abbrev pub three_of : Word → Line → Option Three
three_of name ws = whole_line (mapped to_three (named name (both (word small_of) (both (word small_of) (word small_of))))) ws

abbrev pub to_size : Three → Size
to_size t = record { inputs = t.0; latches = t.1; signals = t.2 }

abbrev pub size_of : Line → Option Size
size_of ws = option_map to_size (three_of (codes "size") ws)

abbrev pub to_counts : Three → Counts
to_counts t = record { reached = t.0; unreachable = t.1; unsettled = t.2 }

abbrev pub end_of : Line → Option Counts
end_of ws = option_map to_counts (three_of (codes "end") ws)

abbrev pub flag_of : Word → Option Bool
flag_of w = if bytes_eq w (codes "0") then Some false else (if bytes_eq w (codes "1") then Some true else None)

abbrev pub OptionFields : Type 0
OptionFields = ℕ × (ℕ × (ℕ × (ℕ × (ℕ × (ℕ × (ℕ × (ℕ × (ℕ × Bool))))))))

abbrev pub to_options : OptionFields → Options
to_options t =
    record {
      depth = t.0;
      batches = t.1.0;
      length = t.1.1.0;
      stall = t.1.1.1.0;
      hop = t.1.1.1.1.0;
      seed = t.1.1.1.1.1.0;
      lemmas = t.1.1.1.1.1.1.0;
      strength = t.1.1.1.1.1.1.1.0;
      rounds = t.1.1.1.1.1.1.1.1.0;
      proofs = t.1.1.1.1.1.1.1.1.1;
    }

abbrev pub options_of : Line → Option Options
options_of ws =
    whole_line (mapped to_options (named (codes "options") (both (word small_of) (both (word small_of) (both (word small_of) (both (word small_of) (both (word small_of)
    (both (word decimal_number_of) (both (word decimal_number_of) (both (word small_of) (both (word small_of) (word flag_of)))))))))))) ws
