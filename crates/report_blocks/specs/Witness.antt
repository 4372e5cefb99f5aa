-- What the lines of a witness tell.
use Rattle.std.specs.Prelude.{ℕ, zero, suc, Bool, bytes_eq, codes, length, Option, Some, None, Ok, Err, List, [], ◌∷◌, ◌++◌, if◌then◌else◌}
use Rattle.std.specs.Option.{option_map}
use Rattle.aig_model.specs.declared.trace.Trace.{Trace}
use Rattle.report_lines.specs.Words.{Word, Line, ◌>>?◌, word, whole_line, small_of}
use Rattle.report_lines.specs.Reading.{Place, Read, ◌>>=◌, line_read, fault_at}
use Rattle.report_sections.specs.Pieces.{and_read}
use Rattle.report_sections.specs.History.{behind_front}
use Rattle.report_sections.specs.Seeds.{if_same, bits_of, bits_read}

abbrev pub status_of : Line → Option ℕ
status_of ws = whole_line (word (λ w. small_of w >>? if_same 1)) ws

abbrev pub property_word : ℕ → Word → Option ℕ
property_word goal w = behind_front (codes "b") w >>? λ r. small_of r >>? if_same goal

abbrev pub property_of : ℕ → Line → Option ℕ
property_of goal ws = whole_line (word (property_word goal)) ws

-- a row, or none at the end of the rows
abbrev pub row_word : ℕ → Word → Option (Option (List Bool))
row_word width w = if bytes_eq w (codes ".") then Some None else option_map (λ bits. Some bits) (bits_of width w)

abbrev pub row_of : ℕ → Line → Option (Option (List Bool))
row_of width ws = whole_line (word (row_word width)) ws

abbrev pub or_end : {A B : Type 0} → Option A → B → (A → B) → B
or_end None end more = end
or_end (Some a) end more = more a

-- the rows up to their end, of at most n lines, behind these
abbrev pub rows_from : ℕ → ℕ → List (List Bool) → Place → Read (List (List Bool))
rows_from width zero rows p = Err (fault_at p)
rows_from width (suc n) rows p = line_read (row_of width) p >>= λ o. or_end o.0 (Ok (rows, o.1)) (λ row. rows_from width n (rows ++ row ∷ []) o.1)

-- one row or more; no more lines than bytes are left
abbrev pub rows_read : ℕ → Place → Read (List (List Bool))
rows_read width p = bits_read width p >>= λ b. rows_from width (length b.1.bytes) (b.0 ∷ []) b.1

abbrev pub TraceFields : Type 0
TraceFields = ℕ × (ℕ × (List Bool × List (List Bool)))

abbrev pub to_trace : ℕ → TraceFields → Trace
to_trace inputs t = record { start = t.1.1.0; rows = record { width = inputs; rows = t.1.1.1 } }

abbrev pub trace_read : ℕ → ℕ → ℕ → Place → Read Trace
trace_read inputs latches goal p =
    and_read (line_read status_of p) (λ q. and_read (line_read (property_of goal) q) (λ s. and_read (bits_read latches s) (rows_read inputs))) >>= λ t. Ok (to_trace inputs t.0, t.1)
