-- What lines of truth values and the lines of seeds tell.
use Rattle.std.specs.Prelude.{◌≡◌, ℕ, Bool, true, false, nat_eq, ◌==◌, bytes_eq, codes, length, Option, Some, None, Result, Ok, Err, List, [], ◌∷◌, ◌++◌, if◌then◌else◌}
use Rattle.std.specs.Option.{option_map}
use Rattle.aig_model.specs.Table.{Table}
use Rattle.report_text.specs.declared.report.SeedLine.{SeedLine}
use Rattle.report_lines.specs.Words.{Word, Line, ◌>>?◌, word, both, mapped, named, whole_line, small_of}
use Rattle.report_lines.specs.Reading.{Place, Read, ◌>>=◌, line_read, items_read, section_read, Fails}
use Rattle.report_lines.specs.declared.fault.ReportFault.{ReportFault}

-- ---- truth values
abbrev pub bit_of : ℕ → Option Bool
bit_of b = if b == 48 then Some false else (if b == 49 then Some true else None)

abbrev pub bits_from : List Bool → List ℕ → Option (List Bool)
bits_from bits [] = Some bits
bits_from bits (b ∷ bs) = bit_of b >>? λ v. bits_from (bits ++ v ∷ []) bs

abbrev pub bits_of : ℕ → Word → Option (List Bool)
bits_of width w = if nat_eq (length w) width then bits_from [] w else None

abbrev pub bits_line_of : ℕ → Line → Option (List Bool)
bits_line_of width ws = whole_line (word (bits_of width)) ws

abbrev pub bits_read : ℕ → Place → Read (List Bool)
bits_read width p = line_read (bits_line_of width) p

abbrev pub rows_read : ℕ → ℕ → Place → Read (List (List Bool))
rows_read width count p = items_read (λ _. bits_read width) 0 count [] p

abbrev pub GivesRows : ℕ → Result Table ReportFault → Place → Read (List (List Bool)) → Type 0
GivesRows width (Ok t) new read = (t.width ≡ width) × (read ≡ Ok (t.rows, new))
GivesRows width (Err e) new read = Fails e read

-- ---- seeds
-- a number, or the word none
abbrev pub bound_of : Word → Option (Option ℕ)
bound_of w = if bytes_eq w (codes "none") then Some None else option_map (λ n. Some n) (small_of w)

abbrev pub if_same : ℕ → ℕ → Option ℕ
if_same m n = if nat_eq n m then Some n else None

-- the number of rows, where the line is that of the batch
abbrev pub rows_of : ℕ × Option ℕ → Option ℕ
rows_of t = t.1

abbrev pub seed_line_of : ℕ → Line → Option (Option ℕ)
seed_line_of batch ws = whole_line (mapped rows_of (named (codes "seed") (both (word (λ w. small_of w >>? if_same batch)) (word bound_of)))) ws

abbrev pub Values : Type 0
Values = List Bool × (List (List Bool) × List Bool)

abbrev pub values_read : ℕ → ℕ → ℕ → Place → Read Values
values_read inputs latches n p = bits_read latches p >>= λ s. (rows_read inputs n s.1 >>= λ r. (bits_read latches r.1 >>= λ t. Ok ((r.0, t.0), t.1))) >>= λ b. Ok ((s.0, b.0), b.1)

abbrev pub to_seed : ℕ → Values → Option SeedLine
to_seed inputs v = Some (record { start = v.0; rows = record { width = inputs; rows = v.1.0 }; state = v.1.1 })

abbrev pub seed_rest : ℕ → ℕ → Option ℕ → Place → Read (Option SeedLine)
seed_rest inputs latches None p = Ok (None, p)
seed_rest inputs latches (Some n) p = values_read inputs latches n p >>= λ v. Ok (to_seed inputs v.0, v.1)

abbrev pub seed_read : ℕ → ℕ → ℕ → Place → Read (Option SeedLine)
seed_read inputs latches batch p = line_read (seed_line_of batch) p >>= λ n. seed_rest inputs latches n.0 n.1

abbrev pub seeds_read : ℕ → ℕ → Place → Read (List (Option SeedLine))
seeds_read inputs latches p = section_read (codes "seeds") (seed_read inputs latches) p
