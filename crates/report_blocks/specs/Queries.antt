-- What queries tell.
use Rattle.std.specs.Prelude.{ℕ, ℤ, ◌-◌, Bool, ◌||◌, nat_eq, nat_lt, bytes_eq, codes, length, slice_index, Option, Some, None, Ok, List, [], ◌∷◌, ◌++◌, if◌then◌else◌}
use Rattle.std.specs.Option.{option_map}
use Rattle.report_text.specs.declared.report.BlockName.{BlockName}
use Rattle.report_text.specs.declared.report.BlockName.TheVariants as names
use Rattle.report_text.specs.declared.report.Block.{Block}
use Rattle.report_lines.specs.Words.{Line, ◌>>?◌, word, both, behind_name, whole_line, small_of}
use Rattle.report_lines.specs.Reading.{Place, Read, ◌>>=◌, settled, line_read, section_read}
use Rattle.report_sections.specs.Pieces.{and_read}
use Rattle.report_sections.specs.Proofs.{proof_read}
use Rattle.report_sections.specs.Certs.{clauses_read}
use Rattle.report_blocks.specs.declared.queries.QueryLine.{QueryLine}
use Rattle.report_blocks.specs.declared.queries.QueryLine.TheVariants as firsts

-- ---- the first line
abbrev pub one_of : Line → Option ℕ
one_of ws = whole_line (word small_of) ws

abbrev pub two_of : Line → Option (ℕ × ℕ)
two_of ws = whole_line (both (word small_of) (word small_of)) ws

abbrev pub search_of : Line → Option QueryLine
search_of [] = None
search_of (w ∷ ws) =
    if bytes_eq w (codes "sweep") then option_map (λ t. firsts.Sweep t) (one_of ws)
    else (if bytes_eq w (codes "hop") then option_map (λ t. firsts.Hop t.0 t.1) (two_of ws) else None)

abbrev pub query_of : Line → Option QueryLine
query_of [] = None
query_of (w ∷ ws) =
    if bytes_eq w (codes "kept") then option_map (λ t. firsts.Kept t.0 t.1) (two_of ws)
    else (if bytes_eq w (codes "excludes") then option_map (λ t. firsts.Excludes t.0 t.1) (two_of ws) else search_of (w ∷ ws))

abbrev pub spent_of : Line → Option QueryLine
spent_of ws = behind_name (codes "spent") ws >>? query_of

abbrev pub refute_of : Line → Option QueryLine
refute_of ws = behind_name (codes "refute") ws >>? search_of

-- ---- the goals that a search leaves out
abbrev pub is_above : List ℕ → ℕ → Bool
is_above goals goal = nat_eq (length goals) 0 || nat_lt (slice_index goals (length goals - 1)) goal

-- goals in rising order, behind these
abbrev pub goals_from : List ℕ → Line → Option (List ℕ)
goals_from goals [] = Some goals
goals_from goals (w ∷ ws) = small_of w >>? λ goal. if is_above goals goal then goals_from (goals ++ goal ∷ []) ws else None

abbrev pub if_so_many : ℕ → List ℕ → Option (List ℕ)
if_so_many count goals = if nat_eq (length goals) count then Some goals else None

abbrev pub blocked_of : Line → Option (List ℕ)
blocked_of ws = behind_name (codes "blocked") ws >>? λ l. word small_of l >>? λ n. goals_from [] n.1 >>? if_so_many n.0

-- ---- what follows the first line
abbrev pub search_rest : BlockName → Place → Read Block
search_rest name p = and_read (line_read blocked_of p) proof_read >>= λ t. Ok (record { name = name; blocked = t.0.0; proof = t.0.1 }, t.1)

-- the clauses, and the proof, of the formula that they name
abbrev pub clauses_rest : (List (List ℤ) → BlockName) → ℕ → Place → Read Block
clauses_rest name count p = and_read (clauses_read count p) proof_read >>= λ t. Ok (record { name = name t.0.0; blocked = []; proof = t.0.1 }, t.1)

abbrev pub query_rest : QueryLine → Place → Read Block
query_rest (firsts.Sweep step) p = search_rest (names.Sweep step) p
query_rest (firsts.Hop batch step) p = search_rest (names.Hop batch step) p
query_rest (firsts.Kept place count) p = clauses_rest (λ clauses. names.Kept place clauses) count p
query_rest (firsts.Excludes goal count) p = clauses_rest (λ clauses. names.Excludes goal clauses) count p

-- a query whose first line tells this
abbrev pub query_read : Option QueryLine → Place → Read Block
query_read line p = settled p line p.bytes >>= λ l. query_rest l.0 l.1

abbrev pub spent_read : Place → Read Block
spent_read p = line_read spent_of p >>= λ l. query_rest l.0 l.1

abbrev pub refute_read : Place → Read Block
refute_read p = line_read refute_of p >>= λ l. query_rest l.0 l.1

abbrev pub spents_read : Place → Read (List Block)
spents_read p = section_read (codes "spents") (λ _. spent_read) p

abbrev pub refutes_read : Place → Read (List Block)
refutes_read p = section_read (codes "refutes") (λ _. refute_read) p
