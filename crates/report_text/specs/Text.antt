-- The text of a report: lines of words, with one space between the words of a line.
use Rattle.std.specs.Prelude.{ℕ, ℤ, ◌+◌, Bool, List, [], ◌∷◌, ◌++◌, length, map, codes, decimal, Option, Some, None}
use Rattle.std.specs.List.{flat_map}
use Rattle.std.specs.Fmt.{signed_decimal}
use Rattle.aig_model.specs.Literal.{number}
use Rattle.aig_model.specs.declared.parts.Kind.{Kind}
use Rattle.aig_model.specs.declared.parts.Kind.TheVariants as kinds
use Rattle.aig_model.specs.declared.trace.Trace.{Trace}
use Rattle.lrat_text.specs.declared.proof.LratStep.{LratStep}
use Rattle.lrat_text.specs.declared.proof.LratStep.TheVariants.{Add, Delete}
use Rattle.sim_walk.specs.declared.options.Options.{Options}
use Rattle.board_core.specs.declared.entry.Source.{Source}
use Rattle.board_core.specs.declared.entry.Source.TheVariants as sources
use Rattle.board_core.specs.declared.entry.Entry.{Entry}
use Rattle.wit_text.specs.WitnessText as witness
use Rattle.report_text.specs.declared.report.HopBound.{HopBound}
use Rattle.report_text.specs.declared.report.HopBound.TheVariants as hop_bounds
use Rattle.report_text.specs.declared.report.GoalBlock.{GoalBlock}
use Rattle.report_text.specs.declared.report.GoalBlock.TheVariants as blocks
use Rattle.report_text.specs.declared.report.SeedLine.{SeedLine}
use Rattle.report_text.specs.declared.report.Inv.{Inv}
use Rattle.report_text.specs.declared.report.BlockName.{BlockName}
use Rattle.report_text.specs.declared.report.BlockName.TheVariants as names
use Rattle.report_text.specs.declared.report.Block.{Block}
use Rattle.report_text.specs.declared.report.Report.{Report}

abbrev pub Word : Type 0
Word = List ℕ

abbrev pub Line : Type 0
Line = List Word

-- the words with one space (32) between them, and a newline (10)
abbrev pub line : Line → List ℕ
line [] = 10 ∷ []
line (w ∷ []) = w ++ 10 ∷ []
line (w ∷ v ∷ ws) = w ++ 32 ∷ line (v ∷ ws)

abbrev pub text : List Line → List ℕ
text lines = flat_map line lines

-- a name, and numbers without leading zeros
abbrev pub number_words : Word → List ℕ → Line
number_words name ns = name ∷ map decimal ns

-- the lines of each item, which go by its number too, from a number on
abbrev pub numbered_lines : {A : Type 0} → (ℕ → A → List Line) → ℕ → List A → List Line
numbered_lines lines n [] = []
numbered_lines lines n (x ∷ xs) = lines n x ++ numbered_lines lines (n + 1) xs

-- a section: its name, how many items follow, and the items' lines
unfoldable pub section_lines : {A : Type 0} → Word → (ℕ → A → List Line) → List A → List Line
section_lines name lines xs = number_words name (length xs ∷ []) ∷ numbered_lines lines 0 xs

-- ---- head
unfoldable pub size_words : Report → Line
size_words r = number_words (codes "size") (r.inputs ∷ r.latches ∷ r.signals ∷ [])

unfoldable pub options_words : Options → Line
options_words o =
    number_words (codes "options") (o.depth ∷ o.batches ∷ o.length ∷ o.stall ∷ o.hop ∷ o.seed ∷ o.lemmas ∷ o.strength ∷ o.rounds ∷ number o.proofs ∷ [])

unfoldable pub head_lines : Report → List Line
head_lines r = (codes "ketch" ∷ codes "1" ∷ []) ∷ size_words r ∷ options_words r.options ∷ []

-- ---- history
unfoldable pub kind_text : Kind → Word
kind_text kinds.Reached = codes "r"
kind_text kinds.Unreachable = codes "u"

unfoldable pub source_text : Source → Word
source_text sources.Zero = codes "zero"
source_text (sources.Walk b) = codes "walk:" ++ decimal b
source_text sources.Sweep = codes "sweep"
source_text (sources.Hop b) = codes "hop:" ++ decimal b
source_text (sources.Again r) = codes "again:" ++ decimal r
source_text sources.Proved = codes "proved"

unfoldable pub entry_words : Entry → Line
entry_words e = decimal e.number ∷ decimal e.caller ∷ decimal e.goal ∷ kind_text e.kind ∷ source_text e.source ∷ decimal e.low ∷ []

abbrev pub history_lines : List Entry → List Line
history_lines es = section_lines (codes "history") (λ _ e. entry_words e ∷ []) es

-- ---- witnesses (AIGER 1.9): the lines of a witness, each one word
abbrev pub one_word : Word → Line
one_word w = w ∷ []

abbrev pub bits_words : List Bool → Line
bits_words bits = one_word (witness.bits_line bits)

unfoldable pub witness_lines : ℕ → Trace → List Line
witness_lines goal t = map one_word (witness.witness_lines goal t)

-- ---- proofs (LRAT): how many steps, and a line for each step, as the format writes it
unfoldable pub step_words : LratStep → Line
step_words (Add id lits hints) = decimal id ∷ (map signed_decimal lits ++ codes "0" ∷ (map signed_decimal hints ++ codes "0" ∷ []))
step_words (Delete at_id ids) = decimal at_id ∷ codes "d" ∷ (map decimal ids ++ codes "0" ∷ [])

abbrev pub proof_lines : List LratStep → List Line
proof_lines steps = section_lines (codes "proof") (λ _ s. step_words s ∷ []) steps

-- ---- clauses: the literals and 0
unfoldable pub clause_words : List ℤ → Line
clause_words lits = map signed_decimal lits ++ codes "0" ∷ []

abbrev pub clauses_lines : List (List ℤ) → List Line
clauses_lines cs = map clause_words cs

-- ---- seeds
unfoldable pub seed_lines : ℕ → Option SeedLine → List Line
seed_lines batch None = (codes "seed" ∷ decimal batch ∷ codes "none" ∷ []) ∷ []
seed_lines batch (Some s) =
    number_words (codes "seed") (batch ∷ length s.rows.rows ∷ []) ∷ bits_words s.start ∷ (map bits_words s.rows.rows ++ bits_words s.state ∷ [])

abbrev pub seeds_lines : List (Option SeedLine) → List Line
seeds_lines seeds = section_lines (codes "seeds") seed_lines seeds

-- ---- certificates: how many clauses, and each clause with the proof that a step keeps it
abbrev pub kept_lines : List (List ℤ) → List (List LratStep) → List Line
kept_lines [] ps = []
kept_lines (c ∷ cs) [] = []
kept_lines (c ∷ cs) (p ∷ ps) = clause_words c ∷ (proof_lines p ++ kept_lines cs ps)

unfoldable pub inv_lines : Inv → List Line
inv_lines i = number_words (codes "inv") (length i.clauses ∷ []) ∷ kept_lines i.clauses i.kept

abbrev pub invs_lines : List Inv → List Line
invs_lines is = section_lines (codes "invs") (λ _ i. inv_lines i) is

-- ---- goals
unfoldable pub bound_text : Option ℕ → Word
bound_text None = codes "none"
bound_text (Some n) = decimal n

unfoldable pub hop_text : HopBound → Word
hop_text (hop_bounds.To n) = decimal n
hop_text hop_bounds.Nothing = codes "none"
hop_text hop_bounds.NoSeed = codes "noseed"

unfoldable pub open_words : ℕ → Option ℕ → List HopBound → Option ℕ → Line
open_words goal depth hops strength =
    codes "goal" ∷ decimal goal ∷ codes "open" ∷ codes "depth" ∷ bound_text depth ∷ codes "hops"
    ∷ (map hop_text hops ++ codes "strength" ∷ bound_text strength ∷ [])

-- the first line of a goal's block
abbrev pub settled_words : ℕ → Word → Line → Line
settled_words goal verdict more = codes "goal" ∷ decimal goal ∷ verdict ∷ more

unfoldable pub block_lines : ℕ → GoalBlock → List Line
block_lines goal (blocks.Reached n witness) = settled_words goal (codes "reached") (decimal n ∷ []) ∷ witness_lines goal witness
block_lines goal (blocks.Unreachable n inv proof) = settled_words goal (codes "unreachable") (decimal n ∷ codes "inv" ∷ decimal inv ∷ []) ∷ proof_lines proof
block_lines goal (blocks.Open depth hops strength) = open_words goal depth hops strength ∷ []

abbrev pub goals_lines : List GoalBlock → List Line
goals_lines bs = section_lines (codes "goals") block_lines bs

-- ---- queries: the formula's name, what belongs to the name, and the proof
unfoldable pub name_words : BlockName → Line
name_words (names.Sweep step) = number_words (codes "sweep") (step ∷ [])
name_words (names.Hop batch step) = number_words (codes "hop") (batch ∷ step ∷ [])
name_words (names.Kept place clauses) = number_words (codes "kept") (place ∷ length clauses ∷ [])
name_words (names.Excludes goal clauses) = number_words (codes "excludes") (goal ∷ length clauses ∷ [])

unfoldable pub blocked_words : List ℕ → Line
blocked_words goals = number_words (codes "blocked") (length goals ∷ goals)

-- the goals that a search leaves out, or the clauses that the formula is of
unfoldable pub part_lines : BlockName → List ℕ → List Line
part_lines (names.Sweep step) goals = blocked_words goals ∷ []
part_lines (names.Hop batch step) goals = blocked_words goals ∷ []
part_lines (names.Kept place clauses) goals = clauses_lines clauses
part_lines (names.Excludes goal clauses) goals = clauses_lines clauses

unfoldable pub query_lines : Word → Block → List Line
query_lines word b = (word ∷ name_words b.name) ∷ (part_lines b.name b.blocked ++ proof_lines b.proof)

abbrev pub spents_lines : List Block → List Line
spents_lines bs = section_lines (codes "spents") (λ _ b. query_lines (codes "spent") b) bs

abbrev pub refutes_lines : List Block → List Line
refutes_lines bs = section_lines (codes "refutes") (λ _ b. query_lines (codes "refute") b) bs

-- ---- the whole
unfoldable pub end_words : Report → Line
end_words r = number_words (codes "end") (r.reached ∷ r.unreachable ∷ r.unsettled ∷ [])

unfoldable pub report_lines : Report → List Line
report_lines r =
    head_lines r ++ (history_lines r.history ++ (seeds_lines r.seeds ++ (invs_lines r.invs
    ++ (goals_lines r.goals ++ (spents_lines r.spents ++ (refutes_lines r.refutes ++ end_words r ∷ []))))))

unfoldable pub report_text : Report → List ℕ
report_text r = text (report_lines r)
