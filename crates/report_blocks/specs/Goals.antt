-- What the blocks of goals tell.
use Rattle.std.specs.Prelude.{ℕ, nat_eq, bytes_eq, codes, Option, Some, None, Ok, List, [], ◌∷◌, if◌then◌else◌}
use Rattle.std.specs.Option.{option_map}
use Rattle.text_words.specs.Numbers.{decimal_number_of}
use Rattle.report_text.specs.declared.report.HopBound.{HopBound}
use Rattle.report_text.specs.declared.report.HopBound.TheVariants as hop_bounds
use Rattle.report_text.specs.declared.report.GoalBlock.{GoalBlock}
use Rattle.report_text.specs.declared.report.GoalBlock.TheVariants as blocks
use Rattle.report_lines.specs.Words.{Word, Line, ◌>>?◌, word, both, mapped, behind_name, named, until, whole_line, small_of}
use Rattle.report_lines.specs.Reading.{Place, Read, ◌>>=◌, line_read, section_read}
use Rattle.report_sections.specs.Proofs.{proof_read}
use Rattle.report_sections.specs.Seeds.{bound_of}
use Rattle.report_blocks.specs.declared.goals.GoalLine.{GoalLine}
use Rattle.report_blocks.specs.declared.goals.GoalLine.TheVariants as firsts
use Rattle.report_blocks.specs.Witness.{trace_read}

-- what the words at the front tell, where the name follows them
abbrev pub followed : {A : Type 0} → Word → (Line → Option (A × Line)) → Line → Option (A × Line)
followed name p ws = p ws >>? λ a. behind_name name a.1 >>? λ r. Some (a.0, r)

abbrev pub hop_of : Word → Option HopBound
hop_of w =
    if bytes_eq w (codes "none") then Some hop_bounds.Nothing
    else (if bytes_eq w (codes "noseed") then Some hop_bounds.NoSeed else option_map (λ n. hop_bounds.To n) (small_of w))

abbrev pub reached_of : Line → Option GoalLine
reached_of ws = whole_line (mapped (λ n. firsts.Reached n) (word decimal_number_of)) ws

abbrev pub unreachable_of : Line → Option GoalLine
unreachable_of ws = whole_line (mapped (λ t. firsts.Unreachable t.0 t.1) (both (word decimal_number_of) (named (codes "inv") (word small_of)))) ws

abbrev pub depth_of : Line → Option (Option ℕ × Line)
depth_of ws = named (codes "depth") (followed (codes "hops") (word bound_of)) ws

abbrev pub OpenFields : Type 0
OpenFields = Option ℕ × (List HopBound × Option ℕ)

abbrev pub to_open : OpenFields → GoalLine
to_open t = firsts.Open t.0 t.1.0 t.1.1

abbrev pub open_of : Line → Option GoalLine
open_of ws = whole_line (mapped to_open (both depth_of (both (until (codes "strength") hop_of []) (word bound_of)))) ws

abbrev pub verdict_of : Line → Option GoalLine
verdict_of [] = None
verdict_of (w ∷ ws) =
    if bytes_eq w (codes "reached") then reached_of ws
    else (if bytes_eq w (codes "unreachable") then unreachable_of ws else (if bytes_eq w (codes "open") then open_of ws else None))

-- the words behind the goal's number
abbrev pub behind_goal : ℕ → Line → Option Line
behind_goal goal ws = behind_name (codes "goal") ws >>? λ l. word small_of l >>? λ n. if nat_eq n.0 goal then Some n.1 else None

abbrev pub goal_line_of : ℕ → Line → Option GoalLine
goal_line_of goal ws = behind_goal goal ws >>? verdict_of

-- what follows the first line
abbrev pub block_rest : ℕ → ℕ → ℕ → GoalLine → Place → Read GoalBlock
block_rest inputs latches goal (firsts.Reached n) p = trace_read inputs latches goal p >>= λ t. Ok (blocks.Reached n t.0, t.1)
block_rest inputs latches goal (firsts.Unreachable n inv) p = proof_read p >>= λ q. Ok (blocks.Unreachable n inv q.0, q.1)
block_rest inputs latches goal (firsts.Open depth hops strength) p = Ok (blocks.Open depth hops strength, p)

abbrev pub block_read : ℕ → ℕ → ℕ → Place → Read GoalBlock
block_read inputs latches goal p = line_read (goal_line_of goal) p >>= λ l. block_rest inputs latches goal l.0 l.1

abbrev pub goals_read : ℕ → ℕ → Place → Read (List GoalBlock)
goals_read inputs latches p = section_read (codes "goals") (block_read inputs latches) p
