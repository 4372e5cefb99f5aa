-- What the sections of a report tell, one behind the other.
use Rattle.std.specs.Prelude.{ℕ, Option, List, [], ◌∷◌, Result, Ok, Err}
use Rattle.sim_walk.specs.declared.options.Options.{Options}
use Rattle.report_text.specs.declared.report.Report.{Report}
use Rattle.board_core.specs.declared.entry.Entry.{Entry}
use Rattle.report_text.specs.declared.report.SeedLine.{SeedLine}
use Rattle.report_text.specs.declared.report.Inv.{Inv}
use Rattle.report_text.specs.declared.report.GoalBlock.{GoalBlock}
use Rattle.report_text.specs.declared.report.Block.{Block}
use Rattle.report_lines.specs.Reading.{Place, Read, ◌>>=◌, line_read, fault_at}
use Rattle.report_lines.specs.declared.fault.ReportFault.{ReportFault}
use Rattle.report_sections.specs.declared.head.Size.{Size}
use Rattle.report_sections.specs.declared.head.Counts.{Counts}
use Rattle.report_sections.specs.Pieces.{and_read}
use Rattle.report_sections.specs.Head.{title_of, size_of, options_of, end_of}
use Rattle.report_sections.specs.History.{history_read}
use Rattle.report_sections.specs.Seeds.{seeds_read}
use Rattle.report_sections.specs.Certs.{invs_read}
use Rattle.report_blocks.specs.Goals.{goals_read}
use Rattle.report_blocks.specs.Queries.{spents_read, refutes_read}
use Rattle.report_reading.specs.declared.sections.Head.{Head}
use Rattle.report_reading.specs.declared.sections.Findings.{Findings}
use Rattle.report_reading.specs.declared.sections.Verdicts.{Verdicts}

abbrev pub to_head : ℕ × (Size × Options) → Head
to_head t = record { size = t.1.0; options = t.1.1 }

abbrev pub head_read : Place → Read Head
head_read p = and_read (line_read title_of p) (λ q. and_read (line_read size_of q) (line_read options_of)) >>= λ t. Ok (to_head t.0, t.1)

abbrev pub FindingsFields : Type 0
FindingsFields = List Entry × (List (Option SeedLine) × List Inv)

abbrev pub to_findings : FindingsFields → Findings
to_findings t = record { history = t.0; seeds = t.1.0; invs = t.1.1 }

abbrev pub findings_read : ℕ → ℕ → Place → Read Findings
findings_read inputs latches p = and_read (history_read p) (λ q. and_read (seeds_read inputs latches q) invs_read) >>= λ t. Ok (to_findings t.0, t.1)

abbrev pub VerdictsFields : Type 0
VerdictsFields = List GoalBlock × (List Block × List Block)

abbrev pub to_verdicts : VerdictsFields → Verdicts
to_verdicts t = record { goals = t.0; spents = t.1.0; refutes = t.1.1 }

abbrev pub verdicts_read : ℕ → ℕ → Place → Read Verdicts
verdicts_read inputs latches p = and_read (goals_read inputs latches p) (λ q. and_read (spents_read q) refutes_read) >>= λ t. Ok (to_verdicts t.0, t.1)

abbrev pub Rest : Type 0
Rest = Findings × (Verdicts × Counts)

-- what follows the head
abbrev pub rest_read : ℕ → ℕ → Place → Read Rest
rest_read inputs latches p = and_read (findings_read inputs latches p) (λ q. and_read (verdicts_read inputs latches q) (line_read end_of))

abbrev pub to_report : Head → Rest → Report
to_report h t =
    record {
      inputs = h.size.inputs;
      latches = h.size.latches;
      signals = h.size.signals;
      options = h.options;
      history = t.0.history;
      seeds = t.0.seeds;
      invs = t.0.invs;
      goals = t.1.0.goals;
      spents = t.1.0.spents;
      refutes = t.1.0.refutes;
      reached = t.1.1.reached;
      unreachable = t.1.1.unreachable;
      unsettled = t.1.1.unsettled;
    }

abbrev pub report_read : Place → Read Report
report_read p = head_read p >>= λ h. rest_read h.0.size.inputs h.0.size.latches h.1 >>= λ t. Ok (to_report h.0 t.0, t.1)

-- nothing follows the last line
abbrev pub at_end : Report → Place → List ℕ → Result Report ReportFault
at_end r p [] = Ok r
at_end r p (b ∷ bs) = Err (fault_at p)

abbrev pub ended : Read Report → Result Report ReportFault
ended (Ok r) = at_end r.0 r.1 r.1.bytes
ended (Err e) = Err e

abbrev pub whole_read : List ℕ → Result Report ReportFault
whole_read bytes = ended (report_read (record { line = 0; bytes = bytes }))
