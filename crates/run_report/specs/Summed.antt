-- A report around its parts.
use Rattle.std.specs.Prelude.{◌≡◌, ℕ, List, length, count_by, Option}
use Rattle.aig_model.specs.declared.parts.Parts.{Parts}
use Rattle.sim_walk.specs.declared.options.Options.{Options}
use Rattle.board_core.specs.declared.entry.Entry.{Entry}
use Rattle.report_text.specs.declared.report.GoalBlock.{GoalBlock}
use Rattle.report_text.specs.declared.report.Block.{Block}
use Rattle.report_text.specs.declared.report.Inv.{Inv}
use Rattle.report_text.specs.declared.report.SeedLine.{SeedLine}
use Rattle.report_text.specs.declared.report.Report.{Report}
use Rattle.run_report.specs.Report.{is_reached, is_unreachable, is_open}

-- these parts, with the sizes, the options and the counts
pub record Holds (c : Parts) (sig : List ℕ) (o : Options) (posts : List Entry) (blocks : List GoalBlock) (lines : List (Option SeedLine)) (clauses : List Inv) (queries refuted : List Block) (r : Report) : Type 0 where
  pub inputs : r.inputs ≡ length c.inputs
  pub latches : r.latches ≡ length c.latches
  pub signals : r.signals ≡ length sig
  pub options : r.options ≡ o
  pub history : r.history ≡ posts
  pub seeds : r.seeds ≡ lines
  pub invs : r.invs ≡ clauses
  pub goals : r.goals ≡ blocks
  pub spents : r.spents ≡ queries
  pub refutes : r.refutes ≡ refuted
  pub reached : r.reached ≡ count_by is_reached blocks
  pub unreachable : r.unreachable ≡ count_by is_unreachable blocks
  pub unsettled : r.unsettled ≡ count_by is_open blocks
