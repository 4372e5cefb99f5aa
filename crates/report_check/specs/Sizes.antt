-- The lines of the sizes, of the options and of the counts.
use Rattle.std.specs.Prelude.{◌≡◌, ◌≤◌, ◌+◌, ◌*◌, ℕ, List, length, max, count_by}
use Rattle.aig_model.specs.declared.parts.Parts.{Parts}
use Rattle.sim_walk.specs.declared.options.Options.{Options}
use Rattle.report_text.specs.declared.report.Report.{Report}
use Rattle.report_check.specs.declared.fault.CheckKind.{CheckKind}
use Rattle.report_check.specs.declared.fault.CheckKind.TheVariants as kinds
use Rattle.report_check.specs.Blocks.{is_reached, is_unreachable, is_open}

-- the sizes are those of the circuit and the signals
pub record IsSized (c : Parts) (sig : List ℕ) (r : Report) : Type 0 where
  pub inputs : r.inputs ≡ length c.inputs
  pub latches : r.latches ≡ length c.latches
  pub signals : r.signals ≡ length sig

-- each option is one that `cover` takes
pub record AreInRange (o : Options) : Type 0 where
  pub depth : o.depth ≤ 200
  pub batches : o.batches ≤ 16
  pub some_length : 1 ≤ o.length
  pub length : o.length ≤ 100000
  pub some_stall : 1 ≤ o.stall
  pub stall : o.stall ≤ 100000
  pub hop : o.hop ≤ 50
  pub some_lemmas : 1 ≤ o.lemmas
  pub lemmas : o.lemmas ≤ 1000000
  pub strength : o.strength ≤ 2
  pub rounds : o.rounds ≤ 16

-- the truth values of the longest search's frames, and those of a walk, are within their limits
pub record HasRoom (o : Options) (c : Parts) : Type 0 where
  pub frames : (max o.depth o.hop + 1) * (c.top + 1) ≤ 4000000
  pub walk : o.length * (length c.inputs + 1) ≤ 2000000

-- the counts are those of the goals' blocks
pub record HasCounts (r : Report) : Type 0 where
  pub reached : r.reached ≡ count_by is_reached r.goals
  pub unreachable : r.unreachable ≡ count_by is_unreachable r.goals
  pub unsettled : r.unsettled ≡ count_by is_open r.goals

-- the first lines' conditions
pub record SizeMeets (c : Parts) (sig : List ℕ) (r : Report) (at : ℕ) (kind : CheckKind) : Type 0 where
  pub differs : at ≡ 0 → kind ≡ kinds.Differs → IsSized c sig r
  pub options : at ≡ 0 → kind ≡ kinds.Options → AreInRange r.options × HasRoom r.options c

-- the last line's
abbrev pub EndMeets : Report → ℕ → CheckKind → Type 0
EndMeets r at kind = at ≡ 0 → kind ≡ kinds.Counts → HasCounts r
