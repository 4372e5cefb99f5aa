-- What a batch of random walks and the hop from its seed add to what was found before.
use Rattle.std.specs.Prelude.{◌≡◌, ◌≢◌, ◌↔◌, ◌++◌, ◌+◌, ◌<◌, ◌^◌, ℕ, Bool, List, length, All, AllPairs, Contains, Option, None}
use Rattle.aig_model.specs.Replays.{Shows}
use Rattle.aig_model.specs.declared.parts.Parts.{Parts}
use Rattle.aig_model.specs.declared.trace.Trace.{Trace}
use Rattle.board_core.specs.declared.entry.Entry.{Entry}
use Rattle.board_core.specs.declared.entry.Source.{Source}
use Rattle.board_core.specs.declared.entry.Source.TheVariants.{Walk, Hop}
use Rattle.report_text.specs.declared.report.Inv.{Inv}
use Rattle.report_text.specs.declared.report.SeedLine.{SeedLine}
use Rattle.sim_batch.specs.Batch.{lanes_of}
use Rattle.sim_batch.specs.Ends.{IsLastStep}
use Rattle.sim_batch.specs.Seeds.{SeedState}
use Rattle.sim_walk.specs.Walk.{AreVisits}
use Rattle.sim_walk.specs.declared.options.Options.{Options}
use Rattle.sim_walk.specs.declared.visit.Visit.{Visit}
use Rattle.sweep_search.specs.Sweep.{IsMarked}
use Rattle.sweep_search.specs.declared.swept.FoundGoal.{FoundGoal}
use Rattle.run_report.specs.declared.ends.BatchEnd.{BatchEnd}
use Rattle.run_report.specs.declared.ends.SearchBlocks.{SearchBlocks}
use Rattle.run_report.specs.declared.posts.Basis.TheVariants.{Witness}
use Rattle.run_report.specs.declared.posts.Finding.{Finding}
use Rattle.run_report.specs.Ends.{AreBatchEnds, IsBatchEnd, IsHopEnd, IsHopEndFrom}
use Rattle.goal_facts.specs.Found.{Found, IsWalkVisited}
use Rattle.run_report.specs.Lines.{HasShortBasis}
use Rattle.run_report.specs.Posts.{HasEntry, IsHistory, posts_of}
use Rattle.run_report.specs.Run.{goals_of}
use Rattle.run_report.specs.Seeds.{seed_of_line}

-- ---- findings
-- of this source, with a trace that shows the goal
pub record IsFoundBy (c : Parts) (sig : List ℕ) (o : Options) (source : Source) (f : Finding) : Type 0 where
  pub source_is : f.source ≡ source
  pub found : Found c sig o source f.goal
  pub witness : Trace
  pub basis : f.basis ≡ Witness witness
  pub shows : Shows c sig witness f.goal

-- After the findings that there were come some of this source, each of a goal that nothing settled before.
pub record Adds (c : Parts) (sig : List ℕ) (o : Options) (source : Source) (old new : List Finding) : Type 0 where
  pub more : List Finding
  pub after : new ≡ old ++ more
  pub each : All (IsFoundBy c sig o source) more
  pub fresh : All (λ (f : Finding). ¬ Contains (goals_of old) f.goal) more
  pub once : AllPairs (λ (f g : Finding). f.goal ≢ g.goal) more

-- the marks of the goals that these findings settle
pub record AreKnown (sig : List ℕ) (fs : List Finding) (known : List Bool) : Type 0 where
  pub size : length known ≡ 2 ^ length sig
  pub marked : (goal : ℕ) → IsMarked known goal ↔ Contains (goals_of fs) goal

-- each goal that these findings settle has an entry
abbrev pub HaveEntries : List Finding → List Entry → Type 0
HaveEntries fs es = (goal : ℕ) → Contains (goals_of fs) goal → HasEntry es goal

-- ---- the walk
-- the visits of a batch from reset
pub record AreBatchVisits (c : Parts) (sig : List ℕ) (o : Options) (batch : ℕ) (visits : List Visit) : Type 0 where
  pub last : ℕ
  pub ends : IsLastStep c sig (lanes_of c o.seed batch None) o.length o.stall last
  pub are_visits : AreVisits c sig (lanes_of c o.seed batch None) (last + 1) visits

-- each goal that the batch visits is settled
pub record AddsVisits (c : Parts) (sig : List ℕ) (o : Options) (batch : ℕ) (old new : List Finding) : Type 0 where
  pub adds : Adds c sig o (Walk batch) old new
  pub whole : (goal : ℕ) → IsWalkVisited c sig o batch goal → Contains (goals_of new) goal

-- ---- the hop
-- the seed, as a report tells it
abbrev pub line_of : SeedState → SeedLine
line_of s = record { start = s.start; rows = s.rows; state = s.state }

-- what the hop finds, with the seed's rows before its own
abbrev pub hop_finding : ℕ → SeedState → FoundGoal → Finding
hop_finding batch seed f = record {
  goal = f.goal;
  source = Hop batch;
  basis = Witness (record { start = seed.start; rows = record { width = seed.rows.width; rows = seed.rows.rows ++ f.trace.rows.rows } });
}

pub record AddsHop (c : Parts) (sig : List ℕ) (o : Options) (batch : ℕ) (seed : SeedState) (old new : List Finding) (blocks : SearchBlocks) : Type 0 where
  pub adds : Adds c sig o (Hop batch) old new
  pub end : (es : List Entry) → HaveEntries new es → IsHopEndFrom c sig o es batch (line_of seed) blocks

-- the hop of a batch that has this seed, or none
pub record AddsHopEnd (c : Parts) (sig : List ℕ) (o : Options) (batch : ℕ) (seed : Option SeedState) (old new : List Finding) (end : BatchEnd) : Type 0 where
  pub adds : Adds c sig o (Hop batch) old new
  pub seed_is : seed_of_line c end.seed ≡ seed
  pub end_is : (es : List Entry) → HaveEntries new es → IsHopEnd c sig o es batch end.seed end.hop

-- ---- both
-- The walk, and then the hop for what is left. How the batch ends is told by any history in which all that was found has entries.
pub record AddsBatch (c : Parts) (sig : List ℕ) (o : Options) (batch : ℕ) (old new : List Finding) (end : BatchEnd) : Type 0 where
  pub walked : List Finding
  pub walk : Adds c sig o (Walk batch) old walked
  pub hop : Adds c sig o (Hop batch) walked new
  pub told : (es : List Entry) → HaveEntries new es → IsBatchEnd c sig o es batch end

-- ---- all batches
-- A history stays one, whatever the clauses are by which goals are unreachable; nothing that was settled is lost, and no long proof is
-- added.
pub record Extends (c : Parts) (sig : List ℕ) (o : Options) (old new : List Finding) : Type 0 where
  pub history : (inv : Option Inv) → IsHistory c sig o inv (posts_of old) → IsHistory c sig o inv (posts_of new)
  pub kept : (goal : ℕ) → Contains (goals_of old) goal → Contains (goals_of new) goal
  pub below : All (λ goal. goal < 2 ^ length sig) (goals_of old) → All (λ goal. goal < 2 ^ length sig) (goals_of new)
  pub short : All (λ (f : Finding). HasShortBasis f.basis) old → All (λ (f : Finding). HasShortBasis f.basis) new

-- the batches from reset, one after another
pub record AddsBatches (c : Parts) (sig : List ℕ) (o : Options) (old new : List Finding) (ends : List BatchEnd) : Type 0 where
  pub extends : Extends c sig o old new
  pub told : (es : List Entry) → HaveEntries new es → AreBatchEnds c sig o es ends
