-- What the parts that were checked give to the later ones.
use Rattle.std.proofs.Common.{◌≡◌, List, ℕ, length, refl, ◌∙◌, Some}
use Rattle.aig_model.specs.declared.parts.Parts.{Parts}
use Rattle.report_text.specs.declared.report.Report.{Report}
use Rattle.report_text.specs.Form.{HasForm, FitsSeed}
use Rattle.report_check.specs.declared.fault.Part.TheVariants as parts
use Rattle.report_check.specs.declared.fault.CheckKind.TheVariants as kinds
use Rattle.report_check.specs.Conditions.{MeetsAll, MeetsBefore}
use Rattle.report_check.specs.Known.{HaveStates}
use Rattle.report_check.specs.Sizes.{IsSized, AreInRange, HasRoom}
use Rattle.report_check.proofs.Order.{before_first, before_next}
use Rattle.report_check.proofs.Supported.{each_at}

pub sized : (c : Parts) (sig : List ℕ) (r : Report) → MeetsAll c sig r parts.Size → IsSized c sig r
sized c sig r size = (size 0 kinds.Differs).differs refl refl

pub in_range : (c : Parts) (sig : List ℕ) (r : Report) → MeetsAll c sig r parts.Size → AreInRange r.options
in_range c sig r size = ((size 0 kinds.Options).options refl refl).0

pub room : (c : Parts) (sig : List ℕ) (r : Report) → MeetsAll c sig r parts.Size → HasRoom r.options c
room c sig r size = ((size 0 kinds.Options).options refl refl).1

pub states : (c : Parts) (sig : List ℕ) (r : Report) → HasForm r → MeetsAll c sig r parts.Size → HaveStates c r
states c sig r form size batch line at =
    (each_at (FitsSeed r.inputs r.latches) r.seeds batch (Some line) form.seeds.items at).state_wide ∙ (sized c sig r size).latches

pub seed_count : (c : Parts) (sig : List ℕ) (r : Report) → MeetsAll c sig r parts.Seed → length r.seeds ≡ r.options.batches
seed_count c sig r seeds = (seeds 0 kinds.Count).count refl refl

-- ---- part by part
pub before_history : (c : Parts) (sig : List ℕ) (r : Report) → MeetsAll c sig r parts.Size → MeetsBefore c sig r parts.History
before_history c sig r size = before_next c sig r parts.Size parts.History refl (before_first c sig r) size

pub before_seeds : (c : Parts) (sig : List ℕ) (r : Report) → MeetsAll c sig r parts.Size → MeetsAll c sig r parts.History → MeetsBefore c sig r parts.Seed
before_seeds c sig r size history = before_next c sig r parts.History parts.Seed refl (before_history c sig r size) history

pub before_invs : (c : Parts) (sig : List ℕ) (r : Report) → MeetsAll c sig r parts.Size → MeetsAll c sig r parts.History → MeetsAll c sig r parts.Seed → MeetsBefore c sig r parts.Inv
before_invs c sig r size history seeds = before_next c sig r parts.Seed parts.Inv refl (before_seeds c sig r size history) seeds

pub before_goals : (c : Parts) (sig : List ℕ) (r : Report) → MeetsAll c sig r parts.Size → MeetsAll c sig r parts.History → MeetsAll c sig r parts.Seed → MeetsAll c sig r parts.Inv
    → MeetsBefore c sig r parts.Goal
before_goals c sig r size history seeds invs = before_next c sig r parts.Inv parts.Goal refl (before_invs c sig r size history seeds) invs

pub before_spents : (c : Parts) (sig : List ℕ) (r : Report) → MeetsAll c sig r parts.Size → MeetsAll c sig r parts.History → MeetsAll c sig r parts.Seed → MeetsAll c sig r parts.Inv → MeetsAll c sig r parts.Goal
    → MeetsBefore c sig r parts.Spent
before_spents c sig r size history seeds invs goals = before_next c sig r parts.Goal parts.Spent refl (before_goals c sig r size history seeds invs) goals
