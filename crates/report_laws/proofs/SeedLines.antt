-- The seeds of the batches lead from reset to their states.
use Rattle.std.proofs.Common.{◌≡◌, ℕ, List, sym, Some}
use Rattle.std.specs.Prelude.{slice_get}
use Rattle.aig_model.specs.declared.parts.Parts.{Parts}
use Rattle.report_text.specs.declared.report.SeedLine.{SeedLine}
use Rattle.report_text.specs.declared.report.Report.{Report}
use Rattle.run_report.specs.Report.{Tells}
use Rattle.run_report.specs.Scope.{Scope}
use Rattle.report_check.specs.declared.fault.CheckKind.{CheckKind}
use Rattle.report_check.specs.Seeds.{IsSeed, SeedsMeet}

is_seed : (c : Parts) (sig : List ℕ) (scope : Scope) (r : Report) (batch : ℕ) (line : SeedLine) → Tells c sig r.options scope r → slice_get r.seeds batch ≡ Some (Some line) → IsSeed c line
is_seed c sig scope r batch line tells at =
    let holds = (tells.seeds.each batch (Some line) at).is_seed.seed_at.holds in
    record {
      reset = holds.reset;
      leads = record { frames = holds.frames; path = holds.path; inputs = holds.inputs; legal = holds.legal; ends = sym holds.leads };
    }

pub seeds_meet : (c : Parts) (sig : List ℕ) (scope : Scope) (r : Report) → Tells c sig r.options scope r → (at : ℕ) (condition : CheckKind) → SeedsMeet c r at condition
seeds_meet c sig scope r tells at condition = record {
  count = λ first is. tells.seeds.count;
  trace = λ is line here. is_seed c sig scope r at line tells here;
}
