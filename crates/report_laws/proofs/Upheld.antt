-- A report that tells the truth of a run is upheld, part by part.
use Rattle.std.proofs.Common.{◌≡◌, ℕ, ◌^◌, List, length, sym, subst, ◌∙◌}
use Rattle.aig_model.specs.declared.parts.Parts.{Parts}
use Rattle.sim_walk.specs.declared.options.Options.{Options}
use Rattle.board_core.proofs.FirstFaults.{faultless_of_legal}
use Rattle.report_text.specs.declared.report.Report.{Report}
use Rattle.report_text.proofs.Determines.{one_report}
use Rattle.run_report.specs.Report.{Tells}
use Rattle.run_report.specs.Scope.{Scope}
use Rattle.report_check.specs.declared.fault.Part.{Part}
use Rattle.report_check.specs.declared.fault.Part.TheVariants as parts
use Rattle.report_check.specs.declared.fault.CheckKind.{CheckKind}
use Rattle.report_check.specs.Conditions.{Meets, HistoryMeets}
use Rattle.report_check.specs.Sizes.{SizeMeets, EndMeets}
use Rattle.report_laws.specs.Laws.{IsWholeRun, TrueReportIsUpheld, PrintedReportIsAccepted}
use Rattle.report_laws.proofs.GoalBlocks.{goals_meet}
use Rattle.report_laws.proofs.InvBlocks.{invs_meet}
use Rattle.report_laws.proofs.RefutedSearches.{refutes_meet}
use Rattle.report_laws.proofs.SeedLines.{seeds_meet}
use Rattle.report_laws.proofs.SpentQueries.{spents_meet}

size_meets : (c : Parts) (sig : List ℕ) (scope : Scope) (r : Report) → IsWholeRun c r.options scope → Tells c sig r.options scope r → (at : ℕ) (condition : CheckKind) → SizeMeets c sig r at condition
size_meets c sig scope r whole tells at condition = record {
  differs = λ first is. record { inputs = tells.inputs; latches = tells.latches; signals = tells.signals };
  options = λ first is. (whole.ranges, whole.room);
}

history_meets : (c : Parts) (sig : List ℕ) (scope : Scope) (r : Report) → Tells c sig r.options scope r → (at : ℕ) (condition : CheckKind) → HistoryMeets sig r at condition
history_meets c sig scope r tells at condition fault is e here = faultless_of_legal r.options (2 ^ length sig) r.history tells.legal at e here fault

end_meets : (c : Parts) (sig : List ℕ) (scope : Scope) (r : Report) → Tells c sig r.options scope r → (at : ℕ) (condition : CheckKind) → EndMeets r at condition
end_meets c sig scope r tells at condition first is = record { reached = tells.reached; unreachable = tells.unreachable; unsettled = tells.unsettled }

meets : (c : Parts) (sig : List ℕ) (scope : Scope) (r : Report) → IsWholeRun c r.options scope → Tells c sig r.options scope r → (part : Part) (at : ℕ) (condition : CheckKind) → Meets c sig r part at condition
meets c sig scope r whole tells parts.Size at condition = size_meets c sig scope r whole tells at condition
meets c sig scope r whole tells parts.History at condition = history_meets c sig scope r tells at condition
meets c sig scope r whole tells parts.Seed at condition = seeds_meet c sig scope r tells at condition
meets c sig scope r whole tells parts.Inv at condition = invs_meet c sig scope r tells at condition
meets c sig scope r whole tells parts.Goal at condition = goals_meet c sig scope r whole tells at condition
meets c sig scope r whole tells parts.Spent at condition = spents_meet c sig scope r tells at condition
meets c sig scope r whole tells parts.Refute at condition = refutes_meet c sig scope r whole tells at condition
meets c sig scope r whole tells parts.End at condition = end_meets c sig scope r tells at condition

-- (a report's options are those of its run)
pub is_upheld : TrueReportIsUpheld
is_upheld c sig o scope r whole tells =
    meets c sig scope r (subst (λ (p : Options). IsWholeRun c p scope) (sym tells.options) whole) (subst (λ (p : Options). Tells c sig p scope r) (sym tells.options) tells)

pub is_accepted : PrintedReportIsAccepted
is_accepted c sig o scope bytes whole printed = record {
  report = printed.report;
  spells = record { form = printed.form; spelled = sym printed.spelled };
  only = λ other spells. one_report other printed.report spells.form printed.form (spells.spelled ∙ printed.spelled);
  upheld = is_upheld c sig o scope printed.report whole printed.tells;
}
