-- The blocks of goals.
use Rattle.std.proofs.Common.{◌≡◌, ℕ, List, length, refl, sym, ap, ◌∙◌, Option, Some, None, option_map}
use Rattle.std.specs.Prelude.{slice_get}
use Rattle.std.proofs.lemmas.Option.{same_Some, slice_get_within}
use Rattle.aig_model.specs.declared.parts.Kind.{Kind}
use Rattle.aig_model.specs.declared.parts.Kind.TheVariants as verdicts
use Rattle.aig_model.specs.declared.parts.Parts.{Parts}
use Rattle.board_core.specs.declared.entry.Entry.{Entry}
use Rattle.board_core.specs.History.{first_entry}
use Rattle.report_text.specs.declared.report.GoalBlock.{GoalBlock}
use Rattle.report_text.specs.declared.report.GoalBlock.TheVariants as blocks
use Rattle.report_text.specs.declared.report.Report.{Report}
use Rattle.run_report.specs.Bounds.{Bounds}
use Rattle.run_report.specs.Report.{IsBlock, IsFirst, Tells}
use Rattle.run_report.specs.Scope.{Scope}
use Rattle.report_check.specs.declared.fault.CheckKind.{CheckKind}
use Rattle.report_check.specs.Goals.{IsPosted, HasVerdict, IsShown, HasInv, IsExcluded, HasBounds, GoalsMeet}
use Rattle.report_laws.specs.Laws.{IsWholeRun}
use Rattle.report_laws.proofs.GoalBounds.{same_depth, same_hops, same_strength}

is_posted : (es : List Entry) (goal n : ℕ) (kind : Kind) → IsFirst es goal kind n → IsPosted (first_entry es goal) kind n
is_posted es goal n kind h = record {
  entry = h.entry;
  is = h.first;
  kind_is = same_Some h.entry.kind kind (sym (ap (λ (first : Option Entry). option_map (λ (e : Entry). e.kind) first) h.first) ∙ h.verdict);
  number_is = h.number_of;
}

no_entry : (first : Option Entry) → option_map (λ (e : Entry). e.kind) first ≡ None → first ≡ None
no_entry None none = refl
no_entry (Some e) none = absurd cc

has_verdict : (c : Parts) (sig : List ℕ) (scope : Scope) (r : Report) (goal : ℕ) (b : GoalBlock) → IsBlock c sig scope r goal b → HasVerdict r.history goal b
has_verdict c sig scope r goal (blocks.Reached n witness) h = is_posted r.history goal n verdicts.Reached h.0
has_verdict c sig scope r goal (blocks.Unreachable n inv proof) h = is_posted r.history goal n verdicts.Unreachable h.0
has_verdict c sig scope r goal (blocks.Open depth hops strength) h = no_entry (first_entry r.history goal) h.pending

is_shown : (c : Parts) (sig : List ℕ) (scope : Scope) (r : Report) (goal : ℕ) (b : GoalBlock) → IsBlock c sig scope r goal b → IsShown c sig goal b
is_shown c sig scope r goal (blocks.Reached n witness) h = h.1
is_shown c sig scope r goal (blocks.Unreachable n inv proof) h = tt
is_shown c sig scope r goal (blocks.Open depth hops strength) h = tt

has_inv : (c : Parts) (sig : List ℕ) (scope : Scope) (r : Report) (goal : ℕ) (b : GoalBlock) → IsBlock c sig scope r goal b → HasInv r b
has_inv c sig scope r goal (blocks.Reached n witness) h = tt
has_inv c sig scope r goal (blocks.Unreachable n inv proof) h = slice_get_within r.invs inv h.1.inv h.1.place_of
has_inv c sig scope r goal (blocks.Open depth hops strength) h = tt

is_excluded : (c : Parts) (sig : List ℕ) (scope : Scope) (r : Report) (goal : ℕ) (b : GoalBlock) → IsBlock c sig scope r goal b → IsExcluded c sig r goal b
is_excluded c sig scope r goal (blocks.Reached n witness) h = tt
is_excluded c sig scope r goal (blocks.Unreachable n inv proof) h = record { inv = h.1.inv; at = h.1.place_of; accepted = h.1.accepted }
is_excluded c sig scope r goal (blocks.Open depth hops strength) h = tt

has_bounds : (c : Parts) (sig : List ℕ) (scope : Scope) (r : Report) (goal : ℕ) (b : GoalBlock) → IsWholeRun c r.options scope → IsBlock c sig scope r goal b → HasBounds r goal b
has_bounds c sig scope r goal (blocks.Reached n witness) whole h = tt
has_bounds c sig scope r goal (blocks.Unreachable n inv proof) whole h = tt
has_bounds c sig scope r goal (blocks.Open depth hops strength) whole h = (
  ap (λ (b : Bounds). b.depth) h.bounds ∙ same_depth scope r goal,
  ap (λ (b : Bounds). b.hops) h.bounds ∙ same_hops scope r goal,
  ap (λ (b : Bounds). b.strength) h.bounds ∙ same_strength scope r goal whole.proves,
)

pub goals_meet : (c : Parts) (sig : List ℕ) (scope : Scope) (r : Report) → IsWholeRun c r.options scope → Tells c sig r.options scope r → (at : ℕ) (condition : CheckKind) → GoalsMeet c sig r at condition
goals_meet c sig scope r whole tells at condition = record {
  count = λ first is. tells.each_goal;
  each = λ b here. (
      let told : IsBlock c sig scope r at b = tells.goals at b here in
      record {
        verdict = λ is. has_verdict c sig scope r at b told;
        trace = λ is. is_shown c sig scope r at b told;
        inv = λ is. has_inv c sig scope r at b told;
        excludes = λ is. is_excluded c sig scope r at b told;
        bound = λ is. has_bounds c sig scope r at b whole told;
      }
      );
}
