-- Where rows lead from a start.
use Rattle.std.proofs.Common.{◌≡◌, ℕ, ◌<◌, ◌≤◌, Bool, List, [], length, get_or, refl, sym, subst, ◌∙◌, arith, Option, None, Some, slice_get}
use Rattle.std.specs.Prelude.{◌↔◌, IfSome}
use Rattle.std.proofs.lemmas.Option.{slice_get_within}
use Rattle.std.proofs.lemmas.List.{take_all}
use Rattle.aig_model.specs.WellFormed.{IsCircuit}
use Rattle.aig_model.specs.Meaning.{Assignment, IsStep, IsLegal, IsReset}
use Rattle.aig_model.specs.declared.parts.Parts.{Parts}
use Rattle.aig_model.specs.declared.trace.Trace.{Trace}
use Rattle.aig_model.proofs.Paths.{one_path}
use Rattle.aig_eval.proofs.Replays.{Found, found_fails, legal_not_failing}
use Rattle.report_text.specs.declared.report.SeedLine.{SeedLine}
use Rattle.report_text.specs.declared.report.Report.{Report}
use Rattle.report_check.specs.declared.fault.CheckKind.{CheckKind}
use Rattle.report_check.specs.declared.fault.CheckKind.TheVariants as kinds
use Rattle.report_check.specs.Order.{IsFirstIn}
use Rattle.report_check.specs.Seeds.{IsSeed, LeadsTo, SeedsMeet}
use Rattle.report_check.proofs.FirstKinds.{never}
use Rattle.report_check.proofs.Items.{HoldsBelow}

-- where a constraint is false at a row, the rows lead nowhere
pub fails_to_lead : (c : Parts) (trace : Trace) (t : ℕ) (state : List Bool) (a : Assignment) → IsCircuit c → Found c [] trace t state 0
    → t < length trace.rows.rows → IsStep c state (get_or trace.rows.rows t []) a → (¬ IsLegal c a)
    → (end : List Bool) → ¬ LeadsTo c trace.start trace.rows.rows end
fails_to_lead c trace t state a ok found inside step illegal end way =
    let n = length trace.rows.rows in
    legal_not_failing c trace way.frames n t ok way.path (way.inputs ∙ sym (take_all n trace.rows.rows (omega arith))) (omega arith) way.legal inside
    (found_fails c [] trace t state 0 a ok found inside step illegal).here

pub leads : (c : Parts) (trace : Trace) (t : ℕ) (state : List Bool) → Found c [] trace t state 0 → length trace.rows.rows ≤ t → LeadsTo c trace.start trace.rows.rows state
leads c trace t state found all = record {
  frames = found.frames;
  path = found.path;
  inputs = found.rows ∙ take_all t trace.rows.rows all;
  legal = found.legal;
  ends = sym found.state_is;
}

-- they lead to one state
pub one_end : (c : Parts) (start : List Bool) (rows : List (List Bool)) (end other : List Bool) → IsCircuit c → LeadsTo c start rows end → LeadsTo c start rows other → end ≡ other
one_end c start rows end other ok one two =
    let same : one.frames ≡ two.frames = one_path c start one.frames two.frames ok one.path two.path (one.inputs ∙ sym two.inputs) in
    sym one.ends ∙ rw same two.ends

-- ---- seeds
-- from a reset state the rows lead to one state; a line is a seed exactly where it tells that state
pub seed_is : (c : Parts) (line : SeedLine) (end : List Bool) → IsCircuit c → IsReset c line.start → LeadsTo c line.start line.rows.rows end → (end ≡ line.state) ↔ IsSeed c line
seed_is c line end ok reset way = (
  λ same. record { reset = reset; leads = subst (λ (s : List Bool). LeadsTo c line.start line.rows.rows s) same way },
  λ seed. one_end c line.start line.rows.rows end line.state ok way seed.leads,
)

pub trace_first : (c : Parts) (r : Report) (batch : ℕ) (line : Option SeedLine) → length r.seeds ≡ r.options.batches → slice_get r.seeds batch ≡ Some line
    → HoldsBelow (λ (k : ℕ) (l : Option SeedLine). IfSome l (IsSeed c)) r.seeds batch → (¬ IfSome line (IsSeed c)) → IsFirstIn (SeedsMeet c r) batch kinds.Trace
trace_first c r batch None count at below refused = absurd (refused tt)
trace_first c r batch (Some line) count at below refused = record {
  fails = λ meets. refused (meets.trace refl line at);
  places = λ k q less. record { count = λ _ _. count; trace = λ is other here. below k (Some other) less here };
  before = λ q less. record { count = λ _ _. count; trace = λ is. absurd (never q kinds.Trace kinds.Trace is less (omega arith)) };
}

pub seeds_met : (c : Parts) (r : Report) (place : ℕ) → length r.seeds ≡ r.options.batches → length r.seeds ≤ place
    → HoldsBelow (λ (k : ℕ) (l : Option SeedLine). IfSome l (IsSeed c)) r.seeds place → (at : ℕ) (kind : CheckKind) → SeedsMeet c r at kind
seeds_met c r place count all below at kind = record {
  count = λ _ _. count;
  trace = λ is line here. below at (Some line) (omega (arith, slice_get_within r.seeds at (Some line) here, all)) here;
}
