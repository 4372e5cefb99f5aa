-- The first condition of one place that fails, by what holds and what doesn't.
use Rattle.std.proofs.Common.{◌≡◌, ℕ, true, ◌+◌, ◌<◌, ◌≤◌, ◌^◌, List, length, take, refl, sym, ap, ◌∙◌, subst, arith, Some, slice_get}
use Rattle.std.proofs.lemmas.Option.{same_Some, slice_get_within}
use Rattle.aig_model.specs.declared.parts.Parts.{Parts}
use Rattle.board_core.specs.declared.fault.HistoryKind.{HistoryKind}
use Rattle.board_core.specs.declared.fault.HistoryKind.TheVariants as history
use Rattle.board_core.specs.declared.entry.Entry.{Entry}
use Rattle.board_core.specs.Faults.{HasFault, IsFaultAt, order}
use Rattle.board_core.specs.History.{IsLegalHistory}
use Rattle.board_core.proofs.FirstFaults.{faultless_of_legal}
use Rattle.report_text.specs.declared.report.Inv.{Inv}
use Rattle.report_text.specs.declared.report.GoalBlock.{GoalBlock}
use Rattle.report_text.specs.declared.report.Block.{Block}
use Rattle.report_text.specs.declared.report.Report.{Report}
use Rattle.report_check.specs.declared.fault.CheckKind.{CheckKind}
use Rattle.report_check.specs.declared.fault.CheckKind.TheVariants as kinds
use Rattle.report_check.specs.Order.{kind_order, kind_of_fault, IsFirstKind, IsFirstIn}
use Rattle.report_check.specs.Blocks.{HasOpen}
use Rattle.report_check.specs.Sizes.{IsSized, AreInRange, HasRoom, HasCounts, SizeMeets, EndMeets}
use Rattle.report_check.specs.Seeds.{SeedsMeet}
use Rattle.report_check.specs.Invariants.{HoldAtReset, AreKept, InvMeets}
use Rattle.report_check.specs.Goals.{HasVerdict, IsShown, HasInv, IsExcluded, HasBounds, GoalMeets, GoalsMeet}
use Rattle.report_check.specs.Queries.{IsSpentQuery, IsSpent, SpentMeets}
use Rattle.report_check.specs.Refutes.{IsRefuteQuery, IsRefuted, AreAllTold, RefuteMeets, RefutesMeet}
use Rattle.report_check.specs.Conditions.{HistoryMeets}

-- a condition isn't tried before itself, nor before one that is tried earlier
pub never : (q k kind : CheckKind) → q ≡ k → kind_order q < kind_order kind → kind_order kind ≤ kind_order k → ⊥
never q k kind is less late = let same : kind_order q ≡ kind_order k = ap kind_order is in omega arith

-- ---- the first and the last lines
pub differs_first : (c : Parts) (sig : List ℕ) (r : Report) → (¬ IsSized c sig r) → IsFirstIn (SizeMeets c sig r) 0 kinds.Differs
differs_first c sig r wrong = record {
  fails = λ meets. wrong (meets.differs refl refl);
  places = λ k q less. absurd (omega arith);
  before = λ q less. absurd (omega arith);
}

pub options_first : (c : Parts) (sig : List ℕ) (r : Report) → IsSized c sig r → (¬ (AreInRange r.options × HasRoom r.options c)) → IsFirstIn (SizeMeets c sig r) 0 kinds.Options
options_first c sig r sized wrong = record {
  fails = λ meets. wrong (meets.options refl refl);
  places = λ k q less. absurd (omega arith);
  before = λ q less. record { differs = λ _ _. sized; options = λ _ is. absurd (never q kinds.Options kinds.Options is less (omega arith)) };
}

pub size_met : (c : Parts) (sig : List ℕ) (r : Report) → IsSized c sig r → AreInRange r.options × HasRoom r.options c → (at : ℕ) (kind : CheckKind) → SizeMeets c sig r at kind
size_met c sig r sized options at kind = record { differs = λ _ _. sized; options = λ _ _. options }

pub counts_first : (r : Report) → (¬ HasCounts r) → IsFirstIn (EndMeets r) 0 kinds.Counts
counts_first r wrong = record {
  fails = λ meets. wrong (meets refl refl);
  places = λ k q less. absurd (omega arith);
  before = λ q less at is. absurd (never q kinds.Counts kinds.Counts is less (omega arith));
}

-- ---- the history
shifted : (fault : HistoryKind) → kind_order (kind_of_fault fault) ≡ order fault + 2
shifted history.Number = refl
shifted history.Caller = refl
shifted history.Goal = refl
shifted history.Low = refl
shifted history.Source = refl
shifted history.Twice = refl
shifted history.Kind = refl

pub history_met : (sig : List ℕ) (r : Report) → IsLegalHistory r.options (2 ^ length sig) r.history → (at : ℕ) (kind : CheckKind) → HistoryMeets sig r at kind
history_met sig r legal at kind fault is e here = faultless_of_legal r.options (2 ^ length sig) r.history legal at e here fault

pub history_first : (sig : List ℕ) (r : Report) (at : ℕ) (fault : HistoryKind) → IsFaultAt r.options (2 ^ length sig) r.history at fault
    → IsFirstIn (HistoryMeets sig r) at (kind_of_fault fault)
history_first sig r at fault is = record {
  fails = λ meets. meets fault refl is.entry is.place is.fault.here;
  places = λ k q less other same e here. is.before k e less here other;
  before = λ q less other same e here. (
      let entry : is.entry ≡ e = same_Some is.entry e (sym is.place ∙ here) in
      let of_q : kind_order q ≡ order other + 2 = ap kind_order same ∙ shifted other in
      let earlier : order other < order fault = omega (arith, less, of_q, shifted fault) in
      subst (λ (x : Entry). ¬ HasFault r.options (2 ^ length sig) (take at r.history) x other) entry (is.fault.earlier other earlier)
      );
}

-- ---- the seeds
pub seeds_count_first : (c : Parts) (r : Report) → (¬ (length r.seeds ≡ r.options.batches)) → IsFirstIn (SeedsMeet c r) 0 kinds.Count
seeds_count_first c r wrong = record {
  fails = λ meets. wrong (meets.count refl refl);
  places = λ k q less. absurd (omega arith);
  before = λ q less. record { count = λ _ is. absurd (never q kinds.Count kinds.Count is less (omega arith)); trace = λ is. absurd (never q kinds.Trace kinds.Count is less (omega arith)) };
}

-- ---- the clauses
pub start_first : (c : Parts) (i : Inv) → (¬ HoldAtReset c i.clauses) → IsFirstKind (InvMeets c i) kinds.Start
start_first c i wrong = record {
  fails = λ meets. wrong (meets.start refl);
  before = λ q less. record { start = λ is. absurd (never q kinds.Start kinds.Start is less (omega arith)); kept = λ is. absurd (never q kinds.Kept kinds.Start is less (omega arith)) };
}

pub kept_first : (c : Parts) (i : Inv) → HoldAtReset c i.clauses → (¬ AreKept c i) → IsFirstKind (InvMeets c i) kinds.Kept
kept_first c i start wrong = record {
  fails = λ meets. wrong (meets.kept refl);
  before = λ q less. record { start = λ _. start; kept = λ is. absurd (never q kinds.Kept kinds.Kept is less (omega arith)) };
}

pub inv_met : (c : Parts) (i : Inv) → HoldAtReset c i.clauses → AreKept c i → (kind : CheckKind) → InvMeets c i kind
inv_met c i start kept kind = record { start = λ _. start; kept = λ _. kept }

-- ---- the goals
pub goals_count_first : (c : Parts) (sig : List ℕ) (r : Report) → (¬ (length r.goals ≡ 2 ^ length sig)) → IsFirstIn (GoalsMeet c sig r) 0 kinds.Count
goals_count_first c sig r wrong = record {
  fails = λ meets. wrong (meets.count refl refl);
  places = λ k q less. absurd (omega arith);
  before = λ q less. record {
    count = λ _ is. absurd (never q kinds.Count kinds.Count is less (omega arith));
    each = λ b here. record {
      verdict = λ is. absurd (never q kinds.Verdict kinds.Count is less (omega arith));
      trace = λ is. absurd (never q kinds.Trace kinds.Count is less (omega arith));
      inv = λ is. absurd (never q kinds.Inv kinds.Count is less (omega arith));
      excludes = λ is. absurd (never q kinds.Excludes kinds.Count is less (omega arith));
      bound = λ is. absurd (never q kinds.Bound kinds.Count is less (omega arith));
    };
  };
}

pub verdict_first : (c : Parts) (sig : List ℕ) (r : Report) (g : ℕ) (b : GoalBlock) → (¬ HasVerdict r.history g b) → IsFirstKind (GoalMeets c sig r g b) kinds.Verdict
verdict_first c sig r g b wrong = record {
  fails = λ meets. wrong (meets.verdict refl);
  before = λ q less. record {
    verdict = λ is. absurd (never q kinds.Verdict kinds.Verdict is less (omega arith));
    trace = λ is. absurd (never q kinds.Trace kinds.Verdict is less (omega arith));
    inv = λ is. absurd (never q kinds.Inv kinds.Verdict is less (omega arith));
    excludes = λ is. absurd (never q kinds.Excludes kinds.Verdict is less (omega arith));
    bound = λ is. absurd (never q kinds.Bound kinds.Verdict is less (omega arith));
  };
}

pub trace_first : (c : Parts) (sig : List ℕ) (r : Report) (g : ℕ) (b : GoalBlock) → HasVerdict r.history g b → (¬ IsShown c sig g b) → IsFirstKind (GoalMeets c sig r g b) kinds.Trace
trace_first c sig r g b verdict wrong = record {
  fails = λ meets. wrong (meets.trace refl);
  before = λ q less. record {
    verdict = λ _. verdict;
    trace = λ is. absurd (never q kinds.Trace kinds.Trace is less (omega arith));
    inv = λ is. absurd (never q kinds.Inv kinds.Trace is less (omega arith));
    excludes = λ is. absurd (never q kinds.Excludes kinds.Trace is less (omega arith));
    bound = λ is. absurd (never q kinds.Bound kinds.Trace is less (omega arith));
  };
}

pub inv_first : (c : Parts) (sig : List ℕ) (r : Report) (g : ℕ) (b : GoalBlock) → HasVerdict r.history g b → IsShown c sig g b → (¬ HasInv r b) → IsFirstKind (GoalMeets c sig r g b) kinds.Inv
inv_first c sig r g b verdict shown wrong = record {
  fails = λ meets. wrong (meets.inv refl);
  before = λ q less. record {
    verdict = λ _. verdict;
    trace = λ _. shown;
    inv = λ is. absurd (never q kinds.Inv kinds.Inv is less (omega arith));
    excludes = λ is. absurd (never q kinds.Excludes kinds.Inv is less (omega arith));
    bound = λ is. absurd (never q kinds.Bound kinds.Inv is less (omega arith));
  };
}

pub excludes_first : (c : Parts) (sig : List ℕ) (r : Report) (g : ℕ) (b : GoalBlock) → HasVerdict r.history g b → IsShown c sig g b → HasInv r b → (¬ IsExcluded c sig r g b)
    → IsFirstKind (GoalMeets c sig r g b) kinds.Excludes
excludes_first c sig r g b verdict shown has wrong = record {
  fails = λ meets. wrong (meets.excludes refl);
  before = λ q less. record {
    verdict = λ _. verdict;
    trace = λ _. shown;
    inv = λ _. has;
    excludes = λ is. absurd (never q kinds.Excludes kinds.Excludes is less (omega arith));
    bound = λ is. absurd (never q kinds.Bound kinds.Excludes is less (omega arith));
  };
}

pub bound_first : (c : Parts) (sig : List ℕ) (r : Report) (g : ℕ) (b : GoalBlock) → HasVerdict r.history g b → IsShown c sig g b → HasInv r b → IsExcluded c sig r g b → (¬ HasBounds r g b)
    → IsFirstKind (GoalMeets c sig r g b) kinds.Bound
bound_first c sig r g b verdict shown has excluded wrong = record {
  fails = λ meets. wrong (meets.bound refl);
  before = λ q less. record {
    verdict = λ _. verdict;
    trace = λ _. shown;
    inv = λ _. has;
    excludes = λ _. excluded;
    bound = λ is. absurd (never q kinds.Bound kinds.Bound is less (omega arith));
  };
}

pub goal_met : (c : Parts) (sig : List ℕ) (r : Report) (g : ℕ) (b : GoalBlock) → HasVerdict r.history g b → IsShown c sig g b → HasInv r b → IsExcluded c sig r g b → HasBounds r g b
    → (kind : CheckKind) → GoalMeets c sig r g b kind
goal_met c sig r g b verdict shown has excluded bounds kind = record {
  verdict = λ _. verdict;
  trace = λ _. shown;
  inv = λ _. has;
  excludes = λ _. excluded;
  bound = λ _. bounds;
}

-- ---- the queries
pub spent_query_first : (c : Parts) (sig : List ℕ) (r : Report) (k : ℕ) (b : Block) → (¬ IsSpentQuery c sig r k b) → IsFirstKind (SpentMeets c sig r k b) kinds.Query
spent_query_first c sig r k b wrong = record {
  fails = λ meets. wrong (meets.query refl);
  before = λ q less. record { query = λ is. absurd (never q kinds.Query kinds.Query is less (omega arith)); proof = λ is. absurd (never q kinds.Proof kinds.Query is less (omega arith)) };
}

pub spent_proof_first : (c : Parts) (sig : List ℕ) (r : Report) (k : ℕ) (b : Block) → IsSpentQuery c sig r k b → (¬ IsSpent c sig r b) → IsFirstKind (SpentMeets c sig r k b) kinds.Proof
spent_proof_first c sig r k b query wrong = record {
  fails = λ meets. wrong (meets.proof refl);
  before = λ q less. record { query = λ _. query; proof = λ is. absurd (never q kinds.Proof kinds.Proof is less (omega arith)) };
}

pub spent_met : (c : Parts) (sig : List ℕ) (r : Report) (k : ℕ) (b : Block) → IsSpentQuery c sig r k b → IsSpent c sig r b → (kind : CheckKind) → SpentMeets c sig r k b kind
spent_met c sig r k b query proof kind = record { query = λ _. query; proof = λ _. proof }

pub refute_query_first : (c : Parts) (sig : List ℕ) (r : Report) (k : ℕ) (b : Block) → (¬ IsRefuteQuery r k b) → IsFirstKind (RefuteMeets c sig r k b) kinds.Query
refute_query_first c sig r k b wrong = record {
  fails = λ meets. wrong (meets.query refl);
  before = λ q less. record { query = λ is. absurd (never q kinds.Query kinds.Query is less (omega arith)); proof = λ is. absurd (never q kinds.Proof kinds.Query is less (omega arith)) };
}

pub refute_proof_first : (c : Parts) (sig : List ℕ) (r : Report) (k : ℕ) (b : Block) → IsRefuteQuery r k b → (¬ IsRefuted c sig r b) → IsFirstKind (RefuteMeets c sig r k b) kinds.Proof
refute_proof_first c sig r k b query wrong = record {
  fails = λ meets. wrong (meets.proof refl);
  before = λ q less. record { query = λ _. query; proof = λ is. absurd (never q kinds.Proof kinds.Proof is less (omega arith)) };
}

pub refute_met : (c : Parts) (sig : List ℕ) (r : Report) (k : ℕ) (b : Block) → IsRefuteQuery r k b → IsRefuted c sig r b → (kind : CheckKind) → RefuteMeets c sig r k b kind
refute_met c sig r k b query proof kind = record { query = λ _. query; proof = λ _. proof }

-- ---- the refuted queries as a section
pub refute_in : (c : Parts) (sig : List ℕ) (r : Report) (place : ℕ) (b : Block) (kind : CheckKind) → slice_get r.refutes place ≡ Some b
    → ((k : ℕ) (a : Block) → k < place → slice_get r.refutes k ≡ Some a → (q : CheckKind) → RefuteMeets c sig r k a q) → IsFirstKind (RefuteMeets c sig r place b) kind
    → IsFirstIn (RefutesMeet c sig r) place kind
refute_in c sig r place b kind at below first = record {
  fails = λ meets. first.fails (meets.each b at);
  places = λ k q less. record {
    each = λ a here. below k a less here q;
    missing = λ end. absurd (omega (arith, end, less, slice_get_within r.refutes place b at));
  };
  before = λ q less. record {
    each = λ a here. subst (λ (x : Block). RefuteMeets c sig r place x q) (same_Some b a (sym at ∙ here)) (first.before q less);
    missing = λ end. absurd (omega (arith, end, slice_get_within r.refutes place b at));
  };
}

pub missing_first : (c : Parts) (sig : List ℕ) (r : Report) → ((k : ℕ) (b : Block) → slice_get r.refutes k ≡ Some b → (q : CheckKind) → RefuteMeets c sig r k b q)
    → (¬ (r.options.proofs ≡ true → HasOpen r → AreAllTold r)) → IsFirstIn (RefutesMeet c sig r) (length r.refutes) kinds.Missing
missing_first c sig r each wrong = record {
  fails = λ meets. wrong (meets.missing refl refl);
  places = λ k q less. record { each = λ a here. each k a here q; missing = λ end. absurd (omega (arith, end, less)) };
  before = λ q less. record {
    each = λ a here. each (length r.refutes) a here q;
    missing = λ end is. absurd (never q kinds.Missing kinds.Missing is less (omega arith));
  };
}

pub refutes_met : (c : Parts) (sig : List ℕ) (r : Report) → ((k : ℕ) (b : Block) → slice_get r.refutes k ≡ Some b → (q : CheckKind) → RefuteMeets c sig r k b q)
    → (r.options.proofs ≡ true → HasOpen r → AreAllTold r) → (at : ℕ) (kind : CheckKind) → RefutesMeet c sig r at kind
refutes_met c sig r each told at kind = record { each = λ b here. each at b here kind; missing = λ _ _ proofs left. told proofs left }

-- ---- the goals as a section
pub goal_in : (c : Parts) (sig : List ℕ) (r : Report) (place : ℕ) (b : GoalBlock) (kind : CheckKind) → length r.goals ≡ 2 ^ length sig → slice_get r.goals place ≡ Some b
    → ((k : ℕ) (a : GoalBlock) → k < place → slice_get r.goals k ≡ Some a → (q : CheckKind) → GoalMeets c sig r k a q) → IsFirstKind (GoalMeets c sig r place b) kind
    → IsFirstIn (GoalsMeet c sig r) place kind
goal_in c sig r place b kind count at below first = record {
  fails = λ meets. first.fails (meets.each b at);
  places = λ k q less. record { count = λ _ _. count; each = λ a here. below k a less here q };
  before = λ q less. record { count = λ _ _. count; each = λ a here. subst (λ (x : GoalBlock). GoalMeets c sig r place x q) (same_Some b a (sym at ∙ here)) (first.before q less) };
}

pub goals_met : (c : Parts) (sig : List ℕ) (r : Report) → length r.goals ≡ 2 ^ length sig → ((k : ℕ) (b : GoalBlock) → slice_get r.goals k ≡ Some b → (q : CheckKind) → GoalMeets c sig r k b q)
    → (at : ℕ) (kind : CheckKind) → GoalsMeet c sig r at kind
goals_met c sig r count each at kind = record { count = λ _ _. count; each = λ b here. each at b here kind }
