use Rattle.std.proofs.Common.{◌≡◌, ℕ, ◌≤◌, true, false, ℤ, take, get_or}
use Rattle.sat_learn.specs.Resolving.{with_marks}
use Rattle.cnf_base.specs.Status.{has}
use Rattle.sat_learn.specs.Tracking.{IsEarlier, IsTracked}
use Rattle.sat_learn.proofs.analysis.note_all.Given as goal

-- the variables so far are marked
abbrev pub invariant-loop-lit : goal.invariant-loop-lit
invariant-loop-lit l =
    record {
      tracked : IsTracked l.trail l.marks l.analysis.kept.items l.analysis.root_lits.items l.analysis.open_count;
      marked : (v : ℕ) → get_or l.marks v false ≡ with_marks (take l.lit-index l.clause) l.initial.marks v;
      hints : l.analysis.hints ≡ l.initial.analysis.hints;
      count : l.initial.analysis.open_count ≤ l.analysis.open_count;
      stays : ((x : ℤ) → has l.clause x ≡ true → IsEarlier l.trail l.initial.marks x) → l.analysis.open_count ≡ l.initial.analysis.open_count;
    }
