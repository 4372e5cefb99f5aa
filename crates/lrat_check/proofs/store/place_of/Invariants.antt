use Rattle.std.proofs.Common.{ℕ, ◌<◌, ◌≤◌, ◌-◌, length, get_or}
use Rattle.lrat_check.specs.declared.store.Entry.{Entry}
use Rattle.lrat_check.proofs.store.place_of.Given as goal

-- the ids before low are below the id, and those from high on are above it
abbrev pub invariant-loop-low : goal.invariant-loop-low
invariant-loop-low l =
    record {
      within : l.high ≤ length l.entries;
      below : (k : ℕ) (d : Entry) → k < l.low → (get_or l.entries k d).id < l.id;
      above : (k : ℕ) (d : Entry) → l.high ≤ k → k < length l.entries → l.id < (get_or l.entries k d).id;
    }

abbrev pub decreases-loop-low : goal.decreases-loop-low
decreases-loop-low l = l.high - l.low
