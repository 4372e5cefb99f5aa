use Rattle.std.proofs.Common.{◌≡◌, ℕ, ◌+◌, ◌<◌, length, get_or}
use Rattle.sat_queue.proofs.links.links_backward.Given as goal

-- the links so far are written, and that of 0 stays
abbrev pub invariant-loop-var : goal.invariant-loop-var
invariant-loop-var l =
    record {
      room : length l.prev.items ≡ l.vars + 1;
      each : (v : ℕ) → v < l.var → get_or l.prev.items (v + 1) 0 ≡ v;
      last : get_or l.prev.items 0 0 ≡ l.vars;
    }
