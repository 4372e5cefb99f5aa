use Rattle.std.proofs.Common.{◌≡◌, ℕ, ◌+◌, ◌<◌, length, get_or}
use Rattle.sat_queue.proofs.links.links_forward.Given as goal

-- the links so far are written, and the others are 0
abbrev pub invariant-loop-var : goal.invariant-loop-var
invariant-loop-var l =
    record {
      room : length l.next.items ≡ l.vars + 1;
      each : (v : ℕ) → v < l.var → get_or l.next.items v 0 ≡ v + 1;
      rest : get_or l.next.items l.vars 0 ≡ 0;
    }
