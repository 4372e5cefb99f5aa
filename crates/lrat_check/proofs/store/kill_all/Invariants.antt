use Rattle.std.proofs.Common.{◌≡◌, map, take, drop}
use Rattle.lrat_check.specs.StoredClauses.{IsRising, killed_all, first_dead, revived_by}
use Rattle.lrat_check.proofs.store.kill_all.Given as goal

-- the ids so far are killed, each was alive at its turn, and reviving them leads back
abbrev pub invariant-loop-place : goal.invariant-loop-place
invariant-loop-place l =
    record {
      rising : IsRising l.entries;
      rest : killed_all l.entries (drop l.place l.ids) ≡ killed_all l.fn.entries l.ids;
      dead : first_dead l.entries (drop l.place l.ids) ≡ first_dead l.fn.entries l.ids;
      back : map (revived_by (take l.place l.ids)) l.entries ≡ l.fn.entries;
    }
