use Rattle.std.proofs.Common.{◌≡◌, map, take}
use Rattle.lrat_check.specs.StoredClauses.{IsRising, revived_by}
use Rattle.lrat_check.proofs.store.revive_all.Given as goal

-- the ids so far are revived
abbrev pub invariant-loop-id : goal.invariant-loop-id
invariant-loop-id l =
    record {
      rising : IsRising l.entries;
      so_far : l.entries ≡ map (revived_by (take l.id-index l.ids)) l.fn.entries;
    }
