use Rattle.std.proofs.Common.{arith, ℕ, List, map, take, get_or, subst, sym, ap, ◌∙◌}
use Rattle.std.proofs.lemmas.List.{take_more}
use Rattle.lrat_check.specs.StoredClauses.{IsRising, revived, revived_by}
use Rattle.lrat_check.specs.declared.store.Entry.{Entry}
use Rattle.lrat_check.proofs.LiveClauses.{IsRising-revived, revived_by-push, revived_by-nil}
use Rattle.lrat_check.proofs.store.revive_all.Goals as goal

pub loop-id-init : goal.loop-id-init
loop-id-init c = record { rising = c.requires; so_far = sym (revived_by-nil c.args.entries.now) }

pub loop-id-preserved : goal.loop-id-preserved
loop-id-preserved c =
    let id : ℕ = get_or c.args.ids.now c.loop-id.id-index 0 in
    let ids : List ℕ = take c.loop-id.id-index c.args.ids.now in
    let P : List Entry → Type 0 = IsRising in
    record {
      rising = subst P (sym c.revive.ensures) (IsRising-revived id c.loop-id.entries c.loop-id.invariant.rising);
      so_far = c.revive.ensures
          ∙ ap (map (revived id)) c.loop-id.invariant.so_far
          ∙ revived_by-push ids id c.args.entries.now
          ∙ ap (λ (x : List ℕ). map (revived_by x) c.args.entries.now) (sym (take_more c.args.ids.now c.loop-id.id-index 0 (omega arith)));
    }
