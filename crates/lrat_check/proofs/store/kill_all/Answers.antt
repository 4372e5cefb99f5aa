use Rattle.std.proofs.Common.{arith, ◌≡◌, ◌+◌, ◌∷◌, ◌++◌, [], ℕ, true, List, map, take, drop, get_or, Some, refl, subst, sym, ap, ◌∙◌}
use Rattle.std.proofs.lemmas.Bool.{cond-true}
use Rattle.std.proofs.lemmas.List.{take_more, drop_more}
use Rattle.lrat_check.specs.StoredClauses.{IsRising, is_alive, killed, killed_all, first_dead, revived_by}
use Rattle.lrat_check.specs.declared.store.Entry.{Entry}
use Rattle.lrat_check.proofs.LiveClauses.{IsRising-killed, killed-dead, revived_by-killed, revived_by-nil}
use Rattle.lrat_check.proofs.store.kill_all.Goals as goal

pub loop-place-init : goal.loop-place-init
loop-place-init c = record { rising = c.requires; rest = refl; dead = refl; back = revived_by-nil c.args.entries.now }

pub revive_all-requires : goal.revive_all-requires
revive_all-requires c =
    let P : List Entry → Type 0 = IsRising in
    subst P (sym c.if-not-kill.ensures.after) (IsRising-killed (get_or c.args.ids.now c.loop-place.place 0) c.loop-place.entries c.loop-place.invariant.rising)

pub returns-then-not-kill-clause-err : goal.returns-then-not-kill-clause-err
returns-then-not-kill-clause-err c =
    let ids : List ℕ = take c.loop-place.place c.args.ids.now in
    c.revive_all.ensures
    ∙ ap (map (revived_by ids)) (c.if-not-kill.ensures.after ∙ killed-dead (get_or c.args.ids.now c.loop-place.place 0) c.loop-place.entries (sym c.if-not-kill.ensures.was))
    ∙ c.loop-place.invariant.back

pub loop-place-preserved : goal.loop-place-preserved
loop-place-preserved c =
    let i : ℕ = c.loop-place.place in
    let id : ℕ = get_or c.args.ids.now i 0 in
    let P : List Entry → Type 0 = IsRising in
    let alive : is_alive c.loop-place.entries id ≡ true = sym c.if-not-kill.ensures.was in
    record {
      rising = subst P (sym c.if-not-kill.ensures.after) (IsRising-killed id c.loop-place.entries c.loop-place.invariant.rising);
      rest = ap (λ (es : List Entry). killed_all es (drop (i + 1) c.args.ids.now)) c.if-not-kill.ensures.after
          ∙ ap (killed_all c.loop-place.entries) (sym (drop_more c.args.ids.now i 0 (omega arith)))
          ∙ c.loop-place.invariant.rest;
      dead = ap (λ (es : List Entry). first_dead es (drop (i + 1) c.args.ids.now)) c.if-not-kill.ensures.after
          ∙ sym (cond-true (is_alive c.loop-place.entries id) (first_dead (map (killed id) c.loop-place.entries) (drop (i + 1) c.args.ids.now)) (Some id) alive)
          ∙ ap (first_dead c.loop-place.entries) (sym (drop_more c.args.ids.now i 0 (omega arith)))
          ∙ c.loop-place.invariant.dead;
      back = ap (λ (x : List ℕ). map (revived_by x) c.kill.new.entries) (take_more c.args.ids.now i 0 (omega arith))
          ∙ ap (map (revived_by (take i c.args.ids.now ++ id ∷ []))) c.if-not-kill.ensures.after
          ∙ revived_by-killed (take i c.args.ids.now) id c.loop-place.entries c.loop-place.invariant.rising alive
          ∙ c.loop-place.invariant.back;
    }
