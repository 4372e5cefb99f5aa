use Rattle.std.proofs.Common.{◌≡◌, ℕ, ℤ, List, length, sym, subst, ap, ◌∙◌}
use Rattle.lrat_check.specs.FirstFault.{delete_fault}
use Rattle.lrat_text.specs.Standing.{Standing, with_deleted}
use Rattle.lrat_check.specs.StoredClauses.{live_of, killed_all, IsStore, first_dead}
use Rattle.lrat_check.specs.declared.store.Entry.{Entry}
use Rattle.lrat_check.proofs.LiveClauses.{live_of-killed_all, no_delete_fault, delete_fault-dead}
use Rattle.lrat_check.proofs.StoreOrder.{IsStore-killed_all, lent_back}
use Rattle.lrat_check.proofs.store.Store.remove_all.Goals as goal

pub returns-in-Err-clause-fault : goal.returns-in-Err-clause-fault
returns-in-Err-clause-fault c =
    ap (λ (s : Standing). delete_fault s.live c.args.ids.now) (sym c.self.view_is)
    ∙ delete_fault-dead c.self.inside.arena.items c.self.inside.entries.items c.args.ids.now c.in-Err.id (ap (λ (es : List Entry). first_dead es c.args.ids.now) (sym c.deref_mut.ensures.value) ∙ c.in-Err.ensures.dead)

pub returns-clause-faultless : goal.returns-clause-faultless
returns-clause-faultless c =
    ap (λ (s : Standing). delete_fault s.live c.args.ids.now) (sym c.self.view_is)
    ∙ no_delete_fault c.self.inside.arena.items c.self.inside.entries.items c.args.ids.now (ap (λ (es : List Entry). first_dead es c.args.ids.now) (sym c.deref_mut.ensures.value) ∙ c.in_default.ensures.alive)

pub invariant_of-self-2 : goal.invariant_of-self-2
invariant_of-self-2 c =
    let es : List Entry = c.self.inside.entries.items in
    let was : c.deref_mut.result.now ≡ es = c.deref_mut.ensures.value in
    let killed_is : c.kill_all.new.entries ≡ killed_all es c.args.ids.now = c.in_default.ensures.ok ∙ ap (λ (x : List Entry). killed_all x c.args.ids.now) was in
    let size : length c.kill_all.new.entries ≡ length es = c.kill_all.auto.entries ∙ ap length was in
    let back = lent_back c.self.inside.entries.len c.kill_all.new.entries es size (sym c.deref_mut.ensures.len ∙ ap length was) in
    let P : List Entry → Type 0 = λ x. IsStore c.self.inside.arena.items x c.self.inside.greatest in
    subst P (sym (back ∙ killed_is)) (IsStore-killed_all c.self.inside.arena.items es c.self.inside.greatest c.args.ids.now c.self.invariant)

pub returns-clause-ok : goal.returns-clause-ok
returns-clause-ok c =
    let es : List Entry = c.self.inside.entries.items in
    let was : c.deref_mut.result.now ≡ es = c.deref_mut.ensures.value in
    let killed_is : c.kill_all.new.entries ≡ killed_all es c.args.ids.now = c.in_default.ensures.ok ∙ ap (λ (x : List Entry). killed_all x c.args.ids.now) was in
    let size : length c.kill_all.new.entries ≡ length es = c.kill_all.auto.entries ∙ ap length was in
    let back = lent_back c.self.inside.entries.len c.kill_all.new.entries es size (sym c.deref_mut.ensures.len ∙ ap length was) in
    ap (λ (x : List Entry). let s : Standing = record { live = live_of c.self.inside.arena.items x; greatest = c.self.inside.greatest } in s) (back ∙ killed_is)
    ∙ ap (λ (live : List (ℕ × List ℤ)). let s : Standing = record { live = live; greatest = c.self.inside.greatest } in s) (live_of-killed_all c.self.inside.arena.items es c.args.ids.now)
    ∙ ap (λ (s : Standing). with_deleted s c.args.ids.now) c.self.view_is
