use Rattle.std.proofs.Common.{◌++◌, ◌+◌, ℕ, ℤ, List, length, true, refl, ap, ◌∙◌}
use Rattle.lrat_text.specs.Standing.{Standing, with_clause}
use Rattle.lrat_check.specs.StoredClauses.{live_of}
use Rattle.lrat_check.specs.declared.store.Entry.{Entry}
use Rattle.lrat_check.proofs.StoreOrder.{live_of-push}
use Rattle.lrat_check.proofs.store.Store.push.Goals as goal

pub returns-clause-ok : goal.returns-clause-ok
returns-clause-ok c =
    let arena : List ℤ = c.self.inside.arena.items in
    let es : List Entry = c.self.inside.entries.items in
    let e : Entry = record { id = c.args.id; start = length arena; end = length arena + length c.args.lits.now; alive = true } in
    ap (λ (live : List (ℕ × List ℤ)). let s : Standing = record { live = live; greatest = c.args.id } in s)
    (ap (λ (a : List ℤ). live_of a c.append.new.entries.items) c.in_ok-append.ensures.arena
    ∙ ap (live_of (arena ++ c.args.lits.now)) c.in_ok-append.ensures.entries
    ∙ live_of-push arena c.args.lits.now es e c.self.invariant.inside refl refl refl)
    ∙ ap (λ (s : Standing). with_clause s c.args.id c.args.lits.now) c.self.view_is
