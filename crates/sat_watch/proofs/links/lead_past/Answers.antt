use Rattle.std.proofs.Common.{◌≡◌, ℕ, Option, set, get_or, refl, ap, sym, ◌∙◌, subst}
use Rattle.std.proofs.lemmas.Option.{get_or_from_slice_get}
use Rattle.sat_watch.specs.declared.links.Watch.{Watch}
use Rattle.sat_watch.specs.Links.{LeadsPast}
use Rattle.cnf_base.specs.Literal.{lit_index}
use Rattle.sat_watch.proofs.Moves.{previous_within}
use Rattle.sat_watch.proofs.links.lead_past.Goals as goal

pub bounds-watches-before : goal.bounds-watches-before
bounds-watches-before c =
    previous_within c.args.heads.now c.args.watches.now c.args.previous c.args.watch c.in-Some.before c.requires.linked c.requires.stands c.in-Some.is

pub bounds-watches-before-in-Some : goal.bounds-watches-before-in-Some
bounds-watches-before-in-Some c =
    previous_within c.args.heads.now c.args.watches.now c.args.previous c.args.watch c.in-Some.before c.requires.linked c.requires.stands c.in-Some.is

pub returns-in-None : goal.returns-in-None
returns-in-None c x here =
    let heads = c.args.heads.now in
    let watches = c.args.watches.now in
    let r = c.index-watches-watch.result in
    let P : Option ℕ → Type 0 = λ o. LeadsPast heads watches x o (set heads c.index.result (get_or watches c.args.watch r).next) watches in
    let read = get_or_from_slice_get watches c.args.watch x r here in
    let index_is : c.index.result ≡ lit_index x.lit = c.index.ensures.place ∙ ap (λ (z : Watch). lit_index z.lit) (get_or_from_slice_get watches c.args.watch x c.index-watches-watch-in-None.result here) in
    subst P (sym c.in-None.is) (ap (λ n. set heads n (get_or watches c.args.watch r).next) index_is ∙ ap (λ (z : Watch). set heads (lit_index x.lit) z.next) read, refl)

pub returns-in-Some : goal.returns-in-Some
returns-in-Some c x here =
    let heads = c.args.heads.now in
    let watches = c.args.watches.now in
    let r = c.index-watches-watch.result in
    let z = c.index-watches-before.result in
    let p = c.in-Some.before in
    let z1 : Watch = record { lit = (get_or watches p z).lit; next = (get_or watches c.args.watch r).next; search = (get_or watches p z).search } in
    let P : Option ℕ → Type 0 = λ o. LeadsPast heads watches x o heads (set watches p z1) in
    let read = get_or_from_slice_get watches c.args.watch x r here in
    subst P (sym c.in-Some.is) (refl, λ y there. ap (λ (u : Watch). set watches p (record { lit = u.lit; next = (get_or watches c.args.watch r).next; search = u.search })) (get_or_from_slice_get watches p y z there) ∙ ap (λ (u : Watch). set watches p (record { lit = y.lit; next = u.next; search = y.search })) read)
