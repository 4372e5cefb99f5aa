use Rattle.std.proofs.Common.{◌≡◌, ◌∷◌, ◌++◌, List, ap, sym, ◌∙◌, subst}
use Rattle.std.specs.List.{slice_get, Contains}
use Rattle.std.specs.Option.{option_map}
use Rattle.sat_trail.specs.declared.clause_id.ClauseId.{ClauseId}
use Rattle.sat_trail.specs.declared.clause_id.ClauseId.TheVariants as ids
use Rattle.sat_watch.specs.Links.{watchers}
use Rattle.sat_watch.specs.Lists.{WatchState, clause_of, watching}
use Rattle.sat_watch.proofs.ListedClauses.{mapped_from, first_mapped, watch_there, placed}
use Rattle.sat_watch.proofs.Lists.{lit_within}
use Rattle.sat_watch.proofs.watch_lists.WatchLists.next_watch.Goals as goal

pub watch_of-watch-requires-clause-there : goal.watch_of-watch-requires-clause-there
watch_of-watch-requires-clause-there c =
    let s = c.self.inside in
    let state : WatchState = record { vars = s.vars; heads = s.heads.now; watches = s.watches.now } in
    let S : WatchState → Type 0 = λ st. Contains (watching st c.args.lit) (ids.Book c.in-Book.place) in
    let I : ClauseId → Type 0 = λ id. Contains (watching c.args.self.now c.args.lit) id in
    watch_there state c.self.invariant c.args.lit c.in-Book.place (subst S (sym c.self.view_is) (subst I c.in-Book.is c.requires))

pub next_watch-requires : goal.next_watch-requires
next_watch-requires c = lit_within c.self.inside.watches.now c.watch_of-watch.result c.args.lit c.watch_of-watch.ensures.lit

pub unreachable-requires : goal.unreachable-requires
unreachable-requires c =
    let s = c.self.inside in
    let S : WatchState → Type 0 = λ st. Contains (watching st c.args.lit) (ids.Unit c.in-Unit.field-0) in
    let I : ClauseId → Type 0 = λ id. Contains (watching c.args.self.now c.args.lit) id in
    let found = mapped_from (watchers s.heads.now s.watches.now c.args.lit) (ids.Unit c.in-Unit.field-0) (subst S (sym c.self.view_is) (subst I c.in-Unit.is c.requires)) in
    let same : clause_of found.0 ≡ ids.Unit c.in-Unit.field-0 = found.2 in
    cc

pub returns : goal.returns
returns c before after parts =
    let s = c.self.inside in
    let state : WatchState = record { vars = s.vars; heads = s.heads.now; watches = s.watches.now } in
    let whole : watching state c.args.lit ≡ before ++ ids.Book c.in-Book.place ∷ after = ap (λ (st : WatchState). watching st c.args.lit) c.self.view_is ∙ parts ∙ ap (λ (id : ClauseId). before ++ id ∷ after) c.in-Book.is in
    let p = placed state c.self.invariant c.args.lit c.in-Book.place c.watch_of-watch.result before after c.watch_of-watch.ensures.clause c.watch_of-watch.ensures.lit whole in
    c.id_of.ensures
    ∙ ap (option_map clause_of) (c.next_watch.ensures s.heads.now c.args.lit p.front p.back c.self.invariant.linked p.parts)
    ∙ first_mapped p.back
    ∙ ap (λ (rest : List ClauseId). slice_get rest 0) p.back_is
