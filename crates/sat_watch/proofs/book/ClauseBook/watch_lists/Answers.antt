use Rattle.std.proofs.Common.{ℕ, Option, List, take, ap, sym, ◌∙◌, subst}
use Rattle.sat_watch.specs.declared.links.Watch.{Watch}
use Rattle.sat_watch.specs.Book.{BookState}
use Rattle.sat_watch.specs.Lists.{WatchState, AreLists, AreListsOf}
use Rattle.sat_watch.proofs.ListedClauses.{lists_kept, lists_of}
use Rattle.sat_watch.proofs.book.ClauseBook.watch_lists.Goals as goal

pub new-requires : goal.new-requires
new-requires c =
    let s = c.self.inside in
    let b : BookState = record { vars = s.vars; clauses = s.clauses; seen = take s.count s.seen.items } in
    let kept = c.self.invariant in
    let H : List (Option ℕ) → Type 0 = λ hs. AreLists (record { vars = s.vars; heads = hs; watches = c.deref-2.result.now }) in
    let W : List Watch → Type 0 = λ ws. AreLists (record { vars = s.vars; heads = s.heads.items; watches = ws }) in
    subst H (sym c.deref.ensures.value) (subst W (sym c.deref-2.ensures.value) (lists_kept b s.heads.items s.watches.items kept.sizes kept.linked kept.pairs))

pub returns : goal.returns
returns c =
    let s = c.self.inside in
    let b : BookState = record { vars = s.vars; clauses = s.clauses; seen = take s.count s.seen.items } in
    let kept = c.self.invariant in
    let of : List (Option ℕ) → List Watch → WatchState = λ hs ws. record { vars = s.vars; heads = hs; watches = ws } in
    let is = c.new.ensures ∙ ap (λ hs. of hs c.deref-2.result.now) c.deref.ensures.value ∙ ap (of s.heads.items) c.deref-2.ensures.value in
    let B : BookState → Type 0 = λ x. AreListsOf x c.new.result in
    let S : WatchState → Type 0 = λ st. AreListsOf b st in
    subst B c.self.view_is (subst S (sym is) (lists_of b s.heads.items s.watches.items kept.sizes kept.pairs))
