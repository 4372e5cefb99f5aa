use Rattle.std.proofs.Common.{ℕ, ℤ, Option, List, [], ◌∷◌, ◌++◌, length, take, ap, sym, ◌∙◌, subst, arith}
use Rattle.std.proofs.lemmas.List.{with_items_is}
use Rattle.sat_watch.specs.Book.{BookState, IsBookClause}
use Rattle.sat_watch.specs.Kept.{IsPair, IsKept}
use Rattle.sat_watch.proofs.Invariant.{IsKept-add}
use Rattle.sat_watch.proofs.book.ClauseBook.add.Goals as goal

pub invariant_of-self-2 : goal.invariant_of-self-2
invariant_of-self-2 c =
    let s = c.self.inside in
    let b : BookState = record { vars = s.vars; clauses = s.clauses; seen = take s.count s.seen.items } in
    let lits = c.args.lits.now in
    let heads = c.append_watched.new.heads in
    let watches = c.append_watched.new.watches.items in
    let done = c.in_ok-append_watched.ensures in
    let heads_same = with_items_is s.heads heads (omega (arith, c.append_watched.auto.heads, c.deref_mut.ensures.len)) in
    let V : BookState → Type 0 = λ x. IsBookClause x.vars lits in
    let P : List ℤ → Type 0 = λ ls. IsPair ls done.pair.0 done.pair.1 in
    let H : List (Option ℕ) → Type 0 = λ hs. IsKept (record { vars = s.vars; clauses = c.append_watched.new.clauses; seen = b.seen }) hs watches s.seen.items s.count s.watched_count s.quiet in
    let C : List (List ℤ) → Type 0 = λ cs. IsKept (record { vars = s.vars; clauses = cs; seen = b.seen }) heads watches s.seen.items s.count s.watched_count s.quiet in
    subst H (sym heads_same) (subst C (sym (done.clauses ∙ ap (λ ls. s.clauses ++ ls ∷ []) c.as_slice.ensures))
    (IsKept-add b s.heads.items heads s.watches.items watches s.seen.items s.count s.watched_count s.quiet lits done.pair.0 done.pair.1
    c.self.invariant (subst V (sym c.self.view_is) c.requires.clause) (subst P c.as_slice.ensures done.pair.3) done.pair.2 done.linked
    (c.append_watched.auto.heads ∙ ap length c.deref_mut.ensures.value) done.few))
