use Rattle.std.proofs.Common.{◌≡◌, ℕ, ◌+◌, ◌*◌, pos, Some, get_or, ap, sym, ◌∙◌, subst, inl, inr}
use Rattle.std.specs.List.{slice_get}
use Rattle.std.specs.Ordering.{int_eq}
use Rattle.std.proofs.lemmas.Bool.{both_ways}
use Rattle.std.proofs.lemmas.Bool.Decides.{Decides-int_eq}
use Rattle.std.proofs.lemmas.Option.{get_or_from_slice_get}
use Rattle.sat_watch.specs.Links.{watch_lits}
use Rattle.sat_watch.proofs.Lists.{lit_within}
use Rattle.sat_watch.proofs.Pairs.{by_parity, lit_read}
use Rattle.sat_watch.proofs.watch_lists.watch_of.Goals as goal

pub returns-else-eq-clause-lit : goal.returns-else-eq-clause-lit
returns-else-eq-clause-lit c =
    let watches = c.args.watches.now in
    let lit = c.args.lit in
    let first = 2 * c.args.place in
    let there = c.requires.there in
    let P : ℕ → Type 0 = λ n. slice_get (watch_lits watches) n ≡ Some lit in
    elim (by_parity there.0) [
      | inl e ↦ (let at : P first = subst P (e.0 ∙ ap (λ n. 2 * n) there.1) there.2 in
          let read : (get_or watches first c.index-watches-first.result).lit ≡ lit = sym (lit_read watches first c.index-watches-first.result (lit_within watches first lit at)) ∙ get_or_from_slice_get (watch_lits watches) first lit (pos 0) at in
          absurd (both_ways (int_eq (get_or watches first c.index-watches-first.result).lit lit) (sym c.eq.ensures ∙ c.if-eq.false) ((Decides-int_eq (get_or watches first c.index-watches-first.result).lit lit).1 read)))
      | inr e ↦ subst P (e.0 ∙ ap (λ n. 2 * n + 1) there.1) there.2
    ]
