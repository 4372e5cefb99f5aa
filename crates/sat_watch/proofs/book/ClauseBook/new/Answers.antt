use Rattle.std.proofs.Common.{◌≡◌, ◌+◌, ◌*◌, true, ℕ, ℤ, Option, None, List, [], length, replicate, ap, sym, ◌∙◌, subst, arith}
use Rattle.sat_watch.specs.declared.links.Watch.{Watch}
use Rattle.sat_watch.specs.Kept.{IsKept}
use Rattle.sat_watch.proofs.Invariant.{IsKept-new}
use Rattle.sat_watch.proofs.book.ClauseBook.new.Goals as goal

pub invariant_of-result : goal.invariant_of-result
invariant_of-result c =
    let heads = c.in_ok-heads.heads.items in
    let seen = c.in_ok-seen.seen.items in
    let blank : Option ℕ → List (Option ℕ) = λ link. replicate (2 * c.args.vars + 2) link in
    let heads_are : heads ≡ replicate (2 * c.args.vars + 2) None = c.in_ok-heads.ensures.items_if_clones_equal (λ y e. e) ∙ ap blank c.none.ensures in
    let room : length seen ≡ c.args.vars = omega (arith, c.in_ok-seen.ensures.len, c.in_ok-seen.seen.ok) in
    let P : List (List ℤ) → Type 0 = λ cs. IsKept (record { vars = c.args.vars; clauses = cs; seen = [] }) heads c.new-3.result.items seen 0 0 true in
    let Q : List Watch → Type 0 = λ ws. IsKept (record { vars = c.args.vars; clauses = []; seen = [] }) heads ws seen 0 0 true in
    subst P (sym c.new-2.ensures) (subst Q (sym c.new-3.ensures.items) (IsKept-new c.args.vars heads seen c.requires heads_are room))
