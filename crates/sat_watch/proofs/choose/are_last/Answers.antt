use Rattle.std.proofs.Common.{◌≡◌, true, ℤ, List, take, sym, ◌∙◌, subst, inl, inr}
use Rattle.std.specs.Ordering.{int_eq}
use Rattle.std.proofs.lemmas.Bool.{not-false}
use Rattle.std.proofs.lemmas.Bool.Decides.{Decides-int_eq}
use Rattle.cnf_base.specs.Status.{has}
use Rattle.sat_watch.specs.Watching.{Lasts}
use Rattle.sat_watch.proofs.Start.{in_vars}
use Rattle.sat_watch.proofs.Status.{in_push, more_seen}
use Rattle.sat_watch.proofs.choose.are_last.Goals.{else-ne-via-then-ne+else-not-lasts-2, else-ne-via-else-ne}
use Rattle.sat_watch.proofs.choose.are_last.Goals as goal

pub lasts-requires-clause-first : goal.lasts-requires-clause-first
lasts-requires-clause-first c = in_vars c.args.trail.now.vars c.args.clause.now c.args.first c.requires.clause c.requires.pair.first_in

pub lasts-requires-clause-second : goal.lasts-requires-clause-second
lasts-requires-clause-second c = in_vars c.args.trail.now.vars c.args.clause.now c.args.second c.requires.clause c.requires.pair.second_in

pub lasts-requires-then-ne-clause-first : goal.lasts-requires-then-ne-clause-first
lasts-requires-then-ne-clause-first c = in_vars c.args.trail.now.vars c.args.clause.now c.args.second c.requires.clause c.requires.pair.second_in

pub loop-lit-preserved : goal.loop-lit-preserved
loop-lit-preserved c m there apart =
    let clause = c.args.clause.now in
    let i = c.loop-lit.lit-index in
    let lit = c.lit-item.result in
    let P : List ℤ → Type 0 = λ ls. has ls m ≡ true in
    let Q : ℤ → Type 0 = λ x. Lasts c.args.trail.now.assignments c.args.second x in
    elim (in_push (take i clause) lit m (subst P (more_seen clause i lit c.loop-lit-test.true c.lit-item.is) there)) [
      | inl before ↦ c.loop-lit.invariant m before apart
      | inr same ↦ elim c.else-ne.branch [
        | else-ne-via-then-ne+else-not-lasts-2 w ↦ subst Q same w.if-not-lasts-2.ensures
        | else-ne-via-else-ne w ↦ (let equal : int_eq lit c.args.first ≡ true = not-false (int_eq lit c.args.first) (sym c.ne.ensures ∙ w.if-ne.false) in
            absurd (apart (sym same ∙ (Decides-int_eq lit c.args.first).0 equal)))
      ]
    ]
