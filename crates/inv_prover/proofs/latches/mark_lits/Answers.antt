use Rattle.std.proofs.Common.{ℕ, ◌<◌, length, take, sym, ◌∙◌, subst, inl, inr, arith, Contains}
use Rattle.std.proofs.lemmas.List.Elements.{All-more, All-weaker, Contains-get_or}
use Rattle.aig_model.specs.Literal.{var}
use Rattle.inv_prover.specs.Dependents.{Marked}
use Rattle.inv_prover.proofs.latches.mark_lits.Goals as goal

pub mark-requires : goal.mark-requires
mark-requires c =
    let old = c.args.marks.now in
    let x = c.lit-item.result in
    let bound : var x < length old = subst (λ (v : ℕ). var v < length old) (sym c.lit-item.is) (c.requires c.loop-lit.lit-index x (omega arith)) in
    omega (arith, bound, c.loop-lit.invariant.0)

pub loop-lit-preserved : goal.loop-lit-preserved
loop-lit-preserved c =
    let lits = c.args.lits.now in
    let i = c.loop-lit.lit-index in
    let x = c.lit-item.result in
    let new = c.mark.new.marks in
    let inside : i < length lits = omega arith in
    let here : Contains lits x = subst (Contains lits) (sym c.lit-item.is) (Contains-get_or lits i x inside) in (
      c.mark.ensures.more.size ∙ c.loop-lit.invariant.0,
      All-more (Marked new) lits i x inside
          (All-weaker (Marked c.loop-lit.marks) (Marked new) (λ lit marked. c.mark.ensures.more.keeps lit marked) (take i lits) c.loop-lit.invariant.1)
          (subst (Marked new) c.lit-item.is c.mark.ensures.marked),
      λ other h. elim (c.mark.ensures.only other h) [
        | inl before ↦ c.loop-lit.invariant.2 other before
        | inr same ↦ inr (x, here, same)
      ],
    )
