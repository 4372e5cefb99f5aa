use Rattle.std.proofs.Common.{◌≡◌, ℕ, ◌<◌, ℤ, pos, length, get_or, arith, inl, inr, subst, Contains}
use Rattle.std.proofs.lemmas.Bool.{cases_lt}
use Rattle.std.proofs.lemmas.List.{get_or_default}
use Rattle.std.proofs.lemmas.List.Elements.{All-get_or, Contains-get_or}
use Rattle.aig_model.specs.LatchClauses.{NamesLatch}
use Rattle.inv_cert.specs.Resets.{IsFalsified}
use Rattle.inv_cert.proofs.reset.falsify.Goals as goal

pub loop-lit-preserved : goal.loop-lit-preserved
loop-lit-preserved c =
    let circuit = c.args.circuit.now in
    let clause = c.args.clause.now in
    let n = c.loop-lit.lit-index in
    let inside : n < length clause = omega arith in
    let here : Contains clause (get_or clause n (pos 0)) = Contains-get_or clause n (pos 0) inside in (
      c.falsify_literal.ensures.reset,
      λ i below. elim (cases_lt i n) [
        | inl before ↦ c.falsify_literal.ensures.others clause (get_or clause i (pos 0)) here
            (All-get_or (NamesLatch circuit) clause i (pos 0) (omega (arith, before, inside)) c.requires.latches)
            (c.loop-lit.invariant.1 i before)
        | inr after ↦ subst (λ (k : ℕ). IsFalsified circuit clause c.falsify_literal.new.state (get_or clause k (pos 0))) (let same : n ≡ i = omega (arith, below, after) in same)
            (c.falsify_literal.ensures.falsified clause here)
      ],
    )

pub returns-clause-falsified : goal.returns-clause-falsified
returns-clause-falsified c k d inside =
    subst (λ (x : ℤ). IsFalsified c.args.circuit.now c.args.clause.now c.loop-lit.state x) (get_or_default c.args.clause.now k (pos 0) d inside)
    (c.loop-lit.invariant.1 k (omega (arith, inside)))
