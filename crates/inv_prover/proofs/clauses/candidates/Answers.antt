use Rattle.std.proofs.Common.{◌≡◌, ◌<◌, ◌^◌, ℤ, List, length, ap, sym, ◌∙◌, subst, All}
use Rattle.aig_model.specs.LatchClauses.{IsLatchClause}
use Rattle.inv_prover.specs.Candidates.{clauses_over}
use Rattle.inv_prover.proofs.ClauseLists.{few_over, latches_over, short_over}
use Rattle.inv_prover.proofs.clauses.candidates.Goals as goal

pub returns-clause-latches : goal.returns-clause-latches
returns-clause-latches c =
    let found = c.in_ok-latches.latches.items in
    let same : c.in_ok-clauses.clauses ≡ clauses_over found c.args.strength = c.in_ok-clauses.ensures ∙ ap (λ ks. clauses_over ks c.args.strength) c.deref.ensures.value in
    subst (λ (xs : List (List ℤ)). All (IsLatchClause c.args.circuit.now) xs) (sym same) (latches_over c.args.circuit.now found c.args.strength c.in_ok-latches.ensures.inside)

pub returns-clause-few : goal.returns-clause-few
returns-clause-few c =
    let found = c.in_ok-latches.latches.items in
    let same : c.in_ok-clauses.clauses ≡ clauses_over found c.args.strength = c.in_ok-clauses.ensures ∙ ap (λ ks. clauses_over ks c.args.strength) c.deref.ensures.value in
    subst (λ (xs : List (List ℤ)). length xs < 2 ^ 32) (sym same) (few_over found c.args.strength c.in_ok-latches.ensures.dependent.few)

pub returns-clause-short : goal.returns-clause-short
returns-clause-short c =
    let found = c.in_ok-latches.latches.items in
    let same : c.in_ok-clauses.clauses ≡ clauses_over found c.args.strength = c.in_ok-clauses.ensures ∙ ap (λ ks. clauses_over ks c.args.strength) c.deref.ensures.value in
    subst (λ (xs : List (List ℤ)). All (λ clause. length clause < 2 ^ 32) xs) (sym same) (short_over c.args.circuit.now found c.args.strength c.in_ok-latches.ensures.inside)
