use Rattle.std.proofs.Common.{subst, arith}
use Rattle.inv_prover.specs.Answers.{IsGrown, IsWhole}
use Rattle.inv_prover.specs.declared.grown.Grown.{Grown}
use Rattle.inv_prover.proofs.Parts.{fewer}
use Rattle.run_report.proofs.Asking.{kept_within, whole_is_inv}
use Rattle.run_report.proofs.proving.prove.Goals as goal

pub ask_all-requires-clause-few_clauses : goal.ask_all-requires-clause-few_clauses
ask_all-requires-clause-few_clauses c =
    let whole : IsWhole c.args.circuit.now c.in_ok-tried.tried c.args.options.now.lemmas c.in-Whole.clauses c.in-Whole.kept =
    subst (λ (g : Grown). IsGrown c.args.circuit.now c.in_ok-tried.tried c.args.options.now.lemmas g) c.in-Whole.is c.in_ok-clauses.ensures in
    omega (arith, fewer c.in-Whole.clauses c.in_ok-tried.tried whole.greatest.part, c.in_ok-tried.ensures.few)

pub returns-in-Whole : goal.returns-in-Whole
returns-in-Whole c =
    let whole : IsWhole c.args.circuit.now c.in_ok-tried.tried c.args.options.now.lemmas c.in-Whole.clauses c.in-Whole.kept =
    subst (λ (g : Grown). IsGrown c.args.circuit.now c.in_ok-tried.tried c.args.options.now.lemmas g) c.in-Whole.is c.in_ok-clauses.ensures in (
      whole_is_inv c.args.circuit.now c.args.signals.now.lits c.args.options.now.strength c.args.options.now.lemmas c.in_ok-tried.tried c.in-Whole.clauses c.in-Whole.kept c.in_ok-tried.ensures.candidates whole,
      c.in_ok-findings-in-Whole.ensures,
      kept_within c.args.circuit.now c.in-Whole.clauses c.args.options.now.lemmas c.in-Whole.kept whole.proved,
    )
