use Rattle.std.proofs.Common.{subst, sym, ◌∙◌}
use Rattle.aig_model.specs.SignalList.{SignalList}
use Rattle.aig_model.specs.WellFormed.{IsCircuit}
use Rattle.aig_model.specs.LatchClauses.{IsInvariant}
use Rattle.aig_model.specs.declared.parts.Parts.{Parts}
use Rattle.lrat_text.specs.Accepted.{Accepted}
use Rattle.unroll.specs.Queries.{excludes_formula}
use Rattle.inv_cert.specs.Evidences.{IsEvidence}
use Rattle.inv_cert.specs.declared.evidence.Basis.TheVariants.{Clauses}
use Rattle.inv_cert.proofs.Invariance.{is_invariant, bars}
use Rattle.inv_cert.proofs.evidence.Evidence.of_accepted.Goals as goal

pub invariant_of-result : goal.invariant_of-result
invariant_of-result c =
    let s : SignalList = c.args.signals.now in
    let accepted : Accepted (excludes_formula s.circuit s.lits c.args.cert.base.clauses c.args.goal) c.args.cert.excludes =
    subst (λ (x : Parts). Accepted (excludes_formula x s.lits c.args.cert.base.clauses c.args.goal) c.args.cert.excludes) (sym c.requires.circuit) c.requires.accepted
    in
    let circuit : IsCircuit s.circuit = subst (λ (x : Parts). IsCircuit x) (sym c.requires.circuit) c.is_well_formed.ensures in
    subst (λ (x : SignalList). IsEvidence (record { signals = x; goal = c.args.goal; basis = Clauses c.args.cert })) (sym c.of.ensures) (record {
      below = c.requires.goal;
      basis = record {
        circuit = c.requires.base ∙ sym c.requires.circuit;
        base = c.is_checked.ensures.base;
        accepted = accepted;
        written = c.is_checked.ensures.written;
        bars = bars s.circuit s.lits c.args.cert.base.clauses c.args.goal c.args.cert.excludes circuit c.is_well_formed-2.ensures c.requires.goal
            (subst (λ (x : Parts). IsInvariant x c.args.cert.base.clauses) (c.requires.base ∙ sym c.requires.circuit) (is_invariant c.args.cert.base c.is_checked.ensures.base))
            accepted;
      };
    })
