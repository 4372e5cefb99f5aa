-- The clauses of a kept set are an invariant, and those of a certificate exclude their goal.
use Rattle.std.proofs.Common.{ℕ, ◌^◌, ◌<◌, ℤ, List, [], length, get_or}
use Rattle.std.proofs.lemmas.List.Elements.{All-get_or, All-from_get_or}
use Rattle.aig_model.specs.Meaning.{next_values}
use Rattle.aig_model.specs.SignalList.{IsSignals}
use Rattle.aig_model.specs.WellFormed.{IsCircuit}
use Rattle.aig_model.specs.declared.parts.Parts.{Parts}
use Rattle.aig_model.specs.LatchClauses.{IsInvariant, Bars, SatisfiesClause}
use Rattle.lrat_check.proofs.Refutation.{accepted_refutes}
use Rattle.lrat_text.specs.Accepted.{Accepted}
use Rattle.lrat_text.specs.declared.proof.LratStep.{LratStep}
use Rattle.unroll.specs.Queries.{kept_formula, excludes_formula}
use Rattle.unroll.proofs.CertMeaning.{kept_is_refuted_lem, excluded_is_refuted_lem}
use Rattle.inv_cert.specs.Resets.{HoldsAtReset}
use Rattle.inv_cert.specs.KeptSets.{KeptClauses, IsKeptSet}

pub is_invariant : (s : KeptClauses) → IsKeptSet s → IsInvariant s.circuit s.clauses
is_invariant s h = record {
  start = λ state reset. All-from_get_or (SatisfiesClause state) s.clauses [] (λ k inside. All-get_or (HoldsAtReset s.circuit) s.clauses k [] inside h.starts state reset);
  kept = λ a fits legal satisfied. All-from_get_or (SatisfiesClause (next_values s.circuit a)) s.clauses [] (λ k inside.
      kept_is_refuted_lem s.circuit s.clauses k h.circuit
      (accepted_refutes (kept_formula s.circuit s.clauses k) (get_or s.kept k []) (h.accepted k inside)) a (record { fits = fits; legal = legal; satisfied = satisfied }));
}

pub bars : (c : Parts) (sig : List ℕ) (clauses : List (List ℤ)) (goal : ℕ) (proof : List LratStep) → IsCircuit c → IsSignals c sig
    → goal < 2 ^ length sig → IsInvariant c clauses → Accepted (excludes_formula c sig clauses goal) proof → Bars c sig clauses goal
bars c sig clauses goal proof circuit signals below invariant accepted = record {
  invariant = invariant;
  excludes = λ a fits legal satisfied. excluded_is_refuted_lem c sig clauses goal circuit signals below
      (accepted_refutes (excludes_formula c sig clauses goal) proof accepted) a (record { fits = fits; legal = legal; satisfied = satisfied });
}
