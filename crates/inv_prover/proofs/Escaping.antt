-- A model of an excludes formula is a step that shows the goal.
use Rattle.std.proofs.Common.{◌≡◌, ℕ, ◌^◌, ◌<◌, Bool, ℤ, List, [], ◌∷◌, map, length, refl, ap}
use Rattle.cnf_base.specs.Meaning.{IsModel}
use Rattle.aig_model.specs.Literal.{value_of}
use Rattle.aig_model.specs.WellFormed.{IsCircuit, latch_lits}
use Rattle.aig_model.specs.SignalList.{IsSignals}
use Rattle.aig_model.specs.Meaning.{latch_values, input_values}
use Rattle.aig_model.specs.declared.parts.Latch.{Latch}
use Rattle.aig_model.specs.declared.parts.Parts.{Parts}
use Rattle.unroll.specs.Queries.{excludes_formula}
use Rattle.unroll.proofs.CertMeaning.{excludes_models_lem}
use Rattle.inv_prover.specs.Answers.{Escapes}

pub values_of_latches : (a : List Bool) (latches : List Latch) → map (λ (l : Latch). value_of a l.lit) latches ≡ map (value_of a) (latch_lits latches)
values_of_latches a [] = refl
values_of_latches a (l ∷ latches) = ap (λ values. value_of a l.lit ∷ values) (values_of_latches a latches)

pub escapes : (c : Parts) (sig : List ℕ) (clauses : List (List ℤ)) (goal : ℕ) (a : List Bool) → IsCircuit c → IsSignals c sig → goal < 2 ^ length sig
    → IsModel (excludes_formula c sig clauses goal) a → Escapes c sig clauses goal (latch_values c a) (input_values c a)
escapes c sig clauses goal a circuit signals below model =
    let h = (excludes_models_lem c sig clauses goal a circuit signals below).0 model in
    record {
      values = a;
      step = record { fits = h.0.fits; state = refl; row = refl };
      legal = h.0.legal;
      satisfied = h.0.satisfied;
      shows = h.1;
    }
