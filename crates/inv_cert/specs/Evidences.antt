-- Certificates, and evidence.
use Rattle.std.specs.Prelude.{◌≡◌, ◌<◌, ◌^◌, ℕ, length}
use Rattle.aig_model.specs.SignalList.{SignalList}
use Rattle.aig_model.specs.Replays.{Shows}
use Rattle.aig_model.specs.LatchClauses.{Bars}
use Rattle.aig_model.specs.declared.parts.Kind.{Kind}
use Rattle.aig_model.specs.declared.parts.Kind.TheVariants.{Reached, Unreachable}
use Rattle.aig_model.specs.declared.trace.Trace.{Trace}
use Rattle.lrat_text.specs.Accepted.{Accepted}
use Rattle.lrat_text.specs.Text.{IsWritable}
use Rattle.unroll.specs.Queries.{excludes_formula}
use Rattle.inv_cert.specs.KeptSets.{IsKeptSet}
use Rattle.inv_cert.specs.Certificates.{CertificateParts}
use Rattle.inv_cert.specs.declared.evidence.Basis.{Basis}
use Rattle.inv_cert.specs.declared.evidence.Basis.TheVariants as basis

pub record Evidence : Type 0 where
  pub signals : SignalList
  pub goal : ℕ
  pub basis : Basis

-- The clauses are an invariant of the circuit that excludes the goal, each part with its accepted proof, which can be
-- written and read back.
pub record Excludes (s : SignalList) (goal : ℕ) (cert : CertificateParts) : Type 0 where
  pub circuit : cert.base.circuit ≡ s.circuit
  pub base : IsKeptSet cert.base
  pub accepted : Accepted (excludes_formula s.circuit s.lits cert.base.clauses goal) cert.excludes
  pub written : IsWritable cert.excludes
  pub bars : Bars s.circuit s.lits cert.base.clauses goal

abbrev pub IsBasis : SignalList → ℕ → Basis → Type 0
IsBasis s goal (basis.Run trace) = Shows s.circuit s.lits trace goal
IsBasis s goal (basis.Clauses cert) = Excludes s goal cert

-- The goal is one of the signals', and the basis is one.
pub record IsEvidence (e : Evidence) : Type 0 where
  pub below : e.goal < 2 ^ length e.signals.lits
  pub basis : IsBasis e.signals e.goal e.basis

abbrev pub kind_of : Basis → Kind
kind_of (basis.Run trace) = Reached
kind_of (basis.Clauses cert) = Unreachable

-- What shows a goal and what bars it are never both there.
abbrev pub ShownIsNotBarred : Type 0
ShownIsNotBarred = (s : SignalList) (goal : ℕ) (trace : Trace) (cert : CertificateParts) → Shows s.circuit s.lits trace goal → ¬ Excludes s goal cert
