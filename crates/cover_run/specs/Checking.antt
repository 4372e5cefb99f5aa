-- What `lrat` reads and writes.
use Rattle.std.specs.Prelude.{◌≡◌, ◌≢◌, ℕ, ◌≤◌, Bool, true, List, length, codes, Some}
use Rattle.cnf_base.specs.Meaning.{CnfFormula}
use Rattle.cnf_base.specs.Dimacs.{SpellsFormula, IsFirstFault as IsFirstInFormula}
use Rattle.cnf_base.specs.declared.fault.DimacsKind.{DimacsKind}
use Rattle.cnf_base.specs.declared.fault.DimacsKind.TheVariants as dimacs
use Rattle.lrat_text.specs.Lrat.{SpellsProof, IsFirstFault as IsFirstInProof}
use Rattle.lrat_text.specs.declared.fault.LratKind.{LratKind}
use Rattle.lrat_text.specs.declared.proof.LratStep.{LratStep}
use Rattle.lrat_text.specs.Accepted.{Accepted}
use Rattle.lrat_check.specs.FirstFault.{first_fault}
use Rattle.command_words.specs.declared.stop.File.TheVariants as files
use Rattle.command_words.specs.declared.stop.Measure.TheVariants as measures
use Rattle.command_words.specs.declared.stop.Refusal.{Refusal}
use Rattle.command_words.specs.declared.stop.Refusal.TheVariants as refusals
use Rattle.command_words.specs.declared.stop.Stop.{Stop}
use Rattle.command_words.specs.declared.stop.Stop.TheVariants as stops
use Rattle.command_words.specs.Limits.{limit_of}
use Rattle.cover_run.specs.Seen.{DeskSeen, HasText}
use Rattle.command_words.specs.Words.{LratCall}

-- a text within its limit that spells the formula, and one that spells the proof
pub record IsFormulaText (f : CnfFormula) (t : List ℕ) : Type 0 where
  pub short : length t ≤ limit_of files.Formula
  pub spells : SpellsFormula t f

pub record IsProofText (p : List LratStep) (t : List ℕ) : Type 0 where
  pub short : length t ≤ limit_of files.Proof
  pub spells : SpellsProof t p

-- a text within its limit with this first fault
pub record HasFormulaFault (line : ℕ) (kind : DimacsKind) (t : List ℕ) : Type 0 where
  pub short : length t ≤ limit_of files.Formula
  pub first : IsFirstInFormula t line kind

pub record HasProofFault (line : ℕ) (kind : LratKind) (t : List ℕ) : Type 0 where
  pub short : length t ≤ limit_of files.Proof
  pub first : IsFirstInProof t line kind

-- texts spell this formula and this proof: the ones that are told, where they are told
abbrev pub HasFormula : LratCall → DeskSeen → CnfFormula → Type 0
HasFormula call d f = HasText d call.formula (IsFormulaText f)

abbrev pub HasProof : LratCall → DeskSeen → List LratStep → Type 0
HasProof call d p = HasText d call.proof (IsProofText p)

-- the formula was read before the proof was looked at
abbrev pub HasSomeFormula : LratCall → DeskSeen → Type 0
HasSomeFormula call d = (f : CnfFormula) × HasFormula call d f

-- ---- the refusals
-- the formula's header is past the limits
abbrev pub HasLargeFormula : LratCall → DeskSeen → Type 0
HasLargeFormula call d = (line : ℕ) × HasText d call.formula (HasFormulaFault line dimacs.Limit)

-- what is wrong first: in the formula's text, in the proof's text, or in a step
abbrev pub Refuses : LratCall → DeskSeen → Refusal → Type 0
Refuses call d (refusals.Formula line kind) = (kind ≢ dimacs.Limit) × HasText d call.formula (HasFormulaFault line kind)
Refuses call d (refusals.Proof line kind) = HasSomeFormula call d × HasText d call.proof (HasProofFault line kind)
Refuses call d (refusals.Step step kind) =
    (f : CnfFormula) × (p : List LratStep) × HasFormula call d f × HasProof call d p × (first_fault f p ≡ Some (step, kind))
Refuses call d why = ⊥

-- what a fault of the formula stops with: its limit is one of the measures
abbrev pub formula_stop : ℕ → DimacsKind → Stop
formula_stop line dimacs.Limit = stops.TooLarge measures.Formula
formula_stop line kind = stops.Refused (refusals.Formula line kind)

-- ---- the output
-- These bytes are the whole output; a proof that is accepted leaves nothing open.
pub record IsLratOutput (call : LratCall) (d : DeskSeen) (bytes : List ℕ) (settled : Bool) : Type 0 where
  pub formula : CnfFormula
  pub proof : List LratStep
  pub has_formula : HasFormula call d formula
  pub has_proof : HasProof call d proof
  pub accepted : Accepted formula proof
  pub bytes_are : bytes ≡ codes "accepted\n"
  pub settled_is : settled ≡ true
