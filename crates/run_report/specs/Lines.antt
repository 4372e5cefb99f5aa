-- What a report's text needs of the proofs that a run hands on: their literals, and their length.
use Rattle.std.specs.Prelude.{◌<◌, ◌^◌, List, length, All, Option, IfSome}
use Rattle.lrat_text.specs.Text.{HasProofLiterals}
use Rattle.lrat_text.specs.declared.proof.LratStep.{LratStep}
use Rattle.report_text.specs.declared.report.Block.{Block}
use Rattle.run_report.specs.declared.ends.BatchEnd.{BatchEnd}
use Rattle.run_report.specs.declared.ends.SearchBlocks.{SearchBlocks}
use Rattle.run_report.specs.declared.ends.ProverEnd.{ProverEnd}
use Rattle.run_report.specs.declared.ends.ProverEnd.TheVariants.{NotRun, AllSettled, Spent, Whole}
use Rattle.run_report.specs.declared.ends.Ends.{Ends}
use Rattle.run_report.specs.declared.posts.Basis.{Basis}
use Rattle.run_report.specs.declared.posts.Basis.TheVariants.{Witness, Proof}
use Rattle.run_report.specs.declared.posts.Post.{Post}

-- ---- length
-- the number of a proof's steps fits its line
abbrev pub IsShort : List LratStep → Type 0
IsShort proof = length proof < 2 ^ 32

abbrev pub HasShortBasis : Basis → Type 0
HasShortBasis (Witness trace) = Unit {0}
HasShortBasis (Proof proof) = IsShort proof

abbrev pub HasShortKept : ProverEnd → Type 0
HasShortKept NotRun = Unit {0}
HasShortKept AllSettled = Unit {0}
HasShortKept (Spent b) = Unit {0}
HasShortKept (Whole inv spents) = All IsShort inv.kept

-- the proofs of a search's queries have no more steps than the options say, so only the others need to be short
pub record AreShort (posts : List Post) (prover : ProverEnd) : Type 0 where
  pub bases : All (λ (p : Post). HasShortBasis p.basis) posts
  pub kept : HasShortKept prover

-- ---- literals
-- in the range of their type
abbrev pub HasBasisLiterals : Basis → Type 0
HasBasisLiterals (Witness trace) = Unit {0}
HasBasisLiterals (Proof proof) = HasProofLiterals proof

abbrev pub HaveLiterals : Option Block → Type 0
HaveLiterals spent = IfSome spent (λ (b : Block). HasProofLiterals b.proof)

abbrev pub HasProverLiterals : ProverEnd → Type 0
HasProverLiterals NotRun = Unit {0}
HasProverLiterals AllSettled = Unit {0}
HasProverLiterals (Spent b) = HasProofLiterals b.proof
HasProverLiterals (Whole inv spents) = All HasProofLiterals inv.kept × All (λ (b : Block). HasProofLiterals b.proof) spents

pub record HaveSearchLiterals (search : SearchBlocks) : Type 0 where
  pub refuted : All (λ (b : Block). HasProofLiterals b.proof) search.refuted
  pub spent : HaveLiterals search.spent

pub record HaveEndLiterals (ends : Ends) : Type 0 where
  pub sweep : HaveSearchLiterals ends.sweep
  pub batches : All (λ (end : BatchEnd). HaveSearchLiterals end.hop) ends.batches
  pub prover : HasProverLiterals ends.prover
