-- What the prover finds of the goals that weren't settled before it, and how it ends.
use Rattle.std.specs.Prelude.{◌≡◌, ◌⊎◌, ◌<◌, ◌≤◌, ◌+◌, ◌^◌, ℕ, ℤ, Bool, List, [], ◌∷◌, ◌++◌, length, All, AllPairs, Any, Contains}
use Rattle.aig_model.specs.declared.parts.Parts.{Parts}
use Rattle.lrat_text.specs.declared.proof.LratStep.{LratStep}
use Rattle.unroll.specs.Queries.{excludes_formula}
use Rattle.sat_solver.specs.Answer.{IsRefutation, IsSpending}
use Rattle.sweep_search.specs.Sweep.{IsMarked}
use Rattle.sim_walk.specs.declared.options.Options.{Options}
use Rattle.board_core.specs.declared.entry.Source.TheVariants.{Proved}
use Rattle.inv_prover.specs.declared.excluded.Excluded.{Excluded}
use Rattle.inv_prover.specs.declared.excluded.Excluded.TheVariants as answers
use Rattle.report_text.specs.declared.report.BlockName.TheVariants as names
use Rattle.report_text.specs.declared.report.Block.{Block}
use Rattle.run_report.specs.declared.posts.Basis.TheVariants.{Proof}
use Rattle.run_report.specs.declared.posts.Finding.{Finding}
use Rattle.run_report.specs.declared.proving.Asked.{Asked}
use Rattle.run_report.specs.declared.proving.Proving.{Proving}
use Rattle.run_report.specs.declared.ends.ProverEnd.{ProverEnd}
use Rattle.run_report.specs.declared.ends.ProverEnd.TheVariants.{NotRun, AllSettled, Spent, Whole}
use Rattle.run_report.specs.Ends.{IsSpentEnd}
use Rattle.goal_facts.specs.Invariants.{Excludes}
use Rattle.run_report.specs.Invariants.{IsInv}
use Rattle.run_report.specs.Queries.{item_of}
use Rattle.run_report.specs.Run.{goals_of}

-- ---- one goal
-- the clauses exclude the goal, by this proof
abbrev pub proof_finding : ℕ → List LratStep → Finding
proof_finding goal proof = record { goal = goal; source = Proved; basis = Proof proof }

-- the question whether the clauses exclude the goal
abbrev pub excludes_block : ℕ → List (List ℤ) → List LratStep → Block
excludes_block goal clauses proof = record { name = names.Excludes goal clauses; blocked = []; proof = proof }

-- the question whether the clause at this place is kept
abbrev pub kept_block : ℕ → List (List ℤ) → List LratStep → Block
kept_block place clauses proof = record { name = names.Kept place clauses; blocked = []; proof = proof }

-- what an answer adds
abbrev pub after_answer : List (List ℤ) → ℕ → Excluded → Asked → Asked
after_answer clauses goal (answers.Yes proof) a = record { findings = a.findings ++ proof_finding goal proof ∷ []; spents = a.spents }
after_answer clauses goal (answers.No state row) a = a
after_answer clauses goal (answers.Spent proof) a = record { findings = a.findings; spents = a.spents ++ excludes_block goal clauses proof ∷ [] }

-- ---- the goals below n
-- the finding of a goal that wasn't settled before
pub record IsProof (c : Parts) (sig : List ℕ) (lemmas : ℕ) (clauses : List (List ℤ)) (known : List Bool) (n : ℕ) (f : Finding) : Type 0 where
  pub proof : List LratStep
  pub is : f ≡ proof_finding f.goal proof
  pub below : f.goal < n
  pub new : ¬ IsMarked known f.goal
  pub refuted : IsRefutation (excludes_formula c sig clauses f.goal) lemmas proof

-- a question that ran out of lemmas
pub record IsSpentBlock (c : Parts) (sig : List ℕ) (lemmas : ℕ) (clauses : List (List ℤ)) (n : ℕ) (b : Block) : Type 0 where
  pub goal : ℕ
  pub proof : List LratStep
  pub is : b ≡ excludes_block goal clauses proof
  pub below : goal < n
  pub spending : IsSpending (excludes_formula c sig clauses goal) lemmas proof

-- the goal was settled before, is found now, or has a question that ran out of lemmas
abbrev pub IsAnswered : List Bool → Asked → ℕ → Type 0
IsAnswered known a goal = IsMarked known goal ⊎ (Contains (goals_of a.findings) goal ⊎ Any (λ (b : Block). item_of b.name ≡ goal) a.spents)

-- Of the goals below n, each that the clauses exclude has its answer.
pub record AreAsked (c : Parts) (sig : List ℕ) (lemmas : ℕ) (clauses : List (List ℤ)) (known : List Bool) (n : ℕ) (a : Asked) : Type 0 where
  pub proofs : All (IsProof c sig lemmas clauses known n) a.findings
  pub rising : AllPairs (λ (f g : Finding). f.goal < g.goal) a.findings
  pub queries : All (IsSpentBlock c sig lemmas clauses n) a.spents
  pub queries_rising : AllPairs (λ (a b : Block). item_of a.name < item_of b.name) a.spents
  pub whole : (goal : ℕ) → goal < n → Excludes c sig clauses goal → IsAnswered known a goal

-- ---- the whole
-- The prover runs: it finds every goal settled, or runs out of lemmas before it has the greatest invariant, or asks of
-- each goal that isn't settled whether that excludes it.
abbrev pub IsProvingTo : Parts → List ℕ → Options → List Bool → List Finding → ProverEnd → Type 0
IsProvingTo c sig o known fs NotRun = ⊥
IsProvingTo c sig o known fs AllSettled = (fs ≡ []) × ((goal : ℕ) → goal < 2 ^ length sig → IsMarked known goal)
IsProvingTo c sig o known fs (Spent b) = (fs ≡ []) × IsSpentEnd c sig o b
IsProvingTo c sig o known fs (Whole inv spents) =
    IsInv c sig o.strength inv × AreAsked c sig o.lemmas inv.clauses known (2 ^ length sig) (record { findings = fs; spents = spents }) × All (λ (p : List LratStep). length p ≤ o.lemmas + 1) inv.kept

abbrev pub IsProving : Parts → List ℕ → Options → List Bool → Proving → Type 0
IsProving c sig o known p = IsProvingTo c sig o known p.findings p.end
