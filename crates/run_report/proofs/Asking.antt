-- What is known between the questions of the prover.
use Rattle.std.proofs.Common.{◌≡◌, ℕ, ◌+◌, ◌<◌, ◌≤◌, ℤ, Bool, List, [], ◌∷◌, ◌++◌, length, get_or, refl, sym, ap, subst, ◌∙◌, arith, All, Any, Contains, inl, inr}
use Rattle.std.proofs.lemmas.Bool.{cases_lt}
use Rattle.std.proofs.lemmas.List.{get_or_append_left, get_or_default, length_push, map_push}
use Rattle.std.proofs.lemmas.List.Elements.{All-push, All-weaker, Contains-append_left, Contains-push}
use Rattle.std.proofs.lemmas.List.Quantifiers.{all_pairs_push, Any-push}
use Rattle.aig_model.specs.LatchClauses.{SatisfiesClauses}
use Rattle.aig_model.specs.declared.parts.Parts.{Parts}
use Rattle.lrat_text.specs.declared.proof.LratStep.{LratStep}
use Rattle.inv_prover.specs.Candidates.{AreCandidates}
use Rattle.sweep_search.specs.Sweep.{IsMarked}
use Rattle.inv_prover.specs.Answers.{AreKept, Escapes, IsExcluded, IsWhole}
use Rattle.inv_prover.specs.declared.excluded.Excluded.{Excluded}
use Rattle.inv_prover.specs.declared.excluded.Excluded.TheVariants as answers
use Rattle.report_text.specs.declared.report.Block.{Block}
use Rattle.run_report.specs.declared.posts.Finding.{Finding}
use Rattle.run_report.specs.declared.proving.Asked.{Asked}
use Rattle.goal_facts.specs.Invariants.{Excludes}
use Rattle.run_report.specs.Invariants.{IsInv}
use Rattle.run_report.specs.Proving.{AreAsked, IsAnswered, IsProof, IsSpentBlock, after_answer, excludes_block, proof_finding}
use Rattle.run_report.specs.Queries.{item_of}
use Rattle.run_report.specs.Run.{goals_of}

-- a goal that is shown isn't excluded
escaped : (c : Parts) (sig : List ℕ) (clauses : List (List ℤ)) (goal : ℕ) (state row : List Bool) → Escapes c sig clauses goal state row → ¬ Excludes c sig clauses goal
escaped c sig clauses goal state row e excludes =
    excludes e.values e.step.fits e.legal (subst (λ (s : List Bool). SatisfiesClauses s clauses) (sym e.step.state) e.satisfied) e.shows

-- ---- what is known of fewer goals
proof_later : (c : Parts) (sig : List ℕ) (lemmas : ℕ) (clauses : List (List ℤ)) (known : List Bool) (n : ℕ) (f : Finding) → IsProof c sig lemmas clauses known n f
    → IsProof c sig lemmas clauses known (n + 1) f
proof_later c sig lemmas clauses known n f p = record { proof = p.proof; is = p.is; below = omega (arith, p.below); new = p.new; refuted = p.refuted }

proofs_later : (c : Parts) (sig : List ℕ) (lemmas : ℕ) (clauses : List (List ℤ)) (known : List Bool) (n : ℕ) (fs : List Finding) → All (IsProof c sig lemmas clauses known n) fs
    → All (IsProof c sig lemmas clauses known (n + 1)) fs
proofs_later c sig lemmas clauses known n fs h =
    All-weaker (IsProof c sig lemmas clauses known n) (IsProof c sig lemmas clauses known (n + 1)) (proof_later c sig lemmas clauses known n) fs h

spent_later : (c : Parts) (sig : List ℕ) (lemmas : ℕ) (clauses : List (List ℤ)) (n : ℕ) (b : Block) → IsSpentBlock c sig lemmas clauses n b → IsSpentBlock c sig lemmas clauses (n + 1) b
spent_later c sig lemmas clauses n b p = record { goal = p.goal; proof = p.proof; is = p.is; below = omega (arith, p.below); spending = p.spending }

spents_later : (c : Parts) (sig : List ℕ) (lemmas : ℕ) (clauses : List (List ℤ)) (n : ℕ) (bs : List Block) → All (IsSpentBlock c sig lemmas clauses n) bs
    → All (IsSpentBlock c sig lemmas clauses (n + 1)) bs
spents_later c sig lemmas clauses n bs h = All-weaker (IsSpentBlock c sig lemmas clauses n) (IsSpentBlock c sig lemmas clauses (n + 1)) (spent_later c sig lemmas clauses n) bs h

-- ---- answers stay
answered_found : (known : List Bool) (a : Asked) (f : Finding) (goal : ℕ) → IsAnswered known a goal → IsAnswered known (record { findings = a.findings ++ f ∷ []; spents = a.spents }) goal
answered_found known a f goal (inl marked) = inl marked
answered_found known a f goal (inr (inl found)) =
    inr (inl (subst (λ (gs : List ℕ). Contains gs goal) (sym (map_push (λ (x : Finding). x.goal) a.findings f)) (Contains-append_left (goals_of a.findings) (f.goal ∷ []) goal found)))
answered_found known a f goal (inr (inr spent)) = inr (inr spent)

any_before : (goal : ℕ) (bs : List Block) (b : Block) → Any (λ (x : Block). item_of x.name ≡ goal) bs → Any (λ (x : Block). item_of x.name ≡ goal) (bs ++ b ∷ [])
any_before goal bs b any =
    (any.0, any.1, omega (arith, any.2, length_push bs b), get_or_append_left bs (b ∷ []) any.1 any.0 any.2 ∙ any.3, any.4)

answered_spent : (known : List Bool) (a : Asked) (b : Block) (goal : ℕ) → IsAnswered known a goal → IsAnswered known (record { findings = a.findings; spents = a.spents ++ b ∷ [] }) goal
answered_spent known a b goal (inl marked) = inl marked
answered_spent known a b goal (inr (inl found)) = inr (inl found)
answered_spent known a b goal (inr (inr spent)) = inr (inr (any_before goal a.spents b spent))

-- ---- one goal more
pub asked_more : (c : Parts) (sig : List ℕ) (lemmas : ℕ) (clauses : List (List ℤ)) (known : List Bool) (n : ℕ) (answer : Excluded) (a : Asked) → ¬ IsMarked known n
    → IsExcluded c sig clauses n lemmas answer → AreAsked c sig lemmas clauses known n a → AreAsked c sig lemmas clauses known (n + 1) (after_answer clauses n answer a)
asked_more c sig lemmas clauses known n (answers.Yes proof) a new refuted h =
    let f : Finding = proof_finding n proof in
    record {
      proofs = All-push (IsProof c sig lemmas clauses known (n + 1)) a.findings f (proofs_later c sig lemmas clauses known n a.findings h.proofs)
          (record { proof = proof; is = refl; below = omega arith; new = new; refuted = refuted });
      rising = all_pairs_push (λ (x y : Finding). x.goal < y.goal) a.findings f h.rising (λ k d l. (h.proofs k d l).below);
      queries = spents_later c sig lemmas clauses n a.spents h.queries;
      queries_rising = h.queries_rising;
      whole = λ goal below e. elim (cases_lt goal n) [
        | inl before ↦ answered_found known a f goal (h.whole goal before e)
        | inr last ↦ (
            let same : n ≡ goal = omega (arith, below, last) in
            inr (inl (subst (λ (gs : List ℕ). Contains gs goal) (sym (map_push (λ (x : Finding). x.goal) a.findings f))
            (subst (λ (g : ℕ). Contains (goals_of a.findings ++ n ∷ []) g) same (Contains-push (goals_of a.findings) n))))
            )
      ];
    }
asked_more c sig lemmas clauses known n (answers.No state row) a new escapes h = record {
  proofs = proofs_later c sig lemmas clauses known n a.findings h.proofs;
  rising = h.rising;
  queries = spents_later c sig lemmas clauses n a.spents h.queries;
  queries_rising = h.queries_rising;
  whole = λ goal below e. elim (cases_lt goal n) [
    | inl before ↦ h.whole goal before e
    | inr last ↦ (
        let same : goal ≡ n = omega (arith, below, last) in
        absurd (escaped c sig clauses n state row escapes (subst (Excludes c sig clauses) same e))
        )
  ];
}
asked_more c sig lemmas clauses known n (answers.Spent proof) a new spending h =
    let b : Block = excludes_block n clauses proof in
    record {
      proofs = proofs_later c sig lemmas clauses known n a.findings h.proofs;
      rising = h.rising;
      queries = All-push (IsSpentBlock c sig lemmas clauses (n + 1)) a.spents b (spents_later c sig lemmas clauses n a.spents h.queries)
          (record { goal = n; proof = proof; is = refl; below = omega arith; spending = spending });
      queries_rising = all_pairs_push (λ (x y : Block). item_of x.name < item_of y.name) a.spents b h.queries_rising
          (λ k d l. (let q = h.queries k d l in omega (arith, q.below, ap (λ (x : Block). item_of x.name) q.is)));
      whole = λ goal below e. elim (cases_lt goal n) [
        | inl before ↦ answered_spent known a b goal (h.whole goal before e)
        | inr last ↦ (
            let same : n ≡ goal = omega (arith, below, last) in
            inr (inr (Any-push (λ (x : Block). item_of x.name ≡ goal) a.spents b same))
            )
      ];
    }

-- ---- the clauses
pub kept_within : (c : Parts) (clauses : List (List ℤ)) (lemmas : ℕ) (proofs : List (List LratStep)) → AreKept c clauses lemmas proofs → All (λ (p : List LratStep). length p ≤ lemmas + 1) proofs
kept_within c clauses lemmas proofs h = λ k d l. (
    let refutation = h.refutations k (omega (arith, l, h.count)) in
    let short : length (get_or proofs k []) ≤ lemmas + 1 = omega (arith, refutation.short) in
    subst (λ (p : List LratStep). length p ≤ lemmas + 1) (get_or_default proofs k [] d l) short
    )

pub whole_is_inv : (c : Parts) (sig : List ℕ) (strength lemmas : ℕ) (candidates clauses : List (List ℤ)) (kept : List (List LratStep)) → AreCandidates c sig strength candidates
    → IsWhole c candidates lemmas clauses kept → IsInv c sig strength (record { clauses = clauses; kept = kept })
whole_is_inv c sig strength lemmas candidates clauses kept are h = record {
  greatest = record { candidates = candidates; are = are; greatest = h.greatest };
  kept = record { count = h.kept.count; accepted = h.kept.accepted; written = h.kept.written };
}
