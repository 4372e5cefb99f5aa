-- A search that keeps a learned clause.
use Rattle.std.proofs.Common.{◌≡◌, ℕ, ◌+◌, ◌<◌, ◌≤◌, ◌^◌, ℤ, nat_abs, leb, Some, List, [], ◌∷◌, ◌++◌, length, min, refl, ap, sym, ◌∙◌, subst, arith, inl, inr}
use Rattle.std.specs.List.{All, enumerate_from}
use Rattle.std.proofs.lemmas.List.{append-nil}
use Rattle.std.proofs.lemmas.List.Elements.{All-weaker, filter-append}
use Rattle.cnf_base.specs.Dimacs.{IsLiteral}
use Rattle.cnf_base.specs.Meaning.{CnfFormula, IsWithin}
use Rattle.lrat_text.specs.declared.proof.LratStep.{LratStep}
use Rattle.lrat_text.specs.declared.proof.LratStep.TheVariants.{Add}
use Rattle.lrat_text.specs.Standing.{clause_at}
use Rattle.sat_trail.specs.declared.clause_id.ClauseId.TheVariants as ids
use Rattle.sat_trail.specs.Trail.{Assignment, TrailState, upto, IsTrail}
use Rattle.sat_trail.proofs.Levels.{upto-upto}
use Rattle.sat_watch.specs.Book.{BookState}
use Rattle.sat_learn.specs.Learned.{LearnedState, IsLearned}
use Rattle.sat_learn.specs.Reasons.{HasId}
use Rattle.sat_solver.specs.Attachment.{Attaches}
use Rattle.sat_solver.specs.Ledger.{earlier, live, IsLedger}
use Rattle.sat_solver.specs.Sound.{IsSound}
use Rattle.sat_solver.specs.LearnedLemma.{IsLearnedFrom}
use Rattle.sat_solver.proofs.Growth.{slice_get-push, clause_at-enumerate}
use Rattle.sat_solver.proofs.Attachment.{sound_held}
use Rattle.sat_solver.proofs.LearnedClauses.{back_at, learned_root}
use Rattle.sat_solver.proofs.States.{sound_back, sound_more_live}
use Rattle.sat_solver.proofs.Ledgers.{earlier-push, length-earlier, live-push, IsLedger-push}

-- the clause of the newest step lives under its id
pub newest_with_id : (formula : CnfFormula) (steps : List LratStep) (id : ℕ) (clause hints : List ℤ) → id ≡ length formula.clauses + length steps + 1 → HasId (live formula (steps ++ Add id clause hints ∷ [])) id clause
newest_with_id formula steps id clause hints is =
    let known = earlier formula steps in
    let P : List (List ℤ) → Type 0 = λ cs. clause_at (enumerate_from 1 cs) id ≡ Some clause in
    let here : 1 + length known ≡ id = omega (arith, length-earlier formula steps) in
    let Q : ℕ → Type 0 = λ n. clause_at (enumerate_from 1 (known ++ clause ∷ [])) n ≡ Some clause in
    (clause, subst P (sym (earlier-push formula steps id clause hints)) (subst Q here (clause_at-enumerate 1 (known ++ clause ∷ []) (length known) clause (slice_get-push known clause))), (λ l. refl))

pub sound_kept : (formula : CnfFormula) (steps : List LratStep) (proof_ids proof_ids' : List ℕ) (b b' : BookState) (t t' : TrailState) (learned : LearnedState) (level id : ℕ) (hints : List ℤ) → IsSound formula.vars (live formula steps) (earlier formula steps) proof_ids b t → IsTrail t → IsLearned t learned → level ≤ learned.backjump_level → IsTrail (back_at level t) → id ≡ length formula.clauses + length steps + 1 → id < 2 ^ 62 → Attaches learned.lits id b (back_at level t) proof_ids b' t' proof_ids' → IsSound formula.vars (live formula (steps ++ Add id learned.lits hints ∷ [])) (earlier formula (steps ++ Add id learned.lits hints ∷ [])) proof_ids' b' t'
sound_kept formula steps proof_ids proof_ids' b b' t t' learned level id hints s trail h le backjump_level is small attached =
    let step = Add id learned.lits hints in
    let pairs = live formula (steps ++ step ∷ []) in
    let P : List (ℕ × List ℤ) → Type 0 = λ ps. IsSound formula.vars ps (earlier formula steps) proof_ids b (back_at level t) in
    let Q : List (List ℤ) → Type 0 = λ cs. IsSound formula.vars pairs cs proof_ids' b' t' in
    let before = sound_back formula.vars (live formula steps) (earlier formula steps) proof_ids b t level (min t.low (length (upto level t.assignments))) s trail in
    let known = subst P (sym (live-push formula steps id learned.lits hints is)) (sound_more_live formula.vars (live formula steps) ((id, learned.lits) ∷ []) (earlier formula steps) proof_ids b (back_at level t) before) in
    subst Q (sym (earlier-push formula steps id learned.lits hints))
    (sound_held formula.vars pairs (earlier formula steps) proof_ids proof_ids' b b' (back_at level t) t' id learned.lits known backjump_level (learned_root t learned level h le) small (newest_with_id formula steps id learned.lits hints is) attached)

pub ledger_kept : (formula : CnfFormula) (steps : List LratStep) (t : TrailState) (learned : LearnedState) (id : ℕ) → IsLedger formula steps → IsLearnedFrom formula steps t learned → t.vars ≡ formula.vars → id ≡ length formula.clauses + length steps + 1 → id < 2 ^ 62 → IsLedger formula (steps ++ Add id learned.lits learned.hints ∷ [])
ledger_kept formula steps t learned id ledger learned_from same is small =
    let h = learned_from.is_learned in
    let P : List ℤ → Type 0 = λ ls. All (IsLiteral t.vars) ls in
    let Q : ℕ → Type 0 = λ n. IsWithin n learned.lits in
    let within = All-weaker (IsLiteral t.vars) (λ l. nat_abs l ≤ t.vars) (λ l k. k.variable) learned.lits (subst P (sym h.form) h.in_range) in
    IsLedger-push formula steps id learned.lits learned.hints ledger is small learned_from.follows learned_from.new_lemma (subst Q same within) learned_from.earned

-- ---- level 0

assignments_held : (lemma : List ℤ) (id : ℕ) (b b' : BookState) (t t' : TrailState) (proof_ids proof_ids' : List ℕ) → Attaches lemma id b t proof_ids b' t' proof_ids' → (more : List Assignment) × (t'.assignments ≡ t.assignments ++ more)
assignments_held lemma id b b' t t' proof_ids proof_ids' (inl h) =
    (record { lit = h.0; level = t.level; reason = Some (ids.Unit id) } ∷ [], ap (λ (x : TrailState). x.assignments) h.2)
assignments_held lemma id b b' t t' proof_ids proof_ids' (inr h) = ([], ap (λ (x : TrailState). x.assignments) h.1 ∙ sym (append-nil t.assignments))

-- what stands at level 0 stays there first
pub roots_kept : (lemma : List ℤ) (level id : ℕ) (b b' : BookState) (t t' : TrailState) (proof_ids proof_ids' : List ℕ) → Attaches lemma id b (back_at level t) proof_ids b' t' proof_ids' → (more : List Assignment) × (upto 0 t'.assignments ≡ upto 0 t.assignments ++ more)
roots_kept lemma level id b b' t t' proof_ids proof_ids' attached =
    let held = assignments_held lemma id b b' (back_at level t) t' proof_ids proof_ids' attached in (
      upto 0 held.0,
      ap (upto 0) held.1
          ∙ filter-append (λ (p : Assignment). leb p.level 0) (upto level t.assignments) held.0
          ∙ ap (λ ps. ps ++ upto 0 held.0) (upto-upto 0 level t.assignments (omega arith)),
    )
