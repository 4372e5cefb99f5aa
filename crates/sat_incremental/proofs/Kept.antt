-- A search that keeps a lemma, or one more clause of the formula, and what its values are in the end.
use Rattle.std.proofs.Common.{◌≡◌, ℕ, ◌+◌, ◌-◌, ◌<◌, ◌≤◌, ◌^◌, Bool, true, false, ℤ, pos, neg_ℤ, Some, List, [], ◌∷◌, ◌++◌, length, get_or, take, min, refl, ap, sym, ◌∙◌, subst, arith, inl, inr}
use Rattle.std.specs.List.{All, Contains}
use Rattle.std.proofs.lemmas.Bool.{cases_lt}
use Rattle.std.proofs.lemmas.List.Elements.{Contains-append_left, recursion_from_All}
use Rattle.cnf_base.specs.Status.{has}
use Rattle.cnf_base.specs.Dimacs.{IsLiteral}
use Rattle.cnf_base.specs.Meaning.{IsModel, lit_true, value_of}
use Rattle.lrat_text.specs.Standing.{clause_at}
use Rattle.sat_trail.specs.Trail.{Assignment, TrailState, IsTrail, lits, upto}
use Rattle.sat_trail.proofs.Levels.{upto-all}
use Rattle.sat_watch.specs.Book.{BookState, IsBookClause, NoneFalse, marks}
use Rattle.sat_watch.specs.Ready.{IsReady}
use Rattle.sat_learn.specs.Learned.{LearnedState, IsLearned}
use Rattle.sat_learn.specs.Reasons.{HasId}
use Rattle.sat_solver.specs.Attachment.{Attaches}
use Rattle.sat_solver.specs.Sound.{IsSound}
use Rattle.sat_solver.specs.Steps.{AllAssigned}
use Rattle.sat_solver.proofs.Attachment.{sound_held}
use Rattle.sat_solver.proofs.LearnedClauses.{back_at, ready_back, learned_root}
use Rattle.sat_solver.proofs.Models.{AreValuesOf, literal_in, literal_true, satisfied}
use Rattle.sat_solver.proofs.States.{sound_back, sound_more_live}
use Rattle.sat_incremental.specs.declared.entry.Entry.{Entry}
use Rattle.sat_incremental.specs.declared.entry.Entry.TheVariants.{Given, Lemma}
use Rattle.sat_incremental.specs.Entries.{Session, clause_of, given, live, formula_of, IsDerivation}
use Rattle.sat_incremental.specs.Assuming.{AreIn}
use Rattle.sat_incremental.proofs.Derivations.{live-push, newest_has_id, given-lemma}

-- what stands for more clauses stands for the first of them
sound_first : (vars : ℕ) (pairs : List (ℕ × List ℤ)) (done more : List (List ℤ)) (proof_ids : List ℕ) (b : BookState) (t : TrailState) → IsSound vars pairs (done ++ more) proof_ids b t → IsSound vars pairs done proof_ids b t
sound_first vars pairs done more proof_ids b t h = record {
  book_vars = h.book_vars;
  trail_vars = h.trail_vars;
  reasons = h.reasons;
  has_id = h.has_id;
  one_id = h.one_id;
  small_ids = h.small_ids;
  covered = λ c there. h.covered c (Contains-append_left done more c there);
}

-- one more entry
pub sound_entry : (vars : ℕ) (entries : List Entry) (entry : Entry) (done : List (List ℤ)) (proof_ids : List ℕ) (b : BookState) (t : TrailState) → IsSound vars (live entries) done proof_ids b t → IsSound vars (live (entries ++ entry ∷ [])) done proof_ids b t
sound_entry vars entries entry done proof_ids b t h =
    let P : List (ℕ × List ℤ) → Type 0 = λ ps. IsSound vars ps done proof_ids b t in
    subst P (sym (live-push entries entry)) (sound_more_live vars (live entries) ((length entries + 1, clause_of entry) ∷ []) done proof_ids b t h)

-- which is a lemma that isn't attached
pub sound_lemma : (vars : ℕ) (entries : List Entry) (ls hints : List ℤ) (proof_ids : List ℕ) (b : BookState) (t : TrailState) → IsSound vars (live entries) (given entries) proof_ids b t → IsSound vars (live (entries ++ Lemma ls hints ∷ [])) (given (entries ++ Lemma ls hints ∷ [])) proof_ids b t
sound_lemma vars entries ls hints proof_ids b t h =
    let Q : List (List ℤ) → Type 0 = λ cs. IsSound vars (live (entries ++ Lemma ls hints ∷ [])) cs proof_ids b t in
    subst Q (sym (given-lemma entries ls hints)) (sound_entry vars entries (Lemma ls hints) (given entries) proof_ids b t h)

-- a learned clause, after going back
pub sound_learned : (vars : ℕ) (entries : List Entry) (proof_ids proof_ids' : List ℕ) (b b' : BookState) (t t' : TrailState) (learned : LearnedState) (level id : ℕ) (hints : List ℤ) → IsSound vars (live entries) (given entries) proof_ids b t → IsTrail t → IsLearned t learned → level ≤ learned.backjump_level → IsTrail (back_at level t) → id ≡ length entries + 1 → id < 2 ^ 62 → Attaches learned.lits id b (back_at level t) proof_ids b' t' proof_ids' → IsSound vars (live (entries ++ Lemma learned.lits hints ∷ [])) (given (entries ++ Lemma learned.lits hints ∷ [])) proof_ids' b' t'
sound_learned vars entries proof_ids proof_ids' b b' t t' learned level id hints s trail h le back is small attached =
    let entry = Lemma learned.lits hints in
    let pairs = live (entries ++ entry ∷ []) in
    let before = sound_back vars (live entries) (given entries) proof_ids b t level (min t.low (length (upto level t.assignments))) s trail in
    let known = sound_entry vars entries entry (given entries) proof_ids b (back_at level t) before in
    let held = sound_held vars pairs (given entries) proof_ids proof_ids' b b' (back_at level t) t' id learned.lits known back (learned_root t learned level h le) small (newest_has_id entries entry id is) attached in
    let Q : List (List ℤ) → Type 0 = λ cs. IsSound vars pairs cs proof_ids' b' t' in
    subst Q (sym (given-lemma entries learned.lits hints)) (sound_first vars pairs (given entries) (learned.lits ∷ []) proof_ids' b' t' held)

-- ---- a model

pub values_of : (vars : ℕ) (t : TrailState) (bits : List Bool) → t.vars ≡ vars → IsTrail t → AllAssigned t → ((x : ℕ) → 0 < x → x ≤ t.vars → get_or bits (x - 1) false ≡ has (lits t.assignments) (pos x)) → AreValuesOf vars t bits
values_of vars t bits same trail assigned each = record {
  trail_vars = same;
  trail = trail;
  assigned = λ x positive within. assigned x positive (omega arith);
  each = λ x positive within. each x positive (omega arith);
}

pub model_of : (vars : ℕ) (entries : List Entry) (proof_ids : List ℕ) (b : BookState) (t : TrailState) (bits : List Bool) → IsSound vars (live entries) (given entries) proof_ids b t → AreValuesOf vars t bits → All (IsBookClause b.vars) b.clauses → NoneFalse b.clauses (lits t.assignments) → length bits ≡ t.vars → IsModel (formula_of (record { vars = vars; entries = entries })) bits
model_of vars entries proof_ids b t bits sound values book none_false number =
    let B : ℕ → Type 0 = λ n. All (IsBookClause n) b.clauses in
    record {
      number = number ∙ values.trail_vars;
      satisfies = satisfied vars (live entries) (given entries) proof_ids b t bits sound values (subst B sound.book_vars book) none_false;
    }

-- each assumption that is true on the trail is true in it
pub assumption_true : (vars : ℕ) (t : TrailState) (bits : List Bool) (assumptions : List ℤ) → AreValuesOf vars t bits → AreIn assumptions (lits t.assignments) → (a : ℤ) → has assumptions a ≡ true → lit_true (value_of bits) a ≡ true
assumption_true vars t bits assumptions values all a inside =
    let here = all a inside in
    let P : ℕ → Type 0 = λ n. All (IsLiteral n) (lits t.assignments) in
    let in_range = literal_in vars (lits t.assignments) a (recursion_from_All (IsLiteral vars) (lits t.assignments) (subst P values.trail_vars values.trail.in_range)) here in
    literal_true vars t bits a values in_range here

-- ---- the start

pub sound_new : (vars : ℕ) (entries : List Entry) (proof_ids : List ℕ) (b : BookState) (t : TrailState) → t ≡ record { vars = vars; assignments = []; level = 0; low = 0 } → b ≡ record { vars = vars; clauses = []; seen = [] } → proof_ids ≡ [] → entries ≡ [] → IsSound vars (live entries) (given entries) proof_ids b t
sound_new vars entries proof_ids b t t_is b_is ids_are entries_are =
    let T : TrailState → Type 0 = λ x. IsSound vars (live entries) (given entries) proof_ids b x in
    let none : TrailState = record { vars = vars; assignments = []; level = 0; low = 0 } in
    let B : BookState → Type 0 = λ x. IsSound vars (live entries) (given entries) proof_ids x none in
    let empty : BookState = record { vars = vars; clauses = []; seen = [] } in
    let N : List ℕ → Type 0 = λ x. IsSound vars (live entries) (given entries) x empty none in
    let E : List Entry → Type 0 = λ x. IsSound vars (live x) (given x) [] empty none in
    subst T (sym t_is) (subst B (sym b_is) (subst N (sym ids_are) (subst E (sym entries_are) (record {
      book_vars = refl;
      trail_vars = refl;
      reasons = tt;
      has_id = record { book = λ place clause there. cc; units = λ p id there is. (let lt = there.1 in absurd (omega arith)) };
      one_id = refl;
      small_ids = λ k d lt. absurd (omega arith);
      covered = λ c there. (let lt = there.1 in absurd (omega arith));
    }))))

pub ready_new : (vars : ℕ) (b : BookState) (t : TrailState) → t ≡ record { vars = vars; assignments = []; level = 0; low = 0 } → b ≡ record { vars = vars; clauses = []; seen = [] } → IsReady b t
ready_new vars b t t_is b_is =
    let none : TrailState = record { vars = vars; assignments = []; level = 0; low = 0 } in
    let empty : BookState = record { vars = vars; clauses = []; seen = [] } in
    subst (λ (x : TrailState). IsReady b x) (sym t_is) (subst (λ (x : BookState). IsReady x none) (sym b_is) (record {
      followed = record { vars = refl; agrees = refl };
      none_false = λ k lt. absurd (omega arith);
      none_unit = λ k lt. absurd (omega arith);
    }))

pub derivation_new : (entries : List Entry) → entries ≡ [] → IsDerivation entries
derivation_new entries is = subst (λ (x : List Entry). IsDerivation x) (sym is) tt

-- ---- going back to level 0

pub ready_root : (b : BookState) (t : TrailState) → IsReady b t → IsTrail t → IsReady b (back_at 0 t)
ready_root b t h trail =
    elim (cases_lt 0 t.level) [
      | inl above ↦ ready_back b t 0 h trail above
      | inr at_root ↦ (let whole = upto-all 0 0 t.assignments t.level trail.climbs at_root in
          let low = trail.low_reached in
          let min_is : min t.low (length (upto 0 t.assignments)) ≡ t.low = ap (λ (ps : List Assignment). min t.low (length ps)) whole ∙ omega arith in
          record {
            followed = record {
              vars = h.followed.vars;
              agrees = (let P : ℕ → Type 0 = λ n. take n (marks (upto 0 t.assignments)) ≡ take n b.seen in
                  let Q : List Assignment → Type 0 = λ ps. take t.low (marks ps) ≡ take t.low b.seen in
                  subst P (sym min_is) (subst Q (sym whole) h.followed.agrees));
            };
            none_false = λ k lt. absurd (omega arith);
            none_unit = λ k lt. absurd (omega arith);
          })
    ]
