-- What a search keeps through the calls of a turn: loading, propagation, decisions, going back, and the end with a model.
use Rattle.std.proofs.Common.{◌≡◌, ℕ, ◌+◌, ◌-◌, ◌<◌, ◌≤◌, Bool, false, ℤ, pos, Option, None, List, [], ◌∷◌, ◌++◌, length, get_or, take, drop, map, refl, ap, sym, ◌∙◌, subst, arith}
use Rattle.std.specs.List.{enumerate_from, All}
use Rattle.std.proofs.lemmas.List.{append-nil, take-append-drop, take_all}
use Rattle.cnf_base.specs.Status.{has}
use Rattle.cnf_base.specs.Meaning.{CnfFormula, Satisfies, value_of, IsModel}
use Rattle.lrat_text.specs.declared.proof.LratStep.{LratStep}
use Rattle.lrat_text.specs.Standing.{clause_at}
use Rattle.sat_trail.specs.Trail.{Assignment, TrailState, lits, upto, IsTrail}
use Rattle.sat_trail.proofs.Levels.{upto-take}
use Rattle.sat_watch.specs.Book.{BookState, IsBookClause, NoneFalse, ExtendsByUnits, marks}
use Rattle.sat_learn.specs.Reasons.{AreReasons, HasId, HaveIds}
use Rattle.sat_solver.specs.Decision.{IsPassed}
use Rattle.sat_solver.specs.Ledger.{lits_of, earlier, live}
use Rattle.sat_solver.specs.InputClauses.{IsLoaded, IsFalsifiedAt}
use Rattle.sat_solver.specs.Steps.{AllAssigned}
use Rattle.sat_solver.specs.Sound.{IsSound}
use Rattle.sat_solver.proofs.Growth.{clause_at-enumerate, AreReasons-append, AreReasons-prefix, AreReasons-push, AreReasons-follow, HaveIds-follow, HaveIds-decide, HaveIds-prefix, HaveIds-more_live, IsCovered-more_assignments}
use Rattle.sat_solver.proofs.Roots.{units_more, units_upto}
use Rattle.sat_solver.proofs.SearchPlace.{passed_more}
use Rattle.sat_solver.proofs.Models.{satisfied}

-- ---- more on the trail

-- after propagation
pub sound_propagated : (vars : ℕ) (lives : List (ℕ × List ℤ)) (done : List (List ℤ)) (proof_ids : List ℕ) (b b' : BookState) (t t' : TrailState) → IsSound vars lives done proof_ids b t → b' ≡ record { vars = b.vars; clauses = b.clauses; seen = marks t'.assignments } → ExtendsByUnits b.clauses t t' → IsSound vars lives done proof_ids b' t'
sound_propagated vars lives done proof_ids b b' t t' h book s =
    let P : BookState → Type 0 = λ x. IsSound vars lives done proof_ids x t' in
    let R : List Assignment → Type 0 = λ ps. IsSound vars lives done proof_ids (record { vars = b.vars; clauses = b.clauses; seen = marks t'.assignments }) (record { vars = t'.vars; assignments = ps; level = t'.level; low = t'.low }) in
    subst P (sym book) (subst R (sym s.assignments) (record {
      book_vars = h.book_vars;
      trail_vars = s.vars ∙ h.trail_vars;
      reasons = AreReasons-append b.clauses [] t.assignments s.more h.reasons (AreReasons-follow b.clauses t.level (lits t.assignments) s.more s.follow);
      has_id = HaveIds-follow lives b.clauses proof_ids t.level (lits t.assignments) t.assignments s.more h.has_id s.follow;
      one_id = h.one_id;
      small_ids = h.small_ids;
      covered = λ c there. IsCovered-more_assignments b.clauses t.assignments (t.assignments ++ s.more) c (units_more t.assignments s.more) (h.covered c there);
    }))

pub passed_propagated : (queue : List ℕ) (from : Option ℕ) (clauses : List (List ℤ)) (t t' : TrailState) → IsPassed queue t.assignments from → ExtendsByUnits clauses t t' → IsPassed queue t'.assignments from
passed_propagated queue from clauses t t' h s =
    let P : List Assignment → Type 0 = λ ps. IsPassed queue ps from in
    subst P (sym s.assignments) (passed_more queue t.assignments s.more from h)

-- after a decision
pub sound_decided : (vars : ℕ) (lives : List (ℕ × List ℤ)) (done : List (List ℤ)) (proof_ids : List ℕ) (b : BookState) (t t' : TrailState) (l : ℤ) → IsSound vars lives done proof_ids b t → t' ≡ record { vars = t.vars; assignments = t.assignments ++ record { lit = l; level = t.level + 1; reason = None } ∷ []; level = t.level + 1; low = t.low } → IsSound vars lives done proof_ids b t'
sound_decided vars lives done proof_ids b t t' l h is =
    let p : Assignment = record { lit = l; level = t.level + 1; reason = None } in
    let P : TrailState → Type 0 = λ x. IsSound vars lives done proof_ids b x in
    subst P (sym is) (record {
      book_vars = h.book_vars;
      trail_vars = h.trail_vars;
      reasons = AreReasons-push b.clauses t.assignments p h.reasons tt;
      has_id = HaveIds-decide lives b.clauses proof_ids t.assignments p h.has_id refl;
      one_id = h.one_id;
      small_ids = h.small_ids;
      covered = λ c there. IsCovered-more_assignments b.clauses t.assignments (t.assignments ++ p ∷ []) c (units_more t.assignments (p ∷ [])) (h.covered c there);
    })

pub passed_decided : (queue : List ℕ) (from : Option ℕ) (t t' : TrailState) (p : Assignment) → IsPassed queue t.assignments from → t'.assignments ≡ t.assignments ++ p ∷ [] → IsPassed queue t'.assignments from
passed_decided queue from t t' p h is =
    let P : List Assignment → Type 0 = λ ps. IsPassed queue ps from in
    subst P (sym is) (passed_more queue t.assignments (p ∷ []) from h)

-- ---- fewer assignments

-- the assignments up to a level, and then the others
upto_parts : (level : ℕ) (t : TrailState) → IsTrail t → t.assignments ≡ upto level t.assignments ++ drop (length (upto level t.assignments)) t.assignments
upto_parts level t trail =
    sym (ap (λ ps. ps ++ drop (length (upto level t.assignments)) t.assignments) (upto-take level 0 t.assignments t.level trail.climbs) ∙ take-append-drop (length (upto level t.assignments)) t.assignments)

-- after going back
pub sound_back : (vars : ℕ) (lives : List (ℕ × List ℤ)) (done : List (List ℤ)) (proof_ids : List ℕ) (b : BookState) (t : TrailState) (level low : ℕ) → IsSound vars lives done proof_ids b t → IsTrail t → IsSound vars lives done proof_ids b (record { vars = t.vars; assignments = upto level t.assignments; level = level; low = low })
sound_back vars lives done proof_ids b t level low h trail =
    let kept = upto level t.assignments in
    let others = drop (length kept) t.assignments in
    let parts = upto_parts level t trail in
    record {
      book_vars = h.book_vars;
      trail_vars = h.trail_vars;
      reasons = AreReasons-prefix b.clauses [] kept others (subst (λ (ps : List Assignment). AreReasons b.clauses [] ps) parts h.reasons);
      has_id = HaveIds-prefix lives b.clauses proof_ids kept others (subst (λ (ps : List Assignment). HaveIds lives b.clauses proof_ids ps) parts h.has_id);
      one_id = h.one_id;
      small_ids = h.small_ids;
      covered = λ c there. IsCovered-more_assignments b.clauses t.assignments kept c (units_upto level t.assignments) (h.covered c there);
    }

-- ---- more clauses in the proof

pub sound_more_live : (vars : ℕ) (lives more : List (ℕ × List ℤ)) (done : List (List ℤ)) (proof_ids : List ℕ) (b : BookState) (t : TrailState) → IsSound vars lives done proof_ids b t → IsSound vars (lives ++ more) done proof_ids b t
sound_more_live vars lives more done proof_ids b t h = record {
  book_vars = h.book_vars;
  trail_vars = h.trail_vars;
  reasons = h.reasons;
  has_id = HaveIds-more_live lives more b.clauses proof_ids t.assignments h.has_id;
  one_id = h.one_id;
  small_ids = h.small_ids;
  covered = h.covered;
}

-- ---- after loading

pub earlier-none : (formula : CnfFormula) → earlier formula [] ≡ formula.clauses
earlier-none formula = append-nil formula.clauses

pub loaded_sound : (formula : CnfFormula) (count : ℕ) (proof_ids : List ℕ) (b : BookState) (t : TrailState) → IsLoaded formula count proof_ids b t → IsSound formula.vars (live formula []) (take count formula.clauses) proof_ids b t
loaded_sound formula count proof_ids b t h =
    let P : List (List ℤ) → Type 0 = λ cs. IsSound formula.vars (enumerate_from 1 cs) (take count formula.clauses) proof_ids b t in
    subst P (sym (earlier-none formula)) h.sound

pub loaded_whole : (formula : CnfFormula) (proof_ids : List ℕ) (b : BookState) (t : TrailState) → IsLoaded formula (length formula.clauses) proof_ids b t → IsSound formula.vars (live formula []) (earlier formula []) proof_ids b t
loaded_whole formula proof_ids b t h =
    let P : List (List ℤ) → Type 0 = λ cs. IsSound formula.vars (live formula []) cs proof_ids b t in
    subst P (take_all (length formula.clauses) formula.clauses (omega arith) ∙ sym (earlier-none formula)) (loaded_sound formula (length formula.clauses) proof_ids b t h)

-- the clause that is refuted is called by its number
pub refuted_with_id : (formula : CnfFormula) (t : TrailState) (place : ℕ) → (h : IsFalsifiedAt formula t place) → HasId (live formula []) (place + 1) h.clause
refuted_with_id formula t place h =
    let number : place + 1 ≡ 1 + place = omega arith in
    (h.clause, ap (λ cs. clause_at (enumerate_from 1 cs) (place + 1)) (earlier-none formula) ∙ ap (clause_at (enumerate_from 1 formula.clauses)) number ∙ clause_at-enumerate 1 formula.clauses place h.clause h.here, λ l. refl)

-- ---- a model

satisfied_first : (v : ℕ → Bool) (cs more : List (List ℤ)) → Satisfies v (cs ++ more) → Satisfies v cs
satisfied_first v [] more h = tt
satisfied_first v (c ∷ cs) more h = (h.0, satisfied_first v cs more h.1)

-- the values of the trail are a model, where no clause is false and all variables are assigned
pub is_model : (formula : CnfFormula) (steps : List LratStep) (lives : List (ℕ × List ℤ)) (proof_ids : List ℕ) (b : BookState) (t : TrailState) (bits : List Bool)
    → IsSound formula.vars lives (earlier formula steps) proof_ids b t → IsTrail t → All (IsBookClause b.vars) b.clauses → NoneFalse b.clauses (lits t.assignments) → AllAssigned t
    → length bits ≡ t.vars → ((x : ℕ) → 0 < x → x ≤ t.vars → get_or bits (x - 1) false ≡ has (lits t.assignments) (pos x))
    → IsModel formula bits
is_model formula steps lives proof_ids b t bits sound trail book none_false assigned number each =
    let B : ℕ → Type 0 = λ n. All (IsBookClause n) b.clauses in
    let trail_vars = sound.trail_vars in
    record {
      number = number ∙ trail_vars;
      satisfies = satisfied_first (value_of bits) formula.clauses (map lits_of steps) (satisfied formula.vars lives (earlier formula steps) proof_ids b t bits sound
          (record {
            trail_vars = trail_vars;
            trail = trail;
            assigned = λ x positive within. assigned x positive (omega arith);
            each = λ x positive within. each x positive (omega arith);
          })
          (subst B sound.book_vars book) none_false);
    }
