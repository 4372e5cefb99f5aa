-- The clauses of a formula, taken in one after another.
use Rattle.std.proofs.Common.{◌≡◌, ℕ, ◌+◌, ◌^◌, ◌<◌, ◌≤◌, Bool, true, false, leb, ℤ, Result, Ok, Err, Some, List, [], ◌∷◌, ◌++◌, length, get_or, take, refl, ap, sym, ◌∙◌, subst, arith, inl, inr}
use Rattle.std.specs.Bool.{MatchBool}
use Rattle.std.specs.Result.{IfOk}
use Rattle.std.specs.List.{slice_get, enumerate_from}
use Rattle.std.proofs.lemmas.Bool.{cases_Bool, le-leb}
use Rattle.std.proofs.lemmas.List.{take_more}
use Rattle.std.proofs.lemmas.List.Elements.{All-push, Contains-push, filter-append}
use Rattle.std.proofs.lemmas.Option.{slice_get_read}
use Rattle.cnf_base.specs.Status.{has, IsFalsifiedIn}
use Rattle.cnf_base.specs.Meaning.{CnfFormula}
use Rattle.lrat_text.specs.Accepted.{IsBothWays}
use Rattle.lrat_text.specs.Standing.{clause_at}
use Rattle.lrat_text.specs.Spent.{SameLiterals}
use Rattle.sat_trail.specs.declared.clause_id.ClauseId.TheVariants as ids
use Rattle.sat_trail.specs.Trail.{Assignment, TrailState, lits, upto}
use Rattle.sat_watch.specs.Book.{BookState}
use Rattle.sat_learn.specs.Reasons.{HasId}
use Rattle.sat_solver.specs.Sound.{IsCovered, IsSound}
use Rattle.sat_solver.specs.InputClauses.{RestsOnUnit, IsLoaded, IsLoadedIn, IsFalsifiedAt, Store, with_unit, IsTaken}
use Rattle.sat_solver.proofs.Growth.{clause_at-enumerate}
use Rattle.sat_solver.proofs.Roots.{unit_there, unit_pushed}
use Rattle.sat_solver.proofs.Soundness.{sound_with_done, sound_with_clause, sound_with_unit}

-- ---- the clause at a place

-- this clause stands at the place
pub record IsAt (formula : CnfFormula) (place : ℕ) (clause : List ℤ) : Type 0 where
  pub within : place < length formula.clauses
  pub here : clause ≡ get_or formula.clauses place clause

found : (formula : CnfFormula) (place : ℕ) (clause : List ℤ) → IsAt formula place clause → slice_get formula.clauses place ≡ Some clause
found formula place clause at = slice_get_read formula.clauses (length formula.clauses) place clause refl at.within at.here

with_id_at : (formula : CnfFormula) (place : ℕ) (clause ls : List ℤ) → IsAt formula place clause → SameLiterals clause ls → HasId (enumerate_from 1 formula.clauses) (place + 1) ls
with_id_at formula place clause ls at same =
    let number : place + 1 ≡ 1 + place = omega arith in
    (clause, ap (clause_at (enumerate_from 1 formula.clauses)) number ∙ clause_at-enumerate 1 formula.clauses place clause (found formula place clause at), same)

-- it is covered, so one more is loaded
loaded_more : (formula : CnfFormula) (place : ℕ) (proof_ids : List ℕ) (b : BookState) (t : TrailState) (clause : List ℤ) → IsLoaded formula place proof_ids b t → IsAt formula place clause → IsCovered b.clauses t.assignments clause → IsLoaded formula (place + 1) proof_ids b t
loaded_more formula place proof_ids b t clause h at covered =
    let more : take (place + 1) formula.clauses ≡ take place formula.clauses ++ clause ∷ [] =
    take_more formula.clauses place clause at.within ∙ ap (λ c. take place formula.clauses ++ c ∷ []) (sym at.here) in
    let P : List (List ℤ) → Type 0 = λ done. IsSound formula.vars (enumerate_from 1 formula.clauses) done proof_ids b t in
    let lt = at.within in
    record {
      within = omega arith;
      sound = subst P (sym more) (sound_with_done formula.vars (enumerate_from 1 formula.clauses) (take place formula.clauses) proof_ids b t clause h.sound covered);
      at_root = h.at_root;
      all_at_root = h.all_at_root;
      all_units = h.all_units;
      low = h.low;
    }

pub loaded_both_ways : (formula : CnfFormula) (place : ℕ) (proof_ids : List ℕ) (b : BookState) (t : TrailState) (clause : List ℤ) → IsLoaded formula place proof_ids b t → IsAt formula place clause → IsBothWays clause → IsLoaded formula (place + 1) proof_ids b t
loaded_both_ways formula place proof_ids b t clause h at both = loaded_more formula place proof_ids b t clause h at (inl both)

-- the trail of a loaded formula with one more literal of a unit clause
loaded_assignment : (formula : CnfFormula) (place : ℕ) (proof_ids : List ℕ) (b : BookState) (t : TrailState) (l : ℤ) (id : ℕ) → IsLoaded formula place proof_ids b t → HasId (enumerate_from 1 formula.clauses) id (l ∷ []) → id < 2 ^ 62 → IsLoaded formula place proof_ids b (record t { assignments = t.assignments ++ record { lit = l; level = t.level; reason = Some (ids.Unit id) } ∷ [] })
loaded_assignment formula place proof_ids b t l id h has_id small =
    let p : Assignment = record { lit = l; level = t.level; reason = Some (ids.Unit id) } in
    let root = h.at_root in
    let low : t.level ≤ 0 = omega arith in
    let last : upto 0 (p ∷ []) ≡ p ∷ [] = rw (le-leb t.level 0 low) refl in
    record {
      within = h.within;
      sound = sound_with_unit formula.vars (enumerate_from 1 formula.clauses) (take place formula.clauses) proof_ids b t l id h.sound has_id small;
      at_root = h.at_root;
      all_at_root = filter-append (λ (q : Assignment). leb q.level 0) t.assignments (p ∷ []) ∙ ap (λ qs. qs ++ upto 0 (p ∷ [])) h.all_at_root ∙ ap (λ qs. t.assignments ++ qs) last;
      all_units = All-push RestsOnUnit t.assignments p h.all_units (id, refl);
      low = h.low;
    }

loaded_unit : (formula : CnfFormula) (place : ℕ) (proof_ids : List ℕ) (b : BookState) (t : TrailState) (clause : List ℤ) (l : ℤ) → IsLoaded formula place proof_ids b t → IsAt formula place clause → SameLiterals clause (l ∷ []) → place + 1 < 2 ^ 62 → IsLoaded formula (place + 1) proof_ids b (with_unit (place + 1) l t)
loaded_unit formula place proof_ids b t clause l h at same small =
    elim (cases_Bool (has (lits t.assignments) l)) [
      | inl e ↦ (let there = unit_there t.assignments l h.all_at_root h.all_units e in
          rw e (loaded_more formula place proof_ids b t clause h at (inr (inl (l, there.0, same, there.1)))))
      | inr e ↦ (let p : Assignment = record { lit = l; level = t.level; reason = Some (ids.Unit (place + 1)) } in
          let assignment = loaded_assignment formula place proof_ids b t l (place + 1) h (with_id_at formula place clause (l ∷ []) at same) small in
          let there = unit_pushed t.assignments l (place + 1) t.level h.at_root in
          rw e (loaded_more formula place proof_ids b (record t { assignments = t.assignments ++ p ∷ [] }) clause assignment at (inr (inl (l, place + 1, same, there)))))
    ]

loaded_clause : (formula : CnfFormula) (place : ℕ) (proof_ids : List ℕ) (b : BookState) (t : TrailState) (clause ls : List ℤ) → IsLoaded formula place proof_ids b t → IsAt formula place clause → SameLiterals clause ls → place + 1 < 2 ^ 62 → IsLoaded formula (place + 1) (proof_ids ++ (place + 1) ∷ []) (record b { clauses = b.clauses ++ ls ∷ [] }) t
loaded_clause formula place proof_ids b t clause ls h at same small =
    let grown : IsLoaded formula place (proof_ids ++ (place + 1) ∷ []) (record b { clauses = b.clauses ++ ls ∷ [] }) t = record {
      within = h.within;
      sound = sound_with_clause formula.vars (enumerate_from 1 formula.clauses) (take place formula.clauses) proof_ids b t ls (place + 1) h.sound (with_id_at formula place clause ls at same) small;
      at_root = h.at_root;
      all_at_root = h.all_at_root;
      all_units = h.all_units;
      low = h.low;
    } in
    loaded_more formula place (proof_ids ++ (place + 1) ∷ []) (record b { clauses = b.clauses ++ ls ∷ [] }) t clause grown at (inr (inr (ls, Contains-push b.clauses ls, same)))

pub loaded_taken : (formula : CnfFormula) (place : ℕ) (old new : Store) (clause ls : List ℤ) → IsLoadedIn formula place old → IsAt formula place clause → SameLiterals clause ls → place + 1 < 2 ^ 62 → IsTaken (place + 1) ls old new → IsLoadedIn formula (place + 1) new
loaded_taken formula place old new clause [] h at same small taken = absurd taken
loaded_taken formula place old new clause (l ∷ []) h at same small taken =
    let P : Store → Type 0 = λ s. IsLoadedIn formula (place + 1) s in
    subst P (sym taken) (loaded_unit formula place old.proof_ids old.book old.trail clause l h at same small)
loaded_taken formula place old new clause (l ∷ m ∷ more) h at same small taken =
    let P : Store → Type 0 = λ s. IsLoadedIn formula (place + 1) s in
    subst P (sym taken) (loaded_clause formula place old.proof_ids old.book old.trail clause (l ∷ m ∷ more) h at same small)

pub refuted_at : (formula : CnfFormula) (place : ℕ) (t : TrailState) (clause ls : List ℤ) → IsAt formula place clause → SameLiterals clause ls → IsFalsifiedIn (lits t.assignments) ls → IsFalsifiedAt formula t place
refuted_at formula place t clause ls at same h = record {
  clause = clause;
  here = found formula place clause at;
  refuted = λ l inside. h l (sym (same l) ∙ inside);
}

-- by what taking it in answers
pub loaded_by_answer : {E : Type 0} (r : Result Bool E) (formula : CnfFormula) (place : ℕ) (old new : Store) (clause ls : List ℤ) → IsLoadedIn formula place old → IsAt formula place clause → SameLiterals clause ls → place + 1 < 2 ^ 62
    → IfOk r (λ is_false. MatchBool is_false (IsFalsifiedIn (lits old.trail.assignments) ls × (new ≡ old)) (IsTaken (place + 1) ls old new))
    → IfOk r (λ is_false. MatchBool is_false (IsLoadedIn formula place new × IsFalsifiedAt formula new.trail place) (IsLoadedIn formula (place + 1) new))
loaded_by_answer (Err e) formula place old new clause ls h at same small answer = tt
loaded_by_answer (Ok true) formula place old new clause ls h at same small answer =
    let P : Store → Type 0 = λ s. IsLoadedIn formula place s × IsFalsifiedAt formula s.trail place in
    subst P (sym answer.1) (h, refuted_at formula place old.trail clause ls at same answer.0)
loaded_by_answer (Ok false) formula place old new clause ls h at same small answer = loaded_taken formula place old new clause ls h at same small answer

pub at_place : (formula : CnfFormula) (place : ℕ) (clauses : List (List ℤ)) (clause : List ℤ) → place < length formula.clauses → clauses ≡ formula.clauses → clause ≡ get_or clauses place clause → IsAt formula place clause
at_place formula place clauses clause within same here = record { within = within; here = here ∙ ap (λ cs. get_or cs place clause) same }
