-- What is sound stays so with one more clause.
use Rattle.std.proofs.Common.{ℕ, ◌+◌, ◌<◌, ◌^◌, ℤ, Some, List, [], ◌∷◌, ◌++◌, refl, ap, sym, ◌∙◌, subst, inl, inr}
use Rattle.std.proofs.lemmas.List.{length_push}
use Rattle.std.proofs.lemmas.List.Elements.{All-push, Contains-push_cases}
use Rattle.sat_trail.specs.declared.clause_id.ClauseId.TheVariants as ids
use Rattle.sat_trail.specs.Trail.{Assignment, TrailState}
use Rattle.sat_watch.specs.Book.{BookState}
use Rattle.sat_learn.specs.Reasons.{HasId}
use Rattle.sat_solver.specs.Sound.{IsCovered, IsSound}
use Rattle.sat_solver.proofs.Growth.{AreReasons-more_clauses, AreReasons-push, HaveIds-more_clauses, HaveIds-unit, IsCovered-more_clauses, IsCovered-more_assignments}
use Rattle.sat_solver.proofs.Roots.{units_more}

-- one more clause is covered
pub sound_with_done : (vars : ℕ) (live : List (ℕ × List ℤ)) (done : List (List ℤ)) (proof_ids : List ℕ) (b : BookState) (t : TrailState) (clause : List ℤ) → IsSound vars live done proof_ids b t → IsCovered b.clauses t.assignments clause → IsSound vars live (done ++ clause ∷ []) proof_ids b t
sound_with_done vars live done proof_ids b t clause h covered = record {
  book_vars = h.book_vars;
  trail_vars = h.trail_vars;
  reasons = h.reasons;
  has_id = h.has_id;
  one_id = h.one_id;
  small_ids = h.small_ids;
  covered = λ c there. elim (Contains-push_cases done clause c there) [
    | inl old ↦ h.covered c old
    | inr same ↦ (let P : List ℤ → Type 0 = λ ls. IsCovered b.clauses t.assignments ls in subst P same covered)
  ];
}

-- the book has one more clause
pub sound_with_clause : (vars : ℕ) (live : List (ℕ × List ℤ)) (done : List (List ℤ)) (proof_ids : List ℕ) (b : BookState) (t : TrailState) (clause : List ℤ) (name : ℕ) → IsSound vars live done proof_ids b t → HasId live name clause → name < 2 ^ 62 → IsSound vars live done (proof_ids ++ name ∷ []) (record b { clauses = b.clauses ++ clause ∷ [] }) t
sound_with_clause vars live done proof_ids b t clause name h has_id small = record {
  book_vars = h.book_vars;
  trail_vars = h.trail_vars;
  reasons = AreReasons-more_clauses b.clauses (clause ∷ []) [] t.assignments h.reasons;
  has_id = HaveIds-more_clauses live b.clauses proof_ids t.assignments clause name h.one_id h.has_id has_id;
  one_id = length_push proof_ids name ∙ ap (λ n. n + 1) h.one_id ∙ sym (length_push b.clauses clause);
  small_ids = All-push (λ n. n < 2 ^ 62) proof_ids name h.small_ids small;
  covered = λ c there. IsCovered-more_clauses b.clauses (clause ∷ []) t.assignments c (h.covered c there);
}

-- the trail has one more literal, for a unit clause
pub sound_with_unit : (vars : ℕ) (live : List (ℕ × List ℤ)) (done : List (List ℤ)) (proof_ids : List ℕ) (b : BookState) (t : TrailState) (l : ℤ) (id : ℕ) → IsSound vars live done proof_ids b t → HasId live id (l ∷ []) → id < 2 ^ 62 → IsSound vars live done proof_ids b (record t { assignments = t.assignments ++ record { lit = l; level = t.level; reason = Some (ids.Unit id) } ∷ [] })
sound_with_unit vars live done proof_ids b t l id h has_id small =
    let p : Assignment = record { lit = l; level = t.level; reason = Some (ids.Unit id) } in
    record {
      book_vars = h.book_vars;
      trail_vars = h.trail_vars;
      reasons = AreReasons-push b.clauses t.assignments p h.reasons small;
      has_id = HaveIds-unit live b.clauses proof_ids t.assignments p id h.has_id refl has_id;
      one_id = h.one_id;
      small_ids = h.small_ids;
      covered = λ c there. IsCovered-more_assignments b.clauses t.assignments (t.assignments ++ p ∷ []) c (units_more t.assignments (p ∷ [])) (h.covered c there);
    }
