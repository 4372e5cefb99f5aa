-- A clause that is taken in at level 0.
use Rattle.std.proofs.Common.{◌≡◌, ℕ, ◌<◌, ◌≤◌, ◌^◌, ◌⊎◌, Bool, true, false, ℤ, neg_ℤ, nat_abs, Option, Some, None, Result, Ok, Err, List, [], ◌∷◌, ◌++◌, map, refl, ap, sym, ◌∙◌, subst, arith, inl, inr}
use Rattle.std.specs.Bool.{MatchBool}
use Rattle.std.specs.List.{Contains}
use Rattle.std.specs.Result.{IfOk}
use Rattle.std.proofs.lemmas.List.Elements.{Contains-push}
use Rattle.cnf_base.specs.Status.{has, IsFalsifiedIn}
use Rattle.lrat_text.specs.Accepted.{IsBothWays}
use Rattle.lrat_text.specs.Spent.{SameLiterals}
use Rattle.sat_trail.specs.declared.clause_id.ClauseId.{ClauseId}
use Rattle.sat_trail.specs.declared.clause_id.ClauseId.TheVariants as ids
use Rattle.sat_trail.specs.Trail.{Assignment, TrailState, IsTrail, lits, with_reason}
use Rattle.sat_watch.specs.Book.{BookState}
use Rattle.sat_watch.specs.Ready.{IsReady}
use Rattle.sat_watch.proofs.Readiness.{followed_more}
use Rattle.sat_learn.specs.Reasons.{HasId}
use Rattle.sat_learn.specs.Resolving.{StandsAt}
use Rattle.sat_learn.proofs.Assignments.{assignment_there, level_to, decision_from}
use Rattle.sat_solver.specs.InputClauses.{Store}
use Rattle.sat_solver.specs.Sound.{root, IsSound}
use Rattle.sat_solver.proofs.Reasons.{marks-with_reason, ready_same, root_with_reason}
use Rattle.sat_solver.proofs.RootLemmas.{sound_rested}
use Rattle.sat_solver.proofs.Roots.{root_is, contains_at, unit_pushed}
use Rattle.sat_solver.proofs.Soundness.{sound_with_done, sound_with_clause, sound_with_unit}
use Rattle.sat_incremental.specs.Holding.{IsUnitHeld, IsPlainHeld, StandsFor, IsHeld}

has_id_same : (pairs : List (ℕ × List ℤ)) (id : ℕ) (clause ls : List ℤ) → HasId pairs id clause → SameLiterals clause ls → HasId pairs id ls
has_id_same pairs id clause ls h same = (h.0, h.1, λ l. h.2 l ∙ same l)

-- ---- a literal of level 0

root_by : (t : TrailState) (l : ℤ) (place : ℕ) (p : Assignment) → IsTrail t → t.level ≡ 0 → StandsAt t.assignments place p → p.lit ≡ l → (reason : Option ClauseId) → p.reason ≡ reason → (id : ClauseId) × Contains t.assignments (root l id)
root_by t l place p trail low there lit None is = (let above = decision_from 0 t.assignments t.level place p trail.climbs there is in
    let within = level_to 0 t.assignments t.level place p trail.climbs there in absurd (omega arith))
root_by t l place p trail low there lit (Some id) is =
    let within = level_to 0 t.assignments t.level place p trail.climbs there in
    let zero : p.level ≡ 0 = omega arith in
    let P : Assignment → Type 0 = λ q. Contains t.assignments q in
    (id, subst P (root_is p l id lit zero is) (contains_at t.assignments place p there))

-- at level 0 each true literal rests on a clause
pub root_of_true : (t : TrailState) (l : ℤ) → IsTrail t → t.level ≡ 0 → has (lits t.assignments) l ≡ true → (id : ClauseId) × Contains t.assignments (root l id)
root_of_true t l trail low h =
    let found = assignment_there t.assignments l h in
    root_by t l found.0 found.1 trail low found.2 found.3 found.1.reason refl

-- ---- what the premises stand for

ready_unit : (b : BookState) (t : TrailState) (p : Assignment) → IsReady b t → IsTrail t → t.level ≡ 0 → IsReady b (record t { assignments = t.assignments ++ p ∷ [] })
ready_unit b t p h trail low =
    record {
      followed = followed_more b t (p ∷ []) t.level h.followed trail.low_reached;
      none_false = λ k lt. absurd (omega arith);
      none_unit = λ k lt. absurd (omega arith);
    }

-- a literal more, or one that rests on the clause
stands_unit : (vars : ℕ) (pairs : List (ℕ × List ℤ)) (done : List (List ℤ)) (old : Store) (t : TrailState) (id : ℕ) (l : ℤ) (clause : List ℤ) → IsTrail old.trail → id < 2 ^ 62 → HasId pairs id clause → SameLiterals clause (l ∷ []) → StandsFor vars pairs done old → IsUnitHeld id l old.trail t → StandsFor vars pairs (done ++ clause ∷ []) (record old { trail = t })
stands_unit vars pairs done old t id l clause trail small has_id same h (inl (reason, there, is)) =
    let P : TrailState → Type 0 = λ x. StandsFor vars pairs (done ++ clause ∷ []) (record old { trail = x }) in
    let rested = map (with_reason (nat_abs l) (ids.Unit id)) old.trail.assignments in
    let new : TrailState = record old.trail { assignments = rested } in
    subst P (sym is) (record {
      sound = sound_with_done vars pairs done old.proof_ids old.book new clause
          (sound_rested vars pairs done old.proof_ids old.book old.trail l reason id h.sound trail there small (has_id_same pairs id clause (l ∷ []) has_id same))
          (inr (inl (l, id, same, root_with_reason old.trail.assignments l id reason there)));
      ready = ready_same old.book old.trail rested (marks-with_reason (nat_abs l) (ids.Unit id) old.trail.assignments) h.ready;
      at_root = h.at_root;
    })
stands_unit vars pairs done old t id l clause trail small has_id same h (inr is) =
    let P : TrailState → Type 0 = λ x. StandsFor vars pairs (done ++ clause ∷ []) (record old { trail = x }) in
    let p : Assignment = record { lit = l; level = old.trail.level; reason = Some (ids.Unit id) } in
    let new : TrailState = record old.trail { assignments = old.trail.assignments ++ p ∷ [] } in
    subst P (sym is) (record {
      sound = sound_with_done vars pairs done old.proof_ids old.book new clause
          (sound_with_unit vars pairs done old.proof_ids old.book old.trail l id h.sound (has_id_same pairs id clause (l ∷ []) has_id same) small)
          (inr (inl (l, id, same, unit_pushed old.trail.assignments l id old.trail.level h.at_root)));
      ready = ready_unit old.book old.trail p h.ready trail h.at_root;
      at_root = h.at_root;
    })

-- a clause more in the book
stands_clause : (vars : ℕ) (pairs : List (ℕ × List ℤ)) (done : List (List ℤ)) (old : Store) (id : ℕ) (clause ls : List ℤ) → id < 2 ^ 62 → HasId pairs id clause → SameLiterals clause ls → StandsFor vars pairs done old → StandsFor vars pairs (done ++ clause ∷ []) (record old { proof_ids = old.proof_ids ++ id ∷ []; book = record old.book { clauses = old.book.clauses ++ ls ∷ [] } })
stands_clause vars pairs done old id clause ls small has_id same h =
    let root = h.at_root in
    let more : BookState = record old.book { clauses = old.book.clauses ++ ls ∷ [] } in
    record {
      sound = sound_with_done vars pairs done (old.proof_ids ++ id ∷ []) more old.trail clause
          (sound_with_clause vars pairs done old.proof_ids old.book old.trail ls id h.sound (has_id_same pairs id clause ls has_id same) small)
          (inr (inr (ls, Contains-push old.book.clauses ls, same)));
      ready = record {
        followed = record { vars = h.ready.followed.vars; agrees = h.ready.followed.agrees };
        none_false = λ k lt. absurd (omega arith);
        none_unit = λ k lt. absurd (omega arith);
      };
      at_root = root;
    }

stands_plain : (vars : ℕ) (pairs : List (ℕ × List ℤ)) (done : List (List ℤ)) (old new : Store) (id : ℕ) (clause ls : List ℤ) → IsTrail old.trail → id < 2 ^ 62 → HasId pairs id clause → SameLiterals clause ls → StandsFor vars pairs done old → IsPlainHeld id ls old new → StandsFor vars pairs (done ++ clause ∷ []) new
stands_plain vars pairs done old new id clause [] trail small has_id same h held = absurd held
stands_plain vars pairs done old new id clause (l ∷ []) trail small has_id same h held =
    let P : Store → Type 0 = λ s. StandsFor vars pairs (done ++ clause ∷ []) s in
    subst P (sym held.1) (stands_unit vars pairs done old new.trail id l clause trail small has_id same h held.0)
stands_plain vars pairs done old new id clause (l ∷ m ∷ more) trail small has_id same h held =
    let P : Store → Type 0 = λ s. StandsFor vars pairs (done ++ clause ∷ []) s in
    subst P (sym held) (stands_clause vars pairs done old id clause (l ∷ m ∷ more) small has_id same h)

-- ---- the answers

pub held_plain : {E : Type 0} (r : Result Bool E) (old new : Store) (id : ℕ) (clause ls : List ℤ) → IsTrail old.trail → id < 2 ^ 62 → SameLiterals clause ls
    → IfOk r (λ is_false. MatchBool is_false (IsFalsifiedIn (lits old.trail.assignments) ls × (new ≡ old)) (IsPlainHeld id ls old new))
    → IfOk r (IsHeld id clause old new)
held_plain (Err e) old new id clause ls trail small same answer = tt
held_plain (Ok true) old new id clause ls trail small same answer =
    λ vars pairs done has_id h.
    (let P : Store → Type 0 = λ s. IsFalsifiedIn (lits s.trail.assignments) clause × StandsFor vars pairs done s in
    subst P (sym answer.1) (λ l inside. answer.0 l (sym (same l) ∙ inside), h))
held_plain (Ok false) old new id clause ls trail small same answer =
    λ vars pairs done has_id h. stands_plain vars pairs done old new id clause ls trail small has_id same h answer

pub held_both_ways : (s : Store) (id : ℕ) (clause : List ℤ) → IsBothWays clause → IsHeld id clause s s false
held_both_ways s id clause both vars pairs done has_id h = record {
  sound = sound_with_done vars pairs done s.proof_ids s.book s.trail clause h.sound (inl both);
  ready = h.ready;
  at_root = h.at_root;
}
