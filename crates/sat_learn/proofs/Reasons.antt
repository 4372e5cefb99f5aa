-- Reasons stay as a trail grows.
use Rattle.std.proofs.Common.{ℕ, ℤ, Option, Some, List, [], ◌∷◌, ◌++◌, sym, subst}
use Rattle.std.proofs.lemmas.List.{append-nil, append_assoc}
use Rattle.cnf_base.specs.Status.{IsUnitIn}
use Rattle.sat_trail.specs.declared.clause_id.ClauseId.{ClauseId}
use Rattle.sat_trail.specs.declared.clause_id.ClauseId.TheVariants as ids
use Rattle.sat_trail.specs.Trail.{Assignment, TrailState, lits}
use Rattle.sat_watch.specs.Book.{IsClauseOf, Follow, ExtendsByUnits}
use Rattle.sat_learn.specs.Reasons.{IsReason, AreReasons}

reasons_append : (clauses : List (List ℤ)) (before : List ℤ) (ps qs : List Assignment) → AreReasons clauses before ps → AreReasons clauses (before ++ lits ps) qs → AreReasons clauses before (ps ++ qs)
reasons_append clauses before [] qs h k = let P : List ℤ → Type 0 = λ ls. AreReasons clauses ls qs in subst P (append-nil before) k
reasons_append clauses before (p ∷ ps) qs h k =
    let P : List ℤ → Type 0 = λ ls. AreReasons clauses ls qs in
    (h.0, reasons_append clauses (before ++ p.lit ∷ []) ps qs h.1 (subst P (sym (append_assoc before (p.lit ∷ []) (lits ps))) k))

pub reasons_push : (clauses : List (List ℤ)) (ps : List Assignment) (p : Assignment) → AreReasons clauses [] ps → IsReason clauses (lits ps) p.lit p.reason → AreReasons clauses [] (ps ++ p ∷ [])
reasons_push clauses ps p h k = reasons_append clauses [] ps (p ∷ []) h (k, tt)

forced_reason : (clauses : List (List ℤ)) (before : List ℤ) (l : ℤ) (id : ClauseId) (clause : List ℤ) → IsClauseOf clauses id clause → IsUnitIn before clause l → IsReason clauses before l (Some id)
forced_reason clauses before l (ids.Book place) clause is unit = (clause, is, unit)
forced_reason clauses before l (ids.Unit number) clause is unit = absurd is

follow_reasons : (clauses : List (List ℤ)) (level : ℕ) (before : List ℤ) (more : List Assignment) → Follow clauses level before more → AreReasons clauses before more
follow_reasons clauses level before [] h = tt
follow_reasons clauses level before (p ∷ more) h =
    let P : Option ClauseId → Type 0 = λ r. IsReason clauses before p.lit r in
    let forced = h.0 in
    (subst P (sym forced.reason) (forced_reason clauses before p.lit forced.id forced.clause forced.is_clause forced.unit), follow_reasons clauses level (before ++ p.lit ∷ []) more h.1)

pub reasons_extended : (clauses : List (List ℤ)) (old new : TrailState) → ExtendsByUnits clauses old new → AreReasons clauses [] old.assignments → AreReasons clauses [] new.assignments
reasons_extended clauses old new s h =
    let P : List Assignment → Type 0 = λ ps. AreReasons clauses [] ps in
    subst P (sym s.assignments) (reasons_append clauses [] old.assignments s.more h (follow_reasons clauses old.level (lits old.assignments) s.more s.follow))
