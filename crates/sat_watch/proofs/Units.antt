-- Puts that follow a trail.
use Rattle.std.proofs.Common.{◌≡◌, ℕ, Some, ℤ, List, [], ◌∷◌, ◌++◌, refl, ap, sym, ◌∙◌, subst}
use Rattle.std.specs.List.{slice_get}
use Rattle.std.proofs.lemmas.List.{append-nil, append_assoc, map-append}
use Rattle.cnf_base.specs.Status.{IsUnitIn}
use Rattle.sat_trail.specs.declared.clause_id.ClauseId.TheVariants as ids
use Rattle.sat_trail.specs.Trail.{Assignment, TrailState, lits}
use Rattle.sat_watch.specs.Book.{Follow, ExtendsByUnits}

pub lits-append : (ps qs : List Assignment) → lits (ps ++ qs) ≡ lits ps ++ lits qs
lits-append ps qs = map-append (λ (p : Assignment). p.lit) ps qs

pub ExtendsByUnits-none : (clauses : List (List ℤ)) (t : TrailState) → ExtendsByUnits clauses t t
ExtendsByUnits-none clauses t = record { more = []; assignments = sym (append-nil t.assignments); follow = tt; vars = refl; level = refl }

Follow-append : (clauses : List (List ℤ)) (level : ℕ) (true_lits : List ℤ) (more later : List Assignment) → Follow clauses level true_lits more → Follow clauses level (true_lits ++ lits more) later → Follow clauses level true_lits (more ++ later)
Follow-append clauses level true_lits [] later h k =
    let P : List ℤ → Type 0 = λ ls. Follow clauses level ls later in subst P (append-nil true_lits) k
Follow-append clauses level true_lits (p ∷ more) later h k =
    let P : List ℤ → Type 0 = λ ls. Follow clauses level ls later in
    (h.0, Follow-append clauses level (true_lits ++ p.lit ∷ []) more later h.1 (subst P (sym (append_assoc true_lits (p.lit ∷ []) (lits more))) k))

pub ExtendsByUnits-trans : (clauses : List (List ℤ)) (a b c : TrailState) → ExtendsByUnits clauses a b → ExtendsByUnits clauses b c → ExtendsByUnits clauses a c
ExtendsByUnits-trans clauses a b c h k =
    let P : List ℤ → Type 0 = λ ls. Follow clauses a.level ls k.more in
    let Q : ℕ → Type 0 = λ n. Follow clauses n (lits b.assignments) k.more in
    record {
      more = h.more ++ k.more;
      assignments = k.assignments ∙ ap (λ ps. ps ++ k.more) h.assignments ∙ append_assoc a.assignments h.more k.more;
      follow = Follow-append clauses a.level (lits a.assignments) h.more k.more h.follow (subst P (ap lits h.assignments ∙ lits-append a.assignments h.more) (subst Q h.level k.follow));
      vars = k.vars ∙ h.vars;
      level = k.level ∙ h.level;
    }

-- one literal, for the clause at a place
pub ExtendsByUnits-one : (clauses : List (List ℤ)) (old new : TrailState) (place : ℕ) (clause : List ℤ) (l : ℤ) → slice_get clauses place ≡ Some clause → IsUnitIn (lits old.assignments) clause l → new ≡ record { vars = old.vars; assignments = old.assignments ++ record { lit = l; level = old.level; reason = Some (ids.Book place) } ∷ []; level = old.level; low = old.low } → ExtendsByUnits clauses old new
ExtendsByUnits-one clauses old new place clause l is unit same =
    record {
      more = record { lit = l; level = old.level; reason = Some (ids.Book place) } ∷ [];
      assignments = ap (λ (t : TrailState). t.assignments) same;
      follow = (record { at_level = refl; id = ids.Book place; reason = refl; clause = clause; is_clause = is; unit = unit }, tt);
      vars = ap (λ (t : TrailState). t.vars) same;
      level = ap (λ (t : TrailState). t.level) same;
    }
