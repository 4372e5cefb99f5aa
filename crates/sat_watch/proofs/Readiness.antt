-- How a book and its trail stay ready for propagation.
use Rattle.std.proofs.Common.{◌≡◌, ℕ, ◌+◌, ◌<◌, ◌≤◌, min, nat_abs, ℤ, List, [], ◌∷◌, ◌++◌, length, take, refl, ap, sym, ◌∙◌, subst, arith, inl, inr}
use Rattle.std.specs.List.{All, IsDistinct}
use Rattle.std.proofs.lemmas.Bool.{cases_lt, ne_eqb}
use Rattle.std.proofs.lemmas.List.{take-append-le, take-take, take-map}
use Rattle.std.proofs.lemmas.List.Elements.{All-nil, All-cons}
use Rattle.cnf_base.specs.Dimacs.{IsLiteral}
use Rattle.sat_trail.specs.Trail.{Assignment, TrailState, lits, upto, IsTrail}
use Rattle.sat_trail.proofs.Levels.{Climbs-upto, upto-all, upto-upto, upto-push_above, upto-take}
use Rattle.sat_watch.specs.declared.scan.Scan.{Scan}
use Rattle.sat_watch.specs.declared.scan.Scan.TheVariants.{Quiet}
use Rattle.sat_watch.specs.Book.{BookState, IsBookClause, NoneFalse, NoneUnit, marks, ExtendsByUnits, ScanIs}
use Rattle.sat_watch.specs.Ready.{IsFollowed, IsReady, IsSettled}
use Rattle.sat_watch.proofs.Rests.{quiet_nothing}
use Rattle.sat_watch.proofs.SeenTrail.{length-marks, marks-append, upto_extended}

-- an empty trail makes no clause false or unit
pub settled_empty : (b : BookState) (t : TrailState) → IsFollowed b t → All (IsBookClause b.vars) b.clauses → t.assignments ≡ [] → IsSettled b t
settled_empty b t followed book none =
    let P : List Assignment → Type 0 = λ ps. (k : ℕ) → NoneFalse b.clauses (lits (upto k ps)) in
    let Q : List Assignment → Type 0 = λ ps. (k : ℕ) → NoneUnit b.clauses (lits (upto k ps)) in
    record {
      followed = followed;
      none_false = subst P (sym none) (λ k i d lt. (quiet_nothing b.vars _ (book i d lt)).not_false);
      none_unit = subst Q (sym none) (λ k i d lt. (quiet_nothing b.vars _ (book i d lt)).not_unit);
    }

-- more literals at the end keep what was seen before `low`
pub followed_more : (b : BookState) (t : TrailState) (more : List Assignment) (level : ℕ) → IsFollowed b t → t.low ≤ length t.assignments → IsFollowed b (record { vars = t.vars; assignments = t.assignments ++ more; level = level; low = t.low })
followed_more b t more level h low =
    let within : t.low ≤ length (marks t.assignments) = omega (arith, length-marks t.assignments) in
    record {
      vars = h.vars;
      agrees = ap (take t.low) (marks-append t.assignments more) ∙ take-append-le t.low (marks t.assignments) (marks more) within ∙ h.agrees;
    }

-- a decision after Quiet
pub ready_decide : (b : BookState) (t : TrailState) (p : Assignment) → IsSettled b t → IsTrail t → p.level ≡ t.level + 1 → IsReady b (record { vars = t.vars; assignments = t.assignments ++ p ∷ []; level = t.level + 1; low = t.low })
ready_decide b t p h trail is =
    record {
      followed = followed_more b t (p ∷ []) (t.level + 1) h.followed trail.low_reached;
      none_false = λ k lt. (let above : k < p.level = omega arith in
          let P : List Assignment → Type 0 = λ ps. NoneFalse b.clauses (lits ps) in
          subst P (sym (upto-push_above k t.assignments p above)) (h.none_false k));
      none_unit = λ k lt. (let above : k < p.level = omega arith in
          let P : List Assignment → Type 0 = λ ps. NoneUnit b.clauses (lits ps) in
          subst P (sym (upto-push_above k t.assignments p above)) (h.none_unit k));
    }

-- after propagation the same holds below the present level, and after Quiet at every level
pub ready_after : (b : BookState) (old new : TrailState) → IsReady b old → ExtendsByUnits b.clauses old new → new.low ≡ length new.assignments → IsReady (record { vars = b.vars; clauses = b.clauses; seen = marks new.assignments }) new
ready_after b old new h s low =
    record {
      followed = record { vars = s.vars ∙ h.followed.vars; agrees = refl };
      none_false = λ k lt. (let below : k < old.level = omega (arith, s.level) in
          let P : List Assignment → Type 0 = λ ps. NoneFalse b.clauses (lits ps) in
          subst P (sym (upto_extended b.clauses old new k s below)) (h.none_false k below));
      none_unit = λ k lt. (let below : k < old.level = omega (arith, s.level) in
          let P : List Assignment → Type 0 = λ ps. NoneUnit b.clauses (lits ps) in
          subst P (sym (upto_extended b.clauses old new k s below)) (h.none_unit k below));
    }

pub settled_quiet : (b : BookState) (t : TrailState) (scan : Scan) → IsReady b t → IsTrail t → ScanIs b.clauses (lits t.assignments) scan → scan ≡ Quiet → IsSettled b t
settled_quiet b t scan h trail answer is =
    let P : Scan → Type 0 = λ x. ScanIs b.clauses (lits t.assignments) x in
    let quiet : NoneFalse b.clauses (lits t.assignments) × NoneUnit b.clauses (lits t.assignments) = subst P is answer in
    let F : List Assignment → Type 0 = λ ps. NoneFalse b.clauses (lits ps) in
    let U : List Assignment → Type 0 = λ ps. NoneUnit b.clauses (lits ps) in
    record {
      followed = h.followed;
      none_false = λ k. elim (cases_lt k t.level) [
        | inl lt ↦ h.none_false k lt
        | inr ge ↦ subst F (sym (upto-all k 0 t.assignments t.level trail.climbs ge)) quiet.0
      ];
      none_unit = λ k. elim (cases_lt k t.level) [
        | inl lt ↦ h.none_unit k lt
        | inr ge ↦ subst U (sym (upto-all k 0 t.assignments t.level trail.climbs ge)) quiet.1
      ];
    }

-- back below the present level
pub settled_back : (b : BookState) (t : TrailState) (level : ℕ) → IsReady b t → IsTrail t → level < t.level → IsSettled b (record { vars = t.vars; assignments = upto level t.assignments; level = level; low = min t.low (length (upto level t.assignments)) })
settled_back b t level h trail below =
    let n = length (upto level t.assignments) in
    let first : upto level t.assignments ≡ take n t.assignments = upto-take level 0 t.assignments t.level trail.climbs in
    let marks_are : marks (upto level t.assignments) ≡ take n (marks t.assignments) = ap marks first ∙ sym (take-map _ n t.assignments) in
    let low = min t.low n in
    let F : List Assignment → Type 0 = λ ps. NoneFalse b.clauses (lits ps) in
    let U : List Assignment → Type 0 = λ ps. NoneUnit b.clauses (lits ps) in
    record {
      followed = record {
        vars = h.followed.vars;
        agrees = ap (take low) marks_are ∙ take-take low n (marks t.assignments) (omega arith)
            ∙ sym (take-take low t.low (marks t.assignments) (omega arith)) ∙ ap (take low) h.followed.agrees ∙ take-take low t.low b.seen (omega arith);
      };
      none_false = λ k. elim (cases_lt k level) [
        | inl lt ↦ subst F (sym (upto-upto k level t.assignments (omega arith))) (h.none_false k (omega arith))
        | inr ge ↦ subst F (sym (cut k ge)) (h.none_false level below)
      ];
      none_unit = λ k. elim (cases_lt k level) [
        | inl lt ↦ subst U (sym (upto-upto k level t.assignments (omega arith))) (h.none_unit k (omega arith))
        | inr ge ↦ subst U (sym (cut k ge)) (h.none_unit level below)
      ];
    }
  where
    cut : (k : ℕ) → level ≤ k → upto k (upto level t.assignments) ≡ upto level t.assignments
    cut k ge = upto-all k 0 (upto level t.assignments) level (Climbs-upto level 0 t.assignments t.level trail.climbs (omega arith) (omega arith)) ge

-- ---- clauses of two and three literals

pub pair_clause : (vars : ℕ) (a b : ℤ) → (nat_abs a ≡ 0 → ⊥) → (nat_abs b ≡ 0 → ⊥) → nat_abs a ≤ vars → nat_abs b ≤ vars → (nat_abs a ≡ nat_abs b → ⊥) → IsBookClause vars (a ∷ b ∷ [])
unfolding IsDistinct
pair_clause vars a b a_nz b_nz a_le b_le apart =
    let one : (l : ℤ) → (nat_abs l ≡ 0 → ⊥) → nat_abs l ≤ vars → IsLiteral vars l = λ l nz le. record { not_zero = λ e. nz (ap nat_abs e); variable = le } in
    record {
      two = omega arith;
      in_range = All-cons (IsLiteral vars) a (b ∷ []) (one a a_nz a_le) (All-cons (IsLiteral vars) b [] (one b b_nz b_le) (All-nil (IsLiteral vars)));
      distinct = ((ne_eqb (nat_abs a) (nat_abs b) apart, tt), (tt, tt));
    }

pub triple_clause : (vars : ℕ) (a b c : ℤ) → (nat_abs a ≡ 0 → ⊥) → (nat_abs b ≡ 0 → ⊥) → (nat_abs c ≡ 0 → ⊥) → nat_abs a ≤ vars → nat_abs b ≤ vars → nat_abs c ≤ vars → (nat_abs a ≡ nat_abs b → ⊥) → (nat_abs a ≡ nat_abs c → ⊥) → (nat_abs b ≡ nat_abs c → ⊥) → IsBookClause vars (a ∷ b ∷ c ∷ [])
unfolding IsDistinct
triple_clause vars a b c a_nz b_nz c_nz a_le b_le c_le ab ac bc =
    let rest = pair_clause vars b c b_nz c_nz b_le c_le bc in
    record {
      two = omega arith;
      in_range = All-cons (IsLiteral vars) a (b ∷ c ∷ []) (record { not_zero = λ e. a_nz (ap nat_abs e); variable = a_le }) rest.in_range;
      distinct = ((ne_eqb (nat_abs a) (nat_abs b) ab, (ne_eqb (nat_abs a) (nat_abs c) ac, tt)), rest.distinct);
    }
