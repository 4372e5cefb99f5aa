-- Where level 0 is propagated, no hints end at a false clause.
use Rattle.std.proofs.Common.{◌≡◌, ◌≢◌, ℕ, ◌+◌, true, eqb, ℤ, pos, negsuc, neg_ℤ, Some, List, [], ◌∷◌, ◌++◌, ap, sym, ◌∙◌, subst, ◌⊎◌, inl, inr}
use Rattle.std.specs.List.{enumerate_from, All, Contains}
use Rattle.std.proofs.lemmas.Bool.{cases_Bool, or_cases, both_ways, false_from_ne_true}
use Rattle.std.proofs.lemmas.List.Elements.{All-contains, recursion_from_All, Contains-append_right}
use Rattle.cnf_base.specs.Status.{same_lit, has, IsFalseIn, IsFalsifiedIn, IsUnitIn}
use Rattle.cnf_base.specs.Dimacs.{IsLiteral}
use Rattle.cnf_base.specs.Meaning.{CnfFormula}
use Rattle.cnf_base.proofs.Literals.{same_lit-true, same_lit-apart, neg_ℤ-neg_ℤ, has-head, has-append}
use Rattle.lrat_text.specs.declared.proof.LratStep.{LratStep}
use Rattle.lrat_text.specs.Accepted.{Ends}
use Rattle.lrat_text.specs.Standing.{clause_at}
use Rattle.sat_trail.specs.declared.clause_id.ClauseId.TheVariants as ids
use Rattle.sat_trail.specs.Trail.{Assignment, TrailState, lits, upto, IsTrail}
use Rattle.sat_trail.proofs.Consistency.{false_once, has-upto}
use Rattle.sat_watch.specs.Book.{BookState, IsBookClause, NoneFalse, NoneUnit}
use Rattle.sat_solver.specs.Ledger.{earlier, live}
use Rattle.sat_solver.specs.Sound.{IsCovered}
use Rattle.sat_solver.proofs.RootLemmas.{only_literal, own_negation}
use Rattle.sat_solver.proofs.Roots.{contains_head, root_true, root_literal}
use Rattle.sat_solver.proofs.Models.{literal_in}

-- no clause of the book is false or unit at level 0
pub record IsAtRest (b : BookState) (t : TrailState) : Type 0 where
  pub trail : IsTrail t
  pub book : All (IsBookClause b.vars) b.clauses
  pub none_false : NoneFalse b.clauses (lits (upto 0 t.assignments))
  pub none_unit : NoneUnit b.clauses (lits (upto 0 t.assignments))

-- a literal is true at level 0, or it's 0, which definitions read as true
abbrev IsRoot : List Assignment → ℤ → Type 0
IsRoot assignments l = (has (lits (upto 0 assignments)) l ≡ true) ⊎ (l ≡ pos 0)

abbrev AreRoots : List Assignment → List ℤ → Type 0
AreRoots assignments assumed = (l : ℤ) → has assumed l ≡ true → IsRoot assignments l

-- ---- literals

negation_nonzero : (l : ℤ) → l ≢ pos 0 → neg_ℤ l ≢ pos 0
negation_nonzero l nz is = nz (sym (neg_ℤ-neg_ℤ l) ∙ ap neg_ℤ is)

-- what is false where these are assumed is false at level 0
false_root : (t : TrailState) (assumed : List ℤ) (l : ℤ) → IsTrail t → AreRoots t.assignments assumed → l ≢ pos 0 → IsFalseIn assumed l → IsFalseIn (lits (upto 0 t.assignments)) l
false_root t assumed l trail roots nz h =
    elim (roots (neg_ℤ l) h.1) [
      | inl negated ↦ (
        false_from_ne_true (has (lits (upto 0 t.assignments)) l) (λ f.
            both_ways (has (lits t.assignments) l) (false_once t trail l (has-upto 0 t.assignments (neg_ℤ l) negated)) (has-upto 0 t.assignments l f)),
        negated,
      )
      | inr is_zero ↦ absurd (negation_nonzero l nz is_zero)
    ]

held_literal : (b : BookState) (t : TrailState) (held : List ℤ) (l : ℤ) → IsAtRest b t → Contains b.clauses held → has held l ≡ true → l ≢ pos 0
held_literal b t held l rest inside l_in =
    let clause = All-contains (IsBookClause b.vars) b.clauses held rest.book inside in
    (literal_in b.vars held l (recursion_from_All (IsLiteral b.vars) held clause.in_range) l_in).not_zero

-- ---- a clause that is covered

not_refuted : (b : BookState) (t : TrailState) (assumed clause : List ℤ) → IsAtRest b t → AreRoots t.assignments assumed → IsCovered b.clauses t.assignments clause → ¬ IsFalsifiedIn assumed clause
not_refuted b t assumed clause rest roots (inl both) h =
    both_ways (has assumed (neg_ℤ both.0)) (h (neg_ℤ both.0) both.2).0 (h both.0 both.1).1
not_refuted b t assumed clause rest roots (inr (inl unit)) h =
    let l = unit.0 in
    let id = ids.Unit unit.1 in
    let nz = (root_literal t l id rest.trail unit.3).not_zero in
    let false_there = false_root t assumed l rest.trail roots nz (h l (unit.2 l ∙ has-head l [])) in
    both_ways (has (lits (upto 0 t.assignments)) l) false_there.0 (root_true t.assignments l id unit.3)
not_refuted b t assumed clause rest roots (inr (inr held)) h =
    All-contains (λ c. ¬ IsFalsifiedIn (lits (upto 0 t.assignments)) c) b.clauses held.0 rest.none_false held.1
    (λ l l_in. false_root t assumed l rest.trail roots (held_literal b t held.0 l rest held.1 l_in) (h l (held.2 l ∙ l_in)))

-- a clause with a literal both ways is unit with 0 alone
both_ways_unit : (assumed clause : List ℤ) (l m : ℤ) → has clause m ≡ true → has clause (neg_ℤ m) ≡ true → IsUnitIn assumed clause l → l ≡ pos 0
both_ways_unit assumed clause l m m_in n_in unit =
    elim (cases_Bool (same_lit m l)) [
      | inl e ↦ (let first = same_lit-true m l e in
          elim (cases_Bool (same_lit (neg_ℤ m) l)) [
            | inl f ↦ own_negation l (ap neg_ℤ (sym first) ∙ same_lit-true (neg_ℤ m) l f)
            | inr f ↦ (let P : ℤ → Type 0 = λ x. has assumed x ≡ true in
                let other = unit.others (neg_ℤ m) n_in (same_lit-apart (neg_ℤ m) l f) in
                absurd (both_ways (has assumed l) unit.open_here.0 (subst P (neg_ℤ-neg_ℤ m ∙ first) other.1)))
          ])
      | inr e ↦ (let other = unit.others m m_in (same_lit-apart m l e) in
          elim (cases_Bool (same_lit (neg_ℤ m) l)) [
            | inl f ↦ (let P : ℤ → Type 0 = λ x. has assumed x ≡ true in
                absurd (both_ways (has assumed l) unit.open_here.0 (subst P (same_lit-true (neg_ℤ m) l f) other.1)))
            | inr f ↦ absurd (both_ways (has assumed (neg_ℤ m)) (unit.others (neg_ℤ m) n_in (same_lit-apart (neg_ℤ m) l f)).0 other.1)
          ])
    ]

held_unit : (b : BookState) (t : TrailState) (assumed held : List ℤ) (l : ℤ) → IsAtRest b t → AreRoots t.assignments assumed → Contains b.clauses held → IsUnitIn assumed held l → IsRoot t.assignments l
held_unit b t assumed held l rest roots inside unit =
    let R = lits (upto 0 t.assignments) in
    let others : (m : ℤ) → has held m ≡ true → m ≢ l → IsFalseIn R m = λ m m_in apart.
    false_root t assumed m rest.trail roots (held_literal b t held m rest inside m_in) (unit.others m m_in apart) in
    elim (cases_Bool (has R l)) [
      | inl e ↦ inl e
      | inr e ↦ elim (cases_Bool (has R (neg_ℤ l))) [
        | inl f ↦ absurd (All-contains (λ c. ¬ IsFalsifiedIn R c) b.clauses held rest.none_false inside (λ m m_in.
            elim (cases_Bool (same_lit m l)) [
              | inl g ↦ (let P : ℤ → Type 0 = λ x. IsFalseIn R x in subst P (sym (same_lit-true m l g)) (e, f))
              | inr g ↦ others m m_in (same_lit-apart m l g)
            ]))
        | inr f ↦ absurd (All-contains (λ c. (m : ℤ) → ¬ IsUnitIn R c m) b.clauses held rest.none_unit inside l
            (record { inside = unit.inside; open_here = (e, f); others = others }))
      ]
    ]

-- what becomes unit is true at level 0 already
unit_root : (b : BookState) (t : TrailState) (assumed clause : List ℤ) (l : ℤ) → IsAtRest b t → AreRoots t.assignments assumed → IsCovered b.clauses t.assignments clause → IsUnitIn assumed clause l → IsRoot t.assignments l
unit_root b t assumed clause l rest roots (inl both) unit = inr (both_ways_unit assumed clause l both.0 both.1 both.2 unit)
unit_root b t assumed clause l rest roots (inr (inl one)) unit =
    let is : one.0 ≡ l = only_literal one.0 l (sym (one.2 l) ∙ unit.inside) in
    let P : ℤ → Type 0 = λ x. has (lits (upto 0 t.assignments)) x ≡ true in
    inl (subst P is (root_true t.assignments one.0 (ids.Unit one.1) one.3))
unit_root b t assumed clause l rest roots (inr (inr held)) unit =
    held_unit b t assumed held.0 l rest roots held.1 (record {
      inside = sym (held.2 l) ∙ unit.inside;
      open_here = unit.open_here;
      others = λ m m_in apart. unit.others m (held.2 m ∙ m_in) apart;
    })

-- ---- hints

-- each clause that lives is covered
abbrev AreCovered : List (ℕ × List ℤ) → BookState → TrailState → Type 0
AreCovered pairs b t = (id : ℕ) (clause : List ℤ) → clause_at pairs id ≡ Some clause → IsCovered b.clauses t.assignments clause

none_end : (pairs : List (ℕ × List ℤ)) (b : BookState) (t : TrailState) (assumed hints : List ℤ) → IsAtRest b t → AreCovered pairs b t → AreRoots t.assignments assumed → ¬ Ends pairs assumed hints
none_end pairs b t assumed [] rest covered roots h = h
none_end pairs b t assumed (pos id ∷ hints) rest covered roots (clause, at, inl passed) =
    none_end pairs b t assumed hints rest covered roots passed.1
none_end pairs b t assumed (pos id ∷ hints) rest covered roots (clause, at, inr (inl refuted)) =
    not_refuted b t assumed clause rest roots (covered id clause at) refuted
none_end pairs b t assumed (pos id ∷ hints) rest covered roots (clause, at, inr (inr unit)) =
    let l = unit.0 in
    let here = unit_root b t assumed clause l rest roots (covered id clause at) unit.1 in
    let P : ℤ → Type 0 = λ x. IsRoot t.assignments x in
    none_end pairs b t (assumed ++ l ∷ []) hints rest covered
    (λ m m_in. elim (or_cases (has assumed m) (has (l ∷ []) m) (sym (has-append assumed (l ∷ []) m) ∙ m_in)) [
      | inl old ↦ roots m old
      | inr new ↦ subst P (only_literal l m new) here
    ]) unit.2
none_end pairs b t assumed (negsuc n ∷ hints) rest covered roots h = h

found_inside : (n : ℕ) (cs : List (List ℤ)) (id : ℕ) (clause : List ℤ) → clause_at (enumerate_from n cs) id ≡ Some clause → Contains cs clause
found_inside n [] id clause h = cc
found_inside n (c ∷ cs) id clause h =
    elim (cases_Bool (eqb n id)) [
      | inl e ↦ (let here : Some c ≡ Some clause = rw e at h in
          let same : c ≡ clause = cc in
          subst (λ d. Contains (c ∷ cs) d) same (contains_head c cs))
      | inr e ↦ Contains-append_right (c ∷ []) cs clause (found_inside (n + 1) cs id clause (rw e at h))
    ]

pub undecided : (formula : CnfFormula) (steps : List LratStep) (b : BookState) (t : TrailState) (hints : List ℤ) → IsAtRest b t → ((clause : List ℤ) → Contains (earlier formula steps) clause → IsCovered b.clauses t.assignments clause) → ¬ Ends (live formula steps) [] hints
undecided formula steps b t hints rest covered =
    none_end (live formula steps) b t [] hints rest (λ id clause at. covered clause (found_inside 1 (earlier formula steps) id clause at)) (λ l h. cc)
