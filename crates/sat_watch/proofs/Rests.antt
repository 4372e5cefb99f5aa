-- Clauses that rest: what keeps them so, and what follows when all literals were looked at.
use Rattle.std.proofs.Common.{◌≡◌, ℕ, true, false, eqb, ℤ, neg_ℤ, nat_abs, Some, List, [], ◌∷◌, ◌++◌, map, refl, ap, sym, ◌∙◌, subst, arith, inl, inr}
use Rattle.std.specs.List.{slice_get, All}
use Rattle.std.proofs.lemmas.List.Elements.{All-head, All-tail}
use Rattle.std.proofs.lemmas.Bool.{cases_Bool, or_cases, or_parts, or_right, both_ways, eqb-false}
use Rattle.std.proofs.lemmas.Map.Keys.{IsDistinct-head}
use Rattle.cnf_base.specs.Status.{same_lit, has, IsOpenIn, IsFalsifiedIn, IsUnitIn}
use Rattle.cnf_base.proofs.Literals.{same_lit-true, same_lit-apart, has-head, has-append}
use Rattle.sat_trail.specs.declared.truth.Value.TheVariants.{Unset}
use Rattle.sat_trail.specs.Trail.{Assignment, lits, value_in}
use Rattle.sat_watch.specs.Book.{IsBookClause}
use Rattle.sat_watch.specs.Scanning.{Rests, RestsAt}
use Rattle.sat_watch.proofs.Units.{lits-append}
use Rattle.sat_watch.proofs.Status.{in_first, in_last}

-- a clause that was unit passes with its literal
pub Rests-forced : (true_lits looked_at clause : List ℤ) (l : ℤ) → IsUnitIn true_lits clause l → Rests (true_lits ++ l ∷ []) looked_at clause
Rests-forced true_lits looked_at clause l h = inl (l, h.inside, in_last true_lits l)

-- ---- more literals are true, fewer were looked at

pub has_not_left : (a b : List ℤ) (l : ℤ) → has (a ++ b) l ≡ false → has a l ≡ false
has_not_left a b l h = (or_parts (has a l) (has b l) (sym (has-append a b l) ∙ h)).0

pub Rests-more : (true_lits more looked_at clause : List ℤ) → Rests true_lits looked_at clause → Rests (true_lits ++ more) looked_at clause
Rests-more true_lits more looked_at clause (inl p) = inl (p.0, p.1, in_first true_lits more p.0 p.2)
Rests-more true_lits more looked_at clause (inr t) = inr t

pub Rests-fewer : (true_lits looked_at more clause : List ℤ) → Rests true_lits (looked_at ++ more) clause → Rests true_lits looked_at clause
Rests-fewer true_lits looked_at more clause (inl p) = inl p
Rests-fewer true_lits looked_at more clause (inr t) =
    inr (record {
      first = t.first;
      second = t.second;
      first_in = t.first_in;
      second_in = t.second_in;
      different = t.different;
      first_free = has_not_left looked_at more (neg_ℤ t.first) t.first_free;
      second_free = has_not_left looked_at more (neg_ℤ t.second) t.second_free;
    })

-- ---- all were looked at

-- no literal makes the clause false or unit
pub record IsQuiet (true_lits clause : List ℤ) : Type 0 where
  pub not_false : ¬ IsFalsifiedIn true_lits clause
  pub not_unit : (l : ℤ) → ¬ IsUnitIn true_lits clause l

pub quiet_from_rests : (true_lits clause : List ℤ) → Rests true_lits true_lits clause → IsQuiet true_lits clause
quiet_from_rests true_lits clause (inl p) =
    record {
      not_false = λ refuted. both_ways (has true_lits p.0) (refuted p.0 p.1).0 p.2;
      not_unit = λ l unit. elim (cases_Bool (same_lit p.0 l)) [
        | inl e ↦ (let P : ℤ → Type 0 = λ y. has true_lits y ≡ true in both_ways (has true_lits l) unit.open_here.0 (subst P (same_lit-true p.0 l e) p.2))
        | inr e ↦ both_ways (has true_lits p.0) (unit.others p.0 p.1 (same_lit-apart p.0 l e)).0 p.2
      ];
    }
quiet_from_rests true_lits clause (inr t) =
    record {
      not_false = λ refuted. both_ways (has true_lits (neg_ℤ t.first)) t.first_free (refuted t.first t.first_in).1;
      not_unit = λ l unit. elim (cases_Bool (same_lit t.first l)) [
        | inl e ↦ both_ways (has true_lits (neg_ℤ t.second)) t.second_free (unit.others t.second t.second_in (λ same. t.different (same_lit-true t.first l e ∙ sym same))).1
        | inr e ↦ both_ways (has true_lits (neg_ℤ t.first)) t.first_free (unit.others t.first t.first_in (same_lit-apart t.first l e)).1
      ];
    }

-- no clause of a book is false or unit where nothing is true
pub quiet_nothing : (vars : ℕ) (clause : List ℤ) → IsBookClause vars clause → IsQuiet [] clause
quiet_nothing vars [] h = let two = h.two in absurd (omega arith)
quiet_nothing vars (a ∷ []) h = let two = h.two in absurd (omega arith)
quiet_nothing vars (a ∷ b ∷ rest) h =
    let apart : eqb (nat_abs a) (nat_abs b) ≡ false = (IsDistinct-head eqb (nat_abs a) (nat_abs b ∷ map nat_abs rest) h.distinct).0 in
    let differ : a ≡ b → ⊥ = λ e. eqb-false (nat_abs a) (nat_abs b) apart (ap nat_abs e) in
    quiet_from_rests [] (a ∷ b ∷ rest) (inr (record {
      first = a;
      second = b;
      first_in = has-head a (b ∷ rest);
      second_in = or_right (same_lit a b) (has (b ∷ rest) b) (has-head b rest);
      different = differ;
      first_free = refl;
      second_free = refl;
    }))

pub unset_from_open : (true_lits : List ℤ) (l : ℤ) → IsOpenIn true_lits l → value_in true_lits l ≡ Unset
unset_from_open true_lits l h = rw (h.0, h.1) refl

-- what holds of each literal of a clause
pub of_literal : (P : ℤ → Type 0) (clause : List ℤ) (l : ℤ) → All P clause → has clause l ≡ true → P l
of_literal P [] l all h = cc
of_literal P (m ∷ ms) l all h =
    elim (or_cases (same_lit m l) (has ms l) h) [
      | inl e ↦ subst P (same_lit-true m l e) (All-head P m ms all)
      | inr e ↦ of_literal P ms l (All-tail P m ms all) e
    ]

-- the clause at a place is one
pub RestsAt-from : (clauses : List (List ℤ)) (true_lits looked_at clause : List ℤ) (place : ℕ) → slice_get clauses place ≡ Some clause → Rests true_lits looked_at clause → RestsAt clauses true_lits looked_at place
RestsAt-from clauses true_lits looked_at clause place is h other same =
    let P : List ℤ → Type 0 = λ c. Rests true_lits looked_at c in
    let e : clause ≡ other = cc in
    subst P e h

-- a later trail
pub RestsAt-later : (clauses : List (List ℤ)) (a b more : List Assignment) (looked_at : List ℤ) (place : ℕ) → b ≡ a ++ more → RestsAt clauses (lits a) looked_at place → RestsAt clauses (lits b) looked_at place
RestsAt-later clauses a b more looked_at place is h clause there =
    let P : List ℤ → Type 0 = λ ls. Rests ls looked_at clause in
    subst P (sym (ap lits is ∙ lits-append a more)) (Rests-more (lits a) (lits more) looked_at clause (h clause there))

-- fewer were looked at
pub RestsAt-fewer : (clauses : List (List ℤ)) (true_lits : List ℤ) (a b more : List Assignment) (place : ℕ) → b ≡ a ++ more → RestsAt clauses true_lits (lits b) place → RestsAt clauses true_lits (lits a) place
RestsAt-fewer clauses true_lits a b more place is h clause there =
    let P : List ℤ → Type 0 = λ ls. Rests true_lits ls clause in
    Rests-fewer true_lits (lits a) (lits more) clause (subst P (ap lits is ∙ lits-append a more) (h clause there))
