-- Clauses that are watched: what keeps them so, and what follows.
use Rattle.std.proofs.Common.{◌≡◌, ◌≢◌, ℕ, ◌<◌, true, false, ℤ, neg_ℤ, List, [], ◌∷◌, ◌++◌, length, get_or, refl, ap, sym, ◌∙◌, subst, arith, inl, inr}
use Rattle.std.proofs.lemmas.Bool.{cases_Bool, or_from, both_ways, false_from_ne_true}
use Rattle.std.proofs.lemmas.Option.{slice_get-get_or}
use Rattle.cnf_base.specs.Status.{same_lit, has, IsFalseIn}
use Rattle.cnf_base.proofs.Literals.{same_lit-true, same_lit-apart, neg_ℤ-neg_ℤ, has-append, or-false}
use Rattle.sat_trail.specs.Trail.{Assignment, TrailState, lits, upto, IsTrail}
use Rattle.sat_trail.proofs.Levels.{upto-all}
use Rattle.sat_trail.proofs.Consistency.{false_once, has-upto}
use Rattle.sat_watch.specs.Book.{NoneFalse, NoneUnit}
use Rattle.sat_watch.specs.Kept.{IsPair, IsWatched, first_lit, second_lit, Each}
use Rattle.sat_watch.specs.Scanning.{Rests}
use Rattle.sat_watch.specs.Watching.{IsFalseBy, IsChosen}
use Rattle.sat_watch.proofs.Rests.{IsQuiet, has_not_left, quiet_from_rests}
use Rattle.sat_watch.proofs.Status.{in_first}

-- ---- more literals are true, fewer were looked at, one more is looked at

pub IsWatched-more : (true_lits more looked_at clause : List ℤ) (a b : ℤ) → IsWatched true_lits looked_at clause a b → IsWatched (true_lits ++ more) looked_at clause a b
IsWatched-more true_lits more looked_at clause a b (inl p) = inl (p.0, p.1, in_first true_lits more p.0 p.2)
IsWatched-more true_lits more looked_at clause a b (inr free) = inr free

pub IsWatched-fewer : (true_lits looked_at more clause : List ℤ) (a b : ℤ) → IsWatched true_lits (looked_at ++ more) clause a b → IsWatched true_lits looked_at clause a b
IsWatched-fewer true_lits looked_at more clause a b (inl p) = inl p
IsWatched-fewer true_lits looked_at more clause a b (inr free) = inr (has_not_left looked_at more (neg_ℤ a) free.0, has_not_left looked_at more (neg_ℤ b) free.1)

-- a literal that isn't the negation of this one
pub negation_apart : (x a : ℤ) → a ≢ neg_ℤ x → same_lit x (neg_ℤ a) ≡ false
negation_apart x a apart =
    false_from_ne_true (same_lit x (neg_ℤ a)) (λ e. apart (sym (neg_ℤ-neg_ℤ a) ∙ ap neg_ℤ (sym (same_lit-true x (neg_ℤ a) e))))

pub still_free : (looked_at : List ℤ) (x a : ℤ) → a ≢ neg_ℤ x → has looked_at (neg_ℤ a) ≡ false → has (looked_at ++ x ∷ []) (neg_ℤ a) ≡ false
still_free looked_at x a apart free =
    has-append looked_at (x ∷ []) (neg_ℤ a) ∙ or_from (has looked_at (neg_ℤ a)) (has (x ∷ []) (neg_ℤ a)) free (or-false (same_lit x (neg_ℤ a)) ∙ negation_apart x a apart)

-- one that is the negation of neither changes nothing
pub IsWatched-other : (true_lits looked_at clause : List ℤ) (x a b : ℤ) → a ≢ neg_ℤ x → b ≢ neg_ℤ x → IsWatched true_lits looked_at clause a b → IsWatched true_lits (looked_at ++ x ∷ []) clause a b
IsWatched-other true_lits looked_at clause x a b a_apart b_apart (inl p) = inl p
IsWatched-other true_lits looked_at clause x a b a_apart b_apart (inr free) =
    inr (still_free looked_at x a a_apart free.0, still_free looked_at x b b_apart free.1)

-- the two in the other order
pub IsPair-swap : (clause : List ℤ) (a b : ℤ) → IsPair clause a b → IsPair clause b a
IsPair-swap clause a b h = record { first_in = h.second_in; second_in = h.first_in; differ = λ e. h.differ (sym e) }

pub IsWatched-swap : (true_lits looked_at clause : List ℤ) (a b : ℤ) → IsWatched true_lits looked_at clause a b → IsWatched true_lits looked_at clause b a
IsWatched-swap true_lits looked_at clause a b (inl p) = inl p
IsWatched-swap true_lits looked_at clause a b (inr free) = inr (free.1, free.0)

-- a literal that isn't false in place of the first
pub IsWatched-moved : (true_lits looked_at clause : List ℤ) (a b lit : ℤ) → has looked_at (neg_ℤ lit) ≡ false → IsWatched true_lits looked_at clause a b → IsWatched true_lits looked_at clause lit b
IsWatched-moved true_lits looked_at clause a b lit free (inl p) = inl p
IsWatched-moved true_lits looked_at clause a b lit free (inr h) = inr (free, h.1)

-- ---- what follows

pub Rests-watched : (true_lits looked_at clause : List ℤ) (a b : ℤ) → IsPair clause a b → IsWatched true_lits looked_at clause a b → Rests true_lits looked_at clause
Rests-watched true_lits looked_at clause a b pair (inl p) = inl p
Rests-watched true_lits looked_at clause a b pair (inr free) =
    inr (record { first = a; second = b; first_in = pair.first_in; second_in = pair.second_in; different = pair.differ; first_free = free.0; second_free = free.1 })

pub quiet_clause : (true_lits clause : List ℤ) (a b : ℤ) → IsPair clause a b → IsWatched true_lits true_lits clause a b → IsQuiet true_lits clause
quiet_clause true_lits clause a b pair h = quiet_from_rests true_lits clause (Rests-watched true_lits true_lits clause a b pair h)

-- where each clause is watched, propagation is quiet
pub quiet_watched : (clauses : List (List ℤ)) (true_lits watched : List ℤ) → Each IsPair clauses watched → Each (IsWatched true_lits true_lits) clauses watched → NoneFalse clauses true_lits × NoneUnit clauses true_lits
quiet_watched clauses true_lits watched pairs h =
    (λ place d lt. (quiet place d lt).not_false, λ place d lt. (quiet place d lt).not_unit)
  where
    quiet : (place : ℕ) (d : List ℤ) → place < length clauses → IsQuiet true_lits (get_or clauses place d)
    quiet place d lt =
        let clause = get_or clauses place d in
        let there = slice_get-get_or clauses place d lt in
        quiet_clause true_lits clause (first_lit watched place) (second_lit watched place) (pairs place clause there) (h place clause there)

pub watched_nothing : (true_lits clause : List ℤ) (a b : ℤ) → IsWatched true_lits [] clause a b
watched_nothing true_lits clause a b = inr (refl, refl)

-- ---- by choice

-- what is negated up to a level is false there
false_there : (t : TrailState) (k : ℕ) (l : ℤ) → IsTrail t → IsFalseBy t.assignments k l → IsFalseIn (lits (upto k t.assignments)) l
false_there t k l trail f =
    let absent = false_once t trail l (has-upto k t.assignments (neg_ℤ l) f) in
    (false_from_ne_true (has (lits (upto k t.assignments)) l) (λ e. both_ways (has (lits t.assignments) l) absent (has-upto k t.assignments l e)), f)

-- up to a level where the clause is neither false nor unit
pub watched_by_choice : (t : TrailState) (k : ℕ) (clause : List ℤ) (a b : ℤ) → IsTrail t → IsChosen t.assignments clause a b → IsQuiet (lits (upto k t.assignments)) clause → IsWatched (lits (upto k t.assignments)) (lits (upto k t.assignments)) clause a b
watched_by_choice t k clause a b trail h quiet =
    let true_lits = lits (upto k t.assignments) in
    elim (cases_Bool (has true_lits (neg_ℤ b))) [
      | inl b_false ↦ elim (cases_Bool (has true_lits a)) [
        | inl a_true ↦ inl (a, h.pair.first_in, a_true)
        | inr a_not ↦ absurd (elim (cases_Bool (has true_lits (neg_ℤ a))) [
          | inl a_false ↦ quiet.not_false (λ m there. elim (cases_Bool (same_lit m a)) [
            | inl e ↦ (let P : ℤ → Type 0 = λ x. IsFalseIn true_lits x in subst P (sym (same_lit-true m a e)) (a_not, a_false))
            | inr e ↦ false_there t k m trail (h.second_lasts m there (same_lit-apart m a e) k b_false)
          ])
          | inr a_open ↦ quiet.not_unit a (record {
            inside = h.pair.first_in;
            open_here = (a_not, a_open);
            others = λ m there apart. false_there t k m trail (h.second_lasts m there apart k b_false);
          })
        ])
      ]
      | inr b_free ↦ inr (false_from_ne_true (has true_lits (neg_ℤ a)) (λ e. both_ways (has true_lits (neg_ℤ b)) b_free (h.first_lasts k e)), b_free)
    ]

-- under the whole trail, where it rests
pub watched_where_rests : (t : TrailState) (true_lits clause : List ℤ) (a b : ℤ) → IsTrail t → IsChosen t.assignments clause a b → Rests true_lits (lits t.assignments) clause → IsWatched true_lits (lits t.assignments) clause a b
watched_where_rests t true_lits clause a b trail h (inl p) = inl p
watched_where_rests t true_lits clause a b trail h (inr two) =
    let all : upto t.level t.assignments ≡ t.assignments = upto-all t.level 0 t.assignments t.level trail.climbs (omega arith) in
    let P : ℤ → List Assignment → Type 0 = λ l ps. has (lits ps) (neg_ℤ l) ≡ true in
    let others : has (lits t.assignments) (neg_ℤ b) ≡ true → (l : ℤ) → has clause l ≡ true → l ≢ a → has (lits t.assignments) (neg_ℤ l) ≡ true = λ f l there apart. subst (P l) all (h.second_lasts l there apart t.level (subst (P b) (sym all) f)) in
    let b_free : has (lits t.assignments) (neg_ℤ b) ≡ false = false_from_ne_true (has (lits t.assignments) (neg_ℤ b)) (λ f. elim (cases_Bool (same_lit two.first a)) [
      | inl e ↦ both_ways (has (lits t.assignments) (neg_ℤ two.second)) two.second_free (others f two.second two.second_in (λ same. two.different (same_lit-true two.first a e ∙ sym same)))
      | inr e ↦ both_ways (has (lits t.assignments) (neg_ℤ two.first)) two.first_free (others f two.first two.first_in (same_lit-apart two.first a e))
    ]) in
    let a_free : has (lits t.assignments) (neg_ℤ a) ≡ false = false_from_ne_true (has (lits t.assignments) (neg_ℤ a)) (λ f.
    both_ways (has (lits t.assignments) (neg_ℤ b)) b_free (subst (P b) all (h.first_lasts t.level (subst (P a) (sym all) f)))) in
    inr (a_free, b_free)
