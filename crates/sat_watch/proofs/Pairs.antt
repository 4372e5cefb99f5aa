-- The two watched literals of each clause, in the list of all.
use Rattle.std.proofs.Common.{◌≡◌, ◌≢◌, ◌⊎◌, ℕ, ◌+◌, ◌-◌, ◌*◌, ◌/◌, ◌%◌, eqb, ◌<◌, ◌≤◌, ℤ, pos, Some, List, length, get_or, set, take, ap, sym, ◌∙◌, subst, arith, inl, inr}
use Rattle.std.specs.List.{slice_get}
use Rattle.std.proofs.lemmas.Bool.{cases_lt, cases_eq, cond-true, cond-false, eq-eqb, ne_eqb}
use Rattle.std.proofs.lemmas.List.{get_or-set_same, get_or-set_other, get_or-take, get_or-map, length-set, length-map, map-set, take-map}
use Rattle.sat_watch.specs.declared.links.Watch.{Watch}
use Rattle.sat_watch.specs.Kept.{first_lit, second_lit, EachBefore}
use Rattle.sat_watch.specs.Links.{watch_lits}
use Rattle.sat_watch.specs.Watching.{sibling}

-- what holds of each clause from one place up to another, and its two watched literals
abbrev pub EachBetween : ℕ → ℕ → (List ℤ → ℤ → ℤ → Type 0) → List (List ℤ) → List ℤ → Type 0
EachBetween from end R clauses watched = (place : ℕ) (clause : List ℤ) → from ≤ place → place < end → slice_get clauses place ≡ Some clause → R clause (first_lit watched place) (second_lit watched place)

pub lits-set : (watches : List Watch) (w : ℕ) (x : Watch) → watch_lits (set watches w x) ≡ set (watch_lits watches) w x.lit
lits-set watches w x = map-set (λ (y : Watch). y.lit) watches w x

pub length-lits : (watches : List Watch) → length (watch_lits watches) ≡ length watches
length-lits watches = length-map watches (λ (y : Watch). y.lit)

-- a statement at other literals
pub at_literals : (R : List ℤ → ℤ → ℤ → Type 0) (clause : List ℤ) (a b a' b' : ℤ) → a ≡ a' → b ≡ b' → R clause a b → R clause a' b'
at_literals R clause a b a' b' first second h =
    let P : ℤ → Type 0 = λ x. R clause x b in
    let Q : ℤ → Type 0 = λ x. R clause a' x in
    subst Q second (subst P first h)

-- ---- both watches of a clause are written

first_kept : (watched : List ℤ) (place p : ℕ) (a b : ℤ) → p < place → first_lit watched p ≡ first_lit (set (set watched (2 * place) a) (2 * place + 1) b) p
first_kept watched place p a b lt =
    sym (get_or-set_other (set watched (2 * place) a) (2 * place + 1) (2 * p) b (pos 0) (λ e. absurd (omega arith))
    ∙ get_or-set_other watched (2 * place) (2 * p) a (pos 0) (λ e. absurd (omega arith)))

second_kept : (watched : List ℤ) (place p : ℕ) (a b : ℤ) → p < place → second_lit watched p ≡ second_lit (set (set watched (2 * place) a) (2 * place + 1) b) p
second_kept watched place p a b lt =
    sym (get_or-set_other (set watched (2 * place) a) (2 * place + 1) (2 * p + 1) b (pos 0) (λ e. absurd (omega arith))
    ∙ get_or-set_other watched (2 * place) (2 * p + 1) a (pos 0) (λ e. absurd (omega arith)))

pub pair_written : (R : List ℤ → ℤ → ℤ → Type 0) (clauses : List (List ℤ)) (watched : List ℤ) (from place : ℕ) (clause : List ℤ) (a b : ℤ) → 2 * place + 1 < length watched → slice_get clauses place ≡ Some clause → R clause a b → EachBetween from place R clauses watched → EachBetween from (place + 1) R clauses (set (set watched (2 * place) a) (2 * place + 1) b)
pair_written R clauses watched from place clause a b room is here before p c low high there =
    let written = set (set watched (2 * place) a) (2 * place + 1) b in
    elim (cases_lt p place) [
      | inl lt ↦ at_literals R c (first_lit watched p) (second_lit watched p) (first_lit written p) (second_lit written p) (first_kept watched place p a b lt) (second_kept watched place p a b lt) (before p c low lt there)
      | inr ge ↦ (let same : place ≡ p = omega arith in
          let P : ℕ → Type 0 = λ n. slice_get clauses n ≡ Some clause in
          let is_here : slice_get clauses p ≡ Some clause = subst P same is in
          let one : clause ≡ c = cc in
          let first : a ≡ first_lit written place =
          sym (get_or-set_other (set watched (2 * place) a) (2 * place + 1) (2 * place) b (pos 0) (λ e. absurd (omega arith)) ∙ get_or-set_same watched (2 * place) a (pos 0) (omega arith)) in
          let second : b ≡ second_lit written place = sym (get_or-set_same (set watched (2 * place) a) (2 * place + 1) b (pos 0) (omega (arith, length-set watched (2 * place) a))) in
          let Q : ℕ → Type 0 = λ n. R c (first_lit written n) (second_lit written n) in
          let C : List ℤ → Type 0 = λ d. R d a b in
          subst Q same (at_literals R c a b (first_lit written place) (second_lit written place) first second (subst C one here)))
    ]

-- ---- one watch and its sibling

-- a watch is the first or the second of its clause
pub by_parity : (w : ℕ) → ((w ≡ 2 * (w / 2)) × (sibling w ≡ 2 * (w / 2) + 1)) ⊎ ((w ≡ 2 * (w / 2) + 1) × (sibling w ≡ 2 * (w / 2)))
by_parity w =
    elim (cases_eq (w % 2) 0) [
      | inl e ↦ (let same : w ≡ 2 * (w / 2) = omega arith in
          let other : sibling w ≡ w + 1 = cond-true (eqb (w % 2) 0) (w + 1) (w - 1) (eq-eqb (w % 2) 0 e) in
          inl (same, other ∙ ap (λ n. n + 1) same))
      | inr e ↦ (let same : w ≡ 2 * (w / 2) + 1 = omega arith in
          let other : sibling w ≡ w - 1 = cond-false (eqb (w % 2) 0) (w + 1) (w - 1) (ne_eqb (w % 2) 0 e) in
          inr (same, other ∙ omega arith))
    ]

-- what holds of the two in either order
abbrev pub IsSwapped : (List ℤ → ℤ → ℤ → Type 0) → Type 0
IsSwapped R = (c : List ℤ) (a b : ℤ) → R c a b → R c b a

pub at_watch : (R : List ℤ → ℤ → ℤ → Type 0) (watched clause : List ℤ) (w : ℕ) → IsSwapped R → R clause (first_lit watched (w / 2)) (second_lit watched (w / 2)) → R clause (get_or watched w (pos 0)) (get_or watched (sibling w) (pos 0))
at_watch R watched clause w swapped h =
    let at : ℕ → ℤ = λ n. get_or watched n (pos 0) in
    elim (by_parity w) [
      | inl e ↦ at_literals R clause (at (2 * (w / 2))) (at (2 * (w / 2) + 1)) (at w) (at (sibling w)) (ap at (sym e.0)) (ap at (sym e.1)) h
      | inr e ↦ at_literals R clause (at (2 * (w / 2) + 1)) (at (2 * (w / 2))) (at w) (at (sibling w)) (ap at (sym e.0)) (ap at (sym e.1)) (swapped clause (at (2 * (w / 2))) (at (2 * (w / 2) + 1)) h)
    ]

pub from_watch : (R : List ℤ → ℤ → ℤ → Type 0) (watched clause : List ℤ) (w : ℕ) → IsSwapped R → R clause (get_or watched w (pos 0)) (get_or watched (sibling w) (pos 0)) → R clause (first_lit watched (w / 2)) (second_lit watched (w / 2))
from_watch R watched clause w swapped h =
    let at : ℕ → ℤ = λ n. get_or watched n (pos 0) in
    elim (by_parity w) [
      | inl e ↦ at_literals R clause (at w) (at (sibling w)) (at (2 * (w / 2))) (at (2 * (w / 2) + 1)) (ap at e.0) (ap at e.1) h
      | inr e ↦ swapped clause (at (2 * (w / 2) + 1)) (at (2 * (w / 2))) (at_literals R clause (at w) (at (sibling w)) (at (2 * (w / 2) + 1)) (at (2 * (w / 2))) (ap at e.0) (ap at e.1) h)
    ]

pub sibling-apart : (w : ℕ) → sibling w ≢ w
sibling-apart w e = elim (by_parity w) [ inl f ↦ absurd (omega arith) | inr f ↦ absurd (omega arith) ]

pub sibling-within : (w n : ℕ) → w < 2 * n → sibling w < 2 * n
sibling-within w n lt = elim (by_parity w) [ inl f ↦ omega arith | inr f ↦ omega arith ]

-- the literal of a watch
pub lit_read : (watches : List Watch) (w : ℕ) (d : Watch) → w < length watches → get_or (watch_lits watches) w (pos 0) ≡ (get_or watches w d).lit
lit_read watches w d lt = get_or-map (λ (x : Watch). x.lit) watches w d (pos 0) lt

-- ---- a watch is written

-- a statement about each clause that may name its place
abbrev pub EachAt : (ℕ → List ℤ → ℤ → ℤ → Type 0) → List (List ℤ) → List ℤ → Type 0
EachAt R clauses watched = (place : ℕ) (clause : List ℤ) → slice_get clauses place ≡ Some clause → R place clause (first_lit watched place) (second_lit watched place)

pub watch_written : (R : ℕ → List ℤ → ℤ → ℤ → Type 0) (clauses : List (List ℤ)) (watched clause : List ℤ) (w : ℕ) (lit : ℤ) → w < length watched → slice_get clauses (w / 2) ≡ Some clause → IsSwapped (R (w / 2)) → R (w / 2) clause lit (get_or watched (sibling w) (pos 0)) → ((place : ℕ) (c : List ℤ) → place ≢ w / 2 → slice_get clauses place ≡ Some c → R place c (first_lit watched place) (second_lit watched place)) → EachAt R clauses (set watched w lit)
watch_written R clauses watched clause w lit lt is swapped here others place c there =
    let written = set watched w lit in
    elim (cases_eq place (w / 2)) [
      | inl e ↦ (let P : ℕ → Type 0 = λ n. slice_get clauses n ≡ Some c in
          let one : clause ≡ c = (let is_there : slice_get clauses (w / 2) ≡ Some c = subst P e there in cc) in
          let Q : ℕ → Type 0 = λ n. R n c (first_lit written n) (second_lit written n) in
          let C : List ℤ → Type 0 = λ d. R (w / 2) d lit (get_or watched (sibling w) (pos 0)) in
          let moved = at_literals (R (w / 2)) c lit (get_or watched (sibling w) (pos 0)) (get_or written w (pos 0)) (get_or written (sibling w) (pos 0))
          (sym (get_or-set_same watched w lit (pos 0) lt)) (sym (get_or-set_other watched w (sibling w) lit (pos 0) (sibling-apart w))) (subst C one here) in
          subst Q (sym e) (from_watch (R (w / 2)) written c w swapped moved))
      | inr e ↦ (let parity = by_parity w in
          let first_apart : 2 * place ≢ w = λ f. e (omega arith) in
          let second_apart : 2 * place + 1 ≢ w = λ f. e (omega arith) in
          at_literals (R place) c (first_lit watched place) (second_lit watched place) (first_lit written place) (second_lit written place)
          (sym (get_or-set_other watched w (2 * place) lit (pos 0) first_apart)) (sym (get_or-set_other watched w (2 * place + 1) lit (pos 0) second_apart)) (others place c e there))
    ]

-- ---- before a place

pub EachBefore-same : (R : List ℤ → ℤ → ℤ → Type 0) (clauses : List (List ℤ)) (watched watched' : List ℤ) (from : ℕ) → take (2 * from) watched' ≡ take (2 * from) watched → EachBefore from R clauses watched → EachBefore from R clauses watched'
EachBefore-same R clauses watched watched' from same h place c lt there =
    let at : (i : ℕ) → i < 2 * from → get_or watched i (pos 0) ≡ get_or watched' i (pos 0) = λ i below.
    sym (get_or-take (2 * from) watched i (pos 0) below) ∙ ap (λ ls. get_or ls i (pos 0)) (sym same) ∙ get_or-take (2 * from) watched' i (pos 0) below in
    at_literals R c (first_lit watched place) (second_lit watched place) (first_lit watched' place) (second_lit watched' place) (at (2 * place) (omega arith)) (at (2 * place + 1) (omega arith)) (h place c lt there)

pub lits-take : (n : ℕ) (watches : List Watch) → watch_lits (take n watches) ≡ take n (watch_lits watches)
lits-take n watches = sym (take-map (λ (x : Watch). x.lit) n watches)
