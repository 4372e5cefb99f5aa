-- What a walk has found of variables, and forgets again.
use Rattle.std.proofs.Common.{◌≡◌, ℕ, ◌+◌, ◌<◌, true, eqb, ℤ, nat_abs, List, [], ◌∷◌, ◌++◌, length, map, set, get_or, take, ap, sym, ◌∙◌, subst, inl, inr}
use Rattle.std.specs.List.{list_any}
use Rattle.std.proofs.lemmas.Bool.{cases_eq, eq-eqb, eqb-true, or_cases, or_left, or_right}
use Rattle.std.proofs.lemmas.List.{take_more, get_or-set_same, get_or-set_other}
use Rattle.sat_learn.specs.declared.minimize.Visit.{Visit}
use Rattle.sat_learn.specs.declared.minimize.Visit.TheVariants.{Unknown}
use Rattle.sat_learn.specs.Visiting.{NoneVisited, AreVisitsOf}
use Rattle.sat_learn.proofs.MarkedLiterals.{any_push}

pub visits_begun : (visits : List Visit) (visited : List ℤ) → NoneVisited visits → AreVisitsOf visited visits
visits_begun visits visited none v = inl (none v)

pub visits_done : (visits : List Visit) (visited : List ℤ) → visited ≡ [] → AreVisitsOf visited visits → NoneVisited visits
visits_done visits visited is h v =
    let P : List ℤ → Type 0 = λ ls. AreVisitsOf ls visits in
    elim (subst P is h v) [
      | inl e ↦ e
      | inr e ↦ cc
    ]

-- something is found of the variable of one more literal
pub visits_more : (visits : List Visit) (visited more : List ℤ) (place : ℕ) (l : ℤ) (found : Visit) → more ≡ visited ++ l ∷ [] → place ≡ nat_abs l → AreVisitsOf visited visits → AreVisitsOf more (set visits place found)
visits_more visits visited more place l found is at h v =
    let P : List ℤ → Type 0 = λ ls. list_any (eqb v) (map nat_abs ls) ≡ true in
    elim (cases_eq v place) [
      | inl e ↦ inr (subst P (sym is) (any_push v visited l ∙ or_right (list_any (eqb v) (map nat_abs visited)) (eqb v (nat_abs l)) (eq-eqb v (nat_abs l) (e ∙ at))))
      | inr e ↦ elim (h v) [
        | inl f ↦ inl (get_or-set_other visits place v found Unknown e ∙ f)
        | inr f ↦ inr (subst P (sym is) (any_push v visited l ∙ or_left (list_any (eqb v) (map nat_abs visited)) (eqb v (nat_abs l)) f))
      ]
    ]

-- it is forgotten of the last
pub visits_fewer : (visits : List Visit) (visited : List ℤ) (i : ℕ) (l : ℤ) → i < length visited → l ≡ get_or visited i l → nat_abs l < length visits → AreVisitsOf (take (i + 1) visited) visits → AreVisitsOf (take i visited) (set visits (nat_abs l) Unknown)
visits_fewer visits visited i l lt is room h v =
    let more : take (i + 1) visited ≡ take i visited ++ l ∷ [] = take_more visited i l lt ∙ ap (λ x. take i visited ++ x ∷ []) (sym is) in
    let P : List ℤ → Type 0 = λ ls. AreVisitsOf ls visits in
    elim (cases_eq v (nat_abs l)) [
      | inl e ↦ inl (ap (λ n. get_or (set visits (nat_abs l) Unknown) n Unknown) e ∙ get_or-set_same visits (nat_abs l) Unknown Unknown room)
      | inr e ↦ elim (subst P more h v) [
        | inl f ↦ inl (get_or-set_other visits (nat_abs l) v Unknown Unknown e ∙ f)
        | inr f ↦ elim (or_cases (list_any (eqb v) (map nat_abs (take i visited))) (eqb v (nat_abs l)) (sym (any_push v (take i visited) l) ∙ f)) [
          | inl g ↦ inr g
          | inr g ↦ absurd (e (eqb-true v (nat_abs l) g))
        ]
      ]
    ]
