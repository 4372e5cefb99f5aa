-- The marks of the goals that are visited.
use Rattle.std.proofs.Common.{◌≡◌, ◌≢◌, ℕ, ◌<◌, Bool, true, false, List, [], ◌∷◌, ◌++◌, length, get_or, set, sym, ap, subst, ◌∙◌, arith, Contains, inl, inr}
use Rattle.std.specs.Prelude.{IsTrue, ◌↔◌}
use Rattle.std.proofs.lemmas.Bool.{cases_eq}
use Rattle.std.proofs.lemmas.List.{length-set, get_or-set_same, get_or-set_other, map_push}
use Rattle.std.proofs.lemmas.List.Elements.{Contains-push, Contains-push_cases, Contains-append_left}
use Rattle.sim_walk.specs.declared.visit.Visit.{Visit}
use Rattle.sim_walk.specs.Walk.{goals_of}
use Rattle.sim_walk.specs.FirstVisits.{IsMarked}

pub marked_more : (seen : List Bool) (vs : List Visit) (v : Visit) → IsMarked seen vs → v.goal < length seen → IsMarked (set seen v.goal true) (vs ++ v ∷ [])
marked_more seen vs v h inside = λ g l. (
    let goals : goals_of (vs ++ v ∷ []) ≡ goals_of vs ++ v.goal ∷ [] = map_push (λ (x : Visit). x.goal) vs v in
    let P : List ℕ → Type 0 = λ gs. IsTrue (get_or (set seen v.goal true) g false) ↔ Contains gs g in
    subst P (sym goals) (elim (cases_eq v.goal g) [
      | inl same ↦ (
          let marked : get_or (set seen v.goal true) g false ≡ true = ap (λ k. get_or (set seen v.goal true) k false) (sym same) ∙ get_or-set_same seen v.goal true false inside in
          (λ _. subst (λ (x : ℕ). Contains (goals_of vs ++ v.goal ∷ []) x) same (Contains-push (goals_of vs) v.goal), λ _. marked)
          )
      | inr other ↦ (
          let differs : g ≢ v.goal = λ e. other (sym e) in
          let same : get_or (set seen v.goal true) g false ≡ get_or seen g false = get_or-set_other seen v.goal g true false differs in
          let before = h g (omega (arith, length-set seen v.goal true)) in (
            λ t. Contains-append_left (goals_of vs) (v.goal ∷ []) g (before.0 (sym same ∙ t)),
            λ has. elim (Contains-push_cases (goals_of vs) v.goal g has) [ inl in_before ↦ same ∙ before.1 in_before | inr e ↦ absurd (other e) ],
          )
          )
    ])
    )
