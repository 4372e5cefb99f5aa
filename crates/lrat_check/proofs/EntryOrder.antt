-- Entries with rising ids, found by halving.
use Rattle.std.proofs.Common.{◌≡◌, ℕ, ◌+◌, ◌<◌, ◌≤◌, List, length, get_or, subst, arith, inl, inr}
use Rattle.std.proofs.lemmas.Bool.{cases_eq}
use Rattle.std.proofs.lemmas.List.{get_or_default}
use Rattle.lrat_check.specs.declared.store.Entry.{Entry}
use Rattle.lrat_check.specs.StoredClauses.{IsRising}

pub ids_below : (es : List Entry) (m id : ℕ) (d : Entry) → IsRising es → m < length es → (get_or es m d).id < id → (k : ℕ) (e : Entry) → k < m + 1 → (get_or es k e).id < id
ids_below es m id d rising lt less k e below =
    let same : get_or es m d ≡ get_or es m e = get_or_default es m d e lt in
    let P : Entry → Type 0 = λ x. x.id < id in
    let here : (get_or es m e).id < id = subst P same less in
    elim (cases_eq k m) [
      | inl at ↦ rw at here
      | inr apart ↦ (let before : (get_or es k e).id < (get_or es m e).id = rising k m e (omega arith) lt in omega arith)
    ]

pub ids_above : (es : List Entry) (m id : ℕ) (d : Entry) → IsRising es → m < length es → id < (get_or es m d).id → (k : ℕ) (e : Entry) → m ≤ k → k < length es → id < (get_or es k e).id
ids_above es m id d rising lt less k e above within =
    let same : get_or es m d ≡ get_or es m e = get_or_default es m d e lt in
    let P : Entry → Type 0 = λ x. id < x.id in
    let here : id < (get_or es m e).id = subst P same less in
    elim (cases_eq k m) [
      | inl at ↦ rw at here
      | inr apart ↦ (let after : (get_or es m e).id < (get_or es k e).id = rising m k e (omega arith) within in omega arith)
    ]
