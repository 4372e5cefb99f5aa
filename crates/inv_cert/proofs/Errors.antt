-- A fault that is handed on by a call with another answer.
use Rattle.std.proofs.Common.{◌≡◌, Result, Ok, Err, ap}

pub err_again : {A B E : Type 0} (x e : E) → ◌≡◌ {A = Result A E} (Err x) (Err e) → ◌≡◌ {A = Result B E} (Err x) (Err e)
err_again x e h = ap (λ f. Err f) (let same : x ≡ e = cc in same)

pub ok_is_no_err : {A E : Type 0} (x : A) (e : E) → ◌≡◌ {A = Result A E} (Ok x) (Err e) → ⊥
ok_is_no_err x e h = cc
