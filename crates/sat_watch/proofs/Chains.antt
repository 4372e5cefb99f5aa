-- Links that lead through a list of watches.
use Rattle.std.proofs.Common.{◌≡◌, ℕ, zero, suc, ◌≤◌, Option, None, Some, List, [], ◌∷◌, ◌++◌, length, refl, ap, sym, ◌∙◌, subst, arith}
use Rattle.std.specs.List.{Contains, slice_get}
use Rattle.sat_watch.specs.declared.links.Watch.{Watch}
use Rattle.sat_watch.specs.Links.{next_of, chain, Leads, last_of}
use Rattle.sat_watch.proofs.Distinctness.{contains_here, contains_later}

chain_end : (watches : List Watch) (n : ℕ) → chain n watches None ≡ []
chain_end watches zero = refl
chain_end watches (suc n) = refl

-- the chain of a link is what it leads through
pub chain-leads : (watches : List Watch) (n : ℕ) (link : Option ℕ) (xs : List ℕ) → Leads watches link xs None → length xs ≤ n → chain n watches link ≡ xs
chain-leads watches n link [] h le = ap (chain n watches) h ∙ chain_end watches n
chain-leads watches zero link (x ∷ xs) h le = absurd (omega arith)
chain-leads watches (suc n) link (x ∷ xs) h le =
    ap (chain (suc n) watches) h.0 ∙ ap (λ r. x ∷ r) (chain-leads watches n (next_of watches x) xs h.1 (omega arith))

pub Leads-first : (watches : List Watch) (link : Option ℕ) (xs : List ℕ) → Leads watches link xs None → link ≡ slice_get xs 0
Leads-first watches link [] h = h
Leads-first watches link (x ∷ xs) h = h.0

pub Leads-split : (watches : List Watch) (link : Option ℕ) (xs : List ℕ) (v : ℕ) (ys : List ℕ) (to : Option ℕ) → Leads watches link (xs ++ v ∷ ys) to → Leads watches link xs (Some v) × Leads watches (next_of watches v) ys to
Leads-split watches link [] v ys to h = (h.0, h.1)
Leads-split watches link (x ∷ xs) v ys to h =
    let rest = Leads-split watches (next_of watches x) xs v ys to h.1 in
    ((h.0, rest.0), rest.1)

pub Leads-join : (watches : List Watch) (link : Option ℕ) (xs : List ℕ) (mid : Option ℕ) (ys : List ℕ) (to : Option ℕ) → Leads watches link xs mid → Leads watches mid ys to → Leads watches link (xs ++ ys) to
Leads-join watches link [] mid ys to h k =
    let P : Option ℕ → Type 0 = λ o. Leads watches o ys to in
    subst P (sym h) k
Leads-join watches link (x ∷ xs) mid ys to h k = (h.0, Leads-join watches (next_of watches x) xs mid ys to h.1 k)

-- what follows a place is led to from the place's first
pub Leads-rest : (watches : List Watch) (link : Option ℕ) (xs ys : List ℕ) → Leads watches link (xs ++ ys) None → Leads watches (slice_get ys 0) ys None
Leads-rest watches link xs [] h = refl
Leads-rest watches link xs (y ∷ ys) h = (refl, (Leads-split watches link xs y ys None h).1)

-- the links of these watches are the same elsewhere
pub Leads-same : (watches others : List Watch) (link : Option ℕ) (xs : List ℕ) (to : Option ℕ) → ((v : ℕ) → Contains xs v → next_of others v ≡ next_of watches v) → Leads watches link xs to → Leads others link xs to
Leads-same watches others link [] to same h = h
Leads-same watches others link (x ∷ xs) to same h =
    let P : Option ℕ → Type 0 = λ o. Leads others o xs to in
    (h.0, subst P (sym (same x (contains_here x xs))) (Leads-same watches others (next_of watches x) xs to (λ v c. same v (contains_later v x xs c)) h.1))

pub last_of-push : (xs : List ℕ) (x : ℕ) → last_of (xs ++ x ∷ []) ≡ Some x
last_of-push [] x = refl
last_of-push (y ∷ []) x = refl
last_of-push (y ∷ z ∷ zs) x = last_of-push (z ∷ zs) x

pub last_of_none : (xs : List ℕ) → last_of xs ≡ None → xs ≡ []
last_of_none [] e = refl
last_of_none (x ∷ []) e = cc
last_of_none (x ∷ y ∷ ys) e = (let later = last_of_none (y ∷ ys) e in cc)

pub record EndsIn (xs : List ℕ) (x : ℕ) : Type 0 where
  pub init : List ℕ
  pub parts : xs ≡ init ++ x ∷ []

pub last_of_some : (xs : List ℕ) (x : ℕ) → last_of xs ≡ Some x → EndsIn xs x
last_of_some [] x e = cc
last_of_some (y ∷ []) x e = record { init = []; parts = cc }
last_of_some (y ∷ z ∷ zs) x e =
    let later = last_of_some (z ∷ zs) x e in
    record { init = y ∷ later.init; parts = ap (λ r. y ∷ r) later.parts }
