-- Some of a list's clauses, in their order.
use Rattle.std.proofs.Common.{◌≡◌, ℕ, zero, suc, ◌<◌, ◌≤◌, ℤ, List, [], ◌∷◌, ◌++◌, length, get_or, refl, sym, subst, inl, inr, arith, All, Contains}
use Rattle.std.proofs.lemmas.List.Elements.{All-cons, All-head, All-tail, All-nil, All-contains, All-contains_itself}
use Rattle.inv_prover.specs.Greatest.{IsPart}

pub none : (all : List (List ℤ)) → IsPart [] all
none [] = tt
none (y ∷ all) = tt

-- one more clause in the list, left out
pub left_out : (part all : List (List ℤ)) (y : List ℤ) → IsPart part all → IsPart part (all ++ y ∷ [])
left_out [] all y h = none (all ++ y ∷ [])
left_out (x ∷ part) [] y h = absurd h
left_out (x ∷ part) (z ∷ all) y (inl h) = inl (h.0, left_out part all y h.1)
left_out (x ∷ part) (z ∷ all) y (inr h) = inr (left_out (x ∷ part) all y h)

-- one more, taken
pub taken : (part all : List (List ℤ)) (y : List ℤ) → IsPart part all → IsPart (part ++ y ∷ []) (all ++ y ∷ [])
taken [] [] y h = inl (refl, none [])
taken [] (z ∷ all) y h = inr (taken [] all y (none all))
taken (x ∷ part) [] y h = absurd h
taken (x ∷ part) (z ∷ all) y (inl h) = inl (h.0, taken part all y h.1)
taken (x ∷ part) (z ∷ all) y (inr h) = inr (taken (x ∷ part) all y h)

pub itself : (all : List (List ℤ)) → IsPart all all
itself [] = tt
itself (x ∷ all) = inl (refl, itself all)

pub again : (least part all : List (List ℤ)) → IsPart least part → IsPart part all → IsPart least all
again [] part all h k = none all
again (x ∷ least) [] all h k = absurd h
again (x ∷ least) (y ∷ part) [] h k = absurd k
again (x ∷ least) (y ∷ part) (z ∷ all) (inl h) (inl k) =
    inl (subst (λ (w : List ℤ). x ≡ w) k.0 h.0, again least part all h.1 k.1)
again (x ∷ least) (y ∷ part) (z ∷ all) (inr h) (inl k) = inr (again (x ∷ least) part all h k.1)
again (x ∷ least) (y ∷ part) (z ∷ all) (inl h) (inr k) = inr (again (x ∷ least) (y ∷ part) all (inl h) k)
again (x ∷ least) (y ∷ part) (z ∷ all) (inr h) (inr k) = inr (again (x ∷ least) (y ∷ part) all (inr h) k)

-- what holds of all holds of some
pub each : (P : List ℤ → Type 0) (part all : List (List ℤ)) → IsPart part all → All P all → All P part
each P [] all h k = All-nil P
each P (x ∷ part) [] h k = absurd h
each P (x ∷ part) (y ∷ all) (inl h) k =
    All-cons P x part (subst P (sym h.0) (All-head P y all k)) (each P part all h.1 (All-tail P y all k))
each P (x ∷ part) (y ∷ all) (inr h) k = each P (x ∷ part) all h (All-tail P y all k)

pub among : (part all : List (List ℤ)) → IsPart part all → All (Contains all) part
among part all h = each (Contains all) part all h (All-contains_itself all)

pub has : (part all : List (List ℤ)) (x : List ℤ) → IsPart part all → Contains part x → Contains all x
has part all x h k = All-contains (Contains all) part x (among part all h) k

pub fewer : (part all : List (List ℤ)) → IsPart part all → length part ≤ length all
fewer [] all h = omega arith
fewer (x ∷ part) [] h = absurd h
fewer (x ∷ part) (y ∷ all) (inl h) = let k = fewer part all h.1 in omega arith
fewer (x ∷ part) (y ∷ all) (inr h) = let k = fewer (x ∷ part) all h in omega arith

-- where one is left out
pub less : (P : List ℤ → Type 0) (part all : List (List ℤ)) (k : ℕ) → IsPart part all → All P part → k < length all → ¬ P (get_or all k [])
    → length part < length all
less P [] all k h holds inside fails = omega arith
less P (x ∷ part) [] k h holds inside fails = absurd h
less P (x ∷ part) (y ∷ all) zero (inl h) holds inside fails = absurd (fails (subst P h.0 (All-head P x part holds)))
less P (x ∷ part) (y ∷ all) (suc k) (inl h) holds inside fails =
    let n = less P part all k h.1 (All-tail P x part holds) (omega arith) fails in omega arith
less P (x ∷ part) (y ∷ all) k (inr h) holds inside fails = let n = fewer (x ∷ part) all h in omega arith
