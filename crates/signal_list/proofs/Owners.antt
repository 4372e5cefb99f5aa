-- Who has a name: after one symbol more, and what that says of the places.
use Rattle.std.proofs.Common.{◌≡◌, ◌≢◌, ℕ, zero, suc, ◌<◌, ◌⊎◌, Bool, true, false, cond, Some, None, List, [], ◌∷◌, ◌++◌, get_or, refl, sym, ap, ◌∙◌, subst, inl, inr, arith, Contains, AllPairs, filter}
use Rattle.std.specs.Str.{bytes_eq}
use Rattle.std.proofs.lemmas.Bool.Decides.{same_from_decides}
use Rattle.std.proofs.lemmas.List.{append-nil}
use Rattle.std.proofs.lemmas.List.Elements.{filter-append, Contains-append_cases}
use Rattle.std.proofs.lemmas.List.Kept.{AllPairs-filter}
use Rattle.std.proofs.lemmas.Slice.Eq.{bytes_eq-Decides}
use Rattle.aig_model.specs.declared.parts.Parts.{Parts}
use Rattle.aig_model.specs.declared.parts.Place.{Place}
use Rattle.aig_model.specs.declared.parts.Named.{Named}
use Rattle.signal_list.specs.declared.names.Owner.TheVariants.{One, Several}
use Rattle.signal_list.specs.Names.{with_one_more, symbols_of, owner_among, owner_of}
use Rattle.signal_list.specs.SignalText.{HasName, IsNobodysName, IsNameOf, IsSharedName}

-- ---- one symbol more

bytes_eq-sym : (xs ys : List ℕ) → bytes_eq xs ys ≡ bytes_eq ys xs
bytes_eq-sym xs ys =
    let back = bytes_eq-Decides ys xs in
    same_from_decides (bytes_eq xs ys) (bytes_eq ys xs) (bytes_eq-Decides xs ys) (λ t. sym (back.0 t), λ e. back.1 (sym e))

owner_among-push : (ns : List Named) (n : Named) → owner_among (ns ++ n ∷ []) ≡ Some (with_one_more (owner_among ns) n.place)
owner_among-push [] n = refl
owner_among-push (m ∷ []) n = refl
owner_among-push (m ∷ k ∷ ns) n = refl

pub owner_of-push : (names : List Named) (n : Named) (bytes : List ℕ)
    → owner_of (names ++ n ∷ []) bytes ≡ cond (bytes_eq n.name bytes) (Some (with_one_more (owner_of names n.name) n.place)) (owner_of names bytes)
owner_of-push names n bytes =
    let split : symbols_of (names ++ n ∷ []) bytes ≡ symbols_of names bytes ++ cond (bytes_eq bytes n.name) (n ∷ []) [] = filter-append (λ (m : Named). bytes_eq bytes m.name) names (n ∷ []) in
    let at : Bool → Type 0 = λ b. owner_of (names ++ n ∷ []) bytes ≡ cond b (Some (with_one_more (owner_of names n.name) n.place)) (owner_of names bytes) in
    let turned = bytes_eq-sym bytes n.name in
    let step : (b : Bool) → bytes_eq n.name bytes ≡ b → at b = λ b. elim b as (λ v. bytes_eq n.name bytes ≡ v → at v) [
      | true ↦ λ is.
          let same : n.name ≡ bytes = (bytes_eq-Decides n.name bytes).0 is in
          ap owner_among (split ∙ ap (λ (v : Bool). symbols_of names bytes ++ cond v (n ∷ []) []) (turned ∙ is))
          ∙ owner_among-push (symbols_of names bytes) n
          ∙ ap (λ (bs : List ℕ). Some (with_one_more (owner_of names bs) n.place)) (sym same)
      | false ↦ λ is.
          ap owner_among (split ∙ ap (λ (v : Bool). symbols_of names bytes ++ cond v (n ∷ []) []) (turned ∙ is) ∙ append-nil (symbols_of names bytes))
    ] in
    step (bytes_eq n.name bytes) refl

-- ---- the symbols with a name

Contains-cons_cases : {X : Type 0} (x y : X) (xs : List X) → Contains (x ∷ xs) y → (x ≡ y) ⊎ Contains xs y
Contains-cons_cases x y xs h =
    elim (Contains-append_cases (x ∷ []) xs y h) as (λ _. (x ≡ y) ⊎ Contains xs y) [
      | inl here ↦ inl (only x y here.0 here.1 here.2)
      | inr later ↦ inr later
    ]
  where
    only : {X : Type 0} (x y : X) (k : ℕ) → k < 1 → get_or (x ∷ []) k y ≡ y → x ≡ y
    only x y zero few e = e
    only x y (suc k) few e = absurd (omega (arith, few))

Contains-nil : {X : Type 0} (x : X) → ¬ Contains [] x
Contains-nil x h = omega (arith, h.1)

Contains-head : {X : Type 0} (x : X) (xs : List X) → Contains (x ∷ xs) x
Contains-head x xs = (0, omega arith, refl)

Contains-later : {X : Type 0} (x y : X) (xs : List X) → Contains xs y → Contains (x ∷ xs) y
Contains-later x y xs h = (suc h.0, omega (arith, h.1), h.2)

Contains-filter : {X : Type 0} (p : X → Bool) (xs : List X) (x : X) → Contains xs x → p x ≡ true → Contains (filter p xs) x
Contains-filter p [] x h passes = h
Contains-filter {X} p (y ∷ ys) x h passes =
    let at : Bool → Type 0 = λ b. Contains (cond b (y ∷ filter p ys) (filter p ys)) x in
    let step : (b : Bool) → p y ≡ b → at b = λ b. elim b as (λ v. p y ≡ v → at v) [
      | true ↦ λ is. elim (Contains-cons_cases y x ys h) as (λ _. at true) [
        | inl here ↦ subst (λ (z : X). Contains (y ∷ filter p ys) z) here (Contains-head y (filter p ys))
        | inr later ↦ Contains-later y x (filter p ys) (Contains-filter p ys x later passes)
      ]
      | false ↦ λ is. elim (Contains-cons_cases y x ys h) as (λ _. at false) [
        | inl here ↦ absurd (let no = sym passes ∙ ap p (sym here) ∙ is in cc)
        | inr later ↦ Contains-filter p ys x later passes
      ]
    ] in
    step (p y) refl

Contains-from_filter : {X : Type 0} (p : X → Bool) (xs : List X) (x : X) → Contains (filter p xs) x → Contains xs x × (p x ≡ true)
Contains-from_filter p [] x h = absurd (Contains-nil x h)
Contains-from_filter {X} p (y ∷ ys) x h =
    let G : Type 0 = Contains (y ∷ ys) x × (p x ≡ true) in
    let at : Bool → Type 0 = λ b. Contains (cond b (y ∷ filter p ys) (filter p ys)) x → G in
    let deeper : Contains (filter p ys) x → G = λ g. let r = Contains-from_filter p ys x g in (Contains-later y x ys r.0, r.1) in
    let step : (b : Bool) → p y ≡ b → at b = λ b. elim b as (λ v. p y ≡ v → at v) [
      | true ↦ λ is g. elim (Contains-cons_cases y x (filter p ys) g) as (λ _. G) [
        | inl here ↦ (subst (λ (z : X). Contains (y ∷ ys) z) here (Contains-head y ys), ap p (sym here) ∙ is)
        | inr later ↦ deeper later
      ]
      | false ↦ λ is g. deeper g
    ] in
    step (p y) refl h

abbrev symbol : Place → List ℕ → Named
symbol p bytes = record { place = p; name = bytes }

is-among : (names : List Named) (p : Place) (bytes : List ℕ) → Contains names (symbol p bytes) → Contains (symbols_of names bytes) (symbol p bytes)
is-among names p bytes h = Contains-filter (λ (n : Named). bytes_eq bytes n.name) names (symbol p bytes) h ((bytes_eq-Decides bytes bytes).1 refl)

has-name : (names : List Named) (n : Named) (bytes : List ℕ) → Contains (symbols_of names bytes) n → Contains names (symbol n.place bytes)
has-name names n bytes h =
    let r = Contains-from_filter (λ (m : Named). bytes_eq bytes m.name) names n h in
    let same : bytes ≡ n.name = (bytes_eq-Decides bytes n.name).0 r.1 in
    subst (λ (bs : List ℕ). Contains names (symbol n.place bs)) (sym same) r.0

-- ---- what the owner says of the places

pub owner-none : (c : Parts) (bytes : List ℕ) → owner_of c.names bytes ≡ None → IsNobodysName c bytes
owner-none c bytes is p h =
    let at : (ns : List Named) → owner_among ns ≡ None → Contains ns (symbol p bytes) → ⊥ = λ ns. elim ns as (λ v. owner_among v ≡ None → Contains v (symbol p bytes) → ⊥) [
      | [] ↦ λ e g. Contains-nil (symbol p bytes) g
      | (n ∷ more) ↦ λ e g. some n more e
    ] in
    at (symbols_of c.names bytes) is (is-among c.names p bytes h)
  where
    some : (n : Named) (more : List Named) → owner_among (n ∷ more) ≡ None → ⊥
    some n [] e = cc
    some n (m ∷ more) e = cc

pub owner-one : (c : Parts) (bytes : List ℕ) (p : Place) → owner_of c.names bytes ≡ Some (One p) → IsNameOf c p bytes
owner-one c bytes p is = at (symbols_of c.names bytes) refl is
  where
    at : (ns : List Named) → symbols_of c.names bytes ≡ ns → owner_among ns ≡ Some (One p) → IsNameOf c p bytes
    at [] e o = cc
    at (n ∷ m ∷ more) e o = cc
    at (n ∷ []) e o =
        let here : n.place ≡ p = cc in
        let has : HasName c n.place bytes = has-name c.names n bytes (subst (λ (ns : List Named). Contains ns n) (sym e) (Contains-head n [])) in
        record {
          has = subst (λ (q : Place). HasName c q bytes) here has;
          only = λ q g.
              let among : Contains (n ∷ []) (symbol q bytes) = subst (λ (ns : List Named). Contains ns (symbol q bytes)) e (is-among c.names q bytes g) in
              elim (Contains-cons_cases n (symbol q bytes) [] among) as (λ _. q ≡ p) [
                | inl same ↦ sym (ap (λ (m : Named). m.place) same) ∙ here
                | inr none ↦ absurd (Contains-nil (symbol q bytes) none)
              ];
        }

pub owner-several : (c : Parts) (bytes : List ℕ) → AllPairs (λ (m n : Named). m.place ≢ n.place) c.names → owner_of c.names bytes ≡ Some Several → IsSharedName c bytes
owner-several c bytes once is = at (symbols_of c.names bytes) refl is
  where
    at : (ns : List Named) → symbols_of c.names bytes ≡ ns → owner_among ns ≡ Some Several → IsSharedName c bytes
    at [] e o = cc
    at (n ∷ []) e o = cc
    at (n ∷ m ∷ more) e o =
        let distinct : AllPairs (λ (a b : Named). a.place ≢ b.place) (n ∷ m ∷ more) = subst (AllPairs (λ (a b : Named). a.place ≢ b.place)) e (AllPairs-filter (λ (a b : Named). a.place ≢ b.place) (λ (k : Named). bytes_eq bytes k.name) c.names once) in
        let of : (k : Named) → Contains (n ∷ m ∷ more) k → HasName c k.place bytes = λ k h. has-name c.names k bytes (subst (λ (ns : List Named). Contains ns k) (sym e) h) in
        record {
          one = n.place;
          other = m.place;
          one_has = of n (Contains-head n (m ∷ more));
          other_has = of m (Contains-later n m (m ∷ more) (Contains-head m more));
          differ = distinct 0 1 n (omega arith) (omega arith);
        }
