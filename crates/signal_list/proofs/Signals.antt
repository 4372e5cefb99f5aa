-- What the reference that is read on a line says of the line.
use Rattle.std.proofs.Common.{◌≡◌, ℕ, ◌<◌, ◌≤◌, ◌⊎◌, Bool, true, false, cond, nat_eq, Option, Some, None, Result, Ok, Err, IfOk, IfErr, ok_or, List, [], ◌∷◌, length, slice_get, refl, sym, ap, ◌∙◌, subst, inl, inr, arith, eqb-true}
use Rattle.std.specs.Option.{option_map}
use Rattle.std.specs.Result.{IsErrAnd}
use Rattle.std.proofs.lemmas.List.Elements.{All-contains}
use Rattle.std.proofs.lemmas.Option.{slice_get_within, slice_get_cases}
use Rattle.text_words.specs.Numbers.{natural_of}
use Rattle.aig_model.specs.declared.parts.Named.{Named}
use Rattle.aig_model.specs.declared.parts.Parts.{Parts}
use Rattle.aig_model.specs.declared.parts.Place.{Place}
use Rattle.aig_model.specs.declared.parts.Place.TheVariants as places
use Rattle.aig_model.specs.WellFormed.{limit, latch_lits, Exists, IsSized, AreNames, IsInRange}
use Rattle.signal_list.specs.declared.fault.SigKind.{SigKind}
use Rattle.signal_list.specs.declared.fault.SigKind.TheVariants.{Range, NoName, TwoNames}
use Rattle.signal_list.specs.declared.names.Owner.{Owner}
use Rattle.signal_list.specs.declared.names.Owner.TheVariants.{One, Several}
use Rattle.signal_list.specs.Names.{owner_of, the_owner}
use Rattle.signal_list.specs.SignalText.{Reference, place, literal, name, IsNumbered, IsForm, literal_at, IsNameOf, StandsFor, SpellsSignal, IsOutOfRange, IsLineFault}
use Rattle.signal_list.specs.Reading.{name_in, reference_of, capped_number, capped, IsOwnFault}
use Rattle.signal_list.proofs.Forms.{form-read, length-latch_lits}
use Rattle.signal_list.proofs.Owners.{owner-none, owner-one, owner-several}

-- ---- the reference is the line's form

choose : {A : Type 0} (b : Bool) (x y z : A) → cond b x y ≡ z → ((b ≡ true) × (x ≡ z)) ⊎ ((b ≡ false) × (y ≡ z))
choose true x y z e = inl (refl, e)
choose false x y z e = inr (refl, e)

numbered : (letter b : ℕ) (bs : List ℕ) (to : ℕ → Reference) (r : Reference) → nat_eq b letter ≡ true → option_map to (natural_of bs) ≡ Some r
    → ((k : ℕ) → IsNumbered (letter ∷ []) (b ∷ bs) k → IsForm (to k) (b ∷ bs)) → IsForm r (b ∷ bs)
numbered letter b bs to r is e form =
    let at : (o : Option ℕ) → natural_of bs ≡ o → option_map to o ≡ Some r → IsForm r (b ∷ bs) = λ o. elim o as (λ v. natural_of bs ≡ v → option_map to v ≡ Some r → IsForm r (b ∷ bs)) [
      | None ↦ λ n m. absurd (let no : ◌≡◌ {A = Option Reference} None (Some r) = m in cc)
      | Some k ↦ λ n m. let same : to k ≡ r = cc in subst (λ (q : Reference). IsForm q (b ∷ bs)) same (form k (bs, ap (λ (x : ℕ). x ∷ bs) (eqb-true b letter is), n))
    ] in
    at (natural_of bs) refl e

named : (b : ℕ) (bs : List ℕ) (r : Reference) → nat_eq b 64 ≡ true → name_in bs ≡ Some r → IsForm r (b ∷ bs)
named b [] r is e = absurd (let no : ◌≡◌ {A = Option Reference} None (Some r) = e in cc)
named b (x ∷ bs) r is e =
    let same : name (x ∷ bs) ≡ r = cc in
    subst (λ (q : Reference). IsForm q (b ∷ x ∷ bs)) same ((λ empty. cc), ap (λ (y : ℕ). y ∷ x ∷ bs) (eqb-true b 64 is))

pub form-of : (line : List ℕ) (r : Reference) → reference_of line ≡ Some r → IsForm r line
form-of [] r e = absurd (let no : ◌≡◌ {A = Option Reference} None (Some r) = e in cc)
form-of (b ∷ bs) r e =
    let G : Type 0 = IsForm r (b ∷ bs) in
    elim (choose (nat_eq b 105) _ _ (Some r) e) as (λ _. G) [
      | inl h ↦ numbered 105 b bs (λ k. place (places.Input k)) r h.0 h.1 (λ k n. n)
      | inr h ↦ elim (choose (nat_eq b 108) _ _ (Some r) h.1) as (λ _. G) [
        | inl h ↦ numbered 108 b bs (λ k. place (places.Latch k)) r h.0 h.1 (λ k n. n)
        | inr h ↦ elim (choose (nat_eq b 111) _ _ (Some r) h.1) as (λ _. G) [
          | inl h ↦ numbered 111 b bs (λ k. place (places.Output k)) r h.0 h.1 (λ k n. n)
          | inr h ↦ elim (choose (nat_eq b 98) _ _ (Some r) h.1) as (λ _. G) [
            | inl h ↦ numbered 98 b bs (λ k. place (places.Bad k)) r h.0 h.1 (λ k n. n)
            | inr h ↦ elim (choose (nat_eq b 110) _ _ (Some r) h.1) as (λ _. G) [
              | inl h ↦ numbered 110 b bs (λ k. literal k) r h.0 h.1 (λ k n. n)
              | inr h ↦ elim (choose (nat_eq b 64) _ _ (Some r) h.1) as (λ _. G) [
                | inl h ↦ named b bs r h.0 h.1
                | inr h ↦ absurd (let no : ◌≡◌ {A = Option Reference} None (Some r) = h.1 in cc)
              ]
            ]
          ]
        ]
      ]
    ]

-- ---- numbers that a u32 holds

same-number : (k n : ℕ) → n ≤ 8000000 → capped_number k < n → capped_number k ≡ k
same-number k n few below = omega arith

same-item : {X : Type 0} (xs : List X) (k : ℕ) (x : X) → length xs ≤ limit → slice_get xs (capped_number k) ≡ Some x → slice_get xs k ≡ Some x
same-item xs k x few e =
    let within = slice_get_within xs (capped_number k) x e in
    subst (λ (n : ℕ). slice_get xs n ≡ Some x) (same-number k (length xs) (omega arith) within) e

stands : (c : Parts) (r : Reference) (lit : ℕ) → IsSized c → StandsFor c (capped r) lit → StandsFor c r lit
stands c (place (places.Input k)) lit sized e = same-item c.inputs k lit sized.inputs e
stands c (place (places.Latch k)) lit sized e = same-item (latch_lits c.latches) k lit (omega (arith, length-latch_lits c, sized.latches)) e
stands c (place (places.Output k)) lit sized e = same-item c.outputs k lit sized.outputs e
stands c (place (places.Bad k)) lit sized e = same-item c.bads k lit sized.bads e
stands c (place (places.Constraint k)) lit sized e = same-item c.constraints k lit sized.constraints e
stands c (literal n) lit sized e =
    let top = sized.top in
    let small = e.0 in
    let same : capped_number n ≡ n = same-number n 8000000 (omega arith) (omega arith) in
    (subst (IsInRange c.top) same small, e.1 ∙ same)
stands c (name bytes) lit sized e = e

out-of-range : (c : Parts) (r : Reference) → IsOutOfRange c (capped r) → IsOutOfRange c r
out-of-range c (place (places.Input k)) out = λ within. out (omega arith)
out-of-range c (place (places.Latch k)) out = λ within. out (omega arith)
out-of-range c (place (places.Output k)) out = λ within. out (omega arith)
out-of-range c (place (places.Bad k)) out = λ within. out (omega arith)
out-of-range c (place (places.Constraint k)) out = λ within. out (omega arith)
out-of-range c (literal n) out = λ small. out (omega arith)
out-of-range c (name bytes) out = out

-- ---- what is read on a line

abbrev Reads : List ℕ → Reference → Type 0
Reads line q = Some q ≡ option_map capped (reference_of line)

record Source (line : List ℕ) (q : Reference) : Type 0 where
  pub r : Reference
  pub form : IsForm r line
  pub same : q ≡ capped r

source : (line : List ℕ) (q : Reference) → Reads line q → Source line q
source line q e =
    let at : (o : Option Reference) → reference_of line ≡ o → Some q ≡ option_map capped o → Source line q = λ o. elim o as (λ v. reference_of line ≡ v → Some q ≡ option_map capped v → Source line q) [
      | None ↦ λ is m. absurd (let no : ◌≡◌ {A = Option Reference} (Some q) None = m in cc)
      | Some r ↦ λ is m. record { r = r; form = form-of line r is; same = cc }
    ] in
    at (reference_of line) refl e

pub no-form : (line : List ℕ) → None ≡ option_map capped (reference_of line) → (r : Reference) → ¬ IsForm r line
no-form line e r form =
    let no : ◌≡◌ {A = Option Reference} None (Some (capped r)) = e ∙ ap (option_map capped) (form-read r line form) in
    cc

spelled : (c : Parts) (line : List ℕ) (q : Reference) (lit : ℕ) → IsSized c → Reads line q → StandsFor c q lit → SpellsSignal c line lit
spelled c line q lit sized e s =
    let from = source line q e in
    (from.r, from.form, stands c from.r lit sized (subst (λ (p : Reference). StandsFor c p lit) from.same s))

refused-range : (c : Parts) (line : List ℕ) (q : Reference) → Reads line q → IsOutOfRange c q → (earlier : List ℕ) → IsLineFault c earlier line Range
refused-range c line q e out earlier =
    let from = source line q e in
    (from.r, from.form, out-of-range c from.r (subst (IsOutOfRange c) from.same out))

name-back : (r : Reference) (bytes : List ℕ) → name bytes ≡ capped r → r ≡ name bytes
name-back (place (places.Input k)) bytes e = cc
name-back (place (places.Latch k)) bytes e = cc
name-back (place (places.Output k)) bytes e = cc
name-back (place (places.Bad k)) bytes e = cc
name-back (place (places.Constraint k)) bytes e = cc
name-back (literal n) bytes e = cc
name-back (name other) bytes e = sym e

pub name-form : (line bytes : List ℕ) → Reads line (name bytes) → IsForm (name bytes) line
name-form line bytes e =
    let from = source line (name bytes) e in
    subst (λ (r : Reference). IsForm r line) (name-back from.r bytes from.same) from.form

-- ---- places

within-or-none : {X : Type 0} (xs : List X) (k : ℕ) → slice_get xs k ≡ None → ¬ (k < length xs)
within-or-none {X} xs k none within = elim (slice_get_cases xs k).1 as (λ _. ⊥) [
  | inl some ↦ let no : ◌≡◌ {A = Option X} None (Some some.0) = sym none ∙ some.2 in cc
  | inr past ↦ omega (arith, past.0)
]

pub no-place : (c : Parts) (p : Place) → literal_at c p ≡ None → ¬ Exists c p
no-place c (places.Input k) e = within-or-none c.inputs k e
no-place c (places.Latch k) e = λ within. within-or-none (latch_lits c.latches) k e (omega (arith, within, length-latch_lits c))
no-place c (places.Output k) e = within-or-none c.outputs k e
no-place c (places.Bad k) e = within-or-none c.bads k e
no-place c (places.Constraint k) e = within-or-none c.constraints k e

place-given : (c : Parts) (p : Place) (lit : ℕ) → Ok lit ≡ ok_or (literal_at c p) Range → literal_at c p ≡ Some lit
place-given c p lit e = at (literal_at c p) e
  where
    at : (o : Option ℕ) → Ok lit ≡ ok_or o Range → o ≡ Some lit
    at None h = cc
    at (Some x) h = cc

place-refused : (c : Parts) (p : Place) (kind : SigKind) → Err kind ≡ ok_or (literal_at c p) Range → (Range ≡ kind) × (¬ Exists c p)
place-refused c p kind e = at (literal_at c p) refl e
  where
    at : (o : Option ℕ) → literal_at c p ≡ o → Err kind ≡ ok_or o Range → (Range ≡ kind) × (¬ Exists c p)
    at None is h = (cc, no-place c p is)
    at (Some x) is h = cc

-- ---- what the three kinds of reference answer

pub place-signal : (c : Parts) (line : List ℕ) (p : Place) (r : Result ℕ SigKind) → IsSized c → Reads line (place p) → r ≡ ok_or (literal_at c p) Range → IfOk r (SpellsSignal c line)
place-signal c line p (Ok lit) sized reads e = spelled c line (place p) lit sized reads (place-given c p lit e)
place-signal c line p (Err kind) sized reads e = tt

pub place-fault : (c : Parts) (line : List ℕ) (p : Place) (r : Result ℕ SigKind) → Reads line (place p) → r ≡ ok_or (literal_at c p) Range → IfErr r (IsOwnFault c line)
place-fault c line p (Ok lit) reads e = tt
place-fault c line p (Err kind) reads e =
    let no = place-refused c p kind e in
    λ earlier. subst (IsLineFault c earlier line) no.0 (refused-range c line (place p) reads no.1 earlier)

pub literal-signal : (c : Parts) (line : List ℕ) (top n : ℕ) (r : Result ℕ SigKind) → IsSized c → top ≡ c.top → Reads line (literal n) → IfOk r (λ lit. IsInRange top n × (lit ≡ n))
    → IfOk r (SpellsSignal c line)
literal-signal c line top n (Ok lit) sized is reads h = spelled c line (literal n) lit sized reads (subst (λ (t : ℕ). IsInRange t n) is h.0, h.1)
literal-signal c line top n (Err kind) sized is reads h = tt

pub literal-fault : (c : Parts) (line : List ℕ) (top n : ℕ) (r : Result ℕ SigKind) → top ≡ c.top → Reads line (literal n) → IfErr r (λ kind. (kind ≡ Range) × (¬ IsInRange top n))
    → IfErr r (IsOwnFault c line)
literal-fault c line top n (Ok lit) is reads h = tt
literal-fault c line top n (Err kind) is reads h =
    let above = λ (small : IsInRange c.top n). h.1 (subst (λ (t : ℕ). IsInRange t n) (sym is) small) in
    λ earlier. subst (IsLineFault c earlier line) (sym h.0) (refused-range c line (literal n) reads above earlier)

-- ---- names

pub owned : (c : Parts) (bytes : List ℕ) (owner : Option Owner) (p : Place) → owner ≡ owner_of c.names bytes → Ok p ≡ the_owner owner → IsNameOf c p bytes
owned c bytes None p is e = cc
owned c bytes (Some Several) p is e = cc
owned c bytes (Some (One q)) p is e = let same : q ≡ p = cc in owner-one c bytes p (sym is ∙ ap (λ (x : Place). Some (One x)) same)

pub refused-name : (c : Parts) (line bytes : List ℕ) (owner : Option Owner) (kind : SigKind) → AreNames c → Reads line (name bytes) → owner ≡ owner_of c.names bytes → Err kind ≡ the_owner owner
    → (earlier : List ℕ) → IsLineFault c earlier line kind
refused-name c line bytes None kind names e is r earlier =
    let same : NoName ≡ kind = cc in subst (IsLineFault c earlier line) same (bytes, name-form line bytes e, owner-none c bytes (sym is))
refused-name c line bytes (Some Several) kind names e is r earlier =
    let same : TwoNames ≡ kind = cc in subst (IsLineFault c earlier line) same (bytes, name-form line bytes e, owner-several c bytes names.once (sym is))
refused-name c line bytes (Some (One q)) kind names e is r earlier = cc

pub name-signal : (c : Parts) (line bytes : List ℕ) (p : Place) (r : Result ℕ SigKind) → IsSized c → Reads line (name bytes) → IsNameOf c p bytes → r ≡ ok_or (literal_at c p) Range
    → IfOk r (SpellsSignal c line)
name-signal c line bytes p (Ok lit) sized reads of e = spelled c line (name bytes) lit sized reads (p, of, place-given c p lit e)
name-signal c line bytes p (Err kind) sized reads of e = tt

-- a place with a name exists
pub name-found : (c : Parts) (line bytes : List ℕ) (p : Place) (r : Result ℕ SigKind) → AreNames c → IsNameOf c p bytes → r ≡ ok_or (literal_at c p) Range → IfErr r (IsOwnFault c line)
name-found c line bytes p (Ok lit) names of e = tt
name-found c line bytes p (Err kind) names of e =
    absurd ((place-refused c p kind e).1 (All-contains (λ (n : Named). Exists c n.place) c.names (record { place = p; name = bytes }) names.exist of.has))

-- an error that a `?` hands on
pub handed-on : {A : Type 0} (c : Parts) (line : List ℕ) (r : Result A SigKind) (kind : SigKind) → IsErrAnd r (λ e. e ≡ kind) → IsOwnFault c line kind → IfErr r (IsOwnFault c line)
handed-on c line (Ok x) kind is fault = tt
handed-on c line (Err e) kind is fault = subst (IsOwnFault c line) (sym is) fault
