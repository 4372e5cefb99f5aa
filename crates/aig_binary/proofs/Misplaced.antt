-- The first literal that isn't the next one.
use Rattle.std.proofs.Common.{◌≡◌, ◌≢◌, ℕ, zero, suc, ◌+◌, ◌*◌, ◌<◌, ◌≤◌, Option, Some, None, MatchOption, List, [], ◌∷◌, ◌++◌, length, take, drop, get_or, map, refl, sym, ap, ◌∙◌, subst, inl, inr, arith, append_assoc, drop-cons}
use Rattle.std.proofs.lemmas.List.{length-append, length-map, take_all, take_more, take-append-drop, get_or_at, get_or-map, get_or_default}
use Rattle.std.proofs.Math.ListN.{get_or-append}
use Rattle.std.proofs.lemmas.Bool.{cases_eq, cases_lt}
use Rattle.std.proofs.lemmas.List.FromFn.{map-range_with_len_more, length-map-range_with_len, get_or-map-range_with_len}
use Rattle.aig_model.specs.WellFormed.{definers, latch_lits, left_sides}
use Rattle.aig_model.specs.declared.parts.Latch.{Latch}
use Rattle.aig_model.specs.declared.parts.AndGate.{AndGate}
use Rattle.aig_model.specs.declared.parts.Parts.{Parts}
use Rattle.aig_binary.specs.BinaryOrder.{lits_from, AreInPlace, IsMisplaced, IsBinary, IsNotBinary}

pub length-lits_from : (v n : ℕ) → length (lits_from v n) ≡ n
length-lits_from v n = length-map-range_with_len (λ x. 2 * x) v n

pub lits_from-append : (v m n : ℕ) → lits_from v m ++ lits_from (v + m) n ≡ lits_from v (m + n)
lits_from-append v zero n = ap (λ x. lits_from x n) (let e : v + zero ≡ v = omega arith in e) ∙ ap (λ x. lits_from v x) (let e : n ≡ zero + n = omega arith in e)
lits_from-append v (suc m) n =
    ap (λ x. 2 * v ∷ (lits_from (v + 1) m ++ lits_from x n)) (let e : v + suc m ≡ v + 1 + m = omega arith in e)
    ∙ ap (λ xs. 2 * v ∷ xs) (lits_from-append (v + 1) m n)
    ∙ ap (λ x. lits_from v x) (let e : suc (m + n) ≡ suc m + n = omega arith in e)

-- ---- one after another

-- the literals so far are in place
pub one-more : (lits : List ℕ) (v k : ℕ) → take k lits ≡ lits_from v k → k < length lits → get_or lits k 0 ≡ 2 * (v + k) → take (k + 1) lits ≡ lits_from v (k + 1)
one-more lits v k so inside is = take_more lits k 0 inside ∙ ap (λ xs. xs ++ get_or lits k 0 ∷ []) so ∙ ap (λ x. lits_from v k ++ x ∷ []) is ∙ sym (map-range_with_len_more (λ x. 2 * x) v k (v + k) refl)

pub all-in-place : (lits : List ℕ) (v k : ℕ) → take k lits ≡ lits_from v k → length lits ≤ k → k ≤ length lits → AreInPlace v lits
all-in-place lits v k so over under =
    let e : k ≡ length lits = omega arith in
    sym (take_all k lits over) ∙ so ∙ ap (λ n. lits_from v n) e

pub here-misplaced : (lits : List ℕ) (v k : ℕ) → take k lits ≡ lits_from v k → k < length lits → get_or lits k 0 ≢ 2 * (v + k) → IsMisplaced v lits (get_or lits k 0)
here-misplaced lits v k so inside wrong = record {
  before = k;
  after = drop (suc k) lits;
  parts = sym (take-append-drop k lits) ∙ ap (λ xs. xs ++ drop k lits) so ∙ ap (λ xs. lits_from v k ++ xs) (drop-cons lits k 0 inside);
  wrong = wrong;
}

-- ---- lists that are put together

pub both-in-place : (v : ℕ) (xs ys : List ℕ) → AreInPlace v xs → AreInPlace (v + length xs) ys → AreInPlace v (xs ++ ys)
both-in-place v xs ys p q =
    ap (λ l. l ++ ys) p ∙ ap (λ l. lits_from v (length xs) ++ l) q ∙ lits_from-append v (length xs) (length ys) ∙ ap (λ n. lits_from v n) (sym (length-append xs ys))

pub misplaced-front : (v : ℕ) (xs ys : List ℕ) (lit : ℕ) → IsMisplaced v xs lit → IsMisplaced v (xs ++ ys) lit
misplaced-front v xs ys lit m = record {
  before = m.before;
  after = m.after ++ ys;
  parts = ap (λ l. l ++ ys) m.parts ∙ append_assoc (lits_from v m.before) (lit ∷ m.after) ys;
  wrong = m.wrong;
}

pub misplaced-behind : (v : ℕ) (xs ys : List ℕ) (lit : ℕ) → AreInPlace v xs → IsMisplaced (v + length xs) ys lit → IsMisplaced v (xs ++ ys) lit
misplaced-behind v xs ys lit p m = record {
  before = length xs + m.before;
  after = m.after;
  parts = ap (λ l. l ++ ys) p ∙ ap (λ l. lits_from v (length xs) ++ l) m.parts ∙ sym (append_assoc (lits_from v (length xs)) (lits_from (v + length xs) m.before) (lit ∷ m.after))
      ∙ ap (λ l. l ++ lit ∷ m.after) (lits_from-append v (length xs) m.before);
  wrong = λ e. m.wrong (e ∙ (let s : 2 * (v + (length xs + m.before)) ≡ 2 * (v + length xs + m.before) = omega arith in s));
}

-- ---- one answer

at-misplaced : (v : ℕ) (lits : List ℕ) (lit : ℕ) (m : IsMisplaced v lits lit) → get_or lits m.before 0 ≡ lit
at-misplaced v lits lit m =
    ap (λ l. get_or l m.before 0) m.parts ∙ get_or_at (lits_from v m.before) lit m.after 0 m.before (length-lits_from v m.before)

before-misplaced : (v : ℕ) (lits : List ℕ) (lit : ℕ) (m : IsMisplaced v lits lit) (k : ℕ) → k < m.before → get_or lits k 0 ≡ 2 * (v + k)
before-misplaced v lits lit m k h =
    ap (λ l. get_or l k 0) m.parts ∙ get_or-append (lits_from v m.before) (lit ∷ m.after) 0 k (omega (arith, length-lits_from v m.before))
    ∙ get_or-map-range_with_len (λ x. 2 * x) v m.before k (v + k) 0 h refl

inside-misplaced : (v : ℕ) (lits : List ℕ) (lit : ℕ) (m : IsMisplaced v lits lit) → m.before < length lits
inside-misplaced v lits lit m = omega (arith, ap length m.parts, length-append (lits_from v m.before) (lit ∷ m.after), length-lits_from v m.before)

pub one-misplaced : (v : ℕ) (lits : List ℕ) (l n : ℕ) → IsMisplaced v lits l → IsMisplaced v lits n → l ≡ n
one-misplaced v lits l n p q =
    elim (cases_eq p.before q.before) [
      | inl e ↦ sym (at-misplaced v lits l p) ∙ ap (λ k. get_or lits k 0) e ∙ at-misplaced v lits n q
      | inr ne ↦
          elim (cases_lt p.before q.before) [
            | inl lt ↦ absurd (p.wrong (sym (at-misplaced v lits l p) ∙ before-misplaced v lits n q p.before lt))
            | inr ge ↦ let lt : q.before < p.before = omega arith in absurd (q.wrong (sym (at-misplaced v lits n q) ∙ before-misplaced v lits l p q.before lt))
          ]
    ]

pub in-place-or-not : (v : ℕ) (lits : List ℕ) (lit : ℕ) → AreInPlace v lits → IsMisplaced v lits lit → ⊥
in-place-or-not v lits lit p m =
    let inside = inside-misplaced v lits lit m in
    m.wrong (sym (at-misplaced v lits lit m) ∙ ap (λ l. get_or l m.before 0) p ∙ get_or-map-range_with_len (λ x. 2 * x) v (length lits) m.before (v + m.before) 0 inside refl)

-- ---- the whole

pub not-both : (c : Parts) (lit : ℕ) → IsBinary c → IsNotBinary c lit → ⊥
not-both c lit b n =
    elim n [
      | inl m ↦ in-place-or-not 1 (definers c) lit b.in_order m
      | inr r ↦ r.top b.top
    ]

pub one-refusal : (c : Parts) (l n : ℕ) → IsNotBinary c l → IsNotBinary c n → l ≡ n
one-refusal c l n p q =
    elim p [
      | inl m ↦ elim q [ inl k ↦ one-misplaced 1 (definers c) l n m k | inr r ↦ absurd (in-place-or-not 1 (definers c) l r.in_order m) ]
      | inr r ↦ elim q [ inl k ↦ absurd (in-place-or-not 1 (definers c) n r.in_order k) | inr s ↦ r.none ∙ sym s.none ]
    ]

-- ---- items of a section

pub lit-of : {A : Type 0} (f : A → ℕ) (xs : List A) (k : ℕ) (x : A) → k < length xs → x ≡ get_or xs k x → get_or (map f xs) k 0 ≡ f x
lit-of f xs k x inside is = get_or-map f xs k x 0 inside ∙ ap f (sym is)

pub input-of : (xs : List ℕ) (k x : ℕ) → k < length xs → x ≡ get_or xs k x → get_or xs k 0 ≡ x
input-of xs k x inside is = get_or_default xs k 0 x inside ∙ sym is

-- ---- the three sections

definers-of : (c : Parts) (inputs : List ℕ) (latches : List Latch) (gates : List AndGate) → inputs ≡ c.inputs → latches ≡ c.latches → gates ≡ c.gates
    → inputs ++ (latch_lits latches ++ left_sides gates) ≡ definers c
definers-of c inputs latches gates p q r =
    ap (λ xs. xs ++ (latch_lits latches ++ left_sides gates)) p ∙ ap (λ xs. c.inputs ++ (latch_lits xs ++ left_sides gates)) q ∙ ap (λ xs. c.inputs ++ (latch_lits c.latches ++ left_sides xs)) r

pub input-misplaced : (c : Parts) (inputs : List ℕ) (lit : ℕ) → inputs ≡ c.inputs → IsMisplaced 1 inputs lit → IsMisplaced 1 (definers c) lit
input-misplaced c inputs lit p m =
    misplaced-front 1 c.inputs (latch_lits c.latches ++ left_sides c.gates) lit (subst (λ (xs : List ℕ). IsMisplaced 1 xs lit) p m)

pub latch-misplaced : (c : Parts) (inputs : List ℕ) (latches : List Latch) (lit : ℕ) → inputs ≡ c.inputs → latches ≡ c.latches → AreInPlace 1 inputs
    → IsMisplaced (1 + length inputs) (latch_lits latches) lit → IsMisplaced 1 (definers c) lit
latch-misplaced c inputs latches lit p q first m =
    subst (λ (xs : List ℕ). IsMisplaced 1 xs lit) (definers-of c inputs latches c.gates p q refl)
    (misplaced-behind 1 inputs (latch_lits latches ++ left_sides c.gates) lit first (misplaced-front (1 + length inputs) (latch_lits latches) (left_sides c.gates) lit m))

pub gates-checked : (c : Parts) (inputs : List ℕ) (latches : List Latch) (gates : List AndGate) (o : Option ℕ) → inputs ≡ c.inputs → latches ≡ c.latches → gates ≡ c.gates
    → AreInPlace 1 inputs → AreInPlace (1 + length inputs) (latch_lits latches)
    → MatchOption o (AreInPlace (1 + length inputs + length latches) (left_sides gates)) (IsMisplaced (1 + length inputs + length latches) (left_sides gates))
    → MatchOption o (AreInPlace 1 (definers c)) (IsMisplaced 1 (definers c))
gates-checked c inputs latches gates o p q r first second m =
    let L = latch_lits latches in
    let G = left_sides gates in
    let all = definers-of c inputs latches gates p q r in
    let size : length L ≡ length latches = length-map latches (λ (x : Latch). x.lit) in
    let v : 1 + length inputs + length latches ≡ 1 + length inputs + length L = ap (λ n. 1 + length inputs + n) (sym size) in
    let step : (x : Option ℕ) → MatchOption x (AreInPlace (1 + length inputs + length latches) G) (IsMisplaced (1 + length inputs + length latches) G)
    → MatchOption x (AreInPlace 1 (definers c)) (IsMisplaced 1 (definers c)) = λ x. elim x as (λ y. MatchOption y (AreInPlace (1 + length inputs + length latches) G) (IsMisplaced (1 + length inputs + length latches) G)
    → MatchOption y (AreInPlace 1 (definers c)) (IsMisplaced 1 (definers c))) [
      | None ↦ λ h. subst (AreInPlace 1) all (both-in-place 1 inputs (L ++ G) first (both-in-place (1 + length inputs) L G second (subst (λ n. AreInPlace n G) v h)))
      | Some lit ↦ λ h. subst (λ (xs : List ℕ). IsMisplaced 1 xs lit) all
          (misplaced-behind 1 inputs (L ++ G) lit first (misplaced-behind (1 + length inputs) L G lit second (subst (λ n. IsMisplaced n G lit) v h)))
    ] in
    step o m
