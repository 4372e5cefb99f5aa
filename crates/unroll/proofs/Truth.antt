-- What it means that values satisfy lists of clauses, and what the literals of a step are.
use Rattle.std.proofs.Common.{◌≡◌, ◌↔◌, ℕ, zero, suc, ◌+◌, ◌-◌, ◌<◌, Bool, true, false, not, ◌&&◌, ◌||◌, if◌then◌else◌, ℤ, pos, negsuc, neg_ℤ, List, [], ◌∷◌, ◌++◌, map, get_or, take, drop, refl, sym, ap, ◌∙◌, arith, All}
use Rattle.std.specs.List.{flat_map}
use Rattle.std.proofs.lemmas.Bool.{false≢true}
use Rattle.std.proofs.lemmas.List.{get_or-take, get_or-drop}
use Rattle.std.proofs.lemmas.List.Elements.{All-nil, All-cons, All-head, All-tail}
use Rattle.cnf_base.specs.Meaning.{lit_true, clause_true, Satisfies, value_of as cnf_value}
use Rattle.aig_model.specs.Literal.{var, is_negated, value_of}
use Rattle.aig_model.specs.Meaning.{Assignment}
use Rattle.unroll.specs.Frames.{lit_after, with_value, unit_clauses}

-- ---- equivalences
pub iff_trans : {P Q R : Type 0} → (P ↔ Q) → (Q ↔ R) → (P ↔ R)
iff_trans first second = (λ p. second.0 (first.0 p), λ r. first.1 (second.1 r))

pub all_iff : {X : Type 0} (O P Q : X → Type 0) (xs : List X) → All O xs → ((x : X) → O x → P x ↔ Q x) → All P xs ↔ All Q xs
all_iff O P Q xs own same =
    (λ all k d h. (same (get_or xs k d) (own k d h)).0 (all k d h), λ all k d h. (same (get_or xs k d) (own k d h)).1 (all k d h))

pub eq_iff : (x y z : Bool) → x ≡ y → (x ≡ z) ↔ (y ≡ z)
eq_iff x y z e = (λ h. sym e ∙ h, λ h. e ∙ h)

-- ---- truth values
pub or-false : (b : Bool) → (b || false) ≡ b
or-false true = refl
or-false false = refl

not-not : (b : Bool) → not (not b) ≡ b
not-not true = refl
not-not false = refl

pub not_true : (b : Bool) → (not b ≡ true) ↔ (b ≡ false)
not_true true = (λ h. sym h, λ h. sym h)
not_true false = (λ h. refl, λ h. refl)

gate_bools : (x y z : Bool) → (((not x || (y || false)) ≡ true) × ((not x || (z || false)) ≡ true) × ((x || (not y || (not z || false))) ≡ true)) ↔ (x ≡ (y && z))
gate_bools true true true = (λ h. refl, λ e. (refl, refl, refl))
gate_bools true true false = (λ h. absurd (false≢true h.1), λ e. absurd (false≢true (sym e)))
gate_bools true false true = (λ h. absurd (false≢true h.0), λ e. absurd (false≢true (sym e)))
gate_bools true false false = (λ h. absurd (false≢true h.0), λ e. absurd (false≢true (sym e)))
gate_bools false true true = (λ h. absurd (false≢true h.2), λ e. absurd (false≢true e))
gate_bools false true false = (λ h. refl, λ e. (refl, refl, refl))
gate_bools false false true = (λ h. refl, λ e. (refl, refl, refl))
gate_bools false false false = (λ h. refl, λ e. (refl, refl, refl))

next_bools : (x y : Bool) → (((not x || (y || false)) ≡ true) × ((x || (not y || false)) ≡ true)) ↔ (x ≡ y)
next_bools true true = (λ h. refl, λ e. (refl, refl))
next_bools true false = (λ h. absurd (false≢true h.0), λ e. absurd (false≢true (sym e)))
next_bools false true = (λ h. absurd (false≢true h.1), λ e. absurd (false≢true e))
next_bools false false = (λ h. refl, λ e. (refl, refl))

neg-neg : (z : ℤ) → neg_ℤ (neg_ℤ z) ≡ z
neg-neg (pos zero) = refl
neg-neg (pos (suc n)) = refl
neg-neg (negsuc n) = refl

-- ---- lists of clauses
sat_apart : (v : ℕ → Bool) (xs ys : List (List ℤ)) → Satisfies v (xs ++ ys) → Satisfies v xs × Satisfies v ys
sat_apart v [] ys h = (tt, h)
sat_apart v (c ∷ xs) ys h = let rest = sat_apart v xs ys h.1 in ((h.0, rest.0), rest.1)

sat_joined : (v : ℕ → Bool) (xs ys : List (List ℤ)) → Satisfies v xs → Satisfies v ys → Satisfies v (xs ++ ys)
sat_joined v [] ys first second = second
sat_joined v (c ∷ xs) ys first second = (first.0, sat_joined v xs ys first.1 second)

pub sat_append : (v : ℕ → Bool) (xs ys : List (List ℤ)) → Satisfies v (xs ++ ys) ↔ (Satisfies v xs × Satisfies v ys)
sat_append v xs ys = (sat_apart v xs ys, λ h. sat_joined v xs ys h.0 h.1)

sat_each : {X : Type 0} (v : ℕ → Bool) (f : X → List (List ℤ)) (xs : List X) → Satisfies v (flat_map f xs) → All (λ x. Satisfies v (f x)) xs
sat_each v f [] h = All-nil (λ x. Satisfies v (f x))
sat_each v f (x ∷ xs) h =
    let parts = sat_apart v (f x) (flat_map f xs) h in All-cons (λ x. Satisfies v (f x)) x xs parts.0 (sat_each v f xs parts.1)

sat_by_each : {X : Type 0} (v : ℕ → Bool) (f : X → List (List ℤ)) (xs : List X) → All (λ x. Satisfies v (f x)) xs → Satisfies v (flat_map f xs)
sat_by_each v f [] all = tt
sat_by_each v f (x ∷ xs) all =
    sat_joined v (f x) (flat_map f xs) (All-head (λ x. Satisfies v (f x)) x xs all) (sat_by_each v f xs (All-tail (λ x. Satisfies v (f x)) x xs all))

pub sat_flat_map : {X : Type 0} (v : ℕ → Bool) (f : X → List (List ℤ)) (xs : List X) → Satisfies v (flat_map f xs) ↔ All (λ x. Satisfies v (f x)) xs
sat_flat_map v f xs = (sat_each v f xs, sat_by_each v f xs)

clauses_each : {X : Type 0} (v : ℕ → Bool) (f : X → List ℤ) (xs : List X) → Satisfies v (map f xs) → All (λ x. clause_true v (f x) ≡ true) xs
clauses_each v f [] h = All-nil (λ x. clause_true v (f x) ≡ true)
clauses_each v f (x ∷ xs) h = All-cons (λ x. clause_true v (f x) ≡ true) x xs h.0 (clauses_each v f xs h.1)

clauses_by_each : {X : Type 0} (v : ℕ → Bool) (f : X → List ℤ) (xs : List X) → All (λ x. clause_true v (f x) ≡ true) xs → Satisfies v (map f xs)
clauses_by_each v f [] all = tt
clauses_by_each v f (x ∷ xs) all =
    (All-head (λ x. clause_true v (f x) ≡ true) x xs all, clauses_by_each v f xs (All-tail (λ x. clause_true v (f x) ≡ true) x xs all))

pub sat_map : {X : Type 0} (v : ℕ → Bool) (f : X → List ℤ) (xs : List X) → Satisfies v (map f xs) ↔ All (λ x. clause_true v (f x) ≡ true) xs
sat_map v f xs = (clauses_each v f xs, clauses_by_each v f xs)

units_each : {X : Type 0} (v : ℕ → Bool) (f : X → ℤ) (xs : List X) → Satisfies v (unit_clauses (map f xs)) → All (λ x. lit_true v (f x) ≡ true) xs
units_each v f [] h = All-nil (λ x. lit_true v (f x) ≡ true)
units_each v f (x ∷ xs) h = All-cons (λ x. lit_true v (f x) ≡ true) x xs (sym (or-false (lit_true v (f x))) ∙ h.0) (units_each v f xs h.1)

units_by_each : {X : Type 0} (v : ℕ → Bool) (f : X → ℤ) (xs : List X) → All (λ x. lit_true v (f x) ≡ true) xs → Satisfies v (unit_clauses (map f xs))
units_by_each v f [] all = tt
units_by_each v f (x ∷ xs) all =
    (or-false (lit_true v (f x)) ∙ All-head (λ x. lit_true v (f x) ≡ true) x xs all, units_by_each v f xs (All-tail (λ x. lit_true v (f x) ≡ true) x xs all))

pub sat_units : {X : Type 0} (v : ℕ → Bool) (f : X → ℤ) (xs : List X) → Satisfies v (unit_clauses (map f xs)) ↔ All (λ x. lit_true v (f x) ≡ true) xs
sat_units v f xs = (units_each v f xs, units_by_each v f xs)

-- ---- literals
-- a literal has this value, and its negation the other
pub record Reads (v : ℕ → Bool) (l : ℤ) (x : Bool) : Type 0 where
  pub own : lit_true v l ≡ x
  pub negation : lit_true v (neg_ℤ l) ≡ not x

-- the values of a step that has so many before it
abbrev pub frame_after : ℕ → ℕ → List Bool → Assignment
frame_after w before bits = take w (drop before bits)

pub read_var : (w before : ℕ) (bits : List Bool) (x : ℕ) → x < w → cnf_value bits (suc (before + x)) ≡ get_or (frame_after w before bits) x false
read_var w before bits x h =
    let e : suc (before + x) - 1 ≡ before + x = omega arith in
    ap (λ n. get_or bits n false) e ∙ sym (get_or-take w (drop before bits) x false h ∙ get_or-drop before bits x false)

read_signed : (v : ℕ → Bool) (n : ℕ) (x : Bool) (b : Bool) → v (suc n) ≡ x → Reads v (if b then neg_ℤ (pos (suc n)) else pos (suc n)) (if b then not x else x)
read_signed v n x true e = record { own = ap not e; negation = e ∙ sym (not-not x) }
read_signed v n x false e = record { own = e; negation = ap not e }

pub read_lit : (w before : ℕ) (bits : List Bool) (lit : ℕ) → var lit < w → Reads (cnf_value bits) (lit_after before lit) (value_of (frame_after w before bits) lit)
read_lit w before bits lit h =
    read_signed (cnf_value bits) (before + var lit) (get_or (frame_after w before bits) (var lit) false) (is_negated lit) (read_var w before bits (var lit) h)

pub read_negation : (v : ℕ → Bool) (l : ℤ) (x : Bool) → Reads v l x → Reads v (neg_ℤ l) (not x)
read_negation v l x r = record { own = r.negation; negation = ap (lit_true v) (neg-neg l) ∙ (r.own ∙ sym (not-not x)) }

-- a literal with a value is true exactly where the literal has it
pub has_value : (v : ℕ → Bool) (l : ℤ) (x value : Bool) → Reads v l x → (lit_true v (with_value l value) ≡ true) ↔ (x ≡ value)
has_value v l x true r = eq_iff (lit_true v l) x true r.own
has_value v l x false r = iff_trans (eq_iff (lit_true v (neg_ℤ l)) (not x) true r.negation) (not_true x)

-- ---- clauses of two and three literals
pub gate_lits : (v : ℕ → Bool) (g a b : ℤ) (x y z : Bool) → Reads v g x → Reads v a y → Reads v b z
    → Satisfies v ((neg_ℤ g ∷ a ∷ []) ∷ (neg_ℤ g ∷ b ∷ []) ∷ (g ∷ neg_ℤ a ∷ neg_ℤ b ∷ []) ∷ []) ↔ (x ≡ (y && z))
gate_lits v g a b x y z rg ra rb =
    let first : (lit_true v (neg_ℤ g) || (lit_true v a || false)) ≡ (not x || (y || false)) = rw (rg.negation, ra.own) refl in
    let second : (lit_true v (neg_ℤ g) || (lit_true v b || false)) ≡ (not x || (z || false)) = rw (rg.negation, rb.own) refl in
    let third : (lit_true v g || (lit_true v (neg_ℤ a) || (lit_true v (neg_ℤ b) || false))) ≡ (x || (not y || (not z || false))) =
    rw (rg.own, ra.negation, rb.negation) refl in (
      λ h. (gate_bools x y z).0 (sym first ∙ h.0, sym second ∙ h.1.0, sym third ∙ h.1.1.0),
      λ e. let h = (gate_bools x y z).1 e in (first ∙ h.0, (second ∙ h.1, (third ∙ h.2, tt))),
    )

pub next_lits_agree : (v : ℕ → Bool) (l n : ℤ) (x y : Bool) → Reads v l x → Reads v n y
    → Satisfies v ((neg_ℤ l ∷ n ∷ []) ∷ (l ∷ neg_ℤ n ∷ []) ∷ []) ↔ (x ≡ y)
next_lits_agree v l n x y rl rn =
    let first : (lit_true v (neg_ℤ l) || (lit_true v n || false)) ≡ (not x || (y || false)) = rw (rl.negation, rn.own) refl in
    let second : (lit_true v l || (lit_true v (neg_ℤ n) || false)) ≡ (x || (not y || false)) = rw (rl.own, rn.negation) refl in (
      λ h. (next_bools x y).0 (sym first ∙ h.0, sym second ∙ h.1.0),
      λ e. let h = (next_bools x y).1 e in (first ∙ h.0, (second ∙ h.1, tt)),
    )
