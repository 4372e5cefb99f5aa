-- Which variables nothing defines: marks of those that are defined, and what is left.
use Rattle.std.proofs.Common.{◌≡◌, ◌≢◌, ℕ, zero, suc, ◌+◌, ◌-◌, ◌<◌, ◌≤◌, inl, inr, Bool, true, false, ◌||◌, ◌==◌, not, cond, eqb, eq-eqb, List, [], ◌∷◌, ◌++◌, map, length, get_or, take, set, filter, refl, sym, ap, ◌∙◌, subst, append_assoc, arith, Contains}
use Rattle.std.specs.List.{list_any, range_with_len, take-map}
use Rattle.std.proofs.lemmas.Bool.Decides.{nat_tests}
use Rattle.std.proofs.lemmas.List.{get_or-map, length-map, length-set, append-nil}
use Rattle.std.proofs.lemmas.List.Elements.{filter-append, All-map, All-weaker}
use Rattle.aig_model.specs.Literal.{var}
use Rattle.aig_model.specs.Marks.{Marks, HaveRoom}
use Rattle.aig_model.specs.WellFormed.{IsCircuit, definers, defined, latch_lits, left_sides}
use Rattle.aig_model.specs.declared.parts.AndGate.{AndGate}
use Rattle.aig_model.specs.declared.parts.Latch.{Latch}
use Rattle.aig_model.specs.declared.parts.Parts.{Parts}
use Rattle.aig_model.proofs.Elements.{Contains-nil, Contains-head, Contains-later, Contains-cons_cases, Contains-or_not, items_next, All-map_item}
use Rattle.aig_model.proofs.Marks.{marks_more}
use Rattle.unroll.specs.Building.{MarksMore}
use Rattle.unroll.proofs.Room.{OwnsLatch, OwnsGate, latches_own, gates_own}

-- ---- whether a number is one of a list
or-true : (b : Bool) → (b || true) ≡ true
or-true true = refl
or-true false = refl

pub any_true : (xs : List ℕ) (v : ℕ) → Contains xs v → list_any (λ w. w == v) xs ≡ true
any_true [] v h = absurd (Contains-nil v h)
any_true (x ∷ xs) v h =
    elim (Contains-cons_cases x v xs h) [
      | inl e ↦ ap (λ b. b || list_any (λ w. w == v) xs) (eq-eqb x v e)
      | inr rest ↦ ap (λ b. (x == v) || b) (any_true xs v rest) ∙ or-true (x == v)
    ]

differs : (x v : ℕ) → x ≢ v → eqb x v ≡ false
differs x v ne = grind (arith, nat_tests)

pub any_false : (xs : List ℕ) (v : ℕ) → ¬ Contains xs v → list_any (λ w. w == v) xs ≡ false
any_false [] v none = refl
any_false (x ∷ xs) v none =
    ap (λ b. b || list_any (λ w. w == v) xs) (differs x v (λ e. none (Contains-head x v xs e))) ∙ any_false xs v (λ h. none (Contains-later x v xs h))

-- ---- marks
pub marks_step : (old here new : List Bool) (lits : List ℕ) (i lit : ℕ) → i < length lits → lit ≡ get_or lits i lit → HaveRoom old lits
    → MarksMore old here (take i lits) → new ≡ set here (var lit) true → MarksMore old new (take (i + 1) lits)
marks_step old here new lits i lit inside at room held written =
    let fits : var lit < length here = omega (arith, ap var at, room i lit inside, held.size) in
    record {
      size = ap length written ∙ (length-set here (var lit) true ∙ held.size);
      marks = λ earlier are.
          subst (λ (m : List Bool). Marks m (earlier ++ take (i + 1) lits)) (sym written)
          (subst (λ (ls : List ℕ). Marks (set here (var lit) true) ls)
          (append_assoc earlier (take i lits) (lit ∷ []) ∙ ap (λ (ls : List ℕ). earlier ++ ls) (sym (items_next lits i lit inside at)))
          (marks_more here (earlier ++ take i lits) lit fits (held.marks earlier are)));
    }

pub marks_step_of : {X : Type 0} (f : X → ℕ) (old here new : List Bool) (items : List X) (i : ℕ) (x : X) → i < length items → x ≡ get_or items i x
    → HaveRoom old (map f items) → MarksMore old here (map f (take i items)) → new ≡ set here (var (f x)) true
    → MarksMore old new (map f (take (i + 1) items))
marks_step_of f old here new items i x inside at room held written =
    let within : i < length (map f items) = omega (arith, length-map items f) in
    let read : f x ≡ get_or (map f items) i (f x) = ap f at ∙ sym (get_or-map f items i x (f x) inside) in
    subst (λ (ls : List ℕ). MarksMore old new ls) (take-map f (i + 1) items)
    (marks_step old here new (map f items) i (f x) within read room (subst (λ (ls : List ℕ). MarksMore old here ls) (sym (take-map f i items)) held) written)

pub room_of : {X : Type 0} (f : X → ℕ) (marks here : List Bool) (items : List X) (i : ℕ) (x : X) → i < length items → x ≡ get_or items i x
    → length here ≡ length marks → HaveRoom marks (map f items) → var (f x) < length here
room_of f marks here items i x inside at size room =
    omega (arith, size, All-map_item f (λ l. var l < length marks) items i x inside at room 0 (f x) (omega arith))

pub latches_have_room : (c : Parts) (marks : List Bool) → IsCircuit c → length marks ≡ c.top + 1 → HaveRoom marks (latch_lits c.latches)
latches_have_room c marks ok size =
    All-map (λ l. var l < length marks) (λ (l : Latch). l.lit) c.latches
    (All-weaker (OwnsLatch c) (λ (l : Latch). var l.lit < length marks) (λ (l : Latch) own. omega (arith, own.lit, size)) c.latches (latches_own c ok))

pub gates_have_room : (c : Parts) (marks : List Bool) → IsCircuit c → length marks ≡ c.top + 1 → HaveRoom marks (left_sides c.gates)
gates_have_room c marks ok size =
    All-map (λ l. var l < length marks) (λ (g : AndGate). g.lhs) c.gates
    (All-weaker (OwnsGate c) (λ (g : AndGate). var g.lhs < length marks) (λ (g : AndGate) own. omega (arith, own.lhs, size)) c.gates (gates_own c ok))

-- ---- what is left
abbrev pub is_undefined : Parts → ℕ → Bool
is_undefined c v = not (list_any (λ w. w == v) (defined c))

unmarked : (b : Bool) → ¬ (b ≡ true) → false ≡ b
unmarked true not_true = absurd (not_true refl)
unmarked false not_true = refl

pub marked : (marks : List Bool) (c : Parts) (v : ℕ) → Marks marks (definers c) → list_any (λ w. w == v) (defined c) ≡ get_or marks v false
marked marks c v are =
    elim (Contains-or_not (defined c) v) [
      | inl h ↦ any_true (defined c) v h ∙ sym ((are v).1 h)
      | inr none ↦ any_false (defined c) v none ∙ unmarked (get_or marks v false) (λ h. none ((are v).0 h))
    ]

pub range_push : (a n : ℕ) → range_with_len a (n + 1) ≡ range_with_len a n ++ (a + n) ∷ []
range_push a zero = let e : a ≡ a + 0 = omega arith in ap (λ x. x ∷ []) e
range_push a (suc n) =
    let e : a + 1 + n ≡ a + suc n = omega arith in
    let one : suc n + 1 ≡ suc (n + 1) = omega arith in
    ap (range_with_len a) one
    ∙ ap (λ (xs : List ℕ). a ∷ xs) (range_push (a + 1) n ∙ ap (λ x. range_with_len (a + 1) n ++ x ∷ []) e)

pub undefined_more : (c : Parts) (n : ℕ) → filter (is_undefined c) (range_with_len 1 (n + 1))
    ≡ filter (is_undefined c) (range_with_len 1 n) ++ cond (is_undefined c (1 + n)) ((1 + n) ∷ []) []
undefined_more c n = ap (filter (is_undefined c)) (range_push 1 n) ∙ filter-append (is_undefined c) (range_with_len 1 n) ((1 + n) ∷ [])

-- one variable more, where the marks say whether it is defined
step_to : (c : Parts) (marks : List Bool) (v : ℕ) (bit : Bool) → 1 ≤ v → Marks marks (definers c) → get_or marks v false ≡ bit
    → filter (is_undefined c) (range_with_len 1 (v + 1 - 1)) ≡ filter (is_undefined c) (range_with_len 1 (v - 1)) ++ cond (not bit) (v ∷ []) []
step_to c marks v bit first are read =
    let n = v - 1 in
    let here : 1 + n ≡ v = omega arith in
    let after : v + 1 - 1 ≡ n + 1 = omega arith in
    let test : is_undefined c v ≡ not bit = ap not (marked marks c v are ∙ read) in
    let before = filter (is_undefined c) (range_with_len 1 n) in
    ap (λ k. filter (is_undefined c) (range_with_len 1 k)) after
    ∙ (undefined_more c n
    ∙ (ap (λ w. before ++ cond (is_undefined c w) (w ∷ []) []) here ∙ ap (λ b. before ++ cond b (v ∷ []) []) test))

pub undefined_kept : (c : Parts) (marks : List Bool) (v : ℕ) (old : List ℕ) → 1 ≤ v → Marks marks (definers c) → get_or marks v false ≡ false
    → old ≡ filter (is_undefined c) (range_with_len 1 (v - 1)) → old ++ v ∷ [] ≡ filter (is_undefined c) (range_with_len 1 (v + 1 - 1))
undefined_kept c marks v old first are read held = ap (λ xs. xs ++ v ∷ []) held ∙ sym (step_to c marks v false first are read)

pub defined_passed : (c : Parts) (marks : List Bool) (v : ℕ) (old : List ℕ) → 1 ≤ v → Marks marks (definers c) → get_or marks v false ≡ true
    → old ≡ filter (is_undefined c) (range_with_len 1 (v - 1)) → old ≡ filter (is_undefined c) (range_with_len 1 (v + 1 - 1))
defined_passed c marks v old first are read held = held ∙ sym (step_to c marks v true first are read ∙ append-nil (filter (is_undefined c) (range_with_len 1 (v - 1))))
