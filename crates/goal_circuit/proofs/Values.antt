-- What the literals of the levels are worth: the literal at a place is true exactly where that place is the goal of the signals.
use Rattle.std.proofs.Common.{◌≡◌, ◌≢◌, ℕ, zero, suc, ◌+◌, ◌-◌, ◌*◌, ◌%◌, ◌^◌, ◌<◌, inl, inr, Bool, true, false, not, ◌&&◌, ◌==◌, nat_eq, if◌then◌else◌, List, [], ◌∷◌, ◌++◌, length, get_or, refl, sym, ap, ◌∙◌, subst, arith, All, length-append, append_assoc}
use Rattle.std.proofs.Math.Nat.{pow-succ'}
use Rattle.std.proofs.lemmas.Bool.{cases_lt}
use Rattle.std.proofs.lemmas.Bool.Decides.{eqb_tells}
use Rattle.std.proofs.lemmas.List.{length-map, map-append, append-nil, get_or_append_left, get_or-append-add}
use Rattle.std.proofs.lemmas.List.Elements.{All-head, All-tail}
use Rattle.aig_model.specs.Literal.{var, value_of, number}
use Rattle.aig_model.specs.WellFormed.{left_sides}
use Rattle.aig_model.specs.Meaning.{Assignment, IsConjunction, goal_of}
use Rattle.aig_model.specs.declared.parts.AndGate.{AndGate}
use Rattle.aig_model.proofs.Elements.{All-left, All-right}
use Rattle.aig_model.proofs.OneGoal.{goal_of-lt}
use Rattle.goal_circuit.specs.GoalCircuit.{negation, conjunctions, level_gates, new_gates, goal_literals}
use Rattle.goal_circuit.proofs.LevelGates.{length-conjunctions, length-sides}

-- ---- literals
-- a literal's value, by its variable and its sign
pub value_by : (a : Assignment) (lit x r : ℕ) → var lit ≡ x → lit % 2 ≡ r → value_of a lit ≡ (if nat_eq r 1 then not (get_or a x false) else get_or a x false)
value_by a lit x r e f =
    ap (λ y. if nat_eq (lit % 2) 1 then not (get_or a y false) else get_or a y false) e
    ∙ ap (λ q. if nat_eq q 1 then not (get_or a x false) else get_or a x false) f

not-not : (b : Bool) → not (not b) ≡ b
not-not true = refl
not-not false = refl

pub value_of-negation : (a : Assignment) (lit : ℕ) → value_of a (negation lit) ≡ not (value_of a lit)
value_of-negation a lit =
    let same : var (negation lit) ≡ var lit = omega arith in
    elim (cases_lt (lit % 2) 1) [
      | inl even ↦
          let here = value_by a lit (var lit) 0 refl (omega arith) in
          let other = value_by a (negation lit) (var lit) 1 same (omega arith) in
          other ∙ sym (ap not here)
      | inr odd ↦
          let here = value_by a lit (var lit) 1 refl (omega arith) in
          let other = value_by a (negation lit) (var lit) 0 same (omega arith) in
          other ∙ sym (ap not here ∙ not-not (get_or a (var lit) false))
    ]

-- ---- gates
-- a gate's left side is worth the conjunction of its literals
pub conjunction_values : (a : Assignment) (first : ℕ) (lits : List ℕ) (right p : ℕ) → All (IsConjunction a) (conjunctions first lits right) → p < length lits
    → value_of a (get_or (left_sides (conjunctions first lits right)) p 0) ≡ (value_of a (get_or lits p 0) && value_of a right)
conjunction_values a first [] right p solved inside = absurd (omega (arith, inside))
conjunction_values a first (l ∷ lits) right zero solved inside =
    All-head (IsConjunction a) (record { lhs = 2 * first; left = l; right = right }) (conjunctions (first + 1) lits right) solved
conjunction_values a first (l ∷ lits) right (suc p) solved inside =
    conjunction_values a (first + 1) lits right p
    (All-tail (IsConjunction a) (record { lhs = 2 * first; left = l; right = right }) (conjunctions (first + 1) lits right) solved)
    (omega (arith, inside))

-- ---- goals of one more signal
pub goal_of-push_true : (done : List ℕ) (s : ℕ) (a : Assignment) → value_of a s ≡ true → goal_of (done ++ s ∷ []) a ≡ goal_of done a + 2 ^ length done
goal_of-push_true [] s a e = let n : number (value_of a s) ≡ 1 = ap number e in omega (arith, n)
goal_of-push_true (x ∷ done) s a e = omega (arith, goal_of-push_true done s a e, pow-succ' 2 (length done))

pub goal_of-push_false : (done : List ℕ) (s : ℕ) (a : Assignment) → value_of a s ≡ false → goal_of (done ++ s ∷ []) a ≡ goal_of done a
goal_of-push_false [] s a e = let n : number (value_of a s) ≡ 0 = ap number e in omega (arith, n)
goal_of-push_false (x ∷ done) s a e = omega (arith, goal_of-push_false done s a e)

-- ---- tables
-- one literal a combination of these signals, true exactly where its place is their goal
pub record IsTable (a : Assignment) (done level : List ℕ) : Type 0 where
  pub size : length level ≡ 2 ^ length done
  pub values : (p : ℕ) → p < 2 ^ length done → value_of a (get_or level p 0) ≡ (p == goal_of done a)

same_test : (m n p q : ℕ) → (m ≡ n → p ≡ q) → (p ≡ q → m ≡ n) → (m == n) ≡ (p == q)
same_test m n p q to from =
    elim (eqb_tells m n) [
      | inl e ↦ elim (eqb_tells p q) [ inl f ↦ e.0 ∙ sym f.0 | inr f ↦ absurd (f.1 (to e.1)) ]
      | inr e ↦ elim (eqb_tells p q) [ inl f ↦ absurd (e.1 (from f.1)) | inr f ↦ e.0 ∙ sym f.0 ]
    ]

no_test : (m n : ℕ) → m ≢ n → (m == n) ≡ false
no_test m n ne = elim (eqb_tells m n) [ inl e ↦ absurd (ne e.1) | inr e ↦ e.0 ]

and-true : (b : Bool) → (b && true) ≡ b
and-true true = refl
and-true false = refl

and-false : (b : Bool) → (b && false) ≡ false
and-false true = refl
and-false false = refl

-- the first half has the signal's negation, the second the signal
half_values : (a : Assignment) (done : List ℕ) (s p : ℕ) (value : Bool) → value_of a s ≡ value → p < 2 ^ length done
    → ((p == goal_of done a) && not value) ≡ (p == goal_of (done ++ s ∷ []) a)
half_values a done s p true e inside =
    and-false (p == goal_of done a) ∙ sym (no_test p (goal_of (done ++ s ∷ []) a) (λ same. omega (arith, same, inside, goal_of-push_true done s a e)))
half_values a done s p false e inside =
    and-true (p == goal_of done a) ∙ same_test p (goal_of done a) p (goal_of (done ++ s ∷ []) a)
    (λ same. omega (arith, same, goal_of-push_false done s a e)) (λ same. omega (arith, same, goal_of-push_false done s a e))

other_half_values : (a : Assignment) (done : List ℕ) (s p : ℕ) (value : Bool) → value_of a s ≡ value → p < 2 ^ length done
    → ((p == goal_of done a) && value) ≡ ((2 ^ length done + p) == goal_of (done ++ s ∷ []) a)
other_half_values a done s p true e inside =
    and-true (p == goal_of done a) ∙ same_test p (goal_of done a) (2 ^ length done + p) (goal_of (done ++ s ∷ []) a)
    (λ same. omega (arith, same, goal_of-push_true done s a e)) (λ same. omega (arith, same, goal_of-push_true done s a e))
other_half_values a done s p false e inside =
    and-false (p == goal_of done a) ∙ sym (no_test (2 ^ length done + p) (goal_of (done ++ s ∷ []) a)
    (λ same. omega (arith, same, goal_of-lt done a, goal_of-push_false done s a e)))

-- a level's place in its first half, and in its second
pub level_early : (a : Assignment) (first : ℕ) (done level : List ℕ) (s p : ℕ) → IsTable a done level → All (IsConjunction a) (level_gates first level s)
    → p < 2 ^ length done → value_of a (get_or (left_sides (level_gates first level s)) p 0) ≡ (p == goal_of (done ++ s ∷ []) a)
level_early a first done level s p table solved inside =
    let low = conjunctions first level (negation s) in
    let high = conjunctions (first + length level) level s in
    let split : left_sides (low ++ high) ≡ left_sides low ++ left_sides high = map-append (λ (g : AndGate). g.lhs) low high in
    let here : p < length level = omega (arith, table.size) in
    let early : p < length (left_sides low) = omega (arith, length-map low (λ (g : AndGate). g.lhs), length-conjunctions first level (negation s)) in
    ap (λ xs. value_of a (get_or xs p 0)) split
    ∙ (ap (value_of a) (get_or_append_left (left_sides low) (left_sides high) 0 p early)
    ∙ (conjunction_values a first level (negation s) p (All-left (IsConjunction a) low high solved) here
    ∙ (ap (λ b. b && value_of a (negation s)) (table.values p inside)
    ∙ (ap (λ b. (p == goal_of done a) && b) (value_of-negation a s)
    ∙ half_values a done s p (value_of a s) refl inside))))

pub level_late : (a : Assignment) (first : ℕ) (done level : List ℕ) (s p : ℕ) → IsTable a done level → All (IsConjunction a) (level_gates first level s)
    → p < 2 ^ length done
    → value_of a (get_or (left_sides (level_gates first level s)) (2 ^ length done + p) 0) ≡ ((2 ^ length done + p) == goal_of (done ++ s ∷ []) a)
level_late a first done level s p table solved inside =
    let low = conjunctions first level (negation s) in
    let high = conjunctions (first + length level) level s in
    let split : left_sides (low ++ high) ≡ left_sides low ++ left_sides high = map-append (λ (g : AndGate). g.lhs) low high in
    let here : p < length level = omega (arith, table.size) in
    let seam : 2 ^ length done + p ≡ length (left_sides low) + p =
    omega (arith, table.size, length-map low (λ (g : AndGate). g.lhs), length-conjunctions first level (negation s))
    in
    ap (λ xs. value_of a (get_or xs (2 ^ length done + p) 0)) split
    ∙ (ap (λ n. value_of a (get_or (left_sides low ++ left_sides high) n 0)) seam
    ∙ (ap (value_of a) (get_or-append-add (left_sides low) (left_sides high) p 0)
    ∙ (conjunction_values a (first + length level) level s p (All-right (IsConjunction a) low high solved) here
    ∙ (ap (λ b. b && value_of a s) (table.values p inside)
    ∙ other_half_values a done s p (value_of a s) refl inside))))

pub level_table : (a : Assignment) (first : ℕ) (done level : List ℕ) (s : ℕ) → IsTable a done level → All (IsConjunction a) (level_gates first level s)
    → IsTable a (done ++ s ∷ []) (left_sides (level_gates first level s))
level_table a first done level s table solved =
    let longer : length (done ++ s ∷ []) ≡ suc (length done) = omega (arith, length-append done (s ∷ [])) in
    let double : 2 ^ length (done ++ s ∷ []) ≡ 2 * 2 ^ length done = ap (λ n. 2 ^ n) longer ∙ pow-succ' 2 (length done) in
    record {
      size = length-sides first level s ∙ (ap (λ n. 2 * n) table.size ∙ sym double);
      values = λ p inside. elim (cases_lt p (2 ^ length done)) [
        | inl early ↦ level_early a first done level s p table solved early
        | inr late ↦
            let q = p - 2 ^ length done in
            let e : 2 ^ length done + q ≡ p = omega arith in
            subst (λ n. value_of a (get_or (left_sides (level_gates first level s)) n 0) ≡ (n == goal_of (done ++ s ∷ []) a)) e
            (level_late a first done level s q table solved (omega (arith, double, inside)))
      ];
    }

pub goals_table : (a : Assignment) (first : ℕ) (done level signals : List ℕ) → IsTable a done level → All (IsConjunction a) (new_gates first level signals)
    → IsTable a (done ++ signals) (goal_literals first level signals)
goals_table a first done level [] table solved = subst (λ (xs : List ℕ). IsTable a xs level) (sym (append-nil done)) table
goals_table a first done level (s ∷ signals) table solved =
    let gates = level_gates first level s in
    let more = new_gates (first + 2 * length level) (left_sides gates) signals in
    let next = level_table a first done level s table (All-left (IsConjunction a) gates more solved) in
    let rest = goals_table a (first + 2 * length level) (done ++ s ∷ []) (left_sides gates) signals next (All-right (IsConjunction a) gates more solved) in
    subst (λ (xs : List ℕ). IsTable a xs (goal_literals (first + 2 * length level) (left_sides gates) signals)) (append_assoc done (s ∷ []) signals) rest

first_values : (a : Assignment) (s p : ℕ) (value : Bool) → value_of a s ≡ value → p < 2
    → value_of a (get_or (negation s ∷ s ∷ []) p 0) ≡ (p == number value)
first_values a s zero true e inside = value_of-negation a s ∙ ap not e
first_values a s zero false e inside = value_of-negation a s ∙ ap not e
first_values a s (suc zero) true e inside = e
first_values a s (suc zero) false e inside = e
first_values a s (suc (suc p)) value e inside = absurd (omega (arith, inside))

pub first_table : (a : Assignment) (s : ℕ) → IsTable a (s ∷ []) (negation s ∷ s ∷ [])
first_table a s =
    let goal : number (value_of a s) ≡ goal_of (s ∷ []) a = omega arith in
    record {
      size = refl;
      values = λ p inside. first_values a s p (value_of a s) refl inside ∙ ap (λ n. p == n) goal;
    }
