-- What the literals of a goal say: the goal is shown, and their negations that it is not.
use Rattle.std.proofs.Common.{◌≡◌, ◌≢◌, ◌↔◌, ℕ, ◌*◌, ◌/◌, ◌%◌, ◌^◌, ◌<◌, ◌==◌, ◌⊎◌, inl, inr, Bool, true, false, not, ◌||◌, ℤ, neg_ℤ, List, [], ◌∷◌, map, length, refl, sym, ap, ◌∙◌, subst, arith, All, Contains}
use Rattle.std.proofs.Math.Nat.{pow-succ'}
use Rattle.std.proofs.lemmas.Bool.{cases_lt, false≢true}
use Rattle.std.proofs.lemmas.List.Elements.{All-nil, All-cons, All-head, All-tail, All-contains, Contains-get_or}
use Rattle.cnf_base.specs.Meaning.{lit_true, clause_true, Satisfies}
use Rattle.aig_model.specs.Literal.{value_of, number}
use Rattle.aig_model.specs.Meaning.{Assignment, goal_of}
use Rattle.unroll.specs.Frames.{lit_after, with_value, unit_clauses}
use Rattle.unroll.specs.Queries.{goal_lits, blocking_clause}
use Rattle.unroll.proofs.Truth.{iff_trans, or-false, Reads, has_value, read_negation}

-- ---- binary digits
number_lt : (b : Bool) → number b < 2
number_lt true = omega arith
number_lt false = omega arith

digit : (n : ℕ) → number (n % 2 == 1) ≡ n % 2
digit n =
    elim (cases_lt (n % 2) 1) [
      | inl h ↦ (let e : n % 2 ≡ 0 = omega arith in ap (λ k. number (k == 1)) e ∙ sym e)
      | inr h ↦ (let e : n % 2 ≡ 1 = omega arith in ap (λ k. number (k == 1)) e ∙ sym e)
    ]

same_number : (x y : Bool) → number x ≡ number y → x ≡ y
same_number true true e = refl
same_number true false e = absurd (omega (arith, e))
same_number false true e = absurd (omega (arith, e))
same_number false false e = refl

-- ---- the goal is shown
pub shows : (v : ℕ → Bool) (a : Assignment) (before : ℕ) (sig : List ℕ) (goal : ℕ) → All (λ lit. Reads v (lit_after before lit) (value_of a lit)) sig
    → goal < 2 ^ length sig → All (λ l. lit_true v l ≡ true) (goal_lits before sig goal) ↔ (goal_of sig a ≡ goal)
shows v a before [] goal reads below = (λ h. omega (arith, below), λ e. All-nil (λ l. lit_true v l ≡ true))
shows v a before (lit ∷ sig) goal reads below =
    let P : ℤ → Type 0 = λ l. lit_true v l ≡ true in
    let R : ℕ → Type 0 = λ lit. Reads v (lit_after before lit) (value_of a lit) in
    let x = value_of a lit in
    let bit = goal % 2 == 1 in
    let half : goal / 2 < 2 ^ length sig = (let double : goal < 2 * 2 ^ length sig = rw (← pow-succ' 2 (length sig)) below in omega arith) in
    let here = has_value v (lit_after before lit) x bit (All-head R lit sig reads) in
    let rest = shows v a before sig (goal / 2) (All-tail R lit sig reads) half in
    let l = with_value (lit_after before lit) bit in
    let ls = goal_lits before sig (goal / 2) in (
      λ h.
          let first : number x ≡ goal % 2 = ap number (here.0 (All-head P l ls h)) ∙ digit goal in
          let others : goal_of sig a ≡ goal / 2 = rest.0 (All-tail P l ls h) in
          omega (arith, first, others),
      λ e.
          let small = number_lt x in
          let first : number x ≡ goal % 2 = omega (arith, e, small) in
          let others : goal_of sig a ≡ goal / 2 = omega (arith, e, small) in
          All-cons P l ls (here.1 (same_number x bit (first ∙ sym (digit goal)))) (rest.1 others),
    )

units : (v : ℕ → Bool) (ls : List ℤ) → Satisfies v (unit_clauses ls) ↔ All (λ l. lit_true v l ≡ true) ls
units v [] = (λ h. All-nil (λ l. lit_true v l ≡ true), λ all. tt)
units v (l ∷ ls) =
    let P : ℤ → Type 0 = λ l. lit_true v l ≡ true in (
      λ h. All-cons P l ls (sym (or-false (lit_true v l)) ∙ h.0) ((units v ls).0 h.1),
      λ all. (or-false (lit_true v l) ∙ All-head P l ls all, (units v ls).1 (All-tail P l ls all)),
    )

pub goal_shown : (v : ℕ → Bool) (a : Assignment) (before : ℕ) (sig : List ℕ) (goal : ℕ) → All (λ lit. Reads v (lit_after before lit) (value_of a lit)) sig
    → goal < 2 ^ length sig → Satisfies v (unit_clauses (goal_lits before sig goal)) ↔ (goal_of sig a ≡ goal)
goal_shown v a before sig goal reads below = iff_trans (units v (goal_lits before sig goal)) (shows v a before sig goal reads below)

-- ---- the goal is not shown
pub either : (b : Bool) → (b ≡ true) ⊎ (b ≡ false)
either true = inl refl
either false = inr refl

pub record Flips (v : ℕ → Bool) (l : ℤ) : Type 0 where
  pub flips : lit_true v (neg_ℤ l) ≡ not (lit_true v l)

value_flips : (v : ℕ → Bool) (l : ℤ) (x value : Bool) → Reads v l x → Flips v (with_value l value)
value_flips v l x true r = record { flips = r.negation ∙ ap not (sym r.own) }
value_flips v l x false r = let n = read_negation v l x r in record { flips = n.negation ∙ ap not (sym n.own) }

goal_flips : (v : ℕ → Bool) (a : Assignment) (before : ℕ) (sig : List ℕ) (goal : ℕ) → All (λ lit. Reads v (lit_after before lit) (value_of a lit)) sig
    → All (Flips v) (goal_lits before sig goal)
goal_flips v a before [] goal reads = All-nil (Flips v)
goal_flips v a before (lit ∷ sig) goal reads =
    let R : ℕ → Type 0 = λ lit. Reads v (lit_after before lit) (value_of a lit) in
    All-cons (Flips v) (with_value (lit_after before lit) (goal % 2 == 1)) (goal_lits before sig (goal / 2))
    (value_flips v (lit_after before lit) (value_of a lit) (goal % 2 == 1) (All-head R lit sig reads)) (goal_flips v a before sig (goal / 2) (All-tail R lit sig reads))

some_false : (v : ℕ → Bool) (ls : List ℤ) → All (Flips v) ls → clause_true v (map neg_ℤ ls) ≡ true → ¬ All (λ l. lit_true v l ≡ true) ls
some_false v [] flip h all = false≢true h
some_false v (l ∷ ls) flip h all =
    let P : ℤ → Type 0 = λ l. lit_true v l ≡ true in
    let negated : lit_true v (neg_ℤ l) ≡ false = (All-head (Flips v) l ls flip).flips ∙ ap not (All-head P l ls all) in
    some_false v ls (All-tail (Flips v) l ls flip) (sym (ap (λ b. b || clause_true v (map neg_ℤ ls)) negated) ∙ h) (All-tail P l ls all)

not_all : (v : ℕ → Bool) (ls : List ℤ) → All (Flips v) ls → ¬ All (λ l. lit_true v l ≡ true) ls → clause_true v (map neg_ℤ ls) ≡ true
not_all v [] flip none = absurd (none (All-nil (λ l. lit_true v l ≡ true)))
not_all v (l ∷ ls) flip none =
    let P : ℤ → Type 0 = λ l. lit_true v l ≡ true in
    let negated = (All-head (Flips v) l ls flip).flips in
    elim (either (lit_true v l)) [
      | inl so ↦
          ap (λ b. b || clause_true v (map neg_ℤ ls)) (negated ∙ ap not so)
          ∙ not_all v ls (All-tail (Flips v) l ls flip) (λ all. none (All-cons P l ls so all))
      | inr wrong ↦ ap (λ b. b || clause_true v (map neg_ℤ ls)) (negated ∙ ap not wrong)
    ]

pub goal_blocked : (v : ℕ → Bool) (a : Assignment) (before : ℕ) (sig : List ℕ) (goal : ℕ) → All (λ lit. Reads v (lit_after before lit) (value_of a lit)) sig
    → goal < 2 ^ length sig → (clause_true v (blocking_clause before sig goal) ≡ true) ↔ (goal_of sig a ≢ goal)
goal_blocked v a before sig goal reads below =
    let flip = goal_flips v a before sig goal reads in
    let shown = shows v a before sig goal reads below in (
      λ h e. some_false v (goal_lits before sig goal) flip h (shown.1 e),
      λ ne. not_all v (goal_lits before sig goal) flip (λ all. ne (shown.0 all)),
    )

pub none_blocked : (blocked : List ℕ) (goal : ℕ) → All (λ g. goal ≢ g) blocked ↔ (¬ Contains blocked goal)
none_blocked blocked goal = (
  λ all h. All-contains (λ g. goal ≢ g) blocked goal all h refl,
  λ none k d h e. none (subst (Contains blocked) (sym e) (Contains-get_or blocked k d h)),
)
