-- The literals of a clause, each once: one more, and one less.
use Rattle.std.proofs.Common.{◌≡◌, ℕ, replicate, ◌+◌, ◌*◌, ◌<◌, ◌≤◌, Bool, true, false, cond, ◌||◌, eqb, ℤ, pos, negsuc, neg_ℤ, nat_abs, List, [], ◌∷◌, ◌++◌, length, map, take, drop, set, get_or, refl, ap, sym, ◌∙◌, subst, arith, inl, inr}
use Rattle.std.specs.List.{IsDistinct, list_any, All}
use Rattle.std.proofs.lemmas.Bool.{cases_eq, cases_lt, cases_Bool, or_left, or_right, or_from, or_parts, eq-eqb}
use Rattle.std.proofs.lemmas.Cmp.{nat_eq_equiv}
use Rattle.std.proofs.lemmas.List.{map-append, take_more, take-append-drop, length_push, length-set, length-replicate, get_or_past, get_or-replicate, get_or-set_same, get_or-set_other}
use Rattle.std.proofs.lemmas.List.Elements.{All-nil, All-push, All-take, All-contains, Contains-push}
use Rattle.std.proofs.lemmas.Map.Keys.{IsDistinct-push, IsDistinct-from_apart}
use Rattle.std.proofs.Math.Seq.{take-append_seam}
use Rattle.cnf_base.specs.Dimacs.{IsLiteral}
use Rattle.cnf_base.specs.Literal.{lit_index}
use Rattle.cnf_base.specs.Status.{same_lit, has}
use Rattle.cnf_base.proofs.Literals.{same_lit-true, has-append, has-head, or-false}
use Rattle.lrat_text.specs.Accepted.{IsBothWays}
use Rattle.lrat_text.specs.Spent.{SameLiterals}
use Rattle.sat_trail.proofs.LiteralValues.{touches-is, distinct_apart}
use Rattle.sat_trail.proofs.Representation.{IsDistinct-take}
use Rattle.sat_solver.specs.Gathered.{AreGathered}

-- a literal has an index of its own
index_same : (l m : ℤ) → lit_index l ≡ lit_index m → l ≡ m
index_same (pos a) (pos b) h = ap pos (omega arith)
index_same (pos a) (negsuc b) h = absurd (omega arith)
index_same (negsuc a) (pos b) h = absurd (omega arith)
index_same (negsuc a) (negsuc b) h = ap negsuc (omega arith)

apart_lit : (l x : ℤ) → (lit_index x ≡ lit_index l → ⊥) → same_lit l x ≡ false
apart_lit l x h =
    elim (cases_Bool (same_lit l x)) [
      | inl e ↦ absurd (h (ap lit_index (sym (same_lit-true l x e))))
      | inr e ↦ e
    ]

has_push : (ls : List ℤ) (l : ℤ) → has (ls ++ l ∷ []) l ≡ true
has_push ls l = has-append ls (l ∷ []) l ∙ or_right (has ls l) (has (l ∷ []) l) (has-head l [])

has_push_other : (ls : List ℤ) (l x : ℤ) → same_lit l x ≡ false → has (ls ++ l ∷ []) x ≡ has ls x
has_push_other ls l x apart = has-append ls (l ∷ []) x ∙ ap (λ b. has ls x || (b || false)) apart ∙ or-false (has ls x)

variables_push : (ls : List ℤ) (l : ℤ) → map nat_abs (ls ++ l ∷ []) ≡ map nat_abs ls ++ nat_abs l ∷ []
variables_push ls l = map-append nat_abs ls (l ∷ [])

front_in_range : (vars : ℕ) (ls : List ℤ) (l : ℤ) → All (IsLiteral vars) (ls ++ l ∷ []) → All (IsLiteral vars) ls
front_in_range vars ls l h = rw take-append_seam at (All-take (IsLiteral vars) (length ls) (ls ++ l ∷ []) h)

last_in_range : (vars : ℕ) (ls : List ℤ) (l : ℤ) → All (IsLiteral vars) (ls ++ l ∷ []) → IsLiteral vars l
last_in_range vars ls l h = All-contains (IsLiteral vars) (ls ++ l ∷ []) l h (Contains-push ls l)

front_distinct : (ns : List ℕ) (n : ℕ) → IsDistinct eqb (ns ++ n ∷ []) → IsDistinct eqb ns
front_distinct ns n h = rw take-append_seam at (IsDistinct-take (length ns) (ns ++ n ∷ []) h)

-- nothing is gathered, and nothing marked
pub gathered_none : (vars : ℕ) (marks : List Bool) (ls : List ℤ) → vars ≤ 4000000 → marks ≡ replicate (2 * vars + 2) false → ls ≡ [] → AreGathered vars marks ls
gathered_none vars marks ls few marks_are none =
    let M : List Bool → Type 0 = λ ms. AreGathered vars ms ls in
    let L : List ℤ → Type 0 = λ xs. AreGathered vars (replicate (2 * vars + 2) false) xs in
    subst M (sym marks_are) (subst L (sym none) (record {
      few = few;
      room = length-replicate (2 * vars + 2) false;
      in_range = All-nil (IsLiteral vars);
      distinct = IsDistinct-from_apart eqb [] (λ i j d lt lt2. absurd (omega arith));
      marked = λ x within. elim (cases_lt (lit_index x) (2 * vars + 2)) [
        | inl lt ↦ get_or-replicate (2 * vars + 2) (lit_index x) false false lt
        | inr ge ↦ get_or_past (replicate (2 * vars + 2) false) (lit_index x) false (rw length-replicate ge)
      ];
    }))

-- one more literal is gathered and marked
pub gathered_push : (vars : ℕ) (marks : List Bool) (ls more : List ℤ) (l : ℤ) (index : ℕ) → AreGathered vars marks ls → IsLiteral vars l → has ls l ≡ false → has ls (neg_ℤ l) ≡ false → more ≡ ls ++ l ∷ [] → index ≡ lit_index l → index < length marks → AreGathered vars (set marks index true) more
gathered_push vars marks ls more l index h literal free free_neg is at room =
    let P : List ℤ → Type 0 = λ xs. AreGathered vars (set marks index true) xs in
    let D : List ℕ → Type 0 = λ ns. IsDistinct eqb ns in
    let apart : list_any (eqb (nat_abs l)) (map nat_abs ls) ≡ false = touches-is ls l ∙ or_from (has ls l) (has ls (neg_ℤ l)) free free_neg in
    subst P (sym is) (record {
      few = h.few;
      room = length-set marks index true ∙ h.room;
      in_range = All-push (IsLiteral vars) ls l h.in_range literal;
      distinct = subst D (sym (variables_push ls l)) (IsDistinct-push nat_eq_equiv (map nat_abs ls) (nat_abs l) h.distinct apart);
      marked = λ x within. elim (cases_eq (lit_index x) (lit_index l)) [
        | inl e ↦ (let same = index_same x l e in
            let X : ℤ → Type 0 = λ y. get_or (set marks index true) (lit_index y) false ≡ has (ls ++ l ∷ []) y in
            subst X (sym same) (ap (λ n. get_or (set marks index true) n false) (sym at) ∙ get_or-set_same marks index true false room ∙ sym (has_push ls l)))
        | inr e ↦ get_or-set_other marks index (lit_index x) true false (λ f. e (f ∙ at)) ∙ h.marked x within ∙ sym (has_push_other ls l x (apart_lit l x e))
      ];
    })

-- a literal without a mark isn't there
pub unmarked_free : (vars : ℕ) (marks : List Bool) (ls : List ℤ) (l : ℤ) (index : ℕ) (mark : Bool) → AreGathered vars marks ls → nat_abs l ≤ vars → index ≡ lit_index l → mark ≡ get_or marks index false → mark ≡ false → has ls l ≡ false
unmarked_free vars marks ls l index mark h within at read unmarked = sym (h.marked l within) ∙ ap (λ n. get_or marks n false) (sym at) ∙ sym read ∙ unmarked

-- the last literal goes, with its mark
pub gathered_pop : (vars : ℕ) (marks : List Bool) (ls rest : List ℤ) (l : ℤ) (index : ℕ) → AreGathered vars marks ls → ls ≡ rest ++ l ∷ [] → index ≡ lit_index l → (2 * nat_abs l ≤ index) × (index ≤ 2 * nat_abs l + 1) → AreGathered vars (set marks index false) rest
gathered_pop vars marks ls rest l index h is at near =
    let R : List ℤ → Type 0 = λ xs. All (IsLiteral vars) xs in
    let literal = last_in_range vars rest l (subst R is h.in_range) in
    let room : index < length marks = (let most = near.1 in let size = h.room in let within = literal.variable in omega arith) in
    let D : List ℤ → Type 0 = λ xs. IsDistinct eqb (map nat_abs xs) in
    let E : List ℕ → Type 0 = λ ns. IsDistinct eqb ns in
    let distinct : IsDistinct eqb (map nat_abs rest ++ nat_abs l ∷ []) = subst E (variables_push rest l) (subst D is h.distinct) in
    let here : list_any (eqb (nat_abs l)) (nat_abs l ∷ []) ≡ true = or_left (eqb (nat_abs l) (nat_abs l)) false (eq-eqb (nat_abs l) (nat_abs l) refl) in
    let apart : list_any (eqb (nat_abs l)) (map nat_abs rest) ≡ false = distinct_apart (map nat_abs rest) (nat_abs l ∷ []) (nat_abs l) distinct here in
    let free : has rest l ≡ false = (or_parts (has rest l) (has rest (neg_ℤ l)) (sym (touches-is rest l) ∙ apart)).0 in
    record {
      few = h.few;
      room = length-set marks index false ∙ h.room;
      in_range = front_in_range vars rest l (subst R is h.in_range);
      distinct = front_distinct (map nat_abs rest) (nat_abs l) distinct;
      marked = λ x within. elim (cases_eq (lit_index x) (lit_index l)) [
        | inl e ↦ (let same = index_same x l e in
            let X : ℤ → Type 0 = λ y. get_or (set marks index false) (lit_index y) false ≡ has rest y in
            subst X (sym same) (ap (λ n. get_or (set marks index false) n false) (sym at) ∙ get_or-set_same marks index false false room ∙ sym free))
        | inr e ↦ get_or-set_other marks index (lit_index x) false false (λ f. e (f ∙ at)) ∙ h.marked x within ∙ ap (λ xs. has xs x) is ∙ has_push_other rest l x (apart_lit l x e)
      ];
    }

-- ---- a clause's literals so far

-- the literals so far are those that are gathered, and where none was repeated these are the same list
pub record AreTaken (clause : List ℤ) (i : ℕ) (ls : List ℤ) : Type 0 where
  pub same : SameLiterals (take i clause) ls
  pub size : length ls ≤ i
  pub whole : length ls ≡ i → ls ≡ take i clause

pub taken_none : (clause ls : List ℤ) → ls ≡ [] → AreTaken clause 0 ls
taken_none clause ls is = let P : List ℤ → Type 0 = λ xs. AreTaken clause 0 xs in subst P (sym is) (record { same = λ x. refl; size = omega arith; whole = λ e. refl })

pub taken_more : (clause : List ℤ) (i : ℕ) (lit : ℤ) (ls more : List ℤ) → i < length clause → lit ≡ get_or clause i lit → more ≡ cond (has ls lit) ls (ls ++ lit ∷ []) → AreTaken clause i ls → AreTaken clause (i + 1) more
taken_more clause i lit ls more lt is more_is h =
    let next : take (i + 1) clause ≡ take i clause ++ lit ∷ [] = take_more clause i lit lt ∙ ap (λ l. take i clause ++ l ∷ []) (sym is) in
    let P : List ℤ → Type 0 = λ xs. AreTaken clause (i + 1) xs in
    let size = h.size in
    elim (cases_Bool (has ls lit)) [
      | inl e ↦ subst P (sym (more_is ∙ rw e refl)) (record {
        same = λ x. ap (λ c. has c x) next ∙ has-append (take i clause) (lit ∷ []) x ∙ (elim (cases_Bool (same_lit lit x)) [
          | inl f ↦ (let Q : ℤ → Type 0 = λ y. has ls y ≡ true in or_right (has (take i clause) x) (has (lit ∷ []) x) (rw f refl) ∙ sym (subst Q (same_lit-true lit x f) e))
          | inr f ↦ rw f (or-false (has (take i clause) x) ∙ h.same x)
        ]);
        size = omega arith;
        whole = λ n. absurd (omega arith);
      })
      | inr e ↦ subst P (sym (more_is ∙ rw e refl)) (record {
        same = λ x. ap (λ c. has c x) next ∙ has-append (take i clause) (lit ∷ []) x ∙ ap (λ b. b || has (lit ∷ []) x) (h.same x) ∙ sym (has-append ls (lit ∷ []) x);
        size = (let n = length_push ls lit in omega arith);
        whole = λ k. (let n = length_push ls lit in let before : length ls ≡ i = omega arith in ap (λ xs. xs ++ lit ∷ []) (h.whole before) ∙ sym next);
      })
    ]

has_prefix : (clause : List ℤ) (i : ℕ) (l : ℤ) → has (take i clause) l ≡ true → has clause l ≡ true
has_prefix clause i l h =
    let P : List ℤ → Type 0 = λ ls. has ls l ≡ true in
    subst P (take-append-drop i clause) (has-append (take i clause) (drop i clause) l ∙ or_left (has (take i clause) l) (has (drop i clause) l) h)

-- a literal whose negation is there already
pub taken_both_ways : (clause : List ℤ) (i : ℕ) (lit : ℤ) (ls : List ℤ) → i < length clause → lit ≡ get_or clause i lit → AreTaken clause i ls → has ls (neg_ℤ lit) ≡ true → IsBothWays clause
taken_both_ways clause i lit ls lt is h there =
    let next : take (i + 1) clause ≡ take i clause ++ lit ∷ [] = take_more clause i lit lt ∙ ap (λ l. take i clause ++ l ∷ []) (sym is) in
    (lit, has_prefix clause (i + 1) lit (ap (λ c. has c lit) next ∙ has_push (take i clause) lit), has_prefix clause i (neg_ℤ lit) (h.same (neg_ℤ lit) ∙ there))
