-- Clauses have the same literals exactly where they have the same key.
use Rattle.std.proofs.Common.{◌≡◌, ◌≢◌, ℕ, zero, suc, ◌+◌, ◌<◌, Bool, true, false, not, ◌||◌, ℤ, List, [], ◌∷◌, ◌++◌, length, get_or, take, Vec, refl, ap, sym, ◌∙◌, subst, arith, inl, inr}
use Rattle.std.specs.List.{All, AllByRecursion, Contains, list_any, dedup}
use Rattle.std.specs.List.Sorted.{IsStrictlySortedBy, IsSorted, IsPermutation}
use Rattle.std.specs.Cmp.{IsTotalOrder, int_cmp_total}
use Rattle.std.specs.Cmp.Lexicographic.{slice_cmp, lists_total}
use Rattle.std.specs.declared.cmp.Ordering.{Ordering}
use Rattle.std.specs.declared.cmp.Ordering.TheVariants.{Less, Equal, Greater}
use Rattle.std.specs.Ordering.{int_cmp, int_eq, is_eq, ordering_then, ordering_reverse, match_ordering}
use Rattle.std.specs.BTreeSet.{insert_key, contains}
use Rattle.std.specs.Global.{Global}
use Rattle.std.proofs.lemmas.Bool.{or_cases, or_right, or_left, both_ways, false_from_ne_true}
use Rattle.std.proofs.lemmas.List.{take_more}
use Rattle.std.proofs.lemmas.List.Elements.{All-push, All-weaker}
use Rattle.std.proofs.lemmas.List.Sorted.{Contains-permutation, IsPermutation-sym}
use Rattle.std.proofs.lemmas.List.Kept.{Contains-dedup, Contains-from_dedup, IsStrictlySortedBy-dedup}
use Rattle.std.proofs.lemmas.Map.Keys.{sorted_head, sorted_tail}
use Rattle.std.proofs.lemmas.Map.Lookups.{exact_signed, CmpEqualImpliesEq}
use Rattle.std.proofs.lemmas.Cmp.{int_eq_equiv}
use Rattle.std.proofs.lemmas.Bool.Decides.{Decides-int_eq}
use Rattle.cnf_base.specs.Status.{same_lit, has, is_tautology}
use Rattle.lrat_text.specs.declared.proof.LratStep.{LratStep}
use Rattle.lrat_text.specs.declared.proof.LratStep.TheVariants.{Add, Delete}
use Rattle.lrat_text.specs.Spent.{SameLiterals}
use Rattle.lrat_check.specs.SpentFault.{same_literals, adds_lemma}
use Rattle.lrat_check.specs.ClauseKeys.{IsKeyOf, Keys, holds, HoldsStep, AreTaken, TakesStep}
use Rattle.cnf_base.proofs.Literals.{same_tests, or-false, same_lit-true, same_lit-itself, has-head}
use Rattle.lrat_check.proofs.SpentFaults.{same_literals-says, same_literals-from, not_empty_from}

-- what an order says

irreflexive : {K : Type 0} (R : K → K → Ordering) → IsTotalOrder R → (x : K) → R x x ≡ Less → ⊥
irreflexive R o x h =
    let flipped : Less ≡ ordering_reverse Less = sym h ∙ o.antisymm x x ∙ ap ordering_reverse h in cc

not_both_below : {K : Type 0} (R : K → K → Ordering) → IsTotalOrder R → (x y : K) → R x y ≡ Less → R y x ≡ Less → ⊥
not_both_below R o x y h k = irreflexive R o x (o.trans x y x h k)

reflexive : {K : Type 0} (R : K → K → Ordering) → IsTotalOrder R → (x : K) → R x x ≡ Equal
reflexive R o x = by (R x x) (o.antisymm x x)
  where
    by : (r : Ordering) → r ≡ ordering_reverse r → r ≡ Equal
    by Less h = cc
    by Equal h = refl
    by Greater h = cc

-- membership by places and by recursion

Contains-from_has : (ls : List ℤ) (l : ℤ) → has ls l ≡ true → Contains ls l
Contains-from_has [] l h = cc
Contains-from_has (m ∷ ms) l h =
    elim (or_cases (same_lit m l) (has ms l) h) [
      | inl e ↦ (0, omega arith, same_lit-true m l e)
      | inr e ↦ (let found = Contains-from_has ms l e in (suc found.0, omega (arith, found.1), found.2))
    ]

has-from_Contains : (ls : List ℤ) (l : ℤ) → Contains ls l → has ls l ≡ true
has-from_Contains ls l h = at ls h.0 h.1 h.2
  where
    at : (xs : List ℤ) (k : ℕ) → k < length xs → get_or xs k l ≡ l → has xs l ≡ true
    at [] k lt e = absurd (omega arith)
    at (x ∷ xs) zero lt e = or_left (same_lit x l) (has xs l) (let P : ℤ → Type 0 = λ y. same_lit x y ≡ true in subst P e (same_lit-itself x))
    at (x ∷ xs) (suc k) lt e = or_right (same_lit x l) (has xs l) (at xs k (omega arith) e)

-- a sort that drops repeated literals makes the key

pub IsKeyOf-sorted : (lits sorted key : List ℤ) → IsPermutation lits sorted → IsSorted int_cmp sorted → key ≡ dedup int_eq sorted → IsKeyOf lits key
IsKeyOf-sorted lits sorted key moved order is =
    let same : (x y : ℤ) → int_eq x y ≡ true → x ≡ y = λ x y. (Decides-int_eq x y).0 in
    let P : List ℤ → Type 0 = IsKeyOf lits in
    subst P (sym is) (record {
      rising = IsStrictlySortedBy-dedup int_cmp_total (λ x y. refl) sorted order;
      same = λ l. same_tests (has (dedup int_eq sorted) l) (has lits l)
          (λ h. has-from_Contains lits l (Contains-permutation sorted lits l (IsPermutation-sym lits sorted moved) (Contains-from_dedup int_eq sorted l (Contains-from_has (dedup int_eq sorted) l h))))
          (λ h. has-from_Contains (dedup int_eq sorted) l (Contains-dedup int_eq_equiv same sorted l (Contains-permutation lits sorted l moved (Contains-from_has lits l h))));
    })

-- rising lists with the same literals are one

member_above : (R : ℤ → ℤ → Ordering) (x : ℤ) (xs : List ℤ) → AllByRecursion (λ y. R x y ≡ Less) xs → (l : ℤ) → has xs l ≡ true → R x l ≡ Less
member_above R x [] h l k = cc
member_above R x (y ∷ ys) h l k =
    elim (or_cases (same_lit y l) (has ys l) k) [
      | inl e ↦ (let P : ℤ → Type 0 = λ z. R x z ≡ Less in subst P (same_lit-true y l e) h.0)
      | inr e ↦ member_above R x ys h.1 l e
    ]

same_rising : (R : ℤ → ℤ → Ordering) → IsTotalOrder R → (xs ys : List ℤ) → IsStrictlySortedBy R xs → IsStrictlySortedBy R ys → ((l : ℤ) → has xs l ≡ has ys l) → xs ≡ ys
same_rising R o [] [] a b h = refl
same_rising R o [] (y ∷ ys) a b h = absurd (both_ways (has (y ∷ ys) y) (sym (h y)) (has-head y ys))
same_rising R o (x ∷ xs) [] a b h = absurd (both_ways (has (x ∷ xs) x) (h x) (has-head x xs))
same_rising R o (x ∷ xs) (y ∷ ys) a b h =
    let over_x = member_above R x xs (sorted_head R x xs a) in
    let over_y = member_above R y ys (sorted_head R y ys b) in
    let first : x ≡ y = heads over_x over_y in
    let rest : xs ≡ ys = same_rising R o xs ys (sorted_tail R x xs a) (sorted_tail R y ys b) (tails first over_x over_y) in cc
  where
    heads : ((l : ℤ) → has xs l ≡ true → R x l ≡ Less) → ((l : ℤ) → has ys l ≡ true → R y l ≡ Less) → x ≡ y
    heads over_x over_y =
        elim (or_cases (same_lit y x) (has ys x) (sym (h x) ∙ has-head x xs)) [
          | inl e ↦ sym (same_lit-true y x e)
          | inr e ↦ elim (or_cases (same_lit x y) (has xs y) (h y ∙ has-head y ys)) [
            | inl f ↦ same_lit-true x y f
            | inr f ↦ absurd (not_both_below R o x y (over_x y f) (over_y x e))
          ]
        ]

    tails : x ≡ y → ((l : ℤ) → has xs l ≡ true → R x l ≡ Less) → ((l : ℤ) → has ys l ≡ true → R y l ≡ Less) → (l : ℤ) → has xs l ≡ has ys l
    tails first over_x over_y l =
        same_tests (has xs l) (has ys l)
        (λ k. elim (or_cases (same_lit y l) (has ys l) (sym (h l) ∙ or_right (same_lit x l) (has xs l) k)) [
          | inl e ↦ absurd (irreflexive R o x (let P : ℤ → Type 0 = λ z. R x z ≡ Less in subst P (sym (first ∙ same_lit-true y l e)) (over_x l k)))
          | inr e ↦ e
        ])
        (λ k. elim (or_cases (same_lit x l) (has xs l) (h l ∙ or_right (same_lit y l) (has ys l) k)) [
          | inl e ↦ absurd (irreflexive R o y (let P : ℤ → Type 0 = λ z. R y z ≡ Less in subst P (sym (sym first ∙ same_lit-true x l e)) (over_y l k)))
          | inr e ↦ e
        ])

pub same_keys : (a b p q : List ℤ) → IsKeyOf a p → IsKeyOf b q → SameLiterals a b → p ≡ q
same_keys a b p q h k same = same_rising int_cmp int_cmp_total p q h.rising k.rising (λ l. h.same l ∙ same l ∙ sym (k.same l))

pub keys_same : (a b p q : List ℤ) → IsKeyOf a p → IsKeyOf b q → p ≡ q → SameLiterals a b
keys_same a b p q h k is l = sym (h.same l) ∙ ap (λ (x : List ℤ). has x l) is ∙ k.same l

-- a set of keys that grows

exact_lists : (R : ℤ → ℤ → Ordering) → CmpEqualImpliesEq R → (xs ys : List ℤ) → slice_cmp R xs ys ≡ Equal → xs ≡ ys
exact_lists R exact [] [] h = refl
exact_lists R exact [] (y ∷ ys) h = cc
exact_lists R exact (x ∷ xs) [] h = cc
exact_lists R exact (x ∷ xs) (y ∷ ys) h =
    let parts = both (R x y) (slice_cmp R xs ys) h in
    let first : x ≡ y = exact x y parts.0 in
    let rest : xs ≡ ys = exact_lists R exact xs ys parts.1 in cc
  where
    both : (r s : Ordering) → ordering_then r s ≡ Equal → (r ≡ Equal) × (s ≡ Equal)
    both Less s h = cc
    both Equal s h = (refl, h)
    both Greater s h = cc

equal_from_is_eq : (r : Ordering) → is_eq r ≡ true → r ≡ Equal
equal_from_is_eq Less h = cc
equal_from_is_eq Equal h = refl
equal_from_is_eq Greater h = cc

-- whether two keys are one
abbrev same_key : List ℤ → List ℤ → Bool
same_key p q = is_eq (slice_cmp int_cmp p q)

same_key-true : (p q : List ℤ) → same_key p q ≡ true → p ≡ q
same_key-true p q h = exact_lists int_cmp exact_signed p q (equal_from_is_eq (slice_cmp int_cmp p q) h)

same_key-itself : (p : List ℤ) → same_key p p ≡ true
same_key-itself p = ap is_eq (reflexive (slice_cmp int_cmp) (lists_total int_cmp_total) p)

abbrev key_cmp : Vec ℤ Global → Vec ℤ Global → Ordering
key_cmp x y = slice_cmp int_cmp x.items y.items

or_swap : (a b c : Bool) → (a || (b || c)) ≡ (b || (a || c))
or_swap true true c = refl
or_swap true false c = refl
or_swap false b c = refl

or_again : (a b c : Bool) → a ≡ b → (a || c) ≡ (b || (a || c))
or_again true true c h = refl
or_again true false c h = cc
or_again false true c h = cc
or_again false false c h = refl

list_any-insert_key : (q : List ℤ) (key : Vec ℤ Global) (ks : List (Vec ℤ Global)) → list_any (λ (k : Vec ℤ Global). same_key q k.items) (insert_key key_cmp ks key) ≡ (same_key q key.items || list_any (λ (k : Vec ℤ Global). same_key q k.items) ks)
list_any-insert_key q key [] = refl
list_any-insert_key q key (k ∷ ks) = by (key_cmp key k) refl (list_any-insert_key q key ks)
  where
    by : (r : Ordering) → key_cmp key k ≡ r → list_any (λ (k : Vec ℤ Global). same_key q k.items) (insert_key key_cmp ks key) ≡ (same_key q key.items || list_any (λ (k : Vec ℤ Global). same_key q k.items) ks) → list_any (λ (k : Vec ℤ Global). same_key q k.items) (match_ordering r (key ∷ k ∷ ks) (k ∷ ks) (k ∷ insert_key key_cmp ks key)) ≡ (same_key q key.items || (same_key q k.items || list_any (λ (k : Vec ℤ Global). same_key q k.items) ks))
    by Less e rest = refl
    by Equal e rest = or_again (same_key q k.items) (same_key q key.items) (list_any (λ (k : Vec ℤ Global). same_key q k.items) ks) (ap (same_key q) (sym (exact_lists int_cmp exact_signed key.items k.items e)))
    by Greater e rest = ap (λ b. same_key q k.items || b) rest ∙ or_swap (same_key q k.items) (same_key q key.items) (list_any (λ (k : Vec ℤ Global). same_key q k.items) ks)

pub holds-insert : (old new : Keys) (key : Vec ℤ Global) (q : List ℤ) → new.keys ≡ insert_key key_cmp old.keys key → holds new q ≡ (same_key q key.items || holds old q)
holds-insert old new key q h =
    ap (λ (ks : List (Vec ℤ Global)). list_any (λ (k : Vec ℤ Global). same_key q k.items) ks) h ∙ list_any-insert_key q key old.keys

-- the set has a key once it is put in
pub HoldsStep-insert : (old new : Keys) (key : Vec ℤ Global) (id : ℕ) (lits hints : List ℤ) → IsKeyOf lits key.items → new.keys ≡ insert_key key_cmp old.keys key → HoldsStep new (Add id lits hints)
HoldsStep-insert old new key id lits hints is h q k =
    holds-insert old new key q h ∙ or_left (same_key q key.items) (holds old q)
    (let P : List ℤ → Type 0 = λ x. same_key q x ≡ true in subst P (same_keys lits lits q key.items k is (λ l. refl)) (same_key-itself q))

HoldsStep-kept : (old new : Keys) (key : Vec ℤ Global) → new.keys ≡ insert_key key_cmp old.keys key → (step : LratStep) → HoldsStep old step → HoldsStep new step
HoldsStep-kept old new key h (Add id lits hints) k = λ q is. holds-insert old new key q h ∙ or_right (same_key q key.items) (holds old q) (k q is)
HoldsStep-kept old new key h (Delete at ids) k = tt

pub asked_more : (old new : Keys) (key : Vec ℤ Global) (id : ℕ) (lits hints : List ℤ) (steps : List LratStep) (i : ℕ) (d : LratStep) → i < length steps → get_or steps i d ≡ Add id lits hints → IsKeyOf lits key.items → new.keys ≡ insert_key key_cmp old.keys key → All (HoldsStep old) (take i steps) → All (HoldsStep new) (take (i + 1) steps)
asked_more old new key id lits hints steps i d lt at is h before =
    let P : List LratStep → Type 0 = All (HoldsStep new) in
    let Q : LratStep → Type 0 = HoldsStep new in
    subst P (sym (take_more steps i d lt))
    (All-push (HoldsStep new) (take i steps) (get_or steps i d) (All-weaker (HoldsStep old) (HoldsStep new) (HoldsStep-kept old new key h) (take i steps) before)
    (subst Q (sym at) (HoldsStep-insert old new key id lits hints is h)))

-- keys that are the same tell clauses with the same literals
same_key-is : (a b p q : List ℤ) → IsKeyOf a p → IsKeyOf b q → same_key p q ≡ same_literals a b
same_key-is a b p q h k =
    same_tests (same_key p q) (same_literals a b)
    (λ e. same_literals-from a b (keys_same a b p q h k (same_key-true p q e)))
    (λ e. let P : List ℤ → Type 0 = λ x. same_key p x ≡ true in subst P (same_keys a b p q h k (same_literals-says a b e)) (same_key-itself p))

list_any-push : (test : List ℤ → Bool) (cs : List (List ℤ)) (c : List ℤ) → list_any test (cs ++ c ∷ []) ≡ (list_any test cs || test c)
list_any-push test [] c = or-false (test c)
list_any-push test (d ∷ ds) c = let rest = list_any-push test ds c in grind arith

or_flip : (a b : Bool) → (a || b) ≡ (b || a)
or_flip true true = refl
or_flip true false = refl
or_flip false true = refl
or_flip false false = refl

-- one more clause, whose key is put in
pub AreTaken-insert : (asked old new : Keys) (earlier : List (List ℤ)) (clause : List ℤ) (key : Vec ℤ Global) → AreTaken asked old earlier → IsKeyOf clause key.items → new.keys ≡ insert_key key_cmp old.keys key → AreTaken asked new (earlier ++ clause ∷ [])
AreTaken-insert asked old new earlier clause key taken is h lits q k there =
    holds-insert old new key q h
    ∙ ap (λ b. b || holds old q) (same_key-is lits clause q key.items k is)
    ∙ ap (λ b. same_literals lits clause || b) (taken lits q k there)
    ∙ or_flip (same_literals lits clause) (list_any (same_literals lits) earlier)
    ∙ sym (list_any-push (same_literals lits) earlier clause)

-- one more clause, whose key nobody asks for
pub AreTaken-skip : (asked taken : Keys) (earlier : List (List ℤ)) (clause key : List ℤ) → AreTaken asked taken earlier → IsKeyOf clause key → holds asked key ≡ false → AreTaken asked taken (earlier ++ clause ∷ [])
AreTaken-skip asked taken earlier clause key h is absent lits q k there =
    let apart : same_literals lits clause ≡ false = false_from_ne_true (same_literals lits clause) (λ e.
    let P : List ℤ → Type 0 = λ x. holds asked x ≡ true in
    both_ways (holds asked key) absent (subst P (same_keys lits clause q key k is (same_literals-says lits clause e)) there)) in
    h lits q k there
    ∙ sym (or-false (list_any (same_literals lits) earlier))
    ∙ ap (λ b. list_any (same_literals lits) earlier || b) (sym apart)
    ∙ sym (list_any-push (same_literals lits) earlier clause)

pub asked_same : (keys : Keys) (steps : List LratStep) (i : ℕ) (d : LratStep) → i < length steps → ((id : ℕ) (lits hints : List ℤ) → get_or steps i d ≡ Add id lits hints → ⊥) → All (HoldsStep keys) (take i steps) → All (HoldsStep keys) (take (i + 1) steps)
asked_same keys steps i d lt not_add before =
    let P : List LratStep → Type 0 = All (HoldsStep keys) in
    subst P (sym (take_more steps i d lt)) (All-push (HoldsStep keys) (take i steps) (get_or steps i d) before (other (get_or steps i d) not_add))
  where
    other : (step : LratStep) → ((id : ℕ) (lits hints : List ℤ) → step ≡ Add id lits hints → ⊥) → HoldsStep keys step
    other (Add id lits hints) n = absurd (n id lits hints refl)
    other (Delete at ids) n = tt

-- an addition of a plain clause adds a lemma where its key was not taken
pub TakesStep-insert : (old new : Keys) (key : Vec ℤ Global) (step : LratStep) (id : ℕ) (lits hints : List ℤ) (fresh : Bool) → step ≡ Add id lits hints → lits ≢ [] → is_tautology lits ≡ false → IsKeyOf lits key.items → fresh ≡ not (contains key_cmp old key) → new.keys ≡ insert_key key_cmp old.keys key → TakesStep old new step fresh
TakesStep-insert old new key step id lits hints fresh step_is some plain is added h =
    let P : LratStep → Type 0 = λ x. TakesStep old new x fresh in
    subst P (sym step_is) (λ asked earlier taken there.
    let was : holds old key.items ≡ list_any (same_literals lits) earlier = taken lits key.items is (there key.items is) in
    let lemma : adds_lemma earlier (Add id lits hints) ≡ not (list_any (same_literals lits) earlier) = rw (not_empty_from lits some, plain) refl in
    (added ∙ ap not was ∙ sym lemma, λ _. AreTaken-insert asked old new earlier lits key taken is h))
