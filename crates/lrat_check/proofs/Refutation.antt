-- An accepted proof leaves no values that satisfy the formula.
use Rattle.std.proofs.Common.{◌≡◌, ℕ, zero, suc, ◌+◌, Bool, true, false, eqb, ℤ, pos, negsuc, neg_ℤ, List, [], ◌∷◌, ◌++◌, map, Some, refl, sym, subst, arith, inl, inr}
use Rattle.std.proofs.lemmas.Bool.{or_cases, cases_Bool, or_left, or_right, or_parts}
use Rattle.std.specs.List.{enumerate_from}
use Rattle.cnf_base.specs.Status.{IsFalseIn, IsFalsifiedIn, IsUnitIn, same_lit, has}
use Rattle.cnf_base.specs.Meaning.{CnfFormula, lit_true, clause_true, Satisfies, HasNoModel}
use Rattle.lrat_text.specs.declared.proof.LratStep.{LratStep}
use Rattle.lrat_text.specs.declared.proof.LratStep.TheVariants.{Add, Delete}
use Rattle.lrat_text.specs.Standing.{Standing, start, clause_at, without, without_all, after}
use Rattle.lrat_text.specs.Accepted.{Ends, IsBothWays, MayAdd, MayStep, AddsEmpty, AcceptedFrom, Accepted}
use Rattle.cnf_base.proofs.Literals.{same_lit-true, has-head}

-- literals that are all true
abbrev AreTrue : (ℕ → Bool) → List ℤ → Type 0
AreTrue v ls = (l : ℤ) → has ls l ≡ true → lit_true v l ≡ true

-- live clauses that are all true
abbrev AreLiveTrue : (ℕ → Bool) → List (ℕ × List ℤ) → Type 0
AreLiveTrue v [] = Unit {0}
AreLiveTrue v (pair ∷ live) = (clause_true v pair.1 ≡ true) × AreLiveTrue v live

AreTrue-push : (v : ℕ → Bool) (ls : List ℤ) (m : ℤ) → AreTrue v ls → lit_true v m ≡ true → AreTrue v (ls ++ m ∷ [])
AreTrue-push v [] m t h l k =
    elim (or_cases (same_lit m l) false k) [
      | inl e ↦ (let P : ℤ → Type 0 = λ x. lit_true v x ≡ true in subst P (same_lit-true m l e) h)
      | inr e ↦ cc
    ]
AreTrue-push v (x ∷ xs) m t h l k =
    elim (or_cases (same_lit x l) (has (xs ++ m ∷ []) l) k) [
      | inl e ↦ t l (or_left (same_lit x l) (has xs l) e)
      | inr e ↦ AreTrue-push v xs m (λ y n. t y (or_right (same_lit x y) (has xs y) n)) h l e
    ]

-- a literal that is true
true_literal : (v : ℕ → Bool) (c : List ℤ) → clause_true v c ≡ true → (l : ℤ) × (has c l ≡ true) × (lit_true v l ≡ true)
true_literal v [] h = cc
true_literal v (m ∷ ms) h =
    elim (or_cases (lit_true v m) (clause_true v ms) h) [
      | inl e ↦ (m, has-head m ms, e)
      | inr e ↦ let found = true_literal v ms e in (found.0, or_right (same_lit m found.0) (has ms found.0) found.1, found.2)
    ]

clause_true-at : (v : ℕ → Bool) (c : List ℤ) (l : ℤ) → has c l ≡ true → lit_true v l ≡ true → clause_true v c ≡ true
clause_true-at v [] l h t = cc
clause_true-at v (m ∷ ms) l h t =
    elim (or_cases (same_lit m l) (has ms l) h) [
      | inl e ↦ (let P : ℤ → Type 0 = λ x. lit_true v x ≡ true in or_left (lit_true v m) (clause_true v ms) (subst P (sym (same_lit-true m l e)) t))
      | inr e ↦ or_right (lit_true v m) (clause_true v ms) (clause_true-at v ms l e t)
    ]

-- a literal and its negation are not both true, but for 0
not_both : (v : ℕ → Bool) (l : ℤ) → lit_true v l ≡ true → lit_true v (neg_ℤ l) ≡ true → l ≡ pos 0
not_both v (pos zero) h k = refl
not_both v (pos (suc n)) h k = grind arith
not_both v (negsuc n) h k = grind arith

-- one of them is true
neg_ℤ-true : (v : ℕ → Bool) (l : ℤ) → lit_true v l ≡ false → lit_true v (neg_ℤ l) ≡ true
neg_ℤ-true v (pos zero) h = cc
neg_ℤ-true v (pos (suc n)) h = grind arith
neg_ℤ-true v (negsuc n) h = grind arith

-- a literal that is false under true literals has the value false
not_true : (v : ℕ → Bool) (assumed : List ℤ) (l : ℤ) → AreTrue v assumed → IsFalseIn assumed l → lit_true v l ≡ true → ⊥
not_true v assumed l t h k =
    let zero_here : l ≡ pos 0 = not_both v l k (t (neg_ℤ l) h.1) in
    let P : ℤ → Type 0 = λ x. has assumed x ≡ false in
    let Q : ℤ → Type 0 = λ x. has assumed (neg_ℤ x) ≡ true in
    let absent : has assumed (pos 0) ≡ false = subst P zero_here h.0 in
    let there : has assumed (pos 0) ≡ true = subst Q zero_here h.1 in
    cc

-- a refuted clause is not true
refuted_is_false : (v : ℕ → Bool) (assumed c : List ℤ) → AreTrue v assumed → IsFalsifiedIn assumed c → clause_true v c ≡ true → ⊥
refuted_is_false v assumed c t h k =
    let found = true_literal v c k in not_true v assumed found.0 t (h found.0 found.1) found.2

-- the one open literal of a true clause is true
unit_is_true : (v : ℕ → Bool) (assumed c : List ℤ) (l : ℤ) → AreTrue v assumed → IsUnitIn assumed c l → clause_true v c ≡ true → lit_true v l ≡ true
unit_is_true v assumed c l t h k =
    let found = true_literal v c k in
    elim (cases_Bool (same_lit found.0 l)) [
      | inl e ↦ (let P : ℤ → Type 0 = λ x. lit_true v x ≡ true in subst P (same_lit-true found.0 l e) found.2)
      | inr e ↦ absurd (not_true v assumed found.0 t (h.others found.0 found.1 (λ same. apart found.0 l same e)) found.2)
    ]
  where
    apart : (a b : ℤ) → a ≡ b → same_lit a b ≡ false → ⊥
    apart a b same e = let P : ℤ → Type 0 = λ x. same_lit x b ≡ false in let f : same_lit b b ≡ false = subst P same e in let g = has-head b [] in grind arith

clause_at-true : (v : ℕ → Bool) (live : List (ℕ × List ℤ)) (id : ℕ) (c : List ℤ) → AreLiveTrue v live → clause_at live id ≡ Some c → clause_true v c ≡ true
clause_at-true v [] id c t h = cc
clause_at-true v (pair ∷ live) id c t h =
    elim (cases_Bool (eqb pair.0 id)) [
      | inl e ↦ (let k : Some pair.1 ≡ Some c = rw e at h in let same : pair.1 ≡ c = cc in let P : List ℤ → Type 0 = λ x. clause_true v x ≡ true in subst P same t.0)
      | inr e ↦ clause_at-true v live id c t.1 (rw e at h)
    ]

-- hints that end at a false clause leave no values
ends_refutes : (v : ℕ → Bool) (live : List (ℕ × List ℤ)) (assumed hints : List ℤ) → AreLiveTrue v live → AreTrue v assumed → Ends live assumed hints → ⊥
ends_refutes v live assumed [] s t h = h
ends_refutes v live assumed (pos id ∷ hints) s t h =
    let clause_holds = clause_at-true v live id h.0 s h.1 in
    elim h.2 [
      | inl passed ↦ ends_refutes v live assumed hints s t passed.1
      | inr rest ↦ elim rest [
        | inl refuted ↦ refuted_is_false v assumed h.0 t refuted clause_holds
        | inr unit ↦ ends_refutes v live (assumed ++ unit.0 ∷ []) hints s (AreTrue-push v assumed unit.0 t (unit_is_true v assumed h.0 unit.0 t unit.1 clause_holds)) unit.2
      ]
    ]
ends_refutes v live assumed (negsuc n ∷ hints) s t h = h

-- the negations of a false clause's literals are true
negated_true : (v : ℕ → Bool) (c : List ℤ) → clause_true v c ≡ false → AreTrue v (map neg_ℤ c)
negated_true v [] h l k = cc
negated_true v (m ∷ ms) h l k =
    let parts = or_parts (lit_true v m) (clause_true v ms) h in
    elim (or_cases (same_lit (neg_ℤ m) l) (has (map neg_ℤ ms) l) k) [
      | inl e ↦ (let P : ℤ → Type 0 = λ x. lit_true v x ≡ true in subst P (same_lit-true (neg_ℤ m) l e) (neg_ℤ-true v m parts.0))
      | inr e ↦ negated_true v ms parts.1 l e
    ]

both_ways_true : (v : ℕ → Bool) (c : List ℤ) → IsBothWays c → clause_true v c ≡ true
both_ways_true v c h =
    elim (cases_Bool (lit_true v h.0)) [
      | inl e ↦ clause_true-at v c h.0 h.1 e
      | inr e ↦ clause_true-at v c (neg_ℤ h.0) h.2 (neg_ℤ-true v h.0 e)
    ]

-- an addition that may be made is true
added_true : (v : ℕ → Bool) (s : Standing) (id : ℕ) (lits hints : List ℤ) → AreLiveTrue v s.live → MayAdd s id lits hints → clause_true v lits ≡ true
added_true v s id lits hints t h =
    elim (cases_Bool (clause_true v lits)) [
      | inl e ↦ e
      | inr e ↦ elim h.follows [
        | inl both ↦ both_ways_true v lits both
        | inr ends ↦ absurd (ends_refutes v s.live (map neg_ℤ lits) hints t (negated_true v lits e) ends)
      ]
    ]

AreLiveTrue-push : (v : ℕ → Bool) (live : List (ℕ × List ℤ)) (pair : ℕ × List ℤ) → AreLiveTrue v live → clause_true v pair.1 ≡ true → AreLiveTrue v (live ++ pair ∷ [])
AreLiveTrue-push v [] pair t h = (h, tt)
AreLiveTrue-push v (first ∷ live) pair t h = (t.0, AreLiveTrue-push v live pair t.1 h)

AreLiveTrue-without : (v : ℕ → Bool) (live : List (ℕ × List ℤ)) (id : ℕ) → AreLiveTrue v live → AreLiveTrue v (without live id)
AreLiveTrue-without v [] id t = tt
AreLiveTrue-without v (pair ∷ live) id t =
    elim (cases_Bool (eqb pair.0 id)) [
      | inl e ↦ rw e (AreLiveTrue-without v live id t.1)
      | inr e ↦ rw e (t.0, AreLiveTrue-without v live id t.1)
    ]

AreLiveTrue-without_all : (v : ℕ → Bool) (live : List (ℕ × List ℤ)) (ids : List ℕ) → AreLiveTrue v live → AreLiveTrue v (without_all live ids)
AreLiveTrue-without_all v live [] t = t
AreLiveTrue-without_all v live (id ∷ ids) t = AreLiveTrue-without_all v (without live id) ids (AreLiveTrue-without v live id t)

AreLiveTrue-after : (v : ℕ → Bool) (s : Standing) (step : LratStep) → AreLiveTrue v s.live → MayStep s step → AreLiveTrue v (after s step).live
AreLiveTrue-after v s (Add id lits hints) t h = AreLiveTrue-push v s.live (id, lits) t (added_true v s id lits hints t h)
AreLiveTrue-after v s (Delete at ids) t h = AreLiveTrue-without_all v s.live ids t

no_empty_lemma : (v : ℕ → Bool) (s : Standing) (step : LratStep) → AreLiveTrue v s.live → MayStep s step → AddsEmpty step → ⊥
no_empty_lemma v s (Add id lits hints) t h e =
    let P : List ℤ → Type 0 = λ c. clause_true v c ≡ true in
    let k : false ≡ true = subst P e (added_true v s id lits hints t h) in cc
no_empty_lemma v s (Delete at ids) t h e = e

steps_refute : (v : ℕ → Bool) (s : Standing) (steps : List LratStep) → AreLiveTrue v s.live → AcceptedFrom s steps → ⊥
steps_refute v s [] t h = h
steps_refute v s (step ∷ steps) t h =
    elim h.1 [
      | inl e ↦ no_empty_lemma v s step t h.0 e
      | inr later ↦ steps_refute v (after s step) steps (AreLiveTrue-after v s step t h.0) later
    ]

numbered_true : (v : ℕ → Bool) (n : ℕ) (cs : List (List ℤ)) → Satisfies v cs → AreLiveTrue v (enumerate_from n cs)
numbered_true v n [] s = tt
numbered_true v n (c ∷ cs) s = (s.0, numbered_true v (n + 1) cs s.1)

pub accepted_refutes : (formula : CnfFormula) (proof : List LratStep) → Accepted formula proof → HasNoModel formula.clauses
accepted_refutes formula proof h v s = steps_refute v (start formula) proof (numbered_true v 1 formula.clauses s) h
