-- A proof spends its lemmas exactly where it has no fault in this.
use Rattle.std.proofs.Common.{◌≡◌, ◌≢◌, ◌↔◌, ℕ, ◌+◌, Bool, true, false, ◌||◌, eqb, ℤ, neg_ℤ, List, [], ◌∷◌, ◌++◌, length, Option, Some, None, refl, ap, sym, ◌∙◌, subst, inl, inr}
use Rattle.std.specs.List.{AllByRecursion, list_any, list_all}
use Rattle.std.proofs.lemmas.Bool.{or_cases, or_parts, or_from, or_right, and_parts, and_from, both_ways, false_from_ne_true, not-true, not_from_false, eqb-true, eq-eqb}
use Rattle.std.proofs.lemmas.List.Elements.{All-from_recursion, recursion_from_All}
use Rattle.cnf_base.specs.Status.{same_lit, has, is_tautology}
use Rattle.cnf_base.specs.Meaning.{CnfFormula}
use Rattle.lrat_text.specs.declared.proof.LratStep.{LratStep}
use Rattle.lrat_text.specs.declared.proof.LratStep.TheVariants.{Add, Delete}
use Rattle.lrat_check.specs.declared.fault.ProofKind.{ProofKind}
use Rattle.lrat_check.specs.declared.fault.SpentFault.{SpentFault}
use Rattle.lrat_text.specs.Standing.{Standing, start, after, with_clause}
use Rattle.lrat_check.specs.FirstFault.{add_fault, step_fault, is_empty}
use Rattle.lrat_text.specs.Spent.{SameLiterals, IsLemma, SpentFrom, SpentOn}
use Rattle.lrat_check.specs.SpentFault.{same_literals, is_lemma, spent_at, spent_from, counted, spent_fault}
use Rattle.cnf_base.proofs.Literals.{same_tests, same_lit-true, has-head, list_any-found, list_any-at}
use Rattle.lrat_check.proofs.Agreement.{add_without_fault, no_add_fault}

-- whether all literals of one clause stand in another
list_all-says : (a b : List ℤ) → list_all (has b) a ≡ true → (l : ℤ) → has a l ≡ true → has b l ≡ true
list_all-says [] b h l k = cc
list_all-says (m ∷ ms) b h l k =
    let parts = and_parts (has b m) (list_all (has b) ms) h in
    elim (or_cases (same_lit m l) (has ms l) k) [
      | inl e ↦ (let P : ℤ → Type 0 = λ x. has b x ≡ true in subst P (same_lit-true m l e) parts.0)
      | inr e ↦ list_all-says ms b parts.1 l e
    ]

list_all-from : (a b : List ℤ) → ((l : ℤ) → has a l ≡ true → has b l ≡ true) → list_all (has b) a ≡ true
list_all-from [] b h = refl
list_all-from (m ∷ ms) b h =
    and_from (has b m) (list_all (has b) ms) (h m (has-head m ms)) (list_all-from ms b (λ l k. h l (or_right (same_lit m l) (has ms l) k)))

pub same_literals-says : (a b : List ℤ) → same_literals a b ≡ true → SameLiterals a b
same_literals-says a b h l =
    let parts = and_parts (list_all (has b) a) (list_all (has a) b) h in
    same_tests (has a l) (has b l) (list_all-says a b parts.0 l) (list_all-says b a parts.1 l)

pub same_literals-from : (a b : List ℤ) → SameLiterals a b → same_literals a b ≡ true
same_literals-from a b h =
    and_from (list_all (has b) a) (list_all (has a) b)
    (list_all-from a b (λ l k. sym (h l) ∙ k))
    (list_all-from b a (λ l k. h l ∙ k))

fresh_says : (lits : List ℤ) (earlier : List (List ℤ)) → list_any (same_literals lits) earlier ≡ false → AllByRecursion (λ clause. ¬ SameLiterals lits clause) earlier
fresh_says lits [] h = tt
fresh_says lits (c ∷ cs) h =
    let parts = or_parts (same_literals lits c) (list_any (same_literals lits) cs) h in
    ((λ same. both_ways (same_literals lits c) parts.0 (same_literals-from lits c same)), fresh_says lits cs parts.1)

fresh_from : (lits : List ℤ) (earlier : List (List ℤ)) → AllByRecursion (λ clause. ¬ SameLiterals lits clause) earlier → list_any (same_literals lits) earlier ≡ false
fresh_from lits [] h = refl
fresh_from lits (c ∷ cs) h =
    or_from (same_literals lits c) (list_any (same_literals lits) cs) (false_from_ne_true (same_literals lits c) (λ k. h.0 (same_literals-says lits c k))) (fresh_from lits cs h.1)

not_empty_says : (lits : List ℤ) → is_empty lits ≡ false → lits ≢ []
not_empty_says [] h = cc
not_empty_says (l ∷ ls) h = λ e. (let k : false ≡ true = ap is_empty e in cc)

pub not_empty_from : (lits : List ℤ) → lits ≢ [] → is_empty lits ≡ false
not_empty_from [] h = absurd (h refl)
not_empty_from (l ∷ ls) h = refl

lemma_says : (earlier : List (List ℤ)) (lits : List ℤ) → is_lemma earlier lits ≡ true → IsLemma earlier lits
lemma_says earlier lits h =
    let parts = or_parts (is_empty lits) (is_tautology lits || list_any (same_literals lits) earlier) (not-true _ h) in
    let rest = or_parts (is_tautology lits) (list_any (same_literals lits) earlier) parts.1 in
    record {
      not_empty = not_empty_says lits parts.0;
      plain = λ both. both_ways (is_tautology lits) rest.0 (list_any-at (λ l. has lits (neg_ℤ l)) lits both.0 both.1 both.2);
      fresh = All-from_recursion (λ clause. ¬ SameLiterals lits clause) earlier (fresh_says lits earlier rest.1);
    }

lemma_from : (earlier : List (List ℤ)) (lits : List ℤ) → IsLemma earlier lits → is_lemma earlier lits ≡ true
lemma_from earlier lits h =
    not_from_false _ (or_from (is_empty lits) (is_tautology lits || list_any (same_literals lits) earlier) (not_empty_from lits h.not_empty)
    (or_from (is_tautology lits) (list_any (same_literals lits) earlier)
    (false_from_ne_true (is_tautology lits) (λ k. h.plain (list_any-found (λ l. has lits (neg_ℤ l)) lits k)))
    (fresh_from lits earlier (recursion_from_All (λ clause. ¬ SameLiterals lits clause) earlier h.fresh))))

spent_at-none : (n : ℕ) (fault : Option ProofKind) (lemma : Bool) (later : Option SpentFault) → spent_at n fault lemma later ≡ None → (fault ≡ None) × (lemma ≡ true) × (later ≡ None)
spent_at-none n None true later h = (refl, refl, h)
spent_at-none n None false later h = cc
spent_at-none n (Some kind) lemma later h = cc

spent_says : (n : ℕ) (s : Standing) (earlier : List (List ℤ)) (steps : List LratStep) → spent_from n s earlier steps ≡ None → SpentFrom s earlier steps
spent_says n s earlier [] h = tt
spent_says n s earlier (Add id lits hints ∷ steps) h =
    let parts = spent_at-none (n + 1) (add_fault s id lits hints) (is_lemma earlier lits) (spent_from (n + 1) (with_clause s id lits) (earlier ++ lits ∷ []) steps) h in
    (add_without_fault s id lits hints parts.0, lemma_says earlier lits parts.1, spent_says (n + 1) (with_clause s id lits) (earlier ++ lits ∷ []) steps parts.2)
spent_says n s earlier (Delete at ids ∷ steps) h =
    let parts = spent_at-none (n + 1) (step_fault s (Delete at ids)) false (spent_from (n + 1) (after s (Delete at ids)) earlier steps) h in
    let k : false ≡ true = parts.1 in cc

spent_back : (n : ℕ) (s : Standing) (earlier : List (List ℤ)) (steps : List LratStep) → SpentFrom s earlier steps → spent_from n s earlier steps ≡ None
spent_back n s earlier [] h = refl
spent_back n s earlier (Add id lits hints ∷ steps) h =
    rw (no_add_fault s id lits hints h.0, lemma_from earlier lits h.1) (spent_back (n + 1) (with_clause s id lits) (earlier ++ lits ∷ []) steps h.2)
spent_back n s earlier (Delete at ids ∷ steps) h = absurd h

counted-none : (fault : Option SpentFault) (right : Bool) → counted fault right ≡ None → (fault ≡ None) × (right ≡ true)
counted-none None true h = (refl, refl)
counted-none None false h = cc
counted-none (Some fault) right h = cc

pub spent_without_fault : (formula : CnfFormula) (lemmas : ℕ) (proof : List LratStep) → (spent_fault formula lemmas proof ≡ None) ↔ SpentOn formula lemmas proof
spent_without_fault formula lemmas proof = (
  (λ h.
      let parts = counted-none (spent_from 0 (start formula) formula.clauses proof) (eqb (length proof) lemmas) h in
      record {
        count = eqb-true (length proof) lemmas parts.1;
        spent = spent_says 0 (start formula) formula.clauses proof parts.0;
      }),
  (λ h. rw (spent_back 0 (start formula) formula.clauses proof h.spent, eq-eqb (length proof) lemmas h.count) refl),
)
