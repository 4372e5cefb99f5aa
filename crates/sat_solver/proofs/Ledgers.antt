-- A proof that grows by lemmas, and how it ends.
use Rattle.std.proofs.Common.{◌≡◌, ℕ, ◌+◌, ◌<◌, ◌≤◌, ◌^◌, ℤ, neg_ℤ, nat_abs, Some, List, [], ◌∷◌, ◌++◌, length, map, refl, ap, sym, ◌∙◌, subst, arith, inl, inr}
use Rattle.std.specs.List.{enumerate_from, All, AllByRecursion}
use Rattle.std.proofs.lemmas.Bool.{cases_eq, ne_eqb}
use Rattle.std.proofs.lemmas.List.{append-nil, append_assoc, map_push, length-map, length-append}
use Rattle.cnf_base.specs.Meaning.{CnfFormula, IsWithin}
use Rattle.lrat_text.specs.declared.proof.LratStep.{LratStep}
use Rattle.lrat_text.specs.declared.proof.LratStep.TheVariants.{Add, Delete}
use Rattle.lrat_text.specs.Lrat.{IsHint}
use Rattle.lrat_text.specs.Text.{HasIdsAndHints}
use Rattle.lrat_text.specs.Standing.{Standing, start, clause_at, after, with_clause}
use Rattle.lrat_text.specs.Accepted.{Ends, MayAdd, AcceptedFrom}
use Rattle.lrat_text.specs.Spent.{ContainsAll, IsLemma, SpentFrom, EarnedFrom}
use Rattle.sat_learn.specs.Reasons.{IsLiveHint, Follows}
use Rattle.sat_solver.specs.Answer.{lemma_count, IsRefutation, IsSpending}
use Rattle.sat_solver.specs.Ledger.{lits_of, earlier, live, after_all, IsLedger}

after_all-push : (s : Standing) (steps : List LratStep) (step : LratStep) → after_all s (steps ++ step ∷ []) ≡ after (after_all s steps) step
after_all-push s [] step = refl
after_all-push s (first ∷ steps) step = after_all-push (after s first) steps step

SpentFrom-push : (s : Standing) (known : List (List ℤ)) (steps : List LratStep) (id : ℕ) (lits hints : List ℤ) → SpentFrom s known steps → MayAdd (after_all s steps) id lits hints → IsLemma (known ++ map lits_of steps) lits → SpentFrom s known (steps ++ Add id lits hints ∷ [])
SpentFrom-push s known [] id lits hints h may lemma =
    let P : List (List ℤ) → Type 0 = λ cs. IsLemma cs lits in
    (may, subst P (append-nil known) lemma, tt)
SpentFrom-push s known (Add i c hs ∷ steps) id lits hints h may lemma =
    let P : List (List ℤ) → Type 0 = λ cs. IsLemma cs lits in
    (h.0, h.1, SpentFrom-push (with_clause s i c) (known ++ c ∷ []) steps id lits hints h.2 may (subst P (sym (append_assoc known (c ∷ []) (map lits_of steps))) lemma))
SpentFrom-push s known (Delete at ids ∷ steps) id lits hints h may lemma = absurd h

EarnedFrom-push : (vars : ℕ) (known : List (List ℤ)) (steps : List LratStep) (s : Standing) (id : ℕ) (lits hints : List ℤ) → SpentFrom s known steps → EarnedFrom vars known steps → IsWithin vars lits → All (λ clause. ¬ ContainsAll lits clause) (known ++ map lits_of steps) → EarnedFrom vars known (steps ++ Add id lits hints ∷ [])
EarnedFrom-push vars known [] s id lits hints spent h within none =
    let P : List (List ℤ) → Type 0 = λ cs. All (λ clause. ¬ ContainsAll lits clause) cs in
    (within, subst P (append-nil known) none, tt)
EarnedFrom-push vars known (Add i c hs ∷ steps) s id lits hints spent h within none =
    let P : List (List ℤ) → Type 0 = λ cs. All (λ clause. ¬ ContainsAll lits clause) cs in
    (h.0, h.1, EarnedFrom-push vars (known ++ c ∷ []) steps (with_clause s i c) id lits hints spent.2 h.2 within (subst P (sym (append_assoc known (c ∷ []) (map lits_of steps))) none))
EarnedFrom-push vars known (Delete at ids ∷ steps) s id lits hints spent h within none = absurd spent

AcceptedFrom-end : (s : Standing) (known : List (List ℤ)) (steps : List LratStep) (id : ℕ) (hints : List ℤ) → SpentFrom s known steps → MayAdd (after_all s steps) id [] hints → AcceptedFrom s (steps ++ Add id [] hints ∷ [])
AcceptedFrom-end s known [] id hints h may = (may, inl refl)
AcceptedFrom-end s known (Add i c hs ∷ steps) id hints h may = (h.0, inr (AcceptedFrom-end (with_clause s i c) (known ++ c ∷ []) steps id hints h.2 may))
AcceptedFrom-end s known (Delete at ids ∷ steps) id hints h may = absurd h

lemma_count-end : (steps : List LratStep) (id : ℕ) (hints : List ℤ) → lemma_count (steps ++ Add id [] hints ∷ []) ≤ length steps
lemma_count-end [] id hints = omega arith
lemma_count-end (Add i [] hs ∷ steps) id hints = (let more = lemma_count-end steps id hints in omega arith)
lemma_count-end (Add i (l ∷ ls) hs ∷ steps) id hints = (let more = lemma_count-end steps id hints in omega arith)
lemma_count-end (Delete at ids ∷ steps) id hints = (let more = lemma_count-end steps id hints in omega arith)

-- ---- the clauses under their ids

enumerate_from-push : (n m : ℕ) (cs : List (List ℤ)) (c : List ℤ) → m ≡ n + length cs → enumerate_from n (cs ++ c ∷ []) ≡ enumerate_from n cs ++ (m, c) ∷ []
enumerate_from-push n m [] c h = let same : n ≡ m = omega arith in ap (λ (x : ℕ). (x, c) ∷ []) same
enumerate_from-push n m (d ∷ ds) c h = ap (λ t. (n, d) ∷ t) (enumerate_from-push (n + 1) m ds c (omega arith))

pub earlier-push : (formula : CnfFormula) (steps : List LratStep) (id : ℕ) (lits hints : List ℤ) → earlier formula (steps ++ Add id lits hints ∷ []) ≡ earlier formula steps ++ lits ∷ []
earlier-push formula steps id lits hints =
    ap (λ cs. formula.clauses ++ cs) (map_push lits_of steps (Add id lits hints))
    ∙ sym (append_assoc formula.clauses (map lits_of steps) (lits ∷ []))

pub length-earlier : (formula : CnfFormula) (steps : List LratStep) → length (earlier formula steps) ≡ length formula.clauses + length steps
length-earlier formula steps = length-append formula.clauses (map lits_of steps) ∙ ap (λ n. length formula.clauses + n) (length-map steps lits_of)

pub live-push : (formula : CnfFormula) (steps : List LratStep) (id : ℕ) (lits hints : List ℤ) → id ≡ length formula.clauses + length steps + 1 → live formula (steps ++ Add id lits hints ∷ []) ≡ live formula steps ++ (id, lits) ∷ []
live-push formula steps id lits hints is =
    ap (enumerate_from 1) (earlier-push formula steps id lits hints)
    ∙ enumerate_from-push 1 id (earlier formula steps) lits (omega (arith, length-earlier formula steps))

-- ---- the ids and hints of steps

clause_at-range : (n : ℕ) (cs : List (List ℤ)) (id : ℕ) (clause : List ℤ) → clause_at (enumerate_from n cs) id ≡ Some clause → (n ≤ id) × (id < n + length cs)
clause_at-range n [] id clause h = cc
clause_at-range n (c ∷ cs) id clause h =
    elim (cases_eq n id) [
      | inl e ↦ (omega arith, omega arith)
      | inr e ↦ (let rest = clause_at-range (n + 1) cs id clause (rw (ne_eqb n id e) at h) in
          let low = rest.0 in
          let high = rest.1 in
          (omega arith, omega arith))
    ]

hint_range : (cs : List (List ℤ)) (hint : ℤ) → length cs < 2 ^ 62 → IsLiveHint (enumerate_from 1 cs) hint → IsHint hint
hint_range cs hint few h =
    let range = clause_at-range 1 cs h.0 h.2 h.3 in
    let low = range.0 in
    let high = range.1 in
    let size : nat_abs hint ≡ h.0 = ap nat_abs h.1 in
    (λ e. (let none : nat_abs hint ≡ 0 = ap nat_abs e in absurd (omega arith)), omega arith)

hints_range : (cs : List (List ℤ)) (hints : List ℤ) → length cs < 2 ^ 62 → AllByRecursion (IsLiveHint (enumerate_from 1 cs)) hints → AllByRecursion IsHint hints
hints_range cs [] few h = tt
hints_range cs (hint ∷ hints) few h = (hint_range cs hint few h.0, hints_range cs hints few h.1)

step_written : (formula : CnfFormula) (steps : List LratStep) (id : ℕ) (lits hints : List ℤ) → id ≡ length formula.clauses + length steps + 1 → id < 2 ^ 62 → AllByRecursion (IsLiveHint (live formula steps)) hints → HasIdsAndHints (Add id lits hints)
step_written formula steps id lits hints is small named =
    ((omega arith, omega arith), hints_range (earlier formula steps) hints (omega (arith, length-earlier formula steps)) named)

written_push : (steps : List LratStep) (step : LratStep) → AllByRecursion HasIdsAndHints steps → HasIdsAndHints step → AllByRecursion HasIdsAndHints (steps ++ step ∷ [])
written_push [] step h k = (k, tt)
written_push (first ∷ steps) step h k = (h.0, written_push steps step h.1 k)

-- ---- the ledger

pub IsLedger-none : (formula : CnfFormula) → IsLedger formula []
IsLedger-none formula =
    let made : List (List ℤ) → Standing = λ cs. record { live = enumerate_from 1 cs; greatest = length cs } in
    record { spent = tt; earned = tt; written = tt; stands = ap made (sym (append-nil formula.clauses)) }

-- a lemma may be added under the next id
MayAdd-next : (formula : CnfFormula) (steps : List LratStep) (id : ℕ) (lits hints : List ℤ) → IsLedger formula steps → id ≡ length formula.clauses + length steps + 1 → Ends (live formula steps) (map neg_ℤ lits) hints → MayAdd (after_all (start formula) steps) id lits hints
MayAdd-next formula steps id lits hints ledger is ends =
    let P : Standing → Type 0 = λ s. MayAdd s id lits hints in
    subst P (sym ledger.stands) (record { newer = omega (arith, length-earlier formula steps); follows = inr ends })

pub IsLedger-push : (formula : CnfFormula) (steps : List LratStep) (id : ℕ) (lits hints : List ℤ) → IsLedger formula steps → id ≡ length formula.clauses + length steps + 1 → id < 2 ^ 62 → Follows (live formula steps) (map neg_ℤ lits) hints → IsLemma (earlier formula steps) lits → IsWithin formula.vars lits → All (λ clause. ¬ ContainsAll lits clause) (earlier formula steps) → IsLedger formula (steps ++ Add id lits hints ∷ [])
IsLedger-push formula steps id lits hints ledger is small follows lemma within none =
    let step = Add id lits hints in
    let made : List (ℕ × List ℤ) → ℕ → Standing = λ pairs n. record { live = pairs; greatest = n } in
    record {
      spent = SpentFrom-push (start formula) formula.clauses steps id lits hints ledger.spent (MayAdd-next formula steps id lits hints ledger is follows.ends) lemma;
      earned = EarnedFrom-push formula.vars formula.clauses steps (start formula) id lits hints ledger.spent ledger.earned within none;
      written = written_push steps step ledger.written (step_written formula steps id lits hints is small follows.live_hints);
      stands = after_all-push (start formula) steps step
          ∙ ap (λ s. after s step) ledger.stands
          ∙ ap (λ pairs. made pairs id) (sym (live-push formula steps id lits hints is))
          ∙ ap (made (live formula (steps ++ step ∷ []))) (is ∙ omega (arith, length-earlier formula (steps ++ step ∷ []), length-append steps (step ∷ [])));
    }

-- ---- the answers

pub IsRefutation-end : (formula : CnfFormula) (lemmas : ℕ) (steps : List LratStep) (id : ℕ) (hints : List ℤ) → IsLedger formula steps → length steps ≤ lemmas → id ≡ length formula.clauses + length steps + 1 → id < 2 ^ 62 → Follows (live formula steps) [] hints → IsRefutation formula lemmas (steps ++ Add id [] hints ∷ [])
IsRefutation-end formula lemmas steps id hints ledger le is small follows =
    record {
      accepted = AcceptedFrom-end (start formula) formula.clauses steps id hints ledger.spent (MayAdd-next formula steps id [] hints ledger is follows.ends);
      within = omega (arith, lemma_count-end steps id hints);
      short = omega (arith, length-append steps (Add id [] hints ∷ []));
      written = written_push steps (Add id [] hints) ledger.written (step_written formula steps id [] hints is small follows.live_hints);
    }

pub IsSpending-end : (formula : CnfFormula) (lemmas : ℕ) (steps : List LratStep) → IsLedger formula steps → length steps ≡ lemmas → ((hints : List ℤ) → ¬ Ends (live formula steps) [] hints) → IsSpending formula lemmas steps
IsSpending-end formula lemmas steps ledger is undecided =
    record {
      spent = record { count = is; spent = ledger.spent };
      earned = ledger.earned;
      written = ledger.written;
      undecided = λ hints ends. (let P : Standing → Type 0 = λ s. Ends s.live [] hints in undecided hints (subst P ledger.stands ends));
    }
