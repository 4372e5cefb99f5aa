-- The clauses over latches, by the latches: their form and their number.
use Rattle.std.proofs.Common.{◌≡◌, ℕ, zero, suc, ◌*◌, ◌<◌, ◌≤◌, ◌^◌, ℤ, List, [], ◌∷◌, length, refl, arith, length-append, All}
use Rattle.std.specs.List.{flat_map}
use Rattle.std.proofs.lemmas.List.Elements.{All-nil, All-cons, All-head, All-tail, All-append, All-weaker}
use Rattle.aig_model.specs.LatchClauses.{IsLatchClause, NamesLatch}
use Rattle.aig_model.specs.declared.parts.Parts.{Parts}
use Rattle.inv_prover.specs.Candidates.{is_true, is_false, single_clauses, pair_clauses, clauses_of_pairs, clauses_over}

-- ---- their form
pub record IsSmall (c : Parts) (clause : List ℤ) : Type 0 where
  pub latches : IsLatchClause c clause
  pub short : length clause ≤ 2

abbrev IsLatch : Parts → ℕ → Type 0
IsLatch c k = k < length c.latches

small_single : (c : Parts) (lit : ℤ) → NamesLatch c lit → IsSmall c (lit ∷ [])
small_single c lit h = record {
  latches = record { some = omega arith; latches = All-cons (NamesLatch c) lit [] h (All-nil (NamesLatch c)) };
  short = omega arith;
}

small_pair : (c : Parts) (lit other : ℤ) → NamesLatch c lit → NamesLatch c other → IsSmall c (lit ∷ other ∷ [])
small_pair c lit other h k = record {
  latches = record { some = omega arith; latches = All-cons (NamesLatch c) lit (other ∷ []) h (All-cons (NamesLatch c) other [] k (All-nil (NamesLatch c))) };
  short = omega arith;
}

small_singles : (c : Parts) (k : ℕ) → IsLatch c k → All (IsSmall c) (single_clauses k)
small_singles c k h =
    All-cons (IsSmall c) (is_true k ∷ []) ((is_false k ∷ []) ∷ []) (small_single c (is_true k) h)
    (All-cons (IsSmall c) (is_false k ∷ []) [] (small_single c (is_false k) h) (All-nil (IsSmall c)))

small_pairs : (c : Parts) (j k : ℕ) → IsLatch c j → IsLatch c k → All (IsSmall c) (pair_clauses j k)
small_pairs c j k g h =
    All-cons (IsSmall c) (is_true j ∷ is_true k ∷ []) ((is_true j ∷ is_false k ∷ []) ∷ (is_false j ∷ is_true k ∷ []) ∷ (is_false j ∷ is_false k ∷ []) ∷ []) (small_pair c (is_true j) (is_true k) g h)
    (All-cons (IsSmall c) (is_true j ∷ is_false k ∷ []) ((is_false j ∷ is_true k ∷ []) ∷ (is_false j ∷ is_false k ∷ []) ∷ []) (small_pair c (is_true j) (is_false k) g h)
    (All-cons (IsSmall c) (is_false j ∷ is_true k ∷ []) ((is_false j ∷ is_false k ∷ []) ∷ []) (small_pair c (is_false j) (is_true k) g h)
    (All-cons (IsSmall c) (is_false j ∷ is_false k ∷ []) [] (small_pair c (is_false j) (is_false k) g h) (All-nil (IsSmall c)))))

small_flat : (c : Parts) (f : ℕ → List (List ℤ)) → ((k : ℕ) → IsLatch c k → All (IsSmall c) (f k)) → (ks : List ℕ) → All (IsLatch c) ks
    → All (IsSmall c) (flat_map f ks)
small_flat c f each [] h = All-nil (IsSmall c)
small_flat c f each (k ∷ ks) h =
    All-append (IsSmall c) (f k) (flat_map f ks) (each k (All-head (IsLatch c) k ks h)) (small_flat c f each ks (All-tail (IsLatch c) k ks h))

small_of_pairs : (c : Parts) (ks : List ℕ) → All (IsLatch c) ks → All (IsSmall c) (clauses_of_pairs ks)
small_of_pairs c [] h = All-nil (IsSmall c)
small_of_pairs c (j ∷ ks) h =
    All-append (IsSmall c) (flat_map (pair_clauses j) ks) (clauses_of_pairs ks)
    (small_flat c (pair_clauses j) (λ k inside. small_pairs c j k (All-head (IsLatch c) j ks h) inside) ks (All-tail (IsLatch c) j ks h))
    (small_of_pairs c ks (All-tail (IsLatch c) j ks h))

small_over : (c : Parts) (ks : List ℕ) (strength : ℕ) → All (IsLatch c) ks → All (IsSmall c) (clauses_over ks strength)
small_over c ks zero h = All-nil (IsSmall c)
small_over c ks (suc zero) h = small_flat c single_clauses (small_singles c) ks h
small_over c ks (suc (suc n)) h =
    All-append (IsSmall c) (flat_map single_clauses ks) (clauses_of_pairs ks) (small_flat c single_clauses (small_singles c) ks h) (small_of_pairs c ks h)

pub latches_over : (c : Parts) (ks : List ℕ) (strength : ℕ) → All (IsLatch c) ks → All (IsLatchClause c) (clauses_over ks strength)
latches_over c ks strength h = All-weaker (IsSmall c) (IsLatchClause c) (λ clause small. small.latches) (clauses_over ks strength) (small_over c ks strength h)

pub short_over : (c : Parts) (ks : List ℕ) (strength : ℕ) → All (IsLatch c) ks → All (λ clause. length clause < 2 ^ 32) (clauses_over ks strength)
short_over c ks strength h =
    All-weaker (IsSmall c) (λ clause. length clause < 2 ^ 32) (λ clause small. let n = small.short in omega arith) (clauses_over ks strength) (small_over c ks strength h)

-- ---- their number
count_singles : (ks : List ℕ) → length (flat_map single_clauses ks) ≡ 2 * length ks
count_singles [] = refl
count_singles (k ∷ ks) = let n = count_singles ks in omega arith

count_pairs : (j : ℕ) (ks : List ℕ) → length (flat_map (pair_clauses j) ks) ≡ 4 * length ks
count_pairs j [] = refl
count_pairs j (k ∷ ks) = let n = count_pairs j ks in omega arith

count_of_pairs : (ks : List ℕ) → length ks ≤ 24 → length (clauses_of_pairs ks) ≤ 96 * length ks
count_of_pairs [] h = omega arith
count_of_pairs (j ∷ ks) h =
    let n = count_of_pairs ks (omega arith) in
    let m = count_pairs j ks in
    let both = length-append (flat_map (pair_clauses j) ks) (clauses_of_pairs ks) in
    omega arith

pub few_over : (ks : List ℕ) (strength : ℕ) → length ks ≤ 24 → length (clauses_over ks strength) < 2 ^ 32
few_over ks zero h = omega arith
few_over ks (suc zero) h = let n = count_singles ks in omega arith
few_over ks (suc (suc s)) h =
    let n = count_singles ks in
    let m = count_of_pairs ks h in
    let both = length-append (flat_map single_clauses ks) (clauses_of_pairs ks) in
    omega arith
