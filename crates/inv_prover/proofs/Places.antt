-- Gates and latches at their places, and the first latches that are marked.
use Rattle.std.proofs.Common.{◌≡◌, ℕ, ◌+◌, ◌<◌, ◌≤◌, Bool, false, List, [], ◌∷◌, ◌++◌, length, get_or, replicate, sym, ap, ◌∙◌, subst, inl, inr, arith, length-append, All, Contains, Some, slice_get}
use Rattle.std.specs.List.Sorted.{IsStrictlyIncreasing}
use Rattle.std.proofs.lemmas.Bool.{cases_lt, false≢true}
use Rattle.std.proofs.lemmas.Option.{slice_get-get_or, slice_get_within, get_or_from_slice_get}
use Rattle.std.proofs.lemmas.List.{get_or-replicate, get_or_append_left, get_or_push, get_or_past, get_or_default, length-replicate}
use Rattle.std.proofs.lemmas.List.Elements.{All-push, Contains-append_left, Contains-push}
use Rattle.aig_model.specs.Literal.{var}
use Rattle.aig_model.specs.Dependence.{Meets, DependsOnLatch}
use Rattle.aig_model.specs.Dependence.Meets.{AtLatch, ByLeft, ByRight}
use Rattle.aig_model.specs.Dependence.DependsOnLatch.{Now, Later}
use Rattle.aig_model.specs.WellFormed.{IsCircuit}
use Rattle.aig_model.specs.declared.parts.Latch.{Latch}
use Rattle.aig_model.specs.declared.parts.AndGate.{AndGate}
use Rattle.aig_model.specs.declared.parts.Parts.{Parts}
use Rattle.aig_eval.specs.Filling.{IsInside}
use Rattle.aig_eval.proofs.Sections.{room_for_gates, room_for_latches, some_latch}
use Rattle.inv_prover.specs.Candidates.{AreFirstDependent, most_latches}
use Rattle.inv_prover.specs.Dependents.{Marked, IsMarkedLatch, AreFirstMarked}

-- ---- their variables
pub gate_inside : (c : Parts) (gates : List AndGate) (p : ℕ) (g : AndGate) → IsCircuit c → gates ≡ c.gates → p < length gates → g ≡ get_or gates p g
    → IsInside (c.top + 1) g
gate_inside c gates p g ok same inside at =
    subst (λ (x : AndGate). IsInside (c.top + 1) x) (sym (at ∙ ap (λ (xs : List AndGate). get_or xs p g) same))
    (room_for_gates c ok p g (subst (λ (xs : List AndGate). p < length xs) same inside))

pub record IsLatchInside (n : ℕ) (l : Latch) : Type 0 where
  pub lit : var l.lit < n
  pub next : var l.next < n

pub latch_inside : (c : Parts) (latches : List Latch) (p : ℕ) (l : Latch) → IsCircuit c → latches ≡ c.latches → p < length latches → l ≡ get_or latches p l
    → IsLatchInside (c.top + 1) l
latch_inside c latches p l ok same inside at =
    let room = room_for_latches c ok p l (subst (λ (xs : List Latch). p < length xs) same inside) in
    subst (λ (x : Latch). IsLatchInside (c.top + 1) x) (sym (at ∙ ap (λ (xs : List Latch). get_or xs p l) same))
    (record { lit = room 0 0 (omega arith); next = room 1 0 (omega arith) })

pub latches_inside : (c : Parts) (latches : List Latch) (marks : List Bool) → IsCircuit c → latches ≡ c.latches → length marks ≡ c.top + 1
    → All (λ (l : Latch). var l.lit < length marks) latches
latches_inside c latches marks ok same size k d inside =
    let room = room_for_latches c ok k d (subst (λ (xs : List Latch). k < length xs) same inside) in
    let here : var ((get_or latches k d).lit) < c.top + 1 = subst (λ (xs : List Latch). var ((get_or xs k d).lit) < c.top + 1) (sym same) (room 0 0 (omega arith)) in
    omega (arith, here, size)

-- no variable is marked yet
pub blank : (n v : ℕ) → get_or (replicate n false) v false ≡ false
blank n v = elim (cases_lt v n) [
  | inl inside ↦ get_or-replicate n v false false inside
  | inr past ↦ get_or_past (replicate n false) v false (let size : length (replicate n false) ≡ n = length-replicate n false in omega (arith, size, past))
]

-- ---- the first that are marked
pub marked_latch : (latches : List Latch) (marks : List Bool) (i : ℕ) (l : Latch) → i < length latches → l ≡ get_or latches i l → Marked marks l.lit
    → IsMarkedLatch latches marks i
marked_latch latches marks i l inside at m = record {
  inside = inside;
  marked = λ d. subst (λ (x : Latch). Marked marks x.lit) (at ∙ get_or_default latches i l d inside) m;
}

pub not_marked : (latches : List Latch) (marks : List Bool) (i : ℕ) (l : Latch) → l ≡ get_or latches i l → get_or marks (var l.lit) false ≡ false
    → ¬ IsMarkedLatch latches marks i
not_marked latches marks i l at m h = false≢true (sym m ∙ subst (λ (x : Latch). Marked marks x.lit) (sym at) (h.marked l))

pub first_none : (latches : List Latch) (marks : List Bool) → AreFirstMarked latches marks 0 []
first_none latches marks = record {
  rising = λ k below. absurd (omega arith);
  few = omega arith;
  marked = λ k d inside. absurd (omega arith);
  whole = λ k below h. absurd (omega arith);
}

pub rising_more : (found : List ℕ) (i : ℕ) → IsStrictlyIncreasing found → All (λ j. j < i) found → IsStrictlyIncreasing (found ++ i ∷ [])
rising_more found i rising below k inside =
    let size : length (found ++ i ∷ []) ≡ length found + 1 = length-append found (i ∷ []) in
    let here : get_or (found ++ i ∷ []) k 0 ≡ get_or found k 0 = get_or_append_left found (i ∷ []) 0 k (omega (arith, size, inside)) in
    elim (cases_lt (k + 1) (length found)) [
      | inl within ↦
          let next : get_or (found ++ i ∷ []) (k + 1) 0 ≡ get_or found (k + 1) 0 = get_or_append_left found (i ∷ []) 0 (k + 1) within in
          let less : get_or found k 0 < get_or found (k + 1) 0 = rising k within in
          omega (arith, here, next, less)
      | inr last ↦
          let next : get_or (found ++ i ∷ []) (k + 1) 0 ≡ i = get_or_push found i 0 (k + 1) (omega (arith, size, inside, last)) in
          let less : get_or found k 0 < i = below k 0 (omega (arith, size, inside)) in
          omega (arith, here, next, less)
    ]

weaker_marks : (latches : List Latch) (marks : List Bool) (i : ℕ) (found : List ℕ) → All (λ k. (k < i) × IsMarkedLatch latches marks k) found
    → All (λ k. (k < i + 1) × IsMarkedLatch latches marks k) found
weaker_marks latches marks i found h = λ j d inside. (let less : get_or found j d < i = (h j d inside).0 in omega (arith, less), (h j d inside).1)

all_below : (latches : List Latch) (marks : List Bool) (i : ℕ) (found : List ℕ) → All (λ k. (k < i) × IsMarkedLatch latches marks k) found → All (λ j. j < i) found
all_below latches marks i found h = λ j d inside. (h j d inside).0

pub first_more : (latches : List Latch) (marks : List Bool) (i : ℕ) (found : List ℕ) → AreFirstMarked latches marks i found → IsMarkedLatch latches marks i
    → length found < most_latches → AreFirstMarked latches marks (i + 1) (found ++ i ∷ [])
first_more latches marks i found h here few = record {
  rising = rising_more found i h.rising (all_below latches marks i found h.marked);
  few = let size : length (found ++ i ∷ []) ≡ length found + 1 = length-append found (i ∷ []) in omega (arith, size, few);
  marked = All-push (λ k. (k < i + 1) × IsMarkedLatch latches marks k) found i (weaker_marks latches marks i found h.marked) (omega arith, here);
  whole = λ k below so. elim (cases_lt k i) [
    | inl before ↦ elim (h.whole k before so) [
      | inl listed ↦ inl (Contains-append_left found (i ∷ []) k listed)
      | inr full ↦ absurd (let n : length found ≡ most_latches = full.0 in omega (arith, n, few))
    ]
    | inr after ↦ inl (subst (Contains (found ++ i ∷ [])) (let same : i ≡ k = omega (arith, below, after) in same) (Contains-push found i))
  ];
}

pub first_passed : (latches : List Latch) (marks : List Bool) (i : ℕ) (found : List ℕ) → AreFirstMarked latches marks i found
    → (IsMarkedLatch latches marks i → most_latches ≤ length found) → AreFirstMarked latches marks (i + 1) found
first_passed latches marks i found h full = record {
  rising = h.rising;
  few = h.few;
  marked = weaker_marks latches marks i found h.marked;
  whole = λ k below so. elim (cases_lt k i) [
    | inl before ↦ h.whole k before so
    | inr after ↦
        let same : i ≡ k = omega (arith, below, after) in
        let n : most_latches ≤ length found = full (subst (IsMarkedLatch latches marks) (sym same) so) in
        let m : length found ≤ most_latches = h.few in
        inr (omega (arith, n, m), subst (λ (x : ℕ). All (λ j. j < x) found) same (all_below latches marks i found h.marked))
  ];
}

-- ---- marked latches are those on which the signals depend
meets_latch : (c : Parts) (lit k : ℕ) → Meets c lit k → (l : Latch) × (slice_get c.latches k ≡ Some l)
meets_latch c lit k (AtLatch {l = l} at here) = (l, at)
meets_latch c lit k (ByLeft {g = g} here lhs met) = meets_latch c g.left k met
meets_latch c lit k (ByRight {g = g} here lhs met) = meets_latch c g.right k met

depends_latch : (c : Parts) (sig : List ℕ) (k : ℕ) → DependsOnLatch c sig k → (l : Latch) × (slice_get c.latches k ≡ Some l)
depends_latch c sig k (Now {lit = lit} listed met) = meets_latch c lit k met
depends_latch c sig k (Later {l = l} before at met) = meets_latch c l.next k met

pub first_dependent : (c : Parts) (sig : List ℕ) (latches : List Latch) (marks : List Bool) (found : List ℕ) → latches ≡ c.latches
    → ((k : ℕ) (l : Latch) → slice_get c.latches k ≡ Some l → (Marked marks l.lit → DependsOnLatch c sig k) × (DependsOnLatch c sig k → Marked marks l.lit))
    → AreFirstMarked latches marks (length latches) found → AreFirstDependent c sig found
first_dependent c sig latches marks found same exactly h = record {
  rising = h.rising;
  few = h.few;
  dependent = λ j d inside.
      let k : ℕ = get_or found j d in
      let m : IsMarkedLatch latches marks k = (h.marked j d inside).1 in
      let within : k < length c.latches = subst (λ (xs : List Latch). k < length xs) same m.inside in
      let there : Marked marks ((get_or c.latches k some_latch).lit) = subst (λ (xs : List Latch). Marked marks ((get_or xs k some_latch).lit)) same (m.marked some_latch) in
      (exactly k (get_or c.latches k some_latch) (slice_get-get_or c.latches k some_latch within)).0 there;
  whole = λ k depends.
      let l : Latch = (depends_latch c sig k depends).0 in
      let at : slice_get c.latches k ≡ Some l = (depends_latch c sig k depends).1 in
      let within : k < length c.latches = slice_get_within c.latches k l at in
      let there : Marked marks l.lit = (exactly k l at).1 depends in
      let inside : k < length latches = subst (λ (xs : List Latch). k < length xs) (sym same) within in
      h.whole k inside (record {
        inside = inside;
        marked = λ d. subst (λ (x : Latch). Marked marks x.lit) (sym (ap (λ (xs : List Latch). get_or xs k d) same ∙ get_or_from_slice_get c.latches k l d at)) there;
      });
}
