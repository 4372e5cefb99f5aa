-- A circuit, signals and a strength have one list of candidates.
use Rattle.std.proofs.Common.{◌≡◌, ℕ, zero, suc, ◌+◌, ◌<◌, ◌≤◌, ℤ, List, [], ◌∷◌, ◌++◌, length, get_or, refl, sym, ap, ◌∙◌, subst, inl, inr, arith, length-append, All, AllPairs, Contains}
use Rattle.std.specs.List.Sorted.{IsStrictlyIncreasing}
use Rattle.std.proofs.lemmas.List.Kept.{AllPairs-from_increasing}
use Rattle.std.proofs.lemmas.List.Elements.{All-contains, All-head, All-push, All-tail, Contains-get_or}
use Rattle.aig_model.proofs.Elements.{Contains-cons_cases, Contains-nil}
use Rattle.aig_model.specs.declared.parts.Parts.{Parts}
use Rattle.inv_prover.specs.Candidates.{AreCandidates, AreFirstDependent, clauses_over, most_latches}
use Rattle.inv_prover.proofs.Places.{rising_more}

-- ---- rising lists
abbrev Rises : List ℕ → Type 0
Rises [] = Unit {0}
Rises (x ∷ xs) = All (λ y. x < y) xs × Rises xs

rises_by_pairs : (xs : List ℕ) → AllPairs (λ x y. x < y) xs → Rises xs
rises_by_pairs [] h = tt
rises_by_pairs (x ∷ xs) h = (λ k d inside. h 0 (suc k) d (omega arith) (omega (arith, inside)), rises_by_pairs xs (λ i j d less inside. h (suc i) (suc j) d (omega (arith, less)) (omega (arith, inside))))

rises : (xs : List ℕ) → IsStrictlyIncreasing xs → Rises xs
rises xs h = rises_by_pairs xs (AllPairs-from_increasing xs h)

-- what is above the first is among the others
among_others : (y : ℕ) (ys : List ℕ) (xs : List ℕ) → All (λ x. y < x) xs → All (Contains (y ∷ ys)) xs → All (Contains ys) xs
among_others y ys xs above h = λ k d inside. elim (Contains-cons_cases y (get_or xs k d) ys (h k d inside)) [
  | inl same ↦ absurd (let less : y < get_or xs k d = above k d inside in omega (arith, less, same))
  | inr later ↦ later
]

above_each : (y x : ℕ) (xs : List ℕ) → y < x → All (λ z. x < z) xs → (k d : ℕ) → k < length (x ∷ xs) → y < get_or (x ∷ xs) k d
above_each y x xs less h zero d inside = less
above_each y x xs less h (suc k) d inside = let more : x < get_or xs k d = h k d (omega (arith, inside)) in omega (arith, less, more)

above_all : (y x : ℕ) (xs : List ℕ) → y < x → All (λ z. x < z) xs → All (λ z. y < z) (x ∷ xs)
above_all y x xs less h = λ k d inside. above_each y x xs less h k d inside

pub no_longer : (xs ys : List ℕ) → Rises xs → Rises ys → All (Contains ys) xs → length xs ≤ length ys
no_longer [] ys g h inside = omega arith
no_longer (x ∷ xs) [] g h inside = absurd (Contains-nil x (All-head (Contains []) x xs inside))
no_longer (x ∷ xs) (y ∷ ys) g h inside = elim (Contains-cons_cases y x ys (All-head (Contains (y ∷ ys)) x xs inside)) [
  | inl same ↦
      let above : All (λ z. y < z) xs = subst (λ (v : ℕ). All (λ z. v < z) xs) (sym same) g.0 in
      let rest : length xs ≤ length ys = no_longer xs ys g.1 h.1 (among_others y ys xs above (All-tail (Contains (y ∷ ys)) x xs inside)) in
      omega (arith, rest)
  | inr later ↦
      let less : y < x = All-contains (λ z. y < z) ys x h.0 later in
      let rest : length (x ∷ xs) ≤ length ys = no_longer (x ∷ xs) ys g h.1 (among_others y ys (x ∷ xs) (above_all y x xs less g.0) inside) in
      omega (arith, rest)
]

first_same : (x : ℕ) (xs : List ℕ) (y : ℕ) (ys : List ℕ) → Rises (x ∷ xs) → Rises (y ∷ ys) → Contains (y ∷ ys) x → Contains (x ∷ xs) y → y ≡ x
first_same x xs y ys g h there back = elim (Contains-cons_cases y x ys there) [
  | inl same ↦ same
  | inr later ↦ elim (Contains-cons_cases x y xs back) [
    | inl same ↦ sym same
    | inr after ↦ absurd (let less : y < x = All-contains (λ z. y < z) ys x h.0 later in let more : x < y = All-contains (λ z. x < z) xs y g.0 after in omega (arith, less, more))
  ]
]

pub same_list : (xs ys : List ℕ) → Rises xs → Rises ys → All (Contains ys) xs → All (Contains xs) ys → xs ≡ ys
same_list [] [] g h inside back = refl
same_list [] (y ∷ ys) g h inside back = absurd (Contains-nil y (All-head (Contains []) y ys back))
same_list (x ∷ xs) [] g h inside back = absurd (Contains-nil x (All-head (Contains []) x xs inside))
same_list (x ∷ xs) (y ∷ ys) g h inside back =
    let same : y ≡ x = first_same x xs y ys g h (All-head (Contains (y ∷ ys)) x xs inside) (All-head (Contains (x ∷ xs)) y ys back) in
    let above : All (λ z. y < z) xs = subst (λ (v : ℕ). All (λ z. v < z) xs) (sym same) g.0 in
    let over : All (λ z. x < z) ys = subst (λ (v : ℕ). All (λ z. v < z) ys) same h.0 in
    let rest : xs ≡ ys =
    same_list xs ys g.1 h.1 (among_others y ys xs above (All-tail (Contains (y ∷ ys)) x xs inside)) (among_others x xs ys over (All-tail (Contains (x ∷ xs)) y ys back))
    in
    ap (λ (zs : List ℕ). x ∷ zs) rest ∙ ap (λ z. z ∷ ys) (sym same)

-- ---- the first latches
-- a full list that leaves out a latch of the other would make the other too long
one_in_other : (c : Parts) (sig xs ys : List ℕ) → AreFirstDependent c sig xs → AreFirstDependent c sig ys → All (Contains ys) xs
one_in_other c sig xs ys g h = λ i d inside.
    let k : ℕ = get_or xs i d in
    let here : Contains xs k = Contains-get_or xs i d inside in
    elim (h.whole k (g.dependent i d inside)) [
      | inl listed ↦ listed
      | inr full ↦
          let back : All (Contains xs) ys = λ j e within. elim (g.whole (get_or ys j e) (h.dependent j e within)) [
            | inl listed ↦ listed
            | inr all ↦ absurd (let less : k < get_or ys j e = All-contains (λ z. z < get_or ys j e) xs k all.1 here in let more : get_or ys j e < k = full.1 j e within in omega (arith, less, more))
          ] in
          let longer : length (ys ++ k ∷ []) ≤ length xs = no_longer (ys ++ k ∷ []) xs (rises (ys ++ k ∷ []) (rising_more ys k h.rising full.1)) (rises xs g.rising) (All-push (Contains xs) ys k back here) in
          let size : length (ys ++ k ∷ []) ≡ length ys + 1 = length-append ys (k ∷ []) in
          let few : length xs ≤ most_latches = g.few in
          let n : length ys ≡ most_latches = full.0 in
          absurd (omega (arith, longer, size, few, n))
    ]

pub candidates_are_one : (c : Parts) (sig : List ℕ) (strength : ℕ) (xs ys : List (List ℤ)) → AreCandidates c sig strength xs → AreCandidates c sig strength ys → xs ≡ ys
candidates_are_one c sig strength xs ys g h =
    let same : g.latches ≡ h.latches =
    same_list g.latches h.latches (rises g.latches g.dependent.rising) (rises h.latches h.dependent.rising)
    (one_in_other c sig g.latches h.latches g.dependent h.dependent) (one_in_other c sig h.latches g.latches h.dependent g.dependent)
    in
    g.list ∙ ap (λ ks. clauses_over ks strength) same ∙ sym h.list
