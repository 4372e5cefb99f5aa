-- A reset state that falsifies as much of a clause as reset states do tells whether all satisfy it.
use Rattle.std.proofs.Common.{◌≡◌, ◌⊎◌, zero, suc, Bool, true, false, not, ℤ, pos, negsuc, neg_ℤ, List, get_or, refl, ap, sym, ◌∙◌, subst, inl, inr, All, Contains, IsTrue}
use Rattle.std.proofs.lemmas.Bool.{false≢true}
use Rattle.std.proofs.lemmas.List.Elements.{All-get_or}
use Rattle.aig_model.specs.LatchClauses.{NamesLatch, latch_literal_value, SatisfiesClause}
use Rattle.aig_model.specs.declared.parts.Parts.{Parts}
use Rattle.inv_cert.specs.Resets.{HoldsAtReset, IsFalsified}

by_value : (b : Bool) → (b ≡ true) ⊎ (b ≡ false)
by_value true = inl refl
by_value false = inr refl

-- of a literal and its negation one is true
one_is_true : (c : Parts) (lit : ℤ) (state : List Bool) → NamesLatch c lit → IsTrue (latch_literal_value state lit) ⊎ IsTrue (latch_literal_value state (neg_ℤ lit))
one_is_true c (pos zero) state h = absurd h
one_is_true c (pos (suc k)) state h = elim (by_value (get_or state k false)) [
  | inl t ↦ inl t
  | inr f ↦ inr (ap not f)
]
one_is_true c (negsuc k) state h = elim (by_value (get_or state k false)) [
  | inl t ↦ inr t
  | inr f ↦ inl (ap not f)
]

satisfied_at : (state : List Bool) (clause : List ℤ) (lit : ℤ) → Contains clause lit → IsTrue (latch_literal_value state lit) → SatisfiesClause state clause
satisfied_at state clause lit here holds = (here.0, lit, here.1, here.2, holds)

-- what satisfies the clause in spite of all is in every reset state
pub holds : (c : Parts) (clause : List ℤ) (state : List Bool) → All (NamesLatch c) clause → All (IsFalsified c clause state) clause
    → SatisfiesClause state clause → HoldsAtReset c clause
holds c clause state names falsified satisfied = λ s reset.
    let k = satisfied.0 in
    let lit = satisfied.1 in
    let inside = satisfied.2 in
    let names_lit : NamesLatch c lit = subst (λ (x : ℤ). NamesLatch c x) satisfied.3 (All-get_or (NamesLatch c) clause k lit inside names) in
    let here : Contains clause lit = (k, inside, satisfied.3) in
    elim (subst (λ (x : ℤ). IsFalsified c clause state x) satisfied.3 (All-get_or (IsFalsified c clause state) clause k lit inside falsified)) [
      | inl f ↦ absurd (false≢true (sym f ∙ satisfied.4))
      | inr cause ↦ elim cause [
        | inl sure ↦ satisfied_at s clause lit here (sure s reset)
        | inr both ↦ elim (one_is_true c lit s names_lit) [
          | inl t ↦ satisfied_at s clause lit here t
          | inr t ↦ satisfied_at s clause (neg_ℤ lit) both t
        ]
      ]
    ]
