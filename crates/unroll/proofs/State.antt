-- The clauses of a given state, one latch after another.
use Rattle.std.proofs.Common.{◌≡◌, ℕ, ◌+◌, ◌<◌, Bool, ℤ, List, [], ◌∷◌, ◌++◌, length, get_or, take, refl, sym, ap, ◌∙◌, arith}
use Rattle.std.proofs.lemmas.List.{map-append, length-map, length-take-le}
use Rattle.aig_model.specs.WellFormed.{latch_lits}
use Rattle.aig_model.specs.declared.parts.Latch.{Latch}
use Rattle.aig_model.proofs.Elements.{items_next}
use Rattle.unroll.specs.Frames.{lit_after, with_value, state_clauses}

state_push : (lits : List ℕ) (given : List Bool) (lit : ℕ) (bit : Bool) → length lits ≡ length given
    → state_clauses (lits ++ lit ∷ []) (given ++ bit ∷ []) ≡ state_clauses lits given ++ (with_value (lit_after 0 lit) bit ∷ []) ∷ []
state_push [] [] lit bit size = refl
state_push [] (b ∷ given) lit bit size = absurd (omega (arith, size))
state_push (l ∷ lits) [] lit bit size = absurd (omega (arith, size))
state_push (l ∷ lits) (b ∷ given) lit bit size = ap (λ (cs : List (List ℤ)). (with_value (lit_after 0 l) b ∷ []) ∷ cs) (state_push lits given lit bit (omega (arith, size)))

pub state_more : (latches : List Latch) (given : List Bool) (i : ℕ) (l : Latch) (bit : Bool) → i < length latches → length given ≡ length latches
    → l ≡ get_or latches i l → bit ≡ get_or given i bit
    → state_clauses (latch_lits (take (i + 1) latches)) (take (i + 1) given)
    ≡ state_clauses (latch_lits (take i latches)) (take i given) ++ (with_value (lit_after 0 l.lit) bit ∷ []) ∷ []
state_more latches given i l bit inside size at value =
    let first : latch_lits (take (i + 1) latches) ≡ latch_lits (take i latches) ++ l.lit ∷ [] =
    ap latch_lits (items_next latches i l inside at) ∙ map-append (λ (l : Latch). l.lit) (take i latches) (l ∷ [])
    in
    let within : i < length given = omega arith in
    let second : take (i + 1) given ≡ take i given ++ bit ∷ [] = items_next given i bit within value in
    let long : length (latch_lits (take i latches)) ≡ length (take i given) =
    length-map (take i latches) (λ (l : Latch). l.lit) ∙ (length-take-le i latches (omega arith) ∙ sym (length-take-le i given (omega arith)))
    in
    ap (λ (lits : List ℕ). state_clauses lits (take (i + 1) given)) first
    ∙ (ap (state_clauses (latch_lits (take i latches) ++ l.lit ∷ [])) second ∙ state_push (latch_lits (take i latches)) (take i given) l.lit bit long)
