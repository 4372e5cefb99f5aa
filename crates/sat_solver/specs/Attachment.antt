-- Where a lemma goes.
use Rattle.std.specs.Prelude.{◌≡◌, ℕ, ◌≤◌, ℤ, nat_abs, Some, List, [], ◌∷◌, ◌++◌, ◌⊎◌}
use Rattle.sat_trail.specs.declared.clause_id.ClauseId.TheVariants as ids
use Rattle.sat_trail.specs.declared.truth.Value.TheVariants.{Unset}
use Rattle.sat_trail.specs.Trail.{TrailState, lits, value_in}
use Rattle.sat_watch.specs.Book.{BookState, IsBookClause}

-- a clause that can be attached: a unit clause over a variable that is free, or a clause for the book
abbrev pub CanAttach : List ℤ → BookState → TrailState → Type 0
CanAttach lemma b t = ((l : ℤ) × (lemma ≡ l ∷ []) × (nat_abs l ≤ t.vars) × (value_in (lits t.assignments) l ≡ Unset)) ⊎ IsBookClause b.vars lemma

-- a unit clause goes on the trail, and any other to the end of the book, with its id
abbrev pub Attaches : List ℤ → ℕ → BookState → TrailState → List ℕ → BookState → TrailState → List ℕ → Type 0
Attaches lemma id b t proof_ids b' t' proof_ids' =
    ((l : ℤ) × (lemma ≡ l ∷ [])
    × (t' ≡ record { vars = t.vars; assignments = t.assignments ++ record { lit = l; level = t.level; reason = Some (ids.Unit id) } ∷ []; level = t.level; low = t.low })
    × (b' ≡ b) × (proof_ids' ≡ proof_ids))
    ⊎ (IsBookClause b.vars lemma
    × (t' ≡ t) × (b' ≡ record { vars = b.vars; clauses = b.clauses ++ lemma ∷ []; seen = b.seen }) × (proof_ids' ≡ proof_ids ++ id ∷ []))
