-- A walk from reset leaves out no clause of an invariant.
use Rattle.std.proofs.Common.{◌≡◌, Bool, ℤ, List, length, get_or, sym, subst, ◌∙◌, All}
use Rattle.std.proofs.lemmas.List.{length-map}
use Rattle.aig_model.specs.Literal.{value_of}
use Rattle.aig_model.specs.WellFormed.{next_lits}
use Rattle.aig_model.specs.declared.parts.Latch.{Latch}
use Rattle.std.proofs.lemmas.List.Elements.{All-contains}
use Rattle.aig_model.specs.Meaning.{Assignment, IsStep, IsLegal, IsReset, latch_values, next_values}
use Rattle.aig_model.specs.LatchClauses.{SatisfiesClause, SatisfiesClauses}
use Rattle.aig_model.specs.declared.parts.Parts.{Parts}
use Rattle.inv_cert.specs.Resets.{HoldsAtReset}
use Rattle.inv_prover.specs.Greatest.{ArePicked}
use Rattle.inv_prover.specs.Search.{Shrinks}

pub next_size : (c : Parts) (a : Assignment) → length (next_values c a) ≡ length c.latches
next_size c a = length-map (next_lits c.latches) (value_of a) ∙ length-map c.latches (λ (l : Latch). l.next)

-- what holds before a step of an invariant among the clauses holds after it
pub after_row : (c : Parts) (clauses left : List (List ℤ)) (state row next : List Bool) (values : Assignment) → IsStep c state row values → IsLegal c values
    → SatisfiesClauses state clauses → next ≡ next_values c values → ArePicked (SatisfiesClause next) clauses left → Shrinks c clauses left
after_row c clauses left state row next values step legal satisfied same h = record {
  part = h.part;
  invariants = λ subset inside invariant k d below.
      let holds : SatisfiesClauses (latch_values c values) clauses = subst (λ (s : List Bool). SatisfiesClauses s clauses) (sym step.state) satisfied in
      let before : SatisfiesClauses (latch_values c values) subset = λ j e within. All-contains (SatisfiesClause (latch_values c values)) clauses (get_or subset j e) holds (inside j e within) in
      let after : SatisfiesClauses (next_values c values) subset = invariant.kept values step.fits legal before in
      h.whole (get_or subset k d) (inside k d below) (subst (λ (s : List Bool). SatisfiesClause s (get_or subset k d)) (sym same) (after k d below));
}

pub at_start : (c : Parts) (clauses : List (List ℤ)) (state : List Bool) → All (HoldsAtReset c) clauses → IsReset c state → SatisfiesClauses state clauses
at_start c clauses state all reset k d below = all k d below state reset
