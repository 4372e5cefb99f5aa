-- The block of clauses: the greatest invariant holds at reset, and each of its clauses is kept.
use Rattle.std.proofs.Common.{◌≡◌, ℕ, zero, suc, ℤ, Bool, List, [], ◌∷◌, get_or, sym, ap, subst, ◌∙◌, All, Contains, Option, Some, None}
use Rattle.std.specs.Prelude.{slice_get}
use Rattle.std.proofs.lemmas.List.Elements.{All-contains, Contains-get_or}
use Rattle.std.proofs.lemmas.Option.{none-some, same_Some}
use Rattle.aig_model.specs.LatchClauses.{SatisfiesClause}
use Rattle.aig_model.specs.Meaning.{IsReset}
use Rattle.aig_model.specs.declared.parts.Parts.{Parts}
use Rattle.inv_prover.specs.Greatest.{IsInGreatest}
use Rattle.goal_facts.specs.Invariants.{IsGreatestInvariant}
use Rattle.inv_cert.specs.Resets.{HoldsAtReset}
use Rattle.report_text.specs.declared.report.Inv.{Inv}
use Rattle.report_text.specs.declared.report.Report.{Report}
use Rattle.run_report.specs.Invariants.{IsInv, AreInvs}
use Rattle.run_report.specs.Report.{Tells}
use Rattle.run_report.specs.Scope.{Scope}
use Rattle.report_check.specs.declared.fault.CheckKind.{CheckKind}
use Rattle.report_check.specs.Invariants.{InvsMeet}
use Rattle.report_laws.proofs.LatchCandidates.{greatest_latches}

-- the block at any place is the one that there may be
only_one : (inv i : Inv) (at : ℕ) → slice_get (inv ∷ []) at ≡ Some i → inv ≡ i
only_one inv i zero here = same_Some inv i here
only_one inv i (suc at) here = absurd (none-some i here)

is_inv : (c : Parts) (sig : List ℕ) (strength unreachable : ℕ) (invs : List Inv) (at : ℕ) (i : Inv) → AreInvs c sig strength unreachable invs → slice_get invs at ≡ Some i → IsInv c sig strength i
is_inv c sig strength zero invs at i none here = absurd (none-some i (ap (λ (is : List Inv). slice_get is at) (sym none) ∙ here))
is_inv c sig strength (suc n) invs at i (inv, one, is) here =
    subst (λ (j : Inv). IsInv c sig strength j) (only_one inv i at (ap (λ (is : List Inv). slice_get is at) (sym one) ∙ here)) is

-- a clause of the greatest invariant is one of an invariant
holds_at_reset : (c : Parts) (candidates : List (List ℤ)) (clause : List ℤ) → IsInGreatest c candidates clause → HoldsAtReset c clause
holds_at_reset c candidates clause h state reset = All-contains (SatisfiesClause state) h.subset clause (h.invariant.start state reset) h.has

greatest_starts : (c : Parts) (sig : List ℕ) (strength : ℕ) (clauses : List (List ℤ)) → IsGreatestInvariant c sig strength clauses → All (HoldsAtReset c) clauses
greatest_starts c sig strength clauses h k d inside =
    let clause : List ℤ = get_or clauses k d in
    holds_at_reset c h.candidates clause ((h.greatest.exactly clause).0 (Contains-get_or clauses k d inside))

pub invs_meet : (c : Parts) (sig : List ℕ) (scope : Scope) (r : Report) → Tells c sig r.options scope r → (at : ℕ) (condition : CheckKind) → InvsMeet c r at condition
invs_meet c sig scope r tells at condition i here =
    let inv : IsInv c sig r.options.strength i = is_inv c sig r.options.strength r.unreachable r.invs at i tells.invs here in
    record {
      start = λ is. record {
        latches = greatest_latches c sig r.options.strength i.clauses inv.greatest;
        starts = greatest_starts c sig r.options.strength i.clauses inv.greatest;
      };
      kept = λ is. inv.kept.accepted;
    }
