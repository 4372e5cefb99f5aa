-- Refuted queries: where a run keeps them, each is the next search, and none is missing.
use Rattle.std.proofs.Common.{◌≡◌, ◌≢◌, ℕ, suc, ◌+◌, ◌<◌, ◌≤◌, Bool, true, false, ◌&&◌, List, [], length, take, refl, sym, ap, subst, ◌∙◌, arith, All, Option, Some, None, inl, inr, eq-eqb}
use Rattle.std.specs.Prelude.{slice_get, if◌then◌else◌}
use Rattle.std.proofs.lemmas.Option.{none-some}
use Rattle.aig_model.specs.declared.parts.Parts.{Parts}
use Rattle.cnf_base.specs.Meaning.{CnfFormula}
use Rattle.lrat_text.specs.Accepted.{Accepted}
use Rattle.unroll.specs.declared.start.Start.TheVariants.{Reset, State}
use Rattle.unroll.specs.Queries.{search_formula}
use Rattle.report_text.specs.declared.report.HopBound.{HopBound}
use Rattle.report_text.specs.declared.report.HopBound.TheVariants as hop_bounds
use Rattle.report_text.specs.declared.report.BlockName.{BlockName}
use Rattle.report_text.specs.declared.report.BlockName.TheVariants as names
use Rattle.report_text.specs.declared.report.Block.{Block}
use Rattle.report_text.specs.declared.report.Report.{Report}
use Rattle.run_report.specs.Queries.{ComesBefore as StandsBefore}
use Rattle.run_report.specs.Refutes.{steps_to, hop_steps_to, IsRefutedQuery, AreToldRefutes, AreRefutesIf}
use Rattle.run_report.specs.Report.{Tells}
use Rattle.run_report.specs.Scope.{Scope}
use Rattle.report_check.specs.declared.fault.CheckKind.{CheckKind}
use Rattle.report_check.specs.Blocks.{IsSettled, HasOpen}
use Rattle.report_check.specs.Bounds.{sweep_step, hop_step, steps_of, depth_of, hops_of}
use Rattle.report_check.specs.Queries.{IsSearch, IsFormulaOf}
use Rattle.report_check.specs.Refutes.{IsNextStep, IsWithinBound, AreAllTold, RefutesMeet}
use Rattle.report_check.proofs.Supported.{all_at}
use Rattle.report_laws.specs.Laws.{IsWholeRun}
use Rattle.report_laws.proofs.Settled.{are_settled, some_unsettled}
use Rattle.report_laws.proofs.Steps.{pair_at, step_at, step_told}

-- ---- where queries are told
told_if : (c : Parts) (sig : List ℕ) (scope : Scope) (r : Report) (keeps asks : Bool) → keeps ≡ true → asks ≡ true → AreRefutesIf (keeps && asks) c sig scope r → AreToldRefutes c sig scope r
told_if c sig scope r true true keeps asks h = h
told_if c sig scope r true false keeps asks h = absurd cc
told_if c sig scope r false asks_too keeps asks h = absurd cc

-- a query is there
record IsTelling (c : Parts) (sig : List ℕ) (scope : Scope) (r : Report) (asks : Bool) : Type 0 where
  asked : asks ≡ true
  told : AreToldRefutes c sig scope r

no_query : (r : Report) (at : ℕ) (b : Block) → r.refutes ≡ [] → slice_get r.refutes at ≡ Some b → ⊥
no_query r at b none here = none-some b (ap (λ (bs : List Block). slice_get bs at) (sym none) ∙ here)

telling : (c : Parts) (sig : List ℕ) (scope : Scope) (r : Report) (keeps asks : Bool) (at : ℕ) (b : Block) → AreRefutesIf (keeps && asks) c sig scope r → slice_get r.refutes at ≡ Some b → IsTelling c sig scope r asks
telling c sig scope r true true at b h here = record { asked = refl; told = h }
telling c sig scope r true false at b h here = absurd (no_query r at b h here)
telling c sig scope r false asks at b h here = absurd (no_query r at b h here)

-- ---- bounds
below_bound : (bound : Option ℕ) (step : ℕ) → step < steps_to bound → (depth : ℕ) × (bound ≡ Some depth) × (step ≤ depth)
below_bound None step below = absurd (omega arith)
below_bound (Some depth) step below = (depth, refl, omega arith)

below_hop : (bound : Option HopBound) (step : ℕ) → step < hop_steps_to bound → (hop : ℕ) × (bound ≡ Some (hop_bounds.To hop)) × (step ≤ hop)
below_hop None step below = absurd (omega arith)
below_hop (Some (hop_bounds.To hop)) step below = (hop, refl, omega arith)
below_hop (Some hop_bounds.Nothing) step below = absurd (omega arith)
below_hop (Some hop_bounds.NoSeed) step below = absurd (omega arith)

-- ---- one query
hop_same : (batch step : ℕ) → hop_step batch (names.Hop batch step) ≡ Some step
hop_same batch step = ap (λ (test : Bool). if test then Some step else None) (eq-eqb batch batch refl)

-- the query is the next of its search, and within the options and the bounds
record StandsAt (r : Report) (place : ℕ) (name : BlockName) : Type 0 where
  search : IsSearch r name
  next : IsNextStep (take place r.refutes) name
  near : HasOpen r → IsWithinBound r name

stands_at : (c : Parts) (sig : List ℕ) (scope : Scope) (r : Report) (place : ℕ) (b : Block) (name : BlockName) → Tells c sig r.options scope r → AreToldRefutes c sig scope r
    → slice_get r.refutes place ≡ Some b → b.name ≡ name → IsRefutedQuery c sig r.history r.seeds name b → StandsAt r place name
stands_at c sig scope r place b (names.Sweep step) tells told at is h =
    let here = step_at sweep_step r.refutes place b step told.sweep.count told.sweep.gapless at (ap sweep_step is) in
    record {
      search = omega (arith, here.1, told.sweep.near);
      next = here.0;
      near = λ left. below_bound (depth_of r) step (omega (arith, here.1, told.sweep.whole (some_unsettled c sig scope r tells left)));
    }
stands_at c sig scope r place b (names.Hop batch step) tells told at is h =
    let steps = told.hops batch in
    let here = step_at (hop_step batch) r.refutes place b step steps.count steps.gapless at (ap (hop_step batch) is ∙ hop_same batch step) in
    record {
      search = (omega (arith, here.1, steps.near), record { seed = h.seed; at = h.place });
      next = here.0;
      near = λ left. below_hop (slice_get (hops_of r) batch) step (omega (arith, here.1, steps.whole (some_unsettled c sig scope r tells left)));
    }
stands_at c sig scope r place b (names.Kept index clauses) tells told at is h = absurd h
stands_at c sig scope r place b (names.Excludes goal clauses) tells told at is h = absurd h

left_out : (c : Parts) (sig : List ℕ) (scope : Scope) (r : Report) (name : BlockName) (b : Block) → Tells c sig r.options scope r → IsRefutedQuery c sig r.history r.seeds name b → All (IsSettled r) b.blocked
left_out c sig scope r (names.Sweep step) b tells h = are_settled c sig scope r b.blocked tells h.left_out.settled
left_out c sig scope r (names.Hop batch step) b tells h = are_settled c sig scope r b.blocked tells h.search.left_out.settled
left_out c sig scope r (names.Kept index clauses) b tells h = absurd h
left_out c sig scope r (names.Excludes goal clauses) b tells h = absurd h

-- the formula of the query, for which its proof is accepted
is_refuted : (c : Parts) (sig : List ℕ) (r : Report) (name : BlockName) (b : Block) → IsRefutedQuery c sig r.history r.seeds name b
    → (f : CnfFormula) × IsFormulaOf c sig r b.blocked name f × Accepted f b.proof
is_refuted c sig r (names.Sweep step) b h = (search_formula c sig Reset step b.blocked, refl, h.accepted)
is_refuted c sig r (names.Hop batch step) b h = (search_formula c sig (State h.seed.state) step b.blocked, (h.seed, h.place, refl), h.search.accepted)
is_refuted c sig r (names.Kept index clauses) b h = absurd h
is_refuted c sig r (names.Excludes goal clauses) b h = absurd h

-- ---- all of them
all_told : (c : Parts) (sig : List ℕ) (scope : Scope) (r : Report) → Tells c sig r.options scope r → AreToldRefutes c sig scope r → HasOpen r → AreAllTold r
all_told c sig scope r tells told left =
    let some : 0 < r.unsettled = some_unsettled c sig scope r tells left in
    record {
      sweep = λ depth step is near. (
          let count : told.sweep.count ≡ suc depth = told.sweep.whole some ∙ ap steps_to is in
          step_told (steps_of sweep_step r.refutes) told.sweep.count step told.sweep.gapless (omega (arith, count, near))
          );
      hops = λ batch hop step is near. (
          let steps = told.hops batch in
          let count : steps.count ≡ suc hop = steps.whole some ∙ ap hop_steps_to is in
          step_told (steps_of (hop_step batch) r.refutes) steps.count step steps.gapless (omega (arith, count, near))
          );
    }

pub refutes_meet : (c : Parts) (sig : List ℕ) (scope : Scope) (r : Report) → IsWholeRun c r.options scope → Tells c sig r.options scope r → (at : ℕ) (condition : CheckKind) → RefutesMeet c sig r at condition
refutes_meet c sig scope r whole tells at condition = record {
  each = λ b here. (
      let told : IsTelling c sig scope r r.options.proofs = telling c sig scope r scope.refutes r.options.proofs at b tells.refutes here in
      let query : IsRefutedQuery c sig r.history r.seeds b.name b = all_at (λ (q : Block). IsRefutedQuery c sig r.history r.seeds q.name q) r.refutes at b told.told.each here in
      let stands : StandsAt r at b.name = stands_at c sig scope r at b b.name tells told.told here refl query in
      record {
        query = λ is. record {
          proofs = told.asked;
          search = stands.search;
          left_out = left_out c sig scope r b.name b tells query;
          ordered = λ earlier a before at_a. pair_at (λ a b. ¬ StandsBefore b a) r.refutes earlier at a b told.told.ordered before at_a here;
          next = stands.next;
          near = stands.near;
        };
        proof = λ is. (
            let refuted = is_refuted c sig r b.name b query in
            record { formula = refuted.0; of_query = refuted.1; accepted = refuted.2 }
            );
      }
      );
  missing = λ last is asked left. elim whole.refutes [
    | inl keeps ↦ all_told c sig scope r tells (told_if c sig scope r scope.refutes r.options.proofs keeps asked tells.refutes) left
    | inr never ↦ absurd cc
  ];
}
