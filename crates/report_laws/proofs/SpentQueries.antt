-- Spent queries: each may be asked, leaves out settled goals alone, stands in its place and spends its budget.
use Rattle.std.proofs.Common.{◌≡◌, ℕ, ◌<◌, List, [], refl, sym, subst, All, Some}
use Rattle.std.specs.Prelude.{slice_get}
use Rattle.std.proofs.lemmas.List.Elements.{All-nil}
use Rattle.aig_model.specs.declared.parts.Parts.{Parts}
use Rattle.cnf_base.specs.Meaning.{CnfFormula}
use Rattle.lrat_text.specs.Spent.{SpentOn}
use Rattle.unroll.specs.declared.start.Start.TheVariants.{Reset, State}
use Rattle.unroll.specs.Queries.{search_formula, kept_formula, excludes_formula}
use Rattle.report_text.specs.declared.report.BlockName.{BlockName}
use Rattle.report_text.specs.declared.report.BlockName.TheVariants as names
use Rattle.report_text.specs.declared.report.Block.{Block}
use Rattle.report_text.specs.declared.report.Report.{Report}
use Rattle.run_report.specs.Queries.{ComesBefore, IsSpentQuery as IsSpentBlock}
use Rattle.run_report.specs.Report.{Tells}
use Rattle.run_report.specs.Scope.{Scope}
use Rattle.report_check.specs.declared.fault.CheckKind.{CheckKind}
use Rattle.report_check.specs.Blocks.{IsSettled}
use Rattle.report_check.specs.Queries.{IsQuestion, IsFormulaOf, SpentsMeet}
use Rattle.report_check.proofs.Supported.{all_at}
use Rattle.report_laws.proofs.LatchCandidates.{greatest_latches, holding_latches}
use Rattle.report_laws.proofs.Settled.{are_settled}
use Rattle.report_laws.proofs.Steps.{pair_at}

-- what a true report says of a query of this name
abbrev IsTold : Parts → List ℕ → Report → BlockName → Block → Type 0
IsTold c sig r name b = IsSpentBlock c sig r.options r.history r.seeds name b

is_question : (c : Parts) (sig : List ℕ) (r : Report) (name : BlockName) (b : Block) → IsTold c sig r name b → IsQuestion c sig r name
is_question c sig r (names.Sweep step) b h = h.near
is_question c sig r (names.Hop batch step) b h = (h.search.near, record { seed = h.seed; at = h.place })
is_question c sig r (names.Kept place clauses) b h = (h.inside, holding_latches c sig r.options.strength clauses h.holds)
is_question c sig r (names.Excludes goal clauses) b h = (h.below, greatest_latches c sig r.options.strength clauses h.greatest)

none_left_out : (r : Report) (goals : List ℕ) → goals ≡ [] → All (IsSettled r) goals
none_left_out r goals none = subst (All (IsSettled r)) (sym none) (All-nil (IsSettled r))

left_out : (c : Parts) (sig : List ℕ) (scope : Scope) (r : Report) (name : BlockName) (b : Block) → Tells c sig r.options scope r → IsTold c sig r name b → All (IsSettled r) b.blocked
left_out c sig scope r (names.Sweep step) b tells h = are_settled c sig scope r b.blocked tells h.left_out.settled
left_out c sig scope r (names.Hop batch step) b tells h = are_settled c sig scope r b.blocked tells h.search.left_out.settled
left_out c sig scope r (names.Kept place clauses) b tells h = none_left_out r b.blocked h.none_blocked
left_out c sig scope r (names.Excludes goal clauses) b tells h = none_left_out r b.blocked h.none_blocked

-- the formula of the query, on which its proof is spent
is_spent : (c : Parts) (sig : List ℕ) (r : Report) (name : BlockName) (b : Block) → IsTold c sig r name b
    → (f : CnfFormula) × IsFormulaOf c sig r b.blocked name f × SpentOn f r.options.lemmas b.proof
is_spent c sig r (names.Sweep step) b h = (search_formula c sig Reset step b.blocked, refl, h.spent.spent)
is_spent c sig r (names.Hop batch step) b h = (search_formula c sig (State h.seed.state) step b.blocked, (h.seed, h.place, refl), h.search.spent.spent)
is_spent c sig r (names.Kept place clauses) b h = (kept_formula c clauses place, refl, h.spent.spent)
is_spent c sig r (names.Excludes goal clauses) b h = (excludes_formula c sig clauses goal, refl, h.spent.spent)

pub spents_meet : (c : Parts) (sig : List ℕ) (scope : Scope) (r : Report) → Tells c sig r.options scope r → (at : ℕ) (condition : CheckKind) → SpentsMeet c sig r at condition
spents_meet c sig scope r tells at condition b here =
    let told : IsTold c sig r b.name b = all_at (λ (q : Block). IsTold c sig r q.name q) r.spents at b tells.spents.each here in
    record {
      query = λ is. record {
        question = is_question c sig r b.name b told;
        left_out = left_out c sig scope r b.name b tells told;
        ordered = λ earlier a before at_a. pair_at ComesBefore r.spents earlier at a b tells.spents.ordered before at_a here;
      };
      proof = λ is. (
          let spent = is_spent c sig r b.name b told in
          record { formula = spent.0; of_query = spent.1; spent = spent.2 }
          );
    }
