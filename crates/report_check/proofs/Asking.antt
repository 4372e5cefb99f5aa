-- Queries: their order, and the one formula of each.
use Rattle.std.proofs.Common.{◌≡◌, ℕ, ◌+◌, ◌<◌, List, sym, ap, subst, ◌∙◌, arith, inl, inr, Some, slice_get}
use Rattle.std.specs.Prelude.{◌↔◌}
use Rattle.std.proofs.lemmas.Bool.{cases_eq}
use Rattle.std.proofs.lemmas.Option.{same_Some}
use Rattle.aig_model.specs.declared.parts.Parts.{Parts}
use Rattle.cnf_base.specs.Meaning.{CnfFormula}
use Rattle.lrat_text.specs.Accepted.{Accepted}
use Rattle.lrat_text.specs.Spent.{SpentOn}
use Rattle.unroll.specs.declared.start.Start.TheVariants.{State}
use Rattle.unroll.specs.Queries.{search_formula}
use Rattle.report_text.specs.declared.report.SeedLine.{SeedLine}
use Rattle.report_text.specs.declared.report.BlockName.{BlockName}
use Rattle.report_text.specs.declared.report.BlockName.TheVariants as names
use Rattle.report_text.specs.declared.report.Block.{Block}
use Rattle.report_text.specs.declared.report.Report.{Report}
use Rattle.report_check.specs.Known.{ComeInOrder}
use Rattle.report_check.specs.Queries.{ComesBefore, IsFormulaOf, IsQuestion, IsSearch, IsSpent}
use Rattle.report_check.specs.Refutes.{IsRefuted}

-- ---- order
before_trans : (a b d : BlockName) → ComesBefore a b → ComesBefore b d → ComesBefore a d
before_trans a b d (inl l) (inl m) = inl (omega arith)
before_trans a b d (inl l) (inr m) = inl (omega (arith, m.0))
before_trans a b d (inr l) (inl m) = inl (omega (arith, l.0))
before_trans a b d (inr l) (inr m) = inr (l.0 ∙ m.0, omega (arith, l.1, m.1))

-- the first query stands behind all before it
pub first_in_order : (xs : List Block) → ComeInOrder xs 1
first_in_order xs j k a b less below at_j at_k = absurd (omega arith)

-- a query stands behind all before it exactly where it stands behind the last of them
pub next_in_order : (xs : List Block) (place : ℕ) (last b : Block) → slice_get xs place ≡ Some last → slice_get xs (place + 1) ≡ Some b → ComeInOrder xs (place + 1)
    → ComesBefore last.name b.name ↔ ComeInOrder xs (place + 1 + 1)
next_in_order xs place last b at_last at_b ordered = (
  λ before j k a d less below at_j at_k. elim (cases_eq k (place + 1)) [
    | inl same ↦ (
        let is : b ≡ d = same_Some b d (sym at_b ∙ subst (λ (n : ℕ). slice_get xs n ≡ Some d) same at_k) in
        let behind : ComesBefore a.name b.name = elim (cases_eq j place) [
          | inl here ↦ (
              let own : last ≡ a = same_Some last a (sym at_last ∙ subst (λ (n : ℕ). slice_get xs n ≡ Some a) here at_j) in
              subst (λ (x : Block). ComesBefore x.name b.name) own before
              )
          | inr other ↦ before_trans a.name last.name b.name (ordered j place a last (omega (arith, other, same, less)) (omega arith) at_j at_last) before
        ] in
        subst (λ (x : Block). ComesBefore a.name x.name) is behind
        )
    | inr other ↦ ordered j k a d less (omega (arith, other, below)) at_j at_k
  ],
  λ all. all place (place + 1) last b (omega arith) (omega arith) at_last at_b,
)

-- what the order up to a place says of the query there
pub behind_all : (xs : List Block) (place : ℕ) (b : Block) → slice_get xs place ≡ Some b → ComeInOrder xs place
    → ComeInOrder xs (place + 1) ↔ ((j : ℕ) (a : Block) → j < place → slice_get xs j ≡ Some a → ComesBefore a.name b.name)
behind_all xs place b at before = (
  λ all j a less at_j. all j place a b less (omega arith) at_j at,
  λ behind j k a d less below at_j at_k. elim (cases_eq k place) [
    | inl same ↦ (
        let is : b ≡ d = same_Some b d (sym at ∙ subst (λ (n : ℕ). slice_get xs n ≡ Some d) same at_k) in
        subst (λ (x : Block). ComesBefore a.name x.name) is (behind j a (omega (arith, same, less)) at_j)
        )
    | inr other ↦ before j k a d less (omega (arith, other, below)) at_j at_k
  ],
)

-- ---- formulas
pub same_seed : (s t : SeedLine) → Some (Some s) ≡ Some (Some t) → s ≡ t
same_seed s t e = same_Some s t (same_Some (Some s) (Some t) e)

pub one_formula : (c : Parts) (sig : List ℕ) (r : Report) (blocked : List ℕ) (name : BlockName) (f g : CnfFormula) → IsFormulaOf c sig r blocked name f → IsFormulaOf c sig r blocked name g → f ≡ g
one_formula c sig r blocked (names.Sweep step) f g h k = h ∙ sym k
one_formula c sig r blocked (names.Hop batch step) f g h k =
    let same : h.0 ≡ k.0 = same_seed h.0 k.0 (sym h.1 ∙ k.1) in
    h.2 ∙ (ap (λ (s : SeedLine). search_formula c sig (State s.state) step blocked) same ∙ sym k.2)
one_formula c sig r blocked (names.Kept place clauses) f g h k = h ∙ sym k
one_formula c sig r blocked (names.Excludes goal clauses) f g h k = h ∙ sym k

pub spent_by : (c : Parts) (sig : List ℕ) (r : Report) (b : Block) (f : CnfFormula) → IsFormulaOf c sig r b.blocked b.name f → SpentOn f r.options.lemmas b.proof ↔ IsSpent c sig r b
spent_by c sig r b f is = (
  λ spent. record { formula = f; of_query = is; spent = spent },
  λ spent. subst (λ (g : CnfFormula). SpentOn g r.options.lemmas b.proof) (one_formula c sig r b.blocked b.name spent.formula f spent.of_query is) spent.spent,
)

pub refuted_by : (c : Parts) (sig : List ℕ) (r : Report) (b : Block) (f : CnfFormula) → IsFormulaOf c sig r b.blocked b.name f → Accepted f b.proof ↔ IsRefuted c sig r b
refuted_by c sig r b f is = (
  λ accepted. record { formula = f; of_query = is; accepted = accepted },
  λ refuted. subst (λ (g : CnfFormula). Accepted g b.proof) (one_formula c sig r b.blocked b.name refuted.formula f refuted.of_query is) refuted.accepted,
)

-- a search is a question
pub search_asks : (c : Parts) (sig : List ℕ) (r : Report) (name : BlockName) → IsSearch r name → IsQuestion c sig r name
search_asks c sig r (names.Sweep step) h = h
search_asks c sig r (names.Hop batch step) h = h
search_asks c sig r (names.Kept place clauses) h = absurd h
search_asks c sig r (names.Excludes goal clauses) h = absurd h
