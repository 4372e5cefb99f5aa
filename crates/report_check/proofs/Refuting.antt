-- Whether a refuted query may stand at its place, by what the walk knows.
use Rattle.std.proofs.Common.{◌≡◌, ℕ, ◌+◌, ◌<◌, true, length, arith, Some, slice_get, All}
use Rattle.std.proofs.lemmas.Option.{slice_get_within}
use Rattle.report_text.specs.declared.report.BlockName.{BlockName}
use Rattle.report_text.specs.declared.report.BlockName.TheVariants as names
use Rattle.report_text.specs.declared.report.Block.{Block}
use Rattle.report_text.specs.declared.report.Report.{Report}
use Rattle.report_check.specs.declared.walked.Walked.{Walked}
use Rattle.report_check.specs.Blocks.{IsSettled, HasOpen}
use Rattle.report_check.specs.Known.{search_of}
use Rattle.report_check.specs.Queries.{IsSearch}
use Rattle.report_check.specs.Refutes.{IsRefuteQuery, IsWithinBound}
use Rattle.report_check.specs.Walks.{AreWalked, IsAdvanced, IsNext}
use Rattle.report_check.proofs.Walking.{is_next, walked_more}

-- each search has its number of steps
pub search_inside : (r : Report) (place : ℕ) (name : BlockName) (w : Walked) → AreWalked r place w → IsSearch r name → search_of name < length w.steps.items
search_inside r place (names.Sweep step) w walked search = omega (arith, walked.size)
search_inside r place (names.Hop batch step) w walked search = omega (arith, walked.size, slice_get_within r.seeds batch (Some search.1.seed) search.1.at)
search_inside r place (names.Kept number clauses) w walked search = absurd search
search_inside r place (names.Excludes goal clauses) w walked search = absurd search

pub may_stand : (r : Report) (place : ℕ) (b : Block) (w : Walked) → AreWalked r place w → r.options.proofs ≡ true → IsSearch r b.name → All (IsSettled r) b.blocked → IsNext w b.name
    → (HasOpen r → IsWithinBound r b.name) → IsRefuteQuery r place b
may_stand r place b w walked proofs search settled next near =
    let both = (is_next r place b.name w walked search (search_inside r place b.name w walked search)).0 next in
    record {
      proofs = proofs;
      search = search;
      left_out = settled;
      ordered = both.0;
      next = both.1;
      near = near;
    }

pub stands_next : (r : Report) (place : ℕ) (b : Block) (w : Walked) → AreWalked r place w → IsRefuteQuery r place b → IsNext w b.name
stands_next r place b w walked query = (is_next r place b.name w walked query.search (search_inside r place b.name w walked query.search)).1 (query.ordered, query.next)

pub walks_on : (r : Report) (place : ℕ) (b : Block) (w after : Walked) → AreWalked r place w → slice_get r.refutes place ≡ Some b → IsRefuteQuery r place b → IsAdvanced w b.name after
    → AreWalked r (place + 1) after
walks_on r place b w after walked at query advanced =
    walked_more r place b w after walked at query.search (search_inside r place b.name w walked query.search) (stands_next r place b w walked query) query.next advanced
