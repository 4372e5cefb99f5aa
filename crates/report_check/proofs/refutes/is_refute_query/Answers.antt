use Rattle.std.proofs.Common.{◌≡◌, ℕ, List, refl, sym, ap, subst, not}
use Rattle.std.specs.Prelude.{All}
use Rattle.report_check.specs.Blocks.{IsSettled}
use Rattle.report_check.proofs.Refuting.{may_stand, search_inside, stands_next}
use Rattle.report_check.proofs.refutes.is_refute_query.Goals as goal

pub returns-then-not-is_search : goal.returns-then-not-is_search
returns-then-not-is_search c = (λ never. absurd cc, λ query. c.if-not-is_search.ensures.1 query.search)

pub returns-then-not-are_settled : goal.returns-then-not-are_settled
returns-then-not-are_settled c = (
  λ never. absurd cc,
  λ query. c.if-not-are_settled.ensures.1 (subst (λ (goals : List ℕ). All (IsSettled c.args.report.now) goals) (sym c.as_slice.ensures) query.left_out),
)

pub is_next-requires : goal.is_next-requires
is_next-requires c = search_inside c.args.report.now c.args.place c.args.block.now.name c.args.walked.now c.requires.walked (c.if-not-is_search.ensures.0 refl)

pub returns-then-not-is_next : goal.returns-then-not-is_next
returns-then-not-is_next c = (
  λ never. absurd cc,
  λ query. c.if-not-is_next.ensures.1 (stands_next c.args.report.now c.args.place c.args.block.now c.args.walked.now c.requires.walked query),
)

pub returns-then-not-any_open : goal.returns-then-not-any_open
returns-then-not-any_open c = (
  λ _. may_stand c.args.report.now c.args.place c.args.block.now c.args.walked.now c.requires.walked c.if-not-report.false (c.if-not-is_search.ensures.0 refl)
      (subst (λ (goals : List ℕ). All (IsSettled c.args.report.now) goals) c.as_slice.ensures (c.if-not-are_settled.ensures.0 refl)) (c.if-not-is_next.ensures.0 refl)
      (λ left. let yes = c.requires.any_open.1 left in let no = c.if-not-any_open.true in absurd cc),
  λ _. ap not c.if-not-any_open.true,
)

pub returns-else-not-any_open : goal.returns-else-not-any_open
returns-else-not-any_open c =
    let within = c.is_within_bound.ensures c.args.report.now c.requires.bounds.0 c.requires.bounds.1 in (
      λ yes. may_stand c.args.report.now c.args.place c.args.block.now c.args.walked.now c.requires.walked c.if-not-report.false (c.if-not-is_search.ensures.0 refl)
          (subst (λ (goals : List ℕ). All (IsSettled c.args.report.now) goals) c.as_slice.ensures (c.if-not-are_settled.ensures.0 refl)) (c.if-not-is_next.ensures.0 refl)
          (λ _. within.0 yes),
      λ query. within.1 (query.near (c.requires.any_open.0 c.if-not-any_open.false)),
    )
