use Rattle.std.proofs.Common.{◌≡◌, ◌^◌, ◌<◌, ℤ, List, ap, sym, ◌∙◌, subst}
use Rattle.std.specs.Bool.{MatchBool}
use Rattle.std.specs.Result.{IfOk}
use Rattle.cnf_base.specs.Status.{has, IsFalsifiedIn}
use Rattle.sat_trail.specs.Trail.{lits}
use Rattle.lrat_text.specs.Accepted.{IsBothWays}
use Rattle.lrat_text.specs.Spent.{SameLiterals}
use Rattle.sat_solver.specs.InputClauses.{store}
use Rattle.sat_incremental.specs.Holding.{IsPlainHeld}
use Rattle.sat_incremental.proofs.Holdings.{held_plain, held_both_ways}
use Rattle.sat_incremental.proofs.give.hold.Goals as goal

pub returns-then-branch-clause-held : goal.returns-then-branch-clause-held
returns-then-branch-clause-held c =
    let clause = c.args.clause.now in
    let gathered = c.gather.new.self.lits.items in
    let old = store c.args.premises.now in
    let new = store c.hold_plain.new.premises in
    let same : SameLiterals clause gathered = λ l. ap (λ ls. has ls l) (sym c.as_slice.ensures) ∙ c.in_ok-gather.ensures.plain c.if-branch.true l in
    let A : List ℤ → Type 0 = λ ls. IfOk c.hold_plain.result (λ is_false. MatchBool is_false (IsFalsifiedIn (lits c.args.premises.now.trail.assignments) ls × (new ≡ old)) (IsPlainHeld c.args.id ls old new)) in
    held_plain c.hold_plain.result old new c.args.id clause gathered c.is_well_formed.ensures c.requires.small same (subst A c.deref.ensures.value c.hold_plain.ensures)

pub returns-else-branch-clause-held : goal.returns-else-branch-clause-held
returns-else-branch-clause-held c =
    let P : List ℤ → Type 0 = λ ls. IsBothWays ls in
    held_both_ways (store c.args.premises.now) c.args.id c.args.clause.now (subst P c.as_slice.ensures (c.in_ok-gather.ensures.both_ways c.if-branch.false))
