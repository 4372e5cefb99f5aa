use Rattle.std.proofs.Common.{◌≡◌, ◌+◌, ◌^◌, ◌<◌, ℤ, List, ap, sym, ◌∙◌, subst, arith}
use Rattle.std.specs.Bool.{MatchBool}
use Rattle.std.specs.Result.{IfOk}
use Rattle.cnf_base.specs.Status.{has, IsFalsifiedIn}
use Rattle.sat_trail.specs.Trail.{lits}
use Rattle.lrat_text.specs.Accepted.{IsBothWays}
use Rattle.lrat_text.specs.Spent.{SameLiterals}
use Rattle.sat_solver.specs.InputClauses.{store, IsTaken}
use Rattle.sat_solver.proofs.LoadedClauses.{at_place, loaded_both_ways, loaded_by_answer}
use Rattle.sat_solver.proofs.input_clauses.load_clause.Goals as goal

pub returns-then-branch-clause-loaded : goal.returns-then-branch-clause-loaded
returns-then-branch-clause-loaded c =
    let clause = c.get-clause.result.now in
    let gathered = c.gather.new.self.lits.items in
    let few = c.requires.few in
    let within = c.requires.within in
    let small : c.args.index + 1 < 2 ^ 62 = omega arith in
    let same : SameLiterals clause gathered = λ l. ap (λ ls. has ls l) (sym c.as_slice.ensures) ∙ c.in_ok-gather.ensures.plain c.if-branch.true l in
    let A : List ℤ → Type 0 = λ ls. IfOk c.load_plain.result (λ is_false. MatchBool is_false (IsFalsifiedIn (lits c.args.premises.now.trail.assignments) ls × (store c.load_plain.new.premises ≡ store c.args.premises.now)) (IsTaken (c.args.index + 1) ls (store c.args.premises.now) (store c.load_plain.new.premises))) in
    loaded_by_answer c.load_plain.result c.args.formula.now c.args.index (store c.args.premises.now) (store c.load_plain.new.premises)
    clause gathered c.requires.loaded
    (at_place c.args.formula.now c.args.index c.clauses.result.now clause within c.clauses.ensures.value c.get-clause.ensures)
    same small (subst A c.deref.ensures.value c.load_plain.ensures)

pub returns-else-branch-clause-loaded : goal.returns-else-branch-clause-loaded
returns-else-branch-clause-loaded c =
    let clause = c.get-clause.result.now in
    let P : List ℤ → Type 0 = λ ls. IsBothWays ls in
    loaded_both_ways c.args.formula.now c.args.index c.args.premises.now.proof_ids.items c.args.premises.now.book c.args.premises.now.trail clause c.requires.loaded
    (at_place c.args.formula.now c.args.index c.clauses.result.now clause c.requires.within c.clauses.ensures.value c.get-clause.ensures)
    (subst P c.as_slice.ensures (c.in_ok-gather.ensures.both_ways c.if-branch.false))
