use Rattle.std.proofs.Common.{◌≤◌, ℤ, nat_abs, List, sym, ◌∙◌, subst, arith}
use Rattle.sat_watch.specs.Book.{IsBookClause}
use Rattle.sat_watch.proofs.Readiness.{pair_clause}
use Rattle.solver_rows.proofs.book_clauses.pair.Goals as goal

pub returns : goal.returns
returns g c =
    let a = c.lit-a.result in
    let b = c.lit-b.result in
    let vars = c.args.vars in
    let P : List ℤ → Type 0 = λ ls. IsBookClause vars ls in
    let a_le : nat_abs a ≤ vars = omega (arith, c.var.ensures.size) in
    let b_le : nat_abs b ≤ vars = omega (arith, c.var-2.ensures.size) in
    subst P (sym c.in_ok-clause.ensures)
    (pair_clause vars a b (λ e. c.var.ensures.not_zero (c.var.ensures.size ∙ e)) (λ e. c.var-2.ensures.not_zero (c.var-2.ensures.size ∙ e)) a_le b_le (λ e. absurd (omega (arith, e, c.var-3.ensures.size, c.var-4.ensures.size))))
