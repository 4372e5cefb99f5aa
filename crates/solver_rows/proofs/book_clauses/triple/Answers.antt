use Rattle.std.proofs.Common.{◌≤◌, ℤ, nat_abs, List, sym, ◌∙◌, subst, arith}
use Rattle.sat_watch.specs.Book.{IsBookClause}
use Rattle.sat_watch.proofs.Readiness.{triple_clause}
use Rattle.solver_rows.proofs.book_clauses.triple.Goals as goal

pub returns : goal.returns
returns g k =
    let a = k.lit-a.result in
    let b = k.lit-b.result in
    let c = k.lit-c.result in
    let vars = k.args.vars in
    let P : List ℤ → Type 0 = λ ls. IsBookClause vars ls in
    let a_le : nat_abs a ≤ vars = omega (arith, k.var.ensures.size) in
    let b_le : nat_abs b ≤ vars = omega (arith, k.var-2.ensures.size) in
    let c_le : nat_abs c ≤ vars = omega (arith, k.var-3.ensures.size) in
    subst P (sym k.in_ok-clause.ensures)
    (triple_clause vars a b c (λ e. k.var.ensures.not_zero (k.var.ensures.size ∙ e)) (λ e. k.var-2.ensures.not_zero (k.var-2.ensures.size ∙ e)) (λ e. k.var-3.ensures.not_zero (k.var-3.ensures.size ∙ e))
    a_le b_le c_le
    (λ e. absurd (omega (arith, e, k.var-4.ensures.size, k.var-5.ensures.size)))
    (λ e. absurd (omega (arith, e, k.var-6.ensures.size, k.var-7.ensures.size)))
    (λ e. absurd (omega (arith, e, k.var-8.ensures.size, k.var-9.ensures.size))))
