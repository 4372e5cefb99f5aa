use Rattle.std.proofs.Common.{◌≡◌, ◌+◌, ◌*◌, ◌≤◌, ◌<◌, ℤ, false, neg_ℤ, nat_abs, length, ap, ◌∙◌, subst, arith}
use Rattle.std.proofs.lemmas.List.{get_or_read}
use Rattle.cnf_base.specs.Literal.{lit_index}
use Rattle.cnf_base.proofs.Literals.{nat_abs-neg_ℤ}
use Rattle.sat_solver.proofs.GatheredLiterals.{unmarked_free, gathered_push}
use Rattle.sat_solver.proofs.gathered.Gathered.take.Goals as goal

pub returns-in_ok-push-clause-gathered : goal.returns-in_ok-push-clause-gathered
returns-in_ok-push-clause-gathered c =
    let s = c.args.self.now in
    let h = c.requires.gathered in
    let l = c.args.lit in
    let within = c.requires.in_range in
    let same : nat_abs (neg_ℤ l) ≡ nat_abs l = nat_abs-neg_ℤ l in
    let within_neg : nat_abs (neg_ℤ l) ≤ s.vars = omega arith in
    let at_neg : c.index.result ≡ lit_index (neg_ℤ l) = c.index.ensures.place ∙ ap lit_index c.negation.ensures in
    let near_neg : c.index.result ≤ 2 * nat_abs (neg_ℤ l) + 1 = (let P : ℤ → Type 0 = λ x. c.index.result ≤ 2 * nat_abs x + 1 in subst P c.negation.ensures c.index.ensures.one_of_two.1) in
    let room_neg : c.index.result < length s.marks.items = omega (arith, h.room) in
    let room : c.index-then-not-index.result < length s.marks.items = omega (arith, h.room, c.index-then-not-index.ensures.one_of_two.1) in
    let room_read : c.index-3.result < length s.marks.items = omega (arith, h.room, c.index-3.ensures.one_of_two.1) in
    let free_neg = unmarked_free s.vars s.marks.items s.lits.items (neg_ℤ l) c.index.result c.index-2.result.now h within_neg at_neg (get_or_read s.marks.items c.index.result c.index-2.result.now room_neg c.index-2.ensures false) c.if-index.false in
    let free = unmarked_free s.vars s.marks.items s.lits.items l c.index-3.result c.index-4.result.now h within c.index-3.ensures.place (get_or_read s.marks.items c.index-3.result c.index-4.result.now room_read c.index-4.ensures false) c.if-not-index.true in
    gathered_push s.vars s.marks.items s.lits.items c.push.new.self.items l c.index-then-not-index.result h (record { not_zero = c.value.ensures.not_zero; variable = within }) free free_neg c.in_ok-push.ensures.items c.index-then-not-index.ensures.place room
