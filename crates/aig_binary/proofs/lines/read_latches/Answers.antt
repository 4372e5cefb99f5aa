use Rattle.std.proofs.Common.{ℕ, ◌+◌, ◌*◌, ◌-◌, ◌++◌, ◌∷◌, [], sym, ap, ◌∙◌, subst}
use Rattle.std.proofs.lemmas.Result.{err_from_is_err_and}
use Rattle.text_words.specs.Text.{Rest, next_line, after_lines}
use Rattle.aig_ascii.specs.Fields.{line_demands}
use Rattle.aig_ascii.specs.FirstFaults.{first_unmet, Fails}
use Rattle.aig_ascii.proofs.FirstFaults.{says-err}
use Rattle.aig_binary.specs.Kinds.{aig_kind}
use Rattle.aig_binary.specs.Sections.{latch_wants, latch_of, latches_demands, latches_of}
use Rattle.aig_binary.proofs.Counted.{SameDemands, first-fails, first-met, one-item, latches-step, latches_of-step, after-step}
use Rattle.aig_binary.proofs.lines.read_latches.Goals as goal

pub returns-in_err-latch-clause-demands : goal.returns-in_err-latch-clause-demands
returns-in_err-latch-clause-demands c =
    let p = err_from_is_err_and c.from_residual.result c.from_residual.ensures.1 in
    let e = c.in_err-latch.field-0.0 in
    let top = c.args.top in
    let end = c.args.first + c.args.count in
    let v = c.loop-var.var in
    let r = c.loop-var.cursor in
    says-err c.from_residual.result p.0 e _ p.1 p.2
    (first-fails e (latches_demands top v (end - v) r) (line_demands aig_kind (latch_wants top (2 * v)) r) (latches_demands top (v + 1) (end - (v + 1)) (next_line r)) (latches_demands top c.args.first c.args.count c.args.cursor.now) (latches-step top v end r c.loop-var-test.true) c.loop-var.invariant.demands
    (subst (λ (x : ℕ). Fails e (first_unmet (line_demands aig_kind (latch_wants top x) r))) c.new-lit.ensures c.in_err-latch.ensures.demands))

pub loop-var-preserved : goal.loop-var-preserved
loop-var-preserved c =
    let top = c.args.top in
    let end = c.args.first + c.args.count in
    let v = c.loop-var.var in
    let r = c.loop-var.cursor in
    let s = c.read_latch.new.cursor in
    let kept = c.loop-var.invariant in
    let read = c.in_ok-latch.ensures in
    let inside = c.loop-var-test.true in
    let met = first-met (latches_demands top v (end - v) r) (line_demands aig_kind (latch_wants top (2 * v)) r) (latches_demands top (v + 1) (end - (v + 1)) (next_line r)) (latches_demands top c.args.first c.args.count c.args.cursor.now) (latches-step top v end r inside) kept.demands
    (ap (λ (x : ℕ). first_unmet (line_demands aig_kind (latch_wants top x) r)) (sym c.new-lit.ensures) ∙ read.demands) in
    let items = one-item c.loop-var.latches c.push.new.self (latches_of v (end - v) r) (latches_of (v + 1) (end - (v + 1)) (next_line r)) (latches_of c.args.first c.args.count c.args.cursor.now) (latch_of (2 * v) r) kept.latches
    (c.in_ok-push.ensures.ok ∙ ap (λ x. c.loop-var.latches ++ x ∷ []) (read.latch ∙ ap (λ (x : ℕ). latch_of x r) c.new-lit.ensures)) (latches_of-step v end r inside) in
    let after = sym (after-step v end r inside) ∙ kept.next in
    record {
      demands = subst (λ (x : Rest). SameDemands (latches_demands top (v + 1) (end - (v + 1)) x) (latches_demands top c.args.first c.args.count c.args.cursor.now)) (sym read.next) met;
      latches = ap (λ (x : Rest). c.push.new.self ++ latches_of (v + 1) (end - (v + 1)) x) read.next ∙ items;
      next = ap (λ (x : Rest). after_lines (end - (v + 1)) x) read.next ∙ after;
    }
