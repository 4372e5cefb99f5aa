use Rattle.std.proofs.Common.{◌-◌, ◌++◌, ◌∷◌, [], sym, ap, ◌∙◌, subst}
use Rattle.std.proofs.lemmas.Result.{err_from_is_err_and}
use Rattle.text_words.specs.Text.{Rest, next_line, after_lines}
use Rattle.aig_ascii.specs.Fields.{line_demands}
use Rattle.aig_ascii.specs.Sections.{number_at, lits_of}
use Rattle.aig_ascii.proofs.FirstFaults.{says-err}
use Rattle.aig_binary.specs.Sections.{lit_wants, lits_demands}
use Rattle.aig_binary.specs.Kinds.{aig_kind}
use Rattle.aig_binary.proofs.Counted.{SameDemands, first-fails, first-met, one-item, lits-step, lits_of-step, after-one}
use Rattle.aig_binary.proofs.lines.read_lits.Goals as goal

pub returns-in_err-lit-clause-demands : goal.returns-in_err-lit-clause-demands
returns-in_err-lit-clause-demands c =
    let p = err_from_is_err_and c.from_residual.result c.from_residual.ensures.1 in
    let e = c.in_err-lit.field-0.0 in
    let n = c.loop-left.left in
    let r = c.loop-left.cursor in
    says-err c.from_residual.result p.0 e _ p.1 p.2
    (first-fails e (lits_demands c.args.top n r) (line_demands aig_kind (lit_wants c.args.top) r) (lits_demands c.args.top (n - 1) (next_line r)) (lits_demands c.args.top c.args.count c.args.cursor.now) (lits-step c.args.top n r c.loop-left-test.true) c.loop-left.invariant.demands c.in_err-lit.ensures.demands)

pub loop-left-preserved : goal.loop-left-preserved
loop-left-preserved c =
    let top = c.args.top in
    let n = c.loop-left.left in
    let r = c.loop-left.cursor in
    let kept = c.loop-left.invariant in
    let read = c.in_ok-lit.ensures in
    let some = c.loop-left-test.true in
    let all = lits_demands top c.args.count c.args.cursor.now in
    let met = first-met (lits_demands top n r) (line_demands aig_kind (lit_wants top) r) (lits_demands top (n - 1) (next_line r)) all (lits-step top n r some) kept.demands read.demands in
    let items = one-item c.loop-left.lits c.push.new.self (lits_of n r) (lits_of (n - 1) (next_line r)) (lits_of c.args.count c.args.cursor.now) (number_at r 0) kept.lits
    (c.in_ok-push.ensures.ok ∙ ap (λ x. c.loop-left.lits ++ x ∷ []) read.lit) (lits_of-step n r some) in
    let after = sym (after-one n r some) ∙ kept.next in
    record {
      demands = subst (λ (x : Rest). SameDemands (lits_demands top (n - 1) x) all) (sym read.next) met;
      lits = ap (λ (x : Rest). c.push.new.self ++ lits_of (n - 1) x) read.next ∙ items;
      next = ap (λ (x : Rest). after_lines (n - 1) x) read.next ∙ after;
    }
