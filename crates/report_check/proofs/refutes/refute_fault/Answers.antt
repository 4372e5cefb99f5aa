use Rattle.std.proofs.Common.{◌≡◌, length, refl, sym, subst, ◌∙◌, Some, slice_get}
use Rattle.std.proofs.lemmas.Option.{same_Some, slice_get_read}
use Rattle.report_text.specs.declared.report.Block.{Block}
use Rattle.report_check.specs.Refutes.{IsRefuteQuery, RefuteMeets}
use Rattle.report_check.proofs.FirstKinds.{refute_met}
use Rattle.report_check.proofs.Refuting.{stands_next, walks_on}
use Rattle.report_check.proofs.refutes.refute_fault.Goals as goal

pub advance-requires-clause-next : goal.advance-requires-clause-next
advance-requires-clause-next c =
    stands_next c.args.report.now c.args.place c.get-block.result.now c.args.walked.now c.requires.walked (c.if-not-is_refute_query.ensures.0 refl)

pub returns-clause-fault : goal.returns-clause-fault
returns-clause-fault c = λ b at kind.
    let r = c.args.report.now in
    let block : Block = c.get-block.result.now in
    let here : slice_get r.refutes c.args.place ≡ Some block = slice_get_read r.refutes (length r.refutes) c.args.place block refl c.requires.place c.get-block.ensures in
    let query : IsRefuteQuery r c.args.place block = c.if-not-is_refute_query.ensures.0 refl in
    subst (λ (x : Block). RefuteMeets c.args.circuit.now c.args.signals.now.lits r c.args.place x kind) (same_Some block b (sym here ∙ at))
    (refute_met c.args.circuit.now c.args.signals.now.lits r c.args.place block query (c.in_ok-is_refuted.ensures.0 c.if-not-branch.false) kind)

pub returns-clause-walked : goal.returns-clause-walked
returns-clause-walked c =
    let r = c.args.report.now in
    let block : Block = c.get-block.result.now in
    let here : slice_get r.refutes c.args.place ≡ Some block = slice_get_read r.refutes (length r.refutes) c.args.place block refl c.requires.place c.get-block.ensures in
    walks_on r c.args.place block c.args.walked.now c.advance.new.self c.requires.walked here (c.if-not-is_refute_query.ensures.0 refl) c.advance.ensures
