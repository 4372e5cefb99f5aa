use Rattle.std.proofs.Common.{◌≡◌, ℕ, ◌++◌, ◌∷◌, [], map, ap, ◌∙◌}
use Rattle.std.proofs.lemmas.Result.{err_from_is_err_and}
use Rattle.aig_ascii.specs.Sections.{plain, defines, section_uses, number_at}
use Rattle.aig_ascii.specs.Drafts.{Draft, definers_of, use_of}
use Rattle.aig_ascii.proofs.FirstFaults.{says-err}
use Rattle.aig_ascii.proofs.Counted.{section-fails, section-goes, same-none, covers-same, items-go, after-go, uses-go}
use Rattle.aig_ascii.proofs.sections.read_lits.Goals as goal

pub returns-in_err-lit-clause-demands : goal.returns-in_err-lit-clause-demands
returns-in_err-lit-clause-demands c =
    let p = err_from_is_err_and c.from_residual.result c.from_residual.ensures.1 in
    let d = c.loop-left.draft in
    says-err c.from_residual.result p.0 c.in_err-lit.field-0.0 _ p.1 p.2
    (section-fails plain c.loop-left.left d.top (definers_of d) c.loop-left.cursor c.in_err-lit.field-0.0 _ c.loop-left.invariant.demands c.loop-left-test.true c.in_err-lit.ensures.demands)

pub loop-left-preserved : goal.loop-left-preserved
loop-left-preserved c =
    let n = c.loop-left.left in
    let d = c.loop-left.draft in
    let r = c.loop-left.cursor in
    let s = c.read_plain.new.cursor in
    let new = c.read_plain.new.draft in
    let kept = c.loop-left.invariant in
    let read = c.in_ok-lit.ensures in
    let same = λ (v : ℕ). ap (λ (x : Draft). defines (definers_of x) v) read.draft in
    let pushed : c.push.new.self ≡ c.loop-left.lits ++ number_at r 0 ∷ [] = c.in_ok-push.ensures.ok ∙ ap (λ x. c.loop-left.lits ++ x ∷ []) read.lit in
    record {
      demands = section-goes plain n d.top new.top (definers_of d) (definers_of new) r s _ kept.demands c.loop-left-test.true read.demands (ap (λ (x : Draft). x.top) read.draft)
          (same-none (definers_of d) (definers_of new) same) read.next;
      draft = read.draft ∙ ap (λ (x : Draft). record x { pending = new.pending }) kept.draft;
      lits = items-go (λ line. number_at line 0) n r s c.loop-left.lits c.push.new.self _ kept.lits c.loop-left-test.true pushed read.next;
      uses = uses-go plain n r s (definers_of d) (definers_of new) d.pending new.pending (c.args.draft.now.pending ++ map use_of (section_uses plain c.args.count c.args.cursor.now)) kept.uses c.loop-left-test.true
          read.uses (covers-same (definers_of d) (definers_of new) same) read.next;
      next = after-go n r s _ kept.next c.loop-left-test.true read.next;
    }
