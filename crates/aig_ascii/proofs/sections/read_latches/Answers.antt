use Rattle.std.proofs.Common.{◌≡◌, ℕ, List, ◌++◌, ◌∷◌, [], map, sym, ap, ◌∙◌}
use Rattle.std.proofs.lemmas.Result.{err_from_is_err_and}
use Rattle.aig_model.specs.declared.parts.Latch.{Latch}
use Rattle.aig_ascii.specs.Sections.{latch, defines, section_uses, latch_of}
use Rattle.aig_ascii.specs.Drafts.{Draft, definers_of, use_of}
use Rattle.aig_ascii.proofs.FirstFaults.{says-err}
use Rattle.aig_ascii.proofs.Counted.{section-fails, section-goes, same-more, covers-more, latch-more, items-go, after-go, uses-go}
use Rattle.aig_ascii.proofs.sections.read_latches.Goals as goal

pub returns-in_err-read_latch-clause-demands : goal.returns-in_err-read_latch-clause-demands
returns-in_err-read_latch-clause-demands c =
    let p = err_from_is_err_and c.from_residual.result c.from_residual.ensures.1 in
    let d = c.loop-left.draft in
    says-err c.from_residual.result p.0 c.in_err-read_latch.field-0.0 _ p.1 p.2
    (section-fails latch c.loop-left.left d.top (definers_of d) c.loop-left.cursor c.in_err-read_latch.field-0.0 _ c.loop-left.invariant.demands c.loop-left-test.true c.in_err-read_latch.ensures.demands)

pub loop-left-preserved : goal.loop-left-preserved
loop-left-preserved c =
    let n = c.loop-left.left in
    let d = c.loop-left.draft in
    let r = c.loop-left.cursor in
    let s = c.read_latch.new.cursor in
    let new = c.read_latch.new.draft in
    let kept = c.loop-left.invariant in
    let read = c.in_ok-read_latch.ensures in
    let item = latch_of r in
    let items : new.latches ≡ d.latches ++ item ∷ [] = ap (λ (x : Draft). x.latches) read.draft in
    let more = λ (v : ℕ). ap (λ (x : Draft). defines (definers_of x) v) read.draft ∙ latch-more (record d { pending = new.pending }) item v in
    record {
      demands = section-goes latch n d.top new.top (definers_of d) (definers_of new) r s _ kept.demands c.loop-left-test.true read.demands (ap (λ (x : Draft). x.top) read.draft)
          (same-more (definers_of d) (definers_of new) item.lit more) read.next;
      draft = read.draft ∙ ap (λ (xs : List Latch). record d { latches = xs; pending = new.pending }) (sym items) ∙ ap (λ (x : Draft). record x { latches = new.latches; pending = new.pending }) kept.draft;
      latches = items-go latch_of n r s d.latches new.latches _ kept.latches c.loop-left-test.true items read.next;
      uses = uses-go latch n r s (definers_of d) (definers_of new) d.pending new.pending (c.args.draft.now.pending ++ map use_of (section_uses latch c.args.count c.args.cursor.now)) kept.uses c.loop-left-test.true read.uses (covers-more (definers_of d) (definers_of new) item.lit more) read.next;
      next = after-go n r s _ kept.next c.loop-left-test.true read.next;
    }
