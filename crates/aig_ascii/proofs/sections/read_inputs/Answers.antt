use Rattle.std.proofs.Common.{◌≡◌, ℕ, List, ◌++◌, ◌∷◌, [], sym, ap, ◌∙◌}
use Rattle.std.proofs.lemmas.Result.{err_from_is_err_and}
use Rattle.aig_ascii.specs.Sections.{input, defines, number_at}
use Rattle.aig_ascii.specs.Drafts.{Draft, definers_of}
use Rattle.aig_ascii.proofs.FirstFaults.{says-err}
use Rattle.aig_ascii.proofs.Counted.{section-fails, section-goes, same-more, input-more, items-go, after-go}
use Rattle.aig_ascii.proofs.sections.read_inputs.Goals as goal

pub returns-in_err-read_input-clause-demands : goal.returns-in_err-read_input-clause-demands
returns-in_err-read_input-clause-demands c =
    let p = err_from_is_err_and c.from_residual.result c.from_residual.ensures.1 in
    let d = c.loop-left.draft in
    says-err c.from_residual.result p.0 c.in_err-read_input.field-0.0 _ p.1 p.2
    (section-fails input c.loop-left.left d.top (definers_of d) c.loop-left.cursor c.in_err-read_input.field-0.0 _ c.loop-left.invariant.demands c.loop-left-test.true c.in_err-read_input.ensures.demands)

pub loop-left-preserved : goal.loop-left-preserved
loop-left-preserved c =
    let n = c.loop-left.left in
    let d = c.loop-left.draft in
    let r = c.loop-left.cursor in
    let new = c.read_input.new.draft in
    let kept = c.loop-left.invariant in
    let read = c.in_ok-read_input.ensures in
    let lit = number_at r 0 in
    let inputs : new.inputs ≡ d.inputs ++ lit ∷ [] = ap (λ (x : Draft). x.inputs) read.draft in
    record {
      demands = section-goes input n d.top new.top (definers_of d) (definers_of new) r c.read_input.new.cursor _ kept.demands c.loop-left-test.true read.demands (ap (λ (x : Draft). x.top) read.draft)
          (same-more (definers_of d) (definers_of new) lit (λ v. ap (λ (x : Draft). defines (definers_of x) v) read.draft ∙ input-more d lit v)) read.next;
      draft = read.draft ∙ ap (λ (xs : List ℕ). record d { inputs = xs }) (sym inputs) ∙ ap (λ (x : Draft). record x { inputs = new.inputs }) kept.draft;
      inputs = items-go (λ line. number_at line 0) n r c.read_input.new.cursor d.inputs new.inputs _ kept.inputs c.loop-left-test.true inputs read.next;
      next = after-go n r c.read_input.new.cursor _ kept.next c.loop-left-test.true read.next;
    }
