use Rattle.std.proofs.Common.{◌≡◌, ℕ, List, ◌++◌, ◌∷◌, [], map, sym, ap, ◌∙◌}
use Rattle.std.proofs.lemmas.Result.{err_from_is_err_and}
use Rattle.aig_model.specs.declared.parts.AndGate.{AndGate}
use Rattle.aig_ascii.specs.Sections.{gate, defines, section_uses, gate_of}
use Rattle.aig_ascii.specs.Drafts.{Draft, definers_of, use_of}
use Rattle.aig_ascii.proofs.FirstFaults.{says-err}
use Rattle.aig_ascii.proofs.Counted.{section-fails, section-goes, same-more, covers-more, gate-more, items-go, after-go, uses-go}
use Rattle.aig_ascii.proofs.sections.read_gates.Goals as goal

pub returns-in_err-read_gate-clause-demands : goal.returns-in_err-read_gate-clause-demands
returns-in_err-read_gate-clause-demands c =
    let p = err_from_is_err_and c.from_residual.result c.from_residual.ensures.1 in
    let d = c.loop-left.draft in
    says-err c.from_residual.result p.0 c.in_err-read_gate.field-0.0 _ p.1 p.2
    (section-fails gate c.loop-left.left d.top (definers_of d) c.loop-left.cursor c.in_err-read_gate.field-0.0 _ c.loop-left.invariant.demands c.loop-left-test.true c.in_err-read_gate.ensures.demands)

pub loop-left-preserved : goal.loop-left-preserved
loop-left-preserved c =
    let n = c.loop-left.left in
    let d = c.loop-left.draft in
    let r = c.loop-left.cursor in
    let s = c.read_gate.new.cursor in
    let new = c.read_gate.new.draft in
    let kept = c.loop-left.invariant in
    let read = c.in_ok-read_gate.ensures in
    let item = gate_of r in
    let items : new.gates ≡ d.gates ++ item ∷ [] = ap (λ (x : Draft). x.gates) read.draft in
    let more = λ (v : ℕ). ap (λ (x : Draft). defines (definers_of x) v) read.draft ∙ gate-more (record d { pending = new.pending }) item v in
    record {
      demands = section-goes gate n d.top new.top (definers_of d) (definers_of new) r s _ kept.demands c.loop-left-test.true read.demands (ap (λ (x : Draft). x.top) read.draft)
          (same-more (definers_of d) (definers_of new) item.lhs more) read.next;
      draft = read.draft ∙ ap (λ (xs : List AndGate). record d { gates = xs; pending = new.pending }) (sym items) ∙ ap (λ (x : Draft). record x { gates = new.gates; pending = new.pending }) kept.draft;
      gates = items-go gate_of n r s d.gates new.gates _ kept.gates c.loop-left-test.true items read.next;
      uses = uses-go gate n r s (definers_of d) (definers_of new) d.pending new.pending (c.args.draft.now.pending ++ map use_of (section_uses gate c.args.count c.args.cursor.now)) kept.uses c.loop-left-test.true read.uses (covers-more (definers_of d) (definers_of new) item.lhs more) read.next;
      next = after-go n r s _ kept.next c.loop-left-test.true read.next;
    }
