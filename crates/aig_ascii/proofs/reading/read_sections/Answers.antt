use Rattle.std.proofs.Common.{List, [], map, ap, ◌∙◌, subst}
use Rattle.std.proofs.lemmas.Result.{err_from_is_err_and}
use Rattle.text_words.specs.Text.{Rest}
use Rattle.aig_ascii.specs.Sections.{input, latch, plain, gate, lits_of, section_uses}
use Rattle.aig_ascii.specs.Drafts.{Draft, definers_of, use_of, StandFor}
use Rattle.aig_ascii.specs.Aag.{layout_from}
use Rattle.aig_ascii.proofs.FirstFaults.{says-err}
use Rattle.aig_ascii.proofs.Body.{asked_at_latches, asked_at_outputs, asked_at_bads, asked_at_constraints, asked_at_gates, before-inputs, section-faulty, behind-inputs, behind-latches, behind-lits, behind-gates, grouped}
use Rattle.aig_ascii.proofs.reading.read_sections.Goals as goal

pub returns-in_err-read_inputs-clause-demands : goal.returns-in_err-read_inputs-clause-demands
returns-in_err-read_inputs-clause-demands c =
    let p = err_from_is_err_and c.from_residual.result c.from_residual.ensures.1 in
    let e = c.in_err-read_inputs.field-0.0 in
    let l = layout_from c.args.sizes c.args.cursor.now in
    says-err c.from_residual.result p.0 e _ p.1 p.2 (section-faulty input l.sizes.inputs (asked_at_latches l) e (before-inputs l c.new-draft.result c.new-draft.ensures) c.in_err-read_inputs.ensures.demands)

pub returns-in_err-read_latches-clause-demands : goal.returns-in_err-read_latches-clause-demands
returns-in_err-read_latches-clause-demands c =
    let p = err_from_is_err_and c.from_residual-in_err-read_latches.result c.from_residual-in_err-read_latches.ensures.1 in
    let e = c.in_err-read_latches.field-0.0 in
    let l = layout_from c.args.sizes c.args.cursor.now in
    let k1 = behind-inputs c.args.sizes c.args.cursor.now c.new-draft.ensures c.in_ok-read_inputs.ensures.demands c.in_ok-read_inputs.ensures.draft c.in_ok-read_inputs.ensures.next in
    says-err c.from_residual-in_err-read_latches.result p.0 e _ p.1 p.2 (section-faulty latch l.sizes.latches (asked_at_outputs l) e k1 c.in_err-read_latches.ensures.demands)

pub returns-in_err-outputs-clause-demands : goal.returns-in_err-outputs-clause-demands
returns-in_err-outputs-clause-demands c =
    let p = err_from_is_err_and c.from_residual-in_err-outputs.result c.from_residual-in_err-outputs.ensures.1 in
    let e = c.in_err-outputs.field-0.0 in
    let l = layout_from c.args.sizes c.args.cursor.now in
    let k1 = behind-inputs c.args.sizes c.args.cursor.now c.new-draft.ensures c.in_ok-read_inputs.ensures.demands c.in_ok-read_inputs.ensures.draft c.in_ok-read_inputs.ensures.next in
    let k2 = behind-latches c.args.sizes c.args.cursor.now k1 c.in_ok-read_latches.ensures.demands c.in_ok-read_latches.ensures.draft c.in_ok-read_latches.ensures.uses c.in_ok-read_latches.ensures.next in
    says-err c.from_residual-in_err-outputs.result p.0 e _ p.1 p.2 (section-faulty plain l.sizes.outputs (asked_at_bads l) e k2 c.in_err-outputs.ensures.demands)

pub returns-in_err-bads-clause-demands : goal.returns-in_err-bads-clause-demands
returns-in_err-bads-clause-demands c =
    let p = err_from_is_err_and c.from_residual-in_err-bads.result c.from_residual-in_err-bads.ensures.1 in
    let e = c.in_err-bads.field-0.0 in
    let l = layout_from c.args.sizes c.args.cursor.now in
    let k1 = behind-inputs c.args.sizes c.args.cursor.now c.new-draft.ensures c.in_ok-read_inputs.ensures.demands c.in_ok-read_inputs.ensures.draft c.in_ok-read_inputs.ensures.next in
    let k2 = behind-latches c.args.sizes c.args.cursor.now k1 c.in_ok-read_latches.ensures.demands c.in_ok-read_latches.ensures.draft c.in_ok-read_latches.ensures.uses c.in_ok-read_latches.ensures.next in
    let k3 = behind-lits l.sizes.outputs (asked_at_bads l) k2 c.in_ok-outputs.ensures.demands c.in_ok-outputs.ensures.draft c.in_ok-outputs.ensures.uses c.in_ok-outputs.ensures.next in
    says-err c.from_residual-in_err-bads.result p.0 e _ p.1 p.2 (section-faulty plain l.sizes.bads (asked_at_constraints l) e k3 c.in_err-bads.ensures.demands)

pub returns-in_err-constraints-clause-demands : goal.returns-in_err-constraints-clause-demands
returns-in_err-constraints-clause-demands c =
    let p = err_from_is_err_and c.from_residual-in_err-constraints.result c.from_residual-in_err-constraints.ensures.1 in
    let e = c.in_err-constraints.field-0.0 in
    let l = layout_from c.args.sizes c.args.cursor.now in
    let k1 = behind-inputs c.args.sizes c.args.cursor.now c.new-draft.ensures c.in_ok-read_inputs.ensures.demands c.in_ok-read_inputs.ensures.draft c.in_ok-read_inputs.ensures.next in
    let k2 = behind-latches c.args.sizes c.args.cursor.now k1 c.in_ok-read_latches.ensures.demands c.in_ok-read_latches.ensures.draft c.in_ok-read_latches.ensures.uses c.in_ok-read_latches.ensures.next in
    let k3 = behind-lits l.sizes.outputs (asked_at_bads l) k2 c.in_ok-outputs.ensures.demands c.in_ok-outputs.ensures.draft c.in_ok-outputs.ensures.uses c.in_ok-outputs.ensures.next in
    let k4 = behind-lits l.sizes.bads (asked_at_constraints l) k3 c.in_ok-bads.ensures.demands c.in_ok-bads.ensures.draft c.in_ok-bads.ensures.uses c.in_ok-bads.ensures.next in
    says-err c.from_residual-in_err-constraints.result p.0 e _ p.1 p.2 (section-faulty plain l.sizes.constraints (asked_at_gates l) e k4 c.in_err-constraints.ensures.demands)

pub returns-in_err-read_gates-clause-demands : goal.returns-in_err-read_gates-clause-demands
returns-in_err-read_gates-clause-demands c =
    let p = err_from_is_err_and c.from_residual-in_err-read_gates.result c.from_residual-in_err-read_gates.ensures.1 in
    let e = c.in_err-read_gates.field-0.0 in
    let l = layout_from c.args.sizes c.args.cursor.now in
    let k1 = behind-inputs c.args.sizes c.args.cursor.now c.new-draft.ensures c.in_ok-read_inputs.ensures.demands c.in_ok-read_inputs.ensures.draft c.in_ok-read_inputs.ensures.next in
    let k2 = behind-latches c.args.sizes c.args.cursor.now k1 c.in_ok-read_latches.ensures.demands c.in_ok-read_latches.ensures.draft c.in_ok-read_latches.ensures.uses c.in_ok-read_latches.ensures.next in
    let k3 = behind-lits l.sizes.outputs (asked_at_bads l) k2 c.in_ok-outputs.ensures.demands c.in_ok-outputs.ensures.draft c.in_ok-outputs.ensures.uses c.in_ok-outputs.ensures.next in
    let k4 = behind-lits l.sizes.bads (asked_at_constraints l) k3 c.in_ok-bads.ensures.demands c.in_ok-bads.ensures.draft c.in_ok-bads.ensures.uses c.in_ok-bads.ensures.next in
    let k5 = behind-lits l.sizes.constraints (asked_at_gates l) k4 c.in_ok-constraints.ensures.demands c.in_ok-constraints.ensures.draft c.in_ok-constraints.ensures.uses c.in_ok-constraints.ensures.next in
    says-err c.from_residual-in_err-read_gates.result p.0 e _ p.1 p.2 (section-faulty gate l.sizes.gates [] e k5 c.in_err-read_gates.ensures.demands)

pub returns-clause-demands : goal.returns-clause-demands
returns-clause-demands c =
    let l = layout_from c.args.sizes c.args.cursor.now in
    let k1 = behind-inputs c.args.sizes c.args.cursor.now c.new-draft.ensures c.in_ok-read_inputs.ensures.demands c.in_ok-read_inputs.ensures.draft c.in_ok-read_inputs.ensures.next in
    let k2 = behind-latches c.args.sizes c.args.cursor.now k1 c.in_ok-read_latches.ensures.demands c.in_ok-read_latches.ensures.draft c.in_ok-read_latches.ensures.uses c.in_ok-read_latches.ensures.next in
    let k3 = behind-lits l.sizes.outputs (asked_at_bads l) k2 c.in_ok-outputs.ensures.demands c.in_ok-outputs.ensures.draft c.in_ok-outputs.ensures.uses c.in_ok-outputs.ensures.next in
    let k4 = behind-lits l.sizes.bads (asked_at_constraints l) k3 c.in_ok-bads.ensures.demands c.in_ok-bads.ensures.draft c.in_ok-bads.ensures.uses c.in_ok-bads.ensures.next in
    let k5 = behind-lits l.sizes.constraints (asked_at_gates l) k4 c.in_ok-constraints.ensures.demands c.in_ok-constraints.ensures.draft c.in_ok-constraints.ensures.uses c.in_ok-constraints.ensures.next in
    let k6 = behind-gates c.args.sizes c.args.cursor.now k5 c.in_ok-read_gates.ensures.demands c.in_ok-read_gates.ensures.draft c.in_ok-read_gates.ensures.uses c.in_ok-read_gates.ensures.next in
    k6.asked

pub returns-clause-sections : goal.returns-clause-sections
returns-clause-sections c =
    let l = layout_from c.args.sizes c.args.cursor.now in
    let k1 = behind-inputs c.args.sizes c.args.cursor.now c.new-draft.ensures c.in_ok-read_inputs.ensures.demands c.in_ok-read_inputs.ensures.draft c.in_ok-read_inputs.ensures.next in
    let k2 = behind-latches c.args.sizes c.args.cursor.now k1 c.in_ok-read_latches.ensures.demands c.in_ok-read_latches.ensures.draft c.in_ok-read_latches.ensures.uses c.in_ok-read_latches.ensures.next in
    let k3 = behind-lits l.sizes.outputs (asked_at_bads l) k2 c.in_ok-outputs.ensures.demands c.in_ok-outputs.ensures.draft c.in_ok-outputs.ensures.uses c.in_ok-outputs.ensures.next in
    let k4 = behind-lits l.sizes.bads (asked_at_constraints l) k3 c.in_ok-bads.ensures.demands c.in_ok-bads.ensures.draft c.in_ok-bads.ensures.uses c.in_ok-bads.ensures.next in
    let k5 = behind-lits l.sizes.constraints (asked_at_gates l) k4 c.in_ok-constraints.ensures.demands c.in_ok-constraints.ensures.draft c.in_ok-constraints.ensures.uses c.in_ok-constraints.ensures.next in
    let k6 = behind-gates c.args.sizes c.args.cursor.now k5 c.in_ok-read_gates.ensures.demands c.in_ok-read_gates.ensures.draft c.in_ok-read_gates.ensures.uses c.in_ok-read_gates.ensures.next in
    record {
      top = ap (λ (d : Draft). d.top) k6.draft;
      inputs = ap (λ (d : Draft). d.inputs) k6.draft;
      latches = ap (λ (d : Draft). d.latches) k6.draft;
      outputs = c.in_ok-outputs.ensures.lits ∙ ap (lits_of l.sizes.outputs) k2.place;
      bads = c.in_ok-bads.ensures.lits ∙ ap (lits_of l.sizes.bads) k3.place;
      constraints = c.in_ok-constraints.ensures.lits ∙ ap (lits_of l.sizes.constraints) k4.place;
      gates = ap (λ (d : Draft). d.gates) k6.draft;
      uses = subst (λ (us : List Rest). StandFor (definers_of c.read_gates.new.draft) c.read_gates.new.draft.pending (map use_of us))
          (grouped (section_uses latch l.sizes.latches l.latches) (section_uses plain l.sizes.outputs l.outputs) (section_uses plain l.sizes.bads l.bads) (section_uses plain l.sizes.constraints l.constraints)
          (section_uses gate l.sizes.gates l.gates)) k6.stand;
    }
