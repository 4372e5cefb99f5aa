use Rattle.std.proofs.Common.{◌++◌, sym, ap, ◌∙◌, subst}
use Rattle.std.proofs.lemmas.Result.{err_from_is_err_and}
use Rattle.text_words.specs.Text.{after_lines}
use Rattle.aig_ascii.specs.FirstFaults.{Fails}
use Rattle.aig_ascii.specs.Sections.{lits_of}
use Rattle.aig_ascii.proofs.FirstFaults.{says-err}
use Rattle.aig_binary.specs.Sections.{lits_demands, latches_demands}
use Rattle.aig_binary.specs.Aig.{layout_from, first_latch, line_section_demands}
use Rattle.aig_binary.proofs.ReadLines.{begins, goes-on, fails-here, lits-at}
use Rattle.aig_binary.proofs.reading.read_lines.Goals as goal

pub returns-in_err-latches-clause-demands : goal.returns-in_err-latches-clause-demands
returns-in_err-latches-clause-demands c =
    let p = err_from_is_err_and c.from_residual.result c.from_residual.ensures.1 in
    let e = c.in_err-latches.field-0.0 in
    let s = c.args.sizes in
    let l = layout_from s c.args.cursor.now in
    let all = line_section_demands l in
    let first = latches_demands s.top (first_latch s) s.latches l.latches in
    let second = lits_demands s.top s.outputs l.outputs in
    let third = lits_demands s.top s.bads l.bads in
    let fourth = lits_demands s.top s.constraints l.constraints in
    let at0 = begins s c.args.cursor.now in
    says-err c.from_residual.result p.0 e _ p.1 p.2 (fails-here e all first (second ++ (third ++ fourth)) c.args.cursor.now l.latches at0 c.in_err-latches.ensures.demands)

pub returns-in_err-outputs-clause-demands : goal.returns-in_err-outputs-clause-demands
returns-in_err-outputs-clause-demands c =
    let p = err_from_is_err_and c.from_residual-in_err-outputs.result c.from_residual-in_err-outputs.ensures.1 in
    let e = c.in_err-outputs.field-0.0 in
    let s = c.args.sizes in
    let l = layout_from s c.args.cursor.now in
    let all = line_section_demands l in
    let first = latches_demands s.top (first_latch s) s.latches l.latches in
    let second = lits_demands s.top s.outputs l.outputs in
    let third = lits_demands s.top s.bads l.bads in
    let fourth = lits_demands s.top s.constraints l.constraints in
    let at0 = begins s c.args.cursor.now in
    let at1 = goes-on all first (second ++ (third ++ fourth)) c.args.cursor.now l.latches c.read_latches.new.cursor s.latches at0 c.in_ok-latches.ensures.demands c.in_ok-latches.ensures.next in
    says-err c.from_residual-in_err-outputs.result p.0 e _ p.1 p.2 (fails-here e all second (third ++ fourth) c.read_latches.new.cursor l.outputs at1 (subst (λ o. Fails e o) (lits-at s.top s.outputs c.read_latches.new.cursor l.outputs at1.there) c.in_err-outputs.ensures.demands))

pub returns-in_err-bads-clause-demands : goal.returns-in_err-bads-clause-demands
returns-in_err-bads-clause-demands c =
    let p = err_from_is_err_and c.from_residual-in_err-bads.result c.from_residual-in_err-bads.ensures.1 in
    let e = c.in_err-bads.field-0.0 in
    let s = c.args.sizes in
    let l = layout_from s c.args.cursor.now in
    let all = line_section_demands l in
    let first = latches_demands s.top (first_latch s) s.latches l.latches in
    let second = lits_demands s.top s.outputs l.outputs in
    let third = lits_demands s.top s.bads l.bads in
    let fourth = lits_demands s.top s.constraints l.constraints in
    let at0 = begins s c.args.cursor.now in
    let at1 = goes-on all first (second ++ (third ++ fourth)) c.args.cursor.now l.latches c.read_latches.new.cursor s.latches at0 c.in_ok-latches.ensures.demands c.in_ok-latches.ensures.next in
    let at2 = goes-on all second (third ++ fourth) c.read_latches.new.cursor l.outputs c.read_lits.new.cursor s.outputs at1 (sym (lits-at s.top s.outputs c.read_latches.new.cursor l.outputs at1.there) ∙ c.in_ok-outputs.ensures.demands) c.in_ok-outputs.ensures.next in
    says-err c.from_residual-in_err-bads.result p.0 e _ p.1 p.2 (fails-here e all third fourth c.read_lits.new.cursor l.bads at2 (subst (λ o. Fails e o) (lits-at s.top s.bads c.read_lits.new.cursor l.bads at2.there) c.in_err-bads.ensures.demands))

pub returns-in_err-constraints-clause-demands : goal.returns-in_err-constraints-clause-demands
returns-in_err-constraints-clause-demands c =
    let p = err_from_is_err_and c.from_residual-in_err-constraints.result c.from_residual-in_err-constraints.ensures.1 in
    let e = c.in_err-constraints.field-0.0 in
    let s = c.args.sizes in
    let l = layout_from s c.args.cursor.now in
    let all = line_section_demands l in
    let first = latches_demands s.top (first_latch s) s.latches l.latches in
    let second = lits_demands s.top s.outputs l.outputs in
    let third = lits_demands s.top s.bads l.bads in
    let fourth = lits_demands s.top s.constraints l.constraints in
    let at0 = begins s c.args.cursor.now in
    let at1 = goes-on all first (second ++ (third ++ fourth)) c.args.cursor.now l.latches c.read_latches.new.cursor s.latches at0 c.in_ok-latches.ensures.demands c.in_ok-latches.ensures.next in
    let at2 = goes-on all second (third ++ fourth) c.read_latches.new.cursor l.outputs c.read_lits.new.cursor s.outputs at1 (sym (lits-at s.top s.outputs c.read_latches.new.cursor l.outputs at1.there) ∙ c.in_ok-outputs.ensures.demands) c.in_ok-outputs.ensures.next in
    let at3 = goes-on all third fourth c.read_lits.new.cursor l.bads c.read_lits-2.new.cursor s.bads at2 (sym (lits-at s.top s.bads c.read_lits.new.cursor l.bads at2.there) ∙ c.in_ok-bads.ensures.demands) c.in_ok-bads.ensures.next in
    says-err c.from_residual-in_err-constraints.result p.0 e _ p.1 p.2 (subst (λ o. Fails e o) (lits-at s.top s.constraints c.read_lits-2.new.cursor l.constraints at3.there ∙ sym at3.same) c.in_err-constraints.ensures.demands)

pub returns-clause-demands : goal.returns-clause-demands
returns-clause-demands c =
    let s = c.args.sizes in
    let l = layout_from s c.args.cursor.now in
    let all = line_section_demands l in
    let first = latches_demands s.top (first_latch s) s.latches l.latches in
    let second = lits_demands s.top s.outputs l.outputs in
    let third = lits_demands s.top s.bads l.bads in
    let fourth = lits_demands s.top s.constraints l.constraints in
    let at0 = begins s c.args.cursor.now in
    let at1 = goes-on all first (second ++ (third ++ fourth)) c.args.cursor.now l.latches c.read_latches.new.cursor s.latches at0 c.in_ok-latches.ensures.demands c.in_ok-latches.ensures.next in
    let at2 = goes-on all second (third ++ fourth) c.read_latches.new.cursor l.outputs c.read_lits.new.cursor s.outputs at1 (sym (lits-at s.top s.outputs c.read_latches.new.cursor l.outputs at1.there) ∙ c.in_ok-outputs.ensures.demands) c.in_ok-outputs.ensures.next in
    let at3 = goes-on all third fourth c.read_lits.new.cursor l.bads c.read_lits-2.new.cursor s.bads at2 (sym (lits-at s.top s.bads c.read_lits.new.cursor l.bads at2.there) ∙ c.in_ok-bads.ensures.demands) c.in_ok-bads.ensures.next in
    at3.same ∙ sym (lits-at s.top s.constraints c.read_lits-2.new.cursor l.constraints at3.there) ∙ c.in_ok-constraints.ensures.demands

pub returns-clause-lines : goal.returns-clause-lines
returns-clause-lines c =
    let s = c.args.sizes in
    let l = layout_from s c.args.cursor.now in
    let all = line_section_demands l in
    let first = latches_demands s.top (first_latch s) s.latches l.latches in
    let second = lits_demands s.top s.outputs l.outputs in
    let third = lits_demands s.top s.bads l.bads in
    let fourth = lits_demands s.top s.constraints l.constraints in
    let at0 = begins s c.args.cursor.now in
    let at1 = goes-on all first (second ++ (third ++ fourth)) c.args.cursor.now l.latches c.read_latches.new.cursor s.latches at0 c.in_ok-latches.ensures.demands c.in_ok-latches.ensures.next in
    let at2 = goes-on all second (third ++ fourth) c.read_latches.new.cursor l.outputs c.read_lits.new.cursor s.outputs at1 (sym (lits-at s.top s.outputs c.read_latches.new.cursor l.outputs at1.there) ∙ c.in_ok-outputs.ensures.demands) c.in_ok-outputs.ensures.next in
    let at3 = goes-on all third fourth c.read_lits.new.cursor l.bads c.read_lits-2.new.cursor s.bads at2 (sym (lits-at s.top s.bads c.read_lits.new.cursor l.bads at2.there) ∙ c.in_ok-bads.ensures.demands) c.in_ok-bads.ensures.next in
    record {
      latches = c.in_ok-latches.ensures.latches;
      outputs = c.in_ok-outputs.ensures.lits ∙ ap (lits_of s.outputs) at1.there;
      bads = c.in_ok-bads.ensures.lits ∙ ap (lits_of s.bads) at2.there;
      constraints = c.in_ok-constraints.ensures.lits ∙ ap (lits_of s.constraints) at3.there;
    }

pub returns-clause-next : goal.returns-clause-next
returns-clause-next c =
    let s = c.args.sizes in
    let l = layout_from s c.args.cursor.now in
    let all = line_section_demands l in
    let first = latches_demands s.top (first_latch s) s.latches l.latches in
    let second = lits_demands s.top s.outputs l.outputs in
    let third = lits_demands s.top s.bads l.bads in
    let fourth = lits_demands s.top s.constraints l.constraints in
    let at0 = begins s c.args.cursor.now in
    let at1 = goes-on all first (second ++ (third ++ fourth)) c.args.cursor.now l.latches c.read_latches.new.cursor s.latches at0 c.in_ok-latches.ensures.demands c.in_ok-latches.ensures.next in
    let at2 = goes-on all second (third ++ fourth) c.read_latches.new.cursor l.outputs c.read_lits.new.cursor s.outputs at1 (sym (lits-at s.top s.outputs c.read_latches.new.cursor l.outputs at1.there) ∙ c.in_ok-outputs.ensures.demands) c.in_ok-outputs.ensures.next in
    let at3 = goes-on all third fourth c.read_lits.new.cursor l.bads c.read_lits-2.new.cursor s.bads at2 (sym (lits-at s.top s.bads c.read_lits.new.cursor l.bads at2.there) ∙ c.in_ok-bads.ensures.demands) c.in_ok-bads.ensures.next in
    c.in_ok-constraints.ensures.next ∙ ap (after_lines s.constraints) at3.there
