use Rattle.std.proofs.Common.{Some, sym, ap, ◌∙◌, arith}
use Rattle.std.proofs.lemmas.List.{take_all}
use Rattle.wit_text.specs.Reading.{values_of}
use Rattle.wit_text.proofs.Values.{values-more, values-none, bits-values}
use Rattle.wit_text.proofs.lines.bits.Goals as goal

pub loop-byte-init : goal.loop-byte-init
loop-byte-init c = ap (λ bits. Some bits) (sym c.new-bits.ensures)

pub returns-in_default : goal.returns-in_default
returns-in_default c =
    let line = c.args.line.now in
    sym (bits-values c.args.width line c.if-line-width.false ∙ values-none line c.loop-byte.byte-index (omega arith) (sym c.in_default.ensures))

pub loop-byte-preserved : goal.loop-byte-preserved
loop-byte-preserved c =
    values-more c.args.line.now c.loop-byte.byte-index c.loop-byte.bits c.in-Some.bit (omega arith) c.loop-byte.invariant (sym c.in-Some.ensures)
    ∙ ap (λ bits. Some bits) (sym c.in_ok-push.ensures.ok)

pub returns : goal.returns
returns c =
    let line = c.args.line.now in
    sym (bits-values c.args.width line c.if-line-width.false ∙ ap values_of (sym (take_all c.loop-byte.byte-index line (omega arith))) ∙ c.loop-byte.invariant)
