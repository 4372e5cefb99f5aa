use Rattle.std.proofs.Common.{◌≡◌, None, sym, ap, ◌∙◌, subst}
use Rattle.std.proofs.lemmas.Result.{err_from_is_err_and}
use Rattle.text_words.specs.Text.{Rest, whole, next_line}
use Rattle.aig_ascii.specs.Header.{header_demands}
use Rattle.aig_ascii.specs.FirstFaults.{first_unmet, Fails}
use Rattle.aig_ascii.specs.declared.header.Format.TheVariants.{Binary}
use Rattle.aig_ascii.proofs.FirstFaults.{says-err, fails-front, fails-behind, first_unmet-behind}
use Rattle.aig_binary.specs.Kinds.{aig_kind}
use Rattle.aig_binary.specs.Aig.{Layout, layout_of, parts_in}
use Rattle.aig_binary.specs.ReadSections.{IsRestOf, behind_header}
use Rattle.aig_binary.proofs.Places.{rest-next, rest-whole, layout-read}
use Rattle.aig_binary.proofs.reading.read_parts.Goals as goal

pub returns-in_err-sizes-clause-demands : goal.returns-in_err-sizes-clause-demands
returns-in_err-sizes-clause-demands c =
    let p = err_from_is_err_and c.from_residual.result c.from_residual.ensures.1 in
    let e = c.in_err-sizes.field-0.0 in
    let file = c.args.file.now in
    says-err c.from_residual.result p.0 e _ p.1 p.2
    (fails-front e (header_demands aig_kind Binary (whole file)) (behind_header (layout_of file))
    (subst (λ (r : Rest). Fails e (first_unmet (header_demands aig_kind Binary r))) c.new-cursor.ensures c.in_err-sizes.ensures.demands))

pub read_body-requires-clause-rest : goal.read_body-requires-clause-rest
read_body-requires-clause-rest c =
    let file = c.args.file.now in
    subst (IsRestOf file) (sym (c.in_ok-sizes.ensures.next ∙ ap next_line c.new-cursor.ensures)) (rest-next file (whole file) (rest-whole file))

pub returns-in_err-parts-clause-demands : goal.returns-in_err-parts-clause-demands
returns-in_err-parts-clause-demands c =
    let p = err_from_is_err_and c.from_residual-in_err-parts.result c.from_residual-in_err-parts.ensures.1 in
    let e = c.in_err-parts.field-0.0 in
    let file = c.args.file.now in
    let head = c.in_ok-sizes.ensures in
    let layout = layout-read file c.new-cursor.result c.read_header.new.cursor c.in_ok-sizes.sizes c.new-cursor.ensures head.sizes head.next in
    let met : first_unmet (header_demands aig_kind Binary (whole file)) ≡ None = ap (λ (r : Rest). first_unmet (header_demands aig_kind Binary r)) (sym c.new-cursor.ensures) ∙ head.demands in
    says-err c.from_residual-in_err-parts.result p.0 e _ p.1 p.2
    (fails-behind e (header_demands aig_kind Binary (whole file)) (behind_header (layout_of file)) met
    (subst (λ (l : Layout). Fails e (first_unmet (behind_header l))) layout c.in_err-parts.ensures.demands))

pub returns-clause-demands : goal.returns-clause-demands
returns-clause-demands c =
    let file = c.args.file.now in
    let head = c.in_ok-sizes.ensures in
    let layout = layout-read file c.new-cursor.result c.read_header.new.cursor c.in_ok-sizes.sizes c.new-cursor.ensures head.sizes head.next in
    let met : first_unmet (header_demands aig_kind Binary (whole file)) ≡ None = ap (λ (r : Rest). first_unmet (header_demands aig_kind Binary r)) (sym c.new-cursor.ensures) ∙ head.demands in
    first_unmet-behind (header_demands aig_kind Binary (whole file)) (behind_header (layout_of file)) met
    ∙ ap (λ (l : Layout). first_unmet (behind_header l)) (sym layout) ∙ c.in_ok-parts.ensures.demands

pub returns-clause-parts : goal.returns-clause-parts
returns-clause-parts c =
    let head = c.in_ok-sizes.ensures in
    c.in_ok-parts.ensures.parts ∙ ap parts_in (layout-read c.args.file.now c.new-cursor.result c.read_header.new.cursor c.in_ok-sizes.sizes c.new-cursor.ensures head.sizes head.next)
