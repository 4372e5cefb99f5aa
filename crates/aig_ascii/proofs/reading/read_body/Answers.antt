use Rattle.std.proofs.Common.{◌≡◌, [], ◌++◌, None, sym, ap, ◌∙◌, subst}
use Rattle.std.proofs.lemmas.Result.{err_from_is_err_and}
use Rattle.aig_model.specs.WellFormed.{definers}
use Rattle.text_words.specs.Text.{Rest, all_lines}
use Rattle.aig_ascii.specs.Sections.{use_demands}
use Rattle.aig_ascii.specs.Symbols.{symbol_lines, symbol_demands}
use Rattle.aig_ascii.specs.Aag.{layout_from, parts_in, uses_in, body_demands}
use Rattle.aig_ascii.specs.FirstFaults.{first_unmet, Fails}
use Rattle.aig_ascii.proofs.FirstFaults.{Unmet, says-err, fails-front, fails-behind, first_unmet-behind}
use Rattle.aig_ascii.proofs.Body.{uses-checked}
use Rattle.aig_ascii.proofs.reading.read_body.Goals as goal
use Rattle.aig_ascii.specs.Kinds.{aag_kind}
use Rattle.aig_ascii.specs.declared.fault.AagKind.{AagKind}

pub returns-in_err-sections-clause-demands : goal.returns-in_err-sections-clause-demands
returns-in_err-sections-clause-demands c =
    let p = err_from_is_err_and c.from_residual.result c.from_residual.ensures.1 in
    let e = c.in_err-sections.field-0.0 in
    let l = layout_from c.args.sizes c.args.cursor.now in
    says-err c.from_residual.result p.0 e _ p.1 p.2 (fails-front e (body_demands l) _ c.in_err-sections.ensures.demands)

pub returns-in_err-names-clause-demands : goal.returns-in_err-names-clause-demands
returns-in_err-names-clause-demands c =
    let p = err_from_is_err_and c.from_residual-in_err-names.result c.from_residual-in_err-names.ensures.1 in
    let e = c.in_err-names.field-0.0 in
    let l = layout_from c.args.sizes c.args.cursor.now in
    let symbols = symbol_demands aag_kind l.sizes [] (symbol_lines (all_lines l.symbols)) in
    let uses = use_demands (definers (parts_in l)) (uses_in l) in
    let here : Fails e (first_unmet symbols) = subst (λ (r : Rest). Fails e (first_unmet (symbol_demands aag_kind l.sizes [] (symbol_lines (all_lines r))))) c.in_ok-sections.ensures.next c.in_err-names.ensures.demands in
    says-err c.from_residual-in_err-names.result p.0 e _ p.1 p.2 (fails-behind e (body_demands l) (symbols ++ uses) c.in_ok-sections.ensures.demands (fails-front e symbols uses here))

pub returns-in_err-check_uses-clause-demands : goal.returns-in_err-check_uses-clause-demands
returns-in_err-check_uses-clause-demands c =
    let p = err_from_is_err_and c.from_residual-in_err-check_uses.result c.from_residual-in_err-check_uses.ensures.1 in
    let e = c.in_err-check_uses.field-0.0 in
    let l = layout_from c.args.sizes c.args.cursor.now in
    let symbols = symbol_demands aag_kind l.sizes [] (symbol_lines (all_lines l.symbols)) in
    let uses = use_demands (definers (parts_in l)) (uses_in l) in
    let met : first_unmet symbols ≡ None = ap (λ (r : Rest). first_unmet (symbol_demands aag_kind l.sizes [] (symbol_lines (all_lines r)))) (sym c.in_ok-sections.ensures.next) ∙ c.in_ok-names.ensures.demands in
    let here : Fails e (first_unmet uses) = subst (λ (o : Unmet AagKind). Fails e o) (uses-checked l c.in_ok-sections.sections c.in_ok-sections.ensures.sections) c.in_err-check_uses.ensures in
    says-err c.from_residual-in_err-check_uses.result p.0 e _ p.1 p.2 (fails-behind e (body_demands l) (symbols ++ uses) c.in_ok-sections.ensures.demands (fails-behind e symbols uses met here))

pub returns-clause-demands : goal.returns-clause-demands
returns-clause-demands c =
    let l = layout_from c.args.sizes c.args.cursor.now in
    let symbols = symbol_demands aag_kind l.sizes [] (symbol_lines (all_lines l.symbols)) in
    let uses = use_demands (definers (parts_in l)) (uses_in l) in
    let met : first_unmet symbols ≡ None = ap (λ (r : Rest). first_unmet (symbol_demands aag_kind l.sizes [] (symbol_lines (all_lines r)))) (sym c.in_ok-sections.ensures.next) ∙ c.in_ok-names.ensures.demands in
    first_unmet-behind (body_demands l) (symbols ++ uses) c.in_ok-sections.ensures.demands ∙ first_unmet-behind symbols uses met
    ∙ sym (uses-checked l c.in_ok-sections.sections c.in_ok-sections.ensures.sections) ∙ c.in_ok-check_uses.ensures
