use Rattle.std.proofs.Common.{◌≡◌, [], ℕ, None, sym, ap, ◌∙◌, subst}
use Rattle.text_words.specs.Text.{Rest, whole, all_lines}
use Rattle.aig_ascii.specs.Symbols.{symbol_lines, symbol_demands, symbols_of}
use Rattle.aig_ascii.specs.FirstFaults.{first_unmet, Fails}
use Rattle.aig_binary.specs.Kinds.{aig_kind}
use Rattle.aig_binary.specs.ReadSections.{CanMove, moved}
use Rattle.aig_binary.proofs.MovedSymbols.{names-moved, met-moved, moved-fails, can-move}
use Rattle.aig_binary.proofs.reading.read_names.Goals as goal

pub moved-requires : goal.moved-requires
moved-requires c =
    let b = c.args.bytes.now in
    let e = c.in-Err.fault in
    let text = c.new-cursor.ensures ∙ ap whole c.rest.ensures in
    let fails : Fails e (first_unmet (symbol_demands aig_kind c.args.sizes [] (symbol_lines (all_lines (whole b.bytes))))) =
    subst (λ (r : Rest). Fails e (first_unmet (symbol_demands aig_kind c.args.sizes [] (symbol_lines (all_lines r))))) text c.in-Err.ensures.demands in
    subst (λ (n : ℕ). CanMove n e) (sym c.at.ensures.value) (can-move b.at c.args.sizes b.bytes e c.at.ensures.small fails)

pub returns-in-Ok-clause-demands : goal.returns-in-Ok-clause-demands
returns-in-Ok-clause-demands c =
    let b = c.args.bytes.now in
    let text = c.new-cursor.ensures ∙ ap whole c.rest.ensures in
    met-moved c.args.sizes b
    (subst (λ (r : Rest). first_unmet (symbol_demands aig_kind c.args.sizes [] (symbol_lines (all_lines r))) ≡ None) text c.in-Ok.ensures.demands)

pub returns-in-Ok-clause-names : goal.returns-in-Ok-clause-names
returns-in-Ok-clause-names c =
    let b = c.args.bytes.now in
    let text = c.new-cursor.ensures ∙ ap whole c.rest.ensures in
    c.in-Ok.ensures.names ∙ ap (λ (r : Rest). symbols_of (symbol_lines (all_lines r))) text ∙ sym (names-moved b)

pub returns-in-Err-clause-demands : goal.returns-in-Err-clause-demands
returns-in-Err-clause-demands c =
    let b = c.args.bytes.now in
    let e = c.in-Err.fault in
    let text = c.new-cursor.ensures ∙ ap whole c.rest.ensures in
    let fails : Fails e (first_unmet (symbol_demands aig_kind c.args.sizes [] (symbol_lines (all_lines (whole b.bytes))))) =
    subst (λ (r : Rest). Fails e (first_unmet (symbol_demands aig_kind c.args.sizes [] (symbol_lines (all_lines r))))) text c.in-Err.ensures.demands in
    let here = moved-fails c.args.sizes b e fails in
    let is = c.moved.ensures ∙ ap (λ (n : ℕ). moved n e) c.at.ensures.value in
    subst (λ f. Fails f (first_unmet (symbol_demands aig_kind c.args.sizes [] (symbol_lines (all_lines b))))) (sym is) here
