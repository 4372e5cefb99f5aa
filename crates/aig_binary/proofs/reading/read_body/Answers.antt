use Rattle.std.proofs.Common.{◌≡◌, ℕ, None, [], drop, sym, ap, ◌∙◌, subst, arith}
use Rattle.std.proofs.lemmas.Result.{err_from_is_err_and}
use Rattle.text_words.specs.Text.{Rest, all_lines}
use Rattle.aig_ascii.specs.Symbols.{symbol_lines, symbol_demands, symbols_of}
use Rattle.aig_ascii.specs.FirstFaults.{first_unmet, Fails}
use Rattle.aig_ascii.proofs.FirstFaults.{says-err, fails-front, fails-behind, first_unmet-behind}
use Rattle.aig_binary.specs.Kinds.{aig_kind}
use Rattle.aig_binary.specs.Sections.{gates_demands, gates_at, behind_gates}
use Rattle.aig_binary.specs.Aig.{layout_from, first_gate, line_section_demands}
use Rattle.aig_binary.specs.ReadSections.{behind_lines}
use Rattle.aig_binary.proofs.Places.{rest-gates, taken, parts-read}
use Rattle.aig_binary.proofs.reading.read_body.Goals as goal

pub returns-in_err-lines-clause-demands : goal.returns-in_err-lines-clause-demands
returns-in_err-lines-clause-demands c =
    let p = err_from_is_err_and c.from_residual.result c.from_residual.ensures.1 in
    let e = c.in_err-lines.field-0.0 in
    let l = layout_from c.args.sizes c.args.cursor.now in
    says-err c.from_residual.result p.0 e _ p.1 p.2 (fails-front e (line_section_demands l) (behind_lines l) c.in_err-lines.ensures.demands)

pub new-bytes-requires : goal.new-bytes-requires
new-bytes-requires c =
    let s = c.args.sizes in
    let file = c.args.file.now in
    let l = layout_from s c.args.cursor.now in
    let here = rest-gates file s c.args.cursor.now c.requires.rest in
    let place : c.at-place.result ≡ l.gates.at = c.at-place.ensures ∙ ap (λ (r : Rest). r.at) c.in_ok-lines.ensures.next in
    omega (arith, here.within, place)

pub returns-in_err-gates-clause-demands : goal.returns-in_err-gates-clause-demands
returns-in_err-gates-clause-demands c =
    let p = err_from_is_err_and c.from_residual-in_err-gates.result c.from_residual-in_err-gates.ensures.1 in
    let e = c.in_err-gates.field-0.0 in
    let s = c.args.sizes in
    let file = c.args.file.now in
    let l = layout_from s c.args.cursor.now in
    let here = rest-gates file s c.args.cursor.now c.requires.rest in
    let place : c.at-place.result ≡ l.gates.at = c.at-place.ensures ∙ ap (λ (r : Rest). r.at) c.in_ok-lines.ensures.next in
    let bytes = taken file l.gates here c.new-bytes.result (c.new-bytes.ensures ∙ ap (λ (n : ℕ). let r : Rest = record { at = n; bytes = drop n file } in r) place) in
    let gates = gates_demands (first_gate s) s.gates l.gates in
    let symbols = symbol_demands aig_kind s [] (symbol_lines (all_lines l.symbols)) in
    let fails : Fails e (first_unmet gates) = subst (λ (r : Rest). Fails e (first_unmet (gates_demands (first_gate s) s.gates r))) bytes c.in_err-gates.ensures.demands in
    says-err c.from_residual-in_err-gates.result p.0 e _ p.1 p.2 (fails-behind e (line_section_demands l) (behind_lines l) c.in_ok-lines.ensures.demands (fails-front e gates symbols fails))

pub returns-in_err-names-clause-demands : goal.returns-in_err-names-clause-demands
returns-in_err-names-clause-demands c =
    let p = err_from_is_err_and c.from_residual-in_err-names.result c.from_residual-in_err-names.ensures.1 in
    let e = c.in_err-names.field-0.0 in
    let s = c.args.sizes in
    let file = c.args.file.now in
    let l = layout_from s c.args.cursor.now in
    let here = rest-gates file s c.args.cursor.now c.requires.rest in
    let place : c.at-place.result ≡ l.gates.at = c.at-place.ensures ∙ ap (λ (r : Rest). r.at) c.in_ok-lines.ensures.next in
    let bytes = taken file l.gates here c.new-bytes.result (c.new-bytes.ensures ∙ ap (λ (n : ℕ). let r : Rest = record { at = n; bytes = drop n file } in r) place) in
    let gates = gates_demands (first_gate s) s.gates l.gates in
    let symbols = symbol_demands aig_kind s [] (symbol_lines (all_lines l.symbols)) in
    let behind = c.in_ok-gates.ensures.next ∙ ap (behind_gates s.gates) bytes in
    let met : first_unmet gates ≡ None = ap (λ (r : Rest). first_unmet (gates_demands (first_gate s) s.gates r)) (sym bytes) ∙ c.in_ok-gates.ensures.demands in
    let fails : Fails e (first_unmet symbols) = subst (λ (r : Rest). Fails e (first_unmet (symbol_demands aig_kind s [] (symbol_lines (all_lines r))))) behind c.in_err-names.ensures.demands in
    says-err c.from_residual-in_err-names.result p.0 e _ p.1 p.2
    (fails-behind e (line_section_demands l) (behind_lines l) c.in_ok-lines.ensures.demands (fails-behind e gates symbols met fails))

pub returns-clause-demands : goal.returns-clause-demands
returns-clause-demands c =
    let s = c.args.sizes in
    let file = c.args.file.now in
    let l = layout_from s c.args.cursor.now in
    let here = rest-gates file s c.args.cursor.now c.requires.rest in
    let place : c.at-place.result ≡ l.gates.at = c.at-place.ensures ∙ ap (λ (r : Rest). r.at) c.in_ok-lines.ensures.next in
    let bytes = taken file l.gates here c.new-bytes.result (c.new-bytes.ensures ∙ ap (λ (n : ℕ). let r : Rest = record { at = n; bytes = drop n file } in r) place) in
    let gates = gates_demands (first_gate s) s.gates l.gates in
    let symbols = symbol_demands aig_kind s [] (symbol_lines (all_lines l.symbols)) in
    let behind = c.in_ok-gates.ensures.next ∙ ap (behind_gates s.gates) bytes in
    let met : first_unmet gates ≡ None = ap (λ (r : Rest). first_unmet (gates_demands (first_gate s) s.gates r)) (sym bytes) ∙ c.in_ok-gates.ensures.demands in
    first_unmet-behind (line_section_demands l) (behind_lines l) c.in_ok-lines.ensures.demands ∙ first_unmet-behind gates symbols met
    ∙ ap (λ (r : Rest). first_unmet (symbol_demands aig_kind s [] (symbol_lines (all_lines r)))) (sym behind) ∙ c.in_ok-names.ensures.demands

pub returns-clause-parts : goal.returns-clause-parts
returns-clause-parts c =
    let s = c.args.sizes in
    let file = c.args.file.now in
    let l = layout_from s c.args.cursor.now in
    let here = rest-gates file s c.args.cursor.now c.requires.rest in
    let place : c.at-place.result ≡ l.gates.at = c.at-place.ensures ∙ ap (λ (r : Rest). r.at) c.in_ok-lines.ensures.next in
    let bytes = taken file l.gates here c.new-bytes.result (c.new-bytes.ensures ∙ ap (λ (n : ℕ). let r : Rest = record { at = n; bytes = drop n file } in r) place) in
    let behind = c.in_ok-gates.ensures.next ∙ ap (behind_gates s.gates) bytes in
    let lines = c.in_ok-lines.ensures.lines in
    parts-read l _ _ _ _ _ _ _ c.in_ok-inputs.ensures lines.latches lines.outputs lines.bads lines.constraints (c.in_ok-gates.ensures.gates ∙ ap (gates_at (first_gate s) s.gates) bytes)
    (c.in_ok-names.ensures.names ∙ ap (λ (r : Rest). symbols_of (symbol_lines (all_lines r))) behind)
