-- Parts whose demands are met are a circuit, but for the order of their gates.
use Rattle.std.proofs.Common.{◌≡◌, ℕ, zero, suc, true, None, List, [], ◌++◌, map, length, refl, sym, ap, ◌∙◌, subst, arith}
use Rattle.std.specs.List.{AllByRecursion}
use Rattle.std.proofs.lemmas.List.{map-append, length-map}
use Rattle.std.proofs.lemmas.List.Elements.{All-from_recursion}
use Rattle.text_words.proofs.Written.{each-append, each-weaker}
use Rattle.aig_model.specs.WellFormed.{IsInRange, IsDefining, IsKnown, IsSized, AreNames, left_sides, latch_literals, gate_literals, next_lits, literals, definers, uses}
use Rattle.gate_order.specs.GateOrder.{DefineApart}
use Rattle.gate_order.specs.OrderLaws.{IsUnordered}
use Rattle.gate_order.proofs.OrderedGates.{apart_from_defined}
use Rattle.text_words.specs.Text.{Rest, number, lines_of, all_lines, whole}
use Rattle.aig_ascii.specs.Header.{AreFew, header_demands}
use Rattle.aig_ascii.specs.Sections.{input, latch, plain, gate, number_at, is_known, section_demands, section_uses, use_demands, latch_of, gate_of, lits_of}
use Rattle.aig_ascii.specs.Symbols.{symbol_lines, symbol_demands}
use Rattle.aig_ascii.specs.Aag.{Layout, layout_of, parts_in, uses_in, body_demands, demands}
use Rattle.aig_ascii.specs.ReadSections.{behind_header}
use Rattle.aig_ascii.specs.FirstFaults.{first_unmet}
use Rattle.aig_ascii.proofs.Body.{latch_lits-lines}
use Rattle.aig_ascii.proofs.RightSections.{Fresh, fresh-append, fresh-range, fresh-defining, fresh-once, left_sides-lines, right-inputs, right-latches, right-lits, right-gates, right-uses, known-literal}
use Rattle.aig_ascii.proofs.RightSymbols.{HasSizes, right-names}
use Rattle.aig_ascii.specs.Kinds.{aag_kind}
use Rattle.aig_ascii.specs.declared.header.Format.TheVariants.{Ascii}
use Rattle.aig_ascii.proofs.FirstFaults.{met-front, met-rest}

-- ---- how many items there are

pub length-lines : (n : ℕ) (r : Rest) → length (lines_of n r) ≡ n
length-lines zero r = refl
length-lines (suc n) r = ap suc (length-lines n _)

pub length-items : {A : Type 0} (f : Rest → A) (n : ℕ) (r : Rest) → length (map f (lines_of n r)) ≡ n
length-items f n r = length-map (lines_of n r) f ∙ length-lines n r

pub parts-sized : (l : Layout) → AreFew l.sizes → IsSized (parts_in l)
parts-sized l few = record {
  top = few.top;
  inputs = omega (arith, length-items (λ line. number_at line 0) l.sizes.inputs l.inputs, few.inputs);
  latches = omega (arith, length-items latch_of l.sizes.latches l.latches, few.latches);
  outputs = omega (arith, length-items (λ line. number_at line 0) l.sizes.outputs l.outputs, few.outputs);
  bads = omega (arith, length-items (λ line. number_at line 0) l.sizes.bads l.bads, few.bads);
  constraints = omega (arith, length-items (λ line. number_at line 0) l.sizes.constraints l.constraints, few.constraints);
  gates = omega (arith, length-items gate_of l.sizes.gates l.gates, few.gates);
}

-- ---- names

names-right : (l : Layout) → first_unmet (symbol_demands aag_kind l.sizes [] (symbol_lines (all_lines l.symbols))) ≡ None → AreNames (parts_in l)
names-right l m =
    let sizes : HasSizes l.sizes (parts_in l) = record {
      inputs = length-items (λ line. number_at line 0) l.sizes.inputs l.inputs;
      latches = length-items latch_of l.sizes.latches l.latches;
      outputs = length-items (λ line. number_at line 0) l.sizes.outputs l.outputs;
      bads = length-items (λ line. number_at line 0) l.sizes.bads l.bads;
      constraints = length-items (λ line. number_at line 0) l.sizes.constraints l.constraints;
    } in
    right-names aag_kind l.sizes (parts_in l) (symbol_lines (all_lines l.symbols)) sizes refl m

-- ---- the whole

-- each variable is defined once
pub parts-fresh : (l : Layout) → first_unmet (body_demands l) ≡ None → Fresh l.sizes.top [] (definers (parts_in l))
parts-fresh l body =
    let s = l.sizes in
    let inputs = lits_of s.inputs l.inputs in
    let latch_lines = lits_of s.latches l.latches in
    let both = inputs ++ latch_lines in
    let gate_lines = lits_of s.gates l.gates in
    let first = section_demands input s.inputs s.top [] l.inputs in
    let second = section_demands latch s.latches s.top inputs l.latches in
    let third = section_demands plain s.outputs s.top both l.outputs in
    let fourth = section_demands plain s.bads s.top both l.bads in
    let fifth = section_demands plain s.constraints s.top both l.constraints in
    let sixth = section_demands gate s.gates s.top both l.gates in
    let body2 = met-rest first (second ++ (third ++ (fourth ++ (fifth ++ sixth)))) body in
    let body6 = met-rest fifth sixth (met-rest fourth (fifth ++ sixth) (met-rest third (fourth ++ (fifth ++ sixth)) (met-rest second (third ++ (fourth ++ (fifth ++ sixth))) body2))) in
    let is = right-inputs s.inputs s.top [] l.inputs (met-front first (second ++ (third ++ (fourth ++ (fifth ++ sixth)))) body) in
    let ls = right-latches s.latches s.top inputs l.latches (met-front second (third ++ (fourth ++ (fifth ++ sixth))) body2) in
    let gs = right-gates s.gates s.top both l.gates body6 in
    let lines : Fresh s.top [] (inputs ++ (latch_lines ++ gate_lines)) = fresh-append s.top [] inputs (latch_lines ++ gate_lines) is (fresh-append s.top inputs latch_lines gate_lines ls.fresh gs.fresh) in
    let are : definers (parts_in l) ≡ inputs ++ (latch_lines ++ gate_lines) = ap (λ xs. inputs ++ (xs ++ left_sides (parts_in l).gates)) (latch_lits-lines (lines_of s.latches l.latches))
    ∙ ap (λ xs. inputs ++ (latch_lines ++ xs)) (left_sides-lines (lines_of s.gates l.gates)) in
    subst (λ (xs : List ℕ). Fresh s.top [] xs) (sym are) lines

pub parts-unordered : (l : Layout) → AreFew l.sizes → first_unmet (behind_header l) ≡ None → IsUnordered (parts_in l)
parts-unordered l few m =
    let s = l.sizes in
    let c = parts_in l in
    let inputs = lits_of s.inputs l.inputs in
    let both = inputs ++ lits_of s.latches l.latches in
    let first = section_demands input s.inputs s.top [] l.inputs in
    let second = section_demands latch s.latches s.top inputs l.latches in
    let third = section_demands plain s.outputs s.top both l.outputs in
    let fourth = section_demands plain s.bads s.top both l.bads in
    let fifth = section_demands plain s.constraints s.top both l.constraints in
    let sixth = section_demands gate s.gates s.top both l.gates in
    let symbols = symbol_demands aag_kind s [] (symbol_lines (all_lines l.symbols)) in
    let checked = use_demands (definers c) (uses_in l) in
    let body = met-front (body_demands l) (symbols ++ checked) m in
    let behind = met-rest (body_demands l) (symbols ++ checked) m in
    let body2 = met-rest first (second ++ (third ++ (fourth ++ (fifth ++ sixth)))) body in
    let body3 = met-rest second (third ++ (fourth ++ (fifth ++ sixth))) body2 in
    let body4 = met-rest third (fourth ++ (fifth ++ sixth)) body3 in
    let body5 = met-rest fourth (fifth ++ sixth) body4 in
    let body6 = met-rest fifth sixth body5 in
    let is = right-inputs s.inputs s.top [] l.inputs (met-front first (second ++ (third ++ (fourth ++ (fifth ++ sixth)))) body) in
    let ls = right-latches s.latches s.top inputs l.latches (met-front second (third ++ (fourth ++ (fifth ++ sixth))) body2) in
    let os = right-lits s.outputs s.top both l.outputs (met-front third (fourth ++ (fifth ++ sixth)) body3) in
    let bs = right-lits s.bads s.top both l.bads (met-front fourth (fifth ++ sixth) body4) in
    let cs = right-lits s.constraints s.top both l.constraints (met-front fifth sixth body5) in
    let gs = right-gates s.gates s.top both l.gates body6 in
    let latches = map latch_of (lines_of s.latches l.latches) in
    let gates = map gate_of (lines_of s.gates l.gates) in
    let fresh = parts-fresh l body in
    let R = IsInRange s.top in
    let last = each-append R (lits_of s.constraints l.constraints) (gate_literals gates) cs.range gs.range in
    let range : AllByRecursion R (literals c) = each-append R inputs _ (fresh-range s.top [] inputs is)
    (each-append R (latch_literals latches) _ ls.range
    (each-append R (lits_of s.outputs l.outputs) _ os.range
    (each-append R (lits_of s.bads l.bads) _ bs.range last))) in
    let uses2 = section_uses plain s.constraints l.constraints ++ section_uses gate s.gates l.gates in
    let uses3 = section_uses plain s.bads l.bads ++ uses2 in
    let uses4 = section_uses plain s.outputs l.outputs ++ uses3 in
    let numbers : map number (uses_in l) ≡ uses c =
    map-append number (section_uses latch s.latches l.latches) uses4 ∙ ap (λ xs. xs ++ map number uses4) ls.uses
    ∙ ap (λ xs. next_lits latches ++ xs) (map-append number (section_uses plain s.outputs l.outputs) uses3 ∙ ap (λ xs. xs ++ map number uses3) os.uses
    ∙ ap (λ xs. c.outputs ++ xs) (map-append number (section_uses plain s.bads l.bads) uses2 ∙ ap (λ xs. xs ++ map number uses2) bs.uses
    ∙ ap (λ xs. c.bads ++ xs) (map-append number (section_uses plain s.constraints l.constraints) (section_uses gate s.gates l.gates) ∙ ap (λ xs. xs ++ map number (section_uses gate s.gates l.gates)) cs.uses
    ∙ ap (λ xs. c.constraints ++ xs) gs.uses))) in
    let used : AllByRecursion (λ n. is_known (definers c) n ≡ true) (uses c) = subst (λ (xs : List ℕ). AllByRecursion (λ n. is_known (definers c) n ≡ true) xs) numbers (right-uses (definers c) (uses_in l) (met-rest symbols checked behind)) in
    record {
      sized = parts-sized l few;
      in_range = All-from_recursion R (literals c) range;
      defining = All-from_recursion IsDefining (definers c) (fresh-defining s.top [] (definers c) fresh);
      once = fresh-once s.top [] (definers c) fresh;
      known = All-from_recursion (IsKnown c) (uses c) (each-weaker (λ n. is_known (definers c) n ≡ true) (IsKnown c) (known-literal (definers c)) (uses c) used);
      names = names-right l (met-front symbols checked behind);
    }

pub text-unordered : (text : List ℕ) → AreFew (layout_of text).sizes → first_unmet (demands text) ≡ None → IsUnordered (parts_in (layout_of text))
text-unordered text few m = parts-unordered (layout_of text) few (met-rest (header_demands aag_kind Ascii (whole text)) (behind_header (layout_of text)) m)

pub text-apart : (text : List ℕ) → first_unmet (demands text) ≡ None → DefineApart (parts_in (layout_of text)).gates
text-apart text m =
    let l = layout_of text in
    let behind = met-rest (header_demands aag_kind Ascii (whole text)) (behind_header l) m in
    let fresh = parts-fresh l (met-front (body_demands l) _ behind) in
    let lits = definers (parts_in l) in
    apart_from_defined (parts_in l) (All-from_recursion IsDefining lits (fresh-defining l.sizes.top [] lits fresh)) (fresh-once l.sizes.top [] lits fresh)
