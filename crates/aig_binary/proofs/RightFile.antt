-- A file whose demands are met spells a well-formed circuit, in the order of a binary file.
use Rattle.std.proofs.Common.{◌≡◌, ◌≢◌, ℕ, ◌+◌, true, nat_eq, None, List, [], ◌∷◌, ◌++◌, map, length, drop, get_or, AllPairs, Contains, refl, sym, ap, ◌∙◌, subst, inl, inr, ◌⊎◌, arith, append_assoc}
use Rattle.std.specs.List.{AllByRecursion, starts_with}
use Rattle.std.proofs.lemmas.Bool.{cases_eq}
use Rattle.std.proofs.lemmas.Bool.Decides.{nat_tests}
use Rattle.std.proofs.lemmas.List.Elements.{All-from_recursion}
use Rattle.text_words.proofs.Written.{each-append, each-weaker}
use Rattle.aig_model.specs.Literal.{var}
use Rattle.aig_model.specs.WellFormed.{IsInRange, IsDefining, IsKnown, IsSized, IsCircuit, left_sides, latch_literals, gate_literals, next_lits, gate_inputs, literals, definers, defined, uses}
use Rattle.text_words.specs.Text.{whole, all_lines}
use Rattle.aig_ascii.specs.Demands.{demand}
use Rattle.aig_ascii.specs.Fields.{wants_demands, none_demands}
use Rattle.aig_ascii.specs.Header.{AreFew, header_fields, header_wants, header_demands, magic_of, fits, sizes_of}
use Rattle.aig_ascii.specs.Sections.{number_at}
use Rattle.aig_ascii.specs.Symbols.{symbol_lines, symbol_demands}
use Rattle.aig_ascii.specs.FirstFaults.{first_unmet}
use Rattle.aig_ascii.specs.declared.header.Sizes.{Sizes}
use Rattle.aig_ascii.specs.declared.header.Format.TheVariants.{Binary}
use Rattle.aig_ascii.specs.declared.fault.SharedKind.TheVariants.{Header}
use Rattle.aig_ascii.proofs.FirstFaults.{met-front, met-rest, met-first}
use Rattle.aig_ascii.proofs.HeaderLimits.{header-few}
use Rattle.aig_ascii.proofs.RightParts.{length-items}
use Rattle.aig_ascii.proofs.RightSymbols.{HasSizes, right-names}
use Rattle.aig_binary.specs.BinaryOrder.{lits_from, IsBinary}
use Rattle.aig_binary.specs.Kinds.{aig_kind}
use Rattle.aig_binary.specs.Sections.{lits_demands, latches_demands, gates_demands}
use Rattle.aig_binary.specs.Aig.{Layout, layout_of, first_latch, first_gate, parts_in, line_section_demands, demands}
use Rattle.aig_binary.specs.ReadSections.{behind_lines, behind_header}
use Rattle.aig_binary.proofs.Misplaced.{length-lits_from, lits_from-append}
use Rattle.aig_binary.proofs.RightSections.{lits-range, lits-defining, lits-apart, lits-contain, latch_lits-of, left_sides-at, length-latches_of, length-gates_at, right-lits, right-latches, right-gates}

-- ---- the variables

pub definers-in : (l : Layout) → definers (parts_in l) ≡ lits_from 1 (l.sizes.inputs + l.sizes.latches + l.sizes.gates)
definers-in l =
    let s = l.sizes in
    let inputs = lits_from 1 s.inputs in
    let latches = lits_from (first_latch s) s.latches in
    let gates = lits_from (first_gate s) s.gates in
    ap (λ xs. inputs ++ (xs ++ left_sides (parts_in l).gates)) (latch_lits-of (first_latch s) s.latches l.latches)
    ∙ ap (λ xs. inputs ++ (latches ++ xs)) (left_sides-at (first_gate s) s.gates l.gates)
    ∙ sym (append_assoc inputs latches gates)
    ∙ ap (λ xs. xs ++ gates) (lits_from-append 1 s.inputs s.latches)
    ∙ ap (λ v. lits_from 1 (s.inputs + s.latches) ++ lits_from v s.gates) (let e : first_gate s ≡ 1 + (s.inputs + s.latches) = omega arith in e)
    ∙ lits_from-append 1 (s.inputs + s.latches) s.gates

-- ---- the whole

fits-is : (s : Sizes) → fits Binary s ≡ true → s.inputs + s.latches + s.gates ≡ s.top
fits-is s e = grind (arith, nat_tests)

pub header-fits : (bytes : List ℕ) → first_unmet (header_demands aig_kind Binary (whole bytes)) ≡ None → (sizes_of (whole bytes)).inputs + (sizes_of (whole bytes)).latches + (sizes_of (whole bytes)).gates ≡ (sizes_of (whole bytes)).top
header-fits bytes m =
    let r = whole bytes in
    let fs = header_fields r in
    let begins = demand r.at (aig_kind Header) (starts_with nat_eq r.bytes (magic_of Binary ++ 32 ∷ [])) in
    let numbers = wants_demands aig_kind r fs (header_wants aig_kind) in
    let top = demand (get_or fs 0 r).at (aig_kind Header) (fits Binary (sizes_of r)) in
    let none = none_demands aig_kind (drop 9 fs) in
    fits-is (sizes_of r) (met-first top none (met-rest (begins ∷ numbers) (top ∷ none) m)).0

known-in-range : (top n : ℕ) (variables : List ℕ) → variables ≡ map var (lits_from 1 top) → IsInRange top n → (var n ≡ 0) ⊎ Contains variables (var n)
known-in-range top n variables e h =
    elim (cases_eq (var n) 0) [
      | inl none ↦ inl none
      | inr some ↦ inr (subst (λ (xs : List ℕ). Contains xs (var n)) (sym e) (lits-contain 1 top (var n) (omega arith) (omega arith)))
    ]

module _ (l : Layout) (few : AreFew l.sizes) (tight : l.sizes.inputs + l.sizes.latches + l.sizes.gates ≡ l.sizes.top) (m : first_unmet (behind_header l) ≡ None) where
  parts_sized : IsSized (parts_in l)
  parts_sized = record {
    top = few.top;
    inputs = omega (arith, length-lits_from 1 l.sizes.inputs, few.inputs);
    latches = omega (arith, length-latches_of (first_latch l.sizes) l.sizes.latches l.latches, few.latches);
    outputs = omega (arith, length-items (λ line. number_at line 0) l.sizes.outputs l.outputs, few.outputs);
    bads = omega (arith, length-items (λ line. number_at line 0) l.sizes.bads l.bads, few.bads);
    constraints = omega (arith, length-items (λ line. number_at line 0) l.sizes.constraints l.constraints, few.constraints);
    gates = omega (arith, length-gates_at (first_gate l.sizes) l.sizes.gates l.gates, few.gates);
  }

  all_defined : definers (parts_in l) ≡ lits_from 1 l.sizes.top
  all_defined = definers-in l ∙ ap (λ n. lits_from 1 n) tight

  pub binary : IsBinary (parts_in l)
  binary =
      let count : length (definers (parts_in l)) ≡ l.sizes.top = ap length all_defined ∙ length-lits_from 1 l.sizes.top in
      record { in_order = all_defined ∙ ap (λ n. lits_from 1 n) (sym count); top = sym count }

  has_sizes : HasSizes l.sizes (parts_in l)
  has_sizes = record {
    inputs = length-lits_from 1 l.sizes.inputs;
    latches = length-latches_of (first_latch l.sizes) l.sizes.latches l.latches;
    outputs = length-items (λ line. number_at line 0) l.sizes.outputs l.outputs;
    bads = length-items (λ line. number_at line 0) l.sizes.bads l.bads;
    constraints = length-items (λ line. number_at line 0) l.sizes.constraints l.constraints;
  }

  pub circuit : IsCircuit (parts_in l)
  circuit =
      let t = l.sizes.top in
      let c = parts_in l in
      let first = latches_demands t (first_latch l.sizes) l.sizes.latches l.latches in
      let second = lits_demands t l.sizes.outputs l.outputs in
      let third = lits_demands t l.sizes.bads l.bads in
      let fourth = lits_demands t l.sizes.constraints l.constraints in
      let fifth = gates_demands (first_gate l.sizes) l.sizes.gates l.gates in
      let symbols = symbol_demands aig_kind l.sizes [] (symbol_lines (all_lines l.symbols)) in
      let lines = met-front (line_section_demands l) (behind_lines l) m in
      let behind = met-rest (line_section_demands l) (behind_lines l) m in
      let lines2 = met-rest first (second ++ (third ++ fourth)) lines in
      let lines3 = met-rest second (third ++ fourth) lines2 in
      let ls = right-latches t (first_latch l.sizes) l.sizes.latches l.latches (omega arith) (met-front first (second ++ (third ++ fourth)) lines) in
      let os = right-lits t l.sizes.outputs l.outputs (met-front second (third ++ fourth) lines2) in
      let bs = right-lits t l.sizes.bads l.bads (met-front third fourth lines3) in
      let cs = right-lits t l.sizes.constraints l.constraints (met-rest third fourth lines3) in
      let gs = right-gates t (first_gate l.sizes) l.sizes.gates l.gates (omega arith) (met-front fifth symbols behind) in
      let R = IsInRange t in
      let range : AllByRecursion R (literals c) = each-append R c.inputs _ (lits-range t 1 l.sizes.inputs (omega arith))
      (each-append R (latch_literals c.latches) _ ls.range (each-append R c.outputs _ os (each-append R c.bads _ bs (each-append R c.constraints (gate_literals c.gates) cs gs.range)))) in
      let used : AllByRecursion R (uses c) = each-append R (next_lits c.latches) _ ls.next (each-append R c.outputs _ os (each-append R c.bads _ bs (each-append R c.constraints (gate_inputs c.gates) cs gs.inputs))) in
      let variables : defined c ≡ map var (lits_from 1 t) = ap (map var) all_defined in
      record {
        sized = parts_sized;
        in_range = All-from_recursion R (literals c) range;
        defining = All-from_recursion IsDefining (definers c) (subst (λ (xs : List ℕ). AllByRecursion IsDefining xs) (sym all_defined) (lits-defining 1 t (omega arith)));
        once = subst (λ (xs : List ℕ). AllPairs (λ v w. v ≢ w) xs) (sym variables) (lits-apart 1 t);
        known = All-from_recursion (IsKnown c) (uses c) (each-weaker R (IsKnown c) (λ n h. known-in-range t n (defined c) variables h) (uses c) used);
        ordered = gs.ordered;
        names = right-names aig_kind l.sizes c (symbol_lines (all_lines l.symbols)) has_sizes refl (met-rest fifth symbols behind);
      }

-- a file of which all is met
pub file-circuit : (bytes : List ℕ) → first_unmet (demands bytes) ≡ None → IsCircuit (parts_in (layout_of bytes))
file-circuit bytes m =
    let header = header_demands aig_kind Binary (whole bytes) in
    let l = layout_of bytes in
    let right = met-front header (behind_header l) m in
    circuit l (header-few aig_kind Binary (whole bytes) right) (header-fits bytes right) (met-rest header (behind_header l) m)

pub file-binary : (bytes : List ℕ) → first_unmet (demands bytes) ≡ None → IsBinary (parts_in (layout_of bytes))
file-binary bytes m =
    let header = header_demands aig_kind Binary (whole bytes) in
    let l = layout_of bytes in
    let right = met-front header (behind_header l) m in
    binary l (header-few aig_kind Binary (whole bytes) right) (header-fits bytes right) (met-rest header (behind_header l) m)
