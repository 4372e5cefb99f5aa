-- A circuit's text spells the circuit.
use Rattle.std.proofs.Common.{◌≡◌, ◌≢◌, ℕ, inl, inr, codes, List, [], ◌∷◌, ◌++◌, get_or, sym, ap, ◌∙◌, subst, arith, append_assoc}
use Rattle.std.specs.List.{AllByRecursion, flat_map}
use Rattle.std.proofs.lemmas.List.Elements.{recursion_from_All, All-weaker}
use Rattle.std.proofs.lemmas.List.Sorted.{All-permutation}
use Rattle.aig_model.specs.WellFormed.{definers, Exists, IsName, IsCircuit}
use Rattle.aig_model.specs.declared.parts.Latch.{Latch}
use Rattle.aig_model.specs.declared.parts.AndGate.{AndGate}
use Rattle.aig_model.specs.declared.parts.Place.{Place}
use Rattle.aig_model.specs.declared.parts.Place.TheVariants.{Input, Latch as InLatch, Output, Bad, Constraint}
use Rattle.aig_model.specs.declared.parts.Named.{Named}
use Rattle.aig_model.specs.declared.parts.Parts.{Parts}
use Rattle.gate_order.specs.GateOrder.{IsGateOrder}
use Rattle.text_words.specs.Text.{Rest, next_line, all_lines, whole}
use Rattle.aig_ascii.specs.Demands.{Demand, AllMet}
use Rattle.aig_ascii.specs.Header.{sizes_of, header_demands}
use Rattle.aig_ascii.specs.Sections.{use_demands}
use Rattle.aig_ascii.specs.Symbols.{symbol_lines, symbol_demands}
use Rattle.aig_ascii.specs.Aag.{Layout, layout_from, layout_of, parts_in, uses_in, body_demands, demands, SpellsCircuit}
use Rattle.aig_ascii.specs.declared.header.Sizes.{Sizes}
use Rattle.aig_ascii.specs.CircuitText.{header_numbers, section_of, position_of, Precedes, AreInOrder, sections_text, symbol_text, parts_text, spaced, IsTextOf}
use Rattle.aig_ascii.specs.RoundTrip.{ReadsBack}
use Rattle.aig_ascii.proofs.SpelledLines.{tail_of, after-line}
use Rattle.aig_ascii.proofs.SpelledHeader.{sizes_from, headed, small_numbers, sizes-are, header-met, fits-ascii}
use Rattle.aig_ascii.proofs.SpelledBody.{layout, behind_sections, inputs_back, latches_back, outputs_back, bads_back, constraints_back, gates_back, body_met, uses_met}
use Rattle.aig_ascii.proofs.SpelledSymbols.{SpellNames, IsWritten, names-spell, names-back, symbols-met, right-from_apart}
use Rattle.aig_ascii.proofs.NameRanks.{position_inside}
use Rattle.gate_order.proofs.OrderExists.{order_exists, acyclic_from_ordered}
use Rattle.gate_order.proofs.OrderedGates.{apart_from_defined}
use Rattle.aig_ascii.specs.Kinds.{aag_kind}
use Rattle.aig_ascii.specs.declared.fault.AagKind.{AagKind}
use Rattle.aig_ascii.specs.declared.header.Format.TheVariants.{Ascii}
use Rattle.aig_ascii.proofs.FirstFaults.{met-append}

-- ---- the circuit with its names in another order
abbrev pub with_names : Parts → List Named → Parts
with_names c names = record c { names = names }

exists-again : (c : Parts) (names : List Named) (p : Place) → Exists c p → Exists (with_names c names) p
exists-again c names (Input k) h = h
exists-again c names (InLatch k) h = h
exists-again c names (Output k) h = h
exists-again c names (Bad k) h = h
exists-again c names (Constraint k) h = h

places_differ : (p q : Place) → Precedes p q → p ≢ q
places_differ p q (inl before) same = omega (arith, before, ap section_of same)
places_differ p q (inr after) same = omega (arith, after.1, ap position_of same)

pub circuit-again : (c : Parts) (names : List Named) → IsCircuit c → AreInOrder c.names names → IsCircuit (with_names c names)
circuit-again c names is order = record {
  sized = record {
    top = is.sized.top;
    inputs = is.sized.inputs;
    latches = is.sized.latches;
    outputs = is.sized.outputs;
    bads = is.sized.bads;
    constraints = is.sized.constraints;
    gates = is.sized.gates;
  };
  in_range = is.in_range;
  defining = is.defining;
  once = is.once;
  known = is.known;
  ordered = is.ordered;
  names = record {
    exist = All-weaker (λ (n : Named). Exists c n.place) (λ (n : Named). Exists (with_names c names) n.place) (λ n h. exists-again c names n.place h) names
        (All-permutation (λ (n : Named). Exists c n.place) c.names names order.same is.names.exist);
    once = λ i j d before inside. places_differ _ _ (order.rising i j d before inside);
    forms = All-permutation (λ (n : Named). IsName n.name) c.names names order.same is.names.forms;
  };
}

-- each name can be written, with a position of 64 bits
pub names-written : (c : Parts) → IsCircuit c → AllByRecursion IsWritten c.names
names-written c is =
    recursion_from_All IsWritten c.names
    (λ k d h.
    let small = position_inside c (get_or c.names k d).place is.sized (is.names.exist k d h) in
    (is.names.forms k d h, omega (arith, small)))

-- ---- the whole text
pub same_parts : (c : Parts) (inputs : List ℕ) (latches : List Latch) (outputs bads constraints : List ℕ) (gates : List AndGate) (names : List Named)
    → inputs ≡ c.inputs → latches ≡ c.latches → outputs ≡ c.outputs → bads ≡ c.bads → constraints ≡ c.constraints → gates ≡ c.gates → names ≡ c.names
    → record { top = c.top; inputs = inputs; latches = latches; outputs = outputs; bads = bads; constraints = constraints; gates = gates; names = names } ≡ c
same_parts c inputs latches outputs bads constraints gates names first second third fourth fifth sixth seventh =
    let start : Parts = record { top = c.top; inputs = inputs; latches = latches; outputs = outputs; bads = bads; constraints = constraints; gates = gates; names = names } in
    ap (λ (xs : List ℕ). record start { inputs = xs }) first
    ∙ ap (λ (xs : List Latch). record start { inputs = c.inputs; latches = xs }) second
    ∙ ap (λ (xs : List ℕ). record start { inputs = c.inputs; latches = c.latches; outputs = xs }) third
    ∙ ap (λ (xs : List ℕ). record start { inputs = c.inputs; latches = c.latches; outputs = c.outputs; bads = xs }) fourth
    ∙ ap (λ (xs : List ℕ). record c { constraints = xs; gates = gates; names = names }) fifth
    ∙ ap (λ (xs : List AndGate). record c { gates = xs; names = names }) sixth
    ∙ ap (λ (xs : List Named). record c { names = xs }) seventh

module _ (c : Parts) (is : IsCircuit c) where
  abbrev text : List ℕ
  text = parts_text c

  abbrev symbols : List ℕ
  symbols = flat_map symbol_text c.names

  abbrev behind_header : List ℕ
  behind_header = sections_text c ++ symbols

  split : text ≡ codes "aag" ++ tail_of (header_numbers c) behind_header
  split =
      append_assoc (codes "aag") (spaced (header_numbers c) ++ 10 ∷ []) behind_header
      ∙ ap (λ xs. codes "aag" ++ xs) (append_assoc (spaced (header_numbers c)) (10 ∷ []) behind_header)

  abbrev head : Rest
  head = headed Ascii c is 0 behind_header

  whole_is : whole text ≡ head
  whole_is = ap (λ (bs : List ℕ). whole bs) split

  sizes_are : sizes_of (whole text) ≡ sizes_from c
  sizes_are = ap sizes_of whole_is ∙ sizes-are Ascii c is 0 behind_header

  abbrev start : Rest
  start = next_line (whole text)

  begins : start.bytes ≡ behind_header
  begins =
      ap (λ (r : Rest). (next_line r).bytes) whole_is
      ∙ after-line 0 (codes "aag") (header_numbers c) behind_header (omega arith, (omega arith, (omega arith, tt))) (small_numbers c is)

  abbrev placed : Layout
  placed = layout c is start symbols begins

  layout_is : layout_of text ≡ placed
  layout_is = ap (λ (s : Sizes). layout_from s start) sizes_are

  lines_spell : SpellNames (symbol_lines (all_lines placed.symbols)) c.names
  lines_spell = names-spell placed.symbols.at c.names placed.symbols.bytes (names-written c is) (behind_sections c is start symbols begins)

  parts_placed : parts_in placed ≡ c
  parts_placed =
      same_parts c _ _ _ _ _ _ _ (inputs_back c is start symbols begins) (latches_back c is start symbols begins) (outputs_back c is start symbols begins) (bads_back c is start symbols begins)
      (constraints_back c is start symbols begins) (gates_back c is start symbols begins) (names-back (symbol_lines (all_lines placed.symbols)) c.names lines_spell)

  parts_are : parts_in (layout_of text) ≡ c
  parts_are = ap parts_in layout_is ∙ parts_placed

  symbols_met : AllMet (symbol_demands aag_kind placed.sizes [] (symbol_lines (all_lines placed.symbols)))
  symbols_met =
      symbols-met aag_kind (sizes_from c) [] (symbol_lines (all_lines placed.symbols)) c.names lines_spell
      (right-from_apart c [] c.names (recursion_from_All (λ (n : Named). Exists c n.place) c.names is.names.exist) is.names.once)

  abbrev demands_at : Layout → List (Demand AagKind)
  demands_at l = body_demands l ++ (symbol_demands aag_kind l.sizes [] (symbol_lines (all_lines l.symbols)) ++ use_demands (definers (parts_in l)) (uses_in l))

  placed_met : AllMet (demands_at placed)
  placed_met =
      met-append (body_demands placed) (symbol_demands aag_kind placed.sizes [] (symbol_lines (all_lines placed.symbols)) ++ use_demands (definers (parts_in placed)) (uses_in placed))
      (body_met c is start symbols begins)
      (met-append (symbol_demands aag_kind placed.sizes [] (symbol_lines (all_lines placed.symbols))) (use_demands (definers (parts_in placed)) (uses_in placed)) symbols_met
      (subst (λ (p : Parts). AllMet (use_demands (definers p) (uses_in placed))) (sym parts_placed) (uses_met c is start symbols begins)))

  all_met : AllMet (demands text)
  all_met =
      met-append (header_demands aag_kind Ascii (whole text)) (demands_at (layout_of text))
      (subst (λ (r : Rest). AllMet (header_demands aag_kind Ascii r)) (sym whole_is) (header-met Ascii c is 0 behind_header aag_kind (fits-ascii c is)))
      (subst (λ (l : Layout). AllMet (demands_at l)) (sym layout_is) placed_met)

  spells : (gates : List AndGate) → IsGateOrder c.gates gates → SpellsCircuit text (record c { gates = gates })
  spells gates order = record {
    right = all_met;
    gates = gates;
    ordered = subst (λ (p : Parts). IsGateOrder p.gates gates) (sym parts_are) order;
    parts = ap (λ (p : Parts). record p { gates = gates }) (sym parts_are);
  }

pub reads_back : (c : Parts) (text : List ℕ) → IsCircuit c → IsTextOf c text → ReadsBack c text
reads_back c bytes is of =
    let found = order_exists c.gates (apart_from_defined c is.defining is.once) (acyclic_from_ordered c.gates is.ordered) in
    record {
      names = of.names;
      ordered = of.ordered;
      gates = found.ordered;
      in_order = found.order;
      spells = subst (λ (bs : List ℕ). SpellsCircuit bs (record c { gates = found.ordered; names = of.names })) (sym of.is)
          (spells (with_names c of.names) (circuit-again c of.names is of.ordered) found.ordered found.order);
    }
