-- The file of a circuit in the binary order spells the circuit again.
use Rattle.std.proofs.Common.{◌≡◌, ℕ, ◌<◌, ◌≤◌, All, refl, true, codes, List, [], ◌∷◌, ◌++◌, map, length, sym, ap, ◌∙◌, subst, append_assoc, arith}
use Rattle.std.specs.List.{AllByRecursion, flat_map}
use Rattle.std.proofs.lemmas.Bool.Decides.{nat_tests}
use Rattle.std.proofs.lemmas.List.Elements.{recursion_from_All}
use Rattle.aig_model.specs.WellFormed.{definers, latch_lits, left_sides, Exists, IsInRange, IsDefining, IsCircuit}
use Rattle.aig_model.specs.declared.parts.Latch.{Latch}
use Rattle.aig_model.specs.declared.parts.AndGate.{AndGate}
use Rattle.aig_model.specs.declared.parts.Named.{Named}
use Rattle.aig_model.specs.declared.parts.Parts.{Parts}
use Rattle.text_words.specs.Text.{Rest, next_line, all_lines, whole}
use Rattle.aig_ascii.specs.Demands.{Demand, AllMet}
use Rattle.aig_ascii.specs.Header.{fits, sizes_of, header_demands}
use Rattle.aig_ascii.specs.Symbols.{symbol_lines, symbol_demands}
use Rattle.aig_ascii.specs.CircuitText.{header_numbers, lit_text, spaced, symbol_text, AreInOrder}
use Rattle.aig_ascii.specs.declared.header.Sizes.{Sizes}
use Rattle.aig_ascii.specs.declared.header.Format.TheVariants.{Binary}
use Rattle.aig_ascii.proofs.FirstFaults.{met-append}
use Rattle.aig_ascii.proofs.SpelledLines.{SpellLines, AreSmall, SmallLines, tail_of, after-line, lines-spell}
use Rattle.aig_ascii.proofs.SpelledHeader.{sizes_from, headed, small_numbers, sizes-are, header-met, magic-graphic}
use Rattle.aig_ascii.proofs.SpelledItems.{one, each-split, each-map, each-both, small-lines, small_lit, reset-small, texts-are, ranges, spell_ones, lits_back, section-after}
use Rattle.aig_ascii.proofs.SpelledSymbols.{SpellNames, names-spell, names-back, symbols-met, right-from_apart}
use Rattle.aig_ascii.proofs.WrittenBack.{with_names, circuit-again, same_parts, names-written}
use Rattle.aig_binary.specs.BinaryOrder.{IsBinary}
use Rattle.aig_binary.specs.CircuitFile.{larger_input, smaller_input, latch_line, gate_bytes, sections_bytes, parts_bytes, IsFileOf}
use Rattle.aig_binary.specs.Kinds.{aig_kind}
use Rattle.aig_binary.specs.Sections.{lits_demands, latches_demands, gates_demands}
use Rattle.aig_binary.specs.Aig.{Layout, layout_from, layout_of, first_latch, first_gate, parts_in, line_section_demands, demands, SpellsCircuit}
use Rattle.aig_binary.specs.RoundTrip.{larger_first, ReadsBack}
use Rattle.aig_binary.specs.declared.fault.AigKind.{AigKind}
use Rattle.aig_binary.proofs.LinesBack.{lits-met, latch_numbers, StandLatches, latches-back, definers-placed, Placed}
use Rattle.aig_binary.proofs.InputsBelow.{inputs-below}
use Rattle.aig_binary.proofs.GatesBack.{StandGates, gate-same, gates-back}

-- the circuit as its file spells it
abbrev spelled : Parts → Parts
spelled c = record c { gates = map larger_first c.gates }

module _ (c : Parts) (is : IsCircuit c) (b : IsBinary c) where
  order : Placed c
  order = definers-placed c b

  -- ---- the bytes from each section on
  abbrev symbols : List ℕ
  symbols = flat_map symbol_text c.names

  abbrev text_gates : List ℕ
  text_gates = flat_map gate_bytes c.gates ++ symbols

  abbrev text_constraints : List ℕ
  text_constraints = flat_map lit_text c.constraints ++ text_gates

  abbrev text_bads : List ℕ
  text_bads = flat_map lit_text c.bads ++ text_constraints

  abbrev text_outputs : List ℕ
  text_outputs = flat_map lit_text c.outputs ++ text_bads

  abbrev behind_header : List ℕ
  behind_header = sections_bytes c ++ symbols

  -- ---- the header
  split : parts_bytes c ≡ codes "aig" ++ tail_of (header_numbers c) behind_header
  split =
      append_assoc (codes "aig") (spaced (header_numbers c) ++ 10 ∷ []) behind_header
      ∙ ap (λ xs. codes "aig" ++ xs) (append_assoc (spaced (header_numbers c)) (10 ∷ []) behind_header)

  abbrev head : Rest
  head = headed Binary c is 0 behind_header

  whole_is : whole (parts_bytes c) ≡ head
  whole_is = ap (λ (bs : List ℕ). whole bs) split

  sizes_are : sizes_of (whole (parts_bytes c)) ≡ sizes_from c
  sizes_are = ap sizes_of whole_is ∙ sizes-are Binary c is 0 behind_header

  fitting : fits Binary (sizes_from c) ≡ true
  fitting = let top = order.top in grind (arith, nat_tests)

  abbrev start : Rest
  start = next_line (whole (parts_bytes c))

  begins : start.bytes ≡ behind_header
  begins =
      ap (λ (r : Rest). (next_line r).bytes) whole_is
      ∙ after-line 0 (codes "aig") (header_numbers c) behind_header (magic-graphic Binary) (small_numbers c is)

  abbrev placed : Layout
  placed = layout_from (sizes_from c) start

  layout_is : layout_of (parts_bytes c) ≡ placed
  layout_is = ap (λ (s : Sizes). layout_from s start) sizes_are

  -- ---- what the lines spell
  small_latches : SmallLines (map latch_numbers c.latches)
  small_latches =
      let P : Latch → Type 0 = λ l. AllByRecursion (IsInRange c.top) (l.lit ∷ l.next ∷ []) in
      small-lines latch_numbers c.latches
      (each-both P P (λ (l : Latch). AreSmall (latch_numbers l) × (0 < length (latch_numbers l)))
      (λ l h k. ((small_lit c.top l.next is.sized.top h.1.0, reset-small c.top l.lit l.reset is.sized.top h.0), omega arith)) c.latches (ranges c is).latches (ranges c is).latches)

  spell_latches : SpellLines placed.latches (map latch_numbers c.latches) text_outputs
  spell_latches =
      let bytes : start.bytes ≡ flat_map latch_line c.latches ++ text_outputs = begins ∙ simp append_assoc in
      lines-spell placed.latches.at (map latch_numbers c.latches) placed.latches.bytes text_outputs small_latches (bytes ∙ ap (λ xs. xs ++ text_outputs) (texts-are latch_numbers c.latches))

  spell_outputs : SpellLines placed.outputs (map one c.outputs) text_bads
  spell_outputs = spell_ones c is placed.outputs c.outputs text_bads (ranges c is).outputs (section-after latch_numbers c.latches placed.latches text_outputs spell_latches)

  spell_bads : SpellLines placed.bads (map one c.bads) text_constraints
  spell_bads = spell_ones c is placed.bads c.bads text_constraints (ranges c is).bads (section-after one c.outputs placed.outputs text_bads spell_outputs)

  spell_constraints : SpellLines placed.constraints (map one c.constraints) text_gates
  spell_constraints = spell_ones c is placed.constraints c.constraints text_gates (ranges c is).constraints (section-after one c.bads placed.bads text_constraints spell_bads)

  defining_latches : AllByRecursion (λ (l : Latch). IsDefining l.lit) c.latches
  defining_latches =
      let all = recursion_from_All IsDefining (definers c) is.defining in
      let behind = each-split IsDefining c.inputs (latch_lits c.latches ++ left_sides c.gates) all in
      each-map IsDefining (λ (l : Latch). l.lit) c.latches (each-split IsDefining (latch_lits c.latches) (left_sides c.gates) behind.1).0

  latches : StandLatches c.top (first_latch (sizes_from c)) c.latches placed.latches
  latches = latches-back c.top (first_latch (sizes_from c)) c.latches placed.latches text_outputs spell_latches order.latches (ranges c is).latches defining_latches

  -- ---- the gates
  gates : StandGates (first_gate (sizes_from c)) c.gates placed.gates symbols
  gates =
      gates-back (first_gate (sizes_from c)) c.gates placed.gates symbols order.gates (inputs-below c is b) (section-after one c.constraints placed.constraints text_gates spell_constraints)

  -- ---- the names
  names_spell : SpellNames (symbol_lines (all_lines placed.symbols)) c.names
  names_spell = names-spell placed.symbols.at c.names placed.symbols.bytes (names-written c is) gates.behind

  -- ---- the whole
  parts_placed : parts_in placed ≡ spelled c
  parts_placed =
      same_parts (spelled c) _ _ _ _ _ _ _ (sym order.inputs) latches.are (lits_back c.outputs placed.outputs text_bads spell_outputs) (lits_back c.bads placed.bads text_constraints spell_bads)
      (lits_back c.constraints placed.constraints text_gates spell_constraints) gates.are (names-back (symbol_lines (all_lines placed.symbols)) c.names names_spell)

  parts_are : parts_in (layout_of (parts_bytes c)) ≡ spelled c
  parts_are = ap parts_in layout_is ∙ parts_placed

  lines_met : AllMet (line_section_demands placed)
  lines_met =
      met-append (latches_demands c.top (first_latch (sizes_from c)) (length c.latches) placed.latches) _ latches.met
      (met-append (lits_demands c.top (length c.outputs) placed.outputs) _ (lits-met c.top c.outputs placed.outputs text_bads spell_outputs (ranges c is).outputs)
      (met-append (lits_demands c.top (length c.bads) placed.bads) (lits_demands c.top (length c.constraints) placed.constraints)
      (lits-met c.top c.bads placed.bads text_constraints spell_bads (ranges c is).bads) (lits-met c.top c.constraints placed.constraints text_gates spell_constraints (ranges c is).constraints)))

  symbols_met : AllMet (symbol_demands aig_kind placed.sizes [] (symbol_lines (all_lines placed.symbols)))
  symbols_met =
      symbols-met aig_kind (sizes_from c) [] (symbol_lines (all_lines placed.symbols)) c.names names_spell
      (right-from_apart c [] c.names (recursion_from_All (λ (n : Named). Exists c n.place) c.names is.names.exist) is.names.once)

  abbrev behind_demands : Layout → List (Demand AigKind)
  behind_demands l =
      line_section_demands l ++ (gates_demands (first_gate l.sizes) l.sizes.gates l.gates ++ symbol_demands aig_kind l.sizes [] (symbol_lines (all_lines l.symbols)))

  placed_met : AllMet (behind_demands placed)
  placed_met =
      met-append (line_section_demands placed) _ lines_met
      (met-append (gates_demands (first_gate (sizes_from c)) (length c.gates) placed.gates) (symbol_demands aig_kind placed.sizes [] (symbol_lines (all_lines placed.symbols))) gates.met symbols_met)

  all_met : AllMet (demands (parts_bytes c))
  all_met =
      met-append (header_demands aig_kind Binary (whole (parts_bytes c))) (behind_demands (layout_of (parts_bytes c)))
      (subst (λ (r : Rest). AllMet (header_demands aig_kind Binary r)) (sym whole_is) (header-met Binary c is 0 behind_header aig_kind fitting))
      (subst (λ (l : Layout). AllMet (behind_demands l)) (sym layout_is) placed_met)

  spells : SpellsCircuit (parts_bytes c) (spelled c)
  spells = record { right = all_met; parts = sym parts_are }

binary-again : (c : Parts) (names : List Named) → IsBinary c → IsBinary (with_names c names)
binary-again c names b = record { in_order = b.in_order; top = b.top }

pub reads-back : (c : Parts) (bytes : List ℕ) → IsCircuit c → IsBinary c → IsFileOf c bytes → ReadsBack c bytes
reads-back c bytes is b file = record {
  names = file.names;
  ordered = file.ordered;
  spells = subst (λ (bs : List ℕ). SpellsCircuit bs (record c { gates = map larger_first c.gates; names = file.names })) (sym file.is)
      (spells (with_names c file.names) (circuit-again c file.names is file.ordered) (binary-again c file.names b));
}

-- ---- gates whose larger input stands on the left

larger-same : (g : AndGate) → g.right ≤ g.left → larger_first g ≡ g
larger-same g h = gate-same g.lhs g.lhs (larger_input g) g.left (smaller_input g) g.right refl (omega (arith, h)) (omega (arith, h))

gates-same : (gates : List AndGate) → AllByRecursion (λ (g : AndGate). g.right ≤ g.left) gates → map larger_first gates ≡ gates
gates-same [] all = refl
gates-same (g ∷ gates) all = ap (λ x. x ∷ map larger_first gates) (larger-same g all.0) ∙ ap (λ xs. g ∷ xs) (gates-same gates all.1)

pub same-back : (c : Parts) (bytes : List ℕ) → IsCircuit c → IsBinary c → IsFileOf c bytes → All (λ (g : AndGate). g.right ≤ g.left) c.gates
    → (names : List Named) × AreInOrder c.names names × SpellsCircuit bytes (record c { names = names })
same-back c bytes is b file larger =
    let back = reads-back c bytes is b file in
    let gates = gates-same c.gates (recursion_from_All (λ (g : AndGate). g.right ≤ g.left) c.gates larger) in
    (back.names, back.ordered, subst (λ (gs : List AndGate). SpellsCircuit bytes (record c { gates = gs; names = back.names })) gates back.spells)
