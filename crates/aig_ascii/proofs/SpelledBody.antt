-- The sections of a circuit's text: they spell the circuit, and all that is asked of them is met.
use Rattle.std.proofs.Common.{◌≡◌, ◌≢◌, ℕ, ◌+◌, ◌<◌, ◌≤◌, IsTrue, List, [], ◌∷◌, ◌++◌, map, length, get_or, refl, sym, ap, ◌∙◌, subst, arith, AllPairs, Contains, append_assoc}
use Rattle.std.specs.List.{AllByRecursion, flat_map}
use Rattle.std.proofs.lemmas.List.{length-map, length-append, get_or_append_left, get_or_at, append-nil, map-append}
use Rattle.std.proofs.lemmas.List.Elements.{recursion_from_All}
use Rattle.aig_model.specs.Literal.{var}
use Rattle.aig_model.specs.WellFormed.{latch_lits, next_lits, left_sides, gate_inputs, definers, uses, limit, IsInRange, IsDefining, IsKnown, IsCircuit}
use Rattle.aig_model.specs.declared.parts.Latch.{Latch}
use Rattle.aig_model.specs.declared.parts.AndGate.{AndGate}
use Rattle.aig_model.specs.declared.parts.Reset.{Reset}
use Rattle.aig_model.specs.declared.parts.Parts.{Parts}
use Rattle.text_words.specs.Text.{Rest, lines_of, number}
use Rattle.aig_ascii.specs.Demands.{Demand, AllMet}
use Rattle.aig_ascii.specs.Sections.{is_known, Form, section_demands, section_uses, use_demands, reset_of, latch_of, gate_of, lits_of}
use Rattle.aig_ascii.specs.Sections.Form.{input, latch, plain, gate}
use Rattle.aig_ascii.specs.Aag.{Layout, layout_from, body_demands, uses_in}
use Rattle.aig_ascii.specs.CircuitText.{reset_numbers, lit_text, latch_text, gate_text, sections_text}
use Rattle.aig_ascii.proofs.SpelledLines.{SpellLines, SmallLines, AreSmall, lines-spell}
use Rattle.aig_ascii.proofs.SpelledItems.{first_number, each-split, each-map, one, latch_numbers, gate_numbers, texts-are, each-always, each-both, small-lines, small_lit, reset-small, fit-reset, reset-back, section-items, section-mapped, section-after, ranges, spell_ones, lits_back}
use Rattle.aig_ascii.proofs.SpelledSections.{SectionFits, section-met, used_for, section-uses_numbers, uses-met, known-true, range-passes, new-passes}
use Rattle.aig_ascii.proofs.SpelledHeader.{sizes_from}
use Rattle.aig_ascii.specs.Kinds.{aag_kind}
use Rattle.aig_ascii.specs.declared.fault.AagKind.{AagKind}
use Rattle.aig_ascii.proofs.FirstFaults.{met-append}

-- ---- literals that define new variables, one after another
abbrev pub New : List ℕ → List ℕ → Type 0
New earlier [] = Unit {0}
New earlier (lit ∷ lits) = (¬ Contains (map var earlier) (var lit)) × New (earlier ++ lit ∷ []) lits

new-from_apart : (earlier lits : List ℕ) → AllPairs (λ v w. v ≢ w) (map var (earlier ++ lits)) → New earlier lits
new-from_apart earlier [] apart = tt
new-from_apart earlier (lit ∷ lits) apart = (
  λ found.
      let all = earlier ++ lit ∷ lits in
      let i : found.0 < length earlier = omega (arith, found.1, length-map earlier var) in
      let v = var lit in
      let size : length (map var all) ≡ length earlier + length (lit ∷ lits) = length-map all var ∙ length-append earlier (lit ∷ lits) in
      let first : get_or (map var all) found.0 v ≡ v =
      ap (λ xs. get_or xs found.0 v) (map-append var earlier (lit ∷ lits))
      ∙ (get_or_append_left (map var earlier) (map var (lit ∷ lits)) v found.0 found.1 ∙ found.2)
      in
      let second : get_or (map var all) (length earlier) v ≡ v =
      ap (λ xs. get_or xs (length earlier) v) (map-append var earlier (lit ∷ lits))
      ∙ get_or_at (map var earlier) (var lit) (map var lits) v (length earlier) (length-map earlier var)
      in
      apart found.0 (length earlier) v i (omega (arith, size)) (first ∙ sym second),
  new-from_apart (earlier ++ lit ∷ []) lits (subst (λ (xs : List ℕ). AllPairs (λ v w. v ≢ w) (map var xs)) (sym (append_assoc earlier (lit ∷ []) lits)) apart),
)

new-split : (earlier xs ys : List ℕ) → New earlier (xs ++ ys) → New earlier xs × New (earlier ++ xs) ys
new-split earlier [] ys new = (tt, subst (λ (es : List ℕ). New es ys) (sym (append-nil earlier)) new)
new-split earlier (x ∷ xs) ys new =
    let parts = new-split (earlier ++ x ∷ []) xs ys new.1 in
    ((new.0, parts.0), subst (λ (es : List ℕ). New es ys) (append_assoc earlier (x ∷ []) xs) parts.1)

-- ---- lines that are as wanted
fit-inputs : (top : ℕ) (earlier lits : List ℕ) → AllByRecursion (IsInRange top) lits → AllByRecursion IsDefining lits → New earlier lits → SectionFits input top earlier (map one lits)
fit-inputs top earlier [] range defining new = tt
fit-inputs top earlier (lit ∷ lits) range defining new = (
  ((range-passes top lit range.0, (new-passes earlier lit defining.0.even defining.0.positive new.0, tt)), tt),
  fit-inputs top (earlier ++ lit ∷ []) lits range.1 defining.1 new.1,
)

fit-plain : (top : ℕ) (earlier lits : List ℕ) → AllByRecursion (IsInRange top) lits → SectionFits plain top earlier (map one lits)
fit-plain top earlier [] range = tt
fit-plain top earlier (lit ∷ lits) range = (
  ((range-passes top lit range.0, tt), tt),
  subst (λ (es : List ℕ). SectionFits plain top es (map one lits)) (sym (append-nil earlier)) (fit-plain top earlier lits range.1),
)

fit-latches : (top : ℕ) (earlier : List ℕ) (latches : List Latch) → AllByRecursion (λ (l : Latch). AllByRecursion (IsInRange top) (l.lit ∷ l.next ∷ [])) latches
    → AllByRecursion (λ (l : Latch). IsDefining l.lit) latches → New earlier (latch_lits latches) → SectionFits latch top earlier (map latch_numbers latches)
fit-latches top earlier [] range defining new = tt
fit-latches top earlier (l ∷ latches) range defining new = (
  (
    (range-passes top l.lit range.0.0, (new-passes earlier l.lit defining.0.even defining.0.positive new.0, tt)),
    ((range-passes top l.next range.0.1.0, tt), fit-reset aag_kind l.lit l.reset),
  ),
  fit-latches top (earlier ++ l.lit ∷ []) latches range.1 defining.1 new.1,
)

fit-gates : (top : ℕ) (earlier : List ℕ) (gates : List AndGate) → AllByRecursion (λ (g : AndGate). AllByRecursion (IsInRange top) (gate_numbers g)) gates
    → AllByRecursion (λ (g : AndGate). IsDefining g.lhs) gates → New earlier (left_sides gates) → SectionFits gate top earlier (map gate_numbers gates)
fit-gates top earlier [] range defining new = tt
fit-gates top earlier (g ∷ gates) range defining new = (
  (
    (range-passes top g.lhs range.0.0, (new-passes earlier g.lhs defining.0.even defining.0.positive new.0, tt)),
    ((range-passes top g.left range.0.1.0, tt), ((range-passes top g.right range.0.1.1.0, tt), tt)),
  ),
  fit-gates top (earlier ++ g.lhs ∷ []) gates range.1 defining.1 new.1,
)

-- ---- items that read back
abbrev latch_by : List ℕ → Latch
latch_by ns = record { lit = get_or ns 0 0; next = get_or ns 1 0; reset = reset_of (get_or ns 2 0) }

abbrev gate_by : List ℕ → AndGate
gate_by ns = record { lhs = get_or ns 0 0; left = get_or ns 1 0; right = get_or ns 2 0 }

latch-back : (lit next : ℕ) (reset : Reset) → IsDefining lit → latch_by (lit ∷ next ∷ reset_numbers lit reset) ≡ record { lit = lit; next = next; reset = reset }
latch-back lit next reset d = ap (λ (r : Reset). record { lit = lit; next = next; reset = r }) (reset-back lit reset d)

-- ---- one section
module _ {A : Type 0} (g : A → List ℕ) (xs : List A) (r : Rest) (rest : List ℕ) (spell : SpellLines r (map g xs) rest) where
  pub section-right : (form : Form) (top : ℕ) (earlier : List ℕ) → SectionFits form top earlier (map g xs) → AllMet (section_demands form (length xs) top earlier r)
  section-right form top earlier fit =
      subst (λ (n : ℕ). AllMet (section_demands form n top earlier r)) (length-map xs g) (section-met form top earlier r (map g xs) rest spell fit)

  pub section-used : (form : Form) → map number (section_uses form (length xs) r) ≡ flat_map (used_for form) (map g xs)
  section-used form =
      subst (λ (n : ℕ). map number (section_uses form n r) ≡ flat_map (used_for form) (map g xs)) (length-map xs g) (section-uses_numbers form r (map g xs) rest spell)

-- ---- what the lines use
lits-firsts : (latches : List Latch) → map first_number (map latch_numbers latches) ≡ latch_lits latches
lits-firsts [] = refl
lits-firsts (l ∷ latches) = ap (λ ls. l.lit ∷ ls) (lits-firsts latches)

nexts-used : (latches : List Latch) → flat_map (used_for latch) (map latch_numbers latches) ≡ next_lits latches
nexts-used [] = refl
nexts-used (l ∷ latches) = ap (λ ls. l.next ∷ ls) (nexts-used latches)

lits-used : (lits : List ℕ) → flat_map (used_for plain) (map one lits) ≡ lits
lits-used [] = refl
lits-used (lit ∷ lits) = ap (λ ls. lit ∷ ls) (lits-used lits)

inputs-used : (gates : List AndGate) → flat_map (used_for gate) (map gate_numbers gates) ≡ gate_inputs gates
inputs-used [] = refl
inputs-used (g ∷ gates) = ap (λ ls. g.left ∷ g.right ∷ ls) (inputs-used gates)

five_maps : (a b c d e : List Rest) (A B C D E : List ℕ) → map number a ≡ A → map number b ≡ B → map number c ≡ C → map number d ≡ D → map number e ≡ E
    → map number (a ++ (b ++ (c ++ (d ++ e)))) ≡ A ++ (B ++ (C ++ (D ++ E)))
five_maps a b c d e A B C D E first second third fourth fifth =
    map-append number a (b ++ (c ++ (d ++ e)))
    ∙ (ap (λ xs. xs ++ map number (b ++ (c ++ (d ++ e)))) first
    ∙ ap (λ xs. A ++ xs) (map-append number b (c ++ (d ++ e))
    ∙ (ap (λ xs. xs ++ map number (c ++ (d ++ e))) second
    ∙ ap (λ xs. B ++ xs) (map-append number c (d ++ e)
    ∙ (ap (λ xs. xs ++ map number (d ++ e)) third
    ∙ ap (λ xs. C ++ xs) (map-append number d e ∙ (ap (λ xs. xs ++ map number e) fourth ∙ ap (λ xs. D ++ xs) fifth)))))))

-- ---- the sections of a circuit
module _ (c : Parts) (is : IsCircuit c) (start : Rest) (behind : List ℕ) (begins : start.bytes ≡ sections_text c ++ behind) where
  record Definers : Type 0 where
    inputs : AllByRecursion IsDefining c.inputs
    latches : AllByRecursion (λ (l : Latch). IsDefining l.lit) c.latches
    gates : AllByRecursion (λ (g : AndGate). IsDefining g.lhs) c.gates
    new_inputs : New [] c.inputs
    new_latches : New c.inputs (latch_lits c.latches)
    new_gates : New (c.inputs ++ latch_lits c.latches) (left_sides c.gates)

  defining : Definers
  defining =
      let all = recursion_from_All IsDefining (definers c) is.defining in
      let a = each-split IsDefining c.inputs (latch_lits c.latches ++ left_sides c.gates) all in
      let b = each-split IsDefining (latch_lits c.latches) (left_sides c.gates) a.1 in
      let m = new-split [] c.inputs (latch_lits c.latches ++ left_sides c.gates) (new-from_apart [] (definers c) is.once) in
      let n = new-split c.inputs (latch_lits c.latches) (left_sides c.gates) m.1 in
      record {
        inputs = a.0;
        latches = each-map IsDefining (λ (l : Latch). l.lit) c.latches b.0;
        gates = each-map IsDefining (λ (g : AndGate). g.lhs) c.gates b.1;
        new_inputs = m.0;
        new_latches = n.0;
        new_gates = n.1;
      }

  -- ---- numbers are small
  few : c.top ≤ limit
  few = is.sized.top

  small_latches : SmallLines (map latch_numbers c.latches)
  small_latches =
      let P : Latch → Type 0 = λ l. AllByRecursion (IsInRange c.top) (l.lit ∷ l.next ∷ []) in
      small-lines latch_numbers c.latches
      (each-both P P (λ (l : Latch). AreSmall (latch_numbers l) × (0 < length (latch_numbers l)))
      (λ l h k. ((small_lit c.top l.lit few h.0, (small_lit c.top l.next few h.1.0, reset-small c.top l.lit l.reset few h.0)), omega arith)) c.latches (ranges c is).latches (ranges c is).latches)

  small_gates : SmallLines (map gate_numbers c.gates)
  small_gates =
      let P : AndGate → Type 0 = λ g. AllByRecursion (IsInRange c.top) (gate_numbers g) in
      small-lines gate_numbers c.gates
      (each-both P P (λ (g : AndGate). AreSmall (gate_numbers g) × (0 < length (gate_numbers g)))
      (λ g h k. ((small_lit c.top g.lhs few h.0, (small_lit c.top g.left few h.1.0, (small_lit c.top g.right few h.1.1.0, tt))), omega arith)) c.gates (ranges c is).gates (ranges c is).gates)

  -- ---- the texts behind each section
  abbrev text_gates : List ℕ
  text_gates = flat_map gate_text c.gates ++ behind

  abbrev text_constraints : List ℕ
  text_constraints = flat_map lit_text c.constraints ++ text_gates

  abbrev text_bads : List ℕ
  text_bads = flat_map lit_text c.bads ++ text_constraints

  abbrev text_outputs : List ℕ
  text_outputs = flat_map lit_text c.outputs ++ text_bads

  abbrev text_latches : List ℕ
  text_latches = flat_map latch_text c.latches ++ text_outputs

  text_whole : start.bytes ≡ flat_map lit_text c.inputs ++ text_latches
  text_whole = begins ∙ simp append_assoc

  -- ---- where they begin
  abbrev pub layout : Layout
  layout = layout_from (sizes_from c) start

  spell_inputs : SpellLines layout.inputs (map one c.inputs) text_latches
  spell_inputs = spell_ones c is layout.inputs c.inputs text_latches (ranges c is).inputs text_whole

  spell_latches : SpellLines layout.latches (map latch_numbers c.latches) text_outputs
  spell_latches =
      lines-spell layout.latches.at (map latch_numbers c.latches) layout.latches.bytes text_outputs small_latches
      (section-after one c.inputs layout.inputs text_latches spell_inputs ∙ ap (λ xs. xs ++ text_outputs) (texts-are latch_numbers c.latches))

  spell_outputs : SpellLines layout.outputs (map one c.outputs) text_bads
  spell_outputs = spell_ones c is layout.outputs c.outputs text_bads (ranges c is).outputs (section-after latch_numbers c.latches layout.latches text_outputs spell_latches)

  spell_bads : SpellLines layout.bads (map one c.bads) text_constraints
  spell_bads = spell_ones c is layout.bads c.bads text_constraints (ranges c is).bads (section-after one c.outputs layout.outputs text_bads spell_outputs)

  spell_constraints : SpellLines layout.constraints (map one c.constraints) text_gates
  spell_constraints = spell_ones c is layout.constraints c.constraints text_gates (ranges c is).constraints (section-after one c.bads layout.bads text_constraints spell_bads)

  spell_gates : SpellLines layout.gates (map gate_numbers c.gates) behind
  spell_gates =
      lines-spell layout.gates.at (map gate_numbers c.gates) layout.gates.bytes behind small_gates
      (section-after one c.constraints layout.constraints text_gates spell_constraints ∙ ap (λ xs. xs ++ behind) (texts-are gate_numbers c.gates))

  pub behind_sections : layout.symbols.bytes ≡ behind
  behind_sections = section-after gate_numbers c.gates layout.gates behind spell_gates

  -- ---- what they spell
  pub inputs_back : lits_of (length c.inputs) layout.inputs ≡ c.inputs
  inputs_back = lits_back c.inputs layout.inputs text_latches spell_inputs

  pub latches_back : map latch_of (lines_of (length c.latches) layout.latches) ≡ c.latches
  latches_back =
      let P : Latch → Type 0 = λ l. IsDefining l.lit in
      section-items latch_numbers c.latches layout.latches text_outputs spell_latches latch_by
      (each-both P P (λ (l : Latch). latch_by (latch_numbers l) ≡ l) (λ l d e. latch-back l.lit l.next l.reset d) c.latches defining.latches defining.latches)

  pub outputs_back : lits_of (length c.outputs) layout.outputs ≡ c.outputs
  outputs_back = lits_back c.outputs layout.outputs text_bads spell_outputs

  pub bads_back : lits_of (length c.bads) layout.bads ≡ c.bads
  bads_back = lits_back c.bads layout.bads text_constraints spell_bads

  pub constraints_back : lits_of (length c.constraints) layout.constraints ≡ c.constraints
  constraints_back = lits_back c.constraints layout.constraints text_gates spell_constraints

  pub gates_back : map gate_of (lines_of (length c.gates) layout.gates) ≡ c.gates
  gates_back = section-items gate_numbers c.gates layout.gates behind spell_gates gate_by (each-always (λ (g : AndGate). gate_by (gate_numbers g) ≡ g) (λ g. refl) c.gates)

  latch_lits_back : lits_of (length c.latches) layout.latches ≡ latch_lits c.latches
  latch_lits_back = section-mapped latch_numbers c.latches layout.latches text_outputs spell_latches first_number (latch_lits c.latches) (lits-firsts c.latches)

  -- ---- what is asked of them
  abbrev demands_with : List ℕ → List ℕ → List (Demand AagKind)
  demands_with inputs both =
      section_demands input (length c.inputs) c.top [] layout.inputs
      ++ (section_demands latch (length c.latches) c.top inputs layout.latches
      ++ (section_demands plain (length c.outputs) c.top both layout.outputs
      ++ (section_demands plain (length c.bads) c.top both layout.bads
      ++ (section_demands plain (length c.constraints) c.top both layout.constraints
      ++ section_demands gate (length c.gates) c.top both layout.gates))))

  sections_met : AllMet (demands_with c.inputs (c.inputs ++ latch_lits c.latches))
  sections_met =
      let both = c.inputs ++ latch_lits c.latches in
      met-append _ _ (section-right one c.inputs layout.inputs text_latches spell_inputs input c.top [] (fit-inputs c.top [] c.inputs (ranges c is).inputs defining.inputs defining.new_inputs))
      (met-append _ _
      (section-right latch_numbers c.latches layout.latches text_outputs spell_latches latch c.top c.inputs
      (fit-latches c.top c.inputs c.latches (ranges c is).latches defining.latches defining.new_latches))
      (met-append _ _ (section-right one c.outputs layout.outputs text_bads spell_outputs plain c.top both (fit-plain c.top both c.outputs (ranges c is).outputs))
      (met-append _ _ (section-right one c.bads layout.bads text_constraints spell_bads plain c.top both (fit-plain c.top both c.bads (ranges c is).bads))
      (met-append _ _ (section-right one c.constraints layout.constraints text_gates spell_constraints plain c.top both (fit-plain c.top both c.constraints (ranges c is).constraints))
      (section-right gate_numbers c.gates layout.gates behind spell_gates gate c.top both (fit-gates c.top both c.gates (ranges c is).gates defining.gates defining.new_gates))))))

  pub body_met : AllMet (body_demands layout)
  body_met =
      subst (λ (inputs : List ℕ). AllMet (demands_with inputs (inputs ++ lits_of (length c.latches) layout.latches))) (sym inputs_back)
      (subst (λ (latches : List ℕ). AllMet (demands_with c.inputs (c.inputs ++ latches))) (sym latch_lits_back) sections_met)

  uses_back : map number (uses_in layout) ≡ uses c
  uses_back =
      five_maps (section_uses latch (length c.latches) layout.latches) (section_uses plain (length c.outputs) layout.outputs) (section_uses plain (length c.bads) layout.bads)
      (section_uses plain (length c.constraints) layout.constraints) (section_uses gate (length c.gates) layout.gates) (next_lits c.latches) c.outputs c.bads c.constraints (gate_inputs c.gates)
      (section-used latch_numbers c.latches layout.latches text_outputs spell_latches latch ∙ nexts-used c.latches)
      (section-used one c.outputs layout.outputs text_bads spell_outputs plain ∙ lits-used c.outputs)
      (section-used one c.bads layout.bads text_constraints spell_bads plain ∙ lits-used c.bads)
      (section-used one c.constraints layout.constraints text_gates spell_constraints plain ∙ lits-used c.constraints)
      (section-used gate_numbers c.gates layout.gates behind spell_gates gate ∙ inputs-used c.gates)

  pub uses_met : AllMet (use_demands (definers c) (uses_in layout))
  uses_met =
      let known = recursion_from_All (IsKnown c) (uses c) is.known in
      let right = each-both (IsKnown c) (IsKnown c) (λ lit. IsTrue (is_known (definers c) lit)) (λ lit h k. known-true (definers c) lit h) (uses c) known known in
      uses-met (definers c) (uses_in layout) (subst (λ (lits : List ℕ). AllByRecursion (λ lit. IsTrue (is_known (definers c) lit)) lits) (sym uses_back) right)
