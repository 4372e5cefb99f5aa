-- Lines of latches and of literals that were written read back.
use Rattle.std.proofs.Common.{◌≡◌, ℕ, ◌+◌, ◌*◌, List, [], ◌∷◌, ◌++◌, map, drop, length, get_or, refl, sym, ap, ◌∙◌, subst, length-append, arith}
use Rattle.std.specs.List.{AllByRecursion}
use Rattle.std.proofs.lemmas.List.{length-map}
use Rattle.aig_model.specs.WellFormed.{latch_lits, left_sides, IsInRange, IsDefining}
use Rattle.aig_model.specs.declared.parts.Latch.{Latch}
use Rattle.aig_model.specs.declared.parts.AndGate.{AndGate}
use Rattle.aig_model.specs.declared.parts.Parts.{Parts}
use Rattle.aig_model.specs.declared.parts.Reset.{Reset}
use Rattle.text_words.specs.Text.{Rest, fields, next_line}
use Rattle.aig_ascii.specs.Demands.{AllMet}
use Rattle.aig_ascii.specs.Fields.{Want, wants_demands, none_demands, line_demands}
use Rattle.aig_ascii.specs.Sections.{reset_of, number_at}
use Rattle.aig_ascii.specs.CircuitText.{reset_numbers}
use Rattle.aig_ascii.proofs.FirstFaults.{met-append}
use Rattle.aig_ascii.proofs.SpelledLines.{Spell, SpellLines, Fit, numbers-are, wants-fit, none-fit}
use Rattle.aig_ascii.proofs.SpelledSections.{range-passes}
use Rattle.aig_ascii.proofs.SpelledItems.{one, fit-reset, reset-back}
use Rattle.aig_binary.specs.BinaryOrder.{lits_from, IsBinary}
use Rattle.aig_binary.specs.Kinds.{aig_kind}
use Rattle.aig_binary.specs.Sections.{lit_wants, latch_wants, latch_of, lits_demands, latches_demands, latches_of}
use Rattle.aig_binary.specs.declared.fault.AigKind.{AigKind}

-- the numbers on a line are what is wanted of it
line-met : (r : Rest) (wants : List (Want AigKind)) (ns : List ℕ) → Spell (fields r) ns → Fit wants ns → AllMet (line_demands aig_kind wants r)
line-met r wants ns spell fit =
    met-append (wants_demands aig_kind r (fields r) wants) (none_demands aig_kind (drop (length wants) (fields r))) (wants-fit aig_kind r (fields r) wants ns spell fit)
    (none-fit aig_kind (fields r) wants ns spell fit)

-- ---- literals

pub lits-met : (top : ℕ) (lits : List ℕ) (r : Rest) (rest : List ℕ) → SpellLines r (map one lits) rest → AllByRecursion (IsInRange top) lits → AllMet (lits_demands top (length lits) r)
lits-met top [] r rest spell range = tt
lits-met top (lit ∷ lits) r rest spell range =
    met-append (line_demands aig_kind (lit_wants top) r) (lits_demands top (length lits) (next_line r)) (line-met r (lit_wants top) (one lit) spell.0 ((range-passes top lit range.0, tt), tt))
    (lits-met top lits (next_line r) rest spell.1 range.1)

-- ---- latches

abbrev pub latch_numbers : Latch → List ℕ
latch_numbers l = l.next ∷ reset_numbers l.lit l.reset

pub record StandLatches (top v : ℕ) (latches : List Latch) (r : Rest) : Type 0 where
  pub met : AllMet (latches_demands top v (length latches) r)
  pub are : latches_of v (length latches) r ≡ latches

latch-back : (lit : ℕ) (l : Latch) (r : Rest) → l.lit ≡ lit → IsDefining l.lit → Spell (fields r) (latch_numbers l) → latch_of lit r ≡ l
latch-back lit l r side d spell =
    let numbers = numbers-are (fields r) (latch_numbers l) spell in
    let next : number_at r 0 ≡ l.next = ap (λ (ns : List ℕ). get_or ns 0 0) numbers in
    let reset : reset_of (number_at r 1) ≡ l.reset = ap (λ (ns : List ℕ). reset_of (get_or ns 1 0)) numbers ∙ reset-back l.lit l.reset d in
    let latch : ℕ → ℕ → Reset → Latch = λ lit next reset. record { lit = lit; next = next; reset = reset } in
    ap (λ n. latch n (number_at r 0) (reset_of (number_at r 1))) (sym side) ∙ (ap (λ n. latch l.lit n (reset_of (number_at r 1))) next ∙ ap (latch l.lit l.next) reset)

pub latches-back : (top v : ℕ) (latches : List Latch) (r : Rest) (rest : List ℕ) → SpellLines r (map latch_numbers latches) rest → latch_lits latches ≡ lits_from v (length latches)
    → AllByRecursion (λ (l : Latch). AllByRecursion (IsInRange top) (l.lit ∷ l.next ∷ [])) latches → AllByRecursion (λ (l : Latch). IsDefining l.lit) latches → StandLatches top v latches r
latches-back top v [] r rest spell sides range defining = record { met = tt; are = refl }
latches-back top v (l ∷ latches) r rest spell sides range defining =
    let side : l.lit ≡ 2 * v = cc in
    let others : latch_lits latches ≡ lits_from (v + 1) (length latches) = cc in
    let more = latches-back top (v + 1) latches (next_line r) rest spell.1 others range.1 defining.1 in
    let fit : Fit (latch_wants top (2 * v)) (latch_numbers l) = subst (λ lit. Fit (latch_wants top lit) (latch_numbers l)) side ((range-passes top l.next range.0.1.0, tt), fit-reset aig_kind l.lit l.reset) in
    record {
      met = met-append (line_demands aig_kind (latch_wants top (2 * v)) r) (latches_demands top (v + 1) (length latches) (next_line r)) (line-met r (latch_wants top (2 * v)) (latch_numbers l) spell.0 fit) more.met;
      are = ap (λ x. x ∷ latches_of (v + 1) (length latches) (next_line r)) (latch-back (2 * v) l r side defining.0 spell.0) ∙ ap (λ xs. l ∷ xs) more.are;
    }

-- ---- what stands in the binary order

lits-split : (v : ℕ) (xs ys : List ℕ) → xs ++ ys ≡ lits_from v (length (xs ++ ys)) → (xs ≡ lits_from v (length xs)) × (ys ≡ lits_from (v + length xs) (length ys))
lits-split v [] ys e = (refl, e ∙ ap (λ n. lits_from n (length ys)) (let same : v ≡ v + 0 = omega arith in same))
lits-split v (x ∷ xs) ys e =
    let first : x ≡ 2 * v = cc in
    let others : xs ++ ys ≡ lits_from (v + 1) (length (xs ++ ys)) = cc in
    let more = lits-split (v + 1) xs ys others in
    let place : v + 1 + length xs ≡ v + length (x ∷ xs) = omega arith in
    (ap (λ y. y ∷ xs) first ∙ ap (λ zs. 2 * v ∷ zs) more.0, more.1 ∙ ap (λ n. lits_from n (length ys)) place)

pub record Placed (c : Parts) : Type 0 where
  pub inputs : c.inputs ≡ lits_from 1 (length c.inputs)
  pub latches : latch_lits c.latches ≡ lits_from (1 + length c.inputs) (length c.latches)
  pub gates : left_sides c.gates ≡ lits_from (1 + length c.inputs + length c.latches) (length c.gates)
  pub top : length c.inputs + length c.latches + length c.gates ≡ c.top

pub definers-placed : (c : Parts) → IsBinary c → Placed c
definers-placed c b =
    let latches = latch_lits c.latches in
    let gates = left_sides c.gates in
    let latch_count : length latches ≡ length c.latches = length-map c.latches (λ (l : Latch). l.lit) in
    let gate_count : length gates ≡ length c.gates = length-map c.gates (λ (g : AndGate). g.lhs) in
    let first = lits-split 1 c.inputs (latches ++ gates) b.in_order in
    let second = lits-split (1 + length c.inputs) latches gates first.1 in
    record {
      inputs = first.0;
      latches = second.0 ∙ ap (lits_from (1 + length c.inputs)) latch_count;
      gates = second.1 ∙ (ap (λ n. lits_from n (length gates)) (ap (λ n. 1 + length c.inputs + n) latch_count) ∙ ap (lits_from (1 + length c.inputs + length c.latches)) gate_count);
      top = omega (arith, b.top, length-append c.inputs (latches ++ gates), length-append latches gates, latch_count, gate_count);
    }
