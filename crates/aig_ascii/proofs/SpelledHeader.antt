-- The header of a text that was written.
use Rattle.std.proofs.Common.{◌≡◌, ℕ, suc, inl, inr, ◌+◌, ◌<◌, ◌≤◌, Bool, true, false, cond, IsTrue, nat_eq, nat_le, List, [], ◌∷◌, ◌++◌, length, get_or, drop, refl, sym, ap, ◌∙◌, subst, arith, All, length-append}
use Rattle.std.specs.List.{AllByRecursion, starts_with}
use Rattle.std.proofs.lemmas.Bool.{cases_eq}
use Rattle.std.proofs.lemmas.Bool.Decides.{nat_tests}
use Rattle.std.proofs.lemmas.List.{length-map}
use Rattle.std.proofs.lemmas.List.Elements.{All-tail, All-weaker, All-map, All-cons, All-nil, All-head, All-append}
use Rattle.aig_model.proofs.Elements.{All-left, All-right}
use Rattle.aig_model.specs.Literal.{var}
use Rattle.aig_model.specs.WellFormed.{limit, latch_lits, left_sides, definers, defined, latch_literals, gate_literals, IsInRange, IsDefining, IsCircuit}
use Rattle.aig_model.specs.declared.parts.Latch.{Latch}
use Rattle.aig_model.specs.declared.parts.AndGate.{AndGate}
use Rattle.aig_model.specs.declared.parts.Parts.{Parts}
use Rattle.text_words.specs.Text.{Rest, later_fields}
use Rattle.aig_ascii.specs.Demands.{AllMet}
use Rattle.aig_ascii.specs.Fields.{Want, optional, wants_demands}
use Rattle.aig_ascii.specs.Header.{header_fields, sizes_in, within_limit, no_liveness, header_wants, magic_of, fits, header_demands}
use Rattle.aig_ascii.specs.declared.header.Format.{Format}
use Rattle.aig_ascii.specs.declared.header.Format.TheVariants.{Ascii, Binary}
use Rattle.aig_ascii.specs.declared.fault.SharedKind.{SharedKind}
use Rattle.aig_ascii.specs.declared.header.Sizes.{Sizes}
use Rattle.aig_ascii.specs.CircuitText.{last_sizes, header_numbers}
use Rattle.gate_order.specs.PlaceOrder.{times}
use Rattle.gate_order.proofs.Times.{times-cons, times-from_apart, All-times, equal_number, few_below}
use Rattle.aig_ascii.proofs.SpelledLines.{IsGraphic, Spell, AreSmall, Fit, tail_of, behind-spell, numbers-are, wants-fit, none-fit}
use Rattle.aig_ascii.proofs.FirstFaults.{met-append}

-- the literals that define are among the literals
lits-among : (P : ℕ → Type 0) (latches : List Latch) → All P (latch_literals latches) → All P (latch_lits latches)
lits-among P [] all = All-nil P
lits-among P (l ∷ latches) all =
    All-cons P l.lit (latch_lits latches) (All-head P l.lit (l.next ∷ latch_literals latches) all)
    (lits-among P latches (All-tail P l.next (latch_literals latches) (All-tail P l.lit (l.next ∷ latch_literals latches) all)))

sides-among : (P : ℕ → Type 0) (gates : List AndGate) → All P (gate_literals gates) → All P (left_sides gates)
sides-among P [] all = All-nil P
sides-among P (g ∷ gates) all =
    All-cons P g.lhs (left_sides gates) (All-head P g.lhs (g.left ∷ g.right ∷ gate_literals gates) all)
    (sides-among P gates (All-tail P g.right (gate_literals gates) (All-tail P g.left (g.right ∷ gate_literals gates) (All-tail P g.lhs (g.left ∷ g.right ∷ gate_literals gates) all))))

definers_inside : (c : Parts) → IsCircuit c → All (IsInRange c.top) (definers c)
definers_inside c is =
    let P = IsInRange c.top in
    let gates = gate_literals c.gates in
    let behind_latches = c.outputs ++ (c.bads ++ (c.constraints ++ gates)) in
    let behind = All-right P c.inputs (latch_literals c.latches ++ behind_latches) is.in_range in
    let last = All-right P c.constraints gates (All-right P c.bads (c.constraints ++ gates) (All-right P c.outputs (c.bads ++ (c.constraints ++ gates)) (All-right P (latch_literals c.latches) behind_latches behind))) in
    All-append P c.inputs (latch_lits c.latches ++ left_sides c.gates) (All-left P c.inputs (latch_literals c.latches ++ behind_latches) is.in_range)
    (All-append P (latch_lits c.latches) (left_sides c.gates) (lits-among P c.latches (All-left P (latch_literals c.latches) behind_latches behind)) (sides-among P c.gates last))

-- a circuit has no more inputs, latches and gates than variables
pub few_definers : (c : Parts) → IsCircuit c → length c.inputs + length c.latches + length c.gates ≤ c.top
few_definers c is =
    let inside : All (IsInRange c.top) (definers c) = definers_inside c is in
    let positive : All (λ v. 0 < v) (defined c) = All-map (λ v. 0 < v) var (definers c) (All-weaker IsDefining (λ lit. 0 < var lit) (λ lit d. omega (arith, d.positive)) (definers c) is.defining) in
    let below : All (λ v. v < suc c.top) (defined c) = All-map (λ v. v < suc c.top) var (definers c) (All-weaker (IsInRange c.top) (λ lit. var lit < suc c.top) (λ lit h. omega (arith, h)) (definers c) inside) in
    let once : (n : ℕ) → times n (0 ∷ defined c) ≤ 1 =
    λ n.
    elim (equal_number 0 n) [
      | inl e ↦ elim (cases_eq (times n (defined c)) 0) [
        | inl none ↦ omega (arith, times-cons n 0 (defined c), e.1, none)
        | inr some ↦ absurd (omega (arith, e.0, All-times (λ v. 0 < v) n (defined c) positive (omega (arith, some))))
      ]
      | inr ne ↦ omega (arith, times-cons n 0 (defined c), ne.1, times-from_apart (defined c) is.once n)
    ]
    in
    let few : length (0 ∷ defined c) ≤ suc c.top = few_below (suc c.top) (0 ∷ defined c) once (All-cons (λ v. v < suc c.top) 0 (defined c) (omega arith) below) in
    let size : length (defined c) ≡ length c.inputs + (length c.latches + length c.gates) =
    length-map (definers c) var
    ∙ (length-append c.inputs (latch_lits c.latches ++ left_sides c.gates)
    ∙ ap (λ n. length c.inputs + n) (length-append (latch_lits c.latches) (left_sides c.gates)
    ∙ (ap (λ n. n + length (left_sides c.gates)) (length-map c.latches (λ (l : Latch). l.lit)) ∙ ap (λ n. length c.latches + n) (length-map c.gates (λ (g : AndGate). g.lhs)))))
    in
    omega (arith, few, size)

-- ---- the last sizes
abbrev last_wants : {K : Type 0} → (SharedKind → K) → List (Want K)
last_wants kind =
    optional (within_limit kind ∷ [])
    ∷ optional (within_limit kind ∷ [])
    ∷ optional (within_limit kind ∷ no_liveness kind ∷ [])
    ∷ optional (within_limit kind ∷ no_liveness kind ∷ [])
    ∷ []

module _ (bads constraints : ℕ) where
  last-first : get_or (last_sizes bads constraints) 0 0 ≡ bads
  last-first = by_tests (nat_eq constraints 0) (nat_eq bads 0) refl
    where
      by_tests : (s t : Bool) → nat_eq bads 0 ≡ t → get_or (cond s (cond t [] (bads ∷ [])) (bads ∷ constraints ∷ [])) 0 0 ≡ bads
      by_tests true true e = grind (arith, nat_tests)
      by_tests true false e = refl
      by_tests false true e = refl
      by_tests false false e = refl

  last-second : get_or (last_sizes bads constraints) 1 0 ≡ constraints
  last-second = by_tests (nat_eq constraints 0) (nat_eq bads 0) refl
    where
      by_tests : (s t : Bool) → nat_eq constraints 0 ≡ s → get_or (cond s (cond t [] (bads ∷ [])) (bads ∷ constraints ∷ [])) 1 0 ≡ constraints
      by_tests true true e = grind (arith, nat_tests)
      by_tests true false e = grind (arith, nat_tests)
      by_tests false true e = refl
      by_tests false false e = refl

  last-fit : {K : Type 0} (kind : SharedKind → K) → bads ≤ limit → constraints ≤ limit → Fit (last_wants kind) (last_sizes bads constraints)
  last-fit kind few_bads few_constraints = by_tests (nat_eq constraints 0) (nat_eq bads 0)
    where
      pass_bads : IsTrue (nat_le bads limit)
      pass_bads = grind (arith, nat_tests)

      pass_constraints : IsTrue (nat_le constraints limit)
      pass_constraints = grind (arith, nat_tests)

      by_tests : (s t : Bool) → Fit (last_wants kind) (cond s (cond t [] (bads ∷ [])) (bads ∷ constraints ∷ []))
      by_tests true true = (refl, (refl, (refl, (refl, tt))))
      by_tests true false = ((pass_bads, tt), (refl, (refl, (refl, tt))))
      by_tests false true = ((pass_bads, tt), ((pass_constraints, tt), (refl, (refl, tt))))
      by_tests false false = ((pass_bads, tt), ((pass_constraints, tt), (refl, (refl, tt))))

  last-small : bads ≤ limit → constraints ≤ limit → AreSmall (last_sizes bads constraints)
  last-small few_bads few_constraints = by_tests (nat_eq constraints 0) (nat_eq bads 0)
    where
      by_tests : (s t : Bool) → AreSmall (cond s (cond t [] (bads ∷ [])) (bads ∷ constraints ∷ []))
      by_tests true true = tt
      by_tests true false = (omega arith, tt)
      by_tests false true = (omega arith, (omega arith, tt))
      by_tests false false = (omega arith, (omega arith, tt))

-- ---- the whole header
abbrev pub sizes_from : Parts → Sizes
sizes_from c = record {
  top = c.top;
  inputs = length c.inputs;
  latches = length c.latches;
  outputs = length c.outputs;
  gates = length c.gates;
  bads = length c.bads;
  constraints = length c.constraints;
}

limit_passes : (n : ℕ) → n ≤ limit → IsTrue (nat_le n limit)
limit_passes n h = grind (arith, nat_tests)

-- M is at least I + L + A
pub fits-ascii : (c : Parts) → IsCircuit c → fits Ascii (sizes_from c) ≡ true
fits-ascii c is = let enough = few_definers c is in grind (arith, nat_tests)

-- ---- the magic words
pub magic-graphic : (format : Format) → AllByRecursion IsGraphic (magic_of format)
magic-graphic Ascii = (omega arith, (omega arith, (omega arith, tt)))
magic-graphic Binary = (omega arith, (omega arith, (omega arith, tt)))

magic-starts : (format : Format) (bytes : List ℕ) → starts_with nat_eq (magic_of format ++ 32 ∷ bytes) (magic_of format ++ 32 ∷ []) ≡ true
magic-starts Ascii bytes = refl
magic-starts Binary bytes = refl

magic-fields : (format : Format) (at : ℕ) (bytes : List ℕ) → header_fields (record { at = at; bytes = magic_of format ++ bytes }) ≡ later_fields at (magic_of format ++ bytes)
magic-fields Ascii at bytes = refl
magic-fields Binary at bytes = refl

pub small_numbers : (c : Parts) → IsCircuit c → AreSmall (header_numbers c)
small_numbers c is =
    let sized = is.sized in (
      omega (arith, sized.top),
      (
        omega (arith, sized.inputs),
        (
          omega (arith, sized.latches),
          (
            omega (arith, sized.outputs),
            (
              omega (arith, sized.gates),
              last-small (length c.bads) (length c.constraints) sized.bads sized.constraints,
            ),
          ),
        ),
      ),
    )

-- a header of this format, and what follows it
module _ (format : Format) (c : Parts) (is : IsCircuit c) (at : ℕ) (rest : List ℕ) where
  abbrev pub headed : Rest
  headed = record { at = at; bytes = magic_of format ++ tail_of (header_numbers c) rest }

  header-spell : Spell (header_fields headed) (header_numbers c)
  header-spell =
      subst (λ (fs : List Rest). Spell fs (header_numbers c)) (sym (magic-fields format at (tail_of (header_numbers c) rest)))
      (behind-spell at (magic_of format) (header_numbers c) rest (magic-graphic format) (small_numbers c is))

  pub sizes-are : sizes_in (header_fields headed) ≡ sizes_from c
  sizes-are =
      let numbers = numbers-are (header_fields headed) (header_numbers c) header-spell in
      let sizes : List ℕ → Sizes = λ ns. record {
        top = get_or ns 0 0;
        inputs = get_or ns 1 0;
        latches = get_or ns 2 0;
        outputs = get_or ns 3 0;
        gates = get_or ns 4 0;
        bads = get_or ns 5 0;
        constraints = get_or ns 6 0;
      }
      in
      ap sizes numbers
      ∙ (ap (λ n. record (sizes_from c) { bads = n; constraints = get_or (last_sizes (length c.bads) (length c.constraints)) 1 0 }) (last-first (length c.bads) (length c.constraints))
      ∙ ap (λ n. record (sizes_from c) { constraints = n }) (last-second (length c.bads) (length c.constraints)))

  header-fit : {K : Type 0} (kind : SharedKind → K) → Fit (header_wants kind) (header_numbers c)
  header-fit kind =
      let sized = is.sized in (
        (limit_passes c.top sized.top, tt),
        (
          (limit_passes (length c.inputs) sized.inputs, tt),
          (
            (limit_passes (length c.latches) sized.latches, tt),
            (
              (limit_passes (length c.outputs) sized.outputs, tt),
              ((limit_passes (length c.gates) sized.gates, tt), last-fit (length c.bads) (length c.constraints) kind sized.bads sized.constraints),
            ),
          ),
        ),
      )

  pub header-met : {K : Type 0} (kind : SharedKind → K) → fits format (sizes_from c) ≡ true → AllMet (header_demands kind format headed)
  header-met kind fitting = (
    magic-starts format (drop 1 (tail_of (header_numbers c) rest)),
    met-append (wants_demands kind headed (header_fields headed) (header_wants kind)) _
        (wants-fit kind headed (header_fields headed) (header_wants kind) (header_numbers c) header-spell (header-fit kind))
        (ap (fits format) sizes-are ∙ fitting, none-fit kind (header_fields headed) (header_wants kind) (header_numbers c) header-spell (header-fit kind)),
  )
