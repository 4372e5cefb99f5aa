-- Lines of items that were written: the numbers on them, and what they spell.
use Rattle.std.proofs.Common.{◌≡◌, ℕ, ◌^◌, ◌<◌, ◌≤◌, Bool, true, false, cond, ◌||◌, IsTrue, nat_eq, List, [], ◌∷◌, ◌++◌, map, length, get_or, refl, ap, ◌∙◌, subst, arith}
use Rattle.std.specs.List.{AllByRecursion, flat_map}
use Rattle.std.proofs.lemmas.Bool.Decides.{nat_tests}
use Rattle.std.proofs.lemmas.List.{length-map}
use Rattle.std.proofs.lemmas.List.Elements.{recursion_from_All}
use Rattle.aig_model.specs.WellFormed.{latch_literals, gate_literals, literals, limit, IsInRange, IsDefining, IsCircuit}
use Rattle.aig_model.specs.declared.parts.Latch.{Latch}
use Rattle.aig_model.specs.declared.parts.AndGate.{AndGate}
use Rattle.aig_model.specs.declared.parts.Reset.{Reset}
use Rattle.aig_model.specs.declared.parts.Reset.TheVariants.{Zero, One, Free}
use Rattle.aig_model.specs.declared.parts.Parts.{Parts}
use Rattle.text_words.specs.Text.{Rest, lines_of, after_lines, fields, number}
use Rattle.aig_ascii.specs.Sections.{is_reset, reset_of, lits_of}
use Rattle.aig_ascii.specs.CircuitText.{reset_numbers, lit_text}
use Rattle.aig_ascii.specs.declared.fault.SharedKind.{SharedKind}
use Rattle.aig_ascii.proofs.SpelledLines.{SpellLines, SmallLines, AreSmall, Fit, numbers_text, lines-spell}
use Rattle.aig_ascii.proofs.SpelledSections.{lines-items, lines-after}

-- ---- facts of each element
pub each-split : {A : Type 0} (P : A → Type 0) (xs ys : List A) → AllByRecursion P (xs ++ ys) → AllByRecursion P xs × AllByRecursion P ys
each-split P [] ys all = (tt, all)
each-split P (x ∷ xs) ys all = let parts = each-split P xs ys all.1 in ((all.0, parts.0), parts.1)

pub each-flat_map : {A : Type 0} (P : ℕ → Type 0) (f : A → List ℕ) (xs : List A) → AllByRecursion P (flat_map f xs) → AllByRecursion (λ x. AllByRecursion P (f x)) xs
each-flat_map P f [] all = tt
each-flat_map P f (x ∷ xs) all = let parts = each-split P (f x) (flat_map f xs) all in (parts.0, each-flat_map P f xs parts.1)

pub each-map : {A : Type 0} (P : ℕ → Type 0) (f : A → ℕ) (xs : List A) → AllByRecursion P (map f xs) → AllByRecursion (λ x. P (f x)) xs
each-map P f [] all = tt
each-map P f (x ∷ xs) all = (all.0, each-map P f xs all.1)

-- ---- the numbers on the lines
abbrev pub one : ℕ → List ℕ
one lit = lit ∷ []

abbrev pub first_number : List ℕ → ℕ
first_number ns = get_or ns 0 0

abbrev pub latch_numbers : Latch → List ℕ
latch_numbers l = l.lit ∷ l.next ∷ reset_numbers l.lit l.reset

abbrev pub gate_numbers : AndGate → List ℕ
gate_numbers g = g.lhs ∷ g.left ∷ g.right ∷ []

pub texts-are : {A : Type 0} (g : A → List ℕ) (xs : List A) → flat_map (λ x. numbers_text (g x)) xs ≡ flat_map numbers_text (map g xs)
texts-are g [] = refl
texts-are g (x ∷ xs) = ap (λ ys. numbers_text (g x) ++ ys) (texts-are g xs)

pub items-back : {A B : Type 0} (f : B → A) (g : A → B) (xs : List A) → AllByRecursion (λ x. f (g x) ≡ x) xs → map f (map g xs) ≡ xs
items-back f g [] all = refl
items-back f g (x ∷ xs) all = ap (λ y. y ∷ map f (map g xs)) all.0 ∙ ap (λ ys. x ∷ ys) (items-back f g xs all.1)

pub each-always : {A : Type 0} (P : A → Type 0) → ((x : A) → P x) → (xs : List A) → AllByRecursion P xs
each-always P f [] = tt
each-always P f (x ∷ xs) = (f x, each-always P f xs)

pub each-both : {A : Type 0} (P Q R : A → Type 0) → ((x : A) → P x → Q x → R x) → (xs : List A) → AllByRecursion P xs → AllByRecursion Q xs → AllByRecursion R xs
each-both P Q R f [] p q = tt
each-both P Q R f (x ∷ xs) p q = (f x p.0 q.0, each-both P Q R f xs p.1 q.1)

pub small-lines : {A : Type 0} (g : A → List ℕ) (xs : List A) → AllByRecursion (λ x. AreSmall (g x) × (0 < length (g x))) xs → SmallLines (map g xs)
small-lines g [] all = tt
small-lines g (x ∷ xs) all = (all.0, small-lines g xs all.1)

pub small_lit : (top lit : ℕ) → top ≤ limit → IsInRange top lit → lit < 2 ^ 64
small_lit top lit few range = omega (arith, few, range)

pub reset-small : (top lit : ℕ) (reset : Reset) → top ≤ limit → IsInRange top lit → AreSmall (reset_numbers lit reset)
reset-small top lit Zero few range = tt
reset-small top lit One few range = (omega arith, tt)
reset-small top lit Free few range = (small_lit top lit few range, tt)

-- a reset is as wanted
pub fit-reset : {K : Type 0} (kind : SharedKind → K) (lit : ℕ) (reset : Reset) → Fit (record { optional = true; tests = is_reset kind lit ∷ [] } ∷ []) (reset_numbers lit reset)
fit-reset kind lit Zero = (refl, tt)
fit-reset kind lit One = ((refl, tt), tt)
fit-reset kind lit Free = ((own, tt), tt)
  where
    own : IsTrue (nat_eq lit 0 || nat_eq lit 1 || nat_eq lit lit)
    own = let same : nat_eq lit lit ≡ true = grind (arith, nat_tests) in last (nat_eq lit 0 || nat_eq lit 1) (nat_eq lit lit) same
      where
        last : (a b : Bool) → b ≡ true → (a || b) ≡ true
        last true b e = refl
        last false b e = e

pub reset-back : (lit : ℕ) (reset : Reset) → IsDefining lit → reset_of (get_or (reset_numbers lit reset) 0 0) ≡ reset
reset-back lit Zero d = refl
reset-back lit One d = refl
reset-back lit Free d =
    let positive = d.positive in
    let not_zero : nat_eq lit 0 ≡ false = grind (arith, nat_tests) in
    let not_one : nat_eq lit 1 ≡ false = grind (arith, nat_tests) in
    ap (λ b. cond b Zero (cond (nat_eq lit 1) One Free)) not_zero ∙ ap (λ b. cond b One Free) not_one

-- ---- one section
module _ {A : Type 0} (g : A → List ℕ) (xs : List A) where
  size-lines : length (map g xs) ≡ length xs
  size-lines = length-map xs g

  module _ (r : Rest) (rest : List ℕ) (spell : SpellLines r (map g xs) rest) where
    pub section-items : (f : List ℕ → A) → AllByRecursion (λ x. f (g x) ≡ x) xs → map (λ (line : Rest). f (map number (fields line))) (lines_of (length xs) r) ≡ xs
    section-items f back =
        subst (λ (n : ℕ). map (λ (line : Rest). f (map number (fields line))) (lines_of n r) ≡ xs) size-lines
        (lines-items f r (map g xs) rest spell ∙ items-back f g xs back)

    pub section-mapped : {B : Type 0} (f : List ℕ → B) (ys : List B) → map f (map g xs) ≡ ys → map (λ (line : Rest). f (map number (fields line))) (lines_of (length xs) r) ≡ ys
    section-mapped f ys same =
        subst (λ (n : ℕ). map (λ (line : Rest). f (map number (fields line))) (lines_of n r) ≡ ys) size-lines (lines-items f r (map g xs) rest spell ∙ same)

    pub section-after : (after_lines (length xs) r).bytes ≡ rest
    section-after = subst (λ (n : ℕ). (after_lines n r).bytes ≡ rest) size-lines (lines-after r (map g xs) rest spell)

pub lits_back : (lits : List ℕ) (r : Rest) (rest : List ℕ) → SpellLines r (map one lits) rest → lits_of (length lits) r ≡ lits
lits_back lits r rest spell = section-items one lits r rest spell first_number (each-always (λ lit. first_number (one lit) ≡ lit) (λ lit. refl) lits)

-- ---- the literals of a circuit
module _ (c : Parts) (is : IsCircuit c) where
  range : AllByRecursion (IsInRange c.top) (literals c)
  range = recursion_from_All (IsInRange c.top) (literals c) is.in_range

  pub record Ranges : Type 0 where
    pub inputs : AllByRecursion (IsInRange c.top) c.inputs
    pub latches : AllByRecursion (λ (l : Latch). AllByRecursion (IsInRange c.top) (l.lit ∷ l.next ∷ [])) c.latches
    pub outputs : AllByRecursion (IsInRange c.top) c.outputs
    pub bads : AllByRecursion (IsInRange c.top) c.bads
    pub constraints : AllByRecursion (IsInRange c.top) c.constraints
    pub gates : AllByRecursion (λ (g : AndGate). AllByRecursion (IsInRange c.top) (gate_numbers g)) c.gates

  pub ranges : Ranges
  ranges =
      let P = IsInRange c.top in
      let gates = gate_literals c.gates in
      let a = each-split P c.inputs (latch_literals c.latches ++ (c.outputs ++ (c.bads ++ (c.constraints ++ gates)))) range in
      let b = each-split P (latch_literals c.latches) (c.outputs ++ (c.bads ++ (c.constraints ++ gates))) a.1 in
      let d = each-split P c.outputs (c.bads ++ (c.constraints ++ gates)) b.1 in
      let e = each-split P c.bads (c.constraints ++ gates) d.1 in
      let f = each-split P c.constraints gates e.1 in
      record {
        inputs = a.0;
        latches = each-flat_map P (λ (l : Latch). l.lit ∷ l.next ∷ []) c.latches b.0;
        outputs = d.0;
        bads = e.0;
        constraints = f.0;
        gates = each-flat_map P gate_numbers c.gates f.1;
      }

  few : c.top ≤ limit
  few = is.sized.top

  pub small_ones : (lits : List ℕ) → AllByRecursion (IsInRange c.top) lits → SmallLines (map one lits)
  small_ones lits in_range =
      small-lines one lits (each-both (IsInRange c.top) (IsInRange c.top) (λ lit. AreSmall (one lit) × (0 < length (one lit))) (λ lit h k. ((small_lit c.top lit few h, tt), omega arith)) lits in_range in_range)

  pub spell_ones : (r : Rest) (lits rest : List ℕ) → AllByRecursion (IsInRange c.top) lits → r.bytes ≡ flat_map lit_text lits ++ rest → SpellLines r (map one lits) rest
  spell_ones r lits rest in_range bytes = lines-spell r.at (map one lits) r.bytes rest (small_ones lits in_range) (bytes ∙ ap (λ xs. xs ++ rest) (texts-are one lits))
