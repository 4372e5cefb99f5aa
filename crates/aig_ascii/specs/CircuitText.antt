-- How a circuit is written as a text (AIGER 1.9): a header, a line for each item of the sections, and a line for each name.
use Rattle.std.specs.Prelude.{◌≡◌, ℕ, ◌<◌, ◌⊎◌, ◌==◌, if◌then◌else◌, codes, List, [], ◌∷◌, ◌++◌, length, AllPairs}
use Rattle.std.specs.List.{flat_map}
use Rattle.std.specs.List.Sorted.{IsPermutation}
use Rattle.std.specs.Fmt.{decimal}
use Rattle.aig_model.specs.declared.parts.Latch.{Latch}
use Rattle.aig_model.specs.declared.parts.AndGate.{AndGate}
use Rattle.aig_model.specs.declared.parts.Reset.{Reset}
use Rattle.aig_model.specs.declared.parts.Reset.TheVariants.{Zero, One, Free}
use Rattle.aig_model.specs.declared.parts.Place.{Place}
use Rattle.aig_model.specs.declared.parts.Place.TheVariants.{Input, Latch as InLatch, Output, Bad, Constraint}
use Rattle.aig_model.specs.declared.parts.Named.{Named}
use Rattle.aig_model.specs.declared.parts.Parts.{Parts}

-- numbers, each behind a space
abbrev pub spaced : List ℕ → List ℕ
spaced numbers = flat_map (λ n. 32 ∷ decimal n) numbers

-- a line of a word and numbers
abbrev pub line_text : List ℕ → List ℕ → List ℕ
line_text word numbers = word ++ (spaced numbers ++ 10 ∷ [])

-- ---- the header
-- the numbers of bad literals and of constraints, without the zeros at their end
abbrev pub last_sizes : ℕ → ℕ → List ℕ
last_sizes bads constraints = if constraints == 0 then (if bads == 0 then [] else bads ∷ []) else bads ∷ constraints ∷ []

abbrev pub header_numbers : Parts → List ℕ
header_numbers c = c.top ∷ length c.inputs ∷ length c.latches ∷ length c.outputs ∷ length c.gates ∷ last_sizes (length c.bads) (length c.constraints)

-- ---- the sections
abbrev pub lit_text : ℕ → List ℕ
lit_text lit = line_text (decimal lit) []

-- the reset of a latch with this literal, only where it isn't 0
abbrev pub reset_numbers : ℕ → Reset → List ℕ
reset_numbers lit Zero = []
reset_numbers lit One = 1 ∷ []
reset_numbers lit Free = lit ∷ []

abbrev pub latch_text : Latch → List ℕ
latch_text l = line_text (decimal l.lit) (l.next ∷ reset_numbers l.lit l.reset)

abbrev pub gate_text : AndGate → List ℕ
gate_text g = line_text (decimal g.lhs) (g.left ∷ g.right ∷ [])

-- ---- names
-- the letter of a place's section: i, l, o, b or c
abbrev pub letter_of : Place → ℕ
letter_of (Input k) = 105
letter_of (InLatch k) = 108
letter_of (Output k) = 111
letter_of (Bad k) = 98
letter_of (Constraint k) = 99

-- the section's number in the order of the sections
abbrev pub section_of : Place → ℕ
section_of (Input k) = 0
section_of (InLatch k) = 1
section_of (Output k) = 2
section_of (Bad k) = 3
section_of (Constraint k) = 4

abbrev pub position_of : Place → ℕ
position_of (Input k) = k
position_of (InLatch k) = k
position_of (Output k) = k
position_of (Bad k) = k
position_of (Constraint k) = k

-- a place of an earlier section, or of the same one at an earlier position
abbrev pub Precedes : Place → Place → Type 0
Precedes p q = (section_of p < section_of q) ⊎ ((section_of p ≡ section_of q) × (position_of p < position_of q))

-- the same names by their sections, and in a section by position
pub record AreInOrder (names ordered : List Named) : Type 0 where
  pub same : IsPermutation names ordered
  pub rising : AllPairs (λ (m n : Named). Precedes m.place n.place) ordered

abbrev pub symbol_text : Named → List ℕ
symbol_text n = letter_of n.place ∷ (decimal (position_of n.place) ++ 32 ∷ (n.name ++ 10 ∷ []))

-- ---- the whole
-- the sections of a circuit, its gates and names as they stand
abbrev pub sections_text : Parts → List ℕ
sections_text c =
    flat_map lit_text c.inputs
    ++ (flat_map latch_text c.latches
    ++ (flat_map lit_text c.outputs
    ++ (flat_map lit_text c.bads
    ++ (flat_map lit_text c.constraints
    ++ flat_map gate_text c.gates))))

abbrev pub parts_text : Parts → List ℕ
parts_text c = line_text (codes "aag") (header_numbers c) ++ (sections_text c ++ flat_map symbol_text c.names)

-- the text of a circuit, its names in order
pub record IsTextOf (c : Parts) (text : List ℕ) : Type 0 where
  pub names : List Named
  pub ordered : AreInOrder c.names names
  pub is : text ≡ parts_text (record c { names = names })
