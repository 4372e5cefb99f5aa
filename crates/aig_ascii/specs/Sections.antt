-- The lines of the sections: what is asked of each, what it defines and uses, and the item that it spells.
use Rattle.std.specs.Prelude.{ℕ, zero, suc, ◌+◌, ◌*◌, ◌%◌, Bool, false, not, ◌&&◌, ◌||◌, nat_eq, nat_le, if◌then◌else◌, List, [], ◌∷◌, ◌++◌, map, get_or, take, drop}
use Rattle.std.specs.List.{flat_map}
use Rattle.aig_model.specs.Literal.{var}
use Rattle.aig_model.specs.declared.parts.Latch.{Latch}
use Rattle.aig_model.specs.declared.parts.AndGate.{AndGate}
use Rattle.aig_model.specs.declared.parts.Reset.{Reset}
use Rattle.aig_model.specs.declared.parts.Reset.TheVariants as resets
use Rattle.text_words.specs.Text.{Rest, fields, number, next_line, lines_of}
use Rattle.aig_ascii.specs.Demands.{Demand, demand}
use Rattle.aig_ascii.specs.Fields.{Test, Want, wanted, optional, line_demands}
use Rattle.aig_ascii.specs.Kinds.{aag_kind}
use Rattle.aig_ascii.specs.declared.fault.SharedKind.{SharedKind}
use Rattle.aig_ascii.specs.declared.fault.SharedKind.TheVariants.{Range, Reset as BadReset}
use Rattle.aig_ascii.specs.declared.fault.AagKind.{AagKind}
use Rattle.aig_ascii.specs.declared.fault.AagKind.TheVariants.{Defined, Undefined}

-- the number of a line's field k, or 0 where there is none
abbrev pub number_at : Rest → ℕ → ℕ
number_at line k = get_or (map number (fields line)) k 0

-- ---- literals

-- whether one of these literals has this variable
abbrev pub defines : List ℕ → ℕ → Bool
defines [] v = false
defines (lit ∷ lits) v = nat_eq (var lit) v || defines lits v

-- whether a literal's variable is 0, or one that these define
abbrev pub is_known : List ℕ → ℕ → Bool
is_known lits lit = nat_eq (var lit) 0 || defines lits (var lit)

-- a literal of one of the variables 0 to the greatest
abbrev pub in_range : {K : Type 0} → (SharedKind → K) → ℕ → Test K
in_range kind top = record { kind = kind Range; passes = λ lit. nat_le lit (2 * top + 1) }

-- a literal that is even and at least 2, and whose variable none of these defines
abbrev pub is_new : List ℕ → Test AagKind
is_new earlier = record { kind = Defined; passes = λ lit. nat_eq (lit % 2) 0 && nat_le 2 lit && not (defines earlier (var lit)) }

abbrev pub defining : ℕ → List ℕ → Want AagKind
defining top earlier = wanted (in_range aag_kind top ∷ is_new earlier ∷ [])

abbrev pub literal : {K : Type 0} → (SharedKind → K) → ℕ → Want K
literal kind top = wanted (in_range kind top ∷ [])

-- 0, 1, or the latch's own literal
abbrev pub is_reset : {K : Type 0} → (SharedKind → K) → ℕ → Test K
is_reset kind lit = record { kind = kind BadReset; passes = λ n. nat_eq n 0 || nat_eq n 1 || nat_eq n lit }

-- ---- lines

-- an input, a latch, a gate, or one of the literals that are outputs, bad or constraints
pub data Form : Type 0 where
  input : Form
  latch : Form
  plain : Form
  gate : Form

-- the fields of a line, where these literals are defined by earlier lines
abbrev pub wants_of : Form → ℕ → List ℕ → Rest → List (Want AagKind)
wants_of input top earlier line = defining top earlier ∷ []
wants_of latch top earlier line = defining top earlier ∷ literal aag_kind top ∷ optional (is_reset aag_kind (number_at line 0) ∷ []) ∷ []
wants_of plain top earlier line = literal aag_kind top ∷ []
wants_of gate top earlier line = defining top earlier ∷ literal aag_kind top ∷ literal aag_kind top ∷ []

-- the literal that a line defines
abbrev pub defined_by : Form → Rest → List ℕ
defined_by plain line = []
defined_by form line = number_at line 0 ∷ []

-- the fields of the literals that it uses
abbrev pub used_by : Form → Rest → List Rest
used_by input line = []
used_by latch line = take 1 (drop 1 (fields line))
used_by plain line = take 1 (fields line)
used_by gate line = take 2 (drop 1 (fields line))

-- n lines of this form
abbrev pub section_demands : Form → ℕ → ℕ → List ℕ → Rest → List (Demand AagKind)
section_demands form zero top earlier r = []
section_demands form (suc n) top earlier r =
    line_demands aag_kind (wants_of form top earlier r) r ++ section_demands form n top (earlier ++ defined_by form r) (next_line r)

-- the literals that they define
abbrev pub section_defines : Form → ℕ → Rest → List ℕ
section_defines form n r = flat_map (defined_by form) (lines_of n r)

-- the fields of the literals that they use
abbrev pub section_uses : Form → ℕ → Rest → List Rest
section_uses form n r = flat_map (used_by form) (lines_of n r)

-- the literals of these fields are known
abbrev pub use_demands : List ℕ → List Rest → List (Demand AagKind)
use_demands defs uses = map (λ (f : Rest). demand f.at Undefined (is_known defs (number f))) uses

-- ---- items

abbrev pub reset_of : ℕ → Reset
reset_of n = if nat_eq n 0 then resets.Zero else (if nat_eq n 1 then resets.One else resets.Free)

abbrev pub latch_of : Rest → Latch
latch_of line = record { lit = number_at line 0; next = number_at line 1; reset = reset_of (number_at line 2) }

abbrev pub gate_of : Rest → AndGate
gate_of line = record { lhs = number_at line 0; left = number_at line 1; right = number_at line 2 }

-- the first literals of n lines
abbrev pub lits_of : ℕ → Rest → List ℕ
lits_of n r = map (λ line. number_at line 0) (lines_of n r)
