-- The sections of a binary file: what is asked of each line and of each gate's bytes, and the item that it spells.
use Rattle.std.specs.Prelude.{ℕ, zero, suc, ◌+◌, ◌-◌, ◌*◌, ◌^◌, not, ◌&&◌, nat_lt, nat_le, List, [], ◌∷◌, ◌++◌, length}
use Rattle.std.specs.List.{flat_map}
use Rattle.aig_model.specs.declared.parts.Latch.{Latch}
use Rattle.aig_model.specs.declared.parts.AndGate.{AndGate}
use Rattle.text_words.specs.Text.{Rest, next_line, lines_of}
use Rattle.aig_ascii.specs.Demands.{Demand, demand}
use Rattle.aig_ascii.specs.Fields.{Want, optional, line_demands}
use Rattle.aig_ascii.specs.Sections.{literal, is_reset, reset_of, number_at}
use Rattle.aig_binary.specs.Kinds.{aig_kind}
use Rattle.aig_binary.specs.Deltas.{delta_value, is_cut, is_short, behind_delta}
use Rattle.aig_binary.specs.declared.fault.AigKind.{AigKind}
use Rattle.aig_binary.specs.declared.fault.AigKind.TheVariants.{Truncated, Delta}

-- ---- lines

-- an output, a bad literal or a constraint
abbrev pub lit_wants : ℕ → List (Want AigKind)
lit_wants top = literal aig_kind top ∷ []

-- the next literal of the latch with this literal, and its reset
abbrev pub latch_wants : ℕ → ℕ → List (Want AigKind)
latch_wants top lit = literal aig_kind top ∷ optional (is_reset aig_kind lit ∷ []) ∷ []

abbrev pub latch_of : ℕ → Rest → Latch
latch_of lit line = record { lit = lit; next = number_at line 0; reset = reset_of (number_at line 1) }

-- n lines of literals
abbrev pub lits_demands : ℕ → ℕ → Rest → List (Demand AigKind)
lits_demands top n r = flat_map (line_demands aig_kind (lit_wants top)) (lines_of n r)

-- n latches, from the one with variable v on
abbrev pub latches_demands : ℕ → ℕ → ℕ → Rest → List (Demand AigKind)
latches_demands top v zero r = []
latches_demands top v (suc n) r = line_demands aig_kind (latch_wants top (2 * v)) r ++ latches_demands top (v + 1) n (next_line r)

abbrev pub latches_of : ℕ → ℕ → Rest → List Latch
latches_of v zero r = []
latches_of v (suc n) r = latch_of (2 * v) r ∷ latches_of (v + 1) n (next_line r)

-- ---- gates

-- a delta stands here, from the least to the most that it may be; a fault but that the file ends is seen at its first byte
abbrev pub delta_demands : ℕ → ℕ → Rest → List (Demand AigKind)
delta_demands least most r =
    demand (r.at + length r.bytes) Truncated (not (is_cut r.bytes))
    ∷ demand r.at Delta (is_short r.bytes && nat_lt (delta_value r.bytes) (2 ^ 32))
    ∷ demand r.at Delta (nat_le least (delta_value r.bytes) && nat_le (delta_value r.bytes) most)
    ∷ []

-- the first input of the gate with this left side, and the second
abbrev pub left_at : ℕ → Rest → ℕ
left_at lhs r = lhs - delta_value r.bytes

abbrev pub right_at : ℕ → Rest → ℕ
right_at lhs r = left_at lhs r - delta_value (behind_delta r).bytes

abbrev pub gate_at : ℕ → Rest → AndGate
gate_at lhs r = record { lhs = lhs; left = left_at lhs r; right = right_at lhs r }

abbrev pub gate_demands : ℕ → Rest → List (Demand AigKind)
gate_demands lhs r = delta_demands 1 lhs r ++ delta_demands 0 (left_at lhs r) (behind_delta r)

abbrev pub behind_gate : Rest → Rest
behind_gate r = behind_delta (behind_delta r)

-- n gates, from the one with variable v on
abbrev pub gates_demands : ℕ → ℕ → Rest → List (Demand AigKind)
gates_demands v zero r = []
gates_demands v (suc n) r = gate_demands (2 * v) r ++ gates_demands (v + 1) n (behind_gate r)

abbrev pub gates_at : ℕ → ℕ → Rest → List AndGate
gates_at v zero r = []
gates_at v (suc n) r = gate_at (2 * v) r ∷ gates_at (v + 1) n (behind_gate r)

abbrev pub behind_gates : ℕ → Rest → Rest
behind_gates zero r = r
behind_gates (suc n) r = behind_gates n (behind_gate r)
