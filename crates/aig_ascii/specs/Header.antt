-- The header of a circuit's file: a magic word, and up to nine numbers. Both formats have it.
use Rattle.std.specs.Prelude.{◌≤◌, ℕ, ◌+◌, Bool, nat_eq, nat_le, codes, List, [], ◌∷◌, ◌++◌, map, get_or, drop}
use Rattle.std.specs.List.{starts_with}
use Rattle.aig_model.specs.WellFormed.{limit}
use Rattle.text_words.specs.Text.{Rest, fields, number}
use Rattle.aig_ascii.specs.Demands.{Demand, demand}
use Rattle.aig_ascii.specs.Fields.{Test, Want, wanted, optional, wants_demands, none_demands}
use Rattle.aig_ascii.specs.declared.header.Sizes.{Sizes}
use Rattle.aig_ascii.specs.declared.header.Format.{Format}
use Rattle.aig_ascii.specs.declared.header.Format.TheVariants.{Ascii, Binary}
use Rattle.aig_ascii.specs.declared.fault.SharedKind.{SharedKind}
use Rattle.aig_ascii.specs.declared.fault.SharedKind.TheVariants.{Header, Limit, Liveness}

-- the fields behind the magic word
abbrev pub header_fields : Rest → List Rest
header_fields text = drop 1 (fields text)

-- what these fields spell, where a number that is missing is 0
abbrev pub size_at : List Rest → ℕ → ℕ
size_at fs k = get_or (map number fs) k 0

abbrev pub sizes_in : List Rest → Sizes
sizes_in fs = record {
  top = size_at fs 0;
  inputs = size_at fs 1;
  latches = size_at fs 2;
  outputs = size_at fs 3;
  gates = size_at fs 4;
  bads = size_at fs 5;
  constraints = size_at fs 6;
}

abbrev pub sizes_of : Rest → Sizes
sizes_of text = sizes_in (header_fields text)

abbrev pub within_limit : {K : Type 0} → (SharedKind → K) → Test K
within_limit kind = record { kind = kind Limit; passes = λ n. nat_le n limit }

-- a count of justice or of fairness properties, of which there are none
abbrev pub no_liveness : {K : Type 0} → (SharedKind → K) → Test K
no_liveness kind = record { kind = kind Liveness; passes = λ n. nat_eq n 0 }

-- M I L O A B C J F
abbrev pub header_wants : {K : Type 0} → (SharedKind → K) → List (Want K)
header_wants kind =
    let size = wanted (within_limit kind ∷ []) in
    let last = optional (within_limit kind ∷ []) in
    let none = optional (within_limit kind ∷ no_liveness kind ∷ []) in
    size ∷ size ∷ size ∷ size ∷ size ∷ last ∷ last ∷ none ∷ none ∷ []

abbrev pub magic_of : Format → List ℕ
magic_of Ascii = codes "aag"
magic_of Binary = codes "aig"

-- M is at least I + L + A, and in a binary file is that sum
abbrev pub fits : Format → Sizes → Bool
fits Ascii s = nat_le (s.inputs + s.latches + s.gates) s.top
fits Binary s = nat_eq (s.inputs + s.latches + s.gates) s.top

-- The file begins with the magic word and a space, and its first line has the numbers, of which M fits the others; that is seen at M, and
-- then comes a field that is one too many.
abbrev pub header_demands : {K : Type 0} → (SharedKind → K) → Format → Rest → List (Demand K)
header_demands kind format text =
    demand text.at (kind Header) (starts_with nat_eq text.bytes (magic_of format ++ 32 ∷ []))
    ∷ wants_demands kind text (header_fields text) (header_wants kind)
    ++ demand (get_or (header_fields text) 0 text).at (kind Header) (fits format (sizes_of text))
    ∷ none_demands kind (drop 9 (header_fields text))

-- the sizes are within the limit of each number
pub record AreFew (s : Sizes) : Type 0 where
  pub top : s.top ≤ limit
  pub inputs : s.inputs ≤ limit
  pub latches : s.latches ≤ limit
  pub outputs : s.outputs ≤ limit
  pub gates : s.gates ≤ limit
  pub bads : s.bads ≤ limit
  pub constraints : s.constraints ≤ limit
