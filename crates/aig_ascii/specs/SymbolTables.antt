-- The names so far, and where it is kept which items have one.
use Rattle.std.specs.Prelude.{ℕ, ◌+◌, Bool, false, if◌then◌else◌, Option, Some, None, List, [], ◌∷◌}
use Rattle.aig_model.specs.declared.parts.Place.{Place}
use Rattle.aig_model.specs.declared.parts.Place.TheVariants as places
use Rattle.aig_model.specs.declared.parts.Named.{Named}
use Rattle.aig_ascii.specs.Symbols.{is_empty, exists_in, place_at, symbol_on, is_right}
use Rattle.text_words.specs.Text.{Rest, line_bytes}
use Rattle.aig_ascii.specs.Demands.{Demand, demand}
use Rattle.aig_ascii.specs.declared.fault.SharedKind.{SharedKind}
use Rattle.aig_ascii.specs.declared.fault.SharedKind.TheVariants.{Symbol}
use Rattle.aig_ascii.specs.declared.header.Sizes.{Sizes}

pub record Table : Type 0 where
  pub sizes : Sizes
  pub names : List Named

-- the places of all items, section by section
abbrev pub slot : Sizes → Place → ℕ
slot s (places.Input k) = k
slot s (places.Latch k) = s.inputs + k
slot s (places.Output k) = s.inputs + s.latches + k
slot s (places.Bad k) = s.inputs + s.latches + s.outputs + k
slot s (places.Constraint k) = s.inputs + s.latches + s.outputs + s.bads + k

abbrev pub slots : Sizes → ℕ
slots s = s.inputs + s.latches + s.outputs + s.bads + s.constraints

-- a place that there is
abbrev pub if_exists : Sizes → Option Place → Option Place
if_exists sizes None = None
if_exists sizes (Some place) = if exists_in sizes place then Some place else None

abbrev pub place_within : Sizes → ℕ → ℕ → Option Place
place_within sizes letter k = if_exists sizes (place_at letter k)

-- whether a symbol is one of an item that there is
abbrev pub exists_symbol : Sizes → Option Named → Bool
exists_symbol sizes None = false
exists_symbol sizes (Some s) = exists_in sizes s.place

-- what is asked of a line before the comment: nothing of an empty one
abbrev pub symbol_line_demands : {K : Type 0} → (SharedKind → K) → Table → Rest → List (Demand K)
symbol_line_demands kind t r =
    if is_empty (line_bytes r.bytes) then [] else demand r.at (kind Symbol) (is_right t.sizes t.names (symbol_on r)) ∷ []
