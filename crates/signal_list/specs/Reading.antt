-- How a list is read: the reference of each line, found by its first byte, and what the steps answer.
use Rattle.std.specs.Prelude.{◌≡◌, ℕ, ◌<◌, ◌≤◌, ◌⊎◌, min, Option, Some, None, List, [], ◌∷◌, ◌++◌, length, Contains, ◌==◌, if◌then◌else◌}
use Rattle.std.specs.Option.{option_map}
use Rattle.text_words.specs.Numbers.{natural_of}
use Rattle.aig_model.specs.declared.parts.Parts.{Parts}
use Rattle.aig_model.specs.declared.parts.Place.TheVariants as places
use Rattle.signal_list.specs.declared.reference.Reference as kept
use Rattle.signal_list.specs.declared.reference.Reference.TheVariants as references
use Rattle.signal_list.specs.declared.fault.SigKind.{SigKind}
use Rattle.signal_list.specs.declared.fault.SigKind.TheVariants.{Repeated, TooMany}
use Rattle.signal_list.specs.declared.fault.SigFault.{SigFault}
use Rattle.signal_list.specs.declared.fault.SigFault.TheVariants as faults
use Rattle.text_words.specs.declared.fault.LineFault.{LineFault}
use Rattle.text_words.specs.declared.fault.LineFault.TheVariants as stops
use Rattle.signal_list.specs.SignalText.{Reference, place, literal, name, SpellsSignal, IsLineFault}

abbrev pub name_in : List ℕ → Option Reference
name_in [] = None
name_in (b ∷ bs) = Some (name (b ∷ bs))

-- the letters i, l, o, b, n and @
abbrev pub reference_of : List ℕ → Option Reference
reference_of [] = None
reference_of (b ∷ bs) =
    if b == 105 then option_map (λ k. place (places.Input k)) (natural_of bs)
    else (if b == 108 then option_map (λ k. place (places.Latch k)) (natural_of bs)
    else (if b == 111 then option_map (λ k. place (places.Output k)) (natural_of bs)
    else (if b == 98 then option_map (λ k. place (places.Bad k)) (natural_of bs)
    else (if b == 110 then option_map (λ k. literal k) (natural_of bs) else (if b == 64 then name_in bs else None)))))

-- the number, or the greatest u32 in place of a greater one
abbrev pub capped_number : ℕ → ℕ
capped_number n = min n 4294967295

-- the reference with a number that a u32 holds
abbrev pub capped : Reference → Reference
capped (place (places.Input k)) = place (places.Input (capped_number k))
capped (place (places.Latch k)) = place (places.Latch (capped_number k))
capped (place (places.Output k)) = place (places.Output (capped_number k))
capped (place (places.Bad k)) = place (places.Bad (capped_number k))
capped (place (places.Constraint k)) = place (places.Constraint (capped_number k))
capped (literal lit) = literal (capped_number lit)
capped (name bytes) = name bytes

-- a reference as the code keeps it
abbrev pub seen : kept.Reference → Reference
seen (references.Place p) = place p
seen (references.Literal lit) = literal lit
seen (references.Name bytes) = name bytes.now

-- ---- what the parts of a reading answer

-- a fault of the line alone, whatever signals are before it
abbrev pub IsOwnFault : Parts → List ℕ → SigKind → Type 0
IsOwnFault c line kind = (earlier : List ℕ) → IsLineFault c earlier line kind

-- the fault of a line after signals with these literals
abbrev pub IsFaultAfter : Parts → List ℕ → List ℕ → LineFault SigKind → Type 0
IsFaultAfter c earlier line (stops.Kind kind) = IsLineFault c earlier line kind
IsFaultAfter c earlier line stops.OutOfMemory = Unit {0}

-- the literal is new, and there is room for it
pub record Joins (old : List ℕ) (lit : ℕ) (new : List ℕ) : Type 0 where
  pub new_literal : ¬ Contains old lit
  pub room : length old < 10
  pub last : new ≡ old ++ lit ∷ []

-- why a literal can't join
abbrev pub IsKeptOut : List ℕ → ℕ → LineFault SigKind → Type 0
IsKeptOut old lit (stops.Kind kind) = ((kind ≡ Repeated) × Contains old lit) ⊎ ((kind ≡ TooMany) × (¬ Contains old lit) × (10 ≤ length old))
IsKeptOut old lit stops.OutOfMemory = Unit {0}

-- the literal of the signal on the line joins
abbrev pub JoinsOf : Parts → List ℕ → List ℕ → List ℕ → Type 0
JoinsOf c line old new = (lit : ℕ) × SpellsSignal c line lit × Joins old lit new

abbrev pub on_line : ℕ → LineFault SigKind → SigFault
on_line n (stops.Kind kind) = faults.At n kind
on_line n stops.OutOfMemory = faults.OutOfMemory
