-- The format of signal lists: which texts spell which signals of a circuit, and what the first fault of any other text is.
use Rattle.std.specs.Prelude.{◌≡◌, ◌≢◌, ℕ, ◌+◌, ◌-◌, ◌<◌, ◌≤◌, Bool, false, not, IsTrue, Option, Some, Result, codes, List, [], ◌∷◌, ◌++◌, length, take, drop, map, filter, slice_get, Contains, AllPairs, ◌==◌}
use Rattle.std.specs.List.{AllZip, prefix_len, suffix_len}
use Rattle.ketch_base.specs.Exactly as exactly
use Rattle.text_words.specs.Lines.{lines}
use Rattle.text_words.specs.Numbers.{natural_of}
use Rattle.aig_model.specs.declared.parts.Parts.{Parts}
use Rattle.aig_model.specs.declared.parts.Place.{Place}
use Rattle.aig_model.specs.declared.parts.Place.TheVariants as places
use Rattle.aig_model.specs.SignalList.{SignalList}
use Rattle.aig_model.specs.WellFormed.{latch_lits, Exists, IsInRange}
use Rattle.signal_list.specs.declared.fault.SigKind.{SigKind}
use Rattle.signal_list.specs.declared.fault.SigKind.TheVariants.{Form, Range, NoName, TwoNames, Repeated, TooMany, Empty}
use Rattle.signal_list.specs.declared.fault.SigFault.{SigFault}
use Rattle.signal_list.specs.declared.fault.SigFault.TheVariants as faults

-- ---- lines

abbrev pub is_space : ℕ → Bool
is_space b = b == 32

abbrev pub without_first_spaces : List ℕ → List ℕ
without_first_spaces line = drop (prefix_len is_space line) line

abbrev pub without_last_spaces : List ℕ → List ℕ
without_last_spaces line = take (length line - suffix_len is_space line) line

-- a line without the spaces at both its ends
abbrev pub trimmed : List ℕ → List ℕ
trimmed line = without_last_spaces (without_first_spaces line)

-- whether a trimmed line is a signal: it isn't empty, and isn't a comment, whose first byte is # (35)
abbrev pub is_signal : List ℕ → Bool
is_signal [] = false
is_signal (b ∷ bs) = not (b == 35)

-- the lines that are signals, trimmed
abbrev pub signal_lines : List (List ℕ) → List (List ℕ)
signal_lines ls = filter is_signal (map trimmed ls)

-- ---- one signal

-- what a signal refers to: a place by its position, a literal, or a place by its name
pub data Reference : Type 0 where
  place : Place → Reference
  literal : ℕ → Reference
  name : List ℕ → Reference

-- the letter, and digits that spell the number
abbrev pub IsNumbered : List ℕ → List ℕ → ℕ → Type 0
IsNumbered letter line k = (digits : List ℕ) × (line ≡ letter ++ digits) × (natural_of digits ≡ Some k)

-- how each reference is written; no form names a constraint by its position
abbrev pub IsForm : Reference → List ℕ → Type 0
IsForm (place (places.Input k)) line = IsNumbered (codes "i") line k
IsForm (place (places.Latch k)) line = IsNumbered (codes "l") line k
IsForm (place (places.Output k)) line = IsNumbered (codes "o") line k
IsForm (place (places.Bad k)) line = IsNumbered (codes "b") line k
IsForm (place (places.Constraint k)) line = ⊥
IsForm (literal lit) line = IsNumbered (codes "n") line lit
IsForm (name bytes) line = (bytes ≢ []) × (line ≡ codes "@" ++ bytes)

-- the literal at a place, if the place exists
abbrev pub literal_at : Parts → Place → Option ℕ
literal_at c (places.Input k) = slice_get c.inputs k
literal_at c (places.Latch k) = slice_get (latch_lits c.latches) k
literal_at c (places.Output k) = slice_get c.outputs k
literal_at c (places.Bad k) = slice_get c.bads k
literal_at c (places.Constraint k) = slice_get c.constraints k

-- a symbol gives the place this name
abbrev pub HasName : Parts → Place → List ℕ → Type 0
HasName c p bytes = Contains c.names (record { place = p; name = bytes })

-- no place has the name
abbrev pub IsNobodysName : Parts → List ℕ → Type 0
IsNobodysName c bytes = (p : Place) → ¬ HasName c p bytes

-- one place has the name, and no other
pub record IsNameOf (c : Parts) (p : Place) (bytes : List ℕ) : Type 0 where
  pub has : HasName c p bytes
  pub only : (q : Place) → HasName c q bytes → q ≡ p

-- two places, or more, have the name
pub record IsSharedName (c : Parts) (bytes : List ℕ) : Type 0 where
  pub one : Place
  pub other : Place
  pub one_has : HasName c one bytes
  pub other_has : HasName c other bytes
  pub differ : one ≢ other

-- the literal that a reference stands for
abbrev pub StandsFor : Parts → Reference → ℕ → Type 0
StandsFor c (place p) lit = literal_at c p ≡ Some lit
StandsFor c (literal n) lit = IsInRange c.top n × (lit ≡ n)
StandsFor c (name bytes) lit = (p : Place) × IsNameOf c p bytes × (literal_at c p ≡ Some lit)

-- a line spells a signal, which is this literal
abbrev pub SpellsSignal : Parts → List ℕ → ℕ → Type 0
SpellsSignal c line lit = (r : Reference) × IsForm r line × StandsFor c r lit

-- ---- a text

-- the lines spell these literals, one for each line that is a signal: at most ten, and no two equal
pub record SpellUpTo (c : Parts) (ls : List (List ℕ)) (lits : List ℕ) : Type 0 where
  pub each : AllZip (SpellsSignal c) (signal_lines ls) lits
  pub few : length lits ≤ 10
  pub once : AllPairs (λ k l. k ≢ l) lits

-- a text spells signals: its lines do, and there is one
pub record SpellsSignals (c : Parts) (text lits : List ℕ) : Type 0 where
  pub spelled : SpellUpTo c (lines text) lits
  pub some : 0 < length lits

-- ---- the faults

-- the place doesn't exist, or the literal is above the greatest
abbrev pub IsOutOfRange : Parts → Reference → Type 0
IsOutOfRange c (place p) = ¬ Exists c p
IsOutOfRange c (literal n) = ¬ IsInRange c.top n
IsOutOfRange c (name bytes) = ⊥

-- the first fault of a trimmed line, after signals with these literals
abbrev pub IsLineFault : Parts → List ℕ → List ℕ → SigKind → Type 0
IsLineFault c earlier line Form = (r : Reference) → ¬ IsForm r line
IsLineFault c earlier line Range = (r : Reference) × IsForm r line × IsOutOfRange c r
IsLineFault c earlier line NoName = (bytes : List ℕ) × IsForm (name bytes) line × IsNobodysName c bytes
IsLineFault c earlier line TwoNames = (bytes : List ℕ) × IsForm (name bytes) line × IsSharedName c bytes
IsLineFault c earlier line Repeated = (lit : ℕ) × SpellsSignal c line lit × Contains earlier lit
IsLineFault c earlier line TooMany = (lit : ℕ) × SpellsSignal c line lit × (¬ Contains earlier lit) × (length earlier ≡ 10)
IsLineFault c earlier line Empty = ⊥

-- the lines before this one spell signals, and this one has a fault; lines count from 1
pub record HasFaultyLine (c : Parts) (text : List ℕ) (line : ℕ) (kind : SigKind) : Type 0 where
  pub before : List (List ℕ)
  pub at_fault : List ℕ
  pub after : List (List ℕ)
  pub parts : lines text ≡ before ++ at_fault ∷ after
  pub at_line : line ≡ length before + 1
  pub earlier : List ℕ
  pub right : SpellUpTo c before earlier
  pub signal : IsTrue (is_signal (trimmed at_fault))
  pub fault : IsLineFault c earlier (trimmed at_fault) kind

-- no line is a signal: seen at line 0
pub record HasNoSignal (text : List ℕ) (line : ℕ) : Type 0 where
  pub none : signal_lines (lines text) ≡ []
  pub at_line : line ≡ 0

-- the first fault of a text has this kind, and is seen at this line
abbrev pub IsFirstFault : Parts → List ℕ → ℕ → SigKind → Type 0
IsFirstFault c text line Empty = HasNoSignal text line
IsFirstFault c text line kind = HasFaultyLine c text line kind

-- ---- what a call answers

-- the signals of this circuit that the text spells
pub record AreSignalsOf (c : Parts) (text : List ℕ) (s : SignalList) : Type 0 where
  pub circuit : s.circuit ≡ c
  pub spelled : SpellsSignals c text s.lits

-- a fault other than out of memory is the first one
abbrev pub IsFault : Parts → List ℕ → SigFault → Type 0
IsFault c text (faults.At line kind) = IsFirstFault c text line kind
IsFault c text faults.OutOfMemory = Unit {0}

-- a call answers so, unless memory runs out
abbrev pub Answers : Result SignalList SigFault → Result SignalList SigFault → Type 0
Answers result wanted = exactly.Answers faults.OutOfMemory result wanted
