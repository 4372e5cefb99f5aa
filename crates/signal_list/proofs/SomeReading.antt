-- Each text spells signals of a well-formed circuit, or has a first fault.
use Rattle.std.proofs.Common.{◌≡◌, ℕ, ◌+◌, ◌*◌, ◌⊎◌, Bool, true, false, Option, Some, None, List, [], ◌∷◌, ◌++◌, length, refl, sym, ◌∙◌, inl, inr, arith}
use Rattle.std.proofs.lemmas.Bool.{cases_lt}
use Rattle.std.proofs.lemmas.List.Elements.{All-contains}
use Rattle.text_words.specs.Lines.{lines}
use Rattle.aig_model.specs.declared.parts.Named.{Named}
use Rattle.aig_model.specs.declared.parts.Parts.{Parts}
use Rattle.aig_model.specs.declared.parts.Place.{Place}
use Rattle.aig_model.specs.WellFormed.{Exists, IsCircuit}
use Rattle.aig_model.proofs.Elements.{Contains-or_not}
use Rattle.signal_list.specs.declared.fault.SigKind.{SigKind}
use Rattle.signal_list.specs.declared.fault.SigKind.TheVariants.{Form, Range, NoName, TwoNames, Repeated, TooMany, Empty}
use Rattle.text_words.specs.declared.fault.LineFault.TheVariants as stops
use Rattle.signal_list.specs.declared.names.Owner.{Owner}
use Rattle.signal_list.specs.declared.names.Owner.TheVariants.{One, Several}
use Rattle.signal_list.specs.Names.{owner_of}
use Rattle.signal_list.specs.Reading.{reference_of}
use Rattle.signal_list.specs.SignalText.{Reference, place, literal, name, trimmed, is_signal, IsForm, literal_at, IsNameOf, SpellsSignal, SpellsSignals, IsLineFault, IsFirstFault}
use Rattle.signal_list.proofs.Forms.{form-read}
use Rattle.signal_list.proofs.Owners.{owner-none, owner-one, owner-several}
use Rattle.signal_list.proofs.Progress.{IsReadUpTo, begins, passes, adds, fails, ends, ends-empty}
use Rattle.signal_list.proofs.Signals.{form-of, no-place}

-- ---- a line

-- the line spells a signal, or has a fault of its own
abbrev LineWay : Parts → List ℕ → Type 0
LineWay c line = ((lit : ℕ) × SpellsSignal c line lit) ⊎ ((kind : SigKind) × ((earlier : List ℕ) → IsLineFault c earlier line kind))

by-place : (c : Parts) (line : List ℕ) (p : Place) → IsForm (place p) line → (o : Option ℕ) → literal_at c p ≡ o → LineWay c line
by-place c line p form None is = inr (Range, λ earlier. (place p, form, no-place c p is))
by-place c line p form (Some lit) is = inl (lit, (place p, form, is))

by-literal : (c : Parts) (line : List ℕ) (n : ℕ) → IsForm (literal n) line → LineWay c line
by-literal c line n form = elim (cases_lt (2 * c.top + 1) n) as (λ _. LineWay c line) [
  | inl above ↦ inr (Range, λ earlier. (literal n, form, λ small. omega (arith, above, small)))
  | inr small ↦ inl (n, (literal n, form, (small, refl)))
]

named-literal : (c : Parts) (line bytes : List ℕ) (p : Place) → IsCircuit c → IsForm (name bytes) line → IsNameOf c p bytes → (o : Option ℕ) → literal_at c p ≡ o → LineWay c line
named-literal c line bytes p well form of None is =
    absurd (no-place c p is (All-contains (λ (n : Named). Exists c n.place) c.names (record { place = p; name = bytes }) well.names.exist of.has))
named-literal c line bytes p well form of (Some lit) is = inl (lit, (name bytes, form, (p, of, is)))

by-name : (c : Parts) (line bytes : List ℕ) → IsCircuit c → IsForm (name bytes) line → (o : Option Owner) → owner_of c.names bytes ≡ o → LineWay c line
by-name c line bytes well form None is = inr (NoName, λ earlier. (bytes, form, owner-none c bytes is))
by-name c line bytes well form (Some Several) is = inr (TwoNames, λ earlier. (bytes, form, owner-several c bytes well.names.once is))
by-name c line bytes well form (Some (One p)) is = named-literal c line bytes p well form (owner-one c bytes p is) (literal_at c p) refl

by-reference : (c : Parts) (line : List ℕ) (r : Reference) → IsCircuit c → IsForm r line → LineWay c line
by-reference c line (place p) well form = by-place c line p form (literal_at c p) refl
by-reference c line (literal n) well form = by-literal c line n form
by-reference c line (name bytes) well form = by-name c line bytes well form (owner_of c.names bytes) refl

line-way : (c : Parts) (line : List ℕ) → IsCircuit c → LineWay c line
line-way c line well = at (reference_of line) refl
  where
    at : (o : Option Reference) → reference_of line ≡ o → LineWay c line
    at None is = inr (Form, λ earlier r form. let no : ◌≡◌ {A = Option Reference} None (Some r) = sym is ∙ form-read r line form in cc)
    at (Some r) is = by-reference c line r well (form-of line r is)

-- ---- a text

abbrev Way : Parts → List ℕ → Type 0
Way c text = ((lits : List ℕ) × SpellsSignals c text lits) ⊎ ((line : ℕ) × (kind : SigKind) × IsFirstFault c text line kind)

at-end : (c : Parts) (text : List ℕ) (number : ℕ) (lits : List ℕ) → IsReadUpTo c text number [] lits → Way c text
at-end c text number [] r = inr (0, Empty, ends-empty c text number [] r refl)
at-end c text number (x ∷ lits) r = inl (x ∷ lits, ends c text number (x ∷ lits) r (λ none. cc))

-- a signal that is not repeated joins, or is the eleventh
at-signal : (c : Parts) (text : List ℕ) (number : ℕ) (line : List ℕ) (rest : List (List ℕ)) (lits : List ℕ) → IsReadUpTo c text number (line ∷ rest) lits → is_signal (trimmed line) ≡ true
    → (lit : ℕ) → SpellsSignal c (trimmed line) lit → ((new : List ℕ) → IsReadUpTo c text (number + 1) rest new → Way c text) → Way c text
at-signal c text number line rest lits r is lit s more =
    let few = r.spelled.few in
    elim (Contains-or_not lits lit) as (λ _. Way c text) [
      | inl had ↦ inr (number + 1, Repeated, fails c text number line rest lits (stops.Kind Repeated) r is (lit, s, had))
      | inr new ↦ elim (cases_lt (length lits) 10) as (λ _. Way c text) [
        | inl room ↦ more (lits ++ lit ∷ []) (adds c text number line rest lits (lits ++ lit ∷ []) r is (lit, s, record { new_literal = new; room = room; last = refl }))
        | inr full ↦ inr (number + 1, TooMany, fails c text number line rest lits (stops.Kind TooMany) r is (lit, s, new, omega (arith, few, full)))
      ]
    ]

at-line : (c : Parts) (text : List ℕ) (number : ℕ) (line : List ℕ) (rest : List (List ℕ)) (lits : List ℕ) → IsCircuit c → IsReadUpTo c text number (line ∷ rest) lits
    → ((new : List ℕ) → IsReadUpTo c text (number + 1) rest new → Way c text) → Way c text
at-line c text number line rest lits well r more = at (is_signal (trimmed line)) refl
  where
    at : (b : Bool) → is_signal (trimmed line) ≡ b → Way c text
    at false is = more lits (passes c text number line rest lits r is)
    at true is = elim (line-way c (trimmed line) well) as (λ _. Way c text) [
      | inl s ↦ at-signal c text number line rest lits r is s.0 s.1 more
      | inr f ↦ inr (number + 1, f.0, fails c text number line rest lits (stops.Kind f.0) r is (f.1 lits))
    ]

from : (c : Parts) (text : List ℕ) → IsCircuit c → (number : ℕ) (rest : List (List ℕ)) (lits : List ℕ) → IsReadUpTo c text number rest lits → Way c text
from c text well number [] lits r = at-end c text number lits r
from c text well number (line ∷ rest) lits r = at-line c text number line rest lits well r (λ new s. from c text well (number + 1) rest new s)

pub some-reading : (c : Parts) (text : List ℕ) → IsCircuit c → Way c text
some-reading c text well = from c text well 0 (lines text) [] (begins c text)
