-- A line is the form of one reference at most, and a reference stands for one literal at most.
use Rattle.std.proofs.Common.{◌≡◌, ◌≢◌, ℕ, Option, Some, codes, List, [], ◌∷◌, ◌++◌, length, refl, sym, ap, ◌∙◌, subst, arith}
use Rattle.std.specs.Option.{option_map}
use Rattle.std.proofs.lemmas.Option.{slice_get_within}
use Rattle.std.proofs.lemmas.List.{length-map}
use Rattle.text_words.specs.Numbers.{natural_of}
use Rattle.aig_model.specs.declared.parts.Latch.{Latch}
use Rattle.aig_model.specs.declared.parts.Parts.{Parts}
use Rattle.aig_model.specs.declared.parts.Place.{Place}
use Rattle.aig_model.specs.declared.parts.Place.TheVariants as places
use Rattle.aig_model.specs.WellFormed.{latch_lits, Exists}
use Rattle.signal_list.specs.SignalText.{Reference, place, literal, name, IsNumbered, IsForm, literal_at, StandsFor, SpellsSignal, IsOutOfRange}
use Rattle.signal_list.specs.Reading.{name_in, reference_of}

-- ---- forms

pub some-some : {A : Type 0} (x y : A) → ◌≡◌ {A = Option A} (Some x) (Some y) → x ≡ y
some-some x y e = cc

numbered : (letter line : List ℕ) (k : ℕ) (to : ℕ → Reference) → ((digits : List ℕ) → reference_of (letter ++ digits) ≡ option_map to (natural_of digits))
    → IsNumbered letter line k → reference_of line ≡ Some (to k)
numbered letter line k to reads h = ap reference_of h.1 ∙ reads h.0 ∙ ap (option_map to) h.2

name_in-some : (bytes : List ℕ) → bytes ≢ [] → name_in bytes ≡ Some (name bytes)
name_in-some [] some = absurd (some refl)
name_in-some (b ∷ bs) some = refl

pub form-read : (r : Reference) (line : List ℕ) → IsForm r line → reference_of line ≡ Some r
form-read (place (places.Input k)) line h = numbered (codes "i") line k (λ k. place (places.Input k)) (λ digits. refl) h
form-read (place (places.Latch k)) line h = numbered (codes "l") line k (λ k. place (places.Latch k)) (λ digits. refl) h
form-read (place (places.Output k)) line h = numbered (codes "o") line k (λ k. place (places.Output k)) (λ digits. refl) h
form-read (place (places.Bad k)) line h = numbered (codes "b") line k (λ k. place (places.Bad k)) (λ digits. refl) h
form-read (place (places.Constraint k)) line h = absurd h
form-read (literal k) line h = numbered (codes "n") line k (λ k. literal k) (λ digits. refl) h
form-read (name bytes) line h = ap reference_of h.1 ∙ name_in-some bytes h.0

pub one-form : (r s : Reference) (line : List ℕ) → IsForm r line → IsForm s line → r ≡ s
one-form r s line f g = some-some r s (sym (form-read r line f) ∙ form-read s line g)

-- ---- what a reference stands for

pub one-literal : (c : Parts) (r : Reference) (k l : ℕ) → StandsFor c r k → StandsFor c r l → k ≡ l
one-literal c (place p) k l f g = some-some k l (sym f ∙ g)
one-literal c (literal n) k l f g = f.1 ∙ sym g.1
one-literal c (name bytes) k l f g = some-some k l (sym f.2 ∙ ap (literal_at c) (g.1.only f.0 f.1.has) ∙ g.2)

pub one-signal : (c : Parts) (line : List ℕ) (k l : ℕ) → SpellsSignal c line k → SpellsSignal c line l → k ≡ l
one-signal c line k l f g = one-literal c f.0 k l f.2 (subst (λ (r : Reference). StandsFor c r l) (one-form g.0 f.0 line g.1 f.1) g.2)

pub length-latch_lits : (c : Parts) → length (latch_lits c.latches) ≡ length c.latches
length-latch_lits c = length-map c.latches (λ (l : Latch). l.lit)

literal_at-exists : (c : Parts) (p : Place) (lit : ℕ) → literal_at c p ≡ Some lit → Exists c p
literal_at-exists c (places.Input k) lit e = slice_get_within c.inputs k lit e
literal_at-exists c (places.Latch k) lit e = let within = slice_get_within (latch_lits c.latches) k lit e in omega (arith, within, length-latch_lits c)
literal_at-exists c (places.Output k) lit e = slice_get_within c.outputs k lit e
literal_at-exists c (places.Bad k) lit e = slice_get_within c.bads k lit e
literal_at-exists c (places.Constraint k) lit e = slice_get_within c.constraints k lit e

pub in-range : (c : Parts) (r : Reference) (lit : ℕ) → StandsFor c r lit → ¬ IsOutOfRange c r
in-range c (place p) lit s out = out (literal_at-exists c p lit s)
in-range c (literal n) lit s out = out s.0
in-range c (name bytes) lit s out = out
