-- A line spells a signal or has one first fault.
use Rattle.std.proofs.Common.{◌≡◌, ℕ, ◌⊎◌, List, length, refl, sym, ◌∙◌, subst, inl, inr, Contains}
use Rattle.aig_model.specs.declared.parts.Parts.{Parts}
use Rattle.signal_list.specs.declared.fault.SigKind.{SigKind}
use Rattle.signal_list.specs.declared.fault.SigKind.TheVariants.{Form, Range, NoName, TwoNames, Repeated, TooMany, Empty}
use Rattle.signal_list.specs.SignalText.{Reference, name, IsForm, IsNobodysName, IsSharedName, StandsFor, SpellsSignal, IsOutOfRange, IsLineFault}
use Rattle.signal_list.proofs.Forms.{one-form, one-signal, in-range}

-- ---- a signal has no fault of its own line

spelled-in-range : (c : Parts) (line : List ℕ) (lit : ℕ) (r : Reference) → SpellsSignal c line lit → IsForm r line → ¬ IsOutOfRange c r
spelled-in-range c line lit r s f out = in-range c r lit (subst (λ (q : Reference). StandsFor c q lit) (one-form s.0 r line s.1 f) s.2) out

spelled-named : (c : Parts) (line bytes : List ℕ) (lit : ℕ) → SpellsSignal c line lit → IsForm (name bytes) line → StandsFor c (name bytes) lit
spelled-named c line bytes lit s f = subst (λ (q : Reference). StandsFor c q lit) (one-form s.0 (name bytes) line s.1 f) s.2

spelled-owned : (c : Parts) (line bytes : List ℕ) (lit : ℕ) → SpellsSignal c line lit → IsForm (name bytes) line → ¬ IsNobodysName c bytes
spelled-owned c line bytes lit s f none = let n = spelled-named c line bytes lit s f in none n.0 n.1.has

spelled-unshared : (c : Parts) (line bytes : List ℕ) (lit : ℕ) → SpellsSignal c line lit → IsForm (name bytes) line → ¬ IsSharedName c bytes
spelled-unshared c line bytes lit s f shared =
    let n = spelled-named c line bytes lit s f in
    shared.differ (n.1.only shared.one shared.one_has ∙ sym (n.1.only shared.other shared.other_has))

-- a signal that has a fault has an earlier signal's literal, or is the eleventh
pub fault-spelled : (c : Parts) (earlier line : List ℕ) (lit : ℕ) (kind : SigKind) → SpellsSignal c line lit → IsLineFault c earlier line kind
    → Contains earlier lit ⊎ (length earlier ≡ 10)
fault-spelled c earlier line lit Form s f = absurd (f s.0 s.1)
fault-spelled c earlier line lit Range s f = absurd (spelled-in-range c line lit f.0 s f.1 f.2)
fault-spelled c earlier line lit NoName s f = absurd (spelled-owned c line f.0 lit s f.1 f.2)
fault-spelled c earlier line lit TwoNames s f = absurd (spelled-unshared c line f.0 lit s f.1 f.2)
fault-spelled c earlier line lit Repeated s f = inl (subst (Contains earlier) (one-signal c line f.0 lit f.1 s) f.2)
fault-spelled c earlier line lit TooMany s f = inr f.3
fault-spelled c earlier line lit Empty s f = absurd f

-- ---- a line has one fault

name-name : (a b : List ℕ) → name a ≡ name b → a ≡ b
name-name a b e = cc

same-name : (line a b : List ℕ) → IsForm (name a) line → IsForm (name b) line → a ≡ b
same-name line a b f g = name-name a b (one-form (name a) (name b) line f g)

from-form : (c : Parts) (earlier line : List ℕ) (kind : SigKind) → ((r : Reference) → ¬ IsForm r line) → IsLineFault c earlier line kind → Form ≡ kind
from-form c earlier line Form f g = refl
from-form c earlier line Range f g = absurd (f g.0 g.1)
from-form c earlier line NoName f g = absurd (f (name g.0) g.1)
from-form c earlier line TwoNames f g = absurd (f (name g.0) g.1)
from-form c earlier line Repeated f g = absurd (f g.1.0 g.1.1)
from-form c earlier line TooMany f g = absurd (f g.1.0 g.1.1)
from-form c earlier line Empty f g = absurd g

named-in-range : (c : Parts) (line bytes : List ℕ) (r : Reference) → IsForm r line → IsOutOfRange c r → ¬ IsForm (name bytes) line
named-in-range c line bytes r f out g = subst (λ (q : Reference). IsOutOfRange c q) (one-form r (name bytes) line f g) out

from-range : (c : Parts) (earlier line : List ℕ) (kind : SigKind) (r : Reference) → IsForm r line → IsOutOfRange c r → IsLineFault c earlier line kind → Range ≡ kind
from-range c earlier line Form r f out g = absurd (g r f)
from-range c earlier line Range r f out g = refl
from-range c earlier line NoName r f out g = absurd (named-in-range c line g.0 r f out g.1)
from-range c earlier line TwoNames r f out g = absurd (named-in-range c line g.0 r f out g.1)
from-range c earlier line Repeated r f out g = absurd (spelled-in-range c line g.0 r g.1 f out)
from-range c earlier line TooMany r f out g = absurd (spelled-in-range c line g.0 r g.1 f out)
from-range c earlier line Empty r f out g = absurd g

from-no-name : (c : Parts) (earlier line : List ℕ) (kind : SigKind) (bytes : List ℕ) → IsForm (name bytes) line → IsNobodysName c bytes → IsLineFault c earlier line kind → NoName ≡ kind
from-no-name c earlier line Form bytes f none g = absurd (g (name bytes) f)
from-no-name c earlier line Range bytes f none g = absurd (named-in-range c line bytes g.0 g.1 g.2 f)
from-no-name c earlier line NoName bytes f none g = refl
from-no-name c earlier line TwoNames bytes f none g =
    let same = same-name line g.0 bytes g.1 f in
    let shared = subst (IsSharedName c) same g.2 in
    absurd (none shared.one shared.one_has)
from-no-name c earlier line Repeated bytes f none g = absurd (spelled-owned c line bytes g.0 g.1 f none)
from-no-name c earlier line TooMany bytes f none g = absurd (spelled-owned c line bytes g.0 g.1 f none)
from-no-name c earlier line Empty bytes f none g = absurd g

from-two-names : (c : Parts) (earlier line : List ℕ) (kind : SigKind) (bytes : List ℕ) → IsForm (name bytes) line → IsSharedName c bytes → IsLineFault c earlier line kind → TwoNames ≡ kind
from-two-names c earlier line NoName bytes f shared g = sym (from-no-name c earlier line TwoNames g.0 g.1 g.2 (bytes, f, shared))
from-two-names c earlier line Form bytes f shared g = absurd (g (name bytes) f)
from-two-names c earlier line Range bytes f shared g = absurd (named-in-range c line bytes g.0 g.1 g.2 f)
from-two-names c earlier line TwoNames bytes f shared g = refl
from-two-names c earlier line Repeated bytes f shared g = absurd (spelled-unshared c line bytes g.0 g.1 f shared)
from-two-names c earlier line TooMany bytes f shared g = absurd (spelled-unshared c line bytes g.0 g.1 f shared)
from-two-names c earlier line Empty bytes f shared g = absurd g

pub one-line-fault : (c : Parts) (earlier line : List ℕ) (k l : SigKind) → IsLineFault c earlier line k → IsLineFault c earlier line l → k ≡ l
one-line-fault c earlier line Form l f g = from-form c earlier line l f g
one-line-fault c earlier line Range l f g = from-range c earlier line l f.0 f.1 f.2 g
one-line-fault c earlier line NoName l f g = from-no-name c earlier line l f.0 f.1 f.2 g
one-line-fault c earlier line TwoNames l f g = from-two-names c earlier line l f.0 f.1 f.2 g
one-line-fault c earlier line Repeated Form f g = absurd (g f.1.0 f.1.1)
one-line-fault c earlier line Repeated Range f g = sym (from-range c earlier line Repeated g.0 g.1 g.2 f)
one-line-fault c earlier line Repeated NoName f g = sym (from-no-name c earlier line Repeated g.0 g.1 g.2 f)
one-line-fault c earlier line Repeated TwoNames f g = sym (from-two-names c earlier line Repeated g.0 g.1 g.2 f)
one-line-fault c earlier line Repeated Repeated f g = refl
one-line-fault c earlier line Repeated TooMany f g = absurd (g.2 (subst (Contains earlier) (one-signal c line f.0 g.0 f.1 g.1) f.2))
one-line-fault c earlier line Repeated Empty f g = absurd g
one-line-fault c earlier line TooMany Form f g = absurd (g f.1.0 f.1.1)
one-line-fault c earlier line TooMany Range f g = sym (from-range c earlier line TooMany g.0 g.1 g.2 f)
one-line-fault c earlier line TooMany NoName f g = sym (from-no-name c earlier line TooMany g.0 g.1 g.2 f)
one-line-fault c earlier line TooMany TwoNames f g = sym (from-two-names c earlier line TooMany g.0 g.1 g.2 f)
one-line-fault c earlier line TooMany Repeated f g = absurd (f.2 (subst (Contains earlier) (one-signal c line g.0 f.0 g.1 f.1) g.2))
one-line-fault c earlier line TooMany TooMany f g = refl
one-line-fault c earlier line TooMany Empty f g = absurd g
one-line-fault c earlier line Empty l f g = absurd f
