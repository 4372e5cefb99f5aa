-- No text is read in two ways.
use Rattle.std.proofs.Common.{◌≡◌, ◌≢◌, ℕ, ◌+◌, ◌<◌, ◌≤◌, ◌⊎◌, Bool, true, false, cond, List, [], ◌∷◌, ◌++◌, length, map, filter, refl, sym, ap, ◌∙◌, subst, inl, inr, arith, AllPairs, length-append}
use Rattle.std.specs.List.{AllZip}
use Rattle.std.proofs.Math.ListN.{get_or-append}
use Rattle.std.proofs.Math.Seq.{get_or-append_seam}
use Rattle.std.proofs.lemmas.List.{map-append}
use Rattle.std.proofs.lemmas.List.Elements.{filter-append}
use Rattle.text_words.specs.Lines.{lines}
use Rattle.aig_model.specs.declared.parts.Parts.{Parts}
use Rattle.signal_list.specs.declared.fault.SigKind.{SigKind}
use Rattle.signal_list.specs.declared.fault.SigKind.TheVariants.{Form, Range, NoName, TwoNames, Repeated, TooMany, Empty}
use Rattle.signal_list.specs.SignalText.{trimmed, is_signal, signal_lines, SpellsSignal, SpellUpTo, SpellsSignals, IsLineFault, HasFaultyLine, HasNoSignal, IsFirstFault}
use Rattle.signal_list.proofs.Forms.{one-signal}
use Rattle.signal_list.proofs.LineFaults.{fault-spelled, one-line-fault}

abbrev Lines : Type 0
Lines = List (List ℕ)

-- ---- lines that are signals

pub signal_lines-append : (a b : Lines) → signal_lines (a ++ b) ≡ signal_lines a ++ signal_lines b
signal_lines-append a b = ap (filter is_signal) (map-append trimmed a b) ∙ filter-append is_signal (map trimmed a) (map trimmed b)

pub signal_lines-signal : (line : List ℕ) (more : Lines) → is_signal (trimmed line) ≡ true → signal_lines (line ∷ more) ≡ trimmed line ∷ signal_lines more
signal_lines-signal line more is = ap (λ (b : Bool). cond b (trimmed line ∷ signal_lines more) (signal_lines more)) is

pub signal_lines-other : (line : List ℕ) (more : Lines) → is_signal (trimmed line) ≡ false → signal_lines (line ∷ more) ≡ signal_lines more
signal_lines-other line more is = ap (λ (b : Bool). cond b (trimmed line ∷ signal_lines more) (signal_lines more)) is

-- ---- what lines spell

abbrev Each : Parts → Lines → List ℕ → Type 0
Each c ls lits = AllZip (SpellsSignal c) ls lits

one-each : (c : Parts) (ls : Lines) (k l : List ℕ) → Each c ls k → Each c ls l → k ≡ l
one-each c [] [] [] f g = refl
one-each c [] [] (y ∷ l) f g = absurd g
one-each c [] (x ∷ k) l f g = absurd f
one-each c (a ∷ ls) [] l f g = absurd f
one-each c (a ∷ ls) (x ∷ k) [] f g = absurd g
one-each c (a ∷ ls) (x ∷ k) (y ∷ l) f g = ap (λ (n : ℕ). n ∷ k) (one-signal c a x y f.0 g.0) ∙ ap (λ (ns : List ℕ). y ∷ ns) (one-each c ls k l f.1 g.1)

record Cut (c : Parts) (a b : Lines) (lits : List ℕ) : Type 0 where
  pub front : List ℕ
  pub back : List ℕ
  pub parts : lits ≡ front ++ back
  pub of_front : Each c a front
  pub of_back : Each c b back

cut : (c : Parts) (a b : Lines) (lits : List ℕ) → Each c (a ++ b) lits → Cut c a b lits
cut c [] b lits each = record { front = []; back = lits; parts = refl; of_front = tt; of_back = each }
cut c (l ∷ a) b [] each = absurd each
cut c (l ∷ a) b (x ∷ lits) each =
    let rest = cut c a b lits each.1 in
    record { front = x ∷ rest.front; back = rest.back; parts = ap (λ (ns : List ℕ). x ∷ ns) rest.parts; of_front = (each.0, rest.of_front); of_back = rest.of_back }

-- the next signal after those of the lines before it
record Next (c : Parts) (line : List ℕ) (earlier lits : List ℕ) : Type 0 where
  pub lit : ℕ
  pub later : List ℕ
  pub parts : lits ≡ earlier ++ lit ∷ later
  pub spelled : SpellsSignal c line lit

first : (c : Parts) (line : List ℕ) (more : Lines) (earlier back lits : List ℕ) → lits ≡ earlier ++ back → Each c (line ∷ more) back → Next c line earlier lits
first c line more earlier [] lits parts each = absurd each
first c line more earlier (x ∷ xs) lits parts each = record { lit = x; later = xs; parts = parts; spelled = each.0 }

next : (c : Parts) (before : Lines) (line : List ℕ) (after : Lines) (earlier lits : List ℕ) → Each c (signal_lines before) earlier → is_signal (trimmed line) ≡ true
    → Each c (signal_lines (before ++ line ∷ after)) lits → Next c (trimmed line) earlier lits
next c before line after earlier lits right is each =
    let split = signal_lines-append before (line ∷ after) ∙ ap (λ (ls : Lines). signal_lines before ++ ls) (signal_lines-signal line after is) in
    let parts = cut c (signal_lines before) (trimmed line ∷ signal_lines after) lits (subst (λ (ls : Lines). Each c ls lits) split each) in
    let same = one-each c (signal_lines before) parts.front earlier parts.of_front right in
    first c (trimmed line) (signal_lines after) earlier parts.back lits (parts.parts ∙ ap (λ (ns : List ℕ). ns ++ parts.back) same) parts.of_back

-- lines that spell signals have no faulty line among them
no-fault-within : (c : Parts) (before : Lines) (line : List ℕ) (after ls : Lines) (earlier lits : List ℕ) (kind : SigKind) → ls ≡ before ++ line ∷ after → SpellUpTo c ls lits
    → SpellUpTo c before earlier → is_signal (trimmed line) ≡ true → IsLineFault c earlier (trimmed line) kind → ⊥
no-fault-within c before line after ls earlier lits kind parts s right is fault =
    let n = next c before line after earlier lits right.each is (subst (λ (v : Lines). Each c (signal_lines v) lits) parts s.each) in
    let once : AllPairs (λ k l. k ≢ l) (earlier ++ n.lit ∷ n.later) = subst (AllPairs (λ k l. k ≢ l)) n.parts s.once in
    let few : length (earlier ++ n.lit ∷ n.later) ≤ 10 = subst (λ (ns : List ℕ). length ns ≤ 10) n.parts s.few in
    elim (fault-spelled c earlier (trimmed line) n.lit kind n.spelled fault) as (λ _. ⊥) [
      | inl had ↦
          once had.0 (length earlier) n.lit had.1 (omega (arith, length-append earlier (n.lit ∷ n.later)))
          (get_or-append earlier (n.lit ∷ n.later) n.lit had.0 had.1 ∙ had.2 ∙ sym (get_or-append_seam earlier n.lit n.later n.lit))
      | inr full ↦ omega (arith, few, full, length-append earlier (n.lit ∷ n.later))
    ]

-- ---- a text

pub one-list : (c : Parts) (text k l : List ℕ) → SpellsSignals c text k → SpellsSignals c text l → k ≡ l
one-list c text k l f g = one-each c (signal_lines (lines text)) k l f.spelled.each g.spelled.each

none-then-no-line : (before : Lines) (line : List ℕ) (after : Lines) → is_signal (trimmed line) ≡ true → signal_lines (before ++ line ∷ after) ≡ [] → ⊥
none-then-no-line before line after is none =
    some (signal_lines before) (sym (signal_lines-append before (line ∷ after) ∙ ap (λ (ls : Lines). signal_lines before ++ ls) (signal_lines-signal line after is)) ∙ none)
  where
    some : (a : Lines) → a ++ trimmed line ∷ signal_lines after ≡ [] → ⊥
    some [] e = cc
    some (x ∷ a) e = cc

-- a first fault is that of a line, or that no line is a signal
way : (c : Parts) (text : List ℕ) (line : ℕ) (kind : SigKind) → IsFirstFault c text line kind → ((kind ≡ Empty) × HasNoSignal text line) ⊎ HasFaultyLine c text line kind
way c text line Form f = inr f
way c text line Range f = inr f
way c text line NoName f = inr f
way c text line TwoNames f = inr f
way c text line Repeated f = inr f
way c text line TooMany f = inr f
way c text line Empty f = inl (refl, f)

none-spelled : (c : Parts) (lits : List ℕ) (ls : Lines) → ls ≡ [] → Each c ls lits → 0 < length lits → ⊥
none-spelled c [] ls none each some = omega (arith, some)
none-spelled c (x ∷ lits) [] none each some = each
none-spelled c (x ∷ lits) (l ∷ ls) none each some = cc

pub not-both : (c : Parts) (text lits : List ℕ) (line : ℕ) (kind : SigKind) → SpellsSignals c text lits → ¬ IsFirstFault c text line kind
not-both c text lits line kind s f =
    elim (way c text line kind f) as (λ _. ⊥) [
      | inl none ↦ none-spelled c lits (signal_lines (lines text)) none.1.none s.spelled.each s.some
      | inr h ↦ no-fault-within c h.before h.at_fault h.after (lines text) h.earlier lits kind h.parts s.spelled h.right h.signal h.fault
    ]

-- two places in one list are one, or one comes after the other
two-places : (a b : Lines) (x y : List ℕ) (p q : Lines) → a ++ x ∷ p ≡ b ++ y ∷ q
    → ((a ≡ b) × (x ≡ y)) ⊎ (((m : Lines) × (b ≡ a ++ x ∷ m)) ⊎ ((m : Lines) × (a ≡ b ++ y ∷ m)))
two-places [] [] x y p q e = inl (refl, cc)
two-places [] (z ∷ b) x y p q e = let same : x ≡ z = cc in inr (inl (b, ap (λ (w : List ℕ). w ∷ b) (sym same)))
two-places (z ∷ a) [] x y p q e = let same : z ≡ y = cc in inr (inr (a, ap (λ (w : List ℕ). w ∷ a) same))
two-places (z ∷ a) (w ∷ b) x y p q e =
    let same : z ≡ w = cc in
    let rest : a ++ x ∷ p ≡ b ++ y ∷ q = cc in
    elim (two-places a b x y p q rest) as (λ _. ((z ∷ a ≡ w ∷ b) × (x ≡ y)) ⊎ (((m : Lines) × (w ∷ b ≡ (z ∷ a) ++ x ∷ m)) ⊎ ((m : Lines) × (z ∷ a ≡ (w ∷ b) ++ y ∷ m)))) [
      | inl one ↦ inl (ap (λ (v : List ℕ). v ∷ a) same ∙ ap (λ (vs : Lines). w ∷ vs) one.0, one.1)
      | inr (inl m) ↦ inr (inl (m.0, ap (λ (v : List ℕ). v ∷ b) (sym same) ∙ ap (λ (vs : Lines). z ∷ vs) m.1))
      | inr (inr m) ↦ inr (inr (m.0, ap (λ (v : List ℕ). v ∷ a) same ∙ ap (λ (vs : Lines). w ∷ vs) m.1))
    ]

one-faulty-line : (c : Parts) (text : List ℕ) (m n : ℕ) (k l : SigKind) → HasFaultyLine c text m k → HasFaultyLine c text n l → (m ≡ n) × (k ≡ l)
one-faulty-line c text m n k l f g =
    elim (two-places f.before g.before f.at_fault g.at_fault f.after g.after (sym f.parts ∙ g.parts)) as (λ _. (m ≡ n) × (k ≡ l)) [
      | inl one ↦
          let earlier : g.earlier ≡ f.earlier = one-each c (signal_lines f.before) g.earlier f.earlier (subst (λ (ls : Lines). Each c (signal_lines ls) g.earlier) (sym one.0) g.right.each) f.right.each in
          let other : IsLineFault c f.earlier (trimmed f.at_fault) l =
          subst (λ (e : List ℕ). IsLineFault c e (trimmed f.at_fault) l) earlier (subst (λ (x : List ℕ). IsLineFault c g.earlier (trimmed x) l) (sym one.1) g.fault) in
          (f.at_line ∙ ap (λ (ls : Lines). length ls + 1) one.0 ∙ sym g.at_line, one-line-fault c f.earlier (trimmed f.at_fault) k l f.fault other)
      | inr (inl later) ↦ absurd (no-fault-within c f.before f.at_fault later.0 g.before f.earlier g.earlier k later.1 g.right f.right f.signal f.fault)
      | inr (inr later) ↦ absurd (no-fault-within c g.before g.at_fault later.0 f.before g.earlier f.earlier l later.1 f.right g.right g.signal g.fault)
    ]

none-or-line : (c : Parts) (text : List ℕ) (m n : ℕ) (kind : SigKind) → HasNoSignal text m → HasFaultyLine c text n kind → ⊥
none-or-line c text m n kind f g = none-then-no-line g.before g.at_fault g.after g.signal (sym (ap signal_lines g.parts) ∙ f.none)

pub one-fault : (c : Parts) (text : List ℕ) (m n : ℕ) (k l : SigKind) → IsFirstFault c text m k → IsFirstFault c text n l → (m ≡ n) × (k ≡ l)
one-fault c text m n k l f g =
    let G : Type 0 = (m ≡ n) × (k ≡ l) in
    let other : HasFaultyLine c text m k → G = λ h. elim (way c text n l g) as (λ _. G) [
      | inl none ↦ absurd (none-or-line c text n m k none.1 h)
      | inr line ↦ one-faulty-line c text m n k l h line
    ] in
    let empty : (k ≡ Empty) → HasNoSignal text m → G = λ is h. elim (way c text n l g) as (λ _. G) [
      | inl none ↦ (h.at_line ∙ sym none.1.at_line, is ∙ sym none.0)
      | inr line ↦ absurd (none-or-line c text m n l h line)
    ] in
    elim (way c text m k f) as (λ _. G) [ inl none ↦ empty none.0 none.1 | inr line ↦ other line ]
