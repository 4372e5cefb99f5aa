-- Reading line by line: what is known after the lines that are done.
use Rattle.std.proofs.Common.{◌≡◌, Result, Ok, Err, IfErr, ◌≢◌, ℕ, ◌+◌, ◌<◌, true, false, List, [], ◌∷◌, ◌++◌, length, get_or, refl, sym, ap, ◌∙◌, subst, arith, Contains, AllPairs, length-append}
use Rattle.std.specs.List.{AllZip}
use Rattle.std.specs.Result.{IsErrAnd}
use Rattle.std.proofs.lemmas.List.{append-nil, append_assoc}
use Rattle.std.proofs.lemmas.List.Elements.{Contains-append_right, Contains-get_or}
use Rattle.std.proofs.lemmas.List.Quantifiers.{all_pairs_push}
use Rattle.text_words.specs.Lines.{lines}
use Rattle.aig_model.specs.declared.parts.Parts.{Parts}
use Rattle.signal_list.specs.declared.fault.SigKind.{SigKind}
use Rattle.signal_list.specs.declared.fault.SigKind.TheVariants.{Form, Range, NoName, TwoNames, Repeated, TooMany, Empty}
use Rattle.text_words.specs.declared.fault.LineFault.{LineFault}
use Rattle.text_words.specs.declared.fault.LineFault.TheVariants as stops
use Rattle.signal_list.specs.SignalText.{trimmed, is_signal, signal_lines, SpellsSignal, SpellUpTo, SpellsSignals, HasFaultyLine, HasNoSignal, IsFirstFault, IsFault}
use Rattle.signal_list.specs.Names.{Table, IsAsked, AreAsked}
use Rattle.signal_list.specs.Reading.{JoinsOf, IsOwnFault, IsFaultAfter, on_line}
use Rattle.signal_list.proofs.OneReading.{signal_lines-append, signal_lines-signal, signal_lines-other}

abbrev Lines : Type 0
Lines = List (List ℕ)

-- the lines up to this number spell these literals, and the rest is to come
pub record IsReadUpTo (c : Parts) (text : List ℕ) (number : ℕ) (rest : Lines) (lits : List ℕ) : Type 0 where
  pub done : Lines
  pub parts : lines text ≡ done ++ rest
  pub count : number ≡ length done
  pub spelled : SpellUpTo c done lits

pub begins : (c : Parts) (text : List ℕ) → IsReadUpTo c text 0 (lines text) []
begins c text = record {
  done = [];
  parts = refl;
  count = refl;
  spelled = record { each = tt; few = omega arith; once = λ i j d before within. absurd (omega (arith, within)) };
}

one-more : (text : List ℕ) (done : Lines) (line : List ℕ) (rest : Lines) → lines text ≡ done ++ line ∷ rest → lines text ≡ (done ++ line ∷ []) ++ rest
one-more text done line rest parts = parts ∙ sym (append_assoc done (line ∷ []) rest)

each-push : (c : Parts) (ls : Lines) (lits : List ℕ) (line : List ℕ) (lit : ℕ) → AllZip (SpellsSignal c) ls lits → SpellsSignal c line lit → AllZip (SpellsSignal c) (ls ++ line ∷ []) (lits ++ lit ∷ [])
each-push c [] [] line lit each s = (s, tt)
each-push c [] (x ∷ lits) line lit each s = absurd each
each-push c (l ∷ ls) [] line lit each s = absurd each
each-push c (l ∷ ls) (x ∷ lits) line lit each s = (each.0, each-push c ls lits line lit each.1 s)

-- a line that is passed over
pub passes : (c : Parts) (text : List ℕ) (number : ℕ) (line : List ℕ) (rest : Lines) (lits : List ℕ) → IsReadUpTo c text number (line ∷ rest) lits → is_signal (trimmed line) ≡ false
    → IsReadUpTo c text (number + 1) rest lits
passes c text number line rest lits r other =
    let same : signal_lines (r.done ++ line ∷ []) ≡ signal_lines r.done =
    signal_lines-append r.done (line ∷ []) ∙ ap (λ (ls : Lines). signal_lines r.done ++ ls) (signal_lines-other line [] other) ∙ append-nil (signal_lines r.done) in
    record {
      done = r.done ++ line ∷ [];
      parts = one-more text r.done line rest r.parts;
      count = omega (arith, r.count, length-append r.done (line ∷ []));
      spelled = record { each = subst (λ (ls : Lines). AllZip (SpellsSignal c) ls lits) (sym same) r.spelled.each; few = r.spelled.few; once = r.spelled.once };
    }

-- a signal
pub adds : (c : Parts) (text : List ℕ) (number : ℕ) (line : List ℕ) (rest : Lines) (old new : List ℕ) → IsReadUpTo c text number (line ∷ rest) old → is_signal (trimmed line) ≡ true
    → JoinsOf c (trimmed line) old new → IsReadUpTo c text (number + 1) rest new
adds c text number line rest old new r is j =
    let lit = j.0 in
    let joins = j.2 in
    let same : signal_lines (r.done ++ line ∷ []) ≡ signal_lines r.done ++ trimmed line ∷ [] =
    signal_lines-append r.done (line ∷ []) ∙ ap (λ (ls : Lines). signal_lines r.done ++ ls) (signal_lines-signal line [] is) in
    let each : AllZip (SpellsSignal c) (signal_lines (r.done ++ line ∷ [])) (old ++ lit ∷ []) =
    subst (λ (ls : Lines). AllZip (SpellsSignal c) ls (old ++ lit ∷ [])) (sym same) (each-push c (signal_lines r.done) old (trimmed line) lit r.spelled.each j.1) in
    let differs : (k : ℕ) (d : ℕ) → k < length old → get_or old k d ≢ lit = λ k d within e. joins.new_literal (subst (Contains old) e (Contains-get_or old k d within)) in
    let once : AllPairs (λ k l. k ≢ l) (old ++ lit ∷ []) = all_pairs_push (λ (k l : ℕ). k ≢ l) old lit r.spelled.once differs in
    record {
      done = r.done ++ line ∷ [];
      parts = one-more text r.done line rest r.parts;
      count = omega (arith, r.count, length-append r.done (line ∷ []));
      spelled = subst (SpellUpTo c (r.done ++ line ∷ [])) (sym joins.last) (record { each = each; few = omega (arith, joins.room, length-append old (lit ∷ [])); once = once });
    }

-- the line's name is asked for
pub is-asked : {S : Type 0} (c : Parts) (text : List ℕ) (number : ℕ) (line : List ℕ) (rest : Lines) (lits : List ℕ) (owners : Table S) → IsReadUpTo c text number (line ∷ rest) lits
    → AreAsked (lines text) owners → IsAsked (trimmed line) owners
is-asked c text number line rest lits owners r asked =
    let here : Contains (line ∷ rest) line = (0, omega arith, refl) in
    asked line (subst (λ (ls : Lines). Contains ls line) (sym r.parts) (Contains-append_right r.done (line ∷ rest) line here))

-- ---- the ends

first-fault : (c : Parts) (text : List ℕ) (line : ℕ) (kind : SigKind) → HasFaultyLine c text line kind → IsFirstFault c text line kind
first-fault c text line Form f = f
first-fault c text line Range f = f
first-fault c text line NoName f = f
first-fault c text line TwoNames f = f
first-fault c text line Repeated f = f
first-fault c text line TooMany f = f
first-fault c text line Empty f = absurd f.fault

pub fails : (c : Parts) (text : List ℕ) (number : ℕ) (line : List ℕ) (rest : Lines) (lits : List ℕ) (fault : LineFault SigKind) → IsReadUpTo c text number (line ∷ rest) lits
    → is_signal (trimmed line) ≡ true → IsFaultAfter c lits (trimmed line) fault → IsFault c text (on_line (number + 1) fault)
fails c text number line rest lits (stops.Kind kind) r is f = first-fault c text (number + 1) kind (record {
  before = r.done;
  at_fault = line;
  after = rest;
  parts = r.parts;
  at_line = omega (arith, r.count);
  earlier = lits;
  right = r.spelled;
  signal = is;
  fault = f;
})
fails c text number line rest lits stops.OutOfMemory r is f = tt

all-done : (c : Parts) (text : List ℕ) (number : ℕ) (lits : List ℕ) → IsReadUpTo c text number [] lits → SpellUpTo c (lines text) lits
all-done c text number lits r = subst (λ (ls : Lines). SpellUpTo c ls lits) (sym (r.parts ∙ append-nil r.done)) r.spelled

pub ends : (c : Parts) (text : List ℕ) (number : ℕ) (lits : List ℕ) → IsReadUpTo c text number [] lits → lits ≢ [] → SpellsSignals c text lits
ends c text number lits r other = record { spelled = all-done c text number lits r; some = more lits other }
  where
    more : (xs : List ℕ) → xs ≢ [] → 0 < length xs
    more [] other = absurd (other refl)
    more (x ∷ xs) other = omega arith

pub ends-empty : (c : Parts) (text : List ℕ) (number : ℕ) (lits : List ℕ) → IsReadUpTo c text number [] lits → lits ≡ [] → HasNoSignal text 0
ends-empty c text number lits r none = record {
  none = no-lines (signal_lines (lines text)) (subst (AllZip (SpellsSignal c) (signal_lines (lines text))) none (all-done c text number lits r).each);
  at_line = refl;
}
  where
    no-lines : (ls : Lines) → AllZip (SpellsSignal c) ls [] → ls ≡ []
    no-lines [] each = refl
    no-lines (l ∷ ls) each = absurd each

-- a line's own fault, as a `?` hands it on
pub own-fault : {A : Type 0} (c : Parts) (earlier line : List ℕ) (r : Result A (LineFault SigKind)) (kind : SigKind) → IsErrAnd r (λ e. e ≡ stops.Kind kind) → IsOwnFault c line kind
    → IfErr r (IsFaultAfter c earlier line)
own-fault c earlier line (Ok x) kind is fault = tt
own-fault c earlier line (Err e) kind is fault = subst (IsFaultAfter c earlier line) (sym is) (fault earlier)
