-- Items one after another, and sections, which count them first.
use Rattle.std.proofs.Common.{◌≡◌, ℕ, zero, suc, ◌+◌, ◌<◌, ◌^◌, List, [], ◌∷◌, ◌++◌, length, replicate, refl, sym, ap, ◌∙◌, subst, subst₂, append_assoc, arith}
use Rattle.std.specs.List.{AllByRecursion}
use Rattle.std.proofs.lemmas.List.{length-replicate, length-append}
use Rattle.std.proofs.lemmas.List.Concat.{flat_map-append}
use Rattle.report_text.specs.Form.{IsCounted}
use Rattle.report_text.specs.Text.{Word, Line, line, text, number_words, numbered_lines, section_lines}
use Rattle.report_text.proofs.Lines.{IsWord, IsLine, AreLines}
use Rattle.report_text.proofs.Pieces.{IsSpelling, all-append, one_line, number_words-is_line, number_words-tells}
use Rattle.report_sections.specs.Items.{HasItems}
use Rattle.report_lines.specs.Reading.{Place}
use Rattle.report_sections.specs.Pieces.{Speak, StopsAt, Passes}
use Rattle.report_lines.specs.declared.fault.ReportFault.{ReportFault}
use Rattle.report_sections.proofs.Stops.{Same, Then, stops_same, stops_first, stops_later}

pub passes_then : (l m : List Line) (p q r : Place) → Passes l p q → Passes m q r → Passes (l ++ m) p r
passes_then l m p q r a b = record {
  bytes = a.bytes ∙ (ap (λ (t : List ℕ). text l ++ t) b.bytes ∙ (sym (append_assoc (text l) (text m) r.bytes) ∙ ap (λ (t : List ℕ). t ++ r.bytes) (sym (flat_map-append line l m))));
  line = omega (arith, length-append l m, a.line, b.line);
}

pub passes_none : (p : Place) → Passes [] p p
passes_none p = record { bytes = refl; line = omega arith }

-- ---- items
all-replicate : {A : Type 0} (Fits : A → Type 0) (n : ℕ) (a : A) → Fits a → AllByRecursion Fits (replicate n a)
all-replicate Fits zero a f = tt
all-replicate Fits (suc n) a f = (f, all-replicate Fits n a f)

items-some : {A : Type 0} (Fits : A → Type 0) (lines : ℕ → A → List Line) (k n : ℕ) (a : A) → Fits a → (r : List Line) × Speak (HasItems Fits n) (numbered_lines lines k) r
items-some Fits lines k n a f = (
  numbered_lines lines k (replicate n a),
  record { value = replicate n a; fits = record { size = length-replicate n a; each = all-replicate Fits n a f }; are = refl },
)

items-plain : {A : Type 0} (Fits : A → Type 0) (lines : ℕ → A → List Line) → ((n : ℕ) (a : A) → n < 2 ^ 32 → Fits a → AreLines (lines n a)) → (k : ℕ) (xs : List A) → k + length xs < 2 ^ 32 → AllByRecursion Fits xs → AreLines (numbered_lines lines k xs)
items-plain Fits lines plain k [] room f = tt
items-plain Fits lines plain k (x ∷ xs) room f = all-append IsLine (lines k x) (numbered_lines lines (k + 1) xs) (plain k x (omega arith) f.0) (items-plain Fits lines plain (k + 1) xs (omega arith) f.1)

abbrev rest_of : {A : Type 0} → (A → Type 0) → (ℕ → A → List Line) → ℕ → ℕ → A → List Line → Type 0
rest_of Fits lines k n a = Speak (HasItems Fits n) (numbered_lines lines (k + 1))

items-back : {A : Type 0} (Fits : A → Type 0) (lines : ℕ → A → List Line) (k n : ℕ) (ls : List Line) (xs : List A) → HasItems Fits (suc n) xs → numbered_lines lines k xs ≡ ls → Then Fits (lines k) (rest_of Fits lines k n) ls
items-back Fits lines k n ls [] f e = absurd (omega (arith, f.size))
items-back Fits lines k n ls (x ∷ xs) f e = record {
  first = x;
  fits = f.each.0;
  rest = numbered_lines lines (k + 1) xs;
  said = record { value = xs; fits = record { size = omega (arith, f.size); each = f.each.1 }; are = refl };
  parts = sym e;
}

items-same : {A : Type 0} (Fits : A → Type 0) (lines : ℕ → A → List Line) (k n : ℕ) → Same (Then Fits (lines k) (rest_of Fits lines k n)) (Speak (HasItems Fits (suc n)) (numbered_lines lines k))
items-same {A} Fits lines k n = record {
  there = λ ls t. record {
    value = t.first ∷ t.said.value;
    fits = record { size = ap suc t.said.fits.size; each = (t.fits, t.said.fits.each) };
    are = ap (λ (m : List Line). lines k t.first ++ m) t.said.are ∙ sym t.parts;
  };
  back = λ ls s. items-back Fits lines k n ls s.value s.fits s.are;
}

pub record AreItems {A : Type 0} (Fits : A → Type 0) (lines : ℕ → A → List Line) : Type 0 where
  pub each : (n : ℕ) → n < 2 ^ 32 → IsSpelling Fits (lines n)
  pub some : A
  pub some_fits : Fits some

-- after so many items the next one stops reading
pub stops_items : {A : Type 0} (Fits : A → Type 0) (lines : ℕ → A → List Line) (k n : ℕ) (xs : List A) (p q : Place) (e : ReportFault) → AreItems Fits lines → k + n < 2 ^ 32 → length xs < n
    → AllByRecursion Fits xs → Passes (numbered_lines lines k xs) p q → StopsAt (Speak Fits (lines (k + length xs))) q e → StopsAt (Speak (HasItems Fits n) (numbered_lines lines k)) p e
stops_items Fits lines k zero xs p q e good room l f pass s = absurd (omega arith)
stops_items {A} Fits lines k (suc n) [] p q e good room l f pass s =
    let place : q ≡ p = λ i. record { line = (let h : q.line ≡ p.line = omega (arith, pass.line) in h) i; bytes = sym pass.bytes i } in
    let number : k + 0 ≡ k = omega arith in
    let here : StopsAt (Speak Fits (lines k)) p e = subst₂ (λ (m : ℕ) (r : Place). StopsAt (Speak Fits (lines m)) r e) number place s in
    stops_same (Then Fits (lines k) (rest_of Fits lines k n)) (Speak (HasItems Fits (suc n)) (numbered_lines lines k)) p e (items-same Fits lines k n)
    (stops_first Fits (lines k) (rest_of Fits lines k n) p e (λ a f. items-some Fits lines (k + 1) n good.some good.some_fits) here)
stops_items {A} Fits lines k (suc n) (x ∷ xs) p q e good room l f pass s =
    let more = numbered_lines lines (k + 1) xs in
    let mid : Place = record { line = p.line + length (lines k x); bytes = text more ++ q.bytes } in
    let first : Passes (lines k x) p mid = record {
      bytes = pass.bytes ∙ (ap (λ (t : List ℕ). t ++ q.bytes) (flat_map-append line (lines k x) more) ∙ append_assoc (text (lines k x)) (text more) q.bytes);
      line = refl;
    } in
    let second : Passes more mid q = record { bytes = refl; line = omega (arith, pass.line, length-append (lines k x) more) } in
    let number : k + suc (length xs) ≡ k + 1 + length xs = omega arith in
    let here : StopsAt (Speak Fits (lines (k + 1 + length xs))) q e = subst (λ (m : ℕ). StopsAt (Speak Fits (lines m)) q e) number s in
    let rest = stops_items Fits lines (k + 1) n xs mid q e good (omega arith) (omega arith) f.1 second here in
    stops_same (Then Fits (lines k) (rest_of Fits lines k n)) (Speak (HasItems Fits (suc n)) (numbered_lines lines k)) p e (items-same Fits lines k n)
    (stops_later Fits (lines k) (rest_of Fits lines k n) p mid x e (good.each k (omega arith))
    (λ b r fb t. subst AreLines t.are (items-plain Fits lines (λ m a h g. (good.each m h).plain a g) (k + 1) t.value (omega (arith, t.fits.size)) t.fits.each)) f.0 first rest)

-- ---- a section
abbrev items_of : {A : Type 0} → (A → Type 0) → (ℕ → A → List Line) → ℕ → List Line → Type 0
items_of Fits lines n = Speak (HasItems Fits n) (numbered_lines lines 0)

abbrev pub count_lines : Word → ℕ → List Line
count_lines name n = number_words name (n ∷ []) ∷ []

abbrev pub IsSmall : ℕ → Type 0
IsSmall n = n < 2 ^ 32

pub count-is_spelling : (name : Word) → IsWord name → IsSpelling IsSmall (count_lines name)
count-is_spelling name w =
    one_line IsSmall (λ n. number_words name (n ∷ [])) (λ n h. number_words-is_line name (n ∷ []) w (omega arith, tt)) (λ m n h k e.
    let same : m ∷ [] ≡ n ∷ [] = number_words-tells name (m ∷ []) (n ∷ []) (omega arith, tt) (omega arith, tt) e in
    cc)

section-same : {A : Type 0} (Fits : A → Type 0) (name : Word) (lines : ℕ → A → List Line) → Same (Then IsSmall (count_lines name) (items_of Fits lines)) (Speak (IsCounted Fits) (section_lines name lines))
unfolding section_lines
section-same {A} Fits name lines = record {
  there = λ ls t. record {
    value = t.said.value;
    fits = record { count = omega (arith, t.said.fits.size, t.fits); items = t.said.fits.each };
    are = ap (λ (n : ℕ). number_words name (n ∷ []) ∷ numbered_lines lines 0 t.said.value) t.said.fits.size ∙ (ap (λ (ms : List Line). number_words name (t.first ∷ []) ∷ ms) t.said.are ∙ sym t.parts);
  };
  back = λ ls s. record {
    first = length s.value;
    fits = s.fits.count;
    rest = numbered_lines lines 0 s.value;
    said = record { value = s.value; fits = record { size = refl; each = s.fits.items }; are = refl };
    parts = sym s.are;
  };
}

pub stops_count : {A : Type 0} (Fits : A → Type 0) (name : Word) (lines : ℕ → A → List Line) (p : Place) (e : ReportFault) → AreItems Fits lines
    → StopsAt (Speak IsSmall (count_lines name)) p e → StopsAt (Speak (IsCounted Fits) (section_lines name lines)) p e
stops_count {A} Fits name lines p e good s =
    stops_same (Then IsSmall (count_lines name) (items_of Fits lines)) (Speak (IsCounted Fits) (section_lines name lines)) p e (section-same Fits name lines)
    (stops_first IsSmall (count_lines name) (items_of Fits lines) p e (λ n f. items-some Fits lines 0 n good.some good.some_fits) s)

pub stops_in_section : {A : Type 0} (Fits : A → Type 0) (name : Word) (lines : ℕ → A → List Line) (p q : Place) (n : ℕ) (e : ReportFault) → AreItems Fits lines → IsWord name → IsSmall n
    → Passes (count_lines name n) p q → StopsAt (Speak (HasItems Fits n) (numbered_lines lines 0)) q e → StopsAt (Speak (IsCounted Fits) (section_lines name lines)) p e
stops_in_section {A} Fits name lines p q n e good w small pass s =
    stops_same (Then IsSmall (count_lines name) (items_of Fits lines)) (Speak (IsCounted Fits) (section_lines name lines)) p e (section-same Fits name lines)
    (stops_later IsSmall (count_lines name) (items_of Fits lines) p q n e (count-is_spelling name w)
    (λ m r h t. subst AreLines t.are (items-plain Fits lines (λ i a l g. (good.each i l).plain a g) 0 t.value (omega (arith, t.fits.size, h)) t.fits.each)) small pass s)

pub passes_section : {A : Type 0} (Fits : A → Type 0) (name : Word) (lines : ℕ → A → List Line) (p q r : Place) (n : ℕ) (xs : List A) → IsSmall n → HasItems Fits n xs
    → Passes (count_lines name n) p q → Passes (numbered_lines lines 0 xs) q r → IsCounted Fits xs × Passes (section_lines name lines xs) p r
unfolding section_lines
passes_section {A} Fits name lines p q r n xs small has first second =
    let whole = passes_then (count_lines name n) (numbered_lines lines 0 xs) p q r first second in (
      record { count = omega (arith, has.size, small); items = has.each },
      subst (λ (m : ℕ). Passes (number_words name (m ∷ []) ∷ numbered_lines lines 0 xs) p r) (sym has.size) whole,
    )
