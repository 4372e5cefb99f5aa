-- Reading one piece after another.
use Rattle.std.proofs.Common.{◌≡◌, ℕ, zero, suc, ◌+◌, ◌<◌, ◌^◌, Option, List, [], ◌∷◌, ◌++◌, length, refl, sym, ap, ◌∙◌, subst, append_assoc, arith, Result, Ok, Err}
use Rattle.std.specs.List.{AllByRecursion}
use Rattle.std.proofs.lemmas.List.{append-nil, length-append}
use Rattle.report_text.specs.Form.{IsCounted}
use Rattle.report_text.specs.Text.{Word, Line, numbered_lines, section_lines, number_words}
use Rattle.report_text.proofs.Lines.{IsWord, AreLines}
use Rattle.report_text.proofs.Pieces.{IsSpelling, all-append}
use Rattle.report_lines.specs.Words.{words_here, count_in}
use Rattle.report_lines.specs.Reading.{Place, Read, ◌>>=◌, line_read, settled, items_read, section_read, Gives, Fails}
use Rattle.report_lines.specs.declared.fault.ReportFault.{ReportFault}
use Rattle.report_lines.specs.declared.fault.ReportFault.TheVariants as faults
use Rattle.report_sections.specs.Items.{HasItems}
use Rattle.report_sections.specs.Pieces.{Speak, StopsAt, Passes, ReadsTo, Faults, Reads, one}
use Rattle.report_sections.proofs.Stops.{Same, Then, stops_same, stops_first, stops_later}
use Rattle.report_sections.proofs.Sections.{AreItems, IsSmall, count_lines, passes_then, passes_none, stops_items, stops_count, stops_in_section, passes_section}
use Rattle.report_sections.proofs.LineWords.{IsLineParse, line-reads}

-- a piece, and what is read behind it
pub bind-reads : {A B : Type 0} (F : A → Type 0) (lines : A → List Line) (G : B → Type 0) (all : B → List Line) (p q : Place) (r : Read A) (next : A × Place → Read B) → ReadsTo F lines q r
    → ((a : A) (s : Place) → F a → Passes (lines a) q s → ReadsTo G all p (next (a, s))) → ((e : ReportFault) → StopsAt (Speak F lines) q e → StopsAt (Speak G all) p e) → ReadsTo G all p (r >>= next)
bind-reads F lines G all p q (Ok a) next h more stop = more a.0 a.1 h.0 h.1
bind-reads F lines G all p q (Err e) next h more stop = stop e h

-- the same piece, seen as part of another
pub lift-reads : {A : Type 0} (F : A → Type 0) (lines : A → List Line) (G : A → Type 0) (all : A → List Line) (p q : Place) (r : Read A) → ReadsTo F lines q r
    → ((a : A) (s : Place) → F a → Passes (lines a) q s → G a × Passes (all a) p s) → ((e : ReportFault) → StopsAt (Speak F lines) q e → StopsAt (Speak G all) p e) → ReadsTo G all p r
lift-reads F lines G all p q (Ok a) h more stop = more a.0 a.1 h.0 h.1
lift-reads F lines G all p q (Err e) h more stop = stop e h

-- ---- items
numbered-more : {A : Type 0} (lines : ℕ → A → List Line) (k : ℕ) (xs : List A) (x : A) → numbered_lines lines k (xs ++ x ∷ []) ≡ numbered_lines lines k xs ++ lines (k + length xs) x
numbered-more lines k [] x = let same : k ≡ k + 0 = omega arith in append-nil (lines k x) ∙ ap (λ (n : ℕ). lines n x) same
numbered-more lines k (y ∷ ys) x =
    let same : k + 1 + length ys ≡ k + suc (length ys) = omega arith in
    ap (λ (ls : List Line). lines k y ++ ls) (numbered-more lines (k + 1) ys x ∙ ap (λ (n : ℕ). numbered_lines lines (k + 1) ys ++ lines n x) same)
    ∙ sym (append_assoc (lines k y) (numbered_lines lines (k + 1) ys) (lines (k + suc (length ys)) x))

-- the items that are read, of so many
pub record AreRead {A : Type 0} (Fits : A → Type 0) (lines : ℕ → A → List Line) (k : ℕ) (xs : List A) (p q : Place) : Type 0 where
  pub size : length xs ≡ k
  pub each : AllByRecursion Fits xs
  pub pass : Passes (numbered_lines lines 0 xs) p q

read-more : {A : Type 0} (Fits : A → Type 0) (lines : ℕ → A → List Line) (k : ℕ) (xs : List A) (a : A) (p q s : Place) → AreRead Fits lines k xs p q → Fits a → Passes (lines k a) q s
    → AreRead Fits lines (k + 1) (xs ++ a ∷ []) p s
read-more Fits lines k xs a p q s had f pass =
    let number : k ≡ 0 + length xs = omega (arith, had.size) in
    let here : Passes (lines (0 + length xs) a) q s = subst (λ (n : ℕ). Passes (lines n a) q s) number pass in
    let whole = passes_then (numbered_lines lines 0 xs) (lines (0 + length xs) a) p q s had.pass here in
    record {
      size = omega (arith, length-append xs (a ∷ []), had.size);
      each = all-append Fits xs (a ∷ []) had.each (f, tt);
      pass = subst (λ (ls : List Line). Passes ls p s) (sym (numbered-more lines 0 xs a)) whole;
    }

pub items-reads : {A : Type 0} (Fits : A → Type 0) (lines : ℕ → A → List Line) (read : ℕ → Place → Read A) (total k n : ℕ) (xs : List A) (p q : Place) → AreItems Fits lines
    → ((i : ℕ) (s : Place) → i < 2 ^ 32 → ReadsTo Fits (lines i) s (read i s)) → k + n ≡ total → total < 2 ^ 32 → AreRead Fits lines k xs p q
    → ReadsTo (HasItems Fits total) (numbered_lines lines 0) p (items_read read k n xs q)
items-reads Fits lines read total k zero xs p q good reads sum small had = (record { size = omega (arith, had.size); each = had.each }, had.pass)
items-reads Fits lines read total k (suc n) xs p q good reads sum small had =
    bind-reads Fits (lines k) (HasItems Fits total) (numbered_lines lines 0) p q (read k q) (λ a. items_read read (k + 1) n (xs ++ a.0 ∷ []) a.1) (reads k q (omega arith))
    (λ a s f pass. items-reads Fits lines read total (k + 1) n (xs ++ a ∷ []) p s good reads (omega arith) small (read-more Fits lines k xs a p q s had f pass))
    (λ e st.
    let number : k ≡ 0 + length xs = omega (arith, had.size) in
    stops_items Fits lines 0 total xs p q e good (omega arith) (omega (arith, had.size)) had.each had.pass (subst (λ (m : ℕ). StopsAt (Speak Fits (lines m)) q e) number st))

-- ---- a section
pub section-reads : {A : Type 0} (Fits : A → Type 0) (name : Word) (lines : ℕ → A → List Line) (read : ℕ → Place → Read A) (p : Place) → AreItems Fits lines → IsWord name
    → IsLineParse IsSmall (λ n. number_words name (n ∷ [])) (count_in name) → ((i : ℕ) (s : Place) → i < 2 ^ 32 → ReadsTo Fits (lines i) s (read i s))
    → ReadsTo (IsCounted Fits) (section_lines name lines) p (section_read name read p)
section-reads {A} Fits name lines read p good w count reads =
    bind-reads IsSmall (count_lines name) (IsCounted Fits) (section_lines name lines) p p (line_read (count_in name) p) (λ n. items_read read 0 n.0 [] n.1)
    (line-reads IsSmall (λ n. number_words name (n ∷ [])) (count_in name) p count)
    (λ n q small pass.
    lift-reads (HasItems Fits n) (numbered_lines lines 0) (IsCounted Fits) (section_lines name lines) p q (items_read read 0 n [] q)
    (items-reads Fits lines read n 0 n [] q q good reads (omega arith) small (record { size = refl; each = tt; pass = passes_none q }))
    (λ xs s has more. passes_section Fits name lines p q s n xs small has pass more)
    (λ e st. stops_in_section Fits name lines p q n e good w small pass st))
    (λ e st. stops_count Fits name lines p e good st)

-- ---- a piece that tells how the value begins, and the rest of the value
abbrev Behind : {A V : Type 0} → (V → Type 0) → (V → A) → (V → List Line) → A → List Line → Type 0
Behind Fits head body a = Speak (λ v. Fits v × (head v ≡ a)) body

pub record Leads {A V : Type 0} (F : A → Type 0) (first : A → List Line) (Fits : V → Type 0) (lines : V → List Line) (head : V → A) (body : V → List Line) : Type 0 where
  pub fits : (v : V) → Fits v → F (head v)
  pub are : (v : V) → Fits v → lines v ≡ first (head v) ++ body v
  pub plain : (v : V) → Fits v → AreLines (body v)
  pub some : (a : A) → F a → V
  pub some_fits : (a : A) (f : F a) → Fits (some a f)
  pub some_head : (a : A) (f : F a) → head (some a f) ≡ a

leads-same : {A V : Type 0} (F : A → Type 0) (first : A → List Line) (Fits : V → Type 0) (lines : V → List Line) (head : V → A) (body : V → List Line) → Leads F first Fits lines head body
    → Same (Then F first (Behind Fits head body)) (Speak Fits lines)
leads-same {A} {V} F first Fits lines head body leads = record {
  there = λ ls t. record {
    value = t.said.value;
    fits = t.said.fits.0;
    are =
        leads.are t.said.value t.said.fits.0 ∙ (ap (λ (a : A). first a ++ body t.said.value) t.said.fits.1 ∙ (ap (λ (ms : List Line). first t.first ++ ms) t.said.are ∙ sym t.parts));
  };
  back = λ ls s. record {
    first = head s.value;
    fits = leads.fits s.value s.fits;
    rest = body s.value;
    said = record { value = s.value; fits = (s.fits, refl); are = refl };
    parts = sym s.are ∙ leads.are s.value s.fits;
  };
}

pub leads-reads : {A V : Type 0} (F : A → Type 0) (first : A → List Line) (Fits : V → Type 0) (lines : V → List Line) (head : V → A) (body : V → List Line) (p : Place) (r : Read A) (next : A × Place → Read V)
    → IsSpelling F first → Leads F first Fits lines head body → ReadsTo F first p r → ((a : A) (s : Place) → F a → Passes (first a) p s → ReadsTo (λ v. Fits v × (head v ≡ a)) body s (next (a, s)))
    → ReadsTo Fits lines p (r >>= next)
leads-reads {A} {V} F first Fits lines head body p r next spelling leads reads rest =
    let same = leads-same F first Fits lines head body leads in
    bind-reads F first Fits lines p p r next reads
    (λ a s f pass.
    lift-reads (λ v. Fits v × (head v ≡ a)) body Fits lines p s (next (a, s)) (rest a s f pass)
    (λ v t g more.
    let whole = passes_then (first a) (body v) p s t pass more in
    let are : first a ++ body v ≡ lines v = ap (λ (b : A). first b ++ body v) (sym g.1) ∙ sym (leads.are v g.0) in
    (g.0, subst (λ (ls : List Line). Passes ls p t) are whole))
    (λ e st.
    stops_same (Then F first (Behind Fits head body)) (Speak Fits lines) p e same
    (stops_later F first (Behind Fits head body) p s a e spelling (λ b ls fb said. subst AreLines said.are (leads.plain said.value said.fits.0)) f pass st)))
    (λ e st.
    stops_same (Then F first (Behind Fits head body)) (Speak Fits lines) p e same
    (stops_first F first (Behind Fits head body) p e (λ a f. (body (leads.some a f), record { value = leads.some a f; fits = (leads.some_fits a f, leads.some_head a f); are = refl })) st))

-- ---- what a call answers
gives-fault : {A : Type 0} (Fits : A → Type 0) (lines : A → List Line) (p : Place) (e : ReportFault) (read : Read A) → Fails e read → ReadsTo Fits lines p read → Faults Fits lines p e
gives-fault {A} Fits lines p (faults.At line kind) read e h = subst (λ (r : Read A). ReadsTo Fits lines p r) e h
gives-fault Fits lines p faults.OutOfMemory read e h = tt

pub gives-reads : {A : Type 0} (Fits : A → Type 0) (lines : A → List Line) (p q : Place) (r : Result A ReportFault) (read : Read A) → Gives r q read → ReadsTo Fits lines p read → Reads Fits lines p r q
gives-reads {A} Fits lines p q (Ok a) read e h = subst (λ (r : Read A). ReadsTo Fits lines p r) e h
gives-reads Fits lines p q (Err f) read e h = gives-fault Fits lines p f read e h

-- a call that settles what its line tells
pub settles-reads : {A : Type 0} {Fits : A → Type 0} {words : A → Line} {parse : Line → Option A} (p q : Place) (o : Option A) (r : Result A ReportFault) → IsLineParse Fits words parse → o ≡ parse (words_here p.bytes)
    → Gives r q (settled p o p.bytes) → Reads Fits (one words) p r q
settles-reads {A} {Fits} {words} {parse} p q o r good e given =
    gives-reads Fits (one words) p q r (line_read parse p) (subst (λ (told : Option A). Gives r q (settled p told p.bytes)) e given) (line-reads Fits words parse p good)
