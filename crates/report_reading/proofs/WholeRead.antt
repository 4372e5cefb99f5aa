-- What reading a whole text answers.
use Rattle.std.proofs.Common.{◌≡◌, ◌≢◌, inl, inr, ℕ, ◌+◌, ◌≤◌, List, [], ◌∷◌, ◌++◌, take, drop, length, refl, sym, ap, ◌∙◌, subst, append_assoc, arith, length-append, length-take, Result, Ok, Err}
use Rattle.std.specs.Prelude.{IfOk, IfErr}
use Rattle.std.proofs.lemmas.List.{append-nil, append_cancel_left, take-append-drop, take_all}
use Rattle.std.proofs.lemmas.List.Concat.{flat_map-append}
use Rattle.report_text.specs.declared.report.Report.{Report}
use Rattle.report_text.specs.Form.{HasForm}
use Rattle.report_text.specs.Text.{Line, line, text, report_lines, report_text}
use Rattle.report_lines.specs.Reading.{Place, Read, kind_at}
use Rattle.report_lines.specs.declared.fault.ReportKind.{ReportKind}
use Rattle.report_lines.specs.declared.fault.ReportFault.{ReportFault}
use Rattle.report_lines.specs.declared.fault.ReportFault.TheVariants as faults
use Rattle.report_sections.specs.Pieces.{Speak, IsStop, StopsAt, Passes, ReadsTo}
use Rattle.report_sections.proofs.Stops.{left_first, right_first, alike, lines-take}
use Rattle.report_reading.specs.Sections.{report_read, at_end, ended, whole_read}
use Rattle.report_reading.specs.Spelled.{SpellsReport, IsFirstFault, IsFault, Answers, GivesWhole}
use Rattle.report_reading.proofs.ReportRead.{report-reads, report-is_spelling}
use Rattle.report_reading.proofs.FirstFault.{one_first_fault}
use Rattle.report_text.proofs.Determines.{one_report}

abbrev start : List ℕ → Place
start bytes = record { line = 0; bytes = bytes }

text-split : (n : ℕ) (ls : List Line) → text ls ≡ text (take n ls) ++ text (drop n ls)
text-split n ls = ap text (sym (take-append-drop n ls)) ∙ flat_map-append line (take n ls) (drop n ls)

-- a report whose text has all these lines of another one has no more lines
more-lines : (r s : Report) (u : List Line) → HasForm r → HasForm s → report_lines r ++ u ≡ report_lines s → u ≡ []
more-lines r s u f g e = (report-is_spelling.tells r s u [] f g (e ∙ sym (append-nil (report_lines s)))).1

-- the lines before the first fault
stop-fault : (bytes : List ℕ) (n : ℕ) (k : ReportKind) → IsStop (Speak HasForm report_lines) bytes n k → IsFirstFault bytes (n + 1) k
unfolding report_text
stop-fault bytes n k s = record {
  before = n;
  place = refl;
  rest = s.rest;
  begins = record {
    report = s.said.value;
    form = s.said.fits;
    within = omega (arith, s.more, ap length s.said.are);
    parts = s.parts ∙ ap (λ (ls : List Line). text (take n ls) ++ s.rest) (sym s.said.are);
  };
  kind_of = s.kind_of;
  stops = λ more b. s.none (report_lines b.report) more (record { value = b.report; fits = b.form; are = refl }) b.parts;
  no_report = λ r sp. s.none (report_lines r) (text (drop (n + 1) (report_lines r))) (record { value = r; fits = sp.form; are = refl }) (sym sp.spelled ∙ text-split (n + 1) (report_lines r));
}

-- a line that follows the last one
behind-none : (bytes rest : List ℕ) (r s : Report) (n : ℕ) (more : List ℕ) → HasForm r → bytes ≡ text (report_lines r) ++ rest → n ≡ length (report_lines r) → HasForm s → n + 1 ≤ length (report_lines s)
    → bytes ≡ text (take (n + 1) (report_lines s)) ++ more → ⊥
behind-none bytes rest r s n more f e size g within b =
    let front = take (n + 1) (report_lines s) in
    let long : length front ≡ n + 1 = omega (arith, length-take (n + 1) (report_lines s)) in
    let ordered = alike (report_lines r) front rest more (report-is_spelling.plain r f) (lines-take (n + 1) (report_lines s) (report-is_spelling.plain s g)) (sym e ∙ b) in
    elim ordered as (λ _. ⊥) [
      | left_first u h ↦
          (let later = drop (n + 1) (report_lines s) in
          let joined : report_lines r ++ (u ++ later) ≡ report_lines s = sym (append_assoc (report_lines r) u later) ∙ (ap (λ (ls : List Line). ls ++ later) h ∙ take-append-drop (n + 1) (report_lines s)) in
          let none = more-lines r s (u ++ later) f g joined in
          omega (arith, length-append (report_lines r) u, ap length h, length-append u later, ap length none))
      | right_first v h ↦ omega (arith, length-append front v, ap length h)
    ]

behind-spelled : (bytes rest : List ℕ) (r s : Report) → HasForm r → bytes ≡ text (report_lines r) ++ rest → rest ≢ [] → HasForm s → text (report_lines s) ≡ bytes → ⊥
behind-spelled bytes rest r s f e some g h =
    let same : text (report_lines r) ++ rest ≡ text (report_lines s) ++ [] = sym e ∙ (sym h ∙ sym (append-nil (text (report_lines s)))) in
    let ordered = alike (report_lines r) (report_lines s) rest [] (report-is_spelling.plain r f) (report-is_spelling.plain s g) same in
    elim ordered as (λ _. ⊥) [
      | left_first u k ↦
          (let none = more-lines r s u f g k in
          let lines : report_lines r ≡ report_lines s = sym (append-nil (report_lines r)) ∙ (ap (λ (v : List Line). report_lines r ++ v) (sym none) ∙ k) in
          some (append_cancel_left (text (report_lines r)) rest [] (same ∙ ap (λ (ls : List Line). text ls ++ []) (sym lines))))
      | right_first v k ↦
          (let none = more-lines s r v g f k in
          let lines : report_lines s ≡ report_lines r = sym (append-nil (report_lines s)) ∙ (ap (λ (u : List Line). report_lines s ++ u) (sym none) ∙ k) in
          some (append_cancel_left (text (report_lines r)) rest [] (same ∙ ap (λ (ls : List Line). text ls ++ []) lines)))
    ]

behind-fault : (bytes rest : List ℕ) (r : Report) → HasForm r → bytes ≡ text (report_lines r) ++ rest → rest ≢ [] → IsFirstFault bytes (length (report_lines r) + 1) (kind_at rest)
unfolding report_text
behind-fault bytes rest r f e some =
    let n = length (report_lines r) in
    let whole : take n (report_lines r) ≡ report_lines r = take_all n (report_lines r) (omega arith) in
    record {
      before = n;
      place = refl;
      rest = rest;
      begins = record { report = r; form = f; within = omega arith; parts = e ∙ ap (λ (ls : List Line). text ls ++ rest) (sym whole) };
      kind_of = refl;
      stops = λ more b. behind-none bytes rest r b.report n more f e refl b.form b.within b.parts;
      no_report = λ s sp. behind-spelled bytes rest r s f e some sp.form sp.spelled;
    }

-- ---- what is answered
abbrev Right : List ℕ → Result Report ReportFault → Type 0
Right bytes (Ok r) = SpellsReport bytes r
Right bytes (Err e) = IsFault bytes e

end-right : (bytes : List ℕ) (r : Report) (q : Place) (rest : List ℕ) → HasForm r → Passes (report_lines r) (start bytes) q → q.bytes ≡ rest → Right bytes (at_end r q rest)
unfolding report_text
end-right bytes r q [] f pass is = record { form = f; spelled = sym (pass.bytes ∙ (ap (λ (t : List ℕ). text (report_lines r) ++ t) is ∙ append-nil (text (report_lines r)))) }
end-right bytes r q (b ∷ bs) f pass is =
    let number : q.line + 1 ≡ length (report_lines r) + 1 = omega (arith, pass.line) in
    let some : q.bytes ≢ [] = λ e. let none : b ∷ bs ≡ [] = sym is ∙ e in cc in
    subst (λ (l : ℕ). IsFirstFault bytes l (kind_at q.bytes)) (sym number) (behind-fault bytes q.bytes r f pass.bytes some)

fault-right : (bytes : List ℕ) (e : ReportFault) → StopsAt (Speak HasForm report_lines) (start bytes) e → IsFault bytes e
fault-right bytes (faults.At l k) s =
    let number : s.0 + 1 ≡ l = omega (arith, s.1) in
    subst (λ (m : ℕ). IsFirstFault bytes m k) number (stop-fault bytes s.0 k s.2)
fault-right bytes faults.OutOfMemory s = tt

ended-right : (bytes : List ℕ) (r : Read Report) → ReadsTo HasForm report_lines (start bytes) r → Right bytes (ended r)
ended-right bytes (Ok r) h = end-right bytes r.0 r.1 r.1.bytes h.0 h.1 refl
ended-right bytes (Err e) h = fault-right bytes e h

whole-right : (bytes : List ℕ) → Right bytes (whole_read bytes)
whole-right bytes = ended-right bytes (report_read (start bytes)) (report-reads (start bytes))

pub spells : (bytes : List ℕ) (result : Result Report ReportFault) → GivesWhole result (whole_read bytes) → IfOk result (SpellsReport bytes)
spells bytes (Ok r) e = subst (λ (t : Result Report ReportFault). Right bytes t) e (whole-right bytes)
spells bytes (Err e) h = tt

fault-of : (bytes : List ℕ) (e : ReportFault) → GivesWhole (Err e) (whole_read bytes) → IsFault bytes e
fault-of bytes (faults.At l k) e = subst (λ (t : Result Report ReportFault). Right bytes t) e (whole-right bytes)
fault-of bytes faults.OutOfMemory e = tt

pub faulty : (bytes : List ℕ) (result : Result Report ReportFault) → GivesWhole result (whole_read bytes) → IfErr result (IsFault bytes)
faulty bytes (Ok r) e = tt
faulty bytes (Err e) h = fault-of bytes e h

-- ---- each text that has an answer gets it
report-answer : (bytes : List ℕ) (r : Report) (result : Result Report ReportFault) → Right bytes result → SpellsReport bytes r → Answers result (Ok r)
report-answer bytes r (Ok s) right sp = inl (ap (λ (t : Report). Ok t) (one_report s r right.form sp.form (right.spelled ∙ sym sp.spelled)))
report-answer bytes r (Err (faults.At l k)) right sp = absurd (right.no_report r sp)
report-answer bytes r (Err faults.OutOfMemory) right sp = inr refl

abbrev answer-at : ℕ → ReportKind → Result Report ReportFault
answer-at l k = Err (faults.At l k)

same-fault : (l m : ℕ) (j k : ReportKind) → l ≡ m → j ≡ k → answer-at l j ≡ answer-at m k
same-fault l m j k e h = λ i. answer-at (e i) (h i)

fault-answer : (bytes : List ℕ) (line : ℕ) (kind : ReportKind) (result : Result Report ReportFault) → Right bytes result → IsFirstFault bytes line kind → Answers result (Err (faults.At line kind))
fault-answer bytes line kind (Ok s) right f = absurd (f.no_report s right)
fault-answer bytes line kind (Err (faults.At l k)) right f =
    let same = one_first_fault bytes l line k kind right f in
    inl (same-fault l line k kind same.0 same.1)
fault-answer bytes line kind (Err faults.OutOfMemory) right f = inr refl

told-right : (bytes : List ℕ) (result : Result Report ReportFault) → GivesWhole result (whole_read bytes) → Right bytes result
told-right bytes (Ok r) e = subst (λ (t : Result Report ReportFault). Right bytes t) e (whole-right bytes)
told-right bytes (Err e) h = fault-of bytes e h

pub reads-each : (bytes : List ℕ) (result : Result Report ReportFault) (r : Report) → GivesWhole result (whole_read bytes) → SpellsReport bytes r → Answers result (Ok r)
reads-each bytes result r e sp = report-answer bytes r result (told-right bytes result e) sp

pub refuses-each : (bytes : List ℕ) (result : Result Report ReportFault) (line : ℕ) (kind : ReportKind) → GivesWhole result (whole_read bytes) → IsFirstFault bytes line kind → Answers result (Err (faults.At line kind))
refuses-each bytes result line kind e f = fault-answer bytes line kind result (told-right bytes result e) f
