-- A text has at most one first fault.
use Rattle.std.proofs.Common.{◌≡◌, ℕ, ◌+◌, ◌<◌, ◌≤◌, List, [], ◌∷◌, ◌++◌, take, drop, length, sym, ap, ◌∙◌, subst, append_assoc, arith, length-append, length-take}
use Rattle.std.proofs.lemmas.List.{append-nil, append_cancel_left, take-append-drop, take-take}
use Rattle.std.proofs.lemmas.List.Concat.{flat_map-append}
use Rattle.report_text.specs.Text.{Line, line, text, report_lines}
use Rattle.report_lines.specs.Reading.{kind_at}
use Rattle.report_lines.specs.declared.fault.ReportKind.{ReportKind}
use Rattle.report_sections.proofs.Stops.{left_first, right_first, alike, lines-take}
use Rattle.report_reading.specs.Spelled.{BeginsReport, IsFirstFault, OneFirstFault}
use Rattle.report_reading.proofs.ReportRead.{report-is_spelling}

-- what begins with n lines begins with fewer
fewer : (bytes : List ℕ) (m n : ℕ) (rest : List ℕ) → m ≤ n → BeginsReport bytes n rest → (more : List ℕ) × BeginsReport bytes m more
fewer bytes m n rest h b =
    let ls = report_lines b.report in
    let front = take n ls in
    let again : take m front ≡ take m ls = take-take m n (report_lines b.report) h in
    let split : text front ≡ text (take m ls) ++ text (drop m front) =
    ap text (sym (take-append-drop m front)) ∙ (flat_map-append line (take m front) (drop m front) ∙ ap (λ (ms : List Line). text ms ++ text (drop m front)) again) in (
      text (drop m front) ++ rest,
      record {
        report = b.report;
        form = b.form;
        within = omega (arith, b.within);
        parts = b.parts ∙ (ap (λ (t : List ℕ). t ++ rest) split ∙ append_assoc (text (take m ls)) (text (drop m front)) rest);
      },
    )

no-lines : (ls ms u : List Line) → ls ++ u ≡ ms → length ls ≡ length ms → ls ≡ ms
no-lines ls ms [] e h = sym (append-nil ls) ∙ e
no-lines ls ms (l ∷ u) e h = absurd (omega (arith, length-append ls (l ∷ u), ap length e))

-- as many lines of two reports leave the same rest
same-rest : (bytes : List ℕ) (n : ℕ) (x y : List ℕ) → BeginsReport bytes n x → BeginsReport bytes n y → x ≡ y
same-rest bytes n x y a b =
    let ls = take n (report_lines a.report) in
    let ms = take n (report_lines b.report) in
    let size : length ls ≡ length ms = omega (arith, length-take n (report_lines a.report), length-take n (report_lines b.report), a.within, b.within) in
    let same : text ls ++ x ≡ text ms ++ y = sym a.parts ∙ b.parts in
    let ordered = alike ls ms x y (lines-take n (report_lines a.report) (report-is_spelling.plain a.report a.form)) (lines-take n (report_lines b.report) (report-is_spelling.plain b.report b.form)) same in
    let equal : ls ≡ ms = elim ordered as (λ _. ls ≡ ms) [ left_first u h ↦ no-lines ls ms u h size | right_first v h ↦ sym (no-lines ms ls v h (sym size)) ] in
    append_cancel_left (text ls) x y (same ∙ ap (λ (ks : List Line). text ks ++ y) (sym equal))

not-before : (bytes : List ℕ) (l m : ℕ) (j k : ReportKind) (a : IsFirstFault bytes l j) (b : IsFirstFault bytes m k) → a.before < b.before → ⊥
not-before bytes l m j k a b h =
    let more = fewer bytes l b.before b.rest (omega (arith, a.place)) b.begins in
    a.stops more.0 more.1

same-before : (bytes : List ℕ) (l m : ℕ) (j k : ReportKind) (a : IsFirstFault bytes l j) (b : IsFirstFault bytes m k) → (a.before < b.before → ⊥) → (b.before < a.before → ⊥) → a.before ≡ b.before
same-before bytes l m j k a b h g = grind (arith, h, g)

pub one_first_fault : OneFirstFault
one_first_fault bytes l m j k a b =
    let before : a.before ≡ b.before = same-before bytes l m j k a b (not-before bytes l m j k a b) (not-before bytes m l k j b a) in
    let rest : a.rest ≡ b.rest = same-rest bytes a.before a.rest b.rest a.begins (subst (λ (n : ℕ). BeginsReport bytes n b.rest) (sym before) b.begins) in
    (a.place ∙ (ap (λ (n : ℕ). n + 1) before ∙ sym b.place), a.kind_of ∙ (ap kind_at rest ∙ sym b.kind_of))
