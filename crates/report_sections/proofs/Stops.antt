-- Where the reading of lines stops, of a piece and of what is made of pieces.
use Rattle.std.proofs.Common.{◌≡◌, ℕ, zero, suc, ◌+◌, ◌<◌, ◌≤◌, List, [], ◌∷◌, ◌++◌, take, drop, length, refl, sym, ap, ◌∙◌, subst, append_assoc, arith, length-append, length-take}
use Rattle.std.proofs.lemmas.List.{append-nil, append_cancel_left, take-append-le, take-append-drop, take_all}
use Rattle.std.proofs.Math.Seq.{take-append-add}
use Rattle.std.proofs.lemmas.List.Concat.{flat_map-append}
use Rattle.report_text.specs.Text.{Line, line, text}
use Rattle.report_text.proofs.Lines.{IsLine, AreLines, first-line}
use Rattle.report_text.proofs.Pieces.{IsSpelling, all-append}
use Rattle.report_lines.specs.Reading.{Place}
use Rattle.report_sections.specs.Pieces.{Speak, IsStop, StopsAt, Passes}
use Rattle.report_lines.specs.declared.fault.ReportKind.{ReportKind}
use Rattle.report_lines.specs.declared.fault.ReportFault.{ReportFault}
use Rattle.report_lines.specs.declared.fault.ReportFault.TheVariants as faults

-- ---- two texts of lines that begin alike
pub data Longer (ls ms : List Line) : Type 0 where
  left_first : (u : List Line) → ls ++ u ≡ ms → Longer ls ms
  right_first : (v : List Line) → ms ++ v ≡ ls → Longer ls ms

longer-more : (l m : Line) (ls ms : List Line) → l ≡ m → Longer ls ms → Longer (l ∷ ls) (m ∷ ms)
longer-more l m ls ms e (left_first u h) = left_first u cc
longer-more l m ls ms e (right_first v h) = right_first v cc

pub alike : (ls ms : List Line) (x y : List ℕ) → AreLines ls → AreLines ms → text ls ++ x ≡ text ms ++ y → Longer ls ms
alike [] ms x y p q e = left_first ms refl
alike (l ∷ ls) [] x y p q e = right_first (l ∷ ls) refl
alike (l ∷ ls) (m ∷ ms) x y p q e =
    let both = first-line l m (text ls ++ x) (text ms ++ y) p.0 q.0 (sym (append_assoc (line l) (text ls) x) ∙ (e ∙ append_assoc (line m) (text ms) y)) in
    longer-more l m ls ms both.0 (alike ls ms x y p.1 q.1 both.1)

pub lines-take : (n : ℕ) (ls : List Line) → AreLines ls → AreLines (take n ls)
lines-take zero ls p = tt
lines-take (suc n) [] p = tt
lines-take (suc n) (l ∷ ls) p = (p.0, lines-take n ls p.1)

-- ---- other names for the same lines
pub record Same (S T : List Line → Type 0) : Type 0 where
  pub there : (ls : List Line) → S ls → T ls
  pub back : (ls : List Line) → T ls → S ls

stop_same : (S T : List Line → Type 0) (bytes : List ℕ) (n : ℕ) (k : ReportKind) → Same S T → IsStop S bytes n k → IsStop T bytes n k
stop_same S T bytes n k same s = record {
  some = s.some;
  said = same.there s.some s.said;
  more = s.more;
  rest = s.rest;
  parts = s.parts;
  kind_of = s.kind_of;
  none = λ ls x said. s.none ls x (same.back ls said);
}

pub stops_same : (S T : List Line → Type 0) (p : Place) (e : ReportFault) → Same S T → StopsAt S p e → StopsAt T p e
stops_same S T p (faults.At l k) same s = (s.0, s.1, stop_same S T p.bytes s.0 k same s.2)
stops_same S T p faults.OutOfMemory same s = tt

-- ---- a piece, and lines that go by its value
pub record Then {A : Type 0} (Fits : A → Type 0) (lines : A → List Line) (Rest : A → List Line → Type 0) (ls : List Line) : Type 0 where
  pub first : A
  pub fits : Fits first
  pub rest : List Line
  pub said : Rest first rest
  pub parts : ls ≡ lines first ++ rest

pub take-front : (n : ℕ) (xs ys : List Line) → (more : List Line) × (take n (xs ++ ys) ≡ take n xs ++ more)
take-front zero xs ys = ([], refl)
take-front (suc n) [] ys = (take (suc n) ys, refl)
take-front (suc n) (x ∷ xs) ys = let rest = take-front n xs ys in (rest.0, ap (λ (ls : List Line). x ∷ ls) rest.1)

-- reading stops in the piece
stop_first : {A : Type 0} (Fits : A → Type 0) (lines : A → List Line) (Rest : A → List Line → Type 0) (bytes : List ℕ) (n : ℕ) (k : ReportKind)
    → ((a : A) → Fits a → (r : List Line) × Rest a r) → IsStop (Speak Fits lines) bytes n k → IsStop (Then Fits lines Rest) bytes n k
stop_first Fits lines Rest bytes n k extend s =
    let a = s.said.value in
    let r = extend a s.said.fits in
    record {
      some = s.some ++ r.0;
      said = record { first = a; fits = s.said.fits; rest = r.0; said = r.1; parts = ap (λ (ls : List Line). ls ++ r.0) (sym s.said.are) };
      more = omega (arith, length-append s.some r.0, s.more);
      rest = s.rest;
      parts = s.parts ∙ ap (λ (ls : List Line). text ls ++ s.rest) (sym (take-append-le n s.some r.0 (omega (arith, s.more))));
      kind_of = s.kind_of;
      none = λ ls x said e.
          let front = lines said.first in
          let cut = take-front (n + 1) front said.rest in
          let same : text (take (n + 1) ls) ≡ text (take (n + 1) front) ++ text cut.0 =
          ap (λ (ms : List Line). text (take (n + 1) ms)) said.parts ∙ (ap text cut.1 ∙ flat_map-append line (take (n + 1) front) cut.0) in
          s.none front (text cut.0 ++ x) (record { value = said.first; fits = said.fits; are = refl })
          (e ∙ (ap (λ (t : List ℕ). t ++ x) same ∙ append_assoc (text (take (n + 1) front)) (text cut.0) x));
    }

pub stops_first : {A : Type 0} (Fits : A → Type 0) (lines : A → List Line) (Rest : A → List Line → Type 0) (p : Place) (e : ReportFault)
    → ((a : A) → Fits a → (r : List Line) × Rest a r) → StopsAt (Speak Fits lines) p e → StopsAt (Then Fits lines Rest) p e
stops_first Fits lines Rest p (faults.At l k) extend s = (s.0, s.1, stop_first Fits lines Rest p.bytes s.0 k extend s.2)
stops_first Fits lines Rest p faults.OutOfMemory extend s = tt

-- a value whose lines begin alike is the same one
same_first : {A : Type 0} (Fits : A → Type 0) (lines : A → List Line) (a b : A) (r : List Line) (n : ℕ) (bytes x : List ℕ) → IsSpelling Fits lines → Fits a → Fits b → AreLines r
    → length (lines a) < n → text (lines a) ++ bytes ≡ text (take n (lines b ++ r)) ++ x → a ≡ b
same_first Fits lines a b r n bytes x spelling f g plain l e =
    let all = lines b ++ r in
    let are : AreLines all = all-append IsLine (lines b) r (spelling.plain b g) plain in
    let front = take n all in
    let ordered = alike (lines a) front bytes x (spelling.plain a f) (lines-take n all are) e in
    elim ordered as (λ _. a ≡ b) [
      | left_first u h ↦
          (let joined : lines a ++ (u ++ drop n all) ≡ lines b ++ r = sym (append_assoc (lines a) u (drop n all)) ∙ (ap (λ (ls : List Line). ls ++ drop n all) h ∙ take-append-drop n all) in
          (spelling.tells a b (u ++ drop n all) r f g joined).0)
      | right_first v h ↦
          (let short : length all ≤ n = omega (arith, length-take n all, length-append front v, ap length h, l) in
          let whole : front ≡ all = take_all n all short in
          let joined : lines a ++ [] ≡ lines b ++ (r ++ v) = append-nil (lines a) ∙ (sym h ∙ (ap (λ (ls : List Line). ls ++ v) whole ∙ append_assoc (lines b) r v)) in
          (spelling.tells a b [] (r ++ v) f g joined).0)
    ]

-- reading stops behind the piece
stop_later : {A : Type 0} (Fits : A → Type 0) (lines : A → List Line) (Rest : A → List Line → Type 0) (bytes : List ℕ) (a : A) (n : ℕ) (k : ReportKind) → IsSpelling Fits lines
    → ((b : A) (r : List Line) → Fits b → Rest b r → AreLines r) → Fits a → IsStop (Rest a) bytes n k → IsStop (Then Fits lines Rest) (text (lines a) ++ bytes) (length (lines a) + n) k
stop_later {A} Fits lines Rest bytes a n k spelling plain f s =
    let front = lines a in
    let size = length front in
    record {
      some = front ++ s.some;
      said = record { first = a; fits = f; rest = s.some; said = s.said; parts = refl };
      more = omega (arith, length-append front s.some, s.more);
      rest = s.rest;
      parts =
          ap (λ (t : List ℕ). text front ++ t) s.parts
          ∙ (sym (append_assoc (text front) (text (take n s.some)) s.rest)
          ∙ ap (λ (t : List ℕ). t ++ s.rest) (sym (flat_map-append line front (take n s.some)) ∙ ap text (sym (take-append-add front s.some n))));
      kind_of = s.kind_of;
      none = λ ls x said e.
          let b = said.first in
          let r = said.rest in
          let count : size + n + 1 ≡ size + (n + 1) = omega arith in
          let cut : text front ++ bytes ≡ text (take (size + n + 1) (lines b ++ r)) ++ x = e ∙ ap (λ (ms : List Line). text (take (size + n + 1) ms) ++ x) said.parts in
          let same : a ≡ b = same_first Fits lines a b r (size + n + 1) bytes x spelling f said.fits (plain b r said.fits said.said) (omega arith) cut in
          let here : Rest a r = subst (λ (c : A). Rest c r) (sym same) said.said in
          let taken : text (take (size + n + 1) (lines b ++ r)) ≡ text front ++ text (take (n + 1) r) =
          ap (λ (c : A). text (take (size + n + 1) (lines c ++ r))) (sym same)
          ∙ (ap (λ (m : ℕ). text (take m (front ++ r))) count ∙ (ap text (take-append-add front r (n + 1)) ∙ flat_map-append line front (take (n + 1) r))) in
          s.none r x here
          (append_cancel_left (text front) bytes (text (take (n + 1) r) ++ x) (cut ∙ (ap (λ (t : List ℕ). t ++ x) taken ∙ append_assoc (text front) (text (take (n + 1) r)) x)));
    }

pub stops_later : {A : Type 0} (Fits : A → Type 0) (lines : A → List Line) (Rest : A → List Line → Type 0) (p q : Place) (a : A) (e : ReportFault) → IsSpelling Fits lines
    → ((b : A) (r : List Line) → Fits b → Rest b r → AreLines r) → Fits a → Passes (lines a) p q → StopsAt (Rest a) q e → StopsAt (Then Fits lines Rest) p e
stops_later Fits lines Rest p q a (faults.At l k) spelling plain f pass s = (
  length (lines a) + s.0,
  omega (arith, s.1, pass.line),
  subst (λ (bytes : List ℕ). IsStop (Then Fits lines Rest) bytes (length (lines a) + s.0) k) (sym pass.bytes) (stop_later Fits lines Rest q.bytes a s.0 k spelling plain f s.2),
)
stops_later Fits lines Rest p q a faults.OutOfMemory spelling plain f pass s = tt
