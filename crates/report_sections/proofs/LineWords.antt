-- A line's bytes and its words tell each other, and so a line that is parsed is read.
use Rattle.std.proofs.Common.{◌≡◌, ◌≢◌, ℕ, ◌+◌, Bool, true, false, cond, List, [], ◌∷◌, ◌++◌, take, refl, sym, ap, ◌∙◌, subst, append_assoc, arith, Option, Some, None}
use Rattle.std.specs.Prelude.{nat_eq}
use Rattle.std.specs.Option.{option_map}
use Rattle.std.specs.List.{onto_first}
use Rattle.std.proofs.lemmas.Bool.Decides.{nat_tests}
use Rattle.std.proofs.lemmas.List.{append-nil}
use Rattle.text_words.specs.Text.{behind_newline}
use Rattle.report_text.specs.Text.{Word, Line, line, text}
use Rattle.report_text.proofs.Lines.{IsWord, IsLine}
use Rattle.report_text.proofs.Pieces.{IsSpelling, one_line}
use Rattle.report_lines.specs.Reading.{Place, kind_at, next_place, settled, line_read}
use Rattle.report_sections.specs.Pieces.{Speak, StopsAt, Passes, ReadsTo, one}
use Rattle.report_lines.specs.Words.{before_newline, parts, words_of, words_here}
use Rattle.report_lines.specs.declared.fault.ReportFault.TheVariants as faults

-- ---- from words to bytes and back
-- the words with a space between them
abbrev spaced : Line → List ℕ
spaced [] = []
spaced (w ∷ []) = w
spaced (w ∷ v ∷ ws) = w ++ 32 ∷ spaced (v ∷ ws)

spaced-line : (w : Word) (ws : Line) → line (w ∷ ws) ≡ spaced (w ∷ ws) ++ 10 ∷ []
spaced-line w [] = refl
spaced-line w (v ∷ ws) = ap (λ (rest : List ℕ). w ++ 32 ∷ rest) (spaced-line v ws) ∙ sym (append_assoc w (32 ∷ spaced (v ∷ ws)) (10 ∷ []))

before-word : (w : Word) (bs l : List ℕ) → IsWord w → before_newline bs ≡ Some l → before_newline (w ++ bs) ≡ Some (w ++ l)
before-word [] bs l p e = e
before-word (b ∷ w) bs l p e = rw (p.0.newline, before-word w bs l p.1 e) refl

before-line : (w : Word) (ws : Line) (x : List ℕ) → IsLine (w ∷ ws) → before_newline (line (w ∷ ws) ++ x) ≡ Some (spaced (w ∷ ws))
before-line w [] x p = rw append_assoc (before-word w (10 ∷ x) [] p.0 refl ∙ ap (λ (l : List ℕ). Some l) (append-nil w))
before-line w (v ∷ ws) x p =
    let rest : before_newline (32 ∷ (line (v ∷ ws) ++ x)) ≡ Some (32 ∷ spaced (v ∷ ws)) = ap (option_map (λ (l : List ℕ). 32 ∷ l)) (before-line v ws x p.1) in
    rw append_assoc (before-word w (32 ∷ (line (v ∷ ws) ++ x)) (32 ∷ spaced (v ∷ ws)) p.0 rest)

parts-word : (w : Word) (bs : List ℕ) (v : Word) (vs : Line) → IsWord w → parts bs ≡ v ∷ vs → parts (w ++ bs) ≡ (w ++ v) ∷ vs
parts-word [] bs v vs p e = e
parts-word (b ∷ w) bs v vs p e = rw (p.0.space, parts-word w bs v vs p.1 e) refl

parts-spaced : (w : Word) (ws : Line) → IsLine (w ∷ ws) → parts (spaced (w ∷ ws)) ≡ w ∷ ws
parts-spaced w [] p =
    let whole : parts (w ++ []) ≡ (w ++ []) ∷ [] = parts-word w [] [] [] p.0 refl in
    rw append-nil at whole
parts-spaced w (v ∷ ws) p =
    let rest : parts (32 ∷ spaced (v ∷ ws)) ≡ [] ∷ v ∷ ws = ap (λ (l : Line). [] ∷ l) (parts-spaced v ws p.1) in
    let whole : parts (w ++ 32 ∷ spaced (v ∷ ws)) ≡ (w ++ []) ∷ v ∷ ws = parts-word w (32 ∷ spaced (v ∷ ws)) [] (v ∷ ws) p.0 rest in
    whole ∙ ap (λ (u : Word). u ∷ v ∷ ws) (append-nil w)

pub here-line : (l : Line) (x : List ℕ) → IsLine l → words_here (line l ++ x) ≡ l
here-line [] x p = absurd p
here-line (w ∷ ws) x p = ap words_of (before-line w ws x p) ∙ parts-spaced w ws p

line-onto : (b : ℕ) (l : Line) → l ≢ [] → line (onto_first b l) ≡ b ∷ line l
line-onto b [] some = absurd (some refl)
line-onto b (w ∷ []) some = refl
line-onto b (w ∷ v ∷ ws) some = refl

onto-some : (b : ℕ) (l : Line) → l ≢ [] → onto_first b l ≢ []
onto-some b [] some = absurd (some refl)
onto-some b (w ∷ ws) some = λ e. cc

cond-some : (t : Bool) (l m : Line) → l ≢ [] → m ≢ [] → cond t l m ≢ []
cond-some true l m p q = p
cond-some false l m p q = q

parts-some : (bs : List ℕ) → parts bs ≢ []
parts-some [] = λ e. cc
parts-some (b ∷ bs) = cond-some (nat_eq b 32) ([] ∷ parts bs) (onto_first b (parts bs)) (λ e. cc) (onto-some b (parts bs) (parts-some bs))

line-later : (b : ℕ) (l : Line) (rest : List ℕ) (t : Bool) → (t ≡ true → b ≡ 32) → l ≢ [] → line l ≡ rest → line (cond t ([] ∷ l) (onto_first b l)) ≡ b ∷ rest
line-later b [] rest t h some e = absurd (some refl)
line-later b (w ∷ ws) rest true h some e = ap (λ (r : List ℕ). 32 ∷ r) e ∙ ap (λ (c : ℕ). c ∷ rest) (sym (h refl))
line-later b (w ∷ ws) rest false h some e = line-onto b (w ∷ ws) some ∙ ap (λ (r : List ℕ). b ∷ r) e

is_space : (b : ℕ) → nat_eq b 32 ≡ true → b ≡ 32
is_space b e = grind (arith, nat_tests)

is_newline : (b : ℕ) → nat_eq b 10 ≡ true → b ≡ 10
is_newline b e = grind (arith, nat_tests)

parts-line : (bs : List ℕ) → line (parts bs) ≡ bs ++ 10 ∷ []
parts-line [] = refl
parts-line (b ∷ bs) = line-later b (parts bs) (bs ++ 10 ∷ []) (nat_eq b 32) (is_space b) (parts-some bs) (parts-line bs)

before-step : (b : ℕ) (bs raw : List ℕ) (m : Option (List ℕ)) (t : Bool) → (t ≡ true → b ≡ 10) → ((r : List ℕ) → m ≡ Some r → bs ≡ r ++ 10 ∷ behind_newline bs)
    → cond t (Some []) (option_map (λ (l : List ℕ). b ∷ l) m) ≡ Some raw → b ∷ bs ≡ raw ++ 10 ∷ cond t bs (behind_newline bs)
before-step b bs raw m true h more e =
    let none : [] ≡ raw = cc in
    let newline : b ≡ 10 = h refl in
    ap (λ (c : ℕ). c ∷ bs) newline ∙ ap (λ (r : List ℕ). r ++ 10 ∷ bs) none
before-step b bs raw None false h more e = cc
before-step b bs raw (Some r) false h more e =
    let front : b ∷ r ≡ raw = cc in
    ap (λ (l : List ℕ). b ∷ l) (more r refl) ∙ ap (λ (l : List ℕ). l ++ 10 ∷ behind_newline bs) front

before-bytes : (bytes raw : List ℕ) → before_newline bytes ≡ Some raw → bytes ≡ raw ++ 10 ∷ behind_newline bytes
before-bytes [] raw e = cc
before-bytes (b ∷ bs) raw e = before-step b bs raw (before_newline bs) (nat_eq b 10) (is_newline b) (before-bytes bs) e

here-some : (bytes : List ℕ) (o : Option (List ℕ)) (w : Word) (ws : Line) → before_newline bytes ≡ o → words_of o ≡ w ∷ ws → bytes ≡ line (w ∷ ws) ++ behind_newline bytes
here-some bytes None w ws e h = cc
here-some bytes (Some raw) w ws e h =
    before-bytes bytes raw e
    ∙ (sym (append_assoc raw (10 ∷ []) (behind_newline bytes)) ∙ ap (λ (t : List ℕ). t ++ behind_newline bytes) (sym (parts-line raw) ∙ ap line h))

here-bytes : (bytes : List ℕ) (w : Word) (ws : Line) → words_here bytes ≡ w ∷ ws → bytes ≡ line (w ∷ ws) ++ behind_newline bytes
here-bytes bytes w ws e = here-some bytes (before_newline bytes) w ws refl e

-- ---- a line that tells a value
pub record IsLineParse {A : Type 0} (Fits : A → Type 0) (words : A → Line) (parse : Line → Option A) : Type 0 where
  pub plain : (a : A) → Fits a → IsLine (words a)
  pub tells : (ws : Line) (a : A) → parse ws ≡ Some a → Fits a × (words a ≡ ws)
  pub back : (a : A) → Fits a → parse (words a) ≡ Some a
  pub some : A
  pub some_fits : Fits some

same_value : {A : Type 0} (a b : A) → Some a ≡ Some b → a ≡ b
same_value a b e = cc

pub line-is_spelling : {A : Type 0} (Fits : A → Type 0) (words : A → Line) (parse : Line → Option A) → IsLineParse Fits words parse → IsSpelling Fits (one words)
line-is_spelling Fits words parse good = one_line Fits words good.plain (λ a b f g e. same_value a b (sym (good.back a f) ∙ (ap parse e ∙ good.back b g)))

line-is_bytes : (l : Line) (bytes : List ℕ) → IsLine l → words_here bytes ≡ l → bytes ≡ line l ++ behind_newline bytes
line-is_bytes [] bytes p e = absurd p
line-is_bytes (w ∷ ws) bytes p e = here-bytes bytes w ws e

line_passes : {A : Type 0} (Fits : A → Type 0) (words : A → Line) (parse : Line → Option A) (p : Place) (a : A) → IsLineParse Fits words parse → parse (words_here p.bytes) ≡ Some a
    → Fits a × Passes (one words a) p (next_place p)
line_passes Fits words parse p a good e =
    let both = good.tells (words_here p.bytes) a e in
    let bytes = line-is_bytes (words a) p.bytes (good.plain a both.0) (sym both.1) in
    (both.0, record { bytes = bytes ∙ ap (λ (t : List ℕ). t ++ behind_newline p.bytes) (sym (append-nil (line (words a)))); line = omega arith })

line_stops : {A : Type 0} (Fits : A → Type 0) (words : A → Line) (parse : Line → Option A) (p : Place) → IsLineParse Fits words parse → parse (words_here p.bytes) ≡ None
    → StopsAt (Speak Fits (one words)) p (faults.At (p.line + 1) (kind_at p.bytes))
line_stops {A} Fits words parse p good e = (
  0,
  omega arith,
  record {
    some = words good.some ∷ [];
    said = record { value = good.some; fits = good.some_fits; are = refl };
    more = omega arith;
    rest = p.bytes;
    parts = refl;
    kind_of = refl;
    none = λ ls x said same.
        let a = said.value in
        let whole : p.bytes ≡ line (words a) ++ x =
        same ∙ ap (λ (ms : List Line). text (take 1 ms) ++ x) (sym said.are) ∙ ap (λ (t : List ℕ). t ++ x) (append-nil (line (words a))) in
        let read : words_here p.bytes ≡ words a = ap words_here whole ∙ here-line (words a) x (good.plain a said.fits) in
        let both : None ≡ Some a = sym e ∙ (ap parse read ∙ good.back a said.fits) in
        cc;
  },
)

-- where no byte is left no line tells a value
no_bytes : {A : Type 0} (Fits : A → Type 0) (words : A → Line) (parse : Line → Option A) (bytes : List ℕ) (a : A) → IsLineParse Fits words parse → parse (words_here bytes) ≡ Some a → bytes ≡ [] → ⊥
no_bytes Fits words parse bytes a good e none =
    let both = good.tells (words_here bytes) a e in
    let empty : words a ≡ [] = both.1 ∙ ap words_here none in
    let P : Line → Type 0 = λ l. IsLine l in
    subst P empty (good.plain a both.0)

settled-reads : {A : Type 0} (Fits : A → Type 0) (words : A → Line) (parse : Line → Option A) (p : Place) (o : Option A) (bytes : List ℕ) → IsLineParse Fits words parse → parse (words_here p.bytes) ≡ o → p.bytes ≡ bytes
    → ReadsTo Fits (one words) p (settled p o bytes)
settled-reads Fits words parse p None bytes good e is = line_stops Fits words parse p good e
settled-reads Fits words parse p (Some a) [] good e is = absurd (no_bytes Fits words parse p.bytes a good e is)
settled-reads Fits words parse p (Some a) (b ∷ bs) good e is = line_passes Fits words parse p a good e

pub line-reads : {A : Type 0} (Fits : A → Type 0) (words : A → Line) (parse : Line → Option A) (p : Place) → IsLineParse Fits words parse → ReadsTo Fits (one words) p (line_read parse p)
line-reads Fits words parse p good = settled-reads Fits words parse p (parse (words_here p.bytes)) p.bytes good refl refl
