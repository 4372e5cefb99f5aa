-- Reading a whole text answers with what it spells, and with the first fault of a text that spells nothing.
use Rattle.std.proofs.Common.{◌≡◌, ◌≢◌, ℕ, ◌+◌, ◌<◌, ◌≤◌, ◌⊎◌, max, Bool, true, false, cond, nat_lt, Option, Some, None, Result, Ok, Err, IfOk, IfErr, ℤ, pos, nat_abs, List, [], ◌∷◌, ◌++◌, length, map, refl, sym, ap, ◌∙◌, subst, inl, inr, arith}
use Rattle.std.proofs.lemmas.Bool.Decides.{nat_tests}
use Rattle.std.proofs.lemmas.List.{append-nil}
use Rattle.text_words.specs.Numbers.{integer_of}
use Rattle.text_words.specs.Lines.{lines}
use Rattle.cnf_base.specs.declared.fault.DimacsKind.{DimacsKind}
use Rattle.cnf_base.specs.declared.fault.DimacsKind.TheVariants as kinds
use Rattle.cnf_base.specs.declared.fault.DimacsFault.{DimacsFault}
use Rattle.cnf_base.specs.declared.fault.DimacsFault.TheVariants as faults
use Rattle.cnf_base.specs.Meaning.{CnfFormula}
use Rattle.cnf_base.specs.Dimacs.{words_of, last_line, placed, BeginsWith, IsHeaded, Spell, SpellsUpTo, SpellsWhole, SpellsFormula, HasNoHeader, HasOtherHeader, HasLargeHeader, IsFirstFault, IsFault, Answers}
use Rattle.cnf_base.specs.Reading.{◌>>=◌, Place, Found, Progress, at_line, header_of, found_at, with_number, with_numbers, with_placed, ended, formula_of, body_of, reading, Gives}
use Rattle.cnf_base.proofs.Numbers.{with_number-large, with_number-zero}
use Rattle.cnf_base.proofs.Placed.{Words, numbers_of, ok-ok, with_placed-ok, words-placed}
use Rattle.cnf_base.proofs.SpelledWords.{err-err, with_number-refuses}
use Rattle.cnf_base.proofs.Runs.{words_in, start, Reads, reads-none, reads-all, Stops, stops-at, spelled-runs}
use Rattle.cnf_base.proofs.HeaderLine.{Limited-few, Limited-large, header-cases, header_of-header, first-words, header_in-blank, header_in-begins}

-- ---- the header

abbrev found : ℕ → ℕ → ℕ → List (List ℕ) → Found
found vars clauses line body = record { vars = vars; clauses = clauses; line = line; body = body }

abbrev rest_of : List ℕ → Result Found Place → Result CnfFormula Place
rest_of text h = h >>= body_of (last_line text)

-- what a text begins with, and what it is answered by
record Opens (text : List ℕ) : Type 0 where
  pub way : (HasNoHeader text (last_line text) × (reading text ≡ Err (last_line text, kinds.Header)))
      ⊎ (((line : ℕ) × HasOtherHeader text line × (reading text ≡ Err (line, kinds.Header)))
      ⊎ (((line : ℕ) × HasLargeHeader text line × (reading text ≡ Err (line, kinds.Limit)))
      ⊎ ((vars : ℕ) × (clauses : ℕ) × (line : ℕ) × (body : List (List ℕ)) × IsHeaded text vars clauses line body × (reading text ≡ body_of (last_line text) (found vars clauses line body)))))

few-cases : (v c : ℕ) → ((v ≤ 4000000) × (c ≤ 20000000)) ⊎ ((4000000 < v) ⊎ (20000000 < c))
few-cases v c = grind arith

opens : (text : List ℕ) → Opens text
opens text = elim (first-words (lines text) 0).says as (λ _. Opens text) [
  | inl h ↦
      let at : max 1 (0 + length (lines text)) ≡ last_line text = omega arith in
      record { way = inl (record { blank = h.0; place = refl }, ap (rest_of text) h.1 ∙ ap (λ n. Err (n, kinds.Header)) at) }
  | inr h ↦
      let words = words_of h.1 in
      let line = 0 + length h.0 + 1 in
      let begins : BeginsWith text words line h.2 = record { before = h.0; first = h.1; parts = h.3; blank = h.4; some = h.5; spelled = refl; place = omega arith } in
      let read = ap (rest_of text) h.6 in
      elim (header-cases words).says as (λ _. Opens text) [
        | inl g ↦ elim (few-cases g.0 g.1) as (λ _. Opens text) [
          | inl few ↦ record {
            way = inr (inr (inr (
              g.0,
              g.1,
              line,
              h.2,
              record { words = words; begins = begins; header = g.2; few_vars = few.0; few_clauses = few.1 },
              read ∙ ap (λ r. rest_of text (found_at line h.2 r)) (g.3 ∙ Limited-few g.0 g.1 few.0 few.1),
            )));
          }
          | inr large ↦ record {
            way = inr (inr (inl (
              line,
              record { words = words; body = h.2; begins = begins; vars = g.0; clauses = g.1; header = g.2; large = large },
              read ∙ ap (λ r. rest_of text (found_at line h.2 r)) (g.3 ∙ Limited-large g.0 g.1 large),
            )));
          }
        ]
        | inr g ↦ record { way = inr (inl (line, record { words = words; body = h.2; begins = begins; other = g.0 }, read ∙ ap (λ r. rest_of text (found_at line h.2 r)) g.1)) }
      ]
]

no-header-read : (text : List ℕ) (line : ℕ) → HasNoHeader text line → reading text ≡ Err (line, kinds.Header)
no-header-read text line h =
    ap (rest_of text) (header_in-blank (lines text) 0 h.blank) ∙ ap (λ n. Err (n, kinds.Header)) (omega (arith, h.place))

other-header-read : (text : List ℕ) (line : ℕ) → HasOtherHeader text line → reading text ≡ Err (line, kinds.Header)
other-header-read text line h =
    ap (rest_of text) (header_in-begins text h.words line h.body h.begins)
    ∙ elim (header-cases h.words).says as (λ _. rest_of text (found_at line h.body (header_of h.words)) ≡ Err (line, kinds.Header)) [
      | inl g ↦ absurd (h.other g.0 g.1 g.2)
      | inr g ↦ ap (λ r. rest_of text (found_at line h.body r)) g.1
    ]

large-header-read : (text : List ℕ) (line : ℕ) → HasLargeHeader text line → reading text ≡ Err (line, kinds.Limit)
large-header-read text line h =
    ap (rest_of text) (header_in-begins text h.words line h.body h.begins)
    ∙ ap (λ r. rest_of text (found_at line h.body r)) (header_of-header h.words h.vars h.clauses h.header ∙ Limited-large h.vars h.clauses h.large)

headed-read : (text : List ℕ) (vars clauses line : ℕ) (body : List (List ℕ)) → IsHeaded text vars clauses line body
    → reading text ≡ body_of (last_line text) (found vars clauses line body)
headed-read text vars clauses line body h =
    ap (rest_of text) (header_in-begins text h.words line body h.begins)
    ∙ ap (λ r. rest_of text (found_at line body r)) (header_of-header h.words vars clauses h.header ∙ Limited-few vars clauses h.few_vars h.few_clauses)

-- ---- the body

numbers-words : (ws : Words) → numbers_of ws ≡ map integer_of (words_in ws)
numbers-words [] = refl
numbers-words (w ∷ ws) = ap (λ os. integer_of w.1 ∷ os) (numbers-words ws)

abbrev at : ℕ → ℕ → List (List ℤ) → List ℤ → Progress
at vars limit clauses begun = record { vars = vars; limit = limit; clauses = clauses; begun = begun }

abbrev ends : ℕ → Result Progress Place → Result CnfFormula Place
ends last r = r >>= λ p. at_line last (formula_of p)

-- words that spell something are read
front-read : (ws rest : Words) (vars limit : ℕ) (cs : List (List ℤ)) (b : List ℤ) → Spell vars (words_in ws) cs b → length cs ≤ limit
    → with_placed (start vars limit) (ws ++ rest) ≡ with_placed (at vars limit cs b) rest
front-read ws rest vars limit cs b s room =
    with_placed-ok ws rest (start vars limit) (at vars limit cs b) (ap (with_numbers (start vars limit)) (numbers-words ws) ∙ spelled-runs vars limit (words_in ws) cs b s room)

up-to-read : (text : List ℕ) (line : ℕ) (word : List ℕ) (vars clauses : ℕ) (done : List (List ℤ)) (begun : List ℤ) (kind : DimacsKind) → SpellsUpTo text line word vars clauses done begun
    → with_number (at vars clauses done begun) (integer_of word) ≡ Err kind → reading text ≡ Err (line, kind)
up-to-read text line word vars clauses done begun kind s refused =
    headed-read text vars clauses s.header_line s.body s.headed
    ∙ ap (λ ws. ends (last_line text) (with_placed (start vars clauses) ws)) s.parts
    ∙ ap (ends (last_line text)) (front-read s.earlier ((line, word) ∷ s.later) vars clauses done begun s.spelled s.room)
    ∙ ap (λ r. ends (last_line text) (at_line line r >>= λ q. with_placed q s.later)) refused

whole-read : (text : List ℕ) (vars clauses : ℕ) (done : List (List ℤ)) (begun : List ℤ) → SpellsWhole text vars clauses done begun
    → reading text ≡ at_line (last_line text) (formula_of (at vars clauses done begun))
whole-read text vars clauses done begun s =
    let ws = placed (s.header_line + 1) s.body in
    let spelled : Spell vars (words_in ws) done begun = subst (λ (vs : List (List ℕ)). Spell vars vs done begun) (sym (words-placed (s.header_line + 1) s.body)) s.spelled in
    headed-read text vars clauses s.header_line s.body s.headed
    ∙ ap (λ vs. ends (last_line text) (with_placed (start vars clauses) vs)) (sym (append-nil ws))
    ∙ ap (ends (last_line text)) (front-read ws [] vars clauses done begun spelled s.room)

refuses-other : (p : Progress) (o : Option ℤ) → ((z : ℤ) → o ≡ Some z → ¬ (nat_abs z ≤ p.vars)) → with_number p o ≡ Err kinds.Literal
refuses-other p None none = refl
refuses-other p (Some z) none = let large : ¬ (nat_abs z ≤ p.vars) = none z refl in with_number-large p z (omega arith)

refuses-full : (p : Progress) → p.limit ≤ length p.clauses → ended p ≡ Err kinds.Count
refuses-full p full = grind (arith, nat_tests)

fault-read : (text : List ℕ) (line : ℕ) (kind : DimacsKind) → IsFirstFault text line kind → reading text ≡ Err (line, kind)
fault-read text line kinds.Header (inl h) = no-header-read text line h
fault-read text line kinds.Header (inr h) = other-header-read text line h
fault-read text line kinds.Limit h = large-header-read text line h
fault-read text line kinds.Literal h =
    up-to-read text line h.word h.vars h.clauses h.done h.begun kinds.Literal h.before (refuses-other (at h.vars h.clauses h.done h.begun) (integer_of h.word) h.other)
fault-read text line kinds.Count (inl h) =
    let p = at h.vars h.clauses h.done h.begun in
    up-to-read text line h.word h.vars h.clauses h.done h.begun kinds.Count h.before (ap (with_number p) h.zero ∙ with_number-zero p (pos 0) refl ∙ refuses-full p (omega (arith, h.full)))
fault-read text line kinds.Count (inr h) =
    let few : nat_lt (length h.done) h.clauses ≡ true = grind (arith, nat_tests, h.fewer) in
    whole-read text h.vars h.clauses h.done [] h.whole
    ∙ ap (λ (b : Bool). at_line (last_line text) (cond b (Err kinds.Count) (Ok (record { vars = h.vars; clauses = h.done })))) few
    ∙ ap (λ n. Err (n, kinds.Count)) (sym h.place)
fault-read text line kinds.Truncated h =
    let within : (b : List ℤ) → b ≢ [] → formula_of (at h.vars h.clauses h.done b) ≡ Err kinds.Truncated = λ b. elim b as (λ v. v ≢ [] → formula_of (at h.vars h.clauses h.done v) ≡ Err kinds.Truncated) [
      | [] ↦ λ some. absurd (some refl)
      | (z ∷ zs) ↦ λ some. refl
    ] in
    whole-read text h.vars h.clauses h.done h.begun h.whole
    ∙ ap (at_line (last_line text)) (within h.begun h.within)
    ∙ ap (λ n. Err (n, kinds.Truncated)) (sym h.place)

formula-read : (text : List ℕ) (f : CnfFormula) → SpellsFormula text f → reading text ≡ Ok f
formula-read text f h =
    let whole : nat_lt (length f.clauses) (length f.clauses) ≡ false = grind (arith, nat_tests) in
    whole-read text f.vars (length f.clauses) f.clauses [] h
    ∙ ap (λ (b : Bool). at_line (last_line text) (cond b (Err kinds.Count) (Ok (record { vars = f.vars; clauses = f.clauses })))) whole

-- ---- what an answer says of the text

-- the words of a body, up to one that stops the reading
up-to : (text : List ℕ) (vars clauses line : ℕ) (body : List (List ℕ)) (at_line' : ℕ) (kind : DimacsKind) → IsHeaded text vars clauses line body
    → (s : Stops vars clauses [] (placed (line + 1) body) at_line' kind) → SpellsUpTo text at_line' s.word vars clauses s.at_word.clauses s.at_word.begun
up-to text vars clauses line body n kind h s = record {
  header_line = line;
  body = body;
  headed = h;
  earlier = s.earlier;
  later = s.later;
  parts = s.parts;
  spelled = s.reads.spelled;
  room = s.reads.room;
}

stopped : (text : List ℕ) (vars clauses line : ℕ) (body : List (List ℕ)) (n : ℕ) (kind : DimacsKind) → IsHeaded text vars clauses line body
    → Stops vars clauses [] (placed (line + 1) body) n kind → IsFirstFault text n kind
stopped text vars clauses line body n kind h s =
    let before = up-to text vars clauses line body n kind h s in
    elim (with_number-refuses s.at_word (integer_of s.word) kind s.refused) as (λ _. IsFirstFault text n kind) [
      | inl g ↦ subst (λ (k : DimacsKind). IsFirstFault text n k) (sym g.0) (record {
        word = s.word;
        vars = vars;
        clauses = clauses;
        done = s.at_word.clauses;
        begun = s.at_word.begun;
        before = before;
        other = λ z is few. g.1 z is (subst (λ (v : ℕ). nat_abs z ≤ v) (sym s.reads.of_vars) few);
      })
      | inr g ↦ subst (λ (k : DimacsKind). IsFirstFault text n k) (sym g.0) (inl (record {
        word = s.word;
        vars = vars;
        clauses = clauses;
        done = s.at_word.clauses;
        begun = s.at_word.begun;
        before = before;
        zero = g.1;
        full = omega (arith, g.2, s.reads.room, s.reads.of_limit);
      }))
    ]

whole : (text : List ℕ) (vars clauses line : ℕ) (body : List (List ℕ)) (p : Progress) → IsHeaded text vars clauses line body → Reads vars clauses (words_in (placed (line + 1) body)) p
    → SpellsWhole text vars clauses p.clauses p.begun
whole text vars clauses line body p h r = record {
  header_line = line;
  body = body;
  headed = h;
  spelled = subst (λ (ws : List (List ℕ)). Spell vars ws p.clauses p.begun) (words-placed (line + 1) body) r.spelled;
  room = r.room;
}

-- what the end of a text answers
record Ends (text : List ℕ) (answer : Result CnfFormula Place) : Type 0 where
  pub says : IfOk answer (SpellsFormula text) × IfErr answer (λ e. IsFirstFault text e.0 e.1)

ends-closed : (text : List ℕ) (vars clauses : ℕ) (done : List (List ℤ)) → SpellsWhole text vars clauses done [] → Ends text (at_line (last_line text) (formula_of (at vars clauses done [])))
ends-closed text vars clauses done s =
    let answer : Bool → Result CnfFormula Place = λ b. at_line (last_line text) (cond b (Err kinds.Count) (Ok (record { vars = vars; clauses = done }))) in
    let test = nat_lt (length done) clauses in
    let step : (b : Bool) → test ≡ b → Ends text (answer b) = λ b. elim b as (λ v. test ≡ v → Ends text (answer v)) [
      | true ↦ λ few. record { says = (tt, inr (record { vars = vars; clauses = clauses; done = done; whole = s; fewer = grind (arith, nat_tests); place = refl })) }
      | false ↦ λ many.
          let all : clauses ≡ length done = let room = s.room in grind (arith, nat_tests) in
          record { says = (subst (λ (n : ℕ). SpellsWhole text vars n done []) all s, tt) }
    ] in
    step test refl

ends-begun : (text : List ℕ) (vars clauses : ℕ) (done : List (List ℤ)) (begun : List ℤ) → SpellsWhole text vars clauses done begun
    → Ends text (at_line (last_line text) (formula_of (at vars clauses done begun)))
ends-begun text vars clauses done [] s = ends-closed text vars clauses done s
ends-begun text vars clauses done (z ∷ zs) s = record { says = (tt, record { vars = vars; clauses = clauses; done = done; begun = z ∷ zs; whole = s; within = λ e. cc; place = refl }) }

body-answers : (text : List ℕ) (vars clauses line : ℕ) (body : List (List ℕ)) → IsHeaded text vars clauses line body → Ends text (body_of (last_line text) (found vars clauses line body))
body-answers text vars clauses line body h =
    let ws = placed (line + 1) body in
    let step : (r : Result Progress Place) → with_placed (start vars clauses) ws ≡ r → Ends text (ends (last_line text) r) = λ r. elim r as (λ v. with_placed (start vars clauses) ws ≡ v → Ends text (ends (last_line text) v)) [
      | Ok p ↦ λ is.
          let reads = reads-all vars clauses [] ws (start vars clauses) p (reads-none vars clauses) is in
          let s = whole text vars clauses line body p h reads in
          let e = ends-begun text vars clauses p.clauses p.begun s in
          let P : ℕ → ℕ → Type 0 = λ v n. Ends text (at_line (last_line text) (formula_of (at v n p.clauses p.begun))) in
          subst (λ (v : ℕ). P v p.limit) (sym reads.of_vars) (subst (λ (n : ℕ). P vars n) (sym reads.of_limit) e)
      | Err e ↦ λ is. record { says = (tt, stopped text vars clauses line body e.0 e.1 h (stops-at vars clauses [] ws (start vars clauses) e.0 e.1 (reads-none vars clauses) is)) }
    ] in
    step (with_placed (start vars clauses) ws) refl

-- reading answers what the text spells, or its first fault
answers : (text : List ℕ) → Ends text (reading text)
answers text =
    let at_fault : (line : ℕ) (kind : DimacsKind) → IsFirstFault text line kind → reading text ≡ Err (line, kind) → Ends text (reading text) = λ line kind fault is.
    subst (λ (r : Result CnfFormula Place). Ends text r) (sym is) (record { says = (tt, fault) }) in
    elim (opens text).way as (λ _. Ends text (reading text)) [
      | inl h ↦ at_fault (last_line text) kinds.Header (inl h.0) h.1
      | inr (inl h) ↦ at_fault h.0 kinds.Header (inr h.1) h.2
      | inr (inr (inl h)) ↦ at_fault h.0 kinds.Limit h.1 h.2
      | inr (inr (inr h)) ↦ subst (λ (r : Result CnfFormula Place). Ends text r) (sym h.5) (body-answers text h.0 h.1 h.2 h.3 h.4)
    ]

-- ---- what a call returns that gives what reading answers

pub formula-spelled : (text : List ℕ) (r : Result CnfFormula DimacsFault) → Gives (λ f. f) r (reading text) → IfOk r (SpellsFormula text)
formula-spelled text (Ok f) g = (subst (λ (a : Result CnfFormula Place). Ends text a) g (answers text)).says.0
formula-spelled text (Err e) g = tt

fault-first : (text : List ℕ) (e : DimacsFault) → Gives {A = CnfFormula} (λ f. f) (Err e) (reading text) → IsFault text e
fault-first text (faults.At line kind) g = (subst (λ (a : Result CnfFormula Place). Ends text a) g (answers text)).says.1
fault-first text faults.OutOfMemory g = tt

pub fault-is-first : (text : List ℕ) (r : Result CnfFormula DimacsFault) → Gives (λ f. f) r (reading text) → IfErr r (IsFault text)
fault-is-first text (Ok f) g = tt
fault-is-first text (Err e) g = fault-first text e g

pub formula-answered : (text : List ℕ) (r : Result CnfFormula DimacsFault) (f : CnfFormula) → Gives (λ f. f) r (reading text) → SpellsFormula text f → Answers r (Ok f)
formula-answered text (Ok x) f g s = inl (ap (λ (y : CnfFormula). Ok y) (ok-ok x f (sym g ∙ formula-read text f s)))
formula-answered text (Err e) f g s =
    let read = formula-read text f s in
    let step : (e : DimacsFault) → Gives {A = CnfFormula} (λ f. f) (Err e) (reading text) → Answers (Err e) (Ok f) = λ e. elim e as (λ v. Gives {A = CnfFormula} (λ f. f) (Err v) (reading text) → Answers (Err v) (Ok f)) [
      | faults.At line kind ↦ λ h. cc
      | faults.OutOfMemory ↦ λ h. inr refl
    ] in
    step e g

pub fault-answered : (text : List ℕ) (r : Result CnfFormula DimacsFault) (line : ℕ) (kind : DimacsKind) → Gives (λ f. f) r (reading text) → IsFirstFault text line kind
    → Answers r (Err (faults.At line kind))
fault-answered text (Ok x) line kind g s = let read = fault-read text line kind s in cc
fault-answered text (Err e) line kind g s =
    let read = fault-read text line kind s in
    let step : (e : DimacsFault) → Gives {A = CnfFormula} (λ f. f) (Err e) (reading text) → Answers (Err e) (Err (faults.At line kind)) = λ e. elim e as (λ v. Gives {A = CnfFormula} (λ f. f) (Err v) (reading text) → Answers (Err v) (Err (faults.At line kind))) [
      | faults.At n k ↦ λ h. let same = err-err (n, k) (line, kind) (sym h ∙ read) in inl (ap (λ (x : Place). Err (faults.At x.0 x.1)) same)
      | faults.OutOfMemory ↦ λ h. inr refl
    ] in
    step e g

-- ---- each text is read one way

pub some-answer : (text : List ℕ) → ((f : CnfFormula) × SpellsFormula text f) ⊎ ((line : ℕ) × (kind : DimacsKind) × IsFirstFault text line kind)
some-answer text =
    let G : Type 0 = ((f : CnfFormula) × SpellsFormula text f) ⊎ ((line : ℕ) × (kind : DimacsKind) × IsFirstFault text line kind) in
    let way : (r : Result CnfFormula Place) → Ends text r → G = λ r. elim r as (λ v. Ends text v → G) [
      | Ok f ↦ λ e. inl (f, e.says.0)
      | Err e ↦ λ h. inr (e.0, e.1, h.says.1)
    ] in
    way (reading text) (answers text)

pub one-formula : (text : List ℕ) (f g : CnfFormula) → SpellsFormula text f → SpellsFormula text g → f ≡ g
one-formula text f g s t = ok-ok f g (sym (formula-read text f s) ∙ formula-read text g t)

pub one-fault : (text : List ℕ) (m n : ℕ) (k l : DimacsKind) → IsFirstFault text m k → IsFirstFault text n l → (m ≡ n) × (k ≡ l)
one-fault text m n k l s t =
    let same = err-err (m, k) (n, l) (sym (fault-read text m k s) ∙ fault-read text n l t) in
    (ap (λ (p : Place). p.0) same, ap (λ (p : Place). p.1) same)

pub not-both : (text : List ℕ) (f : CnfFormula) (line : ℕ) (kind : DimacsKind) → SpellsFormula text f → ¬ IsFirstFault text line kind
not-both text f line kind s t = let one = formula-read text f s in let other = fault-read text line kind t in cc
