-- Reading a whole text answers with the proof that it spells, or with its first fault.
use Rattle.std.proofs.Common.{◌≡◌, ◌≢◌, ℕ, ◌+◌, ◌⊎◌, Result, Ok, Err, IfOk, IfErr, List, [], ◌∷◌, ◌++◌, length, map, filter, refl, sym, ap, ◌∙◌, subst, inl, inr, append_assoc, arith}
use Rattle.std.specs.List.{AllByRecursion, AllZip}
use Rattle.std.proofs.lemmas.List.{append-nil}
use Rattle.text_words.specs.Lines.{lines}
use Rattle.text_words.specs.Numbers.{integer_of}
use Rattle.lrat_text.specs.declared.proof.LratStep.{LratStep}
use Rattle.lrat_text.specs.declared.fault.LratKind.{LratKind}
use Rattle.lrat_text.specs.declared.fault.LratKind.TheVariants as kinds
use Rattle.lrat_text.specs.declared.fault.LratFault.{LratFault}
use Rattle.lrat_text.specs.declared.fault.LratFault.TheVariants as faults
use Rattle.lrat_text.specs.Lrat.{words_of, has_words, SpellsStep, SpellsProof, IsLineFault, IsRight, IsFirstFault, IsFault, Answers}
use Rattle.lrat_text.specs.Reading.{◌>>=◌, Words, Place, at_line, step_of, with_line, proof_from, reading, Gives}
use Rattle.lrat_text.proofs.Lists.{ok-ok, err-err}
use Rattle.lrat_text.proofs.Steps.{line_of, step-ok, step-err}
use Rattle.lrat_text.proofs.StepsBack.{step-read, step-some, fault-read}

abbrev Steps : Type 0
Steps = List LratStep

abbrev statements : List (List ℕ) → List Words
statements ls = filter has_words (map words_of ls)

-- ---- what an answer says

proof-ok : (ls : List (List ℕ)) (acc : Steps) (n : ℕ) (proof : Steps) → proof_from acc n ls ≡ Ok proof → (ss : Steps) × (proof ≡ acc ++ ss) × AllZip SpellsStep (statements ls) ss
proof-ok [] acc n proof e = ([], sym (ok-ok acc proof e) ∙ sym (append-nil acc), tt)
proof-ok (l ∷ ls) acc n proof e =
    let more : Steps → Result Steps Place = λ ss. proof_from ss (n + 1) ls in
    let G : Words → Type 0 = λ ws. (ss : Steps) × (proof ≡ acc ++ ss) × AllZip SpellsStep (filter has_words (ws ∷ map words_of ls)) ss in
    let at_words : (ws : Words) → with_line acc (n + 1) ws more ≡ Ok proof → G ws = λ ws. elim ws as (λ vs. with_line acc (n + 1) vs more ≡ Ok proof → G vs) [
      | [] ↦ λ h. proof-ok ls acc (n + 1) proof h
      | (v ∷ vs) ↦ λ h.
          let step : (r : Result LratStep LratKind) → step_of v vs ≡ r → (at_line (n + 1) r >>= λ s. more (acc ++ s ∷ [])) ≡ Ok proof → G (v ∷ vs) = λ r. elim r as (λ q. step_of v vs ≡ q → (at_line (n + 1) q >>= λ s. more (acc ++ s ∷ [])) ≡ Ok proof → G (v ∷ vs)) [
            | Ok s ↦ λ is g.
                let rest = proof-ok ls (acc ++ s ∷ []) (n + 1) proof g in
                (s ∷ rest.0, rest.1 ∙ append_assoc acc (s ∷ []) rest.0, (step-ok v vs s is, rest.2))
            | Err k ↦ λ is g. cc
          ] in
          step (step_of v vs) refl h
    ] in
    at_words (words_of l) e

record Faulty (ls : List (List ℕ)) (n line : ℕ) (kind : LratKind) : Type 0 where
  pub before : List (List ℕ)
  pub at_fault : List ℕ
  pub after : List (List ℕ)
  pub parts : ls ≡ before ++ at_fault ∷ after
  pub right : AllByRecursion IsRight before
  pub place : line ≡ n + length before + 1
  pub fault : IsLineFault (words_of at_fault) kind

one-more : (l : List ℕ) (ls : List (List ℕ)) (n line : ℕ) (kind : LratKind) → IsRight l → Faulty ls (n + 1) line kind → Faulty (l ∷ ls) n line kind
one-more l ls n line kind right f = record {
  before = l ∷ f.before;
  at_fault = f.at_fault;
  after = f.after;
  parts = ap (λ xs. l ∷ xs) f.parts;
  right = (right, f.right);
  place = omega (arith, f.place);
  fault = f.fault;
}

proof-err : (ls : List (List ℕ)) (acc : Steps) (n line : ℕ) (kind : LratKind) → proof_from acc n ls ≡ Err (line, kind) → Faulty ls n line kind
proof-err [] acc n line kind e = cc
proof-err (l ∷ ls) acc n line kind e =
    let more : Steps → Result Steps Place = λ ss. proof_from ss (n + 1) ls in
    let G : Type 0 = Faulty (l ∷ ls) n line kind in
    let at_words : (ws : Words) → words_of l ≡ ws → with_line acc (n + 1) ws more ≡ Err (line, kind) → G = λ ws. elim ws as (λ vs. words_of l ≡ vs → with_line acc (n + 1) vs more ≡ Err (line, kind) → G) [
      | [] ↦ λ blank h. one-more l ls n line kind (inl blank) (proof-err ls acc (n + 1) line kind h)
      | (v ∷ vs) ↦ λ spelled h.
          let step : (r : Result LratStep LratKind) → step_of v vs ≡ r → (at_line (n + 1) r >>= λ s. more (acc ++ s ∷ [])) ≡ Err (line, kind) → G = λ r. elim r as (λ q. step_of v vs ≡ q → (at_line (n + 1) q >>= λ s. more (acc ++ s ∷ [])) ≡ Err (line, kind) → G) [
            | Ok s ↦ λ is g.
                let right : IsRight l = inr (s, subst (λ (ws : Words). SpellsStep ws s) (sym spelled) (step-ok v vs s is)) in
                one-more l ls n line kind right (proof-err ls (acc ++ s ∷ []) (n + 1) line kind g)
            | Err k ↦ λ is g.
                let at = err-err (n + 1, k) (line, kind) g in
                let here : IsLineFault (words_of l) k = subst (λ (ws : Words). IsLineFault ws k) (sym spelled) (step-err v vs k is) in
                record {
                  before = [];
                  at_fault = l;
                  after = ls;
                  parts = refl;
                  right = tt;
                  place = omega (arith, ap (λ (p : Place). p.0) at);
                  fault = subst (λ (k : LratKind). IsLineFault (words_of l) k) (ap (λ (p : Place). p.1) at) here;
                }
          ] in
          step (step_of v vs) refl h
    ] in
    at_words (words_of l) refl e

-- ---- what is spelled is answered

with_line-some : (acc : Steps) (n : ℕ) (ws : Words) (more : Steps → Result Steps Place) → ws ≢ [] → with_line acc n ws more ≡ (at_line n (line_of ws) >>= λ s. more (acc ++ s ∷ []))
with_line-some acc n [] more some = absurd (some refl)
with_line-some acc n (w ∷ ws) more some = refl

proof-read : (ls : List (List ℕ)) (acc : Steps) (n : ℕ) (ss : Steps) → AllZip SpellsStep (statements ls) ss → proof_from acc n ls ≡ Ok (acc ++ ss)
proof-read [] acc n [] each = ap (λ xs. Ok xs) (sym (append-nil acc))
proof-read [] acc n (s ∷ ss) each = absurd each
proof-read (l ∷ ls) acc n ss each =
    let more : Steps → Result Steps Place = λ xs. proof_from xs (n + 1) ls in
    let at_words : (ws : Words) → AllZip SpellsStep (filter has_words (ws ∷ map words_of ls)) ss → with_line acc (n + 1) ws more ≡ Ok (acc ++ ss) = λ ws. elim ws as (λ vs. AllZip SpellsStep (filter has_words (vs ∷ map words_of ls)) ss → with_line acc (n + 1) vs more ≡ Ok (acc ++ ss)) [
      | [] ↦ λ h. proof-read ls acc (n + 1) ss h
      | (v ∷ vs) ↦ λ h. at_step v vs ss h more (λ xs rest. proof-read ls xs (n + 1) rest)
    ] in
    at_words (words_of l) each
  where
    at_step : (v : List ℕ) (vs : Words) (ss : Steps) → AllZip SpellsStep ((v ∷ vs) ∷ statements ls) ss → (more : Steps → Result Steps Place)
        → ((xs rest : Steps) → AllZip SpellsStep (statements ls) rest → more xs ≡ Ok (xs ++ rest)) → with_line acc (n + 1) (v ∷ vs) more ≡ Ok (acc ++ ss)
    at_step v vs [] h more go = absurd h
    at_step v vs (s ∷ rest) h more go =
        ap (λ r. at_line (n + 1) r >>= λ s. more (acc ++ s ∷ [])) (step-read (v ∷ vs) s h.0)
        ∙ go (acc ++ s ∷ []) rest h.1
        ∙ ap (λ xs. Ok xs) (append_assoc acc (s ∷ []) rest)

some-append : (xs : Words) (y : List ℕ) (ys : Words) → xs ++ y ∷ ys ≡ [] → ⊥
some-append [] y ys e = cc
some-append (x ∷ xs) y ys e = cc

-- a line with a fault has words
fault-some : (ws : Words) (kind : LratKind) → IsLineFault ws kind → ws ≢ []
fault-some ws kinds.Truncated (inl c) none = let bad = sym (ap (map integer_of) none) ∙ c.2.are in cc
fault-some ws kinds.Truncated (inr (inl c)) none = let bad = sym (ap (map integer_of) none) ∙ c.3.are in cc
fault-some ws kinds.Truncated (inr (inr c)) none = let bad = sym none ∙ c.2.parts in cc
fault-some ws kinds.Number f none = some-append f.earlier f.word f.later (sym f.parts ∙ none)
fault-some ws kinds.Form f none = some-append f.earlier f.word f.later (sym f.parts ∙ none)

fault-answer : (before : List (List ℕ)) (l : List ℕ) (after : List (List ℕ)) (acc : Steps) (n : ℕ) (kind : LratKind) → AllByRecursion IsRight before → IsLineFault (words_of l) kind
    → proof_from acc n (before ++ l ∷ after) ≡ Err (n + length before + 1, kind)
fault-answer [] l after acc n kind right fault =
    with_line-some acc (n + 1) (words_of l) (λ ss. proof_from ss (n + 1) after) (fault-some (words_of l) kind fault)
    ∙ ap (λ r. at_line (n + 1) r >>= λ s. proof_from (acc ++ s ∷ []) (n + 1) after) (fault-read (words_of l) kind fault)
    ∙ ap (λ k. Err (k, kind)) (omega arith)
fault-answer (b ∷ bs) l after acc n kind right fault =
    let more : Steps → Result Steps Place = λ ss. proof_from ss (n + 1) (bs ++ l ∷ after) in
    let later : (xs : Steps) → more xs ≡ Err (n + length (b ∷ bs) + 1, kind) = λ xs. fault-answer bs l after xs (n + 1) kind right.1 fault ∙ ap (λ k. Err (k, kind)) (omega arith) in
    elim right.0 as (λ _. with_line acc (n + 1) (words_of b) more ≡ Err (n + length (b ∷ bs) + 1, kind)) [
      | inl blank ↦ ap (λ ws. with_line acc (n + 1) ws more) blank ∙ later acc
      | inr step ↦
          with_line-some acc (n + 1) (words_of b) more (step-some (words_of b) step.0 step.1)
          ∙ ap (λ r. at_line (n + 1) r >>= λ s. more (acc ++ s ∷ [])) (step-read (words_of b) step.0 step.1)
          ∙ later (acc ++ step.0 ∷ [])
    ]

first-fault-answer : (text : List ℕ) (line : ℕ) (kind : LratKind) → IsFirstFault text line kind → reading text ≡ Err (line, kind)
first-fault-answer text line kind f =
    ap (proof_from [] 0) f.parts
    ∙ fault-answer f.before f.at_fault f.after [] 0 kind f.right f.fault
    ∙ ap (λ k. Err (k, kind)) (omega (arith, f.place))

-- ---- what a call returns that gives what reading answers

pub proof-spelled : (text : List ℕ) (r : Result Steps LratFault) → Gives (λ p. p) r (reading text) → IfOk r (SpellsProof text)
proof-spelled text (Ok p) g =
    let h = proof-ok (lines text) [] 0 p g in
    subst (λ (ss : Steps). AllZip SpellsStep (statements (lines text)) ss) (sym h.1) h.2
proof-spelled text (Err e) g = tt

first-fault : (text : List ℕ) (e : LratFault) → Gives {A = Steps} (λ p. p) (Err e) (reading text) → IsFault text e
first-fault text (faults.At line kind) g =
    let f = proof-err (lines text) [] 0 line kind g in
    record { before = f.before; at_fault = f.at_fault; after = f.after; parts = f.parts; right = f.right; place = omega (arith, f.place); fault = f.fault }
first-fault text faults.OutOfMemory g = tt

pub fault-is-first : (text : List ℕ) (r : Result Steps LratFault) → Gives (λ p. p) r (reading text) → IfErr r (IsFault text)
fault-is-first text (Ok p) g = tt
fault-is-first text (Err e) g = first-fault text e g

pub proof-answered : (text : List ℕ) (r : Result Steps LratFault) (p : Steps) → Gives (λ p. p) r (reading text) → SpellsProof text p → Answers r (Ok p)
proof-answered text (Ok x) p g s = inl (ap (λ (y : Steps). Ok y) (ok-ok x p (sym g ∙ proof-read (lines text) [] 0 p s)))
proof-answered text (Err e) p g s =
    let read = proof-read (lines text) [] 0 p s in
    let step : (e : LratFault) → Gives {A = Steps} (λ p. p) (Err e) (reading text) → Answers (Err e) (Ok p) = λ e. elim e as (λ v. Gives {A = Steps} (λ p. p) (Err v) (reading text) → Answers (Err v) (Ok p)) [
      | faults.At line kind ↦ λ h. cc
      | faults.OutOfMemory ↦ λ h. inr refl
    ] in
    step e g

pub fault-answered : (text : List ℕ) (r : Result Steps LratFault) (line : ℕ) (kind : LratKind) → Gives (λ p. p) r (reading text) → IsFirstFault text line kind
    → Answers r (Err (faults.At line kind))
fault-answered text (Ok x) line kind g s = let read = first-fault-answer text line kind s in cc
fault-answered text (Err e) line kind g s =
    let read = first-fault-answer text line kind s in
    let step : (e : LratFault) → Gives {A = Steps} (λ p. p) (Err e) (reading text) → Answers (Err e) (Err (faults.At line kind)) = λ e. elim e as (λ v. Gives {A = Steps} (λ p. p) (Err v) (reading text) → Answers (Err v) (Err (faults.At line kind))) [
      | faults.At n k ↦ λ h. let same = err-err (n, k) (line, kind) (sym h ∙ read) in inl (ap (λ (x : Place). Err (faults.At x.0 x.1)) same)
      | faults.OutOfMemory ↦ λ h. inr refl
    ] in
    step e g

-- ---- each text is read one way

pub some-answer : (text : List ℕ) → ((p : Steps) × SpellsProof text p) ⊎ ((line : ℕ) × (kind : LratKind) × IsFirstFault text line kind)
some-answer text =
    let G : Type 0 = ((p : Steps) × SpellsProof text p) ⊎ ((line : ℕ) × (kind : LratKind) × IsFirstFault text line kind) in
    let way : (r : Result Steps Place) → reading text ≡ r → G = λ r. elim r as (λ v. reading text ≡ v → G) [
      | Ok p ↦ λ is. inl (p, proof-spelled text (Ok p) is)
      | Err e ↦ λ is. inr (e.0, e.1, first-fault text (faults.At e.0 e.1) is)
    ] in
    way (reading text) refl

pub one-proof : (text : List ℕ) (p q : Steps) → SpellsProof text p → SpellsProof text q → p ≡ q
one-proof text p q s t = ok-ok p q (sym (proof-read (lines text) [] 0 p s) ∙ proof-read (lines text) [] 0 q t)

pub one-fault : (text : List ℕ) (m n : ℕ) (k l : LratKind) → IsFirstFault text m k → IsFirstFault text n l → (m ≡ n) × (k ≡ l)
one-fault text m n k l s t =
    let same = err-err (m, k) (n, l) (sym (first-fault-answer text m k s) ∙ first-fault-answer text n l t) in
    (ap (λ (p : Place). p.0) same, ap (λ (p : Place). p.1) same)

pub not-both : (text : List ℕ) (p : Steps) (line : ℕ) (kind : LratKind) → SpellsProof text p → ¬ IsFirstFault text line kind
not-both text p line kind s t = let one = proof-read (lines text) [] 0 p s in let other = first-fault-answer text line kind t in cc
