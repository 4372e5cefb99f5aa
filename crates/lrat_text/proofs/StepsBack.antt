-- What is spelled is answered, and so is each first fault of a line.
use Rattle.std.proofs.Common.{◌≡◌, ◌≢◌, ℕ, ◌+◌, Bool, true, false, cond, Option, Some, None, Result, Ok, Err, ℤ, pos, codes, List, [], ◌∷◌, ◌++◌, length, map, refl, sym, ap, ◌∙◌, inl, inr, append_assoc, arith}
use Rattle.std.specs.Str.{bytes_eq}
use Rattle.std.proofs.lemmas.List.{append-nil}
use Rattle.std.proofs.lemmas.Slice.Eq.{bytes_eq-Decides}
use Rattle.text_words.specs.Numbers.{integer_of}
use Rattle.lrat_text.specs.declared.proof.LratStep.{LratStep}
use Rattle.lrat_text.specs.declared.proof.LratStep.TheVariants.{Add, Delete}
use Rattle.lrat_text.specs.declared.fault.LratKind.{LratKind}
use Rattle.lrat_text.specs.declared.fault.LratKind.TheVariants as kinds
use Rattle.lrat_text.specs.Lrat.{IsNumber, IsId, IsLiteral, IsHint, BeginsLiterals, BeginsHints, BeginsIds, SpellsStep, Due, id as due_id, literal, hint, deleted_id, nothing, Comes, Wrong, IsCutOff, IsLineFault}
use Rattle.lrat_text.specs.Reading.{◌>>=◌, Words, small_of, id_of, literal_of, hint_of, deleted_of, list_from, past_end, at_end, addition_of, deletion_of, after_id, step_of}
use Rattle.lrat_text.proofs.Lists.{are-cut, are-head, Items, list-ended, list-stopped, list-cut, below}
use Rattle.lrat_text.proofs.Items.{below-none, below-small, NoNumber, reads-literals, reads-hints, reads-deleted, id-reads, id-form, literal-number, deleted-form}
use Rattle.lrat_text.proofs.Steps.{line_of, plain, are-plain, push-append}

-- ---- how far a line is read

-- hints and the rest, after an id and literals
abbrev hints_of : ℕ → List ℤ → Words → Result LratStep LratKind
hints_of n lits ws = list_from hint_of [] ws >>= λ h. at_end (Add n lits h.0) h.1

-- a word that is a number isn't the letter d
number-not_d : (v : List ℕ) (z : ℤ) → integer_of v ≡ Some z → bytes_eq v (codes "d") ≡ false
number-not_d v z is =
    let way : (b : Bool) → bytes_eq v (codes "d") ≡ b → b ≡ false = λ b. elim b as (λ k. bytes_eq v (codes "d") ≡ k → k ≡ false) [
      | true ↦ λ yes.
          let d : v ≡ codes "d" = (bytes_eq-Decides v (codes "d")).0 yes in
          let none : None ≡ Some z = sym (ap integer_of d) ∙ is in
          cc
      | false ↦ λ other. refl
    ] in
    way (bytes_eq v (codes "d")) refl

other-not_d : (v : List ℕ) → v ≢ codes "d" → bytes_eq v (codes "d") ≡ false
other-not_d v other =
    let way : (b : Bool) → bytes_eq v (codes "d") ≡ b → b ≡ false = λ b. elim b as (λ k. bytes_eq v (codes "d") ≡ k → k ≡ false) [
      | true ↦ λ yes. absurd (other ((bytes_eq-Decides v (codes "d")).0 yes))
      | false ↦ λ no'. refl
    ] in
    way (bytes_eq v (codes "d")) refl

after_id-addition : (n : ℕ) (v : List ℕ) (vs : Words) → bytes_eq v (codes "d") ≡ false → after_id n (v ∷ vs) ≡ addition_of n (v ∷ vs)
after_id-addition n v vs other = ap (λ b. cond b (deletion_of n vs) (addition_of n (v ∷ vs))) other

-- the id is read
id-read : (w : List ℕ) (ws : Words) (n : ℕ) → integer_of w ≡ Some (pos n) → IsId n → step_of w ws ≡ after_id n ws
id-read w ws n is good = ap (λ r. r >>= λ i. after_id i ws) (id-reads (integer_of w) n is good)

-- literals, and a word after them that isn't the letter d in second place
record Reached (words : Words) (n : ℕ) (lits : List ℤ) : Type 0 where
  pub rest : Words
  pub items : Items plain IsLiteral rest lits
  pub size : length words ≡ length rest + 1
  pub read : (u : List ℕ) (us : Words) → (length words ≡ 1 → u ≢ codes "d") → line_of (words ++ u ∷ us) ≡ addition_of n (rest ++ u ∷ us)
  pub cut : line_of words ≡ Err kinds.Truncated

first-not_d : (rest : Words) (lits : List ℤ) (u : List ℕ) (us : Words) (n : ℕ) → Items plain IsLiteral rest lits → (length rest ≡ 0 → u ≢ codes "d")
    → after_id n (rest ++ u ∷ us) ≡ addition_of n (rest ++ u ∷ us)
first-not_d [] lits u us n items other = after_id-addition n u us (other-not_d u (other refl))
first-not_d (v ∷ vs) [] u us n items other = let are = items.are in cc
first-not_d (v ∷ vs) (l ∷ ls) u us n items other =
    let h = are-head (v ∷ vs) l (map plain ls) items.are in
    let same : v ≡ h.first = let parts = h.parts in cc in
    after_id-addition n v (vs ++ u ∷ us) (number-not_d v l (ap integer_of same ∙ h.of_first))

cut-short : (rest : Words) (lits : List ℤ) (n : ℕ) → Items plain IsLiteral rest lits → after_id n rest ≡ Err kinds.Truncated
cut-short [] lits n items = refl
cut-short (v ∷ vs) [] n items = let are = items.are in cc
cut-short (v ∷ vs) (l ∷ ls) n items =
    let h = are-head (v ∷ vs) l (map plain ls) items.are in
    let same : v ≡ h.first = let parts = h.parts in cc in
    after_id-addition n v vs (number-not_d v l (ap integer_of same ∙ h.of_first))
    ∙ ap (λ r. r >>= λ k. hints_of n k.0 k.1) (list-cut literal_of plain IsLiteral reads-literals (v ∷ vs) (l ∷ ls) items)

reached : (words : Words) (n : ℕ) (lits : List ℤ) → BeginsLiterals words n lits → Reached words n lits
reached words n lits b =
    let h = are-head words (pos n) lits b.are in
    let items : Items plain IsLiteral h.rest lits = record { are = are-plain h.rest lits h.of_rest; good = b.of_lits } in
    let long : length words ≡ length h.rest + 1 = omega (arith, ap length h.parts) in
    record {
      rest = h.rest;
      items = items;
      size = long;
      read = λ u us other.
          ap (λ ws. line_of (ws ++ u ∷ us)) h.parts
          ∙ id-read h.first (h.rest ++ u ∷ us) n h.of_first b.of_id
          ∙ first-not_d h.rest lits u us n items (λ none. other (omega arith));
      cut = ap line_of h.parts ∙ id-read h.first h.rest n h.of_first b.of_id ∙ cut-short h.rest lits n items;
    }

-- the id, the literals and 0 are read
record ReachedHints (words : Words) (n : ℕ) (lits hints : List ℤ) : Type 0 where
  pub rest : Words
  pub items : Items plain IsHint rest hints
  pub read : (more : Words) → line_of (words ++ more) ≡ hints_of n lits (rest ++ more)

reached-hints : (words : Words) (n : ℕ) (lits hints : List ℤ) → BeginsHints words n lits hints → ReachedHints words n lits hints
reached-hints words n lits hints b =
    let h = are-head words (pos n) (lits ++ pos 0 ∷ hints) b.are in
    let c = are-cut h.rest lits (pos 0 ∷ hints) h.of_rest in
    let z = are-head c.back (pos 0) hints c.of_back in
    let items : Items plain IsLiteral c.front lits = record { are = are-plain c.front lits c.of_front; good = b.of_lits } in
    record {
      rest = z.rest;
      items = record { are = are-plain z.rest hints z.of_rest; good = b.of_hints };
      read = λ more.
          let after = z.rest ++ more in
          let parts : words ++ more ≡ h.first ∷ (c.front ++ z.first ∷ after) =
          ap (λ ws. ws ++ more) (h.parts ∙ ap (λ ws. h.first ∷ ws) (c.parts ∙ ap (λ ws. c.front ++ ws) z.parts))
          ∙ ap (λ ws. h.first ∷ ws) (append_assoc c.front (z.first ∷ z.rest) more) in
          ap line_of parts
          ∙ id-read h.first (c.front ++ z.first ∷ after) n h.of_first b.of_id
          ∙ first-not_d c.front lits z.first after n items (λ none d. let bad : None ≡ Some (pos 0) = sym (ap integer_of d) ∙ z.of_first in cc)
          ∙ ap (λ r. r >>= λ k. hints_of n k.0 k.1) (list-ended literal_of plain IsLiteral reads-literals c.front z.first after lits items z.of_first);
    }

-- a number and the letter d are read
abbrev ids_of : ℕ → Words → Result LratStep LratKind
ids_of n ws = list_from deleted_of [] ws >>= λ d. at_end (Delete n d.0) d.1

record ReachedIds (words : Words) (n : ℕ) (ids : List ℕ) : Type 0 where
  pub rest : Words
  pub items : Items (λ i. pos i) IsId rest ids
  pub read : (more : Words) → line_of (words ++ more) ≡ ids_of n (rest ++ more)

reached-ids : (words : Words) (n : ℕ) (ids : List ℕ) → BeginsIds words n ids → ReachedIds words n ids
reached-ids words n ids b = record {
  rest = b.rest;
  items = record { are = b.are; good = b.of_ids };
  read = λ more. ap (λ ws. line_of (ws ++ more)) b.parts ∙ id-read b.first (codes "d" ∷ (b.rest ++ more)) n b.number b.of_number;
}

-- ---- a step is read, and what follows it

step-then : (words : Words) (step : LratStep) (more : Words) → SpellsStep words step → line_of (words ++ more) ≡ at_end step more
step-then words (Add n lits hints) more s =
    let begun = s.0 in
    let zero_word = s.1 in
    let r = reached-hints begun n lits hints s.4 in
    ap (λ ws. line_of (ws ++ more)) s.2
    ∙ ap line_of (push-append begun zero_word more)
    ∙ r.read (zero_word ∷ more)
    ∙ ap (λ q. q >>= λ h. at_end (Add n lits h.0) h.1) (list-ended hint_of plain IsHint reads-hints r.rest zero_word more hints r.items s.3)
step-then words (Delete n ids) more s =
    let begun = s.0 in
    let zero_word = s.1 in
    let r = reached-ids begun n ids s.4 in
    ap (λ ws. line_of (ws ++ more)) s.2
    ∙ ap line_of (push-append begun zero_word more)
    ∙ r.read (zero_word ∷ more)
    ∙ ap (λ q. q >>= λ d. at_end (Delete n d.0) d.1) (list-ended deleted_of (λ i. pos i) IsId reads-deleted r.rest zero_word more ids r.items s.3)

pub step-read : (words : Words) (step : LratStep) → SpellsStep words step → line_of words ≡ Ok step
step-read words step s = ap line_of (sym (append-nil words)) ∙ step-then words step [] s

-- ---- a first fault is answered

cut-read : (words : Words) → IsCutOff words → line_of words ≡ Err kinds.Truncated
cut-read words (inl c) = (reached words c.0 c.1 c.2).cut
cut-read words (inr (inl c)) =
    let r = reached-hints words c.0 c.1 c.2 c.3 in
    ap line_of (sym (append-nil words))
    ∙ r.read []
    ∙ ap (hints_of c.0 c.1) (append-nil r.rest)
    ∙ ap (λ q. q >>= λ h. at_end (Add c.0 c.1 h.0) h.1) (list-cut hint_of plain IsHint reads-hints r.rest c.2 r.items)
cut-read words (inr (inr c)) =
    let r = reached-ids words c.0 c.1 c.2 in
    ap line_of (sym (append-nil words))
    ∙ r.read []
    ∙ ap (ids_of c.0) (append-nil r.rest)
    ∙ ap (λ q. q >>= λ d. at_end (Delete c.0 d.0) d.1) (list-cut deleted_of (λ i. pos i) IsId reads-deleted r.rest c.1 r.items)

no-number : (word : List ℕ) → ((z : ℤ) → ¬ IsNumber word z) → NoNumber (integer_of word)
no-number word none z is small = none z (is, small)

past-number : (word : List ℕ) → NoNumber (integer_of word) → past_end (small_of word) ≡ kinds.Number
past-number word none =
    let read : Option ℤ → Result ℤ LratKind = read_any in
    let way : (o : Option ℤ) → small_of word ≡ o → past_end o ≡ kinds.Number = λ o. elim o as (λ v. small_of word ≡ v → past_end v ≡ kinds.Number) [
      | None ↦ λ is. refl
      | Some z ↦ λ is. let bad = below-none read_any refl (integer_of word) none in let good : read_any (small_of word) ≡ Ok z = ap read_any is in cc
    ] in
    way (small_of word) refl
  where
    read_any : Option ℤ → Result ℤ LratKind
    read_any None = Err kinds.Number
    read_any (Some z) = Ok z

past-form : (word : List ℕ) (z : ℤ) → IsNumber word z → past_end (small_of word) ≡ kinds.Form
past-form word z is = ap (λ o. past_end (below o)) is.0 ∙ ap past_end (below-small z is.1)

-- the reading stops at the wrong word
literal-stop : (words earlier : Words) (word : List ℕ) (later : Words) (n : ℕ) (lits : List ℤ) (kind : LratKind) → words ≡ earlier ++ word ∷ later → BeginsLiterals earlier n lits
    → (length earlier ≡ 1 → word ≢ codes "d") → literal_of (small_of word) ≡ Err kind → line_of words ≡ Err kind
literal-stop words earlier word later n lits kind parts b other refused =
    let r = reached earlier n lits b in
    ap line_of parts
    ∙ r.read word later other
    ∙ ap (λ q. q >>= λ k. hints_of n k.0 k.1) (list-stopped literal_of plain IsLiteral reads-literals r.rest word later lits kind r.items refused)

hint-stop : (words earlier : Words) (word : List ℕ) (later : Words) (n : ℕ) (lits hints : List ℤ) (kind : LratKind) → words ≡ earlier ++ word ∷ later → BeginsHints earlier n lits hints
    → hint_of (small_of word) ≡ Err kind → line_of words ≡ Err kind
hint-stop words earlier word later n lits hints kind parts b refused =
    let r = reached-hints earlier n lits hints b in
    ap line_of parts
    ∙ r.read (word ∷ later)
    ∙ ap (λ q. q >>= λ h. at_end (Add n lits h.0) h.1) (list-stopped hint_of plain IsHint reads-hints r.rest word later hints kind r.items refused)

id-stop : (words earlier : Words) (word : List ℕ) (later : Words) (n : ℕ) (ids : List ℕ) (kind : LratKind) → words ≡ earlier ++ word ∷ later → BeginsIds earlier n ids
    → deleted_of (small_of word) ≡ Err kind → line_of words ≡ Err kind
id-stop words earlier word later n ids kind parts b refused =
    let r = reached-ids earlier n ids b in
    ap line_of parts
    ∙ r.read (word ∷ later)
    ∙ ap (λ q. q >>= λ d. at_end (Delete n d.0) d.1) (list-stopped deleted_of (λ i. pos i) IsId reads-deleted r.rest word later ids kind r.items refused)

end-stop : (words earlier : Words) (word : List ℕ) (later : Words) (step : LratStep) (kind : LratKind) → words ≡ earlier ++ word ∷ later → SpellsStep earlier step
    → past_end (small_of word) ≡ kind → line_of words ≡ Err kind
end-stop words earlier word later step kind parts s is =
    ap line_of parts ∙ step-then earlier step (word ∷ later) s ∙ ap (λ k. Err k) is

start-stop : (words earlier : Words) (word : List ℕ) (later : Words) (kind : LratKind) → words ≡ earlier ++ word ∷ later → earlier ≡ [] → id_of (small_of word) ≡ Err kind → line_of words ≡ Err kind
start-stop words earlier word later kind parts none refused =
    ap line_of (parts ∙ ap (λ ws. ws ++ word ∷ later) none) ∙ ap (λ r. r >>= λ i. after_id i later) refused

number-read : (words earlier : Words) (word : List ℕ) (later : Words) (d : Due) → words ≡ earlier ++ word ∷ later → Comes earlier d → Wrong d word kinds.Number → (length earlier ≡ 1 → word ≢ codes "d")
    → line_of words ≡ Err kinds.Number
number-read words earlier word later due_id parts c wrong other =
    start-stop words earlier word later kinds.Number parts c (below-none id_of refl (integer_of word) (no-number word wrong))
number-read words earlier word later literal parts c wrong other =
    literal-stop words earlier word later c.0 c.1 kinds.Number parts c.2 other (literal-number (integer_of word) wrong)
number-read words earlier word later hint parts c wrong other =
    hint-stop words earlier word later c.0 c.1 c.2 kinds.Number parts c.3 (below-none hint_of refl (integer_of word) (no-number word wrong))
number-read words earlier word later deleted_id parts c wrong other =
    id-stop words earlier word later c.0 c.1 kinds.Number parts c.2 (below-none deleted_of refl (integer_of word) (no-number word wrong))
number-read words earlier word later nothing parts c wrong other =
    end-stop words earlier word later c.0 kinds.Number parts c.1 (past-number word (no-number word wrong))

form-read : (words earlier : Words) (word : List ℕ) (later : Words) (d : Due) → words ≡ earlier ++ word ∷ later → Comes earlier d → Wrong d word kinds.Form → line_of words ≡ Err kinds.Form
form-read words earlier word later due_id parts c wrong =
    start-stop words earlier word later kinds.Form parts c (id-form (integer_of word) wrong.0 wrong.1.0 wrong.1.1 wrong.2)
form-read words earlier word later literal parts c wrong = absurd wrong
form-read words earlier word later hint parts c wrong = absurd wrong
form-read words earlier word later deleted_id parts c wrong =
    id-stop words earlier word later c.0 c.1 kinds.Form parts c.2 (deleted-form (integer_of word) wrong.0 wrong.1.0 wrong.1.1 wrong.2)
form-read words earlier word later nothing parts c wrong =
    end-stop words earlier word later c.0 kinds.Form parts c.1 (past-form word wrong.0 wrong.1)

pub fault-read : (words : Words) (kind : LratKind) → IsLineFault words kind → line_of words ≡ Err kind
fault-read words kinds.Number f = number-read words f.earlier f.word f.later f.due f.parts f.comes f.wrong f.other
fault-read words kinds.Form f = form-read words f.earlier f.word f.later f.due f.parts f.comes f.wrong
fault-read words kinds.Truncated f = cut-read words f

-- a line that spells a step, or has a fault, has words
pub step-some : (words : Words) (step : LratStep) → SpellsStep words step → words ≢ []
step-some words step s none = let read = step-read words step s in let bad : line_of words ≡ Err kinds.Truncated = ap line_of none in cc
