-- What reading a body's words answers, beside what they spell.
use Rattle.std.proofs.Common.{◌≡◌, ℕ, ◌+◌, ◌<◌, ◌≤◌, Option, Some, Result, Ok, Err, ℤ, pos, List, [], ◌∷◌, ◌++◌, length, map, refl, sym, ap, ◌∙◌, subst, inl, inr, append_assoc, arith, length-append}
use Rattle.std.specs.List.{flat_map, AllByRecursion}
use Rattle.std.proofs.lemmas.Bool.Decides.{nat_tests}
use Rattle.std.proofs.lemmas.List.{map-append, append-nil}
use Rattle.text_words.specs.Numbers.{integer_of}
use Rattle.cnf_base.specs.declared.fault.DimacsKind.{DimacsKind}
use Rattle.cnf_base.specs.Dimacs.{closed, IsLiteral, Spell}
use Rattle.cnf_base.specs.Reading.{◌>>=◌, Place, Progress, at_line, ended, extended, with_number, with_numbers, with_placed}
use Rattle.cnf_base.proofs.Numbers.{with_number-zero, with_number-literal}
use Rattle.cnf_base.proofs.Placed.{Words, ok-ok}
use Rattle.cnf_base.proofs.SpelledWords.{with_number-takes, spell-begun, spell-ended, err-err}

abbrev pub words_in : Words → List (List ℕ)
words_in ws = map (λ (w : ℕ × List ℕ). w.1) ws

-- the words are what was read
pub record Reads (vars limit : ℕ) (words : List (List ℕ)) (p : Progress) : Type 0 where
  pub of_vars : p.vars ≡ vars
  pub of_limit : p.limit ≡ limit
  pub spelled : Spell vars words p.clauses p.begun
  pub room : length p.clauses ≤ limit

abbrev pub start : ℕ → ℕ → Progress
start vars limit = record { vars = vars; limit = limit; clauses = []; begun = [] }

pub reads-none : (vars limit : ℕ) → Reads vars limit [] (start vars limit)
reads-none vars limit = record {
  of_vars = refl;
  of_limit = refl;
  spelled = record { numbers = refl; literals = tt; last = tt };
  room = omega arith;
}

pub reads-one : (vars limit : ℕ) (ws : List (List ℕ)) (w : List ℕ) (p q : Progress) → Reads vars limit ws p → with_number p (integer_of w) ≡ Ok q → Reads vars limit (ws ++ w ∷ []) q
reads-one vars limit ws w p q r e =
    let t = with_number-takes p q (integer_of w) e in
    elim t.way as (λ _. Reads vars limit (ws ++ w ∷ []) q) [
      | inl h ↦ record {
        of_vars = t.vars ∙ r.of_vars;
        of_limit = t.limit ∙ r.of_limit;
        spelled = subst (λ (cs : List (List ℤ)). Spell vars (ws ++ w ∷ []) cs q.begun) (sym h.2)
            (subst (λ (b : List ℤ). Spell vars (ws ++ w ∷ []) (p.clauses ++ p.begun ∷ []) b) (sym h.3) (spell-ended vars ws w p.clauses p.begun r.spelled h.0));
        room = omega (arith, ap length h.2, length-append p.clauses (p.begun ∷ []), r.of_limit);
      }
      | inr h ↦
          let lit : IsLiteral vars h.0 = subst (λ (v : ℕ). IsLiteral v h.0) r.of_vars h.2 in
          record {
            of_vars = t.vars ∙ r.of_vars;
            of_limit = t.limit ∙ r.of_limit;
            spelled = subst (λ (cs : List (List ℤ)). Spell vars (ws ++ w ∷ []) cs q.begun) (sym h.3)
                (subst (λ (b : List ℤ). Spell vars (ws ++ w ∷ []) p.clauses b) (sym h.4) (spell-begun vars ws w p.clauses p.begun h.0 r.spelled h.1 lit));
            room = omega (arith, ap length h.3, r.room);
          }
    ]

push-append : {A : Type 0} (xs : List A) (y : A) (ys : List A) → (xs ++ y ∷ []) ++ ys ≡ xs ++ y ∷ ys
push-append xs y ys = append_assoc xs (y ∷ []) ys

pub reads-all : (vars limit : ℕ) (ws : List (List ℕ)) (more : Words) (p q : Progress) → Reads vars limit ws p → with_placed p more ≡ Ok q → Reads vars limit (ws ++ words_in more) q
reads-all vars limit ws [] p q r e =
    subst (λ (s : Progress). Reads vars limit (ws ++ []) s) (ok-ok p q e) (subst (λ (vs : List (List ℕ)). Reads vars limit vs p) (sym (append-nil ws)) r)
reads-all vars limit ws (w ∷ more) p q r e =
    let G : Type 0 = Reads vars limit (ws ++ words_in (w ∷ more)) q in
    let step : (o : Result Progress DimacsKind) → with_number p (integer_of w.1) ≡ o → (at_line w.0 o >>= λ s. with_placed s more) ≡ Ok q → G = λ o. elim o as (λ v. with_number p (integer_of w.1) ≡ v → (at_line w.0 v >>= λ s. with_placed s more) ≡ Ok q → G) [
      | Ok s ↦ λ is h. subst (λ (vs : List (List ℕ)). Reads vars limit vs q) (push-append ws w.1 (words_in more))
          (reads-all vars limit (ws ++ w.1 ∷ []) more s q (reads-one vars limit ws w.1 p s r is) h)
      | Err k ↦ λ is h. cc
    ] in
    step (with_number p (integer_of w.1)) refl e

-- the first word that stops the reading
pub record Stops (vars limit : ℕ) (ws : List (List ℕ)) (more : Words) (line : ℕ) (kind : DimacsKind) : Type 0 where
  pub earlier : Words
  pub word : List ℕ
  pub later : Words
  pub at_word : Progress
  pub parts : more ≡ earlier ++ (line, word) ∷ later
  pub reads : Reads vars limit (ws ++ words_in earlier) at_word
  pub refused : with_number at_word (integer_of word) ≡ Err kind

pub stops-at : (vars limit : ℕ) (ws : List (List ℕ)) (more : Words) (p : Progress) (line : ℕ) (kind : DimacsKind) → Reads vars limit ws p → with_placed p more ≡ Err (line, kind)
    → Stops vars limit ws more line kind
stops-at vars limit ws [] p line kind r e = cc
stops-at vars limit ws (w ∷ more) p line kind r e =
    let G : Type 0 = Stops vars limit ws (w ∷ more) line kind in
    let step : (o : Result Progress DimacsKind) → with_number p (integer_of w.1) ≡ o → (at_line w.0 o >>= λ s. with_placed s more) ≡ Err (line, kind) → G = λ o. elim o as (λ v. with_number p (integer_of w.1) ≡ v → (at_line w.0 v >>= λ s. with_placed s more) ≡ Err (line, kind) → G) [
      | Ok s ↦ λ is h.
          let later = stops-at vars limit (ws ++ w.1 ∷ []) more s line kind (reads-one vars limit ws w.1 p s r is) h in
          record {
            earlier = w ∷ later.earlier;
            word = later.word;
            later = later.later;
            at_word = later.at_word;
            parts = ap (λ vs. w ∷ vs) later.parts;
            reads = subst (λ (vs : List (List ℕ)). Reads vars limit vs later.at_word) (push-append ws w.1 (words_in later.earlier)) later.reads;
            refused = later.refused;
          }
      | Err k ↦ λ is h.
          let at = err-err _ _ h in
          record {
            earlier = [];
            word = w.1;
            later = more;
            at_word = p;
            parts = ap (λ (n : ℕ). (n, w.1) ∷ more) (ap (λ (x : Place). x.0) at);
            reads = subst (λ (vs : List (List ℕ)). Reads vars limit vs p) (sym (append-nil ws)) r;
            refused = is ∙ ap (λ (x : Place). Err x.1) at;
          }
    ] in
    step (with_number p (integer_of w.1)) refl e

-- ---- what is spelled is read

abbrev pub AreLiterals : ℕ → List ℤ → Type 0
AreLiterals vars c = AllByRecursion (IsLiteral vars) c

abbrev pub somes : List ℤ → List (Option ℤ)
somes zs = map (λ z. Some z) zs

abbrev pub begun_more : Progress → List ℤ → Progress
begun_more p zs = record { vars = p.vars; limit = p.limit; clauses = p.clauses; begun = p.begun ++ zs }

abbrev pub ended_with : Progress → List ℤ → Progress
ended_with p zs = record { vars = p.vars; limit = p.limit; clauses = p.clauses ++ (p.begun ++ zs) ∷ []; begun = [] }

-- literals
runs-begun : (p : Progress) (ls : List ℤ) (os : List (Option ℤ)) → AreLiterals p.vars ls → with_numbers p (somes ls ++ os) ≡ with_numbers (begun_more p ls) os
runs-begun p [] os each = ap (λ b. with_numbers (record { vars = p.vars; limit = p.limit; clauses = p.clauses; begun = b }) os) (sym (append-nil p.begun))
runs-begun p (l ∷ ls) os each =
    ap (λ r. r >>= λ q. with_numbers q (somes ls ++ os)) (with_number-literal p l each.0.not_zero each.0.variable)
    ∙ runs-begun (extended p l) ls os each.1
    ∙ ap (λ b. with_numbers (record { vars = p.vars; limit = p.limit; clauses = p.clauses; begun = b }) os) (append_assoc p.begun (l ∷ []) ls)

ended-room : (p : Progress) → length p.clauses < p.limit → ended p ≡ Ok (ended_with p [])
ended-room p room =
    let is : ended p ≡ Ok (record { vars = p.vars; limit = p.limit; clauses = p.clauses ++ p.begun ∷ []; begun = [] }) = grind (arith, nat_tests) in
    is ∙ ap (λ b. Ok (record { vars = p.vars; limit = p.limit; clauses = p.clauses ++ b ∷ []; begun = [] })) (sym (append-nil p.begun))

-- a clause and its 0
runs-ended : (p : Progress) (c : List ℤ) (os : List (Option ℤ)) → AreLiterals p.vars c → length p.clauses < p.limit → with_numbers p (somes (closed c) ++ os) ≡ with_numbers (ended_with p c) os
runs-ended p c os each room =
    ap (λ ns. with_numbers p (ns ++ os)) (map-append (λ (z : ℤ). Some z) c (pos 0 ∷ []))
    ∙ ap (with_numbers p) (append_assoc (somes c) (Some (pos 0) ∷ []) os)
    ∙ runs-begun p c (Some (pos 0) ∷ os) each
    ∙ ap (λ r. r >>= λ q. with_numbers q os) (with_number-zero (begun_more p c) (pos 0) refl ∙ ended-room (begun_more p c) room)
    ∙ ap (λ b. with_numbers (record { vars = p.vars; limit = p.limit; clauses = p.clauses ++ b ∷ []; begun = [] }) os) (append-nil (p.begun ++ c))

-- clauses
runs-clauses : (p : Progress) (cs : List (List ℤ)) (os : List (Option ℤ)) → p.begun ≡ [] → AllByRecursion (AreLiterals p.vars) cs → length p.clauses + length cs ≤ p.limit
    → with_numbers p (somes (flat_map closed cs) ++ os) ≡ with_numbers (record { vars = p.vars; limit = p.limit; clauses = p.clauses ++ cs; begun = [] }) os
runs-clauses p [] os none each room =
    ap (λ b. with_numbers (record { vars = p.vars; limit = p.limit; clauses = p.clauses; begun = b }) os) none
    ∙ ap (λ cs. with_numbers (record { vars = p.vars; limit = p.limit; clauses = cs; begun = [] }) os) (sym (append-nil p.clauses))
runs-clauses p (c ∷ cs) os none each room =
    ap (λ ns. with_numbers p (ns ++ os)) (map-append (λ (z : ℤ). Some z) (closed c) (flat_map closed cs))
    ∙ ap (with_numbers p) (append_assoc (somes (closed c)) (somes (flat_map closed cs)) os)
    ∙ runs-ended p c (somes (flat_map closed cs) ++ os) each.0 (omega arith)
    ∙ ap (λ b. with_numbers (record { vars = p.vars; limit = p.limit; clauses = p.clauses ++ b ∷ []; begun = [] }) (somes (flat_map closed cs) ++ os)) (ap (λ b. b ++ c) none)
    ∙ runs-clauses (record { vars = p.vars; limit = p.limit; clauses = p.clauses ++ c ∷ []; begun = [] }) cs os refl each.1 (omega (arith, length-append p.clauses (c ∷ [])))
    ∙ ap (λ cs. with_numbers (record { vars = p.vars; limit = p.limit; clauses = cs; begun = [] }) os) (append_assoc p.clauses (c ∷ []) cs)

pub spelled-runs : (vars limit : ℕ) (words : List (List ℕ)) (cs : List (List ℤ)) (b : List ℤ) → Spell vars words cs b → length cs ≤ limit
    → with_numbers (start vars limit) (map integer_of words) ≡ Ok (record { vars = vars; limit = limit; clauses = cs; begun = b })
spelled-runs vars limit words cs b s room =
    ap (with_numbers (start vars limit)) (s.numbers ∙ map-append (λ (z : ℤ). Some z) (flat_map closed cs) b ∙ ap (λ ns. somes (flat_map closed cs) ++ ns) (sym (append-nil (somes b))))
    ∙ runs-clauses (start vars limit) cs (somes b ++ []) refl s.literals (omega arith)
    ∙ runs-begun (record { vars = vars; limit = limit; clauses = cs; begun = [] }) b [] s.last
