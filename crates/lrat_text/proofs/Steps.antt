-- What the words of a line answer, beside what they spell.
use Rattle.std.proofs.Common.{◌≡◌, ◌≢◌, ℕ, ◌⊎◌, Bool, true, false, cond, Option, Some, None, Result, Ok, Err, ℤ, pos, codes, List, [], ◌∷◌, ◌++◌, length, map, refl, sym, ap, ◌∙◌, subst, inl, inr, append_assoc, arith}
use Rattle.std.specs.Str.{bytes_eq}
use Rattle.std.proofs.lemmas.List.{map-id}
use Rattle.std.proofs.lemmas.Slice.Eq.{bytes_eq-Decides}
use Rattle.text_words.specs.Numbers.{integer_of}
use Rattle.lrat_text.specs.declared.proof.LratStep.{LratStep}
use Rattle.lrat_text.specs.declared.proof.LratStep.TheVariants.{Add, Delete}
use Rattle.lrat_text.specs.declared.fault.LratKind.{LratKind}
use Rattle.lrat_text.specs.declared.fault.LratKind.TheVariants as kinds
use Rattle.lrat_text.specs.Lrat.{Are, IsNumber, IsId, IsLiteral, IsHint, BeginsLiterals, BeginsHints, BeginsIds, SpellsStep, id as due_id, literal, hint, deleted_id, nothing, Comes, Wrong, HasWrongWord, IsLineFault}
use Rattle.lrat_text.specs.Reading.{◌>>=◌, Words, small_of, id_of, literal_of, hint_of, deleted_of, list_from, past_end, at_end, addition_of, deletion_of, after_id, step_of}
use Rattle.lrat_text.proofs.Lists.{ok-ok, err-err, are-append, are-cons, Items, list-ok, list-err}
use Rattle.lrat_text.proofs.Items.{below-ok, below-err, NoNumber, reads-literals, reads-hints, reads-deleted, id-ok, id-err, literal-err, hint-err, deleted-err}

pub bind-ok : {A B E : Type 0} (r : Result A E) (f : A → Result B E) (y : B) → (r >>= f) ≡ Ok y → (x : A) × (r ≡ Ok x) × (f x ≡ Ok y)
bind-ok (Ok x) f y e = (x, refl, e)
bind-ok (Err k) f y e = cc

pub bind-err : {A B E : Type 0} (r : Result A E) (f : A → Result B E) (k : E) → (r >>= f) ≡ Err k → (r ≡ Err k) ⊎ ((x : A) × (r ≡ Ok x) × (f x ≡ Err k))
bind-err (Ok x) f k e = inr (x, refl, e)
bind-err {A} (Err j) f k e = inl (ap (λ i. Err i) (err-err j k e))

-- the words of a whole line
abbrev pub line_of : Words → Result LratStep LratKind
line_of [] = Err kinds.Truncated
line_of (w ∷ ws) = step_of w ws

pub push-append : {A : Type 0} (xs : List A) (y : A) (ys : List A) → (xs ++ y ∷ []) ++ ys ≡ xs ++ y ∷ ys
push-append xs y ys = append_assoc xs (y ∷ []) ys

-- ---- items of literals and hints are the numbers themselves

abbrev pub plain : ℤ → ℤ
plain z = z

plain-are : (words : Words) (zs : List ℤ) → Are words (map plain zs) → Are words zs
plain-are words zs are = subst (λ (ys : List ℤ). Are words ys) (map-id zs) are

pub are-plain : (words : Words) (zs : List ℤ) → Are words zs → Are words (map plain zs)
are-plain words zs are = subst (λ (ys : List ℤ). Are words ys) (sym (map-id zs)) are

-- ---- the ways in which a line begins

begins-literals : (w : List ℕ) (n : ℕ) (words : Words) (lits : List ℤ) → (integer_of w ≡ Some (pos n)) × IsId n → Items plain IsLiteral words lits → BeginsLiterals (w ∷ words) n lits
begins-literals w n words lits h items = record { are = are-cons w words (pos n) lits h.0 (plain-are words lits items.are); of_id = h.1; of_lits = items.good }

begins-hints : (w : List ℕ) (n : ℕ) (front : Words) (zero_word : List ℕ) (back : Words) (lits hints : List ℤ) → (integer_of w ≡ Some (pos n)) × IsId n → Items plain IsLiteral front lits
    → integer_of zero_word ≡ Some (pos 0) → Items plain IsHint back hints → BeginsHints (w ∷ (front ++ zero_word ∷ back)) n lits hints
begins-hints w n front zero_word back lits hints h first zero second = record {
  are = are-cons w (front ++ zero_word ∷ back) (pos n) (lits ++ pos 0 ∷ hints) h.0
      (are-append front (zero_word ∷ back) lits (pos 0 ∷ hints) (plain-are front lits first.are) (are-cons zero_word back (pos 0) hints zero (plain-are back hints second.are)));
  of_id = h.1;
  of_lits = first.good;
  of_hints = second.good;
}

begins-ids : (w v : List ℕ) (n : ℕ) (words : Words) (ids : List ℕ) → (integer_of w ≡ Some (pos n)) × IsId n → v ≡ codes "d" → Items (λ i. pos i) IsId words ids → BeginsIds (w ∷ v ∷ words) n ids
begins-ids w v n words ids h d items = record {
  first = w;
  rest = words;
  parts = ap (λ x. w ∷ x ∷ words) d;
  number = h.0;
  of_number = h.1;
  are = items.are;
  of_ids = items.good;
}

-- ---- a step that is read

at_end-ok : (step s : LratStep) (ws : Words) → at_end step ws ≡ Ok s → (ws ≡ []) × (step ≡ s)
at_end-ok step s [] e = (refl, ok-ok step s e)
at_end-ok step s (w ∷ ws) e = cc

addition-ok : (w : List ℕ) (n : ℕ) (ws : Words) (step : LratStep) → (integer_of w ≡ Some (pos n)) × IsId n → addition_of n ws ≡ Ok step → SpellsStep (w ∷ ws) step
addition-ok w n ws step h e =
    let first = bind-ok (list_from literal_of [] ws) (λ l. list_from hint_of [] l.1 >>= λ r. at_end (Add n l.0 r.0) r.1) step e in
    let l = first.0 in
    let lits = list-ok literal_of plain IsLiteral reads-literals ws [] l.0 l.1 first.1 in
    let one = lits.2 in
    let second = bind-ok (list_from hint_of [] l.1) (λ r. at_end (Add n l.0 r.0) r.1) step first.2 in
    let r = second.0 in
    let hints = list-ok hint_of plain IsHint reads-hints l.1 [] r.0 r.1 second.1 in
    let two = hints.2 in
    let end = at_end-ok (Add n l.0 r.0) step r.1 second.2 in
    let begun = w ∷ (one.begun ++ one.zero_word ∷ two.begun) in
    let parts : w ∷ ws ≡ begun ++ two.zero_word ∷ [] =
    ap (λ vs. w ∷ vs) (one.parts
    ∙ ap (λ vs. one.begun ++ one.zero_word ∷ vs) (two.parts ∙ ap (λ vs. two.begun ++ two.zero_word ∷ vs) end.0)
    ∙ sym (append_assoc one.begun (one.zero_word ∷ two.begun) (two.zero_word ∷ []))) in
    let spelled : SpellsStep (w ∷ ws) (Add n lits.0 hints.0) = (
      begun,
      two.zero_word,
      parts,
      two.zero,
      begins-hints w n one.begun one.zero_word two.begun lits.0 hints.0 h one.items one.zero two.items,
    ) in
    let is : Add n lits.0 hints.0 ≡ step = ap (λ ls. Add n ls hints.0) (sym lits.1) ∙ ap (λ hs. Add n l.0 hs) (sym hints.1) ∙ end.1 in
    subst (λ (s : LratStep). SpellsStep (w ∷ ws) s) is spelled

deletion-ok : (w v : List ℕ) (n : ℕ) (ws : Words) (step : LratStep) → (integer_of w ≡ Some (pos n)) × IsId n → v ≡ codes "d" → deletion_of n ws ≡ Ok step → SpellsStep (w ∷ v ∷ ws) step
deletion-ok w v n ws step h d e =
    let first = bind-ok (list_from deleted_of [] ws) (λ r. at_end (Delete n r.0) r.1) step e in
    let r = first.0 in
    let ids = list-ok deleted_of (λ i. pos i) IsId reads-deleted ws [] r.0 r.1 first.1 in
    let one = ids.2 in
    let end = at_end-ok (Delete n r.0) step r.1 first.2 in
    let spelled : SpellsStep (w ∷ v ∷ ws) (Delete n ids.0) = (
      w ∷ v ∷ one.begun,
      one.zero_word,
      ap (λ vs. w ∷ v ∷ vs) (one.parts ∙ ap (λ vs. one.begun ++ one.zero_word ∷ vs) end.0),
      one.zero,
      begins-ids w v n one.begun ids.0 h d one.items,
    ) in
    let is : Delete n ids.0 ≡ step = ap (λ is. Delete n is) (sym ids.1) ∙ end.1 in
    subst (λ (s : LratStep). SpellsStep (w ∷ v ∷ ws) s) is spelled

after-ok : (w : List ℕ) (n : ℕ) (ws : Words) (step : LratStep) → (integer_of w ≡ Some (pos n)) × IsId n → after_id n ws ≡ Ok step → SpellsStep (w ∷ ws) step
after-ok w n [] step h e = cc
after-ok w n (v ∷ vs) step h e =
    let test = bytes_eq v (codes "d") in
    let way : (b : Bool) → test ≡ b → cond b (deletion_of n vs) (addition_of n (v ∷ vs)) ≡ Ok step → SpellsStep (w ∷ v ∷ vs) step = λ b. elim b as (λ k. test ≡ k → cond k (deletion_of n vs) (addition_of n (v ∷ vs)) ≡ Ok step → SpellsStep (w ∷ v ∷ vs) step) [
      | true ↦ λ yes g. deletion-ok w v n vs step h ((bytes_eq-Decides v (codes "d")).0 yes) g
      | false ↦ λ other g. addition-ok w n (v ∷ vs) step h g
    ] in
    way test refl e

pub step-ok : (w : List ℕ) (ws : Words) (step : LratStep) → step_of w ws ≡ Ok step → SpellsStep (w ∷ ws) step
step-ok w ws step e =
    let h = bind-ok (id_of (small_of w)) (λ n. after_id n ws) step e in
    after-ok w h.0 ws step (id-ok (integer_of w) h.0 h.1) h.2

-- ---- a line with a fault

long : {A : Type 0} (x y : A) (xs : List A) (P : Type 0) → length (x ∷ y ∷ xs) ≡ 1 → P
long x y xs P e = absurd (omega arith)

past-cases : (u : List ℕ) (kind : LratKind) → past_end (small_of u) ≡ kind → ((kind ≡ kinds.Number) × NoNumber (integer_of u)) ⊎ ((kind ≡ kinds.Form) × ((z : ℤ) × IsNumber u z))
past-cases u kind e =
    let read : Option ℤ → Result ℤ LratKind = read_any in
    let G : Type 0 = ((kind ≡ kinds.Number) × NoNumber (integer_of u)) ⊎ ((kind ≡ kinds.Form) × ((z : ℤ) × IsNumber u z)) in
    let way : (o : Option ℤ) → small_of u ≡ o → past_end o ≡ kind → G = λ o. elim o as (λ v. small_of u ≡ v → past_end v ≡ kind → G) [
      | None ↦ λ is g. elim (below-err read_any refl (integer_of u) kinds.Number (ap read_any is)) as (λ _. G) [
        | inl h ↦ inl (sym g, h.1)
        | inr h ↦ cc
      ]
      | Some z ↦ λ is g. let h = below-ok read_any refl (integer_of u) z (ap read_any is) in inr (sym g, (h.0, (h.1, h.2)))
    ] in
    way (small_of u) refl e
  where
    read_any : Option ℤ → Result ℤ LratKind
    read_any None = Err kinds.Number
    read_any (Some z) = Ok z

past-fault : (words earlier : Words) (u : List ℕ) (us : Words) (step : LratStep) (kind : LratKind) → words ≡ earlier ++ u ∷ us → SpellsStep earlier step → (length earlier ≡ 1 → ⊥) → past_end (small_of u) ≡ kind
    → IsLineFault words kind
past-fault words earlier u us step kind parts spelled more e =
    elim (past-cases u kind e) as (λ _. IsLineFault words kind) [
      | inl h ↦ subst (λ (k : LratKind). IsLineFault words k) (sym h.0) (record {
        earlier = earlier;
        word = u;
        later = us;
        parts = parts;
        due = nothing;
        comes = (step, spelled);
        wrong = λ z g. h.1 z g.0 g.1;
        other = λ one. absurd (more one);
      })
      | inr h ↦ subst (λ (k : LratKind). IsLineFault words k) (sym h.0) (record {
        earlier = earlier;
        word = u;
        later = us;
        parts = parts;
        due = nothing;
        comes = (step, spelled);
        wrong = h.1;
        other = λ one. absurd (more one);
      })
    ]

at_end-err : (step : LratStep) (ws : Words) (kind : LratKind) → at_end step ws ≡ Err kind → (u : List ℕ) × (us : Words) × (ws ≡ u ∷ us) × (past_end (small_of u) ≡ kind)
at_end-err step [] kind e = cc
at_end-err step (u ∷ us) kind e = (u, us, refl, err-err (past_end (small_of u)) kind e)

deletion-err : (w v : List ℕ) (n : ℕ) (ws : Words) (kind : LratKind) → (integer_of w ≡ Some (pos n)) × IsId n → v ≡ codes "d" → deletion_of n ws ≡ Err kind → IsLineFault (w ∷ v ∷ ws) kind
deletion-err w v n ws kind h d e =
    let words = w ∷ v ∷ ws in
    let G : Type 0 = IsLineFault words kind in
    elim (bind-err (list_from deleted_of [] ws) (λ r. at_end (Delete n r.0) r.1) kind e) as (λ _. G) [
      | inl bad ↦ elim (list-err deleted_of (λ i. pos i) IsId reads-deleted ws [] kind bad) as (λ _. G) [
        | inl cut ↦ subst (λ (k : LratKind). IsLineFault words k) (sym cut.0) (inr (inr (n, cut.1.0, begins-ids w v n ws cut.1.0 h d cut.1.1)))
        | inr stop ↦
            let comes : Comes (w ∷ v ∷ stop.begun) deleted_id = (n, stop.xs, begins-ids w v n stop.begun stop.xs h d stop.items) in
            let fault : (k : LratKind) → Wrong deleted_id stop.word k → HasWrongWord words k = λ k wrong. record {
              earlier = w ∷ v ∷ stop.begun;
              word = stop.word;
              later = stop.later;
              parts = ap (λ vs. w ∷ v ∷ vs) stop.parts;
              due = deleted_id;
              comes = comes;
              wrong = wrong;
              other = λ one. long w v stop.begun (stop.word ≢ codes "d") one;
            } in
            elim (deleted-err (integer_of stop.word) kind stop.refused) as (λ _. G) [
              | inl g ↦ subst (λ (k : LratKind). IsLineFault words k) (sym g.0) (fault kinds.Number (λ z q. g.1 z q.0 q.1))
              | inr g ↦ subst (λ (k : LratKind). IsLineFault words k) (sym g.0) (fault kinds.Form (g.1.0, (g.1.1, g.1.2), g.1.3))
            ]
      ]
      | inr good ↦
          let r = good.0 in
          let ids = list-ok deleted_of (λ i. pos i) IsId reads-deleted ws [] r.0 r.1 good.1 in
          let one = ids.2 in
          let end = at_end-err (Delete n r.0) r.1 kind good.2 in
          let earlier = w ∷ v ∷ (one.begun ++ one.zero_word ∷ []) in
          let spelled : SpellsStep earlier (Delete n ids.0) = (w ∷ v ∷ one.begun, one.zero_word, refl, one.zero, begins-ids w v n one.begun ids.0 h d one.items) in
          let parts : words ≡ earlier ++ end.0 ∷ end.1 =
          ap (λ vs. w ∷ v ∷ vs) (one.parts ∙ ap (λ vs. one.begun ++ one.zero_word ∷ vs) end.2 ∙ sym (push-append one.begun one.zero_word (end.0 ∷ end.1))) in
          past-fault words earlier end.0 end.1 (Delete n ids.0) kind parts spelled (λ one'. long w v (one.begun ++ one.zero_word ∷ []) ⊥ one') end.3
    ]

addition-err : (w v : List ℕ) (n : ℕ) (vs : Words) (kind : LratKind) → (integer_of w ≡ Some (pos n)) × IsId n → v ≢ codes "d" → addition_of n (v ∷ vs) ≡ Err kind → IsLineFault (w ∷ v ∷ vs) kind
addition-err w v n vs kind h not_d e =
    let ws = v ∷ vs in
    let words = w ∷ ws in
    let G : Type 0 = IsLineFault words kind in
    elim (bind-err (list_from literal_of [] ws) (λ l. list_from hint_of [] l.1 >>= λ r. at_end (Add n l.0 r.0) r.1) kind e) as (λ _. G) [
      | inl bad ↦ elim (list-err literal_of plain IsLiteral reads-literals ws [] kind bad) as (λ _. G) [
        | inl cut ↦ subst (λ (k : LratKind). IsLineFault words k) (sym cut.0) (inl (n, cut.1.0, begins-literals w n ws cut.1.0 h cut.1.1))
        | inr stop ↦
            let g = literal-err (integer_of stop.word) kind stop.refused in
            subst (λ (k : LratKind). IsLineFault words k) (sym g.0) (record {
              earlier = w ∷ stop.begun;
              word = stop.word;
              later = stop.later;
              parts = ap (λ vs. w ∷ vs) stop.parts;
              due = literal;
              comes = (n, stop.xs, begins-literals w n stop.begun stop.xs h stop.items);
              wrong = g.1;
              other = λ one is. not_d (head-is v vs stop.begun stop.word stop.later stop.parts (omega arith) ∙ is);
            })
      ]
      | inr first ↦
          let l = first.0 in
          let lits = list-ok literal_of plain IsLiteral reads-literals ws [] l.0 l.1 first.1 in
          let one = lits.2 in
          elim (bind-err (list_from hint_of [] l.1) (λ r. at_end (Add n l.0 r.0) r.1) kind first.2) as (λ _. G) [
            | inl bad ↦ elim (list-err hint_of plain IsHint reads-hints l.1 [] kind bad) as (λ _. G) [
              | inl cut ↦
                  let begins = begins-hints w n one.begun one.zero_word l.1 lits.0 cut.1.0 h one.items one.zero cut.1.1 in
                  let comes : BeginsHints words n lits.0 cut.1.0 = subst (λ (vs : Words). BeginsHints (w ∷ vs) n lits.0 cut.1.0) (sym one.parts) begins in
                  subst (λ (k : LratKind). IsLineFault words k) (sym cut.0) (inr (inl (n, lits.0, cut.1.0, comes)))
              | inr stop ↦
                  let g = hint-err (integer_of stop.word) kind stop.refused in
                  let earlier = w ∷ (one.begun ++ one.zero_word ∷ stop.begun) in
                  subst (λ (k : LratKind). IsLineFault words k) (sym g.0) (record {
                    earlier = earlier;
                    word = stop.word;
                    later = stop.later;
                    parts = ap (λ vs. w ∷ vs) (one.parts ∙ ap (λ vs. one.begun ++ one.zero_word ∷ vs) stop.parts ∙ sym (append_assoc one.begun (one.zero_word ∷ stop.begun) (stop.word ∷ stop.later)));
                    due = hint;
                    comes = (n, lits.0, stop.xs, begins-hints w n one.begun one.zero_word stop.begun lits.0 stop.xs h one.items one.zero stop.items);
                    wrong = λ z q. g.1 z q.0 q.1;
                    other = λ one'. absurd (longer w one.begun one.zero_word stop.begun one');
                  })
            ]
            | inr second ↦
                let r = second.0 in
                let hints = list-ok hint_of plain IsHint reads-hints l.1 [] r.0 r.1 second.1 in
                let two = hints.2 in
                let end = at_end-err (Add n l.0 r.0) r.1 kind second.2 in
                let begun = w ∷ (one.begun ++ one.zero_word ∷ two.begun) in
                let earlier = begun ++ two.zero_word ∷ [] in
                let spelled : SpellsStep earlier (Add n lits.0 hints.0) = (begun, two.zero_word, refl, two.zero, begins-hints w n one.begun one.zero_word two.begun lits.0 hints.0 h one.items one.zero two.items) in
                let parts : words ≡ earlier ++ end.0 ∷ end.1 =
                ap (λ vs. w ∷ vs) (one.parts
                ∙ ap (λ vs. one.begun ++ one.zero_word ∷ vs) (two.parts ∙ ap (λ vs. two.begun ++ two.zero_word ∷ vs) end.2)
                ∙ sym (append_assoc one.begun (one.zero_word ∷ two.begun) (two.zero_word ∷ end.0 ∷ end.1)))
                ∙ sym (push-append begun two.zero_word (end.0 ∷ end.1)) in
                past-fault words earlier end.0 end.1 (Add n lits.0 hints.0) kind parts spelled
                (λ one'. longer w one.begun one.zero_word (two.begun ++ two.zero_word ∷ []) (ap length (sym (ap (λ vs. w ∷ vs) (append_assoc one.begun (one.zero_word ∷ two.begun) (two.zero_word ∷ [])))) ∙ one'))
                end.3
          ]
    ]
  where
    -- where nothing comes before a word, it is the first
    head-is : (v : List ℕ) (vs begun : Words) (word : List ℕ) (later : Words) → v ∷ vs ≡ begun ++ word ∷ later → length begun ≡ 0 → v ≡ word
    head-is v vs [] word later e none = cc
    head-is v vs (b ∷ bs) word later e none = absurd (omega arith)

    longer : (w : List ℕ) (xs : Words) (y : List ℕ) (ys : Words) → length (w ∷ (xs ++ y ∷ ys)) ≡ 1 → ⊥
    longer w [] y ys e = omega arith
    longer w (x ∷ xs) y ys e = omega arith

after-err : (w : List ℕ) (n : ℕ) (ws : Words) (kind : LratKind) → (integer_of w ≡ Some (pos n)) × IsId n → after_id n ws ≡ Err kind → IsLineFault (w ∷ ws) kind
after-err w n [] kind h e =
    subst (λ (k : LratKind). IsLineFault (w ∷ []) k) (err-err kinds.Truncated kind e) (inl (n, [], begins-literals w n [] [] h (record { are = refl; good = tt })))
after-err w n (v ∷ vs) kind h e =
    let test = bytes_eq v (codes "d") in
    let G : Type 0 = IsLineFault (w ∷ v ∷ vs) kind in
    let way : (b : Bool) → test ≡ b → cond b (deletion_of n vs) (addition_of n (v ∷ vs)) ≡ Err kind → G = λ b. elim b as (λ k. test ≡ k → cond k (deletion_of n vs) (addition_of n (v ∷ vs)) ≡ Err kind → G) [
      | true ↦ λ yes g. deletion-err w v n vs kind h ((bytes_eq-Decides v (codes "d")).0 yes) g
      | false ↦ λ other g. addition-err w v n vs kind h (λ is. let yes = (bytes_eq-Decides v (codes "d")).1 is in cc) g
    ] in
    way test refl e

pub step-err : (w : List ℕ) (ws : Words) (kind : LratKind) → step_of w ws ≡ Err kind → IsLineFault (w ∷ ws) kind
step-err w ws kind e =
    let words = w ∷ ws in
    let G : Type 0 = IsLineFault words kind in
    let fault : (k : LratKind) → Wrong due_id w k → HasWrongWord words k = λ k wrong. record {
      earlier = [];
      word = w;
      later = ws;
      parts = refl;
      due = due_id;
      comes = refl;
      wrong = wrong;
      other = λ one. absurd (omega arith);
    } in
    elim (bind-err (id_of (small_of w)) (λ n. after_id n ws) kind e) as (λ _. G) [
      | inl bad ↦ elim (id-err (integer_of w) kind bad) as (λ _. G) [
        | inl g ↦ subst (λ (k : LratKind). IsLineFault words k) (sym g.0) (fault kinds.Number (λ z q. g.1 z q.0 q.1))
        | inr g ↦ subst (λ (k : LratKind). IsLineFault words k) (sym g.0) (fault kinds.Form (g.1.0, (g.1.1, g.1.2), g.1.3))
      ]
      | inr good ↦ after-err w good.0 ws kind (id-ok (integer_of w) good.0 good.1) good.2
    ]
