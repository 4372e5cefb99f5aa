-- The lines that are left of a text: the first one, and those behind its newline.
use Rattle.std.proofs.Common.{◌≡◌, ◌≢◌, ℕ, suc, ◌+◌, ◌<◌, Bool, true, false, cond, eqb, List, [], ◌∷◌, length, filter, refl, sym, ap, arith}
use Rattle.text_words.specs.Lines.{is_some_line}
use Rattle.text_words.specs.Text.{Rest, line_after, next_line, later_lines}
use Rattle.wit_text.specs.Reading.{there, end, behind}

abbrev begun : List Rest → List Rest
begun rs = filter (λ (l : Rest). is_some_line l.bytes) rs

begun-later : (at : ℕ) (bs : List ℕ) → begun (later_lines at bs) ≡ there (line_after at bs)
begun-later at [] = refl
begun-later at (b ∷ bs) =
    let step : (t : Bool) → begun (cond t (record { at = at + 1; bytes = bs } ∷ later_lines (at + 1) bs) (later_lines (at + 1) bs)) ≡ there (cond t (record { at = at + 1; bytes = bs }) (line_after (at + 1) bs)) = λ t. elim t as (λ v. begun (cond v (record { at = at + 1; bytes = bs } ∷ later_lines (at + 1) bs) (later_lines (at + 1) bs)) ≡ there (cond v (record { at = at + 1; bytes = bs }) (line_after (at + 1) bs))) [
      | true ↦ refl
      | false ↦ begun-later (at + 1) bs
    ] in
    step (eqb b 10)

there-at : (at : ℕ) (bs : List ℕ) → bs ≢ [] → there (record { at = at; bytes = bs }) ≡ record { at = at; bytes = bs } ∷ there (line_after at bs)
there-at at [] some = absurd (some refl)
there-at at (b ∷ bs) some = ap (λ ls. record { at = at; bytes = b ∷ bs } ∷ ls) (begun-later at (b ∷ bs))

pub there-some : (r : Rest) → r.bytes ≢ [] → there r ≡ r ∷ there (next_line r)
there-some r some = there-at r.at r.bytes some

pub there-none : (r : Rest) → r.bytes ≡ [] → there r ≡ []
there-none r none = ap (λ (bs : List ℕ). there (record { at = r.at; bytes = bs })) none

behind-at : (at : ℕ) (bs : List ℕ) → there (line_after at bs) ≡ behind (there (record { at = at; bytes = bs }))
behind-at at [] = refl
behind-at at (b ∷ bs) = sym (begun-later at (b ∷ bs))

pub there-next : (r : Rest) → there (next_line r) ≡ behind (there r)
there-next r = behind-at r.at r.bytes

end-at : (at : ℕ) (bs : List ℕ) → end (line_after at bs) ≡ at + length bs
end-at at [] = refl
end-at at (b ∷ bs) =
    let step : (t : Bool) → end (cond t (record { at = at + 1; bytes = bs }) (line_after (at + 1) bs)) ≡ at + suc (length bs) = λ t. elim t as (λ v. end (cond v (record { at = at + 1; bytes = bs }) (line_after (at + 1) bs)) ≡ at + suc (length bs)) [
      | true ↦ omega arith
      | false ↦ omega (arith, end-at (at + 1) bs)
    ] in
    step (eqb b 10)

-- the text's end stays where it is
pub end-next : (r : Rest) → end (next_line r) ≡ end r
end-next r = end-at r.at r.bytes

shorter : (at b : ℕ) (bs : List ℕ) → length (line_after at (b ∷ bs)).bytes < suc (length bs)
shorter at b [] =
    let step : (t : Bool) → length (cond t (record { at = at + 1; bytes = [] }) (line_after (at + 1) [])).bytes < suc (length {A = ℕ} []) = λ t. elim t as (λ v. length (cond v (record { at = at + 1; bytes = [] }) (line_after (at + 1) [])).bytes < suc (length {A = ℕ} [])) [
      | true ↦ omega arith
      | false ↦ omega arith
    ] in
    step (eqb b 10)
shorter at b (d ∷ bs) =
    let rest = shorter (at + 1) d bs in
    let step : (t : Bool) → length (cond t (record { at = at + 1; bytes = d ∷ bs }) (line_after (at + 1) (d ∷ bs))).bytes < suc (suc (length bs)) = λ t. elim t as (λ v. length (cond v (record { at = at + 1; bytes = d ∷ bs }) (line_after (at + 1) (d ∷ bs))).bytes < suc (suc (length bs))) [
      | true ↦ omega arith
      | false ↦ omega (arith, rest)
    ] in
    step (eqb b 10)

shorter-at : (at : ℕ) (bs : List ℕ) → bs ≢ [] → length (line_after at bs).bytes < length bs
shorter-at at [] some = absurd (some refl)
shorter-at at (b ∷ bs) some = shorter at b bs

pub next_line-shorter : (r : Rest) → r.bytes ≢ [] → length (next_line r).bytes < length r.bytes
next_line-shorter r some = shorter-at r.at r.bytes some
