-- The header, and the line on which it stands.
use Rattle.std.proofs.Common.{◌≡◌, ◌≢◌, ℕ, ◌+◌, ◌<◌, ◌≤◌, ◌⊎◌, max, Bool, true, false, cond, ◌&&◌, if◌then◌else◌, nat_le, Option, Some, None, Result, Ok, Err, List, [], ◌∷◌, ◌++◌, length, codes, refl, sym, ap, ◌∙◌, subst, inl, inr, arith}
use Rattle.std.specs.List.{AllByRecursion}
use Rattle.std.specs.Str.{bytes_eq}
use Rattle.std.proofs.lemmas.Bool.Decides.{nat_tests}
use Rattle.std.proofs.lemmas.Slice.Eq.{bytes_eq-Decides}
use Rattle.text_words.specs.Numbers.{natural_of}
use Rattle.text_words.specs.Lines.{lines}
use Rattle.cnf_base.specs.declared.fault.DimacsKind.{DimacsKind}
use Rattle.cnf_base.specs.declared.fault.DimacsKind.TheVariants as kinds
use Rattle.cnf_base.specs.Dimacs.{words_of, IsBlank, IsHeader, BeginsWith}
use Rattle.cnf_base.specs.Reading.{Place, Found, limited, header_of, header_in, found_at, if_blank}

-- ---- the words of a header

abbrev pub Limited : ℕ → ℕ → Result (ℕ × ℕ) DimacsKind
Limited v c = if nat_le v 4000000 && nat_le c 20000000 then Ok (v, c) else Err kinds.Limit

-- what the words of the first line answer
pub header_of-header : (words : List (List ℕ)) (vars clauses : ℕ) → IsHeader words vars clauses → header_of words ≡ Limited vars clauses
header_of-header words vars clauses h =
    ap header_of h.form
    ∙ ap (λ v. limited v (natural_of h.fourth)) h.variables
    ∙ ap (λ c. limited (Some vars) c) h.count

pub Limited-few : (v c : ℕ) → v ≤ 4000000 → c ≤ 20000000 → Limited v c ≡ Ok (v, c)
Limited-few v c few_v few_c = grind (arith, nat_tests)

pub Limited-large : (v c : ℕ) → (4000000 < v) ⊎ (20000000 < c) → Limited v c ≡ Err kinds.Limit
Limited-large v c (inl h) = grind (arith, nat_tests)
Limited-large v c (inr h) = grind (arith, nat_tests)

-- what an answer says of the words
pub record Headed (words : List (List ℕ)) (answer : Result (ℕ × ℕ) DimacsKind) : Type 0 where
  pub says : ((v : ℕ) × (c : ℕ) × IsHeader words v c × (answer ≡ Limited v c)) ⊎ (((v c : ℕ) → ¬ IsHeader words v c) × (answer ≡ Err kinds.Header))

four-parts : (a b c d x y z w : List ℕ) → ◌≡◌ {A = List (List ℕ)} (a ∷ b ∷ c ∷ d ∷ []) (x ∷ y ∷ z ∷ w ∷ []) → (a ≡ x) × (b ≡ y) × (c ≡ z) × (d ≡ w)
four-parts a b c d x y z w e = (cc, cc, cc, cc)

both-true : (a b : Bool) → (a && b) ≡ true → (a ≡ true) × (b ≡ true)
both-true true b e = (refl, e)
both-true false b e = cc

other : (words : List (List ℕ)) → ((v c : ℕ) → ¬ IsHeader words v c) → Headed words (Err kinds.Header)
other words none = record { says = inr (none, refl) }

-- where the first two words are right
numbers-cases : (v c : List ℕ) → Headed (codes "p" ∷ codes "cnf" ∷ v ∷ c ∷ []) (limited (natural_of v) (natural_of c))
numbers-cases v c =
    let words = codes "p" ∷ codes "cnf" ∷ v ∷ c ∷ [] in
    let parts : (x y : ℕ) (h : IsHeader words x y) → (natural_of v ≡ Some x) × (natural_of c ≡ Some y) = λ x y h.
    let four = four-parts (codes "p") (codes "cnf") v c (codes "p") (codes "cnf") h.third h.fourth h.form in
    (ap natural_of four.2 ∙ h.variables, ap natural_of four.3 ∙ h.count) in
    let at_second : (x : ℕ) → natural_of v ≡ Some x → (o : Option ℕ) → natural_of c ≡ o → Headed words (limited (Some x) o) = λ x is o. elim o as (λ k. natural_of c ≡ k → Headed words (limited (Some x) k)) [
      | None ↦ λ none. other words (λ x' y' h. let some = (parts x' y' h).1 in cc)
      | Some y ↦ λ some. record { says = inl (x, y, record { third = v; fourth = c; form = refl; variables = is; count = some }, refl) }
    ] in
    let at_first : (o : Option ℕ) → natural_of v ≡ o → Headed words (limited o (natural_of c)) = λ o. elim o as (λ k. natural_of v ≡ k → Headed words (limited k (natural_of c))) [
      | None ↦ λ none. other words (λ x' y' h. let some = (parts x' y' h).0 in cc)
      | Some x ↦ λ some. at_second x some (natural_of c) refl
    ] in
    at_first (natural_of v) refl

form-cases : (p cnf v c : List ℕ) → Headed (p ∷ cnf ∷ v ∷ c ∷ []) (header_of (p ∷ cnf ∷ v ∷ c ∷ []))
form-cases p cnf v c =
    let words = p ∷ cnf ∷ v ∷ c ∷ [] in
    let test = bytes_eq p (codes "p") && bytes_eq cnf (codes "cnf") in
    let step : (b : Bool) → test ≡ b → Headed words (cond b (limited (natural_of v) (natural_of c)) (Err kinds.Header)) = λ b. elim b as (λ k. test ≡ k → Headed words (cond k (limited (natural_of v) (natural_of c)) (Err kinds.Header))) [
      | true ↦ λ yes.
          let both = both-true (bytes_eq p (codes "p")) (bytes_eq cnf (codes "cnf")) yes in
          let first : p ≡ codes "p" = (bytes_eq-Decides p (codes "p")).0 both.0 in
          let second : cnf ≡ codes "cnf" = (bytes_eq-Decides cnf (codes "cnf")).0 both.1 in
          let P : List ℕ → List ℕ → Type 0 = λ a b. Headed (a ∷ b ∷ v ∷ c ∷ []) (limited (natural_of v) (natural_of c)) in
          subst (λ (a : List ℕ). P a cnf) (sym first) (subst (λ (b : List ℕ). P (codes "p") b) (sym second) (numbers-cases v c))
      | false ↦ λ fails. other words (λ x y h.
          let four = four-parts p cnf v c (codes "p") (codes "cnf") h.third h.fourth h.form in
          let yes : test ≡ true = ap (λ a. bytes_eq a (codes "p") && bytes_eq cnf (codes "cnf")) four.0 ∙ ap (λ b. bytes_eq b (codes "cnf")) four.1 in
          cc)
    ] in
    step test refl

-- each list of words is a header or none, and is answered so
pub header-cases : (words : List (List ℕ)) → Headed words (header_of words)
header-cases [] = other [] (λ x y h. let form = h.form in cc)
header-cases (a ∷ []) = other (a ∷ []) (λ x y h. let form = h.form in cc)
header-cases (a ∷ b ∷ []) = other (a ∷ b ∷ []) (λ x y h. let form = h.form in cc)
header-cases (a ∷ b ∷ c ∷ []) = other (a ∷ b ∷ c ∷ []) (λ x y h. let form = h.form in cc)
header-cases (a ∷ b ∷ c ∷ d ∷ []) = form-cases a b c d
header-cases (a ∷ b ∷ c ∷ d ∷ e ∷ more) = other (a ∷ b ∷ c ∷ d ∷ e ∷ more) (λ x y h. let form = h.form in cc)

-- ---- the first line with words

pub record FirstWords (all : List (List ℕ)) (n : ℕ) (answer : Result Found Place) : Type 0 where
  pub says : (AllByRecursion IsBlank all × (answer ≡ Err (max 1 (n + length all), kinds.Header)))
      ⊎ ((before : List (List ℕ)) × (first : List ℕ) × (body : List (List ℕ)) × (all ≡ before ++ first ∷ body) × AllByRecursion IsBlank before × (words_of first ≢ [])
      × (answer ≡ found_at (n + length before + 1) body (header_of (words_of first))))

pub first-words : (all : List (List ℕ)) (n : ℕ) → FirstWords all n (header_in n all)
first-words [] n = record { says = inl (tt, ap (λ k. Err (max 1 k, kinds.Header)) (omega arith)) }
first-words (l ∷ ls) n =
    let rest = first-words ls (n + 1) in
    let answer : List (List ℕ) → Result Found Place = λ ws. if_blank ws (header_in (n + 1) ls) (found_at (n + 1) ls (header_of ws)) in
    let step : (ws : List (List ℕ)) → words_of l ≡ ws → FirstWords (l ∷ ls) n (answer ws) = λ ws. elim ws as (λ vs. words_of l ≡ vs → FirstWords (l ∷ ls) n (answer vs)) [
      | [] ↦ λ blank. elim rest.says as (λ _. FirstWords (l ∷ ls) n (answer [])) [
        | inl h ↦ record { says = inl ((blank, h.0), h.1 ∙ ap (λ k. Err (max 1 k, kinds.Header)) (omega arith)) }
        | inr h ↦ record { says = inr (l ∷ h.0, h.1, h.2, ap (λ xs. l ∷ xs) h.3, (blank, h.4), h.5, h.6 ∙ ap (λ k. found_at k h.2 (header_of (words_of h.1))) (omega arith)) }
      ]
      | (w ∷ more) ↦ λ is. record { says = inr ([], l, ls, refl, tt, (λ e. cc), ap (λ k. found_at k ls (header_of (w ∷ more))) (omega arith) ∙ ap (λ vs. found_at (n + 0 + 1) ls (header_of vs)) (sym is)) }
    ] in
    step (words_of l) refl

pub header_in-blank : (all : List (List ℕ)) (n : ℕ) → AllByRecursion IsBlank all → header_in n all ≡ Err (max 1 (n + length all), kinds.Header)
header_in-blank [] n blank = ap (λ k. Err (max 1 k, kinds.Header)) (omega arith)
header_in-blank (l ∷ ls) n blank =
    ap (λ ws. if_blank ws (header_in (n + 1) ls) (found_at (n + 1) ls (header_of ws))) blank.0
    ∙ header_in-blank ls (n + 1) blank.1
    ∙ ap (λ k. Err (max 1 k, kinds.Header)) (omega arith)

some-words : {A : Type 0} (ws : List (List ℕ)) (x y : A) → ws ≢ [] → if_blank ws x y ≡ y
some-words [] x y some = absurd (some refl)
some-words (w ∷ ws) x y some = refl

pub header_in-split : (before : List (List ℕ)) (first : List ℕ) (body : List (List ℕ)) (n : ℕ) → AllByRecursion IsBlank before → words_of first ≢ []
    → header_in n (before ++ first ∷ body) ≡ found_at (n + length before + 1) body (header_of (words_of first))
header_in-split [] first body n blank some =
    some-words (words_of first) (header_in (n + 1) body) (found_at (n + 1) body (header_of (words_of first))) some
    ∙ ap (λ k. found_at k body (header_of (words_of first))) (omega arith)
header_in-split (l ∷ ls) first body n blank some =
    ap (λ ws. if_blank ws (header_in (n + 1) (ls ++ first ∷ body)) (found_at (n + 1) (ls ++ first ∷ body) (header_of ws))) blank.0
    ∙ header_in-split ls first body (n + 1) blank.1 some
    ∙ ap (λ k. found_at k body (header_of (words_of first))) (omega arith)

pub header_in-begins : (text : List ℕ) (words : List (List ℕ)) (line : ℕ) (body : List (List ℕ)) → BeginsWith text words line body
    → header_in 0 (lines text) ≡ found_at line body (header_of words)
header_in-begins text words line body b =
    let some : words_of b.first ≢ [] = λ e. b.some (sym b.spelled ∙ e) in
    ap (header_in 0) b.parts
    ∙ header_in-split b.before b.first body 0 b.blank some
    ∙ ap (λ ws. found_at (0 + length b.before + 1) body (header_of ws)) b.spelled
    ∙ ap (λ k. found_at k body (header_of words)) (omega (arith, b.place))
