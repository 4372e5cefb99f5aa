-- What is found in a list: a number, and the first file of a name.
use Rattle.std.proofs.Common.{◌≡◌, ℕ, ◌<◌, ◌↔◌, Bool, true, false, cond, IsTrue, nat_lt, List, length, drop, Some, None, refl, sym, ap, ◌∙◌, arith, subst, inl, inr}
use borrow.Author.Tests.{ltb-true, ltb-false}
use Rattle.std.proofs.lemmas.List.Folds.{find_at}
use Rattle.std.proofs.lemmas.List.Quantifiers.{position-Some}
use Rattle.std.proofs.lemmas.Map.Made.{is_member-Decides}
use Rattle.std.proofs.lemmas.Option.{slice_get_cases, slice_get_past}
use Rattle.std.proofs.lemmas.Slice.Eq.{bytes_eq-Decides}
use Rattle.std.specs.Cmp.{unsigned_Decides}
use Rattle.std.specs.List.{find, position, position_or_len}
use Rattle.std.specs.Prelude.{slice_get, nat_eq, Contains, option_map}
use Rattle.std.specs.Set.{is_member}
use Rattle.std.specs.declared.option.Option.{Option}
use Rattle.run_io.specs.MemoryDesk.{has_name, text_of, name_at, text_at}
use Rattle.run_io.specs.declared.file_text.FileText.{FileText}

-- an answer of a set's look-up, at a number
pub listed : (numbers : List ℕ) (number : ℕ) (found : Bool) → found ≡ is_member nat_eq numbers number → IsTrue found ↔ Contains numbers number
listed numbers number found is =
    let both = is_member-Decides unsigned_Decides numbers number in
    (λ yes. both.0 (sym is ∙ yes), λ has. is ∙ both.1 has)

-- two lists with the same members contain the same numbers
pub same_members : (xs ys : List ℕ) → ((q : ℕ) → is_member nat_eq xs q ≡ is_member nat_eq ys q) → (q : ℕ) → Contains xs q ↔ Contains ys q
same_members xs ys same q =
    let left = is_member-Decides unsigned_Decides xs q in
    let right = is_member-Decides unsigned_Decides ys q in
    (λ has. right.0 (sym (same q) ∙ left.1 has), λ has. left.0 (same q ∙ right.1 has))

some_at : (inside : Bool) (n i : ℕ) → cond inside (Some n) None ≡ Some i → (n ≡ i) × (inside ≡ true)
some_at true n i e = (cc, refl)
some_at false n i e = absurd (cc)

none_at : (inside : Bool) (n : ℕ) → cond inside (Some n) None ≡ None → inside ≡ false
none_at true n e = absurd (cc)
none_at false n e = refl

-- where a test stops first, the element there is the one that is found
found_at : (files : List FileText) (test : FileText → Bool) (place : ℕ) → position test files ≡ Some place
    → (file : FileText) × (slice_get files place ≡ Some file) × (find test files ≡ Some file) × (test file ≡ true)
found_at files test place e =
    let here = some_at (nat_lt (position_or_len test files) (length files)) (position_or_len test files) place e in
    let inside : place < length files = subst (λ (n : ℕ). n < length files) here.0 (ltb-true _ _ here.1) in
    elim ((slice_get_cases files place).1) [
      | inl within ↦ let file = within.0 in
          let read = within.3 in
          let passes = (position-Some test files place file e).1 in
          (file, within.2, find_at test files ∙ (ap (slice_get files) here.0 ∙ within.2), subst (λ (x : FileText). test x ≡ true) read passes)
      | inr past ↦ absurd (let far = past.0 in omega (arith, inside, far))
    ]

-- the first file of a name is started, where its place is
pub first_file : (files : List FileText) (name : List ℕ) (place : ℕ) → position (has_name name) files ≡ Some place
    → (name_at files place ≡ Some name) × (text_at files place ≡ text_of files name)
first_file files name place e =
    let found = found_at files (has_name name) place e in
    let same = (bytes_eq-Decides found.0.name.items name).0 found.3 in (
      ap (option_map (λ (file : FileText). file.name.items)) found.1 ∙ ap (λ (xs : List ℕ). Some xs) same,
      ap (option_map (λ (file : FileText). file.bytes.items)) (found.1 ∙ sym found.2),
    )

-- a text of which nothing was given is left whole
pub all_left : (left text : Option (List ℕ)) → left ≡ text → option_map (drop 0) left ≡ text
all_left left None is = ap (option_map (drop 0)) is
all_left left (Some bytes) is = ap (option_map (drop 0)) is

-- a name that is nowhere has no text
pub no_file : (files : List FileText) (name : List ℕ) → None ≡ position (has_name name) files → text_of files name ≡ None
no_file files name e =
    let past = none_at (nat_lt (position_or_len (has_name name) files) (length files)) (position_or_len (has_name name) files) (sym e) in
    ap (option_map (λ (file : FileText). file.bytes.items)) (find_at (has_name name) files ∙ slice_get_past files _ (ltb-false _ _ past))

-- a name that stands somewhere has a text
pub some_file : (files : List FileText) (name : List ℕ) (place : ℕ) → Some place ≡ position (has_name name) files → text_of files name ≡ None → ⊥
some_file files name place e none =
    let found = found_at files (has_name name) place (sym e) in
    let told : text_of files name ≡ Some found.0.bytes.items = ap (option_map (λ (file : FileText). file.bytes.items)) found.2 in
    cc
