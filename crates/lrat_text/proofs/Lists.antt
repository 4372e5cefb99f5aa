-- A list of numbers that ends at a 0.
use Rattle.std.proofs.Common.{◌≡◌, ℕ, ◌^◌, ◌⊎◌, Option, Some, None, Result, Ok, Err, ℤ, pos, List, [], ◌∷◌, ◌++◌, map, refl, sym, ap, ◌∙◌, inl, inr, append_assoc}
use Rattle.std.specs.List.{AllByRecursion}
use Rattle.std.proofs.lemmas.List.{map-append, append-nil}
use Rattle.text_words.specs.Numbers.{integer_of, if_below}
use Rattle.lrat_text.specs.Lrat.{Are}
use Rattle.lrat_text.specs.Reading.{◌>>=◌, Words, small_of, if_more, list_from}
use Rattle.lrat_text.specs.declared.fault.LratKind.{LratKind}
use Rattle.lrat_text.specs.declared.fault.LratKind.TheVariants as kinds

pub ok-ok : {A E : Type 0} (x y : A) → ◌≡◌ {A = Result A E} (Ok x) (Ok y) → x ≡ y
ok-ok x y e = cc

pub err-err : {A E : Type 0} (x y : E) → ◌≡◌ {A = Result A E} (Err x) (Err y) → x ≡ y
err-err x y e = cc

pub some-some : {A : Type 0} (x y : A) → ◌≡◌ {A = Option A} (Some x) (Some y) → x ≡ y
some-some x y e = cc

-- ---- words and their numbers

pub are-append : (a b : Words) (xs ys : List ℤ) → Are a xs → Are b ys → Are (a ++ b) (xs ++ ys)
are-append a b xs ys p q =
    map-append integer_of a b ∙ ap (λ os. os ++ map integer_of b) p ∙ ap (λ os. map (λ z. Some z) xs ++ os) q ∙ sym (map-append (λ (z : ℤ). Some z) xs ys)

pub are-one : (w : List ℕ) (z : ℤ) → integer_of w ≡ Some z → Are (w ∷ []) (z ∷ [])
are-one w z e = ap (λ o. o ∷ []) e

pub are-cons : (w : List ℕ) (ws : Words) (z : ℤ) (zs : List ℤ) → integer_of w ≡ Some z → Are ws zs → Are (w ∷ ws) (z ∷ zs)
are-cons w ws z zs e p = ap (λ o. o ∷ map integer_of ws) e ∙ ap (λ os. Some z ∷ os) p

-- the words of two lists of numbers
pub record Cut (words : Words) (xs ys : List ℤ) : Type 0 where
  pub front : Words
  pub back : Words
  pub parts : words ≡ front ++ back
  pub of_front : Are front xs
  pub of_back : Are back ys

heads : {A : Type 0} (x y : A) (xs ys : List A) → x ∷ xs ≡ y ∷ ys → (x ≡ y) × (xs ≡ ys)
heads x y xs ys e = (cc, cc)

pub are-cut : (words : Words) (xs ys : List ℤ) → Are words (xs ++ ys) → Cut words xs ys
are-cut words [] ys are = record { front = []; back = words; parts = refl; of_front = refl; of_back = are }
are-cut [] (x ∷ xs) ys are = cc
are-cut (w ∷ ws) (x ∷ xs) ys are =
    let h = heads (integer_of w) (Some x) (map integer_of ws) (map (λ z. Some z) (xs ++ ys)) are in
    let cut = are-cut ws xs ys h.1 in
    record {
      front = w ∷ cut.front;
      back = cut.back;
      parts = ap (λ vs. w ∷ vs) cut.parts;
      of_front = are-cons w cut.front x xs h.0 cut.of_front;
      of_back = cut.of_back;
    }

-- the first of words that are numbers
pub record Head (words : Words) (x : ℤ) (xs : List ℤ) : Type 0 where
  pub first : List ℕ
  pub rest : Words
  pub parts : words ≡ first ∷ rest
  pub of_first : integer_of first ≡ Some x
  pub of_rest : Are rest xs

pub are-head : (words : Words) (x : ℤ) (xs : List ℤ) → Are words (x ∷ xs) → Head words x xs
are-head [] x xs are = cc
are-head (w ∷ ws) x xs are =
    let h = heads (integer_of w) (Some x) (map integer_of ws) (map (λ z. Some z) xs) are in
    record { first = w; rest = ws; parts = refl; of_first = h.0; of_rest = h.1 }

-- ---- how an item is read

abbrev pub Item : Type 0 → Type 0
Item X = Option ℤ → Result (Option X) LratKind

abbrev pub below : Option ℤ → Option ℤ
below o = if_below (2 ^ 63) o

-- the numbers that are read as items are those of good items, and 0 ends a list
pub record ReadsItems {X : Type 0} (read : Item X) (val : X → ℤ) (Good : X → Type 0) : Type 0 where
  pub item : (o : Option ℤ) (x : X) → read (below o) ≡ Ok (Some x) → (o ≡ Some (val x)) × Good x
  pub end : (o : Option ℤ) → read (below o) ≡ Ok None → o ≡ Some (pos 0)
  pub reads_item : (x : X) → Good x → read (below (Some (val x))) ≡ Ok (Some x)
  pub reads_end : read (below (Some (pos 0))) ≡ Ok None

-- ---- a list of items

-- words that are good items
pub record Items {X : Type 0} (val : X → ℤ) (Good : X → Type 0) (words : Words) (xs : List X) : Type 0 where
  pub are : Are words (map val xs)
  pub good : AllByRecursion Good xs

-- items, the word of the 0 that ends them, and what follows
pub record Ended {X : Type 0} (val : X → ℤ) (Good : X → Type 0) (words : Words) (xs : List X) (rest : Words) : Type 0 where
  pub begun : Words
  pub zero_word : List ℕ
  pub parts : words ≡ begun ++ zero_word ∷ rest
  pub items : Items val Good begun xs
  pub zero : integer_of zero_word ≡ Some (pos 0)

-- items, a word that isn't read, and what follows
pub record Stopped {X : Type 0} (read : Item X) (val : X → ℤ) (Good : X → Type 0) (words : Words) (kind : LratKind) : Type 0 where
  pub begun : Words
  pub word : List ℕ
  pub later : Words
  pub xs : List X
  pub parts : words ≡ begun ++ word ∷ later
  pub items : Items val Good begun xs
  pub refused : read (small_of word) ≡ Err kind

more-items : {X : Type 0} (val : X → ℤ) (Good : X → Type 0) (w : List ℕ) (x : X) (ws : Words) (xs : List X) → (integer_of w ≡ Some (val x)) × Good x → Items val Good ws xs
    → Items val Good (w ∷ ws) (x ∷ xs)
more-items val Good w x ws xs h items = record { are = are-cons w ws (val x) (map val xs) h.0 items.are; good = (h.1, items.good) }

pub list-ok : {X : Type 0} (read : Item X) (val : X → ℤ) (Good : X → Type 0) → ReadsItems read val Good → (ws : Words) (acc xs : List X) (rest : Words)
    → list_from read acc ws ≡ Ok (xs, rest) → (ys : List X) × (xs ≡ acc ++ ys) × Ended val Good ws ys rest
list-ok read val Good r [] acc xs rest e = cc
list-ok {X} read val Good r (w ∷ ws) acc xs rest e =
    let G : Type 0 = (ys : List X) × (xs ≡ acc ++ ys) × Ended val Good (w ∷ ws) ys rest in
    let after : Option X → Result (List X × Words) LratKind = λ o. if_more o (Ok (acc, ws)) (λ x. list_from read (acc ++ x ∷ []) ws) in
    let at_item : (o : Option X) → read (small_of w) ≡ Ok o → after o ≡ Ok (xs, rest) → G = λ o. elim o as (λ v. read (small_of w) ≡ Ok v → after v ≡ Ok (xs, rest) → G) [
      | None ↦ λ is h.
          let same = ok-ok (acc, ws) (xs, rest) h in (
            [],
            ap (λ (p : List X × Words). p.0) (sym same) ∙ sym (append-nil acc),
            record {
              begun = [];
              zero_word = w;
              parts = ap (λ (p : List X × Words). w ∷ p.1) same;
              items = record { are = refl; good = tt };
              zero = r.end (integer_of w) is;
            },
          )
      | Some x ↦ λ is h.
          let later = list-ok read val Good r ws (acc ++ x ∷ []) xs rest h in
          let ended = later.2 in (
            x ∷ later.0,
            later.1 ∙ append_assoc acc (x ∷ []) later.0,
            record {
              begun = w ∷ ended.begun;
              zero_word = ended.zero_word;
              parts = ap (λ vs. w ∷ vs) ended.parts;
              items = more-items val Good w x ended.begun later.0 (r.item (integer_of w) x is) ended.items;
              zero = ended.zero;
            },
          )
    ] in
    let step : (o : Result (Option X) LratKind) → read (small_of w) ≡ o → (o >>= after) ≡ Ok (xs, rest) → G = λ o. elim o as (λ v. read (small_of w) ≡ v → (v >>= after) ≡ Ok (xs, rest) → G) [
      | Ok o ↦ λ is h. at_item o is h
      | Err k ↦ λ is h. cc
    ] in
    step (read (small_of w)) refl e

pub list-err : {X : Type 0} (read : Item X) (val : X → ℤ) (Good : X → Type 0) → ReadsItems read val Good → (ws : Words) (acc : List X) (kind : LratKind)
    → list_from read acc ws ≡ Err kind → ((kind ≡ kinds.Truncated) × ((xs : List X) × Items val Good ws xs)) ⊎ Stopped read val Good ws kind
list-err read val Good r [] acc kind e = inl (sym (err-err kinds.Truncated kind e), ([], record { are = refl; good = tt }))
list-err {X} read val Good r (w ∷ ws) acc kind e =
    let G : Type 0 = ((kind ≡ kinds.Truncated) × ((xs : List X) × Items val Good (w ∷ ws) xs)) ⊎ Stopped read val Good (w ∷ ws) kind in
    let after : Option X → Result (List X × Words) LratKind = λ o. if_more o (Ok (acc, ws)) (λ x. list_from read (acc ++ x ∷ []) ws) in
    let at_item : (o : Option X) → read (small_of w) ≡ Ok o → after o ≡ Err kind → G = λ o. elim o as (λ v. read (small_of w) ≡ Ok v → after v ≡ Err kind → G) [
      | None ↦ λ is h. cc
      | Some x ↦ λ is h. elim (list-err read val Good r ws (acc ++ x ∷ []) kind h) as (λ _. G) [
        | inl cut ↦ inl (cut.0, (x ∷ cut.1.0, more-items val Good w x ws cut.1.0 (r.item (integer_of w) x is) cut.1.1))
        | inr stop ↦ inr (record {
          begun = w ∷ stop.begun;
          word = stop.word;
          later = stop.later;
          xs = x ∷ stop.xs;
          parts = ap (λ vs. w ∷ vs) stop.parts;
          items = more-items val Good w x stop.begun stop.xs (r.item (integer_of w) x is) stop.items;
          refused = stop.refused;
        })
      ]
    ] in
    let step : (o : Result (Option X) LratKind) → read (small_of w) ≡ o → (o >>= after) ≡ Err kind → G = λ o. elim o as (λ v. read (small_of w) ≡ v → (v >>= after) ≡ Err kind → G) [
      | Ok o ↦ λ is h. at_item o is h
      | Err k ↦ λ is h. inr (record {
        begun = [];
        word = w;
        later = ws;
        xs = [];
        parts = refl;
        items = record { are = refl; good = tt };
        refused = is ∙ ap (λ q. Err q) (err-err k kind h);
      })
    ] in
    step (read (small_of w)) refl e

-- items are read
pub list-items : {X : Type 0} (read : Item X) (val : X → ℤ) (Good : X → Type 0) → ReadsItems read val Good → (begun : Words) (xs acc : List X) (ws : Words)
    → Items val Good begun xs → list_from read acc (begun ++ ws) ≡ list_from read (acc ++ xs) ws
list-items read val Good r [] [] acc ws items = ap (λ ys. list_from read ys ws) (sym (append-nil acc))
list-items read val Good r [] (x ∷ xs) acc ws items = let are = items.are in cc
list-items read val Good r (w ∷ begun) [] acc ws items = let are = items.are in cc
list-items {X} read val Good r (w ∷ begun) (x ∷ xs) acc ws items =
    let h = heads (integer_of w) (Some (val x)) (map integer_of begun) (map (λ z. Some z) (map val xs)) items.are in
    let after : Option X → Result (List X × Words) LratKind = λ o. if_more o (Ok (acc, begun ++ ws)) (λ y. list_from read (acc ++ y ∷ []) (begun ++ ws)) in
    ap (λ o. read (below o) >>= after) h.0
    ∙ ap (λ o. o >>= after) (r.reads_item x items.good.0)
    ∙ list-items read val Good r begun xs (acc ++ x ∷ []) ws (record { are = h.1; good = items.good.1 })
    ∙ ap (λ ys. list_from read ys ws) (append_assoc acc (x ∷ []) xs)

pub list-ended : {X : Type 0} (read : Item X) (val : X → ℤ) (Good : X → Type 0) → ReadsItems read val Good → (begun : Words) (zero_word : List ℕ) (rest : Words) (xs : List X)
    → Items val Good begun xs → integer_of zero_word ≡ Some (pos 0) → list_from read [] (begun ++ zero_word ∷ rest) ≡ Ok (xs, rest)
list-ended {X} read val Good r begun zero_word rest xs items zero =
    let after : Option X → Result (List X × Words) LratKind = λ o. if_more o (Ok (xs, rest)) (λ y. list_from read (xs ++ y ∷ []) rest) in
    list-items read val Good r begun xs [] (zero_word ∷ rest) items
    ∙ ap (λ o. read (below o) >>= after) zero
    ∙ ap (λ o. o >>= after) r.reads_end

pub list-stopped : {X : Type 0} (read : Item X) (val : X → ℤ) (Good : X → Type 0) → ReadsItems read val Good → (begun : Words) (word : List ℕ) (later : Words) (xs : List X) (kind : LratKind)
    → Items val Good begun xs → read (small_of word) ≡ Err kind → list_from read [] (begun ++ word ∷ later) ≡ Err kind
list-stopped {X} read val Good r begun word later xs kind items refused =
    let after : Option X → Result (List X × Words) LratKind = λ o. if_more o (Ok (xs, later)) (λ y. list_from read (xs ++ y ∷ []) later) in
    list-items read val Good r begun xs [] (word ∷ later) items ∙ ap (λ o. o >>= after) refused

pub list-cut : {X : Type 0} (read : Item X) (val : X → ℤ) (Good : X → Type 0) → ReadsItems read val Good → (begun : Words) (xs : List X)
    → Items val Good begun xs → list_from read [] begun ≡ Err kinds.Truncated
list-cut read val Good r begun xs items = ap (list_from read []) (sym (append-nil begun)) ∙ list-items read val Good r begun xs [] [] items
