-- Words that tell a value: what is read of them is what they tell, and what is told is read.
use Rattle.std.proofs.Common.{◌≡◌, ◌⊎◌, inl, inr, Bool, true, false, cond, Option, Some, None, [], ◌∷◌, ◌++◌, refl, sym, ap, ◌∙◌, subst, subst₂, append_assoc}
use Rattle.std.specs.Prelude.{bytes_eq}
use Rattle.std.specs.Option.{option_map}
use Rattle.std.proofs.lemmas.List.{append-nil}
use Rattle.std.proofs.lemmas.Slice.Eq.{bytes_eq-Decides}
use Rattle.report_lines.specs.Words.{Word, Line, ◌>>?◌, with_rest, word, both, mapped, behind_name, named, last, whole_line}
use Rattle.report_text.proofs.Lines.{IsLine}
use Rattle.report_sections.proofs.LineWords.{IsLineParse}

-- a word
pub record IsField {A : Type 0} (Fits : A → Type 0) (form : A → Word) (read : Word → Option A) : Type 0 where
  pub tells : (w : Word) (a : A) → read w ≡ Some a → Fits a × (form a ≡ w)
  pub back : (a : A) → Fits a → read (form a) ≡ Some a

-- the first words of a line
pub record IsParse {A : Type 0} (Fits : A → Type 0) (words : A → Line) (read : Line → Option (A × Line)) : Type 0 where
  pub tells : (ws : Line) (a : A) (r : Line) → read ws ≡ Some (a, r) → Fits a × (words a ++ r ≡ ws)
  pub back : (a : A) (r : Line) → Fits a → read (words a ++ r) ≡ Some (a, r)

-- ---- options
pub some-some : {A : Type 0} (x y : A) → Some x ≡ Some y → x ≡ y
some-some x y e = cc

pub bind-some : {A B : Type 0} (o : Option A) (f : A → Option B) (b : B) → (o >>? f) ≡ Some b → (a : A) × (o ≡ Some a) × (f a ≡ Some b)
bind-some None f b e = cc
bind-some (Some a) f b e = (a, refl, e)

pub mapped-some : {A B : Type 0} (f : A → B) (o : Option A) (b : B) → option_map f o ≡ Some b → (a : A) × (o ≡ Some a) × (f a ≡ b)
mapped-some f None b e = cc
mapped-some f (Some a) b e = (a, refl, some-some (f a) b e)

pub cond-told : {A : Type 0} (t : Bool) (o : Option A) (b : A) → cond t o None ≡ Some b → (t ≡ true) × (o ≡ Some b)
cond-told true o b e = (refl, e)
cond-told false o b e = cc

pub cond-some : {A : Type 0} (t : Bool) (a b : A) → cond t (Some a) None ≡ Some b → (t ≡ true) × (a ≡ b)
cond-some t a b e = let told = cond-told t (Some a) b e in (told.0, some-some a b told.1)

-- ---- one word
word-tells : {A : Type 0} (Fits : A → Type 0) (form : A → Word) (read : Word → Option A) (w : Word) (ws : Line) (o : Option A) (a : A) (r : Line) → IsField Fits form read → read w ≡ o → with_rest ws o ≡ Some (a, r)
    → Fits a × ((form a ∷ []) ++ r ≡ w ∷ ws)
word-tells Fits form read w ws None a r good is e = cc
word-tells {A} Fits form read w ws (Some b) a r good is e =
    let same = some-some (b, ws) (a, r) e in
    let both = good.tells w b is in
    subst₂ (λ (c : A) (l : Line). Fits c × (form c ∷ l ≡ w ∷ ws)) (ap (λ (p : A × Line). p.0) same) (ap (λ (p : A × Line). p.1) same) (both.0, ap (λ (v : Word). v ∷ ws) both.1)

first-tells : {A : Type 0} (Fits : A → Type 0) (form : A → Word) (read : Word → Option A) (ws : Line) (a : A) (r : Line) → IsField Fits form read → word read ws ≡ Some (a, r) → Fits a × ((form a ∷ []) ++ r ≡ ws)
first-tells Fits form read [] a r good e = cc
first-tells Fits form read (w ∷ ws) a r good e = word-tells Fits form read w ws (read w) a r good refl e

pub word_parse : {A : Type 0} (Fits : A → Type 0) (form : A → Word) (read : Word → Option A) → IsField Fits form read → IsParse Fits (λ a. form a ∷ []) (word read)
word_parse Fits form read good = record {
  tells = λ ws a r e. first-tells Fits form read ws a r good e;
  back = λ a r f. ap (with_rest r) (good.back a f);
}

-- ---- some words and more
pub both_parse : {A B : Type 0} (F : A → Type 0) (G : B → Type 0) (v : A → Line) (w : B → Line) (p : Line → Option (A × Line)) (q : Line → Option (B × Line)) → IsParse F v p → IsParse G w q
    → IsParse (λ (t : A × B). F t.0 × G t.1) (λ t. v t.0 ++ w t.1) (both p q)
both_parse {A} {B} F G v w p q good more = record {
  tells = λ ws t r e.
      let first = bind-some (p ws) (λ (a : A × Line). q a.1 >>? λ b. Some ((a.0, b.0), b.1)) (t, r) e in
      let second = bind-some (q first.0.1) (λ (b : B × Line). Some ((first.0.0, b.0), b.1)) (t, r) first.2 in
      let same = some-some ((first.0.0, second.0.0), second.0.1) (t, r) second.2 in
      let a = good.tells ws first.0.0 first.0.1 first.1 in
      let b = more.tells first.0.1 second.0.0 second.0.1 second.1 in
      let joined : (v first.0.0 ++ w second.0.0) ++ second.0.1 ≡ ws = append_assoc (v first.0.0) (w second.0.0) second.0.1 ∙ (ap (λ (l : Line). v first.0.0 ++ l) b.1 ∙ a.1) in
      subst₂ (λ (u : A × B) (l : Line). (F u.0 × G u.1) × ((v u.0 ++ w u.1) ++ l ≡ ws)) (ap (λ (s : (A × B) × Line). s.0) same) (ap (λ (s : (A × B) × Line). s.1) same) ((a.0, b.0), joined);
  back = λ t r f.
      let after : (A × Line) → Option ((A × B) × Line) = λ a. q a.1 >>? λ b. Some ((a.0, b.0), b.1) in
      let rest : (B × Line) → Option ((A × B) × Line) = λ b. Some ((t.0, b.0), b.1) in
      ap (λ (l : Line). p l >>? after) (append_assoc (v t.0) (w t.1) r)
      ∙ (ap (λ (o : Option (A × Line)). o >>? after) (good.back t.0 (w t.1 ++ r) f.0) ∙ ap (λ (o : Option (B × Line)). o >>? rest) (more.back t.1 r f.1));
}

-- ---- a value of another shape
pub record Maps {A B : Type 0} (F : A → Type 0) (v : A → Line) (G : B → Type 0) (w : B → Line) (f : A → B) (g : B → A) : Type 0 where
  pub there : (a : A) → F a → G (f a) × (w (f a) ≡ v a)
  pub back : (b : B) → G b → F (g b) × (v (g b) ≡ w b) × (f (g b) ≡ b)

pub mapped_parse : {A B : Type 0} (F : A → Type 0) (v : A → Line) (G : B → Type 0) (w : B → Line) (f : A → B) (g : B → A) (p : Line → Option (A × Line)) → IsParse F v p → Maps F v G w f g
    → IsParse G w (mapped f p)
mapped_parse {A} {B} F v G w f g p good maps = record {
  tells = λ ws b r e.
      let first = bind-some (p ws) (λ (a : A × Line). Some (f a.0, a.1)) (b, r) e in
      let same = some-some (f first.0.0, first.0.1) (b, r) first.2 in
      let a = good.tells ws first.0.0 first.0.1 first.1 in
      let to = maps.there first.0.0 a.0 in
      subst₂ (λ (c : B) (l : Line). G c × (w c ++ l ≡ ws)) (ap (λ (s : B × Line). s.0) same) (ap (λ (s : B × Line). s.1) same) (to.0, ap (λ (m : Line). m ++ first.0.1) to.1 ∙ a.1);
  back = λ b r h.
      let from = maps.back b h in
      let after : (A × Line) → Option (B × Line) = λ a. Some (f a.0, a.1) in
      ap (λ (m : Line). p (m ++ r) >>? after) (sym from.1) ∙ (ap (λ (o : Option (A × Line)). o >>? after) (good.back (g b) r from.0) ∙ ap (λ (c : B). Some (c, r)) from.2);
}

-- ---- a name, and what follows it
pub name-tells : (name : Word) (ws l : Line) → behind_name name ws ≡ Some l → name ∷ l ≡ ws
name-tells name [] l e = cc
name-tells name (w ∷ ws) l e =
    let both = cond-some (bytes_eq w name) ws l e in
    let same : w ≡ name = (bytes_eq-Decides w name).0 both.0 in
    let rest : ws ≡ l = both.1 in
    cc

pub name-back : (name : Word) (l : Line) → behind_name name (name ∷ l) ≡ Some l
name-back name l = ap (λ t. cond t (Some l) None) ((bytes_eq-Decides name name).1 refl)

pub named_parse : {A : Type 0} (F : A → Type 0) (v : A → Line) (name : Word) (p : Line → Option (A × Line)) → IsParse F v p → IsParse F (λ a. name ∷ v a) (named name p)
named_parse {A} F v name p good = record {
  tells = λ ws a r e.
      let first = bind-some (behind_name name ws) p (a, r) e in
      let rest = good.tells first.0 a r first.2 in
      (rest.0, ap (λ (l : Line). name ∷ l) rest.1 ∙ name-tells name ws first.0 first.1);
  back = λ a r f. ap (λ (o : Option Line). o >>? p) (name-back name (v a ++ r)) ∙ good.back a r f;
}

-- ---- a whole line
pub last-tells : {A : Type 0} (x : A) (l : Line) (a : A) → last x l ≡ Some a → (x ≡ a) × (l ≡ [])
last-tells x [] a e = (some-some x a e, refl)
last-tells x (w ∷ ws) a e = cc

pub whole-tells : {A : Type 0} {F : A → Type 0} {v : A → Line} {p : Line → Option (A × Line)} → IsParse F v p → (ws : Line) (a : A) → whole_line p ws ≡ Some a → F a × (v a ≡ ws)
whole-tells {A} {F} {v} {p} good ws a e =
    let first = bind-some (p ws) (λ (b : A × Line). last b.0 b.1) a e in
    let end = last-tells first.0.0 first.0.1 a first.2 in
    let both = good.tells ws first.0.0 first.0.1 first.1 in
    let whole : v first.0.0 ≡ ws = sym (append-nil (v first.0.0)) ∙ (ap (λ (l : Line). v first.0.0 ++ l) (sym end.1) ∙ both.1) in
    subst (λ (c : A). F c × (v c ≡ ws)) end.0 (both.0, whole)

pub whole-back : {A : Type 0} {F : A → Type 0} {v : A → Line} {p : Line → Option (A × Line)} → IsParse F v p → (a : A) → F a → whole_line p (v a) ≡ Some a
whole-back {A} {F} {v} {p} good a f =
    let after : (A × Line) → Option A = λ b. last b.0 b.1 in
    ap (λ (l : Line). p l >>? after) (sym (append-nil (v a))) ∙ ap (λ (o : Option (A × Line)). o >>? after) (good.back a [] f)

pub whole_parse : {A : Type 0} (F : A → Type 0) (v : A → Line) (p : Line → Option (A × Line)) (some : A) → IsParse F v p → ((a : A) → F a → IsLine (v a)) → F some → IsLineParse F v (whole_line p)
whole_parse F v p some good plain fits = record { plain = plain; tells = whole-tells good; back = whole-back good; some = some; some_fits = fits }

-- a whole line of another shape
last-mapped : {A B : Type 0} (f : A → B) (a : A) (ws : Line) → last (f a) ws ≡ option_map f (last a ws)
last-mapped f a [] = refl
last-mapped f a (w ∷ ws) = refl

rest-mapped : {A B : Type 0} (f : A → B) (o : Option (A × Line))
    → (let moved : (A × Line) → Option (B × Line) = λ a. Some (f a.0, a.1) in (o >>? moved) >>? λ b. last b.0 b.1) ≡ option_map f (o >>? λ a. last a.0 a.1)
rest-mapped f None = refl
rest-mapped f (Some a) = last-mapped f a.0 a.1

pub whole-mapped : {A B : Type 0} (f : A → B) (p : Line → Option (A × Line)) (ws : Line) → whole_line (mapped f p) ws ≡ option_map f (whole_line p ws)
whole-mapped f p ws = rest-mapped f (p ws)

pub line_map : {A B : Type 0} {F : A → Type 0} {v : A → Line} {p : Line → Option A} (G : B → Type 0) (w : B → Line) (f : A → B) (g : B → A) → IsLineParse F v p → Maps F v G w f g → IsLineParse G w (λ ws. option_map f (p ws))
line_map {A} {B} {F} {v} {p} G w f g good maps = record {
  plain = λ b h. let from = maps.back b h in subst IsLine from.1 (good.plain (g b) from.0);
  tells = λ ws b e.
      let made = mapped-some f (p ws) b e in
      let told = good.tells ws made.0 made.1 in
      let to = maps.there made.0 told.0 in
      subst (λ (c : B). G c × (w c ≡ ws)) made.2 (to.0, to.1 ∙ told.1);
  back = λ b h.
      let from = maps.back b h in
      ap (λ (l : Line). option_map f (p l)) (sym from.1) ∙ (ap (option_map f) (good.back (g b) from.0) ∙ ap (λ (c : B). Some c) from.2);
  some = f good.some;
  some_fits = (maps.there good.some good.some_fits).0;
}

-- ---- the same, with what they are of left out
pub field : {A : Type 0} {Fits : A → Type 0} {form : A → Word} {read : Word → Option A} → IsField Fits form read → IsParse Fits (λ a. form a ∷ []) (word read)
field {A} {Fits} {form} {read} good = word_parse Fits form read good

pub and_parse : {A B : Type 0} {F : A → Type 0} {G : B → Type 0} {v : A → Line} {w : B → Line} {p : Line → Option (A × Line)} {q : Line → Option (B × Line)} → IsParse F v p → IsParse G w q
    → IsParse (λ (t : A × B). F t.0 × G t.1) (λ t. v t.0 ++ w t.1) (both p q)
and_parse {A} {B} {F} {G} {v} {w} {p} {q} a b = both_parse F G v w p q a b

pub name_parse : {A : Type 0} {F : A → Type 0} {v : A → Line} {p : Line → Option (A × Line)} (name : Word) → IsParse F v p → IsParse F (λ a. name ∷ v a) (named name p)
name_parse {A} {F} {v} {p} name good = named_parse F v name p good

pub map_parse : {A B : Type 0} {F : A → Type 0} {v : A → Line} {p : Line → Option (A × Line)} (G : B → Type 0) (w : B → Line) (f : A → B) (g : B → A) → IsParse F v p → Maps F v G w f g → IsParse G w (mapped f p)
map_parse {A} {B} {F} {v} {p} G w f g good maps = mapped_parse F v G w f g p good maps

-- ---- a word of another shape
pub made-tells : {A B : Type 0} {F : A → Type 0} {form : A → Word} {read : Word → Option A} (G : B → Type 0) (text : B → Word) → IsField F form read → (make : A → B) → ((a : A) → F a → G (make a) × (text (make a) ≡ form a))
    → (w : Word) (b : B) → option_map make (read w) ≡ Some b → G b × (text b ≡ w)
made-tells {A} {B} {F} {form} {read} G text good make fits w b e =
    let made = mapped-some make (read w) b e in
    let told = good.tells w made.0 made.1 in
    let to = fits made.0 told.0 in
    subst (λ (c : B). G c × (text c ≡ w)) made.2 (to.0, to.1 ∙ told.1)

-- ---- a word that stands for one value, or else another
pub name-or : {A : Type 0} (Fits : A → Type 0) (form : A → Word) (w name : Word) (a b : A) (o : Option A) → Fits a → form a ≡ name → cond (bytes_eq w name) (Some a) o ≡ Some b → (Fits b × (form b ≡ w)) ⊎ (o ≡ Some b)
name-or {A} Fits form w name a b o f is e =
    let G : Type 0 = (Fits b × (form b ≡ w)) ⊎ (o ≡ Some b) in
    let step : (t : Bool) → (t ≡ true → w ≡ name) → cond t (Some a) o ≡ Some b → G = λ t. elim t as (λ s. (s ≡ true → w ≡ name) → cond s (Some a) o ≡ Some b → G) [
      | true ↦ λ h g. inl (subst (λ (c : A). Fits c × (form c ≡ w)) (some-some a b g) (f, is ∙ sym (h refl)))
      | false ↦ λ h g. inr g
    ] in
    step (bytes_eq w name) (bytes_eq-Decides w name).0 e
