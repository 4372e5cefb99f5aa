-- The words of a line, and what they spell.
use Rattle.std.specs.Prelude.{◌≡◌, ℕ, ◌^◌, ◌+◌, ℤ, Bool, true, false, nat_lt, nat_eq, ◌==◌, bytes_eq, Option, Some, None, List, [], ◌∷◌, ◌++◌, if◌then◌else◌}
use Rattle.std.specs.Fmt.{signed_decimal}
use Rattle.std.specs.Option.{option_map}
use Rattle.std.specs.List.{slice_split}
use Rattle.text_words.specs.Numbers.{decimal_number_of, integer_of, if_below}

abbrev pub Word : Type 0
Word = List ℕ

abbrev pub Line : Type 0
Line = List Word

-- the bytes before the first newline, if there is one
abbrev pub before_newline : List ℕ → Option (List ℕ)
before_newline [] = None
before_newline (b ∷ bs) = if b == 10 then Some [] else option_map (λ l. b ∷ l) (before_newline bs)

-- the parts between spaces, also those without bytes
abbrev pub parts : List ℕ → Line
parts bytes = slice_split (λ b. b == 32) bytes

abbrev pub words_of : Option (List ℕ) → Line
words_of None = []
words_of (Some line) = parts line

-- the words of the line that begins here; where it has no newline it has none
abbrev pub words_here : List ℕ → Line
words_here bytes = words_of (before_newline bytes)

-- ---- words, one after another
infixl 10 ◌>>?◌
abbrev pub ◌>>?◌ : {A B : Type 0} → Option A → (A → Option B) → Option B
None >>? f = None
(Some a) >>? f = f a

-- what a word tells, and the words after it
abbrev pub with_rest : {A : Type 0} → Line → Option A → Option (A × Line)
with_rest ws None = None
with_rest ws (Some a) = Some (a, ws)

abbrev pub word : {A : Type 0} → (Word → Option A) → Line → Option (A × Line)
word read [] = None
word read (w ∷ ws) = with_rest ws (read w)

-- what the first words tell and what those after them tell
abbrev pub both : {A B : Type 0} → (Line → Option (A × Line)) → (Line → Option (B × Line)) → Line → Option ((A × B) × Line)
both p q ws = p ws >>? λ a. q a.1 >>? λ b. Some ((a.0, b.0), b.1)

-- a value of another shape
abbrev pub mapped : {A B : Type 0} → (A → B) → (Line → Option (A × Line)) → Line → Option (B × Line)
mapped f p ws = p ws >>? λ a. Some (f a.0, a.1)

abbrev pub behind_name : Word → Line → Option Line
behind_name name [] = None
behind_name name (w ∷ ws) = if bytes_eq w name then Some ws else None

-- a name, and what follows it
abbrev pub named : {A : Type 0} → Word → (Line → Option (A × Line)) → Line → Option (A × Line)
named name p ws = behind_name name ws >>? p

abbrev pub last : {A : Type 0} → A → Line → Option A
last a [] = Some a
last a (w ∷ ws) = None

-- no word follows
abbrev pub whole_line : {A : Type 0} → (Line → Option (A × Line)) → Line → Option A
whole_line p ws = p ws >>? λ a. last a.0 a.1

-- the words up to one that ends them, after the values xs
abbrev pub until : {A : Type 0} → Word → (Word → Option A) → List A → Line → Option (List A × Line)
until stop read xs [] = None
until stop read xs (w ∷ ws) = if bytes_eq w stop then Some (xs, ws) else read w >>? λ x. until stop read (xs ++ x ∷ []) ws

-- a call answers what the words at its front tell, and leaves those after them
abbrev pub Takes : {A : Type 0} → Option A → Line → Option (A × Line) → Type 0
Takes None rest told = told ≡ None
Takes (Some a) rest told = told ≡ Some (a, rest)

-- ---- numbers, as they are written
abbrev pub if_small : Option ℕ → Option ℕ
if_small None = None
if_small (Some n) = if nat_lt n (2 ^ 32) then Some n else None

abbrev pub small_of : Word → Option ℕ
small_of w = if_small (decimal_number_of w)

abbrev pub if_written : Word → Option ℤ → Option ℤ
if_written w None = None
if_written w (Some z) = if bytes_eq (signed_decimal z) w then Some z else None

abbrev pub signed_of : Word → Option ℤ
signed_of w = if_written w (if_below (2 ^ 63) (integer_of w))

-- a name and a number
abbrev pub count_in : Word → Line → Option ℕ
count_in name ws = whole_line (named name (word small_of)) ws
