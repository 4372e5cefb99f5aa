-- The DIMACS format for formulas: which texts spell a formula, and what the first fault of any other text is.
use Rattle.std.specs.Prelude.{◌≡◌, ◌≢◌, ℕ, ◌+◌, ◌<◌, ◌≤◌, ◌⊎◌, max, ℤ, pos, nat_abs, Some, Result, Err, codes, List, [], ◌∷◌, ◌++◌, length, map}
use Rattle.std.specs.List.{flat_map, AllByRecursion}
use Rattle.text_words.specs.Lines.{lines}
use Rattle.text_words.specs.Words.{content}
use Rattle.text_words.specs.Numbers.{natural_of, integer_of}
use Rattle.text_words.specs.declared.words.Separators.TheVariants.{Blanks}
use Rattle.cnf_base.specs.Meaning.{CnfFormula}
use Rattle.cnf_base.specs.declared.fault.DimacsKind.{DimacsKind}
use Rattle.cnf_base.specs.declared.fault.DimacsKind.TheVariants.{Header, Literal, Count, Truncated, Limit}
use Rattle.cnf_base.specs.declared.fault.DimacsFault.{DimacsFault}
use Rattle.cnf_base.specs.declared.fault.DimacsFault.TheVariants as faults

-- the words of a line, between spaces and tabs; a comment has none
abbrev pub words_of : List ℕ → List (List ℕ)
words_of line = content Blanks line

abbrev pub IsBlank : List ℕ → Type 0
IsBlank line = words_of line ≡ []

-- lines count from 1, and an empty text is one empty line
abbrev pub last_line : List ℕ → ℕ
last_line text = max 1 (length (lines text))

-- ---- the header

-- the words `p cnf`, the number of variables, and the number of clauses
pub record IsHeader (words : List (List ℕ)) (vars clauses : ℕ) : Type 0 where
  pub third : List ℕ
  pub fourth : List ℕ
  pub form : words ≡ codes "p" ∷ codes "cnf" ∷ third ∷ fourth ∷ []
  pub variables : natural_of third ≡ Some vars
  pub count : natural_of fourth ≡ Some clauses

-- the first line that isn't blank has these words and this number, and the body follows it
pub record BeginsWith (text : List ℕ) (words : List (List ℕ)) (line : ℕ) (body : List (List ℕ)) : Type 0 where
  pub before : List (List ℕ)
  pub first : List ℕ
  pub parts : lines text ≡ before ++ first ∷ body
  pub blank : AllByRecursion IsBlank before
  pub some : words ≢ []
  pub spelled : words_of first ≡ words
  pub place : line ≡ length before + 1

-- that line is a header, within the limits
pub record IsHeaded (text : List ℕ) (vars clauses line : ℕ) (body : List (List ℕ)) : Type 0 where
  pub words : List (List ℕ)
  pub begins : BeginsWith text words line body
  pub header : IsHeader words vars clauses
  pub few_vars : vars ≤ 4000000
  pub few_clauses : clauses ≤ 20000000

-- ---- the body

-- a clause is spelled by its literals and a 0
abbrev pub closed : List ℤ → List ℤ
closed clause = clause ++ pos 0 ∷ []

-- a literal of one of the variables 1 to n
pub record IsLiteral (n : ℕ) (l : ℤ) : Type 0 where
  pub not_zero : l ≢ pos 0
  pub variable : nat_abs l ≤ n

-- the words spell these clauses, and then the literals of a clause that has no 0 yet
pub record Spell (vars : ℕ) (words : List (List ℕ)) (clauses : List (List ℤ)) (begun : List ℤ) : Type 0 where
  pub numbers : map integer_of words ≡ map (λ z. Some z) (flat_map closed clauses ++ begun)
  pub literals : AllByRecursion (AllByRecursion (IsLiteral vars)) clauses
  pub last : AllByRecursion (IsLiteral vars) begun

-- each word of the lines, with its line's number, where the first line has the number n
abbrev pub placed : ℕ → List (List ℕ) → List (ℕ × List ℕ)
placed n [] = []
placed n (line ∷ more) = map (λ word. (n, word)) (words_of line) ++ placed (n + 1) more

-- a text spells these clauses, at most as many as its header says, and the literals begun, up to a word on a line
pub record SpellsUpTo (text : List ℕ) (line : ℕ) (word : List ℕ) (vars clauses : ℕ) (done : List (List ℤ)) (begun : List ℤ) : Type 0 where
  pub header_line : ℕ
  pub body : List (List ℕ)
  pub headed : IsHeaded text vars clauses header_line body
  pub earlier : List (ℕ × List ℕ)
  pub later : List (ℕ × List ℕ)
  pub parts : placed (header_line + 1) body ≡ earlier ++ (line, word) ∷ later
  pub spelled : Spell vars (map (λ p. p.1) earlier) done begun
  pub room : length done ≤ clauses

-- the same up to its end
pub record SpellsWhole (text : List ℕ) (vars clauses : ℕ) (done : List (List ℤ)) (begun : List ℤ) : Type 0 where
  pub header_line : ℕ
  pub body : List (List ℕ)
  pub headed : IsHeaded text vars clauses header_line body
  pub spelled : Spell vars (flat_map words_of body) done begun
  pub room : length done ≤ clauses

-- a text spells a formula: a header with its numbers of variables and clauses, and then its clauses
abbrev pub SpellsFormula : List ℕ → CnfFormula → Type 0
SpellsFormula text f = SpellsWhole text f.vars (length f.clauses) f.clauses []

-- ---- the faults

-- all lines are blank: seen at the last line
pub record HasNoHeader (text : List ℕ) (line : ℕ) : Type 0 where
  pub blank : AllByRecursion IsBlank (lines text)
  pub place : line ≡ last_line text

-- the first line that isn't blank is no header
pub record HasOtherHeader (text : List ℕ) (line : ℕ) : Type 0 where
  pub words : List (List ℕ)
  pub body : List (List ℕ)
  pub begins : BeginsWith text words line body
  pub other : (vars clauses : ℕ) → ¬ IsHeader words vars clauses

-- the header has too great a number
pub record HasLargeHeader (text : List ℕ) (line : ℕ) : Type 0 where
  pub words : List (List ℕ)
  pub body : List (List ℕ)
  pub begins : BeginsWith text words line body
  pub vars : ℕ
  pub clauses : ℕ
  pub header : IsHeader words vars clauses
  pub large : (4000000 < vars) ⊎ (20000000 < clauses)

-- a word is neither 0 nor a literal of the header's variables
pub record HasOtherWord (text : List ℕ) (line : ℕ) : Type 0 where
  pub word : List ℕ
  pub vars : ℕ
  pub clauses : ℕ
  pub done : List (List ℤ)
  pub begun : List ℤ
  pub before : SpellsUpTo text line word vars clauses done begun
  pub other : (z : ℤ) → integer_of word ≡ Some z → ¬ (nat_abs z ≤ vars)

-- a clause ends when there are already as many as the header says
pub record HasMoreClauses (text : List ℕ) (line : ℕ) : Type 0 where
  pub word : List ℕ
  pub vars : ℕ
  pub clauses : ℕ
  pub done : List (List ℤ)
  pub begun : List ℤ
  pub before : SpellsUpTo text line word vars clauses done begun
  pub zero : integer_of word ≡ Some (pos 0)
  pub full : length done ≡ clauses

-- the text ends with fewer: seen at the last line
pub record HasFewerClauses (text : List ℕ) (line : ℕ) : Type 0 where
  pub vars : ℕ
  pub clauses : ℕ
  pub done : List (List ℤ)
  pub whole : SpellsWhole text vars clauses done []
  pub fewer : length done < clauses
  pub place : line ≡ last_line text

-- the text ends within a clause: seen at the last line
pub record EndsWithinClause (text : List ℕ) (line : ℕ) : Type 0 where
  pub vars : ℕ
  pub clauses : ℕ
  pub done : List (List ℤ)
  pub begun : List ℤ
  pub whole : SpellsWhole text vars clauses done begun
  pub within : begun ≢ []
  pub place : line ≡ last_line text

-- the first fault of a text has this kind, and is seen at this line
abbrev pub IsFirstFault : List ℕ → ℕ → DimacsKind → Type 0
IsFirstFault text line Header = HasNoHeader text line ⊎ HasOtherHeader text line
IsFirstFault text line Limit = HasLargeHeader text line
IsFirstFault text line Literal = HasOtherWord text line
IsFirstFault text line Count = HasMoreClauses text line ⊎ HasFewerClauses text line
IsFirstFault text line Truncated = EndsWithinClause text line

-- ---- what a call answers

-- a fault is the first, unless memory ran out
abbrev pub IsFault : List ℕ → DimacsFault → Type 0
IsFault text (faults.At line kind) = IsFirstFault text line kind
IsFault text faults.OutOfMemory = Unit {0}

-- a call answers so, unless memory runs out
abbrev pub Answers : Result CnfFormula DimacsFault → Result CnfFormula DimacsFault → Type 0
Answers result wanted = (result ≡ wanted) ⊎ (result ≡ Err faults.OutOfMemory)
