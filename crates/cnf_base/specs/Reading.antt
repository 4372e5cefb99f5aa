-- Reading word by word, with the first fault that is met.
use Rattle.std.specs.Prelude.{◌≡◌, ℕ, ◌+◌, max, ◌&&◌, nat_lt, nat_le, nat_eq, ℤ, nat_abs, Option, Some, None, Result, Ok, Err, codes, List, [], ◌∷◌, ◌++◌, length, if◌then◌else◌}
use Rattle.std.specs.Str.{bytes_eq}
use Rattle.text_words.specs.Lines.{lines}
use Rattle.text_words.specs.Numbers.{natural_of, integer_of}
use Rattle.cnf_base.specs.Meaning.{CnfFormula}
use Rattle.cnf_base.specs.Dimacs.{words_of, last_line, placed}
use Rattle.cnf_base.specs.declared.fault.DimacsKind.{DimacsKind}
use Rattle.cnf_base.specs.declared.fault.DimacsKind.TheVariants as kinds
use Rattle.cnf_base.specs.declared.fault.DimacsFault.{DimacsFault}
use Rattle.cnf_base.specs.declared.fault.DimacsFault.TheVariants as faults
use Rattle.text_words.specs.declared.fault.LineFault.{LineFault}
use Rattle.text_words.specs.declared.fault.LineFault.TheVariants as words
use Rattle.cnf_base.specs.declared.header.Counts.{Counts}
use Rattle.cnf_base.specs.declared.header.Found as header

infixl 10 ◌>>=◌
abbrev pub ◌>>=◌ : {A B E : Type 0} → Result A E → (A → Result B E) → Result B E
(Ok x) >>= f = f x
(Err e) >>= f = Err e

-- a fault's line and kind
abbrev pub Place : Type 0
Place = ℕ × DimacsKind

-- a fault of a line
abbrev pub at_line : {A : Type 0} → ℕ → Result A DimacsKind → Result A Place
at_line n (Ok x) = Ok x
at_line n (Err k) = Err (n, k)

-- ---- the header

-- its numbers, if it is one
abbrev pub limited : Option ℕ → Option ℕ → Result (ℕ × ℕ) DimacsKind
limited None c = Err kinds.Header
limited (Some v) None = Err kinds.Header
limited (Some v) (Some c) = if nat_le v 4000000 && nat_le c 20000000 then Ok (v, c) else Err kinds.Limit

abbrev pub header_of : List (List ℕ) → Result (ℕ × ℕ) DimacsKind
header_of (p ∷ cnf ∷ v ∷ c ∷ []) =
    if bytes_eq p (codes "p") && bytes_eq cnf (codes "cnf") then limited (natural_of v) (natural_of c) else Err kinds.Header
header_of ws = Err kinds.Header

-- a header, its line, and the lines after it
pub record Found : Type 0 where
  pub vars : ℕ
  pub clauses : ℕ
  pub line : ℕ
  pub body : List (List ℕ)

abbrev pub found_at : ℕ → List (List ℕ) → Result (ℕ × ℕ) DimacsKind → Result Found Place
found_at n body (Ok h) = Ok (record { vars = h.0; clauses = h.1; line = n; body = body })
found_at n body (Err k) = Err (n, k)

abbrev pub if_blank : {A : Type 0} → List (List ℕ) → A → A → A
if_blank [] x y = x
if_blank (w ∷ ws) x y = y

-- the first line with words, after n lines without
abbrev pub header_in : ℕ → List (List ℕ) → Result Found Place
header_in n [] = Err (max 1 n, kinds.Header)
header_in n (l ∷ ls) = if_blank (words_of l) (header_in (n + 1) ls) (found_at (n + 1) ls (header_of (words_of l)))

-- ---- the body

-- what was read of it
pub record Progress : Type 0 where
  pub vars : ℕ
  pub limit : ℕ
  pub clauses : List (List ℤ)
  pub begun : List ℤ

abbrev pub ended : Progress → Result Progress DimacsKind
ended p = if nat_lt (length p.clauses) p.limit then Ok (record { vars = p.vars; limit = p.limit; clauses = p.clauses ++ p.begun ∷ []; begun = [] }) else Err kinds.Count

abbrev pub extended : Progress → ℤ → Progress
extended p z = record { vars = p.vars; limit = p.limit; clauses = p.clauses; begun = p.begun ++ z ∷ [] }

abbrev pub with_number : Progress → Option ℤ → Result Progress DimacsKind
with_number p None = Err kinds.Literal
with_number p (Some z) =
    if nat_le (nat_abs z) p.vars then (if nat_eq (nat_abs z) 0 then ended p else Ok (extended p z)) else Err kinds.Literal

abbrev pub with_numbers : Progress → List (Option ℤ) → Result Progress DimacsKind
with_numbers p [] = Ok p
with_numbers p (n ∷ ns) = with_number p n >>= λ q. with_numbers q ns

abbrev pub with_placed : Progress → List (ℕ × List ℕ) → Result Progress Place
with_placed p [] = Ok p
with_placed p (w ∷ ws) = at_line w.0 (with_number p (integer_of w.1)) >>= λ q. with_placed q ws

-- what was read, at the end of the text
abbrev pub formula_of : Progress → Result CnfFormula DimacsKind
formula_of p = formula_from p.begun
  where
    formula_from : List ℤ → Result CnfFormula DimacsKind
    formula_from [] = if nat_lt (length p.clauses) p.limit then Err kinds.Count else Ok (record { vars = p.vars; clauses = p.clauses })
    formula_from (z ∷ zs) = Err kinds.Truncated

abbrev pub body_of : ℕ → Found → Result CnfFormula Place
body_of last h =
    with_placed (record { vars = h.vars; limit = h.clauses; clauses = []; begun = [] }) (placed (h.line + 1) h.body)
    >>= λ p. at_line last (formula_of p)

abbrev pub reading : List ℕ → Result CnfFormula Place
reading text = header_in 0 (lines text) >>= body_of (last_line text)

-- ---- what the calls return

-- the answer is what reading gives, unless memory runs out
abbrev pub Fails : {A : Type 0} → DimacsFault → Result A Place → Type 0
Fails (faults.At line kind) read = read ≡ Err (line, kind)
Fails faults.OutOfMemory read = Unit {0}

abbrev pub Gives : {A B : Type 0} → (A → B) → Result A DimacsFault → Result B Place → Type 0
Gives view (Ok x) read = read ≡ Ok (view x)
Gives view (Err e) read = Fails e read

-- the same of a step that changes a draft, or of a line
abbrev pub FailsOnWord : {A : Type 0} → LineFault DimacsKind → Result A DimacsKind → Type 0
FailsOnWord (words.Kind kind) read = read ≡ Err kind
FailsOnWord words.OutOfMemory read = Unit {0}

abbrev pub Leaves : {A B : Type 0} → B → Result A (LineFault DimacsKind) → Result B DimacsKind → Type 0
Leaves new (Ok x) read = read ≡ Ok new
Leaves new (Err e) read = FailsOnWord e read

abbrev pub on_line : ℕ → LineFault DimacsKind → DimacsFault
on_line n (words.Kind kind) = faults.At n kind
on_line n words.OutOfMemory = faults.OutOfMemory

-- the same of a fault of a line
abbrev pub Says : {A B : Type 0} → (A → B) → Result A DimacsKind → Result B DimacsKind → Type 0
Says view (Ok x) read = read ≡ Ok (view x)
Says view (Err kind) read = read ≡ Err kind

abbrev pub counts_of : Counts → ℕ × ℕ
counts_of c = (c.vars, c.clauses)

abbrev pub found_of : header.Found → Found
found_of f = record { vars = f.counts.vars; clauses = f.counts.clauses; line = f.line; body = f.body }
