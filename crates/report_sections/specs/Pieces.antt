-- A piece of a text is lines of words that tell a value. What reading one answers.
use Rattle.std.specs.Prelude.{◌≡◌, ◌≢◌, ℕ, ◌+◌, ◌<◌, Result, Ok, Err, List, [], ◌∷◌, ◌++◌, length, take}
use Rattle.report_text.specs.Text.{Line, text}
use Rattle.report_lines.specs.Reading.{Place, Read, ◌>>=◌, kind_at}
use Rattle.report_lines.specs.declared.fault.ReportKind.{ReportKind}
use Rattle.report_lines.specs.declared.fault.ReportFault.{ReportFault}
use Rattle.report_lines.specs.declared.fault.ReportFault.TheVariants as faults

-- the lines of a value that fits
pub record Speak {A : Type 0} (Fits : A → Type 0) (lines : A → List Line) (ls : List Line) : Type 0 where
  pub value : A
  pub fits : Fits value
  pub are : lines value ≡ ls

-- the first n lines are those of a piece, and with one more line they are those of none
pub record IsStop (Lines : List Line → Type 0) (bytes : List ℕ) (n : ℕ) (kind : ReportKind) : Type 0 where
  pub some : List Line
  pub said : Lines some
  pub more : n < length some
  pub rest : List ℕ
  pub parts : bytes ≡ text (take n some) ++ rest
  pub kind_of : kind ≡ kind_at rest
  pub none : (ls : List Line) (x : List ℕ) → Lines ls → bytes ≢ text (take (n + 1) ls) ++ x

abbrev pub StopsAt : (List Line → Type 0) → Place → ReportFault → Type 0
StopsAt Lines p (faults.At line kind) = (n : ℕ) × (line ≡ p.line + n + 1) × IsStop Lines p.bytes n kind
StopsAt Lines p faults.OutOfMemory = Unit {0}

-- the value is read, and reading goes on behind its lines
pub record Passes (lines : List Line) (old new : Place) : Type 0 where
  pub bytes : old.bytes ≡ text lines ++ new.bytes
  pub line : new.line ≡ old.line + length lines

-- what reading a piece gives
abbrev pub ReadsTo : {A : Type 0} → (A → Type 0) → (A → List Line) → Place → Read A → Type 0
ReadsTo Fits lines old (Ok a) = Fits a.0 × Passes (lines a.0) old a.1
ReadsTo Fits lines old (Err e) = StopsAt (Speak Fits lines) old e

-- what a call that reads a piece answers: the value, and reading goes on behind its lines; or the first fault
abbrev pub Faults : {A : Type 0} → (A → Type 0) → (A → List Line) → Place → ReportFault → Type 0
Faults Fits lines old (faults.At line kind) = StopsAt (Speak Fits lines) old (faults.At line kind)
Faults Fits lines old faults.OutOfMemory = Unit {0}

abbrev pub Reads : {A : Type 0} → (A → Type 0) → (A → List Line) → Place → Result A ReportFault → Place → Type 0
Reads Fits lines old (Ok a) new = Fits a × Passes (lines a) old new
Reads Fits lines old (Err e) new = Faults Fits lines old e

-- two pieces, one behind the other
abbrev pub and_read : {A B : Type 0} → Read A → (Place → Read B) → Read (A × B)
and_read r read = r >>= λ a. read a.1 >>= λ b. Ok ((a.0, b.0), b.1)

-- a line by itself
abbrev pub one : {A : Type 0} → (A → Line) → A → List Line
one words a = words a ∷ []
