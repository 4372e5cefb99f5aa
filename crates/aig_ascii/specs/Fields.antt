-- What is asked of the fields of a line. The first argument says which kinds of a format the shared kinds are.
use Rattle.std.specs.Prelude.{ℕ, Bool, true, false, is_some, if◌then◌else◌, List, [], ◌∷◌, ◌++◌, length, map, drop}
use Rattle.text_words.specs.Numbers.{natural_of}
use Rattle.text_words.specs.Text.{Rest, line_end, fields, word, number}
use Rattle.text_words.specs.declared.cursor.LineEnd.{LineEnd}
use Rattle.aig_ascii.specs.Demands.{Demand, demand, never}
use Rattle.aig_ascii.specs.declared.fault.SharedKind.{SharedKind}
use Rattle.aig_ascii.specs.declared.fault.SharedKind.TheVariants.{Number, Truncated}

-- a test of a field's number, and the kind of the fault where it fails
pub record Test (K : Type 0) : Type 0 where
  pub kind : K
  pub passes : ℕ → Bool

-- a field that must stand on a line, or may, and the tests of its number, in order
pub record Want (K : Type 0) : Type 0 where
  pub optional : Bool
  pub tests : List (Test K)

abbrev pub wanted : {K : Type 0} → List (Test K) → Want K
wanted tests = record { optional = false; tests = tests }

abbrev pub optional : {K : Type 0} → List (Test K) → Want K
optional tests = record { optional = true; tests = tests }

-- a field is a number, and passes its tests
abbrev pub field_demands : {K : Type 0} → (SharedKind → K) → List (Test K) → Rest → List (Demand K)
field_demands kind tests f =
    demand f.at (kind Number) (is_some (natural_of (word f.bytes))) ∷ map (λ (t : Test _). demand f.at t.kind (t.passes (number f))) tests

-- a field is missing: at the line's end, or at the text's end where no newline comes
abbrev pub missing_at : {K : Type 0} → (SharedKind → K) → LineEnd → Demand K
missing_at kind end = never end.at (kind (if end.is_cut then Truncated else Number))

abbrev pub missing : {K : Type 0} → (SharedKind → K) → Rest → Demand K
missing kind r = missing_at kind (line_end r)

-- the first of these fields is as wanted, in a line that goes on at r
abbrev pub want_demands : {K : Type 0} → (SharedKind → K) → Rest → Want K → List Rest → List (Demand K)
want_demands kind r want [] = if want.optional then [] else missing kind r ∷ []
want_demands kind r want (f ∷ fs) = field_demands kind want.tests f

-- the fields are as wanted, one after another
abbrev pub wants_demands : {K : Type 0} → (SharedKind → K) → Rest → List Rest → List (Want K) → List (Demand K)
wants_demands kind r fs [] = []
wants_demands kind r fs (want ∷ wants) = want_demands kind r want fs ++ wants_demands kind r (drop 1 fs) wants

-- these fields are none
abbrev pub none_demands : {K : Type 0} → (SharedKind → K) → List Rest → List (Demand K)
none_demands kind fs = map (λ (f : Rest). never f.at (kind Number)) fs

-- the line has the fields that are wanted, and no more
abbrev pub line_demands : {K : Type 0} → (SharedKind → K) → List (Want K) → Rest → List (Demand K)
line_demands kind wants r = wants_demands kind r (fields r) wants ++ none_demands kind (drop (length wants) (fields r))
