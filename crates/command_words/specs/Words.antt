-- What the words on the command line mean.
use Rattle.std.specs.Prelude.{ℕ, Bool, false, if◌then◌else◌, not, ◌&&◌, nat_eq, List, [], ◌∷◌, map, codes, bytes_eq, Option, Some, None}
use Rattle.std.specs.Global.{Vec}
use Rattle.sim_walk.specs.declared.options.Options.{Options}
use Rattle.command_words.specs.declared.settings.Given.{Given}
use Rattle.command_words.specs.declared.settings.Setting.TheVariants.{Workers}
use Rattle.command_words.specs.Settings.{given_by, options_of, workers_of, IsOnScale, AreOnScales}

-- the files that a circuit and its signals are read from
pub record Subject : Type 0 where
  pub circuit : List ℕ
  pub signals : List ℕ

-- the files and options of `cover`, and how many workers it may have
pub record CoverCall : Type 0 where
  pub subject : Subject
  pub options : Options
  pub workers : ℕ

-- the files of `replay`
pub record ReplayCall : Type 0 where
  pub subject : Subject
  pub witness : List ℕ

-- the files of `lrat`
pub record LratCall : Type 0 where
  pub formula : List ℕ
  pub proof : List ℕ

-- the numbers of a command are ones that its options take
pub record IsOnScales (call : CoverCall) : Type 0 where
  pub options : AreOnScales call.options
  pub workers : IsOnScale Workers call.workers

-- what the words ask for
pub data Meaning : Type 0 where
  Usage : Meaning
  Help : Meaning
  Version : Meaning
  Cover : CoverCall → Meaning
  Goals : Subject → Meaning
  Replay : ReplayCall → Meaning
  Lrat : LratCall → Meaning

abbrev pub HasScales : Meaning → Type 0
HasScales (Cover call) = IsOnScales call
HasScales command = Unit {0}

abbrev pub texts : List (Vec ℕ) → List (List ℕ)
texts words = map (λ (w : Vec ℕ). w.items) words

-- a file name has a byte, and doesn't begin with `-` (45)
abbrev pub is_file_name : List ℕ → Bool
is_file_name [] = false
is_file_name (b ∷ bs) = not (nat_eq b 45)

abbrev pub cover_with : Subject → Option Given → Meaning
cover_with subject None = Usage
cover_with subject (Some given) = Cover (record { subject = subject; options = options_of given; workers = workers_of given })

-- `CIRCUIT SIGNALS`, and then options
abbrev pub cover_of : List (List ℕ) → Meaning
cover_of (circuit ∷ signals ∷ words) =
    if is_file_name circuit && is_file_name signals then cover_with (record { circuit = circuit; signals = signals }) (given_by words) else Usage
cover_of words = Usage

-- `CIRCUIT SIGNALS`, and nothing else
abbrev pub goals_of : List (List ℕ) → Meaning
goals_of (circuit ∷ signals ∷ []) = if is_file_name circuit && is_file_name signals then Goals (record { circuit = circuit; signals = signals }) else Usage
goals_of words = Usage

-- `CIRCUIT SIGNALS WITNESS`, and nothing else
abbrev pub replay_of : List (List ℕ) → Meaning
replay_of (circuit ∷ signals ∷ witness ∷ []) =
    if is_file_name circuit && is_file_name signals && is_file_name witness
    then Replay (record { subject = record { circuit = circuit; signals = signals }; witness = witness })
    else Usage
replay_of words = Usage

-- `FORMULA PROOF`, and nothing else
abbrev pub lrat_of : List (List ℕ) → Meaning
lrat_of (formula ∷ proof ∷ []) = if is_file_name formula && is_file_name proof then Lrat (record { formula = formula; proof = proof }) else Usage
lrat_of words = Usage

-- a command of one word
abbrev pub alone : List ℕ → List (List ℕ) → Meaning
alone command [] = if bytes_eq command (codes "--help") then Help else if bytes_eq command (codes "--version") then Version else Usage
alone command (word ∷ words) = Usage

-- the first word is the command
abbrev pub meaning : List (List ℕ) → Meaning
meaning [] = Usage
meaning (command ∷ words) =
    if bytes_eq command (codes "cover") then cover_of words
    else if bytes_eq command (codes "goals") then goals_of words
    else if bytes_eq command (codes "replay") then replay_of words
    else if bytes_eq command (codes "lrat") then lrat_of words
    else alone command words
