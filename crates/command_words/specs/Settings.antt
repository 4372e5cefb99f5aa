-- The options of `cover`: which there are, and what words give them.
use Rattle.std.specs.Prelude.{ℕ, ◌≤◌, Bool, true, false, if◌then◌else◌, not, ◌&&◌, nat_le, List, [], ◌∷◌, codes, bytes_eq, Option, Some, None, is_some}
use Rattle.std.specs.Option.{unwrap_or}
use Rattle.text_words.specs.Numbers.{decimal_number_of}
use Rattle.sim_walk.specs.declared.options.Options.{Options}
use Rattle.command_words.specs.declared.settings.Setting.{Setting}
use Rattle.command_words.specs.declared.settings.Setting.TheVariants.{Depth, Batches, Length, Stall, Hop, Seed, Lemmas, Strength, Rounds, Workers}
use Rattle.command_words.specs.declared.settings.Switch.{Switch}
use Rattle.command_words.specs.declared.settings.Switch.TheVariants.{Proofs}
use Rattle.command_words.specs.declared.settings.Named.{Named}
use Rattle.command_words.specs.declared.settings.Named.TheVariants.{Numbered, Bare}
use Rattle.command_words.specs.declared.settings.Scale.{Scale}
use Rattle.command_words.specs.declared.settings.Given.{Given}

-- ---- the table: the name of an option that a number follows, or of a switch; the least and the greatest number, and
-- the number of an option that isn't given; which switches are built
abbrev pub setting_of : List ℕ → Option Named
setting_of name =
    if bytes_eq name (codes "--depth") then Some (Numbered Depth)
    else if bytes_eq name (codes "--batches") then Some (Numbered Batches)
    else if bytes_eq name (codes "--length") then Some (Numbered Length)
    else if bytes_eq name (codes "--stall") then Some (Numbered Stall)
    else if bytes_eq name (codes "--hop") then Some (Numbered Hop)
    else if bytes_eq name (codes "--seed") then Some (Numbered Seed)
    else if bytes_eq name (codes "--lemmas") then Some (Numbered Lemmas)
    else if bytes_eq name (codes "--strength") then Some (Numbered Strength)
    else if bytes_eq name (codes "--rounds") then Some (Numbered Rounds)
    else if bytes_eq name (codes "--workers") then Some (Numbered Workers)
    else if bytes_eq name (codes "--proofs") then Some (Bare Proofs)
    else None

abbrev pub scale_of : Setting → Scale
scale_of Depth = record { least = 0; greatest = 200; unset = 10 }
scale_of Batches = record { least = 0; greatest = 16; unset = 2 }
scale_of Length = record { least = 1; greatest = 100000; unset = 1000 }
scale_of Stall = record { least = 1; greatest = 100000; unset = 100 }
scale_of Hop = record { least = 0; greatest = 50; unset = 4 }
scale_of Seed = record { least = 0; greatest = 18446744073709551615; unset = 1 }
scale_of Lemmas = record { least = 1; greatest = 1000000; unset = 20000 }
scale_of Strength = record { least = 0; greatest = 2; unset = 2 }
scale_of Rounds = record { least = 0; greatest = 0; unset = 0 }
scale_of Workers = record { least = 1; greatest = 8; unset = 4 }

abbrev pub is_built : Switch → Bool
is_built Proofs = true

-- ---- what the options were given
abbrev pub nothing : Given
nothing = record { depth = None; batches = None; length = None; stall = None; hop = None; seed = None; lemmas = None; strength = None; rounds = None; workers = None; proofs = false }

abbrev pub is_given : Given → Setting → Bool
is_given g Depth = is_some g.depth
is_given g Batches = is_some g.batches
is_given g Length = is_some g.length
is_given g Stall = is_some g.stall
is_given g Hop = is_some g.hop
is_given g Seed = is_some g.seed
is_given g Lemmas = is_some g.lemmas
is_given g Strength = is_some g.strength
is_given g Rounds = is_some g.rounds
is_given g Workers = is_some g.workers

abbrev pub with_given : Given → Setting → ℕ → Given
with_given g Depth n = record g { depth = Some n }
with_given g Batches n = record g { batches = Some n }
with_given g Length n = record g { length = Some n }
with_given g Stall n = record g { stall = Some n }
with_given g Hop n = record g { hop = Some n }
with_given g Seed n = record g { seed = Some n }
with_given g Lemmas n = record g { lemmas = Some n }
with_given g Strength n = record g { strength = Some n }
with_given g Rounds n = record g { rounds = Some n }
with_given g Workers n = record g { workers = Some n }

-- an option that wasn't given yet, with a number of its scale
abbrev pub given_number : Given → Setting → Option ℕ → Option Given
given_number g s None = None
given_number g s (Some n) =
    if is_given g s then None else if nat_le (scale_of s).least n && nat_le n (scale_of s).greatest then Some (with_given g s n) else None

abbrev pub is_on : Given → Switch → Bool
is_on g Proofs = g.proofs

abbrev pub with_switch : Given → Switch → Given
with_switch g Proofs = record g { proofs = true }

-- a switch that is built and wasn't given yet
abbrev pub given_switch : Given → Switch → Option Given
given_switch g s = if is_built s && not (is_on g s) then Some (with_switch g s) else None

-- what the name of an option gives by itself
abbrev pub given_name : Given → Option Named → Option Given
given_name g None = None
given_name g (Some (Numbered s)) = Some g
given_name g (Some (Bare s)) = given_switch g s

-- the option that waits for its number, once its name was read
abbrev pub waiting_of : Option Named → Option Setting
waiting_of None = None
waiting_of (Some (Numbered s)) = Some s
waiting_of (Some (Bare s)) = None

-- what the words give beyond what was given before them: each is the number that an option waits for, or the name of an option
abbrev pub given_after : Option Given → Option Setting → List (List ℕ) → Option Given
given_after None waiting words = None
given_after (Some g) None [] = Some g
given_after (Some g) (Some s) [] = None
given_after (Some g) None (name ∷ words) = given_after (given_name g (setting_of name)) (waiting_of (setting_of name)) words
given_after (Some g) (Some s) (value ∷ words) = given_after (given_number g s (decimal_number_of value)) None words

-- what words that are options give
abbrev pub given_by : List (List ℕ) → Option Given
given_by words = given_after (Some nothing) None words

-- the options of a run; how many workers there are changes no report
abbrev pub options_of : Given → Options
options_of g = record {
  depth = unwrap_or g.depth (scale_of Depth).unset;
  batches = unwrap_or g.batches (scale_of Batches).unset;
  length = unwrap_or g.length (scale_of Length).unset;
  stall = unwrap_or g.stall (scale_of Stall).unset;
  hop = unwrap_or g.hop (scale_of Hop).unset;
  seed = unwrap_or g.seed (scale_of Seed).unset;
  lemmas = unwrap_or g.lemmas (scale_of Lemmas).unset;
  strength = unwrap_or g.strength (scale_of Strength).unset;
  rounds = unwrap_or g.rounds (scale_of Rounds).unset;
  proofs = g.proofs;
}

-- how many workers a run may have
abbrev pub workers_of : Given → ℕ
workers_of g = unwrap_or g.workers (scale_of Workers).unset

-- ---- the numbers that options have
-- a number that the option takes
abbrev pub IsOnScale : Setting → ℕ → Type 0
IsOnScale s n = ((scale_of s).least ≤ n) × (n ≤ (scale_of s).greatest)

-- each number is one that its option takes
pub record AreOnScales (o : Options) : Type 0 where
  pub depth : IsOnScale Depth o.depth
  pub batches : IsOnScale Batches o.batches
  pub length : IsOnScale Length o.length
  pub stall : IsOnScale Stall o.stall
  pub hop : IsOnScale Hop o.hop
  pub seed : IsOnScale Seed o.seed
  pub lemmas : IsOnScale Lemmas o.lemmas
  pub strength : IsOnScale Strength o.strength
  pub rounds : IsOnScale Rounds o.rounds
