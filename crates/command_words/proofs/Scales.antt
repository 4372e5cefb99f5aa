-- The numbers of a command are ones that its options take.
use Rattle.std.proofs.Common.{◌≡◌, ℕ, ◌≤◌, Bool, true, false, if◌then◌else◌, ◌&&◌, not, nat_le, List, [], ◌∷◌, codes, bytes_eq, Option, Some, None, IfSome, refl, arith}
use Rattle.std.specs.Option.{unwrap_or}
use Rattle.std.proofs.lemmas.Bool.{leb-true}
use Rattle.text_words.specs.Numbers.{decimal_number_of}
use Rattle.command_words.specs.declared.settings.Given.{Given}
use Rattle.command_words.specs.declared.settings.Named.{Named}
use Rattle.command_words.specs.declared.settings.Named.TheVariants.{Numbered, Bare}
use Rattle.command_words.specs.declared.settings.Setting.{Setting}
use Rattle.command_words.specs.declared.settings.Setting.TheVariants.{Depth, Batches, Length, Stall, Hop, Seed, Lemmas, Strength, Rounds, Workers}
use Rattle.command_words.specs.declared.settings.Switch.{Switch}
use Rattle.command_words.specs.declared.settings.Switch.TheVariants.{Proofs}
use Rattle.command_words.specs.Settings.{setting_of, scale_of, is_given, nothing, with_given, given_number, with_switch, given_switch, given_name, waiting_of, given_after, given_by, options_of, IsOnScale, AreOnScales}
use Rattle.command_words.specs.Words.{Subject, Meaning, Usage, Help, Version, Goals, Replay, Lrat, HasScales, is_file_name, cover_with, cover_of, goals_of, replay_of, lrat_of, alone, meaning}

abbrev number_of : Given → Setting → Option ℕ
number_of g Depth = g.depth
number_of g Batches = g.batches
number_of g Length = g.length
number_of g Stall = g.stall
number_of g Hop = g.hop
number_of g Seed = g.seed
number_of g Lemmas = g.lemmas
number_of g Strength = g.strength
number_of g Rounds = g.rounds
number_of g Workers = g.workers

-- each number that was given is one that its option takes
abbrev AreGiven : Given → Type 0
AreGiven g = (s : Setting) → IfSome (number_of g s) (IsOnScale s)

-- ---- word by word
nothing_given : AreGiven nothing
nothing_given Depth = tt
nothing_given Batches = tt
nothing_given Length = tt
nothing_given Stall = tt
nothing_given Hop = tt
nothing_given Seed = tt
nothing_given Lemmas = tt
nothing_given Strength = tt
nothing_given Rounds = tt
nothing_given Workers = tt

-- a number more changes no other
more : (g : Given) (s : Setting) (n : ℕ) (t : Setting) → IfSome (number_of g t) (IsOnScale t) → IsOnScale s n → IfSome (number_of (with_given g s n) t) (IsOnScale t)
more g Depth n Depth h on = on
more g Depth n t h on = h
more g Batches n Batches h on = on
more g Batches n t h on = h
more g Length n Length h on = on
more g Length n t h on = h
more g Stall n Stall h on = on
more g Stall n t h on = h
more g Hop n Hop h on = on
more g Hop n t h on = h
more g Seed n Seed h on = on
more g Seed n t h on = h
more g Lemmas n Lemmas h on = on
more g Lemmas n t h on = h
more g Strength n Strength h on = on
more g Strength n t h on = h
more g Rounds n Rounds h on = on
more g Rounds n t h on = h
more g Workers n Workers h on = on
more g Workers n t h on = h

where_within : (stands low high : Bool) (g : Given) → (low ≡ true → high ≡ true → AreGiven g)
    → IfSome (if stands then None else if low && high then Some g else None) AreGiven
where_within true low high g h = tt
where_within false true true g h = h refl refl
where_within false true false g h = tt
where_within false false high g h = tt

number_given : (g : Given) (s : Setting) (v : Option ℕ) → AreGiven g → IfSome (given_number g s v) AreGiven
number_given g s None h = tt
number_given g s (Some n) h =
    where_within (is_given g s) (nat_le (scale_of s).least n) (nat_le n (scale_of s).greatest) (with_given g s n)
    (λ low high t. more g s n t (h t) (leb-true (scale_of s).least n low, leb-true n (scale_of s).greatest high))

-- and a switch changes none
proofs_on : (g : Given) (t : Setting) → IfSome (number_of g t) (IsOnScale t) → IfSome (number_of (with_switch g Proofs) t) (IsOnScale t)
proofs_on g Depth h = h
proofs_on g t h = h

switch_when : (on : Bool) (g : Given) → AreGiven g → IfSome (if not on then Some g else None) AreGiven
switch_when true g h = tt
switch_when false g h = h

switch_given : (g : Given) (s : Switch) → AreGiven g → IfSome (given_switch g s) AreGiven
switch_given g Proofs h = switch_when g.proofs (with_switch g Proofs) (λ t. proofs_on g t (h t))

name_given : (g : Given) (name : Option Named) → AreGiven g → IfSome (given_name g name) AreGiven
name_given g None h = tt
name_given g (Some (Numbered s)) h = h
name_given g (Some (Bare s)) h = switch_given g s h

words_given : (so_far : Option Given) (waiting : Option Setting) (words : List (List ℕ)) → IfSome so_far AreGiven → IfSome (given_after so_far waiting words) AreGiven
words_given None waiting [] h = tt
words_given None waiting (word ∷ words) h = tt
words_given (Some g) None [] h = h
words_given (Some g) (Some s) [] h = tt
words_given (Some g) None (name ∷ words) h =
    words_given (given_name g (setting_of name)) (waiting_of (setting_of name)) words (name_given g (setting_of name) h)
words_given (Some g) (Some s) (value ∷ words) h =
    words_given (given_number g s (decimal_number_of value)) None words (number_given g s (decimal_number_of value) h)

-- ---- what isn't given
unset_on : (s : Setting) → IsOnScale s (scale_of s).unset
unset_on Depth = (omega arith, omega arith)
unset_on Batches = (omega arith, omega arith)
unset_on Length = (omega arith, omega arith)
unset_on Stall = (omega arith, omega arith)
unset_on Hop = (omega arith, omega arith)
unset_on Seed = (omega arith, omega arith)
unset_on Lemmas = (omega arith, omega arith)
unset_on Strength = (omega arith, omega arith)
unset_on Rounds = (omega arith, omega arith)
unset_on Workers = (omega arith, omega arith)

or_unset : (s : Setting) (n : Option ℕ) → IfSome n (IsOnScale s) → IsOnScale s (unwrap_or n (scale_of s).unset)
or_unset s None h = unset_on s
or_unset s (Some n) h = h

options_on : (g : Given) → AreGiven g → AreOnScales (options_of g)
options_on g h = record {
  depth = or_unset Depth g.depth (h Depth);
  batches = or_unset Batches g.batches (h Batches);
  length = or_unset Length g.length (h Length);
  stall = or_unset Stall g.stall (h Stall);
  hop = or_unset Hop g.hop (h Hop);
  seed = or_unset Seed g.seed (h Seed);
  lemmas = or_unset Lemmas g.lemmas (h Lemmas);
  strength = or_unset Strength g.strength (h Strength);
  rounds = or_unset Rounds g.rounds (h Rounds);
}

-- ---- the commands
cover_on : (subject : Subject) (given : Option Given) → IfSome given AreGiven → HasScales (cover_with subject given)
cover_on subject None h = tt
cover_on subject (Some g) h = record { options = options_on g h; workers = or_unset Workers g.workers (h Workers) }

either : (b : Bool) (first second : Meaning) → HasScales first → HasScales second → HasScales (if b then first else second)
either true first second h i = h
either false first second h i = i

cover_words : (words : List (List ℕ)) → HasScales (cover_of words)
cover_words [] = tt
cover_words (circuit ∷ []) = tt
cover_words (circuit ∷ signals ∷ words) =
    let subject : Subject = record { circuit = circuit; signals = signals } in
    either (is_file_name circuit && is_file_name signals) (cover_with subject (given_by words)) Usage
    (cover_on subject (given_by words) (words_given (Some nothing) None words nothing_given)) tt

goals_words : (words : List (List ℕ)) → HasScales (goals_of words)
goals_words [] = tt
goals_words (circuit ∷ []) = tt
goals_words (circuit ∷ signals ∷ []) =
    either (is_file_name circuit && is_file_name signals) (Goals (record { circuit = circuit; signals = signals })) Usage tt tt
goals_words (circuit ∷ signals ∷ word ∷ words) = tt

replay_words : (words : List (List ℕ)) → HasScales (replay_of words)
replay_words [] = tt
replay_words (circuit ∷ []) = tt
replay_words (circuit ∷ signals ∷ []) = tt
replay_words (circuit ∷ signals ∷ witness ∷ []) =
    either (is_file_name circuit && is_file_name signals && is_file_name witness)
    (Replay (record { subject = record { circuit = circuit; signals = signals }; witness = witness })) Usage tt tt
replay_words (circuit ∷ signals ∷ witness ∷ word ∷ words) = tt

lrat_words : (words : List (List ℕ)) → HasScales (lrat_of words)
lrat_words [] = tt
lrat_words (formula ∷ []) = tt
lrat_words (formula ∷ proof ∷ []) =
    either (is_file_name formula && is_file_name proof) (Lrat (record { formula = formula; proof = proof })) Usage tt tt
lrat_words (formula ∷ proof ∷ word ∷ words) = tt

version_words : (command : List ℕ) → HasScales (if bytes_eq command (codes "--version") then Version else Usage)
version_words command = either (bytes_eq command (codes "--version")) Version Usage tt tt

alone_words : (command : List ℕ) (words : List (List ℕ)) → HasScales (alone command words)
alone_words command [] =
    either (bytes_eq command (codes "--help")) Help (if bytes_eq command (codes "--version") then Version else Usage) tt (version_words command)
alone_words command (word ∷ words) = tt

pub meaning_on : (words : List (List ℕ)) → HasScales (meaning words)
meaning_on [] = tt
meaning_on (command ∷ words) =
    let lrat : Meaning = if bytes_eq command (codes "lrat") then lrat_of words else alone command words in
    let replay : Meaning = if bytes_eq command (codes "replay") then replay_of words else lrat in
    let goals : Meaning = if bytes_eq command (codes "goals") then goals_of words else replay in
    either (bytes_eq command (codes "cover")) (cover_of words) goals (cover_words words)
    (either (bytes_eq command (codes "goals")) (goals_of words) replay (goals_words words)
    (either (bytes_eq command (codes "replay")) (replay_of words) lrat (replay_words words)
    (either (bytes_eq command (codes "lrat")) (lrat_of words) (alone command words) (lrat_words words) (alone_words command words))))
