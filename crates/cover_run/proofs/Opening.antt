-- What a call of a desk gave, from how it left the desk.
use Rattle.std.proofs.Common.{◌≡◌, ℕ, ◌+◌, ◌≤◌, List, [], ◌∷◌, ◌++◌, Option, refl, sym, ap, ◌∙◌, inl, inr, subst, Err}
use Rattle.std.specs.Global.{Vec}
use Rattle.std.specs.Prelude.{◌⊎◌, Result}
use Rattle.std.proofs.lemmas.List.{append-nil}
use Rattle.run_io.specs.Desk.{DeskState, FileGiven, HasSameFaults, IsKept, IsOpen, files_started, with_open}
use Rattle.run_io.specs.declared.read.ReadFault.{ReadFault}
use Rattle.run_io.specs.declared.read.ReadFault.TheVariants as faults
use Rattle.command_words.specs.declared.stop.File.{File}
use Rattle.command_words.specs.declared.stop.Stop.TheVariants as stops
use Rattle.command_words.specs.Limits.{limit_of}
use Rattle.cover_run.specs.Files.{NamedFile, AreWithin, AreRead, IsWithin, IsFine, IsAllRead, HasFailed, HasRead}
use Rattle.cover_run.specs.Seen.{DeskSeen, seen, Gave}

opened_gave : (a b : DeskState) (name : List ℕ) → IsOpen a b name → Gave (seen a b) ((name, b.given) ∷ [])
opened_gave a b name h =
    ap (λ (o : Option (List ℕ)). with_open b.earlier o b.given) h.named ∙ ap (λ (xs : List FileGiven). xs ++ (name, b.given) ∷ []) h.earlier

kept_gave : (a b : DeskState) → IsKept a b → Gave (seen a b) []
kept_gave a b h =
    let same : files_started b ≡ files_started a =
    ap (λ (xs : List FileGiven). with_open xs b.started b.given) h.same_earlier
    ∙ (ap (λ (o : Option (List ℕ)). with_open a.earlier o b.given) h.same_name ∙ ap (λ (n : ℕ). with_open a.earlier a.started n) h.same_count) in
    same ∙ sym (append-nil (files_started a))

pub within_none : (fs : List NamedFile) → AreWithin fs []
within_none [] = tt
within_none (f ∷ fs) = tt

-- what was read to its end was given within its limit
read_within : (d : DeskSeen) (fs : List NamedFile) (gs : List FileGiven) → AreRead d fs gs → AreWithin fs gs
read_within d [] [] h = tt
read_within d [] (g ∷ gs) h = absurd h
read_within d (f ∷ fs) [] h = absurd h
read_within d (f ∷ fs) (g ∷ gs) h = (h.0.named, h.0.within, read_within d fs gs h.1)

pub all_within : (fs : List NamedFile) (d : DeskSeen) → IsAllRead fs d → IsWithin fs d
all_within fs d h = (h.given, h.gave, read_within d fs h.given h.read)

pub all_fine : (fs : List NamedFile) (d : DeskSeen) → IsAllRead fs d → IsFine fs d
all_fine fs d h = record { within = all_within fs d h; no_fault = h.no_fault }

-- ---- a file
within_open : (a b : DeskState) (f : File) (name : List ℕ) → IsOpen a b name → b.given ≤ limit_of f → IsWithin ((f, name) ∷ []) (seen a b)
within_open a b f name h le = ((name, b.given) ∷ [], opened_gave a b name h, (refl, le, tt))

pub part_failed : (a b : DeskState) (f : File) (name : List ℕ) (limit : ℕ) → limit ≡ limit_of f → IsKept a b ⊎ (IsOpen a b name × (b.given ≤ limit))
    → HasFailed ((f, name) ∷ []) (seen a b) f
part_failed a b f name limit e (inl kept) = ([], kept_gave a b kept, refl)
part_failed a b f name limit e (inr open_) =
    ((name, b.given) ∷ [], opened_gave a b name open_.0, inl (refl, refl, subst (λ (n : ℕ). b.given ≤ n) e open_.1))

pub part_long : (a b : DeskState) (f : File) (name : List ℕ) (limit : ℕ) → limit ≡ limit_of f → IsOpen a b name × (b.given ≡ limit + 1) → HasSameFaults a b
    → HasRead ((f, name) ∷ []) (seen a b) (stops.TooLong f)
part_long a b f name limit e h same =
    (((name, b.given) ∷ [], opened_gave a b name h.0, inl (refl, refl, subst (λ (n : ℕ). b.given ≡ n + 1) e h.1)), same)

pub part_memory : (a b : DeskState) (f : File) (name : List ℕ) (limit : ℕ) → limit ≡ limit_of f → IsOpen a b name × (b.given ≤ limit) → HasSameFaults a b
    → IsFine ((f, name) ∷ []) (seen a b)
part_memory a b f name limit e h same = record { within = within_open a b f name h.0 (subst (λ (n : ℕ). b.given ≤ n) e h.1); no_fault = same }

-- ---- faults that are no failure of the device
abbrev Fails : ReadFault → Result (Vec ℕ) ReadFault
Fails fault = Err fault

pub long_not_failed : (fault : ReadFault) → fault ≡ faults.TooLong → Fails fault ≡ Fails faults.Failed → ⊥
long_not_failed fault is failed =
    let same : fault ≡ faults.Failed = cc in
    let clash : faults.TooLong ≡ faults.Failed = sym is ∙ same in
    cc

pub memory_not_failed : (fault : ReadFault) → fault ≡ faults.OutOfMemory → Fails fault ≡ Fails faults.Failed → ⊥
memory_not_failed fault is failed =
    let same : fault ≡ faults.Failed = cc in
    let clash : faults.OutOfMemory ≡ faults.Failed = sym is ∙ same in
    cc
