-- A file that is read behind a circuit and its signals.
use Rattle.std.proofs.Common.{◌≡◌, List, [], ◌∷◌, ◌++◌, inl, inr, arith}
use Rattle.run_io.specs.Desk.{DeskState, FileGiven, HasSameTexts, HasSameFaults, CountsFaults}
use Rattle.command_words.specs.declared.stop.Stop.{Stop}
use Rattle.command_words.specs.declared.stop.Stop.TheVariants as stops
use Rattle.cover_run.specs.Files.{NamedFile, AreWithin, AreRead, EndsAt, EndsFailed, EndsPast, IsFine, IsAllRead, HasRead}
use Rattle.cover_run.specs.Seen.{DeskSeen, seen}
use Rattle.cover_run.specs.Steps.{SubjectCause}
use Rattle.command_words.specs.Words.{Subject}
use Rattle.cover_run.proofs.Opening.{within_none}
use Rattle.cover_run.proofs.Reading.{gave_after, faults_after, to_end_by, read_since, ends_since}

-- no count changed, so none fell
pub same_counts : (a b : DeskState) → HasSameFaults a b → CountsFaults a b
same_counts a b same name = let e : b.faults name ≡ a.faults name = same name in (omega arith, omega arith)

-- ---- the files before it aren't all read
within_before : (fs hs : List NamedFile) (gs : List FileGiven) → AreWithin fs gs → AreWithin (fs ++ hs) gs
within_before fs hs [] h = within_none (fs ++ hs)
within_before [] hs (g ∷ gs) h = absurd h
within_before (f ∷ fs) hs (g ∷ gs) h = (h.0, h.1, within_before fs hs gs h.2)

ends_before : (d : DeskSeen) (Last : NamedFile → List FileGiven → Type 0) (fs hs : List NamedFile) (gs : List FileGiven) → EndsAt d Last fs gs → EndsAt d Last (fs ++ hs) gs
ends_before d Last [] hs gs h = absurd h
ends_before d Last (f ∷ fs) hs [] h = h
ends_before d Last (f ∷ fs) hs (g ∷ gs) (inl here) = inl here
ends_before d Last (f ∷ fs) hs (g ∷ gs) (inr later) = inr (later.0, ends_before d Last fs hs gs later.1)

fine_before : (fs hs : List NamedFile) (d : DeskSeen) → IsFine fs d → IsFine (fs ++ hs) d
fine_before fs hs d h = record { within = (h.within.0, h.within.1, within_before fs hs h.within.0 h.within.2); no_fault = h.no_fault }

pub read_before : (s : Subject) (fs hs : List NamedFile) (d : DeskSeen) (stop : Stop) → SubjectCause s d stop → HasRead fs d stop → HasRead (fs ++ hs) d stop
read_before s fs hs d stops.Usage cause h = absurd cause
read_before s fs hs d (stops.Unreadable x) cause h = (h.0, h.1, ends_before d (EndsFailed x) fs hs h.0 h.2)
read_before s fs hs d (stops.TooLong x) cause h = ((h.0.0, h.0.1, ends_before d (EndsPast x) fs hs h.0.0 h.0.2), h.1)
read_before s fs hs d (stops.TooLarge m) cause h = absurd cause
read_before s fs hs d (stops.BadCircuit at kind) cause h = fine_before fs hs d h
read_before s fs hs d (stops.BadSignals line kind) cause h = fine_before fs hs d h
read_before s fs hs d (stops.Refused why) cause h = absurd cause
read_before s fs hs d stops.CannotWrite cause h = absurd cause
read_before s fs hs d stops.OutOfMemory cause h = fine_before fs hs d h

-- ---- the files before it are all read
read_both : (a b c : DeskState) (fs hs : List NamedFile) (gs ks : List FileGiven) → AreRead (seen a b) fs gs → AreRead (seen a c) hs ks → AreRead (seen a c) (fs ++ hs) (gs ++ ks)
read_both a b c [] hs [] ks h k = k
read_both a b c [] hs (g ∷ gs) ks h k = absurd h
read_both a b c (f ∷ fs) hs [] ks h k = absurd h
read_both a b c (f ∷ fs) hs (g ∷ gs) ks h k = (to_end_by a b c f g h.0, read_both a b c fs hs gs ks h.1 k)

ends_behind : (a b c : DeskState) (Last : NamedFile → List FileGiven → Type 0) (fs hs : List NamedFile) (gs ks : List FileGiven) → AreRead (seen a b) fs gs
    → EndsAt (seen a c) Last hs ks → EndsAt (seen a c) Last (fs ++ hs) (gs ++ ks)
ends_behind a b c Last [] hs [] ks h k = k
ends_behind a b c Last [] hs (g ∷ gs) ks h k = absurd h
ends_behind a b c Last (f ∷ fs) hs [] ks h k = absurd h
ends_behind a b c Last (f ∷ fs) hs (g ∷ gs) ks h k = inr (to_end_by a b c f g h.0, ends_behind a b c Last fs hs gs ks h.1 k)

within_behind : (a b : DeskState) (fs hs : List NamedFile) (gs ks : List FileGiven) → AreRead (seen a b) fs gs → AreWithin hs ks → AreWithin (fs ++ hs) (gs ++ ks)
within_behind a b [] hs [] ks h k = k
within_behind a b [] hs (g ∷ gs) ks h k = absurd h
within_behind a b (f ∷ fs) hs [] ks h k = absurd h
within_behind a b (f ∷ fs) hs (g ∷ gs) ks h k = (h.0.named, h.0.within, within_behind a b fs hs gs ks h.1 k)

pub all_behind : (a b c : DeskState) (fs hs : List NamedFile) → HasSameTexts a b → IsAllRead fs (seen a b) → IsAllRead hs (seen b c) → IsAllRead (fs ++ hs) (seen a c)
all_behind a b c fs hs same h k = record {
  given = h.given ++ k.given;
  gave = gave_after a b c h.given k.given h.gave k.gave;
  read = read_both a b c fs hs h.given k.given h.read (read_since a b c hs k.given same k.read);
  no_fault = faults_after a b c h.no_fault k.no_fault;
}

fine_behind : (a b c : DeskState) (fs hs : List NamedFile) → IsAllRead fs (seen a b) → IsFine hs (seen b c) → IsFine (fs ++ hs) (seen a c)
fine_behind a b c fs hs h k = record {
  within = (h.given ++ k.within.0, gave_after a b c h.given k.within.0 h.gave k.within.1, within_behind a b fs hs h.given k.within.0 h.read k.within.2);
  no_fault = faults_after a b c h.no_fault k.no_fault;
}

pub read_behind : (a b c : DeskState) (fs hs : List NamedFile) (stop : Stop) → HasSameTexts a b → IsAllRead fs (seen a b) → HasRead hs (seen b c) stop
    → HasRead (fs ++ hs) (seen a c) stop
read_behind a b c fs hs stops.Usage same h k = fine_behind a b c fs hs h k
read_behind a b c fs hs (stops.Unreadable x) same h k = (
  h.given ++ k.0,
  gave_after a b c h.given k.0 h.gave k.1,
  ends_behind a b c (EndsFailed x) fs hs h.given k.0 h.read (ends_since a b c (EndsFailed x) hs k.0 same k.2),
)
read_behind a b c fs hs (stops.TooLong x) same h k = (
  (
    h.given ++ k.0.0,
    gave_after a b c h.given k.0.0 h.gave k.0.1,
    ends_behind a b c (EndsPast x) fs hs h.given k.0.0 h.read (ends_since a b c (EndsPast x) hs k.0.0 same k.0.2),
  ),
  faults_after a b c h.no_fault k.1,
)
read_behind a b c fs hs (stops.TooLarge m) same h k = fine_behind a b c fs hs h k
read_behind a b c fs hs (stops.BadCircuit at kind) same h k = fine_behind a b c fs hs h k
read_behind a b c fs hs (stops.BadSignals line kind) same h k = fine_behind a b c fs hs h k
read_behind a b c fs hs (stops.Refused why) same h k = fine_behind a b c fs hs h k
read_behind a b c fs hs stops.CannotWrite same h k = all_behind a b c fs hs same h k
read_behind a b c fs hs stops.OutOfMemory same h k = fine_behind a b c fs hs h k
