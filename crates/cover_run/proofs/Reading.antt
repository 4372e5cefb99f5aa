-- How the files of a command are read.
use Rattle.std.proofs.Common.{◌≡◌, ℕ, ◌+◌, ◌-◌, ◌^◌, ◌<◌, ◌≤◌, false, List, [], ◌∷◌, ◌++◌, length, Option, Some, IfSome, inl, inr, refl, sym, ap, ◌∙◌, subst, arith, append_assoc}
use Rattle.std.specs.Prelude.{IsSomeAnd, ◌≢◌, min}
use Rattle.std.proofs.lemmas.List.{append-nil}
use Rattle.run_io.specs.Desk.{DeskState, FileGiven, HasSameTexts, HasSameFaults, CountsFaults, files_started}
use Rattle.cnf_base.specs.Dimacs.{IsFirstFault as IsFirstInFormula}
use Rattle.cnf_base.specs.declared.fault.DimacsKind.{DimacsKind}
use Rattle.cnf_base.specs.declared.fault.DimacsKind.TheVariants as dimacs
use Rattle.command_words.specs.declared.stop.File.{File}
use Rattle.command_words.specs.declared.stop.File.TheVariants as files
use Rattle.command_words.specs.declared.stop.Measure.TheVariants as measures
use Rattle.command_words.specs.declared.stop.Refusal.TheVariants as refusals
use Rattle.command_words.specs.declared.stop.Stop.{Stop}
use Rattle.command_words.specs.declared.stop.Stop.TheVariants as stops
use Rattle.cover_run.specs.Answer.{EarlyCause, IsReached}
use Rattle.cover_run.specs.Checking.{HasFormulaFault}
use Rattle.aig_model.specs.declared.parts.Parts.{Parts}
use Rattle.signal_list.specs.SignalText.{IsFirstFault as IsFirstInSignals}
use Rattle.cover_run.specs.CircuitText.{IsFirstFault as IsFirstInCircuit}
use Rattle.cover_run.specs.Covering.{HasCircuit, HasSomeCircuit}
use Rattle.command_words.specs.Limits.{limit_of}
use Rattle.cover_run.specs.Files.{NamedFile, name_of, AreWithin, IsReadToEnd, AreRead, EndsAt, EndsFailed, EndsPast, IsWithin, IsFine, IsAllRead, HasRead, IsTooLong}
use Rattle.cover_run.specs.Seen.{DeskSeen, seen, HasText, HasFaulted, Gave}
use Rattle.cover_run.specs.Steps.{IsPartRead, PartCause, SubjectCause, FormulaCause, CircuitCause, SignalsCause}
use Rattle.command_words.specs.Stops.{is_of_devices}
use Rattle.command_words.specs.Words.{Subject, CoverCall, ReplayCall, LratCall, Meaning, Usage, Cover, Goals, Replay, Lrat}
use Rattle.cover_run.proofs.Opening.{within_none}

-- ---- what was given, file after file
within_more : (f : NamedFile) (fs : List NamedFile) (gs : List FileGiven) → AreWithin (f ∷ []) gs → AreWithin (f ∷ fs) gs
within_more f fs [] h = within_none (f ∷ fs)
within_more f fs (g ∷ []) h = (h.0, h.1, within_none fs)
within_more f fs (g ∷ k ∷ gs) h = absurd h.2

-- what is true at the end of one file alone, is true with others that weren't started
ends_more : (d : DeskSeen) (Last : NamedFile → List FileGiven → Type 0) (f : NamedFile) (fs : List NamedFile) (gs : List FileGiven)
    → EndsAt d Last (f ∷ []) gs → EndsAt d Last (f ∷ fs) gs
ends_more d Last f fs [] h = h
ends_more d Last f fs (g ∷ gs) (inl here) = inl here
ends_more d Last f fs (g ∷ gs) (inr later) = absurd later.1

-- no text changes, so what was read to its end later was read to the end of the text told before
to_end_since : (a b c : DeskState) (f : NamedFile) (g : FileGiven) → HasSameTexts a b → IsReadToEnd (seen b c) f g → IsReadToEnd (seen a c) f g
to_end_since a b c f g same h = record {
  named = h.named;
  within = h.within;
  end = subst (λ (o : Option (List ℕ)). IfSome o (λ t. g.1 ≡ length t)) (same f.1) h.end;
}

pub to_end_by : (a b c : DeskState) (f : NamedFile) (g : FileGiven) → IsReadToEnd (seen a b) f g → IsReadToEnd (seen a c) f g
to_end_by a b c f g h = record { named = h.named; within = h.within; end = h.end }

pub read_since : (a b c : DeskState) (fs : List NamedFile) (gs : List FileGiven) → HasSameTexts a b → AreRead (seen b c) fs gs → AreRead (seen a c) fs gs
read_since a b c [] [] same h = tt
read_since a b c [] (g ∷ gs) same h = absurd h
read_since a b c (f ∷ fs) [] same h = absurd h
read_since a b c (f ∷ fs) (g ∷ gs) same h = (to_end_since a b c f g same h.0, read_since a b c fs gs same h.1)

pub ends_since : (a b c : DeskState) (Last : NamedFile → List FileGiven → Type 0) (fs : List NamedFile) (gs : List FileGiven) → HasSameTexts a b
    → EndsAt (seen b c) Last fs gs → EndsAt (seen a c) Last fs gs
ends_since a b c Last [] gs same h = absurd h
ends_since a b c Last (f ∷ fs) [] same h = h
ends_since a b c Last (f ∷ fs) (g ∷ gs) same (inl here) = inl here
ends_since a b c Last (f ∷ fs) (g ∷ gs) same (inr later) = inr (to_end_since a b c f g same later.0, ends_since a b c Last fs gs same later.1)

pub gave_after : (a b c : DeskState) (xs ys : List FileGiven) → Gave (seen a b) xs → Gave (seen b c) ys → Gave (seen a c) (xs ++ ys)
gave_after a b c xs ys first then_ = then_ ∙ (ap (λ (zs : List FileGiven). zs ++ ys) first ∙ append_assoc (files_started a) xs ys)

pub faults_after : (a b c : DeskState) → HasSameFaults a b → HasSameFaults b c → HasSameFaults a c
faults_after a b c first then_ name = then_ name ∙ first name

-- one file was read
pub fine_first : (a b : DeskState) (f : File) (name : List ℕ) (fs : List NamedFile) → IsPartRead (seen a b) f name → IsFine ((f, name) ∷ fs) (seen a b)
fine_first a b f name fs read =
    record { within = ((name, read.given) ∷ [], read.gave, (refl, read.read.within, within_none fs)); no_fault = read.no_fault }

within_after : (a b c : DeskState) (f : File) (name : List ℕ) (fs : List NamedFile) → IsPartRead (seen a b) f name → IsWithin fs (seen b c)
    → IsWithin ((f, name) ∷ fs) (seen a c)
within_after a b c f name fs read more = (
  (name, read.given) ∷ more.0,
  gave_after a b c ((name, read.given) ∷ []) more.0 read.gave more.1,
  (refl, read.read.within, more.2),
)

-- one file was read, and then the others
pub fine_after : (a b c : DeskState) (f : File) (name : List ℕ) (fs : List NamedFile) → IsPartRead (seen a b) f name → IsFine fs (seen b c)
    → IsFine ((f, name) ∷ fs) (seen a c)
fine_after a b c f name fs read more = record {
  within = within_after a b c f name fs read more.within;
  no_fault = faults_after a b c read.no_fault more.no_fault;
}

-- one file was read to its end, and then the others
pub all_none : (a : DeskState) → IsAllRead [] (seen a a)
all_none a = record { given = []; gave = sym (append-nil (files_started a)); read = tt; no_fault = λ name. refl }

pub all_one : (a b : DeskState) (f : File) (name : List ℕ) → IsPartRead (seen a b) f name → IsAllRead ((f, name) ∷ []) (seen a b)
all_one a b f name read = record {
  given = (name, read.given) ∷ [];
  gave = read.gave;
  read = (to_end_by a b b (f, name) (name, read.given) read.read, tt);
  no_fault = read.no_fault;
}

pub all_after : (a b c : DeskState) (f : File) (name : List ℕ) (fs : List NamedFile) → HasSameTexts a b → IsPartRead (seen a b) f name → IsAllRead fs (seen b c)
    → IsAllRead ((f, name) ∷ fs) (seen a c)
all_after a b c f name fs same read more = record {
  given = (name, read.given) ∷ more.given;
  gave = gave_after a b c ((name, read.given) ∷ []) more.given read.gave more.gave;
  read = (to_end_by a b c (f, name) (name, read.given) read.read, read_since a b c fs more.given same more.read);
  no_fault = faults_after a b c read.no_fault more.no_fault;
}

ends_after : (a b c : DeskState) (Last : NamedFile → List FileGiven → Type 0) (f : File) (name : List ℕ) (fs : List NamedFile) (gs : List FileGiven) → HasSameTexts a b
    → (read : IsPartRead (seen a b) f name) → EndsAt (seen b c) Last fs gs → EndsAt (seen a c) Last ((f, name) ∷ fs) ((name, read.given) ∷ gs)
ends_after a b c Last f name fs gs same read h = inr (to_end_by a b c (f, name) (name, read.given) read.read, ends_since a b c Last fs gs same h)

-- one file was read, and then the others as far as this stop
pub read_after : (a b c : DeskState) (f : File) (name : List ℕ) (fs : List NamedFile) (stop : Stop) → HasSameTexts a b → IsPartRead (seen a b) f name
    → HasRead fs (seen b c) stop → HasRead ((f, name) ∷ fs) (seen a c) stop
read_after a b c f name fs stops.Usage same read more = fine_after a b c f name fs read more
read_after a b c f name fs (stops.Unreadable h) same read more = (
  (name, read.given) ∷ more.0,
  gave_after a b c ((name, read.given) ∷ []) more.0 read.gave more.1,
  ends_after a b c (EndsFailed h) f name fs more.0 same read more.2,
)
read_after a b c f name fs (stops.TooLong h) same read more = (
  (
    (name, read.given) ∷ more.0.0,
    gave_after a b c ((name, read.given) ∷ []) more.0.0 read.gave more.0.1,
    ends_after a b c (EndsPast h) f name fs more.0.0 same read more.0.2,
  ),
  faults_after a b c read.no_fault more.1,
)
read_after a b c f name fs (stops.TooLarge m) same read more = fine_after a b c f name fs read more
read_after a b c f name fs (stops.BadCircuit at kind) same read more = fine_after a b c f name fs read more
read_after a b c f name fs (stops.BadSignals line kind) same read more = fine_after a b c f name fs read more
read_after a b c f name fs (stops.Refused why) same read more = fine_after a b c f name fs read more
read_after a b c f name fs stops.CannotWrite same read more = all_after a b c f name fs same read more
read_after a b c f name fs stops.OutOfMemory same read more = fine_after a b c f name fs read more

fine_more : (d : DeskSeen) (f : NamedFile) (fs : List NamedFile) → IsFine (f ∷ []) d → IsFine (f ∷ fs) d
fine_more d f fs h = record { within = (h.within.0, h.within.1, within_more f fs h.within.0 h.within.2); no_fault = h.no_fault }

-- the first file isn't read, so the others aren't started
pub read_more : (d : DeskSeen) (f : NamedFile) (fs : List NamedFile) (stop : Stop) → PartCause d f.0 f.1 stop → HasRead (f ∷ []) d stop → HasRead (f ∷ fs) d stop
read_more d f fs stops.Usage cause h = fine_more d f fs h
read_more d f fs (stops.Unreadable x) cause h = (h.0, h.1, ends_more d (EndsFailed x) f fs h.0 h.2)
read_more d f fs (stops.TooLong x) cause h = ((h.0.0, h.0.1, ends_more d (EndsPast x) f fs h.0.0 h.0.2), h.1)
read_more d f fs (stops.TooLarge m) cause h = fine_more d f fs h
read_more d f fs (stops.BadCircuit at kind) cause h = fine_more d f fs h
read_more d f fs (stops.BadSignals line kind) cause h = fine_more d f fs h
read_more d f fs (stops.Refused why) cause h = fine_more d f fs h
read_more d f fs stops.CannotWrite cause h = absurd cause
read_more d f fs stops.OutOfMemory cause h = fine_more d f fs h

-- what was read is the cause
pub read_then : (fs : List NamedFile) (d : DeskSeen) (stop : Stop) → is_of_devices stop ≡ false → IsFine fs d → HasRead fs d stop
read_then fs d stops.Usage e h = h
read_then fs d (stops.Unreadable f) e h = absurd cc
read_then fs d (stops.TooLong f) e h = absurd cc
read_then fs d (stops.TooLarge m) e h = h
read_then fs d (stops.BadCircuit at kind) e h = h
read_then fs d (stops.BadSignals line kind) e h = h
read_then fs d (stops.Refused why) e h = h
read_then fs d stops.CannotWrite e h = absurd cc
read_then fs d stops.OutOfMemory e h = h

-- ---- one file isn't read
-- what was counted later was counted
still_faulted : (a b c : DeskState) (n : List ℕ) → CountsFaults a b → HasFaulted (seen b c) n → HasFaulted (seen a c) n
still_faulted a b c n counts rose =
    let later : min (b.faults n + 1) (2 ^ 64 - 1) ≤ c.faults n = rose in
    let grown : a.faults n ≤ b.faults n = (counts n).0 in
    let earlier : min (a.faults n + 1) (2 ^ 64 - 1) ≤ c.faults n = omega arith in
    earlier

pub still_long : (a b c : DeskState) (f : File) (n : List ℕ) → HasSameTexts a b → IsTooLong (seen b c) f n → IsTooLong (seen a c) f n
still_long a b c f n same long = subst (λ (o : Option (List ℕ)). IfSome o (λ t. limit_of f < length t)) (same n) long

-- after a file that was read
pub part_after : (a b c : DeskState) (f : File) (n : List ℕ) (stop : Stop) → HasSameTexts a b → CountsFaults a b → PartCause (seen b c) f n stop → PartCause (seen a c) f n stop
part_after a b c f n stops.Usage same counts cause = cause
part_after a b c f n (stops.Unreadable h) same counts cause = (cause.0, still_faulted a b c n counts cause.1)
part_after a b c f n (stops.TooLong h) same counts cause = (cause.0, still_long a b c f n same cause.1)
part_after a b c f n (stops.TooLarge m) same counts cause = cause
part_after a b c f n (stops.BadCircuit at kind) same counts cause = cause
part_after a b c f n (stops.BadSignals line kind) same counts cause = cause
part_after a b c f n (stops.Refused why) same counts cause = cause
part_after a b c f n stops.CannotWrite same counts cause = cause
part_after a b c f n stops.OutOfMemory same counts cause = cause

pub part_unread : (command : Meaning) (d : DeskSeen) (f : File) (n : List ℕ) (stop : Stop) → (command ≢ Usage) → name_of command f ≡ Some n → IsReached command d f
    → PartCause d f n stop → EarlyCause command d stop
part_unread command d f n stops.Usage called named reached cause = absurd cause
part_unread command d f n (stops.Unreadable h) called named reached cause =
    subst (λ (x : File). IsReached command d x × IsSomeAnd (name_of command x) (HasFaulted d)) (sym cause.0)
    (reached, subst (λ (o : Option (List ℕ)). IsSomeAnd o (HasFaulted d)) (sym named) cause.1)
part_unread command d f n (stops.TooLong h) called named reached cause =
    subst (λ (x : File). IsReached command d x × IsSomeAnd (name_of command x) (IsTooLong d x)) (sym cause.0)
    (reached, subst (λ (o : Option (List ℕ)). IsSomeAnd o (IsTooLong d f)) (sym named) cause.1)
part_unread command d f n (stops.TooLarge m) called named reached cause = absurd cause
part_unread command d f n (stops.BadCircuit at kind) called named reached cause = absurd cause
part_unread command d f n (stops.BadSignals line kind) called named reached cause = absurd cause
part_unread command d f n (stops.Refused why) called named reached cause = absurd cause
part_unread command d f n stops.CannotWrite called named reached cause = absurd cause
part_unread command d f n stops.OutOfMemory called named reached cause = called

pub circuit_unread : (s : Subject) (d : DeskSeen) (stop : Stop) → PartCause d files.Circuit s.circuit stop → SubjectCause s d stop
circuit_unread s d stops.Usage cause = absurd cause
circuit_unread s d (stops.Unreadable h) cause = subst (λ (x : File). SubjectCause s d (stops.Unreadable x)) (sym cause.0) cause.1
circuit_unread s d (stops.TooLong h) cause = subst (λ (x : File). SubjectCause s d (stops.TooLong x)) (sym cause.0) cause.1
circuit_unread s d (stops.TooLarge m) cause = absurd cause
circuit_unread s d (stops.BadCircuit at kind) cause = absurd cause
circuit_unread s d (stops.BadSignals line kind) cause = absurd cause
circuit_unread s d (stops.Refused why) cause = absurd cause
circuit_unread s d stops.CannotWrite cause = absurd cause
circuit_unread s d stops.OutOfMemory cause = tt

pub signals_unread : (s : Subject) (d : DeskSeen) (stop : Stop) → HasSomeCircuit s d → PartCause d files.Signals s.signals stop → SubjectCause s d stop
signals_unread s d stops.Usage has cause = absurd cause
signals_unread s d (stops.Unreadable h) has cause = subst (λ (x : File). SubjectCause s d (stops.Unreadable x)) (sym cause.0) (has, cause.1)
signals_unread s d (stops.TooLong h) has cause = subst (λ (x : File). SubjectCause s d (stops.TooLong x)) (sym cause.0) (has, cause.1)
signals_unread s d (stops.TooLarge m) has cause = absurd cause
signals_unread s d (stops.BadCircuit at kind) has cause = absurd cause
signals_unread s d (stops.BadSignals line kind) has cause = absurd cause
signals_unread s d (stops.Refused why) has cause = absurd cause
signals_unread s d stops.CannotWrite has cause = absurd cause
signals_unread s d stops.OutOfMemory has cause = tt

-- ---- what is known of the bytes of a file is known of its text
formula_fault : (d : DeskSeen) (name bytes read : List ℕ) (line : ℕ) (kind : DimacsKind) → read ≡ bytes → length bytes ≤ limit_of files.Formula
    → IfSome (d.old.text name) (λ t. bytes ≡ t) → IsFirstInFormula read line kind → HasText d name (HasFormulaFault line kind)
formula_fault d name bytes read line kind is short told first =
    record { text = bytes; told = told; has = record { short = short; first = subst (λ (xs : List ℕ). IsFirstInFormula xs line kind) is first } }

pub formula_refused : (call : LratCall) (d : DeskSeen) (bytes read : List ℕ) (stop : Stop) → read ≡ bytes → length bytes ≤ limit_of files.Formula
    → IfSome (d.old.text call.formula) (λ t. bytes ≡ t) → FormulaCause read stop → EarlyCause (Lrat call) d stop
formula_refused call d bytes read stops.Usage is short told cause = absurd cause
formula_refused call d bytes read (stops.Unreadable f) is short told cause = absurd cause
formula_refused call d bytes read (stops.TooLong f) is short told cause = absurd cause
formula_refused call d bytes read (stops.TooLarge measures.Formula) is short told cause = (cause.0, formula_fault d call.formula bytes read cause.0 dimacs.Limit is short told cause.1)
formula_refused call d bytes read (stops.TooLarge measures.Frames) is short told cause = absurd cause
formula_refused call d bytes read (stops.TooLarge measures.Walk) is short told cause = absurd cause
formula_refused call d bytes read (stops.TooLarge measures.Goals) is short told cause = absurd cause
formula_refused call d bytes read (stops.BadCircuit at kind) is short told cause = absurd cause
formula_refused call d bytes read (stops.BadSignals line kind) is short told cause = absurd cause
formula_refused call d bytes read (stops.Refused (refusals.Formula line kind)) is short told cause = (cause.0, formula_fault d call.formula bytes read line kind is short told cause.1)
formula_refused call d bytes read (stops.Refused (refusals.Proof line kind)) is short told cause = absurd cause
formula_refused call d bytes read (stops.Refused (refusals.Step step kind)) is short told cause = absurd cause
formula_refused call d bytes read (stops.Refused (refusals.Witness at kind)) is short told cause = absurd cause
formula_refused call d bytes read (stops.Refused (refusals.Trace misfit)) is short told cause = absurd cause
formula_refused call d bytes read stops.CannotWrite is short told cause = absurd cause
formula_refused call d bytes read stops.OutOfMemory is short told cause = λ e. cc

pub circuit_refused : (s : Subject) (d : DeskSeen) (bytes read : List ℕ) (stop : Stop) → read ≡ bytes → length bytes ≤ limit_of files.Circuit → IfSome (d.old.text s.circuit) (λ t. bytes ≡ t) → CircuitCause read stop
    → SubjectCause s d stop
circuit_refused s d bytes read stops.Usage is short told cause = absurd cause
circuit_refused s d bytes read (stops.Unreadable f) is short told cause = absurd cause
circuit_refused s d bytes read (stops.TooLong f) is short told cause = absurd cause
circuit_refused s d bytes read (stops.TooLarge m) is short told cause = absurd cause
circuit_refused s d bytes read (stops.BadCircuit at kind) is short told cause =
    record { text = bytes; told = told; has = record { short = short; first = subst (λ (xs : List ℕ). IsFirstInCircuit xs at kind) is cause } }
circuit_refused s d bytes read (stops.BadSignals line kind) is short told cause = absurd cause
circuit_refused s d bytes read (stops.Refused why) is short told cause = absurd cause
circuit_refused s d bytes read stops.CannotWrite is short told cause = absurd cause
circuit_refused s d bytes read stops.OutOfMemory is short told cause = tt

pub signals_refused : (s : Subject) (d : DeskSeen) (c : Parts) (bytes read : List ℕ) (stop : Stop) → read ≡ bytes → length bytes ≤ limit_of files.Signals → HasCircuit s d c
    → IfSome (d.old.text s.signals) (λ t. bytes ≡ t) → SignalsCause c read stop → SubjectCause s d stop
signals_refused s d c bytes read stops.Usage is short has told cause = absurd cause
signals_refused s d c bytes read (stops.Unreadable f) is short has told cause = absurd cause
signals_refused s d c bytes read (stops.TooLong f) is short has told cause = absurd cause
signals_refused s d c bytes read (stops.TooLarge m) is short has told cause = absurd cause
signals_refused s d c bytes read (stops.BadCircuit at kind) is short has told cause = absurd cause
signals_refused s d c bytes read (stops.BadSignals line kind) is short has told cause = (
  c,
  has,
  record { text = bytes; told = told; has = record { short = short; first = subst (λ (xs : List ℕ). IsFirstInSignals c xs line kind) is cause } },
)
signals_refused s d c bytes read (stops.Refused why) is short has told cause = absurd cause
signals_refused s d c bytes read stops.CannotWrite is short has told cause = absurd cause
signals_refused s d c bytes read stops.OutOfMemory is short has told cause = tt

-- ---- a circuit and signals that aren't read stop the command that names them
pub subject_stops_cover : (call : CoverCall) (d : DeskSeen) (stop : Stop) → SubjectCause call.subject d stop → EarlyCause (Cover call) d stop
subject_stops_cover call d stops.Usage cause = absurd cause
subject_stops_cover call d (stops.Unreadable files.Circuit) cause = (tt, cause)
subject_stops_cover call d (stops.Unreadable files.Signals) cause = cause
subject_stops_cover call d (stops.Unreadable files.Formula) cause = absurd cause
subject_stops_cover call d (stops.Unreadable files.Proof) cause = absurd cause
subject_stops_cover call d (stops.Unreadable files.Witness) cause = absurd cause
subject_stops_cover call d (stops.TooLong files.Circuit) cause = (tt, cause)
subject_stops_cover call d (stops.TooLong files.Signals) cause = cause
subject_stops_cover call d (stops.TooLong files.Formula) cause = absurd cause
subject_stops_cover call d (stops.TooLong files.Proof) cause = absurd cause
subject_stops_cover call d (stops.TooLong files.Witness) cause = absurd cause
subject_stops_cover call d (stops.TooLarge m) cause = absurd cause
subject_stops_cover call d (stops.BadCircuit at kind) cause = cause
subject_stops_cover call d (stops.BadSignals line kind) cause = cause
subject_stops_cover call d (stops.Refused why) cause = absurd cause
subject_stops_cover call d stops.CannotWrite cause = absurd cause
subject_stops_cover call d stops.OutOfMemory cause = λ e. cc

pub subject_stops_goals : (s : Subject) (d : DeskSeen) (stop : Stop) → SubjectCause s d stop → EarlyCause (Goals s) d stop
subject_stops_goals s d stops.Usage cause = absurd cause
subject_stops_goals s d (stops.Unreadable files.Circuit) cause = (tt, cause)
subject_stops_goals s d (stops.Unreadable files.Signals) cause = cause
subject_stops_goals s d (stops.Unreadable files.Formula) cause = absurd cause
subject_stops_goals s d (stops.Unreadable files.Proof) cause = absurd cause
subject_stops_goals s d (stops.Unreadable files.Witness) cause = absurd cause
subject_stops_goals s d (stops.TooLong files.Circuit) cause = (tt, cause)
subject_stops_goals s d (stops.TooLong files.Signals) cause = cause
subject_stops_goals s d (stops.TooLong files.Formula) cause = absurd cause
subject_stops_goals s d (stops.TooLong files.Proof) cause = absurd cause
subject_stops_goals s d (stops.TooLong files.Witness) cause = absurd cause
subject_stops_goals s d (stops.TooLarge m) cause = absurd cause
subject_stops_goals s d (stops.BadCircuit at kind) cause = cause
subject_stops_goals s d (stops.BadSignals line kind) cause = cause
subject_stops_goals s d (stops.Refused why) cause = absurd cause
subject_stops_goals s d stops.CannotWrite cause = absurd cause
subject_stops_goals s d stops.OutOfMemory cause = λ e. cc

pub subject_stops_replay : (call : ReplayCall) (d : DeskSeen) (stop : Stop) → SubjectCause call.subject d stop → EarlyCause (Replay call) d stop
subject_stops_replay call d stops.Usage cause = absurd cause
subject_stops_replay call d (stops.Unreadable files.Circuit) cause = (tt, cause)
subject_stops_replay call d (stops.Unreadable files.Signals) cause = cause
subject_stops_replay call d (stops.Unreadable files.Formula) cause = absurd cause
subject_stops_replay call d (stops.Unreadable files.Proof) cause = absurd cause
subject_stops_replay call d (stops.Unreadable files.Witness) cause = absurd cause
subject_stops_replay call d (stops.TooLong files.Circuit) cause = (tt, cause)
subject_stops_replay call d (stops.TooLong files.Signals) cause = cause
subject_stops_replay call d (stops.TooLong files.Formula) cause = absurd cause
subject_stops_replay call d (stops.TooLong files.Proof) cause = absurd cause
subject_stops_replay call d (stops.TooLong files.Witness) cause = absurd cause
subject_stops_replay call d (stops.TooLarge m) cause = absurd cause
subject_stops_replay call d (stops.BadCircuit at kind) cause = cause
subject_stops_replay call d (stops.BadSignals line kind) cause = cause
subject_stops_replay call d (stops.Refused why) cause = absurd cause
subject_stops_replay call d stops.CannotWrite cause = absurd cause
subject_stops_replay call d stops.OutOfMemory cause = λ e. cc
