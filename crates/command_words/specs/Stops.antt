-- What the user sees of a stop: the status, and the line on the error stream.
use Rattle.std.specs.Prelude.{ℕ, Bool, true, false, if◌then◌else◌, List, ◌++◌, codes, decimal}
use Rattle.aig_ascii.specs.declared.fault.AagKind.{AagKind}
use Rattle.aig_ascii.specs.declared.fault.AagKind.TheVariants as aag
use Rattle.aig_binary.specs.declared.fault.AigKind.{AigKind}
use Rattle.aig_binary.specs.declared.fault.AigKind.TheVariants as aig
use Rattle.signal_list.specs.declared.fault.SigKind.{SigKind}
use Rattle.signal_list.specs.declared.fault.SigKind.TheVariants as sig
use Rattle.cnf_base.specs.declared.fault.DimacsKind.{DimacsKind}
use Rattle.cnf_base.specs.declared.fault.DimacsKind.TheVariants as dimacs
use Rattle.lrat_text.specs.declared.fault.LratKind.{LratKind}
use Rattle.lrat_text.specs.declared.fault.LratKind.TheVariants as lrat
use Rattle.lrat_check.specs.declared.fault.ProofKind.{ProofKind}
use Rattle.lrat_check.specs.declared.fault.ProofKind.TheVariants as proof
use Rattle.wit_text.specs.declared.fault.WitKind.{WitKind}
use Rattle.wit_text.specs.declared.fault.WitKind.TheVariants as wit
use Rattle.command_words.specs.declared.stop.CircuitKind.{CircuitKind}
use Rattle.command_words.specs.declared.stop.CircuitKind.TheVariants as kinds
use Rattle.command_words.specs.declared.stop.File.{File}
use Rattle.command_words.specs.declared.stop.File.TheVariants as files
use Rattle.command_words.specs.declared.stop.Measure.{Measure}
use Rattle.command_words.specs.declared.stop.Measure.TheVariants as measures
use Rattle.command_words.specs.declared.stop.Misfit.{Misfit}
use Rattle.command_words.specs.declared.stop.Misfit.TheVariants as misfits
use Rattle.command_words.specs.declared.stop.Refusal.{Refusal}
use Rattle.command_words.specs.declared.stop.Refusal.TheVariants as refusals
use Rattle.command_words.specs.declared.stop.Stop.{Stop}
use Rattle.command_words.specs.declared.stop.Stop.TheVariants as stops
use Rattle.command_words.specs.declared.stop.Status.{Status}
use Rattle.command_words.specs.declared.stop.Status.TheVariants as statuses

abbrev pub status_of : Stop → Status
status_of stops.Usage = statuses.Usage
status_of (stops.Unreadable f) = statuses.ReadFault
status_of (stops.TooLong f) = statuses.Limit
status_of (stops.TooLarge m) = statuses.Limit
status_of (stops.BadCircuit at kind) = statuses.BadCircuit
status_of (stops.BadSignals line kind) = statuses.BadSignals
status_of (stops.Refused why) = statuses.Refused
status_of stops.CannotWrite = statuses.WriteFault
status_of stops.OutOfMemory = statuses.OutOfMemory

abbrev pub settled_status : Bool → Status
settled_status settled = if settled then statuses.Settled else statuses.Open

-- a stop after which something of the output may stand
abbrev pub is_late : Stop → Bool
is_late stops.CannotWrite = true
is_late stop = false

-- a stop while a file is read or the output is written, as opposed to one that what was read, or what it asks for, is the cause of
abbrev pub is_of_devices : Stop → Bool
is_of_devices (stops.Unreadable f) = true
is_of_devices (stops.TooLong f) = true
is_of_devices stops.CannotWrite = true
is_of_devices stop = false

-- ---- words of the lines
abbrev pub file_word : File → List ℕ
file_word files.Circuit = codes "circuit"
file_word files.Signals = codes "signals"
file_word files.Formula = codes "formula"
file_word files.Proof = codes "proof"
file_word files.Witness = codes "witness"

abbrev pub measure_word : Measure → List ℕ
measure_word measures.Formula = codes "formula"
measure_word measures.Frames = codes "frames"
measure_word measures.Walk = codes "walk"
measure_word measures.Goals = codes "goals"

-- the names of the kinds of fault
abbrev pub aag_word : AagKind → List ℕ
aag_word aag.Header = codes "Header"
aag_word aag.Number = codes "Number"
aag_word aag.Range = codes "Range"
aag_word aag.Defined = codes "Defined"
aag_word aag.Undefined = codes "Undefined"
aag_word aag.Cycle = codes "Cycle"
aag_word aag.Reset = codes "Reset"
aag_word aag.Symbol = codes "Symbol"
aag_word aag.Truncated = codes "Truncated"
aag_word aag.Liveness = codes "Liveness"
aag_word aag.Limit = codes "Limit"

abbrev pub aig_word : AigKind → List ℕ
aig_word aig.Header = codes "Header"
aig_word aig.Number = codes "Number"
aig_word aig.Range = codes "Range"
aig_word aig.Reset = codes "Reset"
aig_word aig.Symbol = codes "Symbol"
aig_word aig.Truncated = codes "Truncated"
aig_word aig.Liveness = codes "Liveness"
aig_word aig.Limit = codes "Limit"
aig_word aig.Delta = codes "Delta"

abbrev pub circuit_word : CircuitKind → List ℕ
circuit_word (kinds.Ascii kind) = aag_word kind
circuit_word (kinds.Binary kind) = aig_word kind

abbrev pub sig_word : SigKind → List ℕ
sig_word sig.Form = codes "Form"
sig_word sig.Range = codes "Range"
sig_word sig.NoName = codes "NoName"
sig_word sig.TwoNames = codes "TwoNames"
sig_word sig.Repeated = codes "Repeated"
sig_word sig.TooMany = codes "TooMany"
sig_word sig.Empty = codes "Empty"

abbrev pub dimacs_word : DimacsKind → List ℕ
dimacs_word dimacs.Header = codes "Header"
dimacs_word dimacs.Literal = codes "Literal"
dimacs_word dimacs.Count = codes "Count"
dimacs_word dimacs.Truncated = codes "Truncated"
dimacs_word dimacs.Limit = codes "Limit"

abbrev pub lrat_word : LratKind → List ℕ
lrat_word lrat.Number = codes "Number"
lrat_word lrat.Form = codes "Form"
lrat_word lrat.Truncated = codes "Truncated"

abbrev pub wit_word : WitKind → List ℕ
wit_word wit.Status = codes "Status"
wit_word wit.Property = codes "Property"
wit_word wit.Length = codes "Length"
wit_word wit.NoRows = codes "NoRows"
wit_word wit.Truncated = codes "Truncated"

abbrev pub misfit_words : Misfit → List ℕ
misfit_words (misfits.NotReset latch) = codes "NotReset " ++ decimal latch
misfit_words (misfits.Constraint step) = codes "Constraint " ++ decimal step
misfit_words misfits.Property = codes "Property"

abbrev pub proof_words : ProofKind → List ℕ
proof_words proof.OldId = codes "OldId"
proof_words (proof.UnknownId id) = codes "UnknownId " ++ decimal id
proof_words (proof.NotUnit hint) = codes "NotUnit " ++ decimal hint
proof_words proof.NoConflict = codes "NoConflict"
proof_words proof.NegativeHint = codes "NegativeHint"
proof_words proof.NoEmpty = codes "NoEmpty"

-- ---- lines
-- a text, and a word
abbrev pub word_line : List ℕ → List ℕ → List ℕ
word_line text word = text ++ word ++ codes "\n"

-- a place, and what is wrong there
abbrev pub placed_text : List ℕ → ℕ → List ℕ
placed_text text place = text ++ decimal place ++ codes ": "

abbrev pub placed_line : List ℕ → ℕ → List ℕ → List ℕ
placed_line text place kind = placed_text text place ++ kind ++ codes "\n"

abbrev pub refusal_line : Refusal → List ℕ
refusal_line (refusals.Formula line kind) = placed_line (codes "ketch: refused: formula line ") line (dimacs_word kind)
refusal_line (refusals.Proof line kind) = placed_line (codes "ketch: refused: proof line ") line (lrat_word kind)
refusal_line (refusals.Step step kind) = placed_line (codes "ketch: refused: step ") step (proof_words kind)
refusal_line (refusals.Witness at kind) = placed_line (codes "ketch: refused: witness at ") at (wit_word kind)
refusal_line (refusals.Trace misfit) = word_line (codes "ketch: refused: trace: ") (misfit_words misfit)

abbrev pub line_of : Stop → List ℕ
line_of stops.Usage = codes "ketch: usage: ketch cover|check|goals|replay|lrat|make ..\n"
line_of (stops.Unreadable f) = word_line (codes "ketch: cannot read ") (file_word f)
line_of (stops.TooLong f) = word_line (codes "ketch: limit: ") (file_word f)
line_of (stops.TooLarge m) = word_line (codes "ketch: limit: ") (measure_word m)
line_of (stops.BadCircuit at kind) = placed_line (codes "ketch: circuit at ") at (circuit_word kind)
line_of (stops.BadSignals line kind) = placed_line (codes "ketch: signals line ") line (sig_word kind)
line_of (stops.Refused why) = refusal_line why
line_of stops.CannotWrite = codes "ketch: cannot write\n"
line_of stops.OutOfMemory = codes "ketch: out of memory\n"
