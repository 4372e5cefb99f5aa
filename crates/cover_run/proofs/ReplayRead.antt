-- What is known of a witness that was read, and why a replay command stops once its files were read.
use Rattle.std.proofs.Common.{◌≡◌, ℕ, suc, ◌^◌, ◌<◌, ◌≤◌, Bool, List, [], ◌∷◌, length, IfSome, refl, ap, ◌∙◌, subst, arith, length-append}
use Rattle.std.specs.Prelude.{codes}
use Rattle.std.specs.List.{AllZip}
use Rattle.text_words.specs.Lines.{lines}
use Rattle.aig_model.specs.declared.parts.Parts.{Parts}
use Rattle.aig_eval.specs.Replay.{HasShape}
use Rattle.wit_text.specs.WitnessText.{SpellsBit, SpellsBits, SpellsWitness, IsFirstFault as IsFirstInWitness}
use Rattle.wit_text.specs.declared.witness.Witness.{Witness}
use Rattle.command_words.specs.declared.stop.File.TheVariants as files
use Rattle.command_words.specs.declared.stop.Refusal.TheVariants as refusals
use Rattle.command_words.specs.declared.stop.Stop.{Stop}
use Rattle.command_words.specs.declared.stop.Stop.TheVariants as stops
use Rattle.cover_run.specs.Answer.{EarlyCause}
use Rattle.cover_run.specs.Covering.{HasCircuit, HasSignals}
use Rattle.command_words.specs.Limits.{limit_of}
use Rattle.cover_run.specs.Replaying.{HasWitness}
use Rattle.cover_run.specs.Seen.{DeskSeen}
use Rattle.cover_run.specs.Steps.{WitnessCause, MisfitCause}
use Rattle.command_words.specs.Words.{ReplayCall, Replay}

-- each step is a line
rows_many : (inputs : ℕ) (steps : List (List ℕ)) (rows : List (List Bool)) → AllZip (SpellsBits inputs) steps rows → length steps ≡ length rows
rows_many inputs [] [] each = refl
rows_many inputs [] (row ∷ rows) each = absurd each
rows_many inputs (s ∷ steps) [] each = absurd each
rows_many inputs (s ∷ steps) (row ∷ rows) each = ap suc (rows_many inputs steps rows each.1)

rows_are : (latches inputs : ℕ) (t : List ℕ) (w : Witness) → (s : SpellsWitness latches inputs t w) → length s.steps ≡ length w.trace.rows.rows
rows_are latches inputs t w s = rows_many inputs s.steps w.trace.rows.rows s.each

-- and each value of the start a character
values_many : (line : List ℕ) (bits : List Bool) → AllZip SpellsBit line bits → length bits ≡ length line
values_many [] [] each = refl
values_many [] (v ∷ bits) each = absurd each
values_many (b ∷ line) [] each = absurd each
values_many (b ∷ line) (v ∷ bits) each = ap suc (values_many line bits each.1)

pub shape_of : (c : Parts) (t : List ℕ) (w : Witness) → SpellsWitness (length c.latches) (length c.inputs) t w → HasShape c w.trace
shape_of c t w s = record {
  start = values_many s.start w.trace.start s.starts.each ∙ s.starts.wide;
  width = s.width;
  some = omega (arith, s.some, rows_are (length c.latches) (length c.inputs) t w s);
}

pub few_rows : (latches inputs : ℕ) (t : List ℕ) (w : Witness) → SpellsWitness latches inputs t w → length (lines t) ≤ length t → length t ≤ 67108864
    → length w.trace.rows.rows < 2 ^ 32
few_rows latches inputs t w s few short =
    omega (arith, rows_are latches inputs t w s, ap (λ (ls : List (List ℕ)). length ls) s.parts, length-append s.steps (codes "." ∷ s.after), few, short)

pub has_witness : (call : ReplayCall) (d : DeskSeen) (bytes read : List ℕ) (c : Parts) (w : Witness) → read ≡ bytes → length bytes ≤ limit_of files.Witness
    → SpellsWitness (length c.latches) (length c.inputs) read w → IfSome (d.old.text call.witness) (λ t. bytes ≡ t) → HasWitness call d c w
has_witness call d bytes read c w is short spells told = record {
  text = bytes;
  told = told;
  has = record { short = short; spells = subst (λ (xs : List ℕ). SpellsWitness (length c.latches) (length c.inputs) xs w) is spells };
}

pub witness_refused : (call : ReplayCall) (d : DeskSeen) (c : Parts) (sig bytes read : List ℕ) (stop : Stop) → read ≡ bytes → length bytes ≤ limit_of files.Witness
    → HasCircuit call.subject d c → HasSignals call.subject d c sig → IfSome (d.old.text call.witness) (λ t. bytes ≡ t) → WitnessCause c read stop
    → EarlyCause (Replay call) d stop
witness_refused call d c sig bytes read stops.Usage is short has also told cause = absurd cause
witness_refused call d c sig bytes read (stops.Unreadable f) is short has also told cause = absurd cause
witness_refused call d c sig bytes read (stops.TooLong f) is short has also told cause = absurd cause
witness_refused call d c sig bytes read (stops.TooLarge m) is short has also told cause = absurd cause
witness_refused call d c sig bytes read (stops.BadCircuit at kind) is short has also told cause = absurd cause
witness_refused call d c sig bytes read (stops.BadSignals line kind) is short has also told cause = absurd cause
witness_refused call d c sig bytes read (stops.Refused (refusals.Formula line kind)) is short has also told cause = absurd cause
witness_refused call d c sig bytes read (stops.Refused (refusals.Proof line kind)) is short has also told cause = absurd cause
witness_refused call d c sig bytes read (stops.Refused (refusals.Step step kind)) is short has also told cause = absurd cause
witness_refused call d c sig bytes read (stops.Refused (refusals.Witness at kind)) is short has also told cause = (
  c,
  sig,
  has,
  also,
  record {
    text = bytes;
    told = told;
    has = record { short = short; first = subst (λ (xs : List ℕ). IsFirstInWitness (length c.latches) (length c.inputs) xs at kind) is cause };
  },
)
witness_refused call d c sig bytes read (stops.Refused (refusals.Trace misfit)) is short has also told cause = absurd cause
witness_refused call d c sig bytes read stops.CannotWrite is short has also told cause = absurd cause
witness_refused call d c sig bytes read stops.OutOfMemory is short has also told cause = λ e. cc

pub misfit_refused : (call : ReplayCall) (d : DeskSeen) (c : Parts) (sig : List ℕ) (w : Witness) (stop : Stop) → HasCircuit call.subject d c → HasSignals call.subject d c sig
    → HasWitness call d c w → MisfitCause c sig w stop → EarlyCause (Replay call) d stop
misfit_refused call d c sig w stops.Usage has also spelled cause = absurd cause
misfit_refused call d c sig w (stops.Unreadable f) has also spelled cause = absurd cause
misfit_refused call d c sig w (stops.TooLong f) has also spelled cause = absurd cause
misfit_refused call d c sig w (stops.TooLarge m) has also spelled cause = absurd cause
misfit_refused call d c sig w (stops.BadCircuit at kind) has also spelled cause = absurd cause
misfit_refused call d c sig w (stops.BadSignals line kind) has also spelled cause = absurd cause
misfit_refused call d c sig w (stops.Refused (refusals.Formula line kind)) has also spelled cause = absurd cause
misfit_refused call d c sig w (stops.Refused (refusals.Proof line kind)) has also spelled cause = absurd cause
misfit_refused call d c sig w (stops.Refused (refusals.Step step kind)) has also spelled cause = absurd cause
misfit_refused call d c sig w (stops.Refused (refusals.Witness at kind)) has also spelled cause = absurd cause
misfit_refused call d c sig w (stops.Refused (refusals.Trace misfit)) has also spelled cause = (c, sig, w, has, also, spelled, cause)
misfit_refused call d c sig w stops.CannotWrite has also spelled cause = absurd cause
misfit_refused call d c sig w stops.OutOfMemory has also spelled cause = λ e. cc
