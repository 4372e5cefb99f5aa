-- Why a cover command is or isn't begun once its files were read.
use Rattle.std.proofs.Common.{ℕ, ◌+◌, ◌*◌, ◌≤◌, max, List, arith}
use Rattle.std.proofs.lemmas.Nat.{mul-le}
use Rattle.aig_model.specs.declared.parts.Parts.{Parts}
use Rattle.command_words.specs.declared.stop.Stop.{Stop}
use Rattle.command_words.specs.declared.stop.Stop.TheVariants as stops
use Rattle.command_words.specs.Settings.{AreOnScales}
use Rattle.cover_run.specs.Answer.{EarlyCause}
use Rattle.cover_run.specs.Covering.{HasCircuit, HasSignals, HasRoom, frames_of}
use Rattle.cover_run.specs.Seen.{DeskSeen}
use Rattle.cover_run.specs.Steps.{RoomCause}
use Rattle.command_words.specs.Words.{CoverCall, Cover}
use Rattle.run_report.specs.Ranges.{AreRunnable}
use Rattle.sim_walk.specs.declared.options.Options.{Options}
use Rattle.unroll.specs.Frames.{vars_before}

pub room_stop : (call : CoverCall) (d : DeskSeen) (c : Parts) (sig : List ℕ) (stop : Stop) → HasCircuit call.subject d c → HasSignals call.subject d c sig
    → RoomCause call.options c stop → EarlyCause (Cover call) d stop
room_stop call d c sig stops.Usage has also cause = absurd cause
room_stop call d c sig (stops.Unreadable f) has also cause = absurd cause
room_stop call d c sig (stops.TooLong f) has also cause = absurd cause
room_stop call d c sig (stops.TooLarge m) has also cause = (c, sig, has, also, cause)
room_stop call d c sig (stops.BadCircuit at kind) has also cause = absurd cause
room_stop call d c sig (stops.BadSignals line kind) has also cause = absurd cause
room_stop call d c sig (stops.Refused why) has also cause = absurd cause
room_stop call d c sig stops.CannotWrite has also cause = absurd cause
room_stop call d c sig stops.OutOfMemory has also cause = absurd cause

-- ---- why it can be begun
-- the frames of a search are at most those of the longest one
search_fits : (o : Options) (c : Parts) (depth : ℕ) → depth ≤ max o.depth o.hop → HasRoom o c → vars_before c (depth + 1) ≤ 4000000
search_fits o c depth near room =
    let fits : frames_of o c ≤ 4000000 = room.frames in
    let less : (depth + 1) * (c.top + 1) ≤ (max o.depth o.hop + 1) * (c.top + 1) = mul-le (depth + 1) (c.top + 1) (max o.depth o.hop + 1) (c.top + 1) (omega arith) (omega arith) in
    omega arith

pub sweep_fits : (o : Options) (c : Parts) → HasRoom o c → vars_before c (o.depth + 1) ≤ 4000000
sweep_fits o c room = search_fits o c o.depth (omega arith) room

pub hop_fits : (o : Options) (c : Parts) → HasRoom o c → vars_before c (o.hop + 1) ≤ 4000000
hop_fits o c room = search_fits o c o.hop (omega arith) room

pub runnable : (o : Options) → AreOnScales o → AreRunnable o
runnable o on = record {
  some = on.lemmas.0;
  few = omega (arith, on.lemmas.1);
  depth = omega (arith, on.depth.1);
  batches = omega (arith, on.batches.1);
  length = on.length.0;
  rounds = omega (arith, on.rounds.1);
}
