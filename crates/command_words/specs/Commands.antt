-- What the code's commands ask for.
use Rattle.std.specs.Prelude.{Option, Some, None}
use Rattle.command_words.specs.declared.settings.Given.{Given}
use Rattle.command_words.specs.declared.settings.Taken.{Taken}
use Rattle.command_words.specs.declared.command.Cover.{Cover}
use Rattle.command_words.specs.declared.command.Lrat.{Lrat}
use Rattle.command_words.specs.declared.command.Replay.{Replay}
use Rattle.command_words.specs.declared.command.Subject.{Subject}
use Rattle.command_words.specs.declared.command.Command.{Command}
use Rattle.command_words.specs.declared.command.Command.TheVariants as commands
use Rattle.command_words.specs.Settings.{given_after}
use Rattle.command_words.specs.Words as meanings

-- what the words give, once an option was taken from their front
abbrev pub given_from : Option Taken → Option Given
given_from None = None
given_from (Some taken) = given_after (Some taken.given) None (meanings.texts taken.rest.now)

abbrev pub subject_named : Subject → meanings.Subject
subject_named subject = record { circuit = subject.circuit.now; signals = subject.signals.now }

abbrev pub cover_call : Cover → meanings.CoverCall
cover_call call = record { subject = subject_named call.subject; options = call.options; workers = call.workers }

abbrev pub replay_call : Replay → meanings.ReplayCall
replay_call call = record { subject = subject_named call.subject; witness = call.witness.now }

abbrev pub lrat_call : Lrat → meanings.LratCall
lrat_call call = record { formula = call.formula.now; proof = call.proof.now }

abbrev pub meaning_of : Command → meanings.Meaning
meaning_of commands.Usage = meanings.Usage
meaning_of commands.Help = meanings.Help
meaning_of commands.Version = meanings.Version
meaning_of (commands.Cover call) = meanings.Cover (cover_call call)
meaning_of (commands.Goals subject) = meanings.Goals (subject_named subject)
meaning_of (commands.Replay call) = meanings.Replay (replay_call call)
meaning_of (commands.Lrat call) = meanings.Lrat (lrat_call call)
