use Rattle.std.proofs.Common.{sym, subst}
use Rattle.command_words.specs.Words.{Meaning, HasScales, texts}
use Rattle.command_words.proofs.Scales.{meaning_on}
use Rattle.cover_run.proofs.running.answer.Goals as goal

pub execute-requires : goal.execute-requires
execute-requires g c = subst (λ (m : Meaning). HasScales m) (sym c.command_of-command.ensures) (meaning_on (texts c.args.words.now))
