use Rattle.std.proofs.Common.{subst}
use Rattle.text_words.specs.Text.{Rest}
use Rattle.aig_binary.specs.Fronts.{IsDelta}
use Rattle.aig_binary.proofs.Deltas.{behind-front}
use Rattle.aig_binary.proofs.bytes.Bytes.delta.Goals as goal

pub returns-clause-next : goal.returns-clause-next
returns-clause-next c = behind-front c.args.self.now c.in-Ok.delta c.skip.new.self (subst (λ (r : Rest). IsDelta r.bytes c.in-Ok.delta) c.self.view_is c.in-Ok.ensures) c.skip.ensures
