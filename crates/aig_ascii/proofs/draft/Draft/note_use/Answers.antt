use Rattle.std.proofs.Common.{sym, ◌∙◌}
use Rattle.aig_ascii.specs.Drafts.{definers_of}
use Rattle.aig_ascii.proofs.Uses.{stand-known}
use Rattle.aig_ascii.proofs.draft.Draft.note_use.Goals as goal

pub returns-else-not-is_known-clause-uses : goal.returns-else-not-is_known-clause-uses
returns-else-not-is_known-clause-uses c =
    stand-known (definers_of c.args.self.now) c.args.self.now.pending (record { at = c.args.at; lit = c.args.lit }) (sym c.is_known.ensures ∙ c.if-not-is_known.false)
