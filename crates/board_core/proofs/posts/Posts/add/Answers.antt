use Rattle.std.proofs.Common.{sym, ap, ◌∙◌, Some}
use Rattle.std.proofs.lemmas.Option.{slice_get-get_or}
use Rattle.board_core.specs.declared.event.Verdict.{Verdict}
use Rattle.board_core.proofs.Replayed.{of_one_more}
use Rattle.board_core.proofs.posts.Posts.add.Goals as goal

pub returns-clause-add : goal.returns-clause-add
returns-clause-add c = λ before h.
    of_one_more before c.args.self.now.verdicts.items c.args.self.now.posted.items c.args.entry.now c.index.result.now c.or.result c.requires.size c.requires.goal c.requires.caller
    (slice_get-get_or c.args.self.now.verdicts.items c.args.entry.now.goal c.index.result.now c.requires.goal ∙ ap (λ (v : Verdict). Some v) (sym c.index.ensures)) c.or.ensures h
