use Rattle.std.proofs.Common.{◌≡◌, ap, refl, ◌∙◌, false, get_or, arith, Option, Some, None}
use Rattle.std.specs.Option.{is_some}
use Rattle.std.proofs.lemmas.Option.{slice_get-get_or}
use Rattle.board_core.specs.declared.entry.Entry.{Entry}
use Rattle.report_check.proofs.Entries.{firsts_taken, firsts_later, firsts_past}
use Rattle.report_check.proofs.firsts.note.Goals as goal
use Rattle.report_check.proofs.firsts.note.Goals.{else-goal-firsts-via-then-goal-firsts+else-is_none, else-goal-firsts-via-else-goal-firsts}

no_entry : (o : Option Entry) → is_some o ≡ false → o ≡ None
no_entry None none = refl
no_entry (Some e) none = absurd cc

pub returns-then-is_none : goal.returns-then-is_none
returns-then-is_none c = λ before h.
    let e = c.args.entry.now in
    let firsts = c.args.firsts.now in
    let none : get_or firsts e.goal None ≡ None = no_entry (get_or firsts e.goal None) c.if-is_none.ensures in
    firsts_taken before e firsts c.if-goal-firsts.true (slice_get-get_or firsts e.goal None c.if-goal-firsts.true ∙ ap (λ (o : Option Entry). Some o) none) h

pub returns-else-goal-firsts : goal.returns-else-goal-firsts
returns-else-goal-firsts c = λ before h.
    let e = c.args.entry.now in
    let firsts = c.args.firsts.now in
    elim c.else-goal-firsts.branch [
      | else-goal-firsts-via-then-goal-firsts+else-is_none w ↦
          firsts_later before e firsts (get_or firsts e.goal None) (slice_get-get_or firsts e.goal None w.if-goal-firsts.true) w.if-is_none.ensures h
      | else-goal-firsts-via-else-goal-firsts w ↦ firsts_past before e firsts (omega (arith, w.if-goal-firsts.false)) h
    ]
