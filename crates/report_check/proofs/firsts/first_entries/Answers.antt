use Rattle.std.proofs.Common.{◌≡◌, ◌+◌, List, length, take, sym, ap, subst, ◌∙◌, Option}
use Rattle.std.proofs.lemmas.List.{get_or_default}
use Rattle.board_core.specs.declared.entry.Entry.{Entry}
use Rattle.report_check.specs.Known.{AreFirsts}
use Rattle.report_check.proofs.Entries.{firsts_more, whole_written}
use Rattle.report_check.proofs.firsts.first_entries.Goals as goal

pub loop-entry-preserved : goal.loop-entry-preserved
loop-entry-preserved c =
    let history = c.args.history.now in
    let k = c.loop-entry.entry-index in
    let firsts = c.loop-entry.firsts in
    let before : AreFirsts (take k history) c.args.goals c.deref_mut.result.now =
    subst (λ (xs : List (Option Entry)). AreFirsts (take k history) c.args.goals xs) (sym c.deref_mut.ensures.value) c.loop-entry.invariant in
    let after : AreFirsts (take (k + 1) history) c.args.goals c.note.new.firsts = firsts_more history k _ c.args.goals c.deref_mut.result.now c.note.new.firsts c.loop-entry-test.true (get_or_default history k _ _ c.loop-entry-test.true) before c.note.ensures in
    let same : length c.note.new.firsts ≡ length firsts.items = after.size ∙ sym c.loop-entry.invariant.size in
    subst (λ (xs : List (Option Entry)). AreFirsts (take (k + 1) history) c.args.goals xs) (sym (whole_written c.note.new.firsts firsts.items firsts.len same (ap (λ (xs : List (Option Entry)). length xs) (sym c.deref_mut.ensures.value) ∙ c.deref_mut.ensures.len))) after
