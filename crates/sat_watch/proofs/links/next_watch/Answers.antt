use Rattle.std.proofs.Common.{ℕ, Option, length, refl, ap, sym, ◌∙◌}
use Rattle.std.specs.Option.{option_and_then}
use Rattle.std.proofs.lemmas.Option.{slice_get_read}
use Rattle.sat_watch.specs.declared.links.Watch.{Watch}
use Rattle.sat_watch.proofs.Lists.{next_is}
use Rattle.sat_watch.proofs.links.next_watch.Goals as goal

pub returns : goal.returns
returns c heads l before after h parts =
    let next : Watch → Option ℕ = λ x. x.next in
    let read = slice_get_read c.args.watches.now (length c.args.watches.now) c.args.watch c.index-watches-watch.result refl c.requires c.index-watches-watch.is in
    c.watch.ensures ∙ ap next (sym c.index-watches-watch.is) ∙ sym (ap (option_and_then next) read) ∙ next_is heads c.args.watches.now l before c.args.watch after h parts
