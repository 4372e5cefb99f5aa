use Rattle.std.proofs.Common.{◌≡◌, Some, sym, ◌∙◌}
use Rattle.std.specs.List.{slice_get}
use Rattle.std.proofs.lemmas.Option.{slice_get_within, get_or_from_slice_get}
use Rattle.sat_watch.specs.Lists.{watching}
use Rattle.solver_rows.proofs.watch_rows.is_first_alone.Goals as goal

pub next_watch-requires : goal.next_watch-requires
next_watch-requires c =
    let list = watching c.args.lists.now c.args.lit in
    let first : slice_get list 0 ≡ Some c.in-Some.id = sym c.first_watch.ensures ∙ c.in-Some.is in
    (0, slice_get_within list 0 c.in-Some.id first, get_or_from_slice_get list 0 c.in-Some.id c.in-Some.id first)
