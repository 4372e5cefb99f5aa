use Rattle.std.proofs.Common.{[], get_or}
use Rattle.std.proofs.lemmas.Option.{slice_get-get_or}
use Rattle.solver_rows.proofs.watch_rows.stands_in_two.Goals as goal

pub watched-first-requires : goal.watched-first-requires
watched-first-requires g c =
    let clauses = c.args.book.now.clauses in
    let here = c.watch_lists-lists.ensures.pairs 0 (get_or clauses 0 []) (slice_get-get_or clauses 0 [] c.requires) in
    (here.0, here.1, here.2)
