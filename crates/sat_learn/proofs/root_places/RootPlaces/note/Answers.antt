use Rattle.std.proofs.Common.{arith}
use Rattle.sat_trail.proofs.Levels.{length-upto-le}
use Rattle.sat_learn.proofs.root_places.RootPlaces.note.Goals as goal

pub at-requires : goal.at-requires
at-requires c =
    let few = length-upto-le 0 c.args.trail.now.assignments in
    omega (arith, c.loop-place-test.true, c.len_upto-end.ensures)
