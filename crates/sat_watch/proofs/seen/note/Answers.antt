use Rattle.std.proofs.Common.{◌<◌, length, arith}
use Rattle.sat_watch.proofs.SeenTrail.{note_step}
use Rattle.sat_watch.proofs.seen.note.Goals as goal

pub loop-place-preserved : goal.loop-place-preserved
loop-place-preserved c =
    let lt : c.loop-place.place < length c.args.trail.now.assignments = omega (arith, c.loop-place-test.true, c.len-place-end.ensures.value) in
    let room : c.loop-place.place < length c.loop-place.seen = omega (arith, c.len-place-end.ensures.value, c.len-place-end.ensures.at_most, c.requires.room, c.loop-place.auto.seen) in
    note_step c.loop-place.seen c.args.seen.now c.args.trail.now.assignments c.args.from c.loop-place.place c.at.result c.level_at.result c.loop-place.auto.place lt room c.at.ensures c.level_at.ensures c.loop-place.invariant
