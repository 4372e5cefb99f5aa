use Rattle.std.proofs.Common.{arith, vec_len, ◌*◌, ◌+◌, ◌<◌, ◌≤◌}
use Rattle.aig_model.proofs.Packed.{length-unpacked, unpacked-take, words_of_len}
use Rattle.aig_model.proofs.bits.Bits.truncate.Goals as goal

pub invariant_of-self : goal.invariant_of-self
invariant_of-self c =
    let within : c.args.len ≤ c.self.inside.len = rw (← length-unpacked c.self.inside.words.items c.self.inside.len, c.self.view_is) c.requires in
    let room = words_of_len c.args.len c.div_ceil.result c.div_ceil.ensures in
    let few : 64 * vec_len c.self.inside.words < c.self.inside.len + 64 = c.self.invariant.1 in
    let many : c.self.inside.len ≤ 64 * vec_len c.self.inside.words = c.self.invariant.0 in
    (omega (arith, c.truncate.ensures.len, room.0, room.1), omega (arith, c.truncate.ensures.len, room.0, room.1))

pub returns : goal.returns
returns c =
    let within : c.args.len ≤ c.self.inside.len = rw (← length-unpacked c.self.inside.words.items c.self.inside.len, c.self.view_is) c.requires in
    let room = words_of_len c.args.len c.div_ceil.result c.div_ceil.ensures in
    rw (← c.self.view_is, c.truncate.ensures.items)
    (unpacked-take c.self.inside.words.items c.self.inside.len c.args.len c.div_ceil.result within room.0)
