use Rattle.std.proofs.Common.{rules, ◌≡◌, replicate}
use Rattle.aig_model.proofs.Packed.{unpacked-replicate, words_of_len}
use Rattle.aig_model.proofs.bits.Bits.all_false.Goals as goal

pub returns : goal.returns
returns c =
    let zeros : c.in_ok-words.words.items ≡ replicate c.div_ceil.result 0 = search rules in
    let room = words_of_len c.args.len c.div_ceil.result c.div_ceil.ensures in
    rw zeros (unpacked-replicate c.args.len c.div_ceil.result room.0)
