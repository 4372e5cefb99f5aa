use Rattle.std.proofs.Common.{◌∙◌, ap, arith, ◌<◌, false, nat_eq, ◌%◌}
use Rattle.std.proofs.lemmas.List.{get_or_read}
use Rattle.std.proofs.lemmas.Nat.Bits.{shr_and_one}
use Rattle.std.specs.Int.{bit_at}
use Rattle.aig_model.proofs.Packed.{length-unpacked, get_or-unpacked}
use Rattle.aig_model.proofs.bits.Bits.get.Goals as goal

pub index-requires : goal.index-requires
index-requires c =
    let within : c.args.place < c.self.inside.len = rw (← length-unpacked c.self.inside.words.items c.self.inside.len, c.self.view_is) c.requires in
    omega arith

pub returns : goal.returns
returns c =
    let within : c.args.place < c.self.inside.len = rw (← length-unpacked c.self.inside.words.items c.self.inside.len, c.self.view_is) c.requires in
    rw (← c.self.view_is, get_or-unpacked c.self.inside.words.items c.self.inside.len c.args.place false within)
    (ap (λ x. nat_eq x 1) (shr_and_one c.index.result.now (c.args.place % 64)
    ∙ ap (λ w. bit_at w (c.args.place % 64)) (get_or_read c.self.inside.words.items _ _ (omega arith) c.index.ensures 0)))
