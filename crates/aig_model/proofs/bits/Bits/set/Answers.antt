use Rattle.std.proofs.Common.{◌≡◌, length, arith, ◌<◌, ◌/◌, List, ℕ, ◌∙◌, ap, get_or}
use Rattle.std.proofs.lemmas.List.{get_or_read}
use Rattle.std.specs.Int.{bit_at}
use Rattle.aig_model.proofs.Packed.{length-unpacked, unpacked-set, bit_of-set_here, bit_of-set_other}
use Rattle.aig_model.proofs.bits.Bits.set.Goals as goal

pub index-word-requires : goal.index-word-requires
index-word-requires c =
    let within : c.args.place < c.self.inside.len = rw (← length-unpacked c.self.inside.words.items c.self.inside.len, c.self.view_is) c.requires in
    omega arith

pub index_mut-requires : goal.index_mut-requires
index_mut-requires c =
    let within : c.args.place < c.self.inside.len = rw (← length-unpacked c.self.inside.words.items c.self.inside.len, c.self.view_is) c.requires in
    omega arith

pub returns : goal.returns
returns c =
    let within : c.args.place < c.self.inside.len = rw (← length-unpacked c.self.inside.words.items c.self.inside.len, c.self.view_is) c.requires in
    let ws : List ℕ = c.self.inside.words.items in
    let inside : c.args.place / 64 < length ws = omega arith in
    let was : c.index-word.result.now ≡ get_or ws (c.args.place / 64) 0 = get_or_read ws _ _ inside c.index-word.ensures 0 in
    rw (← c.self.view_is)
    (unpacked-set ws _ c.self.inside.len c.args.place c.args.bit within
    (λ k _ ne. bit_of-set_other ws c.args.place c.with_bit.result k inside
    (λ j l nj. c.with_bit.ensures.others j l nj ∙ ap (λ w. bit_at w j) was) ne)
    (bit_of-set_here ws c.args.place c.with_bit.result c.args.bit inside c.with_bit.ensures.here))
