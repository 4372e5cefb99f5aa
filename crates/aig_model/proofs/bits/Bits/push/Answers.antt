use Rattle.std.proofs.Common.{◌≡◌, length, arith, ◌<◌, ◌/◌, List, ℕ, ◌∙◌, ap, get_or}
use Rattle.std.proofs.lemmas.List.{get_or_read}
use Rattle.std.specs.Int.{bit_at}
use Rattle.aig_model.specs.Packed.{unpacked}
use Rattle.aig_model.proofs.Packed.{unpacked-push_word, length-unpacked, unpacked-push_within}
use Rattle.aig_model.proofs.bits.Bits.push.Goals as goal
use Rattle.aig_model.proofs.bits.Bits.push.Goals.{then-place-eq0+in_ok-push, else-place-eq0}

pub returns-clause-ok : goal.returns-clause-ok
returns-clause-ok c =
    let words : List ℕ = c.self.inside.words.items in
    let len : ℕ = c.self.inside.len in
    rw (← c.self.view_is, c.in-Some.ensures.1)
    (elim c.if-place-eq0.branch [
      | then-place-eq0+in_ok-push w ↦
          rw w.self-inside-is (unpacked-push_word words _ len _ c.args.bit w.in_ok-push.ensures.items w.with_bit.ensures.here (omega arith))
      | else-place-eq0 w ↦
          (let inside : len / 64 < length words = omega arith in
          let was : w.index-word.result.now ≡ get_or words (len / 64) 0 = get_or_read words _ _ inside w.index-word.ensures 0 in
          rw w.self-inside-is
          (unpacked-push_within words len w.with_bit-else-place-eq0.result c.args.bit inside w.with_bit-else-place-eq0.ensures.here
          (λ j h ne. w.with_bit-else-place-eq0.ensures.others j h ne ∙ ap (λ x. bit_at x j) was)))
    ])

pub returns-clause-room : goal.returns-clause-room
returns-clause-room c =
    let size : length (unpacked c.if-place-eq0.self-inside.words.items c.in-Some.len) ≡ c.in-Some.len = length-unpacked _ _ in
    omega (arith, c.in-Some.ensures)
