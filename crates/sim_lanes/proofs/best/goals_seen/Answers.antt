use Rattle.std.proofs.Common.{◌≡◌, ◌≤◌, Bool, true, false, cond, get_or, refl, ap, ◌∙◌, lit≤, arith}
use mir.Val.{bool_byte}
use Rattle.sim_batch.specs.Words.{bit_of_word}
use Rattle.sim_lanes.proofs.Walks.{count_more}
use Rattle.sim_lanes.proofs.best.goals_seen.Goals as goal

byte_of : (b : Bool) → bool_byte b ≡ cond b 1 0
byte_of true = refl
byte_of false = refl

at_most_one : (b : Bool) → cond b 1 0 ≤ 1
at_most_one true = lit≤ tt
at_most_one false = lit≤ tt

pub loop-place-preserved : goal.loop-place-preserved
loop-place-preserved c =
    let bit : Bool = bit_of_word c.args.lane (get_or c.args.seen.now c.loop-place.place 0) in
    let one : c.from-count.result ≡ cond bit 1 0 = c.from-count.ensures ∙ (byte_of c.lane_bit-is_seen.result ∙ ap (λ b. cond b 1 0) c.lane_bit-is_seen.ensures) in
    record {
      count = omega (arith, c.loop-place.invariant.count, one, count_more c.args.lane c.args.seen.now c.loop-place.place);
      few = omega (arith, c.loop-place.invariant.few, one, at_most_one bit);
    }
