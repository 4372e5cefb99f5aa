use Rattle.std.proofs.Common.{◌≡◌, ◌∙◌, ◌-◌, length, drop, take, arith, length-drop}
use Rattle.std.proofs.lemmas.List.{take_all}
use Rattle.run_io.proofs.Taking.{takes_more}
use Rattle.run_io.proofs.write.write_all.Goals as goal

pub loop-at-preserved : goal.loop-at-preserved
loop-at-preserved g c =
    let bytes = c.args.bytes.now in
    let piece : take (length bytes - c.loop-at.at) (drop c.loop-at.at bytes) ≡ drop c.loop-at.at bytes = take_all (length bytes - c.loop-at.at) (drop c.loop-at.at bytes) (omega (arith, length-drop c.loop-at.at bytes)) in
    record {
      same_faults = c.in-Ok.ensures.no_fault ∙ c.loop-at.invariant.same_faults;
      same_idle = c.in-Ok.ensures.not_idle (λ idle. omega (arith, idle.nothing)) ∙ c.loop-at.invariant.same_idle;
      takes = takes_more _ _ _ bytes _ c.loop-at.at c.in-Ok.count c.loop-at.invariant.takes piece c.in-Ok.ensures.ok;
    }
