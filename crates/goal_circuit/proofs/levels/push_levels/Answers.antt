use Rattle.std.proofs.Common.{◌++◌, ◌+◌, drop, length, sym, ap, subst, arith}
use Rattle.goal_circuit.specs.GoalCircuit.{new_gates, goal_literals}
use Rattle.goal_circuit.proofs.LevelGates.{IsLevel, length-new_gates-drop, next_level}
use Rattle.goal_circuit.proofs.levels.push_levels.Goals as goal

pub push_next_level-requires : goal.push_next_level-requires
push_next_level-requires c =
    omega (
      arith,
      c.loop-signal.invariant.room,
      length-new_gates-drop c.loop-signal.var c.loop-signal.last c.args.signals.now c.loop-signal.signal-index c.signal-item.result (omega arith) c.signal-item.is,
      ap length c.as_slice.ensures,
    )

pub loop-signal-preserved : goal.loop-signal-preserved
loop-signal-preserved c =
    let whole = c.args.gates.now ++ new_gates c.args.first c.args.level c.args.signals.now in
    let goals = goal_literals c.args.first c.args.level c.args.signals.now in
    let later = c.push_next_level.new.gates in
    let next = c.in_ok-next.next in
    let rest = drop (c.loop-signal.signal-index + 1) c.args.signals.now in
    let pushed = rw c.as_slice.ensures at c.in_ok-next.ensures.gates in
    let sides = rw c.as_slice.ensures at c.in_ok-next.ensures.level in
    let held =
    next_level c.loop-signal.gates later whole goals c.loop-signal.var c.loop-signal.last next c.args.signals.now c.loop-signal.signal-index c.signal-item.result
    (omega arith) c.signal-item.is c.loop-signal.invariant pushed sides
    in
    subst (λ n. IsLevel later whole goals (c.loop-signal.var + n) next rest) (sym c.len.ensures) held
