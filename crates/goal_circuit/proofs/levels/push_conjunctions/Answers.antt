use Rattle.std.proofs.Common.{◌++◌, ◌+◌, ◌*◌, List, [], ◌∷◌, take, sym, ap, ◌∙◌, append_assoc, arith}
use Rattle.aig_model.specs.declared.parts.AndGate.{AndGate}
use Rattle.goal_circuit.specs.GoalCircuit.{conjunctions}
use Rattle.goal_circuit.proofs.LevelGates.{conjunctions_more}
use Rattle.goal_circuit.proofs.levels.push_conjunctions.Goals as goal

pub loop-place-preserved : goal.loop-place-preserved
loop-place-preserved c =
    let start = c.args.gates.now in
    let level = c.args.level.now in
    let place = c.loop-place.place in
    let left = c.index-level-place.result in
    let before = conjunctions c.args.first (take place level) c.args.right in
    let gate : AndGate = record { lhs = 2 * (c.args.first + place); left = left; right = c.args.right } in
    let pushed = c.in_ok-push.ensures.ok ∙ ap (λ n. c.loop-place.gates ++ (record { lhs = n; left = left; right = c.args.right }) ∷ []) c.new.ensures in
    let more = conjunctions_more c.args.first level place left c.args.right (omega arith) c.index-level-place.is in
    pushed
    ∙ (ap (λ (gates : List AndGate). gates ++ gate ∷ []) c.loop-place.invariant
    ∙ (append_assoc start before (gate ∷ []) ∙ ap (λ (gates : List AndGate). start ++ gates) (sym more)))
