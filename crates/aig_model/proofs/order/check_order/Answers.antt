use Rattle.std.proofs.Common.{◌≡◌, ◌<◌, ◌+◌, ◌∷◌, [], ◌∙◌, length, List, Bool, false, set, sym, ap, subst, drop, arith, below_more}
use Rattle.std.proofs.lemmas.Bool.{false≢true}
use Rattle.std.proofs.lemmas.List.{length-set}
use Rattle.aig_model.specs.Literal.{var}
use Rattle.aig_model.specs.WellFormed.{left_sides}
use Rattle.aig_model.specs.Marks.{Marks}
use Rattle.aig_model.proofs.Elements.{All-right}
use Rattle.aig_model.proofs.GateOrder.{gate_room, ordered_by_places, marks_rest, placed_here}
use Rattle.aig_model.proofs.order.check_order.Goals as goal

pub uses_marked-requires : goal.uses_marked-requires
uses_marked-requires c =
    let ahead = c.loop-place.ahead in
    let gate = c.index-gates-place.result in
    let room = gate_room c.args.ahead.now ahead c.args.gates.now c.loop-place.place gate (omega arith) c.index-gates-place.is
    c.loop-place.invariant.size c.requires.room in
    All-right (λ l. var l < length ahead) (gate.lhs ∷ []) (gate.left ∷ gate.right ∷ []) room

pub set-requires : goal.set-requires
set-requires c =
    let room = gate_room c.args.ahead.now c.loop-place.ahead c.args.gates.now c.loop-place.place c.index-gates-place.result (omega arith) c.index-gates-place.is
    c.loop-place.invariant.size c.requires.room in
    omega (arith, room 0 0 (omega arith), c.var.ensures)

pub loop-place-preserved : goal.loop-place-preserved
loop-place-preserved c =
    let ahead = c.loop-place.ahead in
    let gates = c.args.gates.now in
    let i = c.loop-place.place in
    let gate = c.index-gates-place.result in
    let room = gate_room c.args.ahead.now ahead gates i gate (omega arith) c.index-gates-place.is c.loop-place.invariant.size c.requires.room in
    let written : c.set.new.self ≡ set ahead (var gate.lhs) false = c.set.ensures ∙ ap (λ v. set ahead v false) c.var.ensures in
    record {
      size = ap length written ∙ (length-set ahead (var gate.lhs) false ∙ c.loop-place.invariant.size);
      marks = subst (λ (m : List Bool). Marks m (left_sides (drop (i + 1) gates))) (sym written)
          (marks_rest ahead gates i gate (omega arith) c.index-gates-place.is (room 0 0 (omega arith)) c.requires.once c.loop-place.invariant.marks);
      placed = below_more _ _ c.loop-place.invariant.placed
          (placed_here ahead gates i gate (omega arith) c.index-gates-place.is c.loop-place.invariant.marks
          (λ used. false≢true (sym c.if-uses_marked.false ∙ c.uses_marked.ensures.1 used)));
    }

pub returns-clause-ok : goal.returns-clause-ok
returns-clause-ok c = ordered_by_places c.args.gates.now (λ k h. c.loop-place.invariant.placed k (omega arith))
