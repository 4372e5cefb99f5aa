use Rattle.std.proofs.Common.{◌≡◌, ℕ, ◌+◌, Option, None, Some, sym, ◌∙◌, subst, arith}
use Rattle.aig_model.proofs.OneGoal.{goal_of-lt}
use Rattle.sim_walk.specs.declared.visit.Visit.{Visit}
use Rattle.sim_batch.specs.Steps.{Advances, IsAt}
use Rattle.sim_batch.proofs.Stepping.{now_at, step_ends, step_shows_none, step_goes, step_shows, dead_shows_none, notes_none, notes_some, now_goals}
use Rattle.sim_batch.proofs.lane_walk.step_lane.Goals as goal

pub returns-then-lane-visit-clause-visits : goal.returns-then-lane-visit-clause-visits
returns-then-lane-visit-clause-visits c =
    λ lanes lane place row walk so.
    notes_none c.args.circuit.now c.args.signals.now.lits lanes lane c.args.visit.step c.args.visit.lane c.args.visits.now.visits place so
    (dead_shows_none c.args.circuit.now c.args.signals.now.lits lane c.args.visit.step c.args.lane.now.lived c.args.lane.now.state walk.at c.if-lane-visit.true)

pub returns-in_default-clause-lane : goal.returns-in_default-clause-lane
returns-in_default-clause-lane c =
    λ lane row walk. (
    let circuit = c.args.circuit.now in
    let sig = c.args.signals.now.lits in
    let t : ℕ = c.args.visit.step in
    let at : IsAt circuit lane t t c.args.lane.now.state = now_at circuit lane t c.args.lane.now.lived c.args.lane.now.state walk.at c.if-lane-visit.false in
    let same : c.args.lane.now.lived ≡ t = omega (arith, c.requires.lane.lived, c.if-lane-visit.false) in
    let none : Advances circuit sig c.args.lane.now.state c.in_ok-row.row c.advance.new.state None = subst (λ (o : Option ℕ). Advances circuit sig c.args.lane.now.state c.in_ok-row.row c.advance.new.state o) c.in_default.is c.in_ok-goal.ensures in
    record {
      at = subst (λ (n : ℕ). IsAt circuit lane (t + 1) n c.advance.new.state) (sym same)
          (step_ends circuit sig lane t c.args.lane.now.state c.in_ok-row.row c.advance.new.state c.is_well_formed.ensures at (row ∙ sym c.in_ok-row.ensures) none);
      goals = walk.goals;
      has = walk.has;
    }
    )

pub returns-in_default-clause-visits : goal.returns-in_default-clause-visits
returns-in_default-clause-visits c =
    λ lanes lane place row walk so. (
    let circuit = c.args.circuit.now in
    let sig = c.args.signals.now.lits in
    let t : ℕ = c.args.visit.step in
    let at : IsAt circuit lane t t c.args.lane.now.state = now_at circuit lane t c.args.lane.now.lived c.args.lane.now.state walk.at c.if-lane-visit.false in
    let none : Advances circuit sig c.args.lane.now.state c.in_ok-row.row c.advance.new.state None = subst (λ (o : Option ℕ). Advances circuit sig c.args.lane.now.state c.in_ok-row.row c.advance.new.state o) c.in_default.is c.in_ok-goal.ensures in
    notes_none circuit sig lanes lane t c.args.visit.lane c.args.visits.now.visits place so
    (step_shows_none circuit sig lane t c.args.lane.now.state c.in_ok-row.row c.advance.new.state c.is_well_formed.ensures at (row ∙ sym c.in_ok-row.ensures) none)
    )

pub add-requires : goal.add-requires
add-requires c =
    let some : Advances c.args.circuit.now c.args.signals.now.lits c.args.lane.now.state c.in_ok-row.row c.advance.new.state (Some c.in-Some.goal) =
    subst (λ (o : Option ℕ). Advances c.args.circuit.now c.args.signals.now.lits c.args.lane.now.state c.in_ok-row.row c.advance.new.state o) c.in-Some.is c.in_ok-goal.ensures in
    omega (arith, some.gives.1, goal_of-lt c.args.signals.now.lits some.values, c.requires.lane.goals)

pub add-requires-2 : goal.add-requires-2
add-requires-2 c =
    let some : Advances c.args.circuit.now c.args.signals.now.lits c.args.lane.now.state c.in_ok-row.row c.advance.new.state (Some c.in-Some.goal) =
    subst (λ (o : Option ℕ). Advances c.args.circuit.now c.args.signals.now.lits c.args.lane.now.state c.in_ok-row.row c.advance.new.state o) c.in-Some.is c.in_ok-goal.ensures in
    omega (arith, some.gives.1, goal_of-lt c.args.signals.now.lits some.values, c.requires.goals)

pub returns-clause-lane : goal.returns-clause-lane
returns-clause-lane c =
    λ lane row walk. (
    let circuit = c.args.circuit.now in
    let sig = c.args.signals.now.lits in
    let t : ℕ = c.args.visit.step in
    let state = c.args.lane.now.state in
    let at : IsAt circuit lane t t state = now_at circuit lane t c.args.lane.now.lived state walk.at c.if-lane-visit.false in
    let same : c.args.lane.now.lived ≡ t = omega (arith, c.requires.lane.lived, c.if-lane-visit.false) in
    let next : t + 1 ≡ c.args.lane.now.lived + 1 = omega (arith, same) in
    let some : Advances circuit sig state c.in_ok-row.row c.advance.new.state (Some c.in-Some.goal) =
    subst (λ (o : Option ℕ). Advances circuit sig state c.in_ok-row.row c.advance.new.state o) c.in-Some.is c.in_ok-goal.ensures in
    let visit : Visit = record { goal = c.in-Some.goal; lane = c.args.visit.lane; step = c.args.visit.step } in
    record {
      at = subst (λ (n : ℕ). IsAt circuit lane (t + 1) n c.advance.new.state) next
          (step_goes circuit sig lane t c.in-Some.goal state c.in_ok-row.row c.advance.new.state at (row ∙ sym c.in_ok-row.ensures) some);
      goals = c.in_ok-add.ensures.goals ∙ walk.goals;
      has = now_goals circuit sig lane t c.args.lane.now.lived c.args.lane.now.visits.visits c.add.new.self.visits visit same c.is_well_formed.ensures walk.has
          (step_shows circuit sig lane t c.in-Some.goal state c.in_ok-row.row c.advance.new.state at (row ∙ sym c.in_ok-row.ensures) some) c.in_ok-add.ensures.ok;
    }
    )

pub returns-clause-visits : goal.returns-clause-visits
returns-clause-visits c =
    λ lanes lane place row walk so. (
    let circuit = c.args.circuit.now in
    let sig = c.args.signals.now.lits in
    let t : ℕ = c.args.visit.step in
    let state = c.args.lane.now.state in
    let at : IsAt circuit lane t t state = now_at circuit lane t c.args.lane.now.lived state walk.at c.if-lane-visit.false in
    let some : Advances circuit sig state c.in_ok-row.row c.advance.new.state (Some c.in-Some.goal) =
    subst (λ (o : Option ℕ). Advances circuit sig state c.in_ok-row.row c.advance.new.state o) c.in-Some.is c.in_ok-goal.ensures in
    let visit : Visit = record { goal = c.in-Some.goal; lane = c.args.visit.lane; step = c.args.visit.step } in
    notes_some circuit sig lanes lane c.args.visits.now.visits c.add-2.new.self.visits visit c.is_well_formed.ensures place so
    (step_shows circuit sig lane t c.in-Some.goal state c.in_ok-row.row c.advance.new.state at (row ∙ sym c.in_ok-row.ensures) some) c.in_ok-add-2.ensures.ok
    )
