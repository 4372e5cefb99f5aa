use Rattle.std.proofs.Common.{◌≡◌, ℕ, not, cond, ◌&&◌, List, length, get_or, sym, ap, ◌∙◌, subst, arith}
use Rattle.std.specs.Vec.{with_items}
use Rattle.std.proofs.lemmas.List.{with_items_is}
use Rattle.aig_model.specs.declared.parts.Latch.{Latch}
use Rattle.sim_batch.specs.Words.{bit_of_word}
use Rattle.sim_lanes.specs.LaneValues.{AreSteps, HandsOn, Keeps}
use Rattle.sim_lanes.specs.Lanes.{AddsMarks}
use Rattle.sim_lanes.specs.declared.lanes.LaneWords.{LaneWords}
use Rattle.sim_lanes.proofs.Deciding.{both_true}
use Rattle.sim_lanes.proofs.MaskLanes.{nexts_inside}
use Rattle.sim_lanes.proofs.OneStep.{Stepped, all_go_on}
use Rattle.sim_lanes.proofs.step.step_lanes.Goals as goal

pub hand_on-requires-clause-next : goal.hand_on-requires-clause-next
hand_on-requires-clause-next c =
    nexts_inside c.args.circuit.now c.as_slice-3.result.now (length c.evaluate.new.values) c.is_well_formed.ensures (c.as_slice-3.ensures ∙ c.latches.ensures) c.evaluate.ensures.blank.size

pub returns-clause-steps : goal.returns-clause-steps
returns-clause-steps c =
    let circuit = c.args.circuit.now in
    let sig = c.args.signals.now.lits in
    let values = c.evaluate.new.values in
    let t : ℕ = c.args.step in
    let old : LaneWords = c.args.lanes.now in
    let live : ℕ = c.both-live.result in
    let new : LaneWords = record {
      state = with_items old.state c.hand_on.new.state;
      before = with_items old.before c.keep.new.kept;
      live = live;
      died = with_items old.died c.note_deaths.new.died;
      seen = with_items old.seen c.note_goals.new.seen;
    } in
    let state : new.state.items ≡ c.hand_on.new.state =
    with_items_is old.state c.hand_on.new.state (omega (arith, c.hand_on.auto.state, ap length c.as_mut_slice-3.ensures.value, old.state.ok.0)) in
    let before : new.before.items ≡ c.keep.new.kept =
    with_items_is old.before c.keep.new.kept (omega (arith, c.keep.auto.kept, ap length c.as_mut_slice-2.ensures.value, old.before.ok.0)) in
    let died : new.died.items ≡ c.note_deaths.new.died =
    with_items_is old.died c.note_deaths.new.died (omega (arith, c.note_deaths.auto.died, ap length c.as_mut_slice.ensures.value, old.died.ok.0)) in
    let seen : new.seen.items ≡ c.note_goals.new.seen =
    with_items_is old.seen c.note_goals.new.seen (omega (arith, c.note_goals.auto.seen, ap length c.as_mut_slice-4.ensures.value, old.seen.ok.0)) in
    let stepped : Stepped circuit sig c.args.words.now values t old new = record {
      steps = subst (λ (s : List ℕ). AreSteps circuit s c.args.words.now values) c.as_slice.ensures.value c.evaluate.ensures.steps;
      live = λ j low. (
          let cases = both_true (bit_of_word j old.live) (bit_of_word j c.legal_lanes-legal.result) in
          let bit = c.both-live.ensures j low in (
            λ is. (let parts = cases.0 (sym bit ∙ is) in (parts.0, (c.legal_lanes-legal.ensures j low).0 parts.1)),
            λ h. bit ∙ cases.1 (h.0, (c.legal_lanes-legal.ensures j low).1 h.1),
          )
          );
      state = subst (λ (s : List ℕ). HandsOn circuit.latches values live old.state.items s) (sym state)
          (subst (λ (s : List ℕ). HandsOn circuit.latches values live s c.hand_on.new.state) c.as_mut_slice-3.ensures.value
          (subst (λ (ls : List Latch). HandsOn ls values live c.as_mut_slice-3.result.now c.hand_on.new.state) (c.as_slice-3.ensures ∙ c.latches.ensures) c.hand_on.ensures));
      before = subst (λ (s : List ℕ). Keeps old.state.items live old.before.items s) (sym before)
          (subst (λ (s : List ℕ). Keeps old.state.items live s c.keep.new.kept) c.as_mut_slice-2.ensures.value
          (subst (λ (s : List ℕ). Keeps s live c.as_mut_slice-2.result.now c.keep.new.kept) c.as_slice-2.ensures.value c.keep.ensures));
      died = λ j low. (
          let dying : bit_of_word j c.both-dying.result ≡ (bit_of_word j old.live && not (bit_of_word j live)) =
          c.both-dying.ensures j low ∙ ap (λ b. bit_of_word j old.live && b) (c.signed-dead.ensures j low) in
          ap (λ (xs : List ℕ). get_or xs j 0) died
          ∙ (c.note_deaths.ensures j low
          ∙ (ap (λ b. cond b t (get_or c.as_mut_slice.result.now j 0)) dying
          ∙ ap (λ (xs : List ℕ). cond (bit_of_word j old.live && not (bit_of_word j live)) t (get_or xs j 0)) c.as_mut_slice.ensures.value))
          );
      marked = subst (λ (s : List ℕ). AddsMarks sig values live old.seen.items s) (sym seen)
          (subst (λ (s : List ℕ). AddsMarks sig values live s c.note_goals.new.seen) c.as_mut_slice-4.ensures.value c.in_ok-note_goals.ensures.marks);
    } in
    all_go_on circuit sig c.args.words.now values t old new c.args.visits.now.visits c.note_goals.new.visits.visits c.is_well_formed.ensures stepped
    c.in_ok-note_goals.ensures.visits
