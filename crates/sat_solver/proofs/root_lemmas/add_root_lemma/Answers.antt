use Rattle.std.proofs.Common.{◌≡◌, ◌+◌, ◌≤◌, ℤ, nat_abs, List, [], ◌∷◌, ◌++◌, length, map, refl, ap, sym, ◌∙◌, subst, arith}
use Rattle.std.specs.List.{Contains}
use Rattle.std.proofs.lemmas.List.{length_push}
use Rattle.lrat_text.specs.declared.proof.LratStep.{LratStep}
use Rattle.lrat_text.specs.declared.proof.LratStep.TheVariants.{Add}
use Rattle.sat_trail.specs.declared.clause_id.ClauseId.TheVariants as ids
use Rattle.sat_trail.specs.Trail.{Assignment, TrailState, with_reason}
use Rattle.sat_watch.specs.Book.{marks}
use Rattle.sat_watch.specs.Ready.{IsReady}
use Rattle.sat_solver.specs.Ledger.{earlier, live, IsLedger}
use Rattle.sat_solver.specs.Sound.{root, IsSound}
use Rattle.sat_solver.proofs.RootLemmas.{CanBeRootLemma, ledger_named, sound_named}
use Rattle.sat_solver.proofs.Reasons.{marks-with_reason, passed_same, ready_same, root_with_reason}
use Rattle.sat_solver.proofs.Roots.{root_literal, root_found}
use Rattle.sat_solver.proofs.root_lemmas.add_root_lemma.Goals as goal

pub set_reason-requires-clause-in_range : goal.set_reason-requires-clause-in_range
set_reason-requires-clause-in_range c =
    let at = c.requires.root in
    let literal = root_literal c.args.search.now.premises.trail c.args.lit (ids.Book at.0) c.is_well_formed.ensures at.1 in
    omega (arith, literal.variable, c.var.ensures.size)

pub set_reason-requires-clause-forced : goal.set_reason-requires-clause-forced
set_reason-requires-clause-forced c =
    let at = c.requires.root in
    let book = ids.Book at.0 in
    (root c.args.lit book, root_found c.args.search.now.premises.trail c.args.lit book c.var.result c.is_well_formed.ensures at.1 c.var.ensures.size, refl)

-- the trail on which the literal rests on its lemma
rests : (c : goal.After-set_reason) → c.set_reason.new.self.assignments ≡ map (with_reason (nat_abs c.args.lit) (ids.Unit c.next_id-id.result)) c.args.search.now.premises.trail.assignments
rests c =
    ap (λ (t : TrailState). t.assignments) c.set_reason.ensures
    ∙ ap (λ v. map (with_reason v (ids.Unit c.next_id-id.result)) c.args.search.now.premises.trail.assignments) c.var.ensures.size

stays : (c : goal.After-set_reason) → marks c.set_reason.new.self.assignments ≡ marks c.args.search.now.premises.trail.assignments
stays c = ap marks (rests c) ∙ marks-with_reason (nat_abs c.args.lit) (ids.Unit c.next_id-id.result) c.args.search.now.premises.trail.assignments

-- the step of the lemma
abbrev lemma_step : goal.After-set_reason → List ℤ → LratStep
lemma_step c ls = Add c.next_id-id.result ls c.args.hints

steps_are : (c : goal.After-set_reason) → c.push.new.self ≡ c.args.search.now.steps ++ lemma_step c (c.args.lit ∷ []) ∷ []
steps_are c = c.in_ok-push.ensures.ok ∙ ap (λ ls. c.args.search.now.steps ++ lemma_step c ls ∷ []) c.in_ok-lemma.ensures

pub returns-clause-state : goal.returns-clause-state
returns-clause-state c =
    let formula = c.args.formula.now in
    let search = c.args.search.now in
    let t = search.premises.trail in
    let state = c.requires.state in
    let s = state.search in
    let l = c.args.lit in
    let id = c.next_id-id.result in
    let at = c.requires.root in
    let can : CanBeRootLemma formula search.steps search.premises.proof_ids.items search.premises.book t l at.0 id c.args.hints = record {
      ledger = s.ledger;
      sound = s.sound;
      trail = c.is_well_formed.ensures;
      book = c.is_well_formed-2.ensures;
      stands = at.1;
      id_is = c.next_id-id.ensures;
      small = omega (arith, c.next_id-id.ensures, s.few_clauses, s.few_steps);
      follows = c.requires.follows;
    } in
    let steps = search.steps ++ lemma_step c (l ∷ []) ∷ [] in
    let trail_is : c.set_reason.new.self ≡ record t { assignments = map (with_reason (nat_abs l) (ids.Unit id)) t.assignments } =
    c.set_reason.ensures ∙ ap (λ v. record t { assignments = map (with_reason v (ids.Unit id)) t.assignments }) c.var.ensures.size in
    let size : length c.push.new.self ≡ length search.steps + 1 = ap length (steps_are c) ∙ length_push search.steps (lemma_step c (l ∷ [])) in
    let L : List LratStep → Type 0 = λ x. IsLedger formula x in
    let S : List LratStep → Type 0 = λ x. IsSound formula.vars (live formula x) (earlier formula x) search.premises.proof_ids.items search.premises.book c.set_reason.new.self in
    let T : TrailState → Type 0 = λ x. IsSound formula.vars (live formula steps) (earlier formula steps) search.premises.proof_ids.items search.premises.book x in
    let R : TrailState → Type 0 = λ x. IsReady search.premises.book x in
    let within : length c.push.new.self ≤ c.args.lemmas = omega (arith, size, c.requires.room) in
    record {
      search = record {
        few_clauses = s.few_clauses;
        few_steps = omega (arith, within, state.few);
        ledger = subst L (sym (steps_are c)) (ledger_named formula search.steps search.premises.proof_ids.items search.premises.book t l at.0 id c.args.hints can);
        sound = subst S (sym (steps_are c)) (subst T (sym trail_is) (sound_named formula search.steps search.premises.proof_ids.items search.premises.book t l at.0 id c.args.hints can));
        queue_vars = s.queue_vars;
        phases_vars = s.phases_vars;
        analyzer_vars = s.analyzer_vars;
        considered_vars = s.considered_vars;
        ranks_vars = s.ranks_vars;
        few_conflicts = omega (arith, s.few_conflicts, size);
      };
      ready = subst R (sym trail_is) (ready_same search.premises.book t (map (with_reason (nat_abs l) (ids.Unit id)) t.assignments) (marks-with_reason (nat_abs l) (ids.Unit id) t.assignments) state.ready);
      passed = passed_same search.queue t.assignments c.set_reason.new.self.assignments search.from (sym (stays c)) state.passed;
      within = within;
      few = state.few;
    }

pub returns-clause-named : goal.returns-clause-named
returns-clause-named c =
    let at = c.requires.root in
    let id = c.next_id-id.result in
    let P : List Assignment → Type 0 = λ ps. Contains ps (root c.args.lit (ids.Unit id)) in
    (id, steps_are c, subst P (sym (rests c)) (root_with_reason c.args.search.now.premises.trail.assignments c.args.lit id (ids.Book at.0) at.1))

pub returns-clause-stays : goal.returns-clause-stays
returns-clause-stays c = stays c
