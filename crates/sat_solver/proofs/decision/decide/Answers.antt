use Rattle.std.proofs.Common.{◌≡◌, ℕ, ◌+◌, ◌<◌, ◌≤◌, true, nat_abs, length, Option, None, refl, ap, sym, ◌∙◌, subst, arith}
use Rattle.std.specs.Option.{IfSome}
use Rattle.std.proofs.lemmas.List.{length_push}
use Rattle.sat_trail.proofs.Representation.{free_room}
use Rattle.sat_trail.specs.Trail.{TrailState, Assignment}
use Rattle.sat_queue.specs.Order.{is_unassigned}
use Rattle.sat_watch.proofs.Readiness.{ready_decide}
use Rattle.sat_watch.specs.Ready.{IsReady}
use Rattle.sat_solver.specs.Decision.{IsPassed}
use Rattle.sat_solver.specs.Ledger.{earlier, live}
use Rattle.sat_solver.proofs.Assignments.{unassigned_unset}
use Rattle.sat_solver.proofs.SearchPlace.{all_assigned}
use Rattle.sat_solver.proofs.States.{sound_decided, passed_decided}
use Rattle.sat_solver.proofs.decision.decide.Goals as goal

pub returns-in_default-clause-all : goal.returns-in_default-clause-all
returns-in_default-clause-all c is_false v positive within =
    let search = c.args.search.now in
    let P : Option ℕ → Type 0 = λ from. IsPassed search.queue search.premises.trail.assignments from in
    all_assigned search.queue search.premises.trail.assignments c.is_well_formed.ensures (subst P c.in_default.is c.next_variable-search.ensures.passed) v positive (omega (arith, c.requires.vars))

pub decide-requires-clause-unset : goal.decide-requires-clause-unset
decide-requires-clause-unset c =
    let search = c.args.search.now in
    let P : Option ℕ → Type 0 = λ from. IfSome from (λ v. is_unassigned search.premises.trail.assignments v ≡ true) in
    unassigned_unset search.premises.trail.assignments c.in-Some.var c.literal-lit.result (subst P c.in-Some.is c.next_variable-search.ensures.unset) c.literal-lit.ensures

pub returns-clause-state : goal.returns-clause-state
returns-clause-state c formula lemmas t =
    let search = c.args.search.now in
    let s = t.search in
    let p : Assignment = record { lit = c.literal-lit.result; level = search.premises.trail.level + 1; reason = None } in
    let R : TrailState → Type 0 = λ x. IsReady search.premises.book x in
    record {
      search = record {
        few_clauses = s.few_clauses;
        few_steps = s.few_steps;
        ledger = s.ledger;
        sound = sound_decided formula.vars (live formula search.steps) (earlier formula search.steps) search.premises.proof_ids.items search.premises.book search.premises.trail c.decide.new.self c.literal-lit.result s.sound c.decide.ensures;
        queue_vars = s.queue_vars;
        phases_vars = s.phases_vars;
        analyzer_vars = s.analyzer_vars;
        considered_vars = s.considered_vars;
        ranks_vars = s.ranks_vars;
        few_conflicts = s.few_conflicts;
      };
      ready = subst R (sym c.decide.ensures) (ready_decide search.premises.book search.premises.trail p c.requires.settled c.is_well_formed-2.ensures refl);
      passed = passed_decided search.queue c.next_variable-search.result search.premises.trail c.decide.new.self p c.next_variable-search.ensures.passed (ap (λ (x : TrailState). x.assignments) c.decide.ensures);
      within = t.within;
      few = t.few;
    }

pub returns-clause-less : goal.returns-clause-less
returns-clause-less c is lemmas =
    let search = c.args.search.now in
    let t = search.premises.trail in
    let P : Option ℕ → Type 0 = λ from. IfSome from (λ v. (0 < v) × (v ≤ t.vars)) in
    let within = subst P c.in-Some.is c.next_variable-search.ensures.in_range in
    let of_var : nat_abs c.literal-lit.result ≡ c.in-Some.var = c.literal-lit.ensures in
    let nz : nat_abs c.literal-lit.result ≡ 0 → ⊥ = λ e. (let k = within.0 in absurd (omega arith)) in
    let U : Option ℕ → Type 0 = λ from. IfSome from (λ v. is_unassigned t.assignments v ≡ true) in
    let unset = unassigned_unset t.assignments c.in-Some.var c.literal-lit.result (subst U c.in-Some.is c.next_variable-search.ensures.unset) c.literal-lit.ensures in
    let room = free_room t c.literal-lit.result c.is_well_formed-2.ensures (omega arith) nz unset in
    let p : Assignment = record { lit = c.literal-lit.result; level = t.level + 1; reason = None } in
    let vars_are : c.decide.new.self.vars ≡ t.vars = ap (λ (x : TrailState). x.vars) c.decide.ensures in
    let size : length c.decide.new.self.assignments ≡ length t.assignments + 1 = ap (λ (x : TrailState). length x.assignments) c.decide.ensures ∙ length_push t.assignments p in
    rw (vars_are, size) (omega arith)
