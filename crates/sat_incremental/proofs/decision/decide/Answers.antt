use Rattle.std.proofs.Common.{◌≡◌, ℕ, ◌+◌, ◌<◌, ◌≤◌, true, nat_abs, length, Option, None, refl, ap, sym, ◌∙◌, subst, arith, inr}
use Rattle.std.specs.Option.{IfSome}
use Rattle.std.proofs.lemmas.List.{length_push}
use Rattle.sat_trail.proofs.Representation.{free_room}
use Rattle.sat_trail.specs.Trail.{TrailState, Assignment}
use Rattle.sat_queue.specs.Order.{is_unassigned}
use Rattle.sat_watch.proofs.Readiness.{ready_decide}
use Rattle.sat_watch.specs.Ready.{IsReady}
use Rattle.sat_solver.specs.Decision.{IsPassed}
use Rattle.sat_solver.proofs.Assignments.{unassigned_unset}
use Rattle.sat_solver.proofs.SearchPlace.{all_assigned}
use Rattle.sat_solver.proofs.States.{sound_decided, passed_decided}
use Rattle.sat_incremental.specs.Entries.{given, live}
use Rattle.sat_incremental.proofs.Assumed.{assumed_decided}
use Rattle.sat_incremental.proofs.Growth.{continues_same}
use Rattle.sat_incremental.proofs.decision.decide.Goals as goal

pub next_variable-search-requires-clause-vars : goal.next_variable-search-requires-clause-vars
next_variable-search-requires-clause-vars c =
    let s = c.requires.query.search in
    s.sound.trail_vars ∙ sym s.queue_vars

pub next_variable-search-requires-clause-passed : goal.next_variable-search-requires-clause-passed
next_variable-search-requires-clause-passed c = c.requires.query.search.passed

pub returns-in_default-clause-query : goal.returns-in_default-clause-query
returns-in_default-clause-query c =
    let q = c.requires.query in
    let s = q.search in
    record {
      search = record {
        few = s.few;
        few_vars = s.few_vars;
        derivation = s.derivation;
        sound = s.sound;
        ready = s.ready;
        passed = c.next_variable-search.ensures.passed;
        queue_vars = s.queue_vars;
        ranks_vars = s.ranks_vars;
        phases_vars = s.phases_vars;
        analyzer_vars = s.analyzer_vars;
        gathered = s.gathered;
        gathered_vars = s.gathered_vars;
      };
      assumed = q.assumed;
      within = q.within;
    }

pub returns-in_default-clause-continues : goal.returns-in_default-clause-continues
returns-in_default-clause-continues c = continues_same _ _ refl refl refl refl

pub returns-in_default-clause-all : goal.returns-in_default-clause-all
returns-in_default-clause-all c is_false v positive within =
    let search = c.args.search.now in
    let s = c.requires.query.search in
    let P : Option ℕ → Type 0 = λ from. IsPassed search.queue search.premises.trail.assignments from in
    all_assigned search.queue search.premises.trail.assignments c.is_well_formed.ensures (subst P c.in_default.is c.next_variable-search.ensures.passed) v positive (omega (arith, s.sound.trail_vars, s.queue_vars))

pub literal-lit-requires-clause-in_range : goal.literal-lit-requires-clause-in_range
literal-lit-requires-clause-in_range c =
    let search = c.args.search.now in
    let s = c.requires.query.search in
    let P : Option ℕ → Type 0 = λ from. IfSome from (λ v. (0 < v) × (v ≤ search.premises.trail.vars)) in
    let range = subst P c.in-Some.is c.next_variable-search.ensures.in_range in
    omega (arith, range.1, s.sound.trail_vars, s.phases_vars)

pub decide-requires-clause-in_range : goal.decide-requires-clause-in_range
decide-requires-clause-in_range c =
    let search = c.args.search.now in
    let P : Option ℕ → Type 0 = λ from. IfSome from (λ v. (0 < v) × (v ≤ search.premises.trail.vars)) in
    let range = subst P c.in-Some.is c.next_variable-search.ensures.in_range in
    omega (arith, range.1, c.literal-lit.ensures)

pub decide-requires-clause-unset : goal.decide-requires-clause-unset
decide-requires-clause-unset c =
    let search = c.args.search.now in
    let P : Option ℕ → Type 0 = λ from. IfSome from (λ v. is_unassigned search.premises.trail.assignments v ≡ true) in
    unassigned_unset search.premises.trail.assignments c.in-Some.var c.literal-lit.result (subst P c.in-Some.is c.next_variable-search.ensures.unset) c.literal-lit.ensures

pub returns-clause-query : goal.returns-clause-query
returns-clause-query c =
    let search = c.args.search.now in
    let q = c.requires.query in
    let s = q.search in
    let t = search.premises.trail in
    let l = c.literal-lit.result in
    let p : Assignment = record { lit = l; level = t.level + 1; reason = None } in
    let R : TrailState → Type 0 = λ x. IsReady search.premises.book x in
    let more = ap (λ (x : TrailState). x.assignments) c.decide.ensures in
    record {
      search = record {
        few = s.few;
        few_vars = s.few_vars;
        derivation = s.derivation;
        sound = sound_decided search.vars (live search.entries) (given search.entries) search.premises.proof_ids.items search.premises.book t c.decide.new.self l s.sound c.decide.ensures;
        ready = subst R (sym c.decide.ensures) (ready_decide search.premises.book t p c.requires.settled c.is_well_formed-2.ensures refl);
        passed = passed_decided search.queue c.next_variable-search.result t c.decide.new.self p c.next_variable-search.ensures.passed more;
        queue_vars = s.queue_vars;
        ranks_vars = s.ranks_vars;
        phases_vars = s.phases_vars;
        analyzer_vars = s.analyzer_vars;
        gathered = s.gathered;
        gathered_vars = s.gathered_vars;
      };
      assumed = assumed_decided c.args.assumptions.now t c.decide.new.self l c.is_well_formed-2.ensures q.assumed more (inr c.requires.assumed);
      within = q.within;
    }

pub returns-clause-continues : goal.returns-clause-continues
returns-clause-continues c = continues_same _ _ refl refl refl refl

pub returns-clause-less : goal.returns-clause-less
returns-clause-less c is =
    let search = c.args.search.now in
    let t = search.premises.trail in
    let P : Option ℕ → Type 0 = λ from. IfSome from (λ v. (0 < v) × (v ≤ t.vars)) in
    let within = subst P c.in-Some.is c.next_variable-search.ensures.in_range in
    let of_var : nat_abs c.literal-lit.result ≡ c.in-Some.var = c.literal-lit.ensures in
    let nz : nat_abs c.literal-lit.result ≡ 0 → ⊥ = λ e. (let k = within.0 in absurd (omega arith)) in
    let U : Option ℕ → Type 0 = λ from. IfSome from (λ v. is_unassigned t.assignments v ≡ true) in
    let unset = unassigned_unset t.assignments c.in-Some.var c.literal-lit.result (subst U c.in-Some.is c.next_variable-search.ensures.unset) c.literal-lit.ensures in
    let room = free_room t c.literal-lit.result c.is_well_formed-2.ensures (omega arith) nz unset in
    let p : Assignment = record { lit = c.literal-lit.result; level = t.level + 1; reason = None } in
    let vars_are : c.decide.new.self.vars ≡ t.vars = ap (λ (x : TrailState). x.vars) c.decide.ensures in
    let size : length c.decide.new.self.assignments ≡ length t.assignments + 1 = ap (λ (x : TrailState). length x.assignments) c.decide.ensures ∙ length_push t.assignments p in
    rw (vars_are, size) (omega arith)
