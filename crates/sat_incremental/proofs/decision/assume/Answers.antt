use Rattle.std.proofs.Common.{◌≡◌, ℕ, ◌+◌, ◌<◌, ◌≤◌, ℤ, nat_abs, length, None, refl, ap, sym, ◌∙◌, subst, arith, inl}
use Rattle.std.proofs.lemmas.List.{length_push}
use Rattle.sat_trail.proofs.Representation.{free_room}
use Rattle.sat_trail.specs.Trail.{TrailState, Assignment}
use Rattle.sat_watch.proofs.Readiness.{ready_decide}
use Rattle.sat_watch.specs.Ready.{IsReady}
use Rattle.sat_solver.proofs.States.{sound_decided, passed_decided}
use Rattle.sat_incremental.specs.Entries.{given, live}
use Rattle.sat_incremental.proofs.Assumed.{assumed_decided, within_assumptions}
use Rattle.sat_incremental.proofs.Growth.{continues_same}
use Rattle.sat_incremental.proofs.decision.assume.Goals as goal

pub decide-requires-clause-in_range : goal.decide-requires-clause-in_range
decide-requires-clause-in_range c =
    let small = within_assumptions c.args.search.now.vars c.args.assumptions.now c.args.lit c.requires.in_range c.requires.assumed in
    omega (arith, c.requires.query.search.sound.trail_vars)

pub returns-clause-query : goal.returns-clause-query
returns-clause-query c =
    let search = c.args.search.now in
    let q = c.requires.query in
    let s = q.search in
    let t = search.premises.trail in
    let p : Assignment = record { lit = c.args.lit; level = t.level + 1; reason = None } in
    let R : TrailState → Type 0 = λ x. IsReady search.premises.book x in
    let more = ap (λ (x : TrailState). x.assignments) c.decide.ensures in
    record {
      search = record {
        few = s.few;
        few_vars = s.few_vars;
        derivation = s.derivation;
        sound = sound_decided search.vars (live search.entries) (given search.entries) search.premises.proof_ids.items search.premises.book t c.decide.new.self c.args.lit s.sound c.decide.ensures;
        ready = subst R (sym c.decide.ensures) (ready_decide search.premises.book t p c.requires.settled c.is_well_formed.ensures refl);
        passed = passed_decided search.queue search.from t c.decide.new.self p s.passed more;
        queue_vars = s.queue_vars;
        ranks_vars = s.ranks_vars;
        phases_vars = s.phases_vars;
        analyzer_vars = s.analyzer_vars;
        gathered = s.gathered;
        gathered_vars = s.gathered_vars;
      };
      assumed = assumed_decided c.args.assumptions.now t c.decide.new.self c.args.lit c.is_well_formed.ensures q.assumed more (inl c.requires.assumed);
      within = q.within;
    }

pub returns-clause-continues : goal.returns-clause-continues
returns-clause-continues c = continues_same _ _ refl refl refl refl

pub returns-clause-less : goal.returns-clause-less
returns-clause-less c =
    let t = c.args.search.now.premises.trail in
    let small = within_assumptions c.args.search.now.vars c.args.assumptions.now c.args.lit c.requires.in_range c.requires.assumed in
    let vars = c.requires.query.search.sound.trail_vars in
    let nz : nat_abs c.args.lit ≡ 0 → ⊥ = λ e. c.var.ensures.not_zero (c.var.ensures.size ∙ e) in
    let room = free_room t c.args.lit c.is_well_formed.ensures (omega arith) nz c.requires.open_now in
    let p : Assignment = record { lit = c.args.lit; level = t.level + 1; reason = None } in
    let vars_are : c.decide.new.self.vars ≡ t.vars = ap (λ (x : TrailState). x.vars) c.decide.ensures in
    let size : length c.decide.new.self.assignments ≡ length t.assignments + 1 = ap (λ (x : TrailState). length x.assignments) c.decide.ensures ∙ length_push t.assignments p in
    rw (vars_are, size) (omega arith)
