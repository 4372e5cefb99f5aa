use Rattle.std.proofs.Common.{ℕ, Option, length, min, ap, sym, ◌∙◌, subst}
use Rattle.sat_trail.specs.Trail.{TrailState, upto}
use Rattle.sat_watch.specs.Ready.{IsReady}
use Rattle.sat_solver.specs.Decision.{IsPassed}
use Rattle.sat_solver.specs.Sound.{IsSound}
use Rattle.sat_solver.proofs.SearchPlace.{first_passed}
use Rattle.sat_solver.proofs.States.{sound_back}
use Rattle.sat_incremental.specs.Entries.{given, live}
use Rattle.sat_incremental.proofs.Kept.{ready_root}
use Rattle.sat_incremental.proofs.search.Search.back_to_root.Goals as goal

pub returns-clause-search : goal.returns-clause-search
returns-clause-search c =
    let s = c.args.self.now in
    let h = c.requires in
    let t = s.premises.trail in
    let trail = c.is_well_formed.ensures in
    let P : Option ℕ → Type 0 = λ from. IsPassed s.queue c.back_to.new.self.assignments from in
    let S : TrailState → Type 0 = λ x. IsSound s.vars (live s.entries) (given s.entries) s.premises.proof_ids.items s.premises.book x in
    let R : TrailState → Type 0 = λ x. IsReady s.premises.book x in
    record {
      few = h.few;
      few_vars = h.few_vars;
      derivation = h.derivation;
      sound = subst S (sym c.back_to.ensures) (sound_back s.vars (live s.entries) (given s.entries) s.premises.proof_ids.items s.premises.book t 0 (min t.low (length (upto 0 t.assignments))) h.sound trail);
      ready = subst R (sym c.back_to.ensures) (ready_root s.premises.book t h.ready trail);
      passed = subst P (sym c.first-self.ensures) (first_passed s.queue c.back_to.new.self.assignments);
      queue_vars = h.queue_vars;
      ranks_vars = h.ranks_vars;
      phases_vars = c.note.ensures ∙ h.phases_vars;
      analyzer_vars = h.analyzer_vars;
      gathered = h.gathered;
      gathered_vars = h.gathered_vars;
    }

pub returns-clause-root : goal.returns-clause-root
returns-clause-root c = ap (λ (x : TrailState). x.level) c.back_to.ensures
