use Rattle.std.proofs.Common.{ℕ, Option, ap, sym, ◌∙◌, subst, arith}
use Rattle.std.proofs.lemmas.List.FromFn.{length-range_with_len}
use Rattle.sat_solver.specs.Decision.{IsPassed}
use Rattle.sat_solver.proofs.SearchPlace.{first_passed}
use Rattle.sat_incremental.proofs.Kept.{sound_new, ready_new, derivation_new}
use Rattle.sat_incremental.proofs.search.Search.new.Goals as goal
use Rattle.std.proofs.Common.{length}

pub returns-clause-search : goal.returns-clause-search
returns-clause-search c =
    let p = c.in_ok-premises.premises in
    let e = c.in_ok-premises.ensures in
    let queue = c.in_ok-queue.queue in
    let P : Option ℕ → Type 0 = λ from. IsPassed queue p.trail.assignments from in
    record {
      few = omega (arith, ap length c.new-entries.ensures);
      few_vars = c.requires;
      derivation = derivation_new c.new-entries.result c.new-entries.ensures;
      sound = sound_new c.args.vars c.new-entries.result p.proof_ids.items p.book p.trail e.trail e.book e.proof_ids c.new-entries.ensures;
      ready = ready_new c.args.vars p.book p.trail e.trail e.book;
      passed = subst P (sym c.first-from.ensures) (first_passed queue p.trail.assignments);
      queue_vars = ap length c.in_ok-queue.ensures ∙ length-range_with_len 1 c.args.vars;
      ranks_vars = c.in_ok-ranks.ensures;
      phases_vars = c.in_ok-phases.ensures;
      analyzer_vars = c.in_ok-analyzer.ensures;
      gathered = c.in_ok-gathered.ensures.gathered;
      gathered_vars = c.in_ok-gathered.ensures.vars;
    }
