use Rattle.std.proofs.Common.{subst, sym, arith, ◌+◌}
use Rattle.std.specs.Prelude.{option_copied}
use Rattle.std.proofs.lemmas.List.Elements.{All-get_or}
use Rattle.sim_walk.specs.declared.visit.Visit.{Visit}
use Rattle.sim_walk.specs.Walk.{IsFirstVisit}
use Rattle.sim_batch.specs.Batch.{lanes_of}
use Rattle.walk_rows.proofs.batch_rows.shows_visits.Goals as goal

pub shows_visit-requires-clause-visit : goal.shows_visit-requires-clause-visit
shows_visit-requires-clause-visit c =
    let batch = c.requires.batch in
    let first : Visit → Type 0 =
    IsFirstVisit c.args.circuit.now c.args.signals.now.lits (lanes_of c.args.circuit.now c.args.options.now.seed c.args.batch (option_copied c.args.from)) (batch.last + 1) in
    record {
      last = batch.last;
      ends = batch.ends;
      first = subst (λ (v : Visit). first v) (sym c.get-visit.ensures)
          (All-get_or first c.args.end.now.visits c.loop-place.place c.get-visit.result.now (omega arith) batch.are_visits.firsts);
    }
