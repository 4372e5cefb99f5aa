use Rattle.std.proofs.Common.{◌<◌, List, length, arith, sym, ◌∙◌, subst, get_or}
use Rattle.board_rows.specs.declared.pool_rows.Worker.{Worker}
use Rattle.seed_pool.specs.Seats.{IsSeatOf}
use Rattle.std.proofs.lemmas.List.{take_at}
use Rattle.board_rows.proofs.pool_rows.trade_in_threads.Goals as goal

pub returns-clause-each : goal.returns-clause-each
returns-clause-each g c = λ k d lt.
    let new = c.trade_each.new.workers in
    let count = c.trade_each.ensures.len ∙ c.as_mut_slice.ensures.len in
    let here = subst (λ (l : List Worker). k < length l) (take_at new _ _ count) lt in
    let inside : k < length c.as_mut_slice.result.now = omega (arith, here, c.trade_each.ensures.len) in
    subst (λ (l : List Worker). IsSeatOf c.args.pool.now (get_or l k d).seat) (sym (take_at new _ _ count)) (c.trade_each.ensures.each k d inside)
