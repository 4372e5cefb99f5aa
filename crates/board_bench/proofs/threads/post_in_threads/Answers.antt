use Rattle.std.proofs.Common.{◌<◌, List, length, arith, sym, ◌∙◌, subst, get_or}
use Rattle.board_bench.specs.Callers.{IsReady}
use Rattle.board_bench.specs.declared.caller.Caller.{Caller}
use Rattle.std.proofs.lemmas.List.{take_at}
use Rattle.board_bench.proofs.threads.post_in_threads.Goals as goal

pub returns : goal.returns
returns g c = λ k d lt.
    let new = c.post_each.new.callers in
    let count = c.post_each.ensures.len ∙ c.as_mut_slice.ensures.len in
    let here = subst (λ (l : List Caller). k < length l) (take_at new _ _ count) lt in
    let inside : k < length c.as_mut_slice.result.now = omega (arith, here, c.post_each.ensures.len) in
    subst (λ (l : List Caller). IsReady c.args.board.now (get_or l k d)) (sym (take_at new _ _ count)) (c.post_each.ensures.each k d inside)
