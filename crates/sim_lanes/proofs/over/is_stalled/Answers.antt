use Rattle.std.proofs.Common.{◌≡◌, ◌≤◌, ◌+◌, ◌-◌, ◌<◌, length, get_or, ap, ◌∙◌, arith}
use Rattle.std.proofs.lemmas.Bool.{leb-true, le-leb}
use Rattle.std.proofs.lemmas.List.{get_or_default}
use Rattle.sim_walk.specs.declared.visit.Visit.{Visit}
use Rattle.sim_lanes.proofs.Overs.{last_latest}
use Rattle.sim_lanes.proofs.over.is_stalled.Goals as goal

pub returns : goal.returns
returns c = λ ordered. (
    let vs = c.args.visits.now in
    let last : Visit = c.get.result.now in
    let some : 0 < length vs = omega (arith, c.len-count.ensures, c.if-count-eq0.false) in
    let read : last.step ≡ (get_or vs (length vs - 1) last).step = ap (λ (v : Visit). v.step) c.get.ensures ∙ ap (λ n. (get_or vs (n - 1) last).step) c.len-count.ensures in (
      λ is. (
          let near : c.from-3.result + c.from-4.result ≤ c.from-5.result = leb-true (c.from-3.result + c.from-4.result) c.from-5.result is in (
            (let enough : c.args.stall ≤ c.args.step + 1 = omega (arith, c.if-from.false, c.from.ensures, c.from-2.ensures) in enough),
            λ k d inside. (
                let late = last_latest vs k d ordered inside in
                let same : (get_or vs (length vs - 1) d).step ≡ (get_or vs (length vs - 1) last).step = ap (λ (v : Visit). v.step) (get_or_default vs (length vs - 1) d last (omega (arith, some))) in
                omega (arith, late, same, read, near, c.from-3.ensures, c.from-4.ensures, c.from-5.ensures)
                ),
          )
          ),
      λ h. (
          let all = h.1 (length vs - 1) last (omega (arith, some)) in
          le-leb (c.from-3.result + c.from-4.result) c.from-5.result (omega (arith, all, read, c.from-3.ensures, c.from-4.ensures, c.from-5.ensures))
          ),
    )
    )
