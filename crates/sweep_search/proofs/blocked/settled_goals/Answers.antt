use Rattle.sweep_search.proofs.blocked.settled_goals.Goals as goal

pub returns : goal.returns
returns c = λ g. (
    let listed = c.in_ok-goals.ensures g in
    let marked = c.in_ok-marks.ensures.marks g in
    (λ has. marked.0 (listed.0 has), λ settled. listed.1 (marked.1 settled))
    )
