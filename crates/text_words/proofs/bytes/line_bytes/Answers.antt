use Rattle.std.proofs.Common.{◌≢◌, ◌<◌, ◌-◌, get_or, sym, arith}
use Rattle.text_words.proofs.Fields.{line_bytes-trimmed}
use Rattle.text_words.proofs.bytes.line_bytes.Goals as goal
use Rattle.text_words.proofs.bytes.line_bytes.Goals.{then-loop-end-test+else-rest-end-eq13, else-loop-end-test}

pub returns : goal.returns
returns c =
    let e = c.loop-end.end in
    let last : 0 < e → get_or c.args.rest.now (e - 1) 0 ≢ 13 = λ some. elim c.loop-end-test.branch as (λ _. get_or c.args.rest.now (e - 1) 0 ≢ 13) [
      | then-loop-end-test+else-rest-end-eq13 w ↦ w.if-rest-end-eq13.false
      | else-loop-end-test w ↦ absurd (omega arith)
    ] in
    sym (line_bytes-trimmed c.args.rest.now e c.newline_at-end.result c.loop-end.invariant.within c.newline_at-end.ensures.within c.newline_at-end.ensures.before
    c.newline_at-end.ensures.found c.loop-end.invariant.returns last)
