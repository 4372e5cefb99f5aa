use Rattle.std.proofs.Common.{ℕ, sym, ap, ◌∙◌, Vec, Global}
use Rattle.unroll.proofs.UndefinedVars.{undefined_kept, defined_passed}
use Rattle.unroll.proofs.undefined.undefined_vars.Goals as goal
use Rattle.unroll.proofs.undefined.undefined_vars.Goals.{then-not-get+in_ok-push, else-not-get}

pub loop-var-preserved : goal.loop-var-preserved
loop-var-preserved c =
    let circuit = c.args.circuit.now in
    let marks = c.in_ok-marks.marks in
    let old = c.loop-var.vars.items in
    let v = c.loop-var.var in
    elim c.if-not-get.branch [
      | then-not-get+in_ok-push w ↦
          let kept = undefined_kept circuit marks v old c.loop-var.auto.var c.in_ok-marks.ensures.marks (sym c.get.ensures ∙ w.if-not-get.true) c.loop-var.invariant in
          ap (λ (x : Vec ℕ Global). x.items) w.vars-is ∙ (w.in_ok-push.ensures.items ∙ kept)
      | else-not-get w ↦
          let passed = defined_passed circuit marks v old c.loop-var.auto.var c.in_ok-marks.ensures.marks (sym c.get.ensures ∙ w.if-not-get.false) c.loop-var.invariant in
          ap (λ (x : Vec ℕ Global). x.items) w.vars-is ∙ passed
    ]
