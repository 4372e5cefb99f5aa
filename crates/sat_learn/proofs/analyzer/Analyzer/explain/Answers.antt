use Rattle.std.proofs.Common.{◌≡◌, ◌+◌, false, length, ap, ◌∙◌, arith}
use Rattle.std.proofs.lemmas.List.{with_items_is, length-replicate}
use Rattle.sat_learn.proofs.MarkedLiterals.{replicate_is}
use Rattle.sat_learn.proofs.analyzer.Analyzer.explain.Goals as goal

pub invariant_of-self : goal.invariant_of-self
invariant_of-self c =
    let s = c.self.inside in
    let marks = c.explain_marked.new.marks in
    let len : length marks ≡ s.marks.len = omega (arith, c.explain_marked.auto.marks, c.deref_mut.ensures.len) in
    let room : length marks ≡ s.vars + 1 = c.explain_marked.auto.marks ∙ ap length c.deref_mut.ensures.value ∙ ap length c.self.invariant.1 ∙ length-replicate (s.vars + 1) false in
    (c.self.invariant.0, with_items_is s.marks marks len ∙ replicate_is marks (s.vars + 1) false room c.in-Ok.ensures.unmarked, c.self.invariant.2)
