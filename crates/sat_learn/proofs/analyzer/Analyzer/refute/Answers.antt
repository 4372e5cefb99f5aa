use Rattle.std.proofs.Common.{◌≡◌, ◌+◌, false, length, ap, ◌∙◌, arith}
use mir.Syntax.{w64}
use Rattle.std.proofs.lemmas.Int.{to_z_pos}
use Rattle.std.proofs.lemmas.List.{with_items_is, length-replicate}
use Rattle.sat_learn.proofs.MarkedLiterals.{replicate_is}
use Rattle.sat_learn.proofs.analyzer.Analyzer.refute.Goals as goal

pub invariant_of-self : goal.invariant_of-self
invariant_of-self c =
    let s = c.self.inside in
    let marks = c.refute_marked.new.marks in
    let len : length marks ≡ s.marks.len = omega (arith, c.refute_marked.auto.marks, c.deref_mut.ensures.len) in
    let room : length marks ≡ s.vars + 1 = c.refute_marked.auto.marks ∙ ap length c.deref_mut.ensures.value ∙ ap length c.self.invariant.1 ∙ length-replicate (s.vars + 1) false in
    (c.self.invariant.0, with_items_is s.marks marks len ∙ replicate_is marks (s.vars + 1) false room c.in-Ok.ensures.unmarked, c.self.invariant.2)

pub returns-in-Ok-clause-follows : goal.returns-in-Ok-clause-follows
returns-in-Ok-clause-follows c live has_id conflict_with_id =
    c.in-Ok.ensures.follows live c.args.id (to_z_pos w64 c.args.id (omega (arith, c.requires.small))) has_id conflict_with_id
