use Rattle.std.proofs.Common.{◌+◌, ◌∷◌, ◌++◌, [], length, refl, ap, ◌∙◌}
use Rattle.sat_watch.specs.declared.arena.Span.{Span}
use Rattle.sat_watch.specs.Arena.{clauses_in}
use Rattle.sat_watch.proofs.Spans.{clauses_in-push}
use Rattle.sat_watch.proofs.arena.Arena.push.Goals as goal

pub returns-clause-ok : goal.returns-clause-ok
returns-clause-ok c =
    let lits = c.self.inside.lits.items in
    let spans = c.self.inside.spans.items in
    let more = c.args.lits.now in
    let span : Span = record { start = length lits; end = length lits + length more } in
    ap (λ ls. clauses_in ls c.append.new.spans.items) c.in_ok-append.ensures.lits
    ∙ ap (clauses_in (lits ++ more)) c.in_ok-append.ensures.spans
    ∙ clauses_in-push lits more spans span c.self.invariant refl refl
    ∙ ap (λ cs. cs ++ more ∷ []) c.self.view_is
