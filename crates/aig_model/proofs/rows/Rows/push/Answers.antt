use Rattle.std.proofs.Common.{◌≡◌, ◌+◌, ◌*◌, length, arith, ◌∙◌, ap, length-append, ◌++◌, ◌∷◌, []}
use Rattle.aig_model.specs.Table.{Table}
use Rattle.aig_model.proofs.Tables.{rows_of-push, same_width}
use Rattle.aig_model.proofs.rows.Rows.push.Goals as goal

pub invariant_of-self-2 : goal.invariant_of-self-2
invariant_of-self-2 c =
    let t = c.self.inside in
    let same = same_width t.width t.len t.bits c.args.self.now c.self.view_is in
    let grown : length c.append.new.self ≡ length t.bits + length c.args.row.now = rw c.in_ok-append.ensures.ok (length-append t.bits c.args.row.now) in
    let wide : c.in-Some.len * t.width ≡ t.len * t.width + t.width = rw c.in-Some.ensures.1 (omega arith) in
    (omega (arith, grown, wide, same, c.requires), omega (arith, grown, wide, same, c.requires, c.in_ok-append.ensures.room))

pub returns-clause-ok : goal.returns-clause-ok
returns-clause-ok c =
    let t = c.self.inside in
    let same = same_width t.width t.len t.bits c.args.self.now c.self.view_is in
    rw (c.in_ok-append.ensures.ok, c.in-Some.ensures.1)
    (rows_of-push t.width t.len t.bits c.args.row.now c.self.invariant.0 (omega (arith, same, c.requires))
    ∙ ap (λ (x : Table). x.rows ++ c.args.row.now ∷ []) c.self.view_is)
