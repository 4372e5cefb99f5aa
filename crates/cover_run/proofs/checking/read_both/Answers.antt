use Rattle.std.proofs.Common.{[], ◌∷◌, refl}
use Rattle.std.proofs.lemmas.Result.{err_from_is_err_and}
use Rattle.command_words.specs.declared.stop.File.TheVariants as files
use Rattle.command_words.specs.Commands.{lrat_call}
use Rattle.cover_run.specs.Files.{files_of}
use Rattle.cover_run.specs.Seen.{seen}
use Rattle.command_words.specs.Words.{Lrat}
use Rattle.cover_run.proofs.Reading.{fine_first, fine_after, all_one, all_after, read_after, read_more, read_then, part_unread, formula_refused}
use Rattle.cover_run.proofs.checking.read_both.Goals as goal

pub returns-in_err-bytes-clause-cause : goal.returns-in_err-bytes-clause-cause
returns-in_err-bytes-clause-cause g c =
    let p = err_from_is_err_and c.from_residual.result c.from_residual.ensures.1 in
    rw (p.1, p.2) (part_unread (Lrat (lrat_call c.args.call.now)) (seen (g.D.Desk.state c.args.desk.now) (g.D.Desk.state c.read_part.new.desk)) files.Formula
    c.args.call.now.formula.now c.in_err-bytes.field-0.0 (λ e. cc) refl tt c.in_err-bytes.ensures.cause)

pub returns-in_err-bytes-clause-left : goal.returns-in_err-bytes-clause-left
returns-in_err-bytes-clause-left g c =
    let p = err_from_is_err_and c.from_residual.result c.from_residual.ensures.1 in
    rw (p.1, p.2) (read_more (seen (g.D.Desk.state c.args.desk.now) (g.D.Desk.state c.read_part.new.desk)) (files.Formula, c.args.call.now.formula.now)
    ((files.Proof, c.args.call.now.proof.now) ∷ []) c.in_err-bytes.field-0.0 c.in_err-bytes.ensures.cause
    c.in_err-bytes.ensures.left)

pub returns-in_err-formula-clause-cause : goal.returns-in_err-formula-clause-cause
returns-in_err-formula-clause-cause g c =
    let p = err_from_is_err_and c.from_residual-in_err-formula.result c.from_residual-in_err-formula.ensures.1 in
    rw (p.1, p.2) (formula_refused (lrat_call c.args.call.now) (seen (g.D.Desk.state c.args.desk.now) (g.D.Desk.state c.read_part.new.desk)) c.in_ok-bytes.bytes.items c.deref.result.now
    c.in_err-formula.field-0.0 c.deref.ensures.value c.in_ok-bytes.ensures.short c.in_ok-bytes.ensures.whole c.in_err-formula.ensures.cause)

pub returns-in_err-formula-clause-left : goal.returns-in_err-formula-clause-left
returns-in_err-formula-clause-left g c =
    let p = err_from_is_err_and c.from_residual-in_err-formula.result c.from_residual-in_err-formula.ensures.1 in
    let a = g.D.Desk.state c.args.desk.now in
    let b = g.D.Desk.state c.read_part.new.desk in
    rw (p.1, p.2) (read_then (files_of (Lrat (lrat_call c.args.call.now))) (seen a b) c.in_err-formula.field-0.0 c.in_err-formula.ensures.read
    (fine_first a b files.Formula c.args.call.now.formula.now ((files.Proof, c.args.call.now.proof.now) ∷ []) c.in_ok-bytes.ensures.read))

pub returns-in_err-bytes-2-clause-left : goal.returns-in_err-bytes-2-clause-left
returns-in_err-bytes-2-clause-left g c =
    let p = err_from_is_err_and c.from_residual-in_err-bytes-2.result c.from_residual-in_err-bytes-2.ensures.1 in
    let a = g.D.Desk.state c.args.desk.now in
    let b = g.D.Desk.state c.read_part.new.desk in
    let e = g.D.Desk.state c.read_part-2.new.desk in
    rw (p.1, p.2) (read_after a b e files.Formula c.args.call.now.formula.now ((files.Proof, c.args.call.now.proof.now) ∷ []) c.in_err-bytes-2.field-0.0
    c.read_part.ensures.text c.in_ok-bytes.ensures.read c.in_err-bytes-2.ensures.left)

pub returns-in_err-proof-clause-left : goal.returns-in_err-proof-clause-left
returns-in_err-proof-clause-left g c =
    let p = err_from_is_err_and c.from_residual-in_err-proof.result c.from_residual-in_err-proof.ensures.1 in
    let a = g.D.Desk.state c.args.desk.now in
    let b = g.D.Desk.state c.read_part.new.desk in
    let e = g.D.Desk.state c.read_part-2.new.desk in
    rw (p.1, p.2) (read_then (files_of (Lrat (lrat_call c.args.call.now))) (seen a e) c.in_err-proof.field-0.0 c.in_err-proof.ensures.read
    (fine_after a b e files.Formula c.args.call.now.formula.now ((files.Proof, c.args.call.now.proof.now) ∷ []) c.in_ok-bytes.ensures.read
    (fine_first b e files.Proof c.args.call.now.proof.now [] c.in_ok-bytes-2.ensures.read)))

pub returns-clause-read : goal.returns-clause-read
returns-clause-read g c =
    let a = g.D.Desk.state c.args.desk.now in
    let b = g.D.Desk.state c.read_part.new.desk in
    let e = g.D.Desk.state c.read_part-2.new.desk in
    all_after a b e files.Formula c.args.call.now.formula.now ((files.Proof, c.args.call.now.proof.now) ∷ []) c.read_part.ensures.text c.in_ok-bytes.ensures.read
    (all_one b e files.Proof c.args.call.now.proof.now c.in_ok-bytes-2.ensures.read)
