use Rattle.std.proofs.Common.{◌≡◌, ◌<◌, ◌^◌, pos, Some, length, get_or, ap, sym, ◌∙◌, arith}
use Rattle.std.specs.List.{slice_get}
use Rattle.std.proofs.lemmas.Int.{to_z_pos}
use Rattle.std.proofs.lemmas.List.{get_or_read}
use Rattle.std.proofs.lemmas.List.Elements.{All-get_or}
use Rattle.std.proofs.lemmas.Option.{slice_get_within}
use mir.Syntax.{w64}
use Rattle.sat_trail.specs.declared.clause_id.ClauseId.{ClauseId}
use Rattle.sat_trail.specs.declared.clause_id.ClauseId.TheVariants as ids
use Rattle.sat_learn.proofs.Antecedents.{reason_read, reason_assignment, book_reason, unit_reason, antecedent_book, antecedent_unit}
use Rattle.sat_learn.proofs.antecedent.find_antecedent.Goals as goal

pub clause-requires : goal.clause-requires
clause-requires c =
    let t = c.args.premises.now.trail in
    let found = reason_assignment t.assignments c.args.var (ids.Book c.in-Some-Book.at) (sym (c.in-Some-Book.is ∙ ap (λ (r : ClauseId). Some r) c.in-Some-Book.field-0-is) ∙ c.reason_of.ensures) in
    let reason = book_reason c.args.premises.now.book.clauses c.args.premises.now.proof_ids.items t found.0 found.1 c.in-Some-Book.at c.requires.explained found.2 found.3 in
    (reason.0, reason.1)

pub index-requires : goal.index-requires
index-requires c =
    let within = slice_get_within c.args.premises.now.book.clauses c.in-Some-Book.at c.clause.result.now c.clause.ensures in
    omega (arith, c.requires.explained.one_each)

pub overflow_cast-result-in-Some-Unit : goal.overflow_cast-result-in-Some-Unit
overflow_cast-result-in-Some-Unit c =
    let t = c.args.premises.now.trail in
    let found = reason_assignment t.assignments c.args.var (ids.Unit c.in-Some-Unit.id) (sym (c.in-Some-Unit.is ∙ ap (λ (r : ClauseId). Some r) c.in-Some-Unit.field-0-is) ∙ c.reason_of.ensures) in
    let small : c.in-Some-Unit.id < 2 ^ 62 = unit_reason c.args.premises.now.book.clauses c.args.premises.now.proof_ids.items t found.0 found.1 c.in-Some-Unit.id c.requires.explained found.2 found.3 in
    omega arith

pub returns-in-Some-Book : goal.returns-in-Some-Book
returns-in-Some-Book c place p there of_var =
    let t = c.args.premises.now.trail in
    let is : p.reason ≡ Some (ids.Book c.in-Some-Book.at) = sym (reason_read t place p c.args.var c.reason_of.result c.requires.explained.trail there of_var c.reason_of.ensures) ∙ c.in-Some-Book.is ∙ ap (λ (r : ClauseId). Some r) c.in-Some-Book.field-0-is in
    let at_is : slice_get c.args.premises.now.book.clauses c.in-Some-Book.at ≡ Some c.clause.result.now = c.clause.ensures in
    let within : c.in-Some-Book.at < length c.args.premises.now.proof_ids.items = (let w = slice_get_within c.args.premises.now.book.clauses c.in-Some-Book.at c.clause.result.now c.clause.ensures in omega (arith, c.requires.explained.one_each)) in
    let read : c.index.result.now ≡ get_or c.args.premises.now.proof_ids.items c.in-Some-Book.at 0 = get_or_read c.args.premises.now.proof_ids.items c.in-Some-Book.at c.index.result.now within c.index.ensures 0 in
    let small : get_or c.args.premises.now.proof_ids.items c.in-Some-Book.at 0 < 2 ^ 62 = All-get_or (λ name. name < 2 ^ 62) c.args.premises.now.proof_ids.items c.in-Some-Book.at 0 within c.requires.explained.small in
    antecedent_book c.args.premises.now.book.clauses c.args.premises.now.proof_ids.items t place p c.in-Some-Book.at c.clause.result.now _ c.requires.explained there is at_is
    (to_z_pos w64 c.index.result.now (omega arith) ∙ ap pos read)

pub returns-in-Some-Unit : goal.returns-in-Some-Unit
returns-in-Some-Unit c place p there of_var =
    let t = c.args.premises.now.trail in
    let is : p.reason ≡ Some (ids.Unit c.in-Some-Unit.id) = sym (reason_read t place p c.args.var c.reason_of.result c.requires.explained.trail there of_var c.reason_of.ensures) ∙ c.in-Some-Unit.is ∙ ap (λ (r : ClauseId). Some r) c.in-Some-Unit.field-0-is in
    let small : c.in-Some-Unit.id < 2 ^ 62 = unit_reason c.args.premises.now.book.clauses c.args.premises.now.proof_ids.items t place p c.in-Some-Unit.id c.requires.explained there is in
    antecedent_unit c.args.premises.now.book.clauses c.args.premises.now.proof_ids.items t place p c.in-Some-Unit.id _ there is
    (to_z_pos w64 c.in-Some-Unit.id (omega arith))

pub returns-in-None : goal.returns-in-None
returns-in-None c place p there of_var = sym (reason_read c.args.premises.now.trail place p c.args.var c.reason_of.result c.requires.explained.trail there of_var c.reason_of.ensures) ∙ c.in-None.is
