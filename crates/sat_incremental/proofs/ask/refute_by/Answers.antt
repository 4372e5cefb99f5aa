use Rattle.std.proofs.Common.{ℕ, ℤ, List, sym, ◌∙◌, subst, refl}
use Rattle.sat_learn.specs.Reasons.{HasId}
use Rattle.sat_solver.specs.LearnedLemma.{IsProofIdOf}
use Rattle.sat_solver.proofs.ProofIds.{live_under, small_id}
use Rattle.sat_incremental.specs.Entries.{given, live}
use Rattle.sat_incremental.proofs.ask.refute_by.Goals as goal

pub refute-requires-clause-search : goal.refute-requires-clause-search
refute-requires-clause-search c = (given c.args.search.now.entries, c.requires.search)

pub refute-requires-clause-has_id : goal.refute-requires-clause-has_id
refute-requires-clause-has_id c =
    let s = c.args.search.now in
    let name = c.proof_id_of-id.result in
    let sound = c.requires.search.sound in
    let N : List ℕ → Type 0 = λ ns. IsProofIdOf ns c.args.conflict name in
    let C : List ℤ → Type 0 = λ ls. HasId (live s.entries) name ls in
    subst C (sym (c.as_slice-2.ensures ∙ c.in_ok-clause.ensures))
    (live_under (live s.entries) s.premises.book.clauses s.premises.proof_ids.items s.premises.trail.assignments c.args.conflict name c.clause.result.now sound.has_id (subst N c.as_slice.ensures.value c.proof_id_of-id.ensures) c.clause.ensures)

pub refute-requires-clause-small : goal.refute-requires-clause-small
refute-requires-clause-small c =
    let s = c.args.search.now in
    let name = c.proof_id_of-id.result in
    let sound = c.requires.search.sound in
    let N : List ℕ → Type 0 = λ ns. IsProofIdOf ns c.args.conflict name in
    small_id s.premises.book.clauses s.premises.proof_ids.items c.args.conflict name c.clause.result.now sound.one_id sound.small_ids (subst N c.as_slice.ensures.value c.proof_id_of-id.ensures) c.clause.ensures
