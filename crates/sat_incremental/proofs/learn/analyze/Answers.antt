use Rattle.std.proofs.Common.{ℕ, List, subst}
use Rattle.sat_solver.specs.LearnedLemma.{IsProofIdOf}
use Rattle.sat_solver.proofs.ProofIds.{live_under}
use Rattle.sat_incremental.specs.Entries.{live}
use Rattle.sat_incremental.proofs.learn.analyze.Goals as goal

pub returns-clause-follows : goal.returns-clause-follows
returns-clause-follows c =
    let search = c.args.search.now in
    let s = c.requires.search.sound in
    let pairs = live search.entries in
    let Q : List ℕ → Type 0 = λ proof_ids. IsProofIdOf proof_ids c.args.conflict c.proof_id_of-id.result in
    let named = subst Q c.as_slice.ensures.value c.proof_id_of-id.ensures in
    c.in_ok-learned.ensures.follows pairs s.has_id
    (live_under pairs search.premises.book.clauses search.premises.proof_ids.items search.premises.trail.assignments c.args.conflict c.proof_id_of-id.result c.clause-clause.result.now s.has_id named c.clause-clause.ensures)
