use Rattle.std.proofs.Common.{ℕ, List, subst}
use Rattle.sat_solver.specs.Ledger.{earlier, live}
use Rattle.sat_solver.specs.LearnedLemma.{IsProofIdOf}
use Rattle.sat_solver.proofs.FreshLemmas.{learned_earned, learned_lemma}
use Rattle.sat_solver.proofs.ProofIds.{live_under}
use Rattle.sat_solver.proofs.analysis.analyze.Goals as goal

pub returns-clause-learned_from : goal.returns-clause-learned_from
returns-clause-learned_from c formula s =
    let search = c.args.search.now in
    let pairs = live formula search.steps in
    let done = earlier formula search.steps in
    let learned = c.in_ok-learned.learned in
    let trail = c.is_well_formed.ensures in
    let is_learned = c.in_ok-learned.ensures.learned in
    let earned = learned_earned formula.vars pairs done search.premises.proof_ids.items search.premises.book search.premises.trail learned s.sound c.requires.ready trail is_learned in
    let Q : List ℕ → Type 0 = λ proof_ids. IsProofIdOf proof_ids c.args.conflict c.proof_id_of-id.result in
    let named = subst Q c.as_slice.ensures.value c.proof_id_of-id.ensures in
    record {
      is_learned = is_learned;
      follows = c.in_ok-learned.ensures.follows pairs s.sound.has_id
          (live_under pairs search.premises.book.clauses search.premises.proof_ids.items search.premises.trail.assignments c.args.conflict c.proof_id_of-id.result c.clause-clause.result.now s.sound.has_id named c.clause-clause.ensures);
      new_lemma = learned_lemma search.premises.trail learned done trail is_learned earned;
      earned = earned;
    }
