use Rattle.std.proofs.Common.{◌≡◌, ℕ, ◌<◌, [], length, get_or}
use Rattle.unroll.specs.declared.start.Start.TheVariants.{Any}
use Rattle.unroll.specs.Framing.{HasFrames}
use Rattle.unroll.specs.Queries.{kept_formula}
use Rattle.sat_solver.specs.Answer.{IsRefutation}
use Rattle.inv_prover.proofs.round.ask_all.Given as goal

abbrev pub invariant-loop-place : goal.invariant-loop-place
invariant-loop-place l = record {
  count : length l.proofs ≡ l.place;
  refutations : (k : ℕ) → k < l.place → IsRefutation (kept_formula l.circuit l.clauses k) l.lemmas (get_or l.proofs k []);
  frames : HasFrames l.circuit Any 0 l.framed;
}
