use Rattle.std.proofs.Common.{◌≤◌, ◌<◌, ◌^◌, ℤ, List, length, sym, subst, arith}
use Rattle.inv_prover.specs.Search.{Shrinks}
use Rattle.inv_prover.proofs.Parts.{fewer}
use Rattle.inv_prover.proofs.Shrinking.{askable, further, not_yet}
use Rattle.inv_prover.proofs.fixpoint.leave_out_from.Goals as goal
use Rattle.inv_prover.proofs.fixpoint.leave_out_from.Goals.{in-Kept, in-Broken+in_ok-leave_out-in-Broken}

pub loop-place-init : goal.loop-place-init
loop-place-init c = record { shrinks = not_yet c.args.circuit.now c.args.clauses.now; frames = c.requires.frames }

pub is_kept-requires-clause-clauses : goal.is_kept-requires-clause-clauses
is_kept-requires-clause-clauses c = askable c.args.circuit.now c.args.clauses.now c.loop-place.clauses c.requires.clauses c.loop-place.invariant.shrinks.part

pub leave_out-requires-clause-clauses : goal.leave_out-requires-clause-clauses
leave_out-requires-clause-clauses c = askable c.args.circuit.now c.args.clauses.now c.loop-place.clauses c.requires.clauses c.loop-place.invariant.shrinks.part

pub overflow_add-place : goal.overflow_add-place
overflow_add-place c =
    let less : length c.loop-place.clauses ≤ length c.args.clauses.now = fewer c.loop-place.clauses c.args.clauses.now c.loop-place.invariant.shrinks.part in
    let few : length c.args.clauses.now < 2 ^ 32 = c.requires.clauses.few in
    omega (arith, less, few)

pub loop-place-preserved : goal.loop-place-preserved
loop-place-preserved c =
    let circuit = c.args.circuit.now in
    let old = c.args.clauses.now in
    let mid = c.loop-place.clauses in
    record {
      shrinks = elim c.match-branch-2.branch [
        | in-Kept w ↦ subst (λ (new : List (List ℤ)). Shrinks circuit old new) (sym w.clauses-is) c.loop-place.invariant.shrinks
        | in-Broken+in_ok-leave_out-in-Broken w ↦
            let more : Shrinks circuit mid c.match-branch-2.clauses = subst (λ (new : List (List ℤ)). Shrinks circuit mid new) (sym w.clauses-is) w.in_ok-leave_out-in-Broken.ensures.shrinks in
            further circuit old mid c.match-branch-2.clauses c.loop-place.invariant.shrinks more
      ];
      frames = c.in_ok-next.ensures.frames;
    }
