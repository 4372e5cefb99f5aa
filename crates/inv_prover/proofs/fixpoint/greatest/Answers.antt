use Rattle.std.proofs.Common.{◌≤◌, ◌<◌, ℤ, List, length, subst, arith}
use Rattle.aig_model.specs.LatchClauses.{IsLatchClause}
use Rattle.inv_cert.specs.Resets.{HoldsAtReset}
use Rattle.inv_prover.specs.Greatest.{ArePicked}
use Rattle.inv_prover.specs.Answers.{AreKept}
use Rattle.inv_prover.specs.Search.{AreAskable, AreLeft, IsRound, Shrinks}
use Rattle.inv_prover.proofs.Parts.{each, fewer}
use Rattle.inv_prover.proofs.Shrinking.{askable, begin, contains_greatest, go_on, whole}
use Rattle.inv_prover.proofs.fixpoint.greatest.Goals as goal

pub loop-framed-init : goal.loop-framed-init
loop-framed-init c =
    let circuit = c.args.circuit.now in
    let candidates = c.args.candidates.now in
    let picked = c.in_ok-clauses.clauses in
    let first : AreLeft circuit candidates picked =
    begin circuit candidates picked (subst (λ (all : List (List ℤ)). ArePicked (HoldsAtReset circuit) all picked) c.as_slice.ensures c.in_ok-clauses.ensures)
    in
    record {
      left = go_on circuit candidates picked c.leave_out_by_walk.new.clauses first c.in_ok-leave_out_by_walk.ensures;
      frames = c.in_ok-framed.ensures;
    }

pub leave_out_by_walk-requires-clause-latches : goal.leave_out_by_walk-requires-clause-latches
leave_out_by_walk-requires-clause-latches c =
    let picked : ArePicked (HoldsAtReset c.args.circuit.now) c.args.candidates.now c.in_ok-clauses.clauses =
    subst (λ (all : List (List ℤ)). ArePicked (HoldsAtReset c.args.circuit.now) all c.in_ok-clauses.clauses) c.as_slice.ensures c.in_ok-clauses.ensures
    in
    each (IsLatchClause c.args.circuit.now) c.in_ok-clauses.clauses c.args.candidates.now picked.part c.requires.latches

pub leave_out_by_walk-requires-clause-starts : goal.leave_out_by_walk-requires-clause-starts
leave_out_by_walk-requires-clause-starts c = c.in_ok-clauses.ensures.hold

pub ask_all-requires-clause-clauses : goal.ask_all-requires-clause-clauses
ask_all-requires-clause-clauses c =
    askable c.args.circuit.now c.args.candidates.now c.loop-framed.clauses
    (record { latches = c.requires.latches; few = c.requires.few_clauses; short = c.requires.short }) c.loop-framed.invariant.left.shrinks.part

pub returns-in-Whole : goal.returns-in-Whole
returns-in-Whole c =
    let circuit = c.args.circuit.now in
    let candidates = c.args.candidates.now in
    let clauses = c.loop-framed.clauses in
    let ask : AreAskable circuit clauses =
    askable circuit candidates clauses (record { latches = c.requires.latches; few = c.requires.few_clauses; short = c.requires.short }) c.loop-framed.invariant.left.shrinks.part
    in
    let kept : AreKept circuit clauses c.args.lemmas c.in-Whole.kept = subst (IsRound circuit clauses c.args.lemmas) c.in-Whole.is c.in_ok-kept.ensures.round in
    whole circuit candidates clauses c.args.lemmas c.in-Whole.kept c.is_well_formed.ensures ask c.loop-framed.invariant.left kept

pub returns-in-Spent : goal.returns-in-Spent
returns-in-Spent c =
    let circuit = c.args.circuit.now in
    let clauses = c.loop-framed.clauses in
    let spent = subst (IsRound circuit clauses c.args.lemmas) c.in-Spent.is c.in_ok-kept.ensures.round in
    record {
      greatest = contains_greatest circuit c.args.candidates.now clauses c.loop-framed.invariant.left;
      inside = spent.0;
      spending = spent.1;
    }

pub leave_out-requires-clause-clauses : goal.leave_out-requires-clause-clauses
leave_out-requires-clause-clauses c =
    askable c.args.circuit.now c.args.candidates.now c.loop-framed.clauses
    (record { latches = c.requires.latches; few = c.requires.few_clauses; short = c.requires.short }) c.loop-framed.invariant.left.shrinks.part

pub leave_out_from-requires-clause-clauses : goal.leave_out_from-requires-clause-clauses
leave_out_from-requires-clause-clauses c =
    let circuit = c.args.circuit.now in
    let clauses = c.loop-framed.clauses in
    let ask : AreAskable circuit clauses =
    askable circuit c.args.candidates.now clauses (record { latches = c.requires.latches; few = c.requires.few_clauses; short = c.requires.short }) c.loop-framed.invariant.left.shrinks.part
    in
    let shrinks : Shrinks circuit clauses c.leave_out.new.clauses = c.in_ok-leave_out-in-Broken.ensures.shrinks in
    askable circuit clauses c.leave_out.new.clauses ask shrinks.part

pub loop-framed-smaller : goal.loop-framed-smaller
loop-framed-smaller c =
    let less : length c.leave_out.new.clauses < length c.loop-framed.clauses = c.in_ok-leave_out-in-Broken.ensures.fewer in
    let shrinks : Shrinks c.args.circuit.now c.leave_out.new.clauses c.leave_out_from.new.clauses = c.in_ok-leave_out_from-in-Broken.ensures.shrinks in
    let more : length c.leave_out_from.new.clauses ≤ length c.leave_out.new.clauses = fewer c.leave_out_from.new.clauses c.leave_out.new.clauses shrinks.part in
    omega (arith, less, more)

pub loop-framed-preserved : goal.loop-framed-preserved
loop-framed-preserved c =
    let circuit = c.args.circuit.now in
    let candidates = c.args.candidates.now in
    let first : AreLeft circuit candidates c.leave_out.new.clauses =
    go_on circuit candidates c.loop-framed.clauses c.leave_out.new.clauses c.loop-framed.invariant.left c.in_ok-leave_out-in-Broken.ensures.shrinks
    in
    record {
      left = go_on circuit candidates c.leave_out.new.clauses c.leave_out_from.new.clauses first c.in_ok-leave_out_from-in-Broken.ensures.shrinks;
      frames = c.in_ok-leave_out_from-in-Broken.ensures.frames;
    }
