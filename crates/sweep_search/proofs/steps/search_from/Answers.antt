use Rattle.std.proofs.Common.{◌≡◌, ◌<◌, ◌≤◌, ◌+◌, ℕ, List, sym, subst, ◌∙◌, arith, All}
use Rattle.unroll.specs.declared.start.Start.{Start}
use Rattle.unroll.specs.Framing.{HasFrames}
use Rattle.sweep_search.specs.Sweep.{IsSpentFrom, AreRefutedIf}
use Rattle.sweep_search.specs.Steps.{IsSearched, IsStepEnd}
use Rattle.sweep_search.specs.declared.search.StepEnd.{StepEnd}
use Rattle.sweep_search.specs.declared.swept.FoundGoal.{FoundGoal}
use Rattle.sweep_search.proofs.Endings.{search_to_depth, search_to_all, search_to_spent, shallow_of}
use Rattle.sweep_search.proofs.Queries.{kept_more, kept_still}
use Rattle.sweep_search.proofs.Searched.{own_frames}
use Rattle.sweep_search.proofs.steps.search_from.Goals as goal

pub search_step-requires-clause-frames : goal.search_step-requires-clause-frames
search_step-requires-clause-frames c =
    own_frames c.args.circuit.now c.args.start.now c.loop-step.step c.loop-step.framed (c.loop-step.invariant.frames (omega arith))

pub search_step-requires-clause-searched : goal.search_step-requires-clause-searched
search_step-requires-clause-searched c =
    subst (λ (s : Start). IsSearched c.args.circuit.now c.args.signals.now.lits s c.args.known.now c.loop-step.step c.loop-step.found)
    (sym (c.loop-step.invariant.frames (omega arith)).start_is) c.loop-step.invariant.searched

pub returns-in-AllSettled : goal.returns-in-AllSettled
returns-in-AllSettled c =
    let circuit = c.args.circuit.now in
    let sig = c.args.signals.now.lits in
    let start = c.args.start.now in
    let known = c.args.known.now in
    let step = c.loop-step.step in
    let now = c.search_step.new.found in
    let P : StepEnd → Type 0 = λ e. IsStepEnd circuit sig start known step c.args.lemmas now e in
    let inside : step ≤ c.args.depth = omega arith in
    let end = subst P c.in-AllSettled.is
    (subst (λ (s : Start). IsStepEnd circuit sig s known step c.args.lemmas now c.in_ok-query.field-0) (c.loop-step.invariant.frames inside).start_is c.in_ok-query.ensures.end) in
    let at = sym c.swept.ensures.found in
    search_to_all circuit sig start known c.args.depth c.args.lemmas step c.args.keep c.swept.result c.swept.ensures.upto c.swept.ensures.spent inside
    (subst (IsSearched circuit sig start known step) at end.0)
    (subst (λ (fs : List FoundGoal). All (λ (f : FoundGoal). f.step ≤ c.args.depth) fs) at (shallow_of step c.args.depth now inside end.0.near))
    (rw c.swept.ensures.found end.1)
    (subst (λ (fs : List FoundGoal). AreRefutedIf c.args.keep circuit sig start known fs step c.args.lemmas c.swept.result.refuted) at
    (subst (AreRefutedIf c.args.keep circuit sig start known now step c.args.lemmas) (sym c.swept.ensures.refuted)
    (kept_still c.args.keep circuit sig start known c.loop-step.found now step c.args.lemmas c.loop-step.refuted c.in_ok-query.ensures.adds c.loop-step.invariant.refuted)))

pub returns-in-Spent : goal.returns-in-Spent
returns-in-Spent c =
    let circuit = c.args.circuit.now in
    let sig = c.args.signals.now.lits in
    let start = c.args.start.now in
    let known = c.args.known.now in
    let step = c.loop-step.step in
    let now = c.search_step.new.found in
    let P : StepEnd → Type 0 = λ e. IsStepEnd circuit sig start known step c.args.lemmas now e in
    let inside : step ≤ c.args.depth = omega arith in
    let end = subst P c.in-Spent.is
    (subst (λ (s : Start). IsStepEnd circuit sig s known step c.args.lemmas now c.in_ok-query.field-0) (c.loop-step.invariant.frames inside).start_is c.in_ok-query.ensures.end) in
    let ends = c.swept-in-Spent.ensures in
    let at = sym ends.found in
    search_to_spent circuit sig start known c.args.depth c.args.lemmas step c.args.keep c.swept-in-Spent.result c.in-Spent.query ends.upto ends.spent inside
    (subst (IsSearched circuit sig start known step) at end.0)
    (subst (λ (fs : List FoundGoal). All (λ (f : FoundGoal). f.step ≤ c.args.depth) fs) at (shallow_of step c.args.depth now inside end.0.near))
    (subst (λ (fs : List FoundGoal). IsSpentFrom circuit sig start known fs step c.args.lemmas c.in-Spent.query) at end.1)
    (subst (λ (fs : List FoundGoal). AreRefutedIf c.args.keep circuit sig start known fs step c.args.lemmas c.swept-in-Spent.result.refuted) at
    (subst (AreRefutedIf c.args.keep circuit sig start known now step c.args.lemmas) (sym ends.refuted)
    (kept_still c.args.keep circuit sig start known c.loop-step.found now step c.args.lemmas c.loop-step.refuted c.in_ok-query.ensures.adds c.loop-step.invariant.refuted)))

pub returns : goal.returns
returns c =
    let circuit = c.args.circuit.now in
    let sig = c.args.signals.now.lits in
    let start = c.args.start.now in
    let known = c.args.known.now in
    let whole : c.loop-step.step ≡ c.args.depth + 1 = omega arith in
    let ends = c.swept-2.ensures in
    let at = sym ends.found in
    search_to_depth circuit sig start known c.args.depth c.args.lemmas c.args.keep c.swept-2.result ends.upto ends.spent
    (subst (IsSearched circuit sig start known (c.args.depth + 1)) at (subst (λ (n : ℕ). IsSearched circuit sig start known n c.loop-step.found) whole c.loop-step.invariant.searched))
    (subst (λ (fs : List FoundGoal). All (λ (f : FoundGoal). f.step ≤ c.args.depth) fs) at c.loop-step.invariant.shallow)
    (rw ends.found (c.loop-step.invariant.left (omega arith)))
    (subst (λ (fs : List FoundGoal). AreRefutedIf c.args.keep circuit sig start known fs (c.args.depth + 1) c.args.lemmas c.swept-2.result.refuted) at
    (subst (AreRefutedIf c.args.keep circuit sig start known c.loop-step.found (c.args.depth + 1) c.args.lemmas) (sym ends.refuted)
    (subst (λ (n : ℕ). AreRefutedIf c.args.keep circuit sig start known c.loop-step.found n c.args.lemmas c.loop-step.refuted) whole c.loop-step.invariant.refuted)))

pub loop-step-preserved : goal.loop-step-preserved
loop-step-preserved c =
    let circuit = c.args.circuit.now in
    let sig = c.args.signals.now.lits in
    let start = c.args.start.now in
    let known = c.args.known.now in
    let step = c.loop-step.step in
    let now = c.search_step.new.found in
    let P : StepEnd → Type 0 = λ e. IsStepEnd circuit sig start known step c.args.lemmas now e in
    let inside : step ≤ c.args.depth = omega arith in
    let before = c.loop-step.invariant.frames inside in
    let end = subst P c.in-Whole.is (subst (λ (s : Start). IsStepEnd circuit sig s known step c.args.lemmas now c.in_ok-query.field-0) before.start_is c.in_ok-query.ensures.end) in
    let still = kept_still c.args.keep circuit sig start known c.loop-step.found now step c.args.lemmas c.loop-step.refuted c.in_ok-query.ensures.adds c.loop-step.invariant.refuted in
    let next : step < c.args.depth → HasFrames circuit c.search_step.new.framed.start (step + 1) c.next_frame.new.framed = c.in_ok-next_frame-in-Whole.ensures in
    record {
      searched = end.1;
      refuted = subst (AreRefutedIf c.args.keep circuit sig start known now (step + 1) c.args.lemmas) (sym c.in_ok-add_query-in-Whole.ensures)
          (kept_more c.args.keep circuit sig start known now step c.args.lemmas c.loop-step.refuted c.in-Whole.query still end.3);
      left = λ l. end.2;
      shallow = shallow_of step c.args.depth now inside end.0;
      frames = λ l. subst (λ (s : Start). HasFrames circuit s (step + 1) c.next_frame.new.framed) (c.in_ok-query.ensures.frames.start_is ∙ before.start_is) (next (omega (arith, l)));
    }
