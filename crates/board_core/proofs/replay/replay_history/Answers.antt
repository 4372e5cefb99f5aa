use Rattle.std.proofs.Common.{refl, ◌∙◌, arith, take}
use Rattle.board_core.specs.declared.fault.HistoryKind.TheVariants as kinds
use Rattle.board_core.proofs.FirstFaults.{below}
use Rattle.board_core.proofs.Replayed.{fault_ok, fault_err, legal_ok, legal_err, fault_here, none_here, none_below, posts_more, all_faultless}
use Rattle.board_core.proofs.replay.replay_history.Goals as goal

pub returns-in-Some-clause-ok : goal.returns-in-Some-clause-ok
returns-in-Some-clause-ok c =
    let i = c.loop-place.invariant in
    let fault = fault_here c.args.options.now c.args.goals c.args.entries.now c.as_slice-entry-items.result.now c.loop-place.place c.in-Some.kind _ c.loop-place.posts.verdicts.items c.loop-place.posts.posted.items
    c.as_slice-entry-items.ensures c.loop-place-test.true i.goals i.posts i.faultless c.in-Some.ensures in
    fault_ok c.args.options.now c.args.goals c.args.entries.now c.loop-place.place c.in-Some.kind _ refl fault

pub returns-in-Some-clause-fault : goal.returns-in-Some-clause-fault
returns-in-Some-clause-fault c =
    let i = c.loop-place.invariant in
    let fault = fault_here c.args.options.now c.args.goals c.args.entries.now c.as_slice-entry-items.result.now c.loop-place.place c.in-Some.kind _ c.loop-place.posts.verdicts.items c.loop-place.posts.posted.items
    c.as_slice-entry-items.ensures c.loop-place-test.true i.goals i.posts i.faultless c.in-Some.ensures in
    fault_err c.args.options.now c.args.goals c.args.entries.now c.loop-place.place c.in-Some.kind _ refl fault

pub add-requires-clause-caller : goal.add-requires-clause-caller
add-requires-clause-caller c =
    let i = c.loop-place.invariant in
    let none = none_here c.args.options.now c.args.goals c.args.entries.now c.as_slice-entry-items.result.now c.loop-place.place _ c.loop-place.posts.verdicts.items c.loop-place.posts.posted.items
    c.as_slice-entry-items.ensures c.loop-place-test.true i.goals i.posts c.in_default.ensures in
    below _ 8 (none kinds.Caller)

pub add-requires-clause-goal : goal.add-requires-clause-goal
add-requires-clause-goal c =
    let i = c.loop-place.invariant in
    let none = none_here c.args.options.now c.args.goals c.args.entries.now c.as_slice-entry-items.result.now c.loop-place.place _ c.loop-place.posts.verdicts.items c.loop-place.posts.posted.items
    c.as_slice-entry-items.ensures c.loop-place-test.true i.goals i.posts c.in_default.ensures in
    let small = below _ c.args.goals (none kinds.Goal) in
    omega (arith, small, i.goals)

pub loop-place-preserved : goal.loop-place-preserved
loop-place-preserved c =
    let i = c.loop-place.invariant in
    let none = none_here c.args.options.now c.args.goals c.args.entries.now c.as_slice-entry-items.result.now c.loop-place.place _ c.loop-place.posts.verdicts.items c.loop-place.posts.posted.items
    c.as_slice-entry-items.ensures c.loop-place-test.true i.goals i.posts c.in_default.ensures in
    record {
      items = c.as_slice-entry-items.ensures;
      goals = c.add.ensures.size.1 ∙ i.goals;
      size = omega (arith, c.add.ensures.size.0, c.add.ensures.size.1, i.size);
      posts = posts_more c.args.entries.now c.as_slice-entry-items.result.now c.loop-place.place _ c.add.new.self.verdicts.items c.add.new.self.posted.items c.as_slice-entry-items.ensures c.loop-place-test.true
          (c.add.ensures.add (take c.loop-place.place c.args.entries.now) i.posts);
      faultless = none_below c.args.options.now c.args.goals c.args.entries.now c.as_slice-entry-items.result.now c.loop-place.place _ c.as_slice-entry-items.ensures c.loop-place-test.true i.faultless none;
    }

pub returns-clause-ok : goal.returns-clause-ok
returns-clause-ok c =
    let i = c.loop-place.invariant in
    legal_ok c.args.options.now c.args.goals c.args.entries.now _ (all_faultless c.args.options.now c.args.goals c.args.entries.now c.as_slice-entry-items.result.now c.loop-place.place c.as_slice-entry-items.ensures c.loop-place-test.false i.faultless)

pub returns-clause-fault : goal.returns-clause-fault
returns-clause-fault c =
    let i = c.loop-place.invariant in
    legal_err c.args.options.now c.args.goals c.args.entries.now _ (all_faultless c.args.options.now c.args.goals c.args.entries.now c.as_slice-entry-items.result.now c.loop-place.place c.as_slice-entry-items.ensures c.loop-place-test.false i.faultless)
