use Rattle.std.proofs.Common.{Some, None, set, subst}
use Rattle.board_core.specs.Core.{core_of}
use Rattle.board_core.specs.Good.{IsSound}
use Rattle.board_core.specs.declared.event.Event.TheVariants.{Join}
use Rattle.board_core.proofs.Kept.{stays_sound}
use Rattle.board_core.proofs.Parts.{join_after, live_inside, found_view}
use Rattle.board_core.proofs.core_state.CoreState.join.Goals as goal

pub invariant_of-self : goal.invariant_of-self
invariant_of-self c =
    let hs = c.self.inside.history.items in
    let ms = c.self.inside.marks.items in
    let vs = c.self.inside.views.items in
    let from = found_view vs c.deref.result.now c.args.from c.in-Some-Some.field-0.now c.in-Some-Some.ends c.deref.ensures.value c.in-Some-Some.ensures.lookup.1
    (live_inside hs ms vs c.args.self.now c.self.view_is c.args.from c.requires.from c.requires.from_live) c.in-Some-Some.field-0-is in
    let into = found_view vs c.deref-2.result.now c.args.into c.in-Some-Some-get.field-0.now c.in-Some-Some-get.stays c.deref-2.ensures.value c.in-Some-Some-get.ensures.lookup.1
    (live_inside hs ms vs c.args.self.now c.self.view_is c.args.into c.requires.into c.requires.into_live) c.in-Some-Some-get.field-0-is in
    let after = join_after hs ms vs c.args.self.now c.self.view_is c.args.from c.args.into c.requires c.in-Some-Some.ends c.in-Some-Some-get.stays c.in_ok-both.both from into c.in_ok-both.ensures in
    stays_sound c.args.self.now (core_of hs ms (set (set vs c.args.from None) c.args.into (Some c.in_ok-both.both))) (Join c.args.from c.args.into) c.requires after (subst IsSound c.self.view_is c.self.invariant)

pub returns-clause-step : goal.returns-clause-step
returns-clause-step c =
    let hs = c.self.inside.history.items in
    let ms = c.self.inside.marks.items in
    let vs = c.self.inside.views.items in
    let from = found_view vs c.deref.result.now c.args.from c.in-Some-Some.field-0.now c.in-Some-Some.ends c.deref.ensures.value c.in-Some-Some.ensures.lookup.1
    (live_inside hs ms vs c.args.self.now c.self.view_is c.args.from c.requires.from c.requires.from_live) c.in-Some-Some.field-0-is in
    let into = found_view vs c.deref-2.result.now c.args.into c.in-Some-Some-get.field-0.now c.in-Some-Some-get.stays c.deref-2.ensures.value c.in-Some-Some-get.ensures.lookup.1
    (live_inside hs ms vs c.args.self.now c.self.view_is c.args.into c.requires.into c.requires.into_live) c.in-Some-Some-get.field-0-is in
    record {
      can = c.requires;
      after = join_after hs ms vs c.args.self.now c.self.view_is c.args.from c.args.into c.requires c.in-Some-Some.ends c.in-Some-Some-get.stays c.in_ok-both.both from into c.in_ok-both.ensures;
    }
