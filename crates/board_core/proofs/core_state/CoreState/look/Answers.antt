use Rattle.std.proofs.Common.{◌≡◌, ◌<◌, Some, None, Option, length, get_or, set, ap, subst, ◌∙◌, arith}
use Rattle.std.proofs.lemmas.List.{get_or_read}
use Rattle.board_core.specs.Core.{core_of, with_look}
use Rattle.board_core.specs.Good.{IsSound}
use Rattle.board_core.specs.declared.event.Event.TheVariants.{Look}
use Rattle.board_core.specs.declared.view.GoalMark.{GoalMark}
use Rattle.board_core.proofs.Kept.{stays_sound}
use Rattle.board_core.proofs.Parts.{look_after, live_inside, goal_inside, read_view, mark_below, some_less}
use Rattle.board_core.proofs.core_state.CoreState.look.Goals as goal

pub look-requires : goal.look-requires
look-requires c =
    let hs = c.self.inside.history.items in
    let ms = c.self.inside.marks.items in
    let vs = c.self.inside.views.items in
    let few : length c.self.inside.history.items < 18446744073709551615 = omega (arith, c.self.inside.history.ok.0, c.self.inside.history.ok.1, c.self.inside.history.small) in
    some_less (length hs) 18446744073709551615 c.index-mark.result.now (omega arith)
    (mark_below hs ms vs c.args.goal c.index-mark.result.now c.self.invariant (goal_inside hs ms vs c.args.self.now c.self.view_is c.args.goal c.requires.range) c.index-mark.ensures)

pub invariant_of-self-2 : goal.invariant_of-self-2
invariant_of-self-2 c =
    let hs = c.self.inside.history.items in
    let ms = c.self.inside.marks.items in
    let vs = c.self.inside.views.items in
    let inside = live_inside hs ms vs c.args.self.now c.self.view_is c.args.caller c.requires.view c.requires.live in
    let here = read_view vs c.args.caller c.index_mut.result.now c.in-Some.view inside c.index_mut.ensures.value c.in-Some.is in
    let mark : c.index-mark.result.now ≡ get_or ms c.args.goal None = get_or_read ms c.args.goal c.index-mark.result.now (goal_inside hs ms vs c.args.self.now c.self.view_is c.args.goal c.requires.range) c.index-mark.ensures None in
    let view = c.in_ok-look.ensures.ok ∙ ap (λ (m : Option GoalMark). with_look c.in-Some.view c.args.goal m) mark in
    let after = look_after hs ms vs c.args.self.now c.self.view_is c.args.caller c.args.goal c.requires c.in-Some.view c.look.new.self here view in
    stays_sound c.args.self.now (core_of hs ms (set vs c.args.caller (Some c.look.new.self))) (Look c.args.caller c.args.goal) c.requires after (subst IsSound c.self.view_is c.self.invariant)

pub returns-clause-step : goal.returns-clause-step
returns-clause-step c =
    let hs = c.self.inside.history.items in
    let ms = c.self.inside.marks.items in
    let vs = c.self.inside.views.items in
    let inside = live_inside hs ms vs c.args.self.now c.self.view_is c.args.caller c.requires.view c.requires.live in
    let here = read_view vs c.args.caller c.index_mut.result.now c.in-Some.view inside c.index_mut.ensures.value c.in-Some.is in
    let mark : c.index-mark.result.now ≡ get_or ms c.args.goal None = get_or_read ms c.args.goal c.index-mark.result.now (goal_inside hs ms vs c.args.self.now c.self.view_is c.args.goal c.requires.range) c.index-mark.ensures None in
    let view = c.in_ok-look.ensures.ok ∙ ap (λ (m : Option GoalMark). with_look c.in-Some.view c.args.goal m) mark in
    record {
      can = c.requires;
      after = look_after hs ms vs c.args.self.now c.self.view_is c.args.caller c.args.goal c.requires c.in-Some.view c.look.new.self here view;
    }
