use Rattle.std.proofs.Common.{◌≡◌, ◌<◌, Some, None, Option, length, get_or, set, ap, subst, ◌∙◌, arith}
use Rattle.std.specs.Option.{unwrap_or}
use Rattle.std.proofs.lemmas.List.{get_or_read}
use Rattle.board_core.specs.Core.{core_of, first_mark, mark_by}
use Rattle.board_core.specs.Good.{IsSound}
use Rattle.board_core.specs.declared.event.Event.TheVariants.{Mark}
use Rattle.board_core.specs.declared.view.GoalMark.{GoalMark}
use Rattle.board_core.proofs.Kept.{stays_sound}
use Rattle.board_core.proofs.Parts.{mark_after, live_inside, read_view, unmarked_inside, first_unwrapped}
use Rattle.board_core.proofs.core_state.CoreState.mark.Goals as goal

pub index-requires : goal.index-requires
index-requires c =
    let hs = c.self.inside.history.items in
    let ms = c.self.inside.marks.items in
    let vs = c.self.inside.views.items in
    let inside = live_inside hs ms vs c.args.self.now c.self.view_is c.args.caller c.requires.view c.requires.live in
    let here = read_view vs c.args.caller c.index_mut.result.now c.in-Some.view inside c.index_mut.ensures.value c.in-Some.is in
    let below : c.in-Some-unmarked.entry.goal < length c.self.inside.marks.items = unmarked_inside hs ms vs c.args.caller c.in-Some.view c.in-Some-unmarked.entry c.self.invariant here c.in-Some-unmarked.is in
    omega (arith, c.self.inside.marks.ok.0)

pub index_mut-requires-2 : goal.index_mut-requires-2
index_mut-requires-2 c =
    let hs = c.self.inside.history.items in
    let ms = c.self.inside.marks.items in
    let vs = c.self.inside.views.items in
    let inside = live_inside hs ms vs c.args.self.now c.self.view_is c.args.caller c.requires.view c.requires.live in
    let here = read_view vs c.args.caller c.index_mut.result.now c.in-Some.view inside c.index_mut.ensures.value c.in-Some.is in
    let below : c.in-Some-unmarked.entry.goal < length c.self.inside.marks.items = unmarked_inside hs ms vs c.args.caller c.in-Some.view c.in-Some-unmarked.entry c.self.invariant here c.in-Some-unmarked.is in
    omega (arith, c.self.inside.marks.ok.0)

pub invariant_of-self-2 : goal.invariant_of-self-2
invariant_of-self-2 c =
    let hs = c.self.inside.history.items in
    let ms = c.self.inside.marks.items in
    let vs = c.self.inside.views.items in
    let e = c.in-Some-unmarked.entry in
    let inside = live_inside hs ms vs c.args.self.now c.self.view_is c.args.caller c.requires.view c.requires.live in
    let here = read_view vs c.args.caller c.index_mut.result.now c.in-Some.view inside c.index_mut.ensures.value c.in-Some.is in
    let below : c.in-Some-unmarked.entry.goal < length c.self.inside.marks.items = unmarked_inside hs ms vs c.args.caller c.in-Some.view e c.self.invariant here c.in-Some-unmarked.is in
    let read = get_or_read ms e.goal c.index.result.now below c.index.ensures None in
    let mark : c.unwrap_or.result ≡ first_mark (get_or ms e.goal None) (mark_by e) = c.unwrap_or.ensures ∙ ap (λ (o : Option GoalMark). unwrap_or o (mark_by e)) read ∙ first_unwrapped (get_or ms e.goal None) (mark_by e) in
    let after = mark_after hs ms vs c.args.self.now c.self.view_is c.args.caller c.requires c.in-Some.view c.settle.new.self e c.unwrap_or.result here c.in-Some-unmarked.is c.in_ok-settle.ensures.ok mark in
    stays_sound c.args.self.now (core_of hs (set ms e.goal (Some c.unwrap_or.result)) (set vs c.args.caller (Some c.settle.new.self))) (Mark c.args.caller) c.requires after (subst IsSound c.self.view_is c.self.invariant)

pub returns-clause-step : goal.returns-clause-step
returns-clause-step c =
    let hs = c.self.inside.history.items in
    let ms = c.self.inside.marks.items in
    let vs = c.self.inside.views.items in
    let e = c.in-Some-unmarked.entry in
    let inside = live_inside hs ms vs c.args.self.now c.self.view_is c.args.caller c.requires.view c.requires.live in
    let here = read_view vs c.args.caller c.index_mut.result.now c.in-Some.view inside c.index_mut.ensures.value c.in-Some.is in
    let below : c.in-Some-unmarked.entry.goal < length c.self.inside.marks.items = unmarked_inside hs ms vs c.args.caller c.in-Some.view e c.self.invariant here c.in-Some-unmarked.is in
    let read = get_or_read ms e.goal c.index.result.now below c.index.ensures None in
    let mark : c.unwrap_or.result ≡ first_mark (get_or ms e.goal None) (mark_by e) = c.unwrap_or.ensures ∙ ap (λ (o : Option GoalMark). unwrap_or o (mark_by e)) read ∙ first_unwrapped (get_or ms e.goal None) (mark_by e) in
    record {
      can = c.requires;
      after = mark_after hs ms vs c.args.self.now c.self.view_is c.args.caller c.requires c.in-Some.view c.settle.new.self e c.unwrap_or.result here c.in-Some-unmarked.is c.in_ok-settle.ensures.ok mark;
    }
