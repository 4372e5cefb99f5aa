use Rattle.std.proofs.Common.{◌≡◌, Some, length, set, ap, subst, arith}
use Rattle.board_core.specs.Core.{core_of}
use Rattle.board_core.specs.Good.{IsSound}
use Rattle.board_core.specs.declared.event.Event.TheVariants.{Number}
use Rattle.board_core.proofs.Kept.{stays_sound}
use Rattle.board_core.proofs.Parts.{number_reserved, live_inside, read_view}
use Rattle.board_core.proofs.core_state.CoreState.number.Goals as goal

pub invariant_of-self-2 : goal.invariant_of-self-2
invariant_of-self-2 c =
    let hs = c.self.inside.history.items in
    let ms = c.self.inside.marks.items in
    let vs = c.self.inside.views.items in
    let inside = live_inside hs ms vs c.args.self.now c.self.view_is c.args.caller c.requires.view c.requires.live in
    let here = read_view vs c.args.caller c.index_mut.result.now c.in-Some.view inside c.index_mut.ensures.value c.in-Some.is in
    let kept = c.in_ok-reserve.ensures.items in
    let count : c.len-number.result ≡ length c.self.inside.history.items = omega (arith, c.len-number.ensures, c.reserve.new.self.ok.0, ap length kept) in
    let after = number_reserved hs c.reserve.new.self.items c.push_reserved.new.self.items ms vs c.args.self.now c.len-number.result c.self.view_is kept count c.args.caller c.args.goal c.args.kind c.args.source
    c.requires c.in-Some.view c.post.new.self here c.push_reserved.ensures.items c.in_ok-post.ensures.ok in
    stays_sound c.args.self.now (core_of c.push_reserved.new.self.items ms (set vs c.args.caller (Some c.post.new.self))) (Number c.args.caller c.args.goal c.args.kind c.args.source) c.requires after
    (subst IsSound c.self.view_is c.self.invariant)

pub returns-clause-step : goal.returns-clause-step
returns-clause-step c =
    let hs = c.self.inside.history.items in
    let ms = c.self.inside.marks.items in
    let vs = c.self.inside.views.items in
    let inside = live_inside hs ms vs c.args.self.now c.self.view_is c.args.caller c.requires.view c.requires.live in
    let here = read_view vs c.args.caller c.index_mut.result.now c.in-Some.view inside c.index_mut.ensures.value c.in-Some.is in
    let kept = c.in_ok-reserve.ensures.items in
    let count : c.len-number.result ≡ length c.self.inside.history.items = omega (arith, c.len-number.ensures, c.reserve.new.self.ok.0, ap length kept) in
    record {
      can = c.requires;
      after = number_reserved hs c.reserve.new.self.items c.push_reserved.new.self.items ms vs c.args.self.now c.len-number.result c.self.view_is kept count c.args.caller c.args.goal c.args.kind c.args.source
          c.requires c.in-Some.view c.post.new.self here c.push_reserved.ensures.items c.in_ok-post.ensures.ok;
    }
