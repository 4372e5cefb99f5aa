use Rattle.std.proofs.Common.{◌≡◌, ◌+◌, ◌^◌, List, ◌∷◌, [], ◌++◌, length, refl, sym, ap, subst, ◌∙◌, arith}
use Rattle.std.proofs.lemmas.List.{length_push}
use Rattle.hop_search.specs.Answers.{IsHop}
use Rattle.hop_search.specs.declared.hop.Hop.{Hop}
use Rattle.sweep_search.specs.Steps.{AddsAt, IsSearched}
use Rattle.sweep_search.specs.declared.swept.FoundGoal.{FoundGoal}
use Rattle.sweep_search.proofs.Queries.{adds_one, refuted_now}
use Rattle.sweep_search.proofs.Searched.{found_below, blocked_below, all_settled, few_found, some_left, searched_new, searched_whole, hop_at, still_framed}
use Rattle.sweep_search.proofs.search.search_step.Goals as goal

pub settled_goals-requires-clause-found : goal.settled_goals-requires-clause-found
settled_goals-requires-clause-found c = λ k d l. (
    let below = found_below c.args.circuit.now c.args.signals.now.lits c.args.framed.now.start c.args.known.now c.queries.found c.queries.invariant.searched.news k d l in
    omega (arith, below, c.requires.goals)
    )

pub returns-then-len-goals-clause-end : goal.returns-then-len-goals-clause-end
returns-then-len-goals-clause-end c =
    let full : length c.in_ok-blocked.blocked ≡ 2 ^ length c.args.signals.now.lits = sym c.len.ensures.value ∙ (c.if-len-goals.true ∙ c.goals-goals.ensures) in (
      c.queries.invariant.searched,
      all_settled c.args.circuit.now c.args.signals.now.lits c.args.framed.now.start c.args.known.now c.queries.found c.in_ok-blocked.blocked c.requires.goals c.queries.invariant.searched.news
          c.in_ok-blocked.ensures c.len.ensures.rising full,
    )

pub next_new_framed-requires-clause-settled : goal.next_new_framed-requires-clause-settled
next_new_framed-requires-clause-settled c =
    blocked_below c.args.circuit.now c.args.signals.now.lits c.args.framed.now.start c.args.known.now c.queries.found c.in_ok-blocked.blocked c.requires.goals c.queries.invariant.searched.news
    c.in_ok-blocked.ensures

pub returns-in-NoMore-clause-end : goal.returns-in-NoMore-clause-end
returns-in-NoMore-clause-end c =
    let circuit = c.args.circuit.now in
    let sig = c.args.signals.now.lits in
    let start = c.args.framed.now.start in
    let blocked = c.in_ok-blocked.blocked in
    let P : Hop → Type 0 = λ h. IsHop circuit sig start c.args.step blocked c.args.lemmas h in
    let hop = hop_at circuit sig start c.args.step blocked c.args.lemmas c.queries.framed c.in_ok-goal.field-0 c.queries.invariant.frames c.in_ok-goal.ensures.answer in
    let none = subst P c.in-NoMore.is hop in
    let left =
    some_left circuit sig start c.args.known.now c.queries.found blocked c.requires.goals c.queries.invariant.searched.news c.in_ok-blocked.ensures c.len.ensures.rising
    (λ full. c.if-len-goals.false (c.len.ensures.value ∙ (full ∙ sym c.goals-goals.ensures))) in (
      c.queries.invariant.searched.near,
      searched_whole circuit sig start c.args.known.now c.args.step c.args.lemmas c.queries.found blocked c.in-NoMore.proof c.queries.invariant.searched c.in_ok-blocked.ensures none left,
      left,
      refuted_now circuit sig start c.args.known.now c.queries.found c.args.step c.args.lemmas blocked c.in-NoMore.proof c.queries.invariant.searched.near c.in_ok-blocked.ensures c.len.ensures.rising none,
    )

pub queries-preserved : goal.queries-preserved
queries-preserved c =
    let circuit = c.args.circuit.now in
    let sig = c.args.signals.now.lits in
    let start = c.args.framed.now.start in
    let known = c.args.known.now in
    let step = c.args.step in
    let blocked = c.in_ok-blocked.blocked in
    let P : Hop → Type 0 = λ h. IsHop circuit sig start step blocked c.args.lemmas h in
    let hop = hop_at circuit sig start step blocked c.args.lemmas c.queries.framed c.in_ok-goal.field-0 c.queries.invariant.frames c.in_ok-goal.ensures.answer in
    let new = subst P c.in-New.is hop in
    let f : FoundGoal = record { goal = c.in-New.goal; step = step; trace = c.in-New.trace } in
    let more = searched_new circuit sig start known step c.queries.found blocked c.in-New.goal c.in-New.trace c.queries.invariant.searched c.in_ok-blocked.ensures new in
    record {
      searched = subst (λ (fs : List FoundGoal). IsSearched circuit sig start known step fs) (sym c.in_ok-push-in-New.ensures.ok) more;
      added = subst (AddsAt step c.args.found.now) (sym c.in_ok-push-in-New.ensures.ok) (adds_one step c.args.found.now c.queries.found f refl c.queries.invariant.added);
      frames = still_framed circuit start step c.queries.framed c.next_new_framed.new.framed c.queries.invariant.frames c.in_ok-goal.ensures.frames;
    }

pub queries-smaller : goal.queries-smaller
queries-smaller c =
    let circuit = c.args.circuit.now in
    let sig = c.args.signals.now.lits in
    let start = c.args.framed.now.start in
    let blocked = c.in_ok-blocked.blocked in
    let P : Hop → Type 0 = λ h. IsHop circuit sig start c.args.step blocked c.args.lemmas h in
    let hop = hop_at circuit sig start c.args.step blocked c.args.lemmas c.queries.framed c.in_ok-goal.field-0 c.queries.invariant.frames c.in_ok-goal.ensures.answer in
    let new = subst P c.in-New.is hop in
    let f : FoundGoal = record { goal = c.in-New.goal; step = c.args.step; trace = c.in-New.trace } in
    let more =
    few_found circuit sig start c.args.known.now (c.queries.found ++ f ∷ [])
    (searched_new circuit sig start c.args.known.now c.args.step c.queries.found blocked c.in-New.goal c.in-New.trace c.queries.invariant.searched c.in_ok-blocked.ensures new).news in
    let size : length c.push.new.self ≡ length c.queries.found + 1 = ap length c.in_ok-push-in-New.ensures.ok ∙ length_push c.queries.found f in
    omega (arith, more, size, length_push c.queries.found f)
