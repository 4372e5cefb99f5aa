use Rattle.std.proofs.Common.{rules, arith, ◌≡◌, Bool, true, false, true≢false, List, length, map, get_or, replicate, All, sym, ap, ◌∙◌, subst}
use Rattle.std.proofs.lemmas.List.Elements.{All-nil}
use Rattle.board_core.specs.declared.entry.Entry.{Entry}
use Rattle.board_core.specs.declared.view.View.{View as Known}
use Rattle.goal_board.specs.declared.pass.Posted.{Posted}
use Rattle.goal_board.specs.Lists.{trues}
use Rattle.goal_board.specs.Inside.{IsEvidenced}
use Rattle.goal_board.proofs.Sums.{get-replicate}
use Rattle.goal_board.proofs.NewPasses.{no_trues}
use Rattle.goal_board.proofs.making.pass_of.Goals as goal

pub invariant_of-result : goal.invariant_of-result
invariant_of-result c =
    let fresh = c.requires.fresh in
    let none = c.in_ok-posts.ensures.items in
    let entries = ap (λ (k : Known). k.entries) fresh.known in
    let down : c.in_ok-posted.posted.items ≡ replicate c.args.goals false = search rules in
    record {
      parts = fresh.parts;
      slots = c.requires.slots;
      caller = fresh.caller;
      idle = ap (λ (k : Known). k.unmarked) fresh.known;
      front_is = ap (λ (k : Known). k.front) fresh.known;
      entries = entries ∙ ap (λ l. map (λ (p : Posted). p.entry) l) (sym none);
      own = subst (All (λ (e : Entry). e.caller ≡ c.args.caller)) (sym entries) (All-nil (λ (e : Entry). e.caller ≡ c.args.caller));
      flagged = subst (All (λ (e : Entry). get_or c.in_ok-posted.posted.items e.goal false ≡ true)) (sym entries) (All-nil (λ (e : Entry). get_or c.in_ok-posted.posted.items e.goal false ≡ true));
      real = λ goal up. absurd (true≢false (sym up ∙ ap (λ (l : List Bool). get_or l goal false) down ∙ get-replicate false c.args.goals goal));
      counted = ap trues down ∙ no_trues c.args.goals ∙ sym (ap length none);
      left = omega (arith, fresh.left, ap length none, c.in_ok-posted.ensures.len);
      room = omega (arith, c.in_ok-posted.ensures.len, c.in_ok-posts.ensures.capacity);
      evidenced = λ t told. subst (All (IsEvidenced t)) (sym none) (All-nil (IsEvidenced t));
    }
