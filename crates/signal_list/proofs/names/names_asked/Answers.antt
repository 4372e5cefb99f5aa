use Rattle.std.proofs.Common.{List, ℕ, sym, ◌∙◌, subst}
use Rattle.signal_list.proofs.Asked.{IsAskedUpTo, line-skipped, line-put}
use Rattle.signal_list.proofs.names.names_asked.Goals as goal

pub loop-line-preserved-in_ok-insert : goal.loop-line-preserved-in_ok-insert
loop-line-preserved-in_ok-insert c =
    let before = subst (λ (ls : List (List ℕ)). IsAskedUpTo c.args.text.now ls c.loop-line.names) c.in-Some.ensures.steps c.loop-line.invariant.asked in
    record {
      can = tt;
      finite = tt;
      asked = line-put c.args.text.now c.in-Some.line.now c.next.new.self c.loop-line.names c.insert.new.self c.in-Some-name_on.name before
          (sym c.trim_spaces.ensures ∙ c.in-Some-name_on.ensures) c.in_ok-insert.ensures.updates.0;
    }

pub loop-line-preserved : goal.loop-line-preserved
loop-line-preserved c =
    let before = subst (λ (ls : List (List ℕ)). IsAskedUpTo c.args.text.now ls c.loop-line.names) c.in-Some.ensures.steps c.loop-line.invariant.asked in
    record {
      can = tt;
      finite = tt;
      asked = line-skipped c.args.text.now c.in-Some.line.now c.next.new.self c.loop-line.names before (λ name is. c.in_default.ensures name (c.trim_spaces.ensures ∙ is));
    }
