use Rattle.std.proofs.Common.{◌≡◌, ℕ, Option, List, [], ◌∷◌, ◌++◌, refl, sym, ◌∙◌, subst}
use Rattle.std.specs.List.{slice_get}
use Rattle.sat_watch.specs.declared.links.Watch.{Watch}
use Rattle.sat_watch.specs.Links.{watchers}
use Rattle.sat_watch.specs.Watching.{AreWatchedBelow}
use Rattle.sat_watch.proofs.Chains.{last_of-push}
use Rattle.sat_watch.proofs.Lists.{lit_within}
use Rattle.sat_watch.proofs.Units.{ExtendsByUnits-none, ExtendsByUnits-trans}
use Rattle.sat_watch.proofs.Walks.{IsWalked, walk_starts, first_of, next_lit_is, next_is_false, next_stands, below_grown, walk_stays, walk_moves, walk_ends, nearer}
use Rattle.sat_watch.proofs.propagate.walk_list.Goals.{In-Some, After-next_watch-cursor, In-Kept, In-Moved}
use Rattle.sat_watch.proofs.propagate.walk_list.Goals as goal

-- the rest begins with the watch at the cursor
after_it : (c : In-Some) → (after : List ℕ) × IsWalked c.args.clauses.now c.loop-cursor.heads c.loop-cursor.watches c.loop-cursor.trail c.args.at c.loop-cursor.invariant.falsified c.loop-cursor.invariant.front (c.in-Some.watch ∷ after)
after_it c =
    let v = c.loop-cursor.invariant in
    let parts = first_of v.rest c.in-Some.watch (sym c.in-Some.is ∙ v.ahead) in
    let P : List ℕ → Type 0 = λ ws. IsWalked c.args.clauses.now c.loop-cursor.heads c.loop-cursor.watches c.loop-cursor.trail c.args.at v.falsified v.front ws in
    (parts.0, subst P parts.1 v.walked)

pub loop-cursor-init : goal.loop-cursor-init
loop-cursor-init c =
    let watches = c.args.watches.now in
    let linked = c.requires.watched.before.linked in
    record {
      by_units = ExtendsByUnits-none c.args.clauses.now c.args.trail.now;
      low = refl;
      falsified = c.negation-falsified.result;
      front = [];
      rest = watchers c.args.heads.now watches c.negation-falsified.result;
      behind = refl;
      ahead = c.first_watch-cursor.ensures watches linked;
      walked = walk_starts c.args.clauses.now c.args.heads.now watches c.args.trail.now c.args.at c.negation-falsified.result c.at.result c.requires.sizes.two_each c.requires.watched c.requires.at c.at.ensures c.negation-falsified.ensures;
    }

pub next_watch-cursor-requires : goal.next_watch-cursor-requires
next_watch-cursor-requires c =
    let v = c.loop-cursor.invariant in
    let rest = after_it c in
    lit_within c.loop-cursor.watches c.in-Some.watch v.falsified (next_lit_is c.args.clauses.now c.loop-cursor.heads c.loop-cursor.watches c.loop-cursor.trail c.args.at v.falsified v.front c.in-Some.watch rest.0 rest.1)

-- the cursor goes on to what follows in the rest
cursor_is : (c : After-next_watch-cursor) (rest : (after : List ℕ) × IsWalked c.args.clauses.now c.loop-cursor.heads c.loop-cursor.watches c.loop-cursor.trail c.args.at c.loop-cursor.invariant.falsified c.loop-cursor.invariant.front (c.in-Some.watch ∷ after)) → c.next_watch-cursor.result ≡ slice_get rest.0 0
cursor_is c rest =
    let v = c.loop-cursor.invariant in
    c.next_watch-cursor.ensures c.loop-cursor.heads v.falsified v.front rest.0 rest.1.watched.before.linked rest.1.in_list

pub visit_watch-requires-clause-stands : goal.visit_watch-requires-clause-stands
visit_watch-requires-clause-stands c =
    let v = c.loop-cursor.invariant in
    let rest = after_it (goal.at.visit_watch-requires-clause-stands c).In-Some in
    next_stands c.args.clauses.now c.loop-cursor.heads c.loop-cursor.watches c.loop-cursor.trail c.args.at v.falsified v.front c.loop-cursor.previous c.in-Some.watch rest.0 rest.1 v.behind

pub visit_watch-requires-clause-falsified : goal.visit_watch-requires-clause-falsified
visit_watch-requires-clause-falsified c =
    let v = c.loop-cursor.invariant in
    let rest = after_it (goal.at.visit_watch-requires-clause-falsified c).In-Some in
    next_is_false c.args.clauses.now c.loop-cursor.heads c.loop-cursor.watches c.loop-cursor.trail c.args.at v.falsified v.front c.in-Some.watch rest.0 rest.1

stayed : (c : In-Kept) (rest : (after : List ℕ) × IsWalked c.args.clauses.now c.loop-cursor.heads c.loop-cursor.watches c.loop-cursor.trail c.args.at c.loop-cursor.invariant.falsified c.loop-cursor.invariant.front (c.in-Some.watch ∷ after)) → IsWalked c.args.clauses.now c.visit_watch.new.heads c.visit_watch.new.watches c.visit_watch.new.trail c.args.at c.loop-cursor.invariant.falsified (c.loop-cursor.invariant.front ++ c.in-Some.watch ∷ []) rest.0
stayed c rest =
    let v = c.loop-cursor.invariant in
    walk_stays c.args.clauses.now c.loop-cursor.heads c.visit_watch.new.heads c.loop-cursor.watches c.visit_watch.new.watches c.loop-cursor.trail c.visit_watch.new.trail c.args.at v.falsified v.front c.in-Some.watch rest.0 rest.1 c.in-Kept.ensures.by_units c.in-Kept.ensures.answer

moved : (c : In-Moved) (rest : (after : List ℕ) × IsWalked c.args.clauses.now c.loop-cursor.heads c.loop-cursor.watches c.loop-cursor.trail c.args.at c.loop-cursor.invariant.falsified c.loop-cursor.invariant.front (c.in-Some.watch ∷ after)) → IsWalked c.args.clauses.now c.visit_watch.new.heads c.visit_watch.new.watches c.visit_watch.new.trail c.args.at c.loop-cursor.invariant.falsified c.loop-cursor.invariant.front rest.0
moved c rest =
    let v = c.loop-cursor.invariant in
    walk_moves c.args.clauses.now c.loop-cursor.heads c.visit_watch.new.heads c.loop-cursor.watches c.visit_watch.new.watches c.loop-cursor.trail c.visit_watch.new.trail c.args.at v.falsified v.front c.in-Some.watch rest.0 rest.1 c.in-Moved.ensures.by_units c.visit_watch.auto.watches c.in-Moved.ensures.answer

pub loop-cursor-smaller-in-Kept : goal.loop-cursor-smaller-in-Kept
loop-cursor-smaller-in-Kept c =
    let k = goal.at.loop-cursor-smaller-in-Kept c in
    let v = c.loop-cursor.invariant in
    let rest = after_it k.In-Some in
    nearer c.args.clauses.now c.loop-cursor.heads c.visit_watch.new.heads c.loop-cursor.watches c.visit_watch.new.watches c.loop-cursor.trail c.visit_watch.new.trail c.args.at v.falsified v.front (v.front ++ c.in-Some.watch ∷ []) c.in-Some.watch rest.0 c.loop-cursor.cursor c.next_watch-cursor.result
    rest.1 (stayed k.In-Kept rest) c.in-Some.is (cursor_is k.After-next_watch-cursor rest)

pub loop-cursor-preserved-in-Kept : goal.loop-cursor-preserved-in-Kept
loop-cursor-preserved-in-Kept c =
    let k = goal.at.loop-cursor-preserved-in-Kept c in
    let v = c.loop-cursor.invariant in
    let rest = after_it k.In-Some in
    record {
      by_units = ExtendsByUnits-trans c.args.clauses.now c.args.trail.now c.loop-cursor.trail c.visit_watch.new.trail v.by_units c.in-Kept.ensures.by_units;
      low = c.in-Kept.ensures.low ∙ v.low;
      falsified = v.falsified;
      front = v.front ++ c.in-Some.watch ∷ [];
      rest = rest.0;
      behind = last_of-push v.front c.in-Some.watch;
      ahead = cursor_is k.After-next_watch-cursor rest;
      walked = stayed k.In-Kept rest;
    }

pub loop-cursor-smaller : goal.loop-cursor-smaller
loop-cursor-smaller c =
    let k = goal.at.loop-cursor-smaller c in
    let v = c.loop-cursor.invariant in
    let rest = after_it k.In-Some in
    nearer c.args.clauses.now c.loop-cursor.heads c.visit_watch.new.heads c.loop-cursor.watches c.visit_watch.new.watches c.loop-cursor.trail c.visit_watch.new.trail c.args.at v.falsified v.front v.front c.in-Some.watch rest.0 c.loop-cursor.cursor c.next_watch-cursor.result
    rest.1 (moved c rest) c.in-Some.is (cursor_is k.After-next_watch-cursor rest)

pub loop-cursor-preserved : goal.loop-cursor-preserved
loop-cursor-preserved c =
    let k = goal.at.loop-cursor-preserved c in
    let v = c.loop-cursor.invariant in
    let rest = after_it k.In-Some in
    record {
      by_units = ExtendsByUnits-trans c.args.clauses.now c.args.trail.now c.loop-cursor.trail c.visit_watch.new.trail v.by_units c.in-Moved.ensures.by_units;
      low = c.in-Moved.ensures.low ∙ v.low;
      falsified = v.falsified;
      front = v.front;
      rest = rest.0;
      behind = v.behind;
      ahead = cursor_is k.After-next_watch-cursor rest;
      walked = moved c rest;
    }

pub returns-in-Conflict-clause-by_units : goal.returns-in-Conflict-clause-by_units
returns-in-Conflict-clause-by_units c =
    ExtendsByUnits-trans c.args.clauses.now c.args.trail.now c.loop-cursor.trail c.visit_watch.new.trail c.loop-cursor.invariant.by_units c.in-Conflict.ensures.by_units

pub returns-in-Conflict-clause-below : goal.returns-in-Conflict-clause-below
returns-in-Conflict-clause-below c =
    let h = below_grown c.args.clauses.now c.loop-cursor.heads c.loop-cursor.watches c.loop-cursor.trail c.visit_watch.new.trail c.in-Conflict.ensures.by_units c.loop-cursor.invariant.walked.watched.before in
    let P : List (Option ℕ) → Type 0 = λ hs. AreWatchedBelow c.args.clauses.now hs c.visit_watch.new.watches c.visit_watch.new.trail in
    let Q : List Watch → Type 0 = λ ws. AreWatchedBelow c.args.clauses.now c.loop-cursor.heads ws c.visit_watch.new.trail in
    subst P (sym c.in-Conflict.ensures.answer.0) (subst Q (sym c.in-Conflict.ensures.answer.1) h)

pub returns-clause-answer : goal.returns-clause-answer
returns-clause-answer c =
    let v = c.loop-cursor.invariant in
    walk_ends c.args.clauses.now c.loop-cursor.heads c.loop-cursor.watches c.loop-cursor.trail c.args.at v.falsified v.front v.rest v.walked (sym c.in_default.is ∙ v.ahead)
