-- The visits of a batch, one after another, as findings.
use Rattle.std.proofs.Common.{◌≡◌, ◌≢◌, ◌⊎◌, ℕ, ◌+◌, ◌<◌, ◌^◌, Bool, List, [], ◌∷◌, ◌++◌, take, length, get_or, refl, sym, ap, subst, ◌∙◌, arith, All, AllPairs, Contains, Some, None, inl, inr}
use Rattle.std.proofs.lemmas.Bool.{cases_lt}
use Rattle.std.proofs.lemmas.List.{append-nil, append_assoc, map-append, map_push, length-map, length-take-le, get_or-map, get_or-take, take_more}
use Rattle.std.proofs.lemmas.List.Elements.{All-nil, All-push, All-weaker, Contains-get_or, Contains-append_left, Contains-append_right, Contains-push, Contains-push_cases}
use Rattle.std.proofs.lemmas.List.Quantifiers.{all_pairs_push}
use Rattle.std.proofs.lemmas.Option.{slice_get-get_or}
use Rattle.ketch_base.specs.First.{IsFirst}
use Rattle.aig_model.specs.declared.parts.Parts.{Parts}
use Rattle.board_core.specs.declared.entry.Source.TheVariants.{Walk}
use Rattle.sim_batch.specs.Batch.{lanes_of}
use Rattle.sim_batch.specs.Ends.{MayEnd}
use Rattle.sim_batch.specs.SeedOf.{IsBatchVisit}
use Rattle.sim_walk.specs.declared.options.Options.{Options}
use Rattle.sim_walk.specs.declared.visit.Visit.{Visit}
use Rattle.sim_walk.specs.Walk.{goals_of as visited_goals, IsVisited}
use Rattle.sim_walk.proofs.Visits.{visited_below, visits_distinct, visit_inside}
use Rattle.sweep_search.specs.Sweep.{IsMarked}
use Rattle.run_report.specs.declared.posts.Basis.TheVariants.{Witness}
use Rattle.run_report.specs.declared.posts.Finding.{Finding}
use Rattle.run_report.specs.Batches.{IsFoundBy, AddsVisits, AreBatchVisits, AreKnown}
use Rattle.goal_facts.specs.Found.{IsWalkVisited}
use Rattle.run_report.specs.Run.{goals_of}
use Rattle.run_report.specs.VisitsAdded.{AddsVisit}

-- ---- one visit more
-- what the first visits of a batch add
pub record AreAdded (c : Parts) (sig : List ℕ) (o : Options) (batch : ℕ) (known : List Bool) (vs : List Visit) (old now : List Finding) : Type 0 where
  pub more : List Finding
  pub after : now ≡ old ++ more
  pub each : All (IsFoundBy c sig o (Walk batch)) more
  pub unmarked : All (λ (f : Finding). ¬ IsMarked known f.goal) more
  pub once : AllPairs (λ (f g : Finding). f.goal ≢ g.goal) more
  pub visited : (goal : ℕ) → Contains (goals_of more) goal → Contains (visited_goals vs) goal
  pub whole : (goal : ℕ) → Contains (visited_goals vs) goal → IsMarked known goal ⊎ Contains (goals_of more) goal

pub added_none : (c : Parts) (sig : List ℕ) (o : Options) (batch : ℕ) (known : List Bool) (old : List Finding) → AreAdded c sig o batch known [] old old
added_none c sig o batch known old = record {
  more = [];
  after = sym (append-nil old);
  each = All-nil (IsFoundBy c sig o (Walk batch));
  unmarked = All-nil (λ (f : Finding). ¬ IsMarked known f.goal);
  once = λ i j d l m. absurd (omega (arith, m));
  visited = λ goal has. absurd (omega (arith, has.1));
  whole = λ goal has. absurd (omega (arith, has.1));
}

has_goal : (fs : List Finding) (k : ℕ) (d : Finding) → k < length fs → Contains (goals_of fs) ((get_or fs k d).goal)
has_goal fs k d l =
    subst (Contains (goals_of fs)) (get_or-map (λ (f : Finding). f.goal) fs k d d.goal l)
    (Contains-get_or (goals_of fs) k d.goal (omega (arith, l, length-map fs (λ (f : Finding). f.goal))))

-- a visit of this batch is what its source has to find
is_walked : (c : Parts) (sig : List ℕ) (o : Options) (batch : ℕ) (v : Visit) → batch < o.batches → IsBatchVisit c sig (lanes_of c o.seed batch None) o.length o.stall v
    → IsWalkVisited c sig o batch v.goal
is_walked c sig o batch v inside visited = record { inside = inside; visit = v; visited = visited; goal_of_visit = refl }

added_more : (c : Parts) (sig : List ℕ) (o : Options) (batch : ℕ) (known : List Bool) (vs : List Visit) (v : Visit) (old now next : List Finding)
    → IsWalkVisited c sig o batch v.goal → ¬ Contains (visited_goals vs) v.goal → AreAdded c sig o batch known vs old now → AddsVisit c sig batch known v now next
    → AreAdded c sig o batch known (vs ++ v ∷ []) old next
added_more c sig o batch known vs v old now next walked other h (inl marked) =
    let goals : visited_goals (vs ++ v ∷ []) ≡ visited_goals vs ++ v.goal ∷ [] = map_push (λ (x : Visit). x.goal) vs v in
    record {
      more = h.more;
      after = marked.1 ∙ h.after;
      each = h.each;
      unmarked = h.unmarked;
      once = h.once;
      visited = λ goal has. subst (λ (gs : List ℕ). Contains gs goal) (sym goals) (Contains-append_left (visited_goals vs) (v.goal ∷ []) goal (h.visited goal has));
      whole = λ goal has. elim (Contains-push_cases (visited_goals vs) v.goal goal (subst (λ (gs : List ℕ). Contains gs goal) goals has)) [
        | inl before ↦ h.whole goal before
        | inr e ↦ inl (subst (IsMarked known) e marked.0)
      ];
    }
added_more c sig o batch known vs v old now next walked other h (inr new) =
    let goals : visited_goals (vs ++ v ∷ []) ≡ visited_goals vs ++ v.goal ∷ [] = map_push (λ (x : Visit). x.goal) vs v in
    let f : Finding = record { goal = v.goal; source = Walk batch; basis = Witness new.1.witness } in
    let found : goals_of (h.more ++ f ∷ []) ≡ goals_of h.more ++ v.goal ∷ [] = map_push (λ (x : Finding). x.goal) h.more f in
    record {
      more = h.more ++ f ∷ [];
      after = new.1.after ∙ (ap (λ (fs : List Finding). fs ++ f ∷ []) h.after ∙ append_assoc old h.more (f ∷ []));
      each = All-push (IsFoundBy c sig o (Walk batch)) h.more f h.each (record { source_is = refl; found = walked; witness = new.1.witness; basis = refl; shows = new.1.shows });
      unmarked = All-push (λ (x : Finding). ¬ IsMarked known x.goal) h.more f h.unmarked new.0;
      once = all_pairs_push (λ (x y : Finding). x.goal ≢ y.goal) h.more f h.once (λ k d l e. other (h.visited v.goal (subst (Contains (goals_of h.more)) e (has_goal h.more k d l))));
      visited = λ goal has. (
          let P : List ℕ → Type 0 = λ gs. Contains gs goal in
          subst P (sym goals) (elim (Contains-push_cases (goals_of h.more) v.goal goal (subst P found has)) [
            | inl before ↦ Contains-append_left (visited_goals vs) (v.goal ∷ []) goal (h.visited goal before)
            | inr e ↦ subst (λ (g : ℕ). Contains (visited_goals vs ++ v.goal ∷ []) g) e (Contains-push (visited_goals vs) v.goal)
          ])
          );
      whole = λ goal has. (
          let P : List ℕ → Type 0 = λ gs. IsMarked known goal ⊎ Contains gs goal in
          subst P (sym found) (elim (Contains-push_cases (visited_goals vs) v.goal goal (subst (λ (gs : List ℕ). Contains gs goal) goals has)) [
            | inl before ↦ (elim (h.whole goal before) [ inl marked ↦ inl marked | inr more ↦ inr (Contains-append_left (goals_of h.more) (v.goal ∷ []) goal more) ])
            | inr e ↦ inr (subst (λ (g : ℕ). Contains (goals_of h.more ++ v.goal ∷ []) g) e (Contains-push (goals_of h.more) v.goal))
          ])
          );
    }

-- no earlier visit has the goal
not_before : (vs : List Visit) (k : ℕ) (v : Visit) → AllPairs (λ (x y : Visit). x.goal ≢ y.goal) vs → k < length vs → v ≡ get_or vs k v → ¬ Contains (visited_goals (take k vs)) v.goal
not_before vs k v distinct inside here has =
    let few : length (take k vs) ≡ k = length-take-le k vs (omega (arith, inside)) in
    let i = has.0 in
    let low : i < length (take k vs) = omega (arith, has.1, length-map (take k vs) (λ (x : Visit). x.goal)) in
    let read : get_or (visited_goals (take k vs)) i v.goal ≡ (get_or (take k vs) i v).goal = get_or-map (λ (x : Visit). x.goal) (take k vs) i v v.goal low in
    let same : get_or (take k vs) i v ≡ get_or vs i v = get_or-take k vs i v (omega (arith, low, few)) in
    distinct i k v (omega (arith, low, few)) inside
    (ap (λ (x : Visit). x.goal) (sym same) ∙ (sym read ∙ (has.2 ∙ ap (λ (x : Visit). x.goal) here)))

-- ---- the visits of a batch
-- a visit at a place, as a loop over the visits has it
pub visit_at : (c : Parts) (sig : List ℕ) (o : Options) (batch : ℕ) (vs : List Visit) (k : ℕ) (v : Visit) → AreBatchVisits c sig o batch vs → k < length vs → v ≡ get_or vs k v
    → IsBatchVisit c sig (lanes_of c o.seed batch None) o.length o.stall v
visit_at c sig o batch vs k v are inside here = record {
  last = are.last;
  ends = are.ends;
  first = visit_inside c sig (lanes_of c o.seed batch None) (are.last + 1) vs k v are.are_visits (slice_get-get_or vs k v inside ∙ ap Some (sym here));
}

pub visit_below : (c : Parts) (sig : List ℕ) (o : Options) (batch : ℕ) (v : Visit) → (b : IsBatchVisit c sig (lanes_of c o.seed batch None) o.length o.stall v) → v.goal < 2 ^ length sig
visit_below c sig o batch v b = visited_below c sig (lanes_of c o.seed batch None) (b.last + 1) v.lane v.step v.goal b.first.visited

pub added_step : (c : Parts) (sig : List ℕ) (o : Options) (batch : ℕ) (known : List Bool) (vs : List Visit) (k : ℕ) (v : Visit) (old now next : List Finding)
    → AreBatchVisits c sig o batch vs → batch < o.batches → k < length vs → v ≡ get_or vs k v → AreAdded c sig o batch known (take k vs) old now → AddsVisit c sig batch known v now next
    → AreAdded c sig o batch known (take (k + 1) vs) old next
added_step c sig o batch known vs k v old now next are batch_inside inside here h adds =
    let lanes = lanes_of c o.seed batch None in
    let more : take (k + 1) vs ≡ take k vs ++ v ∷ [] = take_more vs k v inside ∙ ap (λ (x : Visit). take k vs ++ x ∷ []) (sym here) in
    let walked = is_walked c sig o batch v batch_inside (visit_at c sig o batch vs k v are inside here) in
    let other = not_before vs k v (visits_distinct c sig lanes (are.last + 1) vs are.are_visits) inside here in
    subst (λ (xs : List Visit). AreAdded c sig o batch known xs old next) (sym more) (added_more c sig o batch known (take k vs) v old now next walked other h adds)

-- a batch has one last step
one_last : (P : ℕ → Type 0) (a b : ℕ) → IsFirst P a → IsFirst P b → a ≡ b
one_last P a b first other =
    elim (cases_lt a b) [
      | inl lt ↦ absurd (other.before a lt first.here)
      | inr ge ↦ (elim (cases_lt b a) [ inl lt ↦ absurd (first.before b lt other.here) | inr le ↦ omega (arith, ge, le) ])
    ]

walk_contained : (c : Parts) (sig : List ℕ) (o : Options) (batch goal : ℕ) (vs : List Visit) → AreBatchVisits c sig o batch vs → IsWalkVisited c sig o batch goal
    → Contains (visited_goals vs) goal
walk_contained c sig o batch goal vs are w =
    let lanes = lanes_of c o.seed batch None in
    let v = w.visit in
    let last : w.visited.last ≡ are.last = one_last (MayEnd c sig lanes o.length o.stall) w.visited.last are.last w.visited.ends are.ends in
    let visited : IsVisited c sig lanes (are.last + 1) v.lane v.step v.goal =
    subst (λ (n : ℕ). IsVisited c sig lanes (n + 1) v.lane v.step v.goal) last w.visited.first.visited in
    subst (Contains (visited_goals vs)) w.goal_of_visit (are.are_visits.whole v.lane v.step v.goal visited)

-- all of them
pub added_all : (c : Parts) (sig : List ℕ) (o : Options) (batch : ℕ) (known : List Bool) (vs : List Visit) (old new : List Finding) → AreBatchVisits c sig o batch vs
    → AreKnown sig old known → AreAdded c sig o batch known vs old new → AddsVisits c sig o batch old new
added_all c sig o batch known vs old new are marks h =
    let goals : goals_of new ≡ goals_of old ++ goals_of h.more = ap goals_of h.after ∙ map-append (λ (f : Finding). f.goal) old h.more in
    record {
      adds = record {
        more = h.more;
        after = h.after;
        each = h.each;
        fresh = All-weaker (λ (f : Finding). ¬ IsMarked known f.goal) (λ (f : Finding). ¬ Contains (goals_of old) f.goal) (λ f unmarked has. unmarked ((marks.marked f.goal).1 has)) h.more h.unmarked;
        once = h.once;
      };
      whole = λ goal w. subst (λ (gs : List ℕ). Contains gs goal) (sym goals) (elim (h.whole goal (walk_contained c sig o batch goal vs are w)) [
        | inl marked ↦ Contains-append_left (goals_of old) (goals_of h.more) goal ((marks.marked goal).0 marked)
        | inr more ↦ Contains-append_right (goals_of old) (goals_of h.more) goal more
      ]);
    }
