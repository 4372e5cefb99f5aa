-- What the walk and the sweep find makes a history, and their ends are told by it.
use Rattle.std.proofs.Common.{◌≡◌, ◌≢◌, ℕ, zero, suc, ◌+◌, ◌-◌, ◌<◌, ◌≤◌, ◌^◌, ◌↔◌, Bool, true, false, List, [], ◌∷◌, ◌++◌, map, take, length, get_or, set, refl, sym, ap, subst, ◌∙◌, arith, All, Contains, Some, None, inl, inr}
use Rattle.std.specs.Prelude.{slice_get, AllPairs}
use Rattle.std.specs.List.{AllZip}
use Rattle.std.proofs.lemmas.Bool.{cases_eq}
use Rattle.std.proofs.lemmas.List.{map-append, map_push, length-map, get_or-map, get_or-set_same, get_or-set_other, take_more}
use Rattle.std.proofs.lemmas.List.Elements.{All-append, Contains-append_left, Contains-append_right, Contains-push, Contains-push_cases}
use Rattle.std.proofs.lemmas.Slice.Zip.{all_zipped_more}
use Rattle.std.proofs.lemmas.Option.{slice_get-get_or, slice_get_within, get_or_from_slice_get}
use Rattle.aig_model.specs.Meaning.{Within, goal_of, input_values}
use Rattle.aig_model.specs.declared.parts.Parts.{Parts}
use Rattle.board_core.specs.History.{IsInRange, kind_of}
use Rattle.board_core.specs.declared.entry.Source.{Source}
use Rattle.sim_walk.specs.declared.options.Options.{Options}
use Rattle.sim_walk.specs.declared.visit.Visit.{Visit}
use Rattle.sim_walk.specs.Walk.{goals_of as visited_goals, IsVisited}
use Rattle.sim_walk.specs.Zero.{zero_lanes, AreZeroVisits}
use Rattle.sim_walk.proofs.Shown.{visit_shows}
use Rattle.sim_walk.proofs.Visits.{visited_below, visits_distinct, goals_distinct, visit_inside}
use Rattle.sweep_search.specs.declared.swept.FoundGoal.{FoundGoal}
use Rattle.sweep_search.specs.declared.swept.Swept.{Swept}
use Rattle.sweep_search.specs.Sweep.{goals_of as found_goals, IsMarked, IsSettled, IsFirstReached, IsSweep}
use Rattle.sweep_search.proofs.Searched.{reached_below}
use Rattle.unroll.specs.Frames.{vars_before}
use Rattle.unroll.specs.declared.start.Start.TheVariants.{Reset}
use Rattle.run_report.specs.declared.posts.Basis.{Basis}
use Rattle.run_report.specs.declared.posts.Finding.{Finding}
use Rattle.run_report.specs.declared.searches.Search.TheVariants as searches
use Rattle.run_report.specs.Ends.{IsSearchTold}
use Rattle.goal_facts.specs.Found.{Found}
use Rattle.run_report.specs.Posts.{entries_of, kind_of_basis, HasEntry, IsBasis, IsFinding, posts_of}
use Rattle.run_report.specs.Ranges.{AreRunnable}
use Rattle.run_report.specs.Run.{goals_of, IsZeroFinding, sweep_finding}
use Rattle.run_report.specs.Searches.{blocks_of}
use Rattle.run_report.proofs.Counts.{pairs_append}
use Rattle.run_report.proofs.Posting.{has_entry_of}
use Rattle.run_report.proofs.SearchSteps.{AreEntered, refuted_told, spent_told, whole_settles}

-- ---- the walk
-- the finding at a place is that of the visit there
record IsOfVisit (c : Parts) (vs : List Visit) (k : ℕ) (f : Finding) : Type 0 where
  visit : Visit
  at_place : slice_get vs k ≡ Some visit
  finding : IsZeroFinding c visit f

of_visit : (c : Parts) (vs : List Visit) (fs : List Finding) (k : ℕ) (f : Finding) → AllZip (IsZeroFinding c) vs fs → slice_get fs k ≡ Some f → IsOfVisit c vs k f
of_visit c vs [] k f zip e = absurd cc
of_visit c [] (g ∷ fs) k f zip e = absurd zip
of_visit c (v ∷ vs) (g ∷ fs) zero f zip e =
    let same : g ≡ f = cc in
    record { visit = v; at_place = refl; finding = subst (IsZeroFinding c v) same zip.0 }
of_visit c (v ∷ vs) (g ∷ fs) (suc k) f zip e =
    let rest = of_visit c vs fs k f zip.1 e in
    record { visit = rest.visit; at_place = rest.at_place; finding = rest.finding }

pub same_goals : (c : Parts) (vs : List Visit) (fs : List Finding) → AllZip (IsZeroFinding c) vs fs → goals_of fs ≡ visited_goals vs
same_goals c [] [] zip = refl
same_goals c [] (f ∷ fs) zip = absurd zip
same_goals c (v ∷ vs) [] zip = absurd zip
same_goals c (v ∷ vs) (f ∷ fs) zip =
    let head : f.goal ≡ v.goal = zip.0.goal in
    let tail : goals_of fs ≡ visited_goals vs = same_goals c vs fs zip.1 in
    λ i. head i ∷ tail i

zero_finding : (c : Parts) (sig : List ℕ) (o : Options) (vs : List Visit) (k : ℕ) (f : Finding) → AreZeroVisits c sig o.length vs → IsOfVisit c vs k f → IsFinding c sig o None f
zero_finding c sig o vs k f walked of =
    let v = of.visit in
    let z = of.finding in
    let first = (visit_inside c sig (zero_lanes c) o.length vs k v walked of.at_place).visited in
    let visited : IsVisited c sig (zero_lanes c) o.length v.lane v.step f.goal = subst (λ (g : ℕ). IsVisited c sig (zero_lanes c) o.length v.lane v.step g) (sym z.goal) first in
    record {
      found = subst (λ (s : Source). Found c sig o s f.goal) (sym z.source) (v.lane, v.step, visited);
      kind = ap kind_of z.source ∙ sym (ap kind_of_basis z.basis);
      basis = subst (λ (b : Basis). IsBasis c sig None f.goal b) (sym z.basis) (visit_shows c sig o.length v.lane v.step f.goal z.witness z.trace visited);
      below = visited_below c sig (zero_lanes c) o.length v.lane v.step f.goal visited;
      range = subst (λ (s : Source). IsInRange o s) (sym z.source) tt;
    }

-- ---- the sweep
reached_within : (c : Parts) (sig : List ℕ) (depth : ℕ) (f : FoundGoal) → IsFirstReached c sig f → f.step ≤ depth → Within c sig depth f.goal
reached_within c sig depth f reached near =
    let shows = reached.shows in
    let size : length shows.frames ≡ f.step + 1 = sym (length-map shows.frames (input_values c)) ∙ (ap length shows.rows ∙ reached.rows) in
    let last : length shows.frames - 1 ≡ f.step = omega (arith, size) in
    record {
      state = f.trace.start;
      reset = shows.reset;
      t = f.step;
      near = near;
      at = record { frames = shows.frames; size = size; run = shows.run; shows = subst (λ (k : ℕ). goal_of sig (get_or shows.frames k []) ≡ f.goal) last shows.shows };
    }

sweep_is_finding : (c : Parts) (sig : List ℕ) (o : Options) (f : FoundGoal) → IsFirstReached c sig f → f.step ≤ o.depth → IsFinding c sig o None (sweep_finding f)
sweep_is_finding c sig o f reached near = record {
  found = reached_within c sig o.depth f reached near;
  kind = refl;
  basis = reached.shows;
  below = reached_below c sig f reached;
  range = tt;
}

-- the finding at a place is that of the goal that is found there
record IsOfFound (all : List FoundGoal) (k : ℕ) (f : Finding) : Type 0 where
  found : FoundGoal
  at_place : slice_get all k ≡ Some found
  is : f ≡ sweep_finding found

swept_at : (found : List FoundGoal) (k : ℕ) (f : Finding) → slice_get (map sweep_finding found) k ≡ Some f → IsOfFound found k f
swept_at [] k f e = absurd cc
swept_at (g ∷ found) zero f e = let same : sweep_finding g ≡ f = cc in record { found = g; at_place = refl; is = sym same }
swept_at (g ∷ found) (suc k) f e = let rest = swept_at found k f e in record { found = rest.found; at_place = rest.at_place; is = rest.is }

goals_swept : (found : List FoundGoal) → goals_of (map sweep_finding found) ≡ found_goals found
goals_swept [] = refl
goals_swept (f ∷ found) = ap (λ gs. f.goal ∷ gs) (goals_swept found)

goals_all : (zs : List Finding) (found : List FoundGoal) → goals_of (zs ++ map sweep_finding found) ≡ goals_of zs ++ found_goals found
goals_all zs found = map-append (λ (f : Finding). f.goal) zs (map sweep_finding found) ∙ ap (λ gs. goals_of zs ++ gs) (goals_swept found)

swept_found : (c : Parts) (sig : List ℕ) (o : Options) (found : List FoundGoal) → All (IsFirstReached c sig) found → All (λ (f : FoundGoal). f.step ≤ o.depth) found
    → All (IsFinding c sig o None) (map sweep_finding found)
swept_found c sig o found reached near = λ k d l. (
    let one = swept_at found k (get_or (map sweep_finding found) k d) (slice_get-get_or (map sweep_finding found) k d l) in
    let inside = slice_get_within found k one.found one.at_place in
    let read = get_or_from_slice_get found k one.found one.found one.at_place in
    subst (IsFinding c sig o None) (sym one.is)
    (sweep_is_finding c sig o one.found (subst (IsFirstReached c sig) read (reached k one.found inside)) (subst (λ (f : FoundGoal). f.step ≤ o.depth) read (near k one.found inside)))
    )

found_once : (found : List FoundGoal) → AllPairs (λ (f g : FoundGoal). f.goal ≢ g.goal) found → AllPairs (λ m n. m ≢ n) (found_goals found)
found_once [] once = λ i j d l m. omega (arith, m)
found_once (f ∷ found) once = λ i j d l m same.
    once i j f l (omega (arith, m, length-map (f ∷ found) (λ (g : FoundGoal). g.goal)))
    (sym (get_or-map (λ (g : FoundGoal). g.goal) (f ∷ found) i f d (omega (arith, l, m, length-map (f ∷ found) (λ (g : FoundGoal). g.goal))))
    ∙ (same ∙ get_or-map (λ (g : FoundGoal). g.goal) (f ∷ found) j f d (omega (arith, m, length-map (f ∷ found) (λ (g : FoundGoal). g.goal)))))

-- what is new wasn't known
not_known : (known : List Bool) (found : List FoundGoal) (goal : ℕ) → All (λ (f : FoundGoal). ¬ IsMarked known f.goal) found → Contains (found_goals found) goal → ¬ IsMarked known goal
not_known known [] goal new has = absurd (omega (arith, has.1))
not_known known (f ∷ found) goal new has =
    let inside : has.0 < length (f ∷ found) = omega (arith, has.1, length-map (f ∷ found) (λ (g : FoundGoal). g.goal)) in
    let is : (get_or (f ∷ found) has.0 f).goal ≡ goal = sym (get_or-map (λ (g : FoundGoal). g.goal) (f ∷ found) has.0 f goal inside) ∙ has.2 in
    subst (λ (g : ℕ). ¬ IsMarked known g) is (new has.0 f inside)

-- ---- both
-- what is known after the walk and the sweep
pub record IsSearched (c : Parts) (sig : List ℕ) (o : Options) (vs : List Visit) (zs : List Finding) (known : List Bool) (s : Swept) : Type 0 where
  pub runnable : AreRunnable o
  pub walked : AreZeroVisits c sig o.length vs
  pub zip : AllZip (IsZeroFinding c) vs zs
  pub marks : (goal : ℕ) → IsMarked known goal ↔ Contains (goals_of zs) goal
  pub room : vars_before c (o.depth + 1) ≤ 4000000
  pub swept : IsSweep c sig known o.depth o.lemmas o.proofs s

abbrev pub all_findings : List Finding → Swept → List Finding
all_findings zs s = zs ++ map sweep_finding s.found

pub each_found : (c : Parts) (sig : List ℕ) (o : Options) (vs : List Visit) (zs : List Finding) (known : List Bool) (s : Swept) → IsSearched c sig o vs zs known s
    → All (IsFinding c sig o None) (all_findings zs s)
each_found c sig o vs zs known s h =
    All-append (IsFinding c sig o None) zs (map sweep_finding s.found)
    (λ k d l. zero_finding c sig o vs k (get_or zs k d) h.walked (of_visit c vs zs k (get_or zs k d) h.zip (slice_get-get_or zs k d l)))
    (swept_found c sig o s.found h.swept.found.reached h.swept.shallow)

pub once_all : (c : Parts) (sig : List ℕ) (o : Options) (vs : List Visit) (zs : List Finding) (known : List Bool) (s : Swept) → IsSearched c sig o vs zs known s
    → AllPairs (λ m n. m ≢ n) (goals_of (all_findings zs s))
once_all c sig o vs zs known s h =
    let first : AllPairs (λ m n. m ≢ n) (goals_of zs) =
    subst (λ (gs : List ℕ). AllPairs (λ m n. m ≢ n) gs) (sym (same_goals c vs zs h.zip)) (goals_distinct vs (visits_distinct c sig (zero_lanes c) o.length vs h.walked)) in
    let second : AllPairs (λ m n. m ≢ n) (found_goals s.found) = found_once s.found h.swept.found.once in
    subst (λ (gs : List ℕ). AllPairs (λ m n. m ≢ n) gs) (sym (goals_all zs s.found))
    (pairs_append (λ m n. m ≢ n) (goals_of zs) (found_goals s.found) first second
    (λ x y a b same. not_known known s.found y h.swept.found.new b ((h.marks y).1 (subst (Contains (goals_of zs)) same a))))

-- a settled goal is found
settled_found : (c : Parts) (sig : List ℕ) (o : Options) (vs : List Visit) (zs : List Finding) (known : List Bool) (s : Swept) (goal : ℕ) → IsSearched c sig o vs zs known s
    → IsSettled known s.found goal → HasEntry (entries_of (posts_of (all_findings zs s))) goal
settled_found c sig o vs zs known s goal h (inl marked) =
    has_entry_of (all_findings zs s) goal
    (subst (λ (gs : List ℕ). Contains gs goal) (sym (goals_all zs s.found)) (Contains-append_left (goals_of zs) (found_goals s.found) goal ((h.marks goal).0 marked)))
settled_found c sig o vs zs known s goal h (inr found) =
    has_entry_of (all_findings zs s) goal
    (subst (λ (gs : List ℕ). Contains gs goal) (sym (goals_all zs s.found)) (Contains-append_right (goals_of zs) (found_goals s.found) goal found))

-- how it ends
pub searched_told : (c : Parts) (sig : List ℕ) (o : Options) (vs : List Visit) (zs : List Finding) (known : List Bool) (s : Swept) → IsSearched c sig o vs zs known s
    → IsSearchTold c sig o (entries_of (posts_of (all_findings zs s))) (blocks_of searches.Sweep s.refuted s.spent)
searched_told c sig o vs zs known s h =
    let es = entries_of (posts_of (all_findings zs s)) in
    let entered : AreEntered known s es = λ goal settled. settled_found c sig o vs zs known s goal h settled in
    record {
      visited = λ goal visited. entered goal (inl ((h.marks goal).1 (subst (λ (gs : List ℕ). Contains gs goal) (sym (same_goals c vs zs h.zip)) (h.walked.whole visited.0 visited.1 goal visited.2))));
      ended = record {
        settles = λ d goal e w. entered goal (whole_settles c sig Reset known o.depth o.lemmas o.proofs searches.Sweep s s.spent d goal refl h.swept h.swept.end e w);
        spent = spent_told c sig o es Reset o.depth searches.Sweep known s s.spent entered h.swept.end;
        refuted = refuted_told o.proofs c sig o es Reset o.depth searches.Sweep known s h.room entered h.swept;
      };
    }

visited_all_below : (c : Parts) (sig : List ℕ) (steps : ℕ) (vs : List Visit) → AreZeroVisits c sig steps vs → All (λ goal. goal < 2 ^ length sig) (visited_goals vs)
visited_all_below c sig steps [] walked = λ k d l. omega (arith, l)
visited_all_below c sig steps (v ∷ vs) walked = λ k d l. (
    let inside : k < length (v ∷ vs) = omega (arith, l, length-map (v ∷ vs) (λ (x : Visit). x.goal)) in
    let x = get_or (v ∷ vs) k v in
    let visited = (visit_inside c sig (zero_lanes c) steps (v ∷ vs) k x walked (slice_get-get_or (v ∷ vs) k v inside)).visited in
    subst (λ (g : ℕ). g < 2 ^ length sig) (sym (get_or-map (λ (y : Visit). y.goal) (v ∷ vs) k v d inside)) (visited_below c sig (zero_lanes c) steps x.lane x.step x.goal visited)
    )

-- the goals that the walk visits are in range
pub zeros_below : (c : Parts) (sig : List ℕ) (steps : ℕ) (vs : List Visit) (zs : List Finding) → AreZeroVisits c sig steps vs → AllZip (IsZeroFinding c) vs zs → All (λ goal. goal < 2 ^ length sig) (goals_of zs)
zeros_below c sig steps vs zs walked zip =
    subst (λ (gs : List ℕ). All (λ goal. goal < 2 ^ length sig) gs) (sym (same_goals c vs zs zip)) (visited_all_below c sig steps vs walked)

-- the same as a loop over the visits has it
pub visits_more : (c : Parts) (vs : List Visit) (fs : List Finding) (k : ℕ) (v : Visit) (f : Finding) → k < length vs → v ≡ get_or vs k v → AllZip (IsZeroFinding c) (take k vs) fs
    → IsZeroFinding c v f → AllZip (IsZeroFinding c) (take (k + 1) vs) (fs ++ f ∷ [])
visits_more c vs fs k v f inside here zip one =
    let more : take (k + 1) vs ≡ take k vs ++ v ∷ [] = take_more vs k v inside ∙ ap (λ (x : Visit). take k vs ++ x ∷ []) (sym here) in
    subst (λ (xs : List Visit). AllZip (IsZeroFinding c) xs (fs ++ f ∷ [])) (sym more) (all_zipped_more (IsZeroFinding c) (take k vs) fs v f zip one)

-- ---- marks of goals that are found
abbrev pub AreMarksOf : List Finding → List Bool → Type 0
AreMarksOf fs marks = (goal : ℕ) → IsMarked marks goal ↔ Contains (goals_of fs) goal

mark_one : (marks : List Bool) (fs : List Finding) (f : Finding) → f.goal < length marks → AreMarksOf fs marks → AreMarksOf (fs ++ f ∷ []) (set marks f.goal true)
mark_one marks fs f inside h = λ goal. (
    let goals : goals_of (fs ++ f ∷ []) ≡ goals_of fs ++ f.goal ∷ [] = map_push (λ (x : Finding). x.goal) fs f in
    let P : List ℕ → Type 0 = λ gs. IsMarked (set marks f.goal true) goal ↔ Contains gs goal in
    subst P (sym goals) (elim (cases_eq f.goal goal) [
      | inl same ↦ (
          let marked : get_or (set marks f.goal true) goal false ≡ true = ap (λ k. get_or (set marks f.goal true) k false) (sym same) ∙ get_or-set_same marks f.goal true false inside in
          (λ _. subst (λ (x : ℕ). Contains (goals_of fs ++ f.goal ∷ []) x) same (Contains-push (goals_of fs) f.goal), λ _. marked)
          )
      | inr other ↦ (
          let same : get_or (set marks f.goal true) goal false ≡ get_or marks goal false = get_or-set_other marks f.goal goal true false (λ e. other (sym e)) in
          let before = h goal in (
            λ t. Contains-append_left (goals_of fs) (f.goal ∷ []) goal (before.0 (sym same ∙ t)),
            λ s. elim (Contains-push_cases (goals_of fs) f.goal goal s) [ inl in_before ↦ same ∙ before.1 in_before | inr e ↦ absurd (other e) ],
          )
          )
    ])
    )

pub mark_more : (fs : List Finding) (k : ℕ) (f : Finding) (marks : List Bool) → k < length fs → f ≡ get_or fs k f → f.goal < length marks → AreMarksOf (take k fs) marks
    → AreMarksOf (take (k + 1) fs) (set marks f.goal true)
mark_more fs k f marks inside here below h =
    let more : take (k + 1) fs ≡ take k fs ++ f ∷ [] = take_more fs k f inside ∙ ap (λ (x : Finding). take k fs ++ x ∷ []) (sym here) in
    subst (λ (xs : List Finding). AreMarksOf xs (set marks f.goal true)) (sym more) (mark_one marks (take k fs) f below h)

-- the goal of a finding is in range where all are
pub goal_below : (fs : List Finding) (k : ℕ) (f : Finding) (goals : ℕ) → All (λ goal. goal < goals) (goals_of fs) → k < length fs → f ≡ get_or fs k f → f.goal < goals
goal_below fs k f goals all inside here =
    let read : get_or (goals_of fs) k 0 ≡ f.goal = get_or-map (λ (x : Finding). x.goal) fs k f 0 inside ∙ ap (λ (x : Finding). x.goal) (sym here) in
    subst (λ (g : ℕ). g < goals) read (all k 0 (omega (arith, inside, length-map fs (λ (x : Finding). x.goal))))
