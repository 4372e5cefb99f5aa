-- What the hop from a batch's seed finds, as findings, and how the hop ends.
use Rattle.std.proofs.Common.{◌≡◌, ◌≢◌, ℕ, ◌+◌, ◌-◌, ◌<◌, ◌≤◌, Bool, List, [], ◌∷◌, ◌++◌, map, length, get_or, refl, sym, ap, subst, ◌∙◌, arith, length-append, AllPairs, Contains, Option, Some, None, inl, inr}
use Rattle.std.proofs.lemmas.List.{append-nil, map-append, length-map, get_or-map, get_or-append-add}
use Rattle.std.proofs.lemmas.List.Elements.{All-map, All-nil, Contains-append_left, Contains-append_right}
use Rattle.aig_model.specs.Meaning.{At, Run, goal_of, input_values, state_after}
use Rattle.aig_model.specs.Replays.{Shows}
use Rattle.aig_model.specs.declared.parts.Parts.{Parts}
use Rattle.aig_model.proofs.Paths.{length-state_after}
use Rattle.aig_model.proofs.Runs.{run_append}
use Rattle.board_core.specs.declared.entry.Source.TheVariants.{Hop}
use Rattle.sim_batch.specs.Seeds.{SeedState, IsSeed}
use Rattle.sim_walk.specs.declared.options.Options.{Options}
use Rattle.sweep_search.specs.Sweep.{goals_of as found_goals, IsFirstFrom, IsHopFrom, IsSettled}
use Rattle.sweep_search.specs.declared.swept.FoundGoal.{FoundGoal}
use Rattle.sweep_search.specs.declared.swept.Swept.{Swept}
use Rattle.unroll.specs.Frames.{vars_before}
use Rattle.unroll.specs.declared.start.Start.TheVariants.{State}
use Rattle.run_report.specs.declared.ends.SearchBlocks.{SearchBlocks}
use Rattle.run_report.specs.declared.posts.Finding.{Finding}
use Rattle.run_report.specs.declared.searches.Search.TheVariants as searches
use Rattle.run_report.specs.Batches.{IsFoundBy, Adds, AreKnown, AddsHop, AddsHopEnd, hop_finding, line_of}
use Rattle.run_report.specs.Ends.{no_blocks}
use Rattle.run_report.specs.Run.{goals_of}
use Rattle.run_report.specs.Searches.{blocks_of}
use Rattle.goal_facts.specs.Seeds.{IsSeedOfBatch}
use Rattle.run_report.proofs.SearchSteps.{AreEntered, refuted_told, spent_told, whole_settles}

-- ---- the seed
pub seed_of_circuit : (c : Parts) (sig : List ℕ) (o : Options) (batch : ℕ) (seed : SeedState) → IsSeedOfBatch c sig o batch (Some seed) → seed.circuit ≡ c
seed_of_circuit c sig o batch seed of = of.is_seed.seed_at.circuit

seed_leads : (c : Parts) (sig : List ℕ) (o : Options) (batch : ℕ) (seed : SeedState) → IsSeedOfBatch c sig o batch (Some seed) → IsSeed c seed.start seed.rows seed.state
seed_leads c sig o batch seed of =
    subst (λ (p : Parts). IsSeed p seed.start seed.rows seed.state) (seed_of_circuit c sig o batch seed of) of.is_seed.seed_at.holds

pub seed_size : (c : Parts) (sig : List ℕ) (o : Options) (batch : ℕ) (seed : SeedState) → IsSeedOfBatch c sig o batch (Some seed) → length seed.state ≡ length c.latches
seed_size c sig o batch seed of =
    let ok = seed_leads c sig o batch seed of in
    ap length ok.leads ∙ length-state_after c seed.start ok.frames ok.reset.size

-- ---- one goal
-- the rows that lead to the seed, and then those of the hop, show the goal
hop_shows : (c : Parts) (sig : List ℕ) (seed : SeedState) (f : FoundGoal) → IsSeed c seed.start seed.rows seed.state → IsFirstFrom c sig (State seed.state) f
    → Shows c sig (record { start = seed.start; rows = record { width = seed.rows.width; rows = seed.rows.rows ++ f.trace.rows.rows } }) f.goal
hop_shows c sig seed f ok first =
    let own = first.shows.1 in
    let begins : f.trace.start ≡ state_after c seed.start ok.frames = first.shows.0 ∙ ok.leads in
    let last : length (ok.frames ++ own.frames) - 1 ≡ length ok.frames + (length own.frames - 1) = omega (arith, length-append ok.frames own.frames, own.run.some) in
    record {
      reset = ok.reset;
      width = ok.width;
      frames = ok.frames ++ own.frames;
      rows = map-append (input_values c) ok.frames own.frames
          ∙ (ap (λ r. r ++ map (input_values c) own.frames) ok.inputs ∙ ap (λ r. seed.rows.rows ++ r) own.rows);
      run = run_append c seed.start ok.frames own.frames ok.path ok.legal (subst (λ (s : List Bool). Run c s own.frames) begins own.run);
      shows = ap (λ n. goal_of sig (get_or (ok.frames ++ own.frames) n [])) last
          ∙ (ap (goal_of sig) (get_or-append-add ok.frames own.frames (length own.frames - 1) []) ∙ own.shows);
    }

hop_at : (c : Parts) (sig : List ℕ) (seed : SeedState) (f : FoundGoal) → IsFirstFrom c sig (State seed.state) f → At c sig seed.state f.step f.goal
hop_at c sig seed f first =
    let own = first.shows.1 in
    let size : length own.frames ≡ f.step + 1 = sym (length-map own.frames (input_values c)) ∙ (ap length own.rows ∙ first.rows) in
    let last : length own.frames - 1 ≡ f.step = omega (arith, size) in
    record {
      frames = own.frames;
      size = size;
      run = subst (λ (s : List Bool). Run c s own.frames) first.shows.0 own.run;
      shows = subst (λ (k : ℕ). goal_of sig (get_or own.frames k []) ≡ f.goal) last own.shows;
    }

hop_found : (c : Parts) (sig : List ℕ) (o : Options) (batch : ℕ) (seed : SeedState) (f : FoundGoal) → batch < o.batches → IsSeedOfBatch c sig o batch (Some seed)
    → IsFirstFrom c sig (State seed.state) f → f.step ≤ o.hop → IsFoundBy c sig o (Hop batch) (hop_finding batch seed f)
hop_found c sig o batch seed f inside of first near = record {
  source_is = refl;
  found = record { inside = inside; seed = seed; seed_of = of; t = f.step; near = near; at = hop_at c sig seed f first };
  witness = record { start = seed.start; rows = record { width = seed.rows.width; rows = seed.rows.rows ++ f.trace.rows.rows } };
  basis = refl;
  shows = hop_shows c sig seed f (seed_leads c sig o batch seed of) first;
}

-- ---- all goals
hop_once : (batch : ℕ) (seed : SeedState) (found : List FoundGoal) → AllPairs (λ (f g : FoundGoal). f.goal ≢ g.goal) found
    → AllPairs (λ (f g : Finding). f.goal ≢ g.goal) (map (hop_finding batch seed) found)
hop_once batch seed [] once = λ i j d l m. absurd (omega (arith, m))
hop_once batch seed (x ∷ found) once = λ i j d l m e. (
    let size = length-map (x ∷ found) (hop_finding batch seed) in
    once i j x l (omega (arith, m, size))
    (ap (λ (f : Finding). f.goal) (sym (get_or-map (hop_finding batch seed) (x ∷ found) i x d (omega (arith, l, m, size))))
    ∙ (e ∙ ap (λ (f : Finding). f.goal) (get_or-map (hop_finding batch seed) (x ∷ found) j x d (omega (arith, m, size)))))
    )

goals_hopped : (batch : ℕ) (seed : SeedState) (found : List FoundGoal) → goals_of (map (hop_finding batch seed) found) ≡ found_goals found
goals_hopped batch seed [] = refl
goals_hopped batch seed (f ∷ found) = ap (λ gs. f.goal ∷ gs) (goals_hopped batch seed found)

-- what a hop of these findings' marks found
pub record IsHopped (c : Parts) (sig : List ℕ) (o : Options) (batch : ℕ) (seed : SeedState) (known : List Bool) (old new : List Finding) (s : Swept) : Type 0 where
  pub inside : batch < o.batches
  pub seed_of : IsSeedOfBatch c sig o batch (Some seed)
  pub known_is : AreKnown sig old known
  pub room : vars_before c (o.hop + 1) ≤ 4000000
  pub hop : IsHopFrom c sig seed.state known o.hop o.lemmas o.proofs s
  pub after : new ≡ old ++ map (hop_finding batch seed) s.found

hop_adds : (c : Parts) (sig : List ℕ) (o : Options) (batch : ℕ) (seed : SeedState) (known : List Bool) (old new : List Finding) (s : Swept)
    → IsHopped c sig o batch seed known old new s → Adds c sig o (Hop batch) old new
hop_adds c sig o batch seed known old new s h = record {
  more = map (hop_finding batch seed) s.found;
  after = h.after;
  each = All-map (IsFoundBy c sig o (Hop batch)) (hop_finding batch seed) s.found
      (λ k d l. hop_found c sig o batch seed (get_or s.found k d) h.inside h.seed_of (h.hop.found.reached k d l) (h.hop.shallow k d l));
  fresh = All-map (λ (f : Finding). ¬ Contains (goals_of old) f.goal) (hop_finding batch seed) s.found
      (λ k d l has. h.hop.found.new k d l ((h.known_is.marked ((get_or s.found k d).goal)).1 has));
  once = hop_once batch seed s.found h.hop.found.once;
}

-- a settled goal is found
hop_settled : (c : Parts) (sig : List ℕ) (o : Options) (batch : ℕ) (seed : SeedState) (known : List Bool) (old new : List Finding) (s : Swept) (goal : ℕ)
    → IsHopped c sig o batch seed known old new s → IsSettled known s.found goal → Contains (goals_of new) goal
hop_settled c sig o batch seed known old new s goal h settled =
    let goals : goals_of new ≡ goals_of old ++ found_goals s.found =
    ap goals_of h.after ∙ (map-append (λ (f : Finding). f.goal) old (map (hop_finding batch seed) s.found) ∙ ap (λ gs. goals_of old ++ gs) (goals_hopped batch seed s.found)) in
    subst (λ (gs : List ℕ). Contains gs goal) (sym goals) (elim settled [
      | inl marked ↦ Contains-append_left (goals_of old) (found_goals s.found) goal ((h.known_is.marked goal).0 marked)
      | inr found ↦ Contains-append_right (goals_of old) (found_goals s.found) goal found
    ])

-- ---- how it ends
pub hop_whole : (c : Parts) (sig : List ℕ) (o : Options) (batch : ℕ) (seed : SeedState) (known : List Bool) (old new : List Finding) (s : Swept)
    → IsHopped c sig o batch seed known old new s → AddsHop c sig o batch seed old new (blocks_of (searches.Hop batch) s.refuted s.spent)
hop_whole c sig o batch seed known old new s h = record {
  adds = hop_adds c sig o batch seed known old new s h;
  end = λ es have. (
      let start = State seed.state in
      let search = searches.Hop batch in
      let entered : AreEntered known s es = λ goal settled. have goal (hop_settled c sig o batch seed known old new s goal h settled) in
      record {
        settles = λ last t goal e near at. entered goal (whole_settles c sig start known o.hop o.lemmas o.proofs search s s.spent last goal refl h.hop h.hop.end e (t, near, at));
        spent = spent_told c sig o es start o.hop search known s s.spent entered h.hop.end;
        refuted = refuted_told o.proofs c sig o es start o.hop search known s h.room entered h.hop;
      }
      );
}

-- ---- with a seed, or without one
pub no_hop : (c : Parts) (sig : List ℕ) (o : Options) (batch : ℕ) (fs : List Finding) → AddsHopEnd c sig o batch None fs fs (record { seed = None; hop = no_blocks })
no_hop c sig o batch fs = record {
  adds = record {
    more = [];
    after = sym (append-nil fs);
    each = All-nil (IsFoundBy c sig o (Hop batch));
    fresh = All-nil (λ (f : Finding). ¬ Contains (goals_of fs) f.goal);
    once = λ i j d l m. absurd (omega (arith, m));
  };
  seed_is = refl;
  end_is = λ es have. refl;
}

pub with_hop : (c : Parts) (sig : List ℕ) (o : Options) (batch : ℕ) (seed : SeedState) (old new : List Finding) (hop : SearchBlocks) → IsSeedOfBatch c sig o batch (Some seed)
    → AddsHop c sig o batch seed old new hop → AddsHopEnd c sig o batch (Some seed) old new (record { seed = Some (line_of seed); hop = hop })
with_hop c sig o batch seed old new hop of h = record {
  adds = h.adds;
  seed_is = (
      let P : Parts → Option SeedState = λ p. Some (record { circuit = p; start = seed.start; rows = seed.rows; state = seed.state }) in
      ap P (sym (seed_of_circuit c sig o batch seed of))
      );
  end_is = h.end;
}
