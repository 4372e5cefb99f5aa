-- A report of a run tells the truth, whatever its jobs are.
use Rattle.std.proofs.Common.{◌≡◌, ℕ, zero, suc, ◌+◌, ◌<◌, ◌≤◌, ◌^◌, ℤ, Bool, true, false, cond, List, [], ◌∷◌, ◌++◌, map, length, get_or, refl, sym, ap, subst, ◌∙◌, arith, All, Contains, Option, Some, None, inl, inr}
use Rattle.std.specs.Prelude.{slice_get, option_map, count_by, is_some, IsSome, Any, AllPairs}
use Rattle.std.specs.List.{cons_option, enumerate_from, flat_map}
use Rattle.std.proofs.lemmas.Bool.{false≢true}
use Rattle.std.proofs.lemmas.List.{length-map}
use Rattle.std.proofs.lemmas.List.Elements.{All-append, Contains-get_or}
use Rattle.std.proofs.lemmas.Option.{none-some, same_Some, slice_get-map, slice_get_within, slice_get-get_or, get_or_from_slice_get}
use Rattle.aig_model.specs.Meaning.{At, latch_values}
use Rattle.aig_model.specs.LatchClauses.{SatisfiesClause, SatisfiesClauses}
use Rattle.aig_model.specs.SignalList.{IsSignals}
use Rattle.aig_model.specs.WellFormed.{IsCircuit}
use Rattle.aig_model.specs.declared.parts.Parts.{Parts}
use Rattle.lrat_text.specs.declared.proof.LratStep.{LratStep}
use Rattle.unroll.specs.declared.start.Start.{Start}
use Rattle.unroll.specs.declared.start.Start.TheVariants.{Reset, State}
use Rattle.inv_cert.proofs.Invariance.{bars}
use Rattle.inv_prover.specs.Greatest.{IsInGreatest}
use Rattle.inv_prover.proofs.Shrinking.{greatest_is_invariant}
use Rattle.inv_prover.proofs.Unique.{candidates_are_one}
use Rattle.sim_walk.specs.declared.options.Options.{Options}
use Rattle.board_core.specs.declared.entry.Entry.{Entry}
use Rattle.board_core.specs.declared.entry.Source.TheVariants as sources
use Rattle.board_core.specs.History.{first_entry}
use Rattle.report_text.specs.declared.report.GoalBlock.{GoalBlock}
use Rattle.report_text.specs.declared.report.GoalBlock.TheVariants as blocks
use Rattle.report_text.specs.declared.report.Block.{Block}
use Rattle.report_text.specs.declared.report.HopBound.{HopBound}
use Rattle.report_text.specs.declared.report.HopBound.TheVariants as hop_bounds
use Rattle.report_text.specs.declared.report.Inv.{Inv}
use Rattle.report_text.specs.declared.report.SeedLine.{SeedLine}
use Rattle.report_text.specs.declared.report.Report.{Report}
use Rattle.run_report.specs.declared.ends.BatchEnd.{BatchEnd}
use Rattle.run_report.specs.declared.ends.ProverEnd.{ProverEnd}
use Rattle.run_report.specs.declared.ends.ProverEnd.TheVariants.{NotRun, AllSettled, Spent, Whole}
use Rattle.run_report.specs.declared.ends.SearchBlocks.{SearchBlocks}
use Rattle.run_report.specs.declared.ends.Ends.{Ends}
use Rattle.run_report.specs.declared.open_goals.OpenBounds.{OpenBounds}
use Rattle.run_report.specs.declared.posts.Basis.{Basis}
use Rattle.run_report.specs.declared.posts.Basis.TheVariants.{Witness, Proof}
use Rattle.run_report.specs.declared.posts.Post.{Post}
use Rattle.run_report.specs.declared.searches.Search.TheVariants as searches
use Rattle.run_report.specs.Blocks.{strength_at, open_block, block_by, first_post, settled_by, AreAfter, AreOpen}
use Rattle.run_report.specs.Bounds.{Bounds, sweep_step, hop_step, proof_step, first_of, first_step, steps_of, whole_up_to, unless_spent, asked_strength, hop_of, hop_bound, bounds_of}
use Rattle.run_report.specs.Ended.{AreBounds, NamesGoal, all_refutes, all_spents, end_bound, excludes_blocks, hop_spents, hops_of, invs_from, prover_blocks, seeds_of, spents_of, strength_after}
use Rattle.run_report.specs.Ends.{AreTold, AreBatchEnds, IsSpentStep, IsHopEnd, IsProverEnd, IsExcludesQuery, inv_of, last_whole, optional, proves, scope_of}
use Rattle.goal_facts.specs.Found.{Found, IsWalkVisited}
use Rattle.goal_facts.specs.Invariants.{Excludes, IsExcluded, IsGreatestInvariant}
use Rattle.run_report.specs.Invariants.{AreInvs}
use Rattle.run_report.specs.Posts.{entries_of, kind_of_basis, HasEntry, IsBasis, IsPost, IsHistory}
use Rattle.run_report.specs.Queries.{AreSpents, IsSpentQuery, ComesBefore, item_of, section_of}
use Rattle.run_report.specs.Report.{Asked, by_zero, by_walk, by_sweep, by_hop, by_proof, IsFirst, IsBarredBy, IsBlock, is_unreachable}
use Rattle.run_report.specs.Scope.{Scope}
use Rattle.goal_facts.specs.Seeds.{IsSeedOfBatch}
use Rattle.run_report.specs.Seeds.{AreSeeds, seed_of_line}
use Rattle.run_report.specs.Summed.{Holds}
use Rattle.run_report.proofs.Counts.{pairs_append, some_unreachable}
use Rattle.run_report.proofs.Ending.{AreOfHops, IsOfHop, cut_found, hop_alone, only_first, only_second, only_third, own_hop, proof_alone, sweep_alone, unless_is}
use Rattle.run_report.proofs.History.{first_of_posts, IsPlaced, first_placed, no_entry, entry_at, same_test}

invs_none : (n : ℕ) → invs_from n None ≡ []
invs_none zero = refl
invs_none (suc n) = refl

pub plus_zero : (k : ℕ) → k ≡ 0 + k
plus_zero k = omega arith

-- what a report is made of
pub record IsComposed (c : Parts) (sig : List ℕ) (o : Options) (posts : List Post) (ends : Ends) (bounds : OpenBounds) (opens bs : List GoalBlock) (r : Report) : Type 0 where
  pub circuit : IsCircuit c
  pub signals : IsSignals c sig
  pub history : IsHistory c sig o (inv_of ends.prover) posts
  pub told : AreTold c sig o (entries_of posts) ends
  pub bounds_are : AreBounds o (2 ^ length sig) ends bounds
  pub opened : AreOpen bounds (2 ^ length sig) opens
  pub after : AreAfter opens posts bs
  pub seeds : List (Option SeedLine)
  pub seeds_are : seeds ≡ seeds_of ends.batches
  pub invs : List Inv
  pub invs_are : invs ≡ invs_from (count_by is_unreachable bs) (inv_of ends.prover)
  pub spents : List Block
  pub spents_are : spents ≡ all_spents ends
  pub refutes : List Block
  pub refutes_are : refutes ≡ all_refutes ends
  pub holds : Holds c sig o (entries_of posts) bs seeds invs spents refutes r

-- ---- the names of the queries
sweep_named : (c : Parts) (sig : List ℕ) (o : Options) (es : List Entry) (spent : Option Block) → IsSpentStep c sig o es Reset o.depth searches.Sweep spent
    → All (λ (b : Block). section_of b.name ≡ 0) (optional spent)
sweep_named c sig o es None told = λ k d l. absurd (omega (arith, l))
sweep_named c sig o es (Some b) told = λ k d l. (
    let first : k ≡ 0 = omega (arith, l) in
    subst (λ (x : ℕ). section_of (get_or (b ∷ []) x d).name ≡ 0) (sym first) (ap section_of told.1)
    )

spent_named : (c : Parts) (sig : List ℕ) (o : Options) (es : List Entry) (start : Start) (b : ℕ) (spent : Option Block) → IsSpentStep c sig o es start o.hop (searches.Hop b) spent
    → All (IsOfHop b) (optional spent)
spent_named c sig o es start b None told = λ k d l. absurd (omega (arith, l))
spent_named c sig o es start b (Some q) told = λ k d l. (
    let first : k ≡ 0 = omega (arith, l) in
    subst (λ (x : ℕ). IsOfHop b (get_or (q ∷ []) x d)) (sym first) (told.0, told.1)
    )

hop_named : (c : Parts) (sig : List ℕ) (o : Options) (es : List Entry) (b : ℕ) (seed : Option SeedLine) (hop : SearchBlocks) → IsHopEnd c sig o es b seed hop → All (IsOfHop b) (optional hop.spent)
hop_named c sig o es b None hop h = subst (λ (x : SearchBlocks). All (IsOfHop b) (optional x.spent)) (sym h) (λ k d l. absurd (omega (arith, l)))
hop_named c sig o es b (Some s) hop h = spent_named c sig o es (State s.state) b hop.spent h.spent

pub hops_from : (of : BatchEnd → List Block) (n : ℕ) (ends : List BatchEnd) → ((k : ℕ) (end : BatchEnd) → slice_get ends k ≡ Some end → All (IsOfHop (n + k)) (of end)) → AreOfHops of n ends
hops_from of n [] h = tt
hops_from of n (x ∷ ends) h = (
  subst (λ (b : ℕ). All (IsOfHop b) (of x)) (let e : n + 0 ≡ n = omega arith in e) (h 0 x refl),
  hops_from of (n + 1) ends (λ k end e. subst (λ (b : ℕ). All (IsOfHop b) (of end)) (let s : n + suc k ≡ n + 1 + k = omega arith in s) (h (suc k) end e)),
)

pub hop_sections : (of : BatchEnd → List Block) (n : ℕ) (ends : List BatchEnd) → AreOfHops of n ends → All (λ (b : Block). section_of b.name ≡ 1) (flat_map of ends)
hop_sections of n [] named = λ k d l. absurd (omega (arith, l))
hop_sections of n (x ∷ ends) named =
    All-append (λ (b : Block). section_of b.name ≡ 1) (of x) (flat_map of ends) (λ k d l. ap section_of (named.0 k d l).1) (hop_sections of (n + 1) ends named.1)

prover_sections : (c : Parts) (sig : List ℕ) (o : Options) (es : List Entry) (p : ProverEnd) → IsProverEnd c sig o es p → All (λ (b : Block). 2 ≤ section_of b.name) (prover_blocks p)
prover_sections c sig o es NotRun told = λ k d l. absurd (omega (arith, l))
prover_sections c sig o es AllSettled told = λ k d l. absurd (omega (arith, l))
prover_sections c sig o es (Spent b) told = λ k d l. (
    let first : k ≡ 0 = omega (arith, l) in
    subst (λ (x : ℕ). 2 ≤ section_of (get_or (b ∷ []) x d).name) (sym first) (omega (arith, ap section_of told.2))
    )
prover_sections c sig o es (Whole inv spents) told = λ k d l. omega (arith, ap section_of (told.queries k d l).name)

-- what is known of the names of all queries
pub record AreNamed (ends : Ends) : Type 0 where
  sweep : All (λ (b : Block). section_of b.name ≡ 0) (optional ends.sweep.spent)
  of_hops : AreOfHops spents_of 0 ends.batches
  hops : All (λ (b : Block). section_of b.name ≡ 1) (hop_spents ends.batches)
  prover : All (λ (b : Block). 2 ≤ section_of b.name) (prover_blocks ends.prover)

pub named : (c : Parts) (sig : List ℕ) (o : Options) (es : List Entry) (ends : Ends) → AreTold c sig o es ends → AreNamed ends
named c sig o es ends told =
    let of : AreOfHops spents_of 0 ends.batches =
    hops_from spents_of 0 ends.batches (λ k end e. subst (λ (b : ℕ). All (IsOfHop b) (spents_of end)) (plus_zero k) (hop_named c sig o es k end.seed end.hop (told.batches.each k end e).hop)) in
    record {
      sweep = sweep_named c sig o es ends.sweep.spent told.sweep.spent;
      of_hops = of;
      hops = hop_sections spents_of 0 ends.batches of;
      prover = prover_sections c sig o es ends.prover told.prover;
    }

-- the queries that are spent for goals of their own name them
pub prover_names : (c : Parts) (sig : List ℕ) (o : Options) (es : List Entry) (p : ProverEnd) → IsProverEnd c sig o es p → All (λ (b : Block). NamesGoal (2 ^ length sig) b.name) (excludes_blocks p)
prover_names c sig o es NotRun told = λ k d l. absurd (omega (arith, l))
prover_names c sig o es AllSettled told = λ k d l. absurd (omega (arith, l))
prover_names c sig o es (Spent b) told = λ k d l. absurd (omega (arith, l))
prover_names c sig o es (Whole inv spents) told = λ k d l. (
    let q = told.queries k d l in
    subst (λ name. NamesGoal (2 ^ length sig) name) (sym q.name) q.spent.below
    )

-- ---- bounds
sweep_steps : (ends : Ends) → AreNamed ends → first_step sweep_step (all_spents ends) ≡ first_step sweep_step (optional ends.sweep.spent)
sweep_steps ends n =
    ap first_of (only_first sweep_step (optional ends.sweep.spent) (hop_spents ends.batches) (prover_blocks ends.prover)
    (λ k d l. sweep_alone (get_or (hop_spents ends.batches) k d).name (omega (arith, n.hops k d l)))
    (λ k d l. sweep_alone (get_or (prover_blocks ends.prover) k d).name (omega (arith, n.prover k d l))))

hop_steps : (ends : Ends) (b : ℕ) (end : BatchEnd) → AreNamed ends → slice_get ends.batches b ≡ Some end
    → first_step (hop_step b) (all_spents ends) ≡ first_step (hop_step b) (optional end.hop.spent)
hop_steps ends b end n e =
    ap first_of (only_second (hop_step b) (optional ends.sweep.spent) (hop_spents ends.batches) (prover_blocks ends.prover)
    (λ k d l. hop_alone b (get_or (optional ends.sweep.spent) k d).name (λ one. omega (arith, one, n.sweep k d l)))
    (λ k d l. hop_alone b (get_or (prover_blocks ends.prover) k d).name (λ one. omega (arith, one, n.prover k d l)))
    ∙ subst (λ (x : ℕ). steps_of (hop_step x) (hop_spents ends.batches) ≡ steps_of (hop_step x) (optional end.hop.spent)) (sym (plus_zero b)) (own_hop spents_of 0 b ends.batches end n.of_hops e))

proof_steps : (ends : Ends) (g : ℕ) → AreNamed ends → first_step (proof_step g) (all_spents ends) ≡ first_step (proof_step g) (prover_blocks ends.prover)
proof_steps ends g n =
    ap first_of (only_third (proof_step g) (optional ends.sweep.spent) (hop_spents ends.batches) (prover_blocks ends.prover)
    (λ k d l. proof_alone g (get_or (optional ends.sweep.spent) k d).name (omega (arith, n.sweep k d l)))
    (λ k d l. proof_alone g (get_or (hop_spents ends.batches) k d).name (omega (arith, n.hops k d l))))

bound_same : (o : Options) (xs ys : List Block) (b : ℕ) (seed : Option SeedLine) → first_step (hop_step b) xs ≡ first_step (hop_step b) ys → hop_bound o xs b seed ≡ hop_bound o ys b seed
bound_same o xs ys b None e = refl
bound_same o xs ys b (Some s) e = ap (λ (t : Option ℕ). hop_of (whole_up_to o.hop t)) e

hops_same : (o : Options) (spents : List Block) (n : ℕ) (ends : List BatchEnd)
    → ((k : ℕ) (end : BatchEnd) → slice_get ends k ≡ Some end → first_step (hop_step (n + k)) spents ≡ first_step (hop_step (n + k)) (optional end.hop.spent))
    → map (λ p. hop_bound o spents p.0 p.1) (enumerate_from n (seeds_of ends)) ≡ map (λ p. end_bound o p.0 p.1) (enumerate_from n ends)
hops_same o spents n [] h = refl
hops_same o spents n (x ∷ ends) h =
    let head : hop_bound o spents n x.seed ≡ end_bound o n x =
    bound_same o spents (optional x.hop.spent) n x.seed (subst (λ (b : ℕ). first_step (hop_step b) spents ≡ first_step (hop_step b) (optional x.hop.spent)) (let e : n + 0 ≡ n = omega arith in e) (h 0 x refl)) in
    let tail = hops_same o spents (n + 1) ends (λ k end e. subst (λ (b : ℕ). first_step (hop_step b) spents ≡ first_step (hop_step b) (optional end.hop.spent)) (let s : n + suc k ≡ n + 1 + k = omega arith in s) (h (suc k) end e)) in
    λ i. head i ∷ tail i

-- the strength that the ends leave
strength_now : (o : Options) (p : ProverEnd) (g : ℕ) (c : Parts) (sig : List ℕ) (es : List Entry) (cut : Bool) → IsProverEnd c sig o es p → cut ≡ is_some (first_step (proof_step g) (excludes_blocks p))
    → unless_spent (asked_strength (record { proves = proves p; refutes = true }) o) (first_step (proof_step g) (prover_blocks p)) ≡ cond cut None (strength_after o p)
strength_now o NotRun g c sig es cut told e = ap (λ (b : Bool). cond b None None) (sym e)
strength_now o AllSettled g c sig es cut told e = ap (λ (b : Bool). cond b None (Some o.strength)) (sym e)
strength_now o (Spent b) g c sig es cut told e =
    ap (λ name. unless_spent (Some o.strength) (first_of (cons_option (proof_step g name) []))) told.2 ∙ ap (λ (x : Bool). cond x None None) (sym e)
strength_now o (Whole inv spents) g c sig es cut told e =
    unless_is (Some o.strength) (first_step (proof_step g) spents) ∙ ap (λ (b : Bool). cond b None (Some o.strength)) (sym e)

pub bounds_now : (c : Parts) (sig : List ℕ) (o : Options) (posts : List Post) (ends : Ends) (bounds : OpenBounds) (opens bs : List GoalBlock) (r : Report) (g : ℕ) → g < 2 ^ length sig
    → IsComposed c sig o posts ends bounds opens bs r → bounds_of (scope_of ends) r g ≡ record { depth = bounds.depth; hops = bounds.hops; strength = strength_at bounds g }
bounds_now c sig o posts ends bounds opens bs r g below h =
    let n = named c sig o (entries_of posts) ends h.told in
    let spents : r.spents ≡ all_spents ends = h.holds.spents ∙ h.spents_are in
    let seeds : r.seeds ≡ seeds_of ends.batches = h.holds.seeds ∙ h.seeds_are in
    let depth : whole_up_to r.options.depth (first_step sweep_step r.spents) ≡ bounds.depth =
    ap (λ (x : Options). whole_up_to x.depth (first_step sweep_step r.spents)) h.holds.options
    ∙ (ap (λ (x : List Block). whole_up_to o.depth (first_step sweep_step x)) spents ∙ (ap (λ (t : Option ℕ). whole_up_to o.depth t) (sweep_steps ends n) ∙ sym h.bounds_are.depth)) in
    let hops : map (λ p. hop_bound r.options r.spents p.0 p.1) (enumerate_from 0 r.seeds) ≡ bounds.hops =
    ap (λ (x : Options). map (λ p. hop_bound x r.spents p.0 p.1) (enumerate_from 0 r.seeds)) h.holds.options
    ∙ (ap (λ (x : List (Option SeedLine)). map (λ p. hop_bound o r.spents p.0 p.1) (enumerate_from 0 x)) seeds
    ∙ (hops_same o r.spents 0 ends.batches (λ k end e. subst (λ (b : ℕ). first_step (hop_step b) r.spents ≡ first_step (hop_step b) (optional end.hop.spent)) (plus_zero k) (ap (first_step (hop_step k)) spents ∙ hop_steps ends k end n e)) ∙ sym h.bounds_are.hops)) in
    let strength : unless_spent (asked_strength (scope_of ends) r.options) (first_step (proof_step g) r.spents) ≡ strength_at bounds g =
    ap (λ (x : Options). unless_spent (asked_strength (scope_of ends) x) (first_step (proof_step g) r.spents)) h.holds.options
    ∙ (ap (λ (x : List Block). unless_spent (asked_strength (scope_of ends) o) (first_step (proof_step g) x)) spents
    ∙ (ap (λ (t : Option ℕ). unless_spent (asked_strength (scope_of ends) o) t) (proof_steps ends g n)
    ∙ (strength_now o ends.prover g c sig (entries_of posts) (get_or bounds.cut g false) h.told.prover (h.bounds_are.cut g (omega (arith, below, h.bounds_are.size)))
    ∙ ap (λ (s : Option ℕ). cond (get_or bounds.cut g false) None s) (sym h.bounds_are.strength)))) in
    λ i. record { depth = depth i; hops = hops i; strength = strength i }

-- ---- what was asked for
end_in : (ends : List BatchEnd) (b : ℕ) → b < length ends → (end : BatchEnd) × (slice_get ends b ≡ Some end)
end_in [] b inside = absurd (omega (arith, inside))
end_in (x ∷ ends) zero inside = (x, refl)
end_in (x ∷ ends) (suc b) inside = end_in ends b (omega (arith, inside))

pub seed_of_end : (ends : List BatchEnd) (b : ℕ) (end : BatchEnd) → slice_get ends b ≡ Some end → slice_get (seeds_of ends) b ≡ Some end.seed
seed_of_end ends b end e = slice_get-map (λ (x : BatchEnd). x.seed) ends b ∙ ap (option_map (λ (x : BatchEnd). x.seed)) e

-- each batch has its end
end_at : (c : Parts) (sig : List ℕ) (o : Options) (es : List Entry) (ends : List BatchEnd) (b : ℕ) → AreBatchEnds c sig o es ends → b < o.batches → (end : BatchEnd) × (slice_get ends b ≡ Some end)
end_at c sig o es ends b told inside = end_in ends b (omega (arith, inside, told.count))

seed_at : (ends : List BatchEnd) (b : ℕ) (line : Option SeedLine) → slice_get (seeds_of ends) b ≡ Some line → (end : BatchEnd) × (slice_get ends b ≡ Some end) × (end.seed ≡ line)
seed_at [] b line e = absurd cc
seed_at (x ∷ ends) zero line e = let same : x.seed ≡ line = cc in (x, refl, same)
seed_at (x ∷ ends) (suc b) line e = seed_at ends b line e

pub hop_at : (o : Options) (n : ℕ) (ends : List BatchEnd) (b : ℕ) (end : BatchEnd) → slice_get ends b ≡ Some end
    → slice_get (map (λ p. end_bound o p.0 p.1) (enumerate_from n ends)) b ≡ Some (end_bound o (n + b) end)
hop_at o n [] b end e = absurd cc
hop_at o n (x ∷ ends) zero end e =
    let same : x ≡ end = cc in
    ap (λ (y : BatchEnd). Some (end_bound o n y)) same ∙ ap (λ (k : ℕ). Some (end_bound o k end)) (let s : n ≡ n + 0 = omega arith in s)
hop_at o n (x ∷ ends) (suc b) end e = hop_at o (n + 1) ends b end e ∙ ap (λ (k : ℕ). Some (end_bound o k end)) (let s : n + 1 + b ≡ n + suc b = omega arith in s)

hop_is_to : (t : Option ℕ) (h : ℕ) → hop_of t ≡ hop_bounds.To h → t ≡ Some h
hop_is_to None h e = absurd cc
hop_is_to (Some t) h e = let same : t ≡ h = cc in ap (λ (x : ℕ). Some x) same

by_the_hop : (c : Parts) (sig : List ℕ) (o : Options) (es : List Entry) (b h t goal : ℕ) (own : Option SeedLine) (seed : SeedLine) (hop : SearchBlocks) → own ≡ Some seed → IsHopEnd c sig o es b own hop
    → hop_bound o (optional hop.spent) b own ≡ hop_bounds.To h → t ≤ h → At c sig seed.state t goal → HasEntry es goal
by_the_hop c sig o es b h t goal None seed hop same end e near at = absurd (none-some seed same)
by_the_hop c sig o es b h t goal (Some own) seed hop same end e near at =
    let is : own ≡ seed = cc in
    end.settles h t goal (hop_is_to (last_whole o.hop (searches.Hop b) hop) h e) near (subst (λ (x : SeedLine). At c sig x.state t goal) (sym is) at)

-- clauses with the same members are satisfied alike
same_satisfied : (state : List Bool) (xs ys : List (List ℤ)) → ((clause : List ℤ) → Contains ys clause → Contains xs clause) → SatisfiesClauses state xs → SatisfiesClauses state ys
same_satisfied state xs ys among sat = λ k d l. (
    let has = among (get_or ys k d) (Contains-get_or ys k d l) in
    subst (SatisfiesClause state) has.2 (sat has.0 (get_or ys k d) has.1)
    )

excluded_same : (c : Parts) (sig : List ℕ) (strength goal : ℕ) (clauses : List (List ℤ)) → IsGreatestInvariant c sig strength clauses → IsExcluded c sig strength goal → Excludes c sig clauses goal
excluded_same c sig strength goal clauses own other = λ a fits legal sat. (
    let same = candidates_are_one c sig strength own.candidates other.greatest.candidates own.are other.greatest.are in
    other.excludes a fits legal (same_satisfied (latch_values c a) clauses other.clauses
    (λ clause has. (own.greatest.exactly clause).1 (subst (λ (ks : List (List ℤ)). IsInGreatest c ks clause) (sym same) ((other.greatest.greatest.exactly clause).0 has)))
    sat)
    )

-- a goal's own query among the prover's
own_query : (c : Parts) (sig : List ℕ) (o : Options) (inv : Inv) (spents : List Block) (g : ℕ) → All (IsExcludesQuery c sig o inv) spents → Any (λ (b : Block). item_of b.name ≡ g) spents
    → Any (λ (b : Block). IsSome (proof_step g b.name)) spents
own_query c sig o inv spents g queries any =
    let q : IsExcludesQuery c sig o inv any.1 = subst (IsExcludesQuery c sig o inv) any.3 (queries any.0 any.1 any.2) in
    let goal : q.goal ≡ g = sym (ap item_of q.name) ∙ any.4 in
    (any.0, any.1, any.2, any.3, ap (λ name. is_some {T = ℕ} (proof_step g name)) q.name ∙ ap (λ (t : Bool). is_some {T = ℕ} (cond t (Some 0) None)) (same_test q.goal g goal))

by_the_prover : (c : Parts) (sig : List ℕ) (o : Options) (es : List Entry) (p : ProverEnd) (g s : ℕ) (cut : Bool) → IsProverEnd c sig o es p → g < 2 ^ length sig
    → cut ≡ is_some (first_step (proof_step g) (excludes_blocks p)) → cond cut None (strength_after o p) ≡ Some s → IsExcluded c sig o.strength g → HasEntry es g
by_the_prover c sig o es NotRun g s true told below at e found = absurd (none-some s e)
by_the_prover c sig o es NotRun g s false told below at e found = absurd (none-some s e)
by_the_prover c sig o es AllSettled g s cut told below at e found = told g below
by_the_prover c sig o es (Spent b) g s true told below at e found = absurd (none-some s e)
by_the_prover c sig o es (Spent b) g s false told below at e found = absurd (none-some s e)
by_the_prover c sig o es (Whole inv spents) g s true told below at e found = absurd (none-some s e)
by_the_prover c sig o es (Whole inv spents) g s false told below at e found =
    elim (told.settles g below (excluded_same c sig o.strength g inv.clauses told.inv_is.greatest found)) [
      | inl entry ↦ entry
      | inr query ↦ absurd (false≢true (at ∙ cut_found g spents (own_query c sig o inv spents g told.queries query)))
    ]

not_asked : (c : Parts) (sig : List ℕ) (o : Options) (posts : List Post) (ends : Ends) (bounds : OpenBounds) (opens bs : List GoalBlock) (r : Report) (g : ℕ) → g < 2 ^ length sig
    → IsComposed c sig o posts ends bounds opens bs r → (HasEntry (entries_of posts) g → ⊥) → Asked c sig (scope_of ends) r g → ⊥
not_asked c sig o posts ends bounds opens bs r g below h none (by_zero found) =
    none (h.told.zero g (subst (λ (x : Options). Found c sig x sources.Zero g) h.holds.options found))
not_asked c sig o posts ends bounds opens bs r g below h none (by_walk b found) =
    let walked : IsWalkVisited c sig o b g = subst (λ (x : Options). Found c sig x (sources.Walk b) g) h.holds.options found in
    let end = end_at c sig o (entries_of posts) ends.batches b h.told.batches walked.inside in
    none ((h.told.batches.each b end.0 end.1).visited g walked)
not_asked c sig o posts ends bounds opens bs r g below h none (by_sweep d e w) =
    let at : whole_up_to o.depth (first_step sweep_step (optional ends.sweep.spent)) ≡ Some d =
    sym h.bounds_are.depth ∙ (sym (ap (λ (b : Bounds). b.depth) (bounds_now c sig o posts ends bounds opens bs r g below h)) ∙ e) in
    none (h.told.sweep.settles d g at w)
not_asked c sig o posts ends bounds opens bs r g below h none (by_hop b n t seed at e near w) =
    let end = seed_at ends.batches b (Some seed) (ap (λ (xs : List (Option SeedLine)). slice_get xs b) (sym (h.holds.seeds ∙ h.seeds_are)) ∙ at) in
    let hops : (bounds_of (scope_of ends) r g).hops ≡ hops_of o ends.batches = ap (λ (x : Bounds). x.hops) (bounds_now c sig o posts ends bounds opens bs r g below h) ∙ h.bounds_are.hops in
    let bound : end_bound o b end.0 ≡ hop_bounds.To n =
    same_Some (end_bound o b end.0) (hop_bounds.To n) (sym (subst (λ (x : ℕ). slice_get (hops_of o ends.batches) b ≡ Some (end_bound o x end.0)) (sym (plus_zero b)) (hop_at o 0 ends.batches b end.0 end.1)) ∙ (sym (ap (λ (xs : List HopBound). slice_get xs b) hops) ∙ e)) in
    none (by_the_hop c sig o (entries_of posts) b n t g end.0.seed seed end.0.hop end.2 (h.told.batches.each b end.0 end.1).hop bound near w)
not_asked c sig o posts ends bounds opens bs r g below h none (by_proof s e found) =
    let strength : strength_at bounds g ≡ Some s = sym (ap (λ (x : Bounds). x.strength) (bounds_now c sig o posts ends bounds opens bs r g below h)) ∙ e in
    none (by_the_prover c sig o (entries_of posts) ends.prover g s (get_or bounds.cut g false) h.told.prover below (h.bounds_are.cut g (omega (arith, below, h.bounds_are.size)))
    (ap (λ (x : Option ℕ). cond (get_or bounds.cut g false) None x) (sym h.bounds_are.strength) ∙ strength)
    (subst (λ (x : Options). Found c sig x sources.Proved g) h.holds.options found))

-- ---- the order of the queries
-- what holds of each holds of one that is there
pub contained : (P : Block → Type 0) (bs : List Block) (b : Block) → All P bs → Contains bs b → P b
contained P bs b all has = subst P has.2 (all has.0 b has.1)

-- the item of each hop's query is its batch
hops_rise : (of : BatchEnd → List Block) (n : ℕ) (ends : List BatchEnd) → AreOfHops of n ends → All (λ (b : Block). n ≤ item_of b.name) (flat_map of ends)
hops_rise of n [] named = λ k d l. absurd (omega (arith, l))
hops_rise of n (x ∷ ends) named =
    All-append (λ (b : Block). n ≤ item_of b.name) (of x) (flat_map of ends) (λ k d l. omega (arith, ap item_of (named.0 k d l).1))
    (λ k d l. omega (arith, hops_rise of (n + 1) ends named.1 k d l))

pub hop_before : (of : BatchEnd → List Block) (n : ℕ) (ends : List BatchEnd) (bs : List Block) (a b : Block) → All (IsOfHop n) bs → AreOfHops of (n + 1) ends → Contains bs a
    → Contains (flat_map of ends) b → ComesBefore a b
hop_before of n ends bs a b own more ha hb =
    let name : item_of a.name ≡ n = contained (λ (x : Block). item_of x.name ≡ n) bs a (λ k d l. ap item_of (own k d l).1) ha in
    inr (
      contained (λ (x : Block). section_of x.name ≡ 1) bs a (λ k d l. ap section_of (own k d l).1) ha
          ∙ sym (contained (λ (x : Block). section_of x.name ≡ 1) (flat_map of ends) b (hop_sections of (n + 1) ends more) hb),
      omega (arith, name, contained (λ (x : Block). n + 1 ≤ item_of x.name) (flat_map of ends) b (hops_rise of (n + 1) ends more) hb),
    )

optional_pairs : (spent : Option Block) → AllPairs ComesBefore (optional spent)
optional_pairs None = λ i j d l m. absurd (omega (arith, m))
optional_pairs (Some b) = λ i j d l m. absurd (omega (arith, l, m))

hops_ordered : (n : ℕ) (ends : List BatchEnd) → AreOfHops spents_of n ends → AllPairs ComesBefore (hop_spents ends)
hops_ordered n [] named = λ i j d l m. absurd (omega (arith, m))
hops_ordered n (x ∷ ends) named =
    pairs_append ComesBefore (optional x.hop.spent) (hop_spents ends) (optional_pairs x.hop.spent) (hops_ordered (n + 1) ends named.1)
    (λ a b ha hb. hop_before spents_of n ends (spents_of x) a b named.0 named.1 ha hb)

prover_ordered : (c : Parts) (sig : List ℕ) (o : Options) (es : List Entry) (p : ProverEnd) → IsProverEnd c sig o es p → AllPairs ComesBefore (prover_blocks p)
prover_ordered c sig o es NotRun told = λ i j d l m. absurd (omega (arith, m))
prover_ordered c sig o es AllSettled told = λ i j d l m. absurd (omega (arith, m))
prover_ordered c sig o es (Spent b) told = λ i j d l m. absurd (omega (arith, l, m))
prover_ordered c sig o es (Whole inv spents) told = λ i j d l m.
    inr (ap section_of (told.queries i d (omega (arith, l, m))).name ∙ sym (ap section_of (told.queries j d m).name), told.rising i j d l m)

spents_ordered : (c : Parts) (sig : List ℕ) (o : Options) (es : List Entry) (ends : Ends) → AreTold c sig o es ends → AreNamed ends → AllPairs ComesBefore (all_spents ends)
spents_ordered c sig o es ends told n =
    pairs_append ComesBefore (optional ends.sweep.spent ++ hop_spents ends.batches) (prover_blocks ends.prover)
    (pairs_append ComesBefore (optional ends.sweep.spent) (hop_spents ends.batches) (optional_pairs ends.sweep.spent) (hops_ordered 0 ends.batches n.of_hops)
    (λ a b ha hb. inl (omega (arith, contained (λ (x : Block). section_of x.name ≡ 0) (optional ends.sweep.spent) a n.sweep ha, contained (λ (x : Block). section_of x.name ≡ 1) (hop_spents ends.batches) b n.hops hb))))
    (prover_ordered c sig o es ends.prover told.prover)
    (λ a b ha hb. inl (omega (
      arith,
      contained (λ (x : Block). section_of x.name < 2) (optional ends.sweep.spent ++ hop_spents ends.batches) a
          (All-append (λ (x : Block). section_of x.name < 2) (optional ends.sweep.spent) (hop_spents ends.batches) (λ k d l. omega (arith, n.sweep k d l)) (λ k d l. omega (arith, n.hops k d l))) ha,
      contained (λ (x : Block). 2 ≤ section_of x.name) (prover_blocks ends.prover) b n.prover hb,
    )))

-- ---- each query
sweep_query : (c : Parts) (sig : List ℕ) (o : Options) (es : List Entry) (seeds : List (Option SeedLine)) (spent : Option Block) → IsSpentStep c sig o es Reset o.depth searches.Sweep spent
    → All (λ (b : Block). IsSpentQuery c sig o es seeds b.name b) (optional spent)
sweep_query c sig o es seeds None told = λ k d l. absurd (omega (arith, l))
sweep_query c sig o es seeds (Some b) told = λ k d l. (
    let first : k ≡ 0 = omega (arith, l) in
    subst (λ (x : ℕ). IsSpentQuery c sig o es seeds (get_or (b ∷ []) x d).name (get_or (b ∷ []) x d)) (sym first)
    (subst (λ name. IsSpentQuery c sig o es seeds name b) (sym told.1) told.2)
    )

spent_query : (c : Parts) (sig : List ℕ) (o : Options) (es : List Entry) (seeds : List (Option SeedLine)) (n : ℕ) (s : SeedLine) (spent : Option Block) → slice_get seeds n ≡ Some (Some s)
    → IsSpentStep c sig o es (State s.state) o.hop (searches.Hop n) spent → All (λ (b : Block). IsSpentQuery c sig o es seeds b.name b) (optional spent)
spent_query c sig o es seeds n s None place told = λ k d l. absurd (omega (arith, l))
spent_query c sig o es seeds n s (Some b) place told = λ k d l. (
    let first : k ≡ 0 = omega (arith, l) in
    subst (λ (x : ℕ). IsSpentQuery c sig o es seeds (get_or (b ∷ []) x d).name (get_or (b ∷ []) x d)) (sym first)
    (subst (λ name. IsSpentQuery c sig o es seeds name b) (sym told.1) (record { seed = s; place = place; search = told.2 }))
    )

hop_query : (c : Parts) (sig : List ℕ) (o : Options) (es : List Entry) (seeds : List (Option SeedLine)) (n : ℕ) (seed : Option SeedLine) (hop : SearchBlocks) → slice_get seeds n ≡ Some seed
    → IsHopEnd c sig o es n seed hop → All (λ (b : Block). IsSpentQuery c sig o es seeds b.name b) (optional hop.spent)
hop_query c sig o es seeds n None hop place end = subst (λ (x : SearchBlocks). All (λ (b : Block). IsSpentQuery c sig o es seeds b.name b) (optional x.spent)) (sym end) (λ k d l. absurd (omega (arith, l)))
hop_query c sig o es seeds n (Some s) hop place end = spent_query c sig o es seeds n s hop.spent place end.spent

hop_queries : (c : Parts) (sig : List ℕ) (o : Options) (es : List Entry) (seeds : List (Option SeedLine)) (n : ℕ) (ends : List BatchEnd)
    → ((k : ℕ) (end : BatchEnd) → slice_get ends k ≡ Some end → (slice_get seeds (n + k) ≡ Some end.seed) × IsHopEnd c sig o es (n + k) end.seed end.hop)
    → All (λ (b : Block). IsSpentQuery c sig o es seeds b.name b) (hop_spents ends)
hop_queries c sig o es seeds n [] h = λ k d l. absurd (omega (arith, l))
hop_queries c sig o es seeds n (x ∷ ends) h =
    let own = h 0 x refl in
    All-append (λ (b : Block). IsSpentQuery c sig o es seeds b.name b) (optional x.hop.spent) (hop_spents ends)
    (hop_query c sig o es seeds (n + 0) x.seed x.hop own.0 own.1)
    (hop_queries c sig o es seeds (n + 1) ends (λ k end e. subst (λ (b : ℕ). (slice_get seeds b ≡ Some end.seed) × IsHopEnd c sig o es b end.seed end.hop)
    (let s : n + suc k ≡ n + 1 + k = omega arith in s) (h (suc k) end e)))

prover_queries : (c : Parts) (sig : List ℕ) (o : Options) (es : List Entry) (seeds : List (Option SeedLine)) (p : ProverEnd) → IsProverEnd c sig o es p
    → All (λ (b : Block). IsSpentQuery c sig o es seeds b.name b) (prover_blocks p)
prover_queries c sig o es seeds NotRun told = λ k d l. absurd (omega (arith, l))
prover_queries c sig o es seeds AllSettled told = λ k d l. absurd (omega (arith, l))
prover_queries c sig o es seeds (Spent b) told = λ k d l. (
    let first : k ≡ 0 = omega (arith, l) in
    subst (λ (x : ℕ). IsSpentQuery c sig o es seeds (get_or (b ∷ []) x d).name (get_or (b ∷ []) x d)) (sym first)
    (subst (λ name. IsSpentQuery c sig o es seeds name b) (sym told.2) told.3)
    )
prover_queries c sig o es seeds (Whole inv spents) told = λ k d l. (
    let q = told.queries k d l in
    subst (λ name. IsSpentQuery c sig o es seeds name (get_or spents k d)) (sym q.name) q.spent
    )

pub spents_tell : (c : Parts) (sig : List ℕ) (o : Options) (es : List Entry) (ends : Ends) → AreTold c sig o es ends → AreSpents c sig o es (seeds_of ends.batches) (all_spents ends)
spents_tell c sig o es ends told =
    let seeds = seeds_of ends.batches in
    let P : Block → Type 0 = λ (b : Block). IsSpentQuery c sig o es seeds b.name b in
    record {
      ordered = spents_ordered c sig o es ends told (named c sig o es ends told);
      each = All-append P (optional ends.sweep.spent ++ hop_spents ends.batches) (prover_blocks ends.prover)
          (All-append P (optional ends.sweep.spent) (hop_spents ends.batches) (sweep_query c sig o es seeds ends.sweep.spent told.sweep.spent)
          (hop_queries c sig o es seeds 0 ends.batches (λ k end e. subst (λ (b : ℕ). (slice_get seeds b ≡ Some end.seed) × IsHopEnd c sig o es b end.seed end.hop) (plus_zero k)
          (seed_of_end ends.batches k end e, (told.batches.each k end e).hop))))
          (prover_queries c sig o es seeds ends.prover told.prover);
    }

-- ---- blocks
first_is : (posts : List Post) (es : List Entry) (g : ℕ) (p : Post) → es ≡ entries_of posts → first_post posts g ≡ Some p → IsFirst es g p.entry.kind p.entry.number
first_is posts es g p same e =
    let first : first_entry es g ≡ Some p.entry = ap (λ (xs : List Entry). first_entry xs g) same ∙ (first_of_posts posts g ∙ ap (option_map (λ (q : Post). q.entry)) e) in
    record { verdict = ap (option_map (λ (x : Entry). x.kind)) first; entry = p.entry; first = first; number_of = refl }

-- what bars a goal
barred_by : (c : Parts) (sig : List ℕ) (o : Options) (es : List Entry) (p : ProverEnd) (invs : List Inv) (n g : ℕ) (proof : List LratStep) → IsCircuit c → IsSignals c sig → g < 2 ^ length sig → IsProverEnd c sig o es p
    → invs ≡ invs_from n (inv_of p) → 0 < n → IsBasis c sig (inv_of p) g (Proof proof) → IsBarredBy c sig invs g 0 proof
barred_by c sig o es NotRun invs n g proof circuit signals below told is some basis = absurd basis
barred_by c sig o es AllSettled invs n g proof circuit signals below told is some basis = absurd basis
barred_by c sig o es (Spent b) invs n g proof circuit signals below told is some basis = absurd basis
barred_by c sig o es (Whole inv spents) invs zero g proof circuit signals below told is some basis = absurd (omega (arith, some))
barred_by c sig o es (Whole inv spents) invs (suc n) g proof circuit signals below told is some basis = record {
  inv = inv;
  place_of = ap (λ (xs : List Inv). slice_get xs 0) is;
  accepted = basis.0;
  bars = bars c sig inv.clauses g proof circuit signals below (greatest_is_invariant c told.inv_is.greatest.candidates inv.clauses told.inv_is.greatest.greatest) basis.0;
}

settled_block : (c : Parts) (sig : List ℕ) (o : Options) (scope : Scope) (r : Report) (p : ProverEnd) (n g number : ℕ) (basis : Basis) → IsCircuit c → IsSignals c sig → g < 2 ^ length sig
    → IsProverEnd c sig o r.history p → r.invs ≡ invs_from n (inv_of p) → (is_unreachable (block_by number basis) ≡ true → 0 < n)
    → IsFirst r.history g (kind_of_basis basis) number → IsBasis c sig (inv_of p) g basis → IsBlock c sig scope r g (block_by number basis)
settled_block c sig o scope r p n g number (Witness t) circuit signals below told is some first shows = (first, shows)
settled_block c sig o scope r p n g number (Proof proof) circuit signals below told is some first basis =
    (first, barred_by c sig o r.history p r.invs n g proof circuit signals below told is (some refl) basis)

pub post_at_place : (c : Parts) (sig : List ℕ) (o : Options) (inv : Option Inv) (posts : List Post) (g : ℕ) (p : Post) → IsHistory c sig o inv posts → IsPlaced posts g p → IsPost c sig o inv p
post_at_place c sig o inv posts g p history placed =
    subst (IsPost c sig o inv) (get_or_from_slice_get posts placed.place p p placed.at_place) (history.each placed.place p (slice_get_within posts placed.place p placed.at_place))

-- the block of a goal
pub block_is : (c : Parts) (sig : List ℕ) (o : Options) (posts : List Post) (ends : Ends) (bounds : OpenBounds) (opens bs : List GoalBlock) (r : Report) (g : ℕ) (b : GoalBlock)
    → IsComposed c sig o posts ends bounds opens bs r → slice_get bs g ≡ Some b → settled_by (first_post posts g) (open_block bounds g) ≡ b
block_is c sig o posts ends bounds opens bs r g b h e =
    let inside : g < length opens = omega (arith, slice_get_within bs g b e, h.after.size) in
    let was : get_or opens g b ≡ open_block bounds g = h.opened.each g b (omega (arith, inside, h.opened.size)) in
    sym (ap (settled_by (first_post posts g)) was) ∙ (sym (h.after.each g b inside) ∙ get_or_from_slice_get bs g b b e)

block_tells : (c : Parts) (sig : List ℕ) (o : Options) (posts : List Post) (ends : Ends) (bounds : OpenBounds) (opens bs : List GoalBlock) (r : Report) (g : ℕ) (first : Option Post)
    → IsComposed c sig o posts ends bounds opens bs r → g < 2 ^ length sig → first_post posts g ≡ first
    → (is_unreachable (settled_by first (open_block bounds g)) ≡ true → 0 < count_by is_unreachable bs) → IsBlock c sig (scope_of ends) r g (settled_by first (open_block bounds g))
block_tells c sig o posts ends bounds opens bs r g None h below e some =
    let no_first : first_entry (entries_of posts) g ≡ None = first_of_posts posts g ∙ ap (option_map (λ (q : Post). q.entry)) e in
    record {
      pending = ap (option_map (λ (x : Entry). x.kind)) (ap (λ (xs : List Entry). first_entry xs g) h.holds.history ∙ no_first);
      bounds = sym (bounds_now c sig o posts ends bounds opens bs r g below h);
      not_asked = not_asked c sig o posts ends bounds opens bs r g below h (no_entry (entries_of posts) g no_first);
    }
block_tells c sig o posts ends bounds opens bs r g (Some p) h below e some =
    let placed = first_placed posts g p e in
    let post = post_at_place c sig o (inv_of ends.prover) posts g p h.history placed in
    settled_block c sig o (scope_of ends) r ends.prover (count_by is_unreachable bs) g p.entry.number p.basis h.circuit h.signals below
    (subst (λ (es : List Entry). IsProverEnd c sig o es ends.prover) (sym h.holds.history) h.told.prover) (h.holds.invs ∙ h.invs_are) some
    (subst (λ k. IsFirst r.history g k p.entry.number) post.kind (first_is posts r.history g p h.holds.history e))
    (subst (λ (x : ℕ). IsBasis c sig (inv_of ends.prover) x p.basis) placed.goal_of post.basis)

pub goals_tell : (c : Parts) (sig : List ℕ) (o : Options) (posts : List Post) (ends : Ends) (bounds : OpenBounds) (opens bs : List GoalBlock) (r : Report) (g : ℕ) (b : GoalBlock)
    → IsComposed c sig o posts ends bounds opens bs r → slice_get bs g ≡ Some b → IsBlock c sig (scope_of ends) r g b
goals_tell c sig o posts ends bounds opens bs r g b h e =
    let is = block_is c sig o posts ends bounds opens bs r g b h e in
    subst (IsBlock c sig (scope_of ends) r g) is
    (block_tells c sig o posts ends bounds opens bs r g (first_post posts g) h (omega (arith, slice_get_within bs g b e, h.after.size, h.opened.size)) refl
    (λ un. some_unreachable bs g b e (ap is_unreachable (sym is) ∙ un)))

-- the clauses, where a goal is unreachable
pub invs_tell : (c : Parts) (sig : List ℕ) (o : Options) (es : List Entry) (p : ProverEnd) (n : ℕ) → IsProverEnd c sig o es p → (0 < n → IsSome (inv_of p)) → AreInvs c sig o.strength n (invs_from n (inv_of p))
invs_tell c sig o es p zero told some = refl
invs_tell c sig o es NotRun (suc n) told some = absurd (false≢true (some (omega arith)))
invs_tell c sig o es AllSettled (suc n) told some = absurd (false≢true (some (omega arith)))
invs_tell c sig o es (Spent b) (suc n) told some = absurd (false≢true (some (omega arith)))
invs_tell c sig o es (Whole inv spents) (suc n) told some = (inv, refl, told.inv_is)

pub has_clauses : (c : Parts) (sig : List ℕ) (scope : Scope) (r : Report) (g : ℕ) (b : GoalBlock) (n : ℕ) (inv : Option Inv) → r.invs ≡ invs_from n inv → IsBlock c sig scope r g b → is_unreachable b ≡ true → IsSome inv
has_clauses c sig scope r g (blocks.Reached m w) n inv is h e = absurd (false≢true e)
has_clauses c sig scope r g (blocks.Unreachable m i p) n (Some inv) is h e = refl
has_clauses c sig scope r g (blocks.Unreachable m i p) n None is h e =
    absurd (none-some h.1.inv (ap (λ (xs : List Inv). slice_get xs i) (sym (is ∙ invs_none n)) ∙ h.1.place_of))
has_clauses c sig scope r g (blocks.Open d hs s) n inv is h e = absurd (false≢true e)

pub seeds_tell : (c : Parts) (sig : List ℕ) (o : Options) (es : List Entry) (ends : List BatchEnd) → AreBatchEnds c sig o es ends → AreSeeds c sig o (seeds_of ends)
seeds_tell c sig o es ends told = record {
  count = length-map ends (λ (x : BatchEnd). x.seed) ∙ told.count;
  each = λ b line e. (
      let end = seed_at ends b line e in
      subst (λ (x : Option SeedLine). IsSeedOfBatch c sig o b (seed_of_line c x)) end.2 (told.each b end.0 end.1).seed
      );
}

-- each entry is found
pub entries_found : (c : Parts) (sig : List ℕ) (o : Options) (inv : Option Inv) (posts : List Post) → IsHistory c sig o inv posts → All (λ (e : Entry). Found c sig o e.source e.goal) (entries_of posts)
entries_found c sig o inv posts history = λ k d l. (
    let entry = entry_at posts k (get_or (entries_of posts) k d) (slice_get-get_or (entries_of posts) k d l) in
    let post : IsPost c sig o inv entry.post =
    subst (IsPost c sig o inv) (get_or_from_slice_get posts k entry.post entry.post entry.at_place) (history.each k entry.post (slice_get_within posts k entry.post entry.at_place)) in
    subst (λ (e : Entry). Found c sig o e.source e.goal) (sym entry.is) post.found
    )
