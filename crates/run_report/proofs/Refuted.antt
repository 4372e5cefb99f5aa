-- The queries that have no model, as a report of a run tells them.
use Rattle.std.proofs.Common.{◌≡◌, ℕ, zero, suc, ◌+◌, ◌<◌, ◌^◌, Bool, true, false, List, [], ◌∷◌, ◌++◌, map, length, get_or, refl, sym, ap, subst, ◌∙◌, arith, All, AllPairs, Option, Some, None, inl, inr}
use Rattle.std.specs.Prelude.{slice_get}
use Rattle.std.specs.List.{cons_option, enumerate_from, range_with_len}
use Rattle.std.proofs.lemmas.List.{append-nil}
use Rattle.std.proofs.lemmas.List.Elements.{All-append}
use Rattle.std.proofs.lemmas.Option.{none-some, slice_get-get_or}
use Rattle.aig_model.specs.declared.parts.Parts.{Parts}
use Rattle.unroll.specs.declared.start.Start.{Start}
use Rattle.unroll.specs.declared.start.Start.TheVariants.{Reset, State}
use Rattle.sim_walk.specs.declared.options.Options.{Options}
use Rattle.board_core.specs.declared.entry.Entry.{Entry}
use Rattle.report_text.specs.declared.report.Block.{Block}
use Rattle.report_text.specs.declared.report.BlockName.{BlockName}
use Rattle.report_text.specs.declared.report.HopBound.{HopBound}
use Rattle.report_text.specs.declared.report.SeedLine.{SeedLine}
use Rattle.run_report.specs.declared.ends.BatchEnd.{BatchEnd}
use Rattle.run_report.specs.declared.ends.Ends.{Ends}
use Rattle.run_report.specs.declared.ends.SearchBlocks.{SearchBlocks}
use Rattle.run_report.specs.declared.searches.Search.{Search}
use Rattle.run_report.specs.declared.searches.Search.TheVariants as searches
use Rattle.run_report.specs.Bounds.{sweep_step, hop_step, steps_of, hop_bound, hop_of}
use Rattle.run_report.specs.Ended.{all_refutes, end_bound, hop_refutes, hops_of, refutes_of, seeds_of}
use Rattle.run_report.specs.Ends.{AreTold, AreBatchEnds, AreRefutedSteps, AreRefutedStepsIf, IsHopEnd, IsRefutedStep, last_whole, optional}
use Rattle.run_report.specs.Posts.{HasEntry}
use Rattle.run_report.specs.Queries.{ComesBefore, item_of, section_of}
use Rattle.run_report.specs.Refutes.{AreSteps, IsRefutedQuery, hop_steps_to, steps_to}
use Rattle.run_report.specs.Searches.{step_in}
use Rattle.run_report.proofs.Counts.{pairs_append}
use Rattle.run_report.proofs.Ending.{AreOfHops, IsOfHop, hop_alone, named_step, no_hop, own_hop, steps_none, steps-append, sweep_alone}
use Rattle.run_report.proofs.Told.{contained, hop_at, hop_before, hop_sections, hops_from, plus_zero, seed_of_end}

-- ---- one search
steps_counted : (h : BlockName → Option ℕ) (n : ℕ) (bs : List Block) → ((k : ℕ) (b : Block) → slice_get bs k ≡ Some b → h b.name ≡ Some (n + k)) → steps_of h bs ≡ range_with_len n (length bs)
steps_counted h n [] at = refl
steps_counted h n (b ∷ bs) at =
    let here : h b.name ≡ Some n = at 0 b refl ∙ ap (λ (k : ℕ). Some k) (let e : n + 0 ≡ n = omega arith in e) in
    ap (λ (t : Option ℕ). cons_option t (steps_of h bs)) here
    ∙ ap (λ (ts : List ℕ). n ∷ ts) (steps_counted h (n + 1) bs (λ k x e. at (suc k) x e ∙ ap (λ (i : ℕ). Some i) (let s : n + suc k ≡ n + 1 + k = omega arith in s)))

search_steps : (c : Parts) (sig : List ℕ) (o : Options) (es : List Entry) (start : Start) (greatest : ℕ) (search : Search) (bound : Option ℕ) (bs : List Block)
    → AreRefutedSteps c sig o es start greatest search bound bs → steps_of (step_in search) bs ≡ range_with_len 0 (length bs)
search_steps c sig o es start greatest search bound bs h =
    steps_counted (step_in search) 0 bs (λ k b e. ap (step_in search) (h.each k b e).name ∙ (named_step search k ∙ ap (λ (i : ℕ). Some i) (plus_zero k)))

-- where some goal is open they go up to the bound
told_steps : (c : Parts) (sig : List ℕ) (o : Options) (es : List Entry) (start : Start) (greatest : ℕ) (search : Search) (bound : Option ℕ) (bs : List Block) (unsettled : ℕ)
    → (0 < unsettled → (goal : ℕ) × (goal < 2 ^ length sig) × (¬ HasEntry es goal)) → AreRefutedSteps c sig o es start greatest search bound bs
    → AreSteps unsettled greatest (steps_to bound) (steps_of (step_in search) bs)
told_steps c sig o es start greatest search bound bs unsettled left h = record {
  count = length bs;
  gapless = search_steps c sig o es start greatest search bound bs h;
  near = h.near;
  whole = λ some. (
      let one = left some in
      h.whole one.0 one.1 one.2
      );
}

-- the query at a place is that of the step
step_at : (c : Parts) (sig : List ℕ) (o : Options) (es : List Entry) (start : Start) (greatest : ℕ) (search : Search) (bound : Option ℕ) (bs : List Block) (k : ℕ) (d : Block)
    → AreRefutedSteps c sig o es start greatest search bound bs → k < length bs → IsRefutedStep c sig o es start search k (get_or bs k d)
step_at c sig o es start greatest search bound bs k d h l = h.each k (get_or bs k d) (slice_get-get_or bs k d l)

-- ---- the hops
-- the queries of a batch's hop: there are none without a seed, or where they aren't asked for
hop_told : (P : List Block → Type 0) (c : Parts) (sig : List ℕ) (o : Options) (es : List Entry) (b : ℕ) (seed : Option SeedLine) (hop : SearchBlocks) → o.proofs ≡ true → IsHopEnd c sig o es b seed hop
    → P [] → ((s : SeedLine) → seed ≡ Some s → AreRefutedSteps c sig o es (State s.state) o.hop (searches.Hop b) (last_whole o.hop (searches.Hop b) hop) hop.refuted → P hop.refuted) → P hop.refuted
hop_told P c sig o es b None hop asked end none some = subst (λ (x : SearchBlocks). P x.refuted) (sym end) none
hop_told P c sig o es b (Some s) hop asked end none some =
    some s refl
    (subst (λ (t : Bool). AreRefutedStepsIf t c sig o es (State s.state) o.hop (searches.Hop b) (last_whole o.hop (searches.Hop b) hop) hop.refuted) asked end.refuted)

hop_named : (c : Parts) (sig : List ℕ) (o : Options) (es : List Entry) (b : ℕ) (seed : Option SeedLine) (hop : SearchBlocks) → o.proofs ≡ true → IsHopEnd c sig o es b seed hop
    → All (IsOfHop b) hop.refuted
hop_named c sig o es b seed hop asked end =
    hop_told (All (IsOfHop b)) c sig o es b seed hop asked end (λ k d l. absurd (omega (arith, l)))
    (λ s is steps k d l. (k, (step_at c sig o es (State s.state) o.hop (searches.Hop b) (last_whole o.hop (searches.Hop b) hop) hop.refuted k d steps l).name))

hop_queries : (c : Parts) (sig : List ℕ) (o : Options) (es : List Entry) (seeds : List (Option SeedLine)) (b : ℕ) (seed : Option SeedLine) (hop : SearchBlocks) → o.proofs ≡ true
    → IsHopEnd c sig o es b seed hop → slice_get seeds b ≡ Some seed → All (λ (x : Block). IsRefutedQuery c sig es seeds x.name x) hop.refuted
hop_queries c sig o es seeds b seed hop asked end place =
    hop_told (All (λ (x : Block). IsRefutedQuery c sig es seeds x.name x)) c sig o es b seed hop asked end (λ k d l. absurd (omega (arith, l)))
    (λ s is steps k d l. (
    let at = step_at c sig o es (State s.state) o.hop (searches.Hop b) (last_whole o.hop (searches.Hop b) hop) hop.refuted k d steps l in
    subst (λ (n : BlockName). IsRefutedQuery c sig es seeds n (get_or hop.refuted k d)) (sym at.name)
    (record { seed = s; place = place ∙ ap (λ (x : Option SeedLine). Some x) is; search = at.refuted })
    ))

-- the number of steps that a bound gives
steps_of_bound : (t : Option ℕ) → hop_steps_to (Some (hop_of t)) ≡ steps_to t
steps_of_bound None = refl
steps_of_bound (Some t) = refl

no_steps : (unsettled greatest bound : ℕ) → bound ≡ 0 → AreSteps unsettled greatest bound []
no_steps unsettled greatest bound none = record { count = 0; gapless = refl; near = omega arith; whole = λ some. sym none }

seed_steps : (c : Parts) (sig : List ℕ) (o : Options) (es : List Entry) (b : ℕ) (seed : Option SeedLine) (hop : SearchBlocks) (unsettled : ℕ) → o.proofs ≡ true → IsHopEnd c sig o es b seed hop
    → (0 < unsettled → (goal : ℕ) × (goal < 2 ^ length sig) × (¬ HasEntry es goal))
    → AreSteps unsettled o.hop (hop_steps_to (Some (hop_bound o (optional hop.spent) b seed))) (steps_of (hop_step b) hop.refuted)
seed_steps c sig o es b None hop unsettled asked end left =
    subst (λ (x : SearchBlocks). AreSteps unsettled o.hop (hop_steps_to (Some (hop_bound o (optional x.spent) b None))) (steps_of (hop_step b) x.refuted)) (sym end) (no_steps unsettled o.hop 0 refl)
seed_steps c sig o es b (Some s) hop unsettled asked end left =
    let last = last_whole o.hop (searches.Hop b) hop in
    let steps : AreRefutedSteps c sig o es (State s.state) o.hop (searches.Hop b) last hop.refuted =
    subst (λ (t : Bool). AreRefutedStepsIf t c sig o es (State s.state) o.hop (searches.Hop b) last hop.refuted) asked end.refuted in
    subst (λ (n : ℕ). AreSteps unsettled o.hop n (steps_of (hop_step b) hop.refuted)) (sym (steps_of_bound last))
    (told_steps c sig o es (State s.state) o.hop (searches.Hop b) last hop.refuted unsettled left steps)

-- there is no bound for a batch that isn't there
hop_past : (o : Options) (n : ℕ) (ends : List BatchEnd) (b : ℕ) → slice_get ends b ≡ None → slice_get (map (λ p. end_bound o p.0 p.1) (enumerate_from n ends)) b ≡ None
hop_past o n [] b e = refl
hop_past o n (x ∷ ends) zero e = absurd (none-some x (sym e))
hop_past o n (x ∷ ends) (suc b) e = hop_past o (n + 1) ends b e

hops_named : (c : Parts) (sig : List ℕ) (o : Options) (es : List Entry) (ends : List BatchEnd) → o.proofs ≡ true → AreBatchEnds c sig o es ends → AreOfHops refutes_of 0 ends
hops_named c sig o es ends asked told =
    hops_from refutes_of 0 ends (λ k end e. subst (λ (b : ℕ). All (IsOfHop b) (refutes_of end)) (plus_zero k) (hop_named c sig o es k end.seed end.hop asked (told.each k end e).hop))

batch_steps : (c : Parts) (sig : List ℕ) (o : Options) (es : List Entry) (ends : List BatchEnd) (unsettled b : ℕ) (at : Option BatchEnd) → o.proofs ≡ true → AreBatchEnds c sig o es ends
    → (0 < unsettled → (goal : ℕ) × (goal < 2 ^ length sig) × (¬ HasEntry es goal)) → slice_get ends b ≡ at
    → AreSteps unsettled o.hop (hop_steps_to (slice_get (hops_of o ends) b)) (steps_of (hop_step b) (hop_refutes ends))
batch_steps c sig o es ends unsettled b None asked told left e =
    let steps : steps_of (hop_step b) (hop_refutes ends) ≡ [] =
    subst (λ (k : ℕ). steps_of (hop_step k) (hop_refutes ends) ≡ []) (sym (plus_zero b)) (no_hop refutes_of 0 b ends (hops_named c sig o es ends asked told) e) in
    subst (λ (ts : List ℕ). AreSteps unsettled o.hop (hop_steps_to (slice_get (hops_of o ends) b)) ts) (sym steps)
    (no_steps unsettled o.hop (hop_steps_to (slice_get (hops_of o ends) b)) (ap hop_steps_to (hop_past o 0 ends b e)))
batch_steps c sig o es ends unsettled b (Some end) asked told left e =
    let steps : steps_of (hop_step b) (hop_refutes ends) ≡ steps_of (hop_step b) end.hop.refuted =
    subst (λ (k : ℕ). steps_of (hop_step k) (hop_refutes ends) ≡ steps_of (hop_step k) end.hop.refuted) (sym (plus_zero b))
    (own_hop refutes_of 0 b ends end (hops_named c sig o es ends asked told) e) in
    let bound : slice_get (hops_of o ends) b ≡ Some (end_bound o b end) =
    hop_at o 0 ends b end e ∙ ap (λ (k : ℕ). Some (end_bound o k end)) (sym (plus_zero b)) in
    subst (λ (ts : List ℕ). AreSteps unsettled o.hop (hop_steps_to (slice_get (hops_of o ends) b)) ts) (sym steps)
    (subst (λ (x : Option HopBound). AreSteps unsettled o.hop (hop_steps_to x) (steps_of (hop_step b) end.hop.refuted)) (sym bound)
    (seed_steps c sig o es b end.seed end.hop unsettled asked (told.each b end e).hop left))

hops_queries : (c : Parts) (sig : List ℕ) (o : Options) (es : List Entry) (seeds : List (Option SeedLine)) (n : ℕ) (ends : List BatchEnd) → o.proofs ≡ true
    → ((k : ℕ) (end : BatchEnd) → slice_get ends k ≡ Some end → (slice_get seeds (n + k) ≡ Some end.seed) × IsHopEnd c sig o es (n + k) end.seed end.hop)
    → All (λ (b : Block). IsRefutedQuery c sig es seeds b.name b) (hop_refutes ends)
hops_queries c sig o es seeds n [] asked h = λ k d l. absurd (omega (arith, l))
hops_queries c sig o es seeds n (x ∷ ends) asked h =
    let own = h 0 x refl in
    All-append (λ (b : Block). IsRefutedQuery c sig es seeds b.name b) (refutes_of x) (hop_refutes ends) (hop_queries c sig o es seeds (n + 0) x.seed x.hop asked own.1 own.0)
    (hops_queries c sig o es seeds (n + 1) ends asked (λ k end e. subst (λ (b : ℕ). (slice_get seeds b ≡ Some end.seed) × IsHopEnd c sig o es b end.seed end.hop)
    (let s : n + suc k ≡ n + 1 + k = omega arith in s) (h (suc k) end e)))

-- ---- their order
alike_pairs : (section item : ℕ) (bs : List Block) → All (λ (b : Block). (section_of b.name ≡ section) × (item_of b.name ≡ item)) bs → AllPairs (λ (a b : Block). ¬ ComesBefore b a) bs
alike_pairs section item bs alike = λ i j d l m before. (
    let first = alike i d (omega (arith, l, m)) in
    let second = alike j d m in
    elim before [ inl sections ↦ omega (arith, sections, first.0, second.0) | inr items ↦ omega (arith, items.1, first.1, second.1) ]
    )

not_both : (a b : Block) → ComesBefore a b → ¬ ComesBefore b a
not_both a b first second =
    elim first [
      | inl sections ↦ elim second [ inl others ↦ omega (arith, sections, others) | inr others ↦ omega (arith, sections, others.0) ]
      | inr items ↦ elim second [ inl others ↦ omega (arith, items.0, others) | inr others ↦ omega (arith, items.1, others.1) ]
    ]

hops_pairs : (n : ℕ) (ends : List BatchEnd) → AreOfHops refutes_of n ends → AllPairs (λ (a b : Block). ¬ ComesBefore b a) (hop_refutes ends)
hops_pairs n [] named = λ i j d l m. absurd (omega (arith, m))
hops_pairs n (x ∷ ends) named =
    pairs_append (λ (a b : Block). ¬ ComesBefore b a) (refutes_of x) (hop_refutes ends)
    (alike_pairs 1 n (refutes_of x) (λ k d l. (ap section_of (named.0 k d l).1, ap item_of (named.0 k d l).1))) (hops_pairs (n + 1) ends named.1)
    (λ a b ha hb. not_both a b (hop_before refutes_of n ends (refutes_of x) a b named.0 named.1 ha hb))

-- ---- all of them
pub record AreAllTold (c : Parts) (sig : List ℕ) (o : Options) (es : List Entry) (ends : Ends) (unsettled : ℕ) : Type 0 where
  pub ordered : AllPairs (λ (a b : Block). ¬ ComesBefore b a) (all_refutes ends)
  pub each : All (λ (b : Block). IsRefutedQuery c sig es (seeds_of ends.batches) b.name b) (all_refutes ends)
  pub sweep : AreSteps unsettled o.depth (steps_to (last_whole o.depth searches.Sweep ends.sweep)) (steps_of sweep_step (all_refutes ends))
  pub hops : (b : ℕ) → AreSteps unsettled o.hop (hop_steps_to (slice_get (hops_of o ends.batches) b)) (steps_of (hop_step b) (all_refutes ends))

pub refutes_told : (c : Parts) (sig : List ℕ) (o : Options) (es : List Entry) (ends : Ends) (unsettled : ℕ) → o.proofs ≡ true → AreTold c sig o es ends
    → (0 < unsettled → (goal : ℕ) × (goal < 2 ^ length sig) × (¬ HasEntry es goal)) → AreAllTold c sig o es ends unsettled
refutes_told c sig o es ends unsettled asked told left =
    let last = last_whole o.depth searches.Sweep ends.sweep in
    let seeds = seeds_of ends.batches in
    let own = ends.sweep.refuted in
    let others = hop_refutes ends.batches in
    let steps : AreRefutedSteps c sig o es Reset o.depth searches.Sweep last own =
    subst (λ (t : Bool). AreRefutedStepsIf t c sig o es Reset o.depth searches.Sweep last own) asked told.sweep.refuted in
    let named = hops_named c sig o es ends.batches asked told.batches in
    let alike : All (λ (b : Block). (section_of b.name ≡ 0) × (item_of b.name ≡ 0)) own = λ k d l. (
    let at = step_at c sig o es Reset o.depth searches.Sweep last own k d steps l in
    (ap section_of at.name, ap item_of at.name)
    ) in
    let later : All (λ (b : Block). section_of b.name ≡ 1) others = hop_sections refutes_of 0 ends.batches named in
    let of_sweep : steps_of sweep_step (all_refutes ends) ≡ steps_of sweep_step own =
    steps-append sweep_step own others
    ∙ (ap (λ (ts : List ℕ). steps_of sweep_step own ++ ts) (steps_none sweep_step others (λ k d l. sweep_alone (get_or others k d).name (omega (arith, later k d l))))
    ∙ append-nil (steps_of sweep_step own)) in
    record {
      ordered = pairs_append (λ (a b : Block). ¬ ComesBefore b a) own others (alike_pairs 0 0 own alike) (hops_pairs 0 ends.batches named) (λ a b ha hb. not_both a b (inl (omega (
        arith,
        contained (λ (x : Block). section_of x.name ≡ 0) own a (λ k d l. (alike k d l).0) ha,
        contained (λ (x : Block). section_of x.name ≡ 1) others b later hb,
      ))));
      each = All-append (λ (b : Block). IsRefutedQuery c sig es seeds b.name b) own others
          (λ k d l. (
          let at = step_at c sig o es Reset o.depth searches.Sweep last own k d steps l in
          subst (λ (n : BlockName). IsRefutedQuery c sig es seeds n (get_or own k d)) (sym at.name) at.refuted
          ))
          (hops_queries c sig o es seeds 0 ends.batches asked (λ k end e. subst (λ (b : ℕ). (slice_get seeds b ≡ Some end.seed) × IsHopEnd c sig o es b end.seed end.hop) (plus_zero k)
          (seed_of_end ends.batches k end e, (told.batches.each k end e).hop)));
      sweep = subst (λ (ts : List ℕ). AreSteps unsettled o.depth (steps_to last) ts) (sym of_sweep) (told_steps c sig o es Reset o.depth searches.Sweep last own unsettled left steps);
      hops = λ b. (
          let of_hop : steps_of (hop_step b) (all_refutes ends) ≡ steps_of (hop_step b) others =
          steps-append (hop_step b) own others
          ∙ ap (λ (ts : List ℕ). ts ++ steps_of (hop_step b) others) (steps_none (hop_step b) own (λ k d l. hop_alone b (get_or own k d).name (λ one. omega (arith, one, (alike k d l).0)))) in
          subst (λ (ts : List ℕ). AreSteps unsettled o.hop (hop_steps_to (slice_get (hops_of o ends.batches) b)) ts) (sym of_hop)
          (batch_steps c sig o es ends.batches unsettled b (slice_get ends.batches b) asked told.batches left refl)
          );
    }

-- ---- none of them
hop_none : (c : Parts) (sig : List ℕ) (o : Options) (es : List Entry) (b : ℕ) (seed : Option SeedLine) (hop : SearchBlocks) → o.proofs ≡ false → IsHopEnd c sig o es b seed hop → hop.refuted ≡ []
hop_none c sig o es b None hop asked end = ap (λ (x : SearchBlocks). x.refuted) end
hop_none c sig o es b (Some s) hop asked end =
    subst (λ (t : Bool). AreRefutedStepsIf t c sig o es (State s.state) o.hop (searches.Hop b) (last_whole o.hop (searches.Hop b) hop) hop.refuted) asked end.refuted

hops_none : (ends : List BatchEnd) → ((k : ℕ) (end : BatchEnd) → slice_get ends k ≡ Some end → refutes_of end ≡ []) → hop_refutes ends ≡ []
hops_none [] h = refl
hops_none (x ∷ ends) h = ap (λ (bs : List Block). bs ++ hop_refutes ends) (h 0 x refl) ∙ hops_none ends (λ k end e. h (suc k) end e)

pub refutes_none : (c : Parts) (sig : List ℕ) (o : Options) (es : List Entry) (ends : Ends) → o.proofs ≡ false → AreTold c sig o es ends → all_refutes ends ≡ []
refutes_none c sig o es ends asked told =
    let own : ends.sweep.refuted ≡ [] =
    subst (λ (t : Bool). AreRefutedStepsIf t c sig o es Reset o.depth searches.Sweep (last_whole o.depth searches.Sweep ends.sweep) ends.sweep.refuted) asked told.sweep.refuted in
    ap (λ (bs : List Block). bs ++ hop_refutes ends.batches) own
    ∙ hops_none ends.batches (λ k end e. hop_none c sig o es k end.seed end.hop asked (told.batches.each k end e).hop)
