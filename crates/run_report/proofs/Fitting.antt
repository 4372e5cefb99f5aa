-- Clauses, queries, seeds and blocks of goals have the form of a report's text.
use Rattle.std.proofs.Common.{◌≡◌, ◌≢◌, ℕ, zero, suc, ◌+◌, ◌-◌, ◌*◌, ◌<◌, ◌≤◌, ◌^◌, ℤ, pos, negsuc, Bool, true, false, cond, List, [], ◌∷◌, ◌++◌, map, length, get_or, refl, sym, ap, subst, ◌∙◌, arith, All, AllPairs, Option, Some, None, inl, inr}
use Rattle.std.specs.Prelude.{if◌then◌else◌, nat_eq, slice_get, IfSome}
use Rattle.std.specs.List.{AllByRecursion, cons_option, enumerate_from, range_with_len}
use Rattle.std.proofs.lemmas.Bool.{cases_lt}
use Rattle.std.proofs.lemmas.Bool.Decides.{nat_tests}
use Rattle.std.proofs.lemmas.List.{length-map, get_or-map}
use Rattle.std.proofs.lemmas.List.Elements.{recursion_from_All, All-append, All-nil, All-cons, All-head, All-tail}
use Rattle.std.proofs.lemmas.List.FromFn.{length-range_with_len}
use Rattle.std.proofs.lemmas.Option.{slice_get-get_or, slice_get_within}
use Rattle.aig_model.specs.Dependence.{Meets, DependsOnLatch, AtLatch, ByLeft, ByRight, Now, Later}
use Rattle.aig_model.specs.LatchClauses.{IsLatchClause, NamesLatch}
use Rattle.aig_model.specs.Literal.{value_of}
use Rattle.aig_model.specs.Meaning.{Assignment, next_values, state_after}
use Rattle.aig_model.specs.WellFormed.{IsCircuit, next_lits}
use Rattle.aig_model.specs.declared.parts.Latch.{Latch}
use Rattle.aig_model.specs.declared.parts.Parts.{Parts}
use Rattle.board_core.specs.History.{IsLegalHistory}
use Rattle.board_core.specs.declared.entry.Entry.{Entry}
use Rattle.inv_prover.specs.Candidates.{AreCandidates}
use Rattle.inv_prover.proofs.ClauseLists.{few_over, latches_over}
use Rattle.inv_prover.proofs.Parts.{each, fewer}
use Rattle.lrat_text.specs.Lrat.{IsLiteral}
use Rattle.lrat_text.specs.Text.{HasProofLiterals, IsWritable}
use Rattle.lrat_text.specs.declared.proof.LratStep.{LratStep}
use Rattle.unroll.specs.declared.start.Start.{Start}
use Rattle.unroll.specs.declared.start.Start.TheVariants.{Reset, State}
use Rattle.report_text.specs.Form.{FitsBlock, FitsClause, FitsClauses, FitsHop, FitsInv, FitsOptions, FitsProof, FitsQuery, FitsSeed, FitsSpent, IsCounted}
use Rattle.report_text.specs.declared.report.Block.{Block}
use Rattle.report_text.specs.declared.report.BlockName.{BlockName}
use Rattle.report_text.specs.declared.report.BlockName.TheVariants as names
use Rattle.report_text.specs.declared.report.HopBound.{HopBound}
use Rattle.report_text.specs.declared.report.Inv.{Inv}
use Rattle.report_text.specs.declared.report.SeedLine.{SeedLine}
use Rattle.sim_batch.specs.Batch.{lanes_of}
use Rattle.sim_batch.specs.Ends.{IsLastStep}
use Rattle.sim_walk.proofs.Full.{distinct_below}
use Rattle.sim_walk.specs.Walk.{Lane}
use Rattle.sim_walk.specs.declared.options.Options.{Options}
use Rattle.run_report.specs.declared.ends.BatchEnd.{BatchEnd}
use Rattle.run_report.specs.declared.ends.Ends.{Ends}
use Rattle.run_report.specs.declared.ends.SearchBlocks.{SearchBlocks}
use Rattle.run_report.specs.declared.ends.ProverEnd.{ProverEnd}
use Rattle.run_report.specs.declared.ends.ProverEnd.TheVariants.{NotRun, AllSettled, Spent, Whole}
use Rattle.run_report.specs.declared.open_goals.OpenBounds.{OpenBounds}
use Rattle.run_report.specs.declared.searches.Search.TheVariants as searches
use Rattle.run_report.specs.declared.posts.Basis.{Basis}
use Rattle.run_report.specs.declared.posts.Basis.TheVariants.{Witness, Proof}
use Rattle.run_report.specs.Blocks.{block_by, open_block}
use Rattle.run_report.specs.Bounds.{sweep_step, hop_step, first_of, first_step, whole_up_to, hop_of, hop_bound}
use Rattle.run_report.specs.Ended.{AreBounds, all_spents, end_bound, hop_spents, invs_from, prover_blocks, strength_after}
use Rattle.run_report.specs.Ends.{AreTold, IsHopEnd, IsProverEnd, IsSpentStep, inv_of, optional}
use Rattle.goal_facts.specs.Invariants.{HoldsGreatestInvariant, IsGreatestInvariant}
use Rattle.run_report.specs.Invariants.{IsInv}
use Rattle.run_report.specs.Lines.{HasBasisLiterals, HasProverLiterals, HasShortBasis, HasShortKept, HaveEndLiterals, HaveLiterals, HaveSearchLiterals}
use Rattle.run_report.specs.Posts.{IsBasis}
use Rattle.run_report.specs.Queries.{AreSpents, ComesBefore, IsSpentQuery, item_of, section_of}
use Rattle.run_report.specs.Ranges.{AreInRange}
use Rattle.goal_facts.specs.Seeds.{IsSeedOfBatch}
use Rattle.run_report.specs.Seeds.{AreSeeds, seed_of_line}
use Rattle.run_report.proofs.Forms.{blocked_fits, rows_wide, trace_fits, whole_fits}

-- ---- clauses
literal_fits : (c : Parts) (z : ℤ) → IsCircuit c → NamesLatch c z → IsLiteral z
literal_fits c (pos zero) ok h = absurd h
literal_fits c (pos (suc k)) ok h = (λ e. (let s : suc k ≡ 0 = cc in absurd (omega (arith, s))), grind (arith, nat_tests, h, ok.sized.latches))
literal_fits c (negsuc k) ok h = (λ e. absurd cc, grind (arith, nat_tests, h, ok.sized.latches))

clause_fits : (c : Parts) (clause : List ℤ) → IsCircuit c → IsLatchClause c clause → FitsClause clause
clause_fits c clause ok h = recursion_from_All IsLiteral clause (λ k d l. literal_fits c (get_or clause k d) ok (h.latches k d l))

clauses_fit : (c : Parts) (clauses : List (List ℤ)) → IsCircuit c → All (IsLatchClause c) clauses → length clauses < 2 ^ 32 → FitsClauses clauses
clauses_fit c clauses ok h few = record {
  count = few;
  each = recursion_from_All FitsClause clauses (λ k d l. clause_fits c (get_or clauses k d) ok (h k d l));
}

-- latches on which signals depend are there
meets_inside : (c : Parts) (lit k : ℕ) → Meets c lit k → k < length c.latches
meets_inside c lit k (AtLatch {l = l} at same) = slice_get_within c.latches k l at
meets_inside c lit k (ByLeft {g = g} has same more) = meets_inside c g.left k more
meets_inside c lit k (ByRight {g = g} has same more) = meets_inside c g.right k more

depends_inside : (c : Parts) (sig : List ℕ) (k : ℕ) → DependsOnLatch c sig k → k < length c.latches
depends_inside c sig k (Now {lit = lit} has meets) = meets_inside c lit k meets
depends_inside c sig k (Later {l = l} before at meets) = meets_inside c l.next k meets

candidates_latches : (c : Parts) (sig : List ℕ) (strength : ℕ) (clauses : List (List ℤ)) → AreCandidates c sig strength clauses → All (IsLatchClause c) clauses
candidates_latches c sig strength clauses h =
    subst (All (IsLatchClause c)) (sym h.list) (latches_over c h.latches strength (λ k d l. depends_inside c sig (get_or h.latches k d) (h.dependent.dependent k d l)))

candidates_few : (c : Parts) (sig : List ℕ) (strength : ℕ) (clauses : List (List ℤ)) → AreCandidates c sig strength clauses → length clauses < 2 ^ 32
candidates_few c sig strength clauses h = subst (λ (xs : List (List ℤ)). length xs < 2 ^ 32) (sym h.list) (few_over h.latches strength h.dependent.few)

pub greatest_fits : (c : Parts) (sig : List ℕ) (strength : ℕ) (clauses : List (List ℤ)) → IsCircuit c → IsGreatestInvariant c sig strength clauses → FitsClauses clauses
greatest_fits c sig strength clauses ok h =
    clauses_fit c clauses ok (each (IsLatchClause c) clauses h.candidates h.greatest.part (candidates_latches c sig strength h.candidates h.are))
    (omega (arith, fewer clauses h.candidates h.greatest.part, candidates_few c sig strength h.candidates h.are))

pub holding_fits : (c : Parts) (sig : List ℕ) (strength : ℕ) (clauses : List (List ℤ)) → IsCircuit c → HoldsGreatestInvariant c sig strength clauses → FitsClauses clauses
holding_fits c sig strength clauses ok h =
    clauses_fit c clauses ok (each (IsLatchClause c) clauses h.candidates h.contains.part (candidates_latches c sig strength h.candidates h.are))
    (omega (arith, fewer clauses h.candidates h.contains.part, candidates_few c sig strength h.candidates h.are))

pub inv_fits : (c : Parts) (sig : List ℕ) (strength : ℕ) (inv : Inv) → IsCircuit c → IsInv c sig strength inv → All (λ (p : List LratStep). length p < 2 ^ 32) inv.kept → All HasProofLiterals inv.kept
    → FitsInv inv
inv_fits c sig strength inv ok h short literals = record {
  clauses = greatest_fits c sig strength inv.clauses ok h.greatest;
  size = h.kept.count;
  kept = recursion_from_All FitsProof inv.kept (λ k d l. record { count = short k d l; ids = h.kept.written k d l; literals = literals k d l });
}

-- ---- queries
-- what a report's text needs of a query, but for its literals
record IsInForm (name : BlockName) (b : Block) : Type 0 where
  query : FitsQuery name b.blocked
  count : length b.proof < 2 ^ 32
  ids : IsWritable b.proof
  item : item_of name < 1024

query_fits : (c : Parts) (sig : List ℕ) (o : Options) (es : List Entry) (seeds : List (Option SeedLine)) (name : BlockName) (b : Block) → IsCircuit c → IsLegalHistory o (2 ^ length sig) es → 2 ^ length sig ≤ 1024
    → AreInRange o → o.depth < 2 ^ 32 → o.hop < 2 ^ 32 → length seeds ≤ 16 → IsSpentQuery c sig o es seeds name b → IsInForm name b
query_fits c sig o es seeds (names.Sweep step) b ok legal few ranges deep far short h = record {
  query = (omega (arith, h.near, deep), blocked_fits o (2 ^ length sig) es b.blocked legal few h.left_out);
  count = omega (arith, h.spent.spent.count, ranges.lemmas);
  ids = h.spent.written;
  item = omega arith;
}
query_fits c sig o es seeds (names.Hop batch step) b ok legal few ranges deep far short h =
    let place = slice_get_within seeds batch (Some h.seed) h.place in
    record {
      query = (omega (arith, place, short), omega (arith, h.search.near, far), blocked_fits o (2 ^ length sig) es b.blocked legal few h.search.left_out);
      count = omega (arith, h.search.spent.spent.count, ranges.lemmas);
      ids = h.search.spent.written;
      item = omega (arith, place, short);
    }
query_fits c sig o es seeds (names.Kept place clauses) b ok legal few ranges deep far short h =
    let fits = holding_fits c sig o.strength clauses ok h.holds in
    record {
      query = (omega (arith, h.inside, fits.count), fits, h.none_blocked);
      count = omega (arith, h.spent.spent.count, ranges.lemmas);
      ids = h.spent.written;
      item = omega arith;
    }
query_fits c sig o es seeds (names.Excludes goal clauses) b ok legal few ranges deep far short h = record {
  query = (omega (arith, h.below, few), greatest_fits c sig o.strength clauses ok h.greatest, h.none_blocked);
  count = omega (arith, h.spent.spent.count, ranges.lemmas);
  ids = h.spent.written;
  item = omega (arith, h.below, few);
}

-- their number: each has a section and an item of its own
key_of : Block → ℕ
key_of b = section_of b.name * 1024 + item_of b.name

section_few : (n : BlockName) → section_of n ≤ 3
section_few (names.Sweep step) = omega arith
section_few (names.Hop batch step) = omega arith
section_few (names.Kept place clauses) = omega arith
section_few (names.Excludes goal clauses) = omega arith

keys_distinct : (bs : List Block) → AllPairs ComesBefore bs → All (λ (b : Block). item_of b.name < 1024) bs → AllPairs (λ m n. m ≢ n) (map key_of bs)
unfolding key_of
keys_distinct [] ordered items = λ i j d l m. absurd (omega (arith, m))
keys_distinct (x ∷ xs) ordered items = λ i j d l m same. (
    let inside : j < length (x ∷ xs) = omega (arith, m, length-map (x ∷ xs) key_of) in
    let before : i < length (x ∷ xs) = omega (arith, l, inside) in
    let a = get_or (x ∷ xs) i x in
    let b = get_or (x ∷ xs) j x in
    let key_a : get_or (map key_of (x ∷ xs)) i d ≡ section_of a.name * 1024 + item_of a.name = get_or-map key_of (x ∷ xs) i x d before in
    let key_b : get_or (map key_of (x ∷ xs)) j d ≡ section_of b.name * 1024 + item_of b.name = get_or-map key_of (x ∷ xs) j x d inside in
    elim (ordered i j x l inside) [
      | inl section ↦ omega (arith, key_a, key_b, same, section, items i x before, items j x inside)
      | inr item ↦ omega (arith, key_a, key_b, same, item.0, item.1)
    ]
    )

keys_below : (bs : List Block) → All (λ (b : Block). item_of b.name < 1024) bs → All (λ n. n < 4096) (map key_of bs)
unfolding key_of
keys_below [] items = λ k d l. absurd (omega (arith, l))
keys_below (x ∷ xs) items = λ k d l. (
    let inside : k < length (x ∷ xs) = omega (arith, l, length-map (x ∷ xs) key_of) in
    let b = get_or (x ∷ xs) k x in
    let key_b : get_or (map key_of (x ∷ xs)) k d ≡ section_of b.name * 1024 + item_of b.name = get_or-map key_of (x ∷ xs) k x d inside in
    omega (arith, key_b, section_few b.name, items k x inside)
    )

pub queries_fit : (c : Parts) (sig : List ℕ) (o : Options) (es : List Entry) (seeds : List (Option SeedLine)) (spents : List Block) → IsCircuit c → IsLegalHistory o (2 ^ length sig) es → 2 ^ length sig ≤ 1024
    → AreInRange o → o.depth < 2 ^ 32 → o.hop < 2 ^ 32 → length seeds ≤ 16 → AreSpents c sig o es seeds spents → All (λ (b : Block). HasProofLiterals b.proof) spents → IsCounted FitsSpent spents
queries_fit c sig o es seeds spents ok legal few ranges deep far short h literals =
    let each : All (λ (b : Block). IsInForm b.name b) spents = λ k d l. query_fits c sig o es seeds (get_or spents k d).name (get_or spents k d) ok legal few ranges deep far short (h.each k d l) in
    let items : All (λ (b : Block). item_of b.name < 1024) spents = λ k d l. (each k d l).item in
    record {
      count = omega (arith, distinct_below (map key_of spents) 4096 (keys_distinct spents h.ordered items) (keys_below spents items), length-map spents key_of);
      items = recursion_from_All FitsSpent spents (λ k d l. record {
        query = (each k d l).query;
        proof = record { count = (each k d l).count; ids = (each k d l).ids; literals = literals k d l };
      });
    }

-- ---- the literals of all queries
optional_literals : (spent : Option Block) → HaveLiterals spent → All (λ (b : Block). HasProofLiterals b.proof) (optional spent)
optional_literals None h = All-nil (λ (b : Block). HasProofLiterals b.proof)
optional_literals (Some b) h = All-cons (λ (x : Block). HasProofLiterals x.proof) b [] h (All-nil (λ (x : Block). HasProofLiterals x.proof))

hop_literals : (ends : List BatchEnd) → All (λ (end : BatchEnd). HaveSearchLiterals end.hop) ends → All (λ (b : Block). HasProofLiterals b.proof) (hop_spents ends)
hop_literals [] h = All-nil (λ (b : Block). HasProofLiterals b.proof)
hop_literals (x ∷ ends) h =
    All-append (λ (b : Block). HasProofLiterals b.proof) (optional x.hop.spent) (hop_spents ends) (optional_literals x.hop.spent (All-head (λ (end : BatchEnd). HaveSearchLiterals end.hop) x ends h).spent)
    (hop_literals ends (All-tail (λ (end : BatchEnd). HaveSearchLiterals end.hop) x ends h))

prover_literals : (p : ProverEnd) → HasProverLiterals p → All (λ (b : Block). HasProofLiterals b.proof) (prover_blocks p)
prover_literals NotRun h = All-nil (λ (b : Block). HasProofLiterals b.proof)
prover_literals AllSettled h = All-nil (λ (b : Block). HasProofLiterals b.proof)
prover_literals (Spent b) h = All-cons (λ (x : Block). HasProofLiterals x.proof) b [] h (All-nil (λ (x : Block). HasProofLiterals x.proof))
prover_literals (Whole inv spents) h = h.1

pub spents_literals : (ends : Ends) → HaveEndLiterals ends → All (λ (b : Block). HasProofLiterals b.proof) (all_spents ends)
spents_literals ends h =
    let P : Block → Type 0 = λ (b : Block). HasProofLiterals b.proof in
    All-append P (optional ends.sweep.spent ++ hop_spents ends.batches) (prover_blocks ends.prover)
    (All-append P (optional ends.sweep.spent) (hop_spents ends.batches) (optional_literals ends.sweep.spent h.sweep.spent) (hop_literals ends.batches h.batches))
    (prover_literals ends.prover h.prover)

pub invs_fit : (c : Parts) (sig : List ℕ) (o : Options) (es : List Entry) (p : ProverEnd) (n : ℕ) → IsCircuit c → IsProverEnd c sig o es p → HasShortKept p → HasProverLiterals p
    → IsCounted FitsInv (invs_from n (inv_of p))
invs_fit c sig o es p zero ok told short literals = record { count = omega arith; items = tt }
invs_fit c sig o es NotRun (suc n) ok told short literals = record { count = omega arith; items = tt }
invs_fit c sig o es AllSettled (suc n) ok told short literals = record { count = omega arith; items = tt }
invs_fit c sig o es (Spent b) (suc n) ok told short literals = record { count = omega arith; items = tt }
invs_fit c sig o es (Whole inv spents) (suc n) ok told short literals = record { count = omega arith; items = (inv_fits c sig o.strength inv ok told.inv_is short literals.0, tt) }

-- ---- goals
pub settled_fits : (c : Parts) (sig : List ℕ) (inv : Option Inv) (g number : ℕ) (basis : Basis) → number < 2 ^ 64 → IsBasis c sig inv g basis → HasShortBasis basis → HasBasisLiterals basis
    → FitsBlock (length c.inputs) (length c.latches) (block_by number basis)
settled_fits c sig None g number (Witness t) fits shows short literals = (fits, trace_fits c sig t g shows)
settled_fits c sig (Some inv) g number (Witness t) fits shows short literals = (fits, trace_fits c sig t g shows)
settled_fits c sig None g number (Proof p) fits basis short literals = absurd basis
settled_fits c sig (Some inv) g number (Proof p) fits basis short literals = record {
  number_fits = fits;
  inv_fits = omega arith;
  proof = record { count = short; ids = basis.1; literals = literals };
}

if_near : (t : Bool) (s asked : ℕ) → s ≤ asked → IfSome (first_of (cons_option (if t then Some s else None) [])) (λ x. x ≤ asked)
if_near true s asked h = h
if_near false s asked h = tt

hop_fits_of : (t : Option ℕ) → IfSome t (λ d. d < 2 ^ 32) → FitsHop (hop_of t)
hop_fits_of None h = tt
hop_fits_of (Some t) h = h

hop_near : (c : Parts) (sig : List ℕ) (o : Options) (es : List Entry) (start : Start) (b : ℕ) (spent : Option Block) → IsSpentStep c sig o es start o.hop (searches.Hop b) spent
    → IfSome (first_step (hop_step b) (optional spent)) (λ t. t ≤ o.hop)
hop_near c sig o es start b None told = tt
hop_near c sig o es start b (Some q) told = subst (λ n. IfSome (first_of (cons_option (hop_step b n) [])) (λ t. t ≤ o.hop)) (sym told.1) (if_near (nat_eq b b) told.0 o.hop told.2.near)

hop_end_fits : (c : Parts) (sig : List ℕ) (o : Options) (es : List Entry) (b : ℕ) (seed : Option SeedLine) (hop : SearchBlocks) → o.hop < 2 ^ 32 → IsHopEnd c sig o es b seed hop
    → FitsHop (hop_bound o (optional hop.spent) b seed)
hop_end_fits c sig o es b None hop far h = tt
hop_end_fits c sig o es b (Some s) hop far h =
    let step = first_step (hop_step b) (optional hop.spent) in
    hop_fits_of (whole_up_to o.hop step) (whole_fits o.hop step far (hop_near c sig o es (State s.state) b hop.spent h.spent))

hops_fit : (c : Parts) (sig : List ℕ) (o : Options) (es : List Entry) (n : ℕ) (ends : List BatchEnd) → o.hop < 2 ^ 32
    → ((k : ℕ) (end : BatchEnd) → slice_get ends k ≡ Some end → IsHopEnd c sig o es (n + k) end.seed end.hop) → AllByRecursion FitsHop (map (λ p. end_bound o p.0 p.1) (enumerate_from n ends))
hops_fit c sig o es n [] far h = tt
hops_fit c sig o es n (x ∷ ends) far h = (
  hop_end_fits c sig o es n x.seed x.hop far (subst (λ (b : ℕ). IsHopEnd c sig o es b x.seed x.hop) (let e : n + 0 ≡ n = omega arith in e) (h 0 x refl)),
  hops_fit c sig o es (n + 1) ends far (λ k end e. subst (λ (b : ℕ). IsHopEnd c sig o es b end.seed end.hop) (let s : n + suc k ≡ n + 1 + k = omega arith in s) (h (suc k) end e)),
)

strength_fits : (o : Options) (p : ProverEnd) (cut : Bool) → o.strength < 2 ^ 32 → IfSome (cond cut None (strength_after o p)) (λ s. s < 2 ^ 32)
strength_fits o p true fits = tt
strength_fits o NotRun false fits = tt
strength_fits o AllSettled false fits = fits
strength_fits o (Spent b) false fits = tt
strength_fits o (Whole inv spents) false fits = fits

sweep_near : (c : Parts) (sig : List ℕ) (o : Options) (es : List Entry) (spent : Option Block) → IsSpentStep c sig o es Reset o.depth searches.Sweep spent → IfSome (first_step sweep_step (optional spent)) (λ t. t ≤ o.depth)
sweep_near c sig o es None told = tt
sweep_near c sig o es (Some b) told = subst (λ n. IfSome (first_of (cons_option (sweep_step n) [])) (λ t. t ≤ o.depth)) (sym told.1) told.2.near

pub open_fits : (c : Parts) (sig : List ℕ) (o : Options) (es : List Entry) (ends : Ends) (bounds : OpenBounds) (goals g : ℕ) → FitsOptions o → AreTold c sig o es ends → AreBounds o goals ends bounds
    → FitsBlock (length c.inputs) (length c.latches) (open_block bounds g)
open_fits c sig o es ends bounds goals g fits told are = record {
  depth_fits = subst (λ (x : Option ℕ). IfSome x (λ d. d < 2 ^ 32)) (sym are.depth) (whole_fits o.depth (first_step sweep_step (optional ends.sweep.spent)) fits.depth (sweep_near c sig o es ends.sweep.spent told.sweep.spent));
  hops_fit = subst (λ (hs : List HopBound). AllByRecursion FitsHop hs) (sym are.hops)
      (hops_fit c sig o es 0 ends.batches fits.hop (λ k end e. subst (λ (b : ℕ). IsHopEnd c sig o es b end.seed end.hop) (let s : k ≡ 0 + k = omega arith in s) (told.batches.each k end e).hop));
  strength_fits = subst (λ (x : Option ℕ). IfSome (cond (get_or bounds.cut g false) None x) (λ s. s < 2 ^ 32)) (sym are.strength) (strength_fits o ends.prover (get_or bounds.cut g false) fits.strength);
}

-- ---- seeds
state_wide : (c : Parts) (state : List Bool) (frames : List Assignment) → length state ≡ length c.latches → length (state_after c state frames) ≡ length c.latches
state_wide c state [] e = e
state_wide c state (a ∷ frames) e = state_wide c (next_values c a) frames (length-map (next_lits c.latches) (value_of a) ∙ length-map c.latches (λ (l : Latch). l.next))

-- the last step is one of those that are asked for
last_near : (c : Parts) (sig : List ℕ) (lanes : List Lane) (len stall last : ℕ) → 1 ≤ len → IsLastStep c sig lanes len stall last → last < len
last_near c sig lanes len stall last some h = elim (cases_lt last len) [
  | inl near ↦ near
  | inr far ↦ absurd (h.before (len - 1) (omega (arith, far, some)) (inl (omega (arith, some))))
]

seed_fits : (c : Parts) (sig : List ℕ) (o : Options) (b : ℕ) (line : Option SeedLine) → 1 ≤ o.length → o.length < 2 ^ 32 → IsSeedOfBatch c sig o b (seed_of_line c line)
    → FitsSeed (length c.inputs) (length c.latches) line
seed_fits c sig o b None some few h = tt
seed_fits c sig o b (Some s) some few h =
    let at = h.is_seed.seed_at in
    let t = h.is_seed.t in
    let near : t < h.last + 1 = h.is_seed.last.visited.near in
    let last : h.last < o.length = last_near c sig (lanes_of c o.seed b None) o.length o.stall h.last some h.ends in
    let count : length s.rows.rows ≡ t = ap length at.rows ∙ (length-map (range_with_len 0 t) at.lane.row ∙ length-range_with_len 0 t) in
    record {
      start_wide = at.holds.reset.size;
      width_is = at.holds.width;
      rows_wide = subst (λ (rows : List (List Bool)). AllByRecursion (λ row. length row ≡ length c.inputs) rows) at.holds.inputs (rows_wide c at.holds.frames);
      count = omega (arith, count, near, last, few);
      state_wide = ap length at.holds.leads ∙ state_wide c s.start at.holds.frames at.holds.reset.size;
    }

pub seeds_fit : (c : Parts) (sig : List ℕ) (o : Options) (lines : List (Option SeedLine)) → AreInRange o → o.length < 2 ^ 32 → AreSeeds c sig o lines → IsCounted (FitsSeed (length c.inputs) (length c.latches)) lines
seeds_fit c sig o lines ranges few h = record {
  count = omega (arith, h.count, ranges.batches);
  items = recursion_from_All (FitsSeed (length c.inputs) (length c.latches)) lines
      (λ k d l. seed_fits c sig o k (get_or lines k d) ranges.length few (h.each k (get_or lines k d) (slice_get-get_or lines k d l)));
}
