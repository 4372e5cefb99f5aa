-- What the prover finds makes a history with what was found before it, and its end is told by that.
use Rattle.std.proofs.Common.{◌≡◌, ◌≢◌, ◌⊎◌, ℕ, ◌+◌, ◌<◌, ◌^◌, ◌↔◌, ℤ, Bool, true, false, List, [], ◌∷◌, ◌++◌, map, length, get_or, refl, sym, ap, subst, ◌∙◌, arith, All, AllPairs, Any, Contains, Option, Some, None, inl, inr}
use Rattle.std.specs.Prelude.{is_some}
use Rattle.std.proofs.lemmas.Bool.{cases_eq, false≢true}
use Rattle.std.proofs.lemmas.List.{map-append, length-map, get_or-map}
use Rattle.std.proofs.lemmas.List.Elements.{All-append, All-nil, All-weaker, Contains-append_left, Contains-append_right}
use Rattle.std.proofs.lemmas.Option.{get_or_from_slice_get, slice_get-get_or, slice_get_within}
use Rattle.aig_model.specs.SignalList.{IsSignals}
use Rattle.aig_model.specs.WellFormed.{IsCircuit}
use Rattle.aig_model.specs.declared.parts.Parts.{Parts}
use Rattle.inv_cert.proofs.Invariance.{bars}
use Rattle.inv_prover.proofs.Shrinking.{greatest_is_invariant}
use Rattle.sim_walk.specs.declared.options.Options.{Options}
use Rattle.board_core.specs.declared.entry.Entry.{Entry}
use Rattle.report_text.specs.declared.report.Block.{Block}
use Rattle.report_text.specs.declared.report.Inv.{Inv}
use Rattle.sweep_search.specs.Sweep.{IsMarked}
use Rattle.unroll.specs.declared.start.Start.TheVariants.{Reset}
use Rattle.run_report.specs.declared.ends.Ends.{Ends}
use Rattle.run_report.specs.declared.ends.SearchBlocks.{SearchBlocks}
use Rattle.run_report.specs.declared.ends.ProverEnd.{ProverEnd}
use Rattle.run_report.specs.declared.ends.ProverEnd.TheVariants.{NotRun, AllSettled, Spent, Whole}
use Rattle.run_report.specs.declared.posts.Basis.{Basis}
use Rattle.run_report.specs.declared.posts.Basis.TheVariants.{Witness, Proof}
use Rattle.run_report.specs.declared.posts.Finding.{Finding}
use Rattle.run_report.specs.declared.searches.Search.TheVariants as searches
use Rattle.run_report.specs.Batches.{AddsBatches}
use Rattle.run_report.specs.Ends.{AreRefutedStepsIf, AreTold, IsExcludesQuery, IsProverEnd, IsSearchTold, IsSpentStep, inv_of, last_whole, proves}
use Rattle.run_report.specs.Invariants.{IsInv}
use Rattle.run_report.specs.Posts.{entries_of, posts_of, HasEntry, IsBasis, IsFinding, IsHistory}
use Rattle.run_report.specs.Proving.{IsAnswered, IsProof, IsProvingTo, IsSpentBlock}
use Rattle.run_report.specs.Queries.{AreLeftOut, item_of}
use Rattle.run_report.specs.Lines.{AreShort, HasShortBasis, HasShortKept, IsShort}
use Rattle.run_report.specs.Run.{goals_of}
use Rattle.run_report.specs.declared.posts.Post.{Post}
use Rattle.run_report.proofs.Counts.{pairs_append}
use Rattle.run_report.proofs.History.{entry_later}
use Rattle.run_report.proofs.Posting.{goals-of_posts, has_entry_of, post_at, posts_history}

-- ---- entries stay
has_goal : (es : List Entry) (g : ℕ) → HasEntry es g → Contains (map (λ (e : Entry). e.goal) es) g
has_goal [] g some = absurd (false≢true some)
has_goal (x ∷ es) g some = elim (cases_eq x.goal g) [
  | inl same ↦ (0, omega arith, same)
  | inr other ↦ Contains-append_right (x.goal ∷ []) (map (λ (e : Entry). e.goal) es) g (has_goal es g (sym (ap is_some (entry_later x es g other)) ∙ some))
]

pub more_entries : (fs more : List Finding) (g : ℕ) → HasEntry (entries_of (posts_of fs)) g → HasEntry (entries_of (posts_of (fs ++ more))) g
more_entries fs more g some =
    let has : Contains (goals_of fs) g = subst (λ (gs : List ℕ). Contains gs g) (goals-of_posts fs) (has_goal (entries_of (posts_of fs)) g some) in
    has_entry_of (fs ++ more) g
    (subst (λ (gs : List ℕ). Contains gs g) (sym (map-append (λ (f : Finding). f.goal) fs more)) (Contains-append_left (goals_of fs) (goals_of more) g has))

pub entries_found : (fs more : List Finding) (g : ℕ) → Contains (goals_of more) g → HasEntry (entries_of (posts_of (fs ++ more))) g
entries_found fs more g has =
    has_entry_of (fs ++ more) g
    (subst (λ (gs : List ℕ). Contains gs g) (sym (map-append (λ (f : Finding). f.goal) fs more)) (Contains-append_right (goals_of fs) (goals_of more) g has))

-- ---- findings
-- what a trace shows stays a basis, whatever the clauses
basis_with : (c : Parts) (sig : List ℕ) (inv : Option Inv) (goal : ℕ) (b : Basis) → IsBasis c sig None goal b → IsBasis c sig inv goal b
basis_with c sig None goal b h = h
basis_with c sig (Some inv) goal (Witness t) h = h
basis_with c sig (Some inv) goal (Proof p) h = absurd h

finding_with : (c : Parts) (sig : List ℕ) (o : Options) (inv : Option Inv) (f : Finding) → IsFinding c sig o None f → IsFinding c sig o inv f
finding_with c sig o inv f h = record { found = h.found; kind = h.kind; basis = basis_with c sig inv f.goal f.basis h.basis; below = h.below; range = h.range }

proof_is_finding : (c : Parts) (sig : List ℕ) (o : Options) (inv : Inv) (known : List Bool) (f : Finding) → IsCircuit c → IsSignals c sig → IsInv c sig o.strength inv
    → IsProof c sig o.lemmas inv.clauses known (2 ^ length sig) f → IsFinding c sig o (Some inv) f
proof_is_finding c sig o inv known f circuit signals own p =
    let invariant = greatest_is_invariant c own.greatest.candidates inv.clauses own.greatest.greatest in
    subst (IsFinding c sig o (Some inv)) (sym p.is) (record {
      found = record { clauses = inv.clauses; greatest = own.greatest; excludes = (bars c sig inv.clauses f.goal p.proof circuit signals p.below invariant p.refuted.accepted).excludes };
      kind = refl;
      basis = (p.refuted.accepted, p.refuted.written);
      below = p.below;
      range = tt;
    })

proven_found : (c : Parts) (sig : List ℕ) (o : Options) (known : List Bool) (fs : List Finding) (end : ProverEnd) → IsCircuit c → IsSignals c sig → IsProvingTo c sig o known fs end
    → All (IsFinding c sig o (inv_of end)) fs
proven_found c sig o known fs NotRun circuit signals h = absurd h
proven_found c sig o known fs AllSettled circuit signals h = subst (All (IsFinding c sig o None)) (sym h.0) (All-nil (IsFinding c sig o None))
proven_found c sig o known fs (Spent b) circuit signals h = subst (All (IsFinding c sig o None)) (sym h.0) (All-nil (IsFinding c sig o None))
proven_found c sig o known fs (Whole inv spents) circuit signals h =
    All-weaker (IsProof c sig o.lemmas inv.clauses known (2 ^ length sig)) (IsFinding c sig o (Some inv)) (λ f p. proof_is_finding c sig o inv known f circuit signals h.0 p) fs h.1.proofs

pub found_below : (c : Parts) (sig : List ℕ) (o : Options) (inv : Option Inv) (fs : List Finding) → All (IsFinding c sig o inv) fs → All (λ goal. goal < 2 ^ length sig) (goals_of fs)
found_below c sig o inv [] all = λ k d l. absurd (omega (arith, l))
found_below c sig o inv (f ∷ fs) all = λ k d l. (
    let inside : k < length (f ∷ fs) = omega (arith, l, length-map (f ∷ fs) (λ (x : Finding). x.goal)) in
    omega (arith, get_or-map (λ (x : Finding). x.goal) (f ∷ fs) k f d inside, (all k f inside).below)
    )

-- each goal once, and none that was settled before
rising_once : (fs : List Finding) → AllPairs (λ (f g : Finding). f.goal < g.goal) fs → AllPairs (λ m n. m ≢ n) (goals_of fs)
rising_once [] rising = λ i j d l m. absurd (omega (arith, m))
rising_once (f ∷ fs) rising = λ i j d l m same. (
    let inside : j < length (f ∷ fs) = omega (arith, m, length-map (f ∷ fs) (λ (g : Finding). g.goal)) in
    omega (arith, rising i j f l inside, same, get_or-map (λ (g : Finding). g.goal) (f ∷ fs) i f d (omega (arith, l, inside)), get_or-map (λ (g : Finding). g.goal) (f ∷ fs) j f d inside)
    )

proofs_new : (c : Parts) (sig : List ℕ) (lemmas : ℕ) (clauses : List (List ℤ)) (known : List Bool) (n : ℕ) (fs : List Finding) (g : ℕ) → All (IsProof c sig lemmas clauses known n) fs
    → Contains (goals_of fs) g → ¬ IsMarked known g
proofs_new c sig lemmas clauses known n [] g all has = absurd (omega (arith, has.1))
proofs_new c sig lemmas clauses known n (f ∷ fs) g all has =
    let inside : has.0 < length (f ∷ fs) = omega (arith, has.1, length-map (f ∷ fs) (λ (x : Finding). x.goal)) in
    let is : (get_or (f ∷ fs) has.0 f).goal ≡ g = sym (get_or-map (λ (x : Finding). x.goal) (f ∷ fs) has.0 f g inside) ∙ has.2 in
    subst (λ (x : ℕ). ¬ IsMarked known x) is (all has.0 f inside).new

none_of : (fs : List Finding) → fs ≡ [] → AllPairs (λ m n. m ≢ n) (goals_of fs)
none_of fs none = subst (λ (xs : List Finding). AllPairs (λ m n. m ≢ n) (goals_of xs)) (sym none) (λ i j d l m. absurd (omega (arith, m)))

none_new : (known : List Bool) (fs : List Finding) (g : ℕ) → fs ≡ [] → Contains (goals_of fs) g → ¬ IsMarked known g
none_new known fs g none has = absurd (let h : Contains (goals_of []) g = subst (λ (xs : List Finding). Contains (goals_of xs) g) none has in omega (arith, h.1))

proven_once : (c : Parts) (sig : List ℕ) (o : Options) (known : List Bool) (fs : List Finding) (end : ProverEnd) → IsProvingTo c sig o known fs end → AllPairs (λ m n. m ≢ n) (goals_of fs)
proven_once c sig o known fs NotRun h = absurd h
proven_once c sig o known fs AllSettled h = none_of fs h.0
proven_once c sig o known fs (Spent b) h = none_of fs h.0
proven_once c sig o known fs (Whole inv spents) h = rising_once fs h.1.rising

proven_new : (c : Parts) (sig : List ℕ) (o : Options) (known : List Bool) (fs : List Finding) (end : ProverEnd) (g : ℕ) → IsProvingTo c sig o known fs end → Contains (goals_of fs) g → ¬ IsMarked known g
proven_new c sig o known fs NotRun g h has = absurd h
proven_new c sig o known fs AllSettled g h has = none_new known fs g h.0 has
proven_new c sig o known fs (Spent b) g h has = none_new known fs g h.0 has
proven_new c sig o known fs (Whole inv spents) g h has = proofs_new c sig o.lemmas inv.clauses known (2 ^ length sig) fs g h.1.proofs has

-- ---- the end
spent_is_query : (c : Parts) (sig : List ℕ) (o : Options) (inv : Inv) (b : Block) → IsInv c sig o.strength inv → IsSpentBlock c sig o.lemmas inv.clauses (2 ^ length sig) b → IsExcludesQuery c sig o inv b
spent_is_query c sig o inv b own q =
    subst (IsExcludesQuery c sig o inv) (sym q.is) (record {
      goal = q.goal;
      name = refl;
      spent = record {
        none_blocked = refl;
        below = q.below;
        greatest = own.greatest;
        spent = record { spent = q.spending.spent; earned = q.spending.earned; written = q.spending.written };
      };
    })

answered : (known : List Bool) (fs : List Finding) (spents : List Block) (es : List Entry) (g : ℕ) → ((x : ℕ) → IsMarked known x → HasEntry es x) → ((x : ℕ) → Contains (goals_of fs) x → HasEntry es x)
    → IsAnswered known (record { findings = fs; spents = spents }) g → HasEntry es g ⊎ Any (λ (b : Block). item_of b.name ≡ g) spents
answered known fs spents es g before now (inl marked) = inl (before g marked)
answered known fs spents es g before now (inr (inl found)) = inl (now g found)
answered known fs spents es g before now (inr (inr spent)) = inr spent

proven_end : (c : Parts) (sig : List ℕ) (o : Options) (known : List Bool) (fs : List Finding) (end : ProverEnd) (es : List Entry) → ((g : ℕ) → IsMarked known g → HasEntry es g)
    → ((g : ℕ) → Contains (goals_of fs) g → HasEntry es g) → IsProvingTo c sig o known fs end → IsProverEnd c sig o es end
proven_end c sig o known fs NotRun es before now h = absurd h
proven_end c sig o known fs AllSettled es before now h = λ g below. before g (h.1 g below)
proven_end c sig o known fs (Spent b) es before now h = h.1
proven_end c sig o known fs (Whole inv spents) es before now h = record {
  inv_is = h.0;
  queries = All-weaker (IsSpentBlock c sig o.lemmas inv.clauses (2 ^ length sig)) (IsExcludesQuery c sig o inv) (λ b q. spent_is_query c sig o inv b h.0 q) spents h.1.queries;
  rising = h.1.queries_rising;
  settles = λ g below e. answered known fs spents es g before now (h.1.whole g below e);
}

-- a prover was run
pub proven_proves : (c : Parts) (sig : List ℕ) (o : Options) (known : List Bool) (fs : List Finding) (end : ProverEnd) → IsProvingTo c sig o known fs end → proves end ≡ true
proven_proves c sig o known fs NotRun h = absurd h
proven_proves c sig o known fs AllSettled h = refl
proven_proves c sig o known fs (Spent b) h = refl
proven_proves c sig o known fs (Whole inv spents) h = refl

-- the end of a search is told by more entries
left_out_with : (es more : List Entry) (goals : List ℕ) → ((g : ℕ) → HasEntry es g → HasEntry more g) → AreLeftOut es goals → AreLeftOut more goals
left_out_with es more goals keeps h = record { rising = h.rising; settled = λ k d l. keeps (get_or goals k d) (h.settled k d l) }

spent_with : (c : Parts) (sig : List ℕ) (o : Options) (es more : List Entry) (spent : Option Block) → ((g : ℕ) → HasEntry es g → HasEntry more g)
    → IsSpentStep c sig o es Reset o.depth searches.Sweep spent → IsSpentStep c sig o more Reset o.depth searches.Sweep spent
spent_with c sig o es more None keeps h = tt
spent_with c sig o es more (Some b) keeps h = (h.0, h.1, record { near = h.2.near; left_out = left_out_with es more b.blocked keeps h.2.left_out; spent = h.2.spent })

refuted_with : (proofs : Bool) (c : Parts) (sig : List ℕ) (o : Options) (es more : List Entry) (bound : Option ℕ) (bs : List Block) → ((g : ℕ) → HasEntry es g → HasEntry more g)
    → AreRefutedStepsIf proofs c sig o es Reset o.depth searches.Sweep bound bs → AreRefutedStepsIf proofs c sig o more Reset o.depth searches.Sweep bound bs
refuted_with false c sig o es more bound bs keeps h = h
refuted_with true c sig o es more bound bs keeps h = record {
  each = λ step b e. (
      let own = h.each step b e in
      record {
        name = own.name;
        refuted = record { left_out = left_out_with es more b.blocked keeps own.refuted.left_out; accepted = own.refuted.accepted; written = own.refuted.written };
        short = own.short;
      }
      );
  near = h.near;
  few = h.few;
  whole = λ goal below left. h.whole goal below (λ has. left (keeps goal has));
}

told_with : (c : Parts) (sig : List ℕ) (o : Options) (es more : List Entry) (sweep : SearchBlocks) → ((g : ℕ) → HasEntry es g → HasEntry more g) → IsSearchTold c sig o es sweep
    → IsSearchTold c sig o more sweep
told_with c sig o es more sweep keeps told = record {
  visited = λ goal visited. keeps goal (told.visited goal visited);
  ended = record {
    settles = λ d goal e w. keeps goal (told.ended.settles d goal e w);
    spent = spent_with c sig o es more sweep.spent keeps told.ended.spent;
    refuted = refuted_with o.proofs c sig o es more (last_whole o.depth searches.Sweep sweep) sweep.refuted keeps told.ended.refuted;
  };
}

-- and so is the prover's
prover_with : (c : Parts) (sig : List ℕ) (o : Options) (es more : List Entry) (end : ProverEnd) → ((g : ℕ) → HasEntry es g → HasEntry more g) → IsProverEnd c sig o es end
    → IsProverEnd c sig o more end
prover_with c sig o es more NotRun keeps h = tt
prover_with c sig o es more AllSettled keeps h = λ g below. keeps g (h g below)
prover_with c sig o es more (Spent b) keeps h = h
prover_with c sig o es more (Whole inv spents) keeps h = record {
  inv_is = h.inv_is;
  queries = h.queries;
  rising = h.rising;
  settles = λ g below e. elim (h.settles g below e) [ inl has ↦ inl (keeps g has) | inr spent ↦ inr spent ];
}

-- ---- both
-- what is known after the searches and the prover
pub record IsRun (c : Parts) (sig : List ℕ) (o : Options) (known : List Bool) (fs more : List Finding) (sweep : SearchBlocks) (end : ProverEnd) : Type 0 where
  pub circuit : IsCircuit c
  pub signals : IsSignals c sig
  pub found : All (IsFinding c sig o None) fs
  pub once : AllPairs (λ m n. m ≢ n) (goals_of fs)
  pub marks : (goal : ℕ) → IsMarked known goal ↔ Contains (goals_of fs) goal
  pub told : IsSearchTold c sig o (entries_of (posts_of fs)) sweep
  pub proven : IsProvingTo c sig o known more end

run_history : (c : Parts) (sig : List ℕ) (o : Options) (known : List Bool) (fs more : List Finding) (sweep : SearchBlocks) (end : ProverEnd) → IsRun c sig o known fs more sweep end
    → IsHistory c sig o (inv_of end) (posts_of (fs ++ more))
run_history c sig o known fs more sweep end h =
    let first : All (IsFinding c sig o (inv_of end)) fs = All-weaker (IsFinding c sig o None) (IsFinding c sig o (inv_of end)) (λ f p. finding_with c sig o (inv_of end) f p) fs h.found in
    posts_history c sig o (inv_of end) (fs ++ more)
    (All-append (IsFinding c sig o (inv_of end)) fs more first (proven_found c sig o known more end h.circuit h.signals h.proven))
    (subst (λ (gs : List ℕ). AllPairs (λ m n. m ≢ n) gs) (sym (map-append (λ (f : Finding). f.goal) fs more))
    (pairs_append (λ m n. m ≢ n) (goals_of fs) (goals_of more) h.once (proven_once c sig o known more end h.proven)
    (λ x y a b same. proven_new c sig o known more end y h.proven b ((h.marks y).1 (subst (Contains (goals_of fs)) same a)))))

-- what the ends of the first jobs say
pub record IsRunTold (c : Parts) (sig : List ℕ) (o : Options) (es : List Entry) (sweep : SearchBlocks) (end : ProverEnd) : Type 0 where
  pub search : IsSearchTold c sig o es sweep
  pub prover : IsProverEnd c sig o es end

run_told : (c : Parts) (sig : List ℕ) (o : Options) (known : List Bool) (fs more : List Finding) (sweep : SearchBlocks) (end : ProverEnd) → IsRun c sig o known fs more sweep end
    → IsRunTold c sig o (entries_of (posts_of (fs ++ more))) sweep end
run_told c sig o known fs more sweep end h =
    let es = entries_of (posts_of (fs ++ more)) in
    let keeps : (g : ℕ) → HasEntry (entries_of (posts_of fs)) g → HasEntry es g = more_entries fs more in
    record {
      search = told_with c sig o (entries_of (posts_of fs)) es sweep keeps h.told;
      prover = proven_end c sig o known more end es (λ g marked. keeps g (has_entry_of fs g ((h.marks g).0 marked))) (entries_found fs more) h.proven;
    }

-- ---- the length of proofs
short_old : (c : Parts) (sig : List ℕ) (goal : ℕ) (b : Basis) → IsBasis c sig None goal b → HasShortBasis b
short_old c sig goal (Witness t) h = tt
short_old c sig goal (Proof p) h = absurd h

short_new : (c : Parts) (sig : List ℕ) (lemmas : ℕ) (clauses : List (List ℤ)) (known : List Bool) (n : ℕ) (f : Finding) → lemmas + 1 < 2 ^ 32 → IsProof c sig lemmas clauses known n f → HasShortBasis f.basis
short_new c sig lemmas clauses known n f few p =
    let short : IsShort p.proof = omega (arith, few, p.refuted.short) in
    subst (λ (x : Finding). HasShortBasis x.basis) (sym p.is) short

proven_short : (c : Parts) (sig : List ℕ) (o : Options) (known : List Bool) (fs : List Finding) (end : ProverEnd) → o.lemmas + 1 < 2 ^ 32 → IsProvingTo c sig o known fs end
    → All (λ (f : Finding). HasShortBasis f.basis) fs
proven_short c sig o known fs NotRun few h = absurd h
proven_short c sig o known fs AllSettled few h = subst (All (λ (f : Finding). HasShortBasis f.basis)) (sym h.0) (All-nil (λ (f : Finding). HasShortBasis f.basis))
proven_short c sig o known fs (Spent b) few h = subst (All (λ (f : Finding). HasShortBasis f.basis)) (sym h.0) (All-nil (λ (f : Finding). HasShortBasis f.basis))
proven_short c sig o known fs (Whole inv spents) few h =
    All-weaker (IsProof c sig o.lemmas inv.clauses known (2 ^ length sig)) (λ (f : Finding). HasShortBasis f.basis) (λ f p. short_new c sig o.lemmas inv.clauses known (2 ^ length sig) f few p) fs h.1.proofs

kept_short : (c : Parts) (sig : List ℕ) (o : Options) (known : List Bool) (fs : List Finding) (end : ProverEnd) → o.lemmas + 1 < 2 ^ 32 → IsProvingTo c sig o known fs end → HasShortKept end
kept_short c sig o known fs NotRun few h = absurd h
kept_short c sig o known fs AllSettled few h = tt
kept_short c sig o known fs (Spent b) few h = tt
kept_short c sig o known fs (Whole inv spents) few h = λ k d l. (let short = h.2 k d l in omega (arith, few, short))

posts_short : (fs : List Finding) → All (λ (f : Finding). HasShortBasis f.basis) fs → All (λ (p : Post). HasShortBasis p.basis) (posts_of fs)
posts_short fs all = λ k d l. (
    let post = post_at fs k (get_or (posts_of fs) k d) (slice_get-get_or (posts_of fs) k d l) in
    let read = get_or_from_slice_get fs k post.finding post.finding post.at_place in
    let own : HasShortBasis post.finding.basis = subst (λ (f : Finding). HasShortBasis f.basis) read (all k post.finding (slice_get_within fs k post.finding post.at_place)) in
    subst (λ (p : Post). HasShortBasis p.basis) (sym post.is) own
    )

run_short : (c : Parts) (sig : List ℕ) (o : Options) (known : List Bool) (fs more : List Finding) (sweep : SearchBlocks) (end : ProverEnd) → o.lemmas + 1 < 2 ^ 32 → IsRun c sig o known fs more sweep end
    → All (λ (f : Finding). HasShortBasis f.basis) (fs ++ more)
run_short c sig o known fs more sweep end few h =
    All-append (λ (f : Finding). HasShortBasis f.basis) fs more
    (All-weaker (IsFinding c sig o None) (λ (f : Finding). HasShortBasis f.basis) (λ f p. short_old c sig f.goal f.basis p.basis) fs h.found)
    (proven_short c sig o known more end few h.proven)

-- ---- all jobs
-- the batches come after the prover
pub record IsRunWhole (c : Parts) (sig : List ℕ) (o : Options) (known : List Bool) (fs more all : List Finding) (ends : Ends) : Type 0 where
  pub few : o.lemmas + 1 < 2 ^ 32
  pub first : IsRun c sig o known fs more ends.sweep ends.prover
  pub batches : AddsBatches c sig o (fs ++ more) all ends.batches

pub whole_history : (c : Parts) (sig : List ℕ) (o : Options) (known : List Bool) (fs more all : List Finding) (ends : Ends) → IsRunWhole c sig o known fs more all ends
    → IsHistory c sig o (inv_of ends.prover) (posts_of all)
whole_history c sig o known fs more all ends h = h.batches.extends.history (inv_of ends.prover) (run_history c sig o known fs more ends.sweep ends.prover h.first)

pub whole_told : (c : Parts) (sig : List ℕ) (o : Options) (known : List Bool) (fs more all : List Finding) (ends : Ends) → IsRunWhole c sig o known fs more all ends
    → AreTold c sig o (entries_of (posts_of all)) ends
whole_told c sig o known fs more all ends h =
    let now = fs ++ more in
    let before = entries_of (posts_of now) in
    let es = entries_of (posts_of all) in
    let keeps : (g : ℕ) → HasEntry before g → HasEntry es g =
    λ g some. has_entry_of all g (h.batches.extends.kept g (subst (λ (gs : List ℕ). Contains gs g) (goals-of_posts now) (has_goal before g some))) in
    let told = run_told c sig o known fs more ends.sweep ends.prover h.first in
    let search = told_with c sig o before es ends.sweep keeps told.search in
    record {
      zero = search.visited;
      sweep = search.ended;
      batches = h.batches.told es (has_entry_of all);
      prover = prover_with c sig o before es ends.prover keeps told.prover;
    }

pub whole_short : (c : Parts) (sig : List ℕ) (o : Options) (known : List Bool) (fs more all : List Finding) (ends : Ends) → IsRunWhole c sig o known fs more all ends
    → AreShort (posts_of all) ends.prover
whole_short c sig o known fs more all ends h = record {
  bases = posts_short all (h.batches.extends.short (run_short c sig o known fs more ends.sweep ends.prover h.few h.first));
  kept = kept_short c sig o known more ends.prover h.few h.first.proven;
}

-- the goals of what the first jobs find are in range
pub run_below : (c : Parts) (sig : List ℕ) (o : Options) (known : List Bool) (fs more : List Finding) (sweep : SearchBlocks) (end : ProverEnd) → IsRun c sig o known fs more sweep end
    → All (λ goal. goal < 2 ^ length sig) (goals_of (fs ++ more))
run_below c sig o known fs more sweep end h =
    found_below c sig o (inv_of end) (fs ++ more)
    (All-append (IsFinding c sig o (inv_of end)) fs more
    (All-weaker (IsFinding c sig o None) (IsFinding c sig o (inv_of end)) (λ f p. finding_with c sig o (inv_of end) f p) fs h.found)
    (proven_found c sig o known more end h.circuit h.signals h.proven))
