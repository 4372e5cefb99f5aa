-- What the jobs of a batch add is a history, and tells how the batch ends.
use Rattle.std.proofs.Common.{◌≡◌, ◌≢◌, ℕ, ◌+◌, ◌-◌, ◌<◌, ◌^◌, List, [], ◌∷◌, ◌++◌, length, get_or, refl, sym, ap, subst, ◌∙◌, arith, All, AllPairs, Contains, Option, Some, inl, inr}
use Rattle.std.specs.Prelude.{slice_get, option_map}
use Rattle.std.proofs.lemmas.Bool.{cases_lt}
use Rattle.std.proofs.lemmas.List.{map-append, length-map, length_push, get_or-map, get_or_push, get_or_append_left}
use Rattle.std.proofs.lemmas.List.Elements.{All-append, All-map, Contains-append_left}
use Rattle.std.proofs.lemmas.Option.{none-some, slice_get-get_or, slice_get_within, slice_get-map, get_or_from_slice_get}
use Rattle.aig_model.specs.declared.parts.Parts.{Parts}
use Rattle.aig_model.specs.declared.trace.Trace.{Trace}
use Rattle.aig_model.proofs.OneGoal.{goal_of-lt}
use Rattle.board_core.specs.declared.entry.Entry.{Entry}
use Rattle.board_core.specs.declared.entry.Source.{Source}
use Rattle.board_core.specs.declared.entry.Source.TheVariants as sources
use Rattle.board_core.specs.History.{IsInRange, kind_of}
use Rattle.report_text.specs.declared.report.Inv.{Inv}
use Rattle.sim_batch.specs.Seeds.{SeedState}
use Rattle.sim_walk.specs.declared.options.Options.{Options}
use Rattle.run_report.specs.declared.ends.BatchEnd.{BatchEnd}
use Rattle.run_report.specs.declared.posts.Basis.{Basis}
use Rattle.run_report.specs.declared.posts.Basis.TheVariants.{Witness}
use Rattle.run_report.specs.declared.posts.Finding.{Finding}
use Rattle.run_report.specs.declared.posts.Post.{Post}
use Rattle.run_report.specs.Batches.{IsFoundBy, Adds, AddsVisits, AddsHopEnd, AddsBatch, AddsBatches, Extends, HaveEntries}
use Rattle.run_report.specs.Ends.{IsBatchEnd}
use Rattle.goal_facts.specs.Found.{Found}
use Rattle.run_report.specs.Lines.{HasShortBasis}
use Rattle.run_report.specs.Posts.{entries_of, kind_of_basis, IsBasis, IsFinding, IsHistory, IsPost, post_of, posts_of}
use Rattle.run_report.specs.Run.{goals_of}
use Rattle.goal_facts.specs.Seeds.{IsSeedOfBatch}
use Rattle.run_report.proofs.Counts.{pairs_append}
use Rattle.run_report.proofs.Posting.{entry_of_finding, length-posts, post_at, posts_history}

-- ---- the goals
goals_after : (c : Parts) (sig : List ℕ) (o : Options) (source : Source) (old new : List Finding) → (a : Adds c sig o source old new) → goals_of new ≡ goals_of old ++ goals_of a.more
goals_after c sig o source old new a = ap goals_of a.after ∙ map-append (λ (f : Finding). f.goal) old a.more

goals_kept : (c : Parts) (sig : List ℕ) (o : Options) (source : Source) (old new : List Finding) → Adds c sig o source old new → (goal : ℕ) → Contains (goals_of old) goal → Contains (goals_of new) goal
goals_kept c sig o source old new a goal has =
    subst (λ (gs : List ℕ). Contains gs goal) (sym (goals_after c sig o source old new a)) (Contains-append_left (goals_of old) (goals_of a.more) goal has)

one_below : (c : Parts) (sig : List ℕ) (o : Options) (source : Source) (f : Finding) → IsFoundBy c sig o source f → f.goal < 2 ^ length sig
one_below c sig o source f h = subst (λ (g : ℕ). g < 2 ^ length sig) h.shows.shows (goal_of-lt sig (get_or h.shows.frames (length h.shows.frames - 1) []))

pub goals_below : (c : Parts) (sig : List ℕ) (o : Options) (source : Source) (old new : List Finding) → Adds c sig o source old new
    → All (λ goal. goal < 2 ^ length sig) (goals_of old) → All (λ goal. goal < 2 ^ length sig) (goals_of new)
goals_below c sig o source old new a below =
    subst (λ (gs : List ℕ). All (λ goal. goal < 2 ^ length sig) gs) (sym (goals_after c sig o source old new a))
    (All-append (λ goal. goal < 2 ^ length sig) (goals_of old) (goals_of a.more) below
    (All-map (λ goal. goal < 2 ^ length sig) (λ (f : Finding). f.goal) a.more (λ k d l. one_below c sig o source (get_or a.more k d) (a.each k d l))))

-- ---- the history
-- what a history says of its findings
finding_of : (c : Parts) (sig : List ℕ) (o : Options) (inv : Option Inv) (fs : List Finding) → IsHistory c sig o inv (posts_of fs) → All (IsFinding c sig o inv) fs
finding_of c sig o inv fs h = λ k d l. (
    let size = length-posts fs in
    let p : Post = get_or (posts_of fs) k (post_of 0 d) in
    let place : slice_get (posts_of fs) k ≡ Some p = slice_get-get_or (posts_of fs) k (post_of 0 d) (omega (arith, l, size)) in
    let at = post_at fs k p place in
    let is : at.finding ≡ get_or fs k d = sym (get_or_from_slice_get fs k at.finding d at.at_place) in
    let entry : slice_get (entries_of (posts_of fs)) k ≡ Some p.entry = slice_get-map (λ (q : Post). q.entry) (posts_of fs) k ∙ ap (option_map (λ (q : Post). q.entry)) place in
    let legal = h.legal.entries k p.entry entry in
    let post : IsPost c sig o inv p = h.each k (post_of 0 d) (omega (arith, l, size)) in
    let here : IsPost c sig o inv (post_of (0 + k) at.finding) = subst (IsPost c sig o inv) at.is post in
    let goal : at.finding.goal < 2 ^ length sig = subst (λ (x : Post). x.entry.goal < 2 ^ length sig) at.is legal.goal in
    let range : IsInRange o at.finding.source = subst (λ (x : Post). IsInRange o x.entry.source) at.is legal.source in
    subst (IsFinding c sig o inv) is (record { found = here.found; kind = here.kind; basis = here.basis; below = goal; range = range })
    )

-- the entry at a place is of the finding there, by caller 0
record IsOfFinding (fs : List Finding) (k d : ℕ) (e : Entry) : Type 0 where
  goal : get_or (goals_of fs) k d ≡ e.goal
  caller : e.caller ≡ 0

of_finding : (fs : List Finding) (k d : ℕ) (f : Finding) (e : Entry) → k < length fs → IsOfFinding fs k d (get_or (entries_of (posts_of fs)) k e)
of_finding fs k d f e l =
    let size : length (entries_of (posts_of fs)) ≡ length fs = length-map (posts_of fs) (λ (p : Post). p.entry) ∙ length-posts fs in
    let at = entry_of_finding fs k (get_or (entries_of (posts_of fs)) k e) (slice_get-get_or (entries_of (posts_of fs)) k e (omega (arith, l, size))) in
    let here : get_or fs k f ≡ at.finding = get_or_from_slice_get fs k at.finding f at.at_place in
    record {
      goal = get_or-map (λ (x : Finding). x.goal) fs k f d l ∙ (ap (λ (x : Finding). x.goal) here ∙ sym (ap (λ (x : Entry). x.goal) at.is));
      caller = ap (λ (x : Entry). x.caller) at.is;
    }

goals_once : (c : Parts) (sig : List ℕ) (o : Options) (inv : Option Inv) (fs : List Finding) → IsHistory c sig o inv (posts_of fs) → AllPairs (λ m n. m ≢ n) (goals_of fs)
goals_once c sig o inv [] h = λ i j d l m. absurd (omega (arith, m))
goals_once c sig o inv (f ∷ fs) h = λ i j d l m same. (
    let size : length (entries_of (posts_of (f ∷ fs))) ≡ length (f ∷ fs) = length-map (posts_of (f ∷ fs)) (λ (p : Post). p.entry) ∙ length-posts (f ∷ fs) in
    let goals : length (goals_of (f ∷ fs)) ≡ length (f ∷ fs) = length-map (f ∷ fs) (λ (x : Finding). x.goal) in
    let e : Entry = (post_of 0 f).entry in
    let first = of_finding (f ∷ fs) i d f e (omega (arith, l, m, goals)) in
    let second = of_finding (f ∷ fs) j d f e (omega (arith, m, goals)) in
    elim (h.legal.once i j e l (omega (arith, m, goals, size))) [
      | inl callers ↦ callers (first.caller ∙ sym second.caller)
      | inr others ↦ others (sym first.goal ∙ (same ∙ second.goal))
    ]
    )

-- a source of the walks or of the hops is in range where it found something
abbrev pub IsOfBatch : Source → Type 0
IsOfBatch sources.Zero = ⊥
IsOfBatch (sources.Walk b) = Unit {0}
IsOfBatch sources.Sweep = ⊥
IsOfBatch (sources.Hop b) = Unit {0}
IsOfBatch (sources.Again r) = ⊥
IsOfBatch sources.Proved = ⊥

batch_range : (c : Parts) (sig : List ℕ) (o : Options) (source : Source) (goal : ℕ) → IsOfBatch source → Found c sig o source goal → IsInRange o source
batch_range c sig o sources.Zero goal of found = absurd of
batch_range c sig o (sources.Walk b) goal of found = found.inside
batch_range c sig o sources.Sweep goal of found = absurd of
batch_range c sig o (sources.Hop b) goal of found = found.inside
batch_range c sig o (sources.Again r) goal of found = absurd of
batch_range c sig o sources.Proved goal of found = absurd of

batch_kind : (source : Source) (trace : Trace) → IsOfBatch source → kind_of source ≡ kind_of_basis (Witness trace)
batch_kind sources.Zero trace of = refl
batch_kind (sources.Walk b) trace of = refl
batch_kind sources.Sweep trace of = refl
batch_kind (sources.Hop b) trace of = refl
batch_kind (sources.Again r) trace of = refl
batch_kind sources.Proved trace of = absurd of

found_is : (c : Parts) (sig : List ℕ) (o : Options) (inv : Option Inv) (source : Source) (f : Finding) → IsOfBatch source → IsFoundBy c sig o source f → IsFinding c sig o inv f
found_is c sig o inv source f of h = record {
  found = subst (λ (s : Source). Found c sig o s f.goal) (sym h.source_is) h.found;
  kind = ap kind_of h.source_is ∙ (batch_kind source h.witness of ∙ sym (ap kind_of_basis h.basis));
  basis = subst (λ (b : Basis). IsBasis c sig inv f.goal b) (sym h.basis) h.shows;
  below = one_below c sig o source f h;
  range = subst (λ (s : Source). IsInRange o s) (sym h.source_is) (batch_range c sig o source f.goal of h.found);
}

-- the goals of the findings that are added
added_once : (fs : List Finding) → AllPairs (λ (f g : Finding). f.goal ≢ g.goal) fs → AllPairs (λ m n. m ≢ n) (goals_of fs)
added_once [] once = λ i j d l m. absurd (omega (arith, m))
added_once (f ∷ fs) once = λ i j d l m same. (
    let size = length-map (f ∷ fs) (λ (x : Finding). x.goal) in
    once i j f l (omega (arith, m, size))
    (sym (get_or-map (λ (x : Finding). x.goal) (f ∷ fs) i f d (omega (arith, l, m, size)))
    ∙ (same ∙ get_or-map (λ (x : Finding). x.goal) (f ∷ fs) j f d (omega (arith, m, size))))
    )

added_other : (old more : List Finding) (goal : ℕ) → All (λ (f : Finding). ¬ Contains (goals_of old) f.goal) more → Contains (goals_of more) goal → ¬ Contains (goals_of old) goal
added_other old [] goal fresh has = absurd (omega (arith, has.1))
added_other old (f ∷ more) goal fresh has =
    let inside : has.0 < length (f ∷ more) = omega (arith, has.1, length-map (f ∷ more) (λ (x : Finding). x.goal)) in
    let is : (get_or (f ∷ more) has.0 f).goal ≡ goal = sym (get_or-map (λ (x : Finding). x.goal) (f ∷ more) has.0 f goal inside) ∙ has.2 in
    subst (λ (g : ℕ). ¬ Contains (goals_of old) g) is (fresh has.0 f inside)

history_after : (c : Parts) (sig : List ℕ) (o : Options) (source : Source) (old new : List Finding) → IsOfBatch source → Adds c sig o source old new → (inv : Option Inv)
    → IsHistory c sig o inv (posts_of old) → IsHistory c sig o inv (posts_of new)
history_after c sig o source old new of a inv h =
    let each : All (IsFinding c sig o inv) (old ++ a.more) =
    All-append (IsFinding c sig o inv) old a.more (finding_of c sig o inv old h) (λ k d l. found_is c sig o inv source (get_or a.more k d) of (a.each k d l)) in
    let once : AllPairs (λ m n. m ≢ n) (goals_of old ++ goals_of a.more) =
    pairs_append (λ m n. m ≢ n) (goals_of old) (goals_of a.more) (goals_once c sig o inv old h) (added_once a.more a.once)
    (λ x y left right same. added_other old a.more y a.fresh right (subst (Contains (goals_of old)) same left)) in
    let goals : goals_of (old ++ a.more) ≡ goals_of old ++ goals_of a.more = map-append (λ (f : Finding). f.goal) old a.more in
    subst (λ (fs : List Finding). IsHistory c sig o inv (posts_of fs)) (sym a.after)
    (posts_history c sig o inv (old ++ a.more) each (subst (λ (gs : List ℕ). AllPairs (λ m n. m ≢ n) gs) (sym goals) once))

-- a trace isn't a long proof
short_after : (c : Parts) (sig : List ℕ) (o : Options) (source : Source) (old new : List Finding) → Adds c sig o source old new → All (λ (f : Finding). HasShortBasis f.basis) old
    → All (λ (f : Finding). HasShortBasis f.basis) new
short_after c sig o source old new a short =
    subst (λ (fs : List Finding). All (λ (f : Finding). HasShortBasis f.basis) fs) (sym a.after)
    (All-append (λ (f : Finding). HasShortBasis f.basis) old a.more short (λ k d l. subst (λ (b : Basis). HasShortBasis b) (sym (a.each k d l).basis) tt))

pub extends_one : (c : Parts) (sig : List ℕ) (o : Options) (source : Source) (old new : List Finding) → IsOfBatch source → Adds c sig o source old new → Extends c sig o old new
extends_one c sig o source old new of a = record {
  history = λ inv h. history_after c sig o source old new of a inv h;
  kept = goals_kept c sig o source old new a;
  below = goals_below c sig o source old new a;
  short = short_after c sig o source old new a;
}

pub extends_none : (c : Parts) (sig : List ℕ) (o : Options) (fs : List Finding) → Extends c sig o fs fs
extends_none c sig o fs = record { history = λ inv h. h; kept = λ goal has. has; below = λ below. below; short = λ short. short }

pub extends_more : (c : Parts) (sig : List ℕ) (o : Options) (old now new : List Finding) → Extends c sig o old now → Extends c sig o now new → Extends c sig o old new
extends_more c sig o old now new first second = record {
  history = λ inv h. second.history inv (first.history inv h);
  kept = λ goal has. second.kept goal (first.kept goal has);
  below = λ below. second.below (first.below below);
  short = λ short. second.short (first.short short);
}

-- ---- a batch
pub batch_whole : (c : Parts) (sig : List ℕ) (o : Options) (batch : ℕ) (seed : Option SeedState) (old walked new : List Finding) (end : BatchEnd)
    → IsSeedOfBatch c sig o batch seed → AddsVisits c sig o batch old walked → AddsHopEnd c sig o batch seed walked new end → AddsBatch c sig o batch old new end
batch_whole c sig o batch seed old walked new end of walk hop = record {
  walked = walked;
  walk = walk.adds;
  hop = hop.adds;
  told = λ es have. record {
    seed = subst (IsSeedOfBatch c sig o batch) (sym hop.seed_is) of;
    visited = λ goal visited. have goal (goals_kept c sig o (sources.Hop batch) walked new hop.adds goal (walk.whole goal visited));
    hop = hop.end_is es have;
  };
}

batch_extends : (c : Parts) (sig : List ℕ) (o : Options) (batch : ℕ) (old new : List Finding) (end : BatchEnd) → AddsBatch c sig o batch old new end → Extends c sig o old new
batch_extends c sig o batch old new end h =
    extends_more c sig o old h.walked new (extends_one c sig o (sources.Walk batch) old h.walked tt h.walk) (extends_one c sig o (sources.Hop batch) h.walked new tt h.hop)

-- ---- all batches
-- so many batches have run
pub record HaveRun (c : Parts) (sig : List ℕ) (o : Options) (count : ℕ) (old now : List Finding) (ends : List BatchEnd) : Type 0 where
  pub extends : Extends c sig o old now
  pub count_is : length ends ≡ count
  pub told : (es : List Entry) → HaveEntries now es → (b : ℕ) (end : BatchEnd) → slice_get ends b ≡ Some end → IsBatchEnd c sig o es b end

pub none_run : (c : Parts) (sig : List ℕ) (o : Options) (fs : List Finding) → HaveRun c sig o 0 fs fs []
none_run c sig o fs = record { extends = extends_none c sig o fs; count_is = refl; told = λ es have b end place. absurd (none-some end place) }

pub one_run : (c : Parts) (sig : List ℕ) (o : Options) (count : ℕ) (old now new : List Finding) (ends : List BatchEnd) (end : BatchEnd) → HaveRun c sig o count old now ends
    → AddsBatch c sig o count now new end → HaveRun c sig o (count + 1) old new (ends ++ end ∷ [])
one_run c sig o count old now new ends end h adds =
    let last = batch_extends c sig o count now new end adds in
    record {
      extends = extends_more c sig o old now new h.extends last;
      count_is = length_push ends end ∙ ap (λ (n : ℕ). n + 1) h.count_is;
      told = λ es have b x place. (
          let size = length_push ends end in
          let inside : b < length (ends ++ end ∷ []) = slice_get_within (ends ++ end ∷ []) b x place in
          let read : get_or (ends ++ end ∷ []) b end ≡ x = get_or_from_slice_get (ends ++ end ∷ []) b x end place in
          elim (cases_lt b count) [
            | inl before ↦ (
                let low : b < length ends = omega (arith, before, h.count_is) in
                h.told es (λ goal has. have goal (last.kept goal has)) b x
                (slice_get-get_or ends b end low ∙ ap Some (sym (get_or_append_left ends (end ∷ []) end b low) ∙ read))
                )
            | inr after ↦ (
                let same : count ≡ b = omega (arith, after, inside, size, h.count_is) in
                let is : end ≡ x = sym (get_or_push ends end end b (h.count_is ∙ same)) ∙ read in
                subst (λ (y : BatchEnd). IsBatchEnd c sig o es b y) is (subst (λ (n : ℕ). IsBatchEnd c sig o es n end) same (adds.told es have))
                )
          ]
          );
    }

pub all_run : (c : Parts) (sig : List ℕ) (o : Options) (old new : List Finding) (ends : List BatchEnd) → HaveRun c sig o o.batches old new ends → AddsBatches c sig o old new ends
all_run c sig o old new ends h = record { extends = h.extends; told = λ es have. record { count = h.count_is; each = h.told es have } }
