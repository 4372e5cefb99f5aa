-- The refuted queries, one after another: which search each is of, and its step.
use Rattle.std.proofs.Common.{◌≡◌, ◌≢◌, ◌⊎◌, ℕ, zero, suc, ◌+◌, ◌<◌, ◌≤◌, Bool, List, [], ◌∷◌, ◌++◌, take, length, get_or, set, refl, sym, ap, ◌∙◌, subst, arith, inl, inr, eq-eqb, ne_eqb, length-append, Option, Some, None, slice_get, Contains}
use Rattle.std.specs.Prelude.{◌↔◌, if◌then◌else◌}
use Rattle.std.specs.List.{filter_map, cons_option, range_with_len, enumerate_from}
use Rattle.std.proofs.lemmas.Bool.{cases_eq, cases_lt}
use Rattle.std.proofs.lemmas.List.{append-nil, take_more, take_all, get_or-set_same, get_or-set_other, length-set, length-map}
use Rattle.std.proofs.lemmas.List.FromFn.{get_or-range_with_len, length-enumerate_from}
use Rattle.std.proofs.lemmas.List.Elements.{filter_map-append}
use Rattle.std.proofs.lemmas.Option.{same_Some, slice_get_within, get_or_from_slice_get}
use Rattle.unroll.proofs.UndefinedVars.{range_push}
use Rattle.report_text.specs.declared.report.HopBound.{HopBound}
use Rattle.report_text.specs.declared.report.HopBound.TheVariants as hop_bounds
use Rattle.report_text.specs.declared.report.BlockName.{BlockName}
use Rattle.report_text.specs.declared.report.BlockName.TheVariants as names
use Rattle.report_text.specs.declared.report.Block.{Block}
use Rattle.report_text.specs.declared.report.Report.{Report}
use Rattle.report_check.specs.declared.bounds.Bounds.{Bounds}
use Rattle.report_check.specs.declared.walked.Walked.{Walked}
use Rattle.report_check.specs.Bounds.{sweep_step, hop_step, steps_of, hop_bound, hops_of}
use Rattle.report_check.specs.Known.{AreBounds, search_step, search_of, step_of}
use Rattle.report_check.specs.Queries.{IsSearch, ComesBefore}
use Rattle.report_check.specs.Refutes.{IsNextStep, AreAllTold}
use Rattle.report_check.specs.Walks.{AreWalked, IsLast, IsNext, IsAdvanced, HasAll}
use Rattle.report_check.proofs.Items.{more_below}

pub block_at : (xs : List Block) (k : ℕ) → k < length xs → (b : Block) × (slice_get xs k ≡ Some b)
block_at [] k inside = absurd (omega arith)
block_at (x ∷ xs) zero inside = (x, refl)
block_at (x ∷ xs) (suc k) inside = block_at xs k (omega arith)

-- ---- the steps of one search
pub steps_more : (step : BlockName → Option ℕ) (xs : List Block) (k : ℕ) (b : Block) → slice_get xs k ≡ Some b
    → steps_of step (take (k + 1) xs) ≡ steps_of step (take k xs) ++ cons_option (step b.name) []
steps_more step xs k b at =
    let f : Block → Option ℕ = λ x. step x.name in
    let more : take (k + 1) xs ≡ take k xs ++ b ∷ [] =
    take_more xs k b (slice_get_within xs k b at) ∙ ap (λ (x : Block). take k xs ++ x ∷ []) (get_or_from_slice_get xs k b b at) in
    ap (filter_map f) more ∙ filter_map-append f (take k xs) (b ∷ [])

hop_same : (b t : ℕ) → hop_step b (names.Hop b t) ≡ Some t
hop_same b t = ap (λ (test : Bool). if test then Some t else None) (eq-eqb b b refl)

hop_other : (batch b t : ℕ) → b ≢ batch → hop_step batch (names.Hop b t) ≡ None
hop_other batch b t other = ap (λ (test : Bool). if test then Some t else None) (ne_eqb b batch other)

-- a search's query has its step, and those of the others don't
pub own_step : (r : Report) (name : BlockName) → IsSearch r name → search_step (search_of name) name ≡ Some (step_of name)
own_step r (names.Sweep t) h = refl
own_step r (names.Hop b t) h = hop_same b t
own_step r (names.Kept i clauses) h = absurd h
own_step r (names.Excludes g clauses) h = absurd h

pub other_step : (r : Report) (name : BlockName) (search : ℕ) → IsSearch r name → search ≢ search_of name → search_step search name ≡ None
other_step r (names.Sweep t) zero h other = absurd (other refl)
other_step r (names.Sweep t) (suc batch) h other = refl
other_step r (names.Hop b t) zero h other = refl
other_step r (names.Hop b t) (suc batch) h other = hop_other batch b t (λ same. other (ap suc (sym same)))
other_step r (names.Kept i clauses) search h other = absurd h
other_step r (names.Excludes g clauses) search h other = absurd h

-- ---- the next step
pub next_is : (r : Report) (before : List Block) (name : BlockName) → IsSearch r name → (step_of name ≡ length (steps_of (search_step (search_of name)) before)) ↔ IsNextStep before name
next_is r before (names.Sweep t) h = (λ e. e, λ e. e)
next_is r before (names.Hop b t) h = (λ e. e, λ e. e)
next_is r before (names.Kept i clauses) h = absurd h
next_is r before (names.Excludes g clauses) h = absurd h

-- the step that a query has of a search is that search's next one
step_is_next : (r : Report) (before : List Block) (name : BlockName) (search t : ℕ) → IsSearch r name → IsNextStep before name → search_step search name ≡ Some t
    → t ≡ length (steps_of (search_step search) before)
step_is_next r before name search t h next e =
    elim (cases_eq search (search_of name)) [
      | inl same ↦ (
          let own : search_step search name ≡ Some (step_of name) = subst (λ (s : ℕ). search_step s name ≡ Some (step_of name)) (sym same) (own_step r name h) in
          let is : t ≡ step_of name = same_Some t (step_of name) (sym e ∙ own) in
          let here : step_of name ≡ length (steps_of (search_step (search_of name)) before) = (next_is r before name h).1 next in
          is ∙ (here ∙ ap (λ (s : ℕ). length (steps_of (search_step s) before)) (sym same))
          )
      | inr other ↦ (let none : search_step search name ≡ None = other_step r name search h other in absurd cc)
    ]

-- ---- steps run from 0
run_on : (step : Option ℕ) (steps : List ℕ) → steps ≡ range_with_len 0 (length steps) → ((t : ℕ) → step ≡ Some t → t ≡ length steps)
    → steps ++ cons_option step [] ≡ range_with_len 0 (length (steps ++ cons_option step []))
run_on None steps run next =
    let same : steps ++ [] ≡ steps = append-nil steps in
    same ∙ (run ∙ ap (λ (ts : List ℕ). range_with_len 0 (length ts)) (sym same))
run_on (Some t) steps run next =
    let n = length steps in
    let last : t ≡ 0 + n = omega (arith, next t refl) in
    let size : length (steps ++ t ∷ []) ≡ n + 1 = length-append steps (t ∷ []) in
    ap (λ (ts : List ℕ). ts ++ t ∷ []) run
    ∙ (ap (λ (k : ℕ). range_with_len 0 n ++ k ∷ []) last
    ∙ (sym (range_push 0 n) ∙ ap (λ (k : ℕ). range_with_len 0 k) (sym size)))

run_from_zero : (r : Report) (place : ℕ) → place ≤ length r.refutes
    → ((k : ℕ) (a : Block) → k < place → slice_get r.refutes k ≡ Some a → IsSearch r a.name)
    → ((k : ℕ) (a : Block) → k < place → slice_get r.refutes k ≡ Some a → IsNextStep (take k r.refutes) a.name)
    → (search : ℕ) → steps_of (search_step search) (take place r.refutes) ≡ range_with_len 0 (length (steps_of (search_step search) (take place r.refutes)))
run_from_zero r zero within searches next search = refl
run_from_zero r (suc place) within searches next search =
    let xs = r.refutes in
    let inside : place < length xs = omega arith in
    let some = block_at xs place inside in
    let b : Block = some.0 in
    let at : slice_get xs place ≡ Some b = some.1 in
    let more : steps_of (search_step search) (take (place + 1) xs) ≡ steps_of (search_step search) (take place xs) ++ cons_option (search_step search b.name) [] = steps_more (search_step search) xs place b at in
    let earlier = run_from_zero r place (omega arith) (λ k a less at_k. searches k a (omega arith) at_k) (λ k a less at_k. next k a (omega arith) at_k) search in
    let on = run_on (search_step search b.name) (steps_of (search_step search) (take place xs)) earlier
    (λ t e. step_is_next r (take place xs) b.name search t (searches place b (omega arith) at) (next place b (omega arith) at) e) in
    let here : steps_of (search_step search) (take (place + 1) xs) ≡ range_with_len 0 (length (steps_of (search_step search) (take (place + 1) xs))) =
    subst (λ (ts : List ℕ). ts ≡ range_with_len 0 (length ts)) (sym more) on in
    let same : place + 1 ≡ suc place = omega arith in
    subst (λ (n : ℕ). steps_of (search_step search) (take n xs) ≡ range_with_len 0 (length (steps_of (search_step search) (take n xs)))) same here

pub told_below : (steps : List ℕ) (t : ℕ) → steps ≡ range_with_len 0 (length steps) → t < length steps → Contains steps t
told_below steps t run inside = (t, inside, ap (λ (ts : List ℕ). get_or ts t t) run ∙ (get_or-range_with_len 0 (length steps) t t inside ∙ (let same : 0 + t ≡ t = omega arith in same)))

pub below_told : (steps : List ℕ) (t : ℕ) → steps ≡ range_with_len 0 (length steps) → Contains steps t → t < length steps
below_told steps t run (k, inside, same) =
    let is : get_or steps k t ≡ 0 + k = ap (λ (ts : List ℕ). get_or ts k t) run ∙ get_or-range_with_len 0 (length steps) k t inside in
    omega (arith, sym same ∙ is)

-- ---- order
-- a search stands before another in the order of the report exactly where its number is less
before_less : (r : Report) (a b : BlockName) → IsSearch r a → IsSearch r b → ComesBefore a b ↔ (search_of a < search_of b)
before_less r (names.Sweep t) (names.Sweep u) h k = (λ first. elim first [ inl less ↦ absurd (omega arith) | inr same ↦ absurd (omega (arith, same.0, same.1)) ], λ less. absurd (omega arith))
before_less r (names.Sweep t) (names.Hop b u) h k = (λ first. omega arith, λ less. inl (omega arith))
before_less r (names.Hop b t) (names.Sweep u) h k = (λ first. elim first [ inl less ↦ absurd (omega arith) | inr same ↦ absurd (omega (arith, same.0, same.1)) ], λ less. absurd (omega arith))
before_less r (names.Hop b t) (names.Hop d u) h k = (λ first. elim first [ inl less ↦ absurd (omega arith) | inr same ↦ omega (arith, same.1) ], λ less. inr (refl, omega arith))
before_less r (names.Kept i clauses) b h k = absurd h
before_less r (names.Excludes g clauses) b h k = absurd h
before_less r (names.Sweep t) (names.Kept i clauses) h k = absurd k
before_less r (names.Sweep t) (names.Excludes g clauses) h k = absurd k
before_less r (names.Hop b t) (names.Kept i clauses) h k = absurd k
before_less r (names.Hop b t) (names.Excludes g clauses) h k = absurd k

later_than : (r : Report) (place : ℕ) (name : BlockName) (last : ℕ)
    → ((k : ℕ) (a : Block) → k < place → slice_get r.refutes k ≡ Some a → ¬ (search_of name < search_of a.name)) → IsLast r place last → last ≤ search_of name
later_than r place name last none (inl first) = omega arith
later_than r place name last none (inr (k, a, less, at, is)) =
    elim (cases_lt (search_of name) (search_of a.name)) [
      | inl smaller ↦ absurd (none k a less at smaller)
      | inr more ↦ omega (arith, more, is)
    ]

-- a query is next exactly where it belongs behind all before, and has the next step
pub is_next : (r : Report) (place : ℕ) (name : BlockName) (w : Walked) → AreWalked r place w → IsSearch r name → search_of name < length w.steps.items
    → IsNext w name ↔ (((k : ℕ) (a : Block) → k < place → slice_get r.refutes k ≡ Some a → ¬ ComesBefore name a.name) × IsNextStep (take place r.refutes) name)
is_next r place name w walked search inside =
    let count : get_or w.steps.items (search_of name) 0 ≡ length (steps_of (search_step (search_of name)) (take place r.refutes)) = walked.steps (search_of name) (omega (arith, walked.size, inside)) in (
      λ next. (
        λ k a less at first. (
            let smaller : search_of name < search_of a.name = (before_less r name a.name search (walked.searches k a less at)).0 first in
            absurd (omega (arith, smaller, walked.ordered k a less at, next.later))
            ),
        (next_is r (take place r.refutes) name search).0 (sym next.next ∙ count),
      ),
      λ h. record {
        later = later_than r place name w.last (λ k a less at smaller. h.0 k a less at ((before_less r name a.name search (walked.searches k a less at)).1 smaller)) walked.is_last;
        next = count ∙ sym ((next_is r (take place r.refutes) name search).1 h.1);
      },
    )

-- ---- one query more
counted : (steps before : List ℕ) (search own t : ℕ) (step : Option ℕ) → own < length steps → get_or steps search 0 ≡ length before
    → ((search ≡ own) × (step ≡ Some t) × (t ≡ length before)) ⊎ ((search ≢ own) × (step ≡ None))
    → get_or (set steps own (t + 1)) search 0 ≡ length (before ++ cons_option step [])
counted steps before search own t step inside count (inl h) =
    let here : get_or (set steps own (t + 1)) search 0 ≡ t + 1 = ap (λ (s : ℕ). get_or (set steps own (t + 1)) s 0) h.0 ∙ get_or-set_same steps own (t + 1) 0 inside in
    let more : length (before ++ cons_option step []) ≡ length before + 1 = ap (λ (o : Option ℕ). length (before ++ cons_option o [])) h.1 ∙ length-append before (t ∷ []) in
    omega (arith, here, more, h.2)
counted steps before search own t step inside count (inr h) =
    let here : get_or (set steps own (t + 1)) search 0 ≡ get_or steps search 0 = get_or-set_other steps own search (t + 1) 0 (λ same. h.0 same) in
    let more : length (before ++ cons_option step []) ≡ length before = ap (λ (o : Option ℕ). length (before ++ cons_option o [])) h.1 ∙ ap length (append-nil before) in
    here ∙ (count ∙ sym more)

which : (r : Report) (name : BlockName) (search : ℕ) (before : List ℕ) → IsSearch r name → ((search ≡ search_of name) → step_of name ≡ length before)
    → ((search ≡ search_of name) × (search_step search name ≡ Some (step_of name)) × (step_of name ≡ length before)) ⊎ ((search ≢ search_of name) × (search_step search name ≡ None))
which r name search before h next =
    elim (cases_eq search (search_of name)) [
      | inl same ↦ inl (same, subst (λ (s : ℕ). search_step s name ≡ Some (step_of name)) (sym same) (own_step r name h), next same)
      | inr other ↦ inr (other, other_step r name search h other)
    ]

pub walked_more : (r : Report) (place : ℕ) (b : Block) (w after : Walked) → AreWalked r place w → slice_get r.refutes place ≡ Some b → IsSearch r b.name
    → search_of b.name < length w.steps.items → IsNext w b.name → IsNextStep (take place r.refutes) b.name → IsAdvanced w b.name after → AreWalked r (place + 1) after
walked_more r place b w after walked at search inside next next_step advanced =
    let own = search_of b.name in
    let size : length after.steps.items ≡ length w.steps.items = ap length advanced.steps ∙ length-set w.steps.items own (step_of b.name + 1) in
    let own_count : get_or w.steps.items own 0 ≡ length (steps_of (search_step own) (take place r.refutes)) = walked.steps own (omega (arith, walked.size, inside)) in
    record {
      size = size ∙ walked.size;
      is_last = inr (place, b, omega arith, at, sym advanced.last);
      searches = more_below (λ (k : ℕ) (a : Block). IsSearch r a.name) r.refutes place b at walked.searches search;
      ordered = more_below (λ (k : ℕ) (a : Block). search_of a.name ≤ after.last) r.refutes place b at
          (λ k a less here. omega (arith, walked.ordered k a less here, next.later, advanced.last)) (omega (arith, advanced.last));
      steps = λ s below. (
          let before : List ℕ = steps_of (search_step s) (take place r.refutes) in
          let more : steps_of (search_step s) (take (place + 1) r.refutes) ≡ before ++ cons_option (search_step s b.name) [] = steps_more (search_step s) r.refutes place b at in
          ap (λ (xs : List ℕ). get_or xs s 0) advanced.steps
          ∙ (counted w.steps.items before s own (step_of b.name) (search_step s b.name) inside (walked.steps s below) (which r b.name s before search (λ same. sym next.next ∙ (own_count ∙ ap (λ (n : ℕ). length (steps_of (search_step n) (take place r.refutes))) (sym same))))
          ∙ ap length (sym more))
          );
      next = more_below (λ (k : ℕ) (a : Block). IsNextStep (take k r.refutes) a.name) r.refutes place b at walked.next next_step;
    }

-- ---- all steps
pub hops_size : (r : Report) → length (hops_of r) ≡ length r.seeds
hops_size r = length-map (enumerate_from 0 r.seeds) (λ p. hop_bound r.options r.spents p.0 p.1) ∙ length-enumerate_from 0 r.seeds

pub has_all : (r : Report) (goals : ℕ) (b : Bounds) (w : Walked) → AreBounds r goals b → AreWalked r (length r.refutes) w → HasAll b w ↔ AreAllTold r
has_all r goals b w bounds walked =
    let xs : List Block = r.refutes in
    let whole : take (length xs) xs ≡ xs = take_all (length xs) xs (omega arith) in
    let run : (s : ℕ) → steps_of (search_step s) xs ≡ range_with_len 0 (length (steps_of (search_step s) xs)) =
    λ s. subst (λ (ys : List Block). steps_of (search_step s) ys ≡ range_with_len 0 (length (steps_of (search_step s) ys))) whole (run_from_zero r (length xs) (omega arith) walked.searches walked.next s) in
    let count : (s : ℕ) → s < length r.seeds + 1 → get_or w.steps.items s 0 ≡ length (steps_of (search_step s) xs) =
    λ s below. subst (λ (ys : List Block). get_or w.steps.items s 0 ≡ length (steps_of (search_step s) ys)) whole (walked.steps s below) in
    let sweep_run : steps_of sweep_step xs ≡ range_with_len 0 (length (steps_of sweep_step xs)) = run 0 in
    let sweep_count : get_or w.steps.items 0 0 ≡ length (steps_of sweep_step xs) = count 0 (omega arith) in
    let hop_run : (batch : ℕ) → steps_of (hop_step batch) xs ≡ range_with_len 0 (length (steps_of (hop_step batch) xs)) = λ batch. run (suc batch) in
    let hop_count : (batch : ℕ) → batch < length r.seeds → get_or w.steps.items (batch + 1) 0 ≡ length (steps_of (hop_step batch) xs) =
    λ batch below. (
    let same : batch + 1 ≡ suc batch = omega arith in
    let here : get_or w.steps.items (suc batch) 0 ≡ length (steps_of (hop_step batch) xs) = count (suc batch) (omega arith) in
    ap (λ (n : ℕ). get_or w.steps.items n 0) same ∙ here
    ) in
    let batch_below : (batch : ℕ) (h : HopBound) → slice_get (hops_of r) batch ≡ Some h → batch < length r.seeds =
    λ batch h at. omega (arith, slice_get_within (hops_of r) batch h at, hops_size r) in (
      λ all. record {
        sweep = λ depth step is near. (
            let far : depth < get_or w.steps.items 0 0 = all.sweep depth (bounds.depth ∙ is) in
            told_below (steps_of sweep_step xs) step sweep_run (omega (arith, far, sweep_count, near))
            );
        hops = λ batch hop step is near. (
            let own : slice_get b.hops batch ≡ Some (hop_bounds.To hop) = subst (λ (hs : List HopBound). slice_get hs batch ≡ Some (hop_bounds.To hop)) (sym bounds.hops) is in
            let far : hop < get_or w.steps.items (batch + 1) 0 = all.hops batch hop own in
            told_below (steps_of (hop_step batch) xs) step (hop_run batch) (omega (arith, far, hop_count batch (batch_below batch (hop_bounds.To hop) is), near))
            );
      },
      λ told. record {
        sweep = λ depth is. (
            let inside : depth < length (steps_of sweep_step xs) = below_told (steps_of sweep_step xs) depth sweep_run (told.sweep depth depth (sym bounds.depth ∙ is) (omega arith)) in
            omega (arith, sweep_count, inside)
            );
        hops = λ batch hop is. (
            let here : slice_get (hops_of r) batch ≡ Some (hop_bounds.To hop) = subst (λ (hs : List HopBound). slice_get hs batch ≡ Some (hop_bounds.To hop)) bounds.hops is in
            let inside : hop < length (steps_of (hop_step batch) xs) = below_told (steps_of (hop_step batch) xs) hop (hop_run batch) (told.hops batch hop hop here (omega arith)) in
            omega (arith, hop_count batch (batch_below batch (hop_bounds.To hop) here), inside)
            );
      },
    )
