-- What the spent queries of all jobs leave as bounds.
use Rattle.std.proofs.Common.{◌≡◌, ◌≢◌, ℕ, zero, suc, ◌+◌, ◌<◌, Bool, cond, List, [], ◌∷◌, ◌++◌, length, get_or, refl, sym, ap, subst, ◌∙◌, arith, All, Any, Option, Some, None}
use Rattle.std.specs.Prelude.{slice_get, is_some, IsSome}
use Rattle.std.specs.List.{cons_option, flat_map}
use Rattle.std.proofs.lemmas.Bool.{false≢true}
use Rattle.std.proofs.lemmas.List.{append-nil}
use Rattle.std.proofs.lemmas.List.Elements.{filter_map-append}
use Rattle.std.proofs.lemmas.Option.{none-some}
use Rattle.report_text.specs.declared.report.BlockName.{BlockName}
use Rattle.report_text.specs.declared.report.BlockName.TheVariants as names
use Rattle.report_text.specs.declared.report.Block.{Block}
use Rattle.run_report.specs.declared.ends.BatchEnd.{BatchEnd}
use Rattle.run_report.specs.declared.searches.Search.{Search}
use Rattle.run_report.specs.declared.searches.Search.TheVariants as searches
use Rattle.run_report.specs.Bounds.{sweep_step, hop_step, proof_step, first_of, steps_of, first_step, unless_spent}
use Rattle.run_report.specs.Queries.{section_of}
use Rattle.run_report.specs.Searches.{name_of, step_in}
use Rattle.run_report.proofs.History.{other_test, same_test}

-- ---- blocks that name no step of a kind
pub steps_none : (h : BlockName → Option ℕ) (bs : List Block) → All (λ (b : Block). h b.name ≡ None) bs → steps_of h bs ≡ []
steps_none h [] none = refl
steps_none h (b ∷ bs) none =
    ap (λ (o : Option ℕ). cons_option o (steps_of h bs)) (none 0 b (omega arith)) ∙ steps_none h bs (λ k d l. none (suc k) d (omega (arith, l)))

pub steps-append : (h : BlockName → Option ℕ) (xs ys : List Block) → steps_of h (xs ++ ys) ≡ steps_of h xs ++ steps_of h ys
steps-append h xs ys = filter_map-append (λ (b : Block). h b.name) xs ys

-- the query of a step of a search names that step
pub named_step : (search : Search) (k : ℕ) → step_in search (name_of search k) ≡ Some k
named_step searches.Sweep k = refl
named_step (searches.Hop b) k = rw (same_test b b refl) refl

-- ---- the queries of hops, numbered from n on
abbrev pub IsOfHop : ℕ → Block → Type 0
IsOfHop n b = (step : ℕ) × (b.name ≡ names.Hop n step)

-- the same queries of each end, as its spent or its refuted ones
abbrev pub AreOfHops : (BatchEnd → List Block) → ℕ → List BatchEnd → Type 0
AreOfHops of n [] = Unit {0}
AreOfHops of n (end ∷ ends) = All (IsOfHop n) (of end) × AreOfHops of (n + 1) ends

-- another batch's queries have no step of this one
other_hop : (b n : ℕ) (bs : List Block) → n ≢ b → All (IsOfHop n) bs → steps_of (hop_step b) bs ≡ []
other_hop b n bs other named =
    steps_none (hop_step b) bs (λ k d l. ap (hop_step b) (named k d l).1 ∙ ap (λ (t : Bool). cond t (Some (named k d l).0) None) (other_test n b other))

later_hops : (of : BatchEnd → List Block) (b n : ℕ) (ends : List BatchEnd) → b < n → AreOfHops of n ends → steps_of (hop_step b) (flat_map of ends) ≡ []
later_hops of b n [] less named = refl
later_hops of b n (end ∷ ends) less named =
    steps-append (hop_step b) (of end) (flat_map of ends)
    ∙ (ap (λ (xs : List ℕ). xs ++ steps_of (hop_step b) (flat_map of ends)) (other_hop b n (of end) (λ same. omega (arith, same, less)) named.0)
    ∙ later_hops of b (n + 1) ends (omega (arith, less)) named.1)

-- those of a batch
pub own_hop : (of : BatchEnd → List Block) (n k : ℕ) (ends : List BatchEnd) (end : BatchEnd) → AreOfHops of n ends → slice_get ends k ≡ Some end
    → steps_of (hop_step (n + k)) (flat_map of ends) ≡ steps_of (hop_step (n + k)) (of end)
own_hop of n k [] end named e = absurd cc
own_hop of n zero (x ∷ ends) end named e =
    let same : x ≡ end = cc in
    steps-append (hop_step (n + 0)) (of x) (flat_map of ends)
    ∙ (ap (λ (xs : List ℕ). steps_of (hop_step (n + 0)) (of x) ++ xs) (later_hops of (n + 0) (n + 1) ends (omega arith) named.1)
    ∙ (append-nil (steps_of (hop_step (n + 0)) (of x)) ∙ ap (λ (y : BatchEnd). steps_of (hop_step (n + 0)) (of y)) same))
own_hop of n (suc k) (x ∷ ends) end named e =
    let number : n + 1 + k ≡ n + suc k = omega arith in
    steps-append (hop_step (n + suc k)) (of x) (flat_map of ends)
    ∙ (ap (λ (xs : List ℕ). xs ++ steps_of (hop_step (n + suc k)) (flat_map of ends)) (other_hop (n + suc k) n (of x) (λ same. omega (arith, same)) named.0)
    ∙ subst (λ (b : ℕ). steps_of (hop_step b) (flat_map of ends) ≡ steps_of (hop_step b) (of end)) number (own_hop of (n + 1) k ends end named.1 e))

-- a batch that isn't there has none
pub no_hop : (of : BatchEnd → List Block) (n k : ℕ) (ends : List BatchEnd) → AreOfHops of n ends → slice_get ends k ≡ None → steps_of (hop_step (n + k)) (flat_map of ends) ≡ []
no_hop of n k [] named e = refl
no_hop of n zero (x ∷ ends) named e = absurd (none-some x (sym e))
no_hop of n (suc k) (x ∷ ends) named e =
    let number : n + 1 + k ≡ n + suc k = omega arith in
    steps-append (hop_step (n + suc k)) (of x) (flat_map of ends)
    ∙ (ap (λ (xs : List ℕ). xs ++ steps_of (hop_step (n + suc k)) (flat_map of ends)) (other_hop (n + suc k) n (of x) (λ same. omega (arith, same)) named.0)
    ∙ subst (λ (b : ℕ). steps_of (hop_step b) (flat_map of ends) ≡ []) number (no_hop of (n + 1) k ends named.1 e))

-- ---- a goal's own query
-- a query that isn't the first stands among the others
any_at : (goal k : ℕ) (x b : Block) (bs : List Block) → k < length (b ∷ bs) → get_or (b ∷ bs) k x ≡ x → IsSome (proof_step goal x.name) → proof_step goal b.name ≡ None
    → Any (λ (y : Block). IsSome (proof_step goal y.name)) bs
any_at goal zero x b bs inside same some none =
    let is : b ≡ x = same in
    absurd (false≢true (sym (ap is_some (ap (λ (y : Block). proof_step goal y.name) (sym is) ∙ none)) ∙ some))
any_at goal (suc k) x b bs inside same some none = (k, x, omega (arith, inside), same, some)

any_later : (goal : ℕ) (b : Block) (bs : List Block) → Any (λ (y : Block). IsSome (proof_step goal y.name)) (b ∷ bs) → proof_step goal b.name ≡ None
    → Any (λ (y : Block). IsSome (proof_step goal y.name)) bs
any_later goal b bs any none = any_at goal any.0 any.1 b bs any.2 any.3 any.4 none

-- ---- the strength of a goal
pub unless_is : (asked spent : Option ℕ) → unless_spent asked spent ≡ cond (is_some spent) None asked
unless_is asked None = refl
unless_is asked (Some t) = refl

cut_by : (goal : ℕ) (b : Block) (bs : List Block) (own : Option ℕ) → Any (λ (x : Block). IsSome (proof_step goal x.name)) (b ∷ bs) → proof_step goal b.name ≡ own
    → (Any (λ (x : Block). IsSome (proof_step goal x.name)) bs → IsSome (first_step (proof_step goal) bs)) → IsSome (first_step (proof_step goal) (b ∷ bs))
cut_by goal b bs None any own more = subst (λ (o : Option ℕ). IsSome (first_of (cons_option o (steps_of (proof_step goal) bs)))) (sym own) (more (any_later goal b bs any own))
cut_by goal b bs (Some t) any own more = subst (λ (o : Option ℕ). IsSome (first_of (cons_option o (steps_of (proof_step goal) bs)))) (sym own) refl

-- a query of a goal's own is found
pub cut_found : (goal : ℕ) (bs : List Block) → Any (λ (b : Block). IsSome (proof_step goal b.name)) bs → IsSome (first_step (proof_step goal) bs)
cut_found goal [] any = absurd (omega (arith, any.2))
cut_found goal (b ∷ bs) any = cut_by goal b bs (proof_step goal b.name) any refl (cut_found goal bs)

-- ---- which queries have a step of which kind
pub sweep_alone : (n : BlockName) → 0 < section_of n → sweep_step n ≡ None
sweep_alone (names.Sweep step) h = absurd (omega (arith, h))
sweep_alone (names.Hop batch step) h = refl
sweep_alone (names.Kept place clauses) h = refl
sweep_alone (names.Excludes goal clauses) h = refl

pub hop_alone : (b : ℕ) (n : BlockName) → section_of n ≢ 1 → hop_step b n ≡ None
hop_alone b (names.Sweep step) h = refl
hop_alone b (names.Hop batch step) h = absurd (h refl)
hop_alone b (names.Kept place clauses) h = refl
hop_alone b (names.Excludes goal clauses) h = refl

pub proof_alone : (g : ℕ) (n : BlockName) → section_of n < 2 → proof_step g n ≡ None
proof_alone g (names.Sweep step) h = refl
proof_alone g (names.Hop batch step) h = refl
proof_alone g (names.Kept place clauses) h = absurd (omega (arith, h))
proof_alone g (names.Excludes goal clauses) h = absurd (omega (arith, h))

-- the steps of three lists one after another, where two of them have none
pub only_first : (h : BlockName → Option ℕ) (xs ys zs : List Block) → All (λ (b : Block). h b.name ≡ None) ys → All (λ (b : Block). h b.name ≡ None) zs
    → steps_of h (xs ++ ys ++ zs) ≡ steps_of h xs
only_first h xs ys zs no_y no_z =
    steps-append h (xs ++ ys) zs
    ∙ (ap (λ (ss : List ℕ). steps_of h (xs ++ ys) ++ ss) (steps_none h zs no_z)
    ∙ (append-nil (steps_of h (xs ++ ys))
    ∙ (steps-append h xs ys ∙ (ap (λ (ss : List ℕ). steps_of h xs ++ ss) (steps_none h ys no_y) ∙ append-nil (steps_of h xs)))))

pub only_second : (h : BlockName → Option ℕ) (xs ys zs : List Block) → All (λ (b : Block). h b.name ≡ None) xs → All (λ (b : Block). h b.name ≡ None) zs
    → steps_of h (xs ++ ys ++ zs) ≡ steps_of h ys
only_second h xs ys zs no_x no_z =
    steps-append h (xs ++ ys) zs
    ∙ (ap (λ (ss : List ℕ). steps_of h (xs ++ ys) ++ ss) (steps_none h zs no_z)
    ∙ (append-nil (steps_of h (xs ++ ys)) ∙ (steps-append h xs ys ∙ ap (λ (ss : List ℕ). ss ++ steps_of h ys) (steps_none h xs no_x))))

pub only_third : (h : BlockName → Option ℕ) (xs ys zs : List Block) → All (λ (b : Block). h b.name ≡ None) xs → All (λ (b : Block). h b.name ≡ None) ys
    → steps_of h (xs ++ ys ++ zs) ≡ steps_of h zs
only_third h xs ys zs no_x no_y =
    steps-append h (xs ++ ys) zs
    ∙ ap (λ (ss : List ℕ). ss ++ steps_of h zs)
    (steps-append h xs ys ∙ (ap (λ (ss : List ℕ). ss ++ steps_of h ys) (steps_none h xs no_x) ∙ steps_none h ys no_y))
