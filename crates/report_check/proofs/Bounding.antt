-- The bounds of open goals, batch by batch and query by query.
use Rattle.std.proofs.Common.{◌≡◌, ◌≢◌, ℕ, suc, ◌+◌, ◌<◌, ◌≤◌, drop, take-append-drop, Bool, true, false, List, [], ◌∷◌, ◌++◌, map, take, length, get_or, set, refl, sym, ap, ◌∙◌, arith, Option, Some, None, inl, inr, eq-eqb, ne_eqb, nat_eq}
use Rattle.std.specs.Prelude.{◌||◌, is_some, slice_get}
use Rattle.std.specs.List.{enumerate_from, filter_map, list_any, cons_option}
use Rattle.std.proofs.lemmas.Bool.{cases_eq}
use Rattle.std.proofs.lemmas.List.Folds.{list_any-append}
use Rattle.unroll.proofs.Truth.{or-false}
use Rattle.std.proofs.lemmas.List.{length-take-le, get_or-set_same, get_or-set_other, take_more, take_all}
use Rattle.std.proofs.lemmas.List.Elements.{filter_map-append}
use Rattle.std.proofs.lemmas.Option.{slice_get_read}
use Rattle.sim_walk.specs.declared.options.Options.{Options}
use Rattle.report_text.specs.declared.report.HopBound.{HopBound}
use Rattle.report_text.specs.declared.report.SeedLine.{SeedLine}
use Rattle.report_text.specs.declared.report.Block.{Block}
use Rattle.report_text.specs.declared.report.BlockName.{BlockName}
use Rattle.report_check.specs.Bounds.{first_of, first_step, steps_of, hop_bound}
use Rattle.report_check.proofs.Walking.{steps_more}

-- ---- the hops' bounds
abbrev pub hops_from : Options → List Block → ℕ → List (Option SeedLine) → List HopBound
hops_from o spents n seeds = map (λ p. hop_bound o spents p.0 p.1) (enumerate_from n seeds)

hops-push : (o : Options) (spents : List Block) (n : ℕ) (seeds : List (Option SeedLine)) (seed : Option SeedLine)
    → hops_from o spents n (seeds ++ seed ∷ []) ≡ hops_from o spents n seeds ++ hop_bound o spents (n + length seeds) seed ∷ []
hops-push o spents n [] seed = ap (λ k. hop_bound o spents k seed ∷ []) (let e : n ≡ n + 0 = omega arith in e)
hops-push o spents n (x ∷ seeds) seed =
    let number : n + 1 + length seeds ≡ n + suc (length seeds) = omega arith in
    ap (λ hs. hop_bound o spents n x ∷ hs) (hops-push o spents (n + 1) seeds seed ∙ ap (λ k. hops_from o spents (n + 1) seeds ++ hop_bound o spents k seed ∷ []) number)

pub hops_more : (o : Options) (spents : List Block) (seeds : List (Option SeedLine)) (k : ℕ) (seed : Option SeedLine) → k < length seeds → seed ≡ get_or seeds k seed
    → hops_from o spents 0 (take (k + 1) seeds) ≡ hops_from o spents 0 (take k seeds) ++ hop_bound o spents k seed ∷ []
hops_more o spents seeds k seed inside here =
    let more : take (k + 1) seeds ≡ take k seeds ++ seed ∷ [] = take_more seeds k seed inside ∙ ap (λ x. take k seeds ++ x ∷ []) (sym here) in
    let size : 0 + length (take k seeds) ≡ k = omega (arith, length-take-le k seeds (omega arith)) in
    ap (hops_from o spents 0) more ∙ (hops-push o spents 0 (take k seeds) seed ∙ ap (λ (n : ℕ). hops_from o spents 0 (take k seeds) ++ hop_bound o spents n seed ∷ []) size)

-- ---- a test of the first items
pub any_more : {X : Type 0} (p : X → Bool) (xs : List X) (k : ℕ) (x : X) → k < length xs → x ≡ get_or xs k x → list_any p (take (k + 1) xs) ≡ (list_any p (take k xs) || p x)
any_more p xs k x inside here =
    ap (list_any p) (take_more xs k x inside ∙ ap (λ y. take k xs ++ y ∷ []) (sym here)) ∙ (list_any-append p (take k xs) (x ∷ []) ∙ ap (λ (t : Bool). list_any p (take k xs) || t) (or-false (p x)))

-- ---- the first step that a spent query names
read_at : (xs : List Block) (k : ℕ) (b : Block) → k < length xs → b ≡ get_or xs k b → slice_get xs k ≡ Some b
read_at xs k b inside here = slice_get_read xs (length xs) k b refl inside here

-- no query yet has a step of this search
pub steps_none : (step : BlockName → Option ℕ) (xs : List Block) (k : ℕ) (b : Block) → k < length xs → b ≡ get_or xs k b → steps_of step (take k xs) ≡ [] → step b.name ≡ None
    → steps_of step (take (k + 1) xs) ≡ []
steps_none step xs k b inside here before none =
    steps_more step xs k b (read_at xs k b inside here) ∙ (ap (λ (ts : List ℕ). ts ++ cons_option (step b.name) []) before ∙ ap (λ (o : Option ℕ). cons_option o []) none)

first_cons : (o : Option ℕ) (ts us : List ℕ) → is_some o ≡ true → first_of ((ts ++ cons_option o []) ++ us) ≡ first_of (ts ++ cons_option o [])
first_cons None ts us some = absurd cc
first_cons (Some t) [] us some = refl
first_cons (Some t) (x ∷ ts) us some = refl

first_own : (o : Option ℕ) → first_of (cons_option o []) ≡ o
first_own None = refl
first_own (Some t) = refl

pub first_found : (step : BlockName → Option ℕ) (xs : List Block) (k : ℕ) (b : Block) (own : Option ℕ) → k < length xs → b ≡ get_or xs k b → steps_of step (take k xs) ≡ []
    → own ≡ step b.name → is_some own ≡ true → first_step step xs ≡ own
first_found step xs k b own inside here before is some =
    let f : Block → Option ℕ = λ x. step x.name in
    let split : xs ≡ take (k + 1) xs ++ drop (k + 1) xs = sym (take-append-drop (k + 1) xs) in
    let front : steps_of step (take (k + 1) xs) ≡ cons_option own [] =
    steps_more step xs k b (read_at xs k b inside here) ∙ (ap (λ (ts : List ℕ). ts ++ cons_option (step b.name) []) before ∙ ap (λ (o : Option ℕ). cons_option o []) (sym is)) in
    ap (λ (ys : List Block). first_of (filter_map f ys)) split
    ∙ (ap first_of (filter_map-append f (take (k + 1) xs) (drop (k + 1) xs))
    ∙ (ap (λ (ts : List ℕ). first_of (ts ++ filter_map f (drop (k + 1) xs))) front
    ∙ (first_cons own [] (filter_map f (drop (k + 1) xs)) some ∙ first_own own)))

pub none_first : (step : BlockName → Option ℕ) (xs : List Block) (k : ℕ) → length xs ≤ k → steps_of step (take k xs) ≡ [] → first_step step xs ≡ None
none_first step xs k all none = ap (λ (ys : List Block). first_step step ys) (sym (take_all k xs all)) ∙ ap first_of none

-- ---- the goals whose own proofs are spent
or_true : (b : Bool) → true ≡ (b || true)
or_true true = refl
or_true false = refl

pub cut_here : (cut : List Bool) (g goal : ℕ) → g < length cut → get_or (set cut g true) goal false ≡ (get_or cut goal false || nat_eq g goal)
cut_here cut g goal inside =
    elim (cases_eq g goal) [
      | inl same ↦ (
          ap (λ (k : ℕ). get_or (set cut g true) k false) (sym same)
          ∙ (get_or-set_same cut g true false inside ∙ (or_true (get_or cut goal false) ∙ ap (λ (t : Bool). get_or cut goal false || t) (sym (eq-eqb g goal same))))
          )
      | inr other ↦ (
          get_or-set_other cut g goal true false (λ s. other (sym s))
          ∙ (sym (or-false (get_or cut goal false)) ∙ ap (λ (t : Bool). get_or cut goal false || t) (sym (ne_eqb g goal other)))
          )
    ]

pub cut_past : (cut : List Bool) (g goal : ℕ) → length cut ≤ g → goal < length cut → get_or cut goal false ≡ (get_or cut goal false || nat_eq g goal)
cut_past cut g goal past inside =
    let other : g ≢ goal = omega arith in
    sym (or-false (get_or cut goal false)) ∙ ap (λ (t : Bool). get_or cut goal false || t) (sym (ne_eqb g goal other))

pub no_cut : (cut : List Bool) (goal : ℕ) → get_or cut goal false ≡ (get_or cut goal false || false)
no_cut cut goal = sym (or-false (get_or cut goal false))
