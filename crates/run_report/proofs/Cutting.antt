-- Bounds of open goals, block by block and batch by batch.
use Rattle.std.proofs.Common.{◌≡◌, ℕ, suc, ◌+◌, ◌<◌, Bool, true, false, cond, List, [], ◌∷◌, ◌++◌, map, take, length, get_or, set, refl, sym, ap, subst, ◌∙◌, arith, Option, Some, None, inl, inr}
use Rattle.std.specs.Prelude.{if◌then◌else◌, is_some}
use Rattle.std.specs.List.{enumerate_from, filter_map, cons_option}
use Rattle.std.proofs.lemmas.Bool.{cases_eq}
use Rattle.std.proofs.lemmas.List.{length-set, length-take-le, get_or-set_same, get_or-set_other, take_more}
use Rattle.std.proofs.lemmas.List.Elements.{filter_map-append}
use Rattle.sim_walk.specs.declared.options.Options.{Options}
use Rattle.report_text.specs.declared.report.HopBound.{HopBound}
use Rattle.report_text.specs.declared.report.BlockName.{BlockName}
use Rattle.report_text.specs.declared.report.BlockName.TheVariants as names
use Rattle.report_text.specs.declared.report.Block.{Block}
use Rattle.run_report.specs.declared.ends.BatchEnd.{BatchEnd}
use Rattle.run_report.specs.Bounds.{proof_step, first_of, first_step}
use Rattle.run_report.specs.Ended.{AreCut, NamesGoal, cut_after, end_bound, hops_of}
use Rattle.run_report.proofs.History.{same_test, other_test}

-- ---- goals whose queries are spent
some_first : (xs ys : List ℕ) → is_some (first_of (xs ++ ys)) ≡ cond (is_some (first_of xs)) true (is_some (first_of ys))
some_first [] ys = refl
some_first (x ∷ xs) ys = refl

some_one : (o : Option ℕ) → is_some (first_of (cons_option o [])) ≡ is_some o
some_one None = refl
some_one (Some t) = refl

-- one more block
one_more : (goal : ℕ) (bs : List Block) (b : Block)
    → is_some (first_step (proof_step goal) (bs ++ b ∷ [])) ≡ cond (is_some (first_step (proof_step goal) bs)) true (is_some (proof_step goal b.name))
one_more goal bs b =
    let step : Block → Option ℕ = λ x. proof_step goal x.name in
    ap (λ (ts : List ℕ). is_some (first_of ts)) (filter_map-append step bs (b ∷ []))
    ∙ (some_first (filter_map step bs) (filter_map step (b ∷ [])) ∙ ap (λ (t : Bool). cond (is_some (first_step (proof_step goal) bs)) true t) (some_one (step b)))

or_true : (b : Bool) → cond b true true ≡ true
or_true true = refl
or_true false = refl

or_false : (b : Bool) → cond b true false ≡ b
or_false true = refl
or_false false = refl

cut_size : (n : BlockName) (cut : List Bool) → length (cut_after cut n) ≡ length cut
cut_size (names.Sweep step) cut = refl
cut_size (names.Hop batch step) cut = refl
cut_size (names.Kept place clauses) cut = refl
cut_size (names.Excludes g clauses) cut = length-set cut g true

cut_one : (n : BlockName) (cut : List Bool) (goal : ℕ) (was : Bool) → NamesGoal (length cut) n → get_or cut goal false ≡ was
    → get_or (cut_after cut n) goal false ≡ cond was true (is_some (proof_step goal n))
cut_one (names.Sweep step) cut goal was h e = absurd h
cut_one (names.Hop batch step) cut goal was h e = absurd h
cut_one (names.Kept place clauses) cut goal was h e = absurd h
cut_one (names.Excludes g clauses) cut goal was h e =
    let after : Bool → Bool = λ t. cond was true (is_some {T = ℕ} (if t then Some 0 else None)) in
    elim (cases_eq g goal) [
      | inl same ↦ (
          ap (λ (k : ℕ). get_or (set cut g true) k false) (sym same)
          ∙ (get_or-set_same cut g true false h ∙ (sym (or_true was) ∙ sym (ap after (same_test g goal same))))
          )
      | inr other ↦ (
          get_or-set_other cut g goal true false (λ s. other (sym s))
          ∙ (e ∙ (sym (or_false was) ∙ sym (ap after (other_test g goal other))))
          )
    ]

pub cut_more : (spents : List Block) (k : ℕ) (b : Block) (cut : List Bool) → k < length spents → b ≡ get_or spents k b → NamesGoal (length cut) b.name → AreCut (take k spents) cut
    → AreCut (take (k + 1) spents) (cut_after cut b.name)
cut_more spents k b cut inside here named h = λ goal l. (
    let below : goal < length cut = omega (arith, l, cut_size b.name cut) in
    let more : take (k + 1) spents ≡ take k spents ++ b ∷ [] = take_more spents k b inside ∙ ap (λ (x : Block). take k spents ++ x ∷ []) (sym here) in
    subst (λ (bs : List Block). get_or (cut_after cut b.name) goal false ≡ is_some (first_step (proof_step goal) bs)) (sym more)
    (cut_one b.name cut goal (is_some (first_step (proof_step goal) (take k spents))) named (h goal below) ∙ sym (one_more goal (take k spents) b))
    )

pub cut_length : (n : BlockName) (cut after : List Bool) (goals : ℕ) → length cut ≡ goals → after ≡ cut_after cut n → length after ≡ goals
cut_length n cut after goals size e = ap length e ∙ (cut_size n cut ∙ size)

-- ---- the hops' bounds
abbrev pub hops_from : Options → ℕ → List BatchEnd → List HopBound
hops_from o n ends = map (λ p. end_bound o p.0 p.1) (enumerate_from n ends)

hops-push : (o : Options) (n : ℕ) (ends : List BatchEnd) (end : BatchEnd) → hops_from o n (ends ++ end ∷ []) ≡ hops_from o n ends ++ end_bound o (n + length ends) end ∷ []
hops-push o n [] end = ap (λ k. end_bound o k end ∷ []) (let e : n ≡ n + 0 = omega arith in e)
hops-push o n (x ∷ ends) end =
    let number : n + 1 + length ends ≡ n + suc (length ends) = omega arith in
    ap (λ hs. end_bound o n x ∷ hs) (hops-push o (n + 1) ends end ∙ ap (λ k. hops_from o (n + 1) ends ++ end_bound o k end ∷ []) number)

pub hops-step : (o : Options) (ends : List BatchEnd) (k : ℕ) (end : BatchEnd) → k < length ends → end ≡ get_or ends k end
    → hops_of o (take (k + 1) ends) ≡ hops_of o (take k ends) ++ end_bound o k end ∷ []
hops-step o ends k end inside here =
    let more : take (k + 1) ends ≡ take k ends ++ end ∷ [] = take_more ends k end inside ∙ ap (λ (x : BatchEnd). take k ends ++ x ∷ []) (sym here) in
    let size : 0 + length (take k ends) ≡ k = omega (arith, length-take-le k ends (omega arith)) in
    ap (hops_of o) more ∙ (hops-push o 0 (take k ends) end ∙ ap (λ (n : ℕ). hops_of o (take k ends) ++ end_bound o n end ∷ []) size)
