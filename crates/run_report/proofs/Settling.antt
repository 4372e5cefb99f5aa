-- The blocks of the goals, settled post by post.
use Rattle.std.proofs.Common.{◌≡◌, ◌≢◌, ℕ, ◌<◌, Bool, true, false, cond, List, [], ◌∷◌, ◌++◌, length, get_or, set, refl, sym, ap, ◌∙◌, arith, All, Option, Some, None, inl, inr}
use Rattle.std.specs.Prelude.{nat_eq, slice_get, option_map}
use Rattle.std.specs.Option.{option_or}
use Rattle.std.proofs.lemmas.Bool.{cases_eq}
use Rattle.std.proofs.lemmas.List.{length-set, get_or-set_same, get_or-set_other, get_or_default}
use Rattle.std.proofs.lemmas.List.Folds.{find-append}
use Rattle.report_text.specs.declared.report.GoalBlock.{GoalBlock}
use Rattle.run_report.specs.declared.posts.Basis.{Basis}
use Rattle.run_report.specs.declared.posts.Basis.TheVariants.{Witness, Proof}
use Rattle.run_report.specs.declared.posts.Post.{Post}
use Rattle.run_report.specs.Blocks.{block_by, block_of_post, first_post, settled_by, after_post, AreAfter}
use Rattle.run_report.specs.Report.{is_open}
use Rattle.std.proofs.lemmas.Option.{slice_get-map, slice_get-get_or}
use Rattle.sim_walk.specs.declared.options.Options.{Options}
use Rattle.board_core.specs.History.{IsLegalHistory}
use Rattle.run_report.specs.Posts.{entries_of}
use Rattle.run_report.proofs.History.{same_test, other_test}

-- a goal that a post settles isn't open
block-not_open : (number : ℕ) (b : Basis) → is_open (block_by number b) ≡ false
block-not_open number (Witness t) = refl
block-not_open number (Proof p) = refl

-- ---- one more post
first-push : (ps : List Post) (p : Post) (g : ℕ) → first_post (ps ++ p ∷ []) g ≡ option_or (first_post ps g) (cond (nat_eq p.entry.goal g) (Some p) None)
first-push ps p g = find-append (λ (q : Post). nat_eq q.entry.goal g) ps (p ∷ [])

-- the post of another goal changes nothing
or-none : (o : Option Post) → option_or o None ≡ o
or-none None = refl
or-none (Some p) = refl

push-other : (ps : List Post) (p : Post) (g : ℕ) → p.entry.goal ≢ g → first_post (ps ++ p ∷ []) g ≡ first_post ps g
push-other ps p g other =
    first-push ps p g ∙ (ap (λ (b : Bool). option_or (first_post ps g) (cond b (Some p) None)) (other_test p.entry.goal g other) ∙ or-none (first_post ps g))

push-same : (ps : List Post) (p : Post) (g : ℕ) → p.entry.goal ≡ g → first_post (ps ++ p ∷ []) g ≡ option_or (first_post ps g) (Some p)
push-same ps p g same = first-push ps p g ∙ ap (λ (b : Bool). option_or (first_post ps g) (cond b (Some p) None)) (same_test p.entry.goal g same)

after-other : (bs : List GoalBlock) (b : Bool) (i g : ℕ) (x d : GoalBlock) → g ≢ i → get_or (cond b (set bs i x) bs) g d ≡ get_or bs g d
after-other bs true i g x d other = get_or-set_other bs i g x d other
after-other bs false i g x d other = refl

after-size : (bs : List GoalBlock) (b : Bool) (i : ℕ) (x : GoalBlock) → length (cond b (set bs i x) bs) ≡ length bs
after-size bs true i x = length-set bs i x
after-size bs false i x = refl

-- what the goal's own post makes of its block: an open one is settled, and a settled one stays
own_block : (bs : List GoalBlock) (o : Option Post) (p : Post) (was d : GoalBlock) → p.entry.goal < length bs → is_open was ≡ true
    → get_or bs p.entry.goal (block_of_post p) ≡ settled_by o was → get_or bs p.entry.goal d ≡ settled_by o was
    → get_or (after_post bs p) p.entry.goal d ≡ settled_by (option_or o (Some p)) was
own_block bs None p was d inside opened own here =
    ap (λ (b : Bool). get_or (cond b (set bs p.entry.goal (block_of_post p)) bs) p.entry.goal d) (ap is_open own ∙ opened)
    ∙ get_or-set_same bs p.entry.goal (block_of_post p) d inside
own_block bs (Some q) p was d inside opened own here =
    ap (λ (b : Bool). get_or (cond b (set bs p.entry.goal (block_of_post p)) bs) p.entry.goal d) (ap is_open own ∙ block-not_open q.entry.number q.basis)
    ∙ here

pub after_more : (opens : List GoalBlock) (ps : List Post) (p : Post) (bs : List GoalBlock) → AreAfter opens ps bs → All (λ (b : GoalBlock). is_open b ≡ true) opens
    → p.entry.goal < length opens → AreAfter opens (ps ++ p ∷ []) (after_post bs p)
after_more opens ps p bs h opened inside =
    let i = p.entry.goal in
    let x = block_of_post p in
    record {
      size = after-size bs (is_open (get_or bs i x)) i x ∙ h.size;
      each = λ g d l. elim (cases_eq i g) [
        | inl same ↦ (
            let own = own_block bs (first_post ps i) p (get_or opens i d) d (omega (arith, h.size)) (opened i d inside)
            (h.each i x inside ∙ ap (settled_by (first_post ps i)) (get_or_default opens i x d inside)) (h.each i d inside) in
            ap (λ (k : ℕ). get_or (after_post bs p) k d) (sym same)
            ∙ (own ∙ (sym (ap (λ (o : Option Post). settled_by o (get_or opens i d)) (push-same ps p i refl))
            ∙ ap (λ (k : ℕ). settled_by (first_post (ps ++ p ∷ []) k) (get_or opens k d)) same))
            )
        | inr other ↦ (
            after-other bs (is_open (get_or bs i x)) i g x d (λ e. other (sym e))
            ∙ (h.each g d l ∙ ap (λ (o : Option Post). settled_by o (get_or opens g d)) (sym (push-other ps p g other)))
            )
      ];
    }

-- the goals of a legal history's posts are in range
pub posts_below : (o : Options) (goals : ℕ) (ps : List Post) → IsLegalHistory o goals (entries_of ps) → All (λ (p : Post). p.entry.goal < goals) ps
posts_below o goals ps legal = λ k d l. (
    let e = get_or ps k d in
    let at_place : slice_get (entries_of ps) k ≡ Some e.entry =
    slice_get-map (λ (p : Post). p.entry) ps k ∙ ap (option_map (λ (p : Post). p.entry)) (slice_get-get_or ps k d l) in
    (legal.entries k e.entry at_place).goal
    )
