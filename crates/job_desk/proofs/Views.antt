-- Views that stay apart when one of them changes or one comes.
use Rattle.std.proofs.Common.{◌≡◌, ℕ, zero, suc, ◌<◌, ◌≢◌, ◌⊎◌, List, [], ◌∷◌, ◌++◌, length, set, sym, refl, ap, ◌∙◌, subst, inl, inr, ⊎_elim}
use mathlib.Core.Option.{some, some-injective, some-ne-none}
use lib.ListN.{get_elem?}
use Rattle.atomic_table.proofs.Lists.{at_set}
use Rattle.job_desk.specs.declared.view.View.{View}
use Rattle.job_desk.specs.Draws.{draws_by}
use Rattle.job_desk.specs.Rule.{Apart}

-- what Apart says of two views
abbrev pub AreApart : View → View → Type 0
AreApart v u = 0 < v.parts → (0 < u.parts → u.caller ≢ v.caller) × (draws_by v.caller u.drawn ≡ 0)

pub apart_set : (views : List View) (id : ℕ) (w : View) → Apart views
    → ((j : ℕ) (u : View) → j ≢ id → get_elem? views j ≡ some u → AreApart w u × AreApart u w)
    → Apart (set views id w)
apart_set views id w apart with_w i j v u ne at_i at_j = ⊎_elim
    (λ (p : (i ≡ id) × (w ≡ v)). ⊎_elim
    (λ (q : (j ≡ id) × (w ≡ u)). absurd (ne (p.0 ∙ sym q.0)))
    (λ (q : (j ≢ id) × (get_elem? views j ≡ some u)). subst (λ x. AreApart x u) p.1 (with_w j u q.0 q.1).0)
    (at_set views id j w u at_j))
    (λ (p : (i ≢ id) × (get_elem? views i ≡ some v)). ⊎_elim
    (λ (q : (j ≡ id) × (w ≡ u)). subst (AreApart v) q.1 (with_w i v p.0 p.1).1)
    (λ (q : (j ≢ id) × (get_elem? views j ≡ some u)). apart i j v u ne p.1 q.1)
    (at_set views id j w u at_j))
    (at_set views id i w v at_i)

-- a place of a longer list is one of the list, or the last
at_end : (l : List View) (a b : View) (j : ℕ) → get_elem? (l ++ a ∷ []) j ≡ some b → (get_elem? l j ≡ some b) ⊎ ((j ≡ length l) × (a ≡ b))
at_end [] a b zero e = inr (refl, some-injective a b e)
at_end [] a b (suc j) e = absurd (some-ne-none b (sym e))
at_end (x ∷ xs) a b zero e = inl e
at_end (x ∷ xs) a b (suc j) e = ⊎_elim (λ h. inl h) (λ h. inr (ap suc h.0, h.1)) (at_end xs a b j e)

pub apart_new : (views : List View) (w : View) → Apart views
    → ((j : ℕ) (u : View) → get_elem? views j ≡ some u → AreApart w u × AreApart u w)
    → Apart (views ++ w ∷ [])
apart_new views w apart with_w i j v u ne at_i at_j = ⊎_elim
    (λ (p : get_elem? views i ≡ some v). ⊎_elim
    (λ (q : get_elem? views j ≡ some u). apart i j v u ne p q)
    (λ (q : (j ≡ length views) × (w ≡ u)). subst (AreApart v) q.1 (with_w i v p).1)
    (at_end views w u j at_j))
    (λ (p : (i ≡ length views) × (w ≡ v)). ⊎_elim
    (λ (q : get_elem? views j ≡ some u). subst (λ x. AreApart x u) p.1 (with_w j u q).0)
    (λ (q : (j ≡ length views) × (w ≡ u)). absurd (ne (p.0 ∙ sym q.0)))
    (at_end views w u j at_j))
    (at_end views w v i at_i)
