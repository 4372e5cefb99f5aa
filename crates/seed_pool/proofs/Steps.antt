-- Each step keeps the rule of the pool.
use Rattle.std.proofs.Common.{◌≡◌, ◌≢◌, ℕ, zero, suc, ◌+◌, ◌<◌, List, [], ◌∷◌, ◌++◌, length, get_or, set, Option, None, Some, sym, refl, ap, ◌∙◌, subst, ⊎_elim, arith, cond, eqb, eq-eqb, ne_eqb, length-set}
use Rattle.std.proofs.lemmas.List.{get_or-set_other, get_or-set_same, set-get_or}
use mathlib.Core.Logic.{dite}
use mathlib.Core.Option.{some, none, some-ne-none}
use native.Mathlib.Decide.{ℕ_discrete}
use lib.ListN.{get_elem?}
use prog.Atomic.{either}
use Rattle.atomic_table.specs.Table.{State, Act, step, keeps, takes, gives, rest, Valid, stepped, carried_after, put_back, Allows, Splits, Joins}
use Rattle.atomic_table.proofs.Lists.{exchanged}
use Rattle.seed_pool.specs.declared.view.View.{View}
use Rattle.seed_pool.specs.declared.view.Terms.{Terms}
use Rattle.aig_model.specs.declared.parts.Parts.{Parts}
use Rattle.seed_pool.specs.Lists.{total}
use Rattle.seed_pool.specs.Rule.{Slot, Home, Claim, Of, weigh_home, weigh_claim, one_if, puts_at, takes_at, spent, Cell, Fits, Kept, missed, filling, filled, lifting, emptied, rest_of, new_caller, joined, Sat, ClaimsPut, MarksFull, ClaimsTake, MarksFree}
use Rattle.seed_pool.proofs.Sums.{at_set, at_snoc, total-append, total-set, term_le}

-- what is in an option
abbrev pub inside : {A : Type 0} → A → Option A → A
inside d None = d
inside d (Some x) = x

pub same_inside : {A : Type 0} (a b : A) → Some a ≡ Some b → a ≡ b
same_inside a b e = ap (inside a) e

pub is_same : (n : ℕ) → one_if n n ≡ 1
is_same n = ap (λ b. cond b 1 0) (eq-eqb n n refl)

pub is_other : (n w : ℕ) → w ≢ n → one_if n w ≡ 0
is_other n w ne = ap (λ b. cond b 1 0) (ne_eqb w n ne)

-- the word of a cell that a view claims
is_of : (m n : ℕ) → 0 < one_if m n → n ≡ m
is_of m n h = dite (ℕ_discrete n m) (λ e. e) (λ ne. absurd (omega (arith, is_other m n ne)))

pub nothing_at : {A : Type 0} (P : ℕ → A → Type 0) (k : ℕ) (a : A) → get_elem? [] k ≡ some a → P k a
nothing_at P k a e = absurd (some-ne-none a (sym e))

module _ {S : Type 0} where
  abbrev pub slot_of : Claim S → Slot S
  slot_of None = None
  slot_of (Some c) = c.1

  pub no_seed : (s : S) → None ≡ Some s → ⊥
  no_seed s e = absurd (cc)

  pub no_claim : (c : ℕ × (Slot S)) → None ≡ Some c → ⊥
  no_claim c e = absurd (cc)

  abbrev pub carried_slot : List (ℕ × (Slot S)) → Slot S
  carried_slot [] = None
  carried_slot (x ∷ xs) = x.1

  -- of each view, after one changed
  set_each : (P : View S → Type 0) (vs : List (View S)) (id : ℕ) (w : View S) → ((i : ℕ) (u : View S) → i ≢ id → get_elem? vs i ≡ some u → P u) → P w → (i : ℕ) (u : View S) → get_elem? (set vs id w) i ≡ some u → P u
  set_each P vs id w others mine i u e = ⊎_elim (λ (q : (i ≡ id) × (w ≡ u)). subst P q.1 mine) (λ (q : (i ≢ id) × (get_elem? vs i ≡ some u)). others i u q.0 q.1) (at_set vs id i w u e)

  -- claims at each cell, after the word k and one view changed
  counted : (g : ℕ → Claim S → ℕ) (m : ℕ) (ws : List ℕ) (vs : List (View S)) (id k x : ℕ) (v w : View S) → length ws ≡ 64 → k < 64 → get_elem? vs id ≡ some v
      → ((j : ℕ) → total (λ u. g j u.claim) vs ≡ one_if m (get_or ws j 0))
      → g k w.claim + one_if m (get_or ws k 0) ≡ g k v.claim + one_if m x
      → ((j : ℕ) → j ≢ k → g j w.claim ≡ g j v.claim)
      → (j : ℕ) → total (λ u. g j u.claim) (set vs id w) ≡ one_if m (get_or (set ws k x) j 0)
  counted g m ws vs id k x v w wide lt me old here else j = dite (ℕ_discrete j k)
      (λ e. subst (λ (i : ℕ). total (λ u. g i u.claim) (set vs id w) ≡ one_if m (get_or (set ws k x) i 0)) (sym e)
      (omega (arith, total-set (λ u. g k u.claim) vs id v w me, old k, here, ap (one_if m) (get_or-set_same ws k x 0 (omega arith)))))
      (λ ne. omega (arith, total-set (λ u. g j u.claim) vs id v w me, old j, else j ne, ap (one_if m) (get_or-set_other ws k j x 0 ne)))

  -- the word of a cell that a view claims
  claimed_word : (m : ℕ) (g : ℕ → Claim S → ℕ) (vs : List (View S)) (id k n : ℕ) (v : View S) → get_elem? vs id ≡ some v → total (λ u. g k u.claim) vs ≡ one_if m n → g k v.claim ≡ 1 → n ≡ m
  claimed_word m g vs id k n v me sum one = is_of m n (omega (arith, term_le (λ u. g k u.claim) vs id v me))

module _ {S : Type 0} (circuit : S → Parts) where
  abbrev pub Rule : Terms → State (Slot S) (View S) → Type 0
  Rule t s = Kept circuit t s.words s.homes s.views

  -- the word k, its slot and one view change
  kept_step : (t : Terms) (ws : List ℕ) (hs : List (Home S)) (vs : List (View S)) (id k x : ℕ) (v w : View S) (h h' : Home S) → Kept circuit t ws hs vs → get_elem? vs id ≡ some v → k < 64 → get_elem? hs k ≡ some h
      → w.parts ≡ v.parts → Fits circuit t w → Cell circuit t x h'
      → puts_at k w.claim + one_if 1 (get_or ws k 0) ≡ puts_at k v.claim + one_if 1 x
      → ((j : ℕ) → j ≢ k → puts_at j w.claim ≡ puts_at j v.claim)
      → takes_at k w.claim + one_if 3 (get_or ws k 0) ≡ takes_at k v.claim + one_if 3 x
      → ((j : ℕ) → j ≢ k → takes_at j w.claim ≡ takes_at j v.claim)
      → ((f : S → ℕ) → total f w.put + total f v.taken + weigh_home f h + weigh_claim f v.claim ≡ total f v.put + total f w.taken + weigh_home f h' + weigh_claim f w.claim)
      → Kept circuit t (set ws k x) (set hs k h') (set vs id w)
  kept_step t ws hs vs id k x v w h h' kept me lt at parts fits cell ph pe th te bal = record {
    wide = length-set ws k x ∙ kept.wide;
    tall = length-set hs k h' ∙ kept.tall;
    parts = omega (arith, total-set (λ u. u.parts) vs id v w me, kept.parts, parts);
    cells = λ j y e. ⊎_elim
        (λ (q : (j ≡ k) × (h' ≡ y)). subst (Cell circuit t (get_or (set ws k x) j 0)) q.1
        (subst (λ (i : ℕ). Cell circuit t (get_or (set ws k x) i 0) h') (sym q.0) (subst (λ (n : ℕ). Cell circuit t n h') (sym (get_or-set_same ws k x 0 (omega (arith, kept.wide)))) cell)))
        (λ (q : (j ≢ k) × (get_elem? hs j ≡ some y)). subst (λ (n : ℕ). Cell circuit t n y) (sym (get_or-set_other ws k j x 0 q.0)) (kept.cells j y q.1))
        (at_set hs k j h' y e);
    put_claims = counted puts_at 1 ws vs id k x v w kept.wide lt me kept.put_claims ph pe;
    take_claims = counted takes_at 3 ws vs id k x v w kept.wide lt me kept.take_claims th te;
    balance = λ f. omega (arith, kept.balance f, bal f, total-set (λ u. total f u.put) vs id v w me, total-set (λ u. total f u.taken) vs id v w me, total-set (weigh_home f) hs k h h' at, total-set (λ u. weigh_claim f u.claim) vs id v w me);
    each = set_each (Fits circuit t) vs id w (λ i u ne e. kept.each i u e) fits;
  }

  -- one view changes, and only in what it tried
  kept_missed : (t : Terms) (ws : List ℕ) (hs : List (Home S)) (vs : List (View S)) (id k n : ℕ) (v : View S) → Kept circuit t ws hs vs → get_elem? vs id ≡ some v → 0 < v.parts → Kept circuit t ws hs (set vs id (missed v k n))
  kept_missed t ws hs vs id k n v kept me live =
      let w = missed v k n in let f = kept.each id v me in
      record {
        wide = kept.wide;
        tall = kept.tall;
        parts = omega (arith, total-set (λ u. u.parts) vs id v w me, kept.parts);
        cells = kept.cells;
        put_claims = λ j. omega (arith, total-set (λ u. puts_at j u.claim) vs id v w me, kept.put_claims j);
        take_claims = λ j. omega (arith, total-set (λ u. takes_at j u.claim) vs id v w me, kept.take_claims j);
        balance = λ f. omega (arith, kept.balance f, total-set (λ u. total f u.put) vs id v w me, total-set (λ u. total f u.taken) vs id v w me, total-set (λ u. weigh_claim f u.claim) vs id v w me);
        each = set_each (Fits circuit t) vs id w (λ i u ne e. kept.each i u e) record { terms = f.terms; idle = λ z. absurd (omega arith); put_of = f.put_of; taken_of = f.taken_of; claim_of = f.claim_of };
      }

  -- what is at the cell k
  here : (t : Terms) (ws : List ℕ) (hs : List (Home S)) (vs : List (View S)) (k : ℕ) → Kept circuit t ws hs vs → k < 64 → (h : Home S) × (get_elem? hs k ≡ some h) × Cell circuit t (get_or ws k 0) h
  here t ws hs vs k kept lt = let r = there hs k (omega (arith, kept.tall)) in (r.0, r.1, kept.cells k r.0 r.1)
    where
      there : (l : List (Home S)) (i : ℕ) → i < length l → (a : Home S) × (get_elem? l i ≡ some a)
      there [] i h = absurd (omega arith)
      there (x ∷ xs) zero h = (x, refl)
      there (x ∷ xs) (suc i) h = there xs i (omega arith)

  pub kept_filling : (t : Terms) (ws : List ℕ) (hs : List (Home S)) (vs : List (View S)) (id k : ℕ) (v : View S) → Kept circuit t ws hs vs → get_elem? vs id ≡ some v → 0 < v.parts → v.claim ≡ None → k < 64 → get_or ws k 0 ≡ 0
      → (get_elem? hs k ≡ some (some None)) × Kept circuit t (set ws k 1) (set hs k none) (set vs id (filling v k))
  kept_filling t ws hs vs id k v kept me live calm lt zero_is =
      let r = here t ws hs vs k kept lt in
      let f = kept.each id v me in
      let w = filling v k in
      let at : get_elem? hs k ≡ some (some None) = r.1 ∙ ap some (r.2.free zero_is) in (
        at,
        kept_step t ws hs vs id k 1 v w (some None) none kept me lt at refl
            record { terms = f.terms; idle = λ z. absurd (omega arith); put_of = f.put_of; taken_of = f.taken_of; claim_of = λ j s e. absurd (no_seed s (ap slot_of e)) }
            record { small = omega arith; free = λ z. absurd (omega arith); filling = λ z. refl; full = λ z. absurd (omega arith); emptying = λ z. absurd (omega arith) }
            (omega (arith, ap (puts_at k) calm, is_same k, ap (one_if 1) zero_is))
            (λ j ne. omega (arith, ap (puts_at j) calm, is_other j k (λ e. ne (sym e))))
            (omega (arith, ap (takes_at k) calm, ap (one_if 3) zero_is))
            (λ j ne. omega (arith, ap (takes_at j) calm))
            (λ f. omega (arith, ap (weigh_claim f) calm)),
      )

  of_push : (t : Terms) (l : List S) (s : S) → Of circuit t s → ((k : ℕ) (x : S) → get_elem? l k ≡ some x → Of circuit t x) → (k : ℕ) (x : S) → get_elem? (l ++ s ∷ []) k ≡ some x → Of circuit t x
  of_push t l s of all k x e = ⊎_elim (λ (q : get_elem? l k ≡ some x). all k x q) (λ (q : s ≡ x). subst (Of circuit t) q of) (at_snoc l s x k e)

  total_push : (f : S → ℕ) (l : List S) (s : S) → total f (l ++ s ∷ []) ≡ total f l + f s
  total_push f l s = omega (arith, total-append f l (s ∷ []))

  pub kept_filled : (t : Terms) (ws : List ℕ) (hs : List (Home S)) (vs : List (View S)) (id k : ℕ) (v : View S) (s : S) → Kept circuit t ws hs vs → get_elem? vs id ≡ some v → 0 < v.parts → v.claim ≡ Some (k, None) → k < 64 → Of circuit t s
      → Kept circuit t (set ws k 2) (set hs k (some (Some s))) (set vs id (filled v s))
  kept_filled t ws hs vs id k v s kept me live claim lt of =
      let r = here t ws hs vs k kept lt in
      let f = kept.each id v me in
      let w = filled v s in
      let p1 : puts_at k v.claim ≡ 1 = ap (puts_at k) claim ∙ is_same k in
      let word : get_or ws k 0 ≡ 1 = claimed_word 1 puts_at vs id k (get_or ws k 0) v me (kept.put_claims k) p1 in
      let at : get_elem? hs k ≡ some none = r.1 ∙ ap some (r.2.filling word) in
      kept_step t ws hs vs id k 2 v w none (some (Some s)) kept me lt at refl
      record { terms = f.terms; idle = λ z. absurd (omega arith); put_of = of_push t v.put s of f.put_of; taken_of = f.taken_of; claim_of = λ j s e. absurd (no_claim (j, Some s) e) }
      record { small = omega arith; free = λ z. absurd (omega arith); filling = λ z. absurd (omega arith); full = λ z. (s, refl, of); emptying = λ z. absurd (omega arith) }
      (omega (arith, p1, ap (one_if 1) word))
      (λ j ne. omega (arith, ap (puts_at j) claim, is_other j k (λ e. ne (sym e))))
      (omega (arith, ap (takes_at k) claim, ap (one_if 3) word))
      (λ j ne. omega (arith, ap (takes_at j) claim))
      (λ f. omega (arith, ap (weigh_claim f) claim, total_push f v.put s))

  pub kept_lifting : (t : Terms) (ws : List ℕ) (hs : List (Home S)) (vs : List (View S)) (id k : ℕ) (v : View S) → Kept circuit t ws hs vs → get_elem? vs id ≡ some v → 0 < v.parts → v.claim ≡ None → k < 64 → get_or ws k 0 ≡ 2
      → (s : S) × (get_elem? hs k ≡ some (some (Some s))) × Of circuit t s × Kept circuit t (set ws k 3) (set hs k none) (set vs id (lifting v k s))
  kept_lifting t ws hs vs id k v kept me live calm lt word =
      let r = here t ws hs vs k kept lt in
      let f = kept.each id v me in
      let full = r.2.full word in
      let s : S = full.0 in
      let of : Of circuit t s = full.2 in
      let w = lifting v k s in
      let at : get_elem? hs k ≡ some (some (Some s)) = r.1 ∙ ap some full.1 in (
        s,
        at,
        of,
        kept_step t ws hs vs id k 3 v w (some (Some s)) none kept me lt at refl
            record { terms = f.terms; idle = λ z. absurd (omega arith); put_of = f.put_of; taken_of = f.taken_of; claim_of = λ j x e. subst (Of circuit t) (same_inside s x (ap slot_of e)) of }
            record { small = omega arith; free = λ z. absurd (omega arith); filling = λ z. absurd (omega arith); full = λ z. absurd (omega arith); emptying = λ z. refl }
            (omega (arith, ap (puts_at k) calm, ap (one_if 1) word))
            (λ j ne. omega (arith, ap (puts_at j) calm))
            (omega (arith, ap (takes_at k) calm, is_same k, ap (one_if 3) word))
            (λ j ne. omega (arith, ap (takes_at j) calm, is_other j k (λ e. ne (sym e))))
            (λ f. omega (arith, ap (weigh_claim f) calm)),
      )

  pub kept_emptied : (t : Terms) (ws : List ℕ) (hs : List (Home S)) (vs : List (View S)) (id k : ℕ) (v : View S) (s : S) → Kept circuit t ws hs vs → get_elem? vs id ≡ some v → 0 < v.parts → v.claim ≡ Some (k, Some s) → k < 64
      → Kept circuit t (set ws k 0) (set hs k (some None)) (set vs id (emptied v s))
  kept_emptied t ws hs vs id k v s kept me live claim lt =
      let r = here t ws hs vs k kept lt in
      let f = kept.each id v me in
      let w = emptied v s in
      let p1 : takes_at k v.claim ≡ 1 = ap (takes_at k) claim ∙ is_same k in
      let word : get_or ws k 0 ≡ 3 = claimed_word 3 takes_at vs id k (get_or ws k 0) v me (kept.take_claims k) p1 in
      let at : get_elem? hs k ≡ some none = r.1 ∙ ap some (r.2.emptying word) in
      kept_step t ws hs vs id k 0 v w none (some None) kept me lt at refl
      record { terms = f.terms; idle = λ z. absurd (omega arith); put_of = f.put_of; taken_of = of_push t v.taken s (f.claim_of k s claim) f.taken_of; claim_of = λ j s e. absurd (no_claim (j, Some s) e) }
      record { small = omega arith; free = λ z. refl; filling = λ z. absurd (omega arith); full = λ z. absurd (omega arith); emptying = λ z. absurd (omega arith) }
      (omega (arith, ap (puts_at k) claim, ap (one_if 1) word))
      (λ j ne. omega (arith, ap (puts_at j) claim))
      (omega (arith, p1, ap (one_if 3) word))
      (λ j ne. omega (arith, ap (takes_at j) claim, is_other j k (λ e. ne (sym e))))
      (λ f. omega (arith, ap (weigh_claim f) claim, total_push f v.taken s))

  -- what a step of the seat m at the cell k asks for, where it finds n and leaves x
  abbrev Goes : Terms → State (Slot S) (View S) → ℕ → ℕ → Sat S → ℕ → ((Sat S) → Type 0) → Type 0
  Goes t s k id m x then = (w : View S) × (a : Act (Slot S)) × Valid s.homes m.1 a × Rule t (stepped s k x id m.1 w a) × then (w, carried_after m.1 a)

  pub claims_put_allowed : (t : Terms) (slots id k : ℕ) (m : Sat S) → 0 < m.0.parts → m.0.claim ≡ None → k < 64
      → Allows (Rule t) slots id m k (λ n. either (eqb n 0) 1 n) (ClaimsPut (step slots k 0 1 none) m)
  claims_put_allowed t slots id k m live calm lt s kept long me small =
      let n : ℕ = get_or s.words k 0 in
      exchanged n 0 1 (λ x. Goes t s k id m x (ClaimsPut (step slots k 0 1 none) m n))
      (λ z. let r = kept_filling t s.words s.homes s.views id k m.0 kept me live calm lt z in
      (filling m.0 k, takes k None, r.0, r.1, ((λ _. refl), (λ ne. absurd (ne z)))))
      (λ ne. (missed m.0 k n, keeps, tt, subst (λ ws. Kept circuit t ws s.homes (set s.views id (missed m.0 k n))) (sym (set-get_or s.words k 0)) (kept_missed t s.words s.homes s.views id k n m.0 kept me live), ((λ z. absurd (ne z)), (λ _. refl))))

  pub claims_take_allowed : (t : Terms) (slots id k : ℕ) (m : Sat S) → 0 < m.0.parts → m.0.claim ≡ None → k < 64
      → Allows (Rule t) slots id m k (λ n. either (eqb n 2) 3 n) (ClaimsTake circuit (step slots k 2 3 none) m)
  claims_take_allowed t slots id k m live calm lt s kept long me small =
      let terms = (kept.each id m.0 me).terms live in
      let n : ℕ = get_or s.words k 0 in
      exchanged n 2 3 (λ x. Goes t s k id m x (ClaimsTake circuit (step slots k 2 3 none) m n))
      (λ z. let r = kept_lifting t s.words s.homes s.views id k m.0 kept me live calm lt z in
      (lifting m.0 k r.0, takes k (Some r.0), r.1, r.3, ((λ _. (r.0, refl, λ u e. subst (λ (y : Terms). Of circuit y r.0) (same_inside t u (sym terms ∙ e)) r.2)), (λ ne. absurd (ne z)))))
      (λ ne. (missed m.0 k n, keeps, tt, subst (λ ws. Kept circuit t ws s.homes (set s.views id (missed m.0 k n))) (sym (set-get_or s.words k 0)) (kept_missed t s.words s.homes s.views id k n m.0 kept me live), ((λ z. absurd (ne z)), (λ _. refl))))

  pub marks_full_allowed : (t : Terms) (slots id k : ℕ) (m : Sat S) (s : S) → 0 < m.0.parts → m.0.claim ≡ Some (k, None) → m.1 ≡ (k, Some s) ∷ [] → k < 64 → Of circuit t s
      → Allows (Rule t) slots id m k (λ _. 2) (λ _. MarksFull (step slots k 2 0 none) m 2)
  marks_full_allowed t slots id k m s live claim has lt of st kept long me small = (
    filled m.0 s,
    gives,
    tt,
    subst (λ c. Kept circuit t (set st.words k 2) (put_back st.homes c) (set st.views id (filled m.0 s))) (sym has) (kept_filled t st.words st.homes st.views id k m.0 s kept me live claim lt of),
    λ s' e. let same : s ≡ s' = same_inside s s' (ap carried_slot (sym has ∙ e)) in λ i. (filled m.0 (same i), ap rest has i),
  )

  pub marks_free_allowed : (t : Terms) (slots id k : ℕ) (m : Sat S) (s : S) → 0 < m.0.parts → m.0.claim ≡ Some (k, Some s) → m.1 ≡ (k, None) ∷ [] → k < 64
      → Allows (Rule t) slots id m k (λ _. 0) (λ _. MarksFree (step slots k 0 0 none) m 0)
  marks_free_allowed t slots id k m s live claim has lt st kept long me small = (
    emptied m.0 s,
    gives,
    tt,
    subst (λ c. Kept circuit t (set st.words k 0) (put_back st.homes c) (set st.views id (emptied m.0 s))) (sym has) (kept_emptied t st.words st.homes st.views id k m.0 s kept me live claim lt),
    λ s' e. let same : s ≡ s' = same_inside s s' (ap slot_of (sym claim ∙ e)) in λ i. (emptied m.0 (same i), rest m.1),
  )

  pub splits_allowed : (t : Terms) (id : ℕ) (v : View S) → 1 < v.parts → Splits (Rule t) id v (rest_of v) (new_caller v)
  splits_allowed t id v parts s kept me =
      let w = rest_of v in let u = new_caller v in let vs : List (View S) = set s.views id w in
      let f = kept.each id v me in
      let sum : (g : View S → ℕ) → total g (vs ++ u ∷ []) + g v ≡ total g s.views + g w + g u = λ g. omega (arith, total-append g vs (u ∷ []), total-set g s.views id v w me) in
      record {
        wide = kept.wide;
        tall = kept.tall;
        parts = omega (arith, sum (λ x. x.parts), kept.parts);
        cells = kept.cells;
        put_claims = λ j. omega (arith, sum (λ x. puts_at j x.claim), kept.put_claims j);
        take_claims = λ j. omega (arith, sum (λ x. takes_at j x.claim), kept.take_claims j);
        balance = λ f. omega (arith, kept.balance f, sum (λ x. total f x.put), sum (λ x. total f x.taken), sum (λ x. weigh_claim f x.claim));
        each = λ i x e. ⊎_elim
            (λ (q : get_elem? vs i ≡ some x). set_each (Fits circuit t) s.views id w (λ j y ne a. kept.each j y a)
            record { terms = λ _. f.terms (omega arith); idle = λ z. absurd (omega arith); put_of = f.put_of; taken_of = f.taken_of; claim_of = f.claim_of } i x q)
            (λ (q : u ≡ x). subst (Fits circuit t) q record { terms = λ _. f.terms (omega arith); idle = λ z. absurd (omega arith); put_of = nothing_at (λ _. Of circuit t); taken_of = nothing_at (λ _. Of circuit t); claim_of = λ j y e. absurd (no_claim (j, Some y) e) })
            (at_snoc vs u x i e);
      }

  of_both : (t : Terms) (l m : List S) → ((k : ℕ) (x : S) → get_elem? l k ≡ some x → Of circuit t x) → ((k : ℕ) (x : S) → get_elem? m k ≡ some x → Of circuit t x) → (k : ℕ) (x : S) → get_elem? (l ++ m) k ≡ some x → Of circuit t x
  of_both t [] m p q k x e = q k x e
  of_both t (y ∷ l) m p q zero x e = p zero x e
  of_both t (y ∷ l) m p q (suc k) x e = of_both t l m (λ j z h. p (suc j) z h) q k x e

  spent_fits : (t : Terms) → Fits circuit t spent
  spent_fits t = record { terms = λ l. absurd (omega arith); idle = λ _. refl; put_of = nothing_at (λ _. Of circuit t); taken_of = nothing_at (λ _. Of circuit t); claim_of = λ j y e. absurd (no_claim (j, Some y) e) }

  pub joins_allowed : (t : Terms) (id : ℕ) (v : View S) (other : ℕ) (u : View S) → 0 < v.parts → u.claim ≡ None → Joins (Rule t) id v other u (joined v u) spent
  joins_allowed t id v other u live calm s kept me apart them =
      let w = joined v u in let vs : List (View S) = set s.views id w in
      let f = kept.each id v me in
      let old : get_elem? s.views other ≡ some u = ⊎_elim (λ (q : (other ≡ id) × (w ≡ u)). absurd (apart q.0)) (λ (q : (other ≢ id) × (get_elem? s.views other ≡ some u)). q.1) (at_set s.views id other w u them) in
      let o = kept.each other u old in
      let two : (g : View S → ℕ) → total g (set vs other spent) + g u + g v ≡ total g s.views + g w + g spent = λ g. omega (arith, total-set g s.views id v w me, total-set g vs other u spent them) in
      record {
        wide = kept.wide;
        tall = kept.tall;
        parts = omega (arith, two (λ x. x.parts), kept.parts);
        cells = kept.cells;
        put_claims = λ j. omega (arith, two (λ x. puts_at j x.claim), kept.put_claims j, ap (puts_at j) calm);
        take_claims = λ j. omega (arith, two (λ x. takes_at j x.claim), kept.take_claims j, ap (takes_at j) calm);
        balance = λ f. omega (arith, kept.balance f, two (λ x. total f x.put), two (λ x. total f x.taken), two (λ x. weigh_claim f x.claim), ap (weigh_claim f) calm, total-append f v.put u.put, total-append f v.taken u.taken);
        each = set_each (Fits circuit t) vs other spent
            (λ i x ne e. set_each (Fits circuit t) s.views id w (λ j y ne a. kept.each j y a)
            record { terms = λ _. f.terms live; idle = λ z. absurd (omega arith); put_of = of_both t v.put u.put f.put_of o.put_of; taken_of = of_both t v.taken u.taken f.taken_of o.taken_of; claim_of = f.claim_of } i x e)
            (spent_fits t);
      }
