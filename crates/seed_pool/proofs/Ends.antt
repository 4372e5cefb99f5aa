-- The pool at its start and at its end.
use Rattle.std.proofs.Common.{◌≡◌, ◌≢◌, ℕ, zero, suc, ◌+◌, ◌<◌, ◌≤◌, List, [], ◌∷◌, ◌++◌, length, map, get_or, take, None, Some, sym, refl, ap, ◌∙◌, subst, arith, All, length-append}
use Rattle.std.specs.Prelude.{replicate}
use Rattle.std.proofs.lemmas.List.Elements.{All-cons, All-nil}
use mathlib.Core.Logic.{dite}
use mathlib.Core.Option.{some, none, some-injective, some-ne-none}
use native.Mathlib.Decide.{ℕ_discrete}
use lib.ListN.{get_elem?}
use Rattle.seed_pool.specs.declared.view.View.{View}
use Rattle.seed_pool.specs.declared.view.Terms.{Terms}
use Rattle.aig_model.specs.declared.parts.Parts.{Parts}
use Rattle.seed_pool.specs.Lists.{total}
use Rattle.seed_pool.specs.Rule.{Cell, Slot, Home, Of, weigh_home, weigh_claim, one_if, puts_at, takes_at, spent, Fits, Kept, first, held, held_then}
use Rattle.seed_pool.proofs.Sums.{term_le}
use Rattle.seed_pool.proofs.Steps.{is_same, nothing_at, no_claim, no_seed, inside}

abbrev pub nils : ℕ → List ℕ
nils n = replicate n 0

zeros : (n k : ℕ) → get_or (nils n) k 0 ≡ 0
zeros zero k = refl
zeros (suc n) zero = refl
zeros (suc n) (suc k) = zeros n k

zeros_long : (n : ℕ) → length (nils n) ≡ n
zeros_long zero = refl
zeros_long (suc n) = ap suc (zeros_long n)

homes_long : (S : Type 0) (n : ℕ) → length (map some (replicate {A = Slot S} n None)) ≡ n
homes_long S zero = refl
homes_long S (suc n) = ap suc (homes_long S n)

module _ {S : Type 0} where
  homes_at : (n k : ℕ) (h : Home S) → get_elem? (map some (replicate n None)) k ≡ some h → h ≡ some None
  homes_at zero k h e = absurd (some-ne-none h (sym e))
  homes_at (suc n) zero h e = sym (some-injective (some None) h e)
  homes_at (suc n) (suc k) h e = homes_at n k h e

  homes_weigh : (f : S → ℕ) (n : ℕ) → total (weigh_home f) (map some (replicate n None)) ≡ 0
  homes_weigh f zero = refl
  homes_weigh f (suc n) = omega (arith, homes_weigh f n)

  -- where one seat stands for all callers, the others have nothing
  others_idle : (f : View S → ℕ) → f spent ≡ 0 → (vs : List (View S)) → ((i : ℕ) (v : View S) → get_elem? vs i ≡ some v → v.parts ≡ 0 → v ≡ spent) → total (λ u. u.parts) vs ≡ 0 → total f vs ≡ 0
  others_idle f nil [] h z = refl
  others_idle f nil (v ∷ vs) h z = omega (arith, ap f (h 0 v refl (omega arith)), nil, others_idle f nil vs (λ i u e. h (suc i) u e) (omega arith))

  alone : (f : View S → ℕ) → f spent ≡ 0 → (vs : List (View S)) (id : ℕ) (v : View S) → ((i : ℕ) (u : View S) → get_elem? vs i ≡ some u → u.parts ≡ 0 → u ≡ spent)
      → get_elem? vs id ≡ some v → total (λ u. u.parts) vs ≡ v.parts → total f vs ≡ f v
  alone f nil [] id v h me all = absurd (some-ne-none v (sym me))
  alone f nil (u ∷ vs) zero v h me all =
      let same = some-injective u v me in
      omega (arith, ap f same, others_idle f nil vs (λ i u e. h (suc i) u e) (omega (arith, ap (λ (y : View S). y.parts) same)))
  alone f nil (u ∷ vs) (suc id) v h me all =
      let part = term_le (λ (y : View S). y.parts) vs id v me in
      omega (arith, ap f (h 0 u refl (omega arith)), nil, alone f nil vs id v (λ i u e. h (suc i) u e) me (omega arith))

  -- each slot is at home, with a seed of the circuit or none
  homes_alike : (hs : List (Home S)) (xs : List (Slot S)) → length hs ≡ length xs → ((k : ℕ) (h : Home S) → get_elem? hs k ≡ some h → (y : Slot S) × (h ≡ some y)) → ((k : ℕ) (y : Slot S) → get_elem? hs k ≡ some (some y) → get_elem? xs k ≡ some y) → hs ≡ map some xs
  homes_alike [] [] e all at = refl
  homes_alike [] (x ∷ xs) e all at = absurd (omega arith)
  homes_alike (h ∷ hs) [] e all at = absurd (omega arith)
  homes_alike (h ∷ hs) (x ∷ xs) e all at =
      let r = all 0 h refl in
      let here : h ≡ some x = r.1 ∙ ap some (sym (some-injective x r.0 (at 0 r.0 (ap some r.1)))) in
      let more = homes_alike hs xs (omega arith) (λ k g q. all (suc k) g q) (λ k y q. at (suc k) y q) in
      λ i. here i ∷ more i

  weigh_held : (f : S → ℕ) (xs : List (Slot S)) → total f (held xs) ≡ total (weigh_home f) (map some xs)
  weigh_held f [] = refl
  weigh_held f (None ∷ xs) = omega (arith, weigh_held f xs)
  weigh_held f (Some s ∷ xs) = omega (arith, weigh_held f xs)

  all_held : (P : S → Type 0) (xs : List (Slot S)) → ((k : ℕ) (s : S) → get_elem? xs k ≡ some (Some s) → P s) → All P (held xs)
  all_held P [] h = All-nil P
  all_held P (None ∷ xs) h = all_held P xs (λ k s e. h (suc k) s e)
  all_held P (Some s ∷ xs) h = All-cons P s (held xs) (h 0 s refl) (all_held P xs (λ k s e. h (suc k) s e))

  at_mapped : (xs : List (Slot S)) (k : ℕ) (y : Slot S) → get_elem? xs k ≡ some y → get_elem? (map some xs) k ≡ some (some y)
  at_mapped [] k y e = absurd (some-ne-none y (sym e))
  at_mapped (x ∷ xs) zero y e = ap (λ z. some (some z)) (some-injective x y e)
  at_mapped (x ∷ xs) (suc k) y e = at_mapped xs k y e

  inside_home : S → Home S → S
  inside_home d none = d
  inside_home d (some x) = inside d x

  same_slot : (s r : S) → some (Some s) ≡ some (Some r) → s ≡ r
  unfolding inside_home
  same_slot s r e = ap (inside_home s) e

  not_else : (s : S) (n : ℕ) → n < 4 → (n ≡ 0 → some (Some s) ≡ some None) → (n ≡ 1 → some (Some s) ≡ none) → (n ≡ 3 → some (Some s) ≡ none) → n ≢ 2 → ⊥
  not_else s n lt a b c ne = dite (ℕ_discrete n 0) (λ z. no_seed s (sym (some-injective (Some s) None (a z))))
      (λ nz. dite (ℕ_discrete n 1) (λ z. some-ne-none (Some s) (b z)) (λ no. some-ne-none (Some s) (c (omega arith))))

  -- one slot more
  pub held_more : (xs ys : List (Slot S)) → held (xs ++ ys) ≡ held xs ++ held ys
  held_more [] ys = refl
  held_more (None ∷ xs) ys = held_more xs ys
  held_more (Some s ∷ xs) ys = ap (λ l. s ∷ l) (held_more xs ys)

  pub held_few : (x : Slot S) → length (held_then x []) ≤ 1
  held_few None = omega arith
  held_few (Some s) = omega arith

module _ {S : Type 0} (circuit : S → Parts) where
  pub opens : (t : Terms) (ws : List ℕ) → ws ≡ nils 64 → 0 < t.callers → Kept circuit t ws (map some (replicate 64 None)) (first t ∷ [])
  opens t ws are positive =
      let z : (k : ℕ) → get_or ws k 0 ≡ 0 = λ k. ap (λ l. get_or l k 0) are ∙ zeros 64 k in
      record {
        wide = ap length are ∙ zeros_long 64;
        tall = homes_long S 64;
        parts = omega arith;
        cells = λ k h e. record { small = omega (arith, z k); free = λ _. homes_at 64 k h e; filling = λ o. absurd (omega (arith, z k)); full = λ o. absurd (omega (arith, z k)); emptying = λ o. absurd (omega (arith, z k)) };
        put_claims = λ k. sym (ap (one_if 1) (z k));
        take_claims = λ k. sym (ap (one_if 3) (z k));
        balance = λ f. omega (arith, homes_weigh f 64);
        each = one;
      }
    where
      one : (i : ℕ) (v : View S) → get_elem? (first t ∷ []) i ≡ some v → Fits circuit t v
      one zero v e = subst (Fits circuit t) (some-injective _ _ e)
          record { terms = λ _. refl; idle = λ n. absurd (omega arith); put_of = nothing_at (λ _. Of circuit t); taken_of = nothing_at (λ _. Of circuit t); claim_of = λ j y q. absurd (no_claim (j, Some y) q) }
      one (suc i) v e = absurd (some-ne-none v (sym e))

  of_cell : (t : Terms) (n : ℕ) (s : S) → Cell circuit t n (some (Some s)) → Of circuit t s
  of_cell t n s cell = dite (ℕ_discrete n 2)
      (λ z. let r = cell.full z in subst (Of circuit t) (sym (same_slot s r.0 r.1)) r.2)
      (λ ne. absurd (not_else s n cell.small cell.free cell.filling cell.emptying ne))

  pub ends : (t : Terms) (ws : List ℕ) (hs : List (Home S)) (vs : List (View S)) (xs : List (Slot S)) (id : ℕ) (v : View S) → Kept circuit t ws hs vs → get_elem? vs id ≡ some v → v.parts ≡ t.callers → v.claim ≡ None
      → length hs ≡ length xs → ((k : ℕ) (y : Slot S) → get_elem? hs k ≡ some (some y) → get_elem? xs k ≡ some y)
      → ((f : S → ℕ) → total f v.put ≡ total f v.taken + total f (held xs)) × All (Of circuit t) (held xs)
  ends t ws hs vs xs id v kept me every calm long at =
      let one : (g : View S → ℕ) → g spent ≡ 0 → total g vs ≡ g v = λ g nil. alone g nil vs id v (λ i u e. (kept.each i u e).idle) me (kept.parts ∙ sym every) in
      let home : (k : ℕ) (h : Home S) → get_elem? hs k ≡ some h → (y : Slot S) × (h ≡ some y) = λ k h e.
      let cell = kept.cells k h e in let n : ℕ = get_or ws k 0 in
      let not_filling : n ≢ 1 = λ z. absurd (omega (arith, kept.put_claims k, one (λ u. puts_at k u.claim) refl, ap (puts_at k) calm, ap (one_if 1) z, is_same 1)) in
      let not_emptying : n ≢ 3 = λ z. absurd (omega (arith, kept.take_claims k, one (λ u. takes_at k u.claim) refl, ap (takes_at k) calm, ap (one_if 3) z, is_same 3)) in
      dite (ℕ_discrete n 0) (λ z. (None, cell.free z)) (λ ne. let r = cell.full (omega (arith, cell.small)) in (Some r.0, r.1)) in
      let alike : hs ≡ map some xs = homes_alike hs xs long home at in (
        (λ f. omega (arith, kept.balance f, one (λ u. total f u.put) refl, one (λ u. total f u.taken) refl, one (λ u. weigh_claim f u.claim) refl, ap (weigh_claim f) calm, ap (total (weigh_home f)) alike, weigh_held f xs)),
        all_held (Of circuit t) xs (λ k s e. of_cell t (get_or ws k 0) s (kept.cells k (some (Some s)) (ap (λ l. get_elem? l k) alike ∙ at_mapped xs k (Some s) e))),
      )

module _ {A : Type 0} where
  take_suc : (xs : List A) (i : ℕ) (x : A) → get_elem? xs i ≡ some x → take (suc i) xs ≡ take i xs ++ x ∷ []
  take_suc [] i x e = absurd (some-ne-none x (sym e))
  take_suc (y ∷ ys) zero x e = ap (λ z. z ∷ []) (some-injective y x e)
  take_suc (y ∷ ys) (suc i) x e = ap (λ l. y ∷ l) (take_suc ys i x e)

  pub take_more : (xs : List A) (i : ℕ) (x : A) → get_elem? xs i ≡ some x → take (i + 1) xs ≡ take i xs ++ x ∷ []
  take_more xs i x e = let n : i + 1 ≡ suc i = omega arith in ap (λ (k : ℕ). take k xs) n ∙ take_suc xs i x e

  pub take_whole : (xs : List A) (n : ℕ) → length xs ≤ n → take n xs ≡ xs
  take_whole [] zero h = refl
  take_whole [] (suc n) h = refl
  take_whole (x ∷ xs) zero h = absurd (omega arith)
  take_whole (x ∷ xs) (suc n) h = ap (λ l. x ∷ l) (take_whole xs n (omega arith))

module _ {X : Type 0} (P : X → Type 0) where
  get_front : (ys : List X) (x d : X) (k : ℕ) → k < length ys → get_or (ys ++ x ∷ []) k d ≡ get_or ys k d
  get_front [] x d k h = absurd (omega arith)
  get_front (y ∷ ys) x d zero h = refl
  get_front (y ∷ ys) x d (suc k) h = get_front ys x d k (omega arith)

  get_end : (ys : List X) (x d : X) → get_or (ys ++ x ∷ []) (length ys) d ≡ x
  get_end [] x d = refl
  get_end (y ∷ ys) x d = get_end ys x d

  pub all_popped : (xs ys : List X) (x : X) → xs ≡ ys ++ x ∷ [] → All P xs → All P ys × P x
  all_popped xs ys x e h =
      let long : length xs ≡ length ys + 1 = omega (arith, ap length e, length-append ys (x ∷ [])) in (
        (λ k d l. subst P (ap (λ zs. get_or zs k d) e ∙ get_front ys x d k l) (h k d (omega arith))),
        subst P (ap (λ zs. get_or zs (length ys) x) e ∙ get_end ys x x) (h (length ys) x (omega arith)),
      )
