-- The rule of the pool: what holds of its words, its slots and all views between any two steps.
use Rattle.std.specs.Prelude.{◌≡◌, ◌≢◌, ℕ, ◌+◌, ◌-◌, ◌<◌, List, [], ◌∷◌, ◌++◌, length, slice_index, cond, ◌==◌, Option, None, Some}
use mathlib.Core.Option.{none, some}
use mathlib.Core.Option as maybe
use lib.ListN.{get_elem?}
use Rattle.atomic_table.specs.Table.{Me, Step, rest}
use Rattle.aig_model.specs.declared.parts.Parts.{Parts}
use Rattle.seed_pool.specs.declared.view.View.{View}
use Rattle.seed_pool.specs.declared.view.Terms.{Terms}
use Rattle.seed_pool.specs.Lists.{total}

-- a slot has a seed or none, and it is at home with that, or out with a seat
abbrev pub Slot : Type 0 → Type 0
Slot S = Option S

abbrev pub Home : Type 0 → Type 0
Home S = maybe.Option (Slot S)

-- the cell that a seat claims: for a put, or with the seed that it takes
abbrev pub Claim : Type 0 → Type 0
Claim S = Option (ℕ × Slot S)

-- a seat: its view, and the slots that are out with it
abbrev pub Sat : Type 0 → Type 0
Sat S = Me (Slot S) (View S)

module _ {S : Type 0} where
  -- the seed is of the pool's circuit
  abbrev pub Of : (S → Parts) → Terms → S → Type 0
  Of circuit t s = circuit s ≡ t.circuit.value

  -- what a slot weighs, where each seed has a weight
  abbrev pub weigh : (S → ℕ) → Slot S → ℕ
  weigh f None = 0
  weigh f (Some s) = f s

  abbrev pub weigh_home : (S → ℕ) → Home S → ℕ
  weigh_home f none = 0
  weigh_home f (some x) = weigh f x

  -- the seed of a claim to take
  abbrev pub weigh_claim : (S → ℕ) → Claim S → ℕ
  weigh_claim f None = 0
  weigh_claim f (Some c) = weigh f c.1

-- 1 where the word is n, and else 0
abbrev pub one_if : ℕ → ℕ → ℕ
one_if n w = cond (w == n) 1 0

module _ {S : Type 0} where
  -- n where the slot of a claim holds nothing, and else 0
  abbrev pub without : ℕ → Slot S → ℕ
  without n None = n
  without n (Some s) = 0

  abbrev pub within : ℕ → Slot S → ℕ
  within n None = 0
  within n (Some s) = n

  -- 1 where the claim is for a put into the cell k
  abbrev pub puts_at : ℕ → Claim S → ℕ
  puts_at k None = 0
  puts_at k (Some c) = without (one_if k c.0) c.1

  -- 1 where the claim is of the cell k with its seed
  abbrev pub takes_at : ℕ → Claim S → ℕ
  takes_at k None = 0
  takes_at k (Some c) = within (one_if k c.0) c.1

  abbrev pub view : Option Terms → ℕ → List S → List S → Claim S → List (ℕ × ℕ) → View S
  view terms parts put taken claim tried = record { terms = terms; parts = parts; put = put; taken = taken; claim = claim; tried = tried }

  -- a seat that was taken in has nothing
  abbrev pub spent : View S
  spent = view None 0 [] [] None []

  -- a cell: its word is 0 where it is free, 1 where it is being filled, 2 where it is full, 3 where it is being emptied
  pub record Cell (circuit : S → Parts) (t : Terms) (w : ℕ) (h : Home S) : Type 0 where
    pub small : w < 4
    pub free : w ≡ 0 → h ≡ some None
    pub filling : w ≡ 1 → h ≡ none
    pub full : w ≡ 2 → (s : S) × (h ≡ some (Some s)) × Of circuit t s
    pub emptying : w ≡ 3 → h ≡ none

  -- what holds of each view
  pub record Fits (circuit : S → Parts) (t : Terms) (v : View S) : Type 0 where
    pub terms : 0 < v.parts → v.terms ≡ Some t
    pub idle : v.parts ≡ 0 → v ≡ spent
    pub put_of : (k : ℕ) (s : S) → get_elem? v.put k ≡ some s → Of circuit t s
    pub taken_of : (k : ℕ) (s : S) → get_elem? v.taken k ≡ some s → Of circuit t s
    pub claim_of : (k : ℕ) (s : S) → v.claim ≡ Some (k, Some s) → Of circuit t s

  pub record Kept (circuit : S → Parts) (t : Terms) (ws : List ℕ) (hs : List (Home S)) (vs : List (View S)) : Type 0 where
    pub wide : length ws ≡ 64
    pub tall : length hs ≡ 64
    pub parts : total (λ (v : View S). v.parts) vs ≡ t.callers
    pub cells : (k : ℕ) (h : Home S) → get_elem? hs k ≡ some h → Cell circuit t (slice_index ws k) h
    -- a cell is being filled exactly where one view claims it for a put, and being emptied exactly where one claims it with its seed
    pub put_claims : (k : ℕ) → total (λ (v : View S). puts_at k v.claim) vs ≡ one_if 1 (slice_index ws k)
    pub take_claims : (k : ℕ) → total (λ (v : View S). takes_at k v.claim) vs ≡ one_if 3 (slice_index ws k)
    -- however seeds are weighed: what was put is what was taken, what the cells hold and what is claimed to be taken
    pub balance : (f : S → ℕ) → total (λ (v : View S). total f v.put) vs ≡ total (λ (v : View S). total f v.taken) vs + total (weigh_home f) hs + total (λ (v : View S). weigh_claim f v.claim) vs
    pub each : (i : ℕ) (v : View S) → get_elem? vs i ≡ some v → Fits circuit t v

  -- the first caller's view when the pool is made, which stands for all
  abbrev pub first : Terms → View S
  first t = view (Some t) t.callers [] [] None []

  -- a claim step found the word n in the cell k, and lost
  abbrev pub missed : View S → ℕ → ℕ → View S
  missed v k n = view v.terms v.parts v.put v.taken v.claim (v.tried ++ (k, n) ∷ [])

  abbrev pub filling : View S → ℕ → View S
  filling v k = view v.terms v.parts v.put v.taken (Some (k, None)) (v.tried ++ (k, 0) ∷ [])

  abbrev pub filled : View S → S → View S
  filled v s = view v.terms v.parts (v.put ++ s ∷ []) v.taken None v.tried

  abbrev pub lifting : View S → ℕ → S → View S
  lifting v k s = view v.terms v.parts v.put v.taken (Some (k, Some s)) (v.tried ++ (k, 2) ∷ [])

  abbrev pub emptied : View S → S → View S
  emptied v s = view v.terms v.parts v.put (v.taken ++ s ∷ []) None v.tried

  -- one caller is cut off
  abbrev pub rest_of : View S → View S
  rest_of v = view v.terms (v.parts - 1) v.put v.taken v.claim v.tried

  abbrev pub new_caller : View S → View S
  new_caller v = view v.terms 1 [] [] None []

  -- v takes in w
  abbrev pub joined : View S → View S → View S
  joined v w = view v.terms (v.parts + w.parts) (v.put ++ w.put) (v.taken ++ w.taken) v.claim (v.tried ++ w.tried)

  -- ---- what each step tells
  abbrev pub ClaimsPut : Step (Slot S) → Sat S → ℕ → Sat S → Type 0
  ClaimsPut st m n w = (n ≡ 0 → w ≡ (filling m.0 st.word, (st.word, None) ∷ m.1)) × (n ≢ 0 → w ≡ (missed m.0 st.word n, m.1))

  abbrev pub MarksFull : Step (Slot S) → Sat S → ℕ → Sat S → Type 0
  MarksFull st m n w = (s : S) → m.1 ≡ (st.word, Some s) ∷ [] → w ≡ (filled m.0 s, [])

  abbrev pub ClaimsTake : (S → Parts) → Step (Slot S) → Sat S → ℕ → Sat S → Type 0
  ClaimsTake circuit st m n w =
      (n ≡ 2 → (s : S) × (w ≡ (lifting m.0 st.word s, (st.word, Some s) ∷ m.1)) × ((t : Terms) → m.0.terms ≡ Some t → Of circuit t s))
      × (n ≢ 2 → w ≡ (missed m.0 st.word n, m.1))

  abbrev pub MarksFree : Step (Slot S) → Sat S → ℕ → Sat S → Type 0
  MarksFree st m n w = (s : S) → m.0.claim ≡ Some (st.word, Some s) → w ≡ (emptied m.0 s, rest m.1)

  -- ---- what the slots hold
  abbrev pub held_then : Option S → List S → List S
  held_then None l = l
  held_then (Some s) l = s ∷ l

  abbrev pub held : List (Slot S) → List S
  held [] = []
  held (x ∷ xs) = held_then x (held xs)
