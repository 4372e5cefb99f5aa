-- The literals of the formulas are of their variables.
use Rattle.std.proofs.Common.{◌≡◌, ℕ, zero, suc, ◌+◌, ◌%◌, ◌/◌, ◌<◌, ◌≤◌, ◌==◌, Bool, true, false, if◌then◌else◌, ℤ, pos, negsuc, neg_ℤ, nat_abs, List, [], ◌∷◌, map, get_or, length, refl, ap, arith, All}
use Rattle.std.proofs.lemmas.List.{length-map}
use Rattle.std.proofs.lemmas.List.Elements.{All-nil, All-cons, All-head, All-tail, All-map, All-weaker}
use Rattle.cnf_base.specs.Meaning.{IsWithin}
use Rattle.aig_model.specs.Literal.{var, is_negated}
use Rattle.aig_model.specs.WellFormed.{IsCircuit, IsInRange, latch_lits, next_lits}
use Rattle.aig_model.specs.SignalList.{IsSignals}
use Rattle.aig_model.specs.LatchClauses.{NamesLatch, IsLatchClause}
use Rattle.aig_model.specs.declared.parts.Latch.{Latch}
use Rattle.aig_model.specs.declared.parts.Parts.{Parts}
use Rattle.unroll.specs.Frames.{var_after, lit_after, with_value}
use Rattle.unroll.specs.Queries.{goal_lits, blocking_clause, latch_lit, latch_clause}
use Rattle.unroll.specs.Building.{HasLit, NamesItem}
use Rattle.unroll.proofs.Room.{OwnsLatch, latches_own}

pub nat_abs-neg : (z : ℤ) → nat_abs (neg_ℤ z) ≡ nat_abs z
nat_abs-neg (pos zero) = refl
nat_abs-neg (pos (suc n)) = refl
nat_abs-neg (negsuc n) = refl

pub lit_within : (n before lit : ℕ) → HasLit n before lit → nat_abs (lit_after before lit) ≤ n
lit_within n before lit h =
    elim (is_negated lit) as (λ b. nat_abs (if b then neg_ℤ (var_after before (var lit)) else var_after before (var lit)) ≤ n) [
      | true ↦ omega arith
      | false ↦ omega arith
    ]

pub value_within : (n : ℕ) (l : ℤ) (value : Bool) → nat_abs l ≤ n → nat_abs (with_value l value) ≤ n
value_within n l true h = h
value_within n l false h = omega (arith, nat_abs-neg l)

pub goal_within : (n before : ℕ) (lits : List ℕ) (goal : ℕ) → All (HasLit n before) lits → IsWithin n (goal_lits before lits goal)
goal_within n before [] goal all = All-nil (λ l. nat_abs l ≤ n)
goal_within n before (lit ∷ lits) goal all =
    All-cons (λ l. nat_abs l ≤ n) (with_value (lit_after before lit) (goal % 2 == 1)) (goal_lits before lits (goal / 2))
    (value_within n (lit_after before lit) (goal % 2 == 1) (lit_within n before lit (All-head (HasLit n before) lit lits all)))
    (goal_within n before lits (goal / 2) (All-tail (HasLit n before) lit lits all))

pub negations_within : (n : ℕ) (lits : List ℤ) → IsWithin n lits → IsWithin n (map neg_ℤ lits)
negations_within n lits all =
    All-map (λ l. nat_abs l ≤ n) neg_ℤ lits (All-weaker (λ l. nat_abs l ≤ n) (λ l. nat_abs (neg_ℤ l) ≤ n) (λ l h. omega (arith, nat_abs-neg l)) lits all)

pub blocking_within : (n before : ℕ) (lits : List ℕ) (goal : ℕ) → All (HasLit n before) lits → IsWithin n (blocking_clause before lits goal)
blocking_within n before lits goal all = negations_within n (goal_lits before lits goal) (goal_within n before lits goal all)

-- an item of such a list
pub item_within : (n : ℕ) (items : List ℤ) (i : ℕ) (l : ℤ) → i < length items → l ≡ get_or items i l → IsWithin n items → nat_abs l ≤ n
item_within n items i l inside at all = omega (arith, ap nat_abs at, all i l inside)

-- ---- clauses over latches
pub latch_lit_within : (n : ℕ) (lits : List ℕ) (l : ℤ) → All (HasLit n 0) lits → NamesItem (length lits) l → nat_abs (latch_lit lits l) ≤ n
latch_lit_within n lits (pos zero) all names = absurd names
latch_lit_within n lits (pos (suc k)) all names = lit_within n 0 (get_or lits k 0) (all k 0 names)
latch_lit_within n lits (negsuc k) all names = omega (arith, nat_abs-neg (lit_after 0 (get_or lits k 0)), lit_within n 0 (get_or lits k 0) (all k 0 names))

pub latch_clause_within : (n : ℕ) (lits : List ℕ) (clause : List ℤ) → All (HasLit n 0) lits → All (NamesItem (length lits)) clause
    → IsWithin n (latch_clause lits clause)
latch_clause_within n lits clause all names =
    All-map (λ l. nat_abs l ≤ n) (latch_lit lits) clause
    (All-weaker (NamesItem (length lits)) (λ l. nat_abs (latch_lit lits l) ≤ n) (λ l h. latch_lit_within n lits l all h) clause names)

pub latch_lits_have_room : (c : Parts) (n : ℕ) → IsCircuit c → c.top + 1 ≤ n → All (HasLit n 0) (latch_lits c.latches)
latch_lits_have_room c n ok room =
    All-map (HasLit n 0) (λ (l : Latch). l.lit) c.latches
    (All-weaker (OwnsLatch c) (λ (l : Latch). HasLit n 0 l.lit) (λ (l : Latch) own. omega (arith, own.lit)) c.latches (latches_own c ok))

pub next_lits_have_room : (c : Parts) (n : ℕ) → IsCircuit c → c.top + 1 ≤ n → All (HasLit n 0) (next_lits c.latches)
next_lits_have_room c n ok room =
    All-map (HasLit n 0) (λ (l : Latch). l.next) c.latches
    (All-weaker (OwnsLatch c) (λ (l : Latch). HasLit n 0 l.next) (λ (l : Latch) own. omega (arith, own.next)) c.latches (latches_own c ok))

pub named_items : (c : Parts) (f : Latch → ℕ) (l : ℤ) → NamesLatch c l → NamesItem (length (map f c.latches)) l
named_items c f (pos zero) names = names
named_items c f (pos (suc k)) names = omega (arith, length-map c.latches f, names)
named_items c f (negsuc k) names = omega (arith, length-map c.latches f, names)

pub clause_names : (c : Parts) (f : Latch → ℕ) (clause : List ℤ) → IsLatchClause c clause → All (NamesItem (length (map f c.latches))) clause
clause_names c f clause is = All-weaker (NamesLatch c) (NamesItem (length (map f c.latches))) (named_items c f) clause is.latches

pub signals_have_room : (c : Parts) (n before : ℕ) (sig : List ℕ) → IsSignals c sig → before + c.top + 1 ≤ n → All (HasLit n before) sig
signals_have_room c n before sig are room = All-weaker (IsInRange c.top) (HasLit n before) (λ lit h. omega arith) sig are.in_range
