-- What sections say whose demands are met: the variables stand one after another, and each literal is within the greatest.
use Rattle.std.proofs.Common.{◌≡◌, ◌≢◌, ℕ, zero, suc, ◌+◌, ◌*◌, ◌/◌, ◌<◌, ◌≤◌, ◌&&◌, not, nat_le, nat_lt, None, List, [], ◌∷◌, map, length, AllPairs, Contains, refl, sym, ap, ◌∙◌, subst, inl, inr, arith, ◌^◌}
use Rattle.std.specs.List.{AllByRecursion}
use Rattle.std.proofs.lemmas.Bool.{cases_eq}
use Rattle.std.proofs.lemmas.Bool.Decides.{nat_tests}
use Rattle.std.proofs.lemmas.List.Elements.{All-from_recursion}
use Rattle.std.proofs.lemmas.List.Kept.{AllPairs-cons}
use Rattle.aig_model.specs.Literal.{var}
use Rattle.aig_model.specs.WellFormed.{IsInRange, IsDefining, IsOrdered, latch_lits, left_sides, latch_literals, gate_literals, next_lits, gate_inputs}
use Rattle.aig_model.proofs.Elements.{Contains-head, Contains-later}
use Rattle.text_words.specs.Text.{Rest, fields, next_line}
use Rattle.aig_ascii.specs.Demands.{demand}
use Rattle.aig_ascii.specs.Fields.{want_demands, wants_demands, line_demands}
use Rattle.aig_ascii.specs.Sections.{literal, number_at, lits_of}
use Rattle.aig_ascii.specs.FirstFaults.{first_unmet}
use Rattle.aig_ascii.proofs.RightLines.{literal-field, both-met}
use Rattle.aig_ascii.proofs.FirstFaults.{met-front, met-rest, met-first}
use Rattle.aig_binary.specs.BinaryOrder.{lits_from}
use Rattle.aig_binary.specs.Kinds.{aig_kind}
use Rattle.aig_binary.specs.Deltas.{delta_value, is_cut, is_short, behind_delta}
use Rattle.aig_binary.specs.Sections.{lit_wants, latch_wants, lits_demands, latches_demands, latches_of, delta_demands, left_at, right_at, gate_demands, behind_gate, gates_demands, gates_at}
use Rattle.aig_binary.specs.declared.fault.AigKind.TheVariants.{Truncated, Delta}

-- ---- literals one after another

pub lits-range : (top v n : ℕ) → v + n ≤ top + 1 → AllByRecursion (IsInRange top) (lits_from v n)
lits-range top v zero h = tt
lits-range top v (suc n) h = (omega arith, lits-range top (v + 1) n (omega arith))

pub lits-defining : (v n : ℕ) → 1 ≤ v → AllByRecursion IsDefining (lits_from v n)
lits-defining v zero h = tt
lits-defining v (suc n) h = (record { even = omega arith; positive = omega arith }, lits-defining (v + 1) n (omega arith))

lits-above : (u v n : ℕ) → u < v → AllByRecursion (λ w. u ≢ w) (map var (lits_from v n))
lits-above u v zero h = tt
lits-above u v (suc n) h = ((λ e. let half : 2 * v / 2 ≡ v = omega arith in omega arith), lits-above u (v + 1) n (omega arith))

pub lits-apart : (v n : ℕ) → AllPairs (λ u w. u ≢ w) (map var (lits_from v n))
lits-apart v zero = λ i j d order within. absurd (omega arith)
lits-apart v (suc n) =
    let half : 2 * v / 2 ≡ v = omega arith in
    AllPairs-cons (λ u w. u ≢ w) (var (2 * v)) (map var (lits_from (v + 1) n))
    (All-from_recursion (λ w. var (2 * v) ≢ w) (map var (lits_from (v + 1) n)) (lits-above (var (2 * v)) (v + 1) n (omega arith))) (lits-apart (v + 1) n)

pub lits-contain : (v n x : ℕ) → v ≤ x → x < v + n → Contains (map var (lits_from v n)) x
lits-contain v zero x low high = absurd (omega arith)
lits-contain v (suc n) x low high =
    let half : 2 * v / 2 ≡ v = omega arith in
    elim (cases_eq v x) [
      | inl e ↦ Contains-head (var (2 * v)) x (map var (lits_from (v + 1) n)) (half ∙ e)
      | inr ne ↦ Contains-later (var (2 * v)) x (map var (lits_from (v + 1) n)) (lits-contain (v + 1) n x (omega arith) (omega arith))
    ]

not-below : (u v n : ℕ) → u < v → ¬ Contains (map var (lits_from v n)) u
not-below u v n h found = All-from_recursion (λ w. u ≢ w) (map var (lits_from v n)) (lits-above u v n h) found.0 u found.1 (sym found.2)

pub latch_lits-of : (v n : ℕ) (r : Rest) → latch_lits (latches_of v n r) ≡ lits_from v n
latch_lits-of v zero r = refl
latch_lits-of v (suc n) r = ap (λ ls. 2 * v ∷ ls) (latch_lits-of (v + 1) n (next_line r))

pub left_sides-at : (v n : ℕ) (r : Rest) → left_sides (gates_at v n r) ≡ lits_from v n
left_sides-at v zero r = refl
left_sides-at v (suc n) r = ap (λ ls. 2 * v ∷ ls) (left_sides-at (v + 1) n (behind_gate r))

pub length-latches_of : (v n : ℕ) (r : Rest) → length (latches_of v n r) ≡ n
length-latches_of v zero r = refl
length-latches_of v (suc n) r = ap suc (length-latches_of (v + 1) n (next_line r))

pub length-gates_at : (v n : ℕ) (r : Rest) → length (gates_at v n r) ≡ n
length-gates_at v zero r = refl
length-gates_at v (suc n) r = ap suc (length-gates_at (v + 1) n (behind_gate r))

-- ---- lines

pub right-lits : (top n : ℕ) (r : Rest) → first_unmet (lits_demands top n r) ≡ None → AllByRecursion (IsInRange top) (lits_of n r)
right-lits top zero r m = tt
right-lits top (suc n) r m =
    let line = line_demands aig_kind (lit_wants top) r in
    let more = lits_demands top n (next_line r) in
    let here = met-front (want_demands aig_kind r (literal aig_kind top) (fields r)) [] (met-front (wants_demands aig_kind r (fields r) (lit_wants top)) _ (met-front line more m)) in
    ((literal-field aig_kind r top (fields r) here).0, right-lits top n (next_line r) (met-rest line more m))

pub record RightLatches (top v n : ℕ) (r : Rest) : Type 0 where
  pub range : AllByRecursion (IsInRange top) (latch_literals (latches_of v n r))
  pub next : AllByRecursion (IsInRange top) (next_lits (latches_of v n r))

pub right-latches : (top v n : ℕ) (r : Rest) → v + n ≤ top + 1 → first_unmet (latches_demands top v n r) ≡ None → RightLatches top v n r
right-latches top v zero r h m = record { range = tt; next = tt }
right-latches top v (suc n) r h m =
    let line = line_demands aig_kind (latch_wants top (2 * v)) r in
    let more = latches_demands top (v + 1) n (next_line r) in
    let wants = met-front (wants_demands aig_kind r (fields r) (latch_wants top (2 * v))) _ (met-front line more m) in
    let here : IsInRange top (number_at r 0) = (literal-field aig_kind r top (fields r) (met-front (want_demands aig_kind r (literal aig_kind top) (fields r)) _ wants)).0 in
    let rest = right-latches top (v + 1) n (next_line r) (omega arith) (met-rest line more m) in
    record { range = (omega arith, (here, rest.range)); next = (here, rest.next) }

-- ---- gates

record IsWithin (least most : ℕ) (r : Rest) : Type 0 where
  low : least ≤ delta_value r.bytes
  high : delta_value r.bytes ≤ most

right-delta : (least most : ℕ) (r : Rest) → first_unmet (delta_demands least most r) ≡ None → IsWithin least most r
right-delta least most r m =
    let d = delta_value r.bytes in
    let cut = demand (r.at + length r.bytes) Truncated (not (is_cut r.bytes)) in
    let short = demand r.at Delta (is_short r.bytes && nat_lt d (2 ^ 32)) in
    let within = demand r.at Delta (nat_le least d && nat_le d most) in
    let last = (met-first within [] (met-first short (within ∷ []) (met-first cut (short ∷ within ∷ []) m).1).1).0 in
    let both = both-met (nat_le least d) (nat_le d most) last in
    record { low = grind (arith, nat_tests, both.0); high = grind (arith, nat_tests, both.1) }

record RightGate (v : ℕ) (r : Rest) : Type 0 where
  left : left_at (2 * v) r < 2 * v
  right : right_at (2 * v) r ≤ left_at (2 * v) r

right-gate : (v : ℕ) (r : Rest) → first_unmet (gate_demands (2 * v) r) ≡ None → RightGate v r
right-gate v r m =
    let first = delta_demands 1 (2 * v) r in
    let second = delta_demands 0 (left_at (2 * v) r) (behind_delta r) in
    let one = right-delta 1 (2 * v) r (met-front first second m) in
    record { left = omega (arith, one.low, one.high); right = omega arith }

pub record RightGates (top v n : ℕ) (r : Rest) : Type 0 where
  pub range : AllByRecursion (IsInRange top) (gate_literals (gates_at v n r))
  pub inputs : AllByRecursion (IsInRange top) (gate_inputs (gates_at v n r))
  pub ordered : IsOrdered (gates_at v n r)

pub right-gates : (top v n : ℕ) (r : Rest) → v + n ≤ top + 1 → first_unmet (gates_demands v n r) ≡ None → RightGates top v n r
right-gates top v zero r h m = record { range = tt; inputs = tt; ordered = tt }
right-gates top v (suc n) r h m =
    let gate = gate_demands (2 * v) r in
    let more = gates_demands (v + 1) n (behind_gate r) in
    let here = right-gate v r (met-front gate more m) in
    let rest = right-gates top (v + 1) n (behind_gate r) (omega arith) (met-rest gate more m) in
    let left = left_at (2 * v) r in
    let right = right_at (2 * v) r in
    let in_left : IsInRange top left = omega (arith, here.left) in
    let in_right : IsInRange top right = omega (arith, here.left, here.right) in
    let sides = left_sides-at v (suc n) r in
    let apart : (u : ℕ) → u < v → ¬ Contains (map var (left_sides (gates_at v (suc n) r))) u = λ u low. subst (λ (ls : List ℕ). ¬ Contains (map var ls) u) (sym sides) (not-below u v (suc n) low) in
    record {
      range = (omega arith, (in_left, (in_right, rest.range)));
      inputs = (in_left, (in_right, rest.inputs));
      ordered = (apart (var left) (omega (arith, here.left)), apart (var right) (omega (arith, here.left, here.right)), rest.ordered);
    }
