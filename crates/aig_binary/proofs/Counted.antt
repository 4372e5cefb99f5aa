-- The lines and the gates of a section, one after another.
use Rattle.std.proofs.Common.{◌≡◌, ℕ, zero, suc, ◌+◌, ◌-◌, ◌*◌, ◌<◌, None, List, [], ◌∷◌, ◌++◌, sym, ap, ◌∙◌, subst, append_assoc, arith}
use Rattle.aig_model.specs.declared.parts.AndGate.{AndGate}
use Rattle.text_words.specs.Text.{Rest, next_line, after_lines}
use Rattle.aig_ascii.specs.Demands.{Demand}
use Rattle.aig_ascii.specs.Fields.{line_demands}
use Rattle.aig_ascii.specs.Sections.{number_at, lits_of}
use Rattle.aig_ascii.specs.FirstFaults.{first_unmet, Fails}
use Rattle.aig_ascii.specs.declared.fault.Fault.{Fault}
use Rattle.aig_ascii.proofs.FirstFaults.{Unmet, first_unmet-behind, fails-front, fails-behind}
use Rattle.aig_binary.specs.Kinds.{aig_kind}
use Rattle.aig_binary.specs.Deltas.{delta_value, behind_delta}
use Rattle.aig_binary.specs.Sections.{lit_wants, latch_wants, latch_of, lits_demands, latches_demands, latches_of, delta_demands, left_at, right_at, gate_demands, gate_at, behind_gate, gates_demands, gates_at, behind_gates}
use Rattle.aig_binary.specs.declared.fault.AigKind.{AigKind}

-- ---- what is left of a section: n items, from the one with variable v on

-- the demands of all items are those of the ones that are left
abbrev pub SameDemands : List (Demand AigKind) → List (Demand AigKind) → Type 0
SameDemands left all = first_unmet left ≡ first_unmet all

pub first-fails : (e : Fault AigKind) (left here rest all : List (Demand AigKind)) → left ≡ here ++ rest → SameDemands left all → Fails e (first_unmet here) → Fails e (first_unmet all)
first-fails e left here rest all split same f = subst (λ (o : Unmet AigKind). Fails e o) same (subst (λ ds. Fails e (first_unmet ds)) (sym split) (fails-front e here rest f))

pub first-met : (left here rest all : List (Demand AigKind)) → left ≡ here ++ rest → SameDemands left all → first_unmet here ≡ None → SameDemands rest all
first-met left here rest all split same met = sym (first_unmet-behind here rest met) ∙ sym (ap first_unmet split) ∙ same

pub one-item : {A : Type 0} (so now left rest all : List A) (x : A) → so ++ left ≡ all → now ≡ so ++ x ∷ [] → left ≡ x ∷ rest → now ++ rest ≡ all
one-item so now left rest all x same pushed split =
    ap (λ xs. xs ++ rest) pushed ∙ append_assoc so (x ∷ []) rest ∙ ap (λ xs. so ++ xs) (sym split) ∙ same

less : (v e : ℕ) → v < e → e - v ≡ suc (e - (v + 1))
less v e h = omega arith

-- ---- latches

pub latches-step : (top v e : ℕ) (r : Rest) → v < e → latches_demands top v (e - v) r ≡ line_demands aig_kind (latch_wants top (2 * v)) r ++ latches_demands top (v + 1) (e - (v + 1)) (next_line r)
latches-step top v e r h = ap (λ n. latches_demands top v n r) (less v e h)

pub latches_of-step : (v e : ℕ) (r : Rest) → v < e → latches_of v (e - v) r ≡ latch_of (2 * v) r ∷ latches_of (v + 1) (e - (v + 1)) (next_line r)
latches_of-step v e r h = ap (λ n. latches_of v n r) (less v e h)

pub after-step : (v e : ℕ) (r : Rest) → v < e → after_lines (e - v) r ≡ after_lines (e - (v + 1)) (next_line r)
after-step v e r h = ap (λ n. after_lines n r) (less v e h)

-- ---- literals

pub lits-step : (top n : ℕ) (r : Rest) → 0 < n → lits_demands top n r ≡ line_demands aig_kind (lit_wants top) r ++ lits_demands top (n - 1) (next_line r)
lits-step top zero r h = absurd (omega arith)
lits-step top (suc n) r h = ap (λ k. line_demands aig_kind (lit_wants top) r ++ lits_demands top k (next_line r)) (let e : n ≡ suc n - 1 = omega arith in e)

pub lits_of-step : (n : ℕ) (r : Rest) → 0 < n → lits_of n r ≡ number_at r 0 ∷ lits_of (n - 1) (next_line r)
lits_of-step zero r h = absurd (omega arith)
lits_of-step (suc n) r h = ap (λ k. number_at r 0 ∷ lits_of k (next_line r)) (let e : n ≡ suc n - 1 = omega arith in e)

pub after-one : (n : ℕ) (r : Rest) → 0 < n → after_lines n r ≡ after_lines (n - 1) (next_line r)
after-one zero r h = absurd (omega arith)
after-one (suc n) r h = ap (λ k. after_lines k (next_line r)) (let e : n ≡ suc n - 1 = omega arith in e)

-- ---- gates

pub gates-step : (v e : ℕ) (r : Rest) → v < e → gates_demands v (e - v) r ≡ gate_demands (2 * v) r ++ gates_demands (v + 1) (e - (v + 1)) (behind_gate r)
gates-step v e r h = ap (λ n. gates_demands v n r) (less v e h)

pub gates_at-step : (v e : ℕ) (r : Rest) → v < e → gates_at v (e - v) r ≡ gate_at (2 * v) r ∷ gates_at (v + 1) (e - (v + 1)) (behind_gate r)
gates_at-step v e r h = ap (λ n. gates_at v n r) (less v e h)

pub behind-step : (v e : ℕ) (r : Rest) → v < e → behind_gates (e - v) r ≡ behind_gates (e - (v + 1)) (behind_gate r)
behind-step v e r h = ap (λ n. behind_gates n r) (less v e h)

-- the second delta of a gate, behind a first one that is right
pub second-fails : (e : Fault AigKind) (lhs first left : ℕ) (r s : Rest) → first_unmet (delta_demands 1 lhs r) ≡ None → first ≡ delta_value r.bytes → left ≡ lhs - first → s ≡ behind_delta r
    → Fails e (first_unmet (delta_demands 0 left s)) → Fails e (first_unmet (gate_demands lhs r))
second-fails e lhs first left r s met d l b f =
    let same : left ≡ left_at lhs r = l ∙ ap (λ n. lhs - n) d in
    let here : Fails e (first_unmet (delta_demands 0 (left_at lhs r) (behind_delta r))) =
    subst (λ (x : Rest). Fails e (first_unmet (delta_demands 0 (left_at lhs r) x))) b (subst (λ (n : ℕ). Fails e (first_unmet (delta_demands 0 n s))) same f) in
    fails-behind e (delta_demands 1 lhs r) (delta_demands 0 (left_at lhs r) (behind_delta r)) met here

pub gate-met : (lhs first left : ℕ) (r s : Rest) → first_unmet (delta_demands 1 lhs r) ≡ None → first ≡ delta_value r.bytes → left ≡ lhs - first → s ≡ behind_delta r
    → first_unmet (delta_demands 0 left s) ≡ None → first_unmet (gate_demands lhs r) ≡ None
gate-met lhs first left r s met d l b m =
    let same : left ≡ left_at lhs r = l ∙ ap (λ n. lhs - n) d in
    first_unmet-behind (delta_demands 1 lhs r) (delta_demands 0 (left_at lhs r) (behind_delta r)) met
    ∙ ap (λ (x : Rest). first_unmet (delta_demands 0 (left_at lhs r) x)) (sym b) ∙ ap (λ (n : ℕ). first_unmet (delta_demands 0 n s)) (sym same) ∙ m

pub gate-is : (lhs first left second right : ℕ) (r s : Rest) → first ≡ delta_value r.bytes → left ≡ lhs - first → s ≡ behind_delta r → second ≡ delta_value s.bytes → right ≡ left - second
    → ◌≡◌ {A = AndGate} (record { lhs = lhs; left = left; right = right }) (gate_at lhs r)
gate-is lhs first left second right r s d l b d2 q =
    let same : left ≡ left_at lhs r = l ∙ ap (λ n. lhs - n) d in
    let other : right ≡ right_at lhs r = q ∙ ap (λ n. n - second) same ∙ ap (λ n. left_at lhs r - n) (d2 ∙ ap (λ (x : Rest). delta_value x.bytes) b) in
    ap (λ (n : ℕ). let g : AndGate = record { lhs = lhs; left = n; right = right } in g) same ∙ ap (λ (n : ℕ). let g : AndGate = record { lhs = lhs; left = left_at lhs r; right = n } in g) other
