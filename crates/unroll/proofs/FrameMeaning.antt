-- What the clauses of one frame say of its values: they fit, they are legal, and the latches are as the start or the step before says.
use Rattle.std.proofs.Common.{◌≡◌, ◌↔◌, ℕ, zero, suc, ◌+◌, ◌*◌, ◌<◌, ◌≤◌, ◌==◌, inl, inr, Bool, true, false, not, cond, neg_ℤ, List, [], ◌∷◌, ◌++◌, map, filter, length, get_or, drop, refl, sym, ap, ◌∙◌, subst, arith, All, Contains, IsTrue, length-take, length-drop}
use Rattle.std.specs.List.{flat_map, list_any, range_with_len}
use Rattle.std.proofs.lemmas.Bool.{cases_lt, false≢true}
use Rattle.std.proofs.lemmas.List.{get_or-map, length-map, get_or_past}
use Rattle.std.proofs.lemmas.List.FromFn.{length-range_with_len, get_or-range_with_len}
use Rattle.std.proofs.lemmas.List.Elements.{All-nil, All-cons, All-head, All-tail, All-weaker, All-map, filter_passes}
use Rattle.cnf_base.specs.Meaning.{lit_true, Satisfies, value_of as cnf_value}
use Rattle.aig_model.specs.Literal.{value_of}
use Rattle.aig_model.specs.WellFormed.{IsCircuit, latch_lits, next_lits, defined}
use Rattle.aig_model.specs.Meaning.{Assignment, Fits, IsLegal, IsConjunction, IsReset, Agrees, latch_values, next_values}
use Rattle.aig_model.specs.declared.parts.AndGate.{AndGate}
use Rattle.aig_model.specs.declared.parts.Latch.{Latch}
use Rattle.aig_model.specs.declared.parts.Parts.{Parts}
use Rattle.aig_model.specs.declared.parts.Reset.{Reset}
use Rattle.aig_model.specs.declared.parts.Reset.TheVariants.{Zero, One, Free}
use Rattle.aig_model.proofs.Elements.{Contains-nil, Contains-cons_cases}
use Rattle.unroll.specs.declared.start.Start.{Start}
use Rattle.unroll.specs.declared.start.Start.TheVariants as starts
use Rattle.unroll.specs.Starts.{IsStart, Allows}
use Rattle.unroll.specs.Frames.{var_after, lit_after, vars_before, undefined_vars, false_clauses, true_clauses, gate_clauses, step_clauses, reset_clauses, state_clauses, with_value, next_clauses, start_clauses, entry_clauses, frame_clauses}
use Rattle.unroll.proofs.Room.{IsOwn, OwnsLatch, OwnsGate, constraints_own, latches_own, gates_own, next_before, undefined_below}
use Rattle.unroll.proofs.UndefinedVars.{is_undefined, any_true, any_false}
use Rattle.unroll.proofs.Truth.{iff_trans, all_iff, eq_iff, or-false, not_true, sat_append, sat_flat_map, sat_units, Reads, frame_after, read_var, read_lit, has_value, gate_lits, next_lits_agree}

-- the values of step t
abbrev pub frame : Parts → ℕ → List Bool → Assignment
frame c t bits = frame_after (c.top + 1) (vars_before c t) bits

pub frame_size : (w before : ℕ) (bits : List Bool) → before + w ≤ length bits → length (frame_after w before bits) ≡ w
frame_size w before bits room = omega (arith, length-take w (drop before bits), length-drop before bits)

-- ---- variables that are false
false_var : (w before : ℕ) (bits : List Bool) (x : ℕ) → x < w
    → (lit_true (cnf_value bits) (neg_ℤ (var_after before x)) ≡ true) ↔ (get_or (frame_after w before bits) x false ≡ false)
false_var w before bits x h =
    iff_trans (eq_iff (not (cnf_value bits (suc (before + x)))) (not (get_or (frame_after w before bits) x false)) true (ap not (read_var w before bits x h)))
    (not_true (get_or (frame_after w before bits) x false))

falses : (w before : ℕ) (bits : List Bool) (vars : List ℕ) → All (λ x. x < w) vars
    → Satisfies (cnf_value bits) (false_clauses before vars) ↔ All (λ x. get_or (frame_after w before bits) x false ≡ false) vars
falses w before bits vars within =
    iff_trans (sat_units (cnf_value bits) (λ x. neg_ℤ (var_after before x)) vars)
    (all_iff (λ x. x < w) (λ x. lit_true (cnf_value bits) (neg_ℤ (var_after before x)) ≡ true) (λ x. get_or (frame_after w before bits) x false ≡ false) vars within
    (false_var w before bits))

-- what passes a test stands in what the test keeps
kept_tail : (P : ℕ → Type 0) (b : Bool) (x : ℕ) (xs : List ℕ) → All P (cond b (x ∷ xs) xs) → All P xs
kept_tail P true x xs all = All-tail P x xs all
kept_tail P false x xs all = all

kept_head : (P : ℕ → Type 0) (b : Bool) (x : ℕ) (xs : List ℕ) → b ≡ true → All P (cond b (x ∷ xs) xs) → P x
kept_head P true x xs e all = All-head P x xs all
kept_head P false x xs e all = absurd (false≢true e)

unfiltered : (test : ℕ → Bool) (P : ℕ → Type 0) (xs : List ℕ) → All P (filter test xs) → (x : ℕ) → Contains xs x → test x ≡ true → P x
unfiltered test P [] all x h e = absurd (Contains-nil x h)
unfiltered test P (y ∷ ys) all x h e =
    elim (Contains-cons_cases y x ys h) [
      | inl same ↦ subst P same (kept_head P (test y) y (filter test ys) (ap test same ∙ e) all)
      | inr rest ↦ unfiltered test P ys (kept_tail P (test y) y (filter test ys) all) x rest e
    ]

in_range : (n k : ℕ) → k < n → Contains (range_with_len 1 n) (suc k)
in_range n k h = (k, omega (arith, length-range_with_len 1 n), get_or-range_with_len 1 n k (suc k) h ∙ (omega arith))

undefined_false : (c : Parts) (a : Assignment) → length a ≡ c.top + 1 → get_or a 0 false ≡ false → All (λ x. get_or a x false ≡ false) (undefined_vars c)
    → (v : ℕ) → ¬ Contains (defined c) v → get_or a v false ≡ false
undefined_false c a size constant all zero none = constant
undefined_false c a size constant all (suc k) none =
    elim (cases_lt k c.top) [
      | inl h ↦ unfiltered (is_undefined c) (λ x. get_or a x false ≡ false) (range_with_len 1 c.top) all (suc k) (in_range c.top k h) (ap not (any_false (defined c) (suc k) none))
      | inr past ↦ get_or_past a (suc k) false (omega arith)
    ]

not_defined : (c : Parts) (v : ℕ) → is_undefined c v ≡ true → ¬ Contains (defined c) v
not_defined c v e h = let said : not (list_any (λ w. w == v) (defined c)) ≡ false = ap not (any_true (defined c) v h) in false≢true (sym said ∙ e)

undefined_are : (c : Parts) (a : Assignment) → Fits c a → All (λ x. get_or a x false ≡ false) (undefined_vars c)
undefined_are c a fits =
    All-weaker (λ x. is_undefined c x ≡ true) (λ x. get_or a x false ≡ false) (λ x e. fits.undefined x (not_defined c x e)) (undefined_vars c)
    (filter_passes (is_undefined c) (range_with_len 1 c.top))

vars_below : (c : Parts) → All (λ x. x < c.top + 1) (0 ∷ undefined_vars c)
vars_below c =
    All-cons (λ x. x < c.top + 1) 0 (undefined_vars c) (omega arith)
    (All-weaker (λ x. x ≤ c.top) (λ x. x < c.top + 1) (λ x h. omega arith) (undefined_vars c) (undefined_below c))

-- ---- gates and constraints
gates_mean : (c : Parts) (before : ℕ) (bits : List Bool) → IsCircuit c
    → Satisfies (cnf_value bits) (flat_map (gate_clauses before) c.gates) ↔ All (IsConjunction (frame_after (c.top + 1) before bits)) c.gates
gates_mean c before bits ok =
    let v = cnf_value bits in
    let w = c.top + 1 in
    let a = frame_after w before bits in
    iff_trans (sat_flat_map v (gate_clauses before) c.gates)
    (all_iff (OwnsGate c) (λ (g : AndGate). Satisfies v (gate_clauses before g)) (IsConjunction a) c.gates (gates_own c ok)
    (λ (g : AndGate) own.
    gate_lits v (lit_after before g.lhs) (lit_after before g.left) (lit_after before g.right) (value_of a g.lhs) (value_of a g.left) (value_of a g.right)
    (read_lit w before bits g.lhs (omega (arith, own.lhs))) (read_lit w before bits g.left (omega (arith, own.left))) (read_lit w before bits g.right (omega (arith, own.right)))))

constraints_mean : (c : Parts) (before : ℕ) (bits : List Bool) → IsCircuit c
    → Satisfies (cnf_value bits) (true_clauses before c.constraints) ↔ IsLegal c (frame_after (c.top + 1) before bits)
constraints_mean c before bits ok =
    let v = cnf_value bits in
    let w = c.top + 1 in
    let a = frame_after w before bits in
    iff_trans (sat_units v (lit_after before) c.constraints)
    (all_iff (IsOwn c) (λ lit. lit_true v (lit_after before lit) ≡ true) (λ lit. IsTrue (value_of a lit)) c.constraints (constraints_own c ok)
    (λ lit own. eq_iff (lit_true v (lit_after before lit)) (value_of a lit) true ((read_lit w before bits lit (omega (arith, own))).own)))

-- ---- one step
pub step_means : (c : Parts) (before : ℕ) (bits : List Bool) → IsCircuit c → before + c.top + 1 ≤ length bits
    → Satisfies (cnf_value bits) (step_clauses c before) ↔ (Fits c (frame_after (c.top + 1) before bits) × IsLegal c (frame_after (c.top + 1) before bits))
step_means c before bits ok room =
    let v = cnf_value bits in
    let w = c.top + 1 in
    let a = frame_after w before bits in
    let IsFalse : ℕ → Type 0 = λ x. get_or a x false ≡ false in
    let size : length a ≡ c.top + 1 = frame_size w before bits (omega arith) in
    let first = false_clauses before (0 ∷ undefined_vars c) in
    let second = flat_map (gate_clauses before) c.gates in
    let third = true_clauses before c.constraints in
    let false_here = falses w before bits (0 ∷ undefined_vars c) (vars_below c) in (
      λ h.
          let parts = (sat_append v (first ++ second) third).0 h in
          let front = (sat_append v first second).0 parts.0 in
          let all = false_here.0 front.0 in
          let constant = All-head IsFalse 0 (undefined_vars c) all in (
            record {
              size = size;
              constant = constant;
              undefined = undefined_false c a size constant (All-tail IsFalse 0 (undefined_vars c) all);
              gates = (gates_mean c before bits ok).0 front.1;
            },
            (constraints_mean c before bits ok).0 parts.1,
          ),
      λ h.
          let fits = h.0 in
          let all : All IsFalse (0 ∷ undefined_vars c) = All-cons IsFalse 0 (undefined_vars c) fits.constant (undefined_are c a fits) in
          (sat_append v (first ++ second) third).1
          ((sat_append v first second).1 (false_here.1 all, (gates_mean c before bits ok).1 fits.gates), (constraints_mean c before bits ok).1 h.1),
    )

-- ---- the latches
reset_means : (v : ℕ → Bool) (lit : ℕ) (r : Reset) (x : Bool) → Reads v (lit_after 0 lit) x → Satisfies v (reset_clauses lit r) ↔ Agrees r x
reset_means v lit Zero x reads = (
  λ h. (not_true x).0 (sym reads.negation ∙ (sym (or-false (lit_true v (neg_ℤ (lit_after 0 lit)))) ∙ h.0)),
  λ e. (or-false (lit_true v (neg_ℤ (lit_after 0 lit))) ∙ (reads.negation ∙ (not_true x).1 e), tt),
)
reset_means v lit One x reads = (
  λ h. sym reads.own ∙ (sym (or-false (lit_true v (lit_after 0 lit))) ∙ h.0),
  λ e. (or-false (lit_true v (lit_after 0 lit)) ∙ (reads.own ∙ e), tt),
)
reset_means v lit Free x reads = (λ h. tt, λ h. tt)

pub latch_at : (c : Parts) (a : Assignment) (k : ℕ) (l : Latch) → k < length c.latches → get_or (latch_values c a) k false ≡ value_of a (get_or c.latches k l).lit
latch_at c a k l h =
    get_or-map (value_of a) (latch_lits c.latches) k 0 false (omega (arith, length-map c.latches (λ (l : Latch). l.lit)))
    ∙ ap (value_of a) (get_or-map (λ (l : Latch). l.lit) c.latches k l 0 h)

pub state_size : (c : Parts) (a : Assignment) → length (latch_values c a) ≡ length c.latches
state_size c a = length-map (latch_lits c.latches) (value_of a) ∙ length-map c.latches (λ (l : Latch). l.lit)

resets_mean : (c : Parts) (bits : List Bool) → IsCircuit c
    → Satisfies (cnf_value bits) (flat_map (λ (l : Latch). reset_clauses l.lit l.reset) c.latches) ↔ IsReset c (latch_values c (frame_after (c.top + 1) 0 bits))
resets_mean c bits ok =
    let v = cnf_value bits in
    let w = c.top + 1 in
    let a = frame_after w 0 bits in
    let each = iff_trans (sat_flat_map v (λ (l : Latch). reset_clauses l.lit l.reset) c.latches)
    (all_iff (OwnsLatch c) (λ (l : Latch). Satisfies v (reset_clauses l.lit l.reset)) (λ (l : Latch). Agrees l.reset (value_of a l.lit)) c.latches (latches_own c ok)
    (λ (l : Latch) own. reset_means v l.lit l.reset (value_of a l.lit) (read_lit w 0 bits l.lit (omega (arith, own.lit))))) in (
      λ h. record {
        size = state_size c a;
        agrees = λ k l inside. subst (Agrees (get_or c.latches k l).reset) (sym (latch_at c a k l inside)) (each.0 h k l inside);
      },
      λ is. each.1 (λ k l inside. subst (Agrees (get_or c.latches k l).reset) (latch_at c a k l inside) (is.agrees k l inside)),
    )

state_means : (v : ℕ → Bool) (a : Assignment) (lits : List ℕ) (given : List Bool) → All (λ lit. Reads v (lit_after 0 lit) (value_of a lit)) lits
    → length given ≡ length lits → Satisfies v (state_clauses lits given) ↔ (map (value_of a) lits ≡ given)
state_means v a [] [] reads size = (λ h. refl, λ e. tt)
state_means v a [] (b ∷ given) reads size = absurd (omega (arith, size))
state_means v a (lit ∷ lits) [] reads size = absurd (omega (arith, size))
state_means v a (lit ∷ lits) (b ∷ given) reads size =
    let P : ℕ → Type 0 = λ lit. Reads v (lit_after 0 lit) (value_of a lit) in
    let here = has_value v (lit_after 0 lit) (value_of a lit) b (All-head P lit lits reads) in
    let rest = state_means v a lits given (All-tail P lit lits reads) (omega (arith, size)) in
    let one = or-false (lit_true v (with_value (lit_after 0 lit) b)) in (
      λ h. ap (λ x. x ∷ map (value_of a) lits) (here.0 (sym one ∙ h.0)) ∙ ap (λ xs. b ∷ xs) (rest.0 h.1),
      λ e.
          let first : value_of a lit ≡ b = ap (λ (xs : List Bool). get_or xs 0 false) e in
          let others : map (value_of a) lits ≡ given = ap (λ (xs : List Bool). drop 1 xs) e in (one ∙ here.1 first, rest.1 others),
    )

next_values_agree : (a p : Assignment) (latches : List Latch)
    → All (λ (l : Latch). value_of a l.lit ≡ value_of p l.next) latches ↔ (map (value_of a) (latch_lits latches) ≡ map (value_of p) (next_lits latches))
next_values_agree a p [] = (λ h. refl, λ e. All-nil (λ (l : Latch). value_of a l.lit ≡ value_of p l.next))
next_values_agree a p (l ∷ latches) =
    let P : Latch → Type 0 = λ (l : Latch). value_of a l.lit ≡ value_of p l.next in
    let rest = next_values_agree a p latches in (
      λ all. ap (λ x. x ∷ map (value_of a) (latch_lits latches)) (All-head P l latches all) ∙ ap (λ xs. value_of p l.next ∷ xs) (rest.0 (All-tail P l latches all)),
      λ e.
          let first : value_of a l.lit ≡ value_of p l.next = ap (λ (xs : List Bool). get_or xs 0 false) e in
          let others : map (value_of a) (latch_lits latches) ≡ map (value_of p) (next_lits latches) = ap (λ (xs : List Bool). drop 1 xs) e in
          All-cons P l latches first (rest.1 others),
    )

nexts_mean : (c : Parts) (earlier before : ℕ) (bits : List Bool) → IsCircuit c
    → Satisfies (cnf_value bits) (flat_map (next_clauses earlier before) c.latches)
    ↔ (latch_values c (frame_after (c.top + 1) before bits) ≡ next_values c (frame_after (c.top + 1) earlier bits))
nexts_mean c earlier before bits ok =
    let v = cnf_value bits in
    let w = c.top + 1 in
    let a = frame_after w before bits in
    let p = frame_after w earlier bits in
    iff_trans (sat_flat_map v (next_clauses earlier before) c.latches)
    (iff_trans
    (all_iff (OwnsLatch c) (λ (l : Latch). Satisfies v (next_clauses earlier before l)) (λ (l : Latch). value_of a l.lit ≡ value_of p l.next) c.latches (latches_own c ok)
    (λ (l : Latch) own.
    next_lits_agree v (lit_after before l.lit) (lit_after earlier l.next) (value_of a l.lit) (value_of p l.next) (read_lit w before bits l.lit (omega (arith, own.lit)))
    (read_lit w earlier bits l.next (omega (arith, own.next)))))
    (next_values_agree a p c.latches))

-- the state at step 0 is one that the start allows, and later it is what the step before hands on
abbrev pub EntryIs : Parts → Start → List Bool → ℕ → Type 0
EntryIs c start bits zero = Allows c start (latch_values c (frame c 0 bits))
EntryIs c start bits (suc t) = latch_values c (frame c (suc t) bits) ≡ next_values c (frame c t bits)

pub first_frame : (c : Parts) (bits : List Bool) → frame c 0 bits ≡ frame_after (c.top + 1) 0 bits
first_frame c bits = let e : 0 * (c.top + 1) ≡ 0 = omega arith in ap (λ n. frame_after (c.top + 1) n bits) e

own_latch_lits : (c : Parts) (bits : List Bool) → IsCircuit c
    → All (λ lit. Reads (cnf_value bits) (lit_after 0 lit) (value_of (frame_after (c.top + 1) 0 bits) lit)) (latch_lits c.latches)
own_latch_lits c bits ok =
    All-map (λ lit. Reads (cnf_value bits) (lit_after 0 lit) (value_of (frame_after (c.top + 1) 0 bits) lit)) (λ (l : Latch). l.lit) c.latches
    (All-weaker (OwnsLatch c) (λ (l : Latch). Reads (cnf_value bits) (lit_after 0 l.lit) (value_of (frame_after (c.top + 1) 0 bits) l.lit))
    (λ (l : Latch) own. read_lit (c.top + 1) 0 bits l.lit (omega (arith, own.lit))) c.latches (latches_own c ok))

start_means : (c : Parts) (start : Start) (bits : List Bool) → IsCircuit c → IsStart c start
    → Satisfies (cnf_value bits) (start_clauses c start) ↔ Allows c start (latch_values c (frame_after (c.top + 1) 0 bits))
start_means c starts.Any bits ok is = (λ h. state_size c (frame_after (c.top + 1) 0 bits), λ h. tt)
start_means c starts.Reset bits ok is = resets_mean c bits ok
start_means c (starts.State given) bits ok is =
    state_means (cnf_value bits) (frame_after (c.top + 1) 0 bits) (latch_lits c.latches) given (own_latch_lits c bits ok)
    (is ∙ sym (length-map c.latches (λ (l : Latch). l.lit)))

entry_means : (c : Parts) (start : Start) (bits : List Bool) (t : ℕ) → IsCircuit c → IsStart c start
    → Satisfies (cnf_value bits) (entry_clauses c start t) ↔ EntryIs c start bits t
entry_means c start bits zero ok is =
    subst (λ (a : Assignment). Satisfies (cnf_value bits) (start_clauses c start) ↔ Allows c start (latch_values c a)) (sym (first_frame c bits))
    (start_means c start bits ok is)
entry_means c start bits (suc t) ok is = nexts_mean c (vars_before c t) (vars_before c (suc t)) bits ok

-- ---- the whole frame
pub record FrameIs (c : Parts) (start : Start) (bits : List Bool) (t : ℕ) : Type 0 where
  pub fits : Fits c (frame c t bits)
  pub legal : IsLegal c (frame c t bits)
  pub entry : EntryIs c start bits t

pub frame_means : (c : Parts) (start : Start) (bits : List Bool) (t : ℕ) → IsCircuit c → IsStart c start → vars_before c (t + 1) ≤ length bits
    → Satisfies (cnf_value bits) (frame_clauses c start t) ↔ FrameIs c start bits t
frame_means c start bits t ok is room =
    let v = cnf_value bits in
    let step = step_means c (vars_before c t) bits ok (omega (arith, next_before c t)) in
    let entry = entry_means c start bits t ok is in
    let whole = sat_append v (step_clauses c (vars_before c t)) (entry_clauses c start t) in (
      λ h.
          let parts = whole.0 h in
          let both = step.0 parts.0 in record { fits = both.0; legal = both.1; entry = entry.0 parts.1 },
      λ f. whole.1 (step.1 (f.fits, f.legal), entry.1 f.entry),
    )
