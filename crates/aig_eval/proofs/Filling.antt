-- What a step's values are made of: inputs and latches assigned, and then the gates solved in their order.
use Rattle.std.proofs.Common.{◌≡◌, ◌≢◌, ℕ, zero, suc, ◌+◌, ◌<◌, ◌≤◌, inl, inr, Bool, false, cond, not, List, [], ◌∷◌, ◌++◌, map, set, take, replicate, length, get_or, refl, sym, ap, ◌∙◌, subst, add-one, arith, length-set, All, AllPairs, Contains}
use Rattle.std.proofs.lemmas.Bool.{cases_lt}
use Rattle.std.proofs.lemmas.List.{get_or-set_same, get_or-set_other, get_or-take, get_or-map, get_or_default, length-map, length-take, length-replicate, map_more, take_all, take_more, take-map, same_lists}
use Rattle.std.proofs.lemmas.List.Elements.{All-nil, All-from_get_or, Contains-append_left, Contains-append_right, Contains-push}
use Rattle.aig_model.specs.Literal.{var, is_negated, value_of}
use Rattle.aig_model.specs.WellFormed.{IsCircuit, IsDefining, IsOrdered, defined, definers, latch_lits, left_sides}
use Rattle.aig_model.specs.Meaning.{Assignment, IsStep, IsConjunction}
use Rattle.aig_model.specs.declared.parts.AndGate.{AndGate}
use Rattle.aig_model.specs.declared.parts.Latch.{Latch}
use Rattle.aig_model.specs.declared.parts.Parts.{Parts}
use Rattle.aig_eval.specs.Filling.{AreAssignable, AreSolvable, Assigns, Solves, conjunction}
use Rattle.aig_eval.proofs.Sections.{defined_parts, assignable_inputs, assignable_latches, inputs_apart, latches_apart, solvable_gates, some_gate}

-- ---- literals under two assignments
-- where two assignments agree at a variable, they agree at its literals
pub value_agree : (a b : Assignment) (lit : ℕ) → get_or a (var lit) false ≡ get_or b (var lit) false → value_of a lit ≡ value_of b lit
value_agree a b lit e = ap (λ x. cond (is_negated lit) (not x) x) e

-- a defining literal has the value of its variable
pub value_even : (a : Assignment) (lit : ℕ) → IsDefining lit → value_of a lit ≡ get_or a (var lit) false
value_even a lit defining = rw defining.even refl

pub values_agree : (lits : List ℕ) (a b : Assignment) → All (λ lit. get_or a (var lit) false ≡ get_or b (var lit) false) lits
    → map (value_of a) lits ≡ map (value_of b) lits
values_agree lits a b agree =
    same_lists (map (value_of a) lits) (map (value_of b) lits)
    (length-map lits (value_of a) ∙ sym (length-map lits (value_of b)))
    (λ k d l.
    let inside : k < length lits = omega (arith, length-map lits (value_of a)) in
    get_or-map (value_of a) lits k 0 d inside
    ∙ (value_agree a b (get_or lits k 0) (agree k 0 inside) ∙ sym (get_or-map (value_of b) lits k 0 d inside)))

-- a write at another variable
pub write_other : (a : Assignment) (lit other : ℕ) (bit : Bool) → var other ≢ var lit → value_of (set a (var lit) bit) other ≡ value_of a other
write_other a lit other bit ne = value_agree (set a (var lit) bit) a other (get_or-set_other a (var lit) (var other) bit false ne)

pub write_same : (a : Assignment) (lit : ℕ) (bit : Bool) → IsDefining lit → var lit < length a → value_of (set a (var lit) bit) lit ≡ bit
write_same a lit bit defining inside = value_even (set a (var lit) bit) lit defining ∙ get_or-set_same a (var lit) bit false inside

-- ---- the variables of the first places
var_in : (lits : List ℕ) (k d : ℕ) → k < length lits → Contains (map var lits) (var (get_or lits k d))
var_in lits k d l = (k, omega (arith, length-map lits var), get_or-map var lits k d (var (get_or lits k d)) l)

-- the variables of one literal more are those before it, and its own
vars_more : (lits : List ℕ) (i : ℕ) → i < length lits → map var (take (i + 1) lits) ≡ map var (take i lits) ++ var (get_or lits i 0) ∷ []
vars_more lits i l = map_more var lits i 0 l

outside_before : (lits : List ℕ) (i v : ℕ) → i < length lits → ¬ Contains (map var (take (i + 1) lits)) v → ¬ Contains (map var (take i lits)) v
outside_before lits i v l out h = out (rw (vars_more lits i l) (Contains-append_left (map var (take i lits)) (var (get_or lits i 0) ∷ []) v h))

outside_here : (lits : List ℕ) (i v : ℕ) → i < length lits → ¬ Contains (map var (take (i + 1) lits)) v → v ≢ var (get_or lits i 0)
outside_here lits i v l out e = out (rw (e, vars_more lits i l) (Contains-push (map var (take i lits)) (var (get_or lits i 0))))

differ_at : (lits : List ℕ) (k i : ℕ) → AllPairs (λ v w. v ≢ w) (map var lits) → k < i → i < length lits → var (get_or lits k 0) ≢ var (get_or lits i 0)
differ_at lits k i once below inside =
    let first : k < length lits = omega arith in
    let pair = once k i 0 below (omega (arith, length-map lits var)) in
    λ e. pair (get_or-map var lits k 0 0 first ∙ (e ∙ sym (get_or-map var lits i 0 0 inside)))

-- ---- literals are assigned one after another
pub assigns_none : (old : Assignment) → Assigns [] [] old old
assigns_none old = record { size = refl; reads = refl; others = λ v out. refl }

pub assigns_more : (lits : List ℕ) (bits old new : List Bool) (i : ℕ) → AreAssignable (length old) lits → length bits ≡ length lits → i < length lits
    → Assigns (take i lits) (take i bits) old new
    → Assigns (take (i + 1) lits) (take (i + 1) bits) old (set new (var (get_or lits i 0)) (get_or bits i false))
assigns_more lits bits old new i can size inside before =
    let lit = get_or lits i 0 in
    let bit = get_or bits i false in
    let later = set new (var lit) bit in
    let has_bit : i < length bits = omega arith in
    let room : var lit < length new = omega (arith, can.inside i 0 inside, before.size) in
    let kept : map (value_of later) (take i lits) ≡ take i bits =
    values_agree (take i lits) later new
    (λ k d l.
    let first : k < i = omega (arith, length-take i lits) in
    let known : k < length lits = omega arith in
    let same : get_or (take i lits) k d ≡ get_or lits k 0 = get_or-take i lits k d first ∙ get_or_default lits k d 0 known in
    get_or-set_other new (var lit) (var (get_or (take i lits) k d)) bit false (λ e. differ_at lits k i can.once first inside (ap var (sym same) ∙ e)))
    ∙ before.reads in
    record {
      size = length-set new (var lit) bit ∙ before.size;
      reads =
          map_more (value_of later) lits i 0 inside
          ∙ (rw (kept, write_same new lit bit (can.defining i 0 inside) room) (sym (take_more bits i false has_bit)));
      others = λ v out.
          get_or-set_other new (var lit) v bit false (outside_here lits i v inside out)
          ∙ before.others v (outside_before lits i v inside out);
    }

-- ---- gates are solved one after another
gate_vars_at : (gates : List AndGate) (k v : ℕ) (d : AndGate) → k < length gates → v ≡ var (get_or gates k d).lhs → Contains (map var (left_sides gates)) v
gate_vars_at gates k v d l e = (
  k,
  omega (arith, length-map (left_sides gates) var, length-map gates (λ (g : AndGate). g.lhs)),
  get_or-map var (left_sides gates) k d.lhs v (omega (arith, length-map gates (λ (g : AndGate). g.lhs)))
      ∙ (ap var (get_or-map (λ (g : AndGate). g.lhs) gates k d d.lhs l) ∙ sym e),
)

-- no gate uses its own or a later left side
pub ordered_at : (gates : List AndGate) (j k : ℕ) (d : AndGate) → IsOrdered gates → j ≤ k → k < length gates
    → (var (get_or gates j d).left ≢ var (get_or gates k d).lhs) × (var (get_or gates j d).right ≢ var (get_or gates k d).lhs)
ordered_at [] j k d ordered le l = absurd (omega arith)
ordered_at (g ∷ gates) zero k d ordered le l =
    (λ e. ordered.0 (gate_vars_at (g ∷ gates) k (var g.left) d l e), λ e. ordered.1 (gate_vars_at (g ∷ gates) k (var g.right) d l e))
ordered_at (g ∷ gates) (suc j) zero d ordered le l = absurd (omega arith)
ordered_at (g ∷ gates) (suc j) (suc k) d ordered le l = ordered_at gates j k d ordered.2 (omega arith) (omega arith)

left_side_at : (gates : List AndGate) (k : ℕ) (d : AndGate) → k < length gates → get_or (left_sides gates) k 0 ≡ (get_or gates k d).lhs
left_side_at gates k d l = get_or-map (λ (g : AndGate). g.lhs) gates k d 0 l

left_sides_differ : (gates : List AndGate) (k i : ℕ) (d : AndGate) → AllPairs (λ v w. v ≢ w) (map var (left_sides gates)) → k < i → i < length gates
    → var (get_or gates k d).lhs ≢ var (get_or gates i d).lhs
left_sides_differ gates k i d once below inside =
    let first : k < length gates = omega arith in
    rw (left_side_at gates k d first, left_side_at gates i d inside)
    at (differ_at (left_sides gates) k i once below (omega (arith, length-map gates (λ (g : AndGate). g.lhs))))

pub solves_none : (old : Assignment) → Solves [] old old
solves_none old = record { size = refl; gates = All-nil (IsConjunction old); others = λ v out. refl }

-- the gate at place k, with the write of the gate at place i
kept_gate : (gates : List AndGate) (new : List Bool) (n i k : ℕ) (d : AndGate) (bit : Bool) → AreSolvable n gates → k < i → i < length gates
    → IsConjunction new (get_or gates k d) → IsConjunction (set new (var (get_or gates i d).lhs) bit) (get_or gates k d)
kept_gate gates new n i k d bit can below inside holds =
    let h = get_or gates k d in
    let g = get_or gates i d in
    let order = ordered_at gates k i d can.ordered (omega arith) inside in
    write_other new g.lhs h.lhs bit (left_sides_differ gates k i d can.once below inside)
    ∙ (holds ∙ sym (rw (write_other new g.lhs h.left bit order.0, write_other new g.lhs h.right bit order.1) refl))

own_gate : (gates : List AndGate) (new : List Bool) (i : ℕ) (d : AndGate) → AreSolvable (length new) gates → i < length gates
    → IsConjunction (set new (var (get_or gates i d).lhs) (conjunction new (get_or gates i d))) (get_or gates i d)
own_gate gates new i d can inside =
    let g = get_or gates i d in
    let bit = conjunction new g in
    let order = ordered_at gates i i d can.ordered (omega arith) inside in
    write_same new g.lhs bit (can.defining i d inside) (can.inside i d inside).lhs
    ∙ sym (rw (write_other new g.lhs g.left bit order.0, write_other new g.lhs g.right bit order.1) refl)

pub solves_more : (gates : List AndGate) (old new : List Bool) (i : ℕ) (d : AndGate) → AreSolvable (length old) gates → i < length gates
    → Solves (take i gates) old new
    → Solves (take (i + 1) gates) old (set new (var (get_or gates i d).lhs) (conjunction new (get_or gates i d)))
solves_more gates old new i d can inside before =
    let g = get_or gates i d in
    let bit = conjunction new g in
    let later = set new (var g.lhs) bit in
    let can_now = subst (λ (n : ℕ). AreSolvable n gates) (sym before.size) can in
    let lits = left_sides gates in
    let sides : (n : ℕ) → map var (take n lits) ≡ map var (left_sides (take n gates)) = λ n. ap (map var) (take-map (λ (h : AndGate). h.lhs) n gates) in
    let side = left_side_at gates i d inside in
    let inside_lits : i < length lits = omega (arith, length-map gates (λ (h : AndGate). h.lhs)) in
    record {
      size = length-set new (var g.lhs) bit ∙ before.size;
      gates = All-from_get_or (IsConjunction later) (take (i + 1) gates) d (λ k l.
          let below : k < i + 1 = omega (arith, length-take (i + 1) gates) in
          let read = get_or-take (i + 1) gates k d below in
          rw read (elim (cases_lt k i) [
            | inl first ↦
                let held = rw (get_or-take i gates k d first) at (before.gates k d (omega (arith, length-take i gates))) in
                kept_gate gates new (length old) i k d bit can first inside held
            | inr last ↦
                let same : k ≡ i = omega arith in
                rw same (own_gate gates new i d can_now inside)
          ]));
      others = λ v out.
          let out_lits : ¬ Contains (map var (take (i + 1) lits)) v = rw (sides (i + 1)) out in
          get_or-set_other new (var g.lhs) v bit false (rw side at (outside_here lits i v inside_lits out_lits))
          ∙ before.others v (rw (← sides i) (outside_before lits i v inside_lits out_lits));
    }

-- ---- the ends of the walks
pub assigns_all : (lits : List ℕ) (bits old new : List Bool) (n : ℕ) → length lits ≤ n → length bits ≡ length lits
    → Assigns (take n lits) (take n bits) old new → Assigns lits bits old new
assigns_all lits bits old new n all size done = rw (take_all n lits all, take_all n bits (omega arith)) at done

pub solves_all : (gates : List AndGate) (old new : List Bool) (n : ℕ) → length gates ≤ n → Solves (take n gates) old new → Solves gates old new
solves_all gates old new n all done = rw (take_all n gates all) at done

-- ---- whatever may be assigned or solved can be
some_assigned : (lits : List ℕ) (bits old : List Bool) → AreAssignable (length old) lits → length bits ≡ length lits → (n : ℕ) → n ≤ length lits
    → (new : List Bool) × Assigns (take n lits) (take n bits) old new
some_assigned lits bits old can size zero within = (old, assigns_none old)
some_assigned lits bits old can size (suc n) within =
    let before = some_assigned lits bits old can size n (omega arith) in (
      set before.0 (var (get_or lits n 0)) (get_or bits n false),
      rw add-one at (assigns_more lits bits old before.0 n can size (omega arith) before.1),
    )

some_solved : (gates : List AndGate) (old : List Bool) (d : AndGate) → AreSolvable (length old) gates → (n : ℕ) → n ≤ length gates
    → (new : List Bool) × Solves (take n gates) old new
some_solved gates old d can zero within = (old, solves_none old)
some_solved gates old d can (suc n) within =
    let before = some_solved gates old d can n (omega arith) in (
      set before.0 (var (get_or gates n d).lhs) (conjunction before.0 (get_or gates n d)),
      rw add-one at (solves_more gates old before.0 n d can (omega arith) before.1),
    )

-- ---- all three, from nothing
abbrev pub nothing : Parts → Assignment
nothing c = replicate (c.top + 1) false

all_false : (n v : ℕ) → get_or (replicate n false) v false ≡ false
all_false zero v = refl
all_false (suc n) zero = refl
all_false (suc n) (suc v) = all_false n v

-- nothing defines the constant
constant_undefined : (c : Parts) → IsCircuit c → ¬ Contains (defined c) 0
constant_undefined c ok h =
    let inside : h.0 < length (definers c) = omega (arith, h.1, length-map (definers c) var) in
    let read : var (get_or (definers c) h.0 0) ≡ 0 = sym (get_or-map var (definers c) h.0 0 0 inside) ∙ h.2 in
    let positive = (ok.defining h.0 0 inside).positive in
    omega (arith, read, positive)

pub filled : (c : Parts) (state row : List Bool) (a b d : Assignment) → IsCircuit c → Assigns c.inputs row (nothing c) a
    → Assigns (latch_lits c.latches) state a b → Solves c.gates b d → IsStep c state row d
filled c state row a b d ok inputs latches gates =
    let ins = map var c.inputs in
    let regs = map var (latch_lits c.latches) in
    let outs = map var (left_sides c.gates) in
    let undefined : (v : ℕ) → ¬ Contains (defined c) v → get_or d v false ≡ false =
    λ v out.
    let none : ¬ Contains (ins ++ (regs ++ outs)) v = rw (← defined_parts c) out in
    gates.others v (λ h. none (Contains-append_right ins (regs ++ outs) v (Contains-append_right regs outs v h)))
    ∙ (latches.others v (λ h. none (Contains-append_right ins (regs ++ outs) v (Contains-append_left regs outs v h)))
    ∙ (inputs.others v (λ h. none (Contains-append_left ins (regs ++ outs) v h)) ∙ all_false (c.top + 1) v)) in
    record {
      fits = record {
        size = gates.size ∙ (latches.size ∙ (inputs.size ∙ length-replicate (c.top + 1) false));
        constant = undefined 0 (constant_undefined c ok);
        undefined = undefined;
        gates = gates.gates;
      };
      state =
          values_agree (latch_lits c.latches) d b (λ k e l. gates.others _ (latches_apart c ok _ (var_in (latch_lits c.latches) k e l)))
          ∙ latches.reads;
      row =
          values_agree c.inputs d a (λ k e l.
          let here = var_in c.inputs k e l in
          gates.others _ (λ h. inputs_apart c ok _ here (Contains-append_right regs outs _ h))
          ∙ latches.others _ (λ h. inputs_apart c ok _ here (Contains-append_left regs outs _ h)))
          ∙ inputs.reads;
    }

-- some assignment fits a state and a row
pub some_step : (c : Parts) (state row : List Bool) → IsCircuit c → length state ≡ length c.latches → length row ≡ length c.inputs
    → (a : Assignment) × IsStep c state row a
some_step c state row ok size_state size_row =
    let ins = c.inputs in
    let regs = latch_lits c.latches in
    let size_regs : length state ≡ length regs = size_state ∙ sym (length-map c.latches (λ (l : Latch). l.lit)) in
    let full : length (nothing c) ≡ c.top + 1 = length-replicate (c.top + 1) false in
    let can_ins = subst (λ (n : ℕ). AreAssignable n ins) (sym full) (assignable_inputs c ok) in
    let a = some_assigned ins row (nothing c) can_ins size_row (length ins) (omega arith) in
    let inputs = assigns_all ins row (nothing c) a.0 (length ins) (omega arith) size_row a.1 in
    let can_regs = subst (λ (n : ℕ). AreAssignable n regs) (sym (inputs.size ∙ full)) (assignable_latches c ok) in
    let b = some_assigned regs state a.0 can_regs size_regs (length regs) (omega arith) in
    let latches = assigns_all regs state a.0 b.0 (length regs) (omega arith) size_regs b.1 in
    let can_gates = subst (λ (n : ℕ). AreSolvable n c.gates) (sym (latches.size ∙ (inputs.size ∙ full))) (solvable_gates c ok) in
    let d = some_solved c.gates b.0 some_gate can_gates (length c.gates) (omega arith) in
    (d.0, filled c state row a.0 b.0 d.0 ok inputs latches (solves_all c.gates b.0 d.0 (length c.gates) (omega arith) d.1))
