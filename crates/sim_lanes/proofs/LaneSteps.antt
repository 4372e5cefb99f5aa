-- The values of 64 lanes, in words, and what each lane has.
use Rattle.std.proofs.Common.{◌≡◌, ℕ, zero, suc, ◌+◌, ◌<◌, ◌≤◌, Bool, false, not, cond, List, [], ◌∷◌, ◌++◌, map, set, take, replicate, length, get_or, refl, sym, ap, ◌∙◌, subst, arith, Contains}
use Rattle.std.proofs.lemmas.List.{get_or-map, length-map, length-replicate, map-set, take-map, take_all}
use Rattle.std.proofs.lemmas.List.Elements.{Contains-append_left, Contains-append_right}
use Rattle.aig_model.specs.Literal.{var, is_negated}
use Rattle.aig_model.specs.WellFormed.{IsCircuit, defined, definers, latch_lits, left_sides}
use Rattle.aig_model.specs.Meaning.{Assignment, IsStep}
use Rattle.aig_model.specs.declared.parts.AndGate.{AndGate}
use Rattle.aig_model.specs.declared.parts.Parts.{Parts}
use Rattle.aig_eval.specs.Filling.{AreAssignable, AreSolvable, Assigns, Solves, conjunction}
use Rattle.aig_eval.proofs.Filling.{assigns_none, assigns_more, solves_none, solves_more, values_agree}
use Rattle.aig_eval.proofs.Sections.{defined_parts, inputs_apart, latches_apart}
use Rattle.sim_batch.specs.Words.{bit_of_word}
use Rattle.sim_lanes.specs.LaneValues.{lane_values, AreBlank, AreSteps, AssignsLanes, HasConjunctions, HasValues, IsSigned, SolvesLanes}
use Rattle.sim_lanes.proofs.WordBits.{bit-none}

-- ---- lanes of words
pub length-lane_values : (j : ℕ) (words : List ℕ) → length (lane_values j words) ≡ length words
length-lane_values j words = length-map words (bit_of_word j)

pub lane_at : (j : ℕ) (words : List ℕ) (k : ℕ) → k < length words → get_or (lane_values j words) k false ≡ bit_of_word j (get_or words k 0)
lane_at j words k inside = get_or-map (bit_of_word j) words k 0 false inside

pub lane_set : (j : ℕ) (words : List ℕ) (k word : ℕ) → lane_values j (set words k word) ≡ set (lane_values j words) k (bit_of_word j word)
lane_set j words k word = map-set (bit_of_word j) words k word

lane_take : (j : ℕ) (words : List ℕ) (n : ℕ) → lane_values j (take n words) ≡ take n (lane_values j words)
lane_take j words n = sym (take-map (bit_of_word j) n words)

-- ---- literals
pub literal_word : (values : List ℕ) (lit word : ℕ) → var lit < length values → IsSigned (get_or values (var lit) 0) (is_negated lit) word → HasValues values lit word
literal_word values lit word inside sign = λ j low.
    sign j low ∙ ap (λ b. cond (is_negated lit) (not b) b) (sym (lane_at j values (var lit) inside))

-- ---- words written one after another
pub assigns_lanes_none : (old : List ℕ) → AssignsLanes [] [] old old
assigns_lanes_none old = λ j low. assigns_none (lane_values j old)

pub assigns_lanes_all : (lits words old new : List ℕ) (n : ℕ) → length lits ≤ n → length words ≡ length lits
    → AssignsLanes (take n lits) (take n words) old new → AssignsLanes lits words old new
assigns_lanes_all lits words old new n all size done = rw (take_all n lits all, take_all n words (omega arith)) at done

pub solves_lanes_none : (old : List ℕ) → SolvesLanes [] old old
solves_lanes_none old = λ j low. solves_none (lane_values j old)

pub solves_lanes_all : (gates : List AndGate) (old new : List ℕ) (n : ℕ) → length gates ≤ n → SolvesLanes (take n gates) old new → SolvesLanes gates old new
solves_lanes_all gates old new n all done = rw (take_all n gates all) at done

pub assigns_lanes_more : (lits words old new : List ℕ) (i : ℕ) → AreAssignable (length old) lits → length words ≡ length lits → i < length lits
    → AssignsLanes (take i lits) (take i words) old new
    → AssignsLanes (take (i + 1) lits) (take (i + 1) words) old (set new (var (get_or lits i 0)) (get_or words i 0))
assigns_lanes_more lits words old new i can size inside before = λ j low. (
    let can_lane = subst (λ (n : ℕ). AreAssignable n lits) (sym (length-lane_values j old)) can in
    let here : Assigns (take i lits) (take i (lane_values j words)) (lane_values j old) (lane_values j new) =
    subst (λ (ws : List Bool). Assigns (take i lits) ws (lane_values j old) (lane_values j new)) (lane_take j words i) (before j low) in
    let more = assigns_more lits (lane_values j words) (lane_values j old) (lane_values j new) i can_lane (length-lane_values j words ∙ size) inside here in
    let bit : get_or (lane_values j words) i false ≡ bit_of_word j (get_or words i 0) = lane_at j words i (omega (arith, size, inside)) in
    let written : set (lane_values j new) (var (get_or lits i 0)) (get_or (lane_values j words) i false) ≡ lane_values j (set new (var (get_or lits i 0)) (get_or words i 0)) =
    ap (set (lane_values j new) (var (get_or lits i 0))) bit ∙ sym (lane_set j new (var (get_or lits i 0)) (get_or words i 0)) in
    subst (λ (ws : List Bool). Assigns (take (i + 1) lits) ws (lane_values j old) (lane_values j (set new (var (get_or lits i 0)) (get_or words i 0))))
    (sym (lane_take j words (i + 1)))
    (subst (λ (n : List Bool). Assigns (take (i + 1) lits) (take (i + 1) (lane_values j words)) (lane_values j old) n) written more)
    )

pub solves_lanes_more : (gates : List AndGate) (old new : List ℕ) (i : ℕ) (d : AndGate) (word : ℕ) → AreSolvable (length old) gates → i < length gates
    → HasConjunctions new (get_or gates i d) word → SolvesLanes (take i gates) old new
    → SolvesLanes (take (i + 1) gates) old (set new (var (get_or gates i d).lhs) word)
solves_lanes_more gates old new i d word can inside is before = λ j low. (
    let can_lane = subst (λ (n : ℕ). AreSolvable n gates) (sym (length-lane_values j old)) can in
    let more = solves_more gates (lane_values j old) (lane_values j new) i d can_lane inside (before j low) in
    let written : set (lane_values j new) (var (get_or gates i d).lhs) (conjunction (lane_values j new) (get_or gates i d)) ≡ lane_values j (set new (var (get_or gates i d).lhs) word) =
    ap (set (lane_values j new) (var (get_or gates i d).lhs)) (sym (is j low)) ∙ sym (lane_set j new (var (get_or gates i d).lhs) word) in
    subst (λ (n : List Bool). Solves (take (i + 1) gates) (lane_values j old) n) written more
    )

-- ---- a step, over values in which what nothing defines is false
constant_undefined : (c : Parts) → IsCircuit c → ¬ Contains (defined c) 0
constant_undefined c ok h =
    let inside : h.0 < length (definers c) = omega (arith, h.1, length-map (definers c) var) in
    let read : var (get_or (definers c) h.0 0) ≡ 0 = sym (get_or-map var (definers c) h.0 0 0 inside) ∙ h.2 in
    let positive = (ok.defining h.0 0 inside).positive in
    omega (arith, read, positive)

var_in : (lits : List ℕ) (k d : ℕ) → k < length lits → Contains (map var lits) (var (get_or lits k d))
var_in lits k d l = (k, omega (arith, length-map lits var), get_or-map var lits k d (var (get_or lits k d)) l)

filled_over : (c : Parts) (state row : List Bool) (old a b d : Assignment) → IsCircuit c → length old ≡ c.top + 1
    → ((v : ℕ) → ¬ Contains (defined c) v → get_or old v false ≡ false)
    → Assigns c.inputs row old a → Assigns (latch_lits c.latches) state a b → Solves c.gates b d → IsStep c state row d
filled_over c state row old a b d ok size blank inputs latches gates =
    let ins = map var c.inputs in
    let regs = map var (latch_lits c.latches) in
    let outs = map var (left_sides c.gates) in
    let undefined : (v : ℕ) → ¬ Contains (defined c) v → get_or d v false ≡ false =
    λ v out.
    let none : ¬ Contains (ins ++ (regs ++ outs)) v = rw (← defined_parts c) out in
    gates.others v (λ h. none (Contains-append_right ins (regs ++ outs) v (Contains-append_right regs outs v h)))
    ∙ (latches.others v (λ h. none (Contains-append_right ins (regs ++ outs) v (Contains-append_left regs outs v h)))
    ∙ (inputs.others v (λ h. none (Contains-append_left ins (regs ++ outs) v h)) ∙ blank v out)) in
    record {
      fits = record {
        size = gates.size ∙ (latches.size ∙ (inputs.size ∙ size));
        constant = undefined 0 (constant_undefined c ok);
        undefined = undefined;
        gates = gates.gates;
      };
      state =
          values_agree (latch_lits c.latches) d b (λ k e l. gates.others _ (latches_apart c ok _ (var_in (latch_lits c.latches) k e l)))
          ∙ latches.reads;
      row =
          values_agree c.inputs d a (λ k e l.
          let here = var_in c.inputs k e l in
          gates.others _ (λ h. inputs_apart c ok _ here (Contains-append_right regs outs _ h))
          ∙ latches.others _ (λ h. inputs_apart c ok _ here (Contains-append_left regs outs _ h)))
          ∙ inputs.reads;
    }

pub filled_lanes : (c : Parts) (state row old a b d : List ℕ) → IsCircuit c → AreBlank c old → AssignsLanes c.inputs row old a
    → AssignsLanes (latch_lits c.latches) state a b → SolvesLanes c.gates b d → AreSteps c state row d
filled_lanes c state row old a b d ok blank inputs latches gates = λ j low.
    filled_over c (lane_values j state) (lane_values j row) (lane_values j old) (lane_values j a) (lane_values j b) (lane_values j d) ok
    (length-lane_values j old ∙ blank.size) (λ v out. blank.undefined j v low out) (inputs j low) (latches j low) (gates j low)

pub stays_blank : (c : Parts) (state row values : List ℕ) → length values ≡ c.top + 1 → AreSteps c state row values → AreBlank c values
stays_blank c state row values size steps = record { size = size; undefined = λ j v low out. (steps j low).fits.undefined v out }

zero_lane : (j n : ℕ) → lane_values j (replicate n 0) ≡ replicate n false
zero_lane j zero = refl
zero_lane j (suc n) = ap (λ more. bit_of_word j 0 ∷ more) (zero_lane j n) ∙ ap (λ b. b ∷ replicate n false) (bit-none j)

all_false : (n v : ℕ) → get_or (replicate n false) v false ≡ false
all_false zero v = refl
all_false (suc n) zero = refl
all_false (suc n) (suc v) = all_false n v

pub zeros_blank : (c : Parts) (values : List ℕ) (n : ℕ) → values ≡ replicate n 0 → n ≡ c.top + 1 → AreBlank c values
zeros_blank c values n e size = record {
  size = ap length e ∙ (length-replicate n 0 ∙ size);
  undefined = λ j v low out. ap (λ (ws : List ℕ). get_or (lane_values j ws) v false) e ∙ (ap (λ l. get_or l v false) (zero_lane j n) ∙ all_false n v);
}
