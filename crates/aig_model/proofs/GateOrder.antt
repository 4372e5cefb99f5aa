-- The order of the gates, and the left sides that are not passed yet.
use Rattle.std.proofs.Common.{◌≡◌, ◌≢◌, ℕ, zero, suc, ◌+◌, ◌<◌, ◌⊎◌, inl, inr, Bool, true, false, List, [], ◌∷◌, map, length, get_or, take, drop, set, refl, sym, ap, ◌∙◌, subst, arith, AllPairs, Contains, IsTrue}
use Rattle.std.proofs.lemmas.Bool.{cases_eq, false≢true}
use Rattle.std.proofs.lemmas.List.{map-append, get_or-set_same, get_or-set_other, drop_more, drop-map, length-map, get_or-map}
use Rattle.std.proofs.lemmas.Map.Made.{Contains-tail}
use Rattle.std.proofs.lemmas.Option.{slice_get_read, get_or_from_slice_get}
use Rattle.aig_model.specs.Literal.{var}
use Rattle.aig_model.specs.WellFormed.{IsOrdered, left_sides, gate_literals}
use Rattle.aig_model.specs.Faults.{IsMisplaced}
use Rattle.aig_model.specs.Marks.{Marks, HaveRoom}
use Rattle.aig_model.specs.declared.parts.AndGate.{AndGate}
use Rattle.aig_model.proofs.Elements.{All-flat_map_item, items_next, no_later, Contains-later}
use Rattle.aig_model.proofs.Marks.{marks_more, room_same}

-- ---- the order as a fact of each place
pub ordered_by_places : (gates : List AndGate) → ((k : ℕ) → k < length gates → ¬ IsMisplaced gates k) → IsOrdered gates
ordered_by_places [] none = tt
ordered_by_places (g ∷ gates) none = (
  λ h. none 0 (omega arith) (record { gate = g; at = refl; used = inl h }),
  λ h. none 0 (omega arith) (record { gate = g; at = refl; used = inr h }),
  ordered_by_places gates (λ k h m. none (suc k) (omega (arith, h)) (record { gate = m.gate; at = m.at; used = m.used })),
)

pub ordered_is_placed : (gates : List AndGate) (k : ℕ) → IsOrdered gates → ¬ IsMisplaced gates k
ordered_is_placed [] k ordered m = let none = m.at in cc
ordered_is_placed (g ∷ gates) zero ordered m =
    let same : g ≡ m.gate = (let at = m.at in cc) in
    elim m.used [
      | inl left ↦ ordered.0 (rw (← same) at left)
      | inr right ↦ ordered.1 (rw (← same) at right)
    ]
ordered_is_placed (g ∷ gates) (suc k) ordered m = ordered_is_placed gates k ordered.2 (record { gate = m.gate; at = m.at; used = m.used })

-- ---- marks of left sides
-- the variables of a gate have room where those of all gates have
pub gate_room : (old ahead : List Bool) (gates : List AndGate) (i : ℕ) (gate : AndGate) → i < length gates → gate ≡ get_or gates i gate
    → length ahead ≡ length old → HaveRoom old (gate_literals gates) → HaveRoom ahead (gate.lhs ∷ gate.left ∷ gate.right ∷ [])
gate_room old ahead gates i gate h e size room =
    room_same old ahead (gate.lhs ∷ gate.left ∷ gate.right ∷ []) size
    (All-flat_map_item (λ (g : AndGate). g.lhs ∷ g.left ∷ g.right ∷ []) (λ l. var l < length old) gates i gate h e room)

pub marks_next : (ahead : List Bool) (gates : List AndGate) (i : ℕ) (gate : AndGate) → i < length gates → gate ≡ get_or gates i gate → var gate.lhs < length ahead
    → Marks ahead (left_sides (take i gates)) → Marks (set ahead (var gate.lhs) true) (left_sides (take (i + 1) gates))
marks_next ahead gates i gate h e room is =
    subst (Marks (set ahead (var gate.lhs) true))
    (sym (ap left_sides (items_next gates i gate h e) ∙ map-append (λ (g : AndGate). g.lhs) (take i gates) (gate ∷ [])))
    (marks_more ahead (left_sides (take i gates)) gate.lhs room is)

marks_fewer : (ahead : List Bool) (lit : ℕ) (rest : List ℕ) → var lit < length ahead → (¬ Contains (map var rest) (var lit)) → Marks ahead (lit ∷ rest)
    → Marks (set ahead (var lit) false) rest
marks_fewer ahead lit rest room once is v = (
  λ h. elim (cases_eq v (var lit)) [
    | inl e ↦ absurd (false≢true (sym (get_or-set_same ahead (var lit) false false room) ∙ (rw e at h)))
    | inr ne ↦ Contains-tail (var lit) (map var rest) v (λ e. ne (sym e)) ((is v).0 (sym (get_or-set_other ahead (var lit) v false false ne) ∙ h))
  ],
  λ h. elim (cases_eq v (var lit)) [
    | inl e ↦ absurd (once (rw e at h))
    | inr ne ↦ get_or-set_other ahead (var lit) v false false ne ∙ (is v).1 (Contains-later (var lit) v (map var rest) h)
  ],
)

later_differ : (gates : List AndGate) (i : ℕ) (gate : AndGate) → i < length gates → gate ≡ get_or gates i gate
    → AllPairs (λ v w. v ≢ w) (map var (left_sides gates)) → ¬ Contains (map var (left_sides (drop (i + 1) gates))) (var gate.lhs)
later_differ gates i gate h e once found =
    let lhs : AndGate → ℕ = λ g. g.lhs in
    let vars = map var (left_sides gates) in
    let rest : drop (i + 1) vars ≡ map var (left_sides (drop (i + 1) gates)) = drop-map var (i + 1) (left_sides gates) ∙ ap (map var) (drop-map lhs (i + 1) gates) in
    let inside : i < length (left_sides gates) = omega (arith, length-map gates lhs) in
    let here : get_or vars i (var gate.lhs) ≡ var gate.lhs =
    get_or-map var (left_sides gates) i gate.lhs (var gate.lhs) inside ∙ ap var (get_or-map lhs gates i gate gate.lhs h ∙ ap lhs (sym e))
    in
    no_later vars i (var gate.lhs) (omega (arith, length-map (left_sides gates) var)) (sym here) once
    (subst (λ (vs : List ℕ). Contains vs (var gate.lhs)) (sym rest) found)

pub marks_rest : (ahead : List Bool) (gates : List AndGate) (i : ℕ) (gate : AndGate) → i < length gates → gate ≡ get_or gates i gate → var gate.lhs < length ahead
    → AllPairs (λ v w. v ≢ w) (map var (left_sides gates)) → Marks ahead (left_sides (drop i gates))
    → Marks (set ahead (var gate.lhs) false) (left_sides (drop (i + 1) gates))
marks_rest ahead gates i gate h e room once is =
    let split : drop i gates ≡ gate ∷ drop (i + 1) gates = drop_more gates i gate h ∙ ap (λ (g : AndGate). g ∷ drop (i + 1) gates) (sym e) in
    marks_fewer ahead gate.lhs (left_sides (drop (i + 1) gates)) room (later_differ gates i gate h e once)
    (subst (λ (gs : List AndGate). Marks ahead (left_sides gs)) split is)

-- ---- the gate that a loop has reached
pub misplaced_here : (ahead : List Bool) (gates : List AndGate) (i : ℕ) (gate : AndGate) → i < length gates → gate ≡ get_or gates i gate
    → Marks ahead (left_sides (drop i gates)) → IsTrue (get_or ahead (var gate.left) false) ⊎ IsTrue (get_or ahead (var gate.right) false) → IsMisplaced gates i
misplaced_here ahead gates i gate h e is used = record {
  gate = gate;
  at = slice_get_read gates (length gates) i gate refl h e;
  used = elim used [ inl left ↦ inl ((is (var gate.left)).0 left) | inr right ↦ inr ((is (var gate.right)).0 right) ];
}

pub placed_here : (ahead : List Bool) (gates : List AndGate) (i : ℕ) (gate : AndGate) → i < length gates → gate ≡ get_or gates i gate
    → Marks ahead (left_sides (drop i gates)) → (¬ (IsTrue (get_or ahead (var gate.left) false) ⊎ IsTrue (get_or ahead (var gate.right) false))) → ¬ IsMisplaced gates i
placed_here ahead gates i gate h e is unused m =
    let same : gate ≡ m.gate = e ∙ get_or_from_slice_get gates i m.gate gate m.at in
    elim m.used [
      | inl left ↦ unused (inl ((is (var gate.left)).1 (rw (← same) at left)))
      | inr right ↦ unused (inr ((is (var gate.right)).1 (rw (← same) at right)))
    ]
