-- What the tests of `build` say of the parts.
use Rattle.std.proofs.Common.{◌≡◌, ◌≢◌, ℕ, ◌+◌, ◌<◌, inl, inr, Bool, false, List, [], ◌∷◌, ◌++◌, map, length, get_or, take, replicate, sym, ap, ◌∙◌, subst, arith, All, AllPairs, Contains, length-append}
use Rattle.std.proofs.lemmas.Bool.{false≢true, cases_lt}
use Rattle.std.proofs.lemmas.List.{length-map, get_or-map, get_or-replicate, get_or_past, get_or-take, take-map, length-take-le, length-replicate, map-append, get_or-append-add}
use Rattle.std.proofs.lemmas.List.Elements.{All-from_get_or, All-append, All-head, All-tail, All-cons, All-nil, Contains-get_or}
use Rattle.aig_model.specs.Literal.{var}
use Rattle.aig_model.specs.WellFormed.{literals, definers, uses, latch_lits, next_lits, left_sides, gate_inputs, latch_literals, gate_literals, IsInRange, IsDefining, IsKnown}
use Rattle.aig_model.specs.Faults.{AllRight, IsFirstWrong, IsNewDefiner}
use Rattle.aig_model.specs.Marks.{Marks, HaveRoom, IsMarked}
use Rattle.aig_model.specs.declared.parts.Latch.{Latch}
use Rattle.aig_model.specs.declared.parts.AndGate.{AndGate}
use Rattle.aig_model.specs.declared.parts.Parts.{Parts}
use Rattle.aig_model.proofs.Elements.{All-left, All-right, Contains-nil}
use Rattle.aig_model.proofs.Rightness.{same_wrong}

-- ---- what holds of every literal holds of those that define and of those that are used
latch_parts : (P : ℕ → Type 0) (latches : List Latch) → All P (latch_literals latches) → All P (latch_lits latches) × All P (next_lits latches)
latch_parts P [] all = (All-nil P, All-nil P)
latch_parts P (l ∷ latches) all =
    let rest = latch_parts P latches (All-tail P l.next (latch_literals latches) (All-tail P l.lit (l.next ∷ latch_literals latches) all)) in (
      All-cons P l.lit (latch_lits latches) (All-head P l.lit (l.next ∷ latch_literals latches) all) rest.0,
      All-cons P l.next (next_lits latches) (All-head P l.next (latch_literals latches) (All-tail P l.lit (l.next ∷ latch_literals latches) all)) rest.1,
    )

gate_parts : (P : ℕ → Type 0) (gates : List AndGate) → All P (gate_literals gates) → All P (left_sides gates) × All P (gate_inputs gates)
gate_parts P [] all = (All-nil P, All-nil P)
gate_parts P (g ∷ gates) all =
    let first = g.lhs ∷ g.left ∷ g.right ∷ [] in
    let here : All P first = All-left P first (gate_literals gates) all in
    let rest = gate_parts P gates (All-right P first (gate_literals gates) all) in (
      All-cons P g.lhs (left_sides gates) (All-head P g.lhs (g.left ∷ g.right ∷ []) here) rest.0,
      All-append P (g.left ∷ g.right ∷ []) (gate_inputs gates) (All-tail P g.lhs (g.left ∷ g.right ∷ []) here) rest.1,
    )

-- the parts of every literal
pub sections : (P : ℕ → Type 0) (c : Parts) → All P (literals c) → All P (definers c) × All P (uses c)
sections P c all =
    let after1 = latch_literals c.latches ++ (c.outputs ++ (c.bads ++ (c.constraints ++ gate_literals c.gates))) in
    let after2 = c.outputs ++ (c.bads ++ (c.constraints ++ gate_literals c.gates)) in
    let after3 = c.bads ++ (c.constraints ++ gate_literals c.gates) in
    let after4 = c.constraints ++ gate_literals c.gates in
    let rest1 : All P after1 = All-right P c.inputs after1 all in
    let rest2 : All P after2 = All-right P (latch_literals c.latches) after2 rest1 in
    let rest3 : All P after3 = All-right P c.outputs after3 rest2 in
    let rest4 : All P after4 = All-right P c.bads after4 rest3 in
    let latches = latch_parts P c.latches (All-left P (latch_literals c.latches) after2 rest1) in
    let gates = gate_parts P c.gates (All-right P c.constraints (gate_literals c.gates) rest4) in (
      All-append P c.inputs (latch_lits c.latches ++ left_sides c.gates) (All-left P c.inputs after1 all)
          (All-append P (latch_lits c.latches) (left_sides c.gates) latches.0 gates.0),
      All-append P (next_lits c.latches) (c.outputs ++ (c.bads ++ (c.constraints ++ gate_inputs c.gates))) latches.1
          (All-append P c.outputs (c.bads ++ (c.constraints ++ gate_inputs c.gates)) (All-left P c.outputs after3 rest2)
          (All-append P c.bads (c.constraints ++ gate_inputs c.gates) (All-left P c.bads after4 rest3)
          (All-append P c.constraints (gate_inputs c.gates) (All-left P c.constraints (gate_literals c.gates) rest4) gates.1))),
    )

pub gates_in_range : (P : ℕ → Type 0) (c : Parts) → All P (literals c) → All P (gate_literals c.gates)
gates_in_range P c all =
    All-right P c.constraints (gate_literals c.gates)
    (All-right P c.bads (c.constraints ++ gate_literals c.gates)
    (All-right P c.outputs (c.bads ++ (c.constraints ++ gate_literals c.gates))
    (All-right P (latch_literals c.latches) (c.outputs ++ (c.bads ++ (c.constraints ++ gate_literals c.gates)))
    (All-right P c.inputs (latch_literals c.latches ++ (c.outputs ++ (c.bads ++ (c.constraints ++ gate_literals c.gates)))) all))))

-- ---- room for each variable
pub room_in_range : (top : ℕ) (marks : List Bool) (lits : List ℕ) → length marks ≡ top + 1 → All (IsInRange top) lits → HaveRoom marks lits
room_in_range top marks lits size all k d h = (let lit = all k d h in omega (arith, size))

pub marks_nothing : (n : ℕ) → Marks (replicate n false) []
marks_nothing n v = (
  λ h. absurd (false≢true (sym (elim (cases_lt v n) [
    | inl below ↦ get_or-replicate n v false false below
    | inr past ↦ get_or_past (replicate n false) v false (omega (arith, length-replicate n false))
  ]) ∙ h)),
  λ h. absurd (Contains-nil v h),
)

-- ---- a fact that each literal has by itself
pub all_by_right : (P : ℕ → Type 0) (lits : List ℕ) → AllRight (λ _ l. P l) lits → All P lits
all_by_right P lits right = All-from_get_or P lits 0 right

-- ---- defining literals
pub definers_defining : (lits : List ℕ) → AllRight IsNewDefiner lits → All IsDefining lits
definers_defining lits right = All-from_get_or IsDefining lits 0 (λ k h. (right k h).defining)

vars_at : (lits : List ℕ) (k d : ℕ) → k < length lits → get_or (map var lits) k d ≡ var (get_or lits k 0)
vars_at lits k d h = get_or-map var lits k 0 d h

pub definers_once : (lits : List ℕ) → AllRight IsNewDefiner lits → AllPairs (λ v w. v ≢ w) (map var lits)
definers_once lits right i j d below inside same =
    let within : j < length lits = omega (arith, inside, length-map lits var) in
    let before : i < length (map var (take j lits)) = omega (arith, length-map (take j lits) var, length-take-le j lits (omega arith)) in
    let here : get_or (map var (take j lits)) i d ≡ var (get_or lits j 0) =
    ap (λ xs. get_or xs i d) (sym (take-map var j lits)) ∙ (get_or-take j (map var lits) i d below ∙ (same ∙ vars_at lits j d within))
    in
    (right j within).new (subst (Contains (map var (take j lits))) here (Contains-get_or (map var (take j lits)) i d before))

pub definers_right : (lits : List ℕ) → All IsDefining lits → AllPairs (λ v w. v ≢ w) (map var lits) → AllRight IsNewDefiner lits
definers_right lits defining once k h = record {
  defining = defining k 0 h;
  new = λ found. (let v = var (get_or lits k 0) in
      let before : found.0 < length (map var (take k lits)) = found.1 in
      let below : found.0 < k = omega (arith, length-map (take k lits) var, length-take-le k lits (omega arith)) in
      once found.0 k v below (omega (arith, h, length-map lits var))
      (sym (get_or-take k (map var lits) found.0 v below) ∙ (ap (λ xs. get_or xs found.0 v) (take-map var k lits) ∙ (found.2 ∙ sym (vars_at lits k v h)))));
}

-- ---- used literals
pub known_by_marked : (c : Parts) (marks : List Bool) → Marks marks (definers c) → (lit : ℕ) → IsMarked marks lit → IsKnown c lit
known_by_marked c marks is lit marked = elim marked [ inl zero ↦ inl zero | inr here ↦ inr ((is (var lit)).0 here) ]

pub marked_by_known : (c : Parts) (marks : List Bool) → Marks marks (definers c) → (lit : ℕ) → IsKnown c lit → IsMarked marks lit
marked_by_known c marks is lit known = elim known [ inl zero ↦ inl zero | inr here ↦ inr ((is (var lit)).1 here) ]

pub unknown_by_unmarked : (c : Parts) (marks : List Bool) (lit : ℕ) → Marks marks (definers c) → IsFirstWrong (λ _ l. IsMarked marks l) (uses c) lit
    → IsFirstWrong (λ _ l. IsKnown c l) (uses c) lit
unknown_by_unmarked c marks lit is =
    same_wrong (λ _ l. IsMarked marks l) (λ _ l. IsKnown c l) (uses c) lit (λ _ l. known_by_marked c marks is l) (λ _ l. marked_by_known c marks is l)

-- ---- left sides
pairs_right : (xs ys : List ℕ) → AllPairs (λ v w. v ≢ w) (xs ++ ys) → AllPairs (λ v w. v ≢ w) ys
pairs_right xs ys once i j d below inside same =
    once (length xs + i) (length xs + j) d (omega arith) (omega (arith, length-append xs ys))
    (get_or-append-add xs ys i d ∙ (same ∙ sym (get_or-append-add xs ys j d)))

pub left_sides_once : (c : Parts) → AllPairs (λ v w. v ≢ w) (map var (definers c)) → AllPairs (λ v w. v ≢ w) (map var (left_sides c.gates))
left_sides_once c once =
    let vars = map var (latch_lits c.latches ++ left_sides c.gates) in
    let others : AllPairs (λ v w. v ≢ w) vars =
    pairs_right (map var c.inputs) vars (subst (AllPairs (λ v w. v ≢ w)) (map-append var c.inputs (latch_lits c.latches ++ left_sides c.gates)) once)
    in
    pairs_right (map var (latch_lits c.latches)) (map var (left_sides c.gates))
    (subst (AllPairs (λ v w. v ≢ w)) (map-append var (latch_lits c.latches) (left_sides c.gates)) others)
