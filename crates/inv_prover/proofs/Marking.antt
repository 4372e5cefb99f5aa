-- Marks that are added to variables.
use Rattle.std.proofs.Common.{◌≡◌, ◌⊎◌, ℕ, ◌+◌, ◌<◌, Bool, true, false, ◌||◌, List, length, get_or, set, refl, sym, ap, ◌∙◌, subst, inl, inr, arith, All, Contains, Some, slice_get}
use Rattle.std.proofs.Common.{if◌then◌else◌}
use Rattle.std.specs.List.{sum_by}
use Rattle.std.proofs.lemmas.Bool.{false≢true, cases_eq}
use Rattle.std.proofs.lemmas.Option.{slice_get_within, get_or_from_slice_get}
use Rattle.std.proofs.lemmas.List.{get_or-set_same, get_or-set_other, length-set}
use Rattle.std.proofs.lemmas.List.Sums.{sum_by-set}
use Rattle.std.proofs.lemmas.List.Elements.{All-contains}
use Rattle.aig_model.specs.Literal.{var}
use Rattle.aig_model.specs.Dependence.{Meets, DependsOnLatch}
use Rattle.aig_model.specs.Dependence.Meets.{AtLatch, ByLeft, ByRight}
use Rattle.aig_model.specs.Dependence.DependsOnLatch.{Now, Later}
use Rattle.aig_model.specs.declared.parts.Latch.{Latch}
use Rattle.aig_model.specs.declared.parts.AndGate.{AndGate}
use Rattle.aig_model.specs.declared.parts.Parts.{Parts}
use Rattle.inv_prover.specs.Dependents.{Marked, MarksMore, MarksDependence, IsGateClosed, IsLatchClosed, unmarked}

-- ---- more marks
pub no_more : (marks : List Bool) → MarksMore marks marks false
no_more marks = record {
  size = refl;
  keeps = λ lit h. h;
  same = λ h. refl;
  fewer = λ h. absurd (false≢true h);
}

-- a variable gets its mark
pub marked_now : (old : List Bool) (lit : ℕ) → var lit < length old → Marked (set old (var lit) true) lit
marked_now old lit inside = get_or-set_same old (var lit) true false inside

pub only_it : (old : List Bool) (lit other : ℕ) → Marked (set old (var lit) true) other → Marked old other ⊎ (var other ≡ var lit)
only_it old lit other h = elim (cases_eq (var other) (var lit)) [
  | inl same ↦ inr same
  | inr differs ↦ inl (sym (get_or-set_other old (var lit) (var other) true false differs) ∙ h)
]

pub still_marked : (old : List Bool) (lit other : ℕ) → var lit < length old → Marked old other → Marked (set old (var lit) true) other
still_marked old lit other inside h = elim (cases_eq (var other) (var lit)) [
  | inl same ↦ ap (λ v. get_or (set old (var lit) true) v false) same ∙ marked_now old lit inside
  | inr differs ↦ get_or-set_other old (var lit) (var other) true false differs ∙ h
]

pub one_more : (old : List Bool) (lit : ℕ) → var lit < length old → get_or old (var lit) false ≡ false → MarksMore old (set old (var lit) true) true
one_more old lit inside free = record {
  size = length-set old (var lit) true;
  keeps = λ other h. still_marked old lit other inside h;
  same = λ h. absurd (false≢true (sym h));
  fewer = λ h.
      let gap = λ (b : Bool). (if b then 0 else 1) in
      let total : sum_by gap (set old (var lit) true) + gap (get_or old (var lit) false) ≡ sum_by gap old + gap true = sum_by-set gap old (var lit) true false inside in
      let there : gap (get_or old (var lit) false) ≡ 1 = ap gap free in
      omega (arith, total, there);
}

by_value : (x : Bool) → (x ≡ true) ⊎ (x ≡ false)
by_value true = inl refl
by_value false = inr refl

pub either_false : (x y : Bool) → (x || y) ≡ false → (x ≡ false) × (y ≡ false)
either_false true y h = absurd (false≢true (sym h))
either_false false y h = (refl, h)

less_or_same : (a b : List Bool) (x : Bool) → MarksMore a b x → (unmarked b < unmarked a) ⊎ (b ≡ a)
less_or_same a b true h = inl (h.fewer refl)
less_or_same a b false h = inr (h.same refl)

both_fewer : (a b d : List Bool) (x y : Bool) → MarksMore a b x → MarksMore b d y → (x || y) ≡ true → unmarked d < unmarked a
both_fewer a b d true y h k some =
    let first : unmarked b < unmarked a = h.fewer refl in
    elim (less_or_same b d y k) [
      | inl less ↦ omega (arith, first, less)
      | inr same ↦ let equal : unmarked d ≡ unmarked b = ap unmarked same in omega (arith, first, equal)
    ]
both_fewer a b d false y h k some =
    let equal : unmarked b ≡ unmarked a = ap unmarked (h.same refl) in
    let second : unmarked d < unmarked b = k.fewer some in
    omega (arith, equal, second)

pub both_more : (a b d : List Bool) (x y : Bool) → MarksMore a b x → MarksMore b d y → MarksMore a d (x || y)
both_more a b d x y h k = record {
  size = k.size ∙ h.size;
  keeps = λ lit m. k.keeps lit (h.keeps lit m);
  same = λ none. let parts = either_false x y none in k.same parts.1 ∙ h.same parts.0;
  fewer = both_fewer a b d x y h k;
}

-- ---- what is marked
-- a literal of the same variable meets the same latches
pub meets_same : (c : Parts) (lit other k : ℕ) → var other ≡ var lit → Meets c lit k → Meets c other k
meets_same c lit other k same (AtLatch at here) = AtLatch at (same ∙ here)
meets_same c lit other k same (ByLeft here lhs m) = ByLeft here (same ∙ lhs) m
meets_same c lit other k same (ByRight here lhs m) = ByRight here (same ∙ lhs) m

-- a mark may go to a variable whose latches the signals depend on
pub dependence_more : (c : Parts) (sig : List ℕ) (old new : List Bool) (lit : ℕ)
    → ((other : ℕ) → Marked new other → Marked old other ⊎ (var other ≡ var lit))
    → ((k : ℕ) → Meets c lit k → DependsOnLatch c sig k) → MarksDependence c sig old → MarksDependence c sig new
dependence_more c sig old new lit only may h = λ other k marked met. elim (only other marked) [
  | inl before ↦ h other k before met
  | inr same ↦ may k (meets_same c other lit k (sym same) met)
]

pub by_left : (c : Parts) (sig : List ℕ) (marks : List Bool) (g : AndGate) → Contains c.gates g → Marked marks g.lhs → MarksDependence c sig marks
    → (k : ℕ) → Meets c g.left k → DependsOnLatch c sig k
by_left c sig marks g here marked h = λ k met. h g.lhs k marked (ByLeft here refl met)

pub by_right : (c : Parts) (sig : List ℕ) (marks : List Bool) (g : AndGate) → Contains c.gates g → Marked marks g.lhs → MarksDependence c sig marks
    → (k : ℕ) → Meets c g.right k → DependsOnLatch c sig k
by_right c sig marks g here marked h = λ k met. h g.lhs k marked (ByRight here refl met)

pub by_next : (c : Parts) (sig : List ℕ) (marks : List Bool) (j : ℕ) (l : Latch) → slice_get c.latches j ≡ Some l → Marked marks l.lit → MarksDependence c sig marks
    → (k : ℕ) → Meets c l.next k → DependsOnLatch c sig k
by_next c sig marks j l at marked h = λ k met. Later (h l.lit j marked (AtLatch at refl)) at met

-- ---- nothing is left to mark
-- the latches that a marked literal meets are marked
pub met_marked : (c : Parts) (marks : List Bool) → All (IsGateClosed marks) c.gates → (lit k : ℕ) → Meets c lit k → Marked marks lit
    → (l : Latch) → slice_get c.latches k ≡ Some l → Marked marks l.lit
met_marked c marks gates lit k (AtLatch {l = m} at here) marked l there =
    let same : m ≡ l = cc in
    subst (λ (x : Latch). Marked marks x.lit) same (ap (λ v. get_or marks v false) (sym here) ∙ marked)
met_marked c marks gates lit k (ByLeft {g = g} here lhs met) marked l there =
    met_marked c marks gates g.left k met ((All-contains (IsGateClosed marks) c.gates g gates here (ap (λ v. get_or marks v false) (sym lhs) ∙ marked)).0) l there
met_marked c marks gates lit k (ByRight {g = g} here lhs met) marked l there =
    met_marked c marks gates g.right k met ((All-contains (IsGateClosed marks) c.gates g gates here (ap (λ v. get_or marks v false) (sym lhs) ∙ marked)).1) l there

pub at_place : {X : Type 0} (xs : List X) (k : ℕ) (x : X) → slice_get xs k ≡ Some x → Contains xs x
at_place xs k x h = (k, slice_get_within xs k x h, get_or_from_slice_get xs k x x h)

pub all_marked : (c : Parts) (sig : List ℕ) (marks : List Bool) → All (Marked marks) sig → All (IsGateClosed marks) c.gates → All (IsLatchClosed marks) c.latches
    → (k : ℕ) → DependsOnLatch c sig k → (l : Latch) → slice_get c.latches k ≡ Some l → Marked marks l.lit
all_marked c sig marks signals gates latches k (Now {lit = lit} listed met) l there =
    met_marked c marks gates lit k met (All-contains (Marked marks) sig lit signals listed) l there
all_marked c sig marks signals gates latches k (Later {j = j} {l = m} before at met) l there =
    met_marked c marks gates m.next k met
    (All-contains (IsLatchClosed marks) c.latches m latches (at_place c.latches j m at) (all_marked c sig marks signals gates latches j before m at)) l there

-- ---- the whole
pub exactly : (c : Parts) (sig : List ℕ) (none first last : List Bool) → ((v : ℕ) → get_or none v false ≡ false)
    → ((lit : ℕ) → Marked first lit → Marked none lit ⊎ ((x : ℕ) × Contains sig x × (var lit ≡ var x))) → All (Marked first) sig
    → ((lit : ℕ) → Marked first lit → Marked last lit) → All (IsGateClosed last) c.gates → All (IsLatchClosed last) c.latches
    → ((s : List ℕ) → MarksDependence c s first → MarksDependence c s last) → (k : ℕ) (l : Latch) → slice_get c.latches k ≡ Some l
    → (Marked last l.lit → DependsOnLatch c sig k) × (DependsOnLatch c sig k → Marked last l.lit)
exactly c sig none first last blank only marked keeps gates latches dependence k l at =
    let begins : MarksDependence c sig first = λ lit j m met. elim (only lit m) [
      | inl before ↦ absurd (false≢true (sym (blank (var lit)) ∙ before))
      | inr by ↦ Now by.1 (meets_same c lit by.0 j (sym by.2) met)
    ] in
    let signals : All (Marked last) sig = λ j d inside. keeps (get_or sig j d) (marked j d inside) in (
      λ m. dependence sig begins l.lit k m (AtLatch at refl),
      λ depends. all_marked c sig last signals gates latches k depends l at,
    )
