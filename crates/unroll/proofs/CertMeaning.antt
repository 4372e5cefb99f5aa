-- What the formulas of certificates mean: the clauses hold before a step, and a clause is false after it or a goal is shown.
use Rattle.std.proofs.Common.{◌≡◌, ◌↔◌, ℕ, zero, suc, ◌+◌, ◌<◌, ◌⊎◌, inl, inr, Bool, true, false, not, ◌||◌, ℤ, pos, negsuc, neg_ℤ, List, [], ◌∷◌, map, length, get_or, refl, sym, ap, ◌∙◌, subst, arith, All, Any, IsTrue}
use Rattle.std.proofs.lemmas.Bool.{cases_lt, false≢true}
use Rattle.std.proofs.lemmas.List.{take_all, get_or-map, get_or_past, length-map}
use Rattle.std.proofs.lemmas.List.Elements.{All-map, All-weaker}
use Rattle.cnf_base.specs.Meaning.{lit_true, clause_true, Satisfies, value_of as cnf_value}
use Rattle.aig_model.specs.Literal.{var, value_of}
use Rattle.aig_model.specs.WellFormed.{IsCircuit, latch_lits, next_lits}
use Rattle.aig_model.specs.Meaning.{Assignment, Fits, IsLegal, latch_values, next_values, goal_of}
use Rattle.aig_model.specs.LatchClauses.{latch_literal_value, SatisfiesClause, SatisfiesClauses}
use Rattle.aig_model.specs.declared.parts.Latch.{Latch}
use Rattle.aig_model.specs.declared.parts.Parts.{Parts}
use Rattle.unroll.specs.declared.start.Start.TheVariants as starts
use Rattle.unroll.specs.Frames.{vars_before, lit_after, unit_clauses, frames_clauses}
use Rattle.unroll.specs.Queries.{goal_lits, latch_lit, latch_clause, held_clauses}
use Rattle.unroll.specs.Laws.{Holds, KeptModels, KeptIsRefuted, ExcludesModels, ExcludedIsRefuted}
use Rattle.unroll.proofs.Room.{IsOwn, OwnsLatch, latches_own}
use Rattle.unroll.proofs.Truth.{iff_trans, all_iff, or-false, not_true, sat_append, sat_map, Reads, frame_after, read_lit, read_negation}
use Rattle.unroll.proofs.FrameMeaning.{frame, FrameIs, state_size, first_frame}
use Rattle.unroll.proofs.RunMeaning.{frames_mean}
use Rattle.unroll.proofs.GoalMeaning.{either, goal_shown}
use Rattle.unroll.proofs.SearchMeaning.{signals_read}

-- ---- some item of a list
any_cases_at : (P : ℤ → Type 0) (x : ℤ) (xs : List ℤ) (k : ℕ) (y : ℤ) → k < length (x ∷ xs) → get_or (x ∷ xs) k y ≡ y → P y → P x ⊎ Any P xs
any_cases_at P x xs zero y inside at p = inl (subst P (sym at) p)
any_cases_at P x xs (suc k) y inside at p = inr (k, y, omega (arith, inside), at, p)

any_cases : (P : ℤ → Type 0) (x : ℤ) (xs : List ℤ) → Any P (x ∷ xs) → P x ⊎ Any P xs
any_cases P x xs h = any_cases_at P x xs h.0 h.1 h.2 h.3 h.4

any_here : (P : ℤ → Type 0) (x : ℤ) (xs : List ℤ) → P x → Any P (x ∷ xs)
any_here P x xs p = (0, x, omega arith, refl, p)

any_later : (P : ℤ → Type 0) (x : ℤ) (xs : List ℤ) → Any P xs → Any P (x ∷ xs)
any_later P x xs h = (suc h.0, h.1, omega (arith, h.2), h.3, h.4)

any_none : (P : ℤ → Type 0) → ¬ Any P []
any_none P h = absurd (omega (arith, h.2))

or_cases : (a b : Bool) → (a || b) ≡ true → (a ≡ true) ⊎ (b ≡ true)
or_cases true b e = inl refl
or_cases false b e = inr e

or_left : (a b : Bool) → a ≡ true → (a || b) ≡ true
or_left true b e = refl
or_left false b e = absurd (false≢true e)

or_right : (a b : Bool) → b ≡ true → (a || b) ≡ true
or_right true b e = refl
or_right false b e = e

-- ---- a clause whose literals have these values
clause_some : (v : ℕ → Bool) (f : ℤ → ℤ) (value : ℤ → Bool) → ((l : ℤ) → Reads v (f l) (value l)) → (clause : List ℤ)
    → clause_true v (map f clause) ≡ true → Any (λ l. IsTrue (value l)) clause
clause_some v f value reads [] h = absurd (false≢true h)
clause_some v f value reads (l ∷ ls) h =
    let P : ℤ → Type 0 = λ l. IsTrue (value l) in
    elim (or_cases (lit_true v (f l)) (clause_true v (map f ls)) h) [
      | inl here ↦ any_here P l ls (sym (reads l).own ∙ here)
      | inr rest ↦ any_later P l ls (clause_some v f value reads ls rest)
    ]

some_clause : (v : ℕ → Bool) (f : ℤ → ℤ) (value : ℤ → Bool) → ((l : ℤ) → Reads v (f l) (value l)) → (clause : List ℤ)
    → Any (λ l. IsTrue (value l)) clause → clause_true v (map f clause) ≡ true
some_clause v f value reads [] h = absurd (any_none (λ l. IsTrue (value l)) h)
some_clause v f value reads (l ∷ ls) h =
    elim (any_cases (λ l. IsTrue (value l)) l ls h) [
      | inl here ↦ or_left (lit_true v (f l)) (clause_true v (map f ls)) ((reads l).own ∙ here)
      | inr rest ↦ or_right (lit_true v (f l)) (clause_true v (map f ls)) (some_clause v f value reads ls rest)
    ]

not_yes : (b : Bool) → ¬ (b ≡ true) → b ≡ false
not_yes true wrong = absurd (wrong refl)
not_yes false wrong = refl

all_false : (v : ℕ → Bool) (f : ℤ → ℤ) (value : ℤ → Bool) → ((l : ℤ) → Reads v (f l) (value l)) → (clause : List ℤ)
    → Satisfies v (unit_clauses (map neg_ℤ (map f clause))) → ¬ Any (λ l. IsTrue (value l)) clause
all_false v f value reads [] h some = any_none (λ l. IsTrue (value l)) some
all_false v f value reads (l ∷ ls) h some =
    elim (any_cases (λ l. IsTrue (value l)) l ls some) [
      | inl here ↦ (
          let negated : value l ≡ false = (not_true (value l)).0 (sym (reads l).negation ∙ (sym (or-false (lit_true v (neg_ℤ (f l)))) ∙ h.0)) in false≢true (sym negated ∙ here))
      | inr rest ↦ all_false v f value reads ls h.1 rest
    ]

false_all : (v : ℕ → Bool) (f : ℤ → ℤ) (value : ℤ → Bool) → ((l : ℤ) → Reads v (f l) (value l)) → (clause : List ℤ)
    → ¬ Any (λ l. IsTrue (value l)) clause → Satisfies v (unit_clauses (map neg_ℤ (map f clause)))
false_all v f value reads [] none = tt
false_all v f value reads (l ∷ ls) none =
    let P : ℤ → Type 0 = λ l. IsTrue (value l) in
    let wrong : value l ≡ false = not_yes (value l) (λ so. none (any_here P l ls so)) in (
      or-false (lit_true v (neg_ℤ (f l))) ∙ ((reads l).negation ∙ (not_true (value l)).1 wrong),
      false_all v f value reads ls (λ h. none (any_later P l ls h)),
    )

-- ---- the literals of latches, and of their next values
with_other : (v : ℕ → Bool) (l : ℤ) (x y : Bool) → x ≡ y → Reads v l x → Reads v l y
with_other v l x y e r = record { own = r.own ∙ e; negation = r.negation ∙ ap not e }

item_value : (a : Assignment) (lits : List ℕ) (k : ℕ) → get_or a 0 false ≡ false → value_of a (get_or lits k 0) ≡ get_or (map (value_of a) lits) k false
item_value a lits k constant =
    elim (cases_lt k (length lits)) [
      | inl h ↦ sym (get_or-map (value_of a) lits k 0 false h)
      | inr past ↦ (
          let zero_past : get_or lits k 0 ≡ 0 = get_or_past lits k 0 past in
          let false_past : get_or (map (value_of a) lits) k false ≡ false =
          get_or_past (map (value_of a) lits) k false (omega (arith, length-map lits (value_of a))) in
          ap (value_of a) zero_past ∙ (constant ∙ sym false_past))
    ]

item_var : (c : Parts) (lits : List ℕ) (k : ℕ) → All (IsOwn c) lits → var (get_or lits k 0) < c.top + 1
item_var c lits k own =
    elim (cases_lt k (length lits)) [
      | inl h ↦ omega (arith, own k 0 h)
      | inr past ↦ (let zero_past : get_or lits k 0 ≡ 0 = get_or_past lits k 0 past in omega (arith, ap var zero_past))
    ]

latch_reads : (c : Parts) (bits : List Bool) (lits : List ℕ) → All (IsOwn c) lits → get_or (frame_after (c.top + 1) 0 bits) 0 false ≡ false → (l : ℤ)
    → Reads (cnf_value bits) (latch_lit lits l) (latch_literal_value (map (value_of (frame_after (c.top + 1) 0 bits)) lits) l)
latch_reads c bits lits own constant (pos zero) =
    with_other (cnf_value bits) (lit_after 0 0) (value_of (frame_after (c.top + 1) 0 bits) 0) false constant (read_lit (c.top + 1) 0 bits 0 (omega arith))
latch_reads c bits lits own constant (pos (suc k)) =
    let a = frame_after (c.top + 1) 0 bits in
    with_other (cnf_value bits) (lit_after 0 (get_or lits k 0)) (value_of a (get_or lits k 0)) (get_or (map (value_of a) lits) k false) (item_value a lits k constant)
    (read_lit (c.top + 1) 0 bits (get_or lits k 0) (item_var c lits k own))
latch_reads c bits lits own constant (negsuc k) =
    let a = frame_after (c.top + 1) 0 bits in
    read_negation (cnf_value bits) (lit_after 0 (get_or lits k 0)) (get_or (map (value_of a) lits) k false)
    (with_other (cnf_value bits) (lit_after 0 (get_or lits k 0)) (value_of a (get_or lits k 0)) (get_or (map (value_of a) lits) k false) (item_value a lits k constant)
    (read_lit (c.top + 1) 0 bits (get_or lits k 0) (item_var c lits k own)))

own_latches : (c : Parts) → IsCircuit c → All (IsOwn c) (latch_lits c.latches)
own_latches c ok =
    All-map (IsOwn c) (λ (l : Latch). l.lit) c.latches (All-weaker (OwnsLatch c) (λ (l : Latch). IsOwn c l.lit) (λ (l : Latch) own. own.lit) c.latches (latches_own c ok))

own_nexts : (c : Parts) → IsCircuit c → All (IsOwn c) (next_lits c.latches)
own_nexts c ok =
    All-map (IsOwn c) (λ (l : Latch). l.next) c.latches (All-weaker (OwnsLatch c) (λ (l : Latch). IsOwn c l.next) (λ (l : Latch) own. own.next) c.latches (latches_own c ok))

-- ---- one step: the values are its assignment
only_frame : (c : Parts) (a : Assignment) → length a ≡ vars_before c 1 → frame_after (c.top + 1) 0 a ≡ a
only_frame c a size = take_all (c.top + 1) a (omega arith)

reads_in : (c : Parts) (a : Assignment) (lits : List ℕ) → length a ≡ vars_before c 1 → All (IsOwn c) lits → get_or a 0 false ≡ false → (l : ℤ)
    → Reads (cnf_value a) (latch_lit lits l) (latch_literal_value (map (value_of a) lits) l)
reads_in c a lits size own constant l =
    let same = only_frame c a size in
    subst (λ (b : Assignment). Reads (cnf_value a) (latch_lit lits l) (latch_literal_value (map (value_of b) lits) l)) same
    (latch_reads c a lits own (ap (λ (b : Assignment). get_or b 0 false) same ∙ constant) l)

only : (c : Parts) (a : Assignment) (t : ℕ) → t ≡ 0 → frame c 0 a ≡ a → Fits c a × IsLegal c a → FrameIs c starts.Any a t
only c a t e same h =
    subst (FrameIs c starts.Any a) (sym e)
    (record { fits = subst (Fits c) (sym same) h.0; legal = subst (IsLegal c) (sym same) h.1; entry = state_size c (frame c 0 a) })

step_is : (c : Parts) (a : Assignment) → IsCircuit c → length a ≡ vars_before c 1
    → Satisfies (cnf_value a) (frames_clauses c starts.Any 0) ↔ (Fits c a × IsLegal c a)
step_is c a ok size =
    let same : frame c 0 a ≡ a = first_frame c a ∙ only_frame c a size in
    let one : vars_before c 1 ≡ vars_before c (0 + 1) = omega arith in
    let all = frames_mean c starts.Any 0 a ok tt (size ∙ one) in (
      λ h. let f = all.0 h 0 (omega arith) in (subst (Fits c) same f.fits, subst (IsLegal c) same f.legal),
      λ h. all.1 (λ t inside. only c a t (omega arith) same h),
    )

held_means : (c : Parts) (clauses : List (List ℤ)) (a : Assignment) → IsCircuit c → length a ≡ vars_before c 1
    → Satisfies (cnf_value a) (held_clauses c clauses) ↔ Holds c clauses a
held_means c clauses a ok size =
    let v = cnf_value a in
    let lits = latch_lits c.latches in
    let step = step_is c a ok size in
    let whole = sat_append v (frames_clauses c starts.Any 0) (map (latch_clause lits) clauses) in
    let each : Fits c a → Satisfies v (map (latch_clause lits) clauses) ↔ SatisfiesClauses (latch_values c a) clauses =
    λ fits.
    let reads = reads_in c a lits size (own_latches c ok) fits.constant in
    iff_trans (sat_map v (latch_clause lits) clauses)
    (all_iff (λ clause. Unit {0}) (λ clause. clause_true v (latch_clause lits clause) ≡ true) (SatisfiesClause (latch_values c a)) clauses (λ k d h. tt)
    (λ clause h.
    (clause_some v (latch_lit lits) (latch_literal_value (latch_values c a)) reads clause, some_clause v (latch_lit lits) (latch_literal_value (latch_values c a)) reads clause)))
    in (
      λ h.
          let parts = whole.0 h in
          let here = step.0 parts.0 in record { fits = here.0; legal = here.1; satisfied = (each here.0).0 parts.1 },
      λ holds. whole.1 (step.1 (holds.fits, holds.legal), (each holds.fits).1 holds.satisfied),
    )

-- ---- a clause after the step
after_reads : (c : Parts) (a : Assignment) → IsCircuit c → Fits c a → length a ≡ vars_before c 1 → (l : ℤ)
    → Reads (cnf_value a) (latch_lit (next_lits c.latches) l) (latch_literal_value (next_values c a) l)
after_reads c a ok fits size = reads_in c a (next_lits c.latches) size (own_nexts c ok) fits.constant

size_of : (c : Parts) (a : Assignment) → Fits c a → length a ≡ vars_before c 1
size_of c a fits = omega (arith, fits.size)

pub kept_models_lem : KeptModels
kept_models_lem c clauses place a ok =
    let v = cnf_value a in
    let clause = get_or clauses place [] in
    let f = latch_lit (next_lits c.latches) in
    let value = latch_literal_value (next_values c a) in
    let whole = sat_append v (held_clauses c clauses) (unit_clauses (map neg_ℤ (map f clause))) in (
      λ model.
          let parts = whole.0 model.satisfies in
          let holds = (held_means c clauses a ok model.number).0 parts.0 in
          (holds, all_false v f value (after_reads c a ok holds.fits model.number) clause parts.1),
      λ h.
          let size = size_of c a h.0.fits in
          record {
            number = size;
            satisfies = whole.1 ((held_means c clauses a ok size).1 h.0, false_all v f value (after_reads c a ok h.0.fits size) clause h.1);
          },
    )

pub kept_is_refuted_lem : KeptIsRefuted
kept_is_refuted_lem c clauses place ok refuted a holds =
    let v = cnf_value a in
    let clause = get_or clauses place [] in
    let f = latch_lit (next_lits c.latches) in
    let value = latch_literal_value (next_values c a) in
    let reads = after_reads c a ok holds.fits (size_of c a holds.fits) in
    elim (either (clause_true v (map f clause))) [
      | inl so ↦ clause_some v f value reads clause so
      | inr wrong ↦
          absurd
          (refuted v (((kept_models_lem c clauses place a ok).1 (holds, λ some. (let so = some_clause v f value reads clause some in false≢true (sym wrong ∙ so)))).satisfies))
    ]

-- ---- a goal
pub excludes_models_lem : ExcludesModels
excludes_models_lem c sig clauses goal a ok are below =
    let v = cnf_value a in
    let whole = sat_append v (held_clauses c clauses) (unit_clauses (goal_lits 0 sig goal)) in
    let shown : length a ≡ vars_before c 1 → Satisfies v (unit_clauses (goal_lits 0 sig goal)) ↔ (goal_of sig a ≡ goal) =
    λ size.
    goal_shown v a 0 sig goal
    (subst (λ (b : Assignment). All (λ lit. Reads v (lit_after 0 lit) (value_of b lit)) sig) (only_frame c a size) (signals_read c 0 a sig are)) below in (
      λ model.
          let parts = whole.0 model.satisfies in
          ((held_means c clauses a ok model.number).0 parts.0, (shown model.number).0 parts.1),
      λ h.
          let size = size_of c a h.0.fits in
          record { number = size; satisfies = whole.1 ((held_means c clauses a ok size).1 h.0, (shown size).1 h.1) },
    )

pub excluded_is_refuted_lem : ExcludedIsRefuted
excluded_is_refuted_lem c sig clauses goal ok are below refuted a holds e =
    refuted (cnf_value a) (((excludes_models_lem c sig clauses goal a ok are below).1 (holds, e)).satisfies)
