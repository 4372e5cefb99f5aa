-- What stays where the book, the names, the trail or the proof gets more.
use Rattle.std.proofs.Common.{◌≡◌, ℕ, zero, suc, ◌+◌, ◌<◌, ◌⊎◌, eqb, ℤ, Option, Some, None, List, [], ◌∷◌, ◌++◌, length, get_or, refl, ap, sym, ◌∙◌, subst, arith, inl, inr}
use Rattle.std.specs.List.{slice_get, enumerate_from, Contains, AllByRecursion}
use Rattle.std.proofs.lemmas.Bool.{cases_Bool, eq-eqb, ne_eqb}
use Rattle.std.proofs.lemmas.List.{append-nil, append_assoc}
use Rattle.std.proofs.lemmas.List.Elements.{All-from_recursion, All-contains, Contains-append_left, Contains-append_cases}
use Rattle.std.proofs.lemmas.Option.{same_Some}
use Rattle.cnf_base.specs.Status.{IsUnitIn}
use Rattle.lrat_text.specs.Standing.{clause_at}
use Rattle.sat_trail.specs.declared.clause_id.ClauseId.{ClauseId}
use Rattle.sat_trail.specs.declared.clause_id.ClauseId.TheVariants as ids
use Rattle.sat_trail.specs.Trail.{Assignment, lits}
use Rattle.sat_watch.specs.Book.{IsClauseOf, Follow}
use Rattle.sat_learn.specs.Reasons.{IsReason, AreReasons, HasId, HaveIds}
use Rattle.sat_solver.specs.Sound.{IsCovered}
use Rattle.sat_solver.proofs.Roots.{KeepsUnits, units_same}

-- ---- lists

pub slice_get-append_left : {X : Type 0} (xs ys : List X) (k : ℕ) (x : X) → slice_get xs k ≡ Some x → slice_get (xs ++ ys) k ≡ Some x
slice_get-append_left [] ys k x h = cc
slice_get-append_left (y ∷ ys) zs zero x h = h
slice_get-append_left (y ∷ ys) zs (suc k) x h = slice_get-append_left ys zs k x h

pub slice_get-push : {X : Type 0} (xs : List X) (y : X) → slice_get (xs ++ y ∷ []) (length xs) ≡ Some y
slice_get-push [] y = refl
slice_get-push (x ∷ xs) y = slice_get-push xs y

pub slice_get-push_cases : {X : Type 0} (xs : List X) (y : X) (k : ℕ) (x : X) → slice_get (xs ++ y ∷ []) k ≡ Some x → ((slice_get xs k ≡ Some x) × (k < length xs)) ⊎ ((k ≡ length xs) × (y ≡ x))
slice_get-push_cases [] y zero x h = inr (refl, same_Some y x h)
slice_get-push_cases [] y (suc k) x h = cc
slice_get-push_cases (z ∷ zs) y zero x h = inl (h, grind arith)
slice_get-push_cases (z ∷ zs) y (suc k) x h =
    elim (slice_get-push_cases zs y k x h) [
      | inl a ↦ inl (a.0, (let lt = a.1 in grind arith))
      | inr a ↦ inr (ap suc a.0, a.1)
    ]

get_or-push_left : (xs : List ℕ) (y : ℕ) (k : ℕ) → k < length xs → get_or (xs ++ y ∷ []) k 0 ≡ get_or xs k 0
get_or-push_left [] y k h = absurd (grind arith)
get_or-push_left (x ∷ xs) y zero h = refl
get_or-push_left (x ∷ xs) y (suc k) h = get_or-push_left xs y k (grind arith)

get_or-push_last : (xs : List ℕ) (y : ℕ) → get_or (xs ++ y ∷ []) (length xs) 0 ≡ y
get_or-push_last [] y = refl
get_or-push_last (x ∷ xs) y = get_or-push_last xs y

-- ---- reasons

IsReason-more_clauses : (cs more : List (List ℤ)) (before : List ℤ) (l : ℤ) (reason : Option ClauseId) → IsReason cs before l reason → IsReason (cs ++ more) before l reason
IsReason-more_clauses cs more before l None h = tt
IsReason-more_clauses cs more before l (Some (ids.Book place)) h = (h.0, slice_get-append_left cs more place h.0 h.1, h.2)
IsReason-more_clauses cs more before l (Some (ids.Unit id)) h = h

pub AreReasons-more_clauses : (cs more : List (List ℤ)) (before : List ℤ) (ps : List Assignment) → AreReasons cs before ps → AreReasons (cs ++ more) before ps
AreReasons-more_clauses cs more before [] h = tt
AreReasons-more_clauses cs more before (p ∷ ps) h = (IsReason-more_clauses cs more before p.lit p.reason h.0, AreReasons-more_clauses cs more (before ++ p.lit ∷ []) ps h.1)

pub AreReasons-append : (cs : List (List ℤ)) (before : List ℤ) (ps qs : List Assignment) → AreReasons cs before ps → AreReasons cs (before ++ lits ps) qs → AreReasons cs before (ps ++ qs)
AreReasons-append cs before [] qs h k = let P : List ℤ → Type 0 = λ ls. AreReasons cs ls qs in subst P (append-nil before) k
AreReasons-append cs before (p ∷ ps) qs h k =
    let P : List ℤ → Type 0 = λ ls. AreReasons cs ls qs in
    (h.0, AreReasons-append cs (before ++ p.lit ∷ []) ps qs h.1 (subst P (sym (append_assoc before (p.lit ∷ []) (lits ps))) k))

pub AreReasons-prefix : (cs : List (List ℤ)) (before : List ℤ) (ps qs : List Assignment) → AreReasons cs before (ps ++ qs) → AreReasons cs before ps
AreReasons-prefix cs before [] qs h = tt
AreReasons-prefix cs before (p ∷ ps) qs h = (h.0, AreReasons-prefix cs (before ++ p.lit ∷ []) ps qs h.1)

pub AreReasons-rest : (cs : List (List ℤ)) (before : List ℤ) (ps qs : List Assignment) → AreReasons cs before (ps ++ qs) → AreReasons cs (before ++ lits ps) qs
AreReasons-rest cs before [] qs h = let P : List ℤ → Type 0 = λ ls. AreReasons cs ls qs in subst P (sym (append-nil before)) h
AreReasons-rest cs before (p ∷ ps) qs h =
    let P : List ℤ → Type 0 = λ ls. AreReasons cs ls qs in
    subst P (append_assoc before (p.lit ∷ []) (lits ps)) (AreReasons-rest cs (before ++ p.lit ∷ []) ps qs h.1)

-- one more at the end
pub AreReasons-push : (cs : List (List ℤ)) (ps : List Assignment) (p : Assignment) → AreReasons cs [] ps → IsReason cs (lits ps) p.lit p.reason → AreReasons cs [] (ps ++ p ∷ [])
AreReasons-push cs ps p h k = AreReasons-append cs [] ps (p ∷ []) h (k, tt)

-- what is forced has a clause of the book for its reason
IsReason-forced : (cs : List (List ℤ)) (before : List ℤ) (l : ℤ) (id : ClauseId) (clause : List ℤ) → IsClauseOf cs id clause → IsUnitIn before clause l → IsReason cs before l (Some id)
IsReason-forced cs before l (ids.Book place) clause is unit = (clause, is, unit)
IsReason-forced cs before l (ids.Unit number) clause is unit = absurd is

pub AreReasons-follow : (cs : List (List ℤ)) (level : ℕ) (before : List ℤ) (ps : List Assignment) → Follow cs level before ps → AreReasons cs before ps
AreReasons-follow cs level before [] h = tt
AreReasons-follow cs level before (p ∷ ps) h =
    let forced = h.0 in
    let P : Option ClauseId → Type 0 = λ reason. IsReason cs before p.lit reason in
    (subst P (sym forced.reason) (IsReason-forced cs before p.lit forced.id forced.clause forced.is_clause forced.unit), AreReasons-follow cs level (before ++ p.lit ∷ []) ps h.1)

-- ---- names

-- what is found stays found
pub clause_at-append : (live more : List (ℕ × List ℤ)) (id : ℕ) (clause : List ℤ) → clause_at live id ≡ Some clause → clause_at (live ++ more) id ≡ Some clause
clause_at-append [] more id clause h = cc
clause_at-append (pair ∷ live) more id clause h =
    elim (cases_Bool (eqb pair.0 id)) [
      | inl e ↦ rw e (rw e at h)
      | inr e ↦ rw e (clause_at-append live more id clause (rw e at h))
    ]

-- the clauses are numbered from n on
pub clause_at-enumerate : (n : ℕ) (cs : List (List ℤ)) (k : ℕ) (clause : List ℤ) → slice_get cs k ≡ Some clause → clause_at (enumerate_from n cs) (n + k) ≡ Some clause
clause_at-enumerate n [] k clause h = cc
clause_at-enumerate n (c ∷ cs) zero clause h = rw (eq-eqb n (n + 0) (omega arith)) h
clause_at-enumerate n (c ∷ cs) (suc k) clause h =
    let next : n + 1 + k ≡ n + suc k = omega arith in
    rw (ne_eqb n (n + suc k) (λ e. omega arith)) (ap (clause_at (enumerate_from (n + 1) cs)) (sym next) ∙ clause_at-enumerate (n + 1) cs k clause h)

pub enumerate_from-append : (n : ℕ) (xs ys : List (List ℤ)) → enumerate_from n (xs ++ ys) ≡ enumerate_from n xs ++ enumerate_from (n + length xs) ys
enumerate_from-append n [] ys = ap (λ m. enumerate_from m ys) (omega arith)
enumerate_from-append n (x ∷ xs) ys =
    let next : n + 1 + length xs ≡ n + length (x ∷ xs) = grind arith in
    ap (λ r. (n, x) ∷ r) (enumerate_from-append (n + 1) xs ys ∙ ap (λ m. enumerate_from (n + 1) xs ++ enumerate_from m ys) next)

pub HasId-more_live : (live more : List (ℕ × List ℤ)) (id : ℕ) (ls : List ℤ) → HasId live id ls → HasId (live ++ more) id ls
HasId-more_live live more id ls h = (h.0, clause_at-append live more id h.0 h.1, h.2)

pub HaveIds-more_live : (live more : List (ℕ × List ℤ)) (cs : List (List ℤ)) (proof_ids : List ℕ) (ps : List Assignment) → HaveIds live cs proof_ids ps → HaveIds (live ++ more) cs proof_ids ps
HaveIds-more_live live more cs proof_ids ps h = record {
  book = λ place clause at. HasId-more_live live more (get_or proof_ids place 0) clause (h.book place clause at);
  units = λ p id there is. HasId-more_live live more id (p.lit ∷ []) (h.units p id there is);
}

-- one more clause under a name
pub HaveIds-more_clauses : (live : List (ℕ × List ℤ)) (cs : List (List ℤ)) (proof_ids : List ℕ) (ps : List Assignment) (clause : List ℤ) (name : ℕ) → length proof_ids ≡ length cs → HaveIds live cs proof_ids ps → HasId live name clause → HaveIds live (cs ++ clause ∷ []) (proof_ids ++ name ∷ []) ps
HaveIds-more_clauses live cs proof_ids ps clause name same h has_id = record {
  book = λ place c at. elim (slice_get-push_cases cs clause place c at) [
    | inl a ↦ (let within : place < length proof_ids = (let lt = a.1 in omega arith) in
        let P : ℕ → Type 0 = λ n. HasId live n c in
        subst P (sym (get_or-push_left proof_ids name place within)) (h.book place c a.0))
    | inr a ↦ (let last : get_or (proof_ids ++ name ∷ []) place 0 ≡ name = ap (λ k. get_or (proof_ids ++ name ∷ []) k 0) (a.0 ∙ sym same) ∙ get_or-push_last proof_ids name in
        let P : ℕ → Type 0 = λ n. HasId live n c in
        let Q : List ℤ → Type 0 = λ ls. HasId live name ls in
        subst P (sym last) (subst Q a.1 has_id))
  ];
  units = h.units;
}

-- assignments of which those for a unit clause are called so
abbrev pub HaveUnitIds : List (ℕ × List ℤ) → List Assignment → Type 0
HaveUnitIds live ps = (p : Assignment) (id : ℕ) → Contains ps p → p.reason ≡ Some (ids.Unit id) → HasId live id (p.lit ∷ [])

pub HaveIds-more_assignments : (live : List (ℕ × List ℤ)) (cs : List (List ℤ)) (proof_ids : List ℕ) (ps qs : List Assignment) → HaveIds live cs proof_ids ps → HaveUnitIds live qs → HaveIds live cs proof_ids (ps ++ qs)
HaveIds-more_assignments live cs proof_ids ps qs h k = record {
  book = h.book;
  units = λ p id there is. elim (Contains-append_cases ps qs p there) [ inl old ↦ h.units p id old is | inr new ↦ k p id new is ];
}

pub HaveIds-prefix : (live : List (ℕ × List ℤ)) (cs : List (List ℤ)) (proof_ids : List ℕ) (ps qs : List Assignment) → HaveIds live cs proof_ids (ps ++ qs) → HaveIds live cs proof_ids ps
HaveIds-prefix live cs proof_ids ps qs h = record { book = h.book; units = λ p id there is. h.units p id (Contains-append_left ps qs p there) is }

-- no assignment that is forced is one for a unit clause
book_only : (cs : List (List ℤ)) (level : ℕ) (before : List ℤ) (qs : List Assignment) → Follow cs level before qs → AllByRecursion (λ (p : Assignment). (id : ℕ) → p.reason ≡ Some (ids.Unit id) → ⊥) qs
book_only cs level before [] h = tt
book_only cs level before (q ∷ qs) h = (λ id is. none h.0.id h.0.is_clause id (sym h.0.reason ∙ is), book_only cs level (before ++ q.lit ∷ []) qs h.1)
  where
    none : (forced : ClauseId) → IsClauseOf cs forced h.0.clause → (id : ℕ) → ◌≡◌ {A = Option ClauseId} (Some forced) (Some (ids.Unit id)) → ⊥
    none (ids.Book place) is id e = cc
    none (ids.Unit number) is id e = is

pub HaveIds-follow : (live : List (ℕ × List ℤ)) (cs : List (List ℤ)) (proof_ids : List ℕ) (level : ℕ) (before : List ℤ) (ps qs : List Assignment) → HaveIds live cs proof_ids ps → Follow cs level before qs → HaveIds live cs proof_ids (ps ++ qs)
HaveIds-follow live cs proof_ids level before ps qs h k =
    let P : Assignment → Type 0 = λ p. (id : ℕ) → p.reason ≡ Some (ids.Unit id) → ⊥ in
    HaveIds-more_assignments live cs proof_ids ps qs h (λ p id there is. absurd (All-contains P qs p (All-from_recursion P qs (book_only cs level before qs k)) there id is))

only : (p q : Assignment) → Contains (p ∷ []) q → p ≡ q
only p q (zero, lt, is) = is
only p q (suc k, lt, is) = absurd (grind arith)

pub HaveIds-decide : (live : List (ℕ × List ℤ)) (cs : List (List ℤ)) (proof_ids : List ℕ) (ps : List Assignment) (p : Assignment) → HaveIds live cs proof_ids ps → p.reason ≡ None → HaveIds live cs proof_ids (ps ++ p ∷ [])
HaveIds-decide live cs proof_ids ps p h none =
    HaveIds-more_assignments live cs proof_ids ps (p ∷ []) h (λ q id there is. let same = only p q there in let e = ap (λ (r : Assignment). r.reason) same in cc)

pub HaveIds-unit : (live : List (ℕ × List ℤ)) (cs : List (List ℤ)) (proof_ids : List ℕ) (ps : List Assignment) (p : Assignment) (id : ℕ) → HaveIds live cs proof_ids ps → p.reason ≡ Some (ids.Unit id) → HasId live id (p.lit ∷ []) → HaveIds live cs proof_ids (ps ++ p ∷ [])
HaveIds-unit live cs proof_ids ps p id h is has_id =
    HaveIds-more_assignments live cs proof_ids ps (p ∷ []) h (λ q n there says.
    let same = only p q there in
    let P : Assignment → Type 0 = λ r. HasId live n (r.lit ∷ []) in
    let Q : ℕ → Type 0 = λ m. HasId live m (p.lit ∷ []) in
    let number : id ≡ n = unit_of (sym is ∙ ap (λ (r : Assignment). r.reason) same ∙ says) in
    subst P same (subst Q number has_id))
  where
    unit_of : {n : ℕ} → ◌≡◌ {A = Option ClauseId} (Some (ids.Unit id)) (Some (ids.Unit n)) → id ≡ n
    unit_of e = cc

-- ---- what is covered

pub IsCovered-more : (cs more : List (List ℤ)) (assignments assignments' : List Assignment) (clause : List ℤ) → KeepsUnits assignments assignments' → IsCovered cs assignments clause → IsCovered (cs ++ more) assignments' clause
IsCovered-more cs more assignments assignments' clause keeps (inl both) = inl both
IsCovered-more cs more assignments assignments' clause keeps (inr (inl unit)) =
    let stands = keeps unit.0 unit.1 unit.3 in
    inr (inl (unit.0, stands.0, unit.2, stands.1))
IsCovered-more cs more assignments assignments' clause keeps (inr (inr held)) = inr (inr (held.0, Contains-append_left cs more held.0 held.1, held.2))

pub IsCovered-more_clauses : (cs more : List (List ℤ)) (assignments : List Assignment) (clause : List ℤ) → IsCovered cs assignments clause → IsCovered (cs ++ more) assignments clause
IsCovered-more_clauses cs more assignments clause h = IsCovered-more cs more assignments assignments clause (units_same assignments) h

pub IsCovered-more_assignments : (cs : List (List ℤ)) (assignments assignments' : List Assignment) (clause : List ℤ) → KeepsUnits assignments assignments' → IsCovered cs assignments clause → IsCovered cs assignments' clause
IsCovered-more_assignments cs assignments assignments' clause keeps h =
    let P : List (List ℤ) → Type 0 = λ ls. IsCovered ls assignments' clause in
    subst P (append-nil cs) (IsCovered-more cs [] assignments assignments' clause keeps h)
