-- Live clauses of a store that is read, grows, and has entries killed and revived.
use Rattle.std.proofs.Common.{◌≡◌, ◌≢◌, ℕ, zero, suc, ◌<◌, Bool, true, false, cond, ◌&&◌, ◌||◌, eqb, ℤ, List, [], ◌∷◌, ◌++◌, length, get_or, map, set, Option, Some, None, is_some, refl, ap, sym, ◌∙◌, subst, arith, inl, inr}
use Rattle.std.specs.List.{All, AllByRecursion, list_any}
use Rattle.std.proofs.lemmas.Bool.{cases_Bool, or_cases, or_parts, and_parts, ne_eqb, eq-eqb, eqb-true, both_ways}
use Rattle.std.proofs.lemmas.List.{get_or-map, length-map}
use Rattle.std.proofs.lemmas.List.Elements.{recursion_from_All}
use Rattle.cnf_base.proofs.Literals.{or-false}
use Rattle.lrat_check.specs.declared.store.Entry.{Entry}
use Rattle.lrat_check.specs.declared.fault.ProofKind.{ProofKind}
use Rattle.lrat_check.specs.declared.fault.ProofKind.TheVariants.{UnknownId}
use Rattle.lrat_text.specs.Standing.{clause_at, without, without_all}
use Rattle.lrat_check.specs.FirstFault.{delete_fault}
use Rattle.lrat_check.specs.StoredClauses.{literals_of, live_of, IsRising, is_alive, killed, killed_all, first_dead, revived, revived_by}

-- ids that rise

IsRising-tail : (e : Entry) (es : List Entry) → IsRising (e ∷ es) → IsRising es
IsRising-tail e es h i j d lt within = h (suc i) (suc j) d (omega arith) (omega arith)

rising_over : (e : Entry) (es : List Entry) → IsRising (e ∷ es) → AllByRecursion (λ (x : Entry). e.id < x.id) es
rising_over e es h = recursion_from_All (λ (x : Entry). e.id < x.id) es (λ k d lt. h 0 (suc k) d (omega arith) (omega arith))

IsRising-map : (f : Entry → Entry) → ((e : Entry) → (f e).id ≡ e.id) → (es : List Entry) → IsRising es → IsRising (map f es)
IsRising-map f same es h i j d lt within =
    let long : length (map f es) ≡ length es = length-map es f in
    let a : get_or (map f es) i d ≡ f (get_or es i d) = get_or-map f es i d d (omega arith) in
    let b : get_or (map f es) j d ≡ f (get_or es j d) = get_or-map f es j d d (omega arith) in
    let less : (get_or es i d).id < (get_or es j d).id = h i j d lt (omega arith) in
    rw (a, b, same (get_or es i d), same (get_or es j d)) less

id-killed : (id : ℕ) (e : Entry) → (killed id e).id ≡ e.id
id-killed id e = elim (cases_Bool (eqb e.id id)) [ inl k ↦ rw k refl | inr k ↦ rw k refl ]

id-revived : (id : ℕ) (e : Entry) → (revived id e).id ≡ e.id
id-revived id e = elim (cases_Bool (eqb e.id id)) [ inl k ↦ rw k refl | inr k ↦ rw k refl ]

pub IsRising-killed : (id : ℕ) (es : List Entry) → IsRising es → IsRising (map (killed id) es)
IsRising-killed id = IsRising-map (killed id) (id-killed id)

pub IsRising-revived : (id : ℕ) (es : List Entry) → IsRising es → IsRising (map (revived id) es)
IsRising-revived id = IsRising-map (revived id) (id-revived id)

-- the entry of an id

map-apart : (f : Entry → Entry) (id : ℕ) → ((e : Entry) → eqb e.id id ≡ false → f e ≡ e) → (es : List Entry) → AllByRecursion (λ (e : Entry). e.id ≢ id) es → map f es ≡ es
map-apart f id keeps [] h = refl
map-apart f id keeps (e ∷ es) h =
    let here : f e ≡ e = keeps e (ne_eqb e.id id h.0) in
    let rest : map f es ≡ es = map-apart f id keeps es h.1 in cc

apart_from_over : (x : ℕ) (es : List Entry) → AllByRecursion (λ (e : Entry). x < e.id) es → AllByRecursion (λ (e : Entry). e.id ≢ x) es
apart_from_over x [] h = tt
apart_from_over x (e ∷ es) h = ((λ same. omega arith), apart_from_over x es h.1)

-- a function that changes the entry of an id alone changes the one at its place
map-at : (f : Entry → Entry) (id : ℕ) → ((e : Entry) → eqb e.id id ≡ false → f e ≡ e) → (es : List Entry) (p : ℕ) (d : Entry) → IsRising es → p < length es → (get_or es p d).id ≡ id → map f es ≡ set es p (f (get_or es p d))
map-at f id keeps [] p d rising lt at = absurd (omega arith)
map-at f id keeps (e ∷ es) zero d rising lt at =
    let P : ℕ → Type 0 = λ x. AllByRecursion (λ (e : Entry). e.id ≢ x) es in
    ap (λ (t : List Entry). f e ∷ t) (map-apart f id keeps es (subst P at (apart_from_over e.id es (rising_over e es rising))))
map-at f id keeps (e ∷ es) (suc p) d rising lt at =
    let less : e.id < (get_or es p d).id = rising 0 (suc p) d (omega arith) lt in
    let here : f e ≡ e = keeps e (ne_eqb e.id id (λ same. omega arith)) in
    let rest = map-at f id keeps es p d (IsRising-tail e es rising) (omega arith) at in cc

pub killed-none : (id : ℕ) (es : List Entry) → All (λ (e : Entry). e.id ≢ id) es → map (killed id) es ≡ es
killed-none id es h = map-apart (killed id) id (λ e k. rw k refl) es (recursion_from_All (λ (e : Entry). e.id ≢ id) es h)

pub revived-none : (id : ℕ) (es : List Entry) → All (λ (e : Entry). e.id ≢ id) es → map (revived id) es ≡ es
revived-none id es h = map-apart (revived id) id (λ e k. rw k refl) es (recursion_from_All (λ (e : Entry). e.id ≢ id) es h)

pub killed-at : (id : ℕ) (es : List Entry) (p : ℕ) (d : Entry) → IsRising es → p < length es → (get_or es p d).id ≡ id → map (killed id) es ≡ set es p (record (get_or es p d) { alive = false })
killed-at id es p d rising lt at =
    map-at (killed id) id (λ e k. rw k refl) es p d rising lt at
    ∙ ap (λ (b : Bool). set es p (cond b (record (get_or es p d) { alive = false }) (get_or es p d))) (eq-eqb (get_or es p d).id id at)

pub revived-at : (id : ℕ) (es : List Entry) (p : ℕ) (d : Entry) → IsRising es → p < length es → (get_or es p d).id ≡ id → map (revived id) es ≡ set es p (record (get_or es p d) { alive = true })
revived-at id es p d rising lt at =
    map-at (revived id) id (λ e k. rw k refl) es p d rising lt at
    ∙ ap (λ (b : Bool). set es p (cond b (record (get_or es p d) { alive = true }) (get_or es p d))) (eq-eqb (get_or es p d).id id at)

is_alive-apart : (id : ℕ) (es : List Entry) → AllByRecursion (λ (e : Entry). e.id ≢ id) es → is_alive es id ≡ false
is_alive-apart id [] h = refl
is_alive-apart id (e ∷ es) h = rw (ne_eqb e.id id h.0) (is_alive-apart id es h.1)

pub is_alive-none : (id : ℕ) (es : List Entry) → All (λ (e : Entry). e.id ≢ id) es → is_alive es id ≡ false
is_alive-none id es h = is_alive-apart id es (recursion_from_All (λ (e : Entry). e.id ≢ id) es h)

pub is_alive-at : (id : ℕ) (es : List Entry) (p : ℕ) (d : Entry) → IsRising es → p < length es → (get_or es p d).id ≡ id → is_alive es id ≡ (get_or es p d).alive
is_alive-at id [] p d rising lt at = absurd (omega arith)
is_alive-at id (e ∷ es) zero d rising lt at =
    let P : ℕ → Type 0 = λ x. AllByRecursion (λ (e : Entry). e.id ≢ x) es in
    rw (eq-eqb e.id id at, is_alive-apart id es (subst P at (apart_from_over e.id es (rising_over e es rising)))) (or-false e.alive)
is_alive-at id (e ∷ es) (suc p) d rising lt at =
    let less : e.id < (get_or es p d).id = rising 0 (suc p) d (omega arith) lt in
    rw (ne_eqb e.id id (λ same. omega arith)) (is_alive-at id es p d (IsRising-tail e es rising) (omega arith) at)

-- the live clauses by their entries

some_at : (alive same : Bool) (pair : ℕ × List ℤ) (id : ℕ) (t : List (ℕ × List ℤ)) (b : Bool) → eqb pair.0 id ≡ same → is_some (clause_at t id) ≡ b → is_some (clause_at (cond alive (pair ∷ t) t) id) ≡ ((same && alive) || b)
some_at true true pair id t b e h = rw e refl
some_at true false pair id t b e h = rw e h
some_at false true pair id t b e h = h
some_at false false pair id t b e h = h

pub is_some-clause_at : (arena : List ℤ) (es : List Entry) (id : ℕ) → is_some (clause_at (live_of arena es) id) ≡ is_alive es id
is_some-clause_at arena [] id = refl
is_some-clause_at arena (e ∷ es) id = some_at e.alive (eqb e.id id) (e.id, literals_of arena e) id (live_of arena es) (is_alive es id) refl (is_some-clause_at arena es id)

clause_at-apart : (arena : List ℤ) (es : List Entry) (id : ℕ) → AllByRecursion (λ (e : Entry). e.id ≢ id) es → clause_at (live_of arena es) id ≡ None
clause_at-apart arena [] id h = refl
clause_at-apart arena (e ∷ es) id h =
    elim (cases_Bool e.alive) [
      | inl k ↦ rw (k, ne_eqb e.id id h.0) (clause_at-apart arena es id h.1)
      | inr k ↦ rw k (clause_at-apart arena es id h.1)
    ]

pub clause_at-none : (arena : List ℤ) (es : List Entry) (id : ℕ) → All (λ (e : Entry). e.id ≢ id) es → clause_at (live_of arena es) id ≡ None
clause_at-none arena es id h = clause_at-apart arena es id (recursion_from_All (λ (e : Entry). e.id ≢ id) es h)

pub clause_at-alive : (arena : List ℤ) (es : List Entry) (id p : ℕ) (d : Entry) → IsRising es → p < length es → (get_or es p d).id ≡ id → (get_or es p d).alive ≡ true → clause_at (live_of arena es) id ≡ Some (literals_of arena (get_or es p d))
clause_at-alive arena [] id p d rising lt at alive = absurd (omega arith)
clause_at-alive arena (e ∷ es) id zero d rising lt at alive = rw (alive, eq-eqb e.id id at) refl
clause_at-alive arena (e ∷ es) id (suc p) d rising lt at alive =
    let less : e.id < (get_or es p d).id = rising 0 (suc p) d (omega arith) lt in
    let rest = clause_at-alive arena es id p d (IsRising-tail e es rising) (omega arith) at alive in
    elim (cases_Bool e.alive) [
      | inl k ↦ rw (k, ne_eqb e.id id (λ same. omega arith)) rest
      | inr k ↦ rw k rest
    ]

no_clause : (o : Option (List ℤ)) → is_some o ≡ false → o ≡ None
no_clause None h = refl
no_clause (Some c) h = cc

pub clause_at-dead : (arena : List ℤ) (es : List Entry) (id p : ℕ) (d : Entry) → IsRising es → p < length es → (get_or es p d).id ≡ id → (get_or es p d).alive ≡ false → clause_at (live_of arena es) id ≡ None
clause_at-dead arena es id p d rising lt at dead =
    no_clause (clause_at (live_of arena es) id) (is_some-clause_at arena es id ∙ is_alive-at id es p d rising lt at ∙ dead)

-- a killed entry's clause is taken away

one_killed : (alive same : Bool) (arena : List ℤ) (e : Entry) (id : ℕ) (s t : List (ℕ × List ℤ)) → e.alive ≡ alive → eqb e.id id ≡ same → s ≡ without t id → cond (cond same (record e { alive = false }) e).alive (((cond same (record e { alive = false }) e).id, literals_of arena (cond same (record e { alive = false }) e)) ∷ s) s ≡ without (cond alive ((e.id, literals_of arena e) ∷ t) t) id
one_killed true true arena e id s t a b h = rw b h
one_killed true false arena e id s t a b h = rw (a, b) (ap (λ z. (e.id, literals_of arena e) ∷ z) h)
one_killed false true arena e id s t a b h = h
one_killed false false arena e id s t a b h = rw a h

pub live_of-killed : (arena : List ℤ) (es : List Entry) (id : ℕ) → live_of arena (map (killed id) es) ≡ without (live_of arena es) id
live_of-killed arena [] id = refl
live_of-killed arena (e ∷ es) id = one_killed e.alive (eqb e.id id) arena e id (live_of arena (map (killed id) es)) (live_of arena es) refl refl (live_of-killed arena es id)

pub live_of-killed_all : (arena : List ℤ) (es : List Entry) (ids : List ℕ) → live_of arena (killed_all es ids) ≡ without_all (live_of arena es) ids
live_of-killed_all arena es [] = refl
live_of-killed_all arena es (id ∷ ids) = live_of-killed_all arena (map (killed id) es) ids ∙ ap (λ t. without_all t ids) (live_of-killed arena es id)

abbrev unknown : Option ℕ → Option ProofKind
unknown None = None
unknown (Some id) = Some (UnknownId id)

unknown_cond : (b : Bool) (x : Option ℕ) (id : ℕ) → unknown (cond b x (Some id)) ≡ cond b (unknown x) (Some (UnknownId id))
unknown_cond true x id = refl
unknown_cond false x id = refl

delete_fault-live_of : (arena : List ℤ) (es : List Entry) (ids : List ℕ) → delete_fault (live_of arena es) ids ≡ unknown (first_dead es ids)
delete_fault-live_of arena es [] = refl
delete_fault-live_of arena es (id ∷ ids) =
    rw (is_some-clause_at arena es id, ← live_of-killed arena es id, delete_fault-live_of arena (map (killed id) es) ids)
    (sym (unknown_cond (is_alive es id) (first_dead (map (killed id) es) ids) id))

pub no_delete_fault : (arena : List ℤ) (es : List Entry) (ids : List ℕ) → first_dead es ids ≡ None → delete_fault (live_of arena es) ids ≡ None
no_delete_fault arena es ids h = delete_fault-live_of arena es ids ∙ ap unknown h

pub delete_fault-dead : (arena : List ℤ) (es : List Entry) (ids : List ℕ) (id : ℕ) → first_dead es ids ≡ Some id → delete_fault (live_of arena es) ids ≡ Some (UnknownId id)
delete_fault-dead arena es ids id h = delete_fault-live_of arena es ids ∙ ap unknown h

-- entries that are killed and revived are as they were

map-same : (f g : Entry → Entry) (P : Entry → Type 0) → ((e : Entry) → P e → f e ≡ g e) → (es : List Entry) → AllByRecursion P es → map f es ≡ map g es
map-same f g P same [] h = refl
map-same f g P same (e ∷ es) h =
    let here : f e ≡ g e = same e h.0 in
    let rest : map f es ≡ map g es = map-same f g P same es h.1 in cc

map-map : (f g : Entry → Entry) (es : List Entry) → map f (map g es) ≡ map (λ e. f (g e)) es
map-map f g [] = refl
map-map f g (e ∷ es) = ap (λ (t : List Entry). f (g e) ∷ t) (map-map f g es)

each : (P : Entry → Type 0) → ((e : Entry) → P e) → (es : List Entry) → AllByRecursion P es
each P h [] = tt
each P h (e ∷ es) = (h e, each P h es)

list_any-push : (test : ℕ → Bool) (ids : List ℕ) (id : ℕ) → list_any test (ids ++ id ∷ []) ≡ (list_any test ids || test id)
list_any-push test [] id = or-false (test id)
list_any-push test (x ∷ xs) id = let rest = list_any-push test xs id in grind arith

revived_once_more : (ids : List ℕ) (id : ℕ) (e : Entry) → revived id (revived_by ids e) ≡ revived_by (ids ++ id ∷ []) e
revived_once_more ids id e =
    rw (list_any-push (eqb e.id) ids id)
    (elim (cases_Bool (list_any (eqb e.id) ids)) [
      | inl a ↦ elim (cases_Bool (eqb e.id id)) [ inl b ↦ rw (a, b) refl | inr b ↦ rw (a, b) refl ]
      | inr a ↦ elim (cases_Bool (eqb e.id id)) [ inl b ↦ rw (a, b) refl | inr b ↦ rw (a, b) refl ]
    ])

pub revived_by-push : (ids : List ℕ) (id : ℕ) (es : List Entry) → map (revived id) (map (revived_by ids) es) ≡ map (revived_by (ids ++ id ∷ [])) es
revived_by-push ids id es =
    map-map (revived id) (revived_by ids) es
    ∙ map-same (λ e. revived id (revived_by ids e)) (revived_by (ids ++ id ∷ [])) (λ _. Unit {0}) (λ e _. revived_once_more ids id e) es (each (λ _. Unit {0}) (λ _. tt) es)

pub revived_by-nil : (es : List Entry) → map (revived_by []) es ≡ es
revived_by-nil [] = refl
revived_by-nil (e ∷ es) = ap (λ (t : List Entry). e ∷ t) (revived_by-nil es)

alive_itself : (e : Entry) → e.alive ≡ true → record e { alive = true } ≡ e
alive_itself e h = ap (λ (b : Bool). record e { alive = b }) (sym h)

revived_after_killed : (ids : List ℕ) (id : ℕ) (e : Entry) → (eqb e.id id ≡ true → e.alive ≡ true) → revived_by (ids ++ id ∷ []) (killed id e) ≡ revived_by ids e
revived_after_killed ids id e h =
    elim (cases_Bool (eqb e.id id)) [
      | inl b ↦ elim (cases_Bool (list_any (eqb e.id) ids)) [
        | inl a ↦ rw b (rw (list_any-push (eqb e.id) ids id, a) refl)
        | inr a ↦ rw b (rw (list_any-push (eqb e.id) ids id, a, b) (alive_itself e (h b)))
      ]
      | inr b ↦ elim (cases_Bool (list_any (eqb e.id) ids)) [
        | inl a ↦ rw b (rw (list_any-push (eqb e.id) ids id, a) refl)
        | inr a ↦ rw b (rw (list_any-push (eqb e.id) ids id, a, b) refl)
      ]
    ]

-- where no entry of an id is alive, killing it changes nothing
pub killed-dead : (id : ℕ) (es : List Entry) → is_alive es id ≡ false → map (killed id) es ≡ es
killed-dead id [] h = refl
killed-dead id (e ∷ es) h =
    let parts = or_parts (eqb e.id id && e.alive) (is_alive es id) h in
    let rest : map (killed id) es ≡ es = killed-dead id es parts.1 in
    elim (cases_Bool (eqb e.id id)) [
      | inl k ↦ (let dead : e.alive ≡ false = rw k at parts.0 in
          let here : record e { alive = false } ≡ e = ap (λ (b : Bool). record e { alive = b }) (sym dead) in
          rw k (ap (λ (t : List Entry). record e { alive = false } ∷ t) rest ∙ ap (λ (x : Entry). x ∷ es) here))
      | inr k ↦ rw k (ap (λ (t : List Entry). e ∷ t) rest)
    ]

-- where ids rise, a live entry of an id is its only entry
alive_each : (es : List Entry) (id : ℕ) → IsRising es → is_alive es id ≡ true → AllByRecursion (λ (e : Entry). eqb e.id id ≡ true → e.alive ≡ true) es
alive_each [] id rising h = tt
alive_each (e ∷ es) id rising h =
    elim (or_cases (eqb e.id id && e.alive) (is_alive es id) h) [
      | inl here ↦
          let parts = and_parts (eqb e.id id) e.alive here in
          ((λ _. parts.1), vacuous es (let P : ℕ → Type 0 = λ x. AllByRecursion (λ (e : Entry). e.id ≢ x) es in subst P (eqb-true e.id id parts.0) (apart_from_over e.id es (rising_over e es rising))))
      | inr later ↦ (
        (λ same. absurd (both_ways (is_alive es id)
            (let P : ℕ → Type 0 = λ x. is_alive es x ≡ false in subst P (eqb-true e.id id same) (is_alive-apart e.id es (apart_from_over e.id es (rising_over e es rising)))) later)),
        alive_each es id (IsRising-tail e es rising) later,
      )
    ]
  where
    vacuous : (xs : List Entry) → AllByRecursion (λ (x : Entry). x.id ≢ id) xs → AllByRecursion (λ (x : Entry). eqb x.id id ≡ true → x.alive ≡ true) xs
    vacuous [] k = tt
    vacuous (x ∷ xs) k = ((λ same. absurd (k.0 (eqb-true x.id id same))), vacuous xs k.1)

pub revived_by-killed : (ids : List ℕ) (id : ℕ) (es : List Entry) → IsRising es → is_alive es id ≡ true → map (revived_by (ids ++ id ∷ [])) (map (killed id) es) ≡ map (revived_by ids) es
revived_by-killed ids id es rising h =
    map-map (revived_by (ids ++ id ∷ [])) (killed id) es
    ∙ map-same (λ e. revived_by (ids ++ id ∷ []) (killed id e)) (revived_by ids) (λ (e : Entry). eqb e.id id ≡ true → e.alive ≡ true) (revived_after_killed ids id) es (alive_each es id rising h)
