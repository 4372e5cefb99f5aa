-- A clause that is held: what stands, and what propagation asks for.
use Rattle.std.proofs.Common.{◌≡◌, ◌≢◌, ℕ, ◌<◌, ◌^◌, true, false, ℤ, neg_ℤ, Some, List, [], ◌∷◌, ◌++◌, length, refl, ap, sym, ◌∙◌, subst, arith, inl, inr}
use Rattle.std.proofs.lemmas.Bool.{both_ways}
use Rattle.std.proofs.lemmas.List.Elements.{All-push, Contains-push}
use Rattle.cnf_base.specs.Status.{has, IsFalsifiedIn, IsUnitIn}
use Rattle.sat_trail.specs.declared.clause_id.ClauseId.TheVariants as ids
use Rattle.sat_trail.specs.Trail.{Assignment, TrailState, lits, upto, IsTrail}
use Rattle.sat_watch.specs.Book.{BookState}
use Rattle.sat_watch.specs.Ready.{IsReady}
use Rattle.sat_watch.proofs.Readiness.{followed_more}
use Rattle.sat_learn.specs.Reasons.{HasId}
use Rattle.sat_solver.specs.Attachment.{Attaches}
use Rattle.sat_solver.specs.Sound.{IsSound}
use Rattle.sat_solver.proofs.Roots.{unit_pushed}
use Rattle.sat_solver.proofs.Soundness.{sound_with_done, sound_with_clause, sound_with_unit}

-- ---- what stands

-- a unit clause, assigned at level 0
sound_unit : (vars : ℕ) (live : List (ℕ × List ℤ)) (done : List (List ℤ)) (proof_ids : List ℕ) (b : BookState) (t : TrailState) (id : ℕ) (l : ℤ) → IsSound vars live done proof_ids b t → t.level ≡ 0 → id < 2 ^ 62 → HasId live id (l ∷ []) → IsSound vars live (done ++ (l ∷ []) ∷ []) proof_ids b (record { vars = t.vars; assignments = t.assignments ++ record { lit = l; level = t.level; reason = Some (ids.Unit id) } ∷ []; level = t.level; low = t.low })
sound_unit vars live done proof_ids b t id l s root small has_id =
    let p : Assignment = record { lit = l; level = t.level; reason = Some (ids.Unit id) } in
    let new : TrailState = record { vars = t.vars; assignments = t.assignments ++ p ∷ []; level = t.level; low = t.low } in
    sound_with_done vars live done proof_ids b new (l ∷ []) (sound_with_unit vars live done proof_ids b t l id s has_id small) (inr (inl (l, id, (λ x. refl), unit_pushed t.assignments l id t.level root)))

-- a clause of two literals or more, at the end of the book
sound_clause : (vars : ℕ) (live : List (ℕ × List ℤ)) (done : List (List ℤ)) (proof_ids : List ℕ) (b : BookState) (t : TrailState) (id : ℕ) (clause : List ℤ) → IsSound vars live done proof_ids b t → id < 2 ^ 62 → HasId live id clause → IsSound vars live (done ++ clause ∷ []) (proof_ids ++ id ∷ []) (record { vars = b.vars; clauses = b.clauses ++ clause ∷ []; seen = b.seen }) t
sound_clause vars live done proof_ids b t id clause s small has_id =
    let more : BookState = record { vars = b.vars; clauses = b.clauses ++ clause ∷ []; seen = b.seen } in
    sound_with_done vars live done (proof_ids ++ id ∷ []) more t clause (sound_with_clause vars live done proof_ids b t clause id s has_id small) (inr (inr (clause, Contains-push b.clauses clause, (λ x. refl))))

pub sound_held : (vars : ℕ) (live : List (ℕ × List ℤ)) (done : List (List ℤ)) (proof_ids proof_ids' : List ℕ) (b b' : BookState) (t t' : TrailState) (id : ℕ) (lemma : List ℤ) → IsSound vars live done proof_ids b t → IsTrail t → (length lemma ≡ 1 → t.level ≡ 0) → id < 2 ^ 62 → HasId live id lemma → Attaches lemma id b t proof_ids b' t' proof_ids' → IsSound vars live (done ++ lemma ∷ []) proof_ids' b' t'
sound_held vars live done proof_ids proof_ids' b b' t t' id lemma s trail root small has_id (inl h) =
    let l = h.0 in
    let P : List ℤ → BookState → TrailState → List ℕ → Type 0 = λ c x y ns. IsSound vars live (done ++ c ∷ []) ns x y in
    let C : List ℤ → Type 0 = λ c. HasId live id c in
    let made = sound_unit vars live done proof_ids b t id l s (root (ap length h.1)) small (subst C h.1 has_id) in
    let assignment : TrailState = record { vars = t.vars; assignments = t.assignments ++ record { lit = l; level = t.level; reason = Some (ids.Unit id) } ∷ []; level = t.level; low = t.low } in
    subst (λ c. P c b' t' proof_ids') (sym h.1) (subst (λ x. P (l ∷ []) x t' proof_ids') (sym h.3) (subst (λ y. P (l ∷ []) b y proof_ids') (sym h.2) (subst (λ ns. P (l ∷ []) b assignment ns) (sym h.4) made)))
sound_held vars live done proof_ids proof_ids' b b' t t' id lemma s trail root small has_id (inr h) =
    let P : BookState → TrailState → List ℕ → Type 0 = λ x y ns. IsSound vars live (done ++ lemma ∷ []) ns x y in
    let made = sound_clause vars live done proof_ids b t id lemma s small has_id in
    let more : BookState = record { vars = b.vars; clauses = b.clauses ++ lemma ∷ []; seen = b.seen } in
    subst (λ y. P b' y proof_ids') (sym h.1) (subst (λ x. P x t proof_ids') (sym h.2) (subst (λ ns. P more t ns) (sym h.3) made))

-- ---- what propagation asks for

-- where two literals are open, a clause is neither false nor unit
two_open : (under clause : List ℤ) (first second : ℤ) → has clause first ≡ true → has clause second ≡ true → first ≢ second → has under (neg_ℤ first) ≡ false → has under (neg_ℤ second) ≡ false → (l : ℤ) → ¬ IsUnitIn under clause l
two_open under clause first second first_in second_in apart first_open second_open l unit =
    let is_first : (first ≡ l → ⊥) → ⊥ = λ ne. both_ways (has under (neg_ℤ first)) first_open (unit.others first first_in ne).1 in
    let is_second : (second ≡ l → ⊥) → ⊥ = λ ne. both_ways (has under (neg_ℤ second)) second_open (unit.others second second_in ne).1 in
    is_first (λ e. is_second (λ f. apart (e ∙ sym f)))

pub record HasTwoOpen (under clause : List ℤ) : Type 0 where
  pub first : ℤ
  pub second : ℤ
  pub first_in : has clause first ≡ true
  pub second_in : has clause second ≡ true
  pub apart : first ≢ second
  pub first_open : has under (neg_ℤ first) ≡ false
  pub second_open : has under (neg_ℤ second) ≡ false

not_refuted : (under clause : List ℤ) → HasTwoOpen under clause → ¬ IsFalsifiedIn under clause
not_refuted under clause h refuted = both_ways (has under (neg_ℤ h.first)) h.first_open (refuted h.first h.first_in).1

-- a clause that has two open literals at each level below the present one
ready_clause : (b : BookState) (t : TrailState) (clause : List ℤ) → IsReady b t → ((k : ℕ) → k < t.level → HasTwoOpen (lits (upto k t.assignments)) clause) → IsReady (record { vars = b.vars; clauses = b.clauses ++ clause ∷ []; seen = b.seen }) t
ready_clause b t clause h open_two =
    record {
      followed = record { vars = h.followed.vars; agrees = h.followed.agrees };
      none_false = λ k lt. (let U = lits (upto k t.assignments) in
          All-push (λ c. ¬ IsFalsifiedIn U c) b.clauses clause (h.none_false k lt) (not_refuted U clause (open_two k lt)));
      none_unit = λ k lt. (let U = lits (upto k t.assignments) in
          let o = open_two k lt in
          All-push (λ c. (l : ℤ) → ¬ IsUnitIn U c l) b.clauses clause (h.none_unit k lt) (two_open U clause o.first o.second o.first_in o.second_in o.apart o.first_open o.second_open));
    }

ready_unit : (b : BookState) (t : TrailState) (p : Assignment) → IsReady b t → IsTrail t → t.level ≡ 0 → IsReady b (record { vars = t.vars; assignments = t.assignments ++ p ∷ []; level = t.level; low = t.low })
ready_unit b t p h trail root =
    record {
      followed = followed_more b t (p ∷ []) t.level h.followed trail.low_reached;
      none_false = λ k lt. absurd (omega arith);
      none_unit = λ k lt. absurd (omega arith);
    }

pub ready_held : (b b' : BookState) (t t' : TrailState) (proof_ids proof_ids' : List ℕ) (id : ℕ) (lemma : List ℤ) → IsReady b t → IsTrail t → (length lemma ≡ 1 → t.level ≡ 0) → ((k : ℕ) → k < t.level → HasTwoOpen (lits (upto k t.assignments)) lemma) → Attaches lemma id b t proof_ids b' t' proof_ids' → IsReady b' t'
ready_held b b' t t' proof_ids proof_ids' id lemma ready trail root open_two (inl h) =
    let made = ready_unit b t (record { lit = h.0; level = t.level; reason = Some (ids.Unit id) }) ready trail (root (ap length h.1)) in
    subst (λ x. IsReady x t') (sym h.3) (subst (λ y. IsReady b y) (sym h.2) made)
ready_held b b' t t' proof_ids proof_ids' id lemma ready trail root open_two (inr h) =
    let made = ready_clause b t lemma ready open_two in
    subst (λ y. IsReady b' y) (sym h.1) (subst (λ x. IsReady x t) (sym h.2) made)
