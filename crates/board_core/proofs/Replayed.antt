-- A replay keeps the verdicts and the posts of the entries so far, and answers by them.
use Rattle.std.proofs.Common.{◌≡◌, ◌↔◌, ℕ, ◌+◌, ◌*◌, ◌<◌, ◌≤◌, Bool, true, false, List, [], ◌∷◌, ◌++◌, length, take, set, get_or, refl, sym, ap, subst, ◌∙◌, arith, Some, None, inl, inr, Option, IsTrue, Result, Ok, Err, IsOk, length-set}
use Rattle.std.specs.Prelude.{slice_get}
use Rattle.std.proofs.lemmas.Bool.{cases_eq}
use Rattle.std.proofs.lemmas.Option.{same_Some, slice_get_within, slice_get-get_or}
use Rattle.std.proofs.lemmas.List.{get_or-set_same, get_or-set_other, length-take-le, take_more}
use Rattle.std.proofs.lemmas.List.Elements.{Contains-append_left, Contains-push, Contains-push_cases}
use Rattle.ketch_base.specs.Exactly.{OkExactly, ErrExactly}
use Rattle.aig_model.specs.declared.parts.Kind.{Kind}
use Rattle.sim_walk.specs.declared.options.Options.{Options}
use Rattle.board_core.specs.declared.entry.Entry.{Entry}
use Rattle.board_core.specs.declared.event.Verdict.{Verdict}
use Rattle.board_core.specs.declared.fault.HistoryKind.{HistoryKind}
use Rattle.board_core.specs.declared.fault.HistoryFault.{HistoryFault}
use Rattle.board_core.specs.declared.fault.HistoryFault.TheVariants.{At, OutOfMemory}
use Rattle.board_core.specs.History.{IsLegalHistory, verdict_of}
use Rattle.board_core.specs.Faults.{HasPosted, IsFaultless, IsFirstFault, IsFaultAt, AreVerdicts, settled_by, first_verdict}
use Rattle.board_core.specs.Posts.{AreOf, pair_place}
use Rattle.board_core.proofs.Places.{get-set_same, get-set_other}
use Rattle.board_core.proofs.FirstFaults.{Faultless, verdict_keeps, verdict_first, verdict_other, faultless_of_legal, legal_of_faultless, fault_unique, faultless_has_none}

-- ---- one entry more
verdict_after : (o : Option Kind) (before : List Entry) (e : Entry) → verdict_of before e.goal ≡ o → first_verdict (settled_by o) e.kind ≡ settled_by (verdict_of (before ++ e ∷ []) e.goal)
verdict_after None before e is = sym (ap settled_by (verdict_first before e e.goal refl is))
verdict_after (Some kind) before e is = sym (ap settled_by (verdict_keeps before (e ∷ []) e.goal kind is))

verdicts_after : (before : List Entry) (goals : ℕ) (vs : List Verdict) (e : Entry) (old v : Verdict) → e.goal < length vs → slice_get vs e.goal ≡ Some old → v ≡ first_verdict old e.kind
    → AreVerdicts before goals vs → AreVerdicts (before ++ e ∷ []) goals (set vs e.goal v)
verdicts_after before goals vs e old v inside here is h = record {
  count = length-set vs e.goal v ∙ h.count;
  each = λ g lt. elim (cases_eq g e.goal) [
    | inl same ↦ (
        let read : settled_by (verdict_of before e.goal) ≡ old = same_Some (settled_by (verdict_of before e.goal)) old (sym (h.each e.goal (omega (arith, h.count, inside))) ∙ here) in
        let now : v ≡ settled_by (verdict_of (before ++ e ∷ []) e.goal) = is ∙ ap (λ (x : Verdict). first_verdict x e.kind) (sym read) ∙ verdict_after (verdict_of before e.goal) before e refl in
        subst (λ (x : ℕ). slice_get (set vs e.goal v) x ≡ Some (settled_by (verdict_of (before ++ e ∷ []) x))) (sym same) (get-set_same vs e.goal v inside ∙ ap (λ (x : Verdict). Some x) now)
        )
    | inr other ↦ get-set_other vs e.goal g v other ∙ h.each g lt ∙ ap (λ (x : Option Kind). Some (settled_by x)) (sym (verdict_other before e g (λ same. other (sym same))))
  ];
}

-- two pairs at one place are one
one_pair : (goal caller g c : ℕ) → caller < 8 → c < 8 → pair_place goal caller ≡ pair_place g c → (goal ≡ g) × (caller ≡ c)
one_pair goal caller g c small small' same = (omega arith, omega arith)

pair_inside : (goals goal caller : ℕ) → goal < goals → caller < 8 → pair_place goal caller < goals * 8
pair_inside goals goal caller inside small = omega arith

posted_after : (before : List Entry) (goals : ℕ) (pairs : List Bool) (e : Entry) → length pairs ≡ goals * 8 → e.goal < goals → e.caller < 8
    → ((goal caller : ℕ) → goal < goals → caller < 8 → IsTrue (get_or pairs (pair_place goal caller) false) ↔ HasPosted before caller goal)
    → (goal caller : ℕ) → goal < goals → caller < 8 → IsTrue (get_or (set pairs (pair_place e.goal e.caller) true) (pair_place goal caller) false) ↔ HasPosted (before ++ e ∷ []) caller goal
posted_after before goals pairs e size inside small h goal caller inside' small' =
    let place : ℕ = pair_place e.goal e.caller in
    elim (cases_eq (pair_place goal caller) place) [
      | inl same ↦ (
          let pair = one_pair goal caller e.goal e.caller small' small same in
          let here : get_or (set pairs place true) (pair_place goal caller) false ≡ true = ap (λ (x : ℕ). get_or (set pairs place true) x false) same ∙ get_or-set_same pairs place true false (omega (arith, size, pair_inside goals e.goal e.caller inside small)) in
          ((λ _. (e, Contains-push before e, sym pair.1, sym pair.0)), (λ _. here))
          )
      | inr other ↦ (
          let same : get_or (set pairs place true) (pair_place goal caller) false ≡ get_or pairs (pair_place goal caller) false = get_or-set_other pairs place (pair_place goal caller) true false other in
          let old = h goal caller inside' small' in (
            (λ yes. let p = old.0 (sym same ∙ yes) in (p.0, Contains-append_left before (e ∷ []) p.0 p.1, p.2, p.3)),
            (λ p. elim (Contains-push_cases before e p.0 p.1) [
              | inl had ↦ same ∙ old.1 (p.0, had, p.2, p.3)
              | inr is ↦ (
                  let caller_is : caller ≡ e.caller = sym p.2 ∙ ap (λ (x : Entry). x.caller) (sym is) in
                  let goal_is : goal ≡ e.goal = sym p.3 ∙ ap (λ (x : Entry). x.goal) (sym is) in
                  absurd (other (ap (λ (x : ℕ). pair_place x caller) goal_is ∙ ap (λ (x : ℕ). pair_place e.goal x) caller_is))
                  )
            ]),
          )
          )
    ]

pub of_one_more : (before : List Entry) (vs : List Verdict) (pairs : List Bool) (e : Entry) (old v : Verdict) → length pairs ≡ length vs * 8 → e.goal < length vs → e.caller < 8
    → slice_get vs e.goal ≡ Some old → v ≡ first_verdict old e.kind
    → AreOf before vs pairs → AreOf (before ++ e ∷ []) (set vs e.goal v) (set pairs (pair_place e.goal e.caller) true)
of_one_more before vs pairs e old v size inside small here is h =
    let long : length (set vs e.goal v) ≡ length vs = length-set vs e.goal v in
    record {
      verdicts = subst (λ (n : ℕ). AreVerdicts (before ++ e ∷ []) n (set vs e.goal v)) (sym long) (verdicts_after before (length vs) vs e old v inside here is h.verdicts);
      posted = λ goal caller lt few. posted_after before (length vs) pairs e size inside small h.posted goal caller (omega (arith, long, lt)) few;
    }

-- ---- answers
pub fault_ok : {T : Type 0} (o : Options) (goals : ℕ) (es : List Entry) (at : ℕ) (kind : HistoryKind) (r : Result T HistoryFault) → r ≡ Err (At at kind) → IsFaultAt o goals es at kind
    → OkExactly OutOfMemory r (IsLegalHistory o goals es)
fault_ok o goals es at kind r is fault = record {
  only = λ ok. absurd (let bad = subst IsOk is ok in cc);
  comes = λ legal. absurd (faultless_has_none o goals es at kind (faultless_of_legal o goals es legal) fault);
}

pub fault_err : {T : Type 0} (o : Options) (goals : ℕ) (es : List Entry) (at : ℕ) (kind : HistoryKind) (r : Result T HistoryFault) → r ≡ Err (At at kind) → IsFaultAt o goals es at kind
    → (place : ℕ) (other : HistoryKind) → ErrExactly OutOfMemory r (At place other) (IsFaultAt o goals es place other)
fault_err o goals es at kind r is fault place other = record {
  only = λ err. (
      let same : Err (At at kind) ≡ Err (At place other) = sym is ∙ err in
      let at_is : at ≡ place = cc in
      let kind_is : kind ≡ other = cc in
      subst (λ (k : ℕ). IsFaultAt o goals es k other) at_is (subst (λ (k : HistoryKind). IsFaultAt o goals es at k) kind_is fault)
      );
  comes = λ second. (
      let same = fault_unique o goals es at place kind other fault second in
      inl (is ∙ ap (λ (k : ℕ). Err (At k kind)) same.0 ∙ ap (λ (k : HistoryKind). Err (At place k)) same.1)
      );
}

pub legal_ok : {T : Type 0} (o : Options) (goals : ℕ) (es : List Entry) (x : T) → Faultless o goals es → OkExactly OutOfMemory (Ok x) (IsLegalHistory o goals es)
legal_ok o goals es x h = record { only = λ _. legal_of_faultless o goals es h; comes = λ _. inl refl }

pub legal_err : {T : Type 0} (o : Options) (goals : ℕ) (es : List Entry) (x : T) → Faultless o goals es
    → (place : ℕ) (other : HistoryKind) → ErrExactly OutOfMemory (Ok x) (At place other) (IsFaultAt o goals es place other)
legal_err o goals es x h place other = record {
  only = λ err. absurd cc;
  comes = λ fault. absurd (faultless_has_none o goals es place other h fault);
}

-- ---- the loop
-- no entry before the place has a fault
abbrev pub FaultlessBelow : Options → ℕ → List Entry → ℕ → Type 0
FaultlessBelow o goals es place = (k : ℕ) (e : Entry) → k < place → slice_get es k ≡ Some e → IsFaultless o goals (take k es) e

entry_at : (es items : List Entry) (place : ℕ) (d : Entry) → items ≡ es → place < length items → slice_get es place ≡ Some (get_or items place d)
entry_at es items place d same inside = ap (λ (l : List Entry). slice_get l place) (sym same) ∙ slice_get-get_or items place d inside

long_before : (es items : List Entry) (place : ℕ) → items ≡ es → place < length items → length (take place es) ≡ place
long_before es items place same inside = length-take-le place es (omega (arith, ap length same, inside))

pub fault_here : (o : Options) (goals : ℕ) (es items : List Entry) (place : ℕ) (kind : HistoryKind) (d : Entry) (vs : List Verdict) (pairs : List Bool) → items ≡ es → place < length items → length vs ≡ goals
    → AreOf (take place es) vs pairs → FaultlessBelow o goals es place
    → ((before : List Entry) → AreOf before vs pairs → length before ≡ place → IsFirstFault o (length vs) before (get_or items place d) kind) → IsFaultAt o goals es place kind
fault_here o goals es items place kind d vs pairs same inside count posts below h = record {
  entry = get_or items place d;
  place = entry_at es items place d same inside;
  fault = subst (λ (n : ℕ). IsFirstFault o n (take place es) (get_or items place d) kind) count (h (take place es) posts (long_before es items place same inside));
  before = below;
}

pub none_here : (o : Options) (goals : ℕ) (es items : List Entry) (place : ℕ) (d : Entry) (vs : List Verdict) (pairs : List Bool) → items ≡ es → place < length items → length vs ≡ goals
    → AreOf (take place es) vs pairs
    → ((before : List Entry) → AreOf before vs pairs → length before ≡ place → IsFaultless o (length vs) before (get_or items place d)) → IsFaultless o goals (take place es) (get_or items place d)
none_here o goals es items place d vs pairs same inside count posts h =
    subst (λ (n : ℕ). IsFaultless o n (take place es) (get_or items place d)) count (h (take place es) posts (long_before es items place same inside))

pub none_below : (o : Options) (goals : ℕ) (es items : List Entry) (place : ℕ) (d : Entry) → items ≡ es → place < length items → FaultlessBelow o goals es place → IsFaultless o goals (take place es) (get_or items place d)
    → FaultlessBelow o goals es (place + 1)
none_below o goals es items place d same inside below here k e lt at =
    elim (cases_eq k place) [
      | inl last ↦ (
          let read : slice_get es place ≡ Some e = subst (λ (x : ℕ). slice_get es x ≡ Some e) last at in
          let is : get_or items place d ≡ e = same_Some (get_or items place d) e (sym (entry_at es items place d same inside) ∙ read) in
          subst (λ (x : ℕ). IsFaultless o goals (take x es) e) (sym last) (subst (λ (x : Entry). IsFaultless o goals (take place es) x) is here)
          )
      | inr other ↦ below k e (omega (arith, other, lt)) at
    ]

pub posts_more : (es items : List Entry) (place : ℕ) (d : Entry) (vs : List Verdict) (pairs : List Bool) → items ≡ es → place < length items → AreOf (take place es ++ get_or items place d ∷ []) vs pairs → AreOf (take (place + 1) es) vs pairs
posts_more es items place d vs pairs same inside h =
    let more : take (place + 1) items ≡ take place items ++ get_or items place d ∷ [] = take_more items place d inside in
    let moved : take (place + 1) es ≡ take place es ++ get_or items place d ∷ [] = ap (λ (l : List Entry). take (place + 1) l) (sym same) ∙ more ∙ ap (λ (l : List Entry). take place l ++ get_or items place d ∷ []) same in
    subst (λ (l : List Entry). AreOf l vs pairs) (sym moved) h

pub all_faultless : (o : Options) (goals : ℕ) (es items : List Entry) (place : ℕ) → items ≡ es → length items ≤ place → FaultlessBelow o goals es place → Faultless o goals es
all_faultless o goals es items place same done below k e at = below k e (omega (arith, slice_get_within es k e at, ap length same, done)) at
