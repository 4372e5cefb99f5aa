-- One condition is the first that fails.
use Rattle.std.proofs.Common.{◌≡◌, ℕ, ◌+◌, ◌<◌, List, [], ◌∷◌, get_or, refl, sym, ap, ◌∙◌, subst, arith, inl, inr, Ok, Err}
use Rattle.std.specs.Prelude.{◌⊎◌, Result, MatchResult, OnOk}
use Rattle.std.proofs.lemmas.Bool.{cases_eq, cases_lt}
use Rattle.ketch_base.specs.Exactly.{ErrExactly, OkExactly}
use Rattle.aig_model.specs.declared.parts.Parts.{Parts}
use Rattle.report_text.specs.declared.report.Report.{Report}
use Rattle.report_check.specs.declared.fault.Part.{Part}
use Rattle.report_check.specs.declared.fault.Part.TheVariants as parts
use Rattle.report_check.specs.declared.fault.CheckKind.{CheckKind}
use Rattle.report_check.specs.declared.fault.CheckKind.TheVariants as kinds
use Rattle.report_check.specs.declared.fault.CheckFault.{CheckFault}
use Rattle.report_check.specs.declared.fault.CheckFault.TheVariants.{At, OutOfMemory}
use Rattle.report_check.specs.Order.{part_order, kind_order, IsFirstIn, Precedes}
use Rattle.report_check.specs.Supports.{IsSupported}
use Rattle.report_check.specs.Conditions.{Meets, MeetsAll, MeetsBefore, IsUpheld, IsFirstFault, IsFaultOf, IsFault}

-- ---- parts and kinds by their order
part_at : ℕ → Part
part_at n = get_or (parts.Size ∷ parts.History ∷ parts.Seed ∷ parts.Inv ∷ parts.Goal ∷ parts.Spent ∷ parts.Refute ∷ parts.End ∷ []) n parts.Size

part_tells : (p : Part) → part_at (part_order p) ≡ p
unfolding part_at
part_tells parts.Size = refl
part_tells parts.History = refl
part_tells parts.Seed = refl
part_tells parts.Inv = refl
part_tells parts.Goal = refl
part_tells parts.Spent = refl
part_tells parts.Refute = refl
part_tells parts.End = refl

same_part : (p q : Part) → part_order p ≡ part_order q → p ≡ q
same_part p q e = sym (part_tells p) ∙ (ap part_at e ∙ part_tells q)

kind_at : ℕ → CheckKind
kind_at n = get_or (kinds.Differs ∷ kinds.Options ∷ kinds.Number ∷ kinds.Caller ∷ kinds.Goal ∷ kinds.Low ∷ kinds.Source ∷ kinds.Twice ∷ kinds.Kind
    ∷ kinds.Start ∷ kinds.Kept ∷ kinds.Count ∷ kinds.Verdict ∷ kinds.Trace ∷ kinds.Inv ∷ kinds.Excludes ∷ kinds.Bound ∷ kinds.Query ∷ kinds.Proof
    ∷ kinds.Missing ∷ kinds.Counts ∷ []) n kinds.Differs

kind_tells : (q : CheckKind) → kind_at (kind_order q) ≡ q
unfolding kind_at
kind_tells kinds.Differs = refl
kind_tells kinds.Options = refl
kind_tells kinds.Number = refl
kind_tells kinds.Caller = refl
kind_tells kinds.Goal = refl
kind_tells kinds.Low = refl
kind_tells kinds.Source = refl
kind_tells kinds.Twice = refl
kind_tells kinds.Kind = refl
kind_tells kinds.Start = refl
kind_tells kinds.Kept = refl
kind_tells kinds.Count = refl
kind_tells kinds.Verdict = refl
kind_tells kinds.Trace = refl
kind_tells kinds.Inv = refl
kind_tells kinds.Excludes = refl
kind_tells kinds.Bound = refl
kind_tells kinds.Query = refl
kind_tells kinds.Proof = refl
kind_tells kinds.Missing = refl
kind_tells kinds.Counts = refl

same_kind : (q k : CheckKind) → kind_order q ≡ kind_order k → q ≡ k
same_kind q k e = sym (kind_tells q) ∙ (ap kind_at e ∙ kind_tells k)

-- ---- there is one first fault
three_ways : (m n : ℕ) → (m < n) ⊎ ((m ≡ n) ⊎ (n < m))
three_ways m n =
    elim (cases_lt m n) [
      | inl less ↦ inl less
      | inr more ↦ elim (cases_eq m n) [
        | inl same ↦ inr (inl same)
        | inr other ↦ inr (inr (omega (arith, more, other)))
      ]
    ]

-- no first fault is tried before another
not_before : (c : Parts) (sig : List ℕ) (r : Report) (p : Part) (k : ℕ) (q : CheckKind) (part : Part) (at : ℕ) (kind : CheckKind)
    → IsFirstFault c sig r p k q → IsFirstFault c sig r part at kind → ¬ Precedes p k q part at kind
not_before c sig r p k q part at kind one other first = one.fails (other.before p k q first)

one_part : (c : Parts) (sig : List ℕ) (r : Report) (p : Part) (k : ℕ) (q : CheckKind) (part : Part) (at : ℕ) (kind : CheckKind)
    → IsFirstFault c sig r p k q → IsFirstFault c sig r part at kind → p ≡ part
one_part c sig r p k q part at kind one other =
    elim (three_ways (part_order p) (part_order part)) [
      | inl less ↦ absurd (not_before c sig r p k q part at kind one other (inl less))
      | inr rest ↦ elim rest [
        | inl same ↦ same_part p part same
        | inr more ↦ absurd (not_before c sig r part at kind p k q other one (inl more))
      ]
    ]

one_place : (c : Parts) (sig : List ℕ) (r : Report) (p : Part) (k : ℕ) (q : CheckKind) (at : ℕ) (kind : CheckKind)
    → IsFirstFault c sig r p k q → IsFirstFault c sig r p at kind → k ≡ at
one_place c sig r p k q at kind one other =
    elim (three_ways k at) [
      | inl less ↦ absurd (not_before c sig r p k q p at kind one other (inr (refl, inl less)))
      | inr rest ↦ elim rest [
        | inl same ↦ same
        | inr more ↦ absurd (not_before c sig r p at kind p k q other one (inr (refl, inl more)))
      ]
    ]

one_kind : (c : Parts) (sig : List ℕ) (r : Report) (p : Part) (k : ℕ) (q kind : CheckKind)
    → IsFirstFault c sig r p k q → IsFirstFault c sig r p k kind → q ≡ kind
one_kind c sig r p k q kind one other =
    elim (three_ways (kind_order q) (kind_order kind)) [
      | inl less ↦ absurd (not_before c sig r p k q p k kind one other (inr (refl, inr (refl, less))))
      | inr rest ↦ elim rest [
        | inl same ↦ same_kind q kind same
        | inr more ↦ absurd (not_before c sig r p k kind p k q other one (inr (refl, inr (refl, more))))
      ]
    ]

pub one_fault : (c : Parts) (sig : List ℕ) (r : Report) (p : Part) (k : ℕ) (q : CheckKind) (part : Part) (at : ℕ) (kind : CheckKind)
    → IsFirstFault c sig r p k q → IsFirstFault c sig r part at kind → At p k q ≡ At part at kind
one_fault c sig r p k q part at kind one other =
    let same_p : p ≡ part = one_part c sig r p k q part at kind one other in
    let one_p : IsFirstFault c sig r part k q = subst (λ (x : Part). IsFirstFault c sig r x k q) same_p one in
    let same_k : k ≡ at = one_place c sig r part k q at kind one_p other in
    let one_k : IsFirstFault c sig r part at q = subst (λ (x : ℕ). IsFirstFault c sig r part x q) same_k one_p in
    let same_q : q ≡ kind = one_kind c sig r part at q kind one_k other in
    cc

-- ---- from the parts to the whole
pub whole_fault : (c : Parts) (sig : List ℕ) (r : Report) (part : Part) (fault : CheckFault) → MeetsBefore c sig r part → IsFaultOf c sig r part fault → IsFault c sig r fault
whole_fault c sig r part OutOfMemory before fault = tt
whole_fault c sig r part (At p at kind) before fault =
    let first : IsFirstIn (Meets c sig r p) at kind = subst (λ (x : Part). IsFirstIn (Meets c sig r x) at kind) (sym fault.0) fault.1 in
    record {
      fails = first.fails;
      before = λ o k q precedes. elim precedes [
        | inl less ↦ before o (subst (λ (x : Part). part_order o < part_order x) fault.0 less) k q
        | inr here ↦ subst (λ (x : Part). Meets c sig r x k q) (sym here.0) (elim here.1 [
          | inl less ↦ first.places k q less
          | inr same ↦ subst (λ (n : ℕ). Meets c sig r p n q) (sym same.0) (first.before q same.1)
        ])
      ];
    }

pub before_first : (c : Parts) (sig : List ℕ) (r : Report) → MeetsBefore c sig r parts.Size
before_first c sig r p less = absurd (omega arith)

-- one part more
pub before_next : (c : Parts) (sig : List ℕ) (r : Report) (part next : Part) → part_order next ≡ part_order part + 1 → MeetsBefore c sig r part → MeetsAll c sig r part → MeetsBefore c sig r next
before_next c sig r part next follows before here p less =
    elim (cases_eq (part_order p) (part_order part)) [
      | inl same ↦ subst (λ (x : Part). MeetsAll c sig r x) (sym (same_part p part same)) here
      | inr other ↦ before p (omega (arith, other, less, follows))
    ]

part_below : (p : Part) → part_order p < 8
part_below parts.Size = omega arith
part_below parts.History = omega arith
part_below parts.Seed = omega arith
part_below parts.Inv = omega arith
part_below parts.Goal = omega arith
part_below parts.Spent = omega arith
part_below parts.Refute = omega arith
part_below parts.End = omega arith

pub all_parts : (c : Parts) (sig : List ℕ) (r : Report) → MeetsBefore c sig r parts.End → MeetsAll c sig r parts.End → IsUpheld c sig r
all_parts c sig r before last p =
    elim (cases_eq (part_order p) (part_order parts.End)) [
      | inl same ↦ subst (λ (x : Part). MeetsAll c sig r x) (sym (same_part p parts.End same)) last
      | inr other ↦ before p (omega (arith, other, part_below p))
    ]

-- ---- answers
some_fault : (c : Parts) (sig : List ℕ) (r : Report) (fault : CheckFault) → IsFault c sig r fault → IsUpheld c sig r → fault ≡ OutOfMemory
some_fault c sig r OutOfMemory fault upheld = refl
some_fault c sig r (At part at kind) fault upheld = absurd (fault.fails (upheld part at kind))

pub ok_upheld : {T : Type 0} (c : Parts) (sig : List ℕ) (r : Report) (x : T) → IsUpheld c sig r → OkExactly OutOfMemory (Ok x) (IsUpheld c sig r)
ok_upheld c sig r x upheld = record {
  only = λ _. upheld;
  comes = λ _. inl refl;
}

pub ok_fault : {T : Type 0} (c : Parts) (sig : List ℕ) (r : Report) (x : T) → IsUpheld c sig r
    → (part : Part) (at : ℕ) (kind : CheckKind) → ErrExactly OutOfMemory (Ok x) (At part at kind) (IsFirstFault c sig r part at kind)
ok_fault c sig r x upheld part at kind = record {
  only = λ err. absurd (let never : ⊥ = cc in never);
  comes = λ first. absurd (first.fails (upheld part at kind));
}

pub err_upheld : {T : Type 0} (c : Parts) (sig : List ℕ) (r : Report) (fault : CheckFault) → IsFault c sig r fault → OkExactly {T = T} OutOfMemory (Err fault) (IsUpheld c sig r)
err_upheld c sig r fault is = record {
  only = λ ok. absurd (let never : ⊥ = cc in never);
  comes = λ upheld. inr (ap Err (some_fault c sig r fault is upheld));
}

named_fault : (c : Parts) (sig : List ℕ) (r : Report) (fault : CheckFault) (part : Part) (at : ℕ) (kind : CheckKind) → IsFault c sig r fault → IsFirstFault c sig r part at kind
    → (fault ≡ At part at kind) ⊎ (fault ≡ OutOfMemory)
named_fault c sig r OutOfMemory part at kind is first = inr refl
named_fault c sig r (At p k q) part at kind is first = inl (one_fault c sig r p k q part at kind is first)

is_first : (c : Parts) (sig : List ℕ) (r : Report) (fault : CheckFault) (part : Part) (at : ℕ) (kind : CheckKind) → IsFault c sig r fault → fault ≡ At part at kind → IsFirstFault c sig r part at kind
is_first c sig r fault part at kind is same = subst (λ (f : CheckFault). IsFault c sig r f) same is

pub err_fault : {T : Type 0} (c : Parts) (sig : List ℕ) (r : Report) (fault : CheckFault) → IsFault c sig r fault
    → (part : Part) (at : ℕ) (kind : CheckKind) → ErrExactly {T = T} OutOfMemory (Err fault) (At part at kind) (IsFirstFault c sig r part at kind)
err_fault c sig r fault is part at kind = record {
  only = λ err. is_first c sig r fault part at kind is (let same : fault ≡ At part at kind = cc in same);
  comes = λ first. elim (named_fault c sig r fault part at kind is first) [
    | inl same ↦ inl (ap Err same)
    | inr memory ↦ inr (ap Err memory)
  ];
}

pub answers_fault : {T : Type 0} (c : Parts) (sig : List ℕ) (r : Report) (x : Result T CheckFault) → MatchResult x (λ _. IsUpheld c sig r) (IsFault c sig r)
    → (part : Part) (at : ℕ) (kind : CheckKind) → ErrExactly OutOfMemory x (At part at kind) (IsFirstFault c sig r part at kind)
answers_fault c sig r (Ok v) h = ok_fault c sig r v h
answers_fault c sig r (Err e) h = err_fault c sig r e h

-- what an accepted report shows
pub answers_supported : {T : Type 0} (c : Parts) (sig : List ℕ) (r : Report) (x : Result T CheckFault) → (IsUpheld c sig r → IsSupported c sig r)
    → MatchResult x (λ _. IsUpheld c sig r) (IsFault c sig r) → OnOk x (IsSupported c sig r)
answers_supported c sig r (Ok v) shows h = shows h
answers_supported c sig r (Err e) shows h = tt
