-- What a line says whose demands are met.
use Rattle.std.proofs.Common.{◌≡◌, ℕ, suc, ◌+◌, ◌*◌, ◌%◌, ◌≤◌, Bool, true, false, not, ◌&&◌, nat_eq, nat_le, is_some, None, List, [], ◌∷◌, ◌++◌, map, take, drop, get_or, refl, sym, ap, ◌∙◌, subst, arith}
use Rattle.std.proofs.lemmas.Bool.Decides.{nat_tests}
use Rattle.text_words.specs.Numbers.{natural_of}
use Rattle.aig_model.specs.Literal.{var}
use Rattle.aig_model.specs.WellFormed.{IsInRange, IsDefining}
use Rattle.text_words.specs.Text.{Rest, word, number, fields}
use Rattle.aig_ascii.specs.Demands.{demand}
use Rattle.aig_ascii.specs.Fields.{Test, wanted, optional, missing, want_demands, wants_demands, none_demands, line_demands}
use Rattle.aig_ascii.specs.Sections.{input, latch, plain, gate, number_at, defines, in_range, is_new, is_reset, defining, literal, wants_of, used_by}
use Rattle.aig_ascii.specs.FirstFaults.{first_unmet}
use Rattle.aig_ascii.specs.declared.fault.SharedKind.{SharedKind}
use Rattle.aig_ascii.specs.declared.fault.SharedKind.TheVariants.{Number, Range}
use Rattle.aig_ascii.specs.declared.fault.AagKind.TheVariants.{Defined as NotNew}
use Rattle.aig_ascii.proofs.FirstFaults.{met-front, met-rest, met-first}
use Rattle.aig_ascii.specs.Kinds.{aag_kind}

missing-unmet : {K : Type 0} (kind : SharedKind → K) (r : Rest) → (missing kind r).met ≡ false
missing-unmet kind r = refl

-- a field that stands where it must
pub record Stands {K : Type 0} (tests : List (Test K)) (fs : List Rest) : Type 0 where
  pub field : Rest
  pub others : List Rest
  pub parts : fs ≡ field ∷ others
  pub passes : first_unmet (map (λ (t : Test K). record { at = field.at; kind = t.kind; met = t.passes (number field) }) tests) ≡ None

pub stands : {K : Type 0} (kind : SharedKind → K) (r : Rest) (tests : List (Test K)) (fs : List Rest) → first_unmet (want_demands kind r (wanted tests) fs) ≡ None → Stands tests fs
stands kind r tests [] e = let unmet = missing-unmet kind r in let met = (met-first (missing kind r) [] e).0 in cc
stands {K} kind r tests (f ∷ fs) e = record {
  field = f;
  others = fs;
  parts = refl;
  passes = (met-first (demand f.at (kind Number) (is_some (natural_of (word f.bytes)))) (map (λ (t : Test K). demand f.at t.kind (t.passes (number f))) tests) e).1;
}

-- ---- literals

pub in-range : (top n : ℕ) → nat_le n (2 * top + 1) ≡ true → IsInRange top n
in-range top n e = grind (arith, nat_tests)

-- a literal that defines a variable for the first time
pub record Defines (top : ℕ) (earlier : List ℕ) (lit : ℕ) : Type 0 where
  pub in_range : IsInRange top lit
  pub defining : IsDefining lit
  pub new : defines earlier (var lit) ≡ false

pub both-met : (a b : Bool) → (a && b) ≡ true → (a ≡ true) × (b ≡ true)
both-met true b e = (refl, e)
both-met false b e = cc

pub not-met : (a : Bool) → not a ≡ true → a ≡ false
not-met true e = sym e
not-met false e = refl

even-number : (n : ℕ) → nat_eq (n % 2) 0 ≡ true → n % 2 ≡ 0
even-number n e = grind (arith, nat_tests)

great-number : (n : ℕ) → nat_le 2 n ≡ true → 2 ≤ n
great-number n e = grind (arith, nat_tests)

pub defines-field : (r : Rest) (top : ℕ) (earlier : List ℕ) (fs : List Rest) → first_unmet (want_demands aag_kind r (defining top earlier) fs) ≡ None → Defines top earlier (get_or (map number fs) 0 0)
defines-field r top earlier fs e =
    let s = stands aag_kind r (in_range aag_kind top ∷ is_new earlier ∷ []) fs e in
    let n = number s.field in
    let at = s.field.at in
    let new = demand at NotNew ((is_new earlier).passes n) in
    let first = met-first (demand at (aag_kind Range) ((in_range aag_kind top).passes n)) (new ∷ []) s.passes in
    let second = (met-first new [] first.1).0 in
    let parts = both-met (nat_eq (n % 2) 0 && nat_le 2 n) (not (defines earlier (var n))) second in
    let numbers = both-met (nat_eq (n % 2) 0) (nat_le 2 n) parts.0 in
    let all : Defines top earlier n = record {
      in_range = in-range top n first.0;
      defining = record { even = even-number n numbers.0; positive = great-number n numbers.1 };
      new = not-met (defines earlier (var n)) parts.1;
    } in
    subst (λ (x : ℕ). Defines top earlier x) (sym (ap (λ gs. get_or (map number gs) 0 0) s.parts)) all

pub literal-field : {K : Type 0} (kind : SharedKind → K) (r : Rest) (top : ℕ) (fs : List Rest) → first_unmet (want_demands kind r (literal kind top) fs) ≡ None
    → IsInRange top (get_or (map number fs) 0 0) × (map number (take 1 fs) ≡ get_or (map number fs) 0 0 ∷ [])
literal-field kind r top fs e =
    let s = stands kind r (in_range kind top ∷ []) fs e in
    let n = number s.field in (
      subst (λ (x : ℕ). IsInRange top x) (sym (ap (λ gs. get_or (map number gs) 0 0) s.parts)) (in-range top n (met-first (demand s.field.at (kind Range) ((in_range kind top).passes n)) [] s.passes).0),
      ap (λ gs. map number (take 1 gs)) s.parts ∙ sym (ap (λ gs. get_or (map number gs) 0 0 ∷ []) s.parts),
    )

number-behind : (fs : List Rest) (k : ℕ) → get_or (map number (drop 1 fs)) k 0 ≡ get_or (map number fs) (suc k) 0
number-behind [] k = refl
number-behind (f ∷ fs) k = refl

take-two : (fs : List Rest) (a b : ℕ) → map number (take 1 fs) ≡ a ∷ [] → map number (take 1 (drop 1 fs)) ≡ b ∷ [] → map number (take 2 fs) ≡ a ∷ b ∷ []
take-two [] a b p q = cc
take-two (f ∷ []) a b p q = cc
take-two (f ∷ g ∷ fs) a b p q = let x : number f ≡ a = cc in let y : number g ≡ b = cc in ap (λ n. n ∷ number g ∷ []) x ∙ ap (λ n. a ∷ n ∷ []) y

-- ---- lines

pub right-input : (top : ℕ) (earlier : List ℕ) (r : Rest) → first_unmet (line_demands aag_kind (wants_of input top earlier r) r) ≡ None → Defines top earlier (number_at r 0)
right-input top earlier r e =
    let wants = wants_demands aag_kind r (fields r) (wants_of input top earlier r) in
    defines-field r top earlier (fields r) (met-front (want_demands aag_kind r (defining top earlier) (fields r)) [] (met-front wants (none_demands aag_kind (drop 1 (fields r))) e))

pub record RightLatch (top : ℕ) (earlier : List ℕ) (r : Rest) : Type 0 where
  pub lit : Defines top earlier (number_at r 0)
  pub next : IsInRange top (number_at r 1)
  pub uses : map number (used_by latch r) ≡ number_at r 1 ∷ []

pub right-latch : (top : ℕ) (earlier : List ℕ) (r : Rest) → first_unmet (line_demands aag_kind (wants_of latch top earlier r) r) ≡ None → RightLatch top earlier r
right-latch top earlier r e =
    let fs = fields r in
    let first = want_demands aag_kind r (defining top earlier) fs in
    let second = want_demands aag_kind r (literal aag_kind top) (drop 1 fs) in
    let third = wants_demands aag_kind r (drop 1 (drop 1 fs)) (optional (is_reset aag_kind (number_at r 0) ∷ []) ∷ []) in
    let wants = met-front (first ++ (second ++ third)) (none_demands aag_kind (drop 3 fs)) e in
    let lit = literal-field aag_kind r top (drop 1 fs) (met-front second third (met-rest first (second ++ third) wants)) in
    record {
      lit = defines-field r top earlier fs (met-front first (second ++ third) wants);
      next = subst (λ (x : ℕ). IsInRange top x) (number-behind fs 0) lit.0;
      uses = lit.1 ∙ ap (λ n. n ∷ []) (number-behind fs 0);
    }

pub record RightPlain (top : ℕ) (r : Rest) : Type 0 where
  pub lit : IsInRange top (number_at r 0)
  pub uses : map number (used_by plain r) ≡ number_at r 0 ∷ []

pub right-plain : (top : ℕ) (earlier : List ℕ) (r : Rest) → first_unmet (line_demands aag_kind (wants_of plain top earlier r) r) ≡ None → RightPlain top r
right-plain top earlier r e =
    let fs = fields r in
    let lit = literal-field aag_kind r top fs (met-front (want_demands aag_kind r (literal aag_kind top) fs) [] (met-front (wants_demands aag_kind r fs (literal aag_kind top ∷ [])) (none_demands aag_kind (drop 1 fs)) e)) in
    record { lit = lit.0; uses = lit.1 }

pub record RightGate (top : ℕ) (earlier : List ℕ) (r : Rest) : Type 0 where
  pub lhs : Defines top earlier (number_at r 0)
  pub left : IsInRange top (number_at r 1)
  pub right : IsInRange top (number_at r 2)
  pub uses : map number (used_by gate r) ≡ number_at r 1 ∷ number_at r 2 ∷ []

pub right-gate : (top : ℕ) (earlier : List ℕ) (r : Rest) → first_unmet (line_demands aag_kind (wants_of gate top earlier r) r) ≡ None → RightGate top earlier r
right-gate top earlier r e =
    let fs = fields r in
    let first = want_demands aag_kind r (defining top earlier) fs in
    let second = want_demands aag_kind r (literal aag_kind top) (drop 1 fs) in
    let third = want_demands aag_kind r (literal aag_kind top) (drop 1 (drop 1 fs)) in
    let wants = met-front (first ++ (second ++ (third ++ []))) (none_demands aag_kind (drop 3 fs)) e in
    let others = met-rest first (second ++ (third ++ [])) wants in
    let left = literal-field aag_kind r top (drop 1 fs) (met-front second (third ++ []) others) in
    let right = literal-field aag_kind r top (drop 1 (drop 1 fs)) (met-front third [] (met-rest second (third ++ []) others)) in
    let at_right : get_or (map number (drop 1 (drop 1 fs))) 0 0 ≡ number_at r 2 = number-behind (drop 1 fs) 0 ∙ number-behind fs 1 in
    record {
      lhs = defines-field r top earlier fs (met-front first (second ++ (third ++ [])) wants);
      left = subst (λ (x : ℕ). IsInRange top x) (number-behind fs 0) left.0;
      right = subst (λ (x : ℕ). IsInRange top x) at_right right.0;
      uses = take-two (drop 1 fs) (number_at r 1) (number_at r 2) (left.1 ∙ ap (λ n. n ∷ []) (number-behind fs 0)) (right.1 ∙ ap (λ n. n ∷ []) at_right);
    }
