-- Looking for the first unassigned variable along the links.
use Rattle.std.proofs.Common.{◌≡◌, ℕ, ◌<◌, ◌≤◌, Bool, true, false, Option, Some, None, List, [], ◌∷◌, length, get_or, refl, ap, sym, ◌∙◌, arith}
use Rattle.std.specs.List.{find}
use Rattle.std.specs.Option.{option_map, is_none, is_some}
use Rattle.std.proofs.lemmas.Bool.{eq-eqb}
use Rattle.sat_trail.specs.Trail.{Assignment, assignment_of}
use Rattle.sat_queue.specs.Order.{IsOrder, from_on, is_unassigned}
use Rattle.sat_queue.specs.Linked.{IsRing}
use Rattle.sat_queue.proofs.LinkPaths.{head_of}
use Rattle.sat_queue.proofs.Ring.{var_stands, zero_absent, from_on-step, vars_of, head_le, neighbours}
use Rattle.sat_queue.proofs.Distinctness.{from_on-absent}

-- whether a trail assignments a variable, by its level there
pub free_by_level : (assignments : List Assignment) (v : ℕ) (level : Option ℕ) → level ≡ option_map (λ (p : Assignment). p.level) (assignment_of v assignments) → is_some level ≡ false → is_unassigned assignments v ≡ true
free_by_level assignments v level is none = by_cases (assignment_of v assignments) (sym (ap is_some is) ∙ none)
  where
    by_cases : (o : Option Assignment) → is_some (option_map (λ (p : Assignment). p.level) o) ≡ false → is_none o ≡ true
    by_cases None h = refl
    by_cases (Some p) h = cc

pub assignment_by_level : (assignments : List Assignment) (v : ℕ) (level : Option ℕ) → level ≡ option_map (λ (p : Assignment). p.level) (assignment_of v assignments) → is_some level ≡ true → is_unassigned assignments v ≡ false
assignment_by_level assignments v level is some_level = by_cases (assignment_of v assignments) (sym (ap is_some is) ∙ some_level)
  where
    by_cases : (o : Option Assignment) → is_some (option_map (λ (p : Assignment). p.level) o) ≡ true → is_none o ≡ false
    by_cases None h = cc
    by_cases (Some p) h = refl

pub found_here : (next prev list : List ℕ) (test : ℕ → Bool) (var at : ℕ) → IsRing next prev list → 0 < at → at ≤ length list → find test (from_on var list) ≡ find test (from_on at list) → test at ≡ true → Some at ≡ find test (from_on var list)
found_here next prev list test var at h positive within same passes =
    let s = var_stands list at h.order positive within in
    sym (same ∙ ap (find test) (from_on-step next prev list at h s) ∙ rw passes refl)

pub passed_over : (next prev list : List ℕ) (test : ℕ → Bool) (var at : ℕ) → IsRing next prev list → 0 < at → at ≤ length list → find test (from_on var list) ≡ find test (from_on at list) → test at ≡ false → find test (from_on var list) ≡ find test (from_on (get_or next at 0) list)
passed_over next prev list test var at h positive within same fails =
    let s = var_stands list at h.order positive within in
    same ∙ ap (find test) (from_on-step next prev list at h s) ∙ rw fails refl

pub nearer_end : (next prev list : List ℕ) (at : ℕ) → IsRing next prev list → 0 < at → at ≤ length list → length (from_on (get_or next at 0) list) < length (from_on at list)
nearer_end next prev list at h positive within =
    let s = var_stands list at h.order positive within in
    let step = ap length (from_on-step next prev list at h s) in
    omega arith

pub next_within : (next prev list : List ℕ) (at : ℕ) → IsRing next prev list → 0 < at → at ≤ length list → get_or next at 0 ≤ length list
next_within next prev list at h positive within = (neighbours next prev list at h (var_stands list at h.order positive within)).0

pub none_left : (list : List ℕ) (test : ℕ → Bool) (var at : ℕ) → IsOrder list → at ≡ 0 → find test (from_on var list) ≡ find test (from_on at list) → None ≡ find test (from_on var list)
none_left list test var at h is same =
    sym (same ∙ ap (λ n. find test (from_on n list)) is ∙ ap (find test) (from_on-absent 0 list (zero_absent list h)))

pub first_on : (list : List ℕ) → from_on (head_of list 0) list ≡ list
first_on [] = refl
first_on (x ∷ xs) = rw (eq-eqb x x refl) refl

pub nothing_first : (list : List ℕ) → IsOrder list → head_of list 0 ≡ 0 → list ≡ []
nothing_first [] h is = refl
nothing_first (x ∷ xs) h is = let positive = (vars_of (x ∷ xs) h).0.0 in absurd (omega arith)

pub first_within : (list : List ℕ) → IsOrder list → head_of list 0 ≤ length list
first_within list h = head_le list (length list) (vars_of list h)
