-- The first entry of each goal, entry by entry.
use Rattle.std.proofs.Common.{◌≡◌, ◌≢◌, ℕ, ◌+◌, ◌<◌, ◌≤◌, Bool, true, cond, nat_eq, List, [], ◌∷◌, ◌++◌, length, set, take, drop, get_or, refl, sym, ap, subst, ◌∙◌, arith, Option, Some, None, inl, inr, eq-eqb, ne_eqb, slice_get}
use Rattle.std.specs.Prelude.{is_some}
use Rattle.std.specs.Option.{option_or}
use Rattle.std.proofs.lemmas.Bool.{cases_eq}
use Rattle.std.proofs.lemmas.List.{append-nil, drop_all, length-set, take_all, take_more}
use Rattle.std.proofs.lemmas.List.Folds.{find-append}
use Rattle.std.proofs.lemmas.Option.{same_Some}
use Rattle.board_core.specs.declared.entry.Entry.{Entry}
use Rattle.board_core.specs.History.{first_entry}
use Rattle.board_core.proofs.Places.{get-set_same, get-set_other}
use Rattle.report_check.specs.Known.{AreFirsts}

one_more : (es : List Entry) (e : Entry) (goal : ℕ) → first_entry (es ++ e ∷ []) goal ≡ option_or (first_entry es goal) (cond (nat_eq e.goal goal) (Some e) None)
one_more es e goal = find-append (λ (x : Entry). nat_eq x.goal goal) es (e ∷ [])

or_none : (o : Option Entry) → option_or o None ≡ o
or_none None = refl
or_none (Some x) = refl

or_some : (o other : Option Entry) → is_some o ≡ true → option_or o other ≡ o
or_some None other some = absurd cc
or_some (Some x) other some = refl

-- the entry of another goal changes nothing
pub other_goal : (es : List Entry) (e : Entry) (goal : ℕ) → e.goal ≢ goal → first_entry (es ++ e ∷ []) goal ≡ first_entry es goal
other_goal es e goal other =
    one_more es e goal ∙ (ap (λ (t : Bool). option_or (first_entry es goal) (cond t (Some e) None)) (ne_eqb e.goal goal other) ∙ or_none (first_entry es goal))

-- nor does one of a goal that has its first entry
pub later_entry : (es : List Entry) (e : Entry) (goal : ℕ) → is_some (first_entry es goal) ≡ true → first_entry (es ++ e ∷ []) goal ≡ first_entry es goal
later_entry es e goal some = one_more es e goal ∙ or_some (first_entry es goal) (cond (nat_eq e.goal goal) (Some e) None) some

pub first_here : (es : List Entry) (e : Entry) → first_entry es e.goal ≡ None → first_entry (es ++ e ∷ []) e.goal ≡ Some e
first_here es e none =
    one_more es e e.goal
    ∙ (ap (λ (o : Option Entry). option_or o (cond (nat_eq e.goal e.goal) (Some e) None)) none ∙ ap (λ (t : Bool). option_or None (cond t (Some e) None)) (eq-eqb e.goal e.goal refl))

-- an entry past the goals, or of one that has its first entry, is passed over
pub firsts_past : (es : List Entry) (e : Entry) (firsts : List (Option Entry)) → length firsts ≤ e.goal → AreFirsts es (length firsts) firsts → AreFirsts (es ++ e ∷ []) (length firsts) firsts
firsts_past es e firsts past h = record {
  size = h.size;
  each = λ goal inside. (
      let other : e.goal ≢ goal = omega arith in
      h.each goal inside ∙ ap (λ (o : Option Entry). Some o) (sym (other_goal es e goal other))
      );
}

pub firsts_later : (es : List Entry) (e : Entry) (firsts : List (Option Entry)) (x : Option Entry) → slice_get firsts e.goal ≡ Some x → is_some x ≡ true → AreFirsts es (length firsts) firsts
    → AreFirsts (es ++ e ∷ []) (length firsts) firsts
firsts_later es e firsts x at some h = record {
  size = h.size;
  each = λ goal inside. (
      let kept : first_entry es goal ≡ first_entry (es ++ e ∷ []) goal = elim (cases_eq e.goal goal) [
        | inl same ↦ (
            let here : slice_get firsts goal ≡ Some x = subst (λ (g : ℕ). slice_get firsts g ≡ Some x) same at in
            let own : x ≡ first_entry es goal = same_Some x (first_entry es goal) (sym here ∙ h.each goal inside) in
            sym (later_entry es e goal (ap is_some (sym own) ∙ some))
            )
        | inr other ↦ sym (other_goal es e goal other)
      ] in
      h.each goal inside ∙ ap (λ (o : Option Entry). Some o) kept
      );
}

pub firsts_taken : (es : List Entry) (e : Entry) (firsts : List (Option Entry)) → e.goal < length firsts → slice_get firsts e.goal ≡ Some None → AreFirsts es (length firsts) firsts
    → AreFirsts (es ++ e ∷ []) (length firsts) (set firsts e.goal (Some e))
firsts_taken es e firsts below at h =
    let none : first_entry es e.goal ≡ None = sym (same_Some None (first_entry es e.goal) (sym at ∙ h.each e.goal below)) in
    let own : slice_get (set firsts e.goal (Some e)) e.goal ≡ Some (first_entry (es ++ e ∷ []) e.goal) =
    get-set_same firsts e.goal (Some e) below ∙ ap (λ (o : Option Entry). Some o) (sym (first_here es e none)) in
    record {
      size = length-set firsts e.goal (Some e);
      each = λ goal inside. elim (cases_eq e.goal goal) [
        | inl same ↦ subst (λ (g : ℕ). slice_get (set firsts e.goal (Some e)) g ≡ Some (first_entry (es ++ e ∷ []) g)) same own
        | inr other ↦ (
            get-set_other firsts e.goal goal (Some e) (λ same. other (sym same))
            ∙ (h.each goal inside ∙ ap (λ (o : Option Entry). Some o) (sym (other_goal es e goal other)))
            )
      ];
    }

-- the entries before a place, and the one there
pub firsts_more : (history : List Entry) (k : ℕ) (e : Entry) (goals : ℕ) (firsts after : List (Option Entry)) → k < length history → e ≡ get_or history k e → AreFirsts (take k history) goals firsts
    → ((before : List Entry) → AreFirsts before (length firsts) firsts → AreFirsts (before ++ e ∷ []) (length firsts) after) → AreFirsts (take (k + 1) history) goals after
firsts_more history k e goals firsts after inside here h noted =
    let more : take (k + 1) history ≡ take k history ++ e ∷ [] = take_more history k e inside ∙ ap (λ (x : Entry). take k history ++ x ∷ []) (sym here) in
    let own : AreFirsts (take k history) (length firsts) firsts = subst (λ (n : ℕ). AreFirsts (take k history) n firsts) (sym h.size) h in
    subst (λ (n : ℕ). AreFirsts (take (k + 1) history) n after) h.size (subst (λ (es : List Entry). AreFirsts es (length firsts) after) (sym more) (noted (take k history) own))

-- a slice of a whole list, written back
pub whole_written : (new items : List (Option Entry)) (len : ℕ) → length new ≡ length items → length items ≡ len → take len (new ++ drop (length new) items) ≡ new
whole_written new items len same all =
    let none : drop (length new) items ≡ [] = drop_all (length new) items (omega (arith, same)) in
    ap (λ (rest : List (Option Entry)). take len (new ++ rest)) none ∙ (ap (λ (xs : List (Option Entry)). take len xs) (append-nil new) ∙ take_all len new (omega (arith, same, all)))
