-- A new entry keeps a core sound.
use Rattle.std.proofs.Common.{◌≡◌, ◌≢◌, ℕ, ◌+◌, true, false, cond, List, [], ◌∷◌, ◌++◌, length, set, refl, sym, ap, subst, ◌∙◌, arith, Some, None, inl, inr, Option, Contains}
use Rattle.std.specs.Prelude.{slice_get, ◌⊎◌, nat_eq, nat_lt}
use Rattle.std.proofs.lemmas.Bool.{cases_eq}
use Rattle.std.proofs.lemmas.Bool.Decides.{nat_tests}
use Rattle.std.proofs.lemmas.Option.{same_Some, slice_get_within, none-some}
use Rattle.std.proofs.lemmas.List.{length-set, length_push}
use Rattle.std.proofs.lemmas.List.Elements.{All-contains, Contains-push, Contains-push_cases, Contains-append_left}
use Rattle.std.proofs.lemmas.List.Sums.{sum_by-append}
use Rattle.aig_model.specs.declared.parts.Kind.{Kind}
use Rattle.board_core.specs.declared.entry.Entry.{Entry}
use Rattle.board_core.specs.declared.entry.Source.{Source}
use Rattle.board_core.specs.declared.view.GoalMark.{GoalMark}
use Rattle.board_core.specs.declared.view.View.{View}
use Rattle.board_core.specs.Core.{Core, CanNumber, next_entry, with_entry, numbered}
use Rattle.board_core.specs.Good.{IsEntry, IsPosted, Knows, IsSound, times}
use Rattle.board_core.proofs.Places.{get-push_old, get-push_new, get-push_cases}
use Rattle.board_core.proofs.Views.{all_know-set, spent-set, in_view, times-set}

-- the new entry is another caller's
knows-other : (history : List Entry) (marks : List (Option GoalMark)) (j : ℕ) (w : View) (new : Entry) → j ≢ new.caller → Knows history marks j w → Knows (history ++ new ∷ []) marks j w
knows-other history marks j w new other h =
    let differs : (n : ℕ) (e : Entry) → (n ≡ length history) × (new ≡ e) → e.caller ≡ j → ⊥ = λ n e is own. other (sym own ∙ sym (ap (λ (x : Entry). x.caller) is.1)) in
    record {
      known = λ e has. get-push_old history new e e.number (h.known e has);
      own = λ n e at own. elim (get-push_cases history new e n at) [ inl old ↦ h.own n e old own | inr is ↦ absurd (differs n e is own) ];
      settled = h.settled;
      marked = λ n e at own. elim (get-push_cases history new e n at) [ inl old ↦ h.marked n e old own | inr is ↦ absurd (differs n e is own) ];
      unmarked = h.unmarked;
      front = omega (arith, h.front, length_push history new);
      above = λ n e at own. elim (get-push_cases history new e n at) [ inl old ↦ h.above n e old own | inr is ↦ absurd (differs n e is own) ];
    }

-- the caller's own new entry
knows-own : (history : List Entry) (marks : List (Option GoalMark)) (v : View) (new : Entry) → new.number ≡ length history → v.unmarked ≡ None → Knows history marks new.caller v
    → Knows (history ++ new ∷ []) marks new.caller (with_entry v new)
knows-own history marks v new number idle h = record {
  known = λ e has. elim (Contains-push_cases v.entries new e has) [
    | inl old ↦ get-push_old history new e e.number (h.known e old)
    | inr is ↦ subst (λ (x : Entry). IsEntry (history ++ new ∷ []) x.number x) is (subst (λ (n : ℕ). IsEntry (history ++ new ∷ []) n new) (sym number) (get-push_new history new))
  ];
  own = λ n e at own. elim (get-push_cases history new e n at) [
    | inl old ↦ Contains-append_left v.entries (new ∷ []) e (h.own n e old own)
    | inr is ↦ subst (λ (x : Entry). Contains (v.entries ++ new ∷ []) x) is.1 (Contains-push v.entries new)
  ];
  settled = h.settled;
  marked = λ n e at own. elim (get-push_cases history new e n at) [
    | inl old ↦ elim (h.marked n e old own) [ inl unmarked ↦ absurd (none-some e (sym idle ∙ unmarked)) | inr m ↦ inr m ]
    | inr is ↦ inl (ap (λ (x : Entry). Some x) is.1)
  ];
  unmarked = λ e is. (
      let same : new ≡ e = same_Some new e is in
      subst (λ (x : Entry). Contains (v.entries ++ new ∷ []) x × (x.caller ≡ new.caller)) same (Contains-push v.entries new, refl)
      );
  front = omega (arith, number, length_push history new);
  above = λ n e at own. omega (arith, slice_get_within (history ++ new ∷ []) n e at, length_push history new, number);
}

is_number : (n m : ℕ) → m ≡ n → nat_eq m n ≡ true
is_number n m e = grind (arith, nat_tests)

no_number : (n m : ℕ) → m ≢ n → nat_eq m n ≡ false
no_number n m e = grind (arith, nat_tests)

below_now : (n len : ℕ) → n ≢ len → nat_lt n (len + 1) ≡ nat_lt n len
below_now n len h = grind (arith, nat_tests)

is_below : (len : ℕ) → nat_lt len (len + 1) ≡ true
is_below len = grind (arith, nat_tests)

not_below : (len : ℕ) → nat_lt len len ≡ false
not_below len = grind (arith, nat_tests)

-- the new entry has the next number, once
once-new : (n len : ℕ) → cond (nat_lt n (len + 1)) 1 0 ≡ cond (nat_lt n len) 1 0 + cond (nat_eq len n) 1 0
once-new n len =
    elim (cases_eq n len) [
      | inl same ↦ rw (same, is_below len, not_below len, is_number len len refl) refl
      | inr other ↦ rw (below_now n len other, no_number n len (λ e. other (sym e))) (let same : cond (nat_lt n len) 1 0 ≡ cond (nat_lt n len) 1 0 + 0 = omega arith in same)
    ]

pub number-sound : (c : Core) (k g : ℕ) (kind : Kind) (source : Source) → (can : CanNumber c k g) → IsSound c → IsSound (numbered c k can.view (next_entry c k can.view g kind source))
number-sound c k g kind source can s =
    let v : View = can.view in
    let new : Entry = next_entry c k v g kind source in
    let views = set c.views k (Some (with_entry v new)) in
    let count : length views ≡ length c.views = length-set c.views k (Some (with_entry v new)) in
    let own = s.knows k v can.live in
    record {
      few = omega (arith, count, s.few);
      posted = λ n e at. elim (get-push_cases c.history new e n at) [
        | inl old ↦ (
            let p = s.posted n e old in
            record { number = p.number; caller = omega (arith, p.caller, count); goal = p.goal; low = p.low }
            )
        | inr is ↦ subst (λ (x : Entry). IsPosted (length views) (length c.marks) n x) is.1
            (record { number = sym is.0; caller = omega (arith, slice_get_within c.views k (Some v) can.live, count); goal = can.range; low = omega (arith, own.front, is.0) })
      ];
      apart = λ m n e f l at_e at_f same. elim (get-push_cases c.history new f n at_f) [
        | inl old_f ↦ elim (get-push_cases c.history new e m at_e) [
          | inl old_e ↦ s.apart m n e f l old_e old_f same
          | inr is ↦ absurd (omega (arith, l, is.0, slice_get_within c.history n f old_f))
        ]
        | inr is_f ↦ elim (get-push_cases c.history new e m at_e) [
          | inl old_e ↦ (
              let mine : e.caller ≡ k = same ∙ sym (ap (λ (x : Entry). x.caller) is_f.1) in
              let goal_f : g ≡ f.goal = ap (λ (x : Entry). x.goal) is_f.1 in
              let low_f : v.front ≡ f.low = ap (λ (x : Entry). x.low) is_f.1 in
              let first = All-contains (λ (x : Entry). (x.caller ≢ k) ⊎ (x.goal ≢ g)) v.entries e can.first (own.own m e old_e mine) in (
                elim first [ inl other ↦ absurd (other mine) | inr goals ↦ (λ i. goals (i ∙ sym goal_f)) ],
                omega (arith, own.above m e old_e mine, low_f),
              )
              )
          | inr is ↦ absurd (omega (arith, l, is.0, is_f.0))
        ]
      ];
      once = λ n. (
          let sums = times-set n c.views k (Some v) (Some (with_entry v new)) can.live in
          let added : in_view n (Some (with_entry v new)) ≡ in_view n (Some v) + (0 + cond (nat_eq (length c.history) n) 1 0) =
          sum_by-append (λ (e : Entry). cond (nat_eq e.number n) 1 0) v.entries (new ∷ []) in
          let grown : in_view n (Some (with_entry v new)) ≡ in_view n (Some v) + cond (nat_eq (length c.history) n) 1 0 = omega (arith, added) in
          let total : times n views ≡ times n c.views + cond (nat_eq (length c.history) n) 1 0 = omega (arith, sums, grown) in
          total ∙ (ap (λ x. x + cond (nat_eq (length c.history) n) 1 0) (s.once n) ∙ (sym (once-new n (length c.history)) ∙ ap (λ x. cond (nat_lt n x) 1 0) (sym (length_push c.history new))))
          );
      named = λ i m at. (
          let old = s.named i m at in
          record { entry = old.entry; place = get-push_old c.history new old.entry m.number old.place; goal = old.goal; kind = old.kind }
          );
      knows = all_know-set (c.history ++ new ∷ []) c.marks c.views k (Some v) (with_entry v new) can.live (knows-own c.history c.marks v new refl can.idle own)
          (λ j w other at. knows-other c.history c.marks j w new other (s.knows j w at));
      left = λ n e at spent. (
          let before : slice_get c.views e.caller ≡ Some None = spent-set c.views k e.caller (Some v) (with_entry v new) can.live spent in
          elim (get-push_cases c.history new e n at) [
            | inl old ↦ s.left n e old before
            | inr is ↦ (
                let read : Some (Some v) ≡ Some None = sym can.live ∙ (ap (λ (x : Entry). slice_get c.views x.caller) is.1 ∙ before) in
                let clash : Some v ≡ None = same_Some (Some v) None read in
                absurd (none-some v (sym clash))
                )
          ]
          );
    }
