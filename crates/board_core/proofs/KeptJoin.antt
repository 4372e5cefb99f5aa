-- A join keeps a core sound.
use Rattle.std.proofs.Common.{◌≡◌, ◌≢◌, ℕ, ◌+◌, List, length, set, refl, sym, ap, ◌∙◌, arith, Some, None, inl, inr, Option}
use Rattle.std.specs.Prelude.{slice_get, cond, nat_eq}
use Rattle.std.proofs.lemmas.Bool.{cases_eq}
use Rattle.std.proofs.lemmas.Option.{same_Some, slice_get_within, none-some}
use Rattle.std.proofs.lemmas.List.{length-set}
use Rattle.std.proofs.lemmas.List.Elements.{Contains-append_cases, Contains-append_left}
use Rattle.std.proofs.lemmas.List.Sums.{sum_by-append}
use Rattle.board_core.specs.declared.entry.Entry.{Entry}
use Rattle.board_core.specs.declared.view.GoalMark.{GoalMark}
use Rattle.board_core.specs.declared.view.View.{View}
use Rattle.board_core.specs.Core.{Core, CanJoin, with_all, joined}
use Rattle.board_core.specs.Good.{Knows, IsSound, times}
use Rattle.board_core.proofs.Places.{get-set_same, get-set_other}
use Rattle.board_core.proofs.Views.{all_know-set, spent-set, in_view, times-set}

-- a caller that is handed what another knows
knows-all : (history : List Entry) (marks : List (Option GoalMark)) (k j : ℕ) (v w : View) → Knows history marks k v → Knows history marks j w → Knows history marks j (with_all w v)
knows-all history marks k j v w from into = record {
  known = λ e has. elim (Contains-append_cases w.entries v.entries e has) [ inl own ↦ into.known e own | inr handed ↦ from.known e handed ];
  own = λ n e at own. Contains-append_left w.entries v.entries e (into.own n e at own);
  settled = λ g has. elim (Contains-append_cases w.settled v.settled g has) [ inl own ↦ into.settled g own | inr handed ↦ from.settled g handed ];
  marked = into.marked;
  unmarked = λ e is. (Contains-append_left w.entries v.entries e (into.unmarked e is).0, (into.unmarked e is).1);
  front = omega (arith, from.front, into.front);
  above = λ n e at own. omega (arith, into.above n e at own);
}

pub join-sound : (c : Core) (k j : ℕ) → (can : CanJoin c k j) → IsSound c → IsSound (joined c k can.from j can.into)
join-sound c k j can s =
    let v : View = can.from in
    let w : View = can.into in
    let emptied = set c.views k None in
    let views = set emptied j (Some (with_all w v)) in
    let count : length views ≡ length c.views = length-set emptied j (Some (with_all w v)) ∙ length-set c.views k None in
    let other : j ≢ k = λ e. can.apart (sym e) in
    let still : slice_get emptied j ≡ Some (Some w) = get-set_other c.views k j None other ∙ can.into_live in
    -- a view that stands after the first write stood before
    let before : (i : ℕ) (u : View) → slice_get emptied i ≡ Some (Some u) → slice_get c.views i ≡ Some (Some u) = λ i u at. (
    elim (cases_eq i k) [
      | inl same ↦ (
          let read : Some None ≡ Some (Some u) = sym (get-set_same c.views k None (slice_get_within c.views k (Some v) can.from_live)) ∙ (ap (λ (n : ℕ). slice_get emptied n) (sym same) ∙ at) in
          let clash : None ≡ Some u = same_Some None (Some u) read in
          absurd (none-some u clash)
          )
      | inr differs ↦ sym (get-set_other c.views k i None differs) ∙ at
    ]
    ) in
    record {
      few = omega (arith, count, s.few);
      posted = λ n e at. (
          let p = s.posted n e at in
          record { number = p.number; caller = omega (arith, p.caller, count); goal = p.goal; low = p.low }
          );
      apart = s.apart;
      once = λ n. (
          let first = times-set n c.views k (Some v) None can.from_live in
          let second = times-set n emptied j (Some w) (Some (with_all w v)) still in
          let none : in_view n None ≡ 0 = refl in
          let both : in_view n (Some (with_all w v)) ≡ in_view n (Some w) + in_view n (Some v) = sum_by-append (λ (e : Entry). cond (nat_eq e.number n) 1 0) w.entries v.entries in
          let same : times n views ≡ times n c.views = omega (arith, first, second, none, both) in
          same ∙ s.once n
          );
      named = s.named;
      knows = all_know-set c.history c.marks emptied j (Some w) (with_all w v) still (knows-all c.history c.marks k j v w (s.knows k v can.from_live) (s.knows j w can.into_live))
          (λ i u differs at. s.knows i u (before i u at));
      left = λ n e at spent. (
          let earlier : slice_get emptied e.caller ≡ Some None = spent-set emptied j e.caller (Some w) (with_all w v) still spent in
          elim (cases_eq e.caller k) [
            | inl mine ↦ elim ((s.knows k v can.from_live).marked n e at mine) [ inl unmarked ↦ absurd (none-some e (sym can.idle ∙ unmarked)) | inr m ↦ m ]
            | inr differs ↦ s.left n e at (sym (get-set_other c.views k e.caller None differs) ∙ earlier)
          ]
          );
    }
