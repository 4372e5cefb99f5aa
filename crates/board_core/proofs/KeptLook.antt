-- A look keeps a core sound.
use Rattle.std.proofs.Common.{◌≡◌, ℕ, ◌<◌, List, length, set, refl, ap, subst, ◌∙◌, arith, Some, None, inl, inr, Option}
use Rattle.std.specs.Prelude.{slice_get}
use Rattle.std.proofs.lemmas.Option.{slice_get_within, slice_get-get_or}
use Rattle.std.proofs.lemmas.List.{length-set}
use Rattle.std.proofs.lemmas.List.Elements.{Contains-push_cases}
use Rattle.board_core.specs.declared.entry.Entry.{Entry}
use Rattle.board_core.specs.declared.view.GoalMark.{GoalMark}
use Rattle.board_core.specs.declared.view.View.{View}
use Rattle.board_core.specs.Core.{Core, CanLook, mark_of, with_look, looked}
use Rattle.board_core.specs.Good.{IsMarked, Knows, IsSound, times}
use Rattle.board_core.proofs.Views.{all_know-set, spent-set, in_view, times-set}

knows-look : (history : List Entry) (marks : List (Option GoalMark)) (k g : ℕ) (v : View) (found : Option GoalMark) → ((m : GoalMark) → found ≡ Some m → IsMarked marks g × (m.number < length history))
    → Knows history marks k v → Knows history marks k (with_look v g found)
knows-look history marks k g v None is h = record {
  known = h.known;
  own = h.own;
  settled = h.settled;
  marked = h.marked;
  unmarked = h.unmarked;
  front = h.front;
  above = h.above;
}
knows-look history marks k g v (Some m) is h = record {
  known = h.known;
  own = h.own;
  settled = λ i has. elim (Contains-push_cases v.settled g i has) [ inl old ↦ h.settled i old | inr same ↦ subst (λ (x : ℕ). IsMarked marks x) same (is m refl).0 ];
  marked = h.marked;
  unmarked = h.unmarked;
  front = omega (arith, h.front, (is m refl).1);
  above = λ n e at own. omega (arith, h.above n e at own);
}

same-entries : (v : View) (g : ℕ) (found : Option GoalMark) → (with_look v g found).entries ≡ v.entries
same-entries v g None = refl
same-entries v g (Some m) = refl

pub look-sound : (c : Core) (k g : ℕ) → (can : CanLook c k g) → IsSound c → IsSound (looked c k can.view g)
look-sound c k g can s =
    let v : View = can.view in
    let new : View = with_look v g (mark_of c g) in
    let views = set c.views k (Some new) in
    let count : length views ≡ length c.views = length-set c.views k (Some new) in
    let is : (m : GoalMark) → mark_of c g ≡ Some m → IsMarked c.marks g × (m.number < length c.history) = λ m found. (
    let at : slice_get c.marks g ≡ Some (Some m) = slice_get-get_or c.marks g None can.range ∙ ap (λ (x : Option GoalMark). Some x) found in
    ((m, at), slice_get_within c.history m.number (s.named g m at).entry (s.named g m at).place)
    ) in
    record {
      few = omega (arith, count, s.few);
      posted = λ n e at. (
          let p = s.posted n e at in
          record { number = p.number; caller = omega (arith, p.caller, count); goal = p.goal; low = p.low }
          );
      apart = s.apart;
      once = λ n. (
          let sums = times-set n c.views k (Some v) (Some new) can.live in
          let entries : in_view n (Some new) ≡ in_view n (Some v) = ap (λ (es : List Entry). in_view n (Some (record v { entries = es }))) (same-entries v g (mark_of c g)) in
          let same : times n views ≡ times n c.views = omega (arith, sums, entries) in
          same ∙ s.once n
          );
      named = s.named;
      knows = all_know-set c.history c.marks c.views k (Some v) new can.live (knows-look c.history c.marks k g v (mark_of c g) is (s.knows k v can.live)) (λ j w other at. s.knows j w at);
      left = λ n e at spent. s.left n e at (spent-set c.views k e.caller (Some v) new can.live spent);
    }
