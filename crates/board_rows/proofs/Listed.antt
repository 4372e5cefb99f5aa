-- Seats that are taken out and put back one by one.
use Rattle.std.proofs.Common.{◌≡◌, ℕ, ◌+◌, ◌<◌, List, [], ◌∷◌, ◌++◌, length, map, get_or, sym, refl, ap, ◌∙◌, subst, arith, All, append_assoc}
use Rattle.std.specs.List.{range_with_len}
use Rattle.std.proofs.lemmas.List.FromFn.{get_or-map-range_with_len, length-map-range_with_len}
use Rattle.job_desk.specs.Seats.{JobDeskState, JobSeatState, new_seat, AreAllOf}
use Rattle.board_rows.specs.Callers.{IsReady, HasClaimed, listed}

-- one element moves from the end of a list to the front of the next
pub moved_on : {X : Type 0} (P : List X → Type 0) (xs ys zs : List X) (x : X) → xs ≡ ys ++ x ∷ [] → P (xs ++ zs) → P (ys ++ x ∷ zs)
moved_on P xs ys zs x e p = subst P (ap (λ l. l ++ zs) e ∙ append_assoc ys (x ∷ []) zs) p

-- and back
pub moved_back : {X : Type 0} (P : List X → Type 0) (xs ys zs : List X) (x : X) → xs ≡ ys ++ x ∷ [] → P (ys ++ x ∷ zs) → P (xs ++ zs)
moved_back P xs ys zs x e p = subst P (sym (ap (λ l. l ++ zs) e ∙ append_assoc ys (x ∷ []) zs)) p

-- a new desk's seats may claim
pub all_new : (desk : JobDeskState) (callers : ℕ) → All (IsReady desk) (map (new_seat desk) (range_with_len 0 callers))
all_new desk callers k d lt =
    let inside : k < callers = omega (arith, length-map-range_with_len (new_seat desk) 0 callers) in
    subst (IsReady desk) (sym (get_or-map-range_with_len (new_seat desk) 0 callers k k d inside (let e : 0 + k ≡ k = omega arith in e))) record { of_desk = refl; early = refl }

-- after the claims they are the desk's seats still
pub all_after : (desk : JobDeskState) (room : ℕ) (before after : List JobSeatState) → length after ≡ length before
    → ((k : ℕ) (d : JobSeatState) → k < length before → HasClaimed (get_or before k d) (get_or after k d))
    → AreAllOf desk (listed before room) → AreAllOf desk (listed after room)
all_after desk room before after len each all = record {
  of_desk = λ k d lt. let h : k < length before = omega (arith, lt, len) in (each k d h).desk ∙ all.of_desk k d h;
  count = len ∙ all.count;
  distinct = λ i j d lt lt' e.
      let h : j < length before = omega (arith, lt', len) in
      let g : i < length before = omega (arith, lt, lt', len) in
      all.distinct i j d lt h (sym (each i d g).caller ∙ e ∙ (each j d h).caller);
  room = all.room;
}
