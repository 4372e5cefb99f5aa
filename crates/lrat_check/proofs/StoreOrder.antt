-- A store that grows or shrinks stays in order.
use Rattle.std.proofs.Common.{◌≡◌, ℕ, ◌+◌, ◌-◌, ◌<◌, ◌≤◌, Bool, true, false, cond, eqb, ℤ, List, [], ◌∷◌, ◌++◌, length, get_or, map, take, drop, refl, ap, ◌∙◌, arith, inl, inr}
use Rattle.std.specs.List.{All}
use Rattle.std.proofs.lemmas.Bool.{cases_Bool, cases_lt}
use Rattle.std.proofs.lemmas.Grind.{common_steps}
use Rattle.std.proofs.lemmas.List.{length-append, get_or_append_left, get_or_at}
use Rattle.std.proofs.lemmas.List.Elements.{All-head, All-tail, All-push, All-weaker, All-map}
use Rattle.lrat_check.specs.declared.store.Entry.{Entry}
use Rattle.lrat_check.specs.StoredClauses.{literals_of, live_of, IsInside, IsRising, IsStore, killed, killed_all}
use Rattle.lrat_check.proofs.LiveClauses.{IsRising-killed}

cut_same : (a b : List ℤ) (i j : ℕ) → i ≤ j → j ≤ length a → take (j - i) (drop i (a ++ b)) ≡ take (j - i) (drop i a)
cut_same a b i j h k = grind (arith, common_steps)

cut_new : (a b : List ℤ) → take (length a + length b - length a) (drop (length a) (a ++ b)) ≡ b
cut_new a b = grind (arith, common_steps)

pub live_of-grown : (a b : List ℤ) (es : List Entry) → All (IsInside (length a)) es → live_of (a ++ b) es ≡ live_of a es
live_of-grown a b [] h = refl
live_of-grown a b (e ∷ es) h =
    let p = All-head (IsInside (length a)) e es h in
    let rest = live_of-grown a b es (All-tail (IsInside (length a)) e es h) in
    let same = cut_same a b e.start e.end p.0 p.1 in
    ap (λ (c : List ℤ). cond e.alive ((e.id, c) ∷ live_of (a ++ b) es) (live_of (a ++ b) es)) same
    ∙ ap (λ (t : List (ℕ × List ℤ)). cond e.alive ((e.id, literals_of a e) ∷ t) t) rest

pushed_under : (b : Bool) (x y : ℕ × List ℤ) (s t : List (ℕ × List ℤ)) → s ≡ t ++ y ∷ [] → cond b (x ∷ s) s ≡ cond b (x ∷ t) t ++ y ∷ []
pushed_under true x y s t h = ap (λ z. x ∷ z) h
pushed_under false x y s t h = h

live_of-pushed : (a : List ℤ) (es : List Entry) (e : Entry) → e.alive ≡ true → live_of a (es ++ e ∷ []) ≡ live_of a es ++ (e.id, literals_of a e) ∷ []
live_of-pushed a [] e h = ap (λ (b : Bool). cond b ((e.id, literals_of a e) ∷ []) []) h
live_of-pushed a (f ∷ fs) e h = pushed_under f.alive (f.id, literals_of a f) (e.id, literals_of a e) (live_of a (fs ++ e ∷ [])) (live_of a fs) (live_of-pushed a fs e h)

pub live_of-push : (a b : List ℤ) (es : List Entry) (e : Entry) → All (IsInside (length a)) es → e.alive ≡ true → e.start ≡ length a → e.end ≡ length a + length b → live_of (a ++ b) (es ++ e ∷ []) ≡ live_of a es ++ (e.id, b) ∷ []
live_of-push a b es e h alive start end =
    live_of-pushed (a ++ b) es e alive
    ∙ ap (λ (t : List (ℕ × List ℤ)). t ++ (e.id, literals_of (a ++ b) e) ∷ []) (live_of-grown a b es h)
    ∙ ap (λ (c : List ℤ). live_of a es ++ (e.id, c) ∷ []) (rw (start, end) (cut_new a b))

pub IsStore-grown : (a b : List ℤ) (es : List Entry) (greatest : ℕ) → IsStore a es greatest → IsStore (a ++ b) es greatest
IsStore-grown a b es greatest h = record {
  inside = All-weaker (IsInside (length a)) (IsInside (length (a ++ b))) (λ e k. (k.0, omega (arith, length-append a b, k.1))) es h.inside;
  rising = h.rising;
  up_to = h.up_to;
}

pub IsStore-push : (a b : List ℤ) (es : List Entry) (e : Entry) (greatest : ℕ) → IsStore a es greatest → greatest < e.id → e.start ≡ length a → e.end ≡ length a + length b → IsStore (a ++ b) (es ++ e ∷ []) e.id
IsStore-push a b es e greatest h newer start end =
    let grown = IsStore-grown a b es greatest h in
    record {
      inside = All-push (IsInside (length (a ++ b))) es e grown.inside (omega arith, omega (arith, length-append a b));
      rising = rising;
      up_to = All-push (λ (x : Entry). x.id ≤ e.id) es e (All-weaker (λ (x : Entry). x.id ≤ greatest) (λ (x : Entry). x.id ≤ e.id) (λ x k. omega arith) es h.up_to) (omega arith);
    }
  where
    rising : IsRising (es ++ e ∷ [])
    rising i j d lt within =
        let before : get_or (es ++ e ∷ []) i d ≡ get_or es i d = get_or_append_left es (e ∷ []) d i (omega (arith, length-append es (e ∷ []))) in
        elim (cases_lt j (length es)) [
          | inl left ↦
              (let here : get_or (es ++ e ∷ []) j d ≡ get_or es j d = get_or_append_left es (e ∷ []) d j left in
              rw (before, here) (h.rising i j d lt left))
          | inr right ↦
              (let at : get_or (es ++ e ∷ []) j d ≡ e = get_or_at es e [] d j (omega (arith, length-append es (e ∷ []))) in
              let below : (get_or es i d).id ≤ greatest = h.up_to i d (omega (arith, length-append es (e ∷ []))) in
              rw (before, at) (omega arith))
        ]

killed_inside : (n id : ℕ) (e : Entry) → IsInside n e → IsInside n (killed id e)
killed_inside n id e h = elim (cases_Bool (eqb e.id id)) [ inl k ↦ rw k h | inr k ↦ rw k h ]

killed_up_to : (n id : ℕ) (e : Entry) → e.id ≤ n → (killed id e).id ≤ n
killed_up_to n id e h = elim (cases_Bool (eqb e.id id)) [ inl k ↦ rw k h | inr k ↦ rw k h ]

pub IsStore-killed_all : (a : List ℤ) (es : List Entry) (greatest : ℕ) (ids : List ℕ) → IsStore a es greatest → IsStore a (killed_all es ids) greatest
IsStore-killed_all a es greatest [] h = h
IsStore-killed_all a es greatest (id ∷ ids) h =
    IsStore-killed_all a (map (killed id) es) greatest ids (record {
      inside = All-map (IsInside (length a)) (killed id) es (All-weaker (IsInside (length a)) (λ e. IsInside (length a) (killed id e)) (killed_inside (length a) id) es h.inside);
      rising = IsRising-killed id es h.rising;
      up_to = All-map (λ (e : Entry). e.id ≤ greatest) (killed id) es (All-weaker (λ (e : Entry). e.id ≤ greatest) (λ (e : Entry). (killed id e).id ≤ greatest) (killed_up_to greatest id) es h.up_to);
    })

-- entries that were lent as a slice and came back
pub lent_back : (n : ℕ) (new old : List Entry) → length new ≡ length old → n ≡ length old → take n (new ++ drop (length new) old) ≡ new
lent_back n new old h k = grind (arith, common_steps)
