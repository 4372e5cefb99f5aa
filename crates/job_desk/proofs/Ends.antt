-- What a seat drew is what it was answered, and what all seats drew is all.
use Rattle.std.proofs.Common.{◌≡◌, ◌≢◌, ℕ, zero, suc, ◌+◌, ◌<◌, ◌≤◌, Vec, Global, None, Some, Option, List, [], ◌∷◌, ◌++◌, length, map, get_or, set, sym, refl, ap, ◌∙◌, subst, arith}
use Rattle.std.specs.Prelude.{option_to_list, AllPairs}
use Rattle.std.specs.List.{range_with_len}
use Rattle.std.proofs.lemmas.List.{get_or_append_left, get_or-set_same, get_or-set_other}
use Rattle.std.proofs.lemmas.List.FromFn.{get_or-map-range_with_len, length-map-range_with_len}
use Rattle.std.proofs.Math.Seq.{get_or-append_seam}
use mathlib.Core.Logic.{dite}
use native.Mathlib.Decide.{ℕ_discrete, dec_le}
use Rattle.atomic_table.specs.Seated.{TableId}
use Rattle.job_desk.specs.declared.view.View.{View}
use Rattle.job_desk.specs.Lists.{total, times, once_below}
use Rattle.job_desk.specs.Draws.{Draw, draw, draws_of}
use Rattle.job_desk.specs.Inside.{seat_state, own_draws, IsSeat, AreEmpty}
use Rattle.atomic_table.specs.Table.{Me}
use Rattle.job_desk.specs.Seats.{JobDeskState, JobSeatState, JobSeatsState, new_seat, AreAllOf}
use Rattle.job_desk.proofs.Sums.{total-append, times_here, times_else, once_yes, once_no}

-- ---- one seat
total_map : {A B : Type 0} (f : A → B) (g : B → ℕ) (xs : List A) → total g (map f xs) ≡ total (λ x. g (f x)) xs
total_map f g [] = refl
total_map f g (x ∷ xs) = omega (arith, total_map f g xs)

pub own_times : (x caller : ℕ) (answered : List ℕ) (over : Option ℕ) → draws_of x (own_draws caller answered over) ≡ times x answered + times x (option_to_list over)
own_times x caller answered over = total_map (draw caller) _ (answered ++ option_to_list over) ∙ total-append _ answered (option_to_list over)

-- below `jobs` it drew what it was answered
pub own_below : (x jobs caller : ℕ) (answered : List ℕ) (over : Option ℕ) → ((n : ℕ) → over ≡ Some n → jobs ≤ n) → x < jobs
    → draws_of x (own_draws caller answered over) ≡ times x answered
own_below x jobs caller answered None high lt = omega (arith, own_times x caller answered None)
own_below x jobs caller answered (Some n) high lt = omega (arith, own_times x caller answered (Some n), times_else x n (λ e. omega (arith, high n refl)))

-- it drew the number at which it was answered None
pub own_over : (caller n : ℕ) (answered : List ℕ) (over : Option ℕ) → over ≡ Some n → 0 < draws_of n (own_draws caller answered over)
own_over caller n answered over e = subst (λ o. 0 < draws_of n (own_draws caller answered o)) (sym e) (omega (arith, own_times n caller answered (Some n), times_here n))

-- ---- how seats are made
pub seat_is : (desk : JobDeskState) (table : TableId) (v : View) (caller : ℕ) → table ≡ desk.table → v.jobs ≡ desk.jobs → v.callers ≡ desk.callers → v.caller ≡ caller → v.over ≡ None
    → seat_state table v [] ≡ new_seat desk caller
seat_is desk table v caller a b c d e = λ i. record { desk = record { table = a i; jobs = b i; callers = c i }; caller = d i; answered = []; over = e i }

pub range_snoc : {X : Type 0} (f : ℕ → X) (a n m : ℕ) → m ≡ a + n → map f (range_with_len a n) ++ f m ∷ [] ≡ map f (range_with_len a (n + 1))
range_snoc f a zero m e = ap (λ k. f k ∷ []) (let h : m ≡ a = omega arith in h)
range_snoc f a (suc n) m e = ap (λ l. f a ∷ l) (range_snoc f (a + 1) n m (omega arith)) ∙ ap (λ k. map f (range_with_len a k)) (let h : suc (n + 1) ≡ suc n + 1 = omega arith in h)

pub range_front : {X : Type 0} (f : ℕ → X) (n m : ℕ) → m ≡ n + 1 → f 0 ∷ map f (range_with_len 1 n) ≡ map f (range_with_len 0 m)
range_front f n m e = ap (λ k. map f (range_with_len 0 k)) (let h : suc n ≡ m = omega arith in h)

pub all_of : (desk : JobDeskState) (s : JobSeatsState) → s.seats ≡ map (new_seat desk) (range_with_len 0 desk.callers) → s.room ≡ desk.callers → AreAllOf desk s
all_of desk s e room =
    let long : length s.seats ≡ desk.callers = ap length e ∙ length-map-range_with_len (new_seat desk) 0 desk.callers in
    let at : (k : ℕ) (d : JobSeatState) → k < length s.seats → get_or s.seats k d ≡ new_seat desk k
    = λ k d lt. ap (λ l. get_or l k d) e ∙ get_or-map-range_with_len (new_seat desk) 0 desk.callers k k d (omega arith) (let same : 0 + k ≡ k = omega arith in same) in
    record {
      of_desk = λ k d lt. ap (λ (t : JobSeatState). t.desk) (at k d lt);
      count = long;
      distinct = λ i j d before lt same. omega (arith, ap (λ (t : JobSeatState). t.caller) (at i d (omega arith)), ap (λ (t : JobSeatState). t.caller) (at j d lt), same);
      room = room;
    }

-- ---- how seats are taken off
pub last_of : {X : Type 0} (xs ys : List X) (x d : X) → xs ≡ ys ++ x ∷ [] → get_or xs (length ys) d ≡ x
last_of xs ys x d e = ap (λ l. get_or l (length ys) d) e ∙ get_or-append_seam ys x [] d

pub rest_of_popped : {X : Type 0} (xs ys : List X) (x d : X) (k : ℕ) → xs ≡ ys ++ x ∷ [] → k < length ys → get_or ys k d ≡ get_or xs k d
rest_of_popped xs ys x d k e lt = sym (get_or_append_left ys (x ∷ []) d k lt) ∙ ap (λ l. get_or l k d) (sym e)

-- ---- what the lists have in all
pub total-write : {X : Type 0} (g : X → ℕ) (l : List X) (i : ℕ) (w d : X) → i < length l → total g (set l i w) + g (get_or l i d) ≡ total g l + g w
total-write g [] i w d lt = absurd (omega arith)
total-write g (x ∷ xs) zero w d lt = omega arith
total-write g (x ∷ xs) (suc i) w d lt = omega (arith, total-write g xs i w d (omega arith))

pub times_listed : (x : ℕ) (lists : List (Vec ℕ Global)) → total (times x) (map (λ (list : Vec ℕ Global). list.items) lists) ≡ total (λ (list : Vec ℕ Global). times x list.items) lists
times_listed x lists = total_map (λ (list : Vec ℕ Global). list.items) (times x) lists

-- with a number at or above jobs drawn, each below was drawn once
pub once_each : (n m x jobs : ℕ) (draws : List Draw) → ((y : ℕ) → draws_of y draws ≡ once_below y n) → jobs ≤ m → 0 < draws_of m draws → x < jobs → draws_of x draws ≡ 1
once_each n m x jobs draws all le some lt = dite (dec_le n m)
    (λ h. absurd (omega (arith, all m, once_no m n h)))
    (λ h. omega (arith, all x, once_yes x n (omega arith)))

pub total_empty : (x : ℕ) (lists : List (Vec ℕ Global)) → AreEmpty lists → total (λ (list : Vec ℕ Global). times x list.items) lists ≡ 0
total_empty x [] empty = refl
total_empty x (list ∷ lists) empty = omega (arith, ap (times x) (empty 0 list (omega arith)), total_empty x lists (λ k d lt. empty (suc k) d (omega arith)))

-- ---- a seat that is taken off
pub record TakenOff (desk : JobDeskState) (x : JobSeatState) (by : ℕ) (numbers : Vec ℕ Global) (at : TableId) (v : View) : Type 0 where
  pub table : at ≡ desk.table
  pub parts : v.parts ≡ 1
  pub caller : x.caller ≡ by
  pub inside : by < desk.callers
  pub answered : numbers.items ≡ x.answered
  pub below : (y : ℕ) → y < desk.jobs → draws_of y v.drawn ≡ times y numbers.items
  pub over : (n : ℕ) → x.over ≡ Some n → (desk.jobs ≤ n) × (0 < draws_of n v.drawn)

pub taken_off : (desk : JobDeskState) (x : JobSeatState) (by : ℕ) (numbers : Vec ℕ Global) (at : TableId) (me : Me (Unit {0}) View)
    → seat_state at me.0 numbers.items ≡ x → x.desk ≡ desk → IsSeat by numbers me → TakenOff desk x by numbers at me.0
taken_off desk x by numbers at me is of s =
    let same = ap (λ (t : JobSeatState). t.desk) is ∙ of in
    let jobs : me.0.jobs ≡ desk.jobs = ap (λ (d : JobDeskState). d.jobs) same in
    record {
      table = ap (λ (d : JobDeskState). d.table) same;
      parts = s.parts;
      caller = sym (ap (λ (t : JobSeatState). t.caller) is) ∙ s.caller;
      inside = omega (arith, s.callers, ap (λ (d : JobDeskState). d.callers) same);
      answered = ap (λ (t : JobSeatState). t.answered) is;
      below = λ y lt. ap (draws_of y) s.drawn ∙ own_below y me.0.jobs by numbers.items me.0.over s.high (omega arith);
      over = λ n e. let mine : me.0.over ≡ Some n = ap (λ (t : JobSeatState). t.over) is ∙ e in
          (let high : me.0.jobs ≤ n = s.high n mine in omega arith, subst (λ l. 0 < draws_of n l) (sym s.drawn) (own_over by n numbers.items me.0.over mine));
    }

module _ (seats : List JobSeatState) (distinct : AllPairs (λ (a b : JobSeatState). a.caller ≢ b.caller) seats) (n : ℕ) (x : JobSeatState) (by : ℕ)
    (numbers : Vec ℕ Global) (lists : List (Vec ℕ Global)) where
  abbrev kept : List (Vec ℕ Global) → ℕ → JobSeatState → Vec ℕ Global → List ℕ
  kept ls k d e = (get_or ls (get_or seats k d).caller e).items

  other_list : (k : ℕ) (d : JobSeatState) (e : Vec ℕ Global) → (get_or seats k d).caller ≢ by → kept (set lists by numbers) k d e ≡ kept lists k d e
  other_list k d e ne = ap (λ (v : Vec ℕ Global). v.items) (get_or-set_other lists by (get_or seats k d).caller numbers e ne)

  pub left_after : {limit : ℕ} → n < length seats → ((d : JobSeatState) → get_or seats n d ≡ x) → x.caller ≡ by
      → ((k : ℕ) (d : JobSeatState) (e : Vec ℕ Global) → k < n → (get_or seats k d).caller < limit → kept lists k d e ≡ [])
      → (k : ℕ) (d : JobSeatState) (e : Vec ℕ Global) → k < n → (get_or seats k d).caller < limit → kept (set lists by numbers) k d e ≡ []
  left_after inside here is left k d e lt room =
      other_list k d e (λ h. distinct k n d lt inside (h ∙ sym is ∙ sym (ap (λ (t : JobSeatState). t.caller) (here d)))) ∙ left k d e lt room

  pub answered_after : n < length seats → ((d : JobSeatState) → get_or seats n d ≡ x) → x.caller ≡ by → by < length lists → numbers.items ≡ x.answered
      → ((k : ℕ) (d : JobSeatState) (e : Vec ℕ Global) → n < k → k < length seats → kept lists k d e ≡ (get_or seats k d).answered)
      → (k : ℕ) (d : JobSeatState) (e : Vec ℕ Global) → n ≤ k → k < length seats → kept (set lists by numbers) k d e ≡ (get_or seats k d).answered
  answered_after inside here is room same answered k d e le lt = dite (ℕ_discrete k n)
      (λ eq. let at : get_or seats k d ≡ x = ap (λ i. get_or seats i d) eq ∙ here d in
      ap (λ (i : ℕ). (get_or (set lists by numbers) i e).items) (ap (λ (t : JobSeatState). t.caller) at ∙ is)
      ∙ ap (λ (v : Vec ℕ Global). v.items) (get_or-set_same lists by numbers e room) ∙ same ∙ ap (λ (t : JobSeatState). t.answered) (sym at))
      (λ ne. other_list k d e (λ h. distinct n k d (omega arith) lt (ap (λ (t : JobSeatState). t.caller) (here d) ∙ is ∙ sym h)) ∙ answered k d e (omega arith) lt)

  pub inside_after : {limit : ℕ} → ((d : JobSeatState) → get_or seats n d ≡ x) → x.caller ≡ by → by < limit
      → ((k : ℕ) (d : JobSeatState) → n < k → k < length seats → (get_or seats k d).caller < limit)
      → (k : ℕ) (d : JobSeatState) → n ≤ k → k < length seats → (get_or seats k d).caller < limit
  inside_after here is below others k d le lt = dite (ℕ_discrete k n)
      (λ eq. omega (arith, ap (λ (t : JobSeatState). t.caller) (ap (λ i. get_or seats i d) eq ∙ here d)))
      (λ ne. others k d (omega arith) lt)

  -- an empty list is filled
  pub total_after : (y : ℕ) (e : Vec ℕ Global) → by < length lists → (get_or lists by e).items ≡ []
      → total (λ (list : Vec ℕ Global). times y list.items) (set lists by numbers) ≡ total (λ (list : Vec ℕ Global). times y list.items) lists + times y numbers.items
  total_after y e room empty = omega (arith, total-write (λ (list : Vec ℕ Global). times y list.items) lists by numbers e room, ap (times y) empty)
