-- Posts that are put at their numbers: those below their count, each once.
use Rattle.std.proofs.Common.{◌≡◌, ◌≢◌, ℕ, zero, suc, ◌+◌, ◌<◌, ◌≤◌, cond, eqb, eq-eqb, ne_eqb, lt-ltb, le-ltb, List, [], ◌∷◌, length, map, get_or, set, drop, replicate, Option, None, Some, sym, refl, ap, ◌∙◌, subst, arith, length-set}
use Rattle.std.specs.Prelude.{slice_get, Contains}
use Rattle.std.proofs.lemmas.List.{get_or-set_other, get_or-set_same, length-map}
use Rattle.std.proofs.lemmas.Option.{same_Some, slice_get_within, none-some}
use mathlib.Core.Logic.{dite}
use native.Mathlib.Decide.{ℕ_discrete, dec_le}
use Rattle.board_core.specs.declared.entry.Entry.{Entry}
use Rattle.goal_board.specs.declared.pass.Posted.{Posted}
use Rattle.goal_board.specs.Ends.{AreNumbered, IsInOrder, entries_of, placed, times}
use Rattle.goal_board.proofs.Sums.{length-replicate}

pub one_if : (x n : ℕ) → x ≡ n → cond {A = ℕ} (eqb x n) 1 0 ≡ 1
one_if x n e = ap (λ b. cond b 1 0) (eq-eqb x n e)

pub none_if : (x n : ℕ) → x ≢ n → cond {A = ℕ} (eqb x n) 1 0 ≡ 0
none_if x n ne = ap (λ b. cond b 1 0) (ne_eqb x n ne)

-- ---- numbers of entries
positive_at : (es : List Entry) (e : Entry) (k : ℕ) → k < length es → get_or es k e ≡ e → 0 < times e.number es
positive_at [] e k lt at = absurd (omega arith)
positive_at (f ∷ es) e zero lt at = omega (arith, one_if f.number e.number (ap (λ (x : Entry). x.number) at))
positive_at (f ∷ es) e (suc k) lt at = omega (arith, positive_at es e k (omega arith) at)

pub positive : (es : List Entry) (e : Entry) → Contains es e → 0 < times e.number es
positive es e h = positive_at es e h.0 h.1 h.2

once_in : (es : List Entry) (count n : ℕ) → AreNumbered es count → n < count → times n es ≡ 1
once_in es count n numbered lt = numbered n ∙ ap (λ b. cond b 1 0) (lt-ltb n count lt)

pub number_below : (es : List Entry) (count : ℕ) (e : Entry) → AreNumbered es count → Contains es e → e.number < count
number_below es count e numbered has = dite (dec_le (e.number + 1) count)
    (λ lt. omega arith)
    (λ ge. absurd (omega (arith, positive es e has, numbered e.number ∙ ap (λ b. cond {A = ℕ} b 1 0) (le-ltb e.number count (omega arith)))))

-- ---- how many there are
abbrev sum_below : (ℕ → ℕ) → ℕ → ℕ
sum_below f zero = 0
sum_below f (suc m) = sum_below f m + f m

sum_zeros : (m : ℕ) → sum_below (λ n. 0) m ≡ 0
sum_zeros zero = refl
sum_zeros (suc m) = omega (arith, sum_zeros m)

sum_ones : (f : ℕ → ℕ) (m : ℕ) → ((n : ℕ) → n < m → f n ≡ 1) → sum_below f m ≡ m
sum_ones f zero h = refl
sum_ones f (suc m) h = omega (arith, sum_ones f m (λ n lt. h n (omega arith)), h m (omega arith))

sum_both : (f g : ℕ → ℕ) (m : ℕ) → sum_below (λ n. f n + g n) m ≡ sum_below f m + sum_below g m
sum_both f g zero = refl
sum_both f g (suc m) = omega (arith, sum_both f g m)

sum_past : (x m : ℕ) → m ≤ x → sum_below (λ n. cond {A = ℕ} (eqb x n) 1 0) m ≡ 0
sum_past x zero le = refl
sum_past x (suc m) le = omega (arith, sum_past x m (omega arith), none_if x m (λ e. omega arith))

sum_once : (x m : ℕ) → x < m → sum_below (λ n. cond {A = ℕ} (eqb x n) 1 0) m ≡ 1
sum_once x zero lt = absurd (omega arith)
sum_once x (suc m) lt = dite (ℕ_discrete x m)
    (λ e. omega (arith, sum_past x m (omega arith), one_if x m e))
    (λ ne. omega (arith, sum_once x m (omega arith), none_if x m ne))

counted : (es : List Entry) (m : ℕ) → ((e : Entry) → Contains es e → e.number < m) → sum_below (λ n. times n es) m ≡ length es
counted [] m below = sum_zeros m
counted (e ∷ es) m below =
    let one = sum_once e.number m (below e (0, omega arith, refl)) in
    let rest = counted es m (λ x h. below x (suc h.0, omega (arith, h.1), h.2)) in
    sum_both (λ n. cond {A = ℕ} (eqb e.number n) 1 0) (λ n. times n es) m ∙ ap (λ n. n + sum_below (λ n. times n es) m) one ∙ omega (arith, rest)

pub length_numbered : (es : List Entry) (count : ℕ) → AreNumbered es count → length es ≡ count
length_numbered es count numbered = sym (counted es count (λ e has. number_below es count e numbered has)) ∙ sum_ones (λ n. times n es) count (λ n lt. once_in es count n numbered lt)

-- ---- posts and their entries
entry_at : (ps : List Posted) (p : Posted) (k : ℕ) → k < length ps → get_or ps k p ≡ p → Contains (entries_of ps) p.entry
entry_at [] p k lt at = absurd (omega arith)
entry_at (q ∷ ps) p zero lt at = (0, omega arith, ap (λ (x : Posted). x.entry) at)
entry_at (q ∷ ps) p (suc k) lt at = let r = entry_at ps p k (omega arith) at in (suc r.0, omega (arith, r.1), r.2)

pub entry_among : (ps : List Posted) (p : Posted) → Contains ps p → Contains (entries_of ps) p.entry
entry_among ps p h = entry_at ps p h.0 h.1 h.2

post_with : (ps : List Posted) (n : ℕ) → 0 < times n (entries_of ps) → (p : Posted) × Contains ps p × (p.entry.number ≡ n)
post_with [] n some = absurd (omega arith)
post_with (q ∷ ps) n some = dite (ℕ_discrete q.entry.number n)
    (λ e. (q, (0, omega arith, refl), e))
    (λ ne. let r = post_with ps n (omega (arith, none_if q.entry.number n ne)) in (r.0, (suc r.1.0, omega (arith, r.1.1), r.1.2), r.2))

-- ---- places
none_placed : (ps : List Posted) (places : List (Option Posted)) (n : ℕ) (d : Option Posted) → times n (entries_of ps) ≡ 0 → get_or (placed places ps) n d ≡ get_or places n d
none_placed [] places n d none = refl
none_placed (p ∷ ps) places n d none = dite (ℕ_discrete p.entry.number n)
    (λ e. absurd (omega (arith, none, one_if p.entry.number n e)))
    (λ ne. none_placed ps (set places p.entry.number (Some p)) n d (omega (arith, none)) ∙ get_or-set_other places p.entry.number n (Some p) d (λ z. ne (sym z)))

once_placed : (ps : List Posted) (places : List (Option Posted)) (p : Posted) (k : ℕ) (d : Option Posted) → k < length ps → get_or ps k p ≡ p → times p.entry.number (entries_of ps) ≡ 1
    → p.entry.number < length places → get_or (placed places ps) p.entry.number d ≡ Some p
once_placed [] places p k d lt at once inside = absurd (omega arith)
once_placed (q ∷ ps) places p zero d lt at once inside =
    let same : q.entry.number ≡ p.entry.number = ap (λ (x : Posted). x.entry.number) at in
    let none : times p.entry.number (entries_of ps) ≡ 0 = omega (arith, once, one_if q.entry.number p.entry.number same) in
    subst (λ (x : Posted). get_or (placed (set places x.entry.number (Some x)) ps) p.entry.number d ≡ Some p) (sym at)
    (none_placed ps (set places p.entry.number (Some p)) p.entry.number d none ∙ get_or-set_same places p.entry.number (Some p) d inside)
once_placed (q ∷ ps) places p (suc k) d lt at once inside =
    let more = positive (entries_of ps) p.entry (entry_at ps p k (omega arith) at) in
    once_placed ps (set places q.entry.number (Some q)) p k d (omega arith) at (omega (arith, once, more)) (omega (arith, inside, length-set places q.entry.number (Some q)))

pub length-placed : (ps : List Posted) (places : List (Option Posted)) → length (placed places ps) ≡ length places
length-placed [] places = refl
length-placed (p ∷ ps) places = length-placed ps (set places p.entry.number (Some p)) ∙ length-set places p.entry.number (Some p)

all_some : (xs : List (Option Posted)) → ((k : ℕ) → k < length xs → (p : Posted) × (get_or xs k None ≡ Some p)) → (ys : List Posted) × (xs ≡ map (λ (p : Posted). Some p) ys)
all_some [] h = ([], refl)
all_some (x ∷ xs) h = let p = h 0 (omega arith) in let r = all_some xs (λ k lt. h (suc k) (omega arith)) in (p.0 ∷ r.0, λ i. p.1 i ∷ r.1 i)

-- posts are one list where their places are
pub same_somes : (xs ys : List Posted) → map (λ (p : Posted). Some p) xs ≡ map (λ (p : Posted). Some p) ys → xs ≡ ys
same_somes [] [] e = refl
same_somes [] (y ∷ ys) e = absurd (omega (arith, ap length e))
same_somes (x ∷ xs) [] e = absurd (omega (arith, ap length e))
same_somes (x ∷ xs) (y ∷ ys) e =
    let first : x ≡ y = same_Some x y (ap (λ (l : List (Option Posted)). get_or l 0 None) e) in
    let rest : xs ≡ ys = same_somes xs ys (ap (λ (l : List (Option Posted)). drop 1 l) e) in
    λ i. first i ∷ rest i

some_at : (ys : List Posted) (k : ℕ) (p : Posted) → get_or (map (λ (q : Posted). Some q) ys) k None ≡ Some p → slice_get ys k ≡ Some p
some_at [] k p e = absurd (none-some p e)
some_at (y ∷ ys) zero p e = e
some_at (y ∷ ys) (suc k) p e = some_at ys k p e

at_some : (ys : List Posted) (k : ℕ) (p : Posted) → slice_get ys k ≡ Some p → get_or (map (λ (q : Posted). Some q) ys) k None ≡ Some p
at_some [] k p e = e
at_some (y ∷ ys) zero p e = e
at_some (y ∷ ys) (suc k) p e = at_some ys k p e

pub numbers_inside : (ps : List Posted) (p : Posted) → AreNumbered (entries_of ps) (length ps) → Contains ps p → p.entry.number < length ps
numbers_inside ps p numbered has = number_below (entries_of ps) (length ps) p.entry numbered (entry_among ps p has)

-- the places are full, and have the posts in order
pub placed_in_order : (ps : List Posted) → AreNumbered (entries_of ps) (length ps)
    → (sorted : List Posted) × IsInOrder ps sorted × (placed (replicate (length ps) None) ps ≡ map (λ (p : Posted). Some p) sorted)
placed_in_order ps numbered =
    let empty : List (Option Posted) = replicate (length ps) None in
    let long : length (placed empty ps) ≡ length ps = length-placed ps empty ∙ length-replicate None (length ps) in
    let once : (n : ℕ) → n < length ps → times n (entries_of ps) ≡ 1 = λ n lt. once_in (entries_of ps) (length ps) n numbered lt in
    let here : (p : Posted) → Contains ps p → get_or (placed empty ps) p.entry.number None ≡ Some p
    = λ p has. let lt = numbers_inside ps p numbered has in once_placed ps empty p has.0 None has.1 has.2 (once p.entry.number lt) (omega (arith, lt, length-replicate {A = Option Posted} None (length ps))) in
    let there : (n : ℕ) → n < length ps → (p : Posted) × Contains ps p × (p.entry.number ≡ n) = λ n lt. post_with ps n (omega (arith, once n lt)) in
    let all = all_some (placed empty ps) (λ k lt. let t = there k (omega (arith, lt, long)) in (t.0, ap (λ (n : ℕ). get_or (placed empty ps) n None) (sym t.2) ∙ here t.0 t.1)) in
    let sorted : List Posted = all.0 in
    let is : placed empty ps ≡ map (λ (p : Posted). Some p) sorted = all.1 in
    let count : length sorted ≡ length ps = sym (length-map sorted (λ (p : Posted). Some p)) ∙ sym (ap length is) ∙ long in (
      sorted,
      record {
        count = count;
        placed_at = λ p has. some_at sorted p.entry.number p (sym (ap (λ (l : List (Option Posted)). get_or l p.entry.number None) is) ∙ here p has);
        numbered = λ n p at.
            let t = there n (omega (arith, count, slice_get_within sorted n p at)) in
            let mine : Some t.0 ≡ Some p = sym (here t.0 t.1) ∙ ap (λ (k : ℕ). get_or (placed empty ps) k None) t.2 ∙ ap (λ (l : List (Option Posted)). get_or l n None) is ∙ at_some sorted n p at in
            let same : t.0 ≡ p = same_Some t.0 p mine in
            (subst (Contains ps) same t.1, subst (λ (x : Posted). x.entry.number ≡ n) same t.2);
      },
      is,
    )
