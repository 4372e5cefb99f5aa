-- Each step keeps the rule of the desk.
use Rattle.std.proofs.Common.{◌≡◌, ℕ, ◌+◌, ◌-◌, ◌%◌, ◌<◌, ◌≤◌, ◌≢◌, cond, None, Some, Option, List, [], ◌∷◌, ◌++◌, length, get_or, set, sym, refl, ap, ◌∙◌, subst, ⊎_elim, arith, length-set, lt-ltb, le-ltb}
use mathlib.Core.Logic.{dite}
use mathlib.Core.Option.{some}
use native.Mathlib.Decide.{ℕ_discrete, dec_le}
use lib.ListN.{get_elem?}
use Rattle.atomic_table.specs.Table.{State, Me, step, keeps, Allows, Splits, Joins}
use Rattle.atomic_table.proofs.Lists.{at_set, at_snoc, set_else}
use Rattle.job_desk.specs.declared.view.View.{View}
use Rattle.job_desk.specs.declared.view.Terms.{Terms}
use Rattle.job_desk.specs.Lists.{total, once_below}
use Rattle.job_desk.specs.Draws.{draw, draws_of, draws_by, late_by}
use Rattle.job_desk.specs.Rule.{Fits, Kept, Apart, drew, Draws, rest_of, new_caller, joined, spent}
use Rattle.job_desk.proofs.Sums.{set_swap, total-append, total-set, term_le, terms_le, total_only, once_more, by_other, late_le, late_low, late_other, late_one}
use Rattle.job_desk.proofs.Views.{AreApart, apart_set, apart_new}

abbrev Holds : Terms → State (Unit {0}) View → Type 0
Holds t s = Kept t s.words s.views

-- how many callers were made
abbrev made_in : List View → ℕ
made_in views = total (λ (v : View). v.made) views

-- the only word, after it is written
set_only : (ws : List ℕ) (n : ℕ) → length ws ≡ 1 → get_or (set ws 0 n) 0 0 ≡ n
set_only [] n h = absurd (omega arith)
set_only (w ∷ ws) n h = refl

fits_where : (t : Terms) (n m made more : ℕ) (v : View) → n ≡ m → made ≡ more → Fits t n made v → Fits t m more v
fits_where t n m made more v same also f = subst (λ x. Fits t x more v) same (subst (λ x. Fits t n x v) also f)

later : (t : Terms) (n m made : ℕ) (v : View) → n ≤ m → Fits t n made v → Fits t m made v
later t n m made v le f = record { terms = f.terms; front = omega (arith, f.front); caller = f.caller; named = f.named; makes = f.makes; early = f.early; idle = f.idle }

-- ---- a number is drawn
over_low : (v : View) (n : ℕ) → n < v.jobs → (drew v n).over ≡ v.over
over_low v n h = ap (λ b. cond b v.over (Some n)) (lt-ltb n v.jobs h)

over_high : (v : View) (n : ℕ) → v.jobs ≤ n → (drew v n).over ≡ Some n
over_high v n h = ap (λ b. cond b v.over (Some n)) (le-ltb n v.jobs h)

spare_low : (v : View) (n : ℕ) → n < v.jobs → (drew v n).spare ≡ v.spare
spare_low v n h = ap (λ b. cond b v.spare (v.spare - 1)) (lt-ltb n v.jobs h)

spare_high : (v : View) (n : ℕ) → v.jobs ≤ n → (drew v n).spare ≡ v.spare - 1
spare_high v n h = ap (λ b. cond b v.spare (v.spare - 1)) (le-ltb n v.jobs h)

drew_of : (x : ℕ) (v : View) (n : ℕ) → draws_of x (drew v n).drawn ≡ draws_of x v.drawn + draws_of x (draw v.caller n ∷ [])
drew_of x v n = total-append _ v.drawn (draw v.caller n ∷ [])

drew_by : (k : ℕ) (v : View) (n : ℕ) → draws_by k (drew v n).drawn ≡ draws_by k v.drawn + draws_by k (draw v.caller n ∷ [])
drew_by k v n = total-append _ v.drawn (draw v.caller n ∷ [])

drew_late : (jobs k : ℕ) (v : View) (n : ℕ) → late_by jobs k (drew v n).drawn ≡ late_by jobs k v.drawn + late_by jobs k (draw v.caller n ∷ [])
drew_late jobs k v n = total-append _ v.drawn (draw v.caller n ∷ [])

fits_drew : (t : Terms) (n made : ℕ) (v : View) → 0 < v.parts → Fits t n made v → Fits t (n + 1) made (drew v n)
fits_drew t n made v live f = record {
  terms = f.terms;
  front = omega arith;
  caller = f.caller;
  named = λ k le. omega (arith, drew_by k v n, f.named k le, by_other k v.caller n (λ e. omega (arith, f.caller live)));
  makes = f.makes;
  early = λ _ none. dite (dec_le v.jobs n)
      (λ high. absurd (let e : Some n ≡ None = sym (over_high v n high) ∙ none in cc))
      (λ low. omega (arith, drew_late t.jobs v.caller v n, f.early live (sym (over_low v n (omega arith)) ∙ none), late_low t.jobs v.caller v.caller n (omega (arith, (f.terms live).0))));
  idle = λ z. absurd (omega arith);
}

apart_drew : (views : List View) (id : ℕ) (v : View) (n : ℕ) → Apart views → get_elem? views id ≡ some v → 0 < v.parts → Apart (set views id (drew v n))
apart_drew views id v n apart me live = apart_set views id (drew v n) apart (λ j u ne at. (
  apart id j v u (λ e. ne (sym e)) me at,
  (λ other. let a = apart j id u v ne at me other in (a.0, omega (arith, a.1, drew_by u.caller v n, by_other u.caller v.caller n (a.0 live)))),
))

-- where its caller drew none at or above jobs, it draws at most one
late_drew : (t : Terms) (views : List View) (id : ℕ) (v : View) (n k : ℕ) → Apart views → get_elem? views id ≡ some v → 0 < v.parts
    → late_by t.jobs v.caller v.drawn ≡ 0 → total (λ (u : View). late_by t.jobs k u.drawn) views ≤ 1
    → total (λ (u : View). late_by t.jobs k u.drawn) (set views id (drew v n)) ≤ 1
late_drew t views id v n k apart me live none most =
    let g : View → ℕ = λ u. late_by t.jobs k u.drawn in
    let change = total-set g views id v (drew v n) me in
    let more = drew_late t.jobs k v n in
    dite (ℕ_discrete v.caller k)
    (λ e.
    let mine : late_by t.jobs k v.drawn ≡ 0 = subst (λ x. late_by t.jobs x v.drawn ≡ 0) e none in
    let all = total_only g views id v me (λ j u ne at. omega (arith, late_le t.jobs k u.drawn, subst (λ x. draws_by x u.drawn ≡ 0) e (apart id j v u (λ h. ne (sym h)) me at live).1)) in
    omega (arith, late_one t.jobs k v.caller n))
    (λ ne. omega (arith, late_other t.jobs k v.caller n ne))

small : (t : Terms) (n spare : ℕ) → t.jobs < 4294967296 → (t.jobs < n → n + spare ≤ t.jobs + 8) → n < 18446744073709551615
small t n spare few bound = dite (dec_le n t.jobs) (λ le. omega arith) (λ gt. omega (arith, bound (omega arith)))

kept_drew : (t : Terms) (ws : List ℕ) (views : List View) (id : ℕ) (v : View) → Kept t ws views → get_elem? views id ≡ some v → 0 < v.parts → v.spare ≡ 1 → v.over ≡ None
    → Kept t (set ws 0 (get_or ws 0 0 + 1)) (set views id (drew v (get_or ws 0 0)))
kept_drew t ws views id v k me live one none =
    let n : ℕ = get_or ws 0 0 in let w : View = drew v n in let now = set_only ws (n + 1) k.wide in
    let f = k.each id v me in
    let jobs = (f.terms live).0 in
    let s = total-set (λ (u : View). u.spare) views id v w me in
    let made : made_in views ≡ made_in (set views id w) = omega (arith, total-set (λ (u : View). u.made) views id v w me) in
    let mine = term_le (λ (u : View). u.spare) views id v me in
    let bound : t.jobs < n + 1 → (n + 1) + total (λ (u : View). u.spare) (set views id w) ≤ t.jobs + 8
    = λ h. let lost = spare_high v n (omega arith) in dite (ℕ_discrete n t.jobs) (λ e. omega (arith, k.spare)) (λ ne. omega (arith, k.bound (omega arith))) in
    record {
      wide = length-set ws 0 (n + 1) ∙ k.wide;
      few = k.few;
      parts = omega (arith, total-set (λ (u : View). u.parts) views id v w me, k.parts);
      made = omega (arith, k.made, made);
      once = λ x. subst (λ (y : ℕ). total (λ (u : View). draws_of x u.drawn) (set views id w) ≡ once_below x y) (sym now)
          (omega (arith, total-set (λ (u : View). draws_of x u.drawn) views id v w me, k.once x, drew_of x v n, once_more x n v.caller));
      late = λ c. late_drew t views id v n c k.apart me live (f.early live none) (k.late c);
      spare = dite (dec_le v.jobs n) (λ h. omega (arith, spare_high v n h, k.spare)) (λ h. omega (arith, spare_low v n (omega arith), k.spare));
      bound = subst (λ (x : ℕ). t.jobs < x → x + total (λ (u : View). u.spare) (set views id w) ≤ t.jobs + 8) (sym now) bound;
      apart = apart_drew views id v n k.apart me live;
      each = λ i u e. fits_where t (n + 1) _ (made_in views) _ u (sym now) made (⊎_elim
          (λ (q : (i ≡ id) × (w ≡ u)). subst (Fits t (n + 1) (made_in views)) q.1 (fits_drew t n (made_in views) v live f))
          (λ (q : (i ≢ id) × (get_elem? views i ≡ some u)). later t n (n + 1) (made_in views) u (omega arith) (k.each i u q.1))
          (at_set views id i w u e));
    }

pub draws : (t : Terms) (slots id : ℕ) (m : Me (Unit {0}) View) → 0 < m.0.parts → m.0.spare ≡ 1 → m.0.over ≡ None
    → Allows (Holds t) slots id m 0 (λ n. (n + 1) % 18446744073709551616) (Draws (step slots 0 1 0 mathlib.Core.Option.none) m)
draws t slots id m live one none s k long me under =
    let n : ℕ = get_or s.words 0 0 in let w : View = drew m.0 n in
    let r = kept_drew t s.words s.views id m.0 k me live one none in
    let few = small t n (total (λ (u : View). u.spare) s.views) k.few.1 k.bound in
    let same : (n + 1) % 18446744073709551616 ≡ n + 1 = omega arith in
    (w, keeps, tt, subst (λ (x : ℕ). Kept t (set s.words 0 x) (set s.views id w)) (sym same) r, ((k.each id m.0 me).front, refl, refl))

-- ---- a caller is made
-- one caller more was made, and not by this view
fits_more : (t : Terms) (n made : ℕ) (v : View) → v.made ≡ 0 → Fits t n made v → Fits t n (made + 1) v
fits_more t n made v none f = record {
  terms = f.terms;
  front = f.front;
  caller = λ live. omega (arith, f.caller live);
  named = λ k le. f.named k (omega arith);
  makes = λ some. absurd (omega arith);
  early = f.early;
  idle = f.idle;
}

fits_rest : (t : Terms) (n made : ℕ) (v : View) → 1 < v.parts → v.made ≡ made → Fits t n made v → Fits t n (made + 1) (rest_of v)
fits_rest t n made v parts makes f = record {
  terms = λ _. f.terms (omega arith);
  front = f.front;
  caller = λ _. omega (arith, f.caller (omega arith));
  named = λ k le. f.named k (omega arith);
  makes = λ _. omega arith;
  early = λ _. f.early (omega arith);
  idle = λ z. absurd (omega arith);
}

fits_new : (t : Terms) (n made : ℕ) (v : View) → 0 < v.parts → v.made ≡ made → Fits t n made v → Fits t n (made + 1) (new_caller v)
fits_new t n made v live makes f = record {
  terms = λ _. f.terms live;
  front = omega arith;
  caller = λ _. omega arith;
  named = λ _ _. refl;
  makes = λ some. absurd (omega arith);
  early = λ _ _. refl;
  idle = λ z. absurd (omega arith);
}

apart_split : (t : Terms) (n : ℕ) (views : List View) (id : ℕ) (v : View) → 0 < v.parts → Apart views → get_elem? views id ≡ some v
    → ((i : ℕ) (u : View) → get_elem? views i ≡ some u → Fits t n v.made u) → Apart (set views id (rest_of v) ++ new_caller v ∷ [])
apart_split t n views id v live apart me each =
    let w = rest_of v in let u = new_caller v in
    let changed : Apart (set views id w) = apart_set views id w apart (λ j x ne at. (
      (λ _. apart id j v x (λ e. ne (sym e)) me at live),
      (λ other. let a = apart j id x v ne at me other in ((λ _. a.0 live), a.1)),
    )) in
    let strange : (x : View) → Fits t n v.made x → AreApart u x × AreApart x u = λ x f.
    ((λ _. ((λ some e. omega (arith, f.caller some)), f.named v.made (omega arith))), (λ some. ((λ _ e. omega (arith, f.caller some)), refl))) in
    apart_new (set views id w) u changed (λ j x at. ⊎_elim
    (λ (q : (j ≡ id) × (w ≡ x)). subst (λ y. AreApart u y × AreApart y u) q.1
    (let s = strange v (each id v me) in ((λ _. let a = s.0 (omega arith) in ((λ _. a.0 live), a.1)), (λ _. ((λ some. (s.1 live).0 some), refl)))))
    (λ (q : (j ≢ id) × (get_elem? views j ≡ some x)). strange x (each j x q.1))
    (at_set views id j w x at))

pub splits : (t : Terms) (id : ℕ) (v : View) → 1 < v.parts → 0 < v.spare → 0 < v.made → v.made < v.callers → Splits (Holds t) id v (rest_of v) (new_caller v)
splits t id v parts spare makes few s k me =
    let w = rest_of v in let u = new_caller v in let views : List View = set s.views id w in
    let f = k.each id v me in
    let made : v.made ≡ made_in s.views = f.makes makes in
    let sum : (g : View → ℕ) → total g (views ++ u ∷ []) + g v ≡ total g s.views + g w + g u = λ g. omega (arith, total-append g views (u ∷ []), total-set g s.views id v w me) in
    let more : made_in s.views + 1 ≡ made_in (views ++ u ∷ []) = omega (arith, sum (λ x. x.made)) in
    record {
      wide = k.wide;
      few = k.few;
      parts = omega (arith, sum (λ x. x.parts), k.parts);
      made = omega (arith, more, (f.terms (omega arith)).1);
      once = λ x. omega (arith, sum (λ y. draws_of x y.drawn), k.once x);
      late = λ c. omega (arith, sum (λ y. late_by t.jobs c y.drawn), k.late c);
      spare = omega (arith, sum (λ x. x.spare), k.spare);
      bound = λ h. omega (arith, sum (λ x. x.spare), k.bound h);
      apart = apart_split t _ s.views id v (omega arith) k.apart me (λ i x e. subst (λ y. Fits t (get_or s.words 0 0) y x) (sym made) (k.each i x e));
      each = λ i x e. fits_where t (get_or s.words 0 0) _ (made_in s.views + 1) _ x refl more (⊎_elim
          (λ (q : get_elem? views i ≡ some x). ⊎_elim
          (λ (p : (i ≡ id) × (w ≡ x)). subst (Fits t (get_or s.words 0 0) (made_in s.views + 1)) p.1 (fits_rest t _ _ v parts made f))
          (λ (p : (i ≢ id) × (get_elem? s.views i ≡ some x)). fits_more t _ _ x (omega (arith, terms_le (λ (y : View). y.made) s.views id i v x p.0 me p.1)) (k.each i x p.1))
          (at_set s.views id i w x q))
          (λ (q : u ≡ x). subst (Fits t (get_or s.words 0 0) (made_in s.views + 1)) q (fits_new t _ _ v (omega arith) made f))
          (at_snoc views u x i e));
    }

-- ---- a seat takes in another
spent_apart : (v : View) → AreApart spent v × AreApart v spent
spent_apart v = ((λ live. absurd (omega arith)), (λ _. ((λ live. absurd (omega arith)), refl)))

apart_join : (views : List View) (id other : ℕ) (v u : View) → Apart views → get_elem? views id ≡ some v → get_elem? views other ≡ some u → other ≢ id
    → 0 < v.parts → Apart (set (set views id (joined v u)) other spent)
apart_join views id other v u apart me them ne live =
    let w = joined v u in
    let without : Apart (set views other spent) = apart_set views other spent apart (λ j x _ _. spent_apart x) in
    subst Apart (set_swap views other id spent w ne) (apart_set (set views other spent) id w without (λ j x away at. ⊎_elim
    (λ (q : (j ≡ other) × (spent ≡ x)). subst (λ y. AreApart w y × AreApart y w) q.1 (let s = spent_apart w in (s.1, s.0)))
    (λ (q : (j ≢ other) × (get_elem? views j ≡ some x)). (
      (λ _. apart id j v x (λ e. away (sym e)) me q.1 live),
      (λ some. let a = apart j id x v away q.1 me some in
          ((λ _. a.0 live), omega (arith, total-append (λ (d : Rattle.job_desk.specs.Draws.Draw). cond (Rattle.std.proofs.Common.eqb d.caller x.caller) 1 0) v.drawn u.drawn, a.1, (apart j other x u q.0 q.1 them some).1))),
    ))
    (at_set views other j spent x at)))

fits_joined : (t : Terms) (n made : ℕ) (v u : View) → 0 < v.parts → v.made + u.made ≤ made → draws_by v.caller u.drawn ≡ 0 → Fits t n made v → Fits t n made u → Fits t n made (joined v u)
fits_joined t n made v u live few strange f g = record {
  terms = λ _. f.terms live;
  front = f.front;
  caller = λ _. f.caller live;
  named = λ k le. omega (arith, total-append (λ (d : Rattle.job_desk.specs.Draws.Draw). cond (Rattle.std.proofs.Common.eqb d.caller k) 1 0) v.drawn u.drawn, f.named k le, g.named k le);
  makes = λ some. let a = f.makes in let b = g.makes in dite (dec_le v.made 0) (λ z. omega (arith, b (omega arith))) (λ p. omega (arith, a (omega arith)));
  early = λ _ none. omega (arith, late-append, f.early live none, late_le t.jobs v.caller u.drawn);
  idle = λ z. absurd (omega arith);
}
  where
    late-append : late_by t.jobs v.caller (v.drawn ++ u.drawn) ≡ late_by t.jobs v.caller v.drawn + late_by t.jobs v.caller u.drawn
    late-append = total-append _ v.drawn u.drawn

fits_spent : (t : Terms) (n made : ℕ) → Fits t n made spent
fits_spent t n made = record {
  terms = λ live. absurd (omega arith);
  front = omega arith;
  caller = λ live. absurd (omega arith);
  named = λ _ _. refl;
  makes = λ some. absurd (omega arith);
  early = λ _ _. refl;
  idle = λ _. refl;
}

pub joins : (t : Terms) (id : ℕ) (v : View) (other : ℕ) (u : View) → 0 < v.parts → Joins (Holds t) id v other u (joined v u) spent
joins t id v other u live s k me ne them =
    let w = joined v u in let views : List View = set s.views id w in
    let there : get_elem? s.views other ≡ some u = sym (set_else s.views id other w ne) ∙ them in
    let both : (g : View → ℕ) → total g (set views other spent) + g u + g v ≡ total g s.views + g w + g spent
    = λ g. omega (arith, total-set g s.views id v w me, total-set g views other u spent them) in
    let made : made_in s.views ≡ made_in (set views other spent) = omega (arith, both (λ x. x.made)) in
    record {
      wide = k.wide;
      few = k.few;
      parts = omega (arith, both (λ x. x.parts), k.parts);
      made = omega (arith, k.made, made);
      once = λ x. omega (arith, both (λ y. draws_of x y.drawn), k.once x, total-append (λ (d : Rattle.job_desk.specs.Draws.Draw). cond (Rattle.std.proofs.Common.eqb d.number x) 1 0) v.drawn u.drawn);
      late = λ c. omega (arith, both (λ y. late_by t.jobs c y.drawn), k.late c, late-append c);
      spare = omega (arith, both (λ x. x.spare), k.spare);
      bound = λ h. omega (arith, both (λ x. x.spare), k.bound h);
      apart = apart_join s.views id other v u k.apart me there ne live;
      each = λ i x e. fits_where t (get_or s.words 0 0) _ (made_in s.views) _ x refl made (⊎_elim
          (λ (q : (i ≡ other) × (spent ≡ x)). subst (Fits t (get_or s.words 0 0) (made_in s.views)) q.1 (fits_spent t _ _))
          (λ (q : (i ≢ other) × (get_elem? views i ≡ some x)). ⊎_elim
          (λ (p : (i ≡ id) × (w ≡ x)). subst (Fits t (get_or s.words 0 0) (made_in s.views)) p.1
          (fits_joined t _ _ v u live (terms_le (λ (y : View). y.made) s.views id other v u ne me there) (k.apart id other v u (λ h. ne (sym h)) me there live).1 (k.each id v me) (k.each other u there)))
          (λ (p : (i ≢ id) × (get_elem? s.views i ≡ some x)). k.each i x p.1)
          (at_set s.views id i w x q.1))
          (at_set views other i spent x e));
    }
  where
    late-append : (c : ℕ) → late_by t.jobs c (v.drawn ++ u.drawn) ≡ late_by t.jobs c v.drawn + late_by t.jobs c u.drawn
    late-append c = total-append _ v.drawn u.drawn

-- ---- the end
-- where one seat stands for all callers, its numbers are all that were drawn
pub all_drawn : (t : Terms) (ws : List ℕ) (views : List View) (id : ℕ) (v : View) → Kept t ws views → get_elem? views id ≡ some v → v.parts ≡ t.callers
    → (x : ℕ) → draws_of x v.drawn ≡ once_below x (get_or ws 0 0)
all_drawn t ws views id v k me all x =
    sym (total_only (λ (u : View). draws_of x u.drawn) views id v me (λ j u ne at.
    ap (λ (y : View). draws_of x y.drawn) ((k.each j u at).idle (omega (arith, terms_le (λ (y : View). y.parts) views id j v u ne me at, k.parts)))))
    ∙ k.once x
