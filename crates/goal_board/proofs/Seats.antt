-- Seats that are made, that take in others, and the rule at the start.
use Rattle.std.proofs.Common.{◌≡◌, ◌≢◌, ℕ, zero, suc, ◌+◌, ◌*◌, ◌<◌, ◌≤◌, List, [], ◌∷◌, ◌++◌, length, get_or, set, replicate, None, Some, sym, refl, ap, ◌∙◌, subst, ⊎_elim, arith, length-set, mul-le-mul}
use Rattle.std.specs.Prelude.{slice_get}
use Rattle.std.proofs.lemmas.List.{length_push}
use Rattle.std.proofs.lemmas.List.Elements.{All-nil}
use Rattle.std.proofs.lemmas.Option.{same_Some, slice_get_within, none-some}
use mathlib.Core.Logic.{dite}
use mathlib.Core.Option.{some, some-injective, some-ne-none}
use native.Mathlib.Decide.{ℕ_discrete}
use lib.ListN.{get_elem?}
use Rattle.atomic_table.specs.Table.{Splits, Joins}
use Rattle.atomic_table.proofs.Lists.{at_set, at_longer, at_last, set_here, set_else}
use Rattle.board_core.specs.declared.event.Event.TheVariants as event_kinds
use Rattle.board_core.specs.declared.view.View.{View as Known}
use Rattle.board_core.specs.Core as core
use Rattle.board_core.specs.Core.{Core, HasView, CanSplit, CanJoin, fresh_view, with_all, initial_core, word_of}
use Rattle.board_core.proofs.Places.{get-set_same, get-set_other, get-push_old, get-push_new, get-push_cases}
use Rattle.board_core.proofs.KeptSplit.{split-sound, initial-sound}
use Rattle.board_core.proofs.KeptJoin.{join-sound}
use Rattle.goal_board.specs.declared.view.View.{View}
use Rattle.goal_board.specs.declared.view.Terms.{Terms}
use Rattle.goal_board.specs.Lists.{total}
use Rattle.goal_board.specs.Rule.{IsFound, Fits, Apart, HasSeat, Kept, first, rest_of, new_caller, joined, spent}
use Rattle.goal_board.proofs.Sums.{at_below, at_push, get-replicate, length-replicate, total-append, total-set}
use Rattle.goal_board.proofs.Steps.{Holds, led_more, set_each, set_apart, seat_set}

-- ---- a caller is made
kept_split : (t : Terms) (ws : List ℕ) (vs : List View) (id : ℕ) (v : View) → Kept t ws vs → get_elem? vs id ≡ some v → 1 < v.parts → v.caller ≡ 0 → v.made < 8 → v.share ≤ v.left
    → Kept t ws (set vs id (rest_of v) ++ new_caller v ∷ [])
kept_split t ws vs id v k me parts caller few share =
    let live : 0 < v.parts = omega (arith, parts) in
    let f = k.each id v me in
    let mine = f.known live in
    let w : View = rest_of v in
    let n : View = new_caller v in
    let now : List View = set vs id w in
    let c : Core = k.core in
    let made : v.made ≡ length c.views = f.made live caller in
    let can : CanSplit c v.caller = record { caller = caller; view = v.known; live = mine; room = omega (arith, made, few) } in
    let d : Core = core.split c in
    let long : length d.views ≡ length c.views + 1 = length_push c.views (Some fresh_view) in
    let sum : (h : View → ℕ) → total h (now ++ n ∷ []) + h v ≡ total h vs + h w + h n = λ h. omega (arith, total-append h now (n ∷ []), total-set h vs id v w me) in
    let sets : Apart now = set_apart vs id v w me (λ l. (live, refl)) k.apart in
    let below : (i : ℕ) (u : View) → get_elem? now i ≡ some u → 0 < u.parts → u.caller < length c.views
    = set_each (λ (u : View). 0 < u.parts → u.caller < length c.views) vs id w
    (λ i u ne h l. slice_get_within c.views u.caller (Some u.known) ((k.each i u h).known l))
    (λ l. slice_get_within c.views v.caller (Some v.known) mine) in
    record {
      core = d;
      events = k.events ++ event_kinds.Split v.caller ∷ [];
      led = led_more k.events (initial_core 1 t.goals) c (event_kinds.Split v.caller) d k.led (record { can = can; after = refl });
      sound = split-sound c v.caller can k.sound;
      found = k.found;
      wide = k.wide;
      goals = k.goals;
      count = k.count;
      marks = k.marks;
      parts = omega (arith, sum (λ (u : View). u.parts), k.parts);
      room = omega (arith, sum (λ (u : View). u.left), k.room, share);
      apart = λ i j a b ne ea eb la lb. ⊎_elim
          (λ (p : get_elem? now i ≡ some a). ⊎_elim
          (λ (q : get_elem? now j ≡ some b). sets i j a b ne p q la lb)
          (λ (q : (j ≡ length now) × (n ≡ b)). λ e. absurd (omega (arith, below i a p la, ap (λ (x : View). x.caller) q.1, made, e)))
          (at_push now n b j eb))
          (λ (p : (i ≡ length now) × (n ≡ a)). ⊎_elim
          (λ (q : get_elem? now j ≡ some b). λ e. absurd (omega (arith, below j b q lb, ap (λ (x : View). x.caller) p.1, made, e)))
          (λ (q : (j ≡ length now) × (n ≡ b)). absurd (ne (p.0 ∙ sym q.0)))
          (at_push now n b j eb))
          (at_push now n a i ea);
      seated = λ j u at. ⊎_elim
          (λ (q : slice_get c.views j ≡ Some (Some u)).
          let s = seat_set vs id v w j me (λ _. (omega (arith, parts), refl)) (k.seated j u q) in
          (s.0, s.1, at_longer now (n ∷ []) s.0 s.1 s.2, s.3, s.4))
          (λ (q : (j ≡ length c.views) × (Some fresh_view ≡ Some u)). (length now, n, at_last now n (length now) refl, omega arith, made ∙ sym q.0))
          (get-push_cases c.views (Some fresh_view) (Some u) j at);
      each = λ i u e. ⊎_elim
          (λ (p : get_elem? now i ≡ some u). set_each (Fits t d) vs id w
          (λ i u ne h. let o = k.each i u h in record {
            terms = o.terms;
            known = λ l. get-push_old c.views (Some fresh_view) (Some u.known) u.caller (o.known l);
            made = λ l z. absurd (k.apart id i v u (λ q. ne (sym q)) me h live l (caller ∙ sym z));
          })
          record {
            terms = λ _. f.terms live;
            known = λ _. get-push_old c.views (Some fresh_view) (Some v.known) v.caller mine;
            made = λ _ _. omega (arith, made, long);
          } i u p)
          (λ (p : (i ≡ length now) × (n ≡ u)). subst (Fits t d) p.1 record {
            terms = λ _. f.terms live;
            known = λ _. subst (λ (x : ℕ). HasView d x fresh_view) (sym made) (get-push_new c.views (Some fresh_view));
            made = λ _ z. absurd (omega (arith, made, z, slice_get_within c.views v.caller (Some v.known) mine));
          })
          (at_push now n u i e);
    }

pub splits : (t : Terms) (id : ℕ) (v : View) → 1 < v.parts → v.caller ≡ 0 → v.made < 8 → v.share ≤ v.left → Splits (Holds t) id v (rest_of v) (new_caller v)
splits t id v parts caller few share s k me = kept_split t s.words s.views id v k me parts caller few share

-- ---- a seat takes in another
spent_fits : (t : Terms) (c : Core) → Fits t c spent
spent_fits t c = record { terms = λ l. absurd (omega arith); known = λ l. absurd (omega arith); made = λ l. absurd (omega arith) }

-- the seat at i is another than that of v, since their callers differ
other_seat : (vs : List View) (i id : ℕ) (x v : View) → get_elem? vs i ≡ some x → get_elem? vs id ≡ some v → x.caller ≢ v.caller → i ≢ id
other_seat vs i id x v at me ne e = ne (ap (λ (y : View). y.caller) (some-injective x v (sym at ∙ ap (λ (n : ℕ). get_elem? vs n) e ∙ me)))

kept_join : (t : Terms) (ws : List ℕ) (vs : List View) (id : ℕ) (v : View) (other : ℕ) (u : View) → Kept t ws vs → get_elem? vs id ≡ some v → 0 < v.parts → 0 < u.parts → u.caller ≢ 0 → u.known.unmarked ≡ None
    → other ≢ id → get_elem? (set vs id (joined v u)) other ≡ some u → Kept t ws (set (set vs id (joined v u)) other spent)
kept_join t ws vs id v other u k me live lives later idle ne them =
    let w : View = joined v u in
    let now : List View = set vs id w in
    let theirs : get_elem? vs other ≡ some u = sym (set_else vs id other w ne) ∙ them in
    let differ : u.caller ≢ v.caller = k.apart other id u v ne theirs me lives live in
    let c : Core = k.core in
    let f = k.each id v me in
    let o = k.each other u theirs in
    let can : CanJoin c u.caller v.caller = record { apart = differ; not_first = later; from = u.known; from_live = o.known lives; idle = idle; into = v.known; into_live = f.known live } in
    let d : Core = core.joined c u.caller u.known v.caller v.known in
    let inner = set c.views u.caller None in
    let all : Known = with_all v.known u.known in
    let short : length inner ≡ length c.views = length-set c.views u.caller None in
    let long : length d.views ≡ length c.views = length-set inner v.caller (Some all) ∙ short in
    let both : (h : View → ℕ) → total h (set now other spent) + h u + h v ≡ total h vs + h w + h spent = λ h. omega (arith, total-set h vs id v w me, total-set h now other u spent them) in
    record {
      core = d;
      events = k.events ++ event_kinds.Join u.caller v.caller ∷ [];
      led = led_more k.events (initial_core 1 t.goals) c (event_kinds.Join u.caller v.caller) d k.led (record { can = can; after = refl });
      sound = join-sound c u.caller v.caller can k.sound;
      found = k.found;
      wide = k.wide;
      goals = k.goals;
      count = k.count;
      marks = k.marks;
      parts = omega (arith, both (λ (x : View). x.parts), k.parts);
      room = omega (arith, both (λ (x : View). x.left), k.room);
      apart = set_apart now other u spent them (λ l. absurd (omega arith)) (set_apart vs id v w me (λ l. (live, refl)) k.apart);
      seated = λ j x at. dite (ℕ_discrete j v.caller)
          (λ e. (id, w, set_else now other id spent (λ z. ne (sym z)) ∙ set_here vs id w (at_below vs id v me), omega (arith, live), sym e))
          (λ away.
          let there : slice_get inner j ≡ Some (Some x) = sym (get-set_other inner v.caller j (Some all) away) ∙ at in
          dite (ℕ_discrete j u.caller)
          (λ e.
          let gone : slice_get inner u.caller ≡ Some None = get-set_same c.views u.caller None (slice_get_within c.views u.caller (Some u.known) (o.known lives)) in
          let read : Some None ≡ Some (Some x) = sym gone ∙ ap (λ (n : ℕ). slice_get inner n) (sym e) ∙ there in
          absurd (none-some x (same_Some None (Some x) read)))
          (λ apart.
          let s = k.seated j x (sym (get-set_other c.views u.caller j None apart) ∙ there) in
          let not_mine = other_seat vs s.0 id s.1 v s.2 me (λ e. away (sym s.4 ∙ e)) in
          let not_theirs = other_seat vs s.0 other s.1 u s.2 theirs (λ e. apart (sym s.4 ∙ e)) in
          (s.0, s.1, set_else now other s.0 spent not_theirs ∙ (set_else vs id s.0 w not_mine ∙ s.2), s.3, s.4)));
      each = λ i x e. ⊎_elim
          (λ (q : (i ≡ other) × (spent ≡ x)). subst (Fits t d) q.1 (spent_fits t d))
          (λ (q : (i ≢ other) × (get_elem? now i ≡ some x)). ⊎_elim
          (λ (p : (i ≡ id) × (w ≡ x)). subst (Fits t d) p.1 record {
            terms = λ _. f.terms live;
            known = λ _. get-set_same inner v.caller (Some all) (omega (arith, short, slice_get_within c.views v.caller (Some v.known) (f.known live)));
            made = λ _ z. f.made live z ∙ sym long;
          })
          (λ (p : (i ≢ id) × (get_elem? vs i ≡ some x)). let a = k.each i x p.1 in record {
            terms = a.terms;
            known = λ l. get-set_other inner v.caller x.caller (Some all) (k.apart i id x v p.0 p.1 me l live)
                ∙ (get-set_other c.views u.caller x.caller None (k.apart i other x u q.0 p.1 theirs l lives) ∙ a.known l);
            made = λ l z. a.made l z ∙ sym long;
          })
          (at_set vs id i w x q.1))
          (at_set now other i spent x e);
    }

pub joins : (t : Terms) (id : ℕ) (v : View) (other : ℕ) (u : View) → 0 < v.parts → 0 < u.parts → u.caller ≢ 0 → u.known.unmarked ≡ None → Joins (Holds t) id v other u (joined v u) spent
joins t id v other u live lives later idle s k me ne them = kept_join t s.words s.views id v other u k me live lives later idle ne them

-- ---- the start
pub opens : (t : Terms) (ws : List ℕ) → ws ≡ replicate (t.goals + 1) 0 → 0 < t.callers → t.callers ≤ 8 → t.goals ≤ 1024 → Kept t ws (first t ∷ [])
opens t ws is some_callers few goals =
    let product : t.callers * t.goals ≤ 8 * 1024 = mul-le-mul few goals in
    let zero_at : (j : ℕ) → get_or ws j 0 ≡ 0 = λ j. ap (λ l. get_or l j 0) is ∙ get-replicate 0 (t.goals + 1) j in
    let c : Core = initial_core 1 t.goals in
    record {
      core = c;
      events = [];
      led = refl;
      sound = initial-sound 1 t.goals (omega arith);
      found = All-nil (IsFound t);
      wide = ap length is ∙ length-replicate 0 (t.goals + 1);
      goals = length-replicate None t.goals;
      count = zero_at 0;
      marks = λ g lt. zero_at (g + 1) ∙ ap word_of (sym (get-replicate None t.goals g));
      parts = omega arith;
      room = omega (arith, product);
      apart = λ i j a b ne ea eb la lb. absurd (one_only i j a b ne ea eb);
      seated = λ j x at. one_seat j x at;
      each = one;
    }
  where
    one_only : (i j : ℕ) (v u : View) → i ≢ j → get_elem? (first t ∷ []) i ≡ some v → get_elem? (first t ∷ []) j ≡ some u → ⊥
    one_only zero zero v u ne p q = ne refl
    one_only zero (suc j) v u ne p q = some-ne-none u (sym q)
    one_only (suc i) j v u ne p q = some-ne-none v (sym p)

    one_seat : (j : ℕ) (x : Known) → HasView (initial_core 1 t.goals) j x → HasSeat (first t ∷ []) j
    one_seat zero x at = (0, first t, refl, some_callers, refl)
    one_seat (suc j) x at = absurd cc

    fits : Fits t (initial_core 1 t.goals) (first t)
    fits = record { terms = λ _. refl; known = λ _. refl; made = λ _ _. refl }

    one : (i : ℕ) (v : View) → get_elem? (first t ∷ []) i ≡ some v → Fits t (initial_core 1 t.goals) v
    one zero v e = subst (Fits t (initial_core 1 t.goals)) (some-injective (first t) v e) fits
    one (suc i) v e = absurd (some-ne-none v (sym e))
