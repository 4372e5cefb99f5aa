-- Each step keeps the rule of the board.
use Rattle.std.proofs.Common.{◌≡◌, ◌≢◌, ℕ, ◌+◌, ◌-◌, ◌%◌, ◌<◌, ◌≤◌, List, [], ◌∷◌, ◌++◌, length, get_or, set, Option, None, Some, All, sym, refl, ap, ◌∙◌, subst, ⊎_elim, arith, length-set, eqb}
use Rattle.std.specs.Prelude.{slice_get}
use Rattle.std.proofs.lemmas.List.{get_or-set_other, get_or-set_same, set-get_or, length_push}
use Rattle.std.proofs.lemmas.List.Elements.{All-push}
use Rattle.std.proofs.lemmas.Option.{same_Some, slice_get_within, get_or_from_slice_get, slice_get-get_or, none-some}
use mathlib.Core.Logic.{dite}
use mathlib.Core.Option.{some, none, some-injective}
use native.Mathlib.Decide.{ℕ_discrete}
use lib.ListN.{get_elem?}
use prog.Atomic.{either}
use Rattle.atomic_table.specs.Table.{State, step, keeps, Allows}
use Rattle.atomic_table.proofs.Lists.{at_set, set_here, set_else, exchanged}
use Rattle.board_core.specs.declared.entry.Entry.{Entry}
use Rattle.board_core.specs.declared.entry.Source.{Source}
use Rattle.board_core.specs.declared.event.Event.{Event}
use Rattle.board_core.specs.declared.event.Event.TheVariants as event_kinds
use Rattle.board_core.specs.declared.view.GoalMark.{GoalMark}
use Rattle.board_core.specs.declared.view.View.{View as Known}
use Rattle.board_core.specs.History.{kind_of}
use Rattle.board_core.specs.Core as core
use Rattle.board_core.specs.Core.{Core, core_of, HasView, CanNumber, CanMark, CanLook, IsStep, initial_core, mark_of, word_of, mark_by, first_mark}
use Rattle.board_core.specs.Good.{IsEntry, IsSound, Leads}
use Rattle.board_core.proofs.Places.{get-set_same, get-set_other}
use Rattle.board_core.proofs.KeptNumber.{number-sound}
use Rattle.board_core.proofs.KeptMark.{mark-sound}
use Rattle.board_core.proofs.KeptLook.{look-sound}
use Rattle.goal_board.specs.declared.view.View.{View}
use Rattle.goal_board.specs.declared.view.Terms.{Terms}
use Rattle.goal_facts.specs.Found.{IsOfKind}
use Rattle.goal_board.specs.Rule.{IsFound, Fits, Apart, HasSeat, Kept, MayNumber, numbered, marked, looked, entry_of, Numbers, Marks, Looks, Tells, Sat}
use Rattle.goal_board.proofs.Sums.{at_below, total-set}
use Rattle.goal_facts.proofs.Truth.{found_is_true}

abbrev pub Holds : Terms → State (Unit {0}) View → Type 0
Holds t s = Kept t s.words s.views

-- of each view, after one changed
pub set_each : (P : View → Type 0) (vs : List View) (id : ℕ) (w : View) → ((i : ℕ) (u : View) → i ≢ id → get_elem? vs i ≡ some u → P u) → P w → (i : ℕ) (u : View) → get_elem? (set vs id w) i ≡ some u → P u
set_each P vs id w others mine i u e = ⊎_elim (λ (q : (i ≡ id) × (w ≡ u)). subst P q.1 mine) (λ (q : (i ≢ id) × (get_elem? vs i ≡ some u)). others i u q.0 q.1) (at_set vs id i w u e)

-- live seats keep different callers, where one changes and its caller doesn't
pub set_apart : (vs : List View) (id : ℕ) (v w : View) → get_elem? vs id ≡ some v → (0 < w.parts → (0 < v.parts) × (w.caller ≡ v.caller)) → Apart vs → Apart (set vs id w)
set_apart vs id v w me same h i j a b ne ea eb la lb =
    ⊎_elim
    (λ (p : (i ≡ id) × (w ≡ a)). ⊎_elim
    (λ (q : (j ≡ id) × (w ≡ b)). absurd (ne (p.0 ∙ sym q.0)))
    (λ (q : (j ≢ id) × (get_elem? vs j ≡ some b)).
    let live = same (subst (λ (x : View). 0 < x.parts) (sym p.1) la) in
    λ e. h id j v b (λ z. q.0 (sym z)) me q.1 live.0 lb (sym live.1 ∙ ap (λ (x : View). x.caller) p.1 ∙ e))
    (at_set vs id j w b eb))
    (λ (p : (i ≢ id) × (get_elem? vs i ≡ some a)). ⊎_elim
    (λ (q : (j ≡ id) × (w ≡ b)).
    let live = same (subst (λ (x : View). 0 < x.parts) (sym q.1) lb) in
    λ e. h i id a v p.0 p.1 me la live.0 (e ∙ sym (ap (λ (x : View). x.caller) q.1) ∙ live.1))
    (λ (q : (j ≢ id) × (get_elem? vs j ≡ some b)). h i j a b ne p.1 q.1 la lb)
    (at_set vs id j w b eb))
    (at_set vs id i w a ea)

-- a live seat of caller k is still there, where a live one changes and its caller doesn't
pub seat_set : (vs : List View) (id : ℕ) (v w : View) (k : ℕ) → get_elem? vs id ≡ some v → (0 < v.parts → (0 < w.parts) × (w.caller ≡ v.caller)) → HasSeat vs k → HasSeat (set vs id w) k
seat_set vs id v w k me same h = dite (ℕ_discrete h.0 id)
    (λ e.
    let is : h.1 ≡ v = some-injective h.1 v (sym h.2 ∙ ap (λ (n : ℕ). get_elem? vs n) e ∙ me) in
    let now = same (subst (λ (x : View). 0 < x.parts) is h.3) in
    (id, w, set_here vs id w (at_below vs id v me), now.0, now.1 ∙ ap (λ (x : View). x.caller) (sym is) ∙ h.4))
    (λ ne. (h.0, h.1, set_else vs id h.0 w ne ∙ h.2, h.3, h.4))

-- a live caller was live before its view changed
live_before : (c : Core) (k j : ℕ) (old new now : Known) → HasView c k old → slice_get (set c.views k (Some new)) j ≡ Some (Some now) → (was : Known) × HasView c j was
live_before c k j old new now live at = dite (ℕ_discrete j k)
    (λ e. (old, subst (λ (n : ℕ). HasView c n old) (sym e) live))
    (λ ne. (now, sym (get-set_other c.views k j (Some new) ne) ∙ at))

-- one event more
pub led_more : (es : List Event) (c d : Core) (event : Event) (after : Core) → Leads es c d → IsStep d event after → Leads (es ++ event ∷ []) c after
led_more [] c d event after is step = (after, subst (λ (x : Core). IsStep x event after) (sym is) step, refl)
led_more (e ∷ es) c d event after led step = (led.0, led.1, led_more es led.0 d event after led.2 step)

-- An event of one caller, which changes what its seat knows: the core after it is sound, and the words are those of its marks.
pub kept_event : (t : Terms) (ws now : List ℕ) (vs : List View) (id : ℕ) (v w : View) (k : Kept t ws vs) → get_elem? vs id ≡ some v → 0 < v.parts
    → (hs : List Entry) (ms : List (Option GoalMark)) (event : Event) → IsStep k.core event (core_of hs ms (set k.core.views v.caller (Some w.known)))
    → IsSound (core_of hs ms (set k.core.views v.caller (Some w.known))) → All (IsFound t) hs
    → length now ≡ t.goals + 1 → length ms ≡ t.goals → get_or now 0 0 ≡ length hs → ((g : ℕ) → g < t.goals → get_or now (g + 1) 0 ≡ word_of (get_or ms g None))
    → w.terms ≡ v.terms → w.parts ≡ v.parts → w.caller ≡ v.caller → w.made ≡ v.made → length hs + w.left ≤ length k.core.history + v.left
    → Kept t now (set vs id w)
kept_event t ws now vs id v w k me live hs ms event step sound found wide goals count marks terms parts caller made left =
    let f = k.each id v me in
    let mine = f.known live in
    let views = set k.core.views v.caller (Some w.known) in
    let d : Core = core_of hs ms views in
    let long : length views ≡ length k.core.views = length-set k.core.views v.caller (Some w.known) in
    record {
      core = d;
      events = k.events ++ event ∷ [];
      led = led_more k.events (initial_core 1 t.goals) k.core event d k.led step;
      sound = sound;
      found = found;
      wide = wide;
      goals = goals;
      count = count;
      marks = marks;
      parts = omega (arith, total-set (λ (u : View). u.parts) vs id v w me, k.parts, parts);
      room = omega (arith, total-set (λ (u : View). u.left) vs id v w me, k.room, left);
      apart = set_apart vs id v w me (λ l. (live, caller)) k.apart;
      seated = λ j u at. seat_set vs id v w j me (λ _. (omega (arith, parts, live), caller)) (let was = live_before k.core v.caller j v.known w.known u mine at in k.seated j was.0 was.1);
      each = set_each (Fits t d) vs id w
          (λ i u ne h. let o = k.each i u h in record {
            terms = o.terms;
            known = λ l. get-set_other k.core.views v.caller u.caller (Some w.known) (k.apart i id u v ne h me l live) ∙ o.known l;
            made = λ l z. o.made l z ∙ sym long;
          })
          record {
            terms = λ _. terms ∙ f.terms live;
            known = λ _. ap (λ (n : ℕ). slice_get views n) caller ∙ get-set_same k.core.views v.caller (Some w.known) (slice_get_within k.core.views v.caller (Some v.known) mine);
            made = λ _ z. made ∙ f.made live (sym caller ∙ z) ∙ sym long;
          };
    }

-- ---- a number is drawn
pub kept_number : (t : Terms) (ws : List ℕ) (vs : List View) (id : ℕ) (v : View) (goal : ℕ) (source : Source) → Kept t ws vs → get_elem? vs id ≡ some v → MayNumber t v goal source
    → Kept t (set ws 0 (get_or ws 0 0 + 1)) (set vs id (numbered v (entry_of v (get_or ws 0 0) goal source)))
kept_number t ws vs id v goal source k me may =
    let n : ℕ = get_or ws 0 0 in
    let e : Entry = entry_of v n goal source in
    let live = (k.each id v me).known may.live in
    let can : CanNumber k.core v.caller goal = record { range = omega (arith, may.range, k.goals); view = v.known; live = live; idle = may.idle; first = may.first } in
    let same : entry_of v (length k.core.history) goal source ≡ e = ap (λ (x : ℕ). entry_of v x goal source) (sym k.count) in
    let event : Event = event_kinds.Number v.caller goal (kind_of source) source in
    let first : IsStep k.core event (core.numbered k.core v.caller v.known (entry_of v (length k.core.history) goal source)) = record { can = can; after = refl } in
    let step = subst (λ (x : Entry). IsStep k.core event (core.numbered k.core v.caller v.known x)) same first in
    let sound = subst (λ (x : Entry). IsSound (core.numbered k.core v.caller v.known x)) same (number-sound k.core v.caller goal (kind_of source) source can k.sound) in
    let long = length_push k.core.history e in
    kept_event t ws (set ws 0 (n + 1)) vs id v (numbered v e) k me may.live (k.core.history ++ e ∷ []) k.core.marks event step sound
    (All-push (IsFound t) k.core.history e k.found (may.found, refl))
    (length-set ws 0 (n + 1) ∙ k.wide) k.goals
    (get_or-set_same ws 0 (n + 1) 0 (omega (arith, k.wide)) ∙ omega (arith, k.count, long))
    (λ g lt. get_or-set_other ws 0 (g + 1) (n + 1) 0 (λ z. omega arith) ∙ k.marks g lt)
    refl refl refl refl (omega (arith, long, may.left))

pub numbers_allowed : (t : Terms) (slots id : ℕ) (m : Sat) (goal : ℕ) (source : Source) → MayNumber t m.0 goal source
    → Allows (Holds t) slots id m 0 (λ n. (n + 1) % 18446744073709551616) (Numbers goal source (step slots 0 1 0 none) m)
numbers_allowed t slots id m goal source may s k long me small =
    let n : ℕ = get_or s.words 0 0 in
    let w : View = numbered m.0 (entry_of m.0 n goal source) in
    let left = Rattle.goal_board.proofs.Sums.term_le (λ (u : View). u.left) s.views id m.0 me in
    let few : n < 8192 = omega (arith, k.count, k.room, left, may.left) in
    let same : (n + 1) % 18446744073709551616 ≡ n + 1 = omega arith in
    let front = (k.sound.knows m.0.caller m.0.known ((k.each id m.0 me).known may.live)).front in
    (w, keeps, tt, subst (λ (x : ℕ). Kept t (set s.words 0 x) (set s.views id w)) (sym same) (kept_number t s.words s.views id m.0 goal source k me may), (omega (arith, front, k.count), few, refl))

-- ---- a goal is marked
mark_word : (o : Option GoalMark) (e : Entry) (n : ℕ) → n ≡ word_of o → either (eqb n 0) (word_of (Some (mark_by e))) n ≡ word_of (Some (first_mark o (mark_by e)))
mark_word None e n is = exchanged n 0 (word_of (Some (mark_by e))) (λ y. y ≡ word_of (Some (mark_by e))) (λ z. refl) (λ nz. absurd (nz is))
mark_word (Some m) e n is = exchanged n 0 (word_of (Some (mark_by e))) (λ y. y ≡ word_of (Some m)) (λ z. absurd (omega (arith, is, z))) (λ nz. is)

-- the goal of an unmarked entry is in range
unmarked_range : (t : Terms) (c : Core) (k : ℕ) (v : Known) (e : Entry) → IsSound c → HasView c k v → v.unmarked ≡ Some e → e.goal < length c.marks
unmarked_range t c k v e sound live un = let knows = sound.knows k v live in (sound.posted e.number e (knows.known e (knows.unmarked e un).0)).goal

pub kept_mark : (t : Terms) (ws : List ℕ) (vs : List View) (id : ℕ) (v : View) (e : Entry) → Kept t ws vs → get_elem? vs id ≡ some v → 0 < v.parts → v.known.unmarked ≡ Some e
    → Kept t (set ws (e.goal + 1) (either (eqb (get_or ws (e.goal + 1) 0) 0) (word_of (Some (mark_by e))) (get_or ws (e.goal + 1) 0))) (set vs id (marked v e.goal))
kept_mark t ws vs id v e k me live un =
    let g : ℕ = e.goal in
    let mine = (k.each id v me).known live in
    let can : CanMark k.core v.caller = record { view = v.known; live = mine; entry = e; unmarked = un } in
    let inside = unmarked_range t k.core v.caller v.known e k.sound mine un in
    let lt : g < t.goals = omega (arith, inside, k.goals) in
    let mark : GoalMark = first_mark (mark_of k.core g) (mark_by e) in
    let x : ℕ = either (eqb (get_or ws (g + 1) 0) 0) (word_of (Some (mark_by e))) (get_or ws (g + 1) 0) in
    let is : x ≡ word_of (Some mark) = mark_word (mark_of k.core g) e (get_or ws (g + 1) 0) (k.marks g lt) in
    let ms = set k.core.marks g (Some mark) in
    let step : IsStep k.core (event_kinds.Mark v.caller) (core.marked k.core v.caller v.known e) = record { can = can; after = refl } in
    kept_event t ws (set ws (g + 1) x) vs id v (marked v g) k me live k.core.history ms (event_kinds.Mark v.caller) step (mark-sound k.core v.caller can k.sound) k.found
    (length-set ws (g + 1) x ∙ k.wide) (length-set k.core.marks g (Some mark) ∙ k.goals)
    (get_or-set_other ws (g + 1) 0 x 0 (λ z. omega arith) ∙ k.count)
    (λ h hl. dite (ℕ_discrete h g)
    (λ e. subst (λ (y : ℕ). get_or (set ws (g + 1) x) (y + 1) 0 ≡ word_of (get_or ms y None)) (sym e)
    (get_or-set_same ws (g + 1) x 0 (omega (arith, k.wide)) ∙ is ∙ ap word_of (sym (get_or-set_same k.core.marks g (Some mark) None inside))))
    (λ ne. get_or-set_other ws (g + 1) (h + 1) x 0 (λ z. ne (omega arith)) ∙ k.marks h hl ∙ ap word_of (sym (get_or-set_other k.core.marks g h (Some mark) None ne))))
    refl refl refl refl (omega arith)

pub marks_allowed : (t : Terms) (slots id : ℕ) (m : Sat) (e : Entry) → 0 < m.0.parts → m.0.known.unmarked ≡ Some e
    → Allows (Holds t) slots id m (e.goal + 1) (λ n. either (eqb n 0) (word_of (Some (mark_by e))) n) (Marks (step slots (e.goal + 1) 0 (word_of (Some (mark_by e))) none) m)
marks_allowed t slots id m e live un s k long me small =
    let same : e.goal + 1 - 1 ≡ e.goal = omega arith in
    (marked m.0 e.goal, keeps, tt, kept_mark t s.words s.views id m.0 e k me live un, ap (λ (g : ℕ). (marked m.0 g, m.1)) (sym same))

-- ---- a goal is looked at
pub kept_look : (t : Terms) (ws : List ℕ) (vs : List View) (id : ℕ) (v : View) (g : ℕ) → (k : Kept t ws vs) → get_elem? vs id ≡ some v → 0 < v.parts → g < t.goals → Kept t ws (set vs id (looked v g (mark_of k.core g)))
kept_look t ws vs id v g k me live lt =
    let can : CanLook k.core v.caller g = record { range = omega (arith, lt, k.goals); view = v.known; live = (k.each id v me).known live } in
    let step : IsStep k.core (event_kinds.Look v.caller g) (core.looked k.core v.caller v.known g) = record { can = can; after = refl } in
    kept_event t ws ws vs id v (looked v g (mark_of k.core g)) k me live k.core.history k.core.marks (event_kinds.Look v.caller g) step (look-sound k.core v.caller g can k.sound) k.found k.wide k.goals k.count k.marks refl refl refl refl (omega arith)

-- what is found is so of its goal
pub found_at : (t : Terms) (hs : List Entry) (n : ℕ) (e : Entry) → All (IsFound t) hs → IsEntry hs n e → IsOfKind t.signals.value.circuit t.signals.value.lits e.kind e.goal
found_at t hs n e all at =
    let f : IsFound t e = subst (IsFound t) (get_or_from_slice_get hs n e e at) (all n e (slice_get_within hs n e at)) in
    subst (λ (kind : Rattle.aig_model.specs.declared.parts.Kind.Kind). IsOfKind t.signals.value.circuit t.signals.value.lits kind e.goal) (sym f.1) (found_is_true t.signals.value.circuit t.signals.value.lits t.options e.source e.goal f.0)

tells : (t : Terms) (ws : List ℕ) (vs : List View) (id : ℕ) (v : View) (g : ℕ) (o : Option GoalMark) → (k : Kept t ws vs) → get_elem? vs id ≡ some v → 0 < v.parts → g < t.goals → mark_of k.core g ≡ o → Tells v g o
tells t ws vs id v g None k me live lt is = λ has.
    let m = (k.sound.knows v.caller v.known ((k.each id v me).known live)).settled g has in
    let read : Some m.0 ≡ None = sym (get_or_from_slice_get k.core.marks g (Some m.0) None m.1) ∙ is in
    none-some m.0 (sym read)
tells t ws vs id v g (Some m) k me live lt is = λ u same.
    let at : slice_get k.core.marks g ≡ Some (Some m) = slice_get-get_or k.core.marks g None (omega (arith, lt, k.goals)) ∙ ap (λ (o : Option GoalMark). Some o) is in
    let named = k.sound.named g m at in
    let truth = found_at t k.core.history m.number named.entry k.found named.place in
    let here = subst (λ (y : ℕ). IsOfKind t.signals.value.circuit t.signals.value.lits m.kind y) named.goal (subst (λ (kind : Rattle.aig_model.specs.declared.parts.Kind.Kind). IsOfKind t.signals.value.circuit t.signals.value.lits kind named.entry.goal) named.kind truth) in
    let one : t ≡ u = same_Some t u (sym ((k.each id v me).terms live) ∙ same) in
    subst (λ (y : Terms). IsOfKind y.signals.value.circuit y.signals.value.lits m.kind g) one here

pub looks_allowed : (t : Terms) (slots id : ℕ) (m : Sat) (g : ℕ) → 0 < m.0.parts → g < t.goals → Allows (Holds t) slots id m (g + 1) (λ n. n) (Looks (step slots (g + 1) 0 0 none) m)
looks_allowed t slots id m g live lt s k long me small =
    let same : g + 1 - 1 ≡ g = omega arith in
    let mark : Option GoalMark = mark_of k.core g in
    let told : Tells m.0 (g + 1 - 1) mark = subst (λ (h : ℕ). Tells m.0 h mark) (sym same) (tells t s.words s.views id m.0 g mark k me live lt refl) in (
      looked m.0 g mark,
      keeps,
      tt,
      subst (λ (ws : List ℕ). Kept t ws (set s.views id (looked m.0 g mark))) (sym (set-get_or s.words (g + 1) 0)) (kept_look t s.words s.views id m.0 g k me live lt),
      (mark, k.marks g lt, ap (λ (h : ℕ). (looked m.0 h mark, m.1)) (sym same), told),
    )
