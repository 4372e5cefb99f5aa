-- What was seen, and what is quiet for it.
use Rattle.std.proofs.Common.{◌≡◌, ℕ, zero, suc, ◌+◌, ◌-◌, ◌^◌, ◌<◌, ◌≤◌, Bool, true, leb, Option, None, ℤ, List, [], ◌∷◌, ◌++◌, length, get_or, set, take, drop, refl, ap, sym, ◌∙◌, subst, arith, inl, inr}
use Rattle.std.proofs.lemmas.Bool.{cases_lt, le-leb, lt-leb}
use Rattle.std.proofs.lemmas.List.{append_assoc, append-nil, length-map, length-take, get_or-take, take-map, take-take, take_all, take_more, take_more_set, take-append-le, take-append-drop, drop-append-le, get_or-map}
use Rattle.std.proofs.lemmas.List.Elements.{filter-append}
use Rattle.sat_trail.specs.Trail.{Assignment, TrailState, lits, levels, upto, Climbs, IsTrail}
use Rattle.sat_trail.proofs.Levels.{Joins-near, Climbs-rises, upto-below, upto-take}
use Rattle.sat_watch.specs.declared.links.Watch.{Watch}
use Rattle.sat_watch.specs.declared.mark.Mark.{Mark}
use Rattle.sat_watch.specs.declared.scan.Scan.{Scan}
use Rattle.sat_watch.specs.declared.scan.Scan.TheVariants.{Quiet}
use Rattle.sat_watch.specs.Book.{BookState, marks, Follow, ExtendsByUnits}
use Rattle.sat_watch.specs.Kept.{first_lit, second_lit, IsWatched, Each, EachBefore, mark_lits, mark_levels, IsRising, BeginsLevel, IsStart, IsKept}
use Rattle.sat_watch.specs.Links.{watch_lits}
use Rattle.sat_watch.specs.Watching.{AreKnown, AreWatchedBelow}
use Rattle.sat_watch.proofs.Watches.{watched_nothing}

pub mark_lits-marks : (ps : List Assignment) → mark_lits (marks ps) ≡ lits ps
mark_lits-marks [] = refl
mark_lits-marks (p ∷ ps) = ap (λ r. p.lit ∷ r) (mark_lits-marks ps)

pub mark_levels-marks : (ps : List Assignment) → mark_levels (marks ps) ≡ levels ps
mark_levels-marks [] = refl
mark_levels-marks (p ∷ ps) = ap (λ r. p.level ∷ r) (mark_levels-marks ps)

pub marks-append : (ps qs : List Assignment) → marks (ps ++ qs) ≡ marks ps ++ marks qs
marks-append [] qs = refl
marks-append (p ∷ ps) qs = ap (λ r. record { lit = p.lit; level = p.level } ∷ r) (marks-append ps qs)

pub length-marks : (ps : List Assignment) → length (marks ps) ≡ length ps
length-marks ps = length-map ps (λ (p : Assignment). (let m : Mark = record { lit = p.lit; level = p.level } in m))

-- ---- the first place of a level

pub begins_from : (seen : List Mark) (first level : ℕ) (before : Mark) → IsRising seen → 0 < first → first < length seen → get_or (mark_levels seen) first 0 ≡ level → before ≡ get_or seen (first - 1) before → (before.level ≡ level → ⊥) → BeginsLevel seen first
begins_from seen first level before rising positive within same is differs j lt =
    let near : first - 1 < length seen = omega arith in
    let level_before : get_or (mark_levels seen) (first - 1) 0 ≡ before.level = get_or-map (λ (m : Mark). m.level) seen (first - 1) before 0 near ∙ ap (λ (m : Mark). m.level) (sym is) in
    let up = rising j (first - 1) (omega arith) near in
    let on = rising (first - 1) first (omega arith) within in
    omega arith

-- ---- writing the marks

mark_at : (ps : List Assignment) (place : ℕ) (lit : ℤ) (level : ℕ) (d : Mark) → place < length ps → lit ≡ get_or (lits ps) place lit → level ≡ get_or (levels ps) place 0 → get_or (marks ps) place d ≡ record { lit = lit; level = level }
mark_at ps place lit level d lt lit_is level_is =
    let blank : Assignment = record { lit = lit; level = level; reason = None } in
    let here = get_or ps place blank in
    let lit_same : here.lit ≡ lit = sym (get_or-map (λ (p : Assignment). p.lit) ps place blank lit lt) ∙ sym lit_is in
    let level_same : here.level ≡ level = sym (get_or-map (λ (p : Assignment). p.level) ps place blank 0 lt) ∙ sym level_is in
    let made : ℤ → ℕ → Mark = λ l n. record { lit = l; level = n } in
    get_or-map (λ (p : Assignment). (let m : Mark = record { lit = p.lit; level = p.level } in m)) ps place blank d lt
    ∙ ap (λ l. made l here.level) lit_same
    ∙ ap (made lit) level_same

pub note_step : (seen old : List Mark) (ps : List Assignment) (from place : ℕ) (lit : ℤ) (level : ℕ) → from ≤ place → place < length ps → place < length seen → lit ≡ get_or (lits ps) place lit → level ≡ get_or (levels ps) place 0 → take place seen ≡ take from old ++ drop from (take place (marks ps)) → take (place + 1) (set seen place (record { lit = lit; level = level })) ≡ take from old ++ drop from (take (place + 1) (marks ps))
note_step seen old ps from place lit level le lt room lit_is level_is h =
    let m : Mark = record { lit = lit; level = level } in
    let wide : place < length (marks ps) = omega (arith, length-marks ps) in
    let reach : from ≤ length (take place (marks ps)) = omega (arith, length-take place (marks ps)) in
    let more : take (place + 1) (marks ps) ≡ take place (marks ps) ++ m ∷ [] = take_more (marks ps) place m wide ∙ ap (λ x. take place (marks ps) ++ x ∷ []) (mark_at ps place lit level m lt lit_is level_is) in
    take_more_set seen place m room
    ∙ ap (λ r. r ++ m ∷ []) h
    ∙ append_assoc (take from old) (drop from (take place (marks ps))) (m ∷ [])
    ∙ ap (λ r. take from old ++ r) (sym (ap (drop from) more ∙ drop-append-le from (take place (marks ps)) (m ∷ []) reach))

-- ---- where a look may start

prefix_same : (seen : List Mark) (ps : List Assignment) (low start : ℕ) → start ≤ low → take low (marks ps) ≡ take low seen → take start (lits ps) ≡ mark_lits (take start seen)
prefix_same seen ps low start le agrees =
    ap (take start) (sym (mark_lits-marks ps))
    ∙ take-map (λ (m : Mark). m.lit) start (marks ps)
    ∙ ap mark_lits (sym (take-take start low (marks ps) le) ∙ ap (take start) agrees ∙ take-take start low seen le)

-- under the literals before a start the clauses are watched
start_is_watched : (clauses : List (List ℤ)) (watched : List ℤ) (watched_count : ℕ) (seen : List Mark) (quiet : Bool) (ps : List Assignment) (low start : ℕ) → ((place : ℕ) → place < length seen → BeginsLevel seen place → EachBefore watched_count (IsWatched (take place (mark_lits seen)) (take place (mark_lits seen))) clauses watched) → (quiet ≡ true → EachBefore watched_count (IsWatched (mark_lits seen) (mark_lits seen)) clauses watched) → take low (marks ps) ≡ take low seen → start ≤ low → IsStart seen quiet start → EachBefore watched_count (IsWatched (take start (lits ps)) (take start (lits ps))) clauses watched
start_is_watched clauses watched watched_count seen quiet ps low start before whole agrees le (inl none) =
    let P : ℕ → Type 0 = λ n. EachBefore watched_count (IsWatched (take n (lits ps)) (take n (lits ps))) clauses watched in
    subst P (sym none) (λ place clause lt is. watched_nothing [] clause (first_lit watched place) (second_lit watched place))
start_is_watched clauses watched watched_count seen quiet ps low start before whole agrees le (inr (inl begins)) =
    let P : List ℤ → Type 0 = λ ls. EachBefore watched_count (IsWatched ls ls) clauses watched in
    subst P (take-map (λ (m : Mark). m.lit) start seen ∙ sym (prefix_same seen ps low start le agrees)) (before start begins.0 begins.1)
start_is_watched clauses watched watched_count seen quiet ps low start before whole agrees le (inr (inr past)) =
    let P : List ℤ → Type 0 = λ ls. EachBefore watched_count (IsWatched ls ls) clauses watched in
    subst P (sym (prefix_same seen ps low start le agrees ∙ ap mark_lits (take_all start seen past.1))) (whole past.0)

-- ---- what is seen after propagation

pub seen_after : (items new : List Mark) (ps more qs : List Assignment) (count low : ℕ) → count ≤ length items → low ≤ length ps → take low (marks ps) ≡ take low (take count items) → qs ≡ ps ++ more → take (length qs) new ≡ take low items ++ drop low (marks qs) → take (length qs) new ≡ marks qs
seen_after items new ps more qs count low room le agrees is written =
    let len : length (take low (marks ps)) ≡ length (take low (take count items)) = ap length agrees in
    let low_le : low ≤ count = omega (arith, length-take low (marks ps), length-marks ps, length-take low (take count items), length-take count items) in
    let wide : low ≤ length (marks ps) = omega (arith, length-marks ps) in
    let first : take low items ≡ take low (marks qs) =
    sym (take-take low count items low_le) ∙ sym agrees ∙ sym (ap (take low) (ap marks is ∙ marks-append ps more) ∙ take-append-le low (marks ps) (marks more) wide) in
    written ∙ ap (λ r. r ++ drop low (marks qs)) first ∙ take-append-drop low (marks qs)

level_le : (from : ℕ) (ps : List Assignment) (to place : ℕ) → Climbs from ps to → place < length ps → get_or (levels ps) place 0 ≤ to
level_le from [] to place h lt = absurd (omega arith)
level_le from (p ∷ ps) to zero h lt = (Climbs-rises p.level ps to h.1).0
level_le from (p ∷ ps) to (suc place) h lt = level_le p.level ps to place h.1 (omega arith)

level_ge : (from : ℕ) (ps : List Assignment) (to place : ℕ) → Climbs from ps to → place < length ps → from ≤ get_or (levels ps) place 0
level_ge from [] to place h lt = absurd (omega arith)
level_ge from (p ∷ ps) to zero h lt = (Joins-near from p.level p.reason h.0).0
level_ge from (p ∷ ps) to (suc place) h lt =
    let near = (Joins-near from p.level p.reason h.0).0 in
    let later = level_ge p.level ps to place h.1 (omega arith) in
    omega arith

levels_rise : (from : ℕ) (ps : List Assignment) (to i j : ℕ) → Climbs from ps to → i ≤ j → j < length ps → get_or (levels ps) i 0 ≤ get_or (levels ps) j 0
levels_rise from [] to i j h le lt = absurd (omega arith)
levels_rise from (p ∷ ps) to zero zero h le lt = omega arith
levels_rise from (p ∷ ps) to zero (suc j) h le lt = level_ge p.level ps to j h.1 (omega arith)
levels_rise from (p ∷ ps) to (suc i) zero h le lt = absurd (omega arith)
levels_rise from (p ∷ ps) to (suc i) (suc j) h le lt = levels_rise p.level ps to i j h.1 (omega arith) (omega arith)

-- the literals before a level are those up to the level below it
begins_upto : (k place from : ℕ) (ps : List Assignment) (to : ℕ) → Climbs from ps to → place < length ps → get_or (levels ps) place 0 ≡ suc k → ((j : ℕ) → j < place → get_or (levels ps) j 0 < suc k) → upto k ps ≡ take place ps
begins_upto k place from [] to h lt is before = absurd (omega arith)
begins_upto k zero from (p ∷ ps) to h lt is before =
    let above : k < p.level = omega arith in
    rw (lt-leb p.level k above) (upto-below k p.level ps to h.1 above)
begins_upto k (suc place) from (p ∷ ps) to h lt is before =
    let first = before 0 (omega arith) in
    let within : p.level ≤ k = omega arith in
    rw (le-leb p.level k within) (ap (λ r. p ∷ r) (begins_upto k place p.level ps to h.1 (omega arith) is (λ j below. before (suc j) (omega arith))))

follow_above : (clauses : List (List ℤ)) (level k : ℕ) (true_lits : List ℤ) (more : List Assignment) → Follow clauses level true_lits more → k < level → upto k more ≡ []
follow_above clauses level k true_lits [] h lt = refl
follow_above clauses level k true_lits (p ∷ more) h lt =
    let above : k < p.level = omega (arith, h.0.at_level) in
    rw (lt-leb p.level k above) (follow_above clauses level k (true_lits ++ p.lit ∷ []) more h.1 lt)

-- below the present level nothing has changed
pub upto_extended : (clauses : List (List ℤ)) (old new : TrailState) (k : ℕ) → ExtendsByUnits clauses old new → k < old.level → upto k new.assignments ≡ upto k old.assignments
upto_extended clauses old new k s lt =
    ap (upto k) s.assignments
    ∙ filter-append (λ (p : Assignment). leb p.level k) old.assignments s.more
    ∙ ap (λ r. upto k old.assignments ++ r) (follow_above clauses old.level k (lits old.assignments) s.more s.follow lt)
    ∙ append-nil (upto k old.assignments)

-- ---- levels up to a place

upto_none : (k from : ℕ) (p : Assignment) (ps : List Assignment) (to : ℕ) → Climbs from (p ∷ ps) to → k < p.level → length (upto k (p ∷ ps)) ≡ 0
upto_none k from p ps to h above = rw (lt-leb p.level k above) (ap length (upto-below k p.level ps to h.1 above))

-- the literals up to a level are those before the first of a higher one
upto_within : (k from : ℕ) (ps : List Assignment) (to j : ℕ) → Climbs from ps to → j < length (upto k ps) → get_or (levels ps) j 0 ≤ k
upto_within k from [] to j h lt = absurd (omega arith)
upto_within k from (p ∷ ps) to zero h lt =
    elim (cases_lt k p.level) [
      | inl above ↦ absurd (omega (arith, upto_none k from p ps to h above))
      | inr within ↦ within
    ]
upto_within k from (p ∷ ps) to (suc j) h lt =
    elim (cases_lt k p.level) [
      | inl above ↦ absurd (omega (arith, upto_none k from p ps to h above))
      | inr within ↦ (let more : length (upto k (p ∷ ps)) ≡ length (upto k ps) + 1 = rw (le-leb p.level k within) (omega arith) in upto_within k p.level ps to j h.1 (omega arith))
    ]

upto_ends : (k from : ℕ) (ps : List Assignment) (to : ℕ) → Climbs from ps to → length (upto k ps) < length ps → k < get_or (levels ps) (length (upto k ps)) 0
upto_ends k from [] to h lt = absurd (omega arith)
upto_ends k from (p ∷ ps) to h lt =
    let P : ℕ → Type 0 = λ n. k < get_or (levels (p ∷ ps)) n 0 in
    elim (cases_lt k p.level) [
      | inl above ↦ subst P (sym (upto_none k from p ps to h above)) above
      | inr within ↦ (let more : length (upto k (p ∷ ps)) ≡ suc (length (upto k ps)) = rw (le-leb p.level k within) refl in
          subst P (sym more) (upto_ends k p.level ps to h.1 (omega arith)))
    ]

-- the literals up to a level below that of a place stand before it
pub upto_before : (k : ℕ) (t : TrailState) (place : ℕ) → IsTrail t → place < length t.assignments → k < get_or (levels t.assignments) place 0 → length (upto k t.assignments) ≤ place
upto_before k t place trail lt above =
    elim (cases_lt place (length (upto k t.assignments))) [
      | inl past ↦ (let le = upto_within k 0 t.assignments t.level place trail.climbs past in absurd (omega arith))
      | inr within ↦ within
    ]

-- ---- what a look begins with

levels_agree : (seen : List Mark) (ps : List Assignment) (low j : ℕ) → take low (marks ps) ≡ take low seen → j < low → get_or (mark_levels seen) j 0 ≡ get_or (levels ps) j 0
levels_agree seen ps low j agrees lt =
    sym (get_or-take low (mark_levels seen) j 0 lt)
    ∙ ap (λ ns. get_or ns j 0) (take-map (λ (m : Mark). m.level) low seen ∙ sym (ap mark_levels agrees) ∙ sym (take-map (λ (m : Mark). m.level) low (marks ps)) ∙ ap (take low) (mark_levels-marks ps))
    ∙ get_or-take low (levels ps) j 0 lt

pub known_at_start : (b : BookState) (heads : List (Option ℕ)) (watches : List Watch) (items : List Mark) (count watched_count : ℕ) (quiet : Bool) (t : TrailState) (start : ℕ) → IsKept b heads watches items count watched_count quiet → IsTrail t → take t.low (marks t.assignments) ≡ take t.low b.seen → start ≤ t.low → IsStart b.seen quiet start → AreKnown b.clauses heads watches t watched_count start
known_at_start b heads watches items count watched_count quiet t start h trail agrees le start_is =
    record { linked = h.linked; pairs = h.pairs; below = below; here = here }
  where
    here : EachBefore watched_count (IsWatched (take start (lits t.assignments)) (take start (lits t.assignments))) b.clauses (watch_lits watches)
    here = start_is_watched b.clauses (watch_lits watches) watched_count b.seen quiet t.assignments t.low start h.watched_before h.watched_whole agrees le start_is

    below : (k : ℕ) → length (upto k t.assignments) ≤ start → EachBefore watched_count (IsWatched (lits (upto k t.assignments)) (lits (upto k t.assignments))) b.clauses (watch_lits watches)
    below k within =
        let q = length (upto k t.assignments) in
        let P : List ℤ → Type 0 = λ ls. EachBefore watched_count (IsWatched ls ls) b.clauses (watch_lits watches) in
        let cut : lits (upto k t.assignments) ≡ take q (lits t.assignments) = ap lits (upto-take k 0 t.assignments t.level trail.climbs) ∙ sym (take-map (λ (p : Assignment). p.lit) q t.assignments) in
        elim (cases_lt q start) [
          | inl lt ↦ (let low_le = trail.low_reached in
              let room : t.low ≤ length b.seen = omega (arith, ap length agrees, length-take t.low (marks t.assignments), length-marks t.assignments, length-take t.low b.seen) in
              let begins : BeginsLevel b.seen q = λ j lower. (let up = upto_within k 0 t.assignments t.level j trail.climbs lower in
              let on = upto_ends k 0 t.assignments t.level trail.climbs (omega arith) in
              omega (arith, levels_agree b.seen t.assignments t.low j agrees (omega arith), levels_agree b.seen t.assignments t.low q agrees (omega arith))) in
              subst P (take-map (λ (m : Mark). m.lit) q b.seen ∙ sym (cut ∙ prefix_same b.seen t.assignments t.low q (omega arith) agrees)) (h.watched_before q (omega arith) begins))
          | inr ge ↦ (let same : q ≡ start = omega arith in
              subst P (sym (cut ∙ ap (λ n. take n (lits t.assignments)) same)) here)
        ]

-- ---- what a look leaves

watched_below : (clauses : List (List ℤ)) (heads : List (Option ℕ)) (watches : List Watch) (t : TrailState) → AreWatchedBelow clauses heads watches t → IsTrail t → (place : ℕ) → place < length (marks t.assignments) → BeginsLevel (marks t.assignments) place → EachBefore (length clauses) (IsWatched (take place (mark_lits (marks t.assignments))) (take place (mark_lits (marks t.assignments)))) clauses (watch_lits watches)
watched_below clauses heads watches t h trail place lt begins = by_level (get_or (levels t.assignments) place 0) refl
  where
    level_of : (j : ℕ) → get_or (mark_levels (marks t.assignments)) j 0 ≡ get_or (levels t.assignments) j 0
    level_of j = ap (λ ns. get_or ns j 0) (mark_levels-marks t.assignments)

    by_level : (n : ℕ) → get_or (levels t.assignments) place 0 ≡ n → EachBefore (length clauses) (IsWatched (take place (mark_lits (marks t.assignments))) (take place (mark_lits (marks t.assignments)))) clauses (watch_lits watches)
    by_level zero is = at_front place (λ j below. begins j below) refl
      where
        at_front : (q : ℕ) → ((j : ℕ) → j < q → get_or (mark_levels (marks t.assignments)) j 0 < get_or (mark_levels (marks t.assignments)) place 0) → q ≡ place → EachBefore (length clauses) (IsWatched (take q (mark_lits (marks t.assignments))) (take q (mark_lits (marks t.assignments)))) clauses (watch_lits watches)
        at_front zero b e = λ i c within is. watched_nothing [] c (first_lit (watch_lits watches) i) (second_lit (watch_lits watches) i)
        at_front (suc q) b e = (let first = b 0 (omega arith) in absurd (omega (arith, level_of place)))
    by_level (suc k) is =
        let room : place < length t.assignments = omega (arith, length-marks t.assignments) in
        let top = level_le 0 t.assignments t.level place trail.climbs room in
        let before : (j : ℕ) → j < place → get_or (levels t.assignments) j 0 < suc k = λ j lower. (let b = begins j lower in omega (arith, level_of j, level_of place)) in
        let cut : upto k t.assignments ≡ take place t.assignments = begins_upto k place 0 t.assignments t.level trail.climbs room is before in
        let same : take place (mark_lits (marks t.assignments)) ≡ lits (upto k t.assignments) =
        ap (take place) (mark_lits-marks t.assignments) ∙ take-map (λ (p : Assignment). p.lit) place t.assignments ∙ ap lits (sym cut) in
        let P : List ℤ → Type 0 = λ ls. EachBefore (length clauses) (IsWatched ls ls) clauses (watch_lits watches) in
        subst P (sym same) (λ i c within there. h.below k (omega arith) i c there)

pub IsKept-after : (b : BookState) (heads heads' : List (Option ℕ)) (watches watches' : List Watch) (items items' : List Mark) (count watched_count : ℕ) (quiet quiet' : Bool) (new : TrailState) (scan : Scan) → IsKept b heads watches items count watched_count quiet → new.vars ≡ b.vars → IsTrail new → length new.assignments ≤ new.vars → length items' ≡ length items → length heads' ≡ length heads → length watches' ≡ length watches → AreWatchedBelow b.clauses heads' watches' new → (scan ≡ Quiet → Each (IsWatched (lits new.assignments) (lits new.assignments)) b.clauses (watch_lits watches')) → (quiet' ≡ true → scan ≡ Quiet) → IsKept (record { vars = b.vars; clauses = b.clauses; seen = marks new.assignments }) heads' watches' items' (length new.assignments) (length b.clauses) quiet'
IsKept-after b heads heads' watches watches' items items' count watched_count quiet quiet' new scan h same trail few len heads_len watches_len below whole is_quiet =
    let W : List ℤ → Type 0 = λ ls. EachBefore (length b.clauses) (IsWatched ls ls) b.clauses (watch_lits watches') in
    record {
      few_vars = h.few_vars;
      clauses = h.clauses;
      sizes = record {
        heads_room = heads_len ∙ h.sizes.heads_room;
        two_each = watches_len ∙ h.sizes.two_each;
        few = (let small = h.sizes.few in let F : ℕ → Type 0 = λ n. n + 1 < 2 ^ 32 in subst F (sym watches_len) small);
      };
      seen_room = len ∙ h.seen_room;
      number = omega arith;
      watched_some = omega arith;
      rising = λ i j le lt. (let N : List ℕ → Type 0 = λ ns. get_or ns i 0 ≤ get_or ns j 0 in
          subst N (sym (mark_levels-marks new.assignments)) (levels_rise 0 new.assignments new.level i j trail.climbs le (omega (arith, length-marks new.assignments))));
      linked = below.linked;
      pairs = below.pairs;
      watched_before = watched_below b.clauses heads' watches' new below trail;
      watched_whole = λ yes. subst W (sym (mark_lits-marks new.assignments)) (λ i c within there. whole (is_quiet yes) i c there);
    }
