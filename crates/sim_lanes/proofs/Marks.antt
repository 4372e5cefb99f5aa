-- The goals that are marked, and the lanes that are left, lane by lane.
use Rattle.std.proofs.Common.{◌≡◌, ◌↔◌, ◌⊎◌, ℕ, ◌+◌, ◌^◌, ◌<◌, ◌≤◌, ◌&&◌, ◌||◌, not, IsTrue, List, [], ◌∷◌, set, length, get_or, Some, refl, sym, ap, ◌∙◌, subst, arith, inl, inr, Contains, w64}
use Rattle.std.specs.Prelude.{slice_get}
use Rattle.std.proofs.lemmas.Bool.{cases_lt, cases_eq}
use Rattle.std.specs.Int.{bit_not}
use lib.Bits.{bit_and, bit_or}
use Rattle.std.proofs.lemmas.List.{get_or-set_same, get_or-set_other, map_push}
use Rattle.std.proofs.lemmas.List.Elements.{Contains-append_left, Contains-push}
use Rattle.std.proofs.lemmas.Option.{slice_get-get_or, slice_get_within}
use Rattle.aig_model.specs.WellFormed.{IsCircuit}
use Rattle.aig_model.specs.declared.parts.Parts.{Parts}
use Rattle.sim_walk.specs.declared.visit.Visit.{Visit}
use Rattle.sim_walk.specs.FirstVisits.{JoinsFirst}
use Rattle.sim_walk.specs.Walk.{Lane, goals_of}
use Rattle.sim_batch.specs.Steps.{ShowsAt, SomeShows, VisitsBefore}
use Rattle.sim_batch.specs.Words.{bit_of_word}
use Rattle.sim_batch.proofs.LaneGoals.{shows_once}
use Rattle.sim_batch.proofs.SoFar.{visits_add, visits_skip, visits_step}
use Rattle.sim_lanes.specs.LaneValues.{AreLanesOf, lane_goal}
use Rattle.sim_lanes.specs.Lanes.{AddsMarks, AddsVisits, NotesLane, ShowGoals}
use Rattle.sim_lanes.proofs.Deciding.{both_true, either_true, true_not, true_or_not}
use Rattle.sim_lanes.proofs.WordBits.{bit-and, bit-not, bit-or}

-- a visit's goal stands in the list that it joins, beside those that stood there
pub joined_has : (vs more : List Visit) (v : Visit) → JoinsFirst vs more v → Contains (goals_of more) v.goal
joined_has vs more v joins = elim joins [
  | inl h ↦ subst (λ (x : List Visit). Contains (goals_of x) v.goal) (sym h.1) h.0
  | inr h ↦ subst (λ (x : List Visit). Contains (goals_of x) v.goal) (sym h.1)
      (subst (λ (l : List ℕ). Contains l v.goal) (sym (map_push (λ (x : Visit). x.goal) vs v)) (Contains-push (goals_of vs) v.goal))
]

pub joined_keeps : (vs more : List Visit) (v : Visit) (goal : ℕ) → JoinsFirst vs more v → Contains (goals_of vs) goal → Contains (goals_of more) goal
joined_keeps vs more v goal joins inside = elim joins [
  | inl h ↦ subst (λ (x : List Visit). Contains (goals_of x) goal) (sym h.1) inside
  | inr h ↦ subst (λ (x : List Visit). Contains (goals_of x) goal) (sym h.1)
      (subst (λ (l : List ℕ). Contains l goal) (sym (map_push (λ (x : Visit). x.goal) vs v)) (Contains-append_left (goals_of vs) (v.goal ∷ []) goal inside))
]

-- what holds after the lanes below n, of which `rest` are left
pub record Noted (c : Parts) (sig values : List ℕ) (live t : ℕ) (old : List ℕ) (before : List Visit) (n rest : ℕ) (seen : List ℕ) (visits : List Visit) : Type 0 where
  pub within : (j : ℕ) → j < 64 → IsTrue (bit_of_word j rest) → IsTrue (bit_of_word j live)
  pub gone : (j : ℕ) → j < 64 → j < n → ¬ IsTrue (bit_of_word j rest)
  pub known : (j : ℕ) → j < 64 → IsTrue (bit_of_word j live) → (¬ IsTrue (bit_of_word j rest)) → Contains (goals_of visits) (lane_goal sig values j)
  pub marked : (j goal : ℕ) → j < 64 → IsTrue (bit_of_word j (get_or seen goal 0)) ↔ (IsTrue (bit_of_word j (get_or old goal 0))
      ⊎ (IsTrue (bit_of_word j live) × (¬ IsTrue (bit_of_word j rest)) × (lane_goal sig values j ≡ goal)))
  pub so_far : (lanes : List Lane) → length lanes ≡ 64 → ShowGoals c sig lanes t live values → VisitsBefore c sig lanes t 0 before → VisitsBefore c sig lanes t n visits

pub noted_first : (c : Parts) (sig values : List ℕ) (live t : ℕ) (old : List ℕ) (before : List Visit) → Noted c sig values live t old before 0 live old before
noted_first c sig values live t old before = record {
  within = λ j low is. is;
  gone = λ j low none. absurd (omega (arith, none));
  known = λ j low is not. absurd (not is);
  marked = λ j goal low. (λ is. inl is, λ h. elim h [ inl is ↦ is | inr off ↦ absurd (off.1 off.0) ]);
  so_far = λ lanes size shows so. so;
}

blank : Lane
blank = record { start = []; row = λ _. [] }

one_lane : (lanes : List Lane) (j : ℕ) (a b : Lane) → slice_get lanes j ≡ Some a → slice_get lanes j ≡ Some b → a ≡ b
one_lane lanes j a b p q = cc

abbrev pub visit_at : ℕ → ℕ → ℕ → Visit
visit_at goal lane step = record { goal = goal; lane = lane; step = step }

-- what the lane shows, whoever it is
lane_shows : (c : Parts) (sig values : List ℕ) (live t n : ℕ) (lanes : List Lane) (lane : Lane) (goal : ℕ) → IsCircuit c → ShowGoals c sig lanes t live values
    → slice_get lanes n ≡ Some lane → SomeShows c sig lanes n t goal → IsTrue (bit_of_word n live) × (lane_goal sig values n ≡ goal)
lane_shows c sig values live t n lanes lane goal ok shows place some =
    let there : ShowsAt c sig lane t goal = subst (λ (x : Lane). ShowsAt c sig x t goal) (one_lane lanes n some.lane lane some.place place) some.shows in
    elim (true_or_not (bit_of_word n live)) [
      | inl is ↦ (is, shows_once c sig lane t (lane_goal sig values n) goal ok ((shows n lane place).lives is) there)
      | inr not ↦ absurd ((shows n lane place).dead not goal there)
    ]

-- the lane shows the goal that is noted, and is in `rest`
noted_or_left : (sig values : List ℕ) (rest left n t j : ℕ) (seen marked : List ℕ) (visits more : List Visit) → j < 64
    → NotesLane sig values rest left (visit_at 0 n t) seen marked visits more → IsTrue (bit_of_word j rest) → (¬ IsTrue (bit_of_word j left))
    → IsTrue (bit_of_word n rest) × (lane_goal sig values j ≡ lane_goal sig values n)
noted_or_left sig values rest left n t j seen marked visits more low notes is gone = elim (true_or_not (bit_of_word n rest)) [
  | inl here ↦ elim (cases_eq (lane_goal sig values j) (lane_goal sig values n)) [
    | inl same ↦ (here, same)
    | inr apart ↦ absurd (gone ((notes.left j low).1 (is, λ h. apart h.1)))
  ]
  | inr none ↦ absurd (gone ((notes.left j low).1 (is, λ h. none h.0)))
]

keeps_goal : (sig values : List ℕ) (rest left n t goal : ℕ) (seen marked : List ℕ) (visits more : List Visit)
    → NotesLane sig values rest left (visit_at 0 n t) seen marked visits more → Contains (goals_of visits) goal → Contains (goals_of more) goal
keeps_goal sig values rest left n t goal seen marked visits more notes inside = elim (true_or_not (bit_of_word n rest)) [
  | inl here ↦ joined_keeps visits more (visit_at (lane_goal sig values n) n t) goal (notes.joins here) inside
  | inr none ↦ subst (λ (x : List Visit). Contains (goals_of x) goal) (sym (notes.same none)) inside
]

noted_visits : (c : Parts) (sig values : List ℕ) (live t : ℕ) (old : List ℕ) (before : List Visit) (n rest left : ℕ) (seen marked : List ℕ) (visits more : List Visit)
    → IsCircuit c → n < 64 → Noted c sig values live t old before n rest seen visits → NotesLane sig values rest left (visit_at 0 n t) seen marked visits more
    → (lanes : List Lane) → length lanes ≡ 64 → ShowGoals c sig lanes t live values → VisitsBefore c sig lanes t 0 before → VisitsBefore c sig lanes t (n + 1) more
noted_visits c sig values live t old before n rest left seen marked visits more ok low noted notes lanes size shows first =
    let so : VisitsBefore c sig lanes t n visits = noted.so_far lanes size shows first in
    let lane : Lane = get_or lanes n blank in
    let place : slice_get lanes n ≡ Some lane = slice_get-get_or lanes n blank (omega (arith, size, low)) in
    elim (true_or_not (bit_of_word n rest)) [
      | inl here ↦ visits_add c sig lanes visits more (visit_at (lane_goal sig values n) n t) so
          (record { lane = lane; place = place; shows = (shows n lane place).lives (noted.within n low here) })
          (λ goal some. (lane_shows c sig values live t n lanes lane goal ok shows place some).1) (notes.joins here)
      | inr none ↦ subst (λ (x : List Visit). VisitsBefore c sig lanes t (n + 1) x) (sym (notes.same none)) (elim (true_or_not (bit_of_word n live)) [
        | inl lives ↦ visits_add c sig lanes visits visits (visit_at (lane_goal sig values n) n t) so
            (record { lane = lane; place = place; shows = (shows n lane place).lives lives })
            (λ goal some. (lane_shows c sig values live t n lanes lane goal ok shows place some).1)
            (inl (noted.known n low lives none, refl))
        | inr dead ↦ visits_skip c sig lanes t n visits so (λ goal some. dead (lane_shows c sig values live t n lanes lane goal ok shows place some).0)
      ])
    ]

pub noted_next : (c : Parts) (sig values : List ℕ) (live t : ℕ) (old : List ℕ) (before : List Visit) (n rest left : ℕ) (seen marked : List ℕ) (visits more : List Visit)
    → IsCircuit c → n < 64 → Noted c sig values live t old before n rest seen visits → NotesLane sig values rest left (visit_at 0 n t) seen marked visits more
    → Noted c sig values live t old before (n + 1) left marked more
noted_next c sig values live t old before n rest left seen marked visits more ok low noted notes = record {
  within = λ j inside is. noted.within j inside ((notes.left j inside).0 is).0;
  gone = λ j inside under is. (
      let was = (notes.left j inside).0 is in
      elim (cases_lt j n) [
        | inl less ↦ noted.gone j inside less was.0
        | inr ge ↦ (
            let same : j ≡ n = omega (arith, under, ge) in
            was.1 (subst (λ (k : ℕ). IsTrue (bit_of_word k rest)) same was.0, ap (lane_goal sig values) same)
            )
      ]
      );
  known = λ j inside is gone. elim (true_or_not (bit_of_word j rest)) [
    | inl here ↦ (
        let shown = noted_or_left sig values rest left n t j seen marked visits more inside notes here gone in
        subst (λ (g : ℕ). Contains (goals_of more) g) (sym shown.1) (joined_has visits more (visit_at (lane_goal sig values n) n t) (notes.joins shown.0))
        )
    | inr none ↦ keeps_goal sig values rest left n t (lane_goal sig values j) seen marked visits more notes (noted.known j inside is none)
  ];
  marked = λ j goal inside. (
    λ new. elim ((notes.marked j goal inside).0 new) [
      | inl is ↦ elim ((noted.marked j goal inside).0 is) [
        | inl was ↦ inl was
        | inr h ↦ inr (h.0, (λ still. h.1 ((notes.left j inside).0 still).0), h.2)
      ]
      | inr h ↦ inr (noted.within j inside h.0, (λ still. ((notes.left j inside).0 still).1 (h.1, h.2)), h.3)
    ],
    λ h. (notes.marked j goal inside).1 (elim h [
      | inl was ↦ inl ((noted.marked j goal inside).1 (inl was))
      | inr shown ↦ elim (true_or_not (bit_of_word j rest)) [
        | inl here ↦ (
            let told = noted_or_left sig values rest left n t j seen marked visits more inside notes here shown.1 in
            inr (here, told.0, told.1, shown.2)
            )
        | inr none ↦ inl ((noted.marked j goal inside).1 (inr (shown.0, none, shown.2)))
      ]
    ]),
  );
  so_far = λ lanes size shows first. noted_visits c sig values live t old before n rest left seen marked visits more ok low noted notes lanes size shows first;
}

pub noted_marks : (c : Parts) (sig values : List ℕ) (live t : ℕ) (old : List ℕ) (before : List Visit) (n rest : ℕ) (seen : List ℕ) (visits : List Visit)
    → 64 ≤ n → Noted c sig values live t old before n rest seen visits → AddsMarks sig values live old seen
noted_marks c sig values live t old before n rest seen visits all noted = λ j goal inside. (
  λ new. elim ((noted.marked j goal inside).0 new) [ inl was ↦ inl was | inr h ↦ inr (h.0, h.2) ],
  λ h. (noted.marked j goal inside).1 (elim h [
    | inl was ↦ inl was
    | inr shown ↦ inr (shown.0, noted.gone j inside (omega (arith, all, inside)), shown.1)
  ]),
)

pub noted_all : (c : Parts) (sig values : List ℕ) (live t : ℕ) (old : List ℕ) (before : List Visit) (n rest : ℕ) (seen : List ℕ) (visits : List Visit)
    → 64 ≤ n → Noted c sig values live t old before n rest seen visits → AddsVisits c sig values live t before visits
noted_all c sig values live t old before n rest seen visits all noted = λ lanes size shows first.
    visits_step c sig lanes t n visits (noted.so_far lanes size shows first)
    (λ k s goal some. omega (arith, all, size, slice_get_within lanes k some.lane some.place))

-- ---- the goal of one lane is noted
pub note_none : (sig values : List ℕ) (rest : ℕ) (visit : Visit) (seen : List ℕ) (visits : List Visit) → (¬ IsTrue (bit_of_word visit.lane rest))
    → NotesLane sig values rest rest visit seen seen visits visits
note_none sig values rest visit seen visits none = record {
  left = λ j low. (λ is. (is, λ h. none h.0), λ h. h.0);
  marked = λ j goal low. (λ is. inl is, λ h. elim h [ inl is ↦ is | inr x ↦ absurd (none x.1) ]);
  joins = λ is. absurd (none is);
  same = λ off. refl;
}

-- the mask of a goal, with the lanes that show it
written_mask : (j goal other lanes : ℕ) (seen : List ℕ) → goal < length seen
    → IsTrue (bit_of_word j (get_or (set seen goal (bit_or (get_or seen goal 0) lanes)) other 0))
    ↔ (IsTrue (bit_of_word j (get_or seen other 0)) ⊎ (IsTrue (bit_of_word j lanes) × (other ≡ goal)))
written_mask j goal other lanes seen inside = elim (cases_eq other goal) [
  | inl same ↦ (
      let word : ℕ = bit_or (get_or seen goal 0) lanes in
      let read : get_or (set seen goal word) other 0 ≡ word = ap (λ k. get_or (set seen goal word) k 0) same ∙ get_or-set_same seen goal word 0 inside in
      let bit : bit_of_word j (get_or (set seen goal word) other 0) ≡ (bit_of_word j (get_or seen other 0) || bit_of_word j lanes) =
      ap (bit_of_word j) read ∙ (bit-or j (get_or seen goal 0) lanes ∙ ap (λ k. bit_of_word j (get_or seen k 0) || bit_of_word j lanes) (sym same)) in
      let cases = either_true (bit_of_word j (get_or seen other 0)) (bit_of_word j lanes) in (
        λ is. elim (cases.0 (sym bit ∙ is)) [ inl old ↦ inl old | inr new ↦ inr (new, same) ],
        λ h. bit ∙ cases.1 (elim h [ inl old ↦ inl old | inr new ↦ inr new.0 ]),
      )
      )
  | inr apart ↦ (
      let read : get_or (set seen goal (bit_or (get_or seen goal 0) lanes)) other 0 ≡ get_or seen other 0 = get_or-set_other seen goal other (bit_or (get_or seen goal 0) lanes) 0 apart in (
        λ is. inl (ap (bit_of_word j) (sym read) ∙ is),
        λ h. elim h [ inl old ↦ ap (bit_of_word j) read ∙ old | inr new ↦ absurd (apart new.1) ],
      )
      )
]

pub note_some : (sig values : List ℕ) (rest lanes goal : ℕ) (visit : Visit) (seen : List ℕ) (visits more : List Visit) → IsTrue (bit_of_word visit.lane rest)
    → goal ≡ lane_goal sig values visit.lane → AreLanesOf sig values rest goal lanes → goal < length seen → lanes < 2 ^ 64
    → JoinsFirst visits more (record { goal = goal; lane = visit.lane; step = visit.step })
    → NotesLane sig values rest (bit_and rest (bit_not w64 lanes)) visit seen (set seen goal (bit_or (get_or seen goal 0) lanes)) visits more
note_some sig values rest lanes goal visit seen visits more here own told inside fits joins = record {
  left = λ j low. (
      let bit : bit_of_word j (bit_and rest (bit_not w64 lanes)) ≡ (bit_of_word j rest && not (bit_of_word j lanes)) =
      bit-and j rest (bit_not w64 lanes) ∙ ap (λ b. bit_of_word j rest && b) (bit-not j lanes fits low) in
      let both = both_true (bit_of_word j rest) (not (bit_of_word j lanes)) in
      let off = true_not (bit_of_word j lanes) in (
        λ is. (
            let parts = both.0 (sym bit ∙ is) in
            (parts.0, λ h. off.0 parts.1 ((told j low).1 (parts.0, h.1 ∙ sym own)))
            ),
        λ h. bit ∙ both.1 (h.0, off.1 (λ shown. h.1 (here, ((told j low).0 shown).1 ∙ own))),
      )
      );
  marked = λ j other low. (
      let written = written_mask j goal other lanes seen inside in (
        λ is. elim (written.0 is) [
          | inl old ↦ inl old
          | inr new ↦ (
              let shown = (told j low).0 new.0 in
              inr (shown.0, here, shown.1 ∙ own, shown.1 ∙ sym new.1)
              )
        ],
        λ h. written.1 (elim h [
          | inl old ↦ inl old
          | inr new ↦ inr ((told j low).1 (new.0, new.2 ∙ sym own), sym new.3 ∙ (new.2 ∙ sym own))
        ]),
      )
      );
  joins = λ is. subst (λ (g : ℕ). JoinsFirst visits more (record { goal = g; lane = visit.lane; step = visit.step })) own joins;
  same = λ none. absurd (none here);
}
