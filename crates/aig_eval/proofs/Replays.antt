-- What a replay has found after some rows, and where it stops.
use Rattle.std.proofs.Common.{◌≡◌, ◌≢◌, ℕ, ◌+◌, ◌-◌, ◌<◌, ◌≤◌, ◌⊎◌, inl, inr, Bool, List, [], ◌∷◌, ◌++◌, map, take, length, get_or, refl, sym, ap, ◌∙◌, arith, length-append, All}
use Rattle.std.proofs.lemmas.List.{length-map, length-take-le, get_or_push, get_or-take, map_push, take_more, take_all, take-map, take-take}
use Rattle.std.proofs.lemmas.List.Elements.{All-nil, All-push, All-get_or}
use Rattle.ketch_base.specs.First.{IsFirst}
use Rattle.aig_model.specs.WellFormed.{IsCircuit}
use Rattle.aig_model.specs.Meaning.{Assignment, IsStep, IsLegal, IsReset, Path, At, Reachable, input_values, next_values, state_after, goal_of}
use Rattle.aig_model.specs.Replays.{Shows}
use Rattle.aig_model.specs.declared.parts.Parts.{Parts}
use Rattle.aig_model.specs.declared.trace.Trace.{Trace}
use Rattle.aig_eval.specs.Replay.{FailsAt, HasShape, StartsWrong, MayStop}
use Rattle.aig_eval.specs.declared.fault.ReplayFault.{ReplayFault}
use Rattle.aig_eval.specs.declared.fault.ReplayFault.TheVariants.{Shape, NotReset, Constraint, OutOfMemory}
use Rattle.aig_eval.proofs.Lists.{first_once}
use Rattle.aig_eval.proofs.Sections.{some_latch}
use Rattle.aig_model.proofs.Paths.{path_none, path_push, path_take, one_path, state_after-push}

-- ---- what is shown
frame_count : (c : Parts) (frames : List Assignment) (rows : List (List Bool)) → map (input_values c) frames ≡ rows → length frames ≡ length rows
frame_count c frames rows e = sym (length-map frames (input_values c)) ∙ ap length e

pub shown_at : (c : Parts) (sig : List ℕ) (trace : Trace) (t goal : ℕ) → length trace.rows.rows ≡ t + 1 → Shows c sig trace goal → At c sig trace.start t goal
shown_at c sig trace t goal size shows =
    let count : length shows.frames ≡ t + 1 = frame_count c shows.frames trace.rows.rows shows.rows ∙ size in
    let last : length shows.frames - 1 ≡ t = omega arith in
    record { frames = shows.frames; size = count; run = shows.run; shows = rw last at shows.shows }

pub shown_is_reachable : (c : Parts) (sig : List ℕ) (trace : Trace) (goal : ℕ) → Shows c sig trace goal → Reachable c sig goal
shown_is_reachable c sig trace goal shows =
    let t = length trace.rows.rows - 1 in
    let size : length trace.rows.rows ≡ t + 1 = omega (arith, frame_count c shows.frames trace.rows.rows shows.rows, shows.run.some) in
    record {
      depth = t;
      within = record { state = trace.start; reset = shows.reset; t = t; near = omega arith; at = shown_at c sig trace t goal size shows };
    }

pub shown_once : (c : Parts) (sig : List ℕ) (trace : Trace) (goal other : ℕ) → IsCircuit c → Shows c sig trace goal → Shows c sig trace other → goal ≡ other
shown_once c sig trace goal other ok first second =
    let same : first.frames ≡ second.frames = one_path c trace.start first.frames second.frames ok first.run.path second.run.path (first.rows ∙ sym second.rows) in
    sym first.shows ∙ (ap (λ (frames : List Assignment). goal_of sig (get_or frames (length frames - 1) [])) same ∙ second.shows)

-- ---- what stops a replay
pub shown_has_shape : (c : Parts) (sig : List ℕ) (trace : Trace) (goal : ℕ) → Shows c sig trace goal → HasShape c trace
shown_has_shape c sig trace goal shows = record {
  start = shows.reset.size;
  width = shows.width;
  some = omega (arith, frame_count c shows.frames trace.rows.rows shows.rows, shows.run.some);
}

pub reset_not_wrong : (c : Parts) (start : List Bool) (k : ℕ) → IsReset c start → ¬ StartsWrong c start k
reset_not_wrong c start k reset wrong = wrong.differs some_latch (reset.agrees k some_latch wrong.inside)

-- two paths of the same start agree where both have rows of one trace
frames_same : (c : Parts) (trace : Trace) (frames others : List Assignment) (m n : ℕ) → IsCircuit c → Path c trace.start frames
    → map (input_values c) frames ≡ take m trace.rows.rows → Path c trace.start others → map (input_values c) others ≡ take n trace.rows.rows → m ≤ n
    → take m others ≡ frames
frames_same c trace frames others m n ok path rows path_others rows_others le =
    one_path c trace.start (take m others) frames ok (path_take c m trace.start others path_others) path
    (sym (take-map (input_values c) m others) ∙ (ap (take m) rows_others ∙ (take-take m n trace.rows.rows le ∙ sym rows)))

-- where the frames of a path are legal, no step of them fails
pub legal_not_failing : (c : Parts) (trace : Trace) (frames : List Assignment) (n t : ℕ) → IsCircuit c → Path c trace.start frames
    → map (input_values c) frames ≡ take n trace.rows.rows → n ≤ length trace.rows.rows → All (IsLegal c) frames → t < n → ¬ FailsAt c trace t
legal_not_failing c trace frames n t ok path rows within legal below fails =
    let same : take (t + 1) frames ≡ fails.frames = frames_same c trace fails.frames frames (t + 1) n ok fails.path fails.rows path rows (omega arith) in
    let count : length frames ≡ n = frame_count c frames (take n trace.rows.rows) rows ∙ length-take-le n trace.rows.rows within in
    let at : get_or fails.frames t [] ≡ get_or frames t [] = ap (λ (xs : List Assignment). get_or xs t []) (sym same) ∙ get_or-take (t + 1) frames t [] (omega arith) in
    fails.fails (rw at (All-get_or (IsLegal c) frames t [] (omega arith) legal))

pub shown_not_failing : (c : Parts) (sig : List ℕ) (trace : Trace) (goal t : ℕ) → IsCircuit c → Shows c sig trace goal → ¬ FailsAt c trace t
shown_not_failing c sig trace goal t ok shows fails =
    let n = length trace.rows.rows in
    legal_not_failing c trace shows.frames n t ok shows.run.path (shows.rows ∙ sym (take_all n trace.rows.rows (omega arith))) (omega arith) shows.run.legal
    fails.inside fails

-- ---- what a replay has found after t rows: their path, which is legal, the state that it hands on, and the goal of its last assignment
pub record Found (c : Parts) (sig : List ℕ) (trace : Trace) (t : ℕ) (state : List Bool) (goal : ℕ) : Type 0 where
  pub frames : List Assignment
  pub path : Path c trace.start frames
  pub rows : map (input_values c) frames ≡ take t trace.rows.rows
  pub legal : All (IsLegal c) frames
  pub state_is : state ≡ state_after c trace.start frames
  pub shows : 0 < t → goal_of sig (get_or frames (length frames - 1) []) ≡ goal

pub found_none : (c : Parts) (sig : List ℕ) (trace : Trace) (goal : ℕ) → Found c sig trace 0 trace.start goal
found_none c sig trace goal = record {
  frames = [];
  path = path_none c trace.start;
  rows = refl;
  legal = All-nil (IsLegal c);
  state_is = refl;
  shows = λ some. absurd (omega arith);
}

-- the path with the assignment of one more row
longer_path : (c : Parts) (sig : List ℕ) (trace : Trace) (t : ℕ) (state : List Bool) (goal : ℕ) (a : Assignment) → (found : Found c sig trace t state goal)
    → IsStep c state (get_or trace.rows.rows t []) a → Path c trace.start (found.frames ++ a ∷ [])
longer_path c sig trace t state goal a found step = path_push c trace.start found.frames a found.path step.fits (step.state ∙ found.state_is)

longer_rows : (c : Parts) (sig : List ℕ) (trace : Trace) (t : ℕ) (state : List Bool) (goal : ℕ) (a : Assignment) → (found : Found c sig trace t state goal)
    → t < length trace.rows.rows → IsStep c state (get_or trace.rows.rows t []) a
    → map (input_values c) (found.frames ++ a ∷ []) ≡ take (t + 1) trace.rows.rows
longer_rows c sig trace t state goal a found inside step =
    map_push (input_values c) found.frames a ∙ (rw (found.rows, step.row) (sym (take_more trace.rows.rows t [] inside)))

pub found_more : (c : Parts) (sig : List ℕ) (trace : Trace) (t : ℕ) (state : List Bool) (goal : ℕ) (a : Assignment) → Found c sig trace t state goal
    → t < length trace.rows.rows → IsStep c state (get_or trace.rows.rows t []) a → IsLegal c a
    → Found c sig trace (t + 1) (next_values c a) (goal_of sig a)
found_more c sig trace t state goal a found inside step legal =
    let last : length found.frames ≡ length (found.frames ++ a ∷ []) - 1 = omega (arith, length-append found.frames (a ∷ [])) in
    record {
      frames = found.frames ++ a ∷ [];
      path = longer_path c sig trace t state goal a found step;
      rows = longer_rows c sig trace t state goal a found inside step;
      legal = All-push (IsLegal c) found.frames a found.legal legal;
      state_is = sym (state_after-push c trace.start found.frames a);
      shows = λ some. ap (goal_of sig) (get_or_push found.frames a [] (length (found.frames ++ a ∷ []) - 1) last);
    }

pub found_fails : (c : Parts) (sig : List ℕ) (trace : Trace) (t : ℕ) (state : List Bool) (goal : ℕ) (a : Assignment) → IsCircuit c
    → Found c sig trace t state goal → t < length trace.rows.rows → IsStep c state (get_or trace.rows.rows t []) a → (¬ IsLegal c a)
    → IsFirst (FailsAt c trace) t
found_fails c sig trace t state goal a ok found inside step illegal =
    let count : length found.frames ≡ t = frame_count c found.frames (take t trace.rows.rows) found.rows ∙ length-take-le t trace.rows.rows (omega arith) in
    record {
      here = record {
        inside = inside;
        frames = found.frames ++ a ∷ [];
        path = longer_path c sig trace t state goal a found step;
        rows = longer_rows c sig trace t state goal a found inside step;
        fails = rw (get_or_push found.frames a [] t count) illegal;
      };
      before = λ j below. legal_not_failing c trace found.frames t j ok found.path found.rows (omega arith) found.legal below;
    }

pub found_shows : (c : Parts) (sig : List ℕ) (trace : Trace) (t : ℕ) (state : List Bool) (goal : ℕ) → HasShape c trace → IsReset c trace.start
    → Found c sig trace t state goal → t ≡ length trace.rows.rows → Shows c sig trace goal
found_shows c sig trace t state goal shape reset found all =
    let rows : map (input_values c) found.frames ≡ trace.rows.rows = found.rows ∙ take_all t trace.rows.rows (omega arith) in
    record {
      reset = reset;
      width = shape.width;
      frames = found.frames;
      rows = rows;
      run = record { some = omega (arith, frame_count c found.frames trace.rows.rows rows, shape.some); path = found.path; legal = found.legal };
      shows = found.shows (omega (arith, shape.some));
    }

-- ---- a replay that stops after its start was found right
pub stops_shown : (c : Parts) (sig : List ℕ) (trace : Trace) (fault : ReplayFault) (goal : ℕ) → IsCircuit c → MayStop c trace fault → Shows c sig trace goal
    → fault ≡ OutOfMemory
stops_shown c sig trace Shape goal ok stops shows = absurd stops
stops_shown c sig trace (NotReset k) goal ok stops shows = absurd stops
stops_shown c sig trace (Constraint t) goal ok stops shows = absurd (shown_not_failing c sig trace goal t ok shows stops.here)
stops_shown c sig trace OutOfMemory goal ok stops shows = refl

pub stops_failing : (c : Parts) (trace : Trace) (fault : ReplayFault) (t : ℕ) → MayStop c trace fault → IsFirst (FailsAt c trace) t
    → (fault ≡ Constraint t) ⊎ (fault ≡ OutOfMemory)
stops_failing c trace Shape t stops first = absurd stops
stops_failing c trace (NotReset k) t stops first = absurd stops
stops_failing c trace (Constraint s) t stops first = inl (ap Constraint (first_once (FailsAt c trace) s t stops first))
stops_failing c trace OutOfMemory t stops first = inr refl

pub stops_not_reset : (c : Parts) (trace : Trace) (fault : ReplayFault) (k : ℕ) → MayStop c trace fault → fault ≢ NotReset k
stops_not_reset c trace fault k stops e = rw e at stops
