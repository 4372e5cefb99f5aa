-- What the search formula means: a run that ends in a goal that is not blocked.
use Rattle.std.proofs.Common.{◌≡◌, ◌≢◌, ◌↔◌, ℕ, zero, suc, ◌+◌, ◌*◌, ◌^◌, ◌<◌, inl, inr, Bool, true, List, [], ◌∷◌, ◌++◌, map, take, drop, length, get_or, sym, ap, ◌∙◌, subst, arith, All, Contains, length-append}
use Rattle.std.specs.List.{flat_map}
use Rattle.std.proofs.lemmas.List.{take_all, take-append-le}
use Rattle.std.proofs.lemmas.List.FromFn.{fill_by_all}
use Rattle.std.proofs.lemmas.List.Elements.{All-head, All-tail, All-weaker}
use Rattle.cnf_base.specs.Meaning.{clause_true, Satisfies, value_of as cnf_value}
use Rattle.aig_model.specs.Literal.{value_of}
use Rattle.aig_model.specs.WellFormed.{IsInRange}
use Rattle.aig_model.specs.SignalList.{IsSignals}
use Rattle.aig_model.specs.Table.{row_of, rows_of}
use Rattle.aig_model.specs.Meaning.{Assignment, Fits, Run, goal_of}
use Rattle.aig_model.specs.declared.parts.Parts.{Parts}
use Rattle.aig_model.proofs.Elements.{Contains-or_not}
use Rattle.unroll.specs.declared.start.Start.{Start}
use Rattle.unroll.specs.Starts.{Allows}
use Rattle.unroll.specs.Frames.{vars_before, lit_after, frames_clauses}
use Rattle.unroll.specs.Queries.{blocking_clause}
use Rattle.unroll.specs.Laws.{AreRun, SearchedAreNew, NoneIsNew, frames_of}
use Rattle.unroll.proofs.Truth.{iff_trans, all_iff, sat_append, sat_map, Reads, frame_after, read_lit}
use Rattle.unroll.proofs.FrameMeaning.{frame}
use Rattle.unroll.proofs.RunMeaning.{frames_are_runs_lem, frame_at}
use Rattle.unroll.proofs.GoalMeaning.{goal_blocked, none_blocked}

-- ---- the goal of the last step
pub signals_read : (c : Parts) (before : ℕ) (bits : List Bool) (sig : List ℕ) → IsSignals c sig
    → All (λ lit. Reads (cnf_value bits) (lit_after before lit) (value_of (frame_after (c.top + 1) before bits) lit)) sig
signals_read c before bits sig are =
    All-weaker (IsInRange c.top) (λ lit. Reads (cnf_value bits) (lit_after before lit) (value_of (frame_after (c.top + 1) before bits) lit))
    (λ lit h. read_lit (c.top + 1) before bits lit (omega arith)) sig are.in_range

blocked_mean : (c : Parts) (sig : List ℕ) (before : ℕ) (bits : List Bool) (blocked : List ℕ) → IsSignals c sig → All (λ goal. goal < 2 ^ length sig) blocked
    → Satisfies (cnf_value bits) (map (blocking_clause before sig) blocked) ↔ (¬ Contains blocked (goal_of sig (frame_after (c.top + 1) before bits)))
blocked_mean c sig before bits blocked are below =
    let v = cnf_value bits in
    let a = frame_after (c.top + 1) before bits in
    iff_trans (sat_map v (blocking_clause before sig) blocked)
    (iff_trans
    (all_iff (λ goal. goal < 2 ^ length sig) (λ goal. clause_true v (blocking_clause before sig goal) ≡ true) (λ goal. goal_of sig a ≢ goal) blocked below
    (λ goal h. goal_blocked v a before sig goal (signals_read c before bits sig are) h))
    (none_blocked blocked (goal_of sig a)))

pub searched_are_new_lem : SearchedAreNew
searched_are_new_lem c sig start step blocked bits ok are is below =
    let v = cnf_value bits in
    let before = vars_before c step in
    let runs = frames_are_runs_lem c start step bits ok is in
    let whole = sat_append v (frames_clauses c start step) (map (blocking_clause before sig) blocked) in
    let last = blocked_mean c sig before bits blocked are below in
    let here : get_or (frames_of c step bits) step [] ≡ frame c step bits = frame_at c step bits step [] (omega arith) in
    let IsNew : Assignment → Type 0 = λ a. ¬ Contains blocked (goal_of sig a) in (
      λ model.
          let parts = whole.0 model.satisfies in
          record { run = runs.0 (record { number = model.number; satisfies = parts.0 }); goal = subst IsNew (sym here) (last.0 parts.1) },
      λ new.
          let model = runs.1 new.run in
          record { number = model.number; satisfies = whole.1 (model.satisfies, last.1 (subst IsNew here new.goal)) },
    )

-- ---- the values of the frames of a run
abbrev whole_of : List Assignment → List Bool
whole_of frames = flat_map (λ a. a) frames

length-whole : (w : ℕ) (frames : List Assignment) → All (λ a. length a ≡ w) frames → length (whole_of frames) ≡ length frames * w
length-whole w [] wide = omega arith
length-whole w (a ∷ frames) wide =
    let here : length a ≡ w = All-head (λ a. length a ≡ w) a frames wide in
    let rest = length-whole w frames (All-tail (λ a. length a ≡ w) a frames wide) in
    let both = length-append a (whole_of frames) in
    omega arith

drop-past : (a more : List Bool) (n : ℕ) → drop (length a + n) (a ++ more) ≡ drop n more
drop-past [] more n = let e : 0 + n ≡ n = omega arith in ap (λ k. drop k more) e
drop-past (x ∷ a) more n = let e : length (x ∷ a) + n ≡ suc (length a + n) = omega arith in ap (λ k. drop k (x ∷ (a ++ more))) e ∙ drop-past a more n

row_of-whole : (w : ℕ) (frames : List Assignment) (t : ℕ) (d : Assignment) → All (λ a. length a ≡ w) frames → t < length frames
    → get_or frames t d ≡ row_of w (whole_of frames) t
row_of-whole w [] t d wide h = absurd (omega (arith, h))
row_of-whole w (a ∷ frames) zero d wide h =
    let here : length a ≡ w = All-head (λ a. length a ≡ w) a frames wide in
    let e : 0 * w ≡ 0 = omega arith in
    sym (ap (λ k. take w (drop k (a ++ whole_of frames))) e ∙ (take-append-le w a (whole_of frames) (omega arith) ∙ take_all w a (omega arith)))
row_of-whole w (a ∷ frames) (suc t) d wide h =
    let here : length a ≡ w = All-head (λ a. length a ≡ w) a frames wide in
    let e : suc t * w ≡ length a + t * w = omega arith in
    row_of-whole w frames t d (All-tail (λ a. length a ≡ w) a frames wide) (omega (arith, h))
    ∙ sym (ap (λ k. take w (drop k (a ++ whole_of frames))) e ∙ ap (take w) (drop-past a (whole_of frames) (t * w)))

rows-whole : (w n : ℕ) (frames : List Assignment) → length frames ≡ n → All (λ a. length a ≡ w) frames → frames ≡ rows_of w n (whole_of frames)
unfolding rows_of
rows-whole w n frames size wide = fill_by_all (row_of w (whole_of frames)) frames n [] size (λ k h. row_of-whole w frames k [] wide (omega arith))

run_as_values : (c : Parts) (start : Start) (last : ℕ) (state : List Bool) (frames : List Assignment) → length frames ≡ last + 1 → Allows c start state
    → Run c state frames → AreRun c start last (whole_of frames) × (frames_of c last (whole_of frames) ≡ frames)
run_as_values c start last state frames size allowed run =
    let w = c.top + 1 in
    let wide : All (λ a. length a ≡ w) frames = All-weaker (Fits c) (λ a. length a ≡ w) (λ a fits. fits.size) frames run.path.fits in
    let same : frames ≡ frames_of c last (whole_of frames) = rows-whole w (last + 1) frames size wide in (
      record {
        size = length-whole w frames wide ∙ ap (λ n. n * w) size;
        state = state;
        allowed = allowed;
        run = subst (Run c state) same run;
      },
      sym same,
    )

pub none_is_new_lem : NoneIsNew
none_is_new_lem c sig start step blocked ok are is below refuted state goal allowed at =
    let bits = whole_of at.frames in
    let values = run_as_values c start step state at.frames at.size allowed at.run in
    let shown : goal_of sig (get_or (frames_of c step bits) step []) ≡ goal = ap (λ fs. goal_of sig (get_or fs step [])) values.1 ∙ at.shows in
    elim (Contains-or_not blocked goal) [
      | inl there ↦ there
      | inr missing ↦
          absurd
          (refuted (cnf_value bits)
          (((searched_are_new_lem c sig start step blocked bits ok are is below).1
          (record { run = values.0; goal = λ h. missing (subst (Contains blocked) shown h) })).satisfies))
    ]
