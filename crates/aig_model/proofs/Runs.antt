-- Runs: up to a frame, from it on, one after another, and the goals and traces that their steps show.
use Rattle.std.proofs.Common.{◌≡◌, ℕ, ◌+◌, ◌-◌, ◌<◌, Bool, List, [], ◌∷◌, ◌++◌, map, take, drop, length, get_or, sym, ap, ◌∙◌, subst, arith, length-append, length-drop, All}
use Rattle.std.proofs.lemmas.List.{get_or-append-add, get_or-take, length-take, length-take-le, take-map}
use Rattle.std.proofs.lemmas.List.Elements.{All-nil, All-cons, All-append, All-take, All-drop}
use Rattle.aig_model.specs.Meaning.{Assignment, Fits, IsLegal, IsReset, Path, Run, At, input_values, latch_values, next_values, state_after, goal_of}
use Rattle.aig_model.specs.Replays.{Shows}
use Rattle.aig_model.specs.declared.parts.Parts.{Parts}
use Rattle.aig_model.specs.declared.trace.Trace.{Trace}
use Rattle.aig_model.proofs.Paths.{path_none, path_cons, path_append, path_take, path_drop, path_latches}

pub run_front : (c : Parts) (state : List Bool) (frames : List Assignment) (n : ℕ) → Run c state frames → Run c state (take (n + 1) frames)
run_front c state frames n run = record {
  some = omega (arith, length-take (n + 1) frames, run.some);
  path = path_take c (n + 1) state frames run.path;
  legal = All-take (IsLegal c) (n + 1) frames run.legal;
}

pub run_end : (c : Parts) (state : List Bool) (frames : List Assignment) (n : ℕ) → Run c state frames → n < length frames
    → Run c (latch_values c (get_or frames n [])) (drop n frames)
run_end c state frames n run inside = record {
  some = omega (arith, length-drop n frames);
  path = subst (λ (s : List Bool). Path c s (drop n frames)) (sym (path_latches c state frames n run.path inside)) (path_drop c n state frames run.path);
  legal = All-drop (IsLegal c) n frames run.legal;
}

pub run_append : (c : Parts) (state : List Bool) (frames more : List Assignment) → Path c state frames → All (IsLegal c) frames
    → Run c (state_after c state frames) more → Run c state (frames ++ more)
run_append c state frames more path legal next = record {
  some = omega (arith, length-append frames more, next.some);
  path = path_append c state frames more path next.path;
  legal = All-append (IsLegal c) frames more legal next.legal;
}

pub run_push : (c : Parts) (state : List Bool) (frames : List Assignment) (a : Assignment) → Path c state frames → All (IsLegal c) frames → Fits c a
    → latch_values c a ≡ state_after c state frames → IsLegal c a → Run c state (frames ++ a ∷ [])
run_push c state frames a path legal fits start here =
    run_append c state frames (a ∷ []) path legal (record {
      some = omega arith;
      path = path_cons c (state_after c state frames) a [] fits start (path_none c (next_values c a));
      legal = All-cons (IsLegal c) a [] here (All-nil (IsLegal c));
    })

pub at_step : (c : Parts) (sig : List ℕ) (state : List Bool) (frames : List Assignment) (t : ℕ) → Run c state frames → t < length frames
    → At c sig state t (goal_of sig (get_or frames t []))
at_step c sig state frames t run inside = record {
  frames = take (t + 1) frames;
  size = length-take-le (t + 1) frames (omega arith);
  run = run_front c state frames t run;
  shows = ap (goal_of sig) (get_or-take (t + 1) frames t [] (omega arith));
}

pub at_after : (c : Parts) (sig : List ℕ) (state : List Bool) (frames : List Assignment) (t goal : ℕ) → Path c state frames → All (IsLegal c) frames
    → At c sig (state_after c state frames) t goal → At c sig state (length frames + t) goal
at_after c sig state frames t goal path legal at = record {
  frames = frames ++ at.frames;
  size = omega (arith, length-append frames at.frames, at.size);
  run = run_append c state frames at.frames path legal at.run;
  shows = ap (goal_of sig) (get_or-append-add frames at.frames t []) ∙ at.shows;
}

pub shown_by_run : (c : Parts) (sig : List ℕ) (trace : Trace) (frames : List Assignment) (t : ℕ) → IsReset c trace.start
    → trace.rows.width ≡ length c.inputs → Run c trace.start frames → t < length frames → trace.rows.rows ≡ take (t + 1) (map (input_values c) frames)
    → Shows c sig trace (goal_of sig (get_or frames t []))
shown_by_run c sig trace frames t reset width run inside rows =
    let count : length (take (t + 1) frames) ≡ t + 1 = length-take-le (t + 1) frames (omega arith) in
    let last : length (take (t + 1) frames) - 1 ≡ t = omega arith in
    record {
      reset = reset;
      width = width;
      frames = take (t + 1) frames;
      rows = sym (rows ∙ take-map (input_values c) (t + 1) frames);
      run = run_front c trace.start frames t run;
      shows = rw last (ap (goal_of sig) (get_or-take (t + 1) frames t [] (omega arith)));
    }
