-- Values satisfy the frames exactly where they are a run.
use Rattle.std.proofs.Common.{◌≡◌, ◌↔◌, ℕ, zero, suc, ◌+◌, ◌<◌, ◌≤◌, Bool, List, [], length, get_or, sym, ap, ◌∙◌, subst, arith, zero-add, add-one}
use Rattle.std.specs.List.{range_with_len}
use Rattle.std.proofs.lemmas.List.FromFn.{length-range_with_len, get_or-range_with_len}
use Rattle.cnf_base.specs.Meaning.{Satisfies, value_of as cnf_value}
use Rattle.aig_model.specs.WellFormed.{IsCircuit}
use Rattle.aig_model.specs.Meaning.{Assignment, Fits, IsLegal, Run, latch_values, next_values}
use Rattle.aig_model.specs.declared.parts.Parts.{Parts}
use Rattle.aig_model.proofs.Tables.{length-rows_of, get_or-rows_of}
use Rattle.unroll.specs.declared.start.Start.{Start}
use Rattle.unroll.specs.Starts.{IsStart, Allows}
use Rattle.unroll.specs.Frames.{vars_before, frame_clauses, frames_clauses}
use Rattle.unroll.specs.Laws.{AreRun, FramesAreRuns, frames_of}
use Rattle.unroll.proofs.Room.{before_le}
use Rattle.unroll.proofs.Truth.{sat_flat_map}
use Rattle.unroll.proofs.FrameMeaning.{frame, EntryIs, FrameIs, frame_means}

step_in : (last t : ℕ) → t < last + 1 → get_or (range_with_len 0 (last + 1)) t 0 ≡ t
step_in last t h = get_or-range_with_len 0 (last + 1) t 0 h ∙ zero-add t

fits_in : (c : Parts) (last t : ℕ) (bits : List Bool) → t < last + 1 → length bits ≡ vars_before c (last + 1) → vars_before c (t + 1) ≤ length bits
fits_in c last t bits h size = omega (arith, before_le c (t + 1) (last + 1) (omega arith), size)

pub frames_mean : (c : Parts) (start : Start) (last : ℕ) (bits : List Bool) → IsCircuit c → IsStart c start → length bits ≡ vars_before c (last + 1)
    → Satisfies (cnf_value bits) (frames_clauses c start last) ↔ ((t : ℕ) → t < last + 1 → FrameIs c start bits t)
frames_mean c start last bits ok is size =
    let v = cnf_value bits in
    let steps = range_with_len 0 (last + 1) in
    let many = length-range_with_len 0 (last + 1) in
    let each = sat_flat_map v (frame_clauses c start) steps in
    let P : ℕ → Type 0 = λ t. Satisfies v (frame_clauses c start t) in (
      λ h t inside. (frame_means c start bits t ok is (fits_in c last t bits inside size)).0 (subst P (step_in last t inside) (each.0 h t 0 (omega (arith, many)))),
      λ all. each.1
          (λ k d h.
          let inside : k < last + 1 = omega (arith, many) in
          let here : P k = (frame_means c start bits k ok is (fits_in c last k bits inside size)).1 (all k inside) in
          subst P (sym (get_or-range_with_len 0 (last + 1) k d inside ∙ zero-add k)) here),
    )

pub frame_at : (c : Parts) (last : ℕ) (bits : List Bool) (t : ℕ) (d : Assignment) → t < last + 1 → get_or (frames_of c last bits) t d ≡ frame c t bits
frame_at c last bits t d h = get_or-rows_of (c.top + 1) (last + 1) bits t d h

pub frame_count : (c : Parts) (last : ℕ) (bits : List Bool) → length (frames_of c last bits) ≡ last + 1
frame_count c last bits = length-rows_of (c.top + 1) (last + 1) bits

run_of : (c : Parts) (start : Start) (last : ℕ) (bits : List Bool) → ((t : ℕ) → t < last + 1 → FrameIs c start bits t)
    → Run c (latch_values c (frame c 0 bits)) (frames_of c last bits)
run_of c start last bits all =
    let fs = frames_of c last bits in
    let count = frame_count c last bits in
    record {
      some = omega arith;
      path = record {
        fits = λ k d h.
            let inside : k < last + 1 = omega arith in
            subst (Fits c) (sym (frame_at c last bits k d inside)) ((all k inside).fits);
        start = λ h. ap (latch_values c) (frame_at c last bits 0 [] (omega arith));
        next = λ t h.
            let inside : suc t < last + 1 = omega arith in
            let before : t < last + 1 = omega arith in
            ap (λ n. latch_values c (get_or fs n [])) (add-one t)
            ∙ (ap (latch_values c) (frame_at c last bits (suc t) [] inside)
            ∙ ((all (suc t) inside).entry ∙ sym (ap (next_values c) (frame_at c last bits t [] before))));
      };
      legal = λ k d h.
          let inside : k < last + 1 = omega arith in
          subst (IsLegal c) (sym (frame_at c last bits k d inside)) ((all k inside).legal);
    }

entry_of : (c : Parts) (start : Start) (last : ℕ) (bits : List Bool) (t : ℕ) → t < last + 1 → AreRun c start last bits → EntryIs c start bits t
entry_of c start last bits zero h r =
    let count = frame_count c last bits in
    subst (Allows c start) (sym (r.run.path.start (omega arith)) ∙ ap (latch_values c) (frame_at c last bits 0 [] h)) r.allowed
entry_of c start last bits (suc t) h r =
    let fs = frames_of c last bits in
    let count = frame_count c last bits in
    let before : t < last + 1 = omega arith in
    sym (ap (latch_values c) (frame_at c last bits (suc t) [] h))
    ∙ (ap (λ n. latch_values c (get_or fs n [])) (sym (add-one t))
    ∙ (r.run.path.next t (omega arith) ∙ ap (next_values c) (frame_at c last bits t [] before)))

frame_of : (c : Parts) (start : Start) (last : ℕ) (bits : List Bool) (t : ℕ) → t < last + 1 → AreRun c start last bits → FrameIs c start bits t
frame_of c start last bits t h r =
    let count = frame_count c last bits in
    let at = frame_at c last bits t [] h in
    record {
      fits = subst (Fits c) at (r.run.path.fits t [] (omega arith));
      legal = subst (IsLegal c) at (r.run.legal t [] (omega arith));
      entry = entry_of c start last bits t h r;
    }

pub frames_are_runs_lem : FramesAreRuns
frames_are_runs_lem c start last bits ok is = (
  λ model.
      let all = (frames_mean c start last bits ok is model.number).0 model.satisfies in
      record {
        size = model.number;
        state = latch_values c (frame c 0 bits);
        allowed = (all 0 (omega arith)).entry;
        run = run_of c start last bits all;
      },
  λ r. record { number = r.size; satisfies = (frames_mean c start last bits ok is r.size).1 (λ t h. frame_of c start last bits t h r) },
)
