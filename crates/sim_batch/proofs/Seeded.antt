-- How the state goes on along a trace's rows, and what leads to a seed.
use Rattle.std.proofs.Common.{◌≡◌, ℕ, ◌+◌, ◌<◌, Bool, List, [], ◌∷◌, ◌++◌, map, length, get_or, take, sym, ap, ◌∙◌, arith}
use Rattle.std.proofs.lemmas.List.{length-map, map_push, take_more, take-map}
use Rattle.std.proofs.lemmas.List.Elements.{All-take}
use Rattle.aig_model.specs.Meaning.{Assignment, IsLegal, IsStep, Path, input_values, next_values}
use Rattle.aig_model.specs.WellFormed.{IsCircuit}
use Rattle.aig_model.specs.declared.parts.Parts.{Parts}
use Rattle.aig_model.specs.declared.trace.Trace.{Trace}
use Rattle.aig_model.specs.Meaning.{state_after}
use Rattle.aig_model.proofs.Paths.{path_take, path_push, one_path, state_after-push}
use Rattle.aig_model.specs.Table.{Table}
use Rattle.sim_batch.specs.Seeds.{IsSeed, ShowsSome, LeadsTo}

pub goes_on : (c : Parts) (start : List Bool) (frames : List Assignment) (rows : List (List Bool)) (k : ℕ) (state : List Bool) (a : Assignment) → IsCircuit c
    → map (input_values c) frames ≡ rows → Path c start frames → k < length rows → state ≡ state_after c start (take k frames) → IsStep c state (get_or rows k []) a
    → next_values c a ≡ state_after c start (take (k + 1) frames)
goes_on c start frames rows k state a ok inputs path inside leads step =
    let grown = path_push c start (take k frames) a (path_take c k start frames path) step.fits (step.state ∙ leads) in
    let both : map (input_values c) (take k frames ++ a ∷ []) ≡ map (input_values c) (take (k + 1) frames)
    = map_push (input_values c) (take k frames) a
    ∙ ap (λ l. l ++ input_values c a ∷ []) (sym (take-map (input_values c) k frames) ∙ ap (take k) inputs)
    ∙ ap (λ r. take k rows ++ r ∷ []) step.row
    ∙ sym (take_more rows k [] inside)
    ∙ ap (take (k + 1)) (sym inputs) ∙ take-map (input_values c) (k + 1) frames in
    sym (state_after-push c start (take k frames) a) ∙ ap (state_after c start) (one_path c start (take k frames ++ a ∷ []) (take (k + 1) frames) ok grown (path_take c (k + 1) start frames path) both)

pub shown_some : (c : Parts) (trace : Trace) → ShowsSome c trace → 0 < length trace.rows.rows
shown_some c trace s = omega (arith, ap length s.shows.rows, length-map s.shows.frames (input_values c), s.shows.run.some)

pub is_seed : (c : Parts) (trace : Trace) (start : List Bool) (rows : Table) (state : List Bool) (last : ℕ) → ShowsSome c trace
    → start ≡ trace.start → rows.width ≡ trace.rows.width → rows.rows ≡ take last trace.rows.rows → LeadsTo c trace last state
    → IsSeed c start rows state
is_seed c trace start rows state last s same width upto leads =
    let frames = s.shows.frames in
    record {
      reset = rw same s.shows.reset;
      width = width ∙ s.shows.width;
      frames = take last frames;
      inputs = sym (take-map (input_values c) last frames) ∙ ap (take last) s.shows.rows ∙ sym upto;
      path = rw same (path_take c last trace.start frames s.shows.run.path);
      legal = All-take (IsLegal c) last frames s.shows.run.legal;
      leads = rw same (leads frames s.shows.rows s.shows.run.path);
    }
