-- Paths from the zero state with rows of zeros.
use Rattle.std.proofs.Common.{◌≡◌, ℕ, ◌+◌, ◌<◌, ◌≤◌, Bool, List, [], ◌∷◌, ◌++◌, map, take, length, get_or, replicate, refl, sym, ap, ◌∙◌, arith, All}
use Rattle.std.proofs.lemmas.List.{get_or-take, length-take-le}
use Rattle.std.proofs.lemmas.List.Elements.{All-push, All-nil, All-head, All-tail, All-take}
use Rattle.aig_model.specs.WellFormed.{IsCircuit}
use Rattle.aig_model.specs.Meaning.{Assignment, IsStep, Path, input_values, state_after}
use Rattle.aig_model.specs.declared.parts.Parts.{Parts}
use Rattle.aig_model.proofs.Paths.{path_none, path_push, path_take, one_path}
use Rattle.sim_walk.specs.Zero.{zero_state, zero_row}
use Rattle.sim_walk.proofs.OneLane.{IsSeen}

pub record IsZeroPath (c : Parts) (frames : List Assignment) : Type 0 where
  pub path : Path c (zero_state c) frames
  pub rows : All (λ a. input_values c a ≡ zero_row c) frames

pub zero_path_none : (c : Parts) → IsZeroPath c []
zero_path_none c = record { path = path_none c (zero_state c); rows = All-nil (λ a. input_values c a ≡ zero_row c) }

pub zero_path_push : (c : Parts) (frames : List Assignment) (a : Assignment) → IsZeroPath c frames → IsStep c (state_after c (zero_state c) frames) (zero_row c) a
    → IsZeroPath c (frames ++ a ∷ [])
zero_path_push c frames a p step = record {
  path = path_push c (zero_state c) frames a p.path step.fits step.state;
  rows = All-push (λ x. input_values c x ≡ zero_row c) frames a p.rows step.row;
}

pub visit_path : (c : Parts) (sig : List ℕ) (steps t goal : ℕ) → (v : IsSeen c sig steps t goal) → IsZeroPath c v.frames
visit_path c sig steps t goal v = record { path = v.run.path; rows = v.rows }

pub same_rows : (c : Parts) (r : List Bool) (frames : List Assignment) → All (λ a. input_values c a ≡ r) frames → map (input_values c) frames ≡ replicate (length frames) r
same_rows c r [] h = refl
same_rows c r (a ∷ frames) h =
    let head : input_values c a ≡ r = All-head (λ x. input_values c x ≡ r) a frames h in
    let tail : map (input_values c) frames ≡ replicate (length frames) r = same_rows c r frames (All-tail (λ x. input_values c x ≡ r) a frames h) in
    cc

first_rows : (c : Parts) (frames : List Assignment) (n : ℕ) → IsZeroPath c frames → n ≤ length frames → map (input_values c) (take n frames) ≡ replicate n (zero_row c)
first_rows c frames n p h =
    same_rows c (zero_row c) (take n frames) (All-take (λ a. input_values c a ≡ zero_row c) n frames p.rows)
    ∙ ap (λ k. replicate k (zero_row c)) (length-take-le n frames h)

-- two such paths agree as far as both go
pub zero_paths_agree : (c : Parts) (fs gs : List Assignment) → IsCircuit c → IsZeroPath c fs → IsZeroPath c gs
    → (t : ℕ) → t < length fs → t < length gs → get_or fs t [] ≡ get_or gs t []
zero_paths_agree c fs gs ok p q t l m =
    let same : take (t + 1) fs ≡ take (t + 1) gs =
    one_path c (zero_state c) (take (t + 1) fs) (take (t + 1) gs) ok
    (path_take c (t + 1) (zero_state c) fs p.path)
    (path_take c (t + 1) (zero_state c) gs q.path)
    (first_rows c fs (t + 1) p (omega arith) ∙ sym (first_rows c gs (t + 1) q (omega arith))) in
    sym (get_or-take (t + 1) fs t [] (omega arith)) ∙ (ap (λ xs. get_or xs t []) same ∙ get_or-take (t + 1) gs t [] (omega arith))
