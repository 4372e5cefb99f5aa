-- What is reachable in a circuit is reachable in its goal circuit, and the other way.
use Rattle.std.proofs.Common.{◌≡◌, ℕ, ◌+◌, ◌<◌, Bool, List, [], ◌∷◌, map, take, length, get_or, sym, ap, ◌∙◌, subst, arith}
use Rattle.std.proofs.lemmas.List.{length-map, get_or-map}
use Rattle.std.proofs.lemmas.List.Elements.{All-head, All-map}
use Rattle.aig_model.specs.WellFormed.{IsCircuit}
use Rattle.aig_model.specs.SignalList.{IsSignals}
use Rattle.aig_model.specs.Meaning.{Assignment, Fits, IsLegal, IsReset, Path, Run, At, Reachable, latch_values, next_values, goal_of}
use Rattle.aig_model.specs.declared.parts.Parts.{Parts}
use Rattle.aig_model.proofs.Paths.{path_none, path_cons, path_tail}
use Rattle.goal_circuit.specs.GoalCircuit.{goal_gates, goal_parts}
use Rattle.goal_circuit.proofs.Agreement.{goal_same, latches_same, next_same, legal_same}
use Rattle.goal_circuit.proofs.Restriction.{agree_front, fit_restricts}
use Rattle.goal_circuit.proofs.Extension.{extended, agree_extended, fit_extended}

-- The map turns assignments of one circuit into those of another, with the same latches, next values and goal.
record Carries (c d : Parts) (sig : List ℕ) (f : Assignment → Assignment) : Type 0 where
  fits : (a : Assignment) → Fits c a → Fits d (f a)
  latches : (a : Assignment) → Fits c a → latch_values d (f a) ≡ latch_values c a
  next : (a : Assignment) → Fits c a → next_values c a ≡ next_values d (f a)
  legal : (a : Assignment) → Fits c a → IsLegal c a → IsLegal d (f a)
  goal : (a : Assignment) → Fits c a → goal_of sig (f a) ≡ goal_of sig a
  reset : (state : List Bool) → IsReset c state → IsReset d state

path_map : (c d : Parts) (sig : List ℕ) (f : Assignment → Assignment) (state : List Bool) (frames : List Assignment) → Carries c d sig f → Path c state frames
    → Path d state (map f frames)
path_map c d sig f state [] carries path = path_none d state
path_map c d sig f state (a ∷ frames) carries path =
    let here : Fits c a = All-head (Fits c) a frames path.fits in
    path_cons d state (f a) (map f frames) (carries.fits a here) (carries.latches a here ∙ path.start (omega arith))
    (subst (λ (s : List Bool). Path d s (map f frames)) (carries.next a here) (path_map c d sig f (next_values c a) frames carries (path_tail c state a frames path)))

run_map : (c d : Parts) (sig : List ℕ) (f : Assignment → Assignment) (state : List Bool) (frames : List Assignment) → Carries c d sig f → Run c state frames
    → Run d state (map f frames)
run_map c d sig f state frames carries run = record {
  some = omega (arith, length-map frames f, run.some);
  path = path_map c d sig f state frames carries run.path;
  legal = All-map (IsLegal d) f frames (λ k a inside. carries.legal (get_or frames k a) (run.path.fits k a inside) (run.legal k a inside));
}

at_map : (c d : Parts) (sig : List ℕ) (f : Assignment → Assignment) (state : List Bool) (t goal : ℕ) → Carries c d sig f → At c sig state t goal → At d sig state t goal
at_map c d sig f state t goal carries at =
    let inside : t < length at.frames = omega (arith, at.size) in
    record {
      frames = map f at.frames;
      size = length-map at.frames f ∙ at.size;
      run = run_map c d sig f state at.frames carries at.run;
      shows = ap (goal_of sig) (get_or-map f at.frames t [] [] inside) ∙ (carries.goal (get_or at.frames t []) (at.run.path.fits t [] inside) ∙ at.shows);
    }

reach_map : (c d : Parts) (sig : List ℕ) (f : Assignment → Assignment) (goal : ℕ) → Carries c d sig f → Reachable c sig goal → Reachable d sig goal
reach_map c d sig f goal carries reachable =
    let w = reachable.within in
    record {
      depth = reachable.depth;
      within = record { state = w.state; reset = carries.reset w.state w.reset; t = w.t; near = w.near; at = at_map c d sig f w.state w.t goal carries w.at };
    }

-- ---- the front of an assignment, and its extension
front_carries : (c : Parts) (sig : List ℕ) → IsCircuit c → IsSignals c sig → Carries (goal_parts c sig) c sig (take (c.top + 1))
front_carries c sig ok signals = record {
  fits = λ a fits. fit_restricts c sig a ok signals fits;
  latches = λ a fits. sym (latches_same c a (take (c.top + 1) a) ok (agree_front c.top a));
  next = λ a fits. next_same c a (take (c.top + 1) a) ok (agree_front c.top a);
  legal = λ a fits legal. legal_same c a (take (c.top + 1) a) ok (agree_front c.top a) legal;
  goal = λ a fits. sym (goal_same c.top a (take (c.top + 1) a) sig (agree_front c.top a) signals.in_range);
  reset = λ state reset. record { size = reset.size; agrees = reset.agrees };
}

extension_carries : (c : Parts) (sig : List ℕ) → IsCircuit c → IsSignals c sig → Carries c (goal_parts c sig) sig (extended (goal_gates c sig))
extension_carries c sig ok signals = record {
  fits = λ a fits. fit_extended c sig a ok signals fits;
  latches = λ a fits. sym (latches_same c a (extended (goal_gates c sig) a) ok (agree_extended c (goal_gates c sig) a fits.size));
  next = λ a fits. next_same c a (extended (goal_gates c sig) a) ok (agree_extended c (goal_gates c sig) a fits.size);
  legal = λ a fits legal. legal_same c a (extended (goal_gates c sig) a) ok (agree_extended c (goal_gates c sig) a fits.size) legal;
  goal = λ a fits. sym (goal_same c.top a (extended (goal_gates c sig) a) sig (agree_extended c (goal_gates c sig) a fits.size) signals.in_range);
  reset = λ state reset. record { size = reset.size; agrees = reset.agrees };
}

pub same_reach : (c : Parts) (sig : List ℕ) (goal : ℕ) → IsCircuit c → IsSignals c sig
    → (Reachable (goal_parts c sig) sig goal → Reachable c sig goal) × (Reachable c sig goal → Reachable (goal_parts c sig) sig goal)
same_reach c sig goal ok signals = (
  reach_map (goal_parts c sig) c sig (take (c.top + 1)) goal (front_carries c sig ok signals),
  reach_map c (goal_parts c sig) sig (extended (goal_gates c sig)) goal (extension_carries c sig ok signals),
)
