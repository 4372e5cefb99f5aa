-- What an invariant's clauses say along a path.
use Rattle.std.proofs.Common.{◌≡◌, ℕ, zero, suc, ◌<◌, Bool, ℤ, List, [], ◌∷◌, length, get_or, sym, subst, arith, All}
use Rattle.std.proofs.lemmas.List.Elements.{All-head, All-tail, All-get_or}
use Rattle.aig_model.specs.Meaning.{Assignment, Fits, IsLegal, Path, Reachable, latch_values, next_values}
use Rattle.aig_model.specs.LatchClauses.{SatisfiesClauses, IsInvariant, Bars}
use Rattle.aig_model.specs.declared.parts.Parts.{Parts}
use Rattle.aig_model.proofs.Paths.{path_tail}

-- where the clauses hold in the first state, they hold in each
kept_along : (c : Parts) (clauses : List (List ℤ)) (state : List Bool) (frames : List Assignment) (t : ℕ) → IsInvariant c clauses → Path c state frames
    → All (IsLegal c) frames → SatisfiesClauses state clauses → t < length frames → SatisfiesClauses (latch_values c (get_or frames t [])) clauses
kept_along c clauses state [] t invariant path legal holds inside = absurd (omega (arith, inside))
kept_along c clauses state (a ∷ frames) zero invariant path legal holds inside =
    subst (λ (s : List Bool). SatisfiesClauses s clauses) (sym (path.start (omega arith))) holds
kept_along c clauses state (a ∷ frames) (suc t) invariant path legal holds inside =
    let first : latch_values c a ≡ state = path.start (omega arith) in
    let here : SatisfiesClauses (latch_values c a) clauses = subst (λ (s : List Bool). SatisfiesClauses s clauses) (sym first) holds in
    kept_along c clauses (next_values c a) frames t invariant (path_tail c state a frames path) (All-tail (IsLegal c) a frames legal)
    (invariant.kept a (All-head (Fits c) a frames path.fits) (All-head (IsLegal c) a frames legal) here)
    (omega (arith, inside))

pub barred_is_unreachable : (c : Parts) (sig : List ℕ) (clauses : List (List ℤ)) (goal : ℕ) → Bars c sig clauses goal → ¬ Reachable c sig goal
barred_is_unreachable c sig clauses goal bars reachable =
    let within = reachable.within in
    let frames = within.at.frames in
    let inside : within.t < length frames = omega (arith, within.at.size) in
    bars.excludes (get_or frames within.t [])
    (All-get_or (Fits c) frames within.t [] inside within.at.run.path.fits)
    (All-get_or (IsLegal c) frames within.t [] inside within.at.run.legal)
    (kept_along c clauses within.state frames within.t bars.invariant within.at.run.path within.at.run.legal (bars.invariant.start within.state within.reset) inside)
    within.at.shows
