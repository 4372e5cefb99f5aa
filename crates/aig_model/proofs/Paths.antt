-- Paths: head and tail, one after another, up to a frame and from it on.
use Rattle.std.proofs.Common.{◌≡◌, ℕ, zero, suc, ◌<◌, Bool, List, [], ◌∷◌, ◌++◌, map, take, drop, length, get_or, refl, sym, ◌∙◌, add-one, arith}
use Rattle.std.proofs.lemmas.List.{length-map}
use Rattle.std.proofs.lemmas.List.Elements.{All-nil, All-cons, All-head, All-tail}
use Rattle.aig_model.specs.Literal.{value_of}
use Rattle.aig_model.specs.WellFormed.{IsCircuit, next_lits}
use Rattle.aig_model.specs.Meaning.{Assignment, Fits, IsStep, Path, input_values, latch_values, next_values, state_after}
use Rattle.aig_model.specs.declared.parts.Latch.{Latch}
use Rattle.aig_model.specs.declared.parts.Parts.{Parts}
use Rattle.aig_model.proofs.OneAssignment.{one_assignment_lem}

pub path_none : (c : Parts) (state : List Bool) → Path c state []
path_none c state = record { fits = All-nil (Fits c); start = λ h. absurd (omega arith); next = λ t h. absurd (omega arith) }

-- ---- the first assignment, and those after it
pub path_head : (c : Parts) (state : List Bool) (a : Assignment) (frames : List Assignment) → Path c state (a ∷ frames) → IsStep c state (input_values c a) a
path_head c state a frames path = record { fits = All-head (Fits c) a frames path.fits; state = path.start (omega arith); row = refl }

pub path_tail : (c : Parts) (state : List Bool) (a : Assignment) (frames : List Assignment) → Path c state (a ∷ frames) → Path c (next_values c a) frames
path_tail c state a frames path = record {
  fits = All-tail (Fits c) a frames path.fits;
  start = λ h. path.next 0 (omega arith);
  next = λ t h. rw add-one (rw add-one at (path.next (suc t) (omega arith)));
}

after_head : (c : Parts) (a : Assignment) (frames : List Assignment) → Path c (next_values c a) frames → (t : ℕ) → t < length frames
    → latch_values c (get_or frames t []) ≡ next_values c (get_or (a ∷ frames) t [])
after_head c a frames path zero h = path.start h
after_head c a frames path (suc t) h = rw add-one at (path.next t (omega arith))

pub path_cons : (c : Parts) (state : List Bool) (a : Assignment) (frames : List Assignment) → Fits c a → latch_values c a ≡ state
    → Path c (next_values c a) frames → Path c state (a ∷ frames)
path_cons c state a frames fits start path = record {
  fits = All-cons (Fits c) a frames fits path.fits;
  start = λ h. start;
  next = λ t h. rw add-one (after_head c a frames path t (omega arith));
}

-- ---- one path after another
pub path_append : (c : Parts) (state : List Bool) (frames more : List Assignment) → Path c state frames → Path c (state_after c state frames) more
    → Path c state (frames ++ more)
path_append c state [] more path rest = rest
path_append c state (a ∷ frames) more path rest =
    path_cons c state a (frames ++ more) (All-head (Fits c) a frames path.fits) (path.start (omega arith))
    (path_append c (next_values c a) frames more (path_tail c state a frames path) rest)

pub path_push : (c : Parts) (state : List Bool) (frames : List Assignment) (a : Assignment) → Path c state frames → Fits c a
    → latch_values c a ≡ state_after c state frames → Path c state (frames ++ a ∷ [])
path_push c state frames a path fits start =
    path_append c state frames (a ∷ []) path (path_cons c (state_after c state frames) a [] fits start (path_none c (next_values c a)))

-- the part of a path up to a step is a path
pub path_take : (c : Parts) (n : ℕ) (state : List Bool) (frames : List Assignment) → Path c state frames → Path c state (take n frames)
path_take c zero state frames path = path_none c state
path_take c (suc n) state [] path = path
path_take c (suc n) state (a ∷ frames) path =
    path_cons c state a (take n frames) (All-head (Fits c) a frames path.fits) (path.start (omega arith))
    (path_take c n (next_values c a) frames (path_tail c state a frames path))

-- the part of a path from a step on is a path
pub path_drop : (c : Parts) (n : ℕ) (state : List Bool) (frames : List Assignment) → Path c state frames
    → Path c (state_after c state (take n frames)) (drop n frames)
path_drop c zero state frames path = path
path_drop c (suc n) state [] path = path
path_drop c (suc n) state (a ∷ frames) path = path_drop c n (next_values c a) frames (path_tail c state a frames path)

-- the latches of a frame hold what those before it hand on
pub path_latches : (c : Parts) (state : List Bool) (frames : List Assignment) (n : ℕ) → Path c state frames → n < length frames
    → latch_values c (get_or frames n []) ≡ state_after c state (take n frames)
path_latches c state [] n path inside = absurd (omega (arith, inside))
path_latches c state (a ∷ frames) zero path inside = path.start (omega arith)
path_latches c state (a ∷ frames) (suc n) path inside = path_latches c (next_values c a) frames n (path_tail c state a frames path) (omega (arith, inside))

-- ---- the state that a path hands on
pub state_after-append : (c : Parts) (state : List Bool) (frames more : List Assignment)
    → state_after c state (frames ++ more) ≡ state_after c (state_after c state frames) more
state_after-append c state [] more = refl
state_after-append c state (a ∷ frames) more = state_after-append c (next_values c a) frames more

pub state_after-push : (c : Parts) (state : List Bool) (frames : List Assignment) (a : Assignment) → state_after c state (frames ++ a ∷ []) ≡ next_values c a
state_after-push c state [] a = refl
state_after-push c state (b ∷ frames) a = state_after-push c (next_values c b) frames a

pub length-next_values : (c : Parts) (a : Assignment) → length (next_values c a) ≡ length c.latches
length-next_values c a = length-map (next_lits c.latches) (value_of a) ∙ length-map c.latches (λ (l : Latch). l.next)

pub length-state_after : (c : Parts) (state : List Bool) (frames : List Assignment) → length state ≡ length c.latches
    → length (state_after c state frames) ≡ length c.latches
length-state_after c state [] size = size
length-state_after c state (a ∷ frames) size = length-state_after c (next_values c a) frames (length-next_values c a)

-- ---- a start and rows have one path
pub one_path : (c : Parts) (state : List Bool) (frames others : List Assignment) → IsCircuit c → Path c state frames → Path c state others
    → map (input_values c) frames ≡ map (input_values c) others → frames ≡ others
one_path c state [] [] ok path other rows = refl
one_path c state [] (b ∷ others) ok path other rows = cc
one_path c state (a ∷ frames) [] ok path other rows = cc
one_path c state (a ∷ frames) (b ∷ others) ok path other rows =
    let row : input_values c a ≡ input_values c b = cc in
    let rest : map (input_values c) frames ≡ map (input_values c) others = cc in
    let step = path_head c state b others other in
    let same : a ≡ b =
    one_assignment_lem c state (input_values c a) a b ok (path_head c state a frames path) (record { fits = step.fits; state = step.state; row = sym row }) in
    let tail = rw (← same) at (path_tail c state b others other) in
    let more : frames ≡ others = one_path c (next_values c a) frames others ok (path_tail c state a frames path) tail rest in
    rw (same, more) refl
