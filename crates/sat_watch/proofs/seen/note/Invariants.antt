use Rattle.std.proofs.Common.{◌≡◌, ◌++◌, take, drop}
use Rattle.sat_watch.specs.Book.{marks}
use Rattle.sat_watch.proofs.seen.note.Given as goal

-- the marks so far are written
abbrev pub invariant-loop-place : goal.invariant-loop-place
invariant-loop-place l = take l.place l.seen ≡ take l.from l.initial.seen ++ drop l.from (take l.place (marks l.trail.assignments))
