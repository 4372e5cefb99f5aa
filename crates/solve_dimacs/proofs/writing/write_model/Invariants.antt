use Rattle.std.proofs.Common.{◌≡◌, ◌++◌, codes}
use Rattle.solve_dimacs.specs.Written.{values_text}
use Rattle.solve_dimacs.proofs.writing.write_model.Given as goal

abbrev pub invariant-loop-place : goal.invariant-loop-place
invariant-loop-place l = l.text.items ≡ codes "s SATISFIABLE\n" ++ values_text l.values l.place
