use Rattle.std.proofs.Common.{◌≡◌, ◌∷◌, ◌++◌, take}
use Rattle.std.specs.Prelude.{decimal}
use Rattle.std.specs.List.{flat_map}
use Rattle.report_text.proofs.text_writer.TextWriter.number_line.Given as goal

abbrev pub invariant-loop-n : goal.invariant-loop-n
invariant-loop-n l = l.self ≡ l.fn.self ++ (l.name ++ flat_map (λ n. 32 ∷ decimal n) (take l.n-index l.numbers))
