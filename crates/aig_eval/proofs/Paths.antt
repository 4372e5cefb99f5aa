-- A start and rows of inputs have a path.
use Rattle.std.proofs.Common.{◌≡◌, Bool, List, [], ◌∷◌, map, length, refl, All}
use Rattle.std.proofs.lemmas.List.Elements.{All-head, All-tail}
use Rattle.aig_model.specs.WellFormed.{IsCircuit}
use Rattle.aig_model.specs.Meaning.{Assignment, Path, input_values, next_values}
use Rattle.aig_model.specs.declared.parts.Parts.{Parts}
use Rattle.aig_model.proofs.Paths.{path_none, path_cons, length-next_values}
use Rattle.aig_eval.proofs.Filling as filling

pub some_path : (c : Parts) (state : List Bool) (rows : List (List Bool)) → IsCircuit c → length state ≡ length c.latches
    → All (λ row. length row ≡ length c.inputs) rows → (frames : List Assignment) × Path c state frames × (map (input_values c) frames ≡ rows)
some_path c state [] ok size wide = ([], path_none c state, refl)
some_path c state (row ∷ rows) ok size wide =
    let here = filling.some_step c state row ok size (All-head (λ r. length r ≡ length c.inputs) row rows wide) in
    let rest =
    some_path c (next_values c here.0) rows ok (length-next_values c here.0) (All-tail (λ r. length r ≡ length c.inputs) row rows wide) in (
      here.0 ∷ rest.0,
      path_cons c state here.0 rest.0 here.1.fits here.1.state rest.1,
      rw (here.1.row, rest.2) refl,
    )
