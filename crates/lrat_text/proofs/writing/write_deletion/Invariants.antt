use Rattle.std.proofs.Common.{◌≡◌, ◌++◌, codes, take}
use Rattle.std.specs.List.{flat_map}
use Rattle.lrat_text.specs.Text.{id_text}
use Rattle.lrat_text.proofs.writing.write_deletion.Given as goal

abbrev pub invariant-loop-id : goal.invariant-loop-id
invariant-loop-id l = l.text.items ≡ l.fn.text.items ++ (id_text l.at ++ codes "d " ++ flat_map id_text (take l.id-index l.id-items))
