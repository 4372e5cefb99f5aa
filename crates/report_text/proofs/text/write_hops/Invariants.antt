use Rattle.std.proofs.Common.{◌≡◌, ◌++◌, ◌∷◌, take}
use Rattle.std.specs.List.{flat_map}
use Rattle.report_text.specs.Text.{hop_text}
use Rattle.report_text.proofs.text.write_hops.Given as goal

abbrev pub invariant-loop-hop : goal.invariant-loop-hop
invariant-loop-hop l = l.out ≡ l.fn.out ++ flat_map (λ h. 32 ∷ hop_text h) (take l.hop-index l.hops)
