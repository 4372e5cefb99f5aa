use Rattle.std.proofs.Common.{◌∙◌, ap, ℕ}
use Rattle.std.specs.Prelude.{nat_eq}
use Rattle.std.specs.Set.{is_member}
use Rattle.run_io.specs.Count.{next_count}
use Rattle.run_io.proofs.Finding.{listed}
use Rattle.run_io.proofs.numbered.NumberedCalls.next_fails.Goals as goal

pub returns-clause-fails : goal.returns-clause-fails
returns-clause-fails c =
    let numbers = c.self.inside.failing.keys in
    rw (← c.self.view_is) (listed numbers (next_count c.self.inside.made) c.contains.result (c.contains.ensures ∙ ap (λ (q : ℕ). is_member nat_eq numbers q) c.saturating_add-self-inside.ensures))
