use Rattle.std.proofs.Common.{◌≡◌, ℕ, List, Option, None, Some, ap, sym, ◌∙◌}
use Rattle.aig_model.specs.declared.parts.Parts.{Parts}
use Rattle.sim_walk.specs.Walk.{Lane}
use Rattle.sim_batch.specs.Seeds.{SeedState}
use Rattle.sim_batch.specs.SeedOf.{IsBatchSeed}
use Rattle.walk_rows.proofs.batch_rows.a_batch_from_a_seed.Goals as goal

belongs : (c : Parts) (sig : List ℕ) (from : Option SeedState) (lanes : List Lane) (steps : ℕ) (found : Option SeedState) (seed : SeedState) → found ≡ Some seed
    → IsBatchSeed c sig from lanes steps found → seed.circuit ≡ c
belongs c sig from lanes steps None seed e is_seed = absurd cc
belongs c sig from lanes steps (Some own) seed e is_seed =
    let same : own ≡ seed = cc in ap (λ (s : SeedState). s.circuit) (sym same) ∙ is_seed.seed_at.circuit

pub is_row-requires-clause-seed : goal.is_row-requires-clause-seed
is_row-requires-clause-seed g c = belongs _ _ _ _ _ _ c.expect-seed.result c.expect-seed.ensures c.in_ok-end.ensures.is_seed
