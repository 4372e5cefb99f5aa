use Rattle.std.proofs.Common.{ℕ, length, replicate, ap, ◌∙◌}
use Rattle.std.proofs.lemmas.List.{length-replicate}
use Rattle.sim_lanes.proofs.WordBits.{bit-every}
use Rattle.sim_lanes.proofs.start.first_lanes.Goals as goal

pub returns : goal.returns
returns c = record {
  state = c.in_ok-state.ensures;
  live = λ j low. bit-every j low;
  before = ap length (c.in_ok-before.ensures.items_if_clones_equal (λ y e. e)) ∙ (length-replicate c.len.result 0 ∙ (c.len.ensures ∙ ap length c.latches.ensures));
  died = ap length (c.in_ok-died.ensures.items_if_clones_equal (λ y e. e)) ∙ length-replicate {A = ℕ} 64 0;
  seen = c.in_ok-seen.ensures.items_if_clones_equal (λ y e. e) ∙ ap (λ n. replicate n 0) c.goals.ensures;
}
