use Rattle.std.proofs.Common.{◌≡◌, ◌≤◌, ◌+◌, ◌++◌, length, List, map, Some}
use Rattle.std.specs.Vec.{vec_capacity}
use Rattle.std.specs.Vec.Iter.{into_iter_items, into_iter_len}
use Rattle.goal_board.specs.declared.pass.Posted.{Posted}
use Rattle.goal_board.proofs.ordering.taken_apart.Given as goal

abbrev pub invariant-loop-place : goal.invariant-loop-place
invariant-loop-place l = record {
  long : into_iter_len l.place-iterator ≡ length (into_iter_items l.place-iterator);
  left : (rest : List Posted) × (into_iter_items l.place-iterator ≡ map (λ (p : Posted). Some p) rest);
  history : (rest : List Posted) → into_iter_items l.place-iterator ≡ map (λ (p : Posted). Some p) rest
      → (sorted : List Posted) → l.fn.places.items ≡ map (λ (p : Posted). Some p) sorted → l.history.items ++ map (λ (p : Posted). p.entry) rest ≡ map (λ (p : Posted). p.entry) sorted;
  evidence : (rest : List Posted) → into_iter_items l.place-iterator ≡ map (λ (p : Posted). Some p) rest
      → (sorted : List Posted) → l.fn.places.items ≡ map (λ (p : Posted). Some p) sorted → l.evidence.items ++ map (λ (p : Posted). p.evidence) rest ≡ map (λ (p : Posted). p.evidence) sorted;
  room : (length l.history.items + length (into_iter_items l.place-iterator) ≤ vec_capacity l.history) × (length l.evidence.items + length (into_iter_items l.place-iterator) ≤ vec_capacity l.evidence);
}
