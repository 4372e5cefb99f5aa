use Rattle.seed_pool.specs.Seats.{PoolSeatState, IsSeatOf}
use Rattle.board_rows.specs.declared.pool_rows.Ball.{Ball}
use Rattle.seed_pool.proofs.Ends.{all_popped}
use Rattle.board_rows.proofs.pool_rows.one_caller.Goals as goal

pub fills_and_drains-requires-clause-seat : goal.fills_and_drains-requires-clause-seat
fills_and_drains-requires-clause-seat c =
    (all_popped (λ (s : PoolSeatState Ball). IsSeatOf c.in_ok-pool.pool s) _ _ c.in-Some.seat c.in-Some.ensures.some c.in_ok-pool.ensures.seats.of_pool).1
