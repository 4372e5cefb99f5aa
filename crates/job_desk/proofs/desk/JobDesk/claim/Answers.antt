use Rattle.std.proofs.Common.{arith, ap, sym, ◌∙◌}
use Rattle.job_desk.proofs.Steps.{draws}
use Rattle.job_desk.specs.Seats.{JobDeskState, JobSeatState}
use Rattle.job_desk.proofs.desk.JobDesk.claim.Goals as goal

pub fetch_add-number-requires : goal.fetch_add-number-requires
fetch_add-number-requires c =
    let early = ap (λ (s : JobSeatState). s.over) c.seat.view_is ∙ c.requires.early in
    let table = ap (λ (d : JobDeskState). d.table) (ap (λ (s : JobSeatState). s.desk) c.seat.view_is ∙ c.requires.of_desk ∙ sym c.self.view_is) in
    (table, omega (arith, c.self.invariant.words), draws c.self.inside.table.shared.key _ _ c.seat.inside.seat.me (omega (arith, c.seat.invariant.parts)) (c.seat.invariant.spare early) early)
