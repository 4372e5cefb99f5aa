-- The numbers that callers drew.
use Rattle.std.specs.Prelude.{ℕ, List, cond, ◌==◌, nat_lt}
use Rattle.job_desk.specs.Lists.{total}

-- a number, and the caller that drew it
pub record Draw : Type 0 where
  pub caller : ℕ
  pub number : ℕ

abbrev pub draw : ℕ → ℕ → Draw
draw caller number = record { caller = caller; number = number }

-- how often the number x was drawn
abbrev pub draws_of : ℕ → List Draw → ℕ
draws_of x draws = total (λ (d : Draw). cond (d.number == x) 1 0) draws

-- how many numbers a caller drew
abbrev pub draws_by : ℕ → List Draw → ℕ
draws_by caller draws = total (λ (d : Draw). cond (d.caller == caller) 1 0) draws

-- how many of them are at or above `jobs`
abbrev pub late_by : ℕ → ℕ → List Draw → ℕ
late_by jobs caller draws = total (λ (d : Draw). cond (nat_lt d.number jobs) 0 (cond (d.caller == caller) 1 0)) draws
