-- How the trail is kept: the literals in order, the value of each literal, and for each variable what put it there.
use Rattle.std.specs.Prelude.{◌≡◌, ℕ, ◌+◌, ◌*◌, ◌<◌, ◌≤◌, ℤ, nat_abs, Option, Some, None, List, length, map, take, slice_index, slice_index_or}
use Rattle.cnf_base.specs.Literal.{lit_index}
use Rattle.sat_trail.specs.declared.clause_id.ClauseId.{ClauseId}
use Rattle.sat_trail.specs.declared.clause_id.ClauseId.TheVariants as ids
use Rattle.sat_trail.specs.declared.truth.Value.{Value}
use Rattle.sat_trail.specs.declared.truth.Value.TheVariants.{Unset}
use Rattle.sat_trail.specs.declared.cause.Kind.{Kind}
use Rattle.sat_trail.specs.declared.cause.Kind.TheVariants.{Decision, FromBook, FromUnit}
use Rattle.sat_trail.specs.declared.cause.Cause.{Cause}
use Rattle.sat_trail.specs.Trail.{Assignment, TrailState, lits, upto, value_in, IsTrail}

abbrev pub reason_by : Kind → ℕ → Option ClauseId
reason_by Decision number = None
reason_by FromBook number = Some (ids.Book number)
reason_by FromUnit number = Some (ids.Unit number)

abbrev pub reason_of_cause : Cause → Option ClauseId
reason_of_cause cause = reason_by cause.kind cause.number

-- what stands where no variable does
abbrev pub no_cause : Cause
no_cause = record { number = 0; level = 0; kind = Decision }

abbrev pub assignment_with : Cause → ℤ → Assignment
assignment_with cause l = record { lit = l; level = cause.level; reason = reason_of_cause cause }

abbrev pub assignment_from : List Cause → ℤ → Assignment
assignment_from causes l = assignment_with (slice_index_or causes (nat_abs l) no_cause) l

abbrev pub state_of : ℕ → ℕ → ℕ → ℕ → List Cause → List ℤ → TrailState
state_of vars count level low causes all_lits = record { vars = vars; assignments = map (assignment_from causes) (take count all_lits); level = level; low = low }

-- the value that is kept for a literal
abbrev pub kept_value : List Value → ℤ → Value
kept_value values l = slice_index_or values (lit_index l) Unset

-- each literal's value is the one that it has where these literals are true
abbrev pub AreValues : ℕ → List ℤ → List Value → Type 0
AreValues vars true_lits values = (l : ℤ) → nat_abs l ≤ vars → kept_value values l ≡ value_in true_lits l

pub record IsKept (t : TrailState) (count : ℕ) (all_lits : List ℤ) (values : List Value) (causes : List Cause) (ends : List ℕ) : Type 0 where
  pub lits_room : length all_lits ≡ t.vars
  pub values_room : length values ≡ 2 * t.vars + 2
  pub causes_room : length causes ≡ t.vars + 1
  pub ends_room : length ends ≡ t.vars
  pub number : count ≤ t.vars
  pub values_agree : AreValues t.vars (lits t.assignments) values
  -- each level below the present one ends there
  pub ends_agree : (k : ℕ) → k < t.level → slice_index ends k ≡ length (upto k t.assignments)
  pub trail : IsTrail t
