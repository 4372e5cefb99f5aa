use Rattle.cnf_base.specs.Meaning.{IsWithin}
use Rattle.sat_incremental.specs.Searching.{IsQuery, Continues, left}
use Rattle.sat_incremental.proofs.step.take_steps.Given as goal

abbrev pub invariant-steps : goal.invariant-steps
invariant-steps l = record {
  query : IsQuery l.assumptions l.lemmas l.search;
  in_range : IsWithin l.search.vars l.assumptions;
  continues : Continues l.initial.search l.search;
}

abbrev pub decreases-steps : goal.decreases-steps
decreases-steps l = left l.lemmas l.search
