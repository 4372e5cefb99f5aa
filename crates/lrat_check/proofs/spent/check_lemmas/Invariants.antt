use Rattle.std.proofs.Common.{◌≡◌, take, drop}
use Rattle.lrat_check.specs.ClauseKeys.{AreTaken}
use Rattle.lrat_check.specs.SpentFault.{spent_from}
use Rattle.lrat_text.specs.Standing.{start}
use Rattle.lrat_check.proofs.TakenLemmas.{earlier_after}
use Rattle.lrat_check.proofs.spent.check_lemmas.Given as goal

-- the steps that are left have the first fault of all, and the keys of the clauses so far are taken
abbrev pub invariant-loop-place : goal.invariant-loop-place
invariant-loop-place l =
    let earlier = earlier_after l.formula.clauses (take l.place l.steps) in
    record {
      rest : spent_from l.place l.checker earlier (drop l.place l.steps) ≡ spent_from 0 (start l.formula) l.formula.clauses l.steps;
      taken : AreTaken l.asked l.taken earlier;
    }
